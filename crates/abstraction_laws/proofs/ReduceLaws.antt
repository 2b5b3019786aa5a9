-- The second to the fourth rule, repeated, weaken a heap under the same assignment.
use Rattle.std.specs.Prelude.{ℕ, zero, suc, ℤ, Bool, true, false, not, List, ◌++◌}
use Rattle.shape_data.specs.declared.machine.Cell.{Cell}
use Rattle.shape_data.specs.declared.program.StructDef.{StructDef}
use Rattle.shape_data.specs.declared.symbolic.Atom.{Atom}
use Rattle.shape_data.specs.declared.symbolic.Exp.{Exp}
use Rattle.shape_data.specs.declared.symbolic.SymHeap.{SymHeap}
use Rattle.shape_data.specs.Meaning.{Holds, HoldsAtoms}
use Rattle.abstraction_laws.specs.Laws.{ReduceWeakens}
use Rattle.abstraction_laws.specs.Losing.{is_disequality_of, is_lost_among}
use Rattle.abstraction_laws.specs.Occurrences.{exps_of_atoms}
use Rattle.abstraction_laws.specs.Reaching.{keep_reached}
use Rattle.abstraction_laws.specs.Repeating.{is_inner, join_inner, reduce_once, reduce_times, size_of}
use Rattle.abstraction_laws.proofs.JoinLaws.{joined-holds}
use Rattle.abstraction_laws.proofs.ReachLaws.{facts-fewer, reached-kept}

module _ (structs : List StructDef) (t : ℕ → ℤ) (joins : Bool) (locals : List Exp) (heap : List Cell) where
  inner-holds : (b : Bool) (atoms : List Atom) → HoldsAtoms structs t atoms heap → HoldsAtoms structs t (join_inner b locals atoms) heap
  inner-holds true atoms h = joined-holds structs t (is_inner locals) atoms heap h
  inner-holds false atoms h = h

  pub once-holds : (shape : SymHeap) → Holds structs t heap shape → Holds structs t heap (reduce_once joins locals shape)
  once-holds shape h =
      let atoms : List Atom = join_inner joins locals (keep_reached locals shape.spatial) in
      record {
        facts =
            facts-fewer t (λ fact. not (is_disequality_of (is_lost_among 65536 (locals ++ exps_of_atoms atoms)) fact)) shape.pure h.facts;
        atoms = inner-holds joins (keep_reached locals shape.spatial) (reached-kept structs t locals shape.spatial heap h.atoms);
      }

  pub times-hold : (turns : ℕ) (shape : SymHeap) → Holds structs t heap shape → Holds structs t heap (reduce_times turns joins locals shape)
  times-hold zero shape h = h
  times-hold (suc turns) shape h = times-hold turns (reduce_once joins locals shape) (once-holds shape h)

pub reduce_weakens : ReduceWeakens
reduce_weakens joins locals shape structs t heap h = times-hold structs t joins locals heap (size_of shape) shape h
