-- The normal form of a state: its four rules, one after the other.
use Rattle.std.specs.Prelude.{if◌then◌else◌, List, [], ◌∷◌, map, length}
use Rattle.std.specs.declared.option.Option.{Option}
use Rattle.std.specs.declared.option.Option.TheVariants.{None, Some}
use Rattle.shape_data.specs.declared.symbolic.Atom.{Atom}
use Rattle.shape_data.specs.declared.symbolic.Fact.{Fact}
use Rattle.shape_data.specs.declared.symbolic.Fact.TheVariants.{Eq, Ne}
use Rattle.shape_data.specs.declared.symbolic.SymState.{SymState}
use Rattle.sym_parts.specs.Laws.Addresses.{addresses}
use Rattle.sym_parts.specs.Laws.Mapped.{on_atom}
use Rattle.sym_pure.specs.declared.parts.Normal.{Normal}
use Rattle.sym_pure.specs.declared.parts.Normal.TheVariants.{Is, Contradiction}
use Rattle.sym_pure.specs.declared.parts.Settled.{Settled}
use Rattle.sym_pure.specs.declared.parts.Solved.{Solved}
use Rattle.sym_pure.specs.Contradictions.{has_clash}
use Rattle.sym_pure.specs.Emptying.{settle}
use Rattle.sym_pure.specs.Redundancy.{needed, one_junk}
use Rattle.sym_pure.specs.Solving.{read, solve, equations}

-- the disequalities, read through the solved equations
abbrev pub disequalities : List Solved → List Fact → List Fact
disequalities solved [] = []
disequalities solved (Eq left right ∷ facts) = disequalities solved facts
disequalities solved (Ne left right ∷ facts) = Ne (read solved left) (read solved right) ∷ disequalities solved facts

-- the form of what contradicts itself nowhere: the solved equations that stay, the disequalities that are needed, the
-- atoms with one Junk at most; facts and atoms are read
abbrev pub form_of : SymState → List Solved → List Fact → List Atom → SymState
form_of state solved facts atoms = record {
  locals = map (read solved) state.locals;
  heap = record { pure = needed (addresses atoms) facts (equations solved solved []); spatial = one_junk atoms };
}

-- with facts and atoms read
abbrev pub normal_of : SymState → List Solved → List Fact → List Atom → Normal
normal_of state solved facts atoms = if has_clash facts atoms then Contradiction else Is (form_of state solved facts atoms)

-- with empty segments gone
abbrev pub normal_settled : SymState → Option Settled → Normal
normal_settled state None = Contradiction
normal_settled state (Some settled) =
    normal_of state settled.solved (disequalities settled.solved state.heap.pure) (map (on_atom (read settled.solved)) settled.atoms)

-- with equations solved
abbrev pub normal_solved : SymState → Option (List Solved) → Normal
normal_solved state None = Contradiction
normal_solved state (Some solved) = normal_settled state (settle (length state.heap.spatial) solved state.heap.spatial)

-- the normal form of a state
abbrev pub normal : SymState → Normal
normal state = normal_solved state (solve state.heap.pure [])
