-- The form of a well-formed state is well formed.
use Rattle.std.specs.Prelude.{◌≡◌, ℕ, List, map, length}
use Rattle.std.proofs.Common.{◌∙◌, arith}
use Rattle.std.proofs.lemmas.List.{length-map}
use Rattle.std.proofs.lemmas.List.Elements.{All-weaker}
use Rattle.std.specs.Option.{IsSomeAnd}
use Rattle.std.specs.declared.option.Option.{Option}
use Rattle.std.specs.declared.option.Option.TheVariants.{None, Some}
use Rattle.shape_data.specs.declared.program.StructDef.{StructDef}
use Rattle.shape_data.specs.declared.symbolic.Atom.{Atom}
use Rattle.shape_data.specs.declared.symbolic.Atom.TheVariants.{Points, Seg, Junk}
use Rattle.shape_data.specs.declared.symbolic.Exp.{Exp}
use Rattle.shape_data.specs.declared.symbolic.Fact.{Fact}
use Rattle.shape_data.specs.declared.symbolic.Fact.TheVariants.{Eq, Ne}
use Rattle.shape_data.specs.Heap.{struct_named}
use Rattle.shape_data.specs.WellFormed.{Limits, IsExp, IsFact, IsAtom}
use Rattle.sym_parts.specs.Laws.Each.{EachInAtom, EachInFact}
use Rattle.sym_parts.specs.Laws.Mapped.{on_atom}
use Rattle.sym_parts.proofs.LawsLemmas.EachLemmas.{each-on_exps}
use Rattle.sym_pure.specs.Laws.{FormIsWellFormed}
use Rattle.sym_pure.proofs.EachLaws.{normal-each}
use Rattle.sym_pure.proofs.PartsLaws.{form_has_no_more_parts}

module _ (limits : Limits) (structs : List StructDef) (params : ℕ) where
  -- a well-formed fact has well-formed expressions
  pub to_each : (fact : Fact) → IsFact limits params fact → EachInFact (IsExp limits params) fact
  to_each (Eq left right) h = h
  to_each (Ne left right) h = h

  -- and a fact of well-formed expressions is well formed
  pub from_each : (fact : Fact) → EachInFact (IsExp limits params) fact → IsFact limits params fact
  from_each (Eq left right) h = h
  from_each (Ne left right) h = h

  -- a well-formed atom has well-formed expressions
  pub atom_each : (atom : Atom) → IsAtom limits structs params atom → EachInAtom (IsExp limits params) atom
  atom_each (Points at kind fields) h = (h.0, h.2)
  atom_each (Seg kind link from to) h = (h.1, h.2)
  atom_each Junk h = tt

  as_many : (f : Exp → Exp) (fields : List Exp) (def : Option StructDef) → IsSomeAnd def (λ d. length fields ≡ length d.fields)
      → IsSomeAnd def (λ d. length (map f fields) ≡ length d.fields)
  as_many f fields None h = h
  as_many f fields (Some def) h = length-map fields f ∙ h

  atom_maps : (f : Exp → Exp) → ((e : Exp) → IsExp limits params e → IsExp limits params (f e)) → (atom : Atom)
      → IsAtom limits structs params atom → IsAtom limits structs params (on_atom f atom)
  atom_maps f gives (Points at kind fields) h = (
    gives at h.0,
    as_many f fields (struct_named structs kind) h.1,
    each-on_exps (IsExp limits params)
        (IsExp limits params) f gives fields h.2,
  )
  atom_maps f gives (Seg kind link from to) h = (h.0, gives from h.1, gives to h.2)
  atom_maps f gives Junk h = tt

pub form_is_well_formed : FormIsWellFormed
form_is_well_formed limits structs params slots state form is h =
    let few = form_has_no_more_parts state form is in
    let all =
    normal-each (IsExp limits params) (IsAtom limits structs params) (atom_each limits structs params)
    (atom_maps limits structs params) tt state form is (
      h.locals,
      All-weaker (IsFact limits params) (EachInFact (IsExp limits params))
          (to_each limits structs params) state.heap.pure h.heap.facts,
      h.heap.atoms,
    ) in
    record {
      one_each = few.locals ∙ h.one_each;
      locals = all.0;
      heap = record {
        parts = omega (arith, few.parts, h.heap.parts);
        facts = All-weaker (EachInFact (IsExp limits params)) (IsFact limits params) (from_each limits structs params) form.heap.pure all.1;
        atoms = all.2;
      };
    }
