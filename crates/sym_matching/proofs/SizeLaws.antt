-- What is well formed is within the sizes.
use Rattle.std.specs.Prelude.{◌≡◌, ℕ, ◌≤◌, Bool, true, false, List, [], ◌∷◌, length, All}
use Rattle.std.specs.Option.{IsSomeAnd}
use Rattle.std.specs.Str.{bytes_eq}
use Rattle.std.specs.declared.option.Option.{Option}
use Rattle.std.specs.declared.option.Option.TheVariants.{None, Some}
use Rattle.std.proofs.Common.{refl, arith}
use Rattle.std.proofs.lemmas.Bool.{ltb-true}
use Rattle.std.proofs.lemmas.List.Elements.{All-head, All-tail, All-weaker}
use Rattle.shape_data.specs.declared.program.StructDef.{StructDef}
use Rattle.shape_data.specs.declared.symbolic.Atom.{Atom}
use Rattle.shape_data.specs.declared.symbolic.Atom.TheVariants.{Points, Seg, Junk}
use Rattle.shape_data.specs.declared.symbolic.Exp.{Exp}
use Rattle.shape_data.specs.declared.symbolic.Exp.TheVariants.{Var, Const}
use Rattle.shape_data.specs.declared.symbolic.Fact.{Fact}
use Rattle.shape_data.specs.declared.symbolic.Fact.TheVariants.{Eq, Ne}
use Rattle.shape_data.specs.Heap.{struct_named}
use Rattle.shape_data.specs.Structures.{ContainsStructures}
use Rattle.shape_data.specs.WellFormed.{IsAtom, IsExp, IsFact, IsStruct, Limits, widest}
use Rattle.sym_parts.specs.Laws.Each.{EachInAtom, EachInFact}
use Rattle.sym_matching.specs.Laws.{FitsAtom, FittingCarries, WellFormedFits}
use Rattle.sym_matching.specs.Rooms.{fields_of, IsSmall, WellFormedIsWithinSizes}

pub small : (params : ℕ) (e : Exp) → IsExp widest params e → IsSmall e
small params (Var x) h = ltb-true x 2147483648 h
small params (Const n) h = tt

small_fact : (params : ℕ) (fact : Fact) → IsFact widest params fact → EachInFact IsSmall fact
small_fact params (Eq left right) h = (small params left h.0, small params right h.1)
small_fact params (Ne left right) h = (small params left h.0, small params right h.1)

small_atom : (structs : List StructDef) (params : ℕ) (atom : Atom) → IsAtom widest structs params atom → EachInAtom IsSmall atom
small_atom structs params (Points at kind fields) h =
    (small params at h.0, All-weaker (IsExp widest params) IsSmall (small params) fields h.2)
small_atom structs params (Seg kind link from to) h = (small params from h.1, small params to h.2)
small_atom structs params Junk h = tt

-- a cell has no more fields than a structure may have
few_of : (structs : List StructDef) (kind : List ℕ) (count : ℕ) → All IsStruct structs
    → IsSomeAnd (struct_named structs kind) (λ def. count ≡ length def.fields) → count ≤ 32768
few_of [] kind count each h = absurd h
few_of (def ∷ structs) kind count each h =
    by_test (bytes_eq def.name kind) refl (few_of structs kind count (All-tail IsStruct def structs each))
  where
    by_test : (b : Bool) → bytes_eq def.name kind ≡ b
        → (IsSomeAnd (struct_named structs kind) (λ d. count ≡ length d.fields) → count ≤ 32768) → count ≤ 32768
    by_test true e later =
        let here : count ≡ length def.fields = rw e at h in
        let few : length def.fields ≤ 32768 = (All-head IsStruct def structs each).fields in
        omega arith
    by_test false e later = later (rw e at h)

few_fields_of : (structs : List StructDef) (params : ℕ) → All IsStruct structs → (atom : Atom) → IsAtom widest structs params atom
    → fields_of atom ≤ 32768
few_fields_of structs params each (Points at kind fields) h = few_of structs kind (length fields) each h.1
few_fields_of structs params each (Seg kind link from to) h = omega arith
few_fields_of structs params each Junk h = omega arith

pub well_formed_is_within_sizes : WellFormedIsWithinSizes
well_formed_is_within_sizes structs params heap are is = record {
  variables = record {
    facts = All-weaker (IsFact widest params) (EachInFact IsSmall) (small_fact params) heap.pure is.facts;
    atoms = All-weaker (IsAtom widest structs params) (EachInAtom IsSmall) (small_atom structs params) heap.spatial is.atoms;
  };
  parts = is.parts;
  fields =
      All-weaker (IsAtom widest structs params) (λ atom. fields_of atom ≤ 32768)
      (few_fields_of structs params are.each) heap.spatial is.atoms;
}

fits : (limits : Limits) (structs : List StructDef) (params : ℕ) (atom : Atom) → IsAtom limits structs params atom → FitsAtom structs atom
fits limits structs params (Points at kind fields) h = h.1
fits limits structs params (Seg kind link from to) h = tt
fits limits structs params Junk h = tt

pub well_formed_fits : WellFormedFits
well_formed_fits limits structs params heap is =
    All-weaker (IsAtom limits structs params) (FitsAtom structs) (fits limits structs params) heap.spatial is.atoms

fits_larger : (larger smaller : List StructDef) → ContainsStructures larger smaller → (atom : Atom) → FitsAtom smaller atom
    → FitsAtom larger atom
fits_larger larger smaller contains (Points at kind fields) h = by_found (struct_named smaller kind) refl h
  where
    by_found : (found : Option StructDef) → struct_named smaller kind ≡ found → IsSomeAnd found (λ def. length fields ≡ length def.fields)
        → IsSomeAnd (struct_named larger kind) (λ def. length fields ≡ length def.fields)
    by_found None is some = absurd some
    by_found (Some def) is some = rw (contains kind def is) some
fits_larger larger smaller contains (Seg kind link from to) h = tt
fits_larger larger smaller contains Junk h = tt

pub fitting_carries : FittingCarries
fitting_carries larger smaller contains atoms all =
    All-weaker (FitsAtom smaller) (FitsAtom larger) (fits_larger larger smaller contains) atoms all
