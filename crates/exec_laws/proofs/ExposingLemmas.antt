-- Expose, in strict execution: whatever meets the state meets one of its cases, or there may be no cell.
use Rattle.std.specs.Prelude.{◌≡◌, ◌⊎◌, ℕ, zero, suc, ℤ, Bool, true, false, if◌then◌else◌, List, [], ◌∷◌, ◌++◌, length, map, position}
use Rattle.std.specs.Prelude.{slice_get}
use Rattle.std.specs.List.{list_any, remove}
use Rattle.std.specs.declared.option.Option.{Option}
use Rattle.std.specs.declared.option.Option.TheVariants.{None, Some}
use Rattle.std.proofs.Common.{refl, ◌∙◌, inl, inr}
use Rattle.shape_data.specs.declared.machine.Cell.{Cell}
use Rattle.shape_data.specs.declared.program.StructDef.{StructDef}
use Rattle.shape_data.specs.declared.symbolic.Atom.{Atom}
use Rattle.shape_data.specs.declared.symbolic.Atom.TheVariants.{Points, Seg, Junk}
use Rattle.shape_data.specs.declared.symbolic.Exp.{Exp}
use Rattle.shape_data.specs.declared.symbolic.Exp.TheVariants.{Var}
use Rattle.shape_data.specs.declared.symbolic.Fact.TheVariants.{Eq}
use Rattle.shape_data.specs.Heap.{struct_named}
use Rattle.shape_data.specs.Meaning.{value, HoldsAtoms}
use Rattle.shape_data.specs.Structures.{ContainsStructures}
use Rattle.sym_parts.specs.Shapes.Symbolic.{occurs_in_atom}
use Rattle.sym_parts.proofs.ShapesLemmas.Atoms.{HoldsAtoms-insert, HoldsAtoms-remove}
use Rattle.sym_parts.specs.Laws.Fresh.{AgreeButFor}
use Rattle.sym_parts.specs.Laws.Segments.{AreFieldNames}
use Rattle.sym_parts.proofs.LawsLemmas.SegmentLemmas.{segment_unfolds}
use Rattle.sym_canon.specs.declared.parts.Pair.{Pair}
use Rattle.sym_canon.specs.Placing.{is_cell_at, is_segment_from}
use Rattle.sym_pure.specs.Sources.{differs}
use Rattle.sym_pure.proofs.SourcesLaws.{differs_is_sound}
use Rattle.sym_matching.proofs.NewVariableLaws.{length-fresh_variables}
use Rattle.exec_laws.specs.declared.parts.Exposed.{Exposed}
use Rattle.exec_laws.specs.declared.parts.Exposed.TheVariants.{Shown}
use Rattle.exec_laws.specs.declared.parts.Mode.TheVariants.{Strict}
use Rattle.exec_laws.specs.declared.parts.Table.{Table}
use Rattle.exec_laws.specs.Exposing.{at_segment, cases_of_segment, empty_case, expose, expose_within, unfolded_case, unfolded_to}
use Rattle.exec_laws.specs.Exposing.{with_unfolded, without_segment}
use Rattle.exec_laws.specs.Meanings.{IsExposed, SomeOf}
use Rattle.exec_laws.specs.Pairs.{Setting, atoms_of, formed, in_slot, new_existentials, pair_variables, unless_left_out, with_state_fact}
use Rattle.exec_laws.proofs.Forms.{IsMet, fact-met, form-goes}
use Rattle.exec_laws.proofs.NewNames.{new_in_atoms, old_facts, old_values, still_logical}
use Rattle.sym_matching.proofs.RenamingLemmas.NumberLemmas.{fresh_different}
use Rattle.exec_laws.proofs.Places.{none_moved}
use Rattle.exec_laws.proofs.SomeOf.{some-left, some-right}

module _ (structs larger : List StructDef) (contains : ContainsStructures larger structs) (params : ℕ) (table : Table) where
  -- strict execution
  abbrev strict : Setting
  strict = record { mode = Strict; params = params; structs = structs; table = table }

  module _ (s : ℕ → ℤ) (locals : List ℤ) (heap : List Cell) where
    abbrev Met : Pair → Type 0
    Met = IsMet larger s locals heap

    abbrev Exposes : List Exposed → Type 0
    Exposes = SomeOf (IsExposed larger s locals heap)

    -- ---- a segment of the state

    module _ (pair : Pair) (meets : Met pair) (place : ℕ) (kind : List ℕ) (link : ℕ) (from to : Exp)
        (is : slice_get (atoms_of pair) place ≡ Some (Seg kind link from to)) where
      abbrev others : List Atom
      others = remove (atoms_of pair) place

      -- it is empty
      empty-met : value meets.0 from ≡ value meets.0 to → HoldsAtoms larger meets.0 others heap →
          Met (with_state_fact (Eq from to) (without_segment place pair))
      empty-met same holds =
          fact-met larger s locals heap (Eq from to) (without_segment place pair)
          (meets.0, meets.1, meets.2, record { facts = meets.3.facts; atoms = holds }) same

      -- or not, with new variables
      full-met : (count : ℕ) (next : ℕ) (u : ℕ → ℤ) → AgreeButFor (new_existentials count pair) meets.0 u →
          HoldsAtoms larger u (Points from kind (map Var (new_existentials count pair)) ∷ Seg kind link (Var next) to ∷ others) heap →
          Met (with_unfolded place kind link from to (new_existentials count pair) next pair)
      full-met count next u agree holds = (
        u,
        still_logical pair count meets.0 u agree s meets.1,
        meets.2 ∙ old_values pair count meets.0 u agree,
        record {
          facts = old_facts pair count meets.0 u agree meets.3.facts;
          atoms = HoldsAtoms-insert larger u _ place (Points from kind (map Var (new_existentials count pair)))
              (holds.0, holds.1, holds.2, holds.3, HoldsAtoms-insert larger u others place (Seg kind link (Var next) to) holds.4);
        },
      )

      module _ (again : Pair → List Exposed) (later : (form : Pair) → Met form → Exposes (again form)) where
        abbrev Both : Option StructDef → Type 0
        Both def = Exposes (empty_case again strict pair place from to ++ unfolded_case strict pair place kind link from to def)

        when_empty : (rest : List Exposed) → value meets.0 from ≡ value meets.0 to → HoldsAtoms larger meets.0 others heap →
            Exposes (empty_case again strict pair place from to ++ rest)
        when_empty rest same holds = by_test (differs pair.state.heap from to) refl
          where
            by_test : (b : Bool) → differs pair.state.heap from to ≡ b →
                Exposes ((if b then []
                else unless_left_out again (formed Strict params (with_state_fact (Eq from to) (without_segment place pair)))) ++ rest)
            by_test true known = absurd (differs_is_sound larger meets.0 heap pair.state.heap from to meets.3 known same)
            by_test false known =
                some-left (IsExposed larger s locals heap)
                (unless_left_out again (formed Strict params (with_state_fact (Eq from to) (without_segment place pair)))) _
                (form-goes larger s locals heap Exposes again params (with_state_fact (Eq from to) (without_segment place pair))
                (empty-met same holds) later)

        module _ (def : StructDef) (is_def : struct_named structs kind ≡ Some def) where
          fit : (next : ℕ) → slice_get (new_existentials (length def.fields) pair) link ≡ Some next →
              AreFieldNames larger kind link (Seg kind link from to ∷ others) (new_existentials (length def.fields) pair) next
          fit next is_next = record {
            def = def;
            listed = contains kind def is_def;
            one_each = length-fresh_variables (length def.fields) (pair_variables pair);
            next_is = is_next;
            different = fresh_different (length def.fields) (pair_variables pair);
            new =
                λ x h. none_moved (occurs_in_atom x) (atoms_of pair) place (Seg kind link from to) is
                (new_in_atoms pair (length def.fields) x h);
          }

          by_link : (next : Option ℕ) → slice_get (new_existentials (length def.fields) pair) link ≡ next →
              Exposes (empty_case again strict pair place from to
              ++ unfolded_to strict pair place kind link from to (new_existentials (length def.fields) pair) next)
          by_link None is_next = some-right (IsExposed larger s locals heap) (empty_case again strict pair place from to) _ (inl tt)
          by_link (Some next) is_next =
              by_case (segment_unfolds larger meets.0 kind link from to others (new_existentials (length def.fields) pair) next heap
              (fit next is_next) (HoldsAtoms-remove larger meets.0 (atoms_of pair) place (Seg kind link from to) is meets.3.atoms))
            where
              by_case : ((value meets.0 from ≡ value meets.0 to) × HoldsAtoms larger meets.0 others heap)
                  ⊎ ((u : ℕ → ℤ) × AgreeButFor (new_existentials (length def.fields) pair) meets.0 u
                  × HoldsAtoms larger u
                  (Points from kind (map Var (new_existentials (length def.fields) pair)) ∷ Seg kind link (Var next) to ∷ others) heap) →
                  Exposes (empty_case again strict pair place from to
                  ++ unfolded_to strict pair place kind link from to (new_existentials (length def.fields) pair) (Some next))
              by_case (inl empty) =
                  when_empty (unfolded_to strict pair place kind link from to (new_existentials (length def.fields) pair)
                  (Some next)) empty.0 empty.1
              by_case (inr unfolds) =
                  some-right (IsExposed larger s locals heap) (empty_case again strict pair place from to) _
                  (form-goes larger s locals heap Exposes (λ one. Shown one ∷ []) params
                  (with_unfolded place kind link from to (new_existentials (length def.fields) pair) next pair)
                  (full-met (length def.fields) next unfolds.0 unfolds.1 unfolds.2) (λ form met. inl met))

        by_def : (def : Option StructDef) → struct_named structs kind ≡ def → Both def
        by_def None is_def = some-right (IsExposed larger s locals heap) (empty_case again strict pair place from to) _ (inl tt)
        by_def (Some def) is_def = by_link def is_def (slice_get (new_existentials (length def.fields) pair) link) refl

    -- ---- all turns

    exposes : (turns : ℕ) (kind : List ℕ) (slot : ℕ) (pair : Pair) → Met pair → Exposes (expose_within turns strict kind slot pair)
    exposes zero kind slot pair meets = inl tt
    exposes (suc turns) kind slot pair meets = by_test (exposes turns kind slot) (list_any (is_cell_at (in_slot pair slot)) (atoms_of pair))
      where
        by_atom : ((form : Pair) → Met form → Exposes (expose_within turns strict kind slot form)) → (place : ℕ) (atom : Option Atom) →
            slice_get (atoms_of pair) place ≡ atom →
            Exposes (cases_of_segment (λ later. expose_within turns strict kind slot later) strict (in_slot pair slot) pair place atom)
        by_atom later place None is = inl tt
        by_atom later place (Some (Points at kind' fields)) is = inl tt
        by_atom later place (Some (Seg kind' link from to)) is =
            by_def pair meets place kind' link from to is (λ form. expose_within turns strict kind slot form) later
            (struct_named structs kind') refl
        by_atom later place (Some Junk) is = inl tt

        by_place : ((form : Pair) → Met form → Exposes (expose_within turns strict kind slot form)) → (place : Option ℕ) →
            Exposes (at_segment (λ later. expose_within turns strict kind slot later) strict kind (in_slot pair slot) pair place)
        by_place later None = inl tt
        by_place later (Some place) = by_atom later place (slice_get (atoms_of pair) place) refl

        by_test : ((form : Pair) → Met form → Exposes (expose_within turns strict kind slot form)) → (b : Bool) →
            Exposes (if b then Shown pair ∷ []
            else at_segment (λ later. expose_within turns strict kind slot later) strict kind (in_slot pair slot) pair
            (position (is_segment_from (in_slot pair slot)) (atoms_of pair)))
        by_test later true = inl meets
        by_test later false = by_place later (position (is_segment_from (in_slot pair slot)) (atoms_of pair))

    -- whatever meets the state meets a case of expose
    pub exposed-met : (kind : List ℕ) (slot : ℕ) (pair : Pair) → IsMet larger s locals heap pair →
        SomeOf (IsExposed larger s locals heap) (expose strict kind slot pair)
    exposed-met kind slot pair = exposes (length (atoms_of pair)) kind slot pair
