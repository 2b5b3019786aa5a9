-- The rows of commands on cells: the cases cover the command.
use Rattle.std.specs.Prelude.{◌≡◌, ◌≢◌, ◌⊎◌, ℕ, suc, ℤ, pos, Bool, true, false, if◌then◌else◌, List, [], ◌∷◌, ◌++◌, length, map, slice_get}
use Rattle.std.specs.Prelude.{slice_index_or, slice_set}
use Rattle.std.specs.List.{remove}
use Rattle.std.specs.Option.{IsSomeAnd}
use Rattle.std.specs.Str.{bytes_eq}
use Rattle.std.specs.declared.option.Option.{Option}
use Rattle.std.specs.declared.option.Option.TheVariants.{None, Some}
use Rattle.std.proofs.Common.{refl, sym, ap, ap₂, ◌∙◌, subst, inl, inr}
use Rattle.std.proofs.lemmas.List.{append-nil, map-set}
use Rattle.std.proofs.lemmas.Slice.Eq.{bytes_eq-Decides}
use Rattle.shape_data.specs.declared.answer.Callee.{Callee}
use Rattle.shape_data.specs.declared.answer.Fault.TheVariants as fault
use Rattle.shape_data.specs.declared.machine.Cell.{Cell}
use Rattle.shape_data.specs.declared.machine.Choice.{Choice}
use Rattle.shape_data.specs.declared.machine.Choice.TheVariants as choice
use Rattle.shape_data.specs.declared.machine.Stepped.{Stepped}
use Rattle.shape_data.specs.declared.machine.Stepped.TheVariants as stepped
use Rattle.shape_data.specs.declared.program.Cmd.{Cmd}
use Rattle.shape_data.specs.declared.program.Cmd.TheVariants as cmd
use Rattle.shape_data.specs.declared.program.Operand.{Operand}
use Rattle.shape_data.specs.declared.program.Operand.TheVariants.{Slot}
use Rattle.shape_data.specs.declared.program.Program.{Program}
use Rattle.shape_data.specs.declared.program.StructDef.{StructDef}
use Rattle.shape_data.specs.declared.symbolic.Atom.{Atom}
use Rattle.shape_data.specs.declared.symbolic.Atom.TheVariants.{Points, Seg, Junk}
use Rattle.shape_data.specs.declared.symbolic.Exp.{Exp}
use Rattle.shape_data.specs.declared.symbolic.Exp.TheVariants.{Var, Const}
use Rattle.shape_data.specs.declared.symbolic.Fact.TheVariants.{Eq, Ne}
use Rattle.shape_data.specs.Heap.{put, struct_named}
use Rattle.shape_data.specs.Machine.{can_be_new, go_with, new_step}
use Rattle.shape_data.specs.Meaning.{value, HoldsAtoms}
use Rattle.shape_data.specs.Structures.{ContainsStructures}
use Rattle.sym_parts.proofs.ShapesLemmas.Atoms.{HoldsAtoms-remove}
use Rattle.sym_parts.proofs.ShapesLemmas.FrameSteps.{new_cell_fits}
use Rattle.sym_parts.specs.Laws.Expressions.{same_exp}
use Rattle.sym_parts.specs.Laws.Fresh.{AgreeButFor}
use Rattle.sym_parts.proofs.LawsLemmas.ExpressionLemmas.{same_exp-equal}
use Rattle.sym_parts.proofs.LawsLemmas.FreshLemmas.{assign, assign-agrees, assign-names}
use Rattle.sym_parts.proofs.LawsLemmas.OrderLemmas.{same-middle}
use Rattle.sym_canon.specs.declared.parts.Pair.{Pair}
use Rattle.sym_canon.specs.Placing.{is_cell_at}
use Rattle.sym_pure.specs.Sources.{differs}
use Rattle.sym_pure.proofs.EmptyingLaws.{position-found}
use Rattle.sym_pure.proofs.SourcesLaws.{differs_is_sound}
use Rattle.sym_matching.specs.NewVariables.{fresh, fresh_variables}
use Rattle.sym_matching.proofs.NewVariableLaws.{length-fresh_variables}
use Rattle.sound_laws.specs.Commands.{alone, Lands}
use Rattle.exec_laws.specs.declared.parts.Case.{Case}
use Rattle.exec_laws.specs.declared.parts.Case.TheVariants.{On, Drops}
use Rattle.exec_laws.specs.declared.parts.Mode.TheVariants.{Strict}
use Rattle.exec_laws.specs.declared.parts.Table.{Table}
use Rattle.exec_laws.specs.Cells.{at_place, cell_place, for_each_case, free, free_cell, free_null, goes_on, load, load_cell, load_fields}
use Rattle.exec_laws.specs.Cells.{new as new_cases, new_struct, store, store_cell, store_fields, with_new, without_cell}
use Rattle.exec_laws.specs.Exposing.{expose}
use Rattle.exec_laws.specs.Meanings.{Cover, GoesOn, HasLeft, SomeOf}
use Rattle.exec_laws.specs.Pairs.{Setting, atoms_of, formed, in_slot, new_existentials, pair_variables, with_slot, with_state_fact}
use Rattle.exec_laws.specs.Values.{operand}
use Rattle.exec_laws.proofs.CellSteps.{frees, loads, makes, stores}
use Rattle.exec_laws.proofs.Covering.{cover-each, cover-left, cover-right}
use Rattle.exec_laws.proofs.ExposingLemmas.{exposed-met}
use Rattle.exec_laws.proofs.Forms.{IsMet, fact-met, form-goes}
use Rattle.exec_laws.proofs.NewNames.{old_atoms, old_facts, old_values, still_logical}
use Rattle.sym_matching.proofs.RenamingLemmas.NumberLemmas.{fresh_different}
use Rattle.exec_laws.proofs.Places.{HoldsAtoms-set}
use Rattle.exec_laws.proofs.ValueRows.{int_tells, operand-met, slot-met}

-- a step that is known lands where its outcome does
lands_there : (At : ℕ → List ℤ → List Cell → Type 0) (Ends : ℤ → List Cell → Type 0) (number : ℕ) (one other : Stepped) → one ≡ other →
    Lands At Ends number other → Lands At Ends number one
lands_there At Ends number one other is lands = subst (λ to. Lands At Ends number to) (sym is) lands

fits_def : (structs : List StructDef) (kind : List ℕ) (def : StructDef) (count : ℕ) → struct_named structs kind ≡ Some def →
    IsSomeAnd (struct_named structs kind) (λ one. count ≡ length one.fields) → count ≡ length def.fields
fits_def structs kind def count is fits = rw is at fits

module _ (program : Program) (callees : List Callee) (s : ℕ → ℤ) (locals : List ℤ) (heap : List Cell) (params : ℕ)
    (structs : List StructDef) (table : Table) (contains : ContainsStructures program.structs structs) where
  abbrev strict : Setting
  strict = record { mode = Strict; params = params; structs = structs; table = table }

  abbrev Met : Pair → Type 0
  Met = IsMet program.structs s locals heap

  abbrev Covers : Cmd → List Case → Type 0
  Covers command cases = Cover program callees s locals heap command cases

  module _ (pair : Pair) (meets : Met pair) where
    -- with the cell at what a slot holds
    at-cell : (command : Cmd) (use_atom : Pair → ℕ → Option Atom → Case) (slot : ℕ) →
        ((place : ℕ) (at : Exp) (kind : List ℕ) (fields : List Exp) → slice_get (atoms_of pair) place ≡ Some (Points at kind fields) →
        in_slot pair slot ≡ at →
        Covers command (use_atom pair place (Some (Points at kind fields)) ∷ [])) →
        Covers command (at_place (use_atom pair) slot pair (cell_place slot pair) ∷ [])
    at-cell command use_atom slot one = by_place (cell_place slot pair) refl
      where
        by_atom : (place : ℕ) (atom : Atom) → slice_get (atoms_of pair) place ≡ Some atom → is_cell_at (in_slot pair slot) atom ≡ true →
            Covers command (use_atom pair place (Some atom) ∷ [])
        by_atom place (Points at kind fields) got is = one place at kind fields got (same_exp-equal (in_slot pair slot) at is)
        by_atom place (Seg kind link from to) got is = cc
        by_atom place Junk got is = cc

        by_place : (place : Option ℕ) → cell_place slot pair ≡ place → Covers command (at_place (use_atom pair) slot pair place ∷ [])
        by_place None is = inl (inl tt)
        by_place (Some place) is =
            let found = position-found (is_cell_at (in_slot pair slot)) (atoms_of pair) place is in
            subst (λ o. Covers command (use_atom pair place o ∷ [])) (sym found.1) (by_atom place found.0 found.1 found.2)

    -- the base has the value of the cell's address
    base-is : (base : ℕ) (at : Exp) → in_slot pair base ≡ at → slice_index_or locals base (pos 0) ≡ value meets.0 at
    base-is base at is = operand-met program.structs s locals heap pair meets (Slot base) ∙ ap (value meets.0) is

    module _ (place : ℕ) (at : Exp) (kind : List ℕ) (fields : List Exp)
        (got : slice_get (atoms_of pair) place ≡ Some (Points at kind fields)) where
      in_front : HoldsAtoms program.structs meets.0 (Points at kind fields ∷ remove (atoms_of pair) place) heap
      in_front = HoldsAtoms-remove program.structs meets.0 (atoms_of pair) place (Points at kind fields) got meets.3.atoms

      load-one : (to base field next : ℕ) → in_slot pair base ≡ at →
          Covers (cmd.Load to base kind field next) (load_fields to field next pair at fields ∷ [])
      load-one to base field next is =
          inr (λ number node line choice.
          lands_there (λ next' locals' heap'. SomeOf (GoesOn program.structs s next' locals' heap')
          (load_fields to field next pair at fields ∷ []))
          (λ value heap'. SomeOf (HasLeft program.structs s value heap') (load_fields to field next pair at fields ∷ [])) number _ _
          (loads program meets.0 at kind fields (remove (atoms_of pair) place) number node locals heap choice line to base field next
          (base-is base at is) in_front) (
            next,
            slice_set locals to (value meets.0 (slice_index_or fields field (Const (pos 0)))),
            refl,
            inl (
              refl,
              slot-met program.structs s locals heap pair meets to (slice_index_or fields field (Const (pos 0)))
                  (value meets.0 (slice_index_or fields field (Const (pos 0)))) refl,
            ),
          ))

      store-one : (base field : ℕ) (from : Operand) (next : ℕ) → in_slot pair base ≡ at →
          Covers (cmd.Store base kind field from next) (store_fields kind field from next pair place at fields ∷ [])
      store-one base field from next is =
          inr (λ number node line choice.
          let stored =
          stores program meets.0 at kind fields (remove (atoms_of pair) place) number node locals heap choice line base field from
          (operand pair from) next
          (base-is base at is) (operand-met program.structs s locals heap pair meets from) in_front in
          lands_there (λ next' locals' heap'. SomeOf (GoesOn program.structs s next' locals' heap')
          (store_fields kind field from next pair place at fields ∷ []))
          (λ value heap'. SomeOf (HasLeft program.structs s value heap')
          (store_fields kind field from next pair place at fields ∷ [])) number _ _
          stored.1 (
            next,
            locals,
            refl,
            inl (
              refl,
              (
                meets.0,
                meets.1,
                meets.2,
                record {
                  facts = meets.3.facts;
                  atoms =
                      HoldsAtoms-set program.structs meets.0 (atoms_of pair) place (Points at kind fields)
                      (Points at kind (slice_set fields field (operand pair from))) got stored.2;
                },
              ),
            ),
          ))

      free-one : (base : ℕ) (asked : List ℕ) (next : ℕ) → in_slot pair base ≡ at →
          Covers (cmd.Free base asked next) (without_cell next pair place (Some (Points at kind fields)) ∷ [])
      free-one base asked next is =
          inr (λ number node line choice.
          let freed =
          frees program meets.0 at kind fields (remove (atoms_of pair) place) number node locals heap choice line base asked next
          (base-is base at is) in_front in
          lands_there (λ next' locals' heap'. SomeOf (GoesOn program.structs s next' locals' heap')
          (without_cell next pair place (Some (Points at kind fields)) ∷ []))
          (λ value heap'. SomeOf (HasLeft program.structs s value heap')
          (without_cell next pair place (Some (Points at kind fields)) ∷ [])) number _ _
          freed.1
          (next, locals, refl, inl (refl, (meets.0, meets.1, meets.2, record { facts = meets.3.facts; atoms = freed.2 }))))

    -- one case of a load, of a store, of a free
    load-case : (to base : ℕ) (kind : List ℕ) (field next : ℕ) →
        Covers (cmd.Load to base kind field next) (at_place (load_cell to base kind field next pair) base pair (cell_place base pair) ∷ [])
    load-case to base kind field next =
        at-cell (cmd.Load to base kind field next) (load_cell to base kind field next) base
        (λ place at kind' fields got is. by_kind place at kind' fields got is (bytes_eq kind' kind) refl)
      where
        by_kind : (place : ℕ) (at : Exp) (kind' : List ℕ) (fields : List Exp) →
            slice_get (atoms_of pair) place ≡ Some (Points at kind' fields) → in_slot pair base ≡ at → (b : Bool) →
            bytes_eq kind' kind ≡ b →
            Covers (cmd.Load to base kind field next) ((if b then load_fields to field next pair at fields else Drops fault.Kind) ∷ [])
        by_kind place at kind' fields got is true same =
            let one : kind' ≡ kind = (bytes_eq-Decides kind' kind).0 same in
            subst (λ k. Covers (cmd.Load to base k field next) (load_fields to field next pair at fields ∷ [])) one
            (load-one place at kind' fields got to base field next is)
        by_kind place at kind' fields got is false other = inl (inl tt)

    store-case : (base : ℕ) (kind : List ℕ) (field : ℕ) (from : Operand) (next : ℕ) →
        Covers (cmd.Store base kind field from next)
        (at_place (store_cell base kind field from next pair) base pair (cell_place base pair) ∷ [])
    store-case base kind field from next =
        at-cell (cmd.Store base kind field from next) (store_cell base kind field from next) base
        (λ place at kind' fields got is. by_kind place at kind' fields got is (bytes_eq kind' kind) refl)
      where
        by_kind : (place : ℕ) (at : Exp) (kind' : List ℕ) (fields : List Exp) →
            slice_get (atoms_of pair) place ≡ Some (Points at kind' fields) → in_slot pair base ≡ at → (b : Bool) →
            bytes_eq kind' kind ≡ b →
            Covers (cmd.Store base kind field from next)
            ((if b then store_fields kind field from next pair place at fields else Drops fault.Kind) ∷ [])
        by_kind place at kind' fields got is true same =
            let one : kind' ≡ kind = (bytes_eq-Decides kind' kind).0 same in
            subst (λ k. Covers (cmd.Store base k field from next) (store_fields k field from next pair place at fields ∷ [])) one
            (store-one place at kind' fields got base field from next is)
        by_kind place at kind' fields got is false other = inl (inl tt)

    free-case : (base : ℕ) (asked : List ℕ) (next : ℕ) →
        Covers (cmd.Free base asked next) (at_place (without_cell next pair) base pair (cell_place base pair) ∷ [])
    free-case base asked next =
        at-cell (cmd.Free base asked next) (without_cell next) base
        (λ place at kind fields got is. free-one place at kind fields got base asked next is)

  module _ (pair : Pair) (meets : Met pair) where
    -- ---- load, store

    pub load-row : (to base : ℕ) (kind : List ℕ) (field next : ℕ) →
        Covers (cmd.Load to base kind field next) (load strict to base kind field next pair)
    load-row to base kind field next =
        cover-each program callees s locals heap (cmd.Load to base kind field next) (load_cell to base kind field next) base
        (λ one met. load-case one met to base kind field next) (expose strict kind base pair)
        (exposed-met structs program.structs contains params table s locals heap kind base pair meets)

    pub store-row : (base : ℕ) (kind : List ℕ) (field : ℕ) (from : Operand) (next : ℕ) →
        Covers (cmd.Store base kind field from next) (store strict base kind field from next pair)
    store-row base kind field from next =
        cover-each program callees s locals heap (cmd.Store base kind field from next) (store_cell base kind field from next) base
        (λ one met. store-case one met base kind field from next) (expose strict kind base pair)
        (exposed-met structs program.structs contains params table s locals heap kind base pair meets)

    -- ---- free

    -- nothing comes of the null pointer
    null-goes : (base : ℕ) (kind : List ℕ) (next : ℕ) → slice_index_or locals base (pos 0) ≡ pos 0 → (cases : List Case) →
        SomeOf (GoesOn program.structs s next locals heap) cases → Covers (cmd.Free base kind next) cases
    null-goes base kind next zero cases goes = inr (λ number node line choice. rw zero (next, locals, refl, goes))

    free-null : (base : ℕ) (kind : List ℕ) (next : ℕ) → slice_index_or locals base (pos 0) ≡ pos 0 →
        Covers (cmd.Free base kind next) (free_null strict (in_slot pair base) next pair)
    free-null base kind next zero = by_test (differs pair.state.heap (in_slot pair base) (Const (pos 0))) refl
      where
        is_zero : value meets.0 (in_slot pair base) ≡ pos 0
        is_zero = sym (base-is pair meets base (in_slot pair base) refl) ∙ zero

        by_test : (b : Bool) → differs pair.state.heap (in_slot pair base) (Const (pos 0)) ≡ b →
            Covers (cmd.Free base kind next)
            (if b then [] else goes_on next (formed Strict params (with_state_fact (Eq (in_slot pair base) (Const (pos 0))) pair)))
        by_test true known =
            absurd (differs_is_sound program.structs meets.0 heap pair.state.heap (in_slot pair base) (Const (pos 0)) meets.3 known is_zero)
        by_test false known =
            null-goes base kind next zero
            (goes_on next (formed Strict params (with_state_fact (Eq (in_slot pair base) (Const (pos 0))) pair)))
            (form-goes program.structs s locals heap (SomeOf (GoesOn program.structs s next locals heap)) (λ one. On next one ∷ []) params
            (with_state_fact (Eq (in_slot pair base) (Const (pos 0))) pair)
            (fact-met program.structs s locals heap (Eq (in_slot pair base) (Const (pos 0))) pair meets is_zero)
            (λ form met. inl (refl, met)))

    free-cell : (base : ℕ) (kind : List ℕ) (next : ℕ) → slice_index_or locals base (pos 0) ≢ pos 0 →
        Covers (cmd.Free base kind next) (free_cell strict base kind (in_slot pair base) next pair)
    free-cell base kind next other =
        form-goes program.structs s locals heap (Covers (cmd.Free base kind next))
        (λ apart. for_each_case (without_cell next) base (expose strict kind base apart)) params
        (with_state_fact (Ne (in_slot pair base) (Const (pos 0))) pair)
        (fact-met program.structs s locals heap (Ne (in_slot pair base) (Const (pos 0))) pair meets
        (λ zero. other (base-is pair meets base (in_slot pair base) refl ∙ zero)))
        (λ form met. cover-each program callees s locals heap (cmd.Free base kind next) (without_cell next) base
        (λ one met'. free-case one met' base kind next) (expose strict kind base form)
        (exposed-met structs program.structs contains params table s locals heap kind base form met))

    pub free-row : (base : ℕ) (kind : List ℕ) (next : ℕ) → Covers (cmd.Free base kind next) (free strict base kind next pair)
    free-row base kind next = by_same (same_exp (in_slot pair base) (Const (pos 0))) refl
      where
        by_value : (slice_index_or locals base (pos 0) ≡ pos 0) ⊎ (slice_index_or locals base (pos 0) ≢ pos 0) →
            Covers (cmd.Free base kind next)
            (free_null strict (in_slot pair base) next pair ++ free_cell strict base kind (in_slot pair base) next pair)
        by_value (inl zero) =
            cover-left program callees s locals heap (cmd.Free base kind next) (free_null strict (in_slot pair base) next pair) _
            (free-null base kind next zero)
        by_value (inr other) =
            cover-right program callees s locals heap (cmd.Free base kind next) (free_null strict (in_slot pair base) next pair) _
            (free-cell base kind next other)

        by_same : (b : Bool) → same_exp (in_slot pair base) (Const (pos 0)) ≡ b →
            Covers (cmd.Free base kind next)
            (if b then On next pair ∷ []
            else free_null strict (in_slot pair base) next pair ++ free_cell strict base kind (in_slot pair base) next pair)
        by_same true same =
            null-goes base kind next (base-is pair meets base (Const (pos 0)) (same_exp-equal (in_slot pair base) (Const (pos 0)) same))
            (On next pair ∷ []) (inl (refl, meets))
        by_same false other = by_value (int_tells (slice_index_or locals base (pos 0)) (pos 0))

    -- ---- new

    module _ (to : ℕ) (kind : List ℕ) (next : ℕ) (def : StructDef) (is_def : struct_named structs kind ≡ Some def) where
      abbrev names : List ℕ
      names = new_existentials (suc (length def.fields)) pair

      abbrev address : ℕ
      address = fresh (pair_variables pair)

      abbrev field_names : List ℕ
      field_names = fresh_variables (length def.fields) (pair_variables pair ++ address ∷ [])

      abbrev cases : List Case
      cases = On next (with_slot to (Const (pos 0)) pair) ∷ On next (with_new to kind names pair) ∷ []

      -- a new cell is one of new variables
      new-met : (at : ℤ) (numbers : List ℤ) → can_be_new program heap kind at numbers ≡ true →
          IsMet program.structs s (slice_set locals to at) (put (record { at = at; kind = kind; fields = numbers }) heap)
          (with_new to kind names pair)
      new-met at numbers can =
          let fits = new_cell_fits program heap kind at numbers can in
          let counted : length numbers ≡ length def.fields =
          fits_def program.structs kind def (length numbers) (contains kind def is_def) fits.1 in
          let u : ℕ → ℤ = assign names (at ∷ numbers) meets.0 in
          let agree : AgreeButFor names meets.0 u = assign-agrees names (at ∷ numbers) meets.0 in
          let lengths : length names ≡ length (at ∷ numbers) =
          length-fresh_variables (suc (length def.fields)) (pair_variables pair) ∙ ap (λ n. suc n) (sym counted) in
          let named : map (value u) (map Var (address ∷ field_names)) ≡ at ∷ numbers =
          assign-names names (at ∷ numbers) meets.0 (fresh_different (suc (length def.fields)) (pair_variables pair)) lengths in
          let at_is : value u (Var address) ≡ at = cc in
          let fields_are : map (value u) (map Var field_names) ≡ numbers = cc in (
            u,
            still_logical pair (suc (length def.fields)) meets.0 u agree s meets.1,
            ap₂ (λ (values : List ℤ) v. slice_set values to v) (meets.2 ∙ old_values pair (suc (length def.fields)) meets.0 u agree)
                (sym at_is) ∙
                sym (map-set (value u) pair.state.locals to (Var address)),
            record {
              facts = old_facts pair (suc (length def.fields)) meets.0 u agree meets.3.facts;
              atoms =
                  (same-middle (atoms_of pair) (Points (Var address) kind (map Var field_names)) [] program.structs u
                  (put (record { at = at; kind = kind; fields = numbers }) heap)).1
                  (rw (append-nil (atoms_of pair))
                  (makes program u (Var address) (map Var field_names) (atoms_of pair) heap kind at numbers can at_is fields_are
                  (old_atoms pair (suc (length def.fields)) meets.0 u agree program.structs heap meets.3.atoms)));
            },
          )

      abbrev Landed : ℕ → Stepped → Type 0
      Landed number to' =
          Lands (λ next' locals' heap'. SomeOf (GoesOn program.structs s next' locals' heap') cases)
          (λ value heap'. SomeOf (HasLeft program.structs s value heap') cases) number to'

      by-choice : (number node : ℕ) (chosen : Choice) →
          Landed number (new_step program [] (alone number node locals) heap to kind next chosen)
      by-choice number node choice.Go = tt
      by-choice number node (choice.Value n) = tt
      by-choice number node choice.Null = (
        next,
        slice_set locals to (pos 0),
        refl,
        inl
            (refl, slot-met program.structs s locals heap pair meets to (Const (pos 0)) (pos 0) refl),
      )
      by-choice number node (choice.Cell at numbers) = by_test (can_be_new program heap kind at numbers) refl
        where
          by_test : (b : Bool) → can_be_new program heap kind at numbers ≡ b →
              Landed number
              (if b then go_with [] (alone number node locals) (put (record { at = at; kind = kind; fields = numbers }) heap) to at next
              else stepped.BadChoice)
          by_test true can = (next, slice_set locals to at, refl, inr (inl (refl, new-met at numbers can)))
          by_test false can = tt

    pub new-row : (to : ℕ) (kind : List ℕ) (next : ℕ) → Covers (cmd.New to kind next) (new_cases strict to kind next pair)
    new-row to kind next = by_def (struct_named structs kind) refl
      where
        by_def : (o : Option StructDef) → struct_named structs kind ≡ o →
            Covers (cmd.New to kind next) (On next (with_slot to (Const (pos 0)) pair) ∷ new_struct to kind next pair o ∷ [])
        by_def None is = inl (inr (inl tt))
        by_def (Some def) is = inr (λ number node line chosen. by-choice to kind next def is number node chosen)
