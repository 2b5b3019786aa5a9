-- The rows of strict execution make no logical variable; of calls nothing is said here.
use Rattle.std.specs.Prelude.{◌≡◌, ℕ, zero, suc, ◌≤◌, ℤ, pos, Bool, true, false, if◌then◌else◌, List, [], ◌∷◌, ◌++◌, length, map, position}
use Rattle.std.specs.Prelude.{slice_get, slice_index_or, slice_set, All}
use Rattle.std.specs.List.{insert, list_any, remove}
use Rattle.std.specs.Str.{bytes_eq}
use Rattle.std.specs.declared.option.Option.{Option}
use Rattle.std.specs.declared.option.Option.TheVariants.{None, Some}
use Rattle.std.proofs.Common.{refl}
use Rattle.std.proofs.lemmas.List.Elements.{All-append, All-cons, All-head, All-map, All-nil, All-push, All-set, All-tail, All-weaker}
use Rattle.shape_data.specs.declared.answer.Fault.TheVariants as fault
use Rattle.shape_data.specs.declared.program.ArithOp.{ArithOp}
use Rattle.shape_data.specs.declared.program.Operand.{Operand}
use Rattle.shape_data.specs.declared.program.Operand.TheVariants.{Slot, Num}
use Rattle.shape_data.specs.declared.program.StructDef.{StructDef}
use Rattle.shape_data.specs.declared.program.TestOp.{TestOp}
use Rattle.shape_data.specs.declared.program.TestOp.TheVariants as test
use Rattle.shape_data.specs.declared.symbolic.Atom.{Atom}
use Rattle.shape_data.specs.declared.symbolic.Atom.TheVariants.{Points, Seg, Junk}
use Rattle.shape_data.specs.declared.symbolic.Exp.{Exp}
use Rattle.shape_data.specs.declared.symbolic.Exp.TheVariants.{Var, Const}
use Rattle.shape_data.specs.declared.symbolic.Fact.{Fact}
use Rattle.shape_data.specs.declared.symbolic.Fact.TheVariants.{Eq, Ne}
use Rattle.shape_data.specs.Heap.{struct_named}
use Rattle.sym_parts.specs.Laws.Each.{EachInAtom, EachInFact, EachInState}
use Rattle.sym_parts.specs.Laws.Expressions.{same_exp}
use Rattle.sym_canon.specs.declared.parts.Pair.{Pair}
use Rattle.sym_canon.specs.Placing.{is_cell_at, is_segment_from}
use Rattle.sym_pure.specs.declared.parts.Normal.{Normal}
use Rattle.sym_pure.specs.declared.parts.Normal.TheVariants.{Is, Contradiction}
use Rattle.sym_pure.specs.Normal.{normal}
use Rattle.sym_pure.specs.Sources.{differs}
use Rattle.sym_pure.proofs.EachLaws.{All-get, All-remove, form-each}
use Rattle.sym_forms.specs.Forms.{of_form}
use Rattle.sym_matching.specs.NewVariables.{fresh, fresh_variables}
use Rattle.sym_matching.proofs.KeptLaws.{All-insert, All-or}
use Rattle.sym_matching.proofs.NewVariableLaws.{fresh_existential}
use Rattle.exec_laws.specs.declared.parts.Case.{Case}
use Rattle.exec_laws.specs.declared.parts.Case.TheVariants.{On, Leaves, Drops}
use Rattle.exec_laws.specs.declared.parts.Exposed.{Exposed}
use Rattle.exec_laws.specs.declared.parts.Exposed.TheVariants.{Shown, Lacking}
use Rattle.exec_laws.specs.declared.parts.Mode.TheVariants.{Strict}
use Rattle.exec_laws.specs.declared.parts.Table.{Table}
use Rattle.exec_laws.specs.Branching.{are_equal, branch, branch_equal, branch_on, branch_other, branch_unequal, passes, where_test_is}
use Rattle.exec_laws.specs.Cells.{at_place, cell_place, for_each_case, free, free_cell, free_null, goes_on, load, load_cell, load_fields}
use Rattle.exec_laws.specs.Cells.{new as new_cases, new_struct, store, store_cell, store_fields, without_cell}
use Rattle.exec_laws.specs.Exposing.{at_segment, cases_of_segment, cause_at, empty_case, expose, expose_within, unfolded_case, unfolded_to}
use Rattle.exec_laws.specs.Exposing.{with_unfolded, without_segment}
use Rattle.exec_laws.specs.Pairs.{Setting, atoms_of, formed, in_slot, new_existentials, pair_variables, unless_left_out, with_atoms}
use Rattle.exec_laws.specs.Pairs.{with_slot, with_state_fact}
use Rattle.exec_laws.specs.Values.{any, arith as arith_cases, copy, leave, operand, with_any, with_result}

-- new variables are existential
pub fresh-high : (count : ℕ) (used : List ℕ) → All (λ x. 65536 ≤ x) (fresh_variables count used)
fresh-high zero used = All-nil (λ x. 65536 ≤ x)
fresh-high (suc count) used =
    All-cons (λ x. 65536 ≤ x) (fresh used) (fresh_variables count (used ++ fresh used ∷ [])) (fresh_existential used)
    (fresh-high count (used ++ fresh used ∷ []))

module _ (P : Exp → Type 0) (constant : (n : ℤ) → P (Const n)) (new : (x : ℕ) → 65536 ≤ x → P (Var x)) (structs : List StructDef)
    (params : ℕ) (table : Table) where
  abbrev pub strict : Setting
  strict = record { mode = Strict; params = params; structs = structs; table = table }

  abbrev pub Good : Pair → Type 0
  Good pair = EachInState P pair.state

  abbrev ExposedGood : Exposed → Type 0
  ExposedGood (Shown pair) = Good pair
  ExposedGood (Lacking cause) = Unit {0}

  abbrev pub CaseGood : Case → Type 0
  CaseGood (On node pair) = Good pair
  CaseGood (Leaves pair) = Good pair
  CaseGood (Drops cause) = Unit {0}

  pub one-case : (case : Case) → CaseGood case → All CaseGood (case ∷ [])
  one-case case good = All-cons CaseGood case [] good (All-nil CaseGood)

  one-exposed : (case : Exposed) → ExposedGood case → All ExposedGood (case ∷ [])
  one-exposed case good = All-cons ExposedGood case [] good (All-nil ExposedGood)

  -- ---- expressions, slots, atoms, facts

  pub operand-good : (pair : Pair) → Good pair → (from : Operand) → P (operand pair from)
  operand-good pair good (Slot slot) = All-or P pair.state.locals slot (Const (pos 0)) (constant (pos 0)) good.locals
  operand-good pair good (Num n) = constant n

  slot-good : (to : ℕ) (e : Exp) (pair : Pair) → Good pair → P e → Good (with_slot to e pair)
  slot-good to e pair good is = record { locals = All-set P pair.state.locals to e is good.locals; heap = good.heap }

  atoms-good : (atoms : List Atom) (pair : Pair) → Good pair → All (EachInAtom P) atoms → Good (with_atoms atoms pair)
  atoms-good atoms pair good each = record { locals = good.locals; heap = record { facts = good.heap.facts; atoms = each } }

  fact-good : (fact : Fact) (pair : Pair) → Good pair → EachInFact P fact → Good (with_state_fact fact pair)
  fact-good fact pair good is =
      record {
        locals = good.locals;
        heap = record { facts = All-push (EachInFact P) pair.state.heap.pure fact good.heap.facts is; atoms = good.heap.atoms };
      }

  news-good : (count : ℕ) (pair : Pair) → All P (map Var (new_existentials count pair))
  news-good count pair =
      All-map P Var (new_existentials count pair)
      (All-weaker (λ x. 65536 ≤ x) (λ x. P (Var x)) new (new_existentials count pair) (fresh-high count (pair_variables pair)))

  -- what is made of each form of such a pair
  form-good : {A : Type 0} (Q : A → Type 0) (go_on : Pair → List A) (pair : Pair) → Good pair →
      ((form : Pair) → Good form → All Q (go_on form)) → All Q (unless_left_out go_on (formed Strict params pair))
  form-good Q go_on pair good later = by_form (normal pair.state) refl
    where
      by_form : (n : Normal) → normal pair.state ≡ n → All Q (unless_left_out go_on (of_form (λ form. record pair { state = form }) n))
      by_form (Is form) is = later (record pair { state = form }) (form-each P pair.state form is good)
      by_form Contradiction is = All-nil Q

  -- ---- expose

  map-get : (xs : List ℕ) (at : ℕ) (x : ℕ) → slice_get xs at ≡ Some x → slice_get (map Var xs) at ≡ Some (Var x)
  map-get [] at x is = cc
  map-get (y ∷ ys) zero x is = let same : y ≡ x = cc in rw same refl
  map-get (y ∷ ys) (suc at) x is = map-get ys at x is

  full-good : (pair : Pair) (place : ℕ) (kind : List ℕ) (link : ℕ) (from to : Exp) (def : StructDef) (next : ℕ) → Good pair →
      EachInAtom P (Seg kind link from to) →
      slice_get (new_existentials (length def.fields) pair) link ≡ Some next →
      Good (with_unfolded place kind link from to (new_existentials (length def.fields) pair) next pair)
  full-good pair place kind link from to def next good segment is_next =
      let names : List ℕ = new_existentials (length def.fields) pair in
      let exps : All P (map Var names) = news-good (length def.fields) pair in
      let link_exp : P (Var next) = All-get P (map Var names) link (Var next) (map-get names link next is_next) exps in
      atoms-good (insert (insert (remove (atoms_of pair) place) place (Seg kind link (Var next) to)) place
      (Points from kind (map Var names))) pair good
      (All-insert (EachInAtom P) (insert (remove (atoms_of pair) place) place (Seg kind link (Var next) to)) place
      (Points from kind (map Var names)) (segment.0, exps)
      (All-insert (EachInAtom P) (remove (atoms_of pair) place) place (Seg kind link (Var next) to) (link_exp, segment.1)
      (All-remove (EachInAtom P) (atoms_of pair) place good.heap.atoms)))

  segment-good : (again : Pair → List Exposed) → ((form : Pair) → Good form → All ExposedGood (again form)) →
      (pair : Pair) (place : ℕ) (kind : List ℕ) (link : ℕ) (from to : Exp) → Good pair →
      EachInAtom P (Seg kind link from to) →
      All ExposedGood
      (empty_case again strict pair place from to ++ unfolded_case strict pair place kind link from to (struct_named structs kind))
  segment-good again later pair place kind link from to good segment =
      All-append ExposedGood (empty_case again strict pair place from to)
      (unfolded_case strict pair place kind link from to (struct_named structs kind)) (by_test (differs pair.state.heap from to))
      (by_def (struct_named structs kind))
    where
      without : Good (without_segment place pair)
      without = atoms-good (remove (atoms_of pair) place) pair good (All-remove (EachInAtom P) (atoms_of pair) place good.heap.atoms)

      by_test : (b : Bool) →
          All ExposedGood
          (if b then [] else unless_left_out again (formed Strict params (with_state_fact (Eq from to) (without_segment place pair))))
      by_test true = All-nil ExposedGood
      by_test false =
          form-good ExposedGood again (with_state_fact (Eq from to) (without_segment place pair))
          (fact-good (Eq from to) (without_segment place pair) without segment) later

      by_next : (def : StructDef) (next : Option ℕ) → slice_get (new_existentials (length def.fields) pair) link ≡ next →
          All ExposedGood (unfolded_to strict pair place kind link from to (new_existentials (length def.fields) pair) next)
      by_next def None is_next = one-exposed (Lacking fault.Kind) tt
      by_next def (Some next) is_next =
          form-good ExposedGood (λ one. Shown one ∷ [])
          (with_unfolded place kind link from to (new_existentials (length def.fields) pair) next pair)
          (full-good pair place kind link from to def next good segment is_next) (λ form is. one-exposed (Shown form) is)

      by_def : (def : Option StructDef) → All ExposedGood (unfolded_case strict pair place kind link from to def)
      by_def None = one-exposed (Lacking fault.Kind) tt
      by_def (Some def) = by_next def (slice_get (new_existentials (length def.fields) pair) link) refl

  exposed-good : (turns : ℕ) (kind : List ℕ) (slot : ℕ) (pair : Pair) → Good pair →
      All ExposedGood (expose_within turns strict kind slot pair)
  exposed-good zero kind slot pair good = one-exposed (Lacking (cause_at (in_slot pair slot))) tt
  exposed-good (suc turns) kind slot pair good =
      by_test (exposed-good turns kind slot) (list_any (is_cell_at (in_slot pair slot)) (atoms_of pair))
    where
      by_atom : ((form : Pair) → Good form → All ExposedGood (expose_within turns strict kind slot form)) →
          (place : ℕ) (atom : Option Atom) → slice_get (atoms_of pair) place ≡ atom →
          All ExposedGood
          (cases_of_segment (λ later. expose_within turns strict kind slot later) strict (in_slot pair slot) pair place atom)
      by_atom later place None is = one-exposed (Lacking (cause_at (in_slot pair slot))) tt
      by_atom later place (Some (Points at kind' fields)) is = one-exposed (Lacking (cause_at (in_slot pair slot))) tt
      by_atom later place (Some (Seg kind' link from to)) is =
          segment-good (λ form. expose_within turns strict kind slot form) later pair place kind' link from to good
          (All-get (EachInAtom P) (atoms_of pair) place (Seg kind' link from to) is good.heap.atoms)
      by_atom later place (Some Junk) is = one-exposed (Lacking (cause_at (in_slot pair slot))) tt

      by_place : ((form : Pair) → Good form → All ExposedGood (expose_within turns strict kind slot form)) → (place : Option ℕ) →
          All ExposedGood (at_segment (λ later. expose_within turns strict kind slot later) strict kind (in_slot pair slot) pair place)
      by_place later None = one-exposed (Lacking (cause_at (in_slot pair slot))) tt
      by_place later (Some place) = by_atom later place (slice_get (atoms_of pair) place) refl

      by_test : ((form : Pair) → Good form → All ExposedGood (expose_within turns strict kind slot form)) → (b : Bool) →
          All ExposedGood
          (if b then Shown pair ∷ []
          else at_segment (λ later. expose_within turns strict kind slot later) strict kind (in_slot pair slot) pair
          (position (is_segment_from (in_slot pair slot)) (atoms_of pair)))
      by_test later true = one-exposed (Shown pair) good
      by_test later false = by_place later (position (is_segment_from (in_slot pair slot)) (atoms_of pair))

  expose-good : (kind : List ℕ) (slot : ℕ) (pair : Pair) → Good pair → All ExposedGood (expose strict kind slot pair)
  expose-good kind slot pair good = exposed-good (length (atoms_of pair)) kind slot pair good

  -- ---- what is done with the cell

  at-cell-good : (use_atom : ℕ → Option Atom → Case) (slot : ℕ) (pair : Pair) →
      ((place : ℕ) (atom : Option Atom) → slice_get (atoms_of pair) place ≡ atom → CaseGood (use_atom place atom)) → (place : Option ℕ) →
      CaseGood (at_place use_atom slot pair place)
  at-cell-good use_atom slot pair one None = tt
  at-cell-good use_atom slot pair one (Some place) = one place (slice_get (atoms_of pair) place) refl

  each-good : (use_atom : Pair → ℕ → Option Atom → Case) (slot : ℕ) →
      ((pair : Pair) → Good pair → (place : ℕ) (atom : Option Atom) → slice_get (atoms_of pair) place ≡ atom →
      CaseGood (use_atom pair place atom)) →
      (cases : List Exposed) → All ExposedGood cases → All CaseGood (for_each_case use_atom slot cases)
  each-good use_atom slot one [] each = All-nil CaseGood
  each-good use_atom slot one (Shown pair ∷ cases) each =
      All-cons CaseGood (at_place (use_atom pair) slot pair (cell_place slot pair)) (for_each_case use_atom slot cases)
      (at-cell-good (use_atom pair) slot pair (one pair (All-head ExposedGood (Shown pair) cases each)) (cell_place slot pair))
      (each-good use_atom slot one cases (All-tail ExposedGood (Shown pair) cases each))
  each-good use_atom slot one (Lacking cause ∷ cases) each =
      All-cons CaseGood (Drops cause) (for_each_case use_atom slot cases) tt
      (each-good use_atom slot one cases (All-tail ExposedGood (Lacking cause) cases each))

  module _ (pair : Pair) (good : Good pair) where
    load-atom : (to base : ℕ) (kind : List ℕ) (field next place : ℕ) (atom : Option Atom) → slice_get (atoms_of pair) place ≡ atom →
        CaseGood (load_cell to base kind field next pair place atom)
    load-atom to base kind field next place None got = tt
    load-atom to base kind field next place (Some (Points at kind' fields)) got = by_kind (bytes_eq kind' kind)
      where
        by_kind : (b : Bool) → CaseGood (if b then load_fields to field next pair at fields else Drops fault.Kind)
        by_kind true =
            let cell : EachInAtom P (Points at kind' fields) =
            All-get (EachInAtom P) (atoms_of pair) place (Points at kind' fields) got good.heap.atoms in
            slot-good to (slice_index_or fields field (Const (pos 0))) pair good
            (All-or P fields field (Const (pos 0)) (constant (pos 0)) cell.1)
        by_kind false = tt
    load-atom to base kind field next place (Some (Seg kind' link from to')) got = tt
    load-atom to base kind field next place (Some Junk) got = tt

    store-atom : (base : ℕ) (kind : List ℕ) (field : ℕ) (from : Operand) (next place : ℕ) (atom : Option Atom) →
        slice_get (atoms_of pair) place ≡ atom → CaseGood (store_cell base kind field from next pair place atom)
    store-atom base kind field from next place None got = tt
    store-atom base kind field from next place (Some (Points at kind' fields)) got = by_kind (bytes_eq kind' kind)
      where
        by_kind : (b : Bool) → CaseGood (if b then store_fields kind field from next pair place at fields else Drops fault.Kind)
        by_kind true =
            let cell : EachInAtom P (Points at kind' fields) =
            All-get (EachInAtom P) (atoms_of pair) place (Points at kind' fields) got good.heap.atoms in
            let written : EachInAtom P (Points at kind (slice_set fields field (operand pair from))) =
            (cell.0, All-set P fields field (operand pair from) (operand-good pair good from) cell.1) in
            atoms-good (slice_set (atoms_of pair) place (Points at kind (slice_set fields field (operand pair from)))) pair good
            (All-set (EachInAtom P) (atoms_of pair) place
            (Points at kind (slice_set fields field (operand pair from))) written good.heap.atoms)
        by_kind false = tt
    store-atom base kind field from next place (Some (Seg kind' link from' to)) got = tt
    store-atom base kind field from next place (Some Junk) got = tt

    free-atom : (next place : ℕ) (atom : Option Atom) → slice_get (atoms_of pair) place ≡ atom →
        CaseGood (without_cell next pair place atom)
    free-atom next place atom got =
        atoms-good (remove (atoms_of pair) place) pair good (All-remove (EachInAtom P) (atoms_of pair) place good.heap.atoms)

  -- ---- the rows

  module _ (pair : Pair) (good : Good pair) where
    pub copy-good : (to : ℕ) (from : Operand) (next : ℕ) → All CaseGood (copy to from next pair)
    copy-good to from next =
        one-case (On next (with_slot to (operand pair from) pair))
        (slot-good to (operand pair from) pair good (operand-good pair good from))

    any-pair : (to : ℕ) → Good (with_any to pair)
    any-pair to =
        slot-good to (Var (fresh (pair_variables pair))) pair good
        (new (fresh (pair_variables pair)) (fresh_existential (pair_variables pair)))

    pub any-good : (to next : ℕ) → All CaseGood (any to next pair)
    any-good to next = one-case (On next (with_any to pair)) (any-pair to)

    pub arith-good : (to : ℕ) (op : ArithOp) (left right : Operand) (next : ℕ) → All CaseGood (arith_cases to op left right next pair)
    arith-good to op left right next =
        one-case (On next (with_result to op (operand pair left) (operand pair right) pair))
        (by_exps (operand pair left) (operand pair right))
      where
        by_exps : (e f : Exp) → Good (with_result to op e f pair)
        by_exps (Const m) (Const n) = slot-good to (Const _) pair good (constant _)
        by_exps (Const m) (Var y) = any-pair to
        by_exps (Var x) (Const n) = any-pair to
        by_exps (Var x) (Var y) = any-pair to

    pub return-good : (value : Operand) → All CaseGood (leave value pair)
    return-good value =
        one-case (Leaves _)
        (record { locals = All-cons P (operand pair value) [] (operand-good pair good value) (All-nil P); heap = good.heap })

    pub load-good : (to base : ℕ) (kind : List ℕ) (field next : ℕ) → All CaseGood (load strict to base kind field next pair)
    load-good to base kind field next =
        each-good (load_cell to base kind field next) base
        (λ one is place atom got. load-atom one is to base kind field next place atom got) (expose strict kind base pair)
        (expose-good kind base pair good)

    pub store-good : (base : ℕ) (kind : List ℕ) (field : ℕ) (from : Operand) (next : ℕ) →
        All CaseGood (store strict base kind field from next pair)
    store-good base kind field from next =
        each-good (store_cell base kind field from next) base
        (λ one is place atom got. store-atom one is base kind field from next place atom got) (expose strict kind base pair)
        (expose-good kind base pair good)

    -- with one fact more, in the normal form
    fact-case : (fact : Fact) (next : ℕ) → EachInFact P fact →
        All CaseGood (goes_on next (formed Strict params (with_state_fact fact pair)))
    fact-case fact next is =
        form-good CaseGood (λ one. On next one ∷ []) (with_state_fact fact pair) (fact-good fact pair good is)
        (λ form fine. one-case (On next form) fine)

    pub free-good : (base : ℕ) (kind : List ℕ) (next : ℕ) → All CaseGood (free strict base kind next pair)
    free-good base kind next = by_same (same_exp (in_slot pair base) (Const (pos 0)))
      where
        e_is : P (in_slot pair base)
        e_is = operand-good pair good (Slot base)

        by_null : (b : Bool) →
            All CaseGood
            (if b then [] else goes_on next (formed Strict params (with_state_fact (Eq (in_slot pair base) (Const (pos 0))) pair)))
        by_null true = All-nil CaseGood
        by_null false = fact-case (Eq (in_slot pair base) (Const (pos 0))) next (e_is, constant (pos 0))

        by_cell : All CaseGood (free_cell strict base kind (in_slot pair base) next pair)
        by_cell =
            form-good CaseGood (λ apart. for_each_case (without_cell next) base (expose strict kind base apart))
            (with_state_fact (Ne (in_slot pair base) (Const (pos 0))) pair)
            (fact-good (Ne (in_slot pair base) (Const (pos 0))) pair good (e_is, constant (pos 0)))
            (λ form fine. each-good (without_cell next) base (λ one is place atom got. free-atom one is next place atom got)
            (expose strict kind base form) (expose-good kind base form fine))

        by_same : (b : Bool) →
            All CaseGood
            (if b then On next pair ∷ []
            else free_null strict (in_slot pair base) next pair ++ free_cell strict base kind (in_slot pair base) next pair)
        by_same true = one-case (On next pair) good
        by_same false =
            All-append CaseGood (free_null strict (in_slot pair base) next pair) (free_cell strict base kind (in_slot pair base) next pair)
            (by_null (differs pair.state.heap (in_slot pair base) (Const (pos 0)))) by_cell

    pub new-good : (to : ℕ) (kind : List ℕ) (next : ℕ) → All CaseGood (new_cases strict to kind next pair)
    new-good to kind next =
        All-cons CaseGood (On next (with_slot to (Const (pos 0)) pair)) (new_struct to kind next pair (struct_named structs kind) ∷ [])
        (slot-good to (Const (pos 0)) pair good (constant (pos 0)))
        (one-case (new_struct to kind next pair (struct_named structs kind)) (by_def (struct_named structs kind)))
      where
        by_def : (o : Option StructDef) → CaseGood (new_struct to kind next pair o)
        by_def None = tt
        by_def (Some def) =
            let address : ℕ = fresh (pair_variables pair) in
            let names : List ℕ = fresh_variables (length def.fields) (pair_variables pair ++ fresh (pair_variables pair) ∷ []) in
            let exps : All P (Var address ∷ map Var names) = news-good (suc (length def.fields)) pair in
            let at : P (Var address) = All-head P (Var address) (map Var names) exps in
            slot-good to (Var address) (with_atoms (atoms_of pair ++ Points (Var address) kind (map Var names) ∷ []) pair)
            (atoms-good (atoms_of pair ++ Points (Var address) kind (map Var names) ∷ []) pair good
            (All-push (EachInAtom P) (atoms_of pair) (Points (Var address) kind (map Var names)) good.heap.atoms
            (at, All-tail P (Var address) (map Var names) exps))) at

    pub branch-good : (op : TestOp) (pointers : Bool) (left right : Operand) (on_true on_false : ℕ) →
        All CaseGood (branch strict op pointers left right on_true on_false pair)
    branch-good op pointers left right on_true on_false = by_op op
      where
        both : P (operand pair left) × P (operand pair right)
        both = (operand-good pair good left, operand-good pair good right)

        where-good : (p : Bool) (fact : Fact) (next : ℕ) → EachInFact P fact → All CaseGood (where_test_is strict p fact next pair)
        where-good true fact next is = fact-case fact next is
        where-good false fact next is = fact-case fact next is

        by_equal : (o : Option Bool) →
            All CaseGood (branch_equal strict pointers (operand pair left) (operand pair right) on_true on_false pair o)
        by_equal None =
            All-append CaseGood (where_test_is strict pointers (Eq (operand pair left) (operand pair right)) on_true pair)
            (where_test_is strict pointers (Ne (operand pair left) (operand pair right)) on_false pair)
            (where-good pointers (Eq (operand pair left) (operand pair right)) on_true both)
            (where-good pointers (Ne (operand pair left) (operand pair right)) on_false both)
        by_equal (Some b) = one-case (On (if b then on_true else on_false) pair) good

        by_unequal : (o : Option Bool) →
            All CaseGood (branch_unequal strict pointers (operand pair left) (operand pair right) on_true on_false pair o)
        by_unequal None =
            All-append CaseGood (where_test_is strict pointers (Ne (operand pair left) (operand pair right)) on_true pair)
            (where_test_is strict pointers (Eq (operand pair left) (operand pair right)) on_false pair)
            (where-good pointers (Ne (operand pair left) (operand pair right)) on_true both)
            (where-good pointers (Eq (operand pair left) (operand pair right)) on_false both)
        by_unequal (Some b) = one-case (On (if b then on_false else on_true) pair) good

        by_other : (o : Option Bool) → All CaseGood (branch_other on_true on_false pair o)
        by_other None = All-cons CaseGood (On on_true pair) (On on_false pair ∷ []) good (one-case (On on_false pair) good)
        by_other (Some b) = one-case (On (if b then on_true else on_false) pair) good

        by_op : (op' : TestOp) → All CaseGood (branch_on strict op' pointers (operand pair left) (operand pair right) on_true on_false pair)
        by_op test.Eq = by_equal (are_equal pair.state.heap (operand pair left) (operand pair right))
        by_op test.Ne = by_unequal (are_equal pair.state.heap (operand pair left) (operand pair right))
        by_op test.Lt = by_other (passes test.Lt (operand pair left) (operand pair right))
        by_op test.Le = by_other (passes test.Le (operand pair left) (operand pair right))
        by_op test.Gt = by_other (passes test.Gt (operand pair left) (operand pair right))
        by_op test.Ge = by_other (passes test.Ge (operand pair left) (operand pair right))
