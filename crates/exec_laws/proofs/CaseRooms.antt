-- The rows of execution keep pairs well formed, with at most three parts more, in both modes; of calls nothing is said here.
use Rattle.std.specs.Prelude.{◌≡◌, ℕ, zero, suc, ◌+◌, ◌<◌, ◌≤◌, ltb, pos, Bool, true, false, if◌then◌else◌, List, [], ◌∷◌, ◌++◌, filter}
use Rattle.std.specs.Prelude.{length, map, position, slice_get, slice_index_or, slice_set, All}
use Rattle.std.specs.List.{insert, list_any, remove}
use Rattle.std.specs.Option.{IsSomeAnd}
use Rattle.std.specs.Str.{bytes_eq}
use Rattle.std.specs.declared.option.Option.{Option}
use Rattle.std.specs.declared.option.Option.TheVariants.{None, Some}
use Rattle.std.proofs.Common.{refl, sym, ◌∙◌, subst, arith}
use Rattle.std.proofs.lemmas.Bool.{lt-ltb, ltb-true}
use Rattle.std.proofs.lemmas.List.{length-map, length-set, length_push}
use Rattle.std.proofs.lemmas.List.Elements.{All-append, All-cons, All-head, All-nil, All-push, All-set, All-tail}
use Rattle.std.proofs.lemmas.Slice.Eq.{bytes_eq-Decides}
use Rattle.shape_data.specs.declared.answer.Fault.TheVariants as fault
use Rattle.shape_data.specs.declared.program.ArithOp.{ArithOp}
use Rattle.shape_data.specs.declared.program.Operand.{Operand}
use Rattle.shape_data.specs.declared.program.Operand.TheVariants.{Slot, Num}
use Rattle.shape_data.specs.declared.program.StructDef.{StructDef}
use Rattle.shape_data.specs.declared.program.TestOp.{TestOp}
use Rattle.shape_data.specs.declared.program.TestOp.TheVariants as test
use Rattle.shape_data.specs.declared.symbolic.Atom.{Atom}
use Rattle.shape_data.specs.declared.symbolic.Atom.TheVariants.{Points, Seg, Junk}
use Rattle.shape_data.specs.declared.symbolic.Exp.{Exp}
use Rattle.shape_data.specs.declared.symbolic.Exp.TheVariants.{Var, Const}
use Rattle.shape_data.specs.declared.symbolic.Fact.{Fact}
use Rattle.shape_data.specs.declared.symbolic.Fact.TheVariants.{Eq, Ne}
use Rattle.shape_data.specs.declared.symbolic.SymHeap.{SymHeap}
use Rattle.shape_data.specs.Heap.{struct_named}
use Rattle.shape_data.specs.WellFormed.{AreStructs, IsAtom, IsExp, IsFact, widest}
use Rattle.sym_parts.specs.Laws.Expressions.{same_exp}
use Rattle.sym_pure.proofs.EachLaws.{All-get, All-remove}
use Rattle.sym_canon.specs.declared.parts.Pair.{Pair}
use Rattle.sym_canon.specs.Placing.{is_cell_at, is_segment_from}
use Rattle.sym_pure.specs.Sources.{differs}
use Rattle.sym_matching.specs.Covers.{above}
use Rattle.sym_matching.specs.NewVariables.{fresh, fresh_variables}
use Rattle.sym_matching.specs.Reading.{is_logical_variable}
use Rattle.sym_matching.specs.Steps.{contradicts}
use Rattle.sym_matching.proofs.KeptLaws.{All-insert, All-or}
use Rattle.sym_matching.proofs.NewVariableLaws.{length-fresh_variables}
use Rattle.sym_matching.specs.Renaming.Calls.{variables_from}
use Rattle.sym_matching.proofs.RenamingLemmas.SizeLemmas.{few_from}
use Rattle.exec_laws.specs.declared.parts.Case.{Case}
use Rattle.exec_laws.specs.declared.parts.Case.TheVariants.{On, Leaves, Drops}
use Rattle.exec_laws.specs.declared.parts.Exposed.{Exposed}
use Rattle.exec_laws.specs.declared.parts.Exposed.TheVariants.{Shown, Lacking}
use Rattle.exec_laws.specs.declared.parts.Mode.{Mode}
use Rattle.exec_laws.specs.declared.parts.Mode.TheVariants.{Strict, Search}
use Rattle.exec_laws.specs.declared.parts.Table.{Table}
use Rattle.exec_laws.specs.Branching.{are_equal, branch, branch_equal, branch_on, branch_other, branch_unequal, passes, where_test_is}
use Rattle.exec_laws.specs.Cells.{at_place, cell_place, for_each_case, free, free_cell, free_null, goes_on, load, load_cell, load_fields}
use Rattle.exec_laws.specs.Cells.{new as new_cases, new_struct, store, store_cell, store_fields, with_new, without_cell}
use Rattle.exec_laws.specs.Exposing.{at_segment, cases_of_segment, cause_at, empty_case, expose, expose_within, lacking, miss_struct, shown}
use Rattle.exec_laws.specs.Exposing.{unfolded_case, unfolded_to, where_ends_differ, with_atom, with_atom_in_both, with_unfolded}
use Rattle.exec_laws.specs.Exposing.{without_atom, without_segment}
use Rattle.exec_laws.specs.Rooms.{with_parts, IsCaseWithin}
use Rattle.exec_laws.specs.Pairs.{Setting, atoms_of, formed, in_slot, is_logical_fact, new_existentials, new_logical, pair_variables}
use Rattle.exec_laws.specs.Pairs.{unless_left_out, with_atoms, with_fact, with_missing_fact, with_slot, with_state_fact}
use Rattle.exec_laws.specs.Values.{any, arith as arith_cases, copy, leave, operand, with_any, with_result}
use Rattle.exec_laws.proofs.RoomLemmas.{InRoom, fact-room, few_fields, form-room, insert-longer, new-exps, remove-shorter, room-more}
use Rattle.exec_laws.proofs.RoomLemmas.{true-room}

module _ (structs : List StructDef) (are : AreStructs structs) (params slots nodes : ℕ) (narrow : slots ≤ 32768) (mode : Mode) (count : ℕ)
    (known : count ≤ 32768) (table : Table) where
  abbrev setting : Setting
  setting = record { mode = mode; params = count; structs = structs; table = table }

  abbrev Room : ℕ → ℕ → Pair → Type 0
  Room k j pair = InRoom structs are params slots k j pair

  -- a case of expose in that room
  abbrev ExposedRoom : ℕ → ℕ → Exposed → Type 0
  ExposedRoom k j (Shown pair) = Room k j pair
  ExposedRoom k j (Lacking cause) = Unit {0}

  abbrev pub CaseRoom : ℕ → ℕ → Case → Type 0
  CaseRoom k j case = IsCaseWithin structs params slots nodes k j case

  one-case : (k j : ℕ) (case : Case) → CaseRoom k j case → All (CaseRoom k j) (case ∷ [])
  one-case k j case room = All-cons (CaseRoom k j) case [] room (All-nil (CaseRoom k j))

  one-exposed : (k j : ℕ) (case : Exposed) → ExposedRoom k j case → All (ExposedRoom k j) (case ∷ [])
  one-exposed k j case room = All-cons (ExposedRoom k j) case [] room (All-nil (ExposedRoom k j))

  -- ---- expressions, slots, atoms

  pub operand-exp : (k j : ℕ) (pair : Pair) → Room k j pair → (from : Operand) → IsExp (with_parts k) params (operand pair from)
  operand-exp k j pair room (Slot slot) = All-or (IsExp (with_parts k) params) pair.state.locals slot (Const (pos 0)) tt room.state.locals
  operand-exp k j pair room (Num n) = tt

  slot-room : (k j to : ℕ) (e : Exp) (pair : Pair) → Room k j pair → IsExp (with_parts k) params e → Room k j (with_slot to e pair)
  slot-room k j to e pair room is = record {
    state =
        record {
          one_each = length-set pair.state.locals to e ∙ room.state.one_each;
          locals = All-set (IsExp (with_parts k) params) pair.state.locals to e is room.state.locals;
          heap = room.state.heap;
        };
    facts = room.facts;
    atoms = room.atoms;
    light = room.light;
  }

  atoms-room : (k m j i : ℕ) (atoms : List Atom) (pair : Pair) → Room k j pair → length pair.state.heap.pure + length atoms ≤ m →
      length pair.missing.pure + length pair.missing.spatial + length atoms ≤ i →
      All (IsAtom (with_parts m) structs params) atoms → Room m i (with_atoms atoms pair)
  atoms-room k m j i atoms pair room parts light each = record {
    state =
        record {
          one_each = room.state.one_each;
          locals = room.state.locals;
          heap = record { parts = parts; facts = room.state.heap.facts; atoms = each };
        };
    facts = room.facts;
    atoms = room.atoms;
    light = light;
  }

  -- ---- expose

  -- new logical variables
  above-low : (xs : List ℕ) (first : ℕ) → first ≤ 65536 → All (λ x. x < 65536) xs → above first xs ≤ 65536
  above-low [] first low each = low
  above-low (x ∷ xs) first low each =
      by_test (ltb x first) (All-head (λ y. y < 65536) x xs each)
      (λ next under. above-low xs next under (All-tail (λ y. y < 65536) x xs each))
    where
      by_test : (b : Bool) → x < 65536 → ((next : ℕ) → next ≤ 65536 → above next xs ≤ 65536) → above (if b then first else x + 1) xs ≤ 65536
      by_test true under later = later first low
      by_test false under later = later (x + 1) (omega arith)

  from-small : (first size m : ℕ) → first + size ≤ 2147483648 → All (IsExp (with_parts m) params) (map Var (variables_from first size))
  from-small first zero m small = All-nil (IsExp (with_parts m) params)
  from-small first (suc size) m small =
      All-cons (IsExp (with_parts m) params) (Var first) (map Var (variables_from (first + 1) size)) (lt-ltb first 2147483648 (omega arith))
      (from-small (first + 1) size m (omega arith))

  passes-low : (xs : List ℕ) → All (λ x. x < 65536) (filter (λ x. ltb x 65536) xs)
  passes-low [] = All-nil (λ x. x < 65536)
  passes-low (x ∷ xs) = by_test (ltb x 65536) refl (passes-low xs)
    where
      by_test : (b : Bool) → ltb x 65536 ≡ b → All (λ y. y < 65536) (filter (λ y. ltb y 65536) xs) →
          All (λ y. y < 65536) (if b then x ∷ filter (λ y. ltb y 65536) xs else filter (λ y. ltb y 65536) xs)
      by_test true low later = All-cons (λ y. y < 65536) x (filter (λ y. ltb y 65536) xs) (ltb-true x 65536 low) later
      by_test false high later = later

  pub logical-low : (pair : Pair) → new_logical count pair ≤ 65536
  logical-low pair = above-low (filter (λ x. ltb x 65536) (pair_variables pair)) count (omega arith) (passes-low (pair_variables pair))

  module _ (k j : ℕ) (few : k ≤ 8000) (small : j ≤ 16000) where
    -- what is shown of a form
    shown-room : (form : Pair) → Room (k + 2) (j + 2) form → All (ExposedRoom (k + 2) (j + 2)) (Shown form ∷ [])
    shown-room form is = one-exposed (k + 2) (j + 2) (Shown form) is

    -- a missing cell
    cell-room : (kind : List ℕ) (e : Exp) (def : StructDef) (pair : Pair) → Room k j pair → IsExp (with_parts k) params e →
        struct_named structs kind ≡ Some def →
        Room (k + 2) (j + 2)
        (with_atom_in_both (Points e kind (map Var (variables_from (new_logical count pair) (length def.fields)))) pair)
    cell-room kind e def pair room e_is is_def =
        let names : List ℕ = variables_from (new_logical count pair) (length def.fields) in
        let narrow_struct : length def.fields ≤ 32768 = few_fields structs kind def are is_def in
        let low : new_logical count pair ≤ 65536 = logical-low pair in
        let counted : length (map Var names) ≡ length def.fields =
        length-map names Var ∙ few_from (new_logical count pair) (length def.fields) in
        let cell : IsAtom (with_parts k) structs params (Points e kind (map Var names)) =
        (e_is, rw is_def counted, from-small (new_logical count pair) (length def.fields) k (omega arith)) in
        let parts : length pair.state.heap.pure + length pair.state.heap.spatial ≤ k = room.state.heap.parts in
        let light : length pair.missing.pure + length pair.missing.spatial + length pair.state.heap.spatial ≤ j = room.light in
        let more : length (atoms_of pair ++ Points e kind (map Var names) ∷ []) ≡ length (atoms_of pair) + 1 =
        length_push (atoms_of pair) (Points e kind (map Var names)) in
        let also : length (pair.missing.spatial ++ Points e kind (map Var names) ∷ []) ≡ length pair.missing.spatial + 1 =
        length_push pair.missing.spatial (Points e kind (map Var names)) in
        record {
          state = record {
            one_each = room.state.one_each;
            locals = room.state.locals;
            heap =
                record {
                  parts = omega arith;
                  facts = room.state.heap.facts;
                  atoms =
                      All-push (IsAtom (with_parts k) structs params) (atoms_of pair)
                      (Points e kind (map Var names)) room.state.heap.atoms cell;
                };
          };
          facts = room.facts;
          atoms = All-push (IsAtom widest structs params) pair.missing.spatial (Points e kind (map Var names)) room.atoms cell;
          light = omega arith;
        }

    without-room : (mode' : Mode) (kind : List ℕ) (e : Exp) (pair : Pair) → Room k j pair → IsExp (with_parts k) params e →
        All (ExposedRoom (k + 2) (j + 2)) (without_atom mode' setting kind e pair)
    without-room Strict kind e pair room e_is = one-exposed (k + 2) (j + 2) (Lacking (cause_at e)) tt
    without-room Search kind e pair room e_is = by_logical (is_logical_variable e)
      where
        by_clash : (def : StructDef) → struct_named structs kind ≡ Some def → (b : Bool) →
            All (ExposedRoom (k + 2) (j + 2))
            (if b then Lacking fault.Unowned ∷ []
            else shown (formed mode count
            (with_atom_in_both (Points e kind (map Var (variables_from (new_logical count pair) (length def.fields)))) pair)))
        by_clash def is_def true = one-exposed (k + 2) (j + 2) (Lacking fault.Unowned) tt
        by_clash def is_def false =
            form-room structs are params slots (ExposedRoom (k + 2) (j + 2)) (λ one. Shown one ∷ []) mode count (k + 2) (j + 2)
            (with_atom_in_both (Points e kind (map Var (variables_from (new_logical count pair) (length def.fields)))) pair)
            (cell-room kind e def pair room e_is is_def) shown-room

        by_def : (o : Option StructDef) → struct_named structs kind ≡ o →
            All (ExposedRoom (k + 2) (j + 2)) (miss_struct setting kind e pair o)
        by_def None is_def = one-exposed (k + 2) (j + 2) (Lacking fault.Kind) tt
        by_def (Some def) is_def =
            by_clash def is_def
            (contradicts (with_atom (Points e kind (map Var (variables_from (new_logical count pair) (length def.fields)))) pair.missing))

        by_logical : (b : Bool) →
            All (ExposedRoom (k + 2) (j + 2)) (if b then miss_struct setting kind e pair (struct_named structs kind) else lacking e)
        by_logical true = by_def (struct_named structs kind) refl
        by_logical false = one-exposed (k + 2) (j + 2) (Lacking (cause_at e)) tt

    -- the segment goes, and its ends are equal
    empty-room : (fact : Fact) (pair : Pair) (place : ℕ) (atom : Atom) → Room k j pair → slice_get (atoms_of pair) place ≡ Some atom →
        IsFact (with_parts k) params fact →
        Room k j (with_state_fact fact (with_missing_fact mode fact (without_segment place pair)))
    empty-room fact pair place atom room got is = by_mode mode
      where
        shorter : length (remove (atoms_of pair) place) + 1 ≡ length (atoms_of pair)
        shorter = remove-shorter (atoms_of pair) place atom got

        with_both : (missing : SymHeap) → All (IsFact widest params) missing.pure → All (IsAtom widest structs params) missing.spatial →
            length missing.pure + length missing.spatial ≤ length pair.missing.pure + length pair.missing.spatial + 1 →
            Room k j (with_state_fact fact (record (without_segment place pair) { missing = missing }))
        with_both missing facts atoms more =
            let parts : length pair.state.heap.pure + length pair.state.heap.spatial ≤ k = room.state.heap.parts in
            let light : length pair.missing.pure + length pair.missing.spatial + length pair.state.heap.spatial ≤ j = room.light in
            let longer : length (pair.state.heap.pure ++ fact ∷ []) ≡ length pair.state.heap.pure + 1 =
            length_push pair.state.heap.pure fact in
            let less : length (remove (atoms_of pair) place) + 1 ≡ length (atoms_of pair) = shorter in
            record {
              state = record {
                one_each = room.state.one_each;
                locals = room.state.locals;
                heap =
                    record {
                      parts = omega arith;
                      facts = All-push (IsFact (with_parts k) params) pair.state.heap.pure fact room.state.heap.facts is;
                      atoms = All-remove (IsAtom (with_parts k) structs params) (atoms_of pair) place room.state.heap.atoms;
                    };
              };
              facts = facts;
              atoms = atoms;
              light = omega arith;
            }

        by_logical : (b : Bool) →
            Room k j (with_state_fact fact
            (if b then record (without_segment place pair) { missing = with_fact fact pair.missing } else without_segment place pair))
        by_logical true =
            let longer : length (pair.missing.pure ++ fact ∷ []) ≡ length pair.missing.pure + 1 = length_push pair.missing.pure fact in
            with_both (with_fact fact pair.missing) (All-push (IsFact widest params) pair.missing.pure fact room.facts is) room.atoms
            (omega arith)
        by_logical false = with_both pair.missing room.facts room.atoms (omega arith)

        by_mode : (mode' : Mode) → Room k j (with_state_fact fact (with_missing_fact mode' fact (without_segment place pair)))
        by_mode Strict = with_both pair.missing room.facts room.atoms (omega arith)
        by_mode Search = by_logical (is_logical_fact fact)

    full-room : (pair : Pair) (place : ℕ) (kind : List ℕ) (link : ℕ) (from to : Exp) (def : StructDef) (next : ℕ) → Room k j pair →
        slice_get (atoms_of pair) place ≡ Some (Seg kind link from to) → struct_named structs kind ≡ Some def →
        slice_get (new_existentials (length def.fields) pair) link ≡ Some next →
        Room (k + 1) (j + 1) (with_unfolded place kind link from to (new_existentials (length def.fields) pair) next pair)
    full-room pair place kind link from to def next room got is_def is_next =
        let names : List ℕ = new_existentials (length def.fields) pair in
        let segment : IsAtom (with_parts k) structs params (Seg kind link from to) =
        All-get (IsAtom (with_parts k) structs params) (atoms_of pair) place (Seg kind link from to) got room.state.heap.atoms in
        let narrow_struct : length def.fields ≤ 32768 = few_fields structs kind def are is_def in
        let exps : All (IsExp (with_parts k) params) (map Var names) =
        new-exps structs are params slots narrow k j (length def.fields) k pair room (omega arith) (omega arith) (omega arith) in
        let link_exp : IsExp (with_parts k) params (Var next) =
        All-get (IsExp (with_parts k) params) (map Var names) link (Var next) (map-get names link next is_next) exps in
        let counted : length (map Var names) ≡ length def.fields =
        length-map names Var ∙ length-fresh_variables (length def.fields) (pair_variables pair) in
        let cell : IsAtom (with_parts k) structs params (Points from kind (map Var names)) = (segment.1, rw is_def counted, exps) in
        let rest : IsAtom (with_parts k) structs params (Seg kind link (Var next) to) = (segment.0, link_exp, segment.2) in
        let parts : length pair.state.heap.pure + length pair.state.heap.spatial ≤ k = room.state.heap.parts in
        let light : length pair.missing.pure + length pair.missing.spatial + length pair.state.heap.spatial ≤ j = room.light in
        let less : length (remove (atoms_of pair) place) + 1 ≡ length (atoms_of pair) =
        remove-shorter (atoms_of pair) place (Seg kind link from to) got in
        let more : length (insert (remove (atoms_of pair) place) place (Seg kind link (Var next) to))
        ≡ length (remove (atoms_of pair) place) + 1 = insert-longer (remove (atoms_of pair) place) place (Seg kind link (Var next) to) in
        let again : length
        (insert (insert (remove (atoms_of pair) place) place (Seg kind link (Var next) to)) place (Points from kind (map Var names)))
        ≡ length (insert (remove (atoms_of pair) place) place (Seg kind link (Var next) to)) + 1 =
        insert-longer (insert (remove (atoms_of pair) place) place (Seg kind link (Var next) to)) place
        (Points from kind (map Var names)) in
        atoms-room k (k + 1) j (j + 1)
        (insert (insert (remove (atoms_of pair) place) place (Seg kind link (Var next) to)) place
        (Points from kind (map Var names))) pair room (omega arith) (omega arith)
        (All-insert (IsAtom (with_parts k) structs params) (insert (remove (atoms_of pair) place) place (Seg kind link (Var next) to)) place
        (Points from kind (map Var names)) cell
        (All-insert (IsAtom (with_parts k) structs params) (remove (atoms_of pair) place) place (Seg kind link (Var next) to) rest
        (All-remove (IsAtom (with_parts k) structs params) (atoms_of pair) place room.state.heap.atoms)))
      where
        map-get : (xs : List ℕ) (at : ℕ) (x : ℕ) → slice_get xs at ≡ Some x → slice_get (map Var xs) at ≡ Some (Var x)
        map-get [] at x is = cc
        map-get (y ∷ ys) zero x is = let same : y ≡ x = cc in rw same refl
        map-get (y ∷ ys) (suc at) x is = map-get ys at x is

    -- the ends may be said to differ
    ends-room : (mode' : Mode) (from to : Exp) (full : Pair) → Room (k + 1) (j + 1) full → IsFact widest params (Ne from to) →
        All (ExposedRoom (k + 2) (j + 2)) (shown (where_ends_differ mode' setting from to full))
    ends-room Strict from to full room is =
        form-room structs are params slots (ExposedRoom (k + 2) (j + 2)) (λ one. Shown one ∷ []) Strict count (k + 2) (j + 2) full
        (room-more structs are params slots (k + 1) (k + 2) (j + 1) (j + 2) (omega arith) (omega arith) full room) shown-room
    ends-room Search from to full room is =
        form-room structs are params slots (ExposedRoom (k + 2) (j + 2)) (λ one. Shown one ∷ []) mode count (k + 2) (j + 2)
        (with_state_fact (Ne from to) (with_missing_fact mode (Ne from to) full))
        (room-more structs are params slots (k + 1 + 1) (k + 2) (j + 1 + 1) (j + 2) (omega arith) (omega arith)
        (with_state_fact (Ne from to) (with_missing_fact mode (Ne from to) full))
        (true-room structs are params slots narrow mode (k + 1) (j + 1) (Ne from to) full room is)) shown-room

    segment-room : (again : Pair → List Exposed) → ((form : Pair) → Room k j form → All (ExposedRoom (k + 2) (j + 2)) (again form)) →
        (pair : Pair) (place : ℕ) (kind : List ℕ) (link : ℕ) (from to : Exp) → Room k j pair →
        slice_get (atoms_of pair) place ≡ Some (Seg kind link from to) →
        All (ExposedRoom (k + 2) (j + 2))
        (empty_case again setting pair place from to ++ unfolded_case setting pair place kind link from to (struct_named structs kind))
    segment-room again later pair place kind link from to room got =
        All-append (ExposedRoom (k + 2) (j + 2)) (empty_case again setting pair place from to)
        (unfolded_case setting pair place kind link from to (struct_named structs kind))
        (by_test (differs pair.state.heap from to)) (by_def (struct_named structs kind) refl)
      where
        segment : IsAtom (with_parts k) structs params (Seg kind link from to)
        segment = All-get (IsAtom (with_parts k) structs params) (atoms_of pair) place (Seg kind link from to) got room.state.heap.atoms

        by_test : (b : Bool) →
            All (ExposedRoom (k + 2) (j + 2))
            (if b then []
            else unless_left_out again
            (formed mode count (with_state_fact (Eq from to) (with_missing_fact mode (Eq from to) (without_segment place pair)))))
        by_test true = All-nil (ExposedRoom (k + 2) (j + 2))
        by_test false =
            form-room structs are params slots (ExposedRoom (k + 2) (j + 2)) again mode count k j
            (with_state_fact (Eq from to) (with_missing_fact mode (Eq from to) (without_segment place pair)))
            (empty-room (Eq from to) pair place (Seg kind link from to) room got (segment.1, segment.2)) later

        by_next : (def : StructDef) → struct_named structs kind ≡ Some def → (next : Option ℕ) →
            slice_get (new_existentials (length def.fields) pair) link ≡ next →
            All (ExposedRoom (k + 2) (j + 2))
            (unfolded_to setting pair place kind link from to (new_existentials (length def.fields) pair) next)
        by_next def is_def None is_next = one-exposed (k + 2) (j + 2) (Lacking fault.Kind) tt
        by_next def is_def (Some next) is_next =
            ends-room mode from to (with_unfolded place kind link from to (new_existentials (length def.fields) pair) next pair)
            (full-room pair place kind link from to def next room got is_def is_next) (segment.1, segment.2)

        by_def : (def : Option StructDef) → struct_named structs kind ≡ def →
            All (ExposedRoom (k + 2) (j + 2)) (unfolded_case setting pair place kind link from to def)
        by_def None is_def = one-exposed (k + 2) (j + 2) (Lacking fault.Kind) tt
        by_def (Some def) is_def = by_next def is_def (slice_get (new_existentials (length def.fields) pair) link) refl

    exposed-room : (turns : ℕ) (kind : List ℕ) (slot : ℕ) (pair : Pair) → Room k j pair →
        All (ExposedRoom (k + 2) (j + 2)) (expose_within turns setting kind slot pair)
    exposed-room zero kind slot pair room = without-room mode kind (in_slot pair slot) pair room (operand-exp k j pair room (Slot slot))
    exposed-room (suc turns) kind slot pair room =
        by_test (exposed-room turns kind slot) (list_any (is_cell_at (in_slot pair slot)) (atoms_of pair))
      where
        by_atom : ((form : Pair) → Room k j form → All (ExposedRoom (k + 2) (j + 2)) (expose_within turns setting kind slot form)) →
            (place : ℕ) (atom : Option Atom) → slice_get (atoms_of pair) place ≡ atom →
            All (ExposedRoom (k + 2) (j + 2))
            (cases_of_segment (λ later. expose_within turns setting kind slot later) setting (in_slot pair slot) pair place atom)
        by_atom later place None is = one-exposed (k + 2) (j + 2) (Lacking (cause_at (in_slot pair slot))) tt
        by_atom later place (Some (Points at kind' fields)) is = one-exposed (k + 2) (j + 2) (Lacking (cause_at (in_slot pair slot))) tt
        by_atom later place (Some (Seg kind' link from to)) is =
            segment-room (λ form. expose_within turns setting kind slot form) later pair place kind' link from to room is
        by_atom later place (Some Junk) is = one-exposed (k + 2) (j + 2) (Lacking (cause_at (in_slot pair slot))) tt

        by_place : ((form : Pair) → Room k j form → All (ExposedRoom (k + 2) (j + 2)) (expose_within turns setting kind slot form)) →
            (place : Option ℕ) →
            All (ExposedRoom (k + 2) (j + 2))
            (at_segment (λ later. expose_within turns setting kind slot later) setting kind (in_slot pair slot) pair place)
        by_place later None = without-room mode kind (in_slot pair slot) pair room (operand-exp k j pair room (Slot slot))
        by_place later (Some place) = by_atom later place (slice_get (atoms_of pair) place) refl

        by_test : ((form : Pair) → Room k j form → All (ExposedRoom (k + 2) (j + 2)) (expose_within turns setting kind slot form)) →
            (b : Bool) →
            All (ExposedRoom (k + 2) (j + 2))
            (if b then Shown pair ∷ []
            else at_segment (λ later. expose_within turns setting kind slot later) setting kind (in_slot pair slot) pair
            (position (is_segment_from (in_slot pair slot)) (atoms_of pair)))
        by_test later true =
            one-exposed (k + 2) (j + 2) (Shown pair)
            (room-more structs are params slots k (k + 2) j (j + 2) (omega arith) (omega arith) pair room)
        by_test later false = by_place later (position (is_segment_from (in_slot pair slot)) (atoms_of pair))

    expose-room : (kind : List ℕ) (slot : ℕ) (pair : Pair) → Room k j pair →
        All (ExposedRoom (k + 2) (j + 2)) (expose setting kind slot pair)
    expose-room kind slot pair = exposed-room (length (atoms_of pair)) kind slot pair

  -- ---- what is done with the cell

  at-cell-room : (m i : ℕ) (use_atom : ℕ → Option Atom → Case) (slot : ℕ) (pair : Pair) →
      ((place : ℕ) (atom : Option Atom) → slice_get (atoms_of pair) place ≡ atom → CaseRoom m i (use_atom place atom)) →
      (place : Option ℕ) →
      CaseRoom m i (at_place use_atom slot pair place)
  at-cell-room m i use_atom slot pair one None = tt
  at-cell-room m i use_atom slot pair one (Some place) = one place (slice_get (atoms_of pair) place) refl

  each-room : (k m j i : ℕ) (use_atom : Pair → ℕ → Option Atom → Case) (slot : ℕ) →
      ((pair : Pair) → Room k j pair → (place : ℕ) (atom : Option Atom) → slice_get (atoms_of pair) place ≡ atom →
      CaseRoom m i (use_atom pair place atom)) →
      (cases : List Exposed) → All (ExposedRoom k j) cases → All (CaseRoom m i) (for_each_case use_atom slot cases)
  each-room k m j i use_atom slot one [] each = All-nil (CaseRoom m i)
  each-room k m j i use_atom slot one (Shown pair ∷ cases) each =
      All-cons (CaseRoom m i) (at_place (use_atom pair) slot pair (cell_place slot pair)) (for_each_case use_atom slot cases)
      (at-cell-room m i (use_atom pair) slot pair (one pair (All-head (ExposedRoom k j) (Shown pair) cases each)) (cell_place slot pair))
      (each-room k m j i use_atom slot one cases (All-tail (ExposedRoom k j) (Shown pair) cases each))
  each-room k m j i use_atom slot one (Lacking cause ∷ cases) each =
      All-cons (CaseRoom m i) (Drops cause) (for_each_case use_atom slot cases) tt
      (each-room k m j i use_atom slot one cases (All-tail (ExposedRoom k j) (Lacking cause) cases each))

  module _ (k j : ℕ) (pair : Pair) (room : Room k j pair) where
    load-atom : (to base : ℕ) (kind : List ℕ) (field next : ℕ) → next < nodes → (place : ℕ) (atom : Option Atom) →
        slice_get (atoms_of pair) place ≡ atom → CaseRoom k j (load_cell to base kind field next pair place atom)
    load-atom to base kind field next there place None got = tt
    load-atom to base kind field next there place (Some (Points at kind' fields)) got = by_kind (bytes_eq kind' kind)
      where
        by_kind : (b : Bool) → CaseRoom k j (if b then load_fields to field next pair at fields else Drops fault.Kind)
        by_kind true =
            let cell : IsAtom (with_parts k) structs params (Points at kind' fields) =
            All-get (IsAtom (with_parts k) structs params) (atoms_of pair) place (Points at kind' fields) got room.state.heap.atoms in (
              there,
              slot-room k j to (slice_index_or fields field (Const (pos 0))) pair room
                  (All-or (IsExp (with_parts k) params) fields field (Const (pos 0)) tt cell.2),
            )
        by_kind false = tt
    load-atom to base kind field next there place (Some (Seg kind' link from to')) got = tt
    load-atom to base kind field next there place (Some Junk) got = tt

    store-atom : (base : ℕ) (kind : List ℕ) (field : ℕ) (from : Operand) (next : ℕ) → next < nodes → (place : ℕ) (atom : Option Atom) →
        slice_get (atoms_of pair) place ≡ atom → CaseRoom k j (store_cell base kind field from next pair place atom)
    store-atom base kind field from next there place None got = tt
    store-atom base kind field from next there place (Some (Points at kind' fields)) got = by_kind (bytes_eq kind' kind) refl
      where
        by_kind : (b : Bool) → bytes_eq kind' kind ≡ b →
            CaseRoom k j (if b then store_fields kind field from next pair place at fields else Drops fault.Kind)
        by_kind true same =
            let one : kind' ≡ kind = (bytes_eq-Decides kind' kind).0 same in
            let cell : IsAtom (with_parts k) structs params (Points at kind' fields) =
            All-get (IsAtom (with_parts k) structs params) (atoms_of pair) place (Points at kind' fields) got room.state.heap.atoms in
            let shaped : IsSomeAnd (struct_named structs kind) (λ def. length fields ≡ length def.fields) =
            subst (λ name. IsSomeAnd (struct_named structs name) (λ def. length fields ≡ length def.fields)) one cell.1 in
            let alike : length (slice_set fields field (operand pair from)) ≡ length fields = length-set fields field (operand pair from) in
            let written : IsAtom (with_parts k) structs params (Points at kind (slice_set fields field (operand pair from))) = (
              cell.0,
              subst (λ size. IsSomeAnd (struct_named structs kind) (λ def. size ≡ length def.fields)) (sym alike) shaped,
              All-set
                  (IsExp (with_parts k) params) fields field (operand pair from) (operand-exp k j pair room from) cell.2,
            ) in
            let parts : length pair.state.heap.pure + length pair.state.heap.spatial ≤ k = room.state.heap.parts in
            let light : length pair.missing.pure + length pair.missing.spatial + length pair.state.heap.spatial ≤ j = room.light in
            let many : length (slice_set (atoms_of pair) place (Points at kind (slice_set fields field (operand pair from))))
            ≡ length (atoms_of pair) = length-set (atoms_of pair) place (Points at kind (slice_set fields field (operand pair from))) in (
              there,
              atoms-room k k j j (slice_set (atoms_of pair) place (Points at kind (slice_set fields field (operand pair from)))) pair room
                  (omega arith) (omega arith)
                  (All-set (IsAtom (with_parts k) structs params) (atoms_of pair) place
                  (Points at kind (slice_set fields field (operand pair from))) written room.state.heap.atoms),
            )
        by_kind false other = tt
    store-atom base kind field from next there place (Some (Seg kind' link from' to)) got = tt
    store-atom base kind field from next there place (Some Junk) got = tt

    free-atom : (next : ℕ) → next < nodes → (place : ℕ) (atom : Option Atom) → slice_get (atoms_of pair) place ≡ atom →
        CaseRoom k j (without_cell next pair place atom)
    free-atom next there place atom got =
        let parts : length pair.state.heap.pure + length pair.state.heap.spatial ≤ k = room.state.heap.parts in
        let light : length pair.missing.pure + length pair.missing.spatial + length pair.state.heap.spatial ≤ j = room.light in
        let less : length (remove (atoms_of pair) place) ≤ length (atoms_of pair) = fewer (atoms_of pair) place in (
          there,
          atoms-room k k j j (remove (atoms_of pair) place) pair room (omega arith) (omega arith)
              (All-remove (IsAtom (with_parts k) structs params) (atoms_of pair) place room.state.heap.atoms),
        )
      where
        fewer : (xs : List Atom) (at : ℕ) → length (remove xs at) ≤ length xs
        fewer [] zero = omega arith
        fewer [] (suc at) = omega arith
        fewer (x ∷ xs) zero = omega arith
        fewer (x ∷ xs) (suc at) = let less : length (remove xs at) ≤ length xs = fewer xs at in omega arith

  -- ---- the rows

  module _ (k j : ℕ) (few : k ≤ 4000) (small : j ≤ 8000) (pair : Pair) (room : Room k j pair) where
    -- three parts more
    abbrev Cases : List Case → Type 0
    Cases = All (CaseRoom (k + 3) (j + 3))

    wider : (form : Pair) → Room k j form → Room (k + 3) (j + 3) form
    wider form is = room-more structs are params slots k (k + 3) j (j + 3) (omega arith) (omega arith) form is

    on-case : (next : ℕ) (form : Pair) → next < nodes → Room k j form → Cases (On next form ∷ [])
    on-case next form there is = one-case (k + 3) (j + 3) (On next form) (there, wider form is)

    pub copy-room : (to : ℕ) (from : Operand) (next : ℕ) → next < nodes → All (CaseRoom (k + 3) (j + 3)) (copy to from next pair)
    copy-room to from next there =
        on-case next (with_slot to (operand pair from) pair) there
        (slot-room k j to (operand pair from) pair room (operand-exp k j pair room from))

    any-pair : (to : ℕ) → Room k j (with_any to pair)
    any-pair to =
        slot-room k j to (Var (fresh (pair_variables pair))) pair room
        (All-head (IsExp (with_parts k) params) (Var (fresh (pair_variables pair))) []
        (new-exps structs are params slots narrow k j 1 k pair room (omega arith) (omega arith) (omega arith)))

    pub any-room : (to next : ℕ) → next < nodes → All (CaseRoom (k + 3) (j + 3)) (any to next pair)
    any-room to next there = on-case next (with_any to pair) there (any-pair to)

    pub arith-room : (to : ℕ) (op : ArithOp) (left right : Operand) (next : ℕ) → next < nodes →
        All (CaseRoom (k + 3) (j + 3)) (arith_cases to op left right next pair)
    arith-room to op left right next there =
        on-case next (with_result to op (operand pair left) (operand pair right) pair) there
        (by_exps (operand pair left) (operand pair right))
      where
        by_exps : (e f : Exp) → Room k j (with_result to op e f pair)
        by_exps (Const m) (Const n) = slot-room k j to (Const _) pair room tt
        by_exps (Const m) (Var y) = any-pair to
        by_exps (Var x) (Const n) = any-pair to
        by_exps (Var x) (Var y) = any-pair to

    pub return-room : (value : Operand) → All (CaseRoom (k + 3) (j + 3)) (leave value pair)
    return-room value =
        let wide : Room (k + 3) (j + 3) pair = wider pair room in
        one-case (k + 3) (j + 3) (Leaves _) (record {
          state = record {
            one_each = refl;
            locals =
                All-cons (IsExp (with_parts (k + 3)) params) (operand pair value) [] (operand-exp k j pair room value)
                (All-nil (IsExp (with_parts (k + 3)) params));
            heap = wide.state.heap;
          };
          facts = wide.facts;
          atoms = wide.atoms;
          light = wide.light;
        })

    pub load-room : (to base : ℕ) (kind : List ℕ) (field next : ℕ) → next < nodes →
        All (CaseRoom (k + 3) (j + 3)) (load setting to base kind field next pair)
    load-room to base kind field next there =
        each-room (k + 2) (k + 3) (j + 2) (j + 3) (load_cell to base kind field next) base
        (λ one is place atom got. load-atom (k + 3) (j + 3) one
        (room-more structs are params slots (k + 2) (k + 3) (j + 2) (j + 3) (omega arith)
        (omega arith) one is) to base kind field next there place atom got)
        (expose setting kind base pair) (expose-room k j (omega arith) (omega arith) kind base pair room)

    pub store-room : (base : ℕ) (kind : List ℕ) (field : ℕ) (from : Operand) (next : ℕ) → next < nodes →
        All (CaseRoom (k + 3) (j + 3)) (store setting base kind field from next pair)
    store-room base kind field from next there =
        each-room (k + 2) (k + 3) (j + 2) (j + 3) (store_cell base kind field from next) base
        (λ one is place atom got. store-atom (k + 3) (j + 3) one
        (room-more structs are params slots (k + 2) (k + 3) (j + 2) (j + 3) (omega arith)
        (omega arith) one is) base kind field from next there place atom got)
        (expose setting kind base pair) (expose-room k j (omega arith) (omega arith) kind base pair room)

    -- with one fact more, in the normal form; it may be missing too
    fact-case : (fact : Fact) (next : ℕ) → next < nodes → IsFact widest params fact →
        Cases (goes_on next (formed mode count (with_state_fact fact (with_missing_fact mode fact pair))))
    fact-case fact next there is =
        form-room structs are params slots (CaseRoom (k + 3) (j + 3)) (λ one. On next one ∷ []) mode count (k + 1) (j + 1)
        (with_state_fact fact (with_missing_fact mode fact pair)) (true-room structs are params slots narrow mode k j fact pair room is)
        (λ form good. one-case (k + 3) (j + 3) (On next form)
        (there, room-more structs are params slots (k + 1) (k + 3) (j + 1) (j + 3) (omega arith) (omega arith) form good))

    state-case : (fact : Fact) (next : ℕ) → next < nodes → IsFact widest params fact →
        Cases (goes_on next (formed mode count (with_state_fact fact pair)))
    state-case fact next there is =
        form-room structs are params slots (CaseRoom (k + 3) (j + 3)) (λ one. On next one ∷ []) mode count (k + 1) j
        (with_state_fact fact pair) (fact-room structs are params slots narrow k j fact pair room is)
        (λ form good. one-case (k + 3) (j + 3) (On next form)
        (there, room-more structs are params slots (k + 1) (k + 3) j (j + 3) (omega arith) (omega arith) form good))

    pub free-room : (base : ℕ) (kind : List ℕ) (next : ℕ) → next < nodes → All (CaseRoom (k + 3) (j + 3)) (free setting base kind next pair)
    free-room base kind next there = by_same (same_exp (in_slot pair base) (Const (pos 0)))
      where
        e_is : IsExp (with_parts k) params (in_slot pair base)
        e_is = operand-exp k j pair room (Slot base)

        by_null : (b : Bool) →
            Cases (if b then []
            else goes_on next
            (formed mode count
            (with_state_fact (Eq (in_slot pair base) (Const (pos 0)))
            (with_missing_fact mode (Eq (in_slot pair base) (Const (pos 0))) pair))))
        by_null true = All-nil (CaseRoom (k + 3) (j + 3))
        by_null false = fact-case (Eq (in_slot pair base) (Const (pos 0))) next there (e_is, tt)

        by_cell : Cases (free_cell setting base kind (in_slot pair base) next pair)
        by_cell =
            form-room structs are params slots (CaseRoom (k + 3) (j + 3))
            (λ apart. for_each_case (without_cell next) base (expose setting kind base apart)) mode count (k + 1) (j + 1)
            (with_state_fact (Ne (in_slot pair base) (Const (pos 0)))
            (with_missing_fact mode (Ne (in_slot pair base) (Const (pos 0))) pair))
            (true-room structs are params slots narrow mode k j (Ne (in_slot pair base) (Const (pos 0))) pair room (e_is, tt))
            (λ form good. each-room (k + 1 + 2) (k + 3) (j + 1 + 2) (j + 3) (without_cell next) base
            (λ one is place atom got. free-atom (k + 3) (j + 3) one
            (room-more structs are params slots (k + 1 + 2) (k + 3) (j + 1 + 2) (j + 3) (omega arith)
            (omega arith) one is) next there place atom got)
            (expose setting kind base form) (expose-room (k + 1) (j + 1) (omega arith) (omega arith) kind base form good))

        by_same : (b : Bool) →
            Cases (if b then On next pair ∷ []
            else free_null setting (in_slot pair base) next pair ++ free_cell setting base kind (in_slot pair base) next pair)
        by_same true = on-case next pair there room
        by_same false =
            All-append (CaseRoom (k + 3) (j + 3)) (free_null setting (in_slot pair base) next pair)
            (free_cell setting base kind (in_slot pair base) next pair)
            (by_null (differs pair.state.heap (in_slot pair base) (Const (pos 0)))) by_cell

    pub new-room : (to : ℕ) (kind : List ℕ) (next : ℕ) → next < nodes → All (CaseRoom (k + 3) (j + 3)) (new_cases setting to kind next pair)
    new-room to kind next there =
        All-cons (CaseRoom (k + 3) (j + 3)) (On next (with_slot to (Const (pos 0)) pair))
        (new_struct to kind next pair (struct_named structs kind) ∷ [])
        (there, wider (with_slot to (Const (pos 0)) pair) (slot-room k j to (Const (pos 0)) pair room tt))
        (one-case (k + 3) (j + 3) (new_struct to kind next pair (struct_named structs kind)) (by_def (struct_named structs kind) refl))
      where
        by_def : (o : Option StructDef) → struct_named structs kind ≡ o → CaseRoom (k + 3) (j + 3) (new_struct to kind next pair o)
        by_def None is = tt
        by_def (Some def) is =
            let address : ℕ = fresh (pair_variables pair) in
            let names : List ℕ = fresh_variables (length def.fields) (pair_variables pair ++ fresh (pair_variables pair) ∷ []) in
            let narrow_struct : length def.fields ≤ 32768 = few_fields structs kind def are is in
            let exps : All (IsExp (with_parts (k + 1)) params) (Var address ∷ map Var names) =
            new-exps structs are params slots narrow k j (suc (length def.fields)) (k + 1) pair room (omega arith) (omega arith)
            (omega arith) in
            let counted : length (map Var names) ≡ length def.fields =
            length-map names Var ∙ length-fresh_variables (length def.fields) (pair_variables pair ++ fresh (pair_variables pair) ∷ []) in
            let cell : IsAtom (with_parts (k + 1)) structs params (Points (Var address) kind (map Var names)) = (
              All-head (IsExp (with_parts (k + 1)) params) (Var address) (map Var names) exps,
              rw is counted,
              All-tail
                  (IsExp (with_parts (k + 1)) params) (Var address) (map Var names) exps,
            ) in
            let parts : length pair.state.heap.pure + length pair.state.heap.spatial ≤ k = room.state.heap.parts in
            let light : length pair.missing.pure + length pair.missing.spatial + length pair.state.heap.spatial ≤ j = room.light in
            let more : length (atoms_of pair ++ Points (Var address) kind (map Var names) ∷ []) ≡ length (atoms_of pair) + 1 =
            length_push (atoms_of pair) (Points (Var address) kind (map Var names)) in
            let made : Room (k + 1) (j + 1) (with_atoms (atoms_of pair ++ Points (Var address) kind (map Var names) ∷ []) pair) =
            atoms-room k (k + 1) j (j + 1) (atoms_of pair ++ Points (Var address) kind (map Var names) ∷ []) pair room (omega arith)
            (omega arith)
            (All-push (IsAtom (with_parts k) structs params) (atoms_of pair)
            (Points (Var address) kind (map Var names)) room.state.heap.atoms cell) in (
              there,
              room-more structs are params slots (k + 1) (k + 3) (j + 1) (j + 3) (omega arith) (omega arith)
                  (with_new to kind (new_existentials (suc (length def.fields)) pair) pair)
                  (slot-room (k + 1) (j + 1) to (Var address)
                  (with_atoms (atoms_of pair ++ Points (Var address) kind (map Var names) ∷ []) pair) made
                  (All-head (IsExp (with_parts (k + 1)) params) (Var address) (map Var names) exps)),
            )

    pub branch-room : (op : TestOp) (pointers : Bool) (left right : Operand) (on_true on_false : ℕ) → on_true < nodes → on_false < nodes →
        All (CaseRoom (k + 3) (j + 3)) (branch setting op pointers left right on_true on_false pair)
    branch-room op pointers left right on_true on_false there_true there_false = by_op op
      where
        e_is : IsExp (with_parts k) params (operand pair left)
        e_is = operand-exp k j pair room left

        f_is : IsExp (with_parts k) params (operand pair right)
        f_is = operand-exp k j pair room right

        side : (b : Bool) (one other : ℕ) → one < nodes → other < nodes → (if b then one else other) < nodes
        side true one other there_one there_other = there_one
        side false one other there_one there_other = there_other

        decided : (b : Bool) (one other : ℕ) → one < nodes → other < nodes → Cases (On (if b then one else other) pair ∷ [])
        decided b one other there_one there_other = on-case (if b then one else other) pair (side b one other there_one there_other) room

        where-room : (p : Bool) (fact : Fact) (next : ℕ) → next < nodes → IsFact widest params fact →
            Cases (where_test_is setting p fact next pair)
        where-room true fact next there is = fact-case fact next there is
        where-room false fact next there is = state-case fact next there is

        by_equal : (o : Option Bool) →
            Cases (branch_equal setting pointers (operand pair left) (operand pair right) on_true on_false pair o)
        by_equal None =
            All-append (CaseRoom (k + 3) (j + 3))
            (where_test_is setting pointers (Eq (operand pair left) (operand pair right)) on_true pair)
            (where_test_is setting pointers (Ne (operand pair left) (operand pair right)) on_false pair)
            (where-room pointers (Eq (operand pair left) (operand pair right)) on_true there_true (e_is, f_is))
            (where-room pointers (Ne (operand pair left) (operand pair right)) on_false there_false (e_is, f_is))
        by_equal (Some b) = decided b on_true on_false there_true there_false

        by_unequal : (o : Option Bool) →
            Cases (branch_unequal setting pointers (operand pair left) (operand pair right) on_true on_false pair o)
        by_unequal None =
            All-append (CaseRoom (k + 3) (j + 3))
            (where_test_is setting pointers (Ne (operand pair left) (operand pair right)) on_true pair)
            (where_test_is setting pointers (Eq (operand pair left) (operand pair right)) on_false pair)
            (where-room pointers (Ne (operand pair left) (operand pair right)) on_true there_true (e_is, f_is))
            (where-room pointers (Eq (operand pair left) (operand pair right)) on_false there_false (e_is, f_is))
        by_unequal (Some b) = decided b on_false on_true there_false there_true

        by_other : (o : Option Bool) → Cases (branch_other on_true on_false pair o)
        by_other None =
            All-cons (CaseRoom (k + 3) (j + 3)) (On on_true pair) (On on_false pair ∷ []) (there_true, wider pair room)
            (on-case on_false pair there_false room)
        by_other (Some b) = decided b on_true on_false there_true there_false

        by_op : (op' : TestOp) → Cases (branch_on setting op' pointers (operand pair left) (operand pair right) on_true on_false pair)
        by_op test.Eq = by_equal (are_equal pair.state.heap (operand pair left) (operand pair right))
        by_op test.Ne = by_unequal (are_equal pair.state.heap (operand pair left) (operand pair right))
        by_op test.Lt = by_other (passes test.Lt (operand pair left) (operand pair right))
        by_op test.Le = by_other (passes test.Le (operand pair left) (operand pair right))
        by_op test.Gt = by_other (passes test.Gt (operand pair left) (operand pair right))
        by_op test.Ge = by_other (passes test.Ge (operand pair left) (operand pair right))
