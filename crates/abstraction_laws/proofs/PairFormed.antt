-- What abstraction answers of pairs and candidates is well formed where what was given is.
use Rattle.std.specs.Prelude.{◌≡◌, ℕ, zero, suc, ◌+◌, ◌*◌, ◌<◌, ◌≤◌, Bool, true, false, not, ◌==◌, leb, ltb, nat_lt, List, [], ◌∷◌, filter}
use Rattle.std.specs.Prelude.{length, map, option_map, All}
use Rattle.std.specs.List.{position_or_len}
use Rattle.std.specs.Option.{IsSomeAnd}
use Rattle.std.specs.declared.option.Option.{Option}
use Rattle.std.specs.declared.option.Option.TheVariants.{None, Some}
use Rattle.std.proofs.Common.{refl, sym, subst, ◌∙◌, arith, lit≤}
use Rattle.std.proofs.lemmas.Bool.{and_parts, lt-ltb, ltb-true}
use Rattle.std.proofs.lemmas.List.{length-map}
use Rattle.std.proofs.lemmas.List.Elements.{All-cons, All-filter, All-head, All-nil, All-tail, All-weaker}
use Rattle.shape_data.specs.declared.program.HeadMark.{HeadMark}
use Rattle.shape_data.specs.declared.program.StructDef.{StructDef}
use Rattle.shape_data.specs.declared.symbolic.Atom.{Atom}
use Rattle.shape_data.specs.declared.symbolic.Atom.TheVariants.{Points, Seg, Junk}
use Rattle.shape_data.specs.declared.symbolic.Exp.{Exp}
use Rattle.shape_data.specs.declared.symbolic.Exp.TheVariants.{Var, Const}
use Rattle.shape_data.specs.declared.symbolic.Fact.{Fact}
use Rattle.shape_data.specs.declared.symbolic.Fact.TheVariants.{Eq, Ne}
use Rattle.shape_data.specs.declared.symbolic.SymHeap.{SymHeap}
use Rattle.shape_data.specs.declared.symbolic.SymState.{SymState}
use Rattle.shape_data.specs.Heap.{struct_named}
use Rattle.shape_data.specs.WellFormed.{AreStructs, IsAtom, IsExp, IsFact, IsState, IsSymHeap, Limits, widest}
use Rattle.sym_parts.specs.Laws.Each.{EachInFact}
use Rattle.sym_parts.specs.Laws.Expressions.{is_among}
use Rattle.sym_parts.specs.Laws.Mapped.{on_atom, on_fact, on_heap, on_state}
use Rattle.sym_pure.specs.Equations.{read_through}
use Rattle.sym_pure.proofs.PartsLaws.{filter-fewer}
use Rattle.sym_pure.proofs.ReadThrough.{read_through-each}
use Rattle.sym_pure.proofs.WellFormedLaws.{form_is_well_formed, to_each}
use Rattle.sym_canon.specs.declared.parts.Pair.{Pair}
use Rattle.sym_canon.specs.declared.parts.Variables.TheVariants.{Further}
use Rattle.sym_canon.specs.Canonical.{arranged, sight_state, with_facts_sorted, without_locals}
use Rattle.sym_canon.specs.FactOrder.{sorted_facts}
use Rattle.sym_canon.specs.Numbering.{with_number}
use Rattle.sym_forms.specs.PairForms.{is_further_equation, pair_form}
use Rattle.sym_forms.specs.Sizes.{bounded, fields_in, most_exps}
use Rattle.sym_forms.proofs.PairFormLaws.{IsForm, form-is}
use Rattle.sym_forms.proofs.WellFormedLaws.{arranged_is_well_formed, seen-longer, sorted-each, sorted-length}
use Rattle.abstraction_laws.specs.Forgetting.{first_new}
use Rattle.abstraction_laws.specs.Joining.{Join, find_join}
use Rattle.abstraction_laws.specs.Losing.{is_disequality_of, is_lost_among}
use Rattle.abstraction_laws.specs.Occurrences.{exps_of_heap}
use Rattle.abstraction_laws.specs.Pairs.{beside_nothing, canon_of, exps_beside_facts, five_steps, heap_with_join, is_further}
use Rattle.abstraction_laws.specs.Pairs.{is_lost_equation, is_unknown, join_pair, join_pair_once, join_pair_times, lose_equations}
use Rattle.abstraction_laws.specs.Pairs.{lose_in_pair, made_existential, make_existential, may_join, pair_in_forms, pair_with_join}
use Rattle.abstraction_laws.specs.Pairs.{reduce_state, state_joined_at}
use Rattle.abstraction_laws.specs.Results.{AbstractPairIsWellFormed, AbstractPairIsWithin, AbstractPreIsWellFormed, IsPair, with_at_most}
use Rattle.abstraction_laws.specs.Rooms.{HasRoom}
use Rattle.abstraction_laws.proofs.AtomsLaws.{HasNoMoreAtoms, arranged-long, pair_form-short, steps-short}
use Rattle.abstraction_laws.proofs.KeptLaws.{found-each}
use Rattle.abstraction_laws.proofs.NormalResults.{joined-short}
use Rattle.abstraction_laws.proofs.PairRoomLaws.{joined_pair_has_room}
use Rattle.abstraction_laws.proofs.RoomLaws.{few-fields, few_is_within_room}
use Rattle.abstraction_laws.proofs.WellFormedResults.{head-fits-within, joined-fits, loosen, loosen-atom, loosen-fact}

-- each 32-bit number may be a variable, and there may be so many parts
abbrev wide : ℕ → Limits
wide most = record (bounded 4294967296) { parts = most }

-- ---- a function on expressions

module _ (from to : Limits) (structs : List StructDef) (params : ℕ) (f : Exp → Exp)
    (brings : (e : Exp) → IsExp from params e → IsExp to params (f e)) where
  exps-mapped : (es : List Exp) → All (IsExp from params) es → All (IsExp to params) (map f es)
  exps-mapped [] is = All-nil (IsExp to params)
  exps-mapped (e ∷ es) is =
      All-cons (IsExp to params) (f e) (map f es) (brings e (All-head (IsExp from params) e es is))
      (exps-mapped es (All-tail (IsExp from params) e es is))

  as-many : (fields : List Exp) (def : Option StructDef) → IsSomeAnd def (λ d. length fields ≡ length d.fields) →
      IsSomeAnd def (λ d. length (map f fields) ≡ length d.fields)
  as-many fields None h = h
  as-many fields (Some def) h = length-map fields f ∙ h

  atom-mapped : (atom : Atom) → IsAtom from structs params atom → IsAtom to structs params (on_atom f atom)
  atom-mapped (Points at kind fields) is = (brings at is.0, as-many fields (struct_named structs kind) is.1, exps-mapped fields is.2)
  atom-mapped (Seg kind link start end) is = (is.0, brings start is.1, brings end is.2)
  atom-mapped Junk is = tt

  fact-mapped : (fact : Fact) → IsFact from params fact → IsFact to params (on_fact f fact)
  fact-mapped (Eq left right) is = (brings left is.0, brings right is.1)
  fact-mapped (Ne left right) is = (brings left is.0, brings right is.1)

  atoms-mapped : (atoms : List Atom) → All (IsAtom from structs params) atoms → All (IsAtom to structs params) (map (on_atom f) atoms)
  atoms-mapped [] is = All-nil (IsAtom to structs params)
  atoms-mapped (atom ∷ atoms) is =
      All-cons (IsAtom to structs params) (on_atom f atom) (map (on_atom f) atoms)
      (atom-mapped atom (All-head (IsAtom from structs params) atom atoms is))
      (atoms-mapped atoms (All-tail (IsAtom from structs params) atom atoms is))

  facts-mapped : (facts : List Fact) → All (IsFact from params) facts → All (IsFact to params) (map (on_fact f) facts)
  facts-mapped [] is = All-nil (IsFact to params)
  facts-mapped (fact ∷ facts) is =
      All-cons (IsFact to params) (on_fact f fact) (map (on_fact f) facts) (fact-mapped fact (All-head (IsFact from params) fact facts is))
      (facts-mapped facts (All-tail (IsFact from params) fact facts is))

  heap-mapped : (heap : SymHeap) → from.parts ≤ to.parts → IsSymHeap from structs params heap → IsSymHeap to structs params (on_heap f heap)
  heap-mapped heap less is =
      let facts : length (map (on_fact f) heap.pure) ≡ length heap.pure = length-map heap.pure (on_fact f) in
      let atoms : length (map (on_atom f) heap.spatial) ≡ length heap.spatial = length-map heap.spatial (on_atom f) in
      record {
        parts = omega (arith, facts, atoms, is.parts, less);
        facts = facts-mapped heap.pure is.facts;
        atoms = atoms-mapped heap.spatial is.atoms;
      }

  state-mapped : (slots : ℕ) (state : SymState) → from.parts ≤ to.parts → IsState from structs params slots state →
      IsState to structs params slots (on_state f state)
  state-mapped slots state less is =
      record {
        one_each = length-map state.locals f ∙ is.one_each;
        locals = exps-mapped state.locals is.locals;
        heap = heap-mapped state.heap less is.heap;
      }

-- each heap of a pair has few atoms
record HasFewAtoms (pair : Pair) : Type 0 where
  missing : length pair.missing.spatial ≤ 12000
  state : length pair.state.heap.spatial ≤ 12000

few-fewer : (before after : Pair) → HasNoMoreAtoms before after → HasFewAtoms before → HasFewAtoms after
few-fewer before after less few =
    record { missing = omega (arith, less.missing, few.missing); state = omega (arith, less.state, few.state) }

module _ (most : ℕ) (structs : List StructDef) (params : ℕ) where
  -- ---- joins

  join-fits : (may : ℕ → Bool) (heap : SymHeap) → IsSymHeap (wide most) structs params heap →
      IsSymHeap (wide most) structs params (heap_with_join heap (find_join may heap.spatial))
  join-fits may heap is =
      let few : length heap.pure + length heap.spatial ≤ most = is.parts in
      record {
        parts = omega (arith, joined-short may heap.spatial, few);
        facts = is.facts;
        atoms =
            found-each (IsAtom (wide most) structs params) tt (joined-fits 4294967296 (lit≤ tt) structs params) may heap.spatial is.atoms;
      }

  at-fits : (slots : ℕ) (state : SymState) (middle : Exp) → IsState (wide most) structs params slots state →
      IsState (wide most) structs params slots (state_joined_at state middle)
  at-fits slots state (Var x) is = record { one_each = is.one_each; locals = is.locals; heap = join-fits (λ y. y == x) state.heap is.heap }
  at-fits slots state (Const n) is = is

  once-fits : (slots : ℕ) (pair : Pair) → IsPair (wide most) structs params slots pair →
      IsPair (wide most) structs params slots (join_pair_once params pair)
  once-fits slots pair is =
      by_found (find_join (may_join params pair.state) pair.missing.spatial)
      (join-fits (may_join params pair.state) pair.missing is.missing)
    where
      by_found : (o : Option Join) → IsSymHeap (wide most) structs params (heap_with_join pair.missing o) →
          IsPair (wide most) structs params slots (pair_with_join pair o)
      by_found None h = is
      by_found (Some join) h = record { missing = h; state = at-fits slots pair.state join.middle is.state }

  times-fits : (turns slots : ℕ) (pair : Pair) → IsPair (wide most) structs params slots pair →
      IsPair (wide most) structs params slots (join_pair_times turns params pair)
  times-fits zero slots pair is = is
  times-fits (suc turns) slots pair is = times-fits turns slots (join_pair_once params pair) (once-fits slots pair is)

  -- ---- the third step

  made-fits : (first : ℕ) (missing : SymHeap) → first + 65536 ≤ 4294967296 → (e : Exp) → IsExp (wide most) params e →
      IsExp (wide most) params (made_existential params first missing e)
  made-fits first missing room (Const n) is = tt
  made-fits first missing room (Var x) is = by_test (is_unknown params missing x) refl
    where
      by_test : (b : Bool) → is_unknown params missing x ≡ b → IsExp (wide most) params (made_existential params first missing (Var x))
      by_test true e =
          let further : is_further params x ≡ true =
          (and_parts (is_further params x) (not (is_among (Var x) (exps_of_heap missing))) e).0 in
          let low : x < 65536 = ltb-true x 65536 ((and_parts (leb params x) (ltb x 65536) further).1) in
          rw e (lt-ltb (first + x) 4294967296 (omega (arith, low, room)))
      by_test false e = rw e is

  existential-fits : (slots : ℕ) (pair : Pair) → first_new pair.state + 65536 ≤ 4294967296 → IsPair (wide most) structs params slots pair →
      IsPair (wide most) structs params slots (make_existential params pair)
  existential-fits slots pair room is = record {
    missing = is.missing;
    state =
        state-mapped (wide most) (wide most) structs params (made_existential params (first_new pair.state) pair.missing)
        (made-fits (first_new pair.state) pair.missing room) slots pair.state (omega arith) is.state;
  }

  -- ---- facts that go

  facts-fit : (test : Fact → Bool) (heap : SymHeap) → IsSymHeap (wide most) structs params heap →
      IsSymHeap (wide most) structs params (record { pure = filter test heap.pure; spatial = heap.spatial })
  facts-fit test heap is =
      let few : length heap.pure + length heap.spatial ≤ most = is.parts in
      record {
        parts = omega (arith, filter-fewer test heap.pure, few);
        facts = All-filter test (IsFact (wide most) params) heap.pure is.facts;
        atoms = is.atoms;
      }

  equations-fit : (slots : ℕ) (pair : Pair) → IsPair (wide most) structs params slots pair →
      IsPair (wide most) structs params slots (lose_equations params pair)
  equations-fit slots pair is = record {
    missing = is.missing;
    state =
        record {
          one_each = is.state.one_each;
          locals = is.state.locals;
          heap = facts-fit (λ fact. not (is_lost_equation params pair.missing fact)) pair.state.heap is.state.heap;
        };
  }

  lost-fits : (slots : ℕ) (pair : Pair) → IsPair (wide most) structs params slots pair →
      IsPair (wide most) structs params slots (lose_in_pair params pair)
  lost-fits slots pair is =
      let test : Fact → Bool = λ fact. not (is_disequality_of (is_lost_among params (exps_beside_facts pair)) fact) in
      record {
        missing = facts-fit test pair.missing is.missing;
        state = record { one_each = is.state.one_each; locals = is.state.locals; heap = facts-fit test pair.state.heap is.state.heap };
      }

  -- ---- the normal form of a pair

  read-fits : (facts : List Fact) → All (IsFact (wide most) params) facts → (e : Exp) → IsExp (wide most) params e →
      IsExp (wide most) params (read_through facts e)
  read-fits facts is =
      read_through-each (IsExp (wide most) params) facts
      (All-weaker (IsFact (wide most) params) (EachInFact (IsExp (wide most) params)) (to_each (wide most) structs params) facts is)

  bare-fits : (limits : Limits) (heap : SymHeap) → IsSymHeap limits structs params heap →
      IsState limits structs params 0 (without_locals heap)
  bare-fits limits heap is = record { one_each = refl; locals = All-nil (IsExp limits params); heap = is }

  form-fits : (slots : ℕ) (pair form : Pair) → IsForm params pair form → IsPair (wide most) structs params slots pair →
      IsPair (wide most) structs params slots form
  form-fits slots pair form is h =
      let missing : IsState (wide most) structs params 0 is.missing =
      form_is_well_formed (wide most) structs params 0 (without_locals pair.missing) is.missing is.missing_is
      (bare-fits (wide most) pair.missing h.missing) in
      let through : SymState = on_state (read_through is.missing.heap.pure) pair.state in
      let read : IsState (wide most) structs params slots through =
      state-mapped (wide most) (wide most) structs params (read_through is.missing.heap.pure)
      (read-fits is.missing.heap.pure missing.heap.facts) slots pair.state (omega arith) h.state in
      record {
        missing =
            subst (IsSymHeap (wide most) structs params) (sym is.form_is)
            (facts-fit (λ fact. not (is_further_equation params fact)) is.missing.heap missing.heap);
        state = form_is_well_formed (wide most) structs params slots through form.state is.state_is read;
      }

  -- ---- the canonical form of a pair

  few-exps : (limits : Limits) (slots : ℕ) (state : SymState) → limits.parts ≤ 131100000 → AreStructs structs → slots ≤ 32768 →
      length state.heap.spatial ≤ 12000 → IsState limits structs params slots state → most_exps state ≤ 660000000
  few-exps limits slots state small are few atoms is =
      let fields : fields_in state.heap.spatial ≤ length state.heap.spatial * 32768 =
      few-fields limits structs params are.each state.heap.spatial is.heap.atoms in
      omega (arith, fields, is.heap.parts, small, is.one_each, few, atoms)

  arranged-fits : (slots : ℕ) (state : SymState) → most ≤ 131100000 → AreStructs structs → slots ≤ 32768 →
      length state.heap.spatial ≤ 12000 → IsState (wide most) structs params slots state →
      IsState (with_at_most most) structs params slots (arranged params state)
  arranged-fits slots state small are few atoms is =
      let exps : most_exps state ≤ 660000000 = few-exps (wide most) slots state small are few atoms is in
      arranged_is_well_formed (wide most) (with_at_most most) structs params slots state
      (record {
        logical = λ x low is. lt-ltb x 2147483648 (omega (arith, low));
        numbered = λ place low. lt-ltb (65536 + place) 2147483648 (omega (arith, low, exps));
        parts = omega arith;
      }) is

  number-fits : (seen : List ℕ) → params + length seen ≤ 2147483648 → (e : Exp) → IsExp (with_at_most most) params e →
      IsExp (with_at_most most) params (with_number params seen e)
  number-fits seen few (Const n) is = tt
  number-fits seen few (Var x) is = by_place (nat_lt (position_or_len (λ y. x == y) seen) (length seen)) refl
    where
      by_place : (b : Bool) → nat_lt (position_or_len (λ y. x == y) seen) (length seen) ≡ b →
          IsExp (with_at_most most) params (with_number params seen (Var x))
      by_place true e =
          let low : position_or_len (λ y. x == y) seen < length seen = ltb-true (position_or_len (λ y. x == y) seen) (length seen) e in
          rw e (lt-ltb (params + position_or_len (λ y. x == y) seen) 2147483648 (omega (arith, low, few)))
      by_place false e = rw e is

  turned : (left right : Exp) → IsFact (with_at_most most) params (Ne left right) → IsFact (with_at_most most) params (Ne right left)
  turned left right h = (h.1, h.0)

  sorted-fits : (heap : SymHeap) → IsSymHeap (with_at_most most) structs params heap →
      IsSymHeap (with_at_most most) structs params (with_facts_sorted heap)
  sorted-fits heap is =
      let long : length (sorted_facts heap.pure) ≡ length heap.pure = sorted-length heap.pure in
      record {
        parts = omega (arith, long, is.parts);
        facts = sorted-each (IsFact (with_at_most most) params) turned heap.pure is.facts;
        atoms = is.atoms;
      }

  canon-fits : (slots : ℕ) (pair : Pair) → most ≤ 131100000 → AreStructs structs → slots ≤ 32768 → params ≤ 32768 → HasFewAtoms pair →
      IsPair (wide most) structs params slots pair → IsPair (with_at_most most) structs params slots (canon_of params pair)
  canon-fits slots pair small are few_slots few atoms is =
      let first : SymState = arranged params (without_locals pair.missing) in
      let second : SymState = arranged params pair.state in
      let before : List ℕ = sight_state (Further params) first [] in
      let seen : List ℕ = sight_state (Further params) second before in
      let one : IsState (with_at_most most) structs params 0 first =
      arranged-fits 0 (without_locals pair.missing) small are (omega arith) atoms.missing
      (bare-fits (wide most) pair.missing is.missing) in
      let two : IsState (with_at_most most) structs params slots second =
      arranged-fits slots pair.state small are few_slots atoms.state is.state in
      let few_first : length first.heap.spatial ≤ 12000 =
      omega (arith, arranged-long params (without_locals pair.missing), atoms.missing) in
      let few_second : length second.heap.spatial ≤ 12000 = omega (arith, arranged-long params pair.state, atoms.state) in
      let most_one : most_exps first ≤ 660000000 = few-exps (with_at_most most) 0 first small are (omega arith) few_first one in
      let most_two : most_exps second ≤ 660000000 = few-exps (with_at_most most) slots second small are few_slots few_second two in
      let long_one : length before ≤ 0 + most_exps first = seen-longer (Further params) first [] in
      let long : length seen ≤ length before + most_exps second = seen-longer (Further params) second before in
      let room : params + length seen ≤ 2147483648 = omega (arith, few, most_one, most_two, long_one, long) in
      let number : Exp → Exp = with_number params seen in
      let m : IsState (with_at_most most) structs params 0 (on_state number first) =
      state-mapped (with_at_most most) (with_at_most most) structs params number (number-fits seen room) 0 first (omega arith) one in
      let s : IsState (with_at_most most) structs params slots (on_state number second) =
      state-mapped (with_at_most most) (with_at_most most) structs params number (number-fits seen room) slots second (omega arith) two in
      record {
        missing = sorted-fits (on_heap number first.heap) m.heap;
        state = record { one_each = s.one_each; locals = s.locals; heap = sorted-fits (on_heap number second.heap) s.heap };
      }

  in_forms-fit : (slots : ℕ) (pair answer : Pair) → most ≤ 131100000 → AreStructs structs → slots ≤ 32768 → params ≤ 32768 →
      HasFewAtoms pair → IsPair (wide most) structs params slots pair → pair_in_forms params pair ≡ Some answer →
      IsPair (with_at_most most) structs params slots answer
  in_forms-fit slots pair answer small are few_slots few atoms is h = by_form (pair_form params pair) refl h
    where
      by_form : (o : Option Pair) → pair_form params pair ≡ o → option_map (canon_of params) o ≡ Some answer →
          IsPair (with_at_most most) structs params slots answer
      by_form None e k = cc
      by_form (Some form) e k =
          let same : canon_of params form ≡ answer = cc in
          let formed : IsForm params pair form = form-is params pair form e in
          let fewer : HasFewAtoms form = few-fewer pair form (pair_form-short params pair form formed) atoms in
          subst (IsPair (with_at_most most) structs params slots) same
          (canon-fits slots form small are few_slots few fewer (form-fits slots pair form formed is))

  -- what is well formed, between the other limits
  heap-loosened : (heap : SymHeap) → IsSymHeap (with_at_most most) structs params heap → IsSymHeap (wide most) structs params heap
  heap-loosened heap is = record {
    parts = is.parts;
    facts =
        All-weaker (IsFact (with_at_most most) params) (IsFact (wide most) params)
        (loosen-fact 4294967296 (lit≤ tt) structs params) heap.pure is.facts;
    atoms =
        All-weaker (IsAtom (with_at_most most) structs params) (IsAtom (wide most) structs params)
        (loosen-atom 4294967296 (lit≤ tt) structs params) heap.spatial is.atoms;
  }

  steps-fit : (kinds : List StructDef) (slots : ℕ) (pair : Pair) (mark : HeadMark) → HasRoom pair.state →
      IsPair (with_at_most most) structs params slots pair → IsPair (wide most) structs params slots (five_steps params kinds mark pair)
  steps-fit kinds slots pair mark has is =
      let first : Pair = reduce_state kinds mark pair in
      let second : Pair = join_pair params first in
      let room : first_new second.state + 65536 ≤ 4294967296 = joined_pair_has_room kinds params pair mark has in
      let one : IsPair (wide most) structs params slots first =
      record {
        missing = heap-loosened pair.missing is.missing;
        state = head-fits-within most structs kinds params slots pair.state mark has is.state;
      } in
      let two : IsPair (wide most) structs params slots second = times-fits (length first.missing.spatial) slots first one in
      lost-fits slots (lose_equations params (make_existential params second))
      (equations-fit slots (make_existential params second) (existential-fits slots second room two))

-- a well-formed pair, between the wide limits
pair-loosened : (most : ℕ) (structs : List StructDef) (params slots : ℕ) (pair : Pair) →
    IsPair (with_at_most most) structs params slots pair → IsPair (wide most) structs params slots pair
pair-loosened most structs params slots pair is = record {
  missing = heap-loosened most structs params pair.missing is.missing;
  state = record {
    one_each = is.state.one_each;
    locals =
        All-weaker (IsExp widest params) (IsExp (wide most) params)
        (loosen 4294967296 (lit≤ tt) structs params) pair.state.locals is.state.locals;
    heap = heap-loosened most structs params pair.state.heap is.state.heap;
  };
}

-- the canonical form of a well-formed pair of few atoms is well formed
pub canon_is_well_formed : (most : ℕ) (structs : List StructDef) (params slots : ℕ) (pair : Pair) → most ≤ 131100000 → AreStructs structs →
    slots ≤ 32768 → params ≤ 32768 → IsPair (with_at_most most) structs params slots pair →
    length pair.missing.spatial ≤ 12000 → length pair.state.heap.spatial ≤ 12000 →
    IsPair (with_at_most most) structs params slots (canon_of params pair)
canon_is_well_formed most structs params slots pair small are few_slots few is missing state =
    canon-fits most structs params slots pair small are few_slots few (record { missing = missing; state = state })
    (pair-loosened most structs params slots pair is)

-- and so is that of its normal form
pub in_forms_is_well_formed : (most : ℕ) (structs : List StructDef) (params slots : ℕ) (pair answer : Pair) → most ≤ 131100000 →
    AreStructs structs → slots ≤ 32768 → params ≤ 32768 → IsPair (with_at_most most) structs params slots pair →
    length pair.missing.spatial ≤ 12000 → length pair.state.heap.spatial ≤ 12000 → pair_in_forms params pair ≡ Some answer →
    IsPair (with_at_most most) structs params slots answer
in_forms_is_well_formed most structs params slots pair answer small are few_slots few is missing state h =
    in_forms-fit most structs params slots pair answer small are few_slots few (record { missing = missing; state = state })
    (pair-loosened most structs params slots pair is) h

pub abstract_pair_is_within : AbstractPairIsWithin
abstract_pair_is_within most structs kinds slots pair answer flow mark small are few_slots few is missing state h =
    let params : ℕ = length flow.params in
    let has : HasRoom pair.state = (few_is_within_room most structs params slots pair.state are few_slots is.state state).variables in
    let atoms : HasFewAtoms (five_steps params kinds mark pair) =
    few-fewer pair (five_steps params kinds mark pair) (steps-short params kinds mark pair)
    (record { missing = missing; state = state }) in
    in_forms-fit most structs params slots (five_steps params kinds mark pair) answer small are few_slots few atoms
    (steps-fit most structs params kinds slots pair mark has is) h

-- a heap of at most 4,000 parts has few atoms
pub abstract_pair_is_well_formed : AbstractPairIsWellFormed
abstract_pair_is_well_formed structs kinds slots pair answer flow mark are few_slots few is h =
    let missing : length pair.missing.pure + length pair.missing.spatial ≤ 4000 = is.missing.parts in
    let state : length pair.state.heap.pure + length pair.state.heap.spatial ≤ 4000 = is.state.heap.parts in
    abstract_pair_is_within 4000 structs kinds slots pair answer flow mark (lit≤ tt) are few_slots few is (omega (arith, missing))
    (omega (arith, state)) h

pub abstract_pre_is_well_formed : AbstractPreIsWellFormed
abstract_pre_is_well_formed structs missing answer params are few is h = by_pair (pair_in_forms params joined) refl h
  where
    first : Pair
    first = beside_nothing missing

    joined : Pair
    joined = join_pair params first

    nothing-fits : IsState (wide 4000) structs params 0 first.state
    nothing-fits = record {
      one_each = refl;
      locals = All-nil (IsExp (wide 4000) params);
      heap =
          record { parts = omega arith; facts = All-nil (IsFact (wide 4000) params); atoms = All-nil (IsAtom (wide 4000) structs params) };
    }

    joined-fit : IsPair (wide 4000) structs params 0 joined
    joined-fit =
        times-fits 4000 structs params (length missing.spatial) 0 first
        (record { missing = heap-loosened 4000 structs params missing is; state = nothing-fits })

    few-joined : HasFewAtoms joined
    few-joined =
        let missing_parts : length joined.missing.pure + length joined.missing.spatial ≤ 4000 = joined-fit.missing.parts in
        let state_parts : length joined.state.heap.pure + length joined.state.heap.spatial ≤ 4000 = joined-fit.state.heap.parts in
        record { missing = omega (arith, missing_parts); state = omega (arith, state_parts) }

    by_pair : (o : Option Pair) → pair_in_forms params joined ≡ o → option_map (λ pair. pair.missing) o ≡ Some answer →
        IsSymHeap widest structs params answer
    by_pair None e k = cc
    by_pair (Some pair) e k =
        let same : pair.missing ≡ answer = cc in
        subst (IsSymHeap widest structs params) same
        (in_forms-fit 4000 structs params 0 joined pair (lit≤ tt) are (omega arith) few few-joined joined-fit e).missing
