-- After a pair's state was reduced and the pair joined, there is room for as many new variables as there are logical ones: no rule
-- brings a variable but the new ones of the first.
use Rattle.std.specs.Prelude.{◌≡◌, ℕ, zero, suc, ◌+◌, ◌<◌, ◌≤◌, Bool, true, false, not, ◌==◌, ◌&&◌, if◌then◌else◌, List, [], ◌∷◌, ◌++◌}
use Rattle.std.specs.Prelude.{length, slice_get, position, All}
use Rattle.std.specs.Str.{bytes_eq}
use Rattle.std.specs.declared.option.Option.{Option}
use Rattle.std.specs.declared.option.Option.TheVariants.{None, Some}
use Rattle.std.proofs.Common.{refl, sym, subst, ◌∙◌, arith}
use Rattle.std.proofs.lemmas.List.Elements.{All-cons, All-filter, All-head, All-nil, All-tail, All-weaker}
use Rattle.shape_data.specs.declared.program.Field.{Field}
use Rattle.shape_data.specs.declared.program.HeadMark.{HeadMark}
use Rattle.shape_data.specs.declared.program.StructDef.{StructDef}
use Rattle.shape_data.specs.declared.symbolic.Atom.{Atom}
use Rattle.shape_data.specs.declared.symbolic.Atom.TheVariants.{Points, Seg, Junk}
use Rattle.shape_data.specs.declared.symbolic.Exp.{Exp}
use Rattle.shape_data.specs.declared.symbolic.Exp.TheVariants.{Var, Const}
use Rattle.shape_data.specs.declared.symbolic.SymHeap.{SymHeap}
use Rattle.shape_data.specs.declared.symbolic.SymState.{SymState}
use Rattle.shape_data.specs.Heap.{struct_named}
use Rattle.sym_parts.specs.Laws.Each.{EachInAtom, EachInFact, EachInState}
use Rattle.sym_parts.specs.Laws.Expressions.{same_exp}
use Rattle.sym_pure.proofs.EachLaws.{All-get}
use Rattle.sym_canon.specs.declared.parts.Pair.{Pair}
use Rattle.sym_forms.specs.Sizes.{fields_in, fields_of}
use Rattle.abstraction_laws.specs.Forgetting.{first_new, forget, forget_atom, forget_atoms, forget_cell, forget_fields, forget_slots}
use Rattle.abstraction_laws.specs.Forgetting.{forget_value, is_constant, is_forgotten, is_int}
use Rattle.abstraction_laws.specs.Heads.{at_head}
use Rattle.abstraction_laws.specs.Joining.{Join, end_by, find_join, segment_by, segment_of, segment_to, start_of}
use Rattle.abstraction_laws.specs.Losing.{is_disequality_of, is_lost_among}
use Rattle.abstraction_laws.specs.Occurrences.{exps_of_atoms, exps_of_state}
use Rattle.abstraction_laws.specs.Pairs.{join_pair, join_pair_once, join_pair_times, may_join, pair_with_join, reduce_state}
use Rattle.abstraction_laws.specs.Pairs.{state_joined_at}
use Rattle.abstraction_laws.specs.Reaching.{keep_reached}
use Rattle.abstraction_laws.specs.Repeating.{join_inner, reduce_once, reduce_times, size_of}
use Rattle.abstraction_laws.specs.Rooms.{JoinedPairHasRoom}
use Rattle.abstraction_laws.proofs.KeptLaws.{reduce-each, state_times-each}
use Rattle.abstraction_laws.proofs.OccurrenceLaws.{IsUnder, above-each, above-first, above-under, from_state, to_state}

-- what holds of each expression, and of the variables below a limit
module _ (P : Exp → Type 0) (limit : ℕ) (new : (x : ℕ) → x < limit → P (Var x)) where
  or-new : (b : Bool) (next : ℕ) (e : Exp) → next < limit → P e → P (if b then Var next else e)
  or-new true next e low is = new next low
  or-new false next e low is = is

  slots-each : (mark : HeadMark) (next slot : ℕ) (es : List Exp) → next + length es ≤ limit → All P es
      → All P (forget_slots mark next slot es)
  slots-each mark next slot [] room is = All-nil P
  slots-each mark next slot (e ∷ es) room is =
      All-cons P (if is_forgotten mark slot e then Var next else e) (forget_slots mark (next + 1) (slot + 1) es)
      (or-new (is_forgotten mark slot e) next e (omega (arith, room)) (All-head P e es is))
      (slots-each mark (next + 1) (slot + 1) es (omega (arith, room)) (All-tail P e es is))

  fields-each : (next : ℕ) (fields : List Field) (es : List Exp) → next + length es ≤ limit → All P es
      → All P (forget_fields next fields es)
  fields-each next fields [] room is = All-nil P
  fields-each next [] (e ∷ es) room is = is
  fields-each next (field ∷ fields) (e ∷ es) room is =
      All-cons P (forget_value next field.ty e) (forget_fields (next + 1) fields es)
      (or-new (is_int field.ty && is_constant e) next e (omega (arith, room)) (All-head P e es is))
      (fields-each (next + 1) fields es (omega (arith, room)) (All-tail P e es is))

  cell-each : (next : ℕ) (o : Option StructDef) (es : List Exp) → next + length es ≤ limit → All P es → All P (forget_cell next o es)
  cell-each next None es room is = is
  cell-each next (Some def) es room is = fields-each next def.fields es room is

  atom-each : (kinds : List StructDef) (next : ℕ) (atom : Atom) → next + fields_of atom ≤ limit → EachInAtom P atom
      → EachInAtom P (forget_atom kinds next atom)
  atom-each kinds next (Points at kind fields) room is = (is.0, cell-each next (struct_named kinds kind) fields room is.1)
  atom-each kinds next (Seg kind link from to) room is = is
  atom-each kinds next Junk room is = tt

  atoms-each : (kinds : List StructDef) (next : ℕ) (atoms : List Atom) → next + fields_in atoms ≤ limit → All (EachInAtom P) atoms
      → All (EachInAtom P) (forget_atoms kinds next atoms)
  atoms-each kinds next [] room is = All-nil (EachInAtom P)
  atoms-each kinds next (atom ∷ atoms) room is =
      All-cons (EachInAtom P) (forget_atom kinds next atom) (forget_atoms kinds (next + fields_of atom) atoms)
      (atom-each kinds next atom (omega (arith, room)) (All-head (EachInAtom P) atom atoms is))
      (atoms-each kinds (next + fields_of atom) atoms (omega (arith, room)) (All-tail (EachInAtom P) atom atoms is))

module _ (P : Exp → Type 0) where
  end-each : (kind : List ℕ) (link : ℕ) (atom : Atom) (to : Exp) → end_by kind link atom ≡ Some to → EachInAtom P atom → P to
  end-each kind link (Points at other fields) to ends is = by_kind (bytes_eq other kind) refl
    where
      by_kind : (b : Bool) → bytes_eq other kind ≡ b → P to
      by_kind true e = let got : slice_get fields link ≡ Some to = rw e at ends in All-get P fields link to got is.1
      by_kind false e = let bad : None ≡ Some to = rw e at ends in cc
  end-each kind link (Seg other field from end) to ends is = by_kind (bytes_eq other kind && field == link) refl
    where
      by_kind : (b : Bool) → (bytes_eq other kind && field == link) ≡ b → P to
      by_kind true e = let same : Some end ≡ Some to = rw e at ends in let equal : end ≡ to = cc in subst P equal is.1
      by_kind false e = let bad : None ≡ Some to = rw e at ends in cc
  end-each kind link Junk to ends is = cc

  to-each : (kind : List ℕ) (link : ℕ) (from : Exp) (other segment : Atom) (o : Option Exp) → end_by kind link other ≡ o
      → segment_to kind link from o ≡ Some segment → P from → EachInAtom P other → EachInAtom P segment
  to-each kind link from other segment None ends makes start is = cc
  to-each kind link from other segment (Some to) ends makes start is =
      let same : Seg kind link from to ≡ segment = cc in subst (EachInAtom P) same (start, end-each kind link other to ends is)

  -- what holds of each expression of two atoms holds of each of the segment that they are joined to
  pub joined-each : (v : Exp) (one other segment : Atom) → start_of other ≡ Some v → segment_of v one other ≡ Some segment
      → EachInAtom P one → EachInAtom P other → EachInAtom P segment
  joined-each v (Points at kind fields) other segment starts makes is also = by_link (position (same_exp v) fields) makes
    where
      by_link : (o : Option ℕ) → segment_by kind at other o ≡ Some segment → EachInAtom P segment
      by_link None f = cc
      by_link (Some link) f = to-each kind link at other segment (end_by kind link other) refl f is.0 also
  joined-each v (Seg kind link from to) other segment starts makes is also = by_test (same_exp v to) makes
    where
      by_test : (b : Bool) → (if b then segment_to kind link from (end_by kind link other) else None) ≡ Some segment → EachInAtom P segment
      by_test true f = to-each kind link from other segment (end_by kind link other) refl f is.0 also
      by_test false f = cc
  joined-each v Junk other segment starts makes is also = cc

  -- what holds of each expression of a heap's facts holds of those that stay when it is reduced
  pub times-facts : (turns : ℕ) (joins : Bool) (locals : List Exp) (heap : SymHeap) → All (EachInFact P) heap.pure
      → All (EachInFact P) (reduce_times turns joins locals heap).pure
  times-facts zero joins locals heap h = h
  times-facts (suc turns) joins locals heap h =
      times-facts turns joins locals (reduce_once joins locals heap)
      (All-filter (λ fact. not
      (is_disequality_of (is_lost_among 65536 (locals ++ exps_of_atoms (join_inner joins locals (keep_reached locals heap.spatial)))) fact))
      (EachInFact P) heap.pure h)

-- what stays of a pair's state when it is joined
joined-state : (params turns : ℕ) (pair : Pair)
    → ((join_pair_times turns params pair).state.locals ≡ pair.state.locals)
    × ((join_pair_times turns params pair).state.heap.pure ≡ pair.state.heap.pure)
joined-state params zero pair = (refl, refl)
joined-state params (suc turns) pair =
    let rest =
    joined-state params turns (join_pair_once params pair) in let one =
    once-state (find_join (may_join params pair.state) pair.missing.spatial) in (rest.0 ∙ one.0, rest.1 ∙ one.1)
  where
    at-state : (middle : Exp)
        → ((state_joined_at pair.state middle).locals ≡ pair.state.locals)
        × ((state_joined_at pair.state middle).heap.pure ≡ pair.state.heap.pure)
    at-state (Var x) = (refl, refl)
    at-state (Const n) = (refl, refl)

    once-state : (o : Option Join)
        → ((pair_with_join pair o).state.locals ≡ pair.state.locals) × ((pair_with_join pair o).state.heap.pure ≡ pair.state.heap.pure)
    once-state None = (refl, refl)
    once-state (Some join) = at-state join.middle

under-weaker : (low high : ℕ) → low ≤ high → (e : Exp) → IsUnder low e → IsUnder high e
under-weaker low high few (Var x) is = omega (arith, few, is)
under-weaker low high few (Const n) is = tt

pub joined_pair_has_room : JoinedPairHasRoom
joined_pair_has_room kinds params pair mark room =
    let state : SymState = pair.state in
    let limit : ℕ = first_new state + length state.locals + fields_in state.heap.spatial in
    let old : EachInState (IsUnder limit) state =
    to_state (IsUnder limit) state
    (All-weaker (IsUnder (first_new state)) (IsUnder limit) (under-weaker (first_new state) limit (omega arith)) (exps_of_state state)
    (above-each 65536 (exps_of_state state))) in
    let new : (x : ℕ) → x < limit → IsUnder limit (Var x) = λ x low. low in
    let forgotten : SymState = forget kinds mark state in
    let atoms : All (EachInAtom (IsUnder limit)) forgotten.heap.spatial =
    atoms-each (IsUnder limit) limit new kinds (first_new state + length state.locals) state.heap.spatial (omega arith) old.heap.atoms in
    let reduced_atoms : All (EachInAtom (IsUnder limit)) (at_head kinds mark state).heap.spatial =
    reduce-each (EachInAtom (IsUnder limit)) tt (joined-each (IsUnder limit)) true forgotten.locals forgotten.heap atoms in
    let before : Pair = reduce_state kinds mark pair in
    let turns : ℕ = length before.missing.spatial in
    let after : Pair = join_pair params before in
    let same = joined-state params turns before in
    let each : EachInState (IsUnder limit) after.state = record {
      locals =
          subst (All (IsUnder limit)) (sym same.0)
          (slots-each (IsUnder limit) limit new mark (first_new state) 0 state.locals (omega arith) old.locals);
      heap = record {
        facts =
            subst (All (EachInFact (IsUnder limit))) (sym same.1)
            (times-facts (IsUnder limit) (size_of forgotten.heap) true forgotten.locals forgotten.heap old.heap.facts);
        atoms = state_times-each (EachInAtom (IsUnder limit)) tt (joined-each (IsUnder limit)) turns params before reduced_atoms;
      };
    } in
    let low : 65536 ≤ limit = let first : 65536 ≤ first_new state = above-first 65536 (exps_of_state state) in omega (arith, first) in
    let last : first_new after.state ≤ limit =
    above-under limit 65536 (exps_of_state after.state) low (from_state (IsUnder limit) after.state each) in
    omega (arith, last, room)
