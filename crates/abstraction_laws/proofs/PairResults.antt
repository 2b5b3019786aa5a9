-- What abstraction answers of pairs and candidates is well formed where what was given is, and no larger.
use Rattle.std.specs.Prelude.{◌≡◌, ℕ, zero, suc, ◌≤◌, Bool, not, ◌==◌, List, [], filter, length, map, option_map}
use Rattle.std.specs.declared.option.Option.{Option}
use Rattle.std.specs.declared.option.Option.TheVariants.{None, Some}
use Rattle.std.proofs.Common.{refl, sym, subst, arith}
use Rattle.std.proofs.lemmas.List.{length-map}
use Rattle.shape_data.specs.declared.program.HeadMark.{HeadMark}
use Rattle.shape_data.specs.declared.program.StructDef.{StructDef}
use Rattle.shape_data.specs.declared.symbolic.Exp.{Exp}
use Rattle.shape_data.specs.declared.symbolic.Exp.TheVariants.{Var, Const}
use Rattle.shape_data.specs.declared.symbolic.Fact.{Fact}
use Rattle.shape_data.specs.declared.symbolic.SymState.{SymState}
use Rattle.sym_parts.specs.Laws.Mapped.{on_atom, on_fact, on_state}
use Rattle.sym_pure.specs.Equations.{read_through}
use Rattle.sym_pure.specs.Laws.{HasNoMoreParts}
use Rattle.sym_pure.proofs.PartsLaws.{filter-fewer, form_has_no_more_parts}
use Rattle.sym_canon.specs.declared.parts.Pair.{Pair}
use Rattle.sym_canon.specs.declared.parts.Variables.TheVariants.{Existential}
use Rattle.sym_canon.specs.Canonical.{arranged, sight_pair, sight_state, with_atoms_placed, without_locals}
use Rattle.sym_canon.specs.FactOrder.{sorted_facts}
use Rattle.sym_canon.specs.Numbering.{with_number}
use Rattle.sym_forms.specs.PairForms.{is_further_equation, pair_form}
use Rattle.sym_forms.proofs.PairFormLaws.{IsForm, form-is}
use Rattle.sym_forms.proofs.WellFormedLaws.{placed-length, sorted-length}
use Rattle.abstraction_laws.specs.Forgetting.{first_new}
use Rattle.abstraction_laws.specs.Joining.{Join, find_join, with_join}
use Rattle.abstraction_laws.specs.Losing.{is_disequality_of, is_lost_among}
use Rattle.abstraction_laws.specs.Pairs.{beside_nothing, canon_of, exps_beside_facts, five_steps, is_lost_equation, join_pair}
use Rattle.abstraction_laws.specs.Pairs.{join_pair_once, join_pair_times, lose_equations, lose_in_pair, made_existential, make_existential}
use Rattle.abstraction_laws.specs.Pairs.{may_join, pair_in_forms, pair_with_join, reduce_state, state_joined_at}
use Rattle.abstraction_laws.specs.Results.{AbstractPairHasNoMoreParts, AbstractPreHasNoMoreParts}
use Rattle.abstraction_laws.proofs.NormalResults.{at_head-small, joined-short, larger-trans, parts_of}

-- no part of the second pair has more parts than that of the first
pub record IsNoLarger (before after : Pair) : Type 0 where
  pub missing : parts_of after.missing ≤ parts_of before.missing
  pub state : HasNoMoreParts before.state after.state

no_larger-trans : (a b c : Pair) → IsNoLarger a b → IsNoLarger b c → IsNoLarger a c
no_larger-trans a b c first second = record {
  missing = let one : parts_of b.missing ≤ parts_of a.missing = first.missing in let two : parts_of c.missing
      ≤ parts_of b.missing = second.missing in omega (arith, one, two);
  state = larger-trans a.state b.state c.state first.state second.state;
}

same-parts : (state : SymState) → HasNoMoreParts state state
same-parts state = record { parts = omega arith; locals = refl }

reduced-small : (kinds : List StructDef) (mark : HeadMark) (pair : Pair) → IsNoLarger pair (reduce_state kinds mark pair)
reduced-small kinds mark pair = record { missing = omega arith; state = at_head-small kinds mark pair.state }

-- the state joined at a variable
at-small : (state : SymState) (middle : Exp) → HasNoMoreParts state (state_joined_at state middle)
at-small state (Var x) = let less : length (with_join state.heap.spatial (find_join (λ y. y == x) state.heap.spatial))
    ≤ length state.heap.spatial = joined-short (λ y. y == x) state.heap.spatial in record { parts = omega (arith, less); locals = refl }
at-small state (Const n) = same-parts state

once-small : (params : ℕ) (pair : Pair) → IsNoLarger pair (join_pair_once params pair)
once-small params pair =
    by_found (find_join (may_join params pair.state) pair.missing.spatial) (joined-short (may_join params pair.state) pair.missing.spatial)
  where
    by_found : (o : Option Join) → length (with_join pair.missing.spatial o) ≤ length pair.missing.spatial
        → IsNoLarger pair (pair_with_join pair o)
    by_found None less = record { missing = omega arith; state = same-parts pair.state }
    by_found (Some join) less = record { missing = omega (arith, less); state = at-small pair.state join.middle }

times-small : (turns params : ℕ) (pair : Pair) → IsNoLarger pair (join_pair_times turns params pair)
times-small zero params pair = record { missing = omega arith; state = same-parts pair.state }
times-small (suc turns) params pair =
    no_larger-trans pair (join_pair_once params pair) (join_pair_times turns params (join_pair_once params pair)) (once-small params pair)
    (times-small turns params (join_pair_once params pair))

-- a mapped state is as large
mapped-large : (f : Exp → Exp) (state : SymState) → HasNoMoreParts state (on_state f state)
mapped-large f state =
    let facts : length (map (on_fact f) state.heap.pure) ≡ length state.heap.pure = length-map state.heap.pure (on_fact f) in
    let atoms : length (map (on_atom f) state.heap.spatial) ≡ length state.heap.spatial = length-map state.heap.spatial (on_atom f) in
    record { parts = omega (arith, facts, atoms); locals = length-map state.locals f }

existential-small : (params : ℕ) (pair : Pair) → IsNoLarger pair (make_existential params pair)
existential-small params pair =
    record { missing = omega arith; state = mapped-large (made_existential params (first_new pair.state) pair.missing) pair.state }

equations-small : (params : ℕ) (pair : Pair) → IsNoLarger pair (lose_equations params pair)
equations-small params pair =
    let less = filter-fewer (λ fact. not (is_lost_equation params pair.missing fact)) pair.state.heap.pure in
    record { missing = omega arith; state = record { parts = omega (arith, less); locals = refl } }

lost-small : (params : ℕ) (pair : Pair) → IsNoLarger pair (lose_in_pair params pair)
lost-small params pair =
    let test : Fact → Bool = λ fact. not (is_disequality_of (is_lost_among params (exps_beside_facts pair)) fact) in
    let missing : length (filter test pair.missing.pure) ≤ length pair.missing.pure = filter-fewer test pair.missing.pure in
    let state : length (filter test pair.state.heap.pure) ≤ length pair.state.heap.pure = filter-fewer test pair.state.heap.pure in
    record { missing = omega (arith, missing); state = record { parts = omega (arith, state); locals = refl } }

steps-small : (params : ℕ) (kinds : List StructDef) (mark : HeadMark) (pair : Pair) → IsNoLarger pair (five_steps params kinds mark pair)
steps-small params kinds mark pair =
    let first : Pair = reduce_state kinds mark pair in
    let second : Pair = join_pair params first in
    let third : Pair = make_existential params second in
    let fourth : Pair = lose_equations params third in
    no_larger-trans pair fourth (lose_in_pair params fourth)
    (no_larger-trans pair third fourth
    (no_larger-trans pair second third
    (no_larger-trans pair first second (reduced-small kinds mark pair) (times-small (length first.missing.spatial) params first))
    (existential-small params second)) (equations-small params third)) (lost-small params fourth)

-- the normal form of a pair
form-small : (params : ℕ) (pair form : Pair) → IsForm params pair form → IsNoLarger pair form
form-small params pair form is =
    let missing = form_has_no_more_parts (without_locals pair.missing) is.missing is.missing_is in
    let state = form_has_no_more_parts (on_state (read_through is.missing.heap.pure) pair.state) form.state is.state_is in
    let facts = filter-fewer (λ fact. not (is_further_equation params fact)) is.missing.heap.pure in
    record {
      missing = subst (λ heap. parts_of heap ≤ parts_of pair.missing) (sym is.form_is) (omega (arith, missing.parts, facts));
      state =
          larger-trans pair.state (on_state (read_through is.missing.heap.pure) pair.state) form.state
          (mapped-large (read_through is.missing.heap.pure) pair.state) state;
    }

-- the canonical form of a pair
arranged-large : (params : ℕ) (state : SymState) → HasNoMoreParts state (arranged params state)
arranged-large params state =
    let placed : SymState = with_atoms_placed params state in
    let long : length placed.heap.spatial ≡ length state.heap.spatial = placed-length params state.locals state.heap.spatial in
    larger-trans state placed (arranged params state) (record { parts = omega (arith, long); locals = refl })
    (mapped-large (with_number 65536 (sight_state Existential placed [])) placed)

pub canon-small : (params : ℕ) (pair : Pair) → IsNoLarger pair (canon_of params pair)
canon-small params pair =
    let first : SymState = arranged params (without_locals pair.missing) in
    let second : SymState = arranged params pair.state in
    let number : Exp → Exp = with_number params (sight_pair params first second) in
    let one =
    larger-trans (without_locals pair.missing) first (on_state number first) (arranged-large params (without_locals pair.missing))
    (mapped-large number first) in
    let two = larger-trans pair.state second (on_state number second) (arranged-large params pair.state) (mapped-large number second) in
    let sorted_one : length (sorted_facts (map (on_fact number) first.heap.pure)) ≡ length (map (on_fact number) first.heap.pure) =
    sorted-length (map (on_fact number) first.heap.pure) in
    let sorted_two : length (sorted_facts (map (on_fact number) second.heap.pure)) ≡ length (map (on_fact number) second.heap.pure) =
    sorted-length (map (on_fact number) second.heap.pure) in
    record {
      missing = omega (arith, one.parts, sorted_one);
      state = record { parts = omega (arith, two.parts, sorted_two); locals = two.locals };
    }

pub in_forms-small : (params : ℕ) (pair answer : Pair) → pair_in_forms params pair ≡ Some answer → IsNoLarger pair answer
in_forms-small params pair answer h = by_form (pair_form params pair) refl h
  where
    by_form : (o : Option Pair) → pair_form params pair ≡ o → option_map (canon_of params) o ≡ Some answer → IsNoLarger pair answer
    by_form None e k = cc
    by_form (Some form) e k =
        let same : canon_of params form ≡ answer = cc in
        subst (IsNoLarger pair) same
        (no_larger-trans pair form (canon_of params form) (form-small params pair form (form-is params pair form e))
        (canon-small params form))

pub abstract_pair_has_no_more_parts : AbstractPairHasNoMoreParts
abstract_pair_has_no_more_parts pair answer flow mark kinds h =
    let params : ℕ = length flow.params in
    let small : IsNoLarger pair answer =
    no_larger-trans pair (five_steps params kinds mark pair) answer (steps-small params kinds mark pair)
    (in_forms-small params (five_steps params kinds mark pair) answer h) in
    (small.missing, small.state)

pub abstract_pre_has_no_more_parts : AbstractPreHasNoMoreParts
abstract_pre_has_no_more_parts missing answer params h = by_pair (pair_in_forms params joined) refl h
  where
    first : Pair
    first = beside_nothing missing

    joined : Pair
    joined = join_pair params first

    by_pair : (o : Option Pair) → pair_in_forms params joined ≡ o → option_map (λ pair. pair.missing) o ≡ Some answer
        → parts_of answer ≤ parts_of missing
    by_pair None e k = cc
    by_pair (Some pair) e k =
        let same : pair.missing ≡ answer = cc in
        let small : IsNoLarger first pair =
        no_larger-trans first joined pair (times-small (length missing.spatial) params first) (in_forms-small params joined pair e) in
        subst (λ heap. parts_of heap ≤ parts_of missing) same small.missing
