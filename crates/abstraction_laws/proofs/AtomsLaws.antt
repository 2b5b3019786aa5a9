-- No step on a pair makes its atoms more, nor does its normal form.
use Rattle.std.specs.Prelude.{◌≡◌, ℕ, zero, suc, ◌+◌, ◌≤◌, Bool, true, ◌==◌, List, [], length, map, option_map}
use Rattle.std.specs.declared.option.Option.{Option}
use Rattle.std.specs.declared.option.Option.TheVariants.{None, Some}
use Rattle.std.proofs.Common.{refl, sym, subst, ◌∙◌, arith}
use Rattle.std.proofs.lemmas.List.{length-map}
use Rattle.shape_data.specs.declared.program.HeadMark.{HeadMark}
use Rattle.shape_data.specs.declared.program.StructDef.{StructDef}
use Rattle.shape_data.specs.declared.symbolic.Exp.{Exp}
use Rattle.shape_data.specs.declared.symbolic.Exp.TheVariants.{Var, Const}
use Rattle.shape_data.specs.declared.symbolic.SymHeap.{SymHeap}
use Rattle.shape_data.specs.declared.symbolic.SymState.{SymState}
use Rattle.sym_parts.specs.Laws.Mapped.{on_atom, on_state}
use Rattle.sym_pure.specs.Equations.{read_through}
use Rattle.sym_pure.proofs.PartsLaws.{form_has_no_more_atoms}
use Rattle.sym_canon.specs.declared.parts.Pair.{Pair}
use Rattle.sym_canon.specs.declared.parts.Variables.TheVariants.{Existential}
use Rattle.sym_canon.specs.Canonical.{arranged, sight_pair, sight_state, with_atoms_placed, without_locals}
use Rattle.sym_canon.specs.Numbering.{with_number}
use Rattle.sym_canon.specs.Placing.{placed}
use Rattle.sym_forms.specs.PairForms.{pair_form}
use Rattle.sym_forms.proofs.PairFormLaws.{IsForm, form-is}
use Rattle.sym_forms.proofs.WellFormedLaws.{placed-length}
use Rattle.abstraction_laws.specs.Forgetting.{first_new, forget}
use Rattle.abstraction_laws.specs.Heads.{at_head}
use Rattle.abstraction_laws.specs.Joining.{Join, find_join, with_join}
use Rattle.abstraction_laws.specs.Pairs.{canon_of, five_steps, join_pair, join_pair_once, join_pair_times, made_existential, may_join}
use Rattle.abstraction_laws.specs.Pairs.{pair_in_forms, pair_with_join, reduce_state, state_joined_at}
use Rattle.abstraction_laws.specs.Reaching.{keep_reached}
use Rattle.abstraction_laws.specs.Repeating.{join_inner, reduce_once, reduce_times, size_of}
use Rattle.abstraction_laws.proofs.NormalResults.{forgotten-atoms, inner-short, joined-short, kept-short}

-- ---- the steps on a pair

-- no heap of the second pair has more atoms than that of the first
pub record HasNoMoreAtoms (before after : Pair) : Type 0 where
  pub missing : length after.missing.spatial ≤ length before.missing.spatial
  pub state : length after.state.heap.spatial ≤ length before.state.heap.spatial

pub no_more-trans : (a b c : Pair) → HasNoMoreAtoms a b → HasNoMoreAtoms b c → HasNoMoreAtoms a c
no_more-trans a b c first second = record {
  missing = omega (arith, first.missing, second.missing);
  state = omega (arith, first.state, second.state);
}

times-short : (turns : ℕ) (joins : Bool) (locals : List Exp) (heap : SymHeap)
    → length (reduce_times turns joins locals heap).spatial ≤ length heap.spatial
times-short zero joins locals heap = omega arith
times-short (suc turns) joins locals heap =
    let kept : length (keep_reached locals heap.spatial) ≤ length heap.spatial = kept-short locals heap.spatial in
    let inner : length (join_inner joins locals (keep_reached locals heap.spatial)) ≤ length (keep_reached locals heap.spatial) =
    inner-short joins locals (keep_reached locals heap.spatial) in
    let rest : length (reduce_times turns joins locals (reduce_once joins locals heap)).spatial
    ≤ length (join_inner joins locals (keep_reached locals heap.spatial)) =
    times-short turns joins locals (reduce_once joins locals heap) in
    omega (arith, kept, inner, rest)

head-short : (kinds : List StructDef) (mark : HeadMark) (state : SymState)
    → length (at_head kinds mark state).heap.spatial ≤ length state.heap.spatial
head-short kinds mark state =
    let forgotten : SymState = forget kinds mark state in
    let atoms : length forgotten.heap.spatial ≡ length state.heap.spatial =
    forgotten-atoms kinds (first_new state + length state.locals) state.heap.spatial in
    let short : length (reduce_times (size_of forgotten.heap) true forgotten.locals forgotten.heap).spatial
    ≤ length forgotten.heap.spatial =
    times-short (size_of forgotten.heap) true forgotten.locals forgotten.heap in
    omega (arith, atoms, short)

at-short : (state : SymState) (middle : Exp) → length (state_joined_at state middle).heap.spatial ≤ length state.heap.spatial
at-short state (Var x) = joined-short (λ y. y == x) state.heap.spatial
at-short state (Const n) = omega arith

once-short : (params : ℕ) (pair : Pair) → HasNoMoreAtoms pair (join_pair_once params pair)
once-short params pair =
    by_found (find_join (may_join params pair.state) pair.missing.spatial) (joined-short (may_join params pair.state) pair.missing.spatial)
  where
    by_found : (o : Option Join) → length (with_join pair.missing.spatial o) ≤ length pair.missing.spatial
        → HasNoMoreAtoms pair (pair_with_join pair o)
    by_found None short = record { missing = omega arith; state = omega arith }
    by_found (Some join) short = record { missing = short; state = at-short pair.state join.middle }

join-short : (turns params : ℕ) (pair : Pair) → HasNoMoreAtoms pair (join_pair_times turns params pair)
join-short zero params pair = record { missing = omega arith; state = omega arith }
join-short (suc turns) params pair =
    no_more-trans pair (join_pair_once params pair) (join_pair_times turns params (join_pair_once params pair)) (once-short params pair)
    (join-short turns params (join_pair_once params pair))

pub steps-short : (params : ℕ) (kinds : List StructDef) (mark : HeadMark) (pair : Pair)
    → HasNoMoreAtoms pair (five_steps params kinds mark pair)
steps-short params kinds mark pair =
    let first : Pair = reduce_state kinds mark pair in
    let second : Pair = join_pair params first in
    let reduced : length (at_head kinds mark pair.state).heap.spatial ≤ length pair.state.heap.spatial = head-short kinds mark pair.state in
    let joined : HasNoMoreAtoms first second = join-short (length first.missing.spatial) params first in
    let named : length (map (on_atom (made_existential params (first_new second.state) second.missing)) second.state.heap.spatial)
    ≡ length second.state.heap.spatial =
    length-map second.state.heap.spatial (on_atom (made_existential params (first_new second.state) second.missing)) in
    let missing : length second.missing.spatial ≤ length first.missing.spatial = joined.missing in
    let state : length second.state.heap.spatial ≤ length first.state.heap.spatial = joined.state in
    record { missing = missing; state = omega (arith, reduced, state, named) }

-- ---- the forms of a pair

pub pair_form-short : (params : ℕ) (pair form : Pair) → IsForm params pair form → HasNoMoreAtoms pair form
pair_form-short params pair form is =
    let missing : length is.missing.heap.spatial ≤ length pair.missing.spatial =
    form_has_no_more_atoms (without_locals pair.missing) is.missing is.missing_is in
    let through : SymState = on_state (read_through is.missing.heap.pure) pair.state in
    let state : length form.state.heap.spatial ≤ length through.heap.spatial = form_has_no_more_atoms through form.state is.state_is in
    let alike : length through.heap.spatial ≡ length pair.state.heap.spatial =
    length-map pair.state.heap.spatial (on_atom (read_through is.missing.heap.pure)) in
    record {
      missing = subst (λ heap. length heap.spatial ≤ length pair.missing.spatial) (sym is.form_is) missing;
      state = omega (arith, state, alike);
    }

pub arranged-long : (params : ℕ) (state : SymState) → length (arranged params state).heap.spatial ≡ length state.heap.spatial
arranged-long params state =
    length-map (placed params state.locals state.heap.spatial)
    (on_atom (with_number 65536 (sight_state Existential (with_atoms_placed params state) [])))
    ∙ placed-length params state.locals state.heap.spatial

pub canon-short : (params : ℕ) (pair : Pair) → HasNoMoreAtoms pair (canon_of params pair)
canon-short params pair =
    let first : SymState = arranged params (without_locals pair.missing) in
    let second : SymState = arranged params pair.state in
    let number : Exp → Exp = with_number params (sight_pair params first second) in
    let first_long : length first.heap.spatial ≡ length pair.missing.spatial = arranged-long params (without_locals pair.missing) in
    let second_long : length second.heap.spatial ≡ length pair.state.heap.spatial = arranged-long params pair.state in
    let one : length (map (on_atom number) first.heap.spatial) ≡ length first.heap.spatial =
    length-map first.heap.spatial (on_atom number) in
    let two : length (map (on_atom number) second.heap.spatial) ≡ length second.heap.spatial =
    length-map second.heap.spatial (on_atom number) in
    record { missing = omega (arith, first_long, one); state = omega (arith, second_long, two) }

pub in_forms-short : (params : ℕ) (pair answer : Pair) → pair_in_forms params pair ≡ Some answer → HasNoMoreAtoms pair answer
in_forms-short params pair answer h = by_form (pair_form params pair) refl h
  where
    by_form : (o : Option Pair) → pair_form params pair ≡ o → option_map (canon_of params) o ≡ Some answer → HasNoMoreAtoms pair answer
    by_form None e k = cc
    by_form (Some form) e k =
        let same : canon_of params form ≡ answer = cc in
        subst (HasNoMoreAtoms pair) same
        (no_more-trans pair form (canon_of params form) (pair_form-short params pair form (form-is params pair form e))
        (canon-short params form))
