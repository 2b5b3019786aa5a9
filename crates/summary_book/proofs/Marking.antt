-- A component whose due key is answered is settled, and what it calls is marked already.
use Rattle.std.proofs.Common.{◌≡◌, ℕ, zero, suc, ◌<◌, ◌==◌, Bool, true, false, cond, not, List, [], ◌∷◌, slice_get, slice_index_or, is_some}
use Rattle.std.proofs.Common.{Some, None, Option, refl, sym, ap, ◌∙◌, subst, inr, ⊎_elim, arith}
use Rattle.shape_data.specs.declared.answer.Answer.{Answer}
use Rattle.shape_data.specs.declared.answer.Callee.{Callee}
use Rattle.shape_data.specs.declared.answer.Key.{Key}
use Rattle.call_components.specs.Reaching.{marked}
use Rattle.component_keys.specs.Keys.{Component, Outer, key_over, names_of, program_components}
use Rattle.component_keys.proofs.Basics.{mapped_some, not_none, some_same}
use Rattle.component_keys.proofs.Ordered.{callees_before}
use Rattle.claim_laws.specs.Invariant.{IsDueAt}
use Rattle.claim_laws.specs.Logs.{settled_at}
use Rattle.claim_laws.specs.World.{Event, Out, Slot, Standing, World, both, given, given_by, happened, is_kept, may_happen, outcome_at}
use Rattle.claim_laws.specs.World.{is_kept_outcome, out_of, settled_in, standings, without}
use Rattle.claim_laws.proofs.Defined.{standings_as_defined}
use Rattle.claim_laws.proofs.Once.{after_is, held_through}
use Rattle.claim_laws.proofs.Steps.{kept_at}
use Rattle.claim_laws.proofs.Still.{part_at, standings_known}
use Rattle.claim_laws.proofs.Unsettled.{named_due}
use Rattle.summary_book.specs.Rows.{AreMarks, place_named}
use Rattle.summary_book.specs.Settled.{AreExact, IsExactAt}
use Rattle.summary_book.proofs.Standings.{own_place}

-- ---- the component that is due a key

pub due_place : (world : World) (component : ℕ) (key : Key) → IsDueAt world component key →
    place_named (program_components world.program) (names_of key.procs) ≡ Some component
due_place world component key due =
    let known = (standings_known world component due.standing due.at).due key due.due in
    own_place world.program component due.standing.part (names_of key.procs) (part_at world component due.standing due.at)
    (ap (λ (k : Key). names_of k.procs) (sym known.1))

-- where an answer for the key is kept it was not settled
pub due_unsettled : (world : World) (component : ℕ) (claim : Out) → IsDueAt world component claim.key → is_kept world claim ≡ true →
    settled_at world component ≡ None
due_unsettled world component claim due kept =
    let own =
    kept_at world.revision world.slots claim (Some due.standing)
    (ap (λ o. is_kept_outcome (outcome_at world.revision world.slots claim o)) (sym (named_due world component claim.key due)) ∙ kept) in
    ap settled_in due.at ∙ ap (λ (s : Standing). s.settled) (some_same own.1) ∙ own.2

pub unsettled_unmarked : (world : World) (marks : List Bool) (component : ℕ) → AreMarks world marks → settled_at world component ≡ None →
    marked marks component ≡ false
unsettled_unmarked world marks component are none = by_test (marked marks component) refl
  where
    by_test : (b : Bool) → marked marks component ≡ b → b ≡ false
    by_test false e = refl
    by_test true e = let some : is_some (settled_at world component) ≡ true = are.settled component e in let never : false
        ≡ true = ap is_some (sym none) ∙ some in cc

-- ---- an answer to it settles it

none_left : (out : List Out) (number : ℕ) → out_of (without out number) number ≡ None
none_left [] number = refl
none_left (claim ∷ out) number = by_test (claim.number == number) refl (none_left out number)
  where
    by_test : (b : Bool) → (claim.number == number) ≡ b → out_of (without out number) number ≡ None →
        out_of (cond (not b) (claim ∷ without out number) (without out number)) number ≡ None
    by_test true e none = none
    by_test false e none = ap (λ c. cond c (Some claim) (out_of (without out number) number)) e ∙ none

pub due_settles : (world : World) (number : ℕ) (answer : Answer) (kept : Bool) (component : ℕ) (claim : Out) →
    out_of world.out number ≡ Some claim → IsDueAt world component claim.key →
    may_happen world (Event.Publish number answer kept) ≡ true →
    is_some (settled_at (happened world (Event.Publish number answer kept)) component) ≡ true
due_settles world number answer kept component claim is_out due may =
    let event : Event = Event.Publish number answer kept in
    subst (λ w. is_some (settled_at w component) ≡ true) (after_is world event may)
    (⊎_elim (λ given. absurd (no_end given.0 given.1 given.2))
    (λ held. ⊎_elim (λ settled. ap is_some settled.1)
    (λ out. not_none
    (sym (none_left world.out number) ∙ subst (λ w. out_of w.out number ≡ Some out.0) (after_is world event may) out.1)) held)
    (held_through (λ key its. Unit {0}) world (event ∷ []) number component tt (may, λ one is. tt, tt) (inr (claim, is_out, due))))
  where
    no_end : (k : ℕ) → k < 1 → slice_index_or (Event.Publish number answer kept ∷ []) k (Event.GiveBack number) ≡ Event.GiveBack number → ⊥
    no_end zero lt e = cc
    no_end (suc k) lt e = absurd (omega (arith, lt))

-- ---- what it calls

given_settled : (before : List Standing) (outer : List Outer) (callees : List Callee) → given before outer ≡ Some callees →
    (k : ℕ) (one : Outer) → slice_get outer k ≡ Some one →
    is_some (settled_in (slice_get before one.component)) ≡ true
given_settled before [] callees e k one at = not_none at
given_settled before (first ∷ others) callees e k one at =
    by_both (given_by first (settled_in (slice_get before first.component))) (given before others) refl refl e k at
    (given_settled before others)
  where
    by_slot : (o : Option Slot) (callee : Callee) → given_by first o ≡ Some callee → is_some o ≡ true
    by_slot None callee f = not_none f
    by_slot (Some slot) callee f = refl

    by_both : (own : Option Callee) (rest : Option (List Callee)) → given_by first (settled_in (slice_get before first.component)) ≡ own →
        given before others ≡ rest → both own rest ≡ Some callees → (n : ℕ) →
        slice_get (first ∷ others) n ≡ Some one →
        ((more : List Callee) → given before others ≡ Some more → (m : ℕ) (its : Outer) → slice_get others m ≡ Some its →
        is_some (settled_in (slice_get before its.component)) ≡ true) →
        is_some (settled_in (slice_get before one.component)) ≡ true
    by_both None rest f g joined n there again = not_none joined
    by_both (Some callee) None f g joined n there again = not_none joined
    by_both (Some callee) (Some more) f g joined zero there again =
        subst (λ (o : Outer). is_some (settled_in (slice_get before o.component)) ≡ true) (some_same there)
        (by_slot (settled_in (slice_get before first.component)) callee f)
    by_both (Some callee) (Some more) f g joined (suc n) there again = again more g n one there

-- where the marks are exact before it, all that it calls is marked, whatever comes later
pub due_exact : (world later : World) (marks : List Bool) (component : ℕ) (key : Key) → IsDueAt world component key →
    AreExact world marks component → later.program ≡ world.program → IsExactAt later marks component
due_exact world later marks component key due are same part k outer at callee settled =
    let here : slice_get (program_components world.program) component ≡ Some part =
    ap (λ p. slice_get (program_components p) component) (sym same) ∙ at in
    let is : due.standing.part ≡ part = some_same (sym (part_at world component due.standing due.at) ∙ here) in
    let defined = standings_as_defined world component due.standing due.at in
    let own =
    mapped_some (key_over world.program.structs due.standing.part.flows) (given (standings world) due.standing.part.outer) key
    (sym defined.due ∙ due.due) in
    are.exact outer.component (callees_before world.program component k part outer here callee) ∙
    given_settled (standings world) due.standing.part.outer own.0 own.1 k outer (ap (λ (p : Component). slice_get p.outer k) is ∙ callee)
