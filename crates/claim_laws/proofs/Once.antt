-- Within a revision: what is settled stays settled, and what was claimed and not given back is not claimed again.
use Rattle.std.proofs.Common.{◌≡◌, ℕ, suc, ◌+◌, ◌==◌, Bool, true, false, cond, not, List, [], ◌∷◌, ◌++◌, slice_get, is_some, Some, None}
use Rattle.std.proofs.Common.{Option, refl, sym, ap, ◌∙◌, subst, ⊎_elim, ◌⊎◌, inl, inr, find, arith}
use Rattle.std.specs.List.{list_any, Contains}
use Rattle.std.proofs.lemmas.Bool.Decides.{Decides-eqb}
use Rattle.shape_data.specs.declared.answer.Answer.{Answer}
use Rattle.shape_data.specs.declared.answer.Key.{Key}
use Rattle.component_keys.specs.Components.{same_names}
use Rattle.component_keys.specs.Keys.{names_of}
use Rattle.component_keys.specs.Tests.{key_test}
use Rattle.claim_laws.specs.World.{World, Event, Slot, Out, Standing, slot_of, settled_in, settled_by, standings, standing_at}
use Rattle.claim_laws.specs.World.{standing_named, out_of, without, put_slot, but, slot_for, is_due, outcome_at, is_kept_outcome, is_kept}
use Rattle.claim_laws.specs.World.{is_claimable, may_publish, may_happen, happened, after}
use Rattle.claim_laws.specs.Invariant.{IsDueAt}
use Rattle.claim_laws.specs.Logs.{replay_from, replay, first_world, AreLegal, HasNoRevise, settled_at}
use Rattle.claim_laws.specs.Claims.{SettledStays}
use Rattle.component_keys.proofs.Basics.{none_passes, both_true, not_true, not_none, some_same, found, is_found, found_kept, zipped_at}
use Rattle.component_keys.proofs.Apart.{names_same}
use Rattle.claim_laws.proofs.Still.{IsStill, standings_known, standings_apart}
use Rattle.claim_laws.proofs.Steps.{IsNoRevise, settled_after, happened_still, slot_of_same}

-- ---- logs in two pieces

pub replay_append : (world : World) (front behind : List Event) →
    replay_from world (front ++ behind) ≡ replay_from (replay_from world front) behind
replay_append world [] behind = refl
replay_append world (event ∷ front) behind = replay_append (after world event) front behind

pub legal_front : (solves : Key → Answer → Type 0) (world : World) (front behind : List Event) → AreLegal solves world (front ++ behind) →
    AreLegal solves world front
legal_front solves world [] behind legal = tt
legal_front solves world (event ∷ front) behind legal = (legal.0, legal.1, legal_front solves (after world event) front behind legal.2)

pub legal_behind : (solves : Key → Answer → Type 0) (world : World) (front behind : List Event) → AreLegal solves world (front ++ behind) →
    AreLegal solves (replay_from world front) behind
legal_behind solves world [] behind legal = legal
legal_behind solves world (event ∷ front) behind legal = legal_behind solves (after world event) front behind legal.2

first_no : (event : Event) (others : List Event) → HasNoRevise (event ∷ others) → IsNoRevise event
first_no (Event.Revise revision program) others none = none
first_no (Event.Claim number worker component key) others none = tt
first_no (Event.Publish number answer kept) others none = tt
first_no (Event.GiveBack number) others none = tt

others_no : (event : Event) (others : List Event) → HasNoRevise (event ∷ others) → HasNoRevise others
others_no (Event.Revise revision program) others none = absurd none
others_no (Event.Claim number worker component key) others none = none
others_no (Event.Publish number answer kept) others none = none
others_no (Event.GiveBack number) others none = none

-- ---- settled stays settled

settled_through : (world : World) (events : List Event) (component : ℕ) (slot : Slot) → HasNoRevise events →
    settled_at world component ≡ Some slot →
    settled_at (replay_from world events) component ≡ Some slot
settled_through world [] component slot none e = e
settled_through world (event ∷ others) component slot none e =
    settled_through (after world event) others component slot (others_no event others none)
    (settled_after world event (first_no event others none) component slot e)

pub settled_stays : SettledStays
settled_stays before middle component slot none e =
    ap (λ world. settled_at world component) (replay_append first_world before middle)
    ∙ settled_through (replay before) middle component slot none e

-- ---- a claim that is not given back

-- it is settled, or the claim is outstanding with the key that it is due
abbrev pub IsHeld : World → ℕ → ℕ → Type 0
IsHeld world number component =
    ((slot : Slot) × (settled_at world component ≡ Some slot))
    ⊎ ((claim : Out) × (out_of world.out number ≡ Some claim) × IsDueAt world component claim.key)

pub due_happened : (world : World) (event : Event) → IsNoRevise event → may_happen world event ≡ true → (component : ℕ) (key : Key) →
    IsDueAt world component key → IsDueAt (happened world event) component key
due_happened world event none may component key is_due =
    let later =
    zipped_at IsStill (standings world) (standings (happened world event)) component is_due.standing
    (happened_still world event none may) is_due.at in
    record { standing = later.0; at = later.1; due = later.2.due key is_due.due }

find_left : {X : Type 0} (p : X → Bool) (xs ys : List X) (x : X) → find p xs ≡ Some x → find p (xs ++ ys) ≡ Some x
find_left p [] ys x e = not_none e
find_left p (first ∷ xs) ys x e = by_test (p first) (find_left p xs ys x) e
  where
    by_test : (b : Bool) → (find p xs ≡ Some x → find p (xs ++ ys) ≡ Some x) → cond b (Some first) (find p xs) ≡ Some x →
        cond b (Some first) (find p (xs ++ ys)) ≡ Some x
    by_test true again f = f
    by_test false again f = again f

-- another claim's end leaves this one
pub out_other : (out : List Out) (number other : ℕ) → (number == other) ≡ false → out_of (without out other) number ≡ out_of out number
out_other out number other differ =
    found_kept (λ claim. claim.number == number) (λ claim. not (claim.number == other)) out
    (λ claim e. by_test claim (claim.number == other) refl ((Decides-eqb claim.number number).0 e))
  where
    by_test : (claim : Out) (b : Bool) → (claim.number == other) ≡ b → claim.number ≡ number → not b ≡ true
    by_test claim false f e = refl
    by_test claim true f e =
        let t : (number == other) ≡ true = (Decides-eqb number other).1 (sym e ∙ (Decides-eqb claim.number other).0 f) in cc

is_due_same : (o : Option Key) (key : Key) → o ≡ Some key → is_due o key ≡ true
is_due_same o key e = rw e ((key_test.1 key key).1 refl)

pub kept_where_due : (revision : ℕ) (slots : List Slot) (claim : Out) (standing : Standing) → standing.settled ≡ None →
    standing.due ≡ Some claim.key →
    is_kept_outcome (outcome_at revision slots claim (Some standing)) ≡ true
kept_where_due revision slots claim standing none due = rw (none, is_due_same standing.due claim.key due) refl

-- an answer to the claim whose key is due settles the component
published_settles : (world : World) (number : ℕ) (answer : Answer) (kept : Bool) (component : ℕ) (claim : Out) →
    out_of world.out number ≡ Some claim → IsDueAt world component claim.key →
    may_happen world (Event.Publish number answer kept) ≡ true →
    (slot : Slot) × (settled_at (happened world (Event.Publish number answer kept)) component ≡ Some slot)
published_settles world number answer kept component claim is_out due may = by_settled due.standing.settled refl
  where
    own : Standing
    own = due.standing

    own_names : names_of claim.key.procs ≡ names_of own.part.flows
    own_names = let known = (standings_known world component own due.at).due claim.key due.due in ap (λ key. names_of key.procs) known.1

    later : IsDueAt (happened world (Event.Publish number answer kept)) component claim.key
    later = due_happened world (Event.Publish number answer kept) tt may component claim.key due

    still : (slot : Slot) → own.settled ≡ Some slot → settled_at (happened world (Event.Publish number answer kept)) component ≡ Some slot
    still slot e =
        let new = zipped_at IsStill (standings world) (standings (happened world (Event.Publish number answer kept))) component own
        (happened_still world (Event.Publish number answer kept) tt may) due.at in
        rw new.1 (new.2.settled slot e)

    -- the component that the key's names name is this one
    is_named : (standing : Standing) → standing_named world (names_of claim.key.procs) ≡ Some standing → standing ≡ own
    is_named standing e =
        let there = found (λ one. same_names (names_of one.part.flows) (names_of claim.key.procs)) (standings world) standing e in
        let place : there.1.0 ≡ component = standings_apart world there.1.0 component standing own there.1.1 due.at
        ((names_same (names_of standing.part.flows) (names_of claim.key.procs)).0 there.0 ∙ own_names) in
        some_same (sym there.1.1 ∙ ap (λ k. slice_get (standings world) k) place ∙ due.at)

    named : standing_named world (names_of claim.key.procs) ≡ Some own
    named =
        let one = is_found (λ one. same_names (names_of one.part.flows) (names_of claim.key.procs)) (standings world) component own due.at
        ((names_same (names_of own.part.flows) (names_of claim.key.procs)).1 (sym own_names)) in
        one.1 ∙ ap (λ standing. Some standing) (is_named one.0 one.1)

    is_kept_here : own.settled ≡ None → is_kept world claim ≡ true
    is_kept_here none = ap (λ o. is_kept_outcome (outcome_at world.revision world.slots claim o)) named
        ∙ kept_where_due world.revision world.slots claim own none due.due

    kept_is : (b : Bool) → is_kept world claim ≡ true → may_publish world b (Some claim) ≡ true → b ≡ true
    kept_is true yes_kept e = refl
    kept_is false yes_kept e = let t : not (is_kept world claim) ≡ true = e in let f : is_kept world claim
        ≡ false = not_true (is_kept world claim) t in cc

    by_settled : (o : Option Slot) → own.settled ≡ o →
        (slot : Slot) × (settled_at (happened world (Event.Publish number answer kept)) component ≡ Some slot)
    by_settled (Some slot) e = (slot, still slot e)
    by_settled None e =
        let is_kept_now : kept ≡ true = kept_is kept (is_kept_here e) (subst (λ o. may_publish world kept o ≡ true) is_out may) in
        let new : Slot = slot_for claim answer in
        let slots_are : (happened world (Event.Publish number answer kept)).slots ≡ put_slot new (but world.slots new.members) =
        rw (is_out, is_kept_now) refl in
        let facts = standings_known (happened world (Event.Publish number answer kept)) component later.standing later.at in
        let same_part = zipped_at IsStill (standings world) (standings (happened world (Event.Publish number answer kept))) component own
        (happened_still world (Event.Publish number answer kept) tt may) due.at in
        let is_part : later.standing.part ≡ own.part =
        ap (λ standing. standing.part) (some_same (sym later.at ∙ same_part.1)) ∙ same_part.2.part in
        let has_slot : slot_of (happened world (Event.Publish number answer kept)).slots (names_of later.standing.part.flows) ≡ Some new =
        ap (λ slots. slot_of slots (names_of later.standing.part.flows)) slots_are ∙
        ap (λ names. slot_of (put_slot new (but world.slots new.members)) names) (ap (λ part. names_of part.flows) is_part ∙ sym own_names)
        ∙ slot_of_same new world.slots in
        let settled : later.standing.settled ≡ Some new =
        facts.settled ∙ ap (λ o. settled_by o later.standing.due) has_slot ∙ ap (settled_by (Some new)) later.due ∙
        ap (λ b. cond b (Some new) None) ((key_test.1 claim.key claim.key).1 refl) in
        (new, ap settled_in later.at ∙ settled)

-- ---- one event, and many

claimable : (o : Option Standing) (key : Key) → is_claimable o key ≡ true →
    (standing : Standing) × (o ≡ Some standing) × (standing.settled ≡ None) × (standing.due ≡ Some key)
claimable None key e = cc
claimable (Some standing) key e =
    let parts = both_true (not (is_some standing.settled)) _ e in
    (standing, refl, by_settled standing.settled parts.0, by_due standing.due parts.1)
  where
    by_settled : (o : Option Slot) → not (is_some o) ≡ true → o ≡ None
    by_settled None t = refl
    by_settled (Some slot) t = cc

    by_due : (o : Option Key) → is_due o key ≡ true → o ≡ Some key
    by_due None t = cc
    by_due (Some due) t = ap (λ k. Some k) ((key_test.1 due key).0 t)

-- what a claim needs
pub record IsClaimable (world : World) (number component : ℕ) (key : Key) : Type 0 where
  pub number_is : number ≡ world.made + 1
  pub standing : Standing
  pub at : standing_at world component ≡ Some standing
  pub settled : standing.settled ≡ None
  pub due : standing.due ≡ Some key
  pub new : list_any (λ claim. key_test.0 claim.key key) world.out ≡ false

pub claim_needs : (world : World) (number worker component : ℕ) (key : Key) →
    may_happen world (Event.Claim number worker component key) ≡ true → IsClaimable world number component key
claim_needs world number worker component key may =
    let first = both_true (number == world.made + 1) _ may in
    let second = both_true (is_claimable (standing_at world component) key) _ first.1 in
    let what = claimable (standing_at world component) key second.0 in
    record {
      number_is = (Decides-eqb number (world.made + 1)).0 first.0;
      standing = what.0;
      at = what.1;
      settled = what.2;
      due = what.3;
      new = not_true _ second.1;
    }

pub contains_first : {X : Type 0} (x : X) (xs : List X) → Contains (x ∷ xs) x
contains_first x xs = (0, grind arith, refl)

pub contains_later : {X : Type 0} (x first : X) (xs : List X) → Contains xs x → Contains (first ∷ xs) x
contains_later x first xs h = (suc h.0, omega (arith, h.1), h.2)

-- a claim is held through an event, unless the event gives it back
held_happened : (world : World) (event : Event) (number component : ℕ) → IsNoRevise event → may_happen world event ≡ true →
    IsHeld world number component →
    (event ≡ Event.GiveBack number) ⊎ IsHeld (happened world event) number component
held_happened world (Event.Revise revision program) number component none may held = absurd none
held_happened world (Event.Claim other worker place key) number component none may held =
    inr (⊎_elim inl
    (λ out. inr (
      out.0,
      find_left (λ claim. claim.number == number) world.out _ out.0 out.1,
      due_happened world
          (Event.Claim other worker place key) tt may component out.0.key out.2,
    )) held)
held_happened world (Event.Publish other answer kept) number component none may held =
    inr (⊎_elim (λ settled. inl (settled.0, still settled.0 settled.1)) (λ out. by_number (number == other) refl out) held)
  where
    still : (slot : Slot) → settled_at world component ≡ Some slot →
        settled_at (happened world (Event.Publish other answer kept)) component ≡ Some slot
    still slot e =
        subst (λ new. settled_at new component ≡ Some slot) (ap (λ b. cond b (happened world (Event.Publish other answer kept)) world) may)
        (settled_after world (Event.Publish other answer kept) tt component slot e)

    by_number : (b : Bool) → (number == other) ≡ b →
        (claim : Out) × (out_of world.out number ≡ Some claim) × IsDueAt world component claim.key →
        IsHeld (happened world (Event.Publish other answer kept)) number component
    by_number true e out =
        let same : number ≡ other = (Decides-eqb number other).0 e in
        inl (published_settles world other answer kept component out.0 (ap (out_of world.out) (sym same) ∙ out.1) out.2 may)
    by_number false e out =
        inr (
          out.0,
          out_other world.out number other e
              ∙ out.1,
          due_happened world (Event.Publish other answer kept) tt may component out.0.key out.2,
        )
held_happened world (Event.GiveBack other) number component none may held = by_number (number == other) refl held
  where
    by_number : (b : Bool) → (number == other) ≡ b → IsHeld world number component →
        (Event.GiveBack other ≡ Event.GiveBack number) ⊎ IsHeld (happened world (Event.GiveBack other)) number component
    by_number true e h = inl (ap (λ n. Event.GiveBack n) (sym ((Decides-eqb number other).0 e)))
    by_number false e h =
        inr (⊎_elim inl
        (λ out. inr (
          out.0,
          out_other world.out number other e
              ∙ out.1,
          due_happened world (Event.GiveBack other) tt may component out.0.key out.2,
        )) h)

pub after_is : (world : World) (event : Event) → may_happen world event ≡ true → after world event ≡ happened world event
after_is world event may = ap (λ b. cond b (happened world event) world) may

pub held_through : (solves : Key → Answer → Type 0) (world : World) (events : List Event) (number component : ℕ) → HasNoRevise events →
    AreLegal solves world events → IsHeld world number component →
    Contains events (Event.GiveBack number) ⊎ IsHeld (replay_from world events) number component
held_through solves world [] number component none legal held = inr held
held_through solves world (event ∷ others) number component none legal held =
    ⊎_elim
    (λ given. inl
    (subst (λ first. Contains (first ∷ others) (Event.GiveBack number)) (sym given) (contains_first (Event.GiveBack number) others)))
    (λ next. ⊎_elim (λ later. inl (contains_later (Event.GiveBack number) event others later)) inr
    (held_through solves (after world event) others number component (others_no event others none) legal.2
    (subst (λ new. IsHeld new number component) (sym (after_is world event legal.0)) next)))
    (held_happened world event number component (first_no event others none) legal.0 held)

-- a claim that was made is held, if no claim in `out` had its number
pub claimed_held : (world : World) (number worker component : ℕ) (key : Key) →
    may_happen world (Event.Claim number worker component key) ≡ true → out_of world.out number ≡ None →
    IsHeld (happened world (Event.Claim number worker component key)) number component
claimed_held world number worker component key may none =
    let needs = claim_needs world number worker component key may in
    let claim : Out = record { number = number; worker = worker; component = component; revision = world.revision; key = key } in
    inr (
      claim,
      find_end (λ one. one.number == number) world.out claim none ((Decides-eqb number number).1 refl),
      record { standing = needs.standing; at = needs.at; due = needs.due },
    )
  where
    find_end : (p : Out → Bool) (xs : List Out) (x : Out) → find p xs ≡ None → p x ≡ true → find p (xs ++ x ∷ []) ≡ Some x
    find_end p [] x e t = rw t refl
    find_end p (first ∷ xs) x e t = by_test (p first) e (find_end p xs x)
      where
        by_test : (b : Bool) → cond b (Some first) (find p xs) ≡ None → (find p xs ≡ None → p x ≡ true → find p (xs ++ x ∷ []) ≡ Some x) →
            cond b (Some first) (find p (xs ++ x ∷ [])) ≡ Some x
        by_test true f again = not_none (sym f)
        by_test false f again = again f t

-- a held component is not claimed
pub held_excludes : (world : World) (first number worker component : ℕ) (key : Key) → IsHeld world first component →
    may_happen world (Event.Claim number worker component key) ≡ true → ⊥
held_excludes world first number worker component key held may =
    let needs = claim_needs world number worker component key may in
    ⊎_elim
    (λ settled. not_none (sym needs.settled ∙ (sym (ap settled_in needs.at) ∙ settled.1)))
    (λ out.
    let same_standing : needs.standing ≡ out.2.standing = some_same (sym needs.at ∙ out.2.at) in
    let same_key : out.0.key ≡ key = some_same (sym out.2.due ∙ (ap (λ standing. standing.due) (sym same_standing) ∙ needs.due)) in
    let there = found (λ claim. claim.number == first) world.out out.0 out.1 in
    let no_such : key_test.0 out.0.key key ≡ false =
    none_passes (λ claim. key_test.0 claim.key key) world.out there.1.0 out.0 needs.new there.1.1 in
    let such : key_test.0 out.0.key key ≡ true = (key_test.1 out.0.key key).1 same_key in
    cc)
    held
