-- What holds of every world that a log leads to.
use Rattle.std.proofs.Common.{◌≡◌, ℕ, suc, ◌+◌, ◌<◌, ◌≤◌, ◌==◌, nat_lt, Bool, true, false, cond, not, List, [], ◌∷◌, slice_get, get_or}
use Rattle.std.proofs.Common.{Some, None, Option, refl, ◌∙◌, subst, arith, All, AllPairs, le_refl}
use Rattle.std.proofs.lemmas.Bool.Decides.{Decides-eqb, Decides-ltb}
use Rattle.std.proofs.lemmas.List.Elements.{All-nil, All-cons, All-head, All-tail, All-push, All-filter, All-weaker}
use Rattle.std.proofs.lemmas.List.Kept.{AllPairs-cons, AllPairs-filter}
use Rattle.std.proofs.lemmas.List.Quantifiers.{all_pairs_push}
use Rattle.std.proofs.lemmas.Option.{get_or_from_slice_get, slice_get_within, slice_get-get_or}
use Rattle.shape_data.specs.declared.answer.Answer.{Answer}
use Rattle.shape_data.specs.declared.answer.Key.{Key}
use Rattle.shape_data.specs.declared.program.Program.{Program}
use Rattle.component_keys.specs.Keys.{names_of}
use Rattle.component_keys.specs.Tests.{key_test, program_test}
use Rattle.claim_laws.specs.World.{World, Event, Slot, Out, out_of, put_slot, but, slot_for, may_happen, is_present, slots_with, happened}
use Rattle.claim_laws.specs.World.{after}
use Rattle.claim_laws.specs.Invariant.{IsNoLater, IsComposed, IsOwnSlot, IsDueAt, IsGoodOut, HaveOtherKeys, IsEarlier, IsWorld}
use Rattle.claim_laws.specs.Logs.{replay_from, replay, first_world}
use Rattle.component_keys.proofs.Basics.{both_true, none_passes, found}
use Rattle.claim_laws.proofs.Still.{standings_known}
use Rattle.claim_laws.proofs.Steps.{by_may}
use Rattle.claim_laws.proofs.Once.{due_happened, claim_needs}

pub all_at : {X : Type 0} (P : X → Type 0) (xs : List X) (i : ℕ) (x : X) → All P xs → slice_get xs i ≡ Some x → P x
all_at P xs i x h e = subst P (get_or_from_slice_get xs i x x e) (h i x (slice_get_within xs i x e))

all_pairs_first : {X : Type 0} (R : X → X → Type 0) (x : X) (xs : List X) → AllPairs R (x ∷ xs) → All (R x) xs
all_pairs_first R x xs h k d lt = h 0 (suc k) d (omega arith) (omega (arith, lt))

all_pairs_rest : {X : Type 0} (R : X → X → Type 0) (x : X) (xs : List X) → AllPairs R (x ∷ xs) → AllPairs R xs
all_pairs_rest R x xs h i j d lt within = h (suc i) (suc j) d (omega (arith, lt)) (omega (arith, within))

-- a slot that is put
pub All-put : (P : Slot → Type 0) (slot : Slot) (slots : List Slot) → P slot → All P slots → All P (put_slot slot slots)
All-put P slot [] p all = All-cons P slot [] p (All-nil P)
All-put P slot (first ∷ others) p all = by_test (nat_lt slot.claim first.claim) (All-put P slot others p (All-tail P first others all))
  where
    by_test : (b : Bool) → All P (put_slot slot others) → All P (cond b (slot ∷ first ∷ others) (first ∷ put_slot slot others))
    by_test true again = All-cons P slot (first ∷ others) p all
    by_test false again = All-cons P first (put_slot slot others) (All-head P first others all) again

rising_put : (slot : Slot) (slots : List Slot) → AllPairs IsNoLater slots → AllPairs IsNoLater (put_slot slot slots)
rising_put slot [] rising = AllPairs-cons IsNoLater slot [] (All-nil (IsNoLater slot)) rising
rising_put slot (first ∷ others) rising =
    by_test (nat_lt slot.claim first.claim) refl (rising_put slot others (all_pairs_rest IsNoLater first others rising))
  where
    by_test : (b : Bool) → nat_lt slot.claim first.claim ≡ b → AllPairs IsNoLater (put_slot slot others) →
        AllPairs IsNoLater (cond b (slot ∷ first ∷ others) (first ∷ put_slot slot others))
    by_test true e again =
        let less : slot.claim < first.claim = (Decides-ltb slot.claim first.claim).0 e in
        AllPairs-cons IsNoLater slot (first ∷ others)
        (All-cons (IsNoLater slot) first others (omega (arith, less))
        (All-weaker (IsNoLater first) (IsNoLater slot) (λ x h. omega (arith, less, h)) others
        (all_pairs_first IsNoLater first others rising)))
        rising
    by_test false e again =
        let least : first.claim ≤ slot.claim = grind (arith, e) in
        AllPairs-cons IsNoLater first (put_slot slot others)
        (All-put (IsNoLater first) slot others least (all_pairs_first IsNoLater first others rising)) again

pub first_is : IsWorld first_world
first_is = record {
  slots = All-nil (IsOwnSlot 0);
  slots_rising = λ i j d lt within. absurd (grind (arith, within));
  out = All-nil (IsGoodOut first_world);
  out_rising = λ i j d lt within. absurd (grind (arith, within));
  different = λ i j d lt within. absurd (grind (arith, within));
}

-- where a claim stays
good_happened : (world : World) (event : Event) (claim : Out) → may_happen world event ≡ true →
    (happened world event).revision ≡ world.revision → world.made ≤ (happened world event).made →
    ((key : Key) → IsDueAt world claim.component key → IsDueAt (happened world event) claim.component key) → IsGoodOut world claim →
    IsGoodOut (happened world event) claim
good_happened world event claim may same_revision more still good = record {
  number = omega (arith, more, good.number);
  revision = rw same_revision good.revision;
  composed = good.composed;
  due = λ e. still claim.key (good.due (e ∙ same_revision));
}

revised : (world : World) (revision : ℕ) (program : Program) → may_happen world (Event.Revise revision program) ≡ true → IsWorld world →
    IsWorld (happened world (Event.Revise revision program))
revised world revision program may inv =
    let next : revision ≡ world.revision + 1 =
    (Decides-eqb revision (world.revision + 1)).0 (both_true (not (program_test.0 program world.program)) _ may).1 in
    record {
      slots = All-filter (is_present program) (IsOwnSlot world.made) world.slots inv.slots;
      slots_rising = AllPairs-filter IsNoLater (is_present program) world.slots inv.slots_rising;
      out = All-weaker (IsGoodOut world) (IsGoodOut (happened world (Event.Revise revision program)))
          (λ claim good.
          record {
            number = good.number;
            revision = omega (arith, next, good.revision);
            composed = good.composed;
            due = λ e. absurd (omega (arith, next, e, good.revision));
          }) world.out inv.out;
      out_rising = inv.out_rising;
      different = inv.different;
    }

claimed : (world : World) (number worker component : ℕ) (key : Key) → may_happen world (Event.Claim number worker component key) ≡ true →
    IsWorld world →
    IsWorld (happened world (Event.Claim number worker component key))
claimed world number worker component key may inv =
    let event : Event = Event.Claim number worker component key in
    let claim : Out = record { number = number; worker = worker; component = component; revision = world.revision; key = key } in
    let needs = claim_needs world number worker component key may in
    let more : world.made ≤ number = omega (arith, needs.number_is) in
    let known = (standings_known world component needs.standing needs.at).due key needs.due in
    record {
      slots =
          All-weaker (IsOwnSlot world.made) (IsOwnSlot number)
          (λ slot own.
          record { members = own.members; composed = own.composed; number = omega (arith, more, own.number) }) world.slots inv.slots;
      slots_rising = inv.slots_rising;
      out = All-push (IsGoodOut (happened world event)) world.out claim
          (All-weaker (IsGoodOut world) (IsGoodOut (happened world event))
          (λ one good. good_happened world event one may refl more
          (λ k. due_happened world event tt may one.component k) good) world.out inv.out)
          (record {
            number = le_refl number;
            revision = le_refl world.revision;
            composed = (world.program.structs, needs.standing.part.flows, known.0, known.1);
            due = λ e. record { standing = needs.standing; at = needs.at; due = needs.due };
          });
      out_rising =
          all_pairs_push IsEarlier world.out claim inv.out_rising
          (λ k d lt. let old = (inv.out k d lt).number in omega (arith, old, needs.number_is));
      different = all_pairs_push HaveOtherKeys world.out claim inv.different
          (λ k d lt same.
          let no_such : key_test.0 (get_or world.out k d).key key ≡ false =
          none_passes (λ one. key_test.0 one.key key) world.out k (get_or world.out k d) needs.new (slice_get-get_or world.out k d lt) in
          let such : key_test.0 (get_or world.out k d).key key ≡ true = (key_test.1 (get_or world.out k d).key key).1 same in
          cc);
    }

slots_are_own : (made : ℕ) (slots : List Slot) (kept : Bool) (answer : Answer) (o : Option Out) → All (IsOwnSlot made) slots →
    ((claim : Out) → o ≡ Some claim → IsComposed claim.key × (claim.number ≤ made)) → All (IsOwnSlot made) (slots_with slots kept answer o)
slots_are_own made slots kept answer None all good = all
slots_are_own made slots false answer (Some claim) all good = all
slots_are_own made slots true answer (Some claim) all good =
    All-put (IsOwnSlot made) (slot_for claim answer) (but slots (names_of claim.key.procs))
    (record { members = refl; composed = (good claim refl).0; number = (good claim refl).1 })
    (All-filter _ (IsOwnSlot made) slots all)

slots_rise : (slots : List Slot) (kept : Bool) (answer : Answer) (o : Option Out) → AllPairs IsNoLater slots →
    AllPairs IsNoLater (slots_with slots kept answer o)
slots_rise slots kept answer None rising = rising
slots_rise slots false answer (Some claim) rising = rising
slots_rise slots true answer (Some claim) rising =
    rising_put (slot_for claim answer) (but slots (names_of claim.key.procs)) (AllPairs-filter IsNoLater _ slots rising)

published : (world : World) (number : ℕ) (answer : Answer) (kept : Bool) → may_happen world (Event.Publish number answer kept) ≡ true →
    IsWorld world →
    IsWorld (happened world (Event.Publish number answer kept))
published world number answer kept may inv =
    let event : Event = Event.Publish number answer kept in
    record {
      slots = slots_are_own world.made world.slots kept answer (out_of world.out number) inv.slots
          (λ claim e. let there = found (λ one. one.number == number) world.out claim e in
          let good = all_at (IsGoodOut world) world.out there.1.0 claim inv.out there.1.1 in (good.composed, good.number));
      slots_rising = slots_rise world.slots kept answer (out_of world.out number) inv.slots_rising;
      out = All-filter (λ one. not (one.number == number)) (IsGoodOut (happened world event)) world.out
          (All-weaker (IsGoodOut world) (IsGoodOut (happened world event))
          (λ one good. good_happened world event one may refl (le_refl world.made)
          (λ k. due_happened world event tt may one.component k) good) world.out inv.out);
      out_rising = AllPairs-filter IsEarlier (λ one. not (one.number == number)) world.out inv.out_rising;
      different = AllPairs-filter HaveOtherKeys (λ one. not (one.number == number)) world.out inv.different;
    }

given_back : (world : World) (number : ℕ) → may_happen world (Event.GiveBack number) ≡ true → IsWorld world →
    IsWorld (happened world (Event.GiveBack number))
given_back world number may inv =
    let event : Event = Event.GiveBack number in
    record {
      slots = inv.slots;
      slots_rising = inv.slots_rising;
      out = All-filter (λ one. not (one.number == number)) (IsGoodOut (happened world event)) world.out
          (All-weaker (IsGoodOut world) (IsGoodOut (happened world event))
          (λ one good. good_happened world event one may refl (le_refl world.made)
          (λ k. due_happened world event tt may one.component k) good) world.out inv.out);
      out_rising = AllPairs-filter IsEarlier (λ one. not (one.number == number)) world.out inv.out_rising;
      different = AllPairs-filter HaveOtherKeys (λ one. not (one.number == number)) world.out inv.different;
    }

happened_world : (world : World) (event : Event) → may_happen world event ≡ true → IsWorld world → IsWorld (happened world event)
happened_world world (Event.Revise revision program) may inv = revised world revision program may inv
happened_world world (Event.Claim number worker component key) may inv = claimed world number worker component key may inv
happened_world world (Event.Publish number answer kept) may inv = published world number answer kept may inv
happened_world world (Event.GiveBack number) may inv = given_back world number may inv

pub after_world : (world : World) (event : Event) → IsWorld world → IsWorld (after world event)
after_world world event inv = by_may world event IsWorld (λ may. happened_world world event may inv) inv

worlds_from : (world : World) (log : List Event) → IsWorld world → IsWorld (replay_from world log)
worlds_from world [] inv = inv
worlds_from world (event ∷ others) inv = worlds_from (after world event) others (after_world world event inv)

-- every log leads to such a world
pub replayed_world : (log : List Event) → IsWorld (replay log)
replayed_world log = worlds_from first_world log first_is
