-- The components up to a place, as the search for the first that may be claimed has seen them.
use Rattle.std.proofs.Common.{◌≡◌, ℕ, ◌+◌, ◌<◌, ◌≤◌, Bool, true, false, min, List, length, slice_get, is_some, Some, None, Option}
use Rattle.std.proofs.Common.{refl, sym, ap, ◌∙◌, subst, ⊎_elim, ◌⊎◌, inl, inr, arith}
use Rattle.std.specs.Prelude.{slice_set}
use Rattle.std.proofs.lemmas.Bool.{cases_eq, cases_lt}
use Rattle.std.proofs.lemmas.List.{length-set, get_or-set_same, get_or-set_other}
use Rattle.std.proofs.lemmas.Option.{slice_get_within, get_or_from_slice_get}
use Rattle.shape_data.specs.declared.answer.Key.{Key}
use Rattle.call_components.specs.Reaching.{marked}
use Rattle.component_keys.specs.Keys.{Component}
use Rattle.component_keys.specs.Tests.{key_test}
use Rattle.component_keys.proofs.Basics.{none_passes, not_none, some_same}
use Rattle.component_keys.proofs.Ordered.{callees_before}
use Rattle.claim_laws.specs.Logs.{replay, settled_at}
use Rattle.claim_laws.specs.Waits.{IsAboveOut, IsAim, IsOut, IsUnsettled}
use Rattle.claim_laws.specs.World.{Event, Out, Standing, World, standing_at, standings}
use Rattle.claim_laws.proofs.Invariant.{replayed_world}
use Rattle.claim_laws.proofs.Waits.{waits_on_out}
use Rattle.summary_book.specs.Found.{lesser}
use Rattle.summary_book.specs.Next.{IsFirstFree, IsFree, IsOutBy, IsSettled, IsWaiting}
use Rattle.summary_book.specs.Rows.{AreMarks}
use Rattle.summary_book.specs.Settled.{IsBlocked, IsExactAt}
use Rattle.summary_book.proofs.Events.{not_both}
use Rattle.summary_book.proofs.Standings.{stands_at, settled_of}

-- it is marked, or due nothing, or out
abbrev pub IsSeen : World → List Bool → ℕ → Type 0
IsSeen world marks place = (marked marks place ≡ true) ⊎ (IsBlocked world place ⊎ ((number : ℕ) × IsOutBy world place number))

-- the least number by which one of them is out
abbrev pub IsLeast : World → (ℕ → Bool) → Option ℕ → ℕ → Type 0
IsLeast world aim None count = (place number : ℕ) → place < count → aim place ≡ true → IsOutBy world place number → ⊥
IsLeast world aim (Some least) count =
    (place : ℕ) × (place < count) × (aim place ≡ true) × IsOutBy world place least
    × ((other number : ℕ) → other < count → aim other ≡ true → IsOutBy world other number → least ≤ number)

pub record AreSeen (world : World) (aim : ℕ → Bool) (marks : List Bool) (least : Option ℕ) (count : ℕ) : Type 0 where
  pub marks_are : AreMarks world marks
  pub seen : (place : ℕ) → place < count → aim place ≡ true → IsSeen world marks place
  pub least_is : IsLeast world aim least count

one_more : (n m : ℕ) → n < m + 1 → (n < m) ⊎ (n ≡ m)
one_more n m lt = ⊎_elim (λ less. inl less) (λ le. inr (omega (arith, lt, le))) (cases_lt n m)

-- ---- what excludes what

-- two standings of one place
same_standing : (world : World) (place : ℕ) (one other : Standing) → standing_at world place ≡ Some one →
    standing_at world place ≡ Some other → one ≡ other
same_standing world place one other at there = some_same (sym at ∙ there)

pub settled_excludes : {A : Type 0} (world : World) (place : ℕ) (standing : Standing) → standing_at world place ≡ Some standing →
    standing.settled ≡ None → is_some (settled_at world place) ≡ true → A
settled_excludes world place standing at none some = not_both some (ap is_some (settled_of world place standing at ∙ none))

pub out_excludes : {A : Type 0} (world : World) (place number : ℕ) → IsOutBy world place number → is_some (settled_at world place) ≡ true →
    A
out_excludes world place number out some = settled_excludes world place out.out.standing out.out.at out.out.settled some

pub blocked_excludes : {A : Type 0} (world : World) (place : ℕ) (key : Key) (standing : Standing) → IsBlocked world place →
    standing_at world place ≡ Some standing → standing.due ≡ Some key → A
blocked_excludes world place key standing blocked at due =
    not_none (sym blocked.due ∙ ap (λ (s : Standing). s.due) (same_standing world place blocked.standing standing blocked.at at) ∙ due)

-- a component is out by one claim alone
pub out_once : (log : List Event) (place one other : ℕ) → IsOutBy (replay log) place one → IsOutBy (replay log) place other → one ≡ other
out_once log place one other first second =
    let world : World = replay log in
    let a = first.out in
    let b = second.out in
    let keys : a.claim.key ≡ b.claim.key =
    some_same (sym a.due ∙ ap (λ (s : Standing). s.due) (same_standing world place a.standing b.standing a.at b.at) ∙ b.due) in
    let same : a.place ≡ b.place = one_place a.place b.place a.claim b.claim a.outstanding b.outstanding keys in
    sym first.number_is ∙ ap (λ (c : Out). c.number) (some_same (sym a.outstanding ∙ ap (slice_get world.out) same ∙ b.outstanding))
    ∙ second.number_is
  where
    one_place : (i j : ℕ) (x y : Out) → slice_get (replay log).out i ≡ Some x → slice_get (replay log).out j ≡ Some y → x.key ≡ y.key →
        i ≡ j
    one_place i j x y at_i at_j keys =
        ⊎_elim (λ lt. absurd (apart i j x y at_i at_j lt keys))
        (λ le. ⊎_elim (λ lt. absurd (apart j i y x at_j at_i lt (sym keys))) (λ ge. omega (arith, le, ge)) (cases_lt j i)) (cases_lt i j)
      where
        apart : (i j : ℕ) (x y : Out) → slice_get (replay log).out i ≡ Some x → slice_get (replay log).out j ≡ Some y → i < j →
            x.key ≡ y.key → ⊥
        apart i j x y at_i at_j lt keys =
            (replayed_world log).different i j x lt (slice_get_within (replay log).out j y at_j)
            (ap (λ (c : Out). c.key) (get_or_from_slice_get (replay log).out i x x at_i) ∙ keys
            ∙ sym (ap (λ (c : Out). c.key) (get_or_from_slice_get (replay log).out j y x at_j)))

-- what is out may not be claimed
pub out_held : {A : Type 0} (world : World) (place number : ℕ) (key : Key) → IsOutBy world place number → IsFree world place key → A
out_held world place number key out free =
    let a = out.out in
    let keys : a.claim.key
    ≡ key =
    some_same (sym a.due ∙ ap (λ (s : Standing). s.due) (same_standing world place a.standing free.standing a.at free.at) ∙ free.due) in
    not_both ((key_test.1 a.claim.key key).1 keys)
    (none_passes (λ (claim : Out). key_test.0 claim.key key) world.out a.place a.claim free.held a.outstanding)

-- ---- one more component

-- one that the aim doesn't reach
pub seen_outside : (world : World) (aim : ℕ → Bool) (marks : List Bool) (least : Option ℕ) (count : ℕ) →
    AreSeen world aim marks least count → aim count ≡ false → AreSeen world aim marks least (count + 1)
seen_outside world aim marks least count are outside = record {
  marks_are = are.marks_are;
  seen =
      λ place lt reached. ⊎_elim (λ less. are.seen place less reached) (λ same. not_both reached (ap aim same ∙ outside))
      (one_more place count lt);
  least_is = by_least least are.least_is;
}
  where
    by_least : (o : Option ℕ) → IsLeast world aim o count → IsLeast world aim o (count + 1)
    by_least None none =
        λ place number lt reached out. ⊎_elim (λ less. none place number less reached out)
        (λ same. not_both reached (ap aim same ∙ outside))
        (one_more place count lt)
    by_least (Some one) is = (
      is.0,
      (let lt = is.1 in omega (arith, lt)),
      is.2,
      is.3,
      λ other number lt reached out. ⊎_elim
          (λ less. is.4 other number less reached out) (λ same. not_both reached (ap aim same ∙ outside)) (one_more other count lt),
    )

-- one that is not out
not_out : (world : World) (aim : ℕ → Bool) (least : Option ℕ) (count : ℕ) → IsLeast world aim least count →
    ((number : ℕ) → IsOutBy world count number → ⊥) → IsLeast world aim least (count + 1)
not_out world aim None count none never =
    λ place number lt reached out. ⊎_elim (λ less. none place number less reached out)
    (λ same. never number (subst (λ p. IsOutBy world p number) same out)) (one_more place count lt)
not_out world aim (Some one) count is never = (
  is.0,
  (let lt = is.1 in omega (arith, lt)),
  is.2,
  is.3,
  λ other number lt reached out. ⊎_elim (λ less. is.4 other number less reached out)
      (λ same. absurd (never number (subst (λ p. IsOutBy world p number) same out))) (one_more other count lt),
)

pub seen_marked : (world : World) (aim : ℕ → Bool) (marks : List Bool) (least : Option ℕ) (count : ℕ) →
    AreSeen world aim marks least count → marked marks count ≡ true → AreSeen world aim marks least (count + 1)
seen_marked world aim marks least count are mark = record {
  marks_are = are.marks_are;
  seen =
      λ place lt reached. ⊎_elim (λ less. are.seen place less reached) (λ same. inl (ap (marked marks) same ∙ mark))
      (one_more place count lt);
  least_is =
      not_out world aim least count are.least_is (λ number out. out_excludes world count number out (are.marks_are.settled count mark));
}

pub seen_blocked : (world : World) (aim : ℕ → Bool) (marks : List Bool) (least : Option ℕ) (count : ℕ) →
    AreSeen world aim marks least count → IsBlocked world count → AreSeen world aim marks least (count + 1)
seen_blocked world aim marks least count are blocked = record {
  marks_are = are.marks_are;
  seen =
      λ place lt reached. ⊎_elim (λ less. are.seen place less reached) (λ same. inr (inl (subst (IsBlocked world) (sym same) blocked)))
      (one_more place count lt);
  least_is =
      not_out world aim least count are.least_is
      (λ number out. blocked_excludes world count out.out.claim.key out.out.standing blocked out.out.at out.out.due);
}

-- marks with one more
pub marks_more : (world : World) (marks : List Bool) (place : ℕ) → AreMarks world marks → is_some (settled_at world place) ≡ true →
    AreMarks world (slice_set marks place true)
marks_more world marks place are settled = record {
  lengths = length-set marks place true ∙ are.lengths;
  settled = λ other mark. by_place other mark (cases_eq other place);
}
  where
    by_place : (other : ℕ) → marked (slice_set marks place true) other ≡ true → (other ≡ place) ⊎ (other ≡ place → ⊥) →
        is_some (settled_at world other) ≡ true
    by_place other mark cases =
        ⊎_elim (λ same. ap (λ n. is_some (settled_at world n)) same ∙ settled)
        (λ differ. are.settled other (sym (get_or-set_other marks place other true false differ) ∙ mark)) cases

pub marked_still : (marks : List Bool) (place other : ℕ) → place < length marks → marked marks other ≡ true →
    marked (slice_set marks place true) other ≡ true
marked_still marks place other within mark =
    ⊎_elim (λ same. ap (marked (slice_set marks place true)) same ∙ get_or-set_same marks place true false within)
    (λ differ. get_or-set_other marks place other true false differ ∙ mark) (cases_eq other place)

pub seen_settled : (world : World) (aim : ℕ → Bool) (marks : List Bool) (least : Option ℕ) (count : ℕ) → count < length marks →
    AreSeen world aim marks least count → is_some (settled_at world count) ≡ true →
    AreSeen world aim (slice_set marks count true) least (count + 1)
seen_settled world aim marks least count within are settled = record {
  marks_are = marks_more world marks count are.marks_are settled;
  seen = λ place lt reached.
      ⊎_elim (λ less. ⊎_elim (λ mark. inl (marked_still marks count place within mark)) (λ other. inr other) (are.seen place less reached))
      (λ same. inl (ap (marked (slice_set marks count true)) same ∙ get_or-set_same marks count true false within))
      (one_more place count lt);
  least_is = not_out world aim least count are.least_is (λ number out. out_excludes world count number out settled);
}

pub seen_out : (log : List Event) (aim : ℕ → Bool) (marks : List Bool) (least : Option ℕ) (count number : ℕ) →
    AreSeen (replay log) aim marks least count → aim count ≡ true → IsOutBy (replay log) count number →
    AreSeen (replay log) aim marks (Some (lesser least number)) (count + 1)
seen_out log aim marks least count number are reached out = record {
  marks_are = are.marks_are;
  seen =
      λ place lt there. ⊎_elim (λ less. are.seen place less there)
      (λ same. inr (inr (number, subst (λ p. IsOutBy (replay log) p number) (sym same) out))) (one_more place count lt);
  least_is = by_least least are.least_is;
}
  where
    own : (place its : ℕ) → IsOutBy (replay log) place its → place ≡ count → number ≡ its
    own place its there same = out_once log count number its out (subst (λ p. IsOutBy (replay log) p its) same there)

    by_least : (o : Option ℕ) → IsLeast (replay log) aim o count → IsLeast (replay log) aim (Some (lesser o number)) (count + 1)
    by_least None none = (
      count,
      omega arith,
      reached,
      out,
      λ other its lt there its_out. ⊎_elim (λ less. absurd (none other its less there its_out))
          (λ same. let e : number ≡ its = own other its its_out same in omega (arith, e)) (one_more other count lt),
    )
    by_least (Some one) is = by_order (orders one number)
      where
        orders : (m n : ℕ) → ((m ≤ n) × (min m n ≡ m)) ⊎ ((n ≤ m) × (min m n ≡ n))
        orders m n = ⊎_elim (λ lt. inl (omega (arith, lt), omega (arith, lt))) (λ le. inr (le, omega (arith, le))) (cases_lt m n)

        by_order : ((one ≤ number) × (min one number ≡ one)) ⊎ ((number ≤ one) × (min one number ≡ number)) →
            IsLeast (replay log) aim (Some (min one number)) (count + 1)
        by_order cases =
            ⊎_elim
            (λ left. subst (λ m. IsLeast (replay log) aim (Some m) (count + 1)) (sym left.1) (
              is.0,
              (let lt = is.1 in omega (arith, lt)),
              is.2,
              is.3,
              λ other its lt there its_out. ⊎_elim (λ less. is.4 other its less there its_out)
                  (λ same. let e : number ≡ its = own other its its_out same in let le = left.0 in omega (arith, e, le))
                  (one_more other count lt),
            ))
            (λ right. subst (λ m. IsLeast (replay log) aim (Some m) (count + 1)) (sym right.1) (
              count,
              omega arith,
              reached,
              out,
              λ other its lt there its_out.
                  ⊎_elim (λ less. let le : one ≤ its = is.4 other its less there its_out in let ge = right.0 in omega (arith, le, ge))
                  (λ same. let e : number ≡ its = own other its its_out same in omega (arith, e))
                  (one_more other count lt),
            ))
            cases

-- ---- what the next one is asked with

pub exact_at : (world : World) (aim : ℕ → Bool) (marks : List Bool) (least : Option ℕ) (count : ℕ) → IsAim world aim →
    AreSeen world aim marks least count → aim count ≡ true → IsExactAt world marks count
exact_at world aim marks least count is_aim are reached part k outer at callee settled =
    let own = stands_at world count part at in
    let there : slice_get own.standing.part.outer k ≡ Some outer = ap (λ (p : Component). slice_get p.outer k) own.part_is ∙ callee in
    let less : outer.component < count = callees_before world.program count k part outer at callee in
    ⊎_elim (λ mark. mark)
    (λ rest. ⊎_elim (λ blocked. settled_excludes world outer.component blocked.standing blocked.at blocked.settled settled)
    (λ out. out_excludes world outer.component out.0 out.1 settled) rest)
    (are.seen outer.component less (is_aim count own.standing k outer reached own.at there))

-- ---- the answers

pub free_first : (world : World) (aim : ℕ → Bool) (marks : List Bool) (least : Option ℕ) (count : ℕ) (key : Key) →
    AreSeen world aim marks least count → aim count ≡ true → IsFree world count key →
    IsFirstFree world aim count key
free_first world aim marks least count key are reached free = record {
  free = free;
  reached = reached;
  first = λ other its less there its_free.
      ⊎_elim (λ mark. settled_excludes world other its_free.standing its_free.at its_free.settled (are.marks_are.settled other mark))
      (λ rest. ⊎_elim (λ blocked. blocked_excludes world other its its_free.standing blocked its_free.at its_free.due)
      (λ out. out_held world other out.0 its out.1 its_free) rest)
      (are.seen other less there);
}

-- whatever is unsettled and due a key is out
all_out : (world : World) (aim : ℕ → Bool) (marks : List Bool) (least : Option ℕ) →
    AreSeen world aim marks least (length (standings world)) →
    (component : ℕ) (standing : Standing) (key : Key) → aim component ≡ true → standing_at world component ≡ Some standing →
    standing.settled ≡ None → standing.due ≡ Some key → IsOut world component
all_out world aim marks least are component standing key reached at none due =
    ⊎_elim (λ mark. settled_excludes world component standing at none (are.marks_are.settled component mark))
    (λ rest. ⊎_elim (λ blocked. blocked_excludes world component key standing blocked at due) (λ out. out.1.out) rest)
    (are.seen component (slice_get_within (standings world) component standing at) reached)

pub all_above : (world : World) (aim : ℕ → Bool) (marks : List Bool) (least : Option ℕ) → IsAim world aim →
    AreSeen world aim marks least (length (standings world)) →
    (component : ℕ) → aim component ≡ true → IsUnsettled world component → IsAboveOut world component
all_above world aim marks least is_aim are component reached unsettled =
    waits_on_out world aim is_aim (all_out world aim marks least are) component reached unsettled

-- above one that is out, one of the aim is out
above_out : (world : World) (aim : ℕ → Bool) → IsAim world aim → (component : ℕ) → aim component ≡ true → IsAboveOut world component →
    (other : ℕ) × (aim other ≡ true) × IsOut world other
above_out world aim is_aim component reached (IsAboveOut.Itself out) = (component, reached, out)
above_out world aim is_aim component reached (IsAboveOut.Above standing place outer at settled callee above) =
    above_out world aim is_aim outer.component (is_aim component standing place outer reached at callee) above

pub waiting : (world : World) (aim : ℕ → Bool) (marks : List Bool) (number : ℕ) → IsAim world aim →
    AreSeen world aim marks (Some number) (length (standings world)) → IsWaiting world aim number
waiting world aim marks number is_aim are =
    let is = are.least_is in
    record {
      component = is.0;
      reached = is.2;
      out = is.3;
      least = λ other its there out. is.4 other its (slice_get_within (standings world) other out.out.standing out.out.at) there out;
      above = λ other there unsettled. all_above world aim marks (Some number) is_aim are other there unsettled;
    }

pub nothing_left : (world : World) (aim : ℕ → Bool) (marks : List Bool) → IsAim world aim →
    AreSeen world aim marks None (length (standings world)) → IsSettled world aim
nothing_left world aim marks is_aim are component reached unsettled =
    let above = all_above world aim marks None is_aim are component reached unsettled in
    let out = above_out world aim is_aim component reached above in
    are.least_is out.0 out.2.claim.number (slice_get_within (standings world) out.0 out.2.standing out.2.at) out.1
    (record { out = out.2; number_is = refl })

-- and then each of the aim is marked
pub all_marked : (world : World) (aim : ℕ → Bool) (marks : List Bool) → IsAim world aim →
    AreSeen world aim marks None (length (standings world)) → (place : ℕ) → place < length (standings world) → aim place ≡ true →
    marked marks place ≡ true
all_marked world aim marks is_aim are place lt reached =
    ⊎_elim (λ mark. mark)
    (λ rest. ⊎_elim
    (λ blocked. absurd
    (nothing_left world aim marks is_aim are place reached
    (record { standing = blocked.standing; at = blocked.at; settled = blocked.settled })))
    (λ out. absurd (are.least_is place out.0 lt reached out.1)) rest) (are.seen place lt reached)
