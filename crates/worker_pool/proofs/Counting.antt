-- How many answers were published in a log.
use Rattle.std.proofs.Common.{◌≡◌, ◌+◌, ◌<◌, ◌≤◌, ℕ, Bool, List, [], ◌∷◌, ◌++◌, map, length, refl, ap, ◌∙◌, arith}
use Rattle.std.proofs.lemmas.List.{length-map}
use Rattle.std.specs.Prelude.{IfOk, OnErr}
use Rattle.std.specs.declared.alloc.AllocError.{AllocError}
use Rattle.std.specs.declared.result.Result.{Result}
use Rattle.std.specs.declared.result.Result.TheVariants.{Ok, Err}
use Rattle.shape_data.specs.declared.answer.Answer.{Answer}
use Rattle.shape_data.specs.declared.program.Program.{Program}
use Rattle.claim_core.specs.declared.event.Event.{Event as Told}
use Rattle.claim_core.specs.Told.{event_of, events_of}
use Rattle.claim_laws.specs.World.{Event, Out}
use Rattle.claim_laws.specs.Logs.{published}
use Rattle.summary_book.specs.declared.answers.Met.{Met}
use Rattle.summary_book.specs.declared.answers.Met.TheVariants.{Same, Revised}
use Rattle.summary_book.specs.declared.answers.Next.{Next}
use Rattle.summary_book.specs.declared.answers.Next.TheVariants.{Yours, Waits, All}
use Rattle.summary_book.specs.Book.{met_events}
use Rattle.summary_book.specs.Next.{events_by}
use Rattle.summary_book.specs.Views.{Contents}

pub published-append : (one other : List Event) → published (one ++ other) ≡ published one + published other
published-append [] other = omega arith
published-append (Event.Revise revision program ∷ one) other = published-append one other
published-append (Event.Claim number worker component key ∷ one) other = published-append one other
published-append (Event.Publish number answer kept ∷ one) other = let rest = published-append one other in omega (arith, rest)
published-append (Event.GiveBack number ∷ one) other = published-append one other

-- there are no more of them than events
pub published_few : (log : List Event) → published log ≤ length log
published_few [] = omega arith
published_few (Event.Revise revision program ∷ others) = let rest = published_few others in omega (arith, rest)
published_few (Event.Claim number worker component key ∷ others) = let rest = published_few others in omega (arith, rest)
published_few (Event.Publish number answer kept ∷ others) = let rest = published_few others in omega (arith, rest)
published_few (Event.GiveBack number ∷ others) = let rest = published_few others in omega (arith, rest)

-- none is published where claims are given back
pub published_given_back : (out : List Out) → published (map (λ (one : Out). Event.GiveBack one.number) out) ≡ 0
published_given_back [] = refl
published_given_back (first ∷ others) = published_given_back others

-- a log in memory has fewer events than there are numbers
pub published_fit : (told : List Told) (log : List Event) → events_of told ≡ log → length told < 18446744073709551616 →
    published log < 18446744073709551616
published_fit told log are fits =
    let few = published_few log in
    let same : length (events_of told) ≡ length told = length-map told event_of in
    let all : length (events_of told) ≡ length log = ap length are in
    omega (arith, few, same, all, fits)

-- ---- what each call adds

pub published_more : (log : List Event) (number : ℕ) (answer : Answer) (kept : Bool) →
    published (log ++ Event.Publish number answer kept ∷ []) ≡ published log + 1
published_more log number answer kept = published-append log (Event.Publish number answer kept ∷ [])

pub published_given : (log : List Event) (number : ℕ) → published (log ++ Event.GiveBack number ∷ []) ≡ published log
published_given log number = let more = published-append log (Event.GiveBack number ∷ []) in omega (arith, more)

pub published_swept : (log later : List Event) (out : List Out) → later ≡ log ++ map (λ (one : Out). Event.GiveBack one.number) out →
    published later ≡ published log
published_swept log later out is =
    let more : published (log ++ map (λ (one : Out). Event.GiveBack one.number) out) ≡ published log + published
    (map (λ (one : Out). Event.GiveBack one.number) out) = published-append log (map (λ (one : Out). Event.GiveBack one.number) out) in
    let none = published_given_back out in
    let all : published later ≡ published (log ++ map (λ (one : Out). Event.GiveBack one.number) out) = ap published is in
    omega (arith, more, none, all)

published_met_by : (log : List Event) (program : Program) (met : Met) → published (log ++ met_events program met) ≡ published log
published_met_by log program Same = let more = published-append log [] in omega (arith, more)
published_met_by log program (Revised revision) = let more = published-append log (Event.Revise revision program ∷ []) in
    omega (arith, more)

pub published_met : (r : Result Met AllocError) (program : Program) (old new : Contents) →
    IfOk r (λ met. new.log ≡ old.log ++ met_events program met) → OnErr r (new ≡ old) → published new.log ≡ published old.log
published_met (Ok met) program old new is same = ap published is ∙ published_met_by old.log program met
published_met (Err e) program old new is same = ap (λ (book : Contents). published book.log) same

published_next_by : (log : List Event) (worker : ℕ) (next : Next) → published (log ++ events_by worker next) ≡ published log
published_next_by log worker (Yours claim) = let more =
    published-append log (Event.Claim claim.number worker claim.component claim.key ∷ []) in omega (arith, more)
published_next_by log worker (Waits number) = let more = published-append log [] in omega (arith, more)
published_next_by log worker All = let more = published-append log [] in omega (arith, more)

pub published_next : (r : Result Next AllocError) (worker : ℕ) (log later : List Event) →
    IfOk r (λ next. later ≡ log ++ events_by worker next) → OnErr r (later ≡ log) → published later ≡ published log
published_next (Ok next) worker log later is same = ap published is ∙ published_next_by log worker next
published_next (Err e) worker log later is same = ap published same
