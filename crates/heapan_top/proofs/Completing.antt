-- Where nothing failed, right words are answered in full, unless memory wants.
use Rattle.std.proofs.Common.{◌≡◌, ℕ, List, Option, Some, None, inl, inr, refl, subst}
use Rattle.std.specs.Prelude.{IfSome}
use Rattle.session_replies.specs.Answers.{Setting}
use Rattle.heapan_top.specs.declared.status.Status.{Status}
use Rattle.heapan_top.specs.declared.status.Status.TheVariants as status
use Rattle.heapan_top.specs.Headline.{AnswersInFull, AnswersSession, AreRightWords, Completes}
use Rattle.heapan_top.specs.Laws.{OneOpening, OneReply}
use Rattle.heapan_top.specs.Replies.{Replies, beginning}
use Rattle.heapan_top.specs.Stores.{RepliesWith, Store}

module _ (one_reply : OneReply) (one_opening : OneOpening) (old new : Option (List ℕ)) (words : List (List ℕ))
    (right : AreRightWords words) where
  -- with a store a stream has one end
  one_end : (store : Store) (stream text text' : List ℕ) (one other : Status) → RepliesWith store stream text one
      → RepliesWith store stream text' other → one ≡ other
  one_end store stream text text' one other mine its =
      let same = one_opening store mine.setting its.setting mine.front its.front mine.opens its.opens in
      (one_reply (beginning its.setting) stream mine.others its.others one other
      (subst (λ (s : Setting). Replies (beginning s) stream mine.others one) same.0 mine.replies) its.replies).1

  -- where all was written, the status is that of the replies
  full : (store : Store) (stream : List ℕ) (ended : Status) → AnswersInFull (RepliesWith store stream) old new ended
      → Completes words store stream ended
  full store stream ended (text, replies, all) =
      ((λ wrong. absurd (wrong right)), (λ so text' planned replies'. inl (one_end store stream text text' ended planned replies replies')))

  completes : (store : Store) (stream : List ℕ) (ended : Status) → AnswersSession store stream old new ended
      → (ended ≡ status.ReadFault → ⊥) → (ended ≡ status.WriteFault → ⊥) → (ended ≡ status.StoreFault → ⊥) →
      Completes words store stream ended
  completes store stream status.Done answers read write keep = full store stream status.Done answers
  completes store stream status.Unproven answers read write keep = full store stream status.Unproven answers
  completes store stream (status.Refused command offset) answers read write keep = full store stream (status.Refused command offset) answers
  completes store stream status.Full answers read write keep = full store stream status.Full answers
  completes store stream status.Usage answers read write keep = absurd answers
  completes store stream status.ReadFault answers read write keep = absurd (read refl)
  completes store stream status.WriteFault answers read write keep = absurd (write refl)
  completes store stream status.StoreFault answers read write keep = absurd (keep refl)
  completes store stream status.NoMemory answers read write keep = ((λ wrong. absurd (wrong right)), (λ so text planned replies. inr refl))

  pub completes_left : (told : Option Store) (left : Option (List ℕ)) (ended : Status)
      → IfSome told (λ store. IfSome left (λ stream. AnswersSession store stream old new ended))
      → (ended ≡ status.ReadFault → ⊥) → (ended ≡ status.WriteFault → ⊥) → (ended ≡ status.StoreFault → ⊥)
      → IfSome told (λ store. IfSome left (λ stream. Completes words store stream ended))
  completes_left None left ended answers read write keep = tt
  completes_left (Some store) None ended answers read write keep = tt
  completes_left (Some store) (Some stream) ended answers read write keep = completes store stream ended answers read write keep
