-- What a session begins with, and what is written before any reply.
use Rattle.std.proofs.Common.{◌≡◌, ℕ, ◌+◌, ◌<◌, ◌≤◌, Bool, List, [], ◌∷◌, ◌++◌, inl, inr, Option, Some, None, Ok, Err, length}
use Rattle.std.proofs.Common.{length-append, map, min, take, refl, sym, ap, ◌∙◌, subst, append_assoc, arith}
use Rattle.std.specs.Prelude.{All, IfOk, IfSome, IsSomeAnd, MatchResult, ◌⊎◌, ◌≢◌, true, false, is_ok}
use Rattle.std.specs.Option.{option_map}
use Rattle.std.proofs.lemmas.Bool.{cases_lt}
use Rattle.std.proofs.lemmas.List.{append_cancel_left, length-take}
use Rattle.std.specs.declared.result.Result.{Result}
use Rattle.io_ports.specs.declared.keeper.Held.{Held}
use Rattle.io_ports.specs.Places.{IsHeld, MOST_HELD}
use Rattle.std.proofs.lemmas.List.Elements.{All-map, All-nil, All-weaker}
use Rattle.io_ports.specs.Bytes.{after_held}
use Rattle.io_ports.proofs.ToldBytes.{after_held-append}
use Rattle.shape_data.specs.WellFormed.{storable}
use Rattle.shape_data.specs.declared.answer.Kept.{Kept}
use Rattle.claim_core.specs.Views.{Solution, solution_of}
use Rattle.solve_laws.specs.Certificates.Limits.{AnswerWidens, StorableIsAnalysable, analysable}
use Rattle.bottom_up.specs.Laws.{IsRight}
use Rattle.session_replies.specs.Solving.{IsStoredEntry}
use Rattle.store_json.specs.declared.reading.Unread.{Unread}
use Rattle.summary_store.specs.Laws.{LoadedAreInductive, OneLoading, SomeLoading}
use Rattle.summary_store.specs.Loading.{Contents, IsLoaded, IsLoadedEntry}
use Rattle.session_replies.specs.Answers.{Setting}
use Rattle.reporters.specs.Known.{Known}
use Rattle.heapan_top.specs.declared.opening.Opened.{Opened}
use Rattle.heapan_top.specs.declared.status.Status.{Status}
use Rattle.heapan_top.specs.declared.status.Status.TheVariants as status
use Rattle.heapan_top.specs.Fed.{FeedsSession, IsFed}
use Rattle.heapan_top.specs.Headline.{Answers, AnswersInFull, AnswersSession, Appends, AppendsSome, BeginsReplies}
use Rattle.heapan_top.specs.Laws.{OneOpening, SomeOpening}
use Rattle.heapan_top.specs.Parts.{IsCutShort}
use Rattle.heapan_top.specs.Replies.{Replies, beginning}
use Rattle.heapan_top.proofs.CourseLaws.{nothing_written, some_behind, some_of_more}
use Rattle.heapan_top.proofs.FedLaws.{cut_is_not_whole, unfed}
use Rattle.heapan_top.proofs.WorkLaws.{not_empty}
use Rattle.heapan_top.specs.Stores.{Opens, RepliesWith, Store, front_of, nothing_loaded, path_told, unread_line}
use Rattle.heapan_top.specs.Work.{AppendsCounted, CountsSession}

-- ---- entries that were loaded are right

one_right : AnswerWidens → StorableIsAnalysable → (one : Solution) → IsLoadedEntry one → IsRight one
one_right widens known one entry = record {
  inductive = entry.inductive;
  formed = widens storable analysable one.key one.answer known.0 entry.read.storable.answer.answers;
  reasons = entry.read.storable.answer.reasons;
}

pub opened_are_right : LoadedAreInductive → AnswerWidens → StorableIsAnalysable → (store : Store) (setting : Setting) (front : List ℕ) →
    Opens store setting front → All IsRight setting.loaded
opened_are_right inductive widens known _ _ _ Opens.no_store = All-nil IsRight
opened_are_right inductive widens known _ _ _ Opens.absent = All-nil IsRight
opened_are_right inductive widens known _ _ _ (Opens.too_long bytes long) = All-nil IsRight
opened_are_right inductive widens known _ _ _ (Opens.unread bytes why short is) = All-nil IsRight
opened_are_right inductive widens known _ _ _ (Opens.loaded bytes contents short is) =
    All-weaker IsLoadedEntry IsRight (one_right widens known) contents.entries (inductive bytes (Ok contents) is)

entry_is_stored : (one : Solution) → IsLoadedEntry one → IsStoredEntry one
entry_is_stored one entry =
    record { right = record { stored = entry.read.stored; inductive = entry.inductive }; storable = entry.read.storable.answer }

pub entries_are_stored : (entries : List Kept) → All (λ (kept : Kept). IsLoadedEntry (solution_of kept)) entries →
    All IsStoredEntry (map solution_of entries)
entries_are_stored entries loaded =
    All-map IsStoredEntry solution_of entries
    (All-weaker (λ (kept : Kept). IsLoadedEntry (solution_of kept)) (λ (kept : Kept). IsStoredEntry (solution_of kept))
    (λ kept. entry_is_stored (solution_of kept)) entries loaded)

-- ---- what was opened

-- without an entry
pub opens_without : {E : Type 0} (store : Store) (saves unread : Bool) →
    Opens store (record { loaded = []; saves = saves }) (front_of unread) → (r : Result Opened E) → IfOk r (λ one. one.loaded.value ≡ []) →
    IfOk r (λ one. one.unread ≡ unread) →
    IfOk r (λ one. Opens store (record { loaded = one.loaded.value; saves = saves }) (front_of one.unread))
opens_without store saves unread opens (Ok one) none is =
    subst (λ u. Opens store (record { loaded = one.loaded.value; saves = saves }) (front_of u)) (sym is)
    (subst (λ all. Opens store (record { loaded = all; saves = saves }) (front_of unread)) (sym none) opens)
opens_without store saves unread opens (Err e) none is = tt

-- whatever is under the path, if only this holds of it
pub opens_at : {E : Type 0} (holds : Option (List ℕ) → Type 0) (unread : Bool) →
    ((there : Option (List ℕ)) → holds there → Opens (Some there) nothing_loaded (front_of unread)) → (r : Result Opened E) →
    IfOk r (λ one. one.loaded.value ≡ []) → IfOk r (λ one. one.unread ≡ unread) →
    IfOk r (λ one. (there : Option (List ℕ)) → holds there →
    Opens (Some there) (record { loaded = one.loaded.value; saves = true }) (front_of one.unread))
opens_at holds unread opens (Ok one) none is = λ there has.
    subst (λ u. Opens (Some there) (record { loaded = one.loaded.value; saves = true }) (front_of u)) (sym is)
    (subst (λ all. Opens (Some there) (record { loaded = all; saves = true }) (front_of unread)) (sym none) (opens there has))
opens_at holds unread opens (Err e) none is = tt

pub absent_opens : (there : Option (List ℕ)) → there ≡ None → Opens (Some there) nothing_loaded []
absent_opens there is = subst (λ t. Opens (Some t) nothing_loaded []) (sym is) Opens.absent

pub long_opens : (there : Option (List ℕ)) → IsSomeAnd there (λ bytes. MOST_HELD < length bytes) →
    Opens (Some there) nothing_loaded unread_line
long_opens None long = absurd long
long_opens (Some bytes) long = Opens.too_long bytes long

pub bytes_open : {E : Type 0} (holds : Option (List ℕ) → Type 0) (bytes : List ℕ) →
    ((there : Option (List ℕ)) → holds there → there ≡ Some bytes) → (r : Result Opened E) →
    IfOk r (λ one. Opens (Some (Some bytes)) (record { loaded = one.loaded.value; saves = true }) (front_of one.unread)) →
    IfOk r (λ one. (there : Option (List ℕ)) → holds there →
    Opens (Some there) (record { loaded = one.loaded.value; saves = true }) (front_of one.unread))
bytes_open holds bytes only (Ok one) opens =
    λ there has. subst (λ t. Opens (Some t) (record { loaded = one.loaded.value; saves = true }) (front_of one.unread))
    (sym (only there has)) opens
bytes_open holds bytes only (Err e) opens = tt

-- where it is told what is under the path
pub told_opens : {E : Type 0} (told : Option (Option (List ℕ))) (held : Held) (r : Result Opened E) →
    IfSome told (λ there. IsHeld there held) →
    IfOk r (λ one. (there : Option (List ℕ)) → IsHeld there held →
    Opens (Some there) (record { loaded = one.loaded.value; saves = true }) (front_of one.unread)) →
    IfOk r (λ one. IfSome (option_map Some told)
    (λ store. Opens store (record { loaded = one.loaded.value; saves = true }) (front_of one.unread)))
told_opens None held (Ok one) is opens = tt
told_opens (Some there) held (Ok one) is opens = opens there is
told_opens told held (Err e) is opens = tt

-- another error in place of one
pub through_error : {E D : Type 0} (P : Opened → Type 0) (F : E → Type 0) (r : Result Opened E) (s : Result Opened D) →
    MatchResult r (λ x. s ≡ Ok x) F → is_ok s ≡ is_ok r → IfOk r P → IfOk s P
through_error P F (Ok x) s is same holds = subst (λ o. IfOk o P) (sym is) holds
through_error P F (Err e) (Ok y) is same holds = let clash : true ≡ false = same in absurd cc
through_error P F (Err e) (Err d) is same holds = tt

pub told_same : (path : Option (List ℕ)) (kept kept' : List ℕ → Option (Option (List ℕ))) → ((any : List ℕ) → kept' any ≡ kept any) →
    path_told kept' path ≡ path_told kept path
told_same None kept kept' same = refl
told_same (Some path) kept kept' same = same path

-- ---- a session begins in one way

record IsSameOpening (one other : Setting) (front front' : List ℕ) : Type 0 where
  setting_is : one ≡ other
  front_is : front ≡ front'

same_opening : OneLoading → (store : Store) (one other : Setting) (front front' : List ℕ) → Opens store one front →
    Opens store other front' → IsSameOpening one other front front'
same_opening once _ _ _ _ _ Opens.no_store Opens.no_store = record { setting_is = refl; front_is = refl }
same_opening once _ _ _ _ _ Opens.absent Opens.absent = record { setting_is = refl; front_is = refl }
same_opening once _ _ _ _ _ (Opens.too_long bytes long) (Opens.too_long _ _) = record { setting_is = refl; front_is = refl }
same_opening once _ _ _ _ _ (Opens.too_long bytes long) (Opens.unread _ why short is) = absurd (omega (arith, long, short))
same_opening once _ _ _ _ _ (Opens.too_long bytes long) (Opens.loaded _ contents short is) = absurd (omega (arith, long, short))
same_opening once _ _ _ _ _ (Opens.unread bytes why short is) (Opens.too_long _ long) = absurd (omega (arith, long, short))
same_opening once _ _ _ _ _ (Opens.unread bytes why short is) (Opens.unread _ _ _ _) = record { setting_is = refl; front_is = refl }
same_opening once _ _ _ _ _ (Opens.unread bytes why short is) (Opens.loaded _ contents _ also) =
    let clash : Err why ≡ Ok contents = once bytes (Err why) (Ok contents) is also in absurd cc
same_opening once _ _ _ _ _ (Opens.loaded bytes contents short is) (Opens.too_long _ long) = absurd (omega (arith, long, short))
same_opening once _ _ _ _ _ (Opens.loaded bytes contents short is) (Opens.unread _ why _ also) =
    let clash : Ok contents ≡ Err why = once bytes (Ok contents) (Err why) is also in absurd cc
same_opening once _ _ _ _ _ (Opens.loaded bytes contents short is) (Opens.loaded _ contents' _ also) =
    let same : Ok contents ≡ Ok contents' = once bytes (Ok contents) (Ok contents') is also in
    let alike : contents ≡ contents' = cc in
    record { setting_is = ap (λ (c : Contents). record { loaded = c.entries; saves = true }) alike; front_is = refl }

pub opens_once : OneLoading → OneOpening
opens_once once store one other front front' opens opens' =
    let same = same_opening once store one other front front' opens opens' in
    (same.setting_is, same.front_is)

pub opens_some : SomeLoading → SomeOpening
opens_some some None = (_, _, Opens.no_store)
opens_some some (Some None) = (_, _, Opens.absent)
opens_some some (Some (Some bytes)) = by_length (cases_lt MOST_HELD (length bytes))
  where
    by_loaded : length bytes ≤ MOST_HELD → (loaded : Result Contents Unread) → IsLoaded bytes loaded →
        (setting : Setting) × (front : List ℕ) × Opens (Some (Some bytes)) setting front
    by_loaded short (Ok contents) is = (_, _, Opens.loaded bytes contents short is)
    by_loaded short (Err why) is = (_, _, Opens.unread bytes why short is)

    by_length : (MOST_HELD < length bytes) ⊎ (length bytes ≤ MOST_HELD) →
        (setting : Setting) × (front : List ℕ) × Opens (Some (Some bytes)) setting front
    by_length (inl long) = (_, _, Opens.too_long bytes long)
    by_length (inr short) = let own = some bytes in by_loaded short own.0 own.1

-- ---- behind what is written before any reply

module _ (one_opening : OneOpening) (store : Store) (setting : Setting) (front : List ℕ) (opens : Opens store setting front)
    (stream : List ℕ) (old new : Option (List ℕ)) where
  -- the replies begin with it, whatever they are
  front_is : (text : List ℕ) (planned : Status) (replies : RepliesWith store stream text planned) →
      (others : List ℕ) × Replies (beginning setting) stream others planned × (text ≡ front ++ others)
  front_is text planned is =
      let same = one_opening store setting is.setting front is.front opens is.opens in (
        is.others,
        subst (λ (s : Setting). Replies (beginning s) stream is.others planned) (sym same.0) is.replies,
        is.text_is
            ∙ ap (λ f. f ++ is.others) (sym same.1),
      )

  module _ (mid : Option (List ℕ)) (written : Appends old mid front) where
    full_with : (ended : Status) → AnswersInFull (Replies (beginning setting) stream) mid new ended →
        AnswersInFull (RepliesWith store stream) old new ended
    full_with ended (text, replies, all) = (
      front ++ text,
      record { setting = setting; front = front; others = text; opens = opens; replies = replies; text_is = refl },
      all ∙ ap (λ held. after_held held text) written ∙ after_held-append old front text,
    )

    begins_with : BeginsReplies (Replies (beginning setting) stream) mid new → BeginsReplies (RepliesWith store stream) old new
    begins_with some text planned is =
        let own = front_is text planned is in
        subst (AppendsSome old new) (sym own.2) (some_behind old new mid front own.0 written (some own.0 planned own.1))

    pub answers_with : (ended : Status) → Answers (beginning setting) stream mid new ended → AnswersSession store stream old new ended
    answers_with status.Done answers = full_with status.Done answers
    answers_with status.Unproven answers = full_with status.Unproven answers
    answers_with (status.Refused number offset) answers = full_with (status.Refused number offset) answers
    answers_with status.Full answers = full_with status.Full answers
    answers_with status.Usage answers = absurd answers
    answers_with status.ReadFault answers = begins_with answers
    answers_with status.WriteFault answers = begins_with answers
    answers_with status.StoreFault answers = begins_with answers
    answers_with status.NoMemory answers = begins_with answers

    pub counts_with : (solves : ℕ) → AppendsCounted setting stream mid new solves → CountsSession store stream old new solves
    counts_with solves (own, all, counted) = record {
      setting = setting;
      front = front;
      written = front ++ own;
      opens = opens;
      appends = all ∙ ap (λ held. after_held held own) written ∙ after_held-append old front own;
      counted =
          λ text count prints (more, is). counted text count prints
          (more, append_cancel_left front own (text ++ more) (is ∙ append_assoc front text more));
    }

  -- the session ended in it
  begins_in : AppendsSome old new front → BeginsReplies (RepliesWith store stream) old new
  begins_in some text planned is =
      let own = front_is text planned is in subst (AppendsSome old new) (sym own.2) (some_of_more old new front own.0 some)

  pub counts_in : (solves : ℕ) → AppendsSome old new front → CountsSession store stream old new solves
  counts_in solves (size, all) = record {
    setting = setting;
    front = front;
    written = take size front;
    opens = opens;
    appends = all;
    counted = λ text count prints (more, is).
        by_text text (not_empty (beginning setting) stream text count prints) (length front) (length more) (length (take size front))
        (ap length is ∙ length-append (front ++ text) more ∙ ap (λ n. n + length more) (length-append front text)) (length-take size front);
  }
    where
      by_text : (xs : List ℕ) → xs ≢ [] → (whole behind cut : ℕ) → cut ≡ (whole + length xs) + behind → cut ≡ min size whole →
          {A : Type 0} → A
      by_text [] some whole behind cut longer short = absurd (some refl)
      by_text (x ∷ xs) some whole behind cut longer short = absurd (omega (arith, longer, short))

answers_early : (store : Store) (stream : List ℕ) (old new : Option (List ℕ)) (ended : Status) → IsCutShort ended →
    BeginsReplies (RepliesWith store stream) old new → AnswersSession store stream old new ended
answers_early store stream old new ended (inl is) begins = subst (AnswersSession store stream old new) (sym is) begins
answers_early store stream old new ended (inr (inl is)) begins = subst (AnswersSession store stream old new) (sym is) begins
answers_early store stream old new ended (inr (inr is)) begins = subst (AnswersSession store stream old new) (sym is) begins

-- ---- where the store and the stream are told

module _ (one_opening : OneOpening) (setting : Setting) (front : List ℕ) (told : Option Store)
    (opens : IfSome told (λ store. Opens store setting front)) (stream : Option (List ℕ)) (old new : Option (List ℕ)) where
  abbrev ForBoth : (Store → List ℕ → Type 0) → Type 0
  ForBoth holds = IfSome told (λ store. IfSome stream (λ bytes. holds store bytes))

  both : (holds : Store → List ℕ → Type 0) (told' : Option Store) (stream' : Option (List ℕ)) →
      ((store : Store) → told' ≡ Some store → (bytes : List ℕ) → stream' ≡ Some bytes → holds store bytes) →
      IfSome told' (λ store. IfSome stream' (λ bytes. holds store bytes))
  both holds None stream' each = tt
  both holds (Some store) None each = tt
  both holds (Some store) (Some bytes) each = each store refl bytes refl

  opened : (store : Store) → told ≡ Some store → Opens store setting front
  opened store is = subst (λ (o : Option Store). IfSome o (λ s. Opens s setting front)) is opens

  module _ (mid : Option (List ℕ)) (written : Appends old mid front) where
    pub answers_behind_front : (ended : Status) → IfSome stream (λ bytes. Answers (beginning setting) bytes mid new ended) →
        ForBoth (λ store bytes. AnswersSession store bytes old new ended)
    answers_behind_front ended answers =
        both (λ store bytes. AnswersSession store bytes old new ended) told stream
        (λ store is bytes here. answers_with one_opening store setting front (opened store is) bytes old new mid written ended
        (subst (λ (o : Option (List ℕ)). IfSome o (λ all. Answers (beginning setting) all mid new ended)) here answers))

    pub counts_behind_front : (solves : ℕ) → IfSome stream (λ bytes. AppendsCounted setting bytes mid new solves) →
        ForBoth (λ store bytes. CountsSession store bytes old new solves)
    counts_behind_front solves counted =
        both (λ store bytes. CountsSession store bytes old new solves) told stream
        (λ store is bytes here. counts_with one_opening store setting front (opened store is) bytes old new mid written solves
        (subst (λ (o : Option (List ℕ)). IfSome o (λ all. AppendsCounted setting all mid new solves)) here counted))

    pub fed_behind_front : (was has after : Option (Option (List ℕ))) (as_they_came : Type 0) (olds news : List Known) (ended : Status) →
        has ≡ was →
        IfSome stream (λ bytes. IsFed (beginning setting) bytes mid new has after as_they_came olds news ended) →
        ForBoth (λ store bytes. FeedsSession store bytes old new was after as_they_came olds news ended)
    fed_behind_front was has after as_they_came olds news ended same fed =
        both (λ store bytes. FeedsSession store bytes old new was after as_they_came olds news ended) told stream
        (λ store is bytes here. inl (record {
          setting = setting;
          front = front;
          mid = mid;
          opens = opened store is;
          appends = written;
          fed =
              subst (λ before. IsFed (beginning setting) bytes mid new before after as_they_came olds news ended) same
              (subst (λ (o : Option (List ℕ)). IfSome o
              (λ all. IsFed (beginning setting) all mid new has after as_they_came olds news ended)) here fed);
        }))

  module _ (some : AppendsSome old new front) where
    pub answers_in_front : (ended : Status) → IsCutShort ended → ForBoth (λ store bytes. AnswersSession store bytes old new ended)
    answers_in_front ended early =
        both (λ store bytes. AnswersSession store bytes old new ended) told stream
        (λ store is bytes here. answers_early store bytes old new ended early
        (begins_in one_opening store setting front (opened store is) bytes old new some))

    pub counts_in_front : (solves : ℕ) → ForBoth (λ store bytes. CountsSession store bytes old new solves)
    counts_in_front solves =
        both (λ store bytes. CountsSession store bytes old new solves) told stream
        (λ store is bytes here. counts_in one_opening store setting front (opened store is) bytes old new solves some)

    fed_in_front : (has : Option (Option (List ℕ))) (as_they_came : Type 0) (all : List Known) (ended : Status) → as_they_came →
        IsCutShort ended →
        ForBoth (λ store bytes. FeedsSession store bytes old new has has as_they_came all all ended)
    fed_in_front has as_they_came all ended same early =
        both (λ store bytes. FeedsSession store bytes old new has has as_they_came all all ended) told stream
        (λ store is bytes here. inr (record {
          setting = setting;
          front = front;
          opens = opened store is;
          appends = some;
          were = unfed as_they_came all same;
          kept = refl;
          cut = cut_is_not_whole ended early;
        }))

    -- reporters are as they came, and so is what the store has
    pub still_in_front : {A : Type 0} (known : A → Known) (xs ys : List A) (was has : Option (Option (List ℕ))) (ended : Status) → ys ≡ xs →
        has ≡ was → IsCutShort ended →
        ForBoth (λ store bytes. FeedsSession store bytes old new was has (ys ≡ xs) (map known xs) (map known ys) ended)
    still_in_front known xs ys was has ended same kept early =
        subst (λ zs. ForBoth (λ store bytes. FeedsSession store bytes old new was has (zs ≡ xs) (map known xs) (map known zs) ended))
        (sym same)
        (subst (λ there. ForBoth (λ store bytes. FeedsSession store bytes old new was there (xs ≡ xs) (map known xs) (map known xs) ended))
        (sym kept)
        (fed_in_front was (xs ≡ xs) (map known xs) ended refl early))

-- the store could not be read: nothing was written
module _ (one_opening : OneOpening) (some_opening : SomeOpening) (told : Option Store) (stream : Option (List ℕ))
    (held : Option (List ℕ)) where
  opens_somehow : (o : Option Store) → (setting : Setting) × (front : List ℕ) × IfSome o (λ store. Opens store setting front)
  opens_somehow None = (nothing_loaded, [], tt)
  opens_somehow (Some store) = some_opening store

  pub answers_unopened : (ended : Status) → IsCutShort ended →
      IfSome told (λ store. IfSome stream (λ bytes. AnswersSession store bytes held held ended))
  answers_unopened ended early =
      let own =
      opens_somehow told in answers_in_front one_opening own.0 own.1 told own.2 stream held held
      (nothing_written held held refl own.1) ended early

  pub counts_unopened : (solves : ℕ) → IfSome told (λ store. IfSome stream (λ bytes. CountsSession store bytes held held solves))
  counts_unopened solves =
      let own =
      opens_somehow told in counts_in_front one_opening own.0 own.1 told own.2 stream held held
      (nothing_written held held refl own.1) solves

  pub still_unopened : {A : Type 0} (known : A → Known) (xs ys : List A) (was has : Option (Option (List ℕ))) (ended : Status) → ys ≡ xs →
      has ≡ was → IsCutShort ended →
      IfSome told (λ store. IfSome stream
      (λ bytes. FeedsSession store bytes held held was has (ys ≡ xs) (map known xs) (map known ys) ended))
  still_unopened known xs ys was has ended same kept early =
      let own =
      opens_somehow told in still_in_front one_opening own.0 own.1 told own.2 stream held held
      (nothing_written held held refl own.1) known xs ys was has ended same kept early
