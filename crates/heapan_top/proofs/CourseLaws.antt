-- How replies to one command after another make the replies to a stream, and what is written where a fault ends them.
use Rattle.std.proofs.Common.{◌≡◌, ◌≢◌, ℕ, zero, suc, ◌+◌, ◌-◌, ◌<◌, ◌≤◌, Bool, true, false, cond, List, [], ◌∷◌, ◌++◌, inl, inr, Option}
use Rattle.std.proofs.Common.{Some, None, Result, Ok, Err, length, take, refl, sym, ap, ◌∙◌, subst, append_assoc}
use Rattle.std.specs.Prelude.{IfNone, IfOk, IfSome, ◌==◌}
use Rattle.std.proofs.lemmas.List.{append-nil}
use Rattle.io_ports.specs.Bytes.{after_held, before_left}
use Rattle.io_ports.proofs.ToldBytes.{after_held-append}
use Rattle.session_lines.specs.declared.command.Command.{Command}
use Rattle.session_lines.specs.declared.command.Command.TheVariants as command
use Rattle.session_lines.specs.Lines.{IsFirst}
use Rattle.session_lines.specs.declared.command.Taken.{Taken}
use Rattle.session_lines.specs.Reading.{IsMalformed, IsTaken, Reading, Takes}
use Rattle.session_lines.proofs.Streams.{before_left-append}
use Rattle.session_replies.specs.Answers.{Answers as AnswersCommand, Present, Setting}
use Rattle.session_replies.specs.Laws.{AnswersKeepSetting}
use Rattle.heapan_top.specs.declared.status.Status.{Status}
use Rattle.heapan_top.specs.declared.status.Status.TheVariants as status
use Rattle.heapan_top.specs.Headline.{Answers, AnswersInFull, Appends, AppendsSome, BeginsReplies, ReadsFront}
use Rattle.heapan_top.specs.Laws.{OneReply, SomeReply}
use Rattle.heapan_top.specs.Parts.{Ends, Goes, IsAt, IsCutAnswer, IsCutShort, IsReply, IsStoreEnd, IsTurn, IsUnderWay, IsWriteEnd, Leads}
use Rattle.heapan_top.specs.Parts.{course_of}
use Rattle.heapan_top.specs.Replies.{Course, Replies, beginning, malformed_line, one_behind, status_with}

-- ---- what is held

pub held-nil : (held : Option (List ℕ)) → after_held held [] ≡ held
held-nil None = refl
held-nil (Some bytes) = ap Some (append-nil bytes)

-- a front of the first bytes is one of all
front-more : (count : ℕ) (xs ys : List ℕ) → (more : ℕ) × (take more (xs ++ ys) ≡ take count xs)
front-more zero xs ys = (0, refl)
front-more (suc count) [] ys = (0, refl)
front-more (suc count) (x ∷ xs) ys = let (more, is) = front-more count xs ys in (suc more, ap (λ zs. x ∷ zs) is)

-- all of the first bytes, and a front of the others
front-behind : (xs ys : List ℕ) (count : ℕ) → (more : ℕ) × (take more (xs ++ ys) ≡ xs ++ take count ys)
front-behind [] ys count = (count, refl)
front-behind (x ∷ xs) ys count = let (more, is) = front-behind xs ys count in (suc more, ap (λ zs. x ∷ zs) is)

module _ (old new : Option (List ℕ)) where
  pub nothing_appended : new ≡ old → Appends old new []
  nothing_appended same = same ∙ sym (held-nil old)

  pub nothing_written : new ≡ old → (text : List ℕ) → AppendsSome old new text
  nothing_written same text = (0, nothing_appended same)

  pub some_of_more : (text others : List ℕ) → AppendsSome old new text → AppendsSome old new (text ++ others)
  some_of_more text others (count, is) = let (more, same) = front-more count text others in (more, is ∙ ap (after_held old) (sym same))

  pub some_behind : (mid : Option (List ℕ)) (text others : List ℕ) → Appends old mid text → AppendsSome mid new others →
      AppendsSome old new (text ++ others)
  some_behind mid text others is (count, also) =
      let (more, same) = front-behind text others count in (
        more,
        also ∙ ap (λ held. after_held held (take count others)) is ∙ after_held-append old text (take count others)
            ∙ ap (after_held old) (sym same),
      )

-- ---- statuses

-- where the call ends by a fault, a front is enough
pub cut_answers : (course : Course) (stream : List ℕ) (old new : Option (List ℕ)) (ended : Status) → IsCutShort ended →
    BeginsReplies (Replies course stream) old new → Answers course stream old new ended
cut_answers course stream old new ended (inl is) begins = subst (Answers course stream old new) (sym is) begins
cut_answers course stream old new ended (inr (inl is)) begins = subst (Answers course stream old new) (sym is) begins
cut_answers course stream old new ended (inr (inr is)) begins = subst (Answers course stream old new) (sym is) begins

pub write_cuts : (ended : Status) → IsWriteEnd ended → IsCutShort ended
write_cuts ended (inl is) = inl is
write_cuts ended (inr is) = inr (inr is)

pub store_cuts : (ended : Status) → IsStoreEnd ended → IsCutShort ended
store_cuts ended (inl is) = inr (inl is)
store_cuts ended (inr is) = inr (inr is)

-- where all was read, it ends by one of two statuses
by_missing : (course : Course) (stream : List ℕ) (old new : Option (List ℕ)) (none : Bool) →
    AnswersInFull (Replies course stream) old new (cond none status.Done status.Unproven) →
    Answers course stream old new (cond none status.Done status.Unproven)
by_missing course stream old new true full = full
by_missing course stream old new false full = full

pub all_read : (course : Course) (stream : List ℕ) (old new : Option (List ℕ)) (missing : ℕ) →
    Replies course stream [] (status_with missing) → new ≡ old → Answers course stream old new (status_with missing)
all_read course stream old new missing replies same =
    by_missing course stream old new (missing == 0) ([], replies, nothing_appended old new same)

module _ (one_reply : OneReply) where
  begins : (course : Course) (stream text : List ℕ) (planned : Status) (old new : Option (List ℕ)) → Replies course stream text planned →
      AppendsSome old new text → BeginsReplies (Replies course stream) old new
  begins course stream text planned old new replies some text' planned' replies' =
      let (same, ends) = one_reply course stream text text' planned planned' replies replies' in
      subst (AppendsSome old new) same some

  -- a refusal was written, or a front of it
  pub refused : (course : Course) (stream text : List ℕ) (number offset : ℕ) (old new : Option (List ℕ)) (ended : Status) →
      Replies course stream text (status.Refused number offset) →
      Ends old new text (status.Refused number offset) ended → Answers course stream old new ended
  refused course stream text number offset old new ended replies (inl (is, all)) =
      subst (Answers course stream old new) (sym is) (text, replies, all)
  refused course stream text number offset old new ended replies (inr (cut, some)) =
      cut_answers course stream old new ended (write_cuts ended cut)
      (begins course stream text (status.Refused number offset) old new replies some)

  module _ (some_reply : SomeReply) where
    -- ---- a command

    module _ (course : Course) (stream rest : List ℕ) (asked : Command) (few : course.taken < 65536)
        (first : IsFirst stream asked rest) where
      abbrev after_one : Present → Course
      after_one after = one_behind course (length stream - length rest) after

      one_leads : (text : List ℕ) (after : Present) → AnswersCommand course.present asked text after →
          Leads course stream text (after_one after) rest
      one_leads text after answers =
          record { leads = λ others ended behind. Replies.more course stream rest asked text others after ended few first answers behind }

      cut_begins : (old new : Option (List ℕ)) → IsCutAnswer course.present asked old new → BeginsReplies (Replies course stream) old new
      cut_begins old new (inl same) text planned replies = nothing_written old new same text
      cut_begins old new (inr (text, after, answers, (count, less, some))) text' planned replies =
          let (others, ended, behind) = some_reply (after_one after) rest in
          begins course stream (text ++ others) ended old new ((one_leads text after answers).leads others ended behind)
          (some_of_more old new text others (count, some)) text' planned replies

      replied : (after : Present) (old new : Option (List ℕ)) (result : Option Status) → IsReply course.present asked old after new result →
          IsTurn course stream old (after_one after) (Some rest) new result
      replied after old new None (text, answers, all) =
          record { text = text; rest = rest; is_left = refl; leads = one_leads text after answers; appends = all }
      replied after old new (Some ended) (cut, some) = cut_answers course stream old new ended cut (cut_begins old new some)

    pub turned : (course : Course) (present : Present) (number offset : ℕ) (stream rest : List ℕ) (asked : Command) (after : Present)
        (old new : Option (List ℕ)) (result : Option Status) →
        IsAt course present number offset → IsFirst stream asked rest → IsReply present asked old after new result →
        IsTurn course stream old (one_behind course (length stream - length rest) after) (Some rest) new result
    turned course present number offset stream rest asked after old new result at first reply =
        replied course stream rest asked at.few first after old new result
        (subst (λ (p : Present). IsReply p asked old after new result) (sym at.present_is) reply)

    -- ---- one after another

    -- the end of what is behind is the end of all
    module _ (course after : Course) (stream rest text : List ℕ) (old mid new : Option (List ℕ))
        (leads : Leads course stream text after rest) (written : Appends old mid text) where
      full_behind : (ended : Status) → AnswersInFull (Replies after rest) mid new ended →
          AnswersInFull (Replies course stream) old new ended
      full_behind ended (others, replies, all) = (
        text ++ others,
        leads.leads others ended replies,
        all ∙ ap (λ held. after_held held others) written
            ∙ after_held-append old text others,
      )

      begins_behind : BeginsReplies (Replies after rest) mid new → BeginsReplies (Replies course stream) old new
      begins_behind some =
          let (others, ended, replies) = some_reply after rest in
          begins course stream (text ++ others) ended old new (leads.leads others ended replies)
          (some_behind old new mid text others written (some others ended replies))

      pub answers_behind : (ended : Status) → Answers after rest mid new ended → Answers course stream old new ended
      answers_behind status.Done answers = full_behind status.Done answers
      answers_behind status.Unproven answers = full_behind status.Unproven answers
      answers_behind (status.Refused number offset) answers = full_behind (status.Refused number offset) answers
      answers_behind status.Full answers = full_behind status.Full answers
      answers_behind status.Usage answers = absurd answers
      answers_behind status.ReadFault answers = begins_behind answers
      answers_behind status.WriteFault answers = begins_behind answers
      answers_behind status.StoreFault answers = begins_behind answers
      answers_behind status.NoMemory answers = begins_behind answers

    -- what goes on was under way
    pub goes_behind : (course mid after : Course) (stream : List ℕ) (old between new : Option (List ℕ)) (left left' : Option (List ℕ)) →
        Goes course stream old mid left between →
        IfSome left (λ rest. Goes mid rest between after left' new) → Goes course stream old after left' new
    goes_behind course mid after stream old between new left left' one later =
        let then_goes : Goes mid one.rest between after left' new =
        subst (λ (o : Option (List ℕ)). IfSome o (λ rest. Goes mid rest between after left' new)) one.is_left later in
        record {
          text = one.text ++ then_goes.text;
          rest = then_goes.rest;
          is_left = then_goes.is_left;
          leads = record {
            leads =
                λ others ended replies. subst (λ (whole : List ℕ). Replies course stream whole ended)
                (sym (append_assoc one.text then_goes.text others))
                (one.leads.leads (then_goes.text ++ others) ended (then_goes.leads.leads others ended replies));
          };
          appends = then_goes.appends ∙ ap (λ held. after_held held then_goes.text) one.appends
              ∙ after_held-append old one.text then_goes.text;
        }

    pub under_way : (setting : Setting) (told left left' old between new : Option (List ℕ)) (mid after : Course) (result : Option Status) →
        result ≡ None → IsUnderWay setting told old mid left between →
        IfSome left (λ rest. IsTurn mid rest between after left' new result) → IsUnderWay setting told old after left' new
    under_way setting None left left' old between new mid after result is goes turn = tt
    under_way setting (Some stream) left left' old between new mid after result is goes turn =
        goes_behind (beginning setting) mid after stream old between new left left' goes
        (subst (λ (r : Option Status). IfSome left (λ rest. IsTurn mid rest between after left' new r)) is turn)

    pub all_answered : (setting : Setting) (told left left' old between new : Option (List ℕ)) (mid after : Course) (result : Option Status)
        (ended : Status) → result ≡ Some ended → IsUnderWay setting told old mid left between →
        IfSome left (λ rest. IsTurn mid rest between after left' new result) →
        IfSome told (λ stream. Answers (beginning setting) stream old new ended)
    all_answered setting None left left' old between new mid after result ended is goes turn = tt
    all_answered setting (Some stream) left left' old between new mid after result ended is goes turn =
        let ends : IfSome left (λ rest. Answers mid rest between new ended) =
        subst (λ (r : Option Status). IfSome left (λ rest. IsTurn mid rest between after left' new r)) is turn in
        let answers : Answers mid goes.rest between new ended =
        subst (λ (o : Option (List ℕ)). IfSome o (λ rest. Answers mid rest between new ended)) goes.is_left ends in
        answers_behind (beginning setting) mid stream goes.rest goes.text old between new goes.leads goes.appends ended answers

-- nothing was read and nothing written
pub begun : (setting : Setting) (told held : Option (List ℕ)) → IsUnderWay setting told held (beginning setting) told held
begun setting None held = tt
begun setting (Some stream) held = record {
  text = [];
  rest = stream;
  is_left = refl;
  leads = record { leads = λ others ended replies. replies };
  appends = nothing_appended held held refl;
}

pub begun_at : (setting : Setting) (told held left : Option (List ℕ)) (course : Course) → course ≡ beginning setting → left ≡ told →
    IsUnderWay setting told held course left held
begun_at setting told held left course is also =
    subst (λ c. IsUnderWay setting told held c left held) (sym is)
    (subst (λ l. IsUnderWay setting told held (beginning setting) l held) (sym also) (begun setting told held))

-- ---- one command

-- what holds where nothing came, where nothing came
pub where_none : {A : Type 0} (result : Option Status) → result ≡ None → IfNone result A → A
where_none None is holds = holds
where_none (Some ended) is holds = cc

-- what was taken from a told stream, where the call answered so
pub told_takes : {E : Type 0} (told left : Option (List ℕ)) (old new : Reading) (r : Result Taken E) (x : Taken) → r ≡ Ok x →
    IfSome told (λ stream. IfOk r (λ one. Takes old new stream left one)) →
    IfSome told (λ stream. Takes old new stream left x)
told_takes None left old new r x is known = tt
told_takes (Some stream) left old new (Ok y) x is known = let same : y ≡ x = cc in subst (Takes old new stream left) same known
told_takes (Some stream) left old new (Err e) x is known = let clash : Err e ≡ Ok x = is in absurd cc

-- a fault of writing, or of storing, or want of memory is no other end
cut_is_no_other : (ended : Status) → IsCutShort ended → (ended ≡ status.ReadFault → ⊥) × (ended ≡ status.Usage → ⊥)
cut_is_no_other ended (inl is) = (
  (λ same. let clash : status.WriteFault ≡ status.ReadFault = sym is ∙ same in cc),
  (λ same. let clash : status.WriteFault ≡ status.Usage = sym is ∙ same in cc),
)
cut_is_no_other ended (inr (inl is)) = (
  (λ same. let clash : status.StoreFault ≡ status.ReadFault = sym is ∙ same in cc),
  (λ same. let clash : status.StoreFault ≡ status.Usage = sym is ∙ same in cc),
)
cut_is_no_other ended (inr (inr is)) = (
  (λ same. let clash : status.NoMemory ≡ status.ReadFault = sym is ∙ same in cc),
  (λ same. let clash : status.NoMemory ≡ status.Usage = sym is ∙ same in cc),
)

pub reply_is_cut : (present after : Present) (asked : Command) (old new : Option (List ℕ)) (result : Option Status) →
    IsReply present asked old after new result →
    (result ≡ Some status.ReadFault → ⊥) × (result ≡ Some status.Usage → ⊥)
reply_is_cut present after asked old new None reply = ((λ is. cc), (λ is. cc))
reply_is_cut present after asked old new (Some ended) (cut, some) = (
  (λ same. (cut_is_no_other ended cut).0 (value status.ReadFault same)),
  (λ same. (cut_is_no_other ended cut).1 (value status.Usage same)),
)
  where
    value : (other : Status) → Some ended ≡ Some other → ended ≡ other
    value other same = cc

-- what a session began with stays, where it goes on
pub reply_keeps_setting : AnswersKeepSetting →
    (present after : Present) (asked : Command) (old new : Option (List ℕ)) (result : Option Status) →
    IsReply present asked old after new result →
    IfNone result (after.setting ≡ present.setting)
reply_keeps_setting keeps present after asked old new None (text, answers, all) = keeps present after asked text answers
reply_keeps_setting keeps present after asked old new (Some ended) reply = tt

-- the command to end
pub quits : (course : Course) (present : Present) (number offset : ℕ) (stream rest : List ℕ) (asked : Command) (held : Option (List ℕ))
    (ended : Status) →
    IsAt course present number offset → IsFirst stream asked rest → asked ≡ command.Quit → ended ≡ status_with present.missing →
    Answers course stream held held ended
quits course present number offset stream rest asked held ended at first is end =
    let quit : IsFirst stream command.Quit rest = subst (λ one. IsFirst stream one rest) is first in
    let same : status_with course.present.missing ≡ ended = ap (λ (p : Present). status_with p.missing) at.present_is ∙ sym end in
    subst (Answers course stream held held) same
    (all_read course stream held held course.present.missing (Replies.quit course stream rest at.few quit) refl)

-- nothing is left
pub ends : (told held : Option (List ℕ)) (course : Course) (ended : Status) → IfSome told (λ stream. stream ≡ []) →
    ended ≡ status_with course.present.missing →
    IfSome told (λ stream. Answers course stream held held ended)
ends None held course ended nothing end = tt
ends (Some stream) held course ended nothing end =
    subst (Answers course stream held held) (sym end)
    (subst (λ bytes. Answers course bytes held held (status_with course.present.missing)) (sym nothing)
    (all_read course [] held held course.present.missing (Replies.end course) refl))

-- a byte follows the last command that may come
pub too_many : (told held : Option (List ℕ)) (course : Course) → IfSome told (λ stream. (stream ≢ []) × (65536 ≤ course.taken)) →
    IfSome told (λ stream. Answers course stream held held status.Full)
too_many None held course full = tt
too_many (Some stream) held course (some, most) = ([], Replies.full course stream some most, nothing_appended held held refl)

module _ (one_reply : OneReply) where
  -- no command stands first
  pub breaks : (told old new : Option (List ℕ)) (reading : Reading) (present : Present) (number offset : ℕ) (ended : Status) →
      IfSome told (λ stream. IsMalformed reading stream number offset) →
      Ends old new (malformed_line number offset) (status.Refused number offset) ended →
      IfSome told (λ stream. Answers (course_of reading present) stream old new ended)
  breaks None old new reading present number offset ended malformed written = tt
  breaks (Some stream) old new reading present number offset ended malformed written =
      refused one_reply (course_of reading present) stream (malformed_line (reading.taken + 1) reading.offset)
      (reading.taken + 1) reading.offset old new ended
      (Replies.malformed (course_of reading present) stream malformed.some malformed.few malformed.none)
      (subst (λ n. Ends old new (malformed_line n reading.offset) (status.Refused n reading.offset) ended) malformed.is_number
      (subst (λ o. Ends old new (malformed_line number o) (status.Refused number o) ended) malformed.is_offset written))

-- what follows a command, for any course and stream
abbrev pub Follows : Present → Command → ℕ → ℕ → Option (List ℕ) → Present → Option (List ℕ) → Option Status → Type 0
Follows present asked number offset old after new result =
    (course : Course) (stream rest : List ℕ) → IsAt course present number offset → IsFirst stream asked rest →
    IsTurn course stream old (one_behind course (length stream - length rest) after) (Some rest) new result

-- a command was taken, and followed
pub takes : (told left old new : Option (List ℕ)) (reading later : Reading) (present after : Present) (asked : Command) (number offset : ℕ)
    (result : Option Status) →
    number ≡ reading.taken + 1 → offset ≡ reading.offset → IfSome told (λ stream. IsTaken reading later stream left asked) →
    Follows present asked number offset old after new result →
    IfSome told (λ stream. IsTurn (course_of reading present) stream old (course_of later after) left new result)
takes None left old new reading later present after asked number offset result is_number is_offset taken follows = tt
takes (Some stream) left old new reading later present after asked number offset result is_number is_offset taken follows =
    let turn =
    follows (course_of reading present) stream taken.rest
    (record { present_is = refl; number_is = is_number; offset_is = is_offset; few = taken.counted.few }) taken.first in
    let same : one_behind (course_of reading present) (length stream - length taken.rest) after ≡ course_of later after =
    ap (λ n. record { taken = n; offset = reading.offset + (length stream - length taken.rest); present = after }) (sym taken.counted.taken)
    ∙ ap (λ o. record { taken = later.taken; offset = o; present = after }) (sym taken.counted.offset) in
    subst (λ (o : Option (List ℕ)). IsTurn (course_of reading present) stream old (course_of later after) o new result) (sym taken.is_left)
    (subst (λ (course : Course). IsTurn (course_of reading present) stream old course (Some taken.rest) new result) same turn)

-- ---- what is read

pub reads_through : (one two three : Option (List ℕ)) → ReadsFront one two → ReadsFront two three → ReadsFront one three
reads_through one two three (xs, is) (ys, also) = (xs ++ ys, is ∙ ap (before_left xs) also ∙ before_left-append xs ys three)

pub reads_source : (told left : Option (List ℕ)) (ahead : List ℕ) → ReadsFront told (before_left ahead left) → ReadsFront told left
reads_source told left ahead reads = reads_through told (before_left ahead left) left reads (ahead, refl)

pub reads_none : (told : Option (List ℕ)) → ReadsFront told told
reads_none None = ([], refl)
reads_none (Some bytes) = ([], refl)
