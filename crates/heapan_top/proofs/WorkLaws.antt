-- How much was done for the replies that were written whole.
use Rattle.std.proofs.Common.{◌≡◌, ◌≢◌, ℕ, ◌+◌, ◌-◌, ◌≤◌, List, [], ◌∷◌, ◌++◌, inl, inr, Option, Some, None, length, min, take, refl, sym}
use Rattle.std.proofs.Common.{ap, ◌∙◌, subst, append_assoc, length-append, arith}
use Rattle.std.specs.Prelude.{IfSome}
use Rattle.std.proofs.lemmas.List.{append_cancel_left, length-take}
use Rattle.io_ports.specs.Bytes.{after_held}
use Rattle.io_ports.proofs.ToldBytes.{after_held-append}
use Rattle.summary_book.specs.declared.aims.Aim.{Aim}
use Rattle.shape_data.specs.declared.program.Program.{Program}
use Rattle.session_lines.specs.declared.command.Command.{Command}
use Rattle.session_lines.specs.Laws.{OneFirst}
use Rattle.session_lines.specs.Lines.{IsFirst}
use Rattle.session_lines.specs.Reading.{IsMalformed, IsTaken, Reading}
use Rattle.session_replies.specs.Answers.{Answers, Present, Setting}
use Rattle.session_replies.specs.Laws.{OneAnswer}
use Rattle.session_replies.specs.Work.{IsWorked, Tells, count_reached}
use Rattle.heapan_top.specs.declared.status.Status.{Status}
use Rattle.heapan_top.specs.Headline.{Appends}
use Rattle.heapan_top.specs.Parts.{Ends, EndsCounted, GoesOn, IsAt, IsDone, IsReplyWork, IsWork, course_of}
use Rattle.heapan_top.specs.Replies.{Course, beginning, one_behind}
use Rattle.heapan_top.specs.Work.{AppendsCounted, AreCounted, Prints}
use Rattle.heapan_top.proofs.CourseLaws.{held-nil}

-- ---- nothing was written

not_joined : (xs ys : List ℕ) → ys ≢ [] → xs ++ ys ≢ []
not_joined [] ys some is = some is
not_joined (x ∷ xs) ys some is = cc

-- what tells of components has a byte
pub not_empty : (course : Course) (stream text : List ℕ) (count : ℕ) → Prints course stream text count → text ≢ []
not_empty _ _ _ _ (Prints.here course stream rest asked front back after program aim few first answers some tells) = some
not_empty _ _ _ _ (Prints.behind course stream rest asked text more after count few first answers prints) =
    not_joined text more (not_empty (one_behind course (length stream - length rest) after) rest more count prints)

nothing_before : (text more : List ℕ) → [] ≡ text ++ more → text ≡ []
nothing_before [] more is = refl
nothing_before (x ∷ text) more is = cc

pub none_counted : (course : Course) (stream : List ℕ) (solves : ℕ) → AreCounted course stream [] solves
none_counted course stream solves text count prints (more, is) =
    absurd (not_empty course stream text count prints (nothing_before text more is))

pub nothing_counted : (course : Course) (stream : List ℕ) (held : Option (List ℕ)) (seen : ℕ) → EndsCounted course stream held held seen
nothing_counted course stream held seen = ([], sym (held-nil held), λ solves enough. none_counted course stream solves)

-- so it is from the beginning
pub none_appended : (setting : Setting) (told held : Option (List ℕ)) (solves : ℕ) →
    IfSome told (λ stream. AppendsCounted setting stream held held solves)
none_appended setting None held solves = tt
none_appended setting (Some stream) held solves = ([], sym (held-nil held), none_counted (beginning setting) stream solves)

-- of a stream that is told, or not
pub nothing_told : (told held : Option (List ℕ)) (course : Course) (seen : ℕ) →
    IfSome told (λ stream. EndsCounted course stream held held seen)
nothing_told None held course seen = tt
nothing_told (Some stream) held course seen = nothing_counted course stream held seen

-- ---- a line that refuses

refusal_written : (old new : Option (List ℕ)) (line : List ℕ) (planned ended : Status) → Ends old new line planned ended →
    (written : List ℕ) × Appends old new written
refusal_written old new line planned ended (inl (is, all)) = (line, all)
refusal_written old new line planned ended (inr (cut, (count, some))) = (take count line, some)

-- no command stands first that is answered
abbrev AnswersNone : List ℕ → Type 0
AnswersNone stream = (asked : Command) (rest text : List ℕ) (present after : Present) → IsFirst stream asked rest →
    Answers present asked text after → ⊥

refusal_counted : (course : Course) (stream written : List ℕ) (solves : ℕ) → AnswersNone stream → AreCounted course stream written solves
refusal_counted course stream written solves none _ _
    (Prints.here _ _ rest asked front back after program aim few first answers some tells) begins =
    absurd (none asked rest (front ++ back) course.present after first answers)
refusal_counted course stream written solves none _ _ (Prints.behind _ _ rest asked text more after count few first answers prints) begins =
    absurd (none asked rest text course.present after first answers)

line_counted : (course : Course) (stream line : List ℕ) (old new : Option (List ℕ)) (seen : ℕ) (planned ended : Status) →
    AnswersNone stream → Ends old new line planned ended →
    EndsCounted course stream old new seen
line_counted course stream line old new seen planned ended none ends =
    let own = refusal_written old new line planned ended ends in
    (own.0, own.1, λ solves enough. refusal_counted course stream own.0 solves none)

pub breaks_counted : (told old new : Option (List ℕ)) (reading : Reading) (present : Present) (seen : ℕ) (number offset : ℕ) (line : List ℕ)
    (planned ended : Status) →
    IfSome told (λ stream. IsMalformed reading stream number offset) → Ends old new line planned ended →
    IfSome told (λ stream. EndsCounted (course_of reading present) stream old new seen)
breaks_counted None old new reading present seen number offset line planned ended malformed ends = tt
breaks_counted (Some stream) old new reading present seen number offset line planned ended malformed ends =
    line_counted (course_of reading present) stream line old new seen planned ended
    (λ asked rest text before after first answers. malformed.none asked rest first) ends

module _ (one_first : OneFirst) where
  module _ (one_answer : OneAnswer) (course : Course) (stream rest : List ℕ) (asked : Command) (first : IsFirst stream asked rest)
      (text : List ℕ) (after : Present)
      (answers : Answers course.present asked text after) (seen : ℕ) (worked : IsWorked course.present asked seen) (solves : ℕ)
      (enough : seen ≤ solves) where
    -- the first command and its answer are these
    record IsSame (rest' : List ℕ) (asked' : Command) (text' : List ℕ) (after' : Present) : Type 0 where
      asked_is : asked' ≡ asked
      rest_is : rest' ≡ rest
      text_is : text' ≡ text
      after_is : after' ≡ after

    same : (rest' : List ℕ) (asked' : Command) (text' : List ℕ) (after' : Present) → IsFirst stream asked' rest' →
        Answers course.present asked' text' after' → IsSame rest' asked' text' after'
    same rest' asked' text' after' first' answers' =
        let one = one_first stream rest' rest asked' asked first' first in
        let so : Answers course.present asked text' after' = subst (λ other. Answers course.present other text' after') one.0 answers' in
        let two = one_answer course.present after' after asked text' text so answers in
        record { asked_is = one.0; rest_is = one.1; text_is = two.0; after_is = two.1 }

    told : (asked' : Command) (program : Program) (aim : Aim) → asked' ≡ asked → Tells course.present asked' program aim →
        count_reached program aim ≤ solves
    told asked' program aim is tells =
        let own = worked program aim (subst (λ other. Tells course.present other program aim) is tells) in
        omega (arith, own, enough)

    -- the reply was written whole, and more
    pub reply_counted : (written : List ℕ) → AreCounted (one_behind course (length stream - length rest) after) rest written solves →
        AreCounted course stream (text ++ written) solves
    reply_counted written again _ _ (Prints.here _ _ rest' asked' front back after' program aim few first' answers' some tells) begins =
        told asked' program aim (same rest' asked' (front ++ back) after' first' answers').asked_is tells
    reply_counted written again _ _ (Prints.behind _ _ rest' asked' text' more after' count few first' answers' prints) (others, is) =
        let own = same rest' asked' text' after' first' answers' in
        let left : written ≡ more ++ others =
        append_cancel_left text written (more ++ others)
        (is ∙ append_assoc text' more others ∙ ap (λ t. t ++ (more ++ others)) own.text_is) in
        let there : Prints (one_behind course (length stream - length rest) after) rest more count =
        subst (λ (later : Present). Prints (one_behind course (length stream - length rest) later) rest more count) own.after_is
        (subst (λ r. Prints (one_behind course (length stream - length r) after') r more count) own.rest_is prints) in
        again more count there (others, left)

    -- a front of it was written
    pub front_counted : (size : ℕ) → AreCounted course stream (take size text) solves
    front_counted size _ _ (Prints.here _ _ rest' asked' front back after' program aim few first' answers' some tells) begins =
        told asked' program aim (same rest' asked' (front ++ back) after' first' answers').asked_is tells
    front_counted size _ _ (Prints.behind _ _ rest' asked' text' more after' count few first' answers' prints) (others, is) =
        let own = same rest' asked' text' after' first' answers' in
        let some = not_empty (one_behind course (length stream - length rest') after') rest' more count prints in
        let longer : length (take size text) ≡ (length text' + length more) + length others =
        ap length is ∙ length-append (text' ++ more) others ∙ ap (λ n. n + length others) (length-append text' more) in
        let alike : length text' ≡ length text = ap length own.text_is in
        let short : length (take size text) ≡ min size (length text) = length-take size text in
        by_more more some (length text') (length others) (length text) (length (take size text)) longer alike short
      where
        by_more : (xs : List ℕ) → xs ≢ [] → (front behind whole cut : ℕ) → cut ≡ (front + length xs) + behind → front ≡ whole →
            cut ≡ min size whole → {A : Type 0} → A
        by_more [] some front behind whole cut longer alike short = absurd (some refl)
        by_more (x ∷ xs) some front behind whole cut longer alike short = absurd (omega (arith, longer, alike, short))

-- ---- a command

module _ (one_first : OneFirst) (one_answer : OneAnswer) where
  replied_work : (course : Course) (stream rest : List ℕ) (asked : Command) (after : Present) (old new : Option (List ℕ)) (seen : ℕ)
      (result : Option Status) → IsFirst stream asked rest →
      IsReplyWork course.present asked old after new seen result →
      IsWork course stream old (one_behind course (length stream - length rest) after) (Some rest) new seen result
  replied_work course stream rest asked after old new seen None first (text, answers, all, worked) = record {
    text = text;
    rest = rest;
    is_left = refl;
    appends = all;
    carries =
        λ written solves enough again. reply_counted one_first one_answer course stream rest asked first text after answers seen worked
        solves
        enough written again;
  }
  replied_work course stream rest asked after old new seen (Some ended) first (inl is) =
      subst (λ held. EndsCounted course stream old held seen) (sym is) (nothing_counted course stream old seen)
  replied_work course stream rest asked after old new seen (Some ended) first (inr (text, later, answers, (size, some), worked)) = (
    take size text,
    some,
    λ solves enough. front_counted one_first one_answer course stream rest asked first text later answers seen
        worked solves enough size,
  )

  pub turned_work : (course : Course) (present : Present) (number offset : ℕ) (stream rest : List ℕ) (asked : Command) (after : Present)
      (old new : Option (List ℕ)) (seen : ℕ) (result : Option Status) →
      IsAt course present number offset → IsFirst stream asked rest → IsReplyWork present asked old after new seen result →
      IsWork course stream old (one_behind course (length stream - length rest) after) (Some rest) new seen result
  turned_work course present number offset stream rest asked after old new seen result at first work =
      replied_work course stream rest asked after old new seen result first
      (subst (λ (p : Present). IsReplyWork p asked old after new seen result) (sym at.present_is) work)

-- what follows a command, for any course and stream
abbrev pub FollowsWork : Present → Command → ℕ → ℕ → Option (List ℕ) → Present → Option (List ℕ) → ℕ → Option Status → Type 0
FollowsWork present asked number offset old after new seen result =
    (course : Course) (stream rest : List ℕ) → IsAt course present number offset → IsFirst stream asked rest →
    IsWork course stream old (one_behind course (length stream - length rest) after) (Some rest) new seen result

-- a command was taken, and followed
pub takes_work : (told left old new : Option (List ℕ)) (reading later : Reading) (present after : Present) (asked : Command)
    (number offset : ℕ) (seen : ℕ) (result : Option Status) →
    number ≡ reading.taken + 1 → offset ≡ reading.offset → IfSome told (λ stream. IsTaken reading later stream left asked) →
    FollowsWork present asked number offset old after new seen result →
    IfSome told (λ stream. IsWork (course_of reading present) stream old (course_of later after) left new seen result)
takes_work None left old new reading later present after asked number offset seen result is_number is_offset taken follows = tt
takes_work (Some stream) left old new reading later present after asked number offset seen result is_number is_offset taken follows =
    let work =
    follows (course_of reading present) stream taken.rest
    (record { present_is = refl; number_is = is_number; offset_is = is_offset; few = taken.counted.few }) taken.first in
    let same : one_behind (course_of reading present) (length stream - length taken.rest) after ≡ course_of later after =
    ap (λ n. record { taken = n; offset = reading.offset + (length stream - length taken.rest); present = after }) (sym taken.counted.taken)
    ∙ ap (λ o. record { taken = later.taken; offset = o; present = after }) (sym taken.counted.offset) in
    subst (λ (o : Option (List ℕ)). IsWork (course_of reading present) stream old (course_of later after) o new seen result)
    (sym taken.is_left)
    (subst (λ (course : Course). IsWork (course_of reading present) stream old course (Some taken.rest) new seen result) same work)

-- ---- one after another

-- nothing was done
pub none_done : (setting : Setting) (told held : Option (List ℕ)) (seen : ℕ) → IsDone setting told held (beginning setting) told held seen
none_done setting None held seen = tt
none_done setting (Some stream) held seen = record {
  text = [];
  rest = stream;
  is_left = refl;
  appends = sym (held-nil held);
  carries = λ written solves enough counted. counted;
}

pub none_done_at : (setting : Setting) (told held left : Option (List ℕ)) (course : Course) (seen : ℕ) → course ≡ beginning setting →
    left ≡ told → IsDone setting told held course left held seen
none_done_at setting told held left course seen is also =
    subst (λ c. IsDone setting told held c left held seen) (sym is)
    (subst (λ l. IsDone setting told held (beginning setting) l held seen) (sym also) (none_done setting told held seen))

module _ (before seen : ℕ) (more : before ≤ seen) where
  fewer : (solves : ℕ) → seen ≤ solves → before ≤ solves
  fewer solves enough = omega (arith, more, enough)

  work_behind : (course mid after : Course) (stream : List ℕ) (old between new : Option (List ℕ)) (left left' : Option (List ℕ)) →
      GoesOn course stream old mid left between before →
      IfSome left (λ rest. GoesOn mid rest between after left' new seen) → GoesOn course stream old after left' new seen
  work_behind course mid after stream old between new left left' one two =
      let other : GoesOn mid one.rest between after left' new seen =
      subst (λ (o : Option (List ℕ)). IfSome o (λ rest. GoesOn mid rest between after left' new seen)) one.is_left two in
      record {
        text = one.text ++ other.text;
        rest = other.rest;
        is_left = other.is_left;
        appends = other.appends ∙ ap (λ held. after_held held other.text) one.appends ∙ after_held-append old one.text other.text;
        carries = λ written solves enough counted.
            subst (λ whole. AreCounted course stream whole solves) (sym (append_assoc one.text other.text written))
            (one.carries (other.text ++ written) solves (fewer solves enough) (other.carries written solves enough counted));
      }

  pub done_more : (setting : Setting) (told left left' old between new : Option (List ℕ)) (mid after : Course) (result : Option Status) →
      result ≡ None → IsDone setting told old mid left between before →
      IfSome left (λ rest. IsWork mid rest between after left' new seen result) → IsDone setting told old after left' new seen
  done_more setting None left left' old between new mid after result is done work = tt
  done_more setting (Some stream) left left' old between new mid after result is done work =
      work_behind (beginning setting) mid after stream old between new left left' done
      (subst (λ (r : Option Status). IfSome left (λ rest. IsWork mid rest between after left' new seen r)) is work)

  pub all_done : (setting : Setting) (told left left' old between new : Option (List ℕ)) (mid after : Course) (result : Option Status)
      (ended : Status) → result ≡ Some ended → IsDone setting told old mid left between before →
      IfSome left (λ rest. IsWork mid rest between after left' new seen result) →
      IfSome told (λ stream. AppendsCounted setting stream old new seen)
  all_done setting None left left' old between new mid after result ended is done work = tt
  all_done setting (Some stream) left left' old between new mid after result ended is done work =
      let ends : IfSome left (λ rest. EndsCounted mid rest between new seen) =
      subst (λ (r : Option Status). IfSome left (λ rest. IsWork mid rest between after left' new seen r)) is work in
      let own : EndsCounted mid done.rest between new seen =
      subst (λ (o : Option (List ℕ)). IfSome o (λ rest. EndsCounted mid rest between new seen)) done.is_left ends in (
        done.text ++ own.0,
        own.1 ∙ ap (λ held. after_held held own.0) done.appends ∙ after_held-append old done.text own.0,
        done.carries own.0 seen more (own.2 seen (omega arith)),
      )

-- more publishes are enough, too
pub counted_more : (setting : Setting) (told old new : Option (List ℕ)) (seen solves : ℕ) → seen ≤ solves →
    IfSome told (λ stream. AppendsCounted setting stream old new seen) →
    IfSome told (λ stream. AppendsCounted setting stream old new solves)
counted_more setting None old new seen solves enough counted = tt
counted_more setting (Some stream) old new seen solves enough (written, all, counted) =
    (written, all, λ text count prints begins. let few = counted text count prints begins in omega (arith, few, enough))

-- the same of equal things
pub counted_there : {S K : Type 0} (left : S → Option (List ℕ)) (held : K → Option (List ℕ)) (setting : Setting) (s s' : S) (k k' l l' : K)
    (seen solves : ℕ) → s ≡ s' → k ≡ k' → l ≡ l' → seen ≤ solves →
    IfSome (left s) (λ stream. AppendsCounted setting stream (held k) (held l) seen) →
    IfSome (left s') (λ stream. AppendsCounted setting stream (held k') (held l') solves)
counted_there left held setting s s' k k' l l' seen solves source old new enough counted =
    subst (λ a. IfSome (left a) (λ stream. AppendsCounted setting stream (held k') (held l') solves)) source
    (subst (λ a. IfSome (left s) (λ stream. AppendsCounted setting stream (held a) (held l') solves)) old
    (subst (λ a. IfSome (left s) (λ stream. AppendsCounted setting stream (held k) (held a) solves)) new
    (counted_more setting (left s) (held k) (held l) seen solves enough counted)))
