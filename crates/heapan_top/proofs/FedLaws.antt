-- What is fed behind one command after another, and that it is one list.
use Rattle.std.proofs.Common.{◌≡◌, ◌≢◌, ℕ, zero, suc, ◌+◌, ◌-◌, ◌<◌, ◌≤◌, true, false, List, [], ◌∷◌, ◌++◌, inl, inr, Option, Some, None}
use Rattle.std.proofs.Common.{length, map, take, refl, sym, ap, ap₂, ◌∙◌, subst, append_assoc, arith}
use Rattle.std.specs.Prelude.{IfSome, IsSome, Result, is_some}
use Rattle.std.specs.Borrow.{Bor}
use Rattle.std.specs.Global.{Vec}
use Rattle.std.specs.Option.{option_map}
use Rattle.std.proofs.lemmas.List.{append-nil}
use Rattle.io_ports.specs.Bytes.{after_held}
use Rattle.io_ports.specs.Places.{now_has}
use Rattle.io_ports.proofs.ToldBytes.{after_held-append}
use Rattle.reporters.specs.declared.reporter.Entry.{Entry}
use Rattle.reporters.specs.Feeding.{AreFed, steady_count}
use Rattle.reporters.specs.Known.{Known}
use Rattle.session_lines.specs.declared.command.Command.{Command}
use Rattle.session_lines.specs.declared.command.Command.TheVariants as command
use Rattle.session_lines.specs.Laws.{OneFirst}
use Rattle.session_lines.specs.Lines.{IsFirst}
use Rattle.session_lines.specs.Reading.{IsMalformed, IsTaken, Reading}
use Rattle.session_lines.specs.Sessions.{MOST_COMMANDS}
use Rattle.session_lines.proofs.SessionLemmas.{none_first, rest_shorter}
use Rattle.session_replies.specs.Answers.{Answers, IsAnswered, Present, Setting}
use Rattle.session_replies.specs.Entries.{Feeds}
use Rattle.session_replies.specs.Saves.{Saves}
use Rattle.session_replies.specs.Laws.{OneAnswer, OneFeed, OneSaving, SomeFeed, SomeSaving}
use Rattle.heapan_top.specs.declared.status.Status.{Status}
use Rattle.heapan_top.specs.declared.status.Status.TheVariants as status
use Rattle.heapan_top.specs.Fed.{AreFedEach, FeedsTo, HasTaken, IsFed, IsFrontOfNext, IsKept, IsOver, IsWhole, StayBehind, WereFed}
use Rattle.heapan_top.specs.Headline.{Appends}
use Rattle.heapan_top.specs.Laws.{FedIsFront, OneFeeding, SomeFed, SomeReply}
use Rattle.heapan_top.specs.Parts.{EndsCounted, FeedsOn, IsAt, IsCutAnswer, IsCutShort, IsFedOn, IsReply, IsReplyFed, IsReplySaved}
use Rattle.heapan_top.specs.Parts.{IsTurnFed, course_of, ended_of}
use Rattle.heapan_top.specs.Replies.{Course, Replies, beginning, one_behind}
use Rattle.heapan_top.specs.Stores.{given_last, last_of}
use Rattle.heapan_top.proofs.CourseLaws.{held-nil}

-- ---- reporters

took_nothing : (taken : Option (List Entry)) → taken ≡ option_map (λ entries. entries ++ []) taken
took_nothing None = refl
took_nothing (Some entries) = ap Some (sym (append-nil entries))

took_both : (fed more : List Entry) (taken : Option (List Entry)) →
    option_map (λ entries. entries ++ more) (option_map (λ entries. entries ++ fed) taken)
    ≡ option_map (λ entries. entries ++ (fed ++ more)) taken
took_both fed more None = refl
took_both fed more (Some entries) = ap Some (append_assoc entries fed more)

pub none_fed : (all : List Known) → StayBehind [] all all
none_fed [] = StayBehind.nobody
none_fed (one ∷ all) =
    StayBehind.stays one one all all (record { taken = took_nothing one.taken; steady = refl; stop = refl; never_falls = omega arith })
    (none_fed all)

stays_through : (fed more : List Entry) (old mid new : Known) → HasTaken fed old mid → HasTaken more mid new →
    HasTaken (fed ++ more) old new
stays_through fed more old mid new one other = record {
  taken = other.taken ∙ ap (option_map (λ entries. entries ++ more)) one.taken ∙ took_both fed more old.taken;
  steady = other.steady ∙ one.steady;
  stop = other.stop ∙ one.stop;
  never_falls = let low = one.never_falls in let high = other.never_falls in omega (arith, low, high);
}

stay_through : (fed more : List Entry) (olds mids news : List Known) → StayBehind fed olds mids → StayBehind more mids news →
    StayBehind (fed ++ more) olds news
stay_through fed more _ _ _ StayBehind.nobody StayBehind.nobody = StayBehind.nobody
stay_through fed more _ _ _ (StayBehind.stays old mid olds mids one rest) (StayBehind.stays _ new _ news other rest') =
    StayBehind.stays old new olds news (stays_through fed more old mid new one other) (stay_through fed more olds mids news rest rest')
stay_through fed more _ _ _ (StayBehind.stays old mid olds mids one rest) (StayBehind.goes _ _ news gone rest') =
    StayBehind.goes old olds news (sym one.steady ∙ gone) (stay_through fed more olds mids news rest rest')
stay_through fed more _ mids news (StayBehind.goes old olds _ gone rest) rest' =
    StayBehind.goes old olds news gone (stay_through fed more olds mids news rest rest')

stay_one : (entry : Entry) (olds news : List Known) → AreFed entry olds news → StayBehind (entry ∷ []) olds news
stay_one entry _ _ AreFed.nobody = StayBehind.nobody
stay_one entry _ _ (AreFed.stays old new olds news one rest) =
    StayBehind.stays old new olds news (record { taken = one.taken; steady = one.steady; stop = one.stop; never_falls = one.never_falls })
    (stay_one entry olds news rest)
stay_one entry _ _ (AreFed.goes old olds news gone rest) = StayBehind.goes old olds news gone (stay_one entry olds news rest)

each_through : (fed more : List Entry) (olds mids news : List Known) → AreFedEach fed olds mids → AreFedEach more mids news →
    AreFedEach (fed ++ more) olds news
each_through _ more _ _ news (AreFedEach.none all) behind = behind
each_through _ more _ _ news (AreFedEach.more entry entries olds next mids one rest) behind =
    AreFedEach.more entry (entries ++ more) olds next news one (each_through entries more next mids news rest behind)

each_one : (entry : Entry) (olds news : List Known) → AreFed entry olds news → AreFedEach (entry ∷ []) olds news
each_one entry olds news one = AreFedEach.more entry [] olds news news one (AreFedEach.none news)

pub unfed : (as_they_came : Type 0) (all : List Known) → as_they_came → WereFed as_they_came [] all all
unfed as_they_came all same = record { each = AreFedEach.none all; stay = none_fed all; unfed = λ none. same }

no_entries_before : (fed more : List Entry) → fed ++ more ≡ [] → fed ≡ []
no_entries_before [] more none = refl
no_entries_before (entry ∷ fed) more none = cc

no_entries_behind : (fed more : List Entry) → fed ++ more ≡ [] → more ≡ []
no_entries_behind [] more none = none
no_entries_behind (entry ∷ fed) more none = cc

pub fed_through : (one two both : Type 0) → (one → two → both) → (fed more : List Entry) (olds mids news : List Known) →
    WereFed one fed olds mids → WereFed two more mids news → WereFed both (fed ++ more) olds news
fed_through one two both same fed more olds mids news first second = record {
  each = each_through fed more olds mids news first.each second.each;
  stay = stay_through fed more olds mids news first.stay second.stay;
  unfed = λ none. same (first.unfed (no_entries_before fed more none)) (second.unfed (no_entries_behind fed more none));
}

-- one entry more
pub fed_one_more : (one both : Type 0) (fed : List Entry) (entry : Entry) (olds mids news : List Known) → WereFed one fed olds mids →
    AreFed entry mids news → WereFed both (fed ++ entry ∷ []) olds news
fed_one_more one both fed entry olds mids news first second = record {
  each = each_through fed (entry ∷ []) olds mids news first.each (each_one entry mids news second);
  stay = stay_through fed (entry ∷ []) olds mids news first.stay (stay_one entry mids news second);
  unfed = λ none. let clash : entry ∷ [] ≡ [] = no_entries_behind fed (entry ∷ []) none in cc;
}

pub fed_to : (as_they_came : Type 0) (fed other : List Entry) (olds news : List Known) → fed ≡ other → WereFed as_they_came fed olds news →
    WereFed as_they_came other olds news
fed_to as_they_came fed other olds news is were = subst (λ entries. WereFed as_they_came entries olds news) is were

-- ---- what was given last

given_through : (one other : Option (List ℕ)) (told : Option (Option (List ℕ))) →
    given_last (last_of one other) told ≡ given_last other (given_last one told)
given_through one None told = refl
given_through None (Some bytes) told = refl
given_through (Some first) (Some bytes) told = sym (given_twice told)
  where
    given_twice : (o : Option (Option (List ℕ))) → now_has bytes (now_has first o) ≡ now_has bytes o
    given_twice None = refl
    given_twice (Some there) = refl

-- what stands has, given again, what was last given
had_through : (bytes : List ℕ) (saved : Option (List ℕ)) (told : Option (Option (List ℕ))) →
    now_has bytes (given_last saved told) ≡ now_has bytes told
had_through bytes None told = refl
had_through bytes (Some first) None = refl
had_through bytes (Some first) (Some there) = refl

last_through : (one two three : Option (List ℕ)) → last_of (last_of one two) three ≡ last_of one (last_of two three)
last_through one two None = refl
last_through one two (Some bytes) = refl

last_none : (one : Option (List ℕ)) → last_of one None ≡ one
last_none one = refl

none_last : (one : Option (List ℕ)) → last_of None one ≡ one
none_last None = refl
none_last (Some bytes) = refl

-- ---- commands

pub feeds_through : (course mid later : Course) (stream rest left text others : List ℕ) (fed more : List Entry)
    (own saved : Option (List ℕ)) → FeedsTo course stream text fed own mid rest →
    FeedsTo mid rest others more saved later left → FeedsTo course stream (text ++ others) (fed ++ more) (last_of own saved) later left
feeds_through _ _ later _ _ left _ others _ more _ saved (FeedsTo.here course stream) next =
    subst (λ o. FeedsTo course stream others more o later left) (sym (none_last saved)) next
feeds_through _ mid later _ rest left _ others _ more _ saved
    (FeedsTo.behind course stream next asked text mine after fed own first_saved mine_saved _ _ few first answers feeds saves goes)
    following =
    subst (λ o. FeedsTo course stream ((text ++ mine) ++ others) ((fed ++ own) ++ more) o later left)
    (sym (last_through first_saved mine_saved saved))
    (subst (λ whole. FeedsTo course stream whole ((fed ++ own) ++ more) (last_of first_saved (last_of mine_saved saved)) later left)
    (sym (append_assoc text mine others))
    (subst (λ all. FeedsTo course stream (text ++ (mine ++ others)) all (last_of first_saved (last_of mine_saved saved)) later left)
    (sym (append_assoc fed own more))
    (FeedsTo.behind course stream next asked text (mine ++ others) after fed (own ++ more) first_saved
    (last_of mine_saved saved) later left few first answers feeds saves
    (feeds_through
    (one_behind course
    (length stream - length next) after) mid later next rest left mine others own more mine_saved saved goes following))))

one_command : (course : Course) (stream rest : List ℕ) (asked : Command) (text : List ℕ) (after : Present) (fed : List Entry)
    (saved : Option (List ℕ)) → course.taken < MOST_COMMANDS → IsFirst stream asked rest →
    Answers course.present asked text after → Feeds course.present asked fed → Saves course.present asked saved →
    FeedsTo course stream text fed saved (one_behind course (length stream - length rest) after) rest
one_command course stream rest asked text after fed saved few first answers feeds saves =
    let later = one_behind course (length stream - length rest) after in
    subst (λ whole. FeedsTo course stream whole fed saved later rest) (append-nil text)
    (subst (λ all. FeedsTo course stream (text ++ []) all saved later rest) (append-nil fed)
    (FeedsTo.behind course stream rest asked text [] after fed [] saved None later rest few first answers feeds saves
    (FeedsTo.here later rest)))

-- what is kept behind is kept of all
kept_behind : (later : Course) (left : List ℕ) (own saved : Option (List ℕ)) (before between after : Option (Option (List ℕ)))
    (ended : Status) → between ≡ given_last own before →
    IsKept later left saved between after ended → IsKept later left (last_of own saved) before after ended
kept_behind later left own saved before between after ended was (inl is) =
    inl (is ∙ ap (given_last saved) was ∙ sym (given_through own saved before))
kept_behind later left own saved before between after ended was (inr (cut, bytes, saves, is)) =
    inr (cut, bytes, saves, is ∙ ap (now_has bytes) was ∙ had_through bytes own before)

-- the end of what is behind is the end of all
module _ (one two both : Type 0) (same : one → two → both) (olds mids news : List Known) (was has is_now : Option (Option (List ℕ))) where
  fed_behind : (course mid : Course) (stream : List ℕ) (old between new left : Option (List ℕ)) (ended : Status) →
      FeedsOn course stream old mid left between was has one olds mids →
      IfSome left (λ rest. IsFed mid rest between new has is_now two mids news ended) →
      IsFed course stream old new was is_now both olds news ended
  fed_behind course mid stream old between new left ended on ends =
      let is : IsFed mid on.rest between new has is_now two mids news ended =
      subst (λ (o : Option (List ℕ)). IfSome o (λ rest. IsFed mid rest between new has is_now two mids news ended)) on.is_left ends in
      record {
        text = on.text ++ is.text;
        more = is.more;
        fed = on.fed ++ is.fed;
        saved = last_of on.saved is.saved;
        later = is.later;
        left = is.left;
        leads = feeds_through course mid is.later stream on.rest is.left on.text is.text on.fed is.fed on.saved is.saved on.leads is.leads;
        appends =
            is.appends ∙ ap (λ held. after_held held (is.text ++ is.more)) on.appends ∙ after_held-append old on.text (is.text ++ is.more)
            ∙ ap (after_held old) (sym (append_assoc on.text is.text is.more));
        next = is.next;
        were = fed_through one two both same on.fed is.fed olds mids news on.were is.were;
        kept = kept_behind is.later is.left on.saved is.saved was has is_now ended on.kept is.kept;
        over = is.over;
      }

  on_behind : (course mid after : Course) (stream : List ℕ) (old between new left left' : Option (List ℕ)) →
      FeedsOn course stream old mid left between was has one olds mids →
      IfSome left (λ rest. FeedsOn mid rest between after left' new has is_now two mids news) →
      FeedsOn course stream old after left' new was is_now both olds news
  on_behind course mid after stream old between new left left' on goes =
      let is : FeedsOn mid on.rest between after left' new has is_now two mids news =
      subst (λ (o : Option (List ℕ)). IfSome o
      (λ rest. FeedsOn mid rest between after left' new has is_now two mids news)) on.is_left goes in
      record {
        text = on.text ++ is.text;
        fed = on.fed ++ is.fed;
        saved = last_of on.saved is.saved;
        rest = is.rest;
        is_left = is.is_left;
        leads = feeds_through course mid after stream on.rest is.rest on.text is.text on.fed is.fed on.saved is.saved on.leads is.leads;
        appends = is.appends ∙ ap (λ held. after_held held is.text) on.appends ∙ after_held-append old on.text is.text;
        were = fed_through one two both same on.fed is.fed olds mids news on.were is.were;
        kept = is.kept ∙ ap (given_last is.saved) on.kept ∙ sym (given_through on.saved is.saved was);
      }

  pub fed_more : (setting : Setting) (told left left' old between new : Option (List ℕ)) (mid after : Course) (result : Option Status) →
      result ≡ None → IsFedOn setting told old mid left between was has one olds mids →
      IfSome left (λ rest. IsTurnFed mid rest between after left' new has is_now two mids news result) →
      IsFedOn setting told old after left' new was is_now both olds news
  fed_more setting None left left' old between new mid after result is on turn = tt
  fed_more setting (Some stream) left left' old between new mid after result is on turn =
      on_behind (beginning setting) mid after stream old between new left left' on
      (subst (λ (r : Option Status). IfSome left (λ rest. IsTurnFed mid rest between after left' new has is_now two mids news r)) is turn)

  pub all_fed : (setting : Setting) (told left left' old between new : Option (List ℕ)) (mid after : Course) (result : Option Status)
      (ended : Status) → result ≡ Some ended →
      IsFedOn setting told old mid left between was has one olds mids →
      IfSome left (λ rest. IsTurnFed mid rest between after left' new has is_now two mids news result) →
      IfSome told (λ stream. IsFed (beginning setting) stream old new was is_now both olds news ended)
  all_fed setting None left left' old between new mid after result ended is on turn = tt
  all_fed setting (Some stream) left left' old between new mid after result ended is on turn =
      fed_behind (beginning setting) mid stream old between new left ended on
      (subst (λ (r : Option Status). IfSome left (λ rest. IsTurnFed mid rest between after left' new has is_now two mids news r)) is turn)

-- nothing was read, written or fed
pub none_fed_on : (setting : Setting) (as_they_came : Type 0) → as_they_came →
    (all : List Known) (has : Option (Option (List ℕ))) (told held : Option (List ℕ)) →
    IsFedOn setting told held (beginning setting) told held has has as_they_came all all
none_fed_on setting as_they_came same all has None held = tt
none_fed_on setting as_they_came same all has (Some stream) held = record {
  text = [];
  fed = [];
  saved = None;
  rest = stream;
  is_left = refl;
  leads = FeedsTo.here (beginning setting) stream;
  appends = sym (held-nil held);
  were = unfed as_they_came all same;
  kept = refl;
}

pub none_fed_at : (setting : Setting) (as_they_came : Type 0) → as_they_came →
    (all : List Known) (has : Option (Option (List ℕ))) (told held left : Option (List ℕ)) (course : Course) → course ≡ beginning setting →
    left ≡ told →
    IsFedOn setting told held course left held has has as_they_came all all
none_fed_at setting as_they_came same all has told held left course is also =
    subst (λ c. IsFedOn setting told held c left held has has as_they_came all all) (sym is)
    (subst (λ l. IsFedOn setting told held (beginning setting) l held has has as_they_came all all) (sym also)
    (none_fed_on setting as_they_came same all has told held))

-- ---- a session that ends

-- nobody was fed at the end
ends_fed : (course : Course) (stream : List ℕ) (old new : Option (List ℕ)) (before after : Option (Option (List ℕ))) (as_they_came : Type 0)
    (olds news : List Known) (ended : Status) → WereFed as_they_came [] olds news →
    (written : List ℕ) → Appends old new written → IsFrontOfNext course stream written → IsKept course stream None before after ended →
    (IsWhole ended → IsOver course stream) →
    IsFed course stream old new before after as_they_came olds news ended
ends_fed course stream old new before after as_they_came olds news ended were written appends next kept over = record {
  text = [];
  more = written;
  fed = [];
  saved = None;
  later = course;
  left = stream;
  leads = FeedsTo.here course stream;
  appends = appends;
  next = next;
  were = were;
  kept = kept;
  over = over;
}

-- nothing was written
pub ends_still : (course : Course) (stream : List ℕ) (held : Option (List ℕ)) (has : Option (Option (List ℕ))) (as_they_came : Type 0)
    (all : List Known) (ended : Status) → as_they_came → (IsWhole ended → IsOver course stream) →
    IsFed course stream held held has has as_they_came all all ended
ends_still course stream held has as_they_came all ended same over =
    ends_fed course stream held held has has as_they_came all all ended (unfed as_they_came all same) []
    (sym (held-nil held)) IsFrontOfNext.nothing (inl refl) over

pub ends_still_told : (told : Option (List ℕ)) (course : Course) (held : Option (List ℕ)) (has : Option (Option (List ℕ)))
    (as_they_came : Type 0) (all : List Known) (ended : Status) → as_they_came →
    (IsWhole ended → IfSome told (λ stream. IsOver course stream)) →
    IfSome told (λ stream. IsFed course stream held held has has as_they_came all all ended)
ends_still_told None course held has as_they_came all ended same over = tt
ends_still_told (Some stream) course held has as_they_came all ended same over =
    ends_still course stream held has as_they_came all ended same over

-- nothing was read, written or fed
pub still_fed : {A : Type 0} (known : A → Known) (xs ys : List A) (setting : Setting) (told held : Option (List ℕ))
    (has : Option (Option (List ℕ))) (ended : Status) → ys ≡ xs → (IsWhole ended → ⊥) →
    IfSome told (λ stream. IsFed (beginning setting) stream held held has has (ys ≡ xs) (map known xs) (map known ys) ended)
still_fed known xs ys setting told held has ended same cut =
    subst (λ zs. IfSome told (λ stream. IsFed (beginning setting) stream held held has has (zs ≡ xs) (map known xs) (map known zs) ended))
    (sym same)
    (ends_still_told told (beginning setting) held has (xs ≡ xs) (map known xs) ended refl (λ whole. absurd (cut whole)))

-- the same of equal things
pub fed_there : {S K P A : Type 0} (left : S → Option (List ℕ)) (held : K → Option (List ℕ)) (has : P → Option (Option (List ℕ)))
    (known : A → Known) (setting : Setting) (s s' : S) (k k' l l' : K) (p p' q q' : P)
    (xs xs' ys ys' : List A) (ended ended' : Status) → s ≡ s' → k ≡ k' → l ≡ l' → p ≡ p' → q ≡ q' → xs ≡ xs' → ys ≡ ys' → ended ≡ ended' →
    IfSome (left s)
    (λ stream. IsFed (beginning setting) stream (held k) (held l) (has p) (has q) (ys ≡ xs) (map known xs) (map known ys) ended) →
    IfSome (left s')
    (λ stream. IsFed (beginning setting) stream (held k') (held l') (has p') (has q') (ys' ≡ xs') (map known xs') (map known ys') ended')
fed_there left held has known setting s s' k k' l l' p p' q q' xs xs' ys ys' ended ended' source old new was is before after same fed =
    subst (λ a. IfSome (left a)
    (λ stream. IsFed (beginning setting) stream (held k') (held l') (has p') (has q') (ys' ≡ xs') (map known xs')
    (map known ys') ended')) source
    (subst (λ a. IfSome (left s)
    (λ stream. IsFed (beginning setting) stream (held a) (held l') (has p') (has q') (ys' ≡ xs') (map known xs')
    (map known ys') ended')) old
    (subst (λ a. IfSome (left s)
    (λ stream. IsFed (beginning setting) stream (held k) (held a) (has p') (has q') (ys' ≡ xs') (map known xs') (map known ys') ended')) new
    (subst (λ a. IfSome (left s)
    (λ stream. IsFed (beginning setting) stream (held k) (held l) (has a) (has q') (ys' ≡ xs') (map known xs') (map known ys') ended')) was
    (subst (λ a. IfSome (left s)
    (λ stream. IsFed (beginning setting) stream (held k) (held l) (has p) (has a) (ys' ≡ xs') (map known xs') (map known ys') ended')) is
    (subst (λ a. IfSome (left s)
    (λ stream. IsFed (beginning setting) stream (held k) (held l) (has p) (has q) (ys' ≡ a) (map known a) (map known ys') ended')) before
    (subst (λ a. IfSome (left s)
    (λ stream. IsFed (beginning setting) stream (held k) (held l) (has p) (has q) (a ≡ xs) (map known xs) (map known a) ended')) after
    (subst (λ a. IfSome (left s)
    (λ stream. IsFed (beginning setting) stream (held k) (held l) (has p) (has q) (ys ≡ xs) (map known xs)
    (map known ys) a)) same fed)))))))

pub steady_there : {A : Type 0} (xs' : List A) (known : A → Known) (xs ys ys' : List A) → xs ≡ xs' → ys ≡ ys' →
    steady_count (map known ys) ≡ steady_count (map known xs) → steady_count (map known ys') ≡ steady_count (map known xs')
steady_there xs' known xs ys ys' before after same =
    ap (λ a. steady_count (map known a)) (sym after) ∙ same ∙ ap (λ a. steady_count (map known a)) before

-- a line that refuses was written last, or a front of it
pub ends_refused : (course : Course) (stream : List ℕ) (old new : Option (List ℕ)) (has : Option (Option (List ℕ))) (seen : ℕ)
    (as_they_came : Type 0) (all : List Known) (ended : Status) → as_they_came →
    EndsCounted course stream old new seen → IsOver course stream → IsFed course stream old new has has as_they_came all all ended
ends_refused course stream old new has seen as_they_came all ended same (written, appends, counted) over =
    ends_fed course stream old new has has as_they_came all all ended (unfed as_they_came all same) written appends
    (IsFrontOfNext.refusal written over) (inl refl) (λ whole. over)

pub ends_refused_told : (told : Option (List ℕ)) (course : Course) (old new : Option (List ℕ)) (has : Option (Option (List ℕ))) (seen : ℕ)
    (as_they_came : Type 0) (all : List Known) (ended : Status) → as_they_came →
    IfSome told (λ stream. EndsCounted course stream old new seen) → IfSome told (λ stream. IsOver course stream) →
    IfSome told (λ stream. IsFed course stream old new has has as_they_came all all ended)
ends_refused_told None course old new has seen as_they_came all ended same written over = tt
ends_refused_told (Some stream) course old new has seen as_they_came all ended same written over =
    ends_refused course stream old new has seen as_they_came all ended same written over

-- a command that is not answered stands first
pub over_at : OneFirst → (course : Course) (stream rest : List ℕ) (asked : Command) → IsFirst stream asked rest → (IsAnswered asked → ⊥) →
    IsOver course stream
over_at one_first course stream rest asked first unanswered asked' rest' few first' answered =
    unanswered (subst IsAnswered (sym (one_first stream rest rest' asked asked' first first').0) answered)

over_where_nothing : (course : Course) → IsOver course []
over_where_nothing course = λ asked rest few first answered. none_first rest asked first

pub over_nothing : (told : Option (List ℕ)) (course : Course) → IfSome told (λ stream. stream ≡ []) →
    IfSome told (λ stream. IsOver course stream)
over_nothing None course nothing = tt
over_nothing (Some stream) course nothing = subst (IsOver course) (sym nothing) (over_where_nothing course)

pub over_full : (told : Option (List ℕ)) (course : Course) → IfSome told (λ stream. (stream ≢ []) × (65536 ≤ course.taken)) →
    IfSome told (λ stream. IsOver course stream)
over_full None course full = tt
over_full (Some stream) course (some, most) = λ asked rest few first answered. omega (arith, most, few)

pub over_malformed : (told : Option (List ℕ)) (reading : Reading) (present : Present) (number offset : ℕ) →
    IfSome told (λ stream. IsMalformed reading stream number offset) → IfSome told (λ stream. IsOver (course_of reading present) stream)
over_malformed None reading present number offset malformed = tt
over_malformed (Some stream) reading present number offset malformed = λ asked rest few first answered. malformed.none asked rest first

pub cut_is_not_whole : (ended : Status) → IsCutShort ended → IsWhole ended → ⊥
cut_is_not_whole ended (inl is) whole = subst IsWhole is whole
cut_is_not_whole ended (inr (inl is)) whole = subst IsWhole is whole
cut_is_not_whole ended (inr (inr is)) whole = subst IsWhole is whole

-- ---- a command

-- what a reply saves, by how it ended
pub saved_as : (present : Present) (asked : Command) (before after : Option (Option (List ℕ)))
    (result result' : Result (Vec Entry) Status) → result ≡ result' → IsReplySaved present asked before after (ended_of result) →
    IsReplySaved present asked before after (ended_of result')
saved_as present asked before after result result' is saved = subst (λ r. IsReplySaved present asked before after (ended_of r)) is saved

-- where there are bytes for the store, its path is named
pub saved_has_path : (present : Present) (asked : Command) (saved : Option (List ℕ)) (path : Option (Bor (List ℕ))) →
    present.setting.saves ≡ is_some path → Saves present asked saved → IsSome saved → IsSome path
saved_has_path present _ _ path named (Saves.save program saves read) some = sym named ∙ saves
saved_has_path present _ _ path named (Saves.save_refused refused saves read) some = let clash : false ≡ true = some in absurd cc
saved_has_path present _ _ path named (Saves.save_nowhere none) some = let clash : false ≡ true = some in absurd cc
saved_has_path present _ _ path named (Saves.other asked differs) some = let clash : false ≡ true = some in absurd cc

-- what a reply that was cut short saves was stored, or was not
cut_kept : (course : Course) (stream rest : List ℕ) (asked : Command) (before after : Option (Option (List ℕ))) (ended : Status) →
    course.taken < 65536 → IsFirst stream asked rest → IsCutShort ended →
    IsReplySaved course.present asked before after (Some ended) → IsKept course stream None before after ended
cut_kept course stream rest asked before after ended few first cut (inl same) = inl same
cut_kept course stream rest asked before after ended few first cut (inr (bytes, saves, is)) =
    inr (cut_is_not_whole ended cut, bytes, record { rest = rest; asked = asked; few = few; first = first; saves = saves }, is)

-- a reply that was cut short was fed to nobody
cut_fed : (course : Course) (stream rest : List ℕ) (asked : Command) (old new : Option (List ℕ)) (before after : Option (Option (List ℕ)))
    (as_they_came : Type 0) (olds news : List Known) (ended : Status) →
    course.taken < 65536 → IsFirst stream asked rest → IsCutShort ended → IsCutAnswer course.present asked old new →
    WereFed as_they_came [] olds news → IsReplySaved course.present asked before after (Some ended) →
    IsFed course stream old new before after as_they_came olds news ended
cut_fed course stream rest asked old new before after as_they_came olds news ended few first cut (inl same) were saved =
    ends_fed course stream old new before after as_they_came olds news ended were [] (same ∙ sym (held-nil old)) IsFrontOfNext.nothing
    (cut_kept course stream rest asked before after ended few first cut saved) (λ whole. absurd (cut_is_not_whole ended cut whole))
cut_fed course stream rest asked old new before after as_they_came olds news ended few first cut
    (inr (text, later, answers, (count, less, some))) were saved =
    ends_fed course stream old new before after as_they_came olds news ended were (take count text) some
    (IsFrontOfNext.reply rest asked text later count few first answers less)
    (cut_kept course stream rest asked before after ended few first cut saved) (λ whole. absurd (cut_is_not_whole ended cut whole))

replied_fed : (course : Course) (stream rest : List ℕ) (asked : Command) (later : Present) (old new : Option (List ℕ))
    (before after : Option (Option (List ℕ))) (as_they_came : Type 0) (olds news : List Known) (result : Option Status) →
    course.taken < 65536 → IsFirst stream asked rest → IsReply course.present asked old later new result →
    IsReplyFed course.present asked before after as_they_came olds news result →
    IsTurnFed course stream old (one_behind course (length stream - length rest) later)
    (Some rest) new before after as_they_came olds news result
replied_fed course stream rest asked later old new before after as_they_came olds news None few first (text, answers, appends)
    ((fed, feeds, were), (saved, saves, is)) = record {
      text = text;
      fed = fed;
      saved = saved;
      rest = rest;
      is_left = refl;
      leads = one_command course stream rest asked text later fed saved few first answers feeds saves;
      appends = appends;
      were = were;
      kept = is;
    }
replied_fed course stream rest asked later old new before after as_they_came olds news (Some ended) few first (cut, some) (were, saved) =
    cut_fed course stream rest asked old new before after as_they_came olds news ended few first cut some were saved

pub turned_fed : (course : Course) (present : Present) (number offset : ℕ) (stream rest : List ℕ) (asked : Command) (later : Present)
    (old new : Option (List ℕ)) (before after : Option (Option (List ℕ))) (as_they_came : Type 0)
    (olds news : List Known) (result : Option Status) → IsAt course present number offset → IsFirst stream asked rest →
    IsReply present asked old later new result →
    IsReplyFed present asked before after as_they_came olds news result →
    IsTurnFed course stream old (one_behind course (length stream - length rest) later)
    (Some rest) new before after as_they_came olds news result
turned_fed course present number offset stream rest asked later old new before after as_they_came olds news result at first reply fed =
    replied_fed course stream rest asked later old new before after as_they_came olds news result at.few first
    (subst (λ (p : Present). IsReply p asked old later new result) (sym at.present_is) reply)
    (subst (λ (p : Present). IsReplyFed p asked before after as_they_came olds news result) (sym at.present_is) fed)

-- what follows a command, for any course and stream
abbrev pub FollowsFed : Present → Command → ℕ → ℕ → Option (List ℕ) → Present → Option (List ℕ) → Option (Option (List ℕ)) →
    Option (Option (List ℕ)) → Type 0 → List Known → List Known → Option Status → Type 0
FollowsFed present asked number offset old later new before after as_they_came olds news result =
    (course : Course) (stream rest : List ℕ) → IsAt course present number offset → IsFirst stream asked rest →
    IsTurnFed course stream old (one_behind course (length stream - length rest) later)
    (Some rest) new before after as_they_came olds news result

-- a command was taken, and followed
pub takes_fed : (told left old new : Option (List ℕ)) (before after : Option (Option (List ℕ))) (reading reading' : Reading)
    (present later : Present) (asked : Command) (number offset : ℕ) (as_they_came : Type 0)
    (olds news : List Known) (result : Option Status) → number ≡ reading.taken + 1 → offset ≡ reading.offset →
    IfSome told (λ stream. IsTaken reading reading' stream left asked) →
    FollowsFed present asked number offset old later new before after as_they_came olds news result →
    IfSome told (λ stream. IsTurnFed (course_of reading present) stream old
    (course_of reading' later) left new before after as_they_came olds news result)
takes_fed None left old new before after reading reading' present later asked number offset as_they_came olds news result is_number
    is_offset taken follows = tt
takes_fed (Some stream) left old new before after reading reading' present later asked number offset as_they_came olds news result is_number
    is_offset taken follows =
    let turn =
    follows (course_of reading present) stream taken.rest
    (record { present_is = refl; number_is = is_number; offset_is = is_offset; few = taken.counted.few }) taken.first in
    let same : one_behind (course_of reading present) (length stream - length taken.rest) later ≡ course_of reading' later =
    ap (λ n. record { taken = n; offset = reading.offset + (length stream - length taken.rest); present = later }) (sym taken.counted.taken)
    ∙ ap (λ o. record { taken = reading'.taken; offset = o; present = later }) (sym taken.counted.offset) in
    subst (λ (o : Option (List ℕ)). IsTurnFed (course_of reading present) stream old
    (course_of reading' later) o new before after as_they_came olds news result) (sym taken.is_left)
    (subst (λ (course : Course). IsTurnFed (course_of reading present) stream old course
    (Some taken.rest) new before after as_they_came olds news result) same turn)

-- ---- what is fed is a front of one list

answered : (present after : Present) (asked : Command) (text : List ℕ) → Answers present asked text after → IsAnswered asked
answered present after command.Blank text answers = tt
answered present after (command.Put name bytes) text answers = tt
answered present after (command.PutTooLong name size) text answers = tt
answered present after (command.DropFile name) text answers = tt
answered present after command.Start text answers = tt
answered present after (command.Show name) text answers = tt
answered present after command.Report text answers = tt
answered present after (command.Gen n) text answers = tt
answered present after command.Save text answers = tt
answered present after command.Quit text answers = elim answers [ ]

module _ (one_first : OneFirst) (one_answer : OneAnswer) (one_feed : OneFeed) where
  front_within : (bytes : ℕ) (course later over : Course) (stream text text' left rest : List ℕ) (fed all : List Entry)
      (saved saved' : Option (List ℕ)) → length stream < bytes →
      FeedsTo course stream text fed saved later left → FeedsTo course stream text' all saved' over rest → IsOver over rest →
      (more : List Entry) × (all ≡ fed ++ more)
  front_within zero course later over stream text text' left rest fed all saved saved' within one other is_over = absurd (omega arith)
  front_within (suc bytes) _ _ _ _ _ _ _ _ _ all _ _ within (FeedsTo.here course stream) other is_over = (all, refl)
  front_within (suc bytes) _ _ _ _ _ _ _ _ _ _ _ _ within
      (FeedsTo.behind course stream next asked text others after fed more own saved later left few first answers feeds saves goes)
      (FeedsTo.here _ _) is_over =
      absurd (is_over asked next few first (answered course.present after asked text answers))
  front_within (suc bytes) _ _ _ _ _ _ _ _ _ _ _ _ within
      (FeedsTo.behind course stream next asked text others after fed more own saved later left few first answers feeds saves goes)
      (FeedsTo.behind _ _ next' asked' text' others' after' fed' more' own' saved' over rest few' first' answers' feeds' saves' goes')
      is_over =
      let (same, behind) = one_first stream next next' asked asked' first first' in
      let answers'' : Answers course.present asked text' after' =
      subst (λ one. Answers course.present one text' after') (sym same) answers' in
      let (texts, afters) = one_answer course.present after after' asked text text' answers answers'' in
      let its_own : fed
      ≡ fed' = one_feed course.present asked fed fed' feeds (subst (λ one. Feeds course.present one fed') (sym same) feeds') in
      let shorter = rest_shorter stream next asked first in
      let goes'' =
      subst (λ (present : Present). FeedsTo (one_behind course (length stream - length next) present) next others' more' saved' over rest)
      (sym afters)
      (subst (λ r. FeedsTo (one_behind course (length stream - length r) after') r others' more' saved' over rest) (sym behind) goes') in
      let (others_fed, is) =
      front_within bytes
      (one_behind course (length stream - length next) after) later over next others others' left rest more more' saved saved'
      (omega (arith, shorter, within)) goes goes'' is_over in
      (others_fed, ap₂ (λ xs ys. xs ++ ys) (sym its_own) is ∙ sym (append_assoc fed more others_fed))

  pub front_fed : FedIsFront
  front_fed course later over stream text text' left rest fed all saved saved' one other is_over =
      front_within (suc (length stream)) course later over stream text text' left rest fed all saved saved' (omega arith) one other is_over

  module _ (one_saving : OneSaving) where
    -- behind all commands the same was fed and stored
    record IsSameFeeding (fed all : List Entry) (saved saved' : Option (List ℕ)) : Type 0 where
      fed_is : fed ≡ all
      saved_is : saved ≡ saved'

    once_within : (bytes : ℕ) (course later over : Course) (stream text text' left rest : List ℕ) (fed all : List Entry)
        (saved saved' : Option (List ℕ)) → length stream < bytes →
        FeedsTo course stream text fed saved later left → IsOver later left → FeedsTo course stream text' all saved' over rest →
        IsOver over rest → IsSameFeeding fed all saved saved'
    once_within zero course later over stream text text' left rest fed all saved saved' within one is_end other is_over =
        absurd (omega arith)
    once_within (suc bytes) _ _ _ _ _ _ _ _ _ _ _ _ within (FeedsTo.here course stream) is_end (FeedsTo.here _ _) is_over =
        record { fed_is = refl; saved_is = refl }
    once_within (suc bytes) _ _ _ _ _ _ _ _ _ _ _ _ within (FeedsTo.here course stream) is_end
        (FeedsTo.behind _ _ next asked text others after fed more own saved over rest few first answers feeds saves goes) is_over =
        absurd (is_end asked next few first (answered course.present after asked text answers))
    once_within (suc bytes) _ _ _ _ _ _ _ _ _ _ _ _ within
        (FeedsTo.behind course stream next asked text others after fed more own saved later left few first answers feeds saves goes) is_end
        (FeedsTo.here _ _) is_over =
        absurd (is_over asked next few first (answered course.present after asked text answers))
    once_within (suc bytes) _ _ _ _ _ _ _ _ _ _ _ _ within
        (FeedsTo.behind course stream next asked text others after fed more own saved later left few first answers feeds saves goes) is_end
        (FeedsTo.behind _ _ next' asked' text' others' after' fed' more' own' saved' over rest few' first' answers' feeds' saves' goes')
        is_over =
        let (same, behind) = one_first stream next next' asked asked' first first' in
        let answers'' : Answers course.present asked text' after' =
        subst (λ one. Answers course.present one text' after') (sym same) answers' in
        let (texts, afters) = one_answer course.present after after' asked text text' answers answers'' in
        let its_own : fed
        ≡ fed' = one_feed course.present asked fed fed' feeds (subst (λ one. Feeds course.present one fed') (sym same) feeds') in
        let its_saved : own
        ≡ own' = one_saving course.present asked own own' saves (subst (λ one. Saves course.present one own') (sym same) saves') in
        let shorter = rest_shorter stream next asked first in
        let goes'' =
        subst (λ (present : Present). FeedsTo
        (one_behind course (length stream - length next) present) next others' more' saved' over rest) (sym afters)
        (subst (λ r. FeedsTo (one_behind course (length stream - length r) after') r others' more' saved' over rest) (sym behind) goes') in
        let again =
        once_within bytes
        (one_behind course (length stream - length next) after) later over next others others' left rest more more' saved saved'
        (omega (arith, shorter, within)) goes is_end goes'' is_over in
        record { fed_is = ap₂ (λ xs ys. xs ++ ys) its_own again.fed_is; saved_is = ap₂ last_of its_saved again.saved_is }

    pub fed_once : OneFeeding
    fed_once course later over stream text text' left rest fed all saved saved' one is_end other is_over =
        let same =
        once_within (suc (length stream)) course later over stream text text' left rest fed all saved saved'
        (omega arith) one is_end other is_over in
        (same.fed_is, same.saved_is)

-- ---- and there is one

module _ (one_first : OneFirst) (some_feed : SomeFeed) (some_saving : SomeSaving) where
  abbrev HasFed : Course → List ℕ → Type 0
  HasFed course stream = (text : List ℕ) × (fed : List Entry) × (saved : Option (List ℕ)) × (later : Course) × (left : List ℕ)
      × FeedsTo course stream text fed saved later left × IsOver later left

  over_here : (course : Course) (stream : List ℕ) → IsOver course stream → HasFed course stream
  over_here course stream over = ([], [], None, course, stream, FeedsTo.here course stream, over)

  by_replies : (course : Course) (stream text : List ℕ) (ended : Status) → Replies course stream text ended → HasFed course stream
  by_replies _ _ _ _ (Replies.end course) = over_here course [] (over_where_nothing course)
  by_replies _ _ _ _ (Replies.quit course stream rest few first) =
      over_here course stream (over_at one_first course stream rest command.Quit first (λ no. no))
  by_replies _ _ _ _ (Replies.full course stream some most) =
      over_here course stream (λ asked rest few first answered. omega (arith, most, few))
  by_replies _ _ _ _ (Replies.malformed course stream some few none) =
      over_here course stream (λ asked rest few first answered. none asked rest first)
  by_replies _ _ _ _ (Replies.more course stream rest asked text others after ended few first answers behind) =
      let (fed, feeds) = some_feed course.present asked in
      let (own, saves) = some_saving course.present asked in
      let (text', fed', saved, later, left, goes, over) =
      by_replies (one_behind course (length stream - length rest) after) rest others ended behind in (
        text ++ text',
        fed
            ++ fed',
        last_of own saved,
        later,
        left,
        FeedsTo.behind course stream rest asked text text' after fed fed' own saved later left few
            first answers feeds saves goes,
        over,
      )

  pub fed_some : SomeReply → SomeFed
  fed_some some_reply course stream = let (text, ended, replies) = some_reply course stream in by_replies course stream text ended replies
