-- A stream is answered in one way: what stands first is one thing, each command has one answer, and so on behind it.
use Rattle.std.proofs.Common.{◌≡◌, ◌≢◌, ℕ, zero, suc, ◌+◌, ◌-◌, ◌<◌, ◌≤◌, List, [], ◌∷◌, ◌++◌, ◌⊎◌, inl, inr, length, refl, sym, ap₂, subst}
use Rattle.std.proofs.Common.{arith}
use Rattle.std.proofs.lemmas.Bool.{cases_lt}
use Rattle.session_lines.specs.declared.command.Command.{Command}
use Rattle.session_lines.specs.declared.command.Command.TheVariants as command
use Rattle.session_lines.specs.Lines.{IsFirst}
use Rattle.session_lines.specs.Laws.{OneFirst}
use Rattle.session_lines.specs.Sessions.{BeginsWithNone, MOST_COMMANDS}
use Rattle.session_lines.proofs.Deciding.{first_in}
use Rattle.session_lines.proofs.SessionLemmas.{none_first, rest_shorter}
use Rattle.session_replies.specs.Answers.{Answers, IsAnswered, Present}
use Rattle.session_replies.specs.Laws.{OneAnswer, SomeAnswer}
use Rattle.heapan_top.specs.declared.status.Status.{Status}
use Rattle.heapan_top.specs.declared.status.Status.TheVariants as status
use Rattle.heapan_top.specs.Laws.{OneReply, SomeReply}
use Rattle.heapan_top.specs.Replies.{Course, Replies, malformed_line, one_behind, status_with}

-- ---- what stands first

data Head : Type 0 where
  Nothing : Head
  TooMany : Head
  NoCommand : Head
  First : Command → List ℕ → Head

abbrev Stands : Course → List ℕ → Head → Type 0
Stands course stream Nothing = stream ≡ []
Stands course stream TooMany = (stream ≢ []) × (MOST_COMMANDS ≤ course.taken)
Stands course stream NoCommand = (stream ≢ []) × (course.taken < MOST_COMMANDS) × BeginsWithNone stream
Stands course stream (First asked rest) = (course.taken < MOST_COMMANDS) × IsFirst stream asked rest

module _ (one_first : OneFirst) (course : Course) (stream : List ℕ) where
  not_empty : (asked : Command) (rest : List ℕ) → IsFirst stream asked rest → stream ≡ [] → ⊥
  not_empty asked rest first none = none_first rest asked (subst (λ bytes. IsFirst bytes asked rest) none first)

  one_head : (one other : Head) → Stands course stream one → Stands course stream other → one ≡ other
  one_head Nothing Nothing is also = refl
  one_head Nothing TooMany is (some, most) = absurd (some is)
  one_head Nothing NoCommand is (some, few, none) = absurd (some is)
  one_head Nothing (First asked rest) is (few, first) = absurd (not_empty asked rest first is)
  one_head TooMany Nothing (some, most) is = absurd (some is)
  one_head TooMany TooMany is also = refl
  one_head TooMany NoCommand (some, most) (some', few, none) = absurd (omega (arith, most, few))
  one_head TooMany (First asked rest) (some, most) (few, first) = absurd (omega (arith, most, few))
  one_head NoCommand Nothing (some, few, none) is = absurd (some is)
  one_head NoCommand TooMany (some, few, none) (some', most) = absurd (omega (arith, most, few))
  one_head NoCommand NoCommand is also = refl
  one_head NoCommand (First asked rest) (some, few, none) (few', first) = absurd (none asked rest first)
  one_head (First asked rest) Nothing (few, first) is = absurd (not_empty asked rest first is)
  one_head (First asked rest) TooMany (few, first) (some, most) = absurd (omega (arith, most, few))
  one_head (First asked rest) NoCommand (few, first) (some, few', none) = absurd (none asked rest first)
  one_head (First asked rest) (First asked' rest') (few, first) (few', first') =
      let (same, behind) = one_first stream rest rest' asked asked' first first' in
      ap₂ First same behind

-- ---- what is written then

data Says (course : Course) (stream : List ℕ) : Head → List ℕ → Status → Type 0 where
  end : Says course stream Nothing [] (status_with course.present.missing)
  full : Says course stream TooMany [] status.Full
  malformed : Says course stream NoCommand (malformed_line (course.taken + 1) course.offset)
      (status.Refused (course.taken + 1) course.offset)
  quit : (rest : List ℕ) → Says course stream (First command.Quit rest) [] (status_with course.present.missing)
  more : (rest : List ℕ) (asked : Command) (text others : List ℕ) (after : Present) (ended : Status) →
      Answers course.present asked text after →
      Replies (one_behind course (length stream - length rest) after) rest others ended →
      Says course stream (First asked rest) (text ++ others) ended

record IsSaid (course : Course) (stream text : List ℕ) (ended : Status) : Type 0 where
  head : Head
  stands : Stands course stream head
  says : Says course stream head text ended

said : (course : Course) (stream text : List ℕ) (ended : Status) → Replies course stream text ended → IsSaid course stream text ended
said _ _ _ _ (Replies.end course) = record { head = Nothing; stands = refl; says = end }
said _ _ _ _ (Replies.quit course stream rest few first) =
    record { head = First command.Quit rest; stands = (few, first); says = quit rest }
said _ _ _ _ (Replies.full course stream some most) = record { head = TooMany; stands = (some, most); says = full }
said _ _ _ _ (Replies.malformed course stream some few none) = record { head = NoCommand; stands = (some, few, none); says = malformed }
said _ _ _ _ (Replies.more course stream rest asked text others after ended few first answers behind) =
    record { head = First asked rest; stands = (few, first); says = more rest asked text others after ended answers behind }

module _ (one_first : OneFirst) (one_answer : OneAnswer) where
  -- by the bytes that are left: each command has one at least
  says_once : (bytes : ℕ) →
      ((course : Course) (stream text text' : List ℕ) (one other : Status) → length stream < bytes → Replies course stream text one →
      Replies course stream text' other → (text ≡ text') × (one ≡ other)) →
      (course : Course) (stream : List ℕ) (head : Head) → length stream ≤ bytes → Stands course stream head →
      (text text' : List ℕ) (one other : Status) → Says course stream head text one → Says course stream head text' other →
      (text ≡ text') × (one ≡ other)
  says_once bytes again course stream _ within stands _ _ _ _ end end = (refl, refl)
  says_once bytes again course stream _ within stands _ _ _ _ full full = (refl, refl)
  says_once bytes again course stream _ within stands _ _ _ _ malformed malformed = (refl, refl)
  says_once bytes again course stream _ within stands _ _ _ _ (quit rest) (quit _) = (refl, refl)
  says_once bytes again course stream _ within stands _ _ _ _ (more rest asked text others after ended answers behind)
      (more _ _ text' others' after' ended' answers' behind') =
      let (texts, afters) = one_answer course.present after after' asked text text' answers answers' in
      let shorter = rest_shorter stream rest asked stands.1 in
      let behind'' =
      subst (λ (present : Present). Replies (one_behind course (length stream - length rest) present) rest others' ended')
      (sym afters) behind' in
      let (same, ends) =
      again (one_behind course (length stream - length rest) after) rest others others' ended ended' (omega arith) behind behind'' in
      (ap₂ (λ xs ys. xs ++ ys) texts same, ends)
  says_once bytes again course stream _ within stands _ _ _ _ (quit rest) (more _ _ text' others' after' _ answers' behind') =
      elim answers' [ ]
  says_once bytes again course stream _ within stands _ _ _ _ (more rest _ text others after _ answers behind) (quit _) = elim answers [ ]

  once_within : (bytes : ℕ) (course : Course) (stream text text' : List ℕ) (one other : Status) → length stream < bytes →
      Replies course stream text one → Replies course stream text' other → (text ≡ text') × (one ≡ other)
  once_within zero course stream text text' one other within replies replies' = absurd (omega arith)
  once_within (suc bytes) course stream text text' one other within replies replies' =
      let mine = said course stream text one replies in
      let its = said course stream text' other replies' in
      let same : its.head ≡ mine.head = one_head one_first course stream its.head mine.head its.stands mine.stands in
      says_once bytes (once_within bytes) course stream mine.head (omega arith) mine.stands text text' one other mine.says
      (subst (λ head. Says course stream head text' other) same its.says)

  pub replies_once : OneReply
  replies_once course stream text text' one other replies replies' =
      once_within (suc (length stream)) course stream text text' one other (omega arith) replies replies'

module _ (some_answer : SomeAnswer) where
  abbrev HasReply : Course → List ℕ → Type 0
  HasReply course stream = (text : List ℕ) × (ended : Status) × Replies course stream text ended

  -- a command that is answered, and what stands behind it
  answered_some : (course : Course) (stream rest : List ℕ) (asked : Command) → course.taken < MOST_COMMANDS → IsFirst stream asked rest →
      IsAnswered asked → ((after : Course) → HasReply after rest) → HasReply course stream
  answered_some course stream rest asked few first answered again =
      let (text, after, answers) = some_answer course.present asked answered in
      let (others, ended, behind) = again (one_behind course (length stream - length rest) after) in
      (text ++ others, ended, Replies.more course stream rest asked text others after ended few first answers behind)

  taken_some : (course : Course) (stream rest : List ℕ) (asked : Command) → course.taken < MOST_COMMANDS → IsFirst stream asked rest →
      ((after : Course) → HasReply after rest) → HasReply course stream
  taken_some course stream rest command.Quit few first again = (_, _, Replies.quit course stream rest few first)
  taken_some course stream rest command.Save few first again = answered_some course stream rest command.Save few first tt again
  taken_some course stream rest command.Blank few first again = answered_some course stream rest command.Blank few first tt again
  taken_some course stream rest (command.Put name bytes) few first again =
      answered_some course stream rest (command.Put name bytes) few first tt again
  taken_some course stream rest (command.PutTooLong name size) few first again =
      answered_some course stream rest (command.PutTooLong name size) few first tt again
  taken_some course stream rest (command.DropFile name) few first again =
      answered_some course stream rest (command.DropFile name) few first tt again
  taken_some course stream rest command.Start few first again = answered_some course stream rest command.Start few first tt again
  taken_some course stream rest (command.Show name) few first again =
      answered_some course stream rest (command.Show name) few first tt again
  taken_some course stream rest command.Report few first again = answered_some course stream rest command.Report few first tt again
  taken_some course stream rest (command.Gen n) few first again = answered_some course stream rest (command.Gen n) few first tt again

  step_some : (course : Course) (x : ℕ) (xs : List ℕ) →
      ((after : Course) (rest : List ℕ) → length rest < length (x ∷ xs) → HasReply after rest) → HasReply course (x ∷ xs)
  step_some course x xs again = by (cases_lt course.taken MOST_COMMANDS) (first_in (x ∷ xs) some)
    where
      some : (x ∷ xs) ≢ []
      some e = cc

      by : (course.taken < MOST_COMMANDS) ⊎ (MOST_COMMANDS ≤ course.taken) →
          ((asked : Command) × (rest : List ℕ) × IsFirst (x ∷ xs) asked rest) ⊎ BeginsWithNone (x ∷ xs) → HasReply course (x ∷ xs)
      by (inl few) (inl (asked, rest, first)) =
          taken_some course (x ∷ xs) rest asked few first (λ after. again after rest (rest_shorter (x ∷ xs) rest asked first))
      by (inl few) (inr none) = (_, _, Replies.malformed course (x ∷ xs) some few none)
      by (inr most) first = (_, _, Replies.full course (x ∷ xs) some most)

  some_within : (bytes : ℕ) (course : Course) (stream : List ℕ) → length stream ≤ bytes → HasReply course stream
  some_within bytes course [] within = (_, _, Replies.end course)
  some_within zero course (x ∷ xs) within = absurd (omega arith)
  some_within (suc bytes) course (x ∷ xs) within = step_some course x xs (λ after rest shorter. some_within bytes after rest (omega arith))

  pub replies_some : SomeReply
  replies_some course stream = some_within (length stream) course stream (omega arith)
