-- A stream has one list of commands and one end.
use Rattle.std.proofs.Common.{◌≡◌, ◌≢◌, ℕ, zero, suc, ◌+◌, ◌-◌, ◌<◌, ◌≤◌, List, [], ◌∷◌, ◌++◌, ◌⊎◌, inl, inr, length, refl, sym, ap, ap₂}
use Rattle.std.proofs.Common.{◌∙◌, subst, arith, length-append}
use Rattle.std.proofs.lemmas.Bool.{cases_lt}
use Rattle.session_lines.specs.declared.command.Command.{Command}
use Rattle.session_lines.specs.declared.command.Command.TheVariants as command
use Rattle.session_lines.specs.Laws.{OneFirst, OneSession, SomeSession}
use Rattle.session_lines.specs.Lines.{IsFirst, IsFirstLine, body_size, command_of, line_text}
use Rattle.session_lines.specs.Sessions.{Ending, End, Quit, Malformed, Full, HasCommands, end, full, malformed, quit, more, BeginsWithNone}
use Rattle.session_lines.specs.Sessions.{MOST_COMMANDS}
use Rattle.session_lines.proofs.Deciding.{first_in}
use Rattle.session_lines.proofs.FirstLemmas.{first_line_once}
use Rattle.session_lines.proofs.LineLemmas.{line_once, on_one_line}

-- two texts of which the first parts are as long
parts_once : (xs us ys vs : List ℕ) → length xs ≡ length us → xs ++ ys ≡ us ++ vs → (xs ≡ us) × (ys ≡ vs)
parts_once [] [] ys vs size same = (refl, same)
parts_once [] (u ∷ us) ys vs size same = absurd (omega arith)
parts_once (x ∷ xs) [] ys vs size same = absurd (omega arith)
parts_once (x ∷ xs) (u ∷ us) ys vs size same =
    let first : x ≡ u = cc in
    let rest : xs ++ ys ≡ us ++ vs = cc in
    let (front, back) = parts_once xs us ys vs (omega arith) rest in
    (cc, back)

pub one_first : OneFirst
one_first stream rest rest' one other first first' =
    let (texts, behinds) =
    first_line_once stream (line_text first.line) (first.body ++ rest) (line_text first'.line) (first'.body ++ rest') first.text
    (on_one_line first.line first.allowed) first'.text (on_one_line first'.line first'.allowed) in
    let lines = line_once first.line first'.line first.allowed first'.allowed texts in
    let (bodies, rests) = parts_once first.body first'.body rest rest' (first.whole ∙ ap body_size lines ∙ sym first'.whole) behinds in
    (first.means ∙ ap₂ command_of lines bodies ∙ sym first'.means, rests)

-- nothing stands first where nothing is
pub none_first : (rest : List ℕ) (one : Command) → IsFirst [] one rest → ⊥
none_first rest one first = by first.text
  where
    by : IsFirstLine [] (line_text first.line) (first.body ++ rest) → ⊥
    by (inl ended) =
        let size = ap length ended in
        let parts = length-append (line_text first.line) (10 ∷ (first.body ++ rest)) in
        omega arith
    by (inr ((whole, some), none)) = some refl

-- a command has a byte at least
pub rest_shorter : (stream rest : List ℕ) (one : Command) → IsFirst stream one rest → length rest < length stream
rest_shorter [] rest one first = absurd (none_first rest one first)
rest_shorter (x ∷ xs) rest one first = by first.text
  where
    by : IsFirstLine (x ∷ xs) (line_text first.line) (first.body ++ rest) → length rest < length (x ∷ xs)
    by (inl ended) =
        let size = ap length ended in
        let parts = length-append (line_text first.line) (10 ∷ (first.body ++ rest)) in
        let parts' = length-append first.body rest in
        omega arith
    by (inr ((whole, some), none)) =
        let size = ap length none in
        let parts' = length-append first.body rest in
        omega arith

commands_once : (taken offset : ℕ) (stream : List ℕ) (ones others : List Command) (one other : Ending)
    → HasCommands taken offset stream ones one → HasCommands taken offset stream others other
    → (ones ≡ others) × (one ≡ other)
commands_once taken offset _ _ _ _ _ (end _ _) (end _ _) = (refl, refl)
commands_once taken offset _ _ _ _ _ (end _ _) (full _ _ _ some _) = absurd (some refl)
commands_once taken offset _ _ _ _ _ (end _ _) (malformed _ _ _ some _ _) = absurd (some refl)
commands_once taken offset _ _ _ _ _ (end _ _) (quit _ _ _ rest _ first) = absurd (none_first rest command.Quit first)
commands_once taken offset _ _ _ _ _ (end _ _) (more _ _ _ rest first _ _ _ _ is _) = absurd (none_first rest first is)
commands_once taken offset _ _ _ _ _ (full _ _ _ some _) (end _ _) = absurd (some refl)
commands_once taken offset _ _ _ _ _ (full _ _ _ _ _) (full _ _ _ _ _) = (refl, refl)
commands_once taken offset _ _ _ _ _ (full _ _ _ _ most) (malformed _ _ _ _ few _) = absurd (omega (arith, most, few))
commands_once taken offset _ _ _ _ _ (full _ _ _ _ most) (quit _ _ _ _ few _) = absurd (omega (arith, most, few))
commands_once taken offset _ _ _ _ _ (full _ _ _ _ most) (more _ _ _ _ _ _ _ few _ _ _) = absurd (omega (arith, most, few))
commands_once taken offset _ _ _ _ _ (malformed _ _ _ some _ _) (end _ _) = absurd (some refl)
commands_once taken offset _ _ _ _ _ (malformed _ _ _ _ few _) (full _ _ _ _ most) = absurd (omega (arith, most, few))
commands_once taken offset _ _ _ _ _ (malformed _ _ _ _ _ _) (malformed _ _ _ _ _ _) = (refl, refl)
commands_once taken offset _ _ _ _ _ (malformed _ _ _ _ _ none) (quit _ _ _ rest _ first) = absurd (none command.Quit rest first)
commands_once taken offset _ _ _ _ _ (malformed _ _ _ _ _ none) (more _ _ _ rest first _ _ _ _ is _) = absurd (none first rest is)
commands_once taken offset _ _ _ _ _ (quit _ _ _ rest _ first) (end _ _) = absurd (none_first rest command.Quit first)
commands_once taken offset _ _ _ _ _ (quit _ _ _ _ few _) (full _ _ _ _ most) = absurd (omega (arith, most, few))
commands_once taken offset _ _ _ _ _ (quit _ _ _ rest _ first) (malformed _ _ _ _ _ none) = absurd (none command.Quit rest first)
commands_once taken offset _ _ _ _ _ (quit _ _ _ _ _ _) (quit _ _ _ _ _ _) = (refl, refl)
commands_once taken offset stream _ _ _ _ (quit _ _ _ rest _ first) (more _ _ _ rest' other _ _ _ not_quit is _) =
    absurd (not_quit (sym (one_first stream rest rest' command.Quit other first is).0))
commands_once taken offset _ _ _ _ _ (more _ _ _ rest first _ _ _ _ is _) (end _ _) = absurd (none_first rest first is)
commands_once taken offset _ _ _ _ _ (more _ _ _ _ _ _ _ few _ _ _) (full _ _ _ _ most) = absurd (omega (arith, most, few))
commands_once taken offset _ _ _ _ _ (more _ _ _ rest first _ _ _ _ is _) (malformed _ _ _ _ _ none) = absurd (none first rest is)
commands_once taken offset stream _ _ _ _ (more _ _ _ rest first _ _ _ not_quit is _) (quit _ _ _ rest' _ other) =
    absurd (not_quit (one_first stream rest rest' first command.Quit is other).0)
commands_once taken offset stream _ _ _ _ (more _ _ _ rest first ones one few not_quit is others_are)
    (more _ _ _ rest' first' others other few' not_quit' is' others_are') =
    let (firsts, rests) = one_first stream rest rest' first first' is is' in
    let (same, ends) = commands_once (taken + 1) (offset + (length stream - length rest)) rest ones others one other others_are
    (subst (λ xs. HasCommands (taken + 1) (offset + (length stream - length xs)) xs others other) (sym rests) others_are') in
    (ap₂ (λ x xs. x ∷ xs) firsts same, ends)

pub one_session : OneSession
one_session stream ones others one other = commands_once 0 0 stream ones others one other

quits_or_not : (one : Command) → (one ≡ command.Quit) ⊎ (one ≢ command.Quit)
quits_or_not command.Quit = inl refl
quits_or_not other = inr (λ e. cc)

few_or_most : (taken : ℕ) → (taken < MOST_COMMANDS) ⊎ (MOST_COMMANDS ≤ taken)
few_or_most taken = cases_lt taken MOST_COMMANDS

-- the stream has commands and an end
abbrev HasSome : ℕ → ℕ → List ℕ → Type 0
HasSome taken offset stream = (commands : List Command) × (ending : Ending) × HasCommands taken offset stream commands ending

-- where bytes are left, a command is taken or not, and so on behind it
step_some : (taken offset : ℕ) (x : ℕ) (xs : List ℕ)
    → ((taken offset : ℕ) (rest : List ℕ) → length rest < length (x ∷ xs) → HasSome taken offset rest) → HasSome taken offset (x ∷ xs)
step_some taken offset x xs again = by (few_or_most taken) (first_in (x ∷ xs) some)
  where
    some : (x ∷ xs) ≢ []
    some e = cc

    next : taken < MOST_COMMANDS → (one : Command) (rest : List ℕ) → IsFirst (x ∷ xs) one rest
        → ((one ≡ command.Quit) ⊎ (one ≢ command.Quit)) → HasSome taken offset (x ∷ xs)
    next few one rest first (inl quits) = ([], Quit, quit taken offset (x ∷ xs) rest few (subst (λ c. IsFirst (x ∷ xs) c rest) quits first))
    next few one rest first (inr goes_on) =
        let (commands, ending, are) =
        again (taken + 1) (offset + (length (x ∷ xs) - length rest)) rest (rest_shorter (x ∷ xs) rest one first) in
        (one ∷ commands, ending, more taken offset (x ∷ xs) rest one commands ending few goes_on first are)

    by : (taken < MOST_COMMANDS) ⊎ (MOST_COMMANDS ≤ taken)
        → ((one : Command) × (rest : List ℕ) × IsFirst (x ∷ xs) one rest) ⊎ BeginsWithNone (x ∷ xs) → HasSome taken offset (x ∷ xs)
    by (inl few) (inl (one, rest, first)) = next few one rest first (quits_or_not one)
    by (inl few) (inr none) = ([], Malformed (taken + 1) offset, malformed taken offset (x ∷ xs) some few none)
    by (inr most) first = ([], Full, full taken offset (x ∷ xs) some most)

commands_some : (bytes taken offset : ℕ) (stream : List ℕ) → length stream ≤ bytes → HasSome taken offset stream
commands_some bytes taken offset [] within = ([], End, end taken offset)
commands_some zero taken offset (x ∷ xs) within = absurd (omega arith)
commands_some (suc bytes) taken offset (x ∷ xs) within =
    step_some taken offset x xs (λ taken' offset' rest shorter. commands_some bytes taken' offset' rest (omega arith))

pub some_session : SomeSession
some_session stream = commands_some (length stream) 0 0 stream (omega arith)
