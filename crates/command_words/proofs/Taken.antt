-- What `clap` answers for the command, in the definition's words.
use Rattle.std.proofs.Common.{◌≡◌, ◌∙◌, ℕ, ◌+◌, ◌*◌, ◌≤◌, Bool, true, false, cond, List, [], ◌∷◌, Option, Some, None, refl, sym, ap, ap₂}
use Rattle.std.proofs.Common.{subst, codes, arith}
use Rattle.std.specs.Prelude.{IfSome, nat_le}
use Rattle.std.specs.Option.{option_map}
use Rattle.std.specs.Str.{bytes_eq}
use Rattle.clap.specs.Words.{IsAmong, Kinds, Row, Text, fault_of, first_of, first_value, found_of, is_simple, is_simple_and_free}
use Rattle.clap.specs.Words.{matches_of, rows_of}
use Rattle.clap.specs.declared.error.kind.ErrorKind.{ErrorKind}
use Rattle.clap.specs.declared.parser.matches.ArgMatches.{ArgMatches}
use Rattle.clap.proofs.OnLiterals.{clap_on_literals}
use Rattle.clap.proofs.WalkLemmas.{first_value-rows}
use Rattle.command_words.specs.declared.Asked.{Asked}
use Rattle.command_words.specs.Words.{Options, app, digit_of, number_in, number_or, one_digit, options_in, options_of, options_taken}
use Rattle.command_words.specs.Words.{two_digits, up_to_most, words_asked}

pub app_is_simple : is_simple app ≡ true
unfolding clap_on_literals
app_is_simple = refl

pub app_is_free : is_simple_and_free app ≡ true
unfolding clap_on_literals
app_is_free = refl

-- the command takes the words
taken_by : (kinds : Kinds) (rows : List Row) → kinds ≡ []
    → options_taken kinds rows ≡ options_in (first_of (codes "what") rows) (first_of (codes "workers") rows) (first_of (codes "store") rows)
taken_by [] rows none = refl
taken_by (kind ∷ kinds) rows none = cc

pub asked_is : (matches : ArgMatches) (words : List Text) → fault_of app words ≡ [] → rows_of (found_of matches) ≡ matches_of app words →
    options_in (first_value (found_of matches) (codes "what")) (first_value (found_of matches) (codes "workers"))
    (first_value (found_of matches) (codes "store"))
    ≡ words_asked words
unfolding words_asked
asked_is matches words none rows =
    ap₂ (λ what workers. options_in what workers (first_value (found_of matches) (codes "store")))
    (first_value-rows (found_of matches) (codes "what")) (first_value-rows (found_of matches) (codes "workers"))
    ∙ ap (λ store. options_in (first_of (codes "what") (rows_of (found_of matches)))
    (first_of (codes "workers") (rows_of (found_of matches))) store)
    (first_value-rows (found_of matches) (codes "store"))
    ∙ ap (λ those. options_in (first_of (codes "what") those) (first_of (codes "workers") those) (first_of (codes "store") those)) rows
    ∙ sym (taken_by (fault_of app words) (matches_of app words) none)

-- it refuses them
refused_by : (kinds : Kinds) (rows : List Row) (kind : ErrorKind) → IsAmong kind kinds → options_taken kinds rows ≡ None
refused_by [] rows kind among = absurd among
refused_by (first ∷ kinds) rows kind among = refl

pub refused_is : (words : List Text) (kind : ErrorKind) → IsAmong kind (fault_of app words) → None ≡ words_asked words
unfolding words_asked
refused_is words kind among = sym (refused_by (fault_of app words) (matches_of app words) kind among)

-- ---- at most 64

up_to : (number : ℕ) → IfSome (up_to_most number) (λ n. n ≤ 64)
up_to number = by_test (nat_le number 64) refl
  where
    by_test : (b : Bool) → nat_le number 64 ≡ b → IfSome (cond b (Some number) None) (λ n. n ≤ 64)
    by_test true is = grind arith
    by_test false is = tt

one_few : (digit : Option ℕ) → IfSome (one_digit digit) (λ n. n ≤ 64)
one_few None = tt
one_few (Some one) = up_to one

two_few : (ten one : Option ℕ) → IfSome (two_digits ten one) (λ n. n ≤ 64)
two_few None one = tt
two_few (Some ten) None = tt
two_few (Some ten) (Some one) = up_to (10 * ten + one)

number_few : (text : Text) → IfSome (number_in text) (λ n. n ≤ 64)
number_few [] = tt
number_few (one ∷ []) = one_few (digit_of one)
number_few (ten ∷ one ∷ []) = two_few (digit_of ten) (digit_of one)
number_few (ten ∷ one ∷ other ∷ others) = tt

or_few : (text : Option Text) → IfSome (number_or text) (λ n. n ≤ 64)
or_few None = let few : 4 ≤ 64 = omega arith in few
or_few (Some text) = number_few text

with_store : (number : Option ℕ) (store : Option Text) → IfSome number (λ n. n ≤ 64)
    → IfSome (option_map (λ (n : ℕ). let those : Options = record { workers = n; store = store } in those) number)
    (λ those. those.workers ≤ 64)
with_store None store few = tt
with_store (Some number) store few = few

few_in : (what workers store : Option Text) → IfSome (options_in what workers store) (λ those. those.workers ≤ 64)
few_in None workers store = tt
few_in (Some what) workers store = by_test (bytes_eq what (codes "session"))
  where
    by_test : (b : Bool)
        → IfSome (cond b
        (option_map (λ (n : ℕ). let those : Options = record { workers = n; store = store } in those) (number_or workers)) None)
        (λ those. those.workers ≤ 64)
    by_test true = with_store (number_or workers) store (or_few workers)
    by_test false = tt

of_value : (asked : Option Asked) → IfSome (option_map options_of asked) (λ those. those.workers ≤ 64)
    → IfSome asked (λ those. those.workers ≤ 64)
of_value None few = tt
of_value (Some asked) few = few

pub few_asked : (asked : Option Asked) (what workers store : Option Text) → option_map options_of asked ≡ options_in what workers store
    → IfSome asked (λ those. those.workers ≤ 64)
few_asked asked what workers store is =
    of_value asked (subst (λ options. IfSome options (λ those. those.workers ≤ 64)) (sym is) (few_in what workers store))
