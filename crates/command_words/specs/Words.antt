-- Which words the program takes, and what they ask for.
use Rattle.std.specs.Prelude.{ℕ, ◌+◌, ◌-◌, ◌*◌, ◌&&◌, true, List, [], ◌∷◌, Option, Some, None, codes, nat_le, if◌then◌else◌}
use Rattle.std.specs.Option.{option_map}
use Rattle.std.specs.Str.{bytes_eq}
use Rattle.clap.specs.Words.{App, Kinds, Row, Rule, Text, fault_of, first_of, matches_of, new_app, new_rule, with_rule}
use Rattle.clap.specs.Simple.{on_top}
use Rattle.clap.specs.declared.builder.action.ArgAction.TheVariants.{Set}
use Rattle.command_words.specs.declared.Asked.{Asked}

-- what the words ask for: how many workers, and the path of the store where one is named
pub record Options : Type 0 where
  pub workers : ℕ
  pub store : Option Text

-- an answer of the program, by value
abbrev pub options_of : Asked → Options
options_of asked = record { workers = asked.workers; store = option_map (λ path. path.now) asked.store }

-- the positional, which is required
abbrev pub what_rule : Rule
what_rule = record (new_rule (codes "what")) { required = true; action = Some Set }

-- an option with one value
abbrev pub option_rule : Text → Rule
option_rule name = record (new_rule name) { long = Some name; action = Some Set }

-- the command that the words are read with
abbrev pub app : App
app =
    with_rule (with_rule (with_rule (on_top (λ shape. record shape { no_binary_name = true }) (new_app (codes "heapan"))) what_rule)
    (option_rule (codes "workers"))) (option_rule (codes "store"))

abbrev pub digit_of : ℕ → Option ℕ
digit_of byte = if nat_le 48 byte && nat_le byte 57 then Some (byte - 48) else None

-- a number that is small enough
abbrev pub up_to_most : ℕ → Option ℕ
up_to_most number = if nat_le number 64 then Some number else None

abbrev pub one_digit : Option ℕ → Option ℕ
one_digit None = None
one_digit (Some one) = up_to_most one

abbrev pub two_digits : Option ℕ → Option ℕ → Option ℕ
two_digits None one = None
two_digits (Some ten) None = None
two_digits (Some ten) (Some one) = up_to_most (10 * ten + one)

-- the number that the text is: one or two digits, at most 64
abbrev pub number_in : Text → Option ℕ
number_in [] = None
number_in (one ∷ []) = one_digit (digit_of one)
number_in (ten ∷ one ∷ []) = two_digits (digit_of ten) (digit_of one)
number_in (ten ∷ one ∷ other ∷ others) = None

-- four where no number is given
abbrev pub number_or : Option Text → Option ℕ
number_or None = Some 4
number_or (Some text) = number_in text

-- what the values ask for: that of the positional, of `--workers` and of `--store`; any text is a path
abbrev pub options_in : Option Text → Option Text → Option Text → Option Options
options_in None workers store = None
options_in (Some what) workers store =
    if bytes_eq what (codes "session") then option_map (λ number. record { workers = number; store = store }) (number_or workers) else None

-- the command takes the words, or refuses them for such a cause
abbrev pub options_taken : Kinds → List Row → Option Options
options_taken [] rows = options_in (first_of (codes "what") rows) (first_of (codes "workers") rows) (first_of (codes "store") rows)
options_taken (kind ∷ kinds) rows = None

-- what the words ask for; none where they are not of the form that the program takes
unfoldable pub words_asked : List Text → Option Options
words_asked words = options_taken (fault_of app words) (matches_of app words)
