-- What is known of the words of a text, and that it is so.
use Rattle.std.proofs.Common.{◌≡◌, ◌≢◌, ℕ, ◌+◌, ◌<◌, Bool, true, false, cond, List, [], ◌∷◌, length, sym, ap, ◌∙◌, refl, arith}
use Rattle.std.specs.Prelude.{◌==◌, ◌&&◌, not, codes}
use Rattle.std.specs.List.{AllByRecursion}
use Rattle.std.specs.Str.{bytes_eq}
use Rattle.std.specs.Str.Parse.{digits_value}
use Rattle.std.proofs.lemmas.Bool.{eq-eqb}
use Rattle.std.proofs.lemmas.Fmt.{decimal_is_IsNumeral}
use Rattle.shape_data.specs.Names.{IsCName}
use Rattle.shape_data.specs.WellFormed.{IsCountable}
use Rattle.c_grammar.specs.declared.tokens.token.Token.{Token}
use Rattle.c_grammar.specs.declared.tokens.token.TokenKind.{TokenKind}
use Rattle.c_grammar.specs.declared.tokens.token.TokenKind.TheVariants as kind
use Rattle.c_grammar.specs.Tokens.Grammar.{HasTokens}
use Rattle.c_grammar.specs.Tokens.Lexemes.{IsToken}
use Rattle.c_grammar.specs.Tokens.TokenLists.{IsTokenList}
use Rattle.c_grammar.proofs.TokensLemmas.TextLaws.{listed}
use Rattle.c_grammar.specs.declared.class.Class.TheVariants as class
use Rattle.c_grammar.specs.Classes
use Rattle.c_grammar.specs.Classes.{number_of, Entry, class_in, keys, signs}
use Rattle.c_grammar.specs.Words.{Word, words_of, class_of, begins_cast}
use Rattle.c_lower_rules.specs.Texts.{IsLine}
use Rattle.c_lower_rules.specs.Numbers.{IsIntNumber}
use Rattle.c_lower_rules.proofs.GoodTokens.{EndsBy, tokens_within}

-- a name is a C name, and a number is a value of an int
pub record IsFitText (class : ℕ) (text : List ℕ) : Type 0 where
  pub name : class ≡ Classes.NAME → IsCName text
  pub number : class ≡ Classes.NUMBER → IsIntNumber (digits_value 10 text)

-- a word's text is so, and its line is a 32-bit number
pub record IsGood (w : Word) : Type 0 where
  pub text_is : IsFitText w.class w.text
  pub line : IsLine w.place

-- each word is so, and they can be counted
pub record AreGood (words : List Word) : Type 0 where
  pub each : AllByRecursion IsGood words
  pub countable : IsCountable words

-- no entry is of the class, nor are other reserved words
abbrev lacks : ℕ → List Entry → Bool
lacks wanted [] = not (number_of class.OtherKey == wanted)
lacks wanted (entry ∷ entries) = not (number_of entry.is == wanted) && lacks wanted entries

differs : (one other : ℕ) → not (one == other) ≡ true → one ≢ other
differs one other e same = let t : (one == other) ≡ true = eq-eqb one other same in let never : false ≡ true = ap not (sym t) ∙ e in cc

other_class : (wanted : ℕ) (entries : List Entry) → lacks wanted entries ≡ true → (text : List ℕ)
    → number_of (class_in entries class.OtherKey text) ≢ wanted
other_class wanted [] e text = differs (number_of class.OtherKey) wanted e
other_class wanted (entry ∷ entries) e text =
    by_test (bytes_eq entry.text text) (number_of entry.is == wanted) refl e (λ f. other_class wanted entries f text)
  where
    by_test : (b c : Bool) → (number_of entry.is == wanted) ≡ c → (not c && lacks wanted entries) ≡ true
        → (lacks wanted entries ≡ true → number_of (class_in entries class.OtherKey text) ≢ wanted)
        → number_of (cond b entry.is (class_in entries class.OtherKey text)) ≢ wanted
    by_test b true same f others = absurd (cc)
    by_test true false same f others = differs (number_of entry.is) wanted (ap not same)
    by_test false false same f others = others f

-- a sign is of neither class
other_sign : (wanted : ℕ) → lacks wanted signs ≡ true → Classes.CAST ≢ wanted → Classes.OPEN ≢ wanted
    → (text : List ℕ) (tokens : List Token)
    → number_of (class_of kind.Sign text tokens) ≢ wanted
other_sign wanted e cast paren text tokens = by (bytes_eq text (codes "(")) (begins_cast tokens)
  where
    by : (b c : Bool) → number_of (cond b (cond c class.Cast class.Open) (class_in signs class.OtherKey text)) ≢ wanted
    by true true = cast
    by true false = paren
    by false c = other_class wanted signs e text

-- what is neither a name nor a number
neither : (class : ℕ) (text : List ℕ) → class ≢ Classes.NAME → class ≢ Classes.NUMBER → IsFitText class text
neither class text a b = record { name = λ e. absurd (a e); number = λ e. absurd (b e) }

fit_token : (k : TokenKind) (text : List ℕ) (tokens : List Token) → IsToken k text → IsFitText (number_of (class_of k text tokens)) text
fit_token kind.Word text tokens is = record { name = λ e. is.0; number = λ e. absurd (differs Classes.NAME Classes.NUMBER refl e) }
fit_token kind.Key text tokens is =
    neither (number_of (class_in keys class.OtherKey text)) text (other_class Classes.NAME keys refl text)
    (other_class Classes.NUMBER keys refl text)
fit_token kind.Number text tokens (n, small, is) =
    let value : digits_value 10 text ≡ n = ap (digits_value 10) is ∙ (decimal_is_IsNumeral n (omega arith)).1 in
    record { name = λ e. absurd (differs Classes.NUMBER Classes.NAME refl e); number = λ e. omega arith }
fit_token kind.Sign text tokens is =
    neither (number_of (class_of kind.Sign text tokens)) text
    (other_sign Classes.NAME refl (differs Classes.CAST Classes.NAME refl) (differs Classes.OPEN Classes.NAME refl) text tokens)
    (other_sign Classes.NUMBER refl (differs Classes.CAST Classes.NUMBER refl) (differs Classes.OPEN Classes.NUMBER refl) text tokens)
fit_token kind.End text tokens is = absurd is

-- the end is neither a name nor a number
fit_end : (k : TokenKind) (text : List ℕ) → k ≡ kind.End → IsFitText (number_of (class_of k text [])) text
fit_end k text is =
    let end : number_of (class_of k text []) ≡ Classes.END = ap (λ (j : TokenKind). number_of (class_of j text [])) is in
    neither (number_of (class_of k text [])) text
    (λ e. differs Classes.END Classes.NAME refl (sym end ∙ e)) (λ e. differs Classes.END Classes.NUMBER refl (sym end ∙ e))

each_good : (last : ℕ) (tokens : List Token) → IsTokenList tokens → AllByRecursion (EndsBy last) tokens → last < 4294967296
    → AllByRecursion IsGood (words_of tokens)
each_good last [] is lines fit = absurd is
each_good last (token ∷ []) is lines fit = (record { text_is = fit_end token.kind token.text is.kind; line = omega (arith, lines.0) }, tt)
each_good last (token ∷ next ∷ tokens) is lines fit = (
  record { text_is = fit_token token.kind token.text (next ∷ tokens) is.0; line = omega (arith, lines.0) },
  each_good last
      (next ∷ tokens) is.2 lines.1 fit,
)

as_many : (tokens : List Token) → length (words_of tokens) ≡ length tokens
as_many [] = refl
as_many (token ∷ tokens) = let same : length (words_of tokens) ≡ length tokens = as_many tokens in omega arith

-- the words of a text are good
pub words_good : (text : List ℕ) (tokens : List Token) → length text < 4294967295 → HasTokens text tokens → AreGood (words_of tokens)
words_good text tokens short has =
    let within = tokens_within text tokens has in
    record {
      each = each_good (length text + 1) tokens (listed text tokens has) within.lines (omega arith);
      countable = omega (arith, as_many tokens, within.few);
    }
