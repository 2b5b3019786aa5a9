-- The first word of a cursor, and its fields.
use Rattle.std.proofs.Common.{◌≡◌, ℕ, ◌+◌, ◌≤◌, Bool, true, false, length, arith, List, [], ◌∷◌, ◌++◌, slice_get, refl, sym, ap, ◌∙◌, subst}
use Rattle.std.proofs.Common.{append_assoc}
use Rattle.std.proofs.Common.{cond, suc, ◌≢◌, lit<}
use Rattle.std.specs.Prelude.{Some, None, ◌==◌, ◌&&◌, not, codes}
use Rattle.std.specs.Str.{bytes_eq}
use Rattle.std.specs.Str.Parse.{AllDigits, digits_value}
use Rattle.std.proofs.lemmas.Bool.{eqb-true}
use Rattle.std.proofs.lemmas.Fmt.{length-decimal-le, digits_decimal, digits_value-decimal}
use Rattle.c_grammar.proofs.TokensLemmas.Digits.{own}
use Rattle.c_grammar.specs.declared.tokens.token.TokenKind.{TokenKind}
use Rattle.c_grammar.specs.Classes.{Entry, class_in, keys, signs, number_of, numbered}
use Rattle.c_grammar.specs.declared.tokens.token.Token.{Token}
use Rattle.c_grammar.specs.declared.tokens.token.TokenKind.TheVariants as kind
use Rattle.c_grammar.specs.Tokens.TokenLists.{IsTokenList}
use Rattle.c_grammar.specs.Tokens.Lexemes.{IsToken}
use Rattle.c_grammar.specs.declared.class.Class.{Class}
use Rattle.c_grammar.specs.declared.class.Class.TheVariants as class
use Rattle.c_grammar.specs.Words.{Word, words_of, class_of, begins_cast}
use Rattle.c_grammar.specs.Readers.{class_at, text_at, behind, is_class, is_open}
use Rattle.c_grammar.proofs.Numbers.{numbered-number_of, same_class}
use Rattle.c_parse_exprs.specs.Cursors.{classes_of, HaveNumbers, weight}

pub first_seen : (tokens : List Token) (found : List Class) (c : Class) → found ≡ classes_of tokens → slice_get found 0 ≡ Some c
    → c ≡ class_at (words_of tokens)
first_seen [] found c is got = let e : None ≡ Some c = ap (λ f. slice_get f 0) (sym is) ∙ got in cc
first_seen (token ∷ tokens) found c is got =
    let e : Some (class_of token.kind token.text tokens) ≡ Some c = ap (λ f. slice_get f 0) (sym is) ∙ got in
    let same : class_of token.kind token.text tokens ≡ c = cc in
    sym same ∙ sym (numbered-number_of (class_of token.kind token.text tokens))

pub none_seen : (tokens : List Token) (found : List Class) → found ≡ classes_of tokens → slice_get found 0 ≡ None
    → class.OtherKey ≡ class_at (words_of tokens)
none_seen [] found is got = refl
none_seen (token ∷ tokens) found is got =
    let e : Some (class_of token.kind token.text tokens) ≡ None = ap (λ f. slice_get f 0) (sym is) ∙ got in cc

-- no entry is a number
abbrev no_number : List Entry → Bool
no_number [] = true
no_number (entry ∷ entries) = not (number_of entry.is == 2) && no_number entries

other_class : (entries : List Entry) → no_number entries ≡ true → (text : List ℕ) → class_in entries class.OtherKey text ≢ class.Number
other_class [] e text = λ same. cc
other_class (entry ∷ entries) e text = by_test (bytes_eq entry.text text) (number_of entry.is == 2) refl e (λ f. other_class entries f text)
  where
    by_test : (b c : Bool) → (number_of entry.is == 2) ≡ c → (not c && no_number entries) ≡ true
        → (no_number entries ≡ true → class_in entries class.OtherKey text ≢ class.Number)
        → cond b entry.is (class_in entries class.OtherKey text) ≢ class.Number
    by_test b true same f others = absurd (cc)
    by_test true false same f others =
        λ is. let t : (number_of entry.is == 2) ≡ true = ap (λ k. number_of k == 2) is in let z : true ≡ false = sym t ∙ same in cc
    by_test false false same f others = others f

number_token : (k : TokenKind) (text : List ℕ) (tokens : List Token) → IsToken k text → class_of k text tokens ≡ class.Number
    → IsToken kind.Number text
number_token kind.Number text tokens is same = is
number_token kind.Word text tokens is same = absurd (cc)
number_token kind.Key text tokens is same = absurd (other_class keys refl text same)
number_token kind.End text tokens is same = absurd is
number_token kind.Sign text tokens is same = absurd (by_sign (bytes_eq text (codes "(")) (begins_cast tokens) same)
  where
    by_sign : (b c : Bool) → cond b (cond c class.Cast class.Open) (class_in signs class.OtherKey text) ≢ class.Number
    by_sign true true = λ zero. cc
    by_sign true false = λ zero. cc
    by_sign false c = other_class signs refl text

end_token : (k : TokenKind) (text : List ℕ) → k ≡ kind.End → class_of k text [] ≢ class.Number
end_token k text is = subst (λ j. class_of j text [] ≢ class.Number) (sym is) (λ zero. cc)

pub numbers_listed : (tokens : List Token) → IsTokenList tokens → HaveNumbers tokens
numbers_listed [] listed = absurd listed
numbers_listed (token ∷ []) listed = ((λ number. absurd (end_token token.kind token.text listed.kind number)), tt)
numbers_listed (token ∷ next ∷ tokens) listed =
    ((λ number. number_token token.kind token.text (next ∷ tokens) listed.0 number), numbers_listed (next ∷ tokens) listed.2)

-- a number is at most ten digits, and fits an `int`
pub record IsFit (word : List ℕ) : Type 0 where
  pub short : length word ≤ 10
  pub digits : AllDigits 10 word
  pub fits : digits_value 10 word ≤ 2147483647

number_fits : (word : List ℕ) → IsToken kind.Number word → IsFit word
number_fits word is = subst IsFit (sym is.2) (record {
  short = length-decimal-le 10 is.0 (lit< tt) (omega (arith, is.1)) (omega (arith, is.1));
  digits = digits_decimal own is.0 (omega (arith, is.1));
  fits = rw (digits_value-decimal own is.0 (omega (arith, is.1))) is.1;
})

pub number_here : (tokens : List Token) → HaveNumbers tokens → is_class class.Number (class_at (words_of tokens)) ≡ true
    → IsFit (text_at (words_of tokens))
number_here [] have seen = absurd (cc)
number_here (token ∷ tokens) have seen =
    number_fits token.text
    (have.0 (sym
    (same_class class.Number (numbered (number_of (class_of token.kind token.text tokens))) (eqb-true _ _ seen)
    ∙ numbered-number_of (class_of token.kind token.text tokens))))

pub at_words : (tokens : List Token) (words : List Word) (text : List ℕ) → words_of tokens ≡ words → HaveNumbers tokens
    → is_class class.Number (class_at words) ≡ true → text ≡ text_at words → IsFit text
at_words tokens words text e have seen is =
    subst IsFit (sym (is ∙ ap text_at (sym e))) (number_here tokens have (ap (λ w. is_class class.Number (class_at w)) e ∙ seen))

-- the classes so far, and those of the tokens that are left
pub more_classes : (found all : List Class) (token : Token) (tokens : List Token)
    → found ++ classes_of (token ∷ tokens) ≡ all → (found ++ class_of token.kind token.text tokens ∷ []) ++ classes_of tokens ≡ all
more_classes found all token tokens e = append_assoc found _ _ ∙ e

-- a class that was seen is passed
pub eaten_falls : (kind : Class) (words : List Word) → is_class kind (class_at words) ≡ true
    → length (behind words) + weight kind ≤ length words
eaten_falls kind [] same = by_class kind same
  where
    by_class : (k : Class) → is_class k class.OtherKey ≡ true → length (behind []) + weight k ≤ length (let w : List Word = [] in w)
    by_class class.OtherKey s = omega arith
    by_class _ s = cc
eaten_falls kind (first ∷ others) same = let small = light kind in omega (arith, length_cons first others)
  where
    light : (k : Class) → weight k ≤ 1
    light class.OtherKey = omega arith
    light _ = omega arith

    length_cons : (x : Word) (xs : List Word) → length (x ∷ xs) ≡ length xs + 1
    length_cons x xs = omega arith

pub open_falls : (words : List Word) → is_open (class_at words) ≡ true → length (behind words) + 1 ≤ length words
open_falls [] same = cc
open_falls (first ∷ others) same = omega arith

pub length-words : (tokens : List Token) (words : List Word) → words_of tokens ≡ words → length tokens ≡ length words
length-words tokens words is = length-words_of tokens ∙ ap length is
  where
    length-words_of : (ts : List Token) → length ts ≡ length (words_of ts)
    length-words_of [] = refl
    length-words_of (t ∷ ts) = ap suc (length-words_of ts)
