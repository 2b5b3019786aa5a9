-- The words of a list of tokens are of the grammar's classes, and the end stands last.
use Rattle.std.proofs.Common.{◌≡◌, ◌≢◌, ℕ, ◌≤◌, Bool, true, false, cond, List, [], ◌∷◌, refl, sym, ap, ◌∙◌, subst}
use Rattle.std.specs.Prelude.{◌==◌, ◌&&◌, not, codes, Ok, Err}
use Rattle.std.specs.Str.{bytes_eq}
use Rattle.std.proofs.lemmas.Bool.{eq-eqb}
use Rattle.c_grammar.specs.declared.tokens.token.Token.{Token}
use Rattle.c_grammar.specs.declared.tokens.token.TokenKind.{TokenKind}
use Rattle.c_grammar.specs.declared.tokens.token.TokenKind.TheVariants as kind
use Rattle.c_grammar.specs.Tokens.Lexemes.{IsToken}
use Rattle.c_grammar.specs.Tokens.TokenLists.{IsTokenList}
use Rattle.c_grammar.specs.declared.class.Class.TheVariants as class
use Rattle.c_grammar.specs.Classes.{number_of, Entry, class_in, keys, signs}
use Rattle.c_grammar.specs.Words.{words_of, class_of, begins_cast, IsEnded}
use Rattle.c_grammar.proofs.Numbers.{numbered-number_of}
use Rattle.c_grammar.specs.Trees.{File}
use Rattle.c_grammar.specs.Nesting.{file_nesting}
use Rattle.c_grammar.specs.Spelling.{Spells}
use Rattle.c_grammar.specs.Refusals.{MOST_LEVELS, RefusedAt}
use Rattle.c_grammar.specs.Readers.{Halt, read_file, refusal_of}
use Rattle.c_grammar.proofs.Agreement.{AreProper}
use Rattle.c_grammar.proofs.Exact.{code_of}
use Rattle.c_grammar.proofs.Parsed.{ParseIs, parsed, spelled}

pub tokens_proper : (tokens : List Token) → AreProper (words_of tokens)
tokens_proper [] = tt
tokens_proper (token ∷ tokens) = (ap number_of (numbered-number_of (class_of token.kind token.text tokens)), tokens_proper tokens)

-- no entry is the end's
abbrev no_end : List Entry → Bool
no_end [] = true
no_end (entry ∷ entries) = not (number_of entry.is == 0) && no_end entries

some_class : (entries : List Entry) → no_end entries ≡ true → (text : List ℕ) → number_of (class_in entries class.OtherKey text) ≢ 0
some_class [] e text = λ zero. cc
some_class (entry ∷ entries) e text = by_test (bytes_eq entry.text text) (number_of entry.is == 0) refl e (λ f. some_class entries f text)
  where
    by_test : (b c : Bool) → (number_of entry.is == 0) ≡ c → (not c && no_end entries) ≡ true
        → (no_end entries ≡ true → number_of (class_in entries class.OtherKey text) ≢ 0)
        → number_of (cond b entry.is (class_in entries class.OtherKey text)) ≢ 0
    by_test b true same f others = absurd (cc)
    by_test true false same f others =
        λ zero. let t : (number_of entry.is == 0) ≡ true = eq-eqb (number_of entry.is) 0 zero in let z : true ≡ false = sym t ∙ same in cc
    by_test false false same f others = others f

no_end_class : (token : Token) (tokens : List Token) → IsToken token.kind token.text → number_of (class_of token.kind token.text tokens) ≢ 0
no_end_class token tokens is = by_kind token.kind is
  where
    by_sign : (b c : Bool) → number_of (cond b (cond c class.Cast class.Open) (class_in signs class.OtherKey token.text)) ≢ 0
    by_sign true true = λ zero. cc
    by_sign true false = λ zero. cc
    by_sign false c = some_class signs refl token.text

    by_kind : (k : TokenKind) → IsToken k token.text → number_of (class_of k token.text tokens) ≢ 0
    by_kind kind.Word t = λ zero. cc
    by_kind kind.Key t = some_class keys refl token.text
    by_kind kind.Number t = λ zero. cc
    by_kind kind.Sign t = by_sign (bytes_eq token.text (codes "(")) (begins_cast tokens)
    by_kind kind.End t = absurd t

pub tokens_ended : (tokens : List Token) → IsTokenList tokens → IsEnded (words_of tokens)
tokens_ended [] listed = absurd listed
tokens_ended (token ∷ []) listed = ap (λ k. number_of (class_of k token.text [])) listed.kind
tokens_ended (token ∷ next ∷ tokens) listed = (no_end_class token (next ∷ tokens) listed.0, tokens_ended (next ∷ tokens) listed.2)

-- The three facts that the parser's public clauses are: of a list of tokens, a file that was read spells its words and is
-- within the levels; where reading stops the words are refused, there and with that code; and reading does not stop
-- where some file within the levels spells the words.
pub file_spells : (tokens : List Token) → IsTokenList tokens → (file : File) → read_file MOST_LEVELS (words_of tokens) ≡ Ok file
    → Spells file (words_of tokens) × (file_nesting file ≤ MOST_LEVELS)
file_spells tokens listed file e =
    subst (λ r. ParseIs r (words_of tokens)) e (parsed (words_of tokens) (tokens_proper tokens) (tokens_ended tokens listed))

pub stop_is_refused : (tokens : List Token) → IsTokenList tokens → (halt : Halt) → read_file MOST_LEVELS (words_of tokens) ≡ Err halt
    → RefusedAt (words_of tokens) (refusal_of halt)
stop_is_refused tokens listed halt e =
    let (front, first, others, split, at, refusal) =
    subst (λ r. ParseIs r (words_of tokens)) e (parsed (words_of tokens) (tokens_proper tokens) (tokens_ended tokens listed)) in
    (front, first, code_of halt.deep, refusal, ap (λ w. refusal_of (record { deep = halt.deep; at = w })) at)

pub spelled_is_read : (tokens : List Token) → IsTokenList tokens → (file : File) → Spells file (words_of tokens)
    → file_nesting file ≤ MOST_LEVELS
    → (halt : Halt) → read_file MOST_LEVELS (words_of tokens) ≡ Err halt → ⊥
spelled_is_read tokens listed file spells fits halt e =
    let (read, is, same, within) = spelled (words_of tokens) (tokens_proper tokens) (tokens_ended tokens listed) file spells fits in
    let z : Ok read ≡ Err halt = sym is ∙ e in cc
