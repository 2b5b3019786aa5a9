-- The laws of tokens.
use Rattle.std.proofs.Common.{◌≡◌, ℕ, zero, suc, ◌+◌, ◌<◌, ◌≤◌, Bool, true, false, List, [], ◌∷◌, ◌++◌, length, map, inl, inr, ◌⊎◌, refl}
use Rattle.std.proofs.Common.{sym, ap, ◌∙◌, subst, append_assoc, arith}
use Rattle.std.specs.Prelude.{◌==◌, if◌then◌else◌, codes}
use Rattle.std.specs.List.{AllByRecursion}
use Rattle.std.proofs.lemmas.List.{map-append}
use Rattle.c_grammar.specs.declared.tokens.places.Place.{Place}
use Rattle.c_grammar.specs.declared.tokens.places.Refusal.{Refusal}
use Rattle.c_grammar.specs.declared.tokens.token.Token.{Token}
use Rattle.c_grammar.specs.declared.tokens.token.TokenKind.{TokenKind}
use Rattle.c_grammar.specs.declared.tokens.token.TokenKind.TheVariants.{End}
use Rattle.c_grammar.specs.Tokens.Words.{is_long_sign}
use Rattle.c_grammar.specs.Tokens.Places.{after, place_after}
use Rattle.c_grammar.specs.Tokens.Gaps.{IsGap}
use Rattle.c_grammar.specs.Tokens.Lexemes.{IsToken}
use Rattle.c_grammar.specs.Tokens.Grammar.{token_at, Position, start, behind_piece, IsPiece, Reads, HasTokens, Refuses, IsTokenFault}
use Rattle.c_grammar.specs.Tokens.TokenLists.{StandsBefore, IsTokenList}
use Rattle.c_grammar.specs.Tokens.Reading.{Reading, Tokens, Refused, reading, IsFault}
use Rattle.c_grammar.specs.Tokens.Laws.{
  HaveOneReading,
  HaveOneRefusal,
  HaveNotBoth,
  HaveEither,
  AreListed,
  RestsAreListed,
  Spelling,
  spelling,
}
use Rattle.c_grammar.specs.Tokens.Laws.{end_spelling, spaced, WordsReadBack}
use Rattle.c_grammar.proofs.TokensLemmas.LexemeLemmas.{next_longest, gap_never, long_second}
use Rattle.c_grammar.proofs.TokensLemmas.TokenLemmas.{token_lexeme}
use Rattle.c_grammar.proofs.TokensLemmas.Texts.{include_hash, lexeme_some, Answers, reading_answers, tokens_read, refusal_read}
use Rattle.c_grammar.specs.declared.tokens.fault.ReadFault.{ReadFault}
use Rattle.c_grammar.specs.declared.tokens.fault.ReadFault.TheVariants as fault

-- ---- the tokenizer's answer

pub has_read : (text : List ℕ) (tokens : List Token) → reading text ≡ Tokens tokens → HasTokens text tokens
has_read text tokens e = subst (Answers text) e (reading_answers text)

pub refuses_read : (text : List ℕ) (why : Refusal) → reading text ≡ Refused why → Refuses text why
refuses_read text why e = subst (Answers text) e (reading_answers text)

pub fault_read : (text : List ℕ) (why : ReadFault) → IsFault why (reading text) → IsTokenFault text why
fault_read text (fault.Refused refusal) is = refuses_read text refusal is
fault_read text fault.OutOfMemory is = tt

-- ---- one answer

pub one_reading : HaveOneReading
one_reading text one other has also = same (sym (tokens_read text one has) ∙ tokens_read text other also)
  where
    same : Tokens one ≡ Tokens other → one ≡ other
    same e = cc

pub one_refusal : HaveOneRefusal
one_refusal text one other refuses also = same (sym (refusal_read text one refuses) ∙ refusal_read text other also)
  where
    same : Refused one ≡ Refused other → one ≡ other
    same e = cc

pub not_both : HaveNotBoth
not_both text tokens why has refuses =
    let both : Tokens tokens ≡ Refused why = sym (tokens_read text tokens has) ∙ refusal_read text why refuses in cc

pub either : HaveEither
either text = by (reading text) (reading_answers text)
  where
    by : (read : Reading) → Answers text read → ((tokens : List Token) × HasTokens text tokens) ⊎ ((why : Refusal) × Refuses text why)
    by (Tokens tokens) has = inl (tokens, has)
    by (Refused why) refuses = inr (why, refuses)

-- ---- the order of places

-- a place is no later than the token's, or is earlier
abbrev NotBefore : Place → Token → Type 0
NotBefore place token = (place.line < token.line) ⊎ ((place.line ≡ token.line) × (place.column ≤ token.column))

abbrev IsEarlier : Place → Place → Type 0
IsEarlier one other = (one.line < other.line) ⊎ ((one.line ≡ other.line) × (one.column < other.column))

after_later : (place : Place) (b : ℕ) → IsEarlier place (after place b)
after_later place b = by (b == 10)
  where
    by : (c : Bool)
        → IsEarlier place
        (if c then record { line = place.line + 1; column = 1 } else record { line = place.line; column = place.column + 1 })
    by true = inl (omega arith)
    by false = inr (refl, omega arith)

earlier_trans : (one two three : Place) → IsEarlier one two → IsEarlier two three → IsEarlier one three
earlier_trans one two three (inl a) (inl b) = inl (omega arith)
earlier_trans one two three (inl a) (inr (b, c)) = inl (omega arith)
earlier_trans one two three (inr (a, d)) (inl b) = inl (omega arith)
earlier_trans one two three (inr (a, d)) (inr (b, c)) = inr (omega arith, omega arith)

pub place_later : (bytes : List ℕ) (place : Place) → 0 < length bytes → IsEarlier place (place_after place bytes)
place_later [] place some = absurd (omega arith)
place_later (b ∷ []) place some = after_later place b
place_later (b ∷ c ∷ bytes) place some =
    earlier_trans place (after place b) (place_after (after place b) (c ∷ bytes)) (after_later place b)
    (place_later (c ∷ bytes) (after place b) (omega arith))

not_before : (one two : Place) (token : Token) → IsEarlier one two → NotBefore two token → NotBefore one token
not_before one two token (inl a) (inl b) = inl (omega arith)
not_before one two token (inl a) (inr (b, c)) = inl (omega arith)
not_before one two token (inr (a, d)) (inl b) = inl (omega arith)
not_before one two token (inr (a, d)) (inr (b, c)) = inr (omega arith, omega arith)

stands_before : (kind : TokenKind) (word : List ℕ) (one two : Place) (token : Token) → IsEarlier one two → NotBefore two token
    → StandsBefore (token_at kind word one) token
stands_before kind word one two token (inl a) (inl b) = inl (omega arith)
stands_before kind word one two token (inl a) (inr (b, c)) = inl (omega arith)
stands_before kind word one two token (inr (a, d)) (inl b) = inl (omega arith)
stands_before kind word one two token (inr (a, d)) (inr (b, c)) = inr (omega arith, omega arith)

-- tokens in order, none of them before the place
abbrev Listed : Place → List Token → Type 0
Listed place [] = ⊥
Listed place (token ∷ tokens) = IsTokenList (token ∷ tokens) × NotBefore place token

listed_later : (one two : Place) (tokens : List Token) → IsEarlier one two → Listed two tokens → Listed one tokens
listed_later one two [] earlier listed = absurd listed
listed_later one two (token ∷ tokens) earlier listed = (listed.0, not_before one two token earlier listed.1)

listed_token : (kind : TokenKind) (word : List ℕ) (place : Place) (tokens : List Token) → IsToken kind word
    → Listed (place_after place word) tokens → Listed place (token_at kind word place ∷ tokens)
listed_token kind word place [] is listed = absurd listed
listed_token kind word place (token ∷ tokens) is listed = (
  (
    is,
    stands_before kind word place (place_after place word) token
        (place_later word place (lexeme_some word (token_lexeme kind word is))) listed.1,
    listed.0,
  ),
  inr (refl, omega arith),
)

-- a piece has a byte at least
piece_some : (at : Position) (piece behind : List ℕ) (found : List Token) (fresh : Bool) → IsPiece at piece behind found fresh
    → 0 < length piece
piece_some at piece behind _ _ (IsPiece.line_feed is) = let one = ap length is in omega arith
piece_some at piece behind _ _ (IsPiece.gap (IsGap.space b space is)) = let one = ap length is in omega arith
piece_some at piece behind _ _ (IsPiece.gap (IsGap.comment is)) = let two = ap length is.is in omega arith
piece_some at piece behind _ _ (IsPiece.line_comment is) = let two = ap length is.is in omega arith
piece_some at piece behind _ _ (IsPiece.include fresh is) =
    let (rest, same) = include_hash piece behind is in let one = ap length same in omega arith
piece_some at piece behind _ _ (IsPiece.token kind is longest) = lexeme_some piece (token_lexeme kind piece is)

listed_piece : (at : Position) (piece behind : List ℕ) (found : List Token) (fresh : Bool) (tokens : List Token)
    → IsPiece at piece behind found fresh → Listed (place_after at.place piece) tokens → Listed at.place (found ++ tokens)
listed_piece at piece behind _ _ tokens (IsPiece.line_feed is) listed =
    listed_later at.place (place_after at.place piece) tokens
    (place_later piece at.place (piece_some at piece behind _ _ (IsPiece.line_feed is))) listed
listed_piece at piece behind _ _ tokens (IsPiece.gap is) listed =
    listed_later at.place (place_after at.place piece) tokens
    (place_later piece at.place (piece_some at piece behind _ _ (IsPiece.gap is))) listed
listed_piece at piece behind _ _ tokens (IsPiece.line_comment is) listed =
    listed_later at.place (place_after at.place piece) tokens
    (place_later piece at.place (piece_some at piece behind _ _ (IsPiece.line_comment is))) listed
listed_piece at piece behind _ _ tokens (IsPiece.include fresh is) listed =
    listed_later at.place (place_after at.place piece) tokens
    (place_later piece at.place (piece_some at piece behind _ _ (IsPiece.include fresh is))) listed
listed_piece at piece behind _ _ tokens (IsPiece.token kind is longest) listed = listed_token kind piece at.place tokens is listed

listed_reads : (at to : Position) (bytes rest : List ℕ) (found : List Token) → Reads at bytes found to rest
    → Listed at.place (found ++ token_at End (codes "#") to.place ∷ [])
listed_reads at _ bytes _ _ (Reads.none _ _) = (record { kind = refl; text = refl }, inr (refl, omega arith))
listed_reads at to _ rest _ (Reads.piece _ _ piece behind _ found tokens fresh is reads) =
    subst (Listed at.place) (sym (append_assoc found tokens (token_at End (codes "#") to.place ∷ [])))
    (listed_piece at piece behind found fresh _ is (listed_reads (behind_piece at piece fresh) to behind rest tokens reads))

listed_all : (place : Place) (tokens : List Token) → Listed place tokens → IsTokenList tokens
listed_all place [] listed = absurd listed
listed_all place (token ∷ tokens) listed = listed.0

pub listed : AreListed
listed text tokens has =
    subst IsTokenList (sym has.is) (listed_all _ _ (listed_reads start has.end text [] has.found has.reads))

pub rests_listed : RestsAreListed
rests_listed [] n listed within = absurd listed
rests_listed (token ∷ tokens) zero listed within = listed
rests_listed (token ∷ []) (suc n) listed within = absurd (omega arith)
rests_listed (token ∷ next ∷ tokens) (suc n) listed within = rests_listed (next ∷ tokens) n listed.2 (omega arith)

-- ---- words that are written and read

pub words_read : (words : List Spelling) → AllByRecursion (λ (word : Spelling). IsToken word.kind word.text) words → (at : Position)
    → (found : List Token) × (end : Position) × Reads at (spaced words) found end [] × (map spelling found ≡ words)
words_read [] are at = ([], at, Reads.none at [], refl)
words_read (word ∷ words) are at =
    let lexeme = token_lexeme word.kind word.text are.0 in
    let longest = next_longest word.text 32 (spaced words) lexeme (gap_never word.text 32 (lexeme_some word.text lexeme) refl no_space) in
    let behind = behind_piece at word.text false in
    let (found, end, reads, same) = words_read words are.1 (behind_piece behind (32 ∷ []) false) in (
      token_at word.kind word.text at.place ∷ found,
      end,
      Reads.piece at end word.text (32 ∷ spaced words) [] (token_at word.kind word.text at.place ∷ []) found false
          (IsPiece.token word.kind are.0 longest)
          (Reads.piece behind end (32 ∷ []) (spaced words) [] [] found false (IsPiece.gap (IsGap.space 32 refl refl)) reads),
      ap (λ l. word ∷ l) same,
    )
  where
    no_space : (a : ℕ) → is_long_sign (a ∷ 32 ∷ []) ≡ false
    no_space a = by (is_long_sign (a ∷ 32 ∷ [])) refl
      where
        by : (c : Bool) → is_long_sign (a ∷ 32 ∷ []) ≡ c → is_long_sign (a ∷ 32 ∷ []) ≡ false
        by true e = let never : true ≡ false = (long_second a 32 e).0 in absurd cc
        by false e = e

pub words_read_back : WordsReadBack
words_read_back words are =
    let (found, end, reads, same) = words_read words are start in (
      found ++ token_at End (codes "#") end.place ∷ [],
      record { found = found; end = end; reads = reads; is = refl },
      map-append spelling found (token_at End (codes "#") end.place ∷ []) ∙ ap (λ l. l ++ end_spelling ∷ []) same,
    )
