-- A blank or a comment right behind a token changes nothing but places.
use Rattle.std.proofs.Common.{◌≡◌, ℕ, suc, Bool, true, false, List, [], ◌∷◌, ◌++◌, length, map, inl, inr, ◌⊎◌, refl, sym, ap, ◌∙◌, subst}
use Rattle.std.proofs.Common.{append_assoc, arith}
use Rattle.std.specs.Prelude.{◌==◌, ◌||◌, codes}
use Rattle.std.proofs.lemmas.Bool.Decides.{nat_tests}
use Rattle.std.proofs.lemmas.List.{append_cancel_right, map-append}
use Rattle.shape_data.specs.Names.{is_name_byte}
use Rattle.c_grammar.specs.declared.tokens.token.Token.{Token}
use Rattle.c_grammar.specs.declared.tokens.token.TokenKind.{TokenKind}
use Rattle.c_grammar.specs.declared.tokens.token.TokenKind.TheVariants.{End}
use Rattle.c_grammar.specs.Tokens.Words.{is_long_sign}
use Rattle.c_grammar.specs.Tokens.Gaps.{is_space, is_blank, IsGap, IsLineComment, IsLineEnd, EndsInBackslash}
use Rattle.c_grammar.specs.Tokens.Lexemes.{IsLexeme, IsLongest}
use Rattle.c_grammar.specs.Tokens.Grammar.{token_at, Position, start, behind_piece, IsInclude, IsPiece, Reads}
use Rattle.c_grammar.specs.Tokens.Reading.{Reading, Tokens, Refused}
use Rattle.c_grammar.specs.Tokens.Steps.{with_tokens}
use Rattle.c_grammar.specs.Tokens.Laws.{spelling, KeepTokens}
use Rattle.c_grammar.proofs.TokensLemmas.Fronts.{heads}
use Rattle.c_grammar.proofs.TokensLemmas.LexemeLemmas.{next_longest, longest_never, gap_never, long_second}
use Rattle.c_grammar.proofs.TokensLemmas.TokenLemmas.{token_lexeme}
use Rattle.c_grammar.proofs.TokensLemmas.Texts.{read_at, has_start, lexeme_some, reads_read, Told, told, tokens_read}
use Rattle.c_grammar.proofs.TokensLemmas.Readings.{with_tokens-refused, with_tokens-all}

-- ---- what stands behind a piece counts by its first byte

-- the texts begin with one byte
pub record StartAlike (one other : List ℕ) : Type 0 where
  pub byte : ℕ
  pub rest : List ℕ
  pub more : List ℕ
  pub is : one ≡ byte ∷ rest
  pub also : other ≡ byte ∷ more

line_end_alike : (one other : List ℕ) → StartAlike one other → IsLineEnd one → IsLineEnd other
line_end_alike one other alike (inl none) = let never : [] ≡ alike.byte ∷ alike.rest = sym none ∙ alike.is in absurd cc
line_end_alike one other alike (inr (rest, same)) = inr (alike.more, alike.also ∙ ap (λ b. b ∷ alike.more) (heads (sym alike.is ∙ same)))

line_comment_alike : (comment one other : List ℕ) → StartAlike one other → IsLineComment comment one → IsLineComment comment other
line_comment_alike comment one other alike is = record { body = is.body; is = is.is; spliced = is.spliced; ends = by is.ends }
  where
    by : (one ≡ []) ⊎ ((rest : List ℕ) × (one ≡ 10 ∷ rest) × ¬ EndsInBackslash is.body)
        → (other ≡ []) ⊎ ((rest : List ℕ) × (other ≡ 10 ∷ rest) × ¬ EndsInBackslash is.body)
    by (inl none) = let never : [] ≡ alike.byte ∷ alike.rest = sym none ∙ alike.is in absurd cc
    by (inr (rest, same, free)) = inr (alike.more, alike.also ∙ ap (λ b. b ∷ alike.more) (heads (sym alike.is ∙ same)), free)

include_alike : (line one other : List ℕ) → StartAlike one other → IsInclude line one → IsInclude line other
include_alike line one other alike (IsInclude.bare is ends) = IsInclude.bare is (line_end_alike one other alike ends)
include_alike line one other alike (IsInclude.commented front comment is comment_is same) =
    IsInclude.commented front comment is (line_comment_alike comment one other alike comment_is) same

longest_alike : (word one other : List ℕ) → StartAlike one other → IsLexeme word → IsLongest word one → IsLongest word other
longest_alike word one other alike is longest =
    subst (IsLongest word) (sym alike.also)
    (next_longest word alike.byte alike.more is (longest_never word alike.byte alike.rest (subst (IsLongest word) alike.is longest)))

piece_alike : (at : Position) (piece one other : List ℕ) (found : List Token) (fresh : Bool) → StartAlike one other
    → IsPiece at piece one found fresh → IsPiece at piece other found fresh
piece_alike at piece one other _ _ alike (IsPiece.line_feed is) = IsPiece.line_feed is
piece_alike at piece one other _ _ alike (IsPiece.gap is) = IsPiece.gap is
piece_alike at piece one other _ _ alike (IsPiece.line_comment is) = IsPiece.line_comment (line_comment_alike piece one other alike is)
piece_alike at piece one other _ _ alike (IsPiece.include fresh is) = IsPiece.include fresh (include_alike piece one other alike is)
piece_alike at piece one other _ _ alike (IsPiece.token kind is longest) =
    IsPiece.token kind is (longest_alike piece one other alike (token_lexeme kind piece is) longest)

start_append : (front one other : List ℕ) → StartAlike one other → StartAlike (front ++ one) (front ++ other)
start_append [] one other alike = alike
start_append (b ∷ front) one other alike = record { byte = b; rest = front ++ one; more = front ++ other; is = refl; also = refl }

-- the front that is read, and that it is read so before each rest that begins alike
pub record HasFront (at to : Position) (bytes rest : List ℕ) (found : List Token) : Type 0 where
  pub front : List ℕ
  pub is : bytes ≡ front ++ rest
  pub alike : (other : List ℕ) → StartAlike rest other → Reads at (front ++ other) found to other

has_front : (at to : Position) (bytes rest : List ℕ) (found : List Token) → Reads at bytes found to rest → HasFront at to bytes rest found
has_front at _ bytes _ _ (Reads.none _ _) = record { front = []; is = refl; alike = λ other alike. Reads.none at other }
has_front at to _ rest _ (Reads.piece _ _ piece behind _ found tokens fresh is reads) =
    let more = has_front (behind_piece at piece fresh) to behind rest tokens reads in
    record {
      front = piece ++ more.front;
      is = ap (λ l. piece ++ l) more.is ∙ sym (append_assoc piece more.front rest);
      alike = λ other alike.
          subst (λ l. Reads at l (found ++ tokens) to other) (sym (append_assoc piece more.front other))
          (Reads.piece at to piece (more.front ++ other) other found tokens fresh
          (piece_alike at piece behind (more.front ++ other) found fresh
          (subst (λ l. StartAlike l (more.front ++ other)) (sym more.is) (start_append more.front rest other alike)) is)
          (more.alike other alike));
    }

-- ---- the same pieces elsewhere

-- a line that is fresh at the one position is fresh at the other
abbrev AsFresh : Position → Position → Type 0
AsFresh at other = at.fresh ≡ true → other.fresh ≡ true

pub record Moved (at other : Position) (piece behind : List ℕ) (found : List Token) (fresh : Bool) : Type 0 where
  pub tokens : List Token
  pub after : Bool
  pub is : IsPiece other piece behind tokens after
  pub same : map spelling tokens ≡ map spelling found
  pub as_fresh : fresh ≡ true → after ≡ true

piece_moved : (at other : Position) (piece behind : List ℕ) (found : List Token) (fresh : Bool) → AsFresh at other
    → IsPiece at piece behind found fresh → Moved at other piece behind found fresh
piece_moved at other piece behind _ _ as_fresh (IsPiece.line_feed is) =
    record { tokens = []; after = true; is = IsPiece.line_feed is; same = refl; as_fresh = λ e. e }
piece_moved at other piece behind _ _ as_fresh (IsPiece.gap is) =
    record { tokens = []; after = other.fresh; is = IsPiece.gap is; same = refl; as_fresh = as_fresh }
piece_moved at other piece behind _ _ as_fresh (IsPiece.line_comment is) =
    record { tokens = []; after = other.fresh; is = IsPiece.line_comment is; same = refl; as_fresh = as_fresh }
piece_moved at other piece behind _ _ as_fresh (IsPiece.include fresh is) =
    record { tokens = []; after = false; is = IsPiece.include (as_fresh fresh) is; same = refl; as_fresh = λ e. e }
piece_moved at other piece behind _ _ as_fresh (IsPiece.token kind is longest) =
    record {
      tokens = token_at kind piece other.place ∷ [];
      after = false;
      is = IsPiece.token kind is longest;
      same = refl;
      as_fresh = λ e. e;
    }

pub record ReadsMoved (other : Position) (bytes rest : List ℕ) (found : List Token) : Type 0 where
  pub tokens : List Token
  pub end : Position
  pub reads : Reads other bytes tokens end rest
  pub same : map spelling tokens ≡ map spelling found

reads_moved : (at to other : Position) (bytes rest : List ℕ) (found : List Token) → AsFresh at other → Reads at bytes found to rest
    → ReadsMoved other bytes rest found
reads_moved at _ other bytes _ _ as_fresh (Reads.none _ _) =
    record { tokens = []; end = other; reads = Reads.none other bytes; same = refl }
reads_moved at to other _ rest _ as_fresh (Reads.piece _ _ piece behind _ found tokens fresh is reads) =
    let moved = piece_moved at other piece behind found fresh as_fresh is in
    let more =
    reads_moved (behind_piece at piece fresh) to (behind_piece other piece moved.after) behind rest tokens moved.as_fresh reads in
    record {
      tokens = moved.tokens ++ more.tokens;
      end = more.end;
      reads = Reads.piece other more.end piece behind rest moved.tokens more.tokens moved.after moved.is more.reads;
      same = map-append spelling moved.tokens more.tokens ∙ ap (λ l. l ++ map spelling more.tokens) moved.same
          ∙ ap (λ l. map spelling found ++ l) more.same ∙ sym (map-append spelling found tokens);
    }

-- ---- reading on behind pieces

reads_on : (at to end : Position) (bytes rest last : List ℕ) (found tokens : List Token) → Reads at bytes found to rest
    → Reads to rest tokens end last → Reads at bytes (found ++ tokens) end last
reads_on at _ end bytes _ last _ tokens (Reads.none _ _) on = on
reads_on at to end _ rest last _ tokens (Reads.piece _ _ piece behind _ first more fresh is reads) on =
    subst (λ l. Reads at (piece ++ behind) l end last) (sym (append_assoc first more tokens))
    (Reads.piece at end piece behind last first (more ++ tokens) fresh is
    (reads_on (behind_piece at piece fresh) to end behind rest last more tokens reads on))

-- ---- the gap

-- the first byte of a blank or a comment
pub record GapStart (gap : List ℕ) : Type 0 where
  pub byte : ℕ
  pub others : List ℕ
  pub is : gap ≡ byte ∷ others
  pub blank : (is_blank byte || byte == 47) ≡ true

gap_start : (gap : List ℕ) → IsGap gap ⊎ (gap ≡ 10 ∷ []) → GapStart gap
gap_start gap (inl (IsGap.space b space is)) = record { byte = b; others = []; is = is; blank = by b space }
  where
    by : (b : ℕ) → is_space b ≡ true → (is_blank b || b == 47) ≡ true
    by b space = ap (λ t. (t || b == 10) || b == 47) space
gap_start gap (inl (IsGap.comment is)) = record { byte = 47; others = 42 ∷ (is.body ++ 47 ∷ []); is = is.is; blank = refl }
gap_start gap (inr is) = record { byte = 10; others = []; is = is; blank = refl }

gap_no_name : (g : ℕ) → (is_blank g || g == 47) ≡ true → is_name_byte g ≡ false
gap_no_name g e = grind (arith, nat_tests)

gap_no_sign : (g : ℕ) → (is_blank g || g == 47) ≡ true → (a : ℕ) → is_long_sign (a ∷ g ∷ []) ≡ false
gap_no_sign g e a = by (is_long_sign (a ∷ g ∷ [])) refl
  where
    by : (c : Bool) → is_long_sign (a ∷ g ∷ []) ≡ c → is_long_sign (a ∷ g ∷ []) ≡ false
    by false f = f
    by true f =
        let (blank, slash) = long_second a g f in
        let never : true ≡ false = sym e ∙ ap (λ t. t || g == 47) blank ∙ slash in absurd cc

gap_longest : (word gap back : List ℕ) → IsLexeme word → IsGap gap ⊎ (gap ≡ 10 ∷ []) → IsLongest word (gap ++ back)
gap_longest word gap back is is_gap =
    let first = gap_start gap is_gap in
    subst (λ l. IsLongest word (l ++ back)) (sym first.is)
    (next_longest word first.byte (first.others ++ back) is
    (gap_never word first.byte (lexeme_some word is) (gap_no_name first.byte first.blank) (gap_no_sign first.byte first.blank)))

-- the gap is a piece behind a token
gap_piece : (at : Position) (gap back : List ℕ) → at.fresh ≡ false → IsGap gap ⊎ (gap ≡ 10 ∷ [])
    → (fresh : Bool) × IsPiece at gap back [] fresh
gap_piece at gap back old (inl is) = (at.fresh, IsPiece.gap is)
gap_piece at gap back old (inr is) = (true, IsPiece.line_feed is)

-- what is read behind pieces of a text that has tokens
rest_tokens : (found : List Token) (at : Position) (bytes : List ℕ) (tokens : List Token)
    → with_tokens found (read_at at bytes) ≡ Tokens tokens
    → (more : List Token) × (end : Position) × Reads at bytes more end []
    × (tokens ≡ found ++ (more ++ token_at End (codes "#") end.place ∷ []))
rest_tokens found at bytes tokens e = by (read_at at bytes) refl (told (suc (length bytes)) at bytes (omega arith))
  where
    by : (read : Reading) → read_at at bytes ≡ read → Told at bytes read
        → (more : List Token) × (end : Position) × Reads at bytes more end []
        × (tokens ≡ found ++ (more ++ token_at End (codes "#") end.place ∷ []))
    by (Refused why) is told =
        let never : Refused why ≡ Tokens tokens = sym (with_tokens-refused found why) ∙ ap (with_tokens found) (sym is) ∙ e in absurd cc
    by (Tokens all) is (more, end, reads, same) =
        (more, end, reads, tokens_of (sym e ∙ ap (with_tokens found) is ∙ with_tokens-all found all) ∙ ap (λ l. found ++ l) same)
      where
        tokens_of : {one other : List Token} → Tokens one ≡ Tokens other → one ≡ other
        tokens_of e = cc

spellings : (kind : TokenKind) (word : List ℕ) (at : Position) (found more moved all : List Token) (end last : Position)
    → all ≡ (found ++ token_at kind word at.place ∷ []) ++ (more ++ token_at End (codes "#") end.place ∷ [])
    → map spelling moved ≡ map spelling more
    → map spelling ((found ++ token_at kind word at.place ∷ moved) ++ token_at End (codes "#") last.place ∷ []) ≡ map spelling all
spellings kind word at found more moved all end last all_is same =
    map-append spelling (found ++ token_at kind word at.place ∷ moved) (token_at End (codes "#") last.place ∷ [])
    ∙ ap (λ l. l ++ spelling (token_at End (codes "#") last.place) ∷ [])
    (map-append spelling found (token_at kind word at.place ∷ moved)
    ∙ ap (λ l. map spelling found ++ spelling (token_at kind word at.place) ∷ l) same)
    ∙ sym (ap (map spelling) all_is
    ∙ map-append spelling (found ++ token_at kind word at.place ∷ []) (more ++ token_at End (codes "#") end.place ∷ [])
    ∙ ap (λ l. l ++ map spelling (more ++ token_at End (codes "#") end.place ∷ []))
    (map-append spelling found (token_at kind word at.place ∷ []))
    ∙ ap (λ l. (map spelling found ++ spelling (token_at kind word at.place) ∷ []) ++ l)
    (map-append spelling more (token_at End (codes "#") end.place ∷ []))
    ∙ append_assoc (map spelling found) (spelling (token_at kind word at.place) ∷ [])
    (map spelling more ++ spelling (token_at End (codes "#") end.place) ∷ [])
    ∙ sym (append_assoc (map spelling found) (spelling (token_at kind word at.place) ∷ map spelling more)
    (spelling (token_at End (codes "#") end.place) ∷ [])))

pub keep_tokens : KeepTokens
keep_tokens front gap back tokens ends is_gap has =
    let front_has = has_front start ends.at (front ++ back) (ends.word ++ back) ends.found ends.reads in
    let lexeme = token_lexeme ends.kind ends.word ends.token in
    let first = has_start ends.word lexeme in
    let behind = behind_piece ends.at ends.word false in
    let token : List Token = token_at ends.kind ends.word ends.at.place ∷ [] in
    -- the texts up to the token
    let front_is : front ≡ front_has.front ++ ends.word =
    append_cancel_right front (front_has.front ++ ends.word) back (front_has.is ∙ sym (append_assoc front_has.front ends.word back)) in
    let alike : StartAlike (ends.word ++ back) (ends.word ++ (gap ++ back)) = record {
      byte = first.byte;
      rest = first.others ++ back;
      more = first.others ++ (gap ++ back);
      is = ap (λ w. w ++ back) first.is;
      also = ap (λ w. w ++ (gap ++ back)) first.is;
    } in
    let up_to = front_has.alike (ends.word ++ (gap ++ back)) alike in
    -- what stands behind it
    let old_token =
    Reads.piece ends.at behind ends.word back back token [] false (IsPiece.token ends.kind ends.token ends.longest)
    (Reads.none behind back) in
    let old_reads = reads_on start ends.at behind (front ++ back) (ends.word ++ back) back ends.found token ends.reads old_token in
    let (more, end, reads, all_is) =
    rest_tokens (ends.found ++ token) behind back tokens
    (sym (reads_read start behind (front ++ back) back (ends.found ++ token) old_reads) ∙ tokens_read (front ++ back) tokens has) in
    let (fresh, gap_is) = gap_piece behind gap back refl is_gap in
    let moved = reads_moved behind end (behind_piece behind gap fresh) back [] more (λ e. absurd cc) reads in
    let new_rest =
    Reads.piece ends.at moved.end ends.word (gap ++ back) [] token moved.tokens false
    (IsPiece.token ends.kind ends.token (gap_longest ends.word gap back lexeme is_gap))
    (Reads.piece behind moved.end gap back [] [] moved.tokens fresh gap_is moved.reads) in
    let new_reads =
    reads_on start ends.at moved.end (front_has.front ++ (ends.word ++ (gap ++ back))) (ends.word ++ (gap ++ back)) [] ends.found
    (token ++ moved.tokens) up_to new_rest in
    let whole : front_has.front ++ (ends.word ++ (gap ++ back)) ≡ front ++ (gap ++ back) =
    sym (append_assoc front_has.front ends.word (gap ++ back)) ∙ ap (λ l. l ++ (gap ++ back)) (sym front_is) in (
      (ends.found ++ (token ++ moved.tokens)) ++ token_at End (codes "#") moved.end.place ∷ [],
      record {
        found = ends.found ++ (token ++ moved.tokens);
        end = moved.end;
        reads = subst (λ l. Reads start l (ends.found ++ (token ++ moved.tokens)) moved.end []) whole new_reads;
        is = refl;
      },
      spellings ends.kind ends.word ends.at ends.found more moved.tokens tokens end moved.end all_is moved.same,
    )
