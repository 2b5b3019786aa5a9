-- The first piece of a text, by what stands there.
use Rattle.std.proofs.Common.{◌≡◌, ◌≢◌, ℕ, suc, ◌+◌, Bool, true, false, List, [], ◌∷◌, ◌++◌, length, inl, inr, ◌⊎◌, refl, sym, ap, ◌∙◌}
use Rattle.std.proofs.Common.{subst, append_assoc, arith}
use Rattle.std.specs.Prelude.{◌==◌, ◌&&◌, ◌||◌, Option, Some, None, slice_index, codes}
use Rattle.std.proofs.lemmas.Bool.{eqb-true}
use Rattle.std.proofs.lemmas.Bool.Decides.{nat_tests}
use Rattle.std.proofs.lemmas.List.{length-append}
use Rattle.c_grammar.specs.declared.tokens.comments.Behind.TheVariants.{Other}
use Rattle.c_grammar.specs.declared.tokens.places.Place.{Place}
use Rattle.c_grammar.specs.declared.tokens.pieces.Part.{Part}
use Rattle.c_grammar.specs.declared.tokens.pieces.Piece.TheVariants.{Passed, Refused as Bad}
use Rattle.c_grammar.specs.Tokens.Places.{refusal}
use Rattle.c_grammar.specs.Tokens.Gaps.{is_space, is_blank, HasCommentEnd, IsBlockComment, OpensComment, IsLineComment}
use Rattle.c_grammar.specs.Tokens.Scan.{block_end}
use Rattle.c_grammar.specs.Tokens.Grammar.{BeginsComment}
use Rattle.c_grammar.specs.Tokens.Pieces.{first_piece, block_piece, bare_piece}
use Rattle.c_grammar.proofs.TokensLemmas.Booleans.{cond_true, cond_false, and_first, and_second}
use Rattle.c_grammar.proofs.TokensLemmas.BlockComments.{IsBody, same_body, Scanned, scanned, has_more}
use Rattle.c_grammar.proofs.TokensLemmas.LineComments.{scanned_line, line_scanned}

-- ---- where a comment ends

block_found : (body rest : List ℕ) → IsBody body → block_end 0 Other (body ++ 47 ∷ rest) ≡ Some (length body + 1)
block_found body rest is = by (block_end 0 Other (body ++ 47 ∷ rest)) refl (scanned (body ++ 47 ∷ rest))
  where
    by : (end : Option ℕ) → block_end 0 Other (body ++ 47 ∷ rest) ≡ end → Scanned (body ++ 47 ∷ rest) end
        → block_end 0 Other (body ++ 47 ∷ rest) ≡ Some (length body + 1)
    by None e none = absurd (none (subst HasCommentEnd (append_assoc body (47 ∷ []) rest) (has_more (body ++ 47 ∷ []) rest is.0)))
    by (Some n) e (other, behind, are, same, count) =
        e ∙ ap (λ k. Some k) (count ∙ ap (λ l. length l + 1) (sym (same_body body other rest behind is are same).0))

open_found : (body : List ℕ) → ¬ HasCommentEnd body → block_end 0 Other body ≡ None
open_found body none = by (block_end 0 Other body) refl (scanned body)
  where
    by : (end : Option ℕ) → block_end 0 Other body ≡ end → Scanned body end → block_end 0 Other body ≡ None
    by None e h = e
    by (Some n) e (other, behind, are, same, count) =
        absurd (none (subst HasCommentEnd (append_assoc other (47 ∷ []) behind ∙ sym same) (has_more (other ++ 47 ∷ []) behind are.0)))

-- ---- the first piece

space_no_feed : (b : ℕ) → is_space b ≡ true → (b == 10) ≡ false
space_no_feed b e = grind (arith, nat_tests)

pub first_space : (here : Place) (part : Part) (b : ℕ) (rest : List ℕ) → is_space b ≡ true
    → first_piece here part (b ∷ rest) ≡ Passed 1 part
first_space here part b rest e =
    cond_false (b == 10) _ _ (space_no_feed b e) ∙ cond_true (is_blank b) _ _ (ap (λ t. t || b == 10) e)

pub first_line : (here : Place) (part : Part) (comment behind : List ℕ) → IsLineComment comment behind
    → first_piece here part (comment ++ behind) ≡ Passed (length comment) part
first_line here part comment behind is =
    ap (λ l. first_piece here part (l ++ behind)) is.is
    ∙ ap (λ n. Passed n part) (ap (λ n. n + 2) (line_scanned comment behind is) ∙ two (length is.body) ∙ sym (ap length is.is))
  where
    two : (n : ℕ) → n + 2 ≡ suc (suc n)
    two n = omega arith

pub first_block : (here : Place) (part : Part) (comment behind : List ℕ) → IsBlockComment comment
    → first_piece here part (comment ++ behind) ≡ Passed (length comment) part
first_block here part comment behind is =
    ap (λ l. first_piece here part (l ++ behind)) is.is
    ∙ ap (λ l. block_piece here part (block_end 0 Other l)) (append_assoc is.body (47 ∷ []) behind)
    ∙ ap (block_piece here part) (block_found is.body behind (is.ends, is.first))
    ∙ ap (λ n. Passed n part) (count ∙ sym (ap length is.is))
  where
    count : length is.body + 1 + 2 ≡ length (codes "/*" ++ (is.body ++ codes "/"))
    count = let more = length-append is.body (47 ∷ []) in omega arith

pub first_open : (here : Place) (part : Part) (bytes : List ℕ) → OpensComment bytes → first_piece here part bytes ≡ Bad (refusal here 102)
first_open here part bytes (body, is, none) =
    ap (first_piece here part) is ∙ ap (block_piece here part) (open_found body none)

blank_no_feed : (b : ℕ) → is_blank b ≡ false → (b == 10) ≡ false
blank_no_feed b e = grind (arith, nat_tests)

no_second : (b : ℕ) (rest : List ℕ) (second : ℕ) → ((more : List ℕ) → b ∷ rest ≢ 47 ∷ second ∷ more) → (0 == second) ≡ false
    → (b == 47 && slice_index (b ∷ rest) 1 == second) ≡ false
no_second b [] second none zero_other = and_second (b == 47) (0 == second) zero_other
no_second b (c ∷ rest) second none zero_other = by (b == 47) (c == second) refl refl
  where
    by : (p q : Bool) → (b == 47) ≡ p → (c == second) ≡ q → (b == 47 && c == second) ≡ false
    by false q e f = and_first (b == 47) (c == second) e
    by true false e f = and_second (b == 47) (c == second) f
    by true true e f = absurd (none rest (ap (λ x. x ∷ c ∷ rest) (eqb-true b 47 e) ∙ ap (λ x. 47 ∷ x ∷ rest) (eqb-true c second f)))

pub first_bare : (here : Place) (part : Part) (b : ℕ) (rest : List ℕ) → is_blank b ≡ false → ¬ BeginsComment (b ∷ rest)
    → first_piece here part (b ∷ rest) ≡ bare_piece here part (b ∷ rest)
first_bare here part b rest blank none =
    cond_false (b == 10) _ _ (blank_no_feed b blank)
    ∙ cond_false (is_blank b) _ _ blank
    ∙ cond_false (b == 47 && slice_index (b ∷ rest) 1 == 47) _ _ (no_second b rest 47 (λ more e. none (more, inl e)) refl)
    ∙ cond_false (b == 47 && slice_index (b ∷ rest) 1 == 42) _ _ (no_second b rest 42 (λ more e. none (more, inr e)) refl)

-- what a text begins with
pub data Begin : List ℕ → Type 0 where
  feed : (rest : List ℕ) → Begin (10 ∷ rest)
  space : (b : ℕ) (rest : List ℕ) → is_space b ≡ true → Begin (b ∷ rest)
  line : (comment behind : List ℕ) → IsLineComment comment behind → Begin (comment ++ behind)
  block : (comment behind : List ℕ) → IsBlockComment comment → Begin (comment ++ behind)
  open_comment : (bytes : List ℕ) → OpensComment bytes → Begin bytes
  bare : (b : ℕ) (rest : List ℕ) → is_blank b ≡ false → ¬ BeginsComment (b ∷ rest) → Begin (b ∷ rest)

begin_line : (rest : List ℕ) → Begin (47 ∷ 47 ∷ rest)
begin_line rest =
    let (body, behind, is, count, comment) = scanned_line rest in
    subst (λ l. Begin (47 ∷ 47 ∷ l)) (sym is) (Begin.line (47 ∷ 47 ∷ body) behind comment)

begin_block : (rest : List ℕ) → Begin (47 ∷ 42 ∷ rest)
begin_block rest = by (block_end 0 Other rest) (scanned rest)
  where
    by : (end : Option ℕ) → Scanned rest end → Begin (47 ∷ 42 ∷ rest)
    by None none = Begin.open_comment (47 ∷ 42 ∷ rest) (rest, refl, none)
    by (Some n) (body, behind, are, same, count) =
        subst (λ l. Begin (47 ∷ 42 ∷ l)) (append_assoc body (47 ∷ []) behind ∙ sym same)
        (Begin.block (47 ∷ 42 ∷ (body ++ 47 ∷ [])) behind (record { body = body; is = refl; ends = are.0; first = are.1 }))

pub begin : (b : ℕ) (rest : List ℕ) → Begin (b ∷ rest)
begin b rest = feed (b == 10) refl
  where
    second : (rest : List ℕ) → is_blank b ≡ false → (b == 47) ≡ true → Begin (b ∷ rest)
    second [] blank slash = Begin.bare b [] blank (λ (more, is). no more is)
      where
        no : (more : List ℕ) → (b ∷ [] ≡ 47 ∷ 47 ∷ more) ⊎ (b ∷ [] ≡ 47 ∷ 42 ∷ more) → ⊥
        no more (inl e) = absurd cc
        no more (inr e) = absurd cc
    second (c ∷ rest) blank slash = line (c == 47) refl
      where
        block : (p : Bool) → (c == 47) ≡ false → (c == 42) ≡ p → Begin (b ∷ c ∷ rest)
        block true f e =
            subst (λ x. Begin (x ∷ c ∷ rest)) (sym (eqb-true b 47 slash))
            (subst (λ x. Begin (47 ∷ x ∷ rest)) (sym (eqb-true c 42 e)) (begin_block rest))
        block false f e = Begin.bare b (c ∷ rest) blank (λ (more, is). no more is)
          where
            no : (more : List ℕ) → (b ∷ c ∷ rest ≡ 47 ∷ 47 ∷ more) ⊎ (b ∷ c ∷ rest ≡ 47 ∷ 42 ∷ more) → ⊥
            no more (inl g) = let same : c ≡ 47 = cc in grind (arith, nat_tests)
            no more (inr g) = let same : c ≡ 42 = cc in grind (arith, nat_tests)

        line : (p : Bool) → (c == 47) ≡ p → Begin (b ∷ c ∷ rest)
        line true e =
            subst (λ x. Begin (x ∷ c ∷ rest)) (sym (eqb-true b 47 slash))
            (subst (λ x. Begin (47 ∷ x ∷ rest)) (sym (eqb-true c 47 e)) (begin_line rest))
        line false e = block (c == 42) e refl

    slash : (c : Bool) → is_blank b ≡ false → (b == 47) ≡ c → Begin (b ∷ rest)
    slash true blank e = second rest blank e
    slash false blank e = Begin.bare b rest blank (λ (more, is). no more is)
      where
        no : (more : List ℕ) → (b ∷ rest ≡ 47 ∷ 47 ∷ more) ⊎ (b ∷ rest ≡ 47 ∷ 42 ∷ more) → ⊥
        no more (inl g) = let same : b ≡ 47 = cc in grind (arith, nat_tests)
        no more (inr g) = let same : b ≡ 47 = cc in grind (arith, nat_tests)

    blank : (c : Bool) → (b == 10) ≡ false → is_space b ≡ c → Begin (b ∷ rest)
    blank true f e = Begin.space b rest e
    blank false f e = slash (b == 47) (ap (λ t. t || b == 10) e ∙ f) refl

    feed : (c : Bool) → (b == 10) ≡ c → Begin (b ∷ rest)
    feed true e = subst (λ x. Begin (x ∷ rest)) (sym (eqb-true b 10 e)) (Begin.feed rest)
    feed false e = blank (is_space b) e refl
