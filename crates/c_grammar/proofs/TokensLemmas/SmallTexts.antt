-- Small texts, computed.
use Rattle.std.proofs.Common.{[], ◌∷◌, inr, refl, arith}
use Rattle.std.specs.Prelude.{codes}
use Rattle.c_grammar.specs.declared.tokens.token.TokenKind.TheVariants.{Word, Sign}
use Rattle.c_grammar.specs.Tokens.Words.{is_reserved, is_long_sign, is_short_sign}
use Rattle.c_grammar.specs.Tokens.Lexemes.{IsToken}
use Rattle.c_grammar.specs.Tokens.Grammar.{start, behind_piece, token_at, IsPiece, Reads}
use Rattle.c_grammar.specs.Tokens.Examples.{column, TakesLongestSigns, EndsToken, EndsInComment, IncludesWithComment, NeedsTwoStars}
use Rattle.c_grammar.specs.Tokens.Examples.{RefusesOpenComment, RefusesOpenCommentFirst, RefusesSuffix, RefusesQuote, RefusesDefine}
use Rattle.c_grammar.proofs.TokensLemmas.LexemeLemmas.{run_is_longest, sign_longest}
use Rattle.c_grammar.proofs.TokensLemmas.TextLaws.{has_read, refuses_read}

pub takes_longest_signs : TakesLongestSigns
unfolding is_reserved is_long_sign is_short_sign
takes_longest_signs = has_read _ _ refl

pub ends_in_comment : EndsInComment
unfolding is_reserved is_long_sign is_short_sign
ends_in_comment = has_read _ _ refl

pub includes_with_comment : IncludesWithComment
unfolding is_reserved is_long_sign is_short_sign
includes_with_comment = has_read _ _ refl

pub needs_two_stars : NeedsTwoStars
unfolding is_reserved is_long_sign is_short_sign
needs_two_stars = refuses_read _ _ refl

pub refuses_open_comment : RefusesOpenComment
unfolding is_reserved is_long_sign is_short_sign
refuses_open_comment = refuses_read _ _ refl

pub refuses_open_comment_first : RefusesOpenCommentFirst
unfolding is_reserved is_long_sign is_short_sign
refuses_open_comment_first = refuses_read _ _ refl

pub refuses_suffix : RefusesSuffix
unfolding is_reserved is_long_sign is_short_sign
refuses_suffix = refuses_read _ _ refl

pub refuses_quote : RefusesQuote
unfolding is_reserved is_long_sign is_short_sign
refuses_quote = refuses_read _ _ refl

pub refuses_define : RefusesDefine
unfolding is_reserved is_long_sign is_short_sign
refuses_define = refuses_read _ _ refl

-- derived from the grammar, piece by piece
x_is_word : IsToken Word (codes "x")
unfolding is_reserved
x_is_word = (record { some = omega arith; first = refl; each = refl }, omega arith, refl)

two_plus : IsToken Sign (codes "++")
unfolding is_long_sign
two_plus = inr refl

pub ends_token : EndsToken
ends_token = record {
  found = token_at Word (codes "x") (column 1) ∷ [];
  at = behind_piece start (codes "x") _;
  kind = Sign;
  word = codes "++";
  reads =
      Reads.piece start _ (codes "x") (codes "+++++y") _ (token_at Word (codes "x") (column 1) ∷ []) [] _
      (IsPiece.token Word x_is_word (run_is_longest 120 [] (codes "+++++y") refl refl)) (Reads.none _ _);
  token = two_plus;
  longest = sign_longest 43 (codes "++") (codes "+++y") refl (λ b rest e is. omega arith) (omega arith) (codes "++++y") refl;
}
