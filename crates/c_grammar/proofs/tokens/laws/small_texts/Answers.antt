use Rattle.c_grammar.proofs.TokensLemmas.SmallTexts as small
use Rattle.c_grammar.proofs.tokens.laws.small_texts.Goals as goal

pub returns : goal.returns
returns c = record {
  signs = small.takes_longest_signs;
  ends_token = small.ends_token;
  comment_at_end = small.ends_in_comment;
  include = small.includes_with_comment;
  slash_star_slash = small.needs_two_stars;
  open_comment = small.refuses_open_comment;
  open_comment_in_include = small.refuses_open_comment_first;
  suffix = small.refuses_suffix;
  quote = small.refuses_quote;
  define = small.refuses_define;
}
