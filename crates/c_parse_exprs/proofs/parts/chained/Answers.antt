use Rattle.std.proofs.Common.{◌<◌, length, ◌∙◌, arith}
use Rattle.std.proofs.lemmas.Bool.Decides.{nat_tests}
use Rattle.c_tree.specs.Syntax.{expr_tree}
use Rattle.c_parse_exprs.proofs.Links.{chained_more}
use Rattle.c_parse_exprs.proofs.parts.chained.Goals as goal

pub returns-in_ok-chain : goal.returns-in_ok-chain
returns-in_ok-chain c =
    let some : 0 < length c.args.others.items = grind (arith, nat_tests) in
    c.in_ok-chain.ensures ∙ chained_more (expr_tree c.args.first) c.args.others.items some
