use Rattle.std.proofs.Common.{subst}
use Rattle.std.proofs.lemmas.Result.{IfOk-weaker}
use Rattle.c_types_rules.specs.Tables.{Tables}
use Rattle.c_tree.specs.Syntax.{head_tree, block_tree}
use Rattle.c_lower_emit.specs.declared.drafts.Label.TheVariants.{At}
use Rattle.c_lower.specs.Closing.{closed_of, behind_opening, no_out, Closes}
use Rattle.c_lower.proofs.Whole.{begun_later}
use Rattle.c_lower.proofs.body.lower_body.Goals as goal

pub returns-clause-body : goal.returns-clause-body
returns-clause-body c =
    let tables = c.args.context.now.env.tables in
    let head = head_tree c.args.head.now in
    let block = block_tree c.args.body.now in
    let behind =
    subst (λ (t : Tables). Closes (behind_opening (closed_of t head block))
    (At 0) no_out c.in_ok-out.out) c.in_ok-begin.ensures.tables c.in_ok-out.ensures.code in
    IfOk-weaker c.body_of-2.result _ _ (λ found finished.
    begun_later tables head block c.in_ok-begin.begin c.place.result c.new-out.result c.closed.new.out c.in_ok-out.out found
    c.new-out.ensures c.in_ok-begin.ensures.code c.place.ensures
    c.if-place-eq0.false behind finished)
    c.body_of-2.ensures
