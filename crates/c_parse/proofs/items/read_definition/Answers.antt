use Rattle.std.proofs.Common.{arith}
use Rattle.c_tree.specs.Syntax.{head_tree, block_tree}
use Rattle.c_parse_exprs.proofs.Steps.{exit_halts}
use Rattle.c_parse.proofs.Nested.{definition_deep, definition_read, definition_halts}
use Rattle.c_parse.proofs.items.read_definition.Goals as goal

pub returns-then-levels-eq0-clause-value : goal.returns-then-levels-eq0-clause-value
returns-then-levels-eq0-clause-value c =
    definition_deep c.too_deep.result c.args.levels (head_tree c.args.head) c.args.words.now (omega arith) c.too_deep.ensures

pub returns-in_err-body-clause-value : goal.returns-in_err-body-clause-value
returns-in_err-body-clause-value c =
    exit_halts _ _ c.from_residual.result _ c.in_err-body.field-0.0 c.from_residual.ensures.1
    (definition_halts _ c.args.levels (head_tree c.args.head) c.args.words.now (omega arith) c.in_err-body.ensures.value)

pub returns-clause-value : goal.returns-clause-value
returns-clause-value c =
    definition_read c.args.levels (head_tree c.args.head) c.args.words.now (block_tree c.in_ok-body.body) _
    (omega arith) c.in_ok-body.ensures.value
