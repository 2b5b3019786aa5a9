use Rattle.std.proofs.Common.{◌∙◌, sym, ap, arith, Ok}
use Rattle.c_grammar.specs.Readers.{opens_level, begins_stmt, read_stmt}
use Rattle.c_tree.specs.Syntax.{stmt_tree, stmts_tree, block_tree}
use Rattle.c_parse_exprs.proofs.Steps.{exit_halts}
use Rattle.c_parse_exprs.proofs.Loops.{so_far_more}
use Rattle.c_parse_exprs.proofs.ExprSteps.{reads_same}
use Rattle.c_parse.proofs.Cases.{tested}
use Rattle.c_parse.proofs.Nested.{stmt_flat, stmt_deep, stmt_nested, block_read, block_halts, stmts_halt, stmts_end}
use Rattle.c_parse.proofs.Parts.{nested_if, nested_iteration, if_halts, if_body_halts, if_goes, none_other, other_read, other_halts}
use Rattle.c_parse.proofs.Parts.{iteration_halts, iteration_body_halts, iteration_goes, stmts_of_block_halt, block_goes}
use Rattle.c_parse.specs.Heads.{tested_tree, branch_tree, iteration_tree}
use Rattle.c_parse.proofs.stmts.+stmt.Goals as goal

pub read_stmt-returns-then-not-opens_level-clause-value : goal.read_stmt-returns-then-not-opens_level-clause-value
read_stmt-returns-then-not-opens_level-clause-value t c =
    reads_same _ _ stmt_tree c.read_flat.result c.read_flat.new.words
    (stmt_flat c.args.levels c.args.words.now
    (tested opens_level c.args.words.now _ _ _ c.first_class.ensures c.opens_level.ensures c.if-not-opens_level.true))
    c.read_flat.ensures.value

pub read_stmt-returns-then-levels-eq0-clause-value : goal.read_stmt-returns-then-levels-eq0-clause-value
read_stmt-returns-then-levels-eq0-clause-value t c =
    stmt_deep c.too_deep.result c.args.levels c.args.words.now (omega arith)
    (tested opens_level c.args.words.now _ _ _ c.first_class.ensures c.opens_level.ensures c.if-not-opens_level.false) c.too_deep.ensures

pub read_stmt-returns-clause-value : goal.read_stmt-returns-clause-value
read_stmt-returns-clause-value t c =
    reads_same _ _ stmt_tree c.read_nested.result c.read_nested.new.words
    (stmt_nested c.args.levels c.args.words.now (omega arith)
    (tested opens_level c.args.words.now _ _ _ c.first_class.ensures c.opens_level.ensures c.if-not-opens_level.false))
    c.read_nested.ensures.value

pub read_nested-returns-in_ok-block-in-OpenBrace-clause-value : goal.read_nested-returns-in_ok-block-in-OpenBrace-clause-value
read_nested-returns-in_ok-block-in-OpenBrace-clause-value t c =
    block_read c.args.levels (read_stmt c.args.levels) c.args.words.now
    (block_tree c.in_ok-block-in-OpenBrace.block) _ c.first_class.result c.first_class.ensures c.in-OpenBrace.is
    c.in_ok-block-in-OpenBrace.ensures.value
    ∙ ap (λ s. Ok (s, c.read_block.new.words)) (sym c.as_stmt.ensures)

pub read_nested-returns-in_err-block-in-OpenBrace-clause-value : goal.read_nested-returns-in_err-block-in-OpenBrace-clause-value
read_nested-returns-in_err-block-in-OpenBrace-clause-value t c =
    exit_halts _ _ c.from_residual.result _ c.in_err-block-in-OpenBrace.field-0.0 c.from_residual.ensures.1
    (block_halts _ c.args.levels
    (read_stmt c.args.levels) c.args.words.now c.first_class.result c.first_class.ensures c.in-OpenBrace.is
    c.in_err-block-in-OpenBrace.ensures.value)

pub read_nested-returns-in-If-clause-value : goal.read_nested-returns-in-If-clause-value
read_nested-returns-in-If-clause-value t c =
    reads_same _ _ stmt_tree c.read_if.result c.read_if.new.words
    (nested_if c.args.levels
    (read_stmt c.args.levels) c.args.words.now c.first_class.result c.first_class.ensures c.in-If.is) c.read_if.ensures.value

pub read_nested-returns-in_default-clause-value : goal.read_nested-returns-in_default-clause-value
read_nested-returns-in_default-clause-value t c =
    reads_same _ _ stmt_tree c.read_iteration.result c.read_iteration.new.words
    (nested_iteration c.args.levels
    (read_stmt c.args.levels) c.args.words.now c.first_class.result c.first_class.ensures c.in_default.not-OpenBrace c.in_default.not-If)
    c.read_iteration.ensures.value

pub read_stmts-each-preserved : goal.read_stmts-each-preserved
read_stmts-each-preserved t c =
    so_far_more begins_stmt
    (read_stmt c.args.levels) stmt_tree c.args.words.now c.each.stmts.items c.push.new.self.items c.each.words c.read_stmt.new.words
    c.in_ok-read_stmt.field-0
    c.each.invariant c.in_ok-push.ensures.items
    (tested begins_stmt c.each.words _ _ _ c.first_class.ensures c.begins_stmt.ensures c.each-test.true) c.in_ok-read_stmt.ensures.value
    c.in_ok-read_stmt.ensures.falls

pub read_stmts-returns-clause-value : goal.read_stmts-returns-clause-value
read_stmts-returns-clause-value t c =
    stmts_end (read_stmt c.args.levels) c.args.words.now _ c.each.words c.each.invariant
    (tested begins_stmt c.each.words _ _ _ c.first_class.ensures c.begins_stmt.ensures c.each-test.false)

pub read_stmts-returns-in_err-read_stmt-clause-value : goal.read_stmts-returns-in_err-read_stmt-clause-value
read_stmts-returns-in_err-read_stmt-clause-value t c =
    exit_halts _ _ c.from_residual.result _ c.in_err-read_stmt.field-0.0 c.from_residual.ensures.1
    (stmts_halt (read_stmt c.args.levels) c.args.words.now _ c.each.words _ c.each.invariant
    (tested begins_stmt c.each.words _ _ _ c.first_class.ensures c.begins_stmt.ensures c.each-test.true) c.in_err-read_stmt.ensures.value)

pub read_block-returns-in_err-stmts-clause-value : goal.read_block-returns-in_err-stmts-clause-value
read_block-returns-in_err-stmts-clause-value t c =
    exit_halts _ _ c.from_residual.result _ c.in_err-stmts.field-0.0 c.from_residual.ensures.1
    (stmts_of_block_halt _ (read_stmt c.args.levels) c.args.words.now _ c.step.ensures.value c.in_err-stmts.ensures.value)

pub read_block-returns-clause-value : goal.read_block-returns-clause-value
read_block-returns-clause-value t c =
    reads_same _ _ block_tree c.read_block_end.result c.read_block_end.new.words
    (block_goes (read_stmt c.args.levels) c.args.words.now _ _ c.place-place.result
    (stmts_tree c.in_ok-stmts.stmts.items) c.place-place.ensures c.step.ensures.value c.in_ok-stmts.ensures.value)
    c.read_block_end.ensures.value

pub read_if-returns-in_err-tested-clause-value : goal.read_if-returns-in_err-tested-clause-value
read_if-returns-in_err-tested-clause-value t c =
    exit_halts _ _ c.from_residual.result _ c.in_err-tested.field-0.0 c.from_residual.ensures.1
    (if_halts _ c.args.levels (read_stmt c.args.levels) c.args.words.now c.in_err-tested.ensures.value)

pub read_if-returns-in_err-body-clause-value : goal.read_if-returns-in_err-body-clause-value
read_if-returns-in_err-body-clause-value t c =
    exit_halts _ _ c.from_residual-in_err-body.result _ c.in_err-body.field-0.0 c.from_residual-in_err-body.ensures.1
    (if_body_halts _ c.args.levels (read_stmt c.args.levels) c.args.words.now _
    (tested_tree c.in_ok-tested.tested) c.in_ok-tested.ensures.value c.in_err-body.ensures.value)

pub read_if-returns-clause-value : goal.read_if-returns-clause-value
read_if-returns-clause-value t c =
    reads_same _ _ stmt_tree c.read_else.result c.read_else.new.words
    (if_goes c.args.levels (read_stmt c.args.levels) c.args.words.now _ _ (tested_tree c.in_ok-tested.tested) (stmt_tree c.in_ok-body.body)
    (branch_tree c.in_ok-branch.branch)
    c.in_ok-tested.ensures.value c.in_ok-body.ensures.value c.in_ok-branch.ensures) c.read_else.ensures.value

pub read_else-returns-then-not-sees-clause-value : goal.read_else-returns-then-not-sees-clause-value
read_else-returns-then-not-sees-clause-value t c =
    none_other (read_stmt c.args.levels) (branch_tree c.args.branch) c.args.words.now (sym c.sees.ensures ∙ c.if-not-sees.true)
    ∙ ap (λ s. Ok (s, c.args.words.now)) (sym c.alone.ensures)

pub read_else-returns-in_err-other-clause-value : goal.read_else-returns-in_err-other-clause-value
read_else-returns-in_err-other-clause-value t c =
    exit_halts _ _ c.from_residual.result _ c.in_err-other.field-0.0 c.from_residual.ensures.1
    (other_halts _ (read_stmt c.args.levels) (branch_tree c.args.branch) c.args.words.now _
    (sym c.sees.ensures ∙ c.if-not-sees.false) c.step.ensures.value c.in_err-other.ensures.value)

pub read_else-returns-clause-value : goal.read_else-returns-clause-value
read_else-returns-clause-value t c =
    other_read (read_stmt c.args.levels) (branch_tree c.args.branch) c.args.words.now _ c.read_stmt.new.words
    (stmt_tree c.in_ok-other.other) (sym c.sees.ensures ∙ c.if-not-sees.false) c.step.ensures.value c.in_ok-other.ensures.value
    ∙ ap (λ s. Ok (s, c.read_stmt.new.words)) (sym c.in_ok-or_else.ensures)

pub read_iteration-returns-in_err-head-clause-value : goal.read_iteration-returns-in_err-head-clause-value
read_iteration-returns-in_err-head-clause-value t c =
    exit_halts _ _ c.from_residual.result _ c.in_err-head.field-0.0 c.from_residual.ensures.1
    (iteration_halts _ c.args.levels (read_stmt c.args.levels) c.args.words.now c.in_err-head.ensures.value)

pub read_iteration-returns-in_err-body-clause-value : goal.read_iteration-returns-in_err-body-clause-value
read_iteration-returns-in_err-body-clause-value t c =
    exit_halts _ _ c.from_residual-in_err-body.result _ c.in_err-body.field-0.0 c.from_residual-in_err-body.ensures.1
    (iteration_body_halts _ c.args.levels (read_stmt c.args.levels) c.args.words.now _
    (iteration_tree c.in_ok-head.head) c.in_ok-head.ensures.value c.in_err-body.ensures.value)

pub read_iteration-returns-clause-value : goal.read_iteration-returns-clause-value
read_iteration-returns-clause-value t c =
    reads_same _ _ stmt_tree c.read_end.result c.read_end.new.words
    (iteration_goes c.args.levels (read_stmt c.args.levels) c.args.words.now _ _ (iteration_tree c.in_ok-head.head)
    (stmt_tree c.in_ok-body.body) c.in_ok-head.ensures.value c.in_ok-body.ensures.value) c.read_end.ensures.value
