use Rattle.std.proofs.Common.{refl}
use Rattle.c_grammar.specs.Readers.{begins_item, read_item}
use Rattle.c_tree.specs.Syntax.{item_tree}
use Rattle.c_parse_exprs.proofs.Steps.{exit_halts}
use Rattle.c_parse_exprs.proofs.Loops.{so_far_more, so_far_end, so_far_halts}
use Rattle.c_parse.proofs.Cases.{tested}
use Rattle.c_parse.proofs.items.read_items.Goals as goal

pub each-preserved : goal.each-preserved
each-preserved c =
    so_far_more begins_item
    (read_item c.args.levels) item_tree c.args.words.now c.each.items.items c.push.new.self.items c.each.words c.read_item.new.words
    c.in_ok-read_item.field-0
    c.each.invariant c.in_ok-push.ensures.items
    (tested begins_item c.each.words _ _ _ c.first_class.ensures c.begins_item.ensures c.each-test.true) c.in_ok-read_item.ensures.value
    c.in_ok-read_item.ensures.falls

pub returns-clause-value : goal.returns-clause-value
returns-clause-value c =
    so_far_end begins_item (read_item c.args.levels) c.args.words.now _ c.each.words c.each.invariant
    (tested begins_item c.each.words _ _ _ c.first_class.ensures c.begins_item.ensures c.each-test.false)

pub returns-in_err-read_item-clause-value : goal.returns-in_err-read_item-clause-value
returns-in_err-read_item-clause-value c =
    exit_halts _ _ c.from_residual.result _ c.in_err-read_item.field-0.0 c.from_residual.ensures.1
    (so_far_halts begins_item (read_item c.args.levels) c.args.words.now _ c.each.words _ c.each.invariant
    (tested begins_item c.each.words _ _ _ c.first_class.ensures c.begins_item.ensures c.each-test.true) refl
    c.in_err-read_item.ensures.value)
