use Rattle.std.proofs.Common.{arith, refl}
use Rattle.c_grammar.specs.Readers.{begins_specifier, read_fields}
use Rattle.c_tree.specs.Syntax.{fields_tree}
use Rattle.c_parse_exprs.proofs.Steps.{exit_halts}
use Rattle.c_parse_exprs.proofs.Loops.{so_far_more, so_far_end, so_far_halts}
use Rattle.c_parse_exprs.proofs.TypeSteps.{seen_class}
use Rattle.c_parse_exprs.proofs.types.read_lines.Goals as goal

pub returns-in_err-read_fields-clause-value : goal.returns-in_err-read_fields-clause-value
returns-in_err-read_fields-clause-value c =
    exit_halts _ _ c.from_residual.result _ c.in_err-read_fields.field-0.0 c.from_residual.ensures.1
    (so_far_halts begins_specifier read_fields c.args.words.now _ c.loop-alloc.words _ c.loop-alloc.invariant
    (seen_class begins_specifier _ _ _ c.loop-alloc.words c.begins_specifier.ensures c.first_class.ensures c.loop-alloc-test.true) refl
    c.in_err-read_fields.ensures.value)

pub loop-alloc-preserved : goal.loop-alloc-preserved
loop-alloc-preserved c =
    so_far_more begins_specifier read_fields fields_tree c.args.words.now c.loop-alloc.lines.items c.push.new.self.items c.loop-alloc.words
    c.read_fields.new.words c.in_ok-read_fields.field-0
    c.loop-alloc.invariant c.in_ok-push.ensures.items
    (seen_class begins_specifier _ _ _ c.loop-alloc.words c.begins_specifier.ensures c.first_class.ensures c.loop-alloc-test.true)
    c.in_ok-read_fields.ensures.value (omega (arith, c.in_ok-read_fields.ensures.falls))

pub returns-clause-value : goal.returns-clause-value
returns-clause-value c =
    so_far_end begins_specifier read_fields c.args.words.now _ c.loop-alloc.words c.loop-alloc.invariant
    (seen_class begins_specifier _ _ _ c.loop-alloc.words c.begins_specifier.ensures c.first_class.ensures c.loop-alloc-test.false)
