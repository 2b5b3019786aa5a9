use Rattle.std.proofs.Common.{arith, refl}
use Rattle.c_grammar.specs.declared.class.Class.TheVariants as class
use Rattle.c_grammar.specs.Readers.{read_name}
use Rattle.c_tree.specs.Syntax.{ident_tree}
use Rattle.c_parse_exprs.proofs.Steps.{exit_halts}
use Rattle.c_parse_exprs.proofs.Loops.{eaten_more, eaten_end, eaten_halts}
use Rattle.c_parse_exprs.proofs.parts.read_members.Goals as goal

pub returns-in_err-read_name-clause-value : goal.returns-in_err-read_name-clause-value
returns-in_err-read_name-clause-value c =
    exit_halts _ _ c.from_residual.result _ c.in_err-read_name.field-0.0 c.from_residual.ensures.1
    (eaten_halts class.Arrow read_name c.args.words.now _ c.loop-alloc.words c.eat.new.self c.eat.result _ c.loop-alloc.invariant
    (record { seen = c.eat.ensures.seen; value = c.eat.ensures.value }) c.loop-alloc-test.true refl c.in_err-read_name.ensures.value)

pub loop-alloc-preserved : goal.loop-alloc-preserved
loop-alloc-preserved c =
    eaten_more class.Arrow read_name ident_tree c.args.words.now c.loop-alloc.members.items c.push.new.self.items c.loop-alloc.words
    c.eat.new.self c.read_name.new.words c.in_ok-read_name.field-0 c.eat.result
    c.loop-alloc.invariant
    (record {
      seen = c.eat.ensures.seen;
      value = c.eat.ensures.value;
    }) c.loop-alloc-test.true c.in_ok-read_name.ensures.value c.in_ok-push.ensures.items (omega arith)

pub returns-clause-value : goal.returns-clause-value
returns-clause-value c =
    eaten_end class.Arrow read_name c.args.words.now _ c.loop-alloc.words c.eat.new.self c.eat.result c.loop-alloc.invariant
    (record { seen = c.eat.ensures.seen; value = c.eat.ensures.value }) c.loop-alloc-test.false
