use Rattle.std.proofs.Common.{◌≤◌, length, ap, rules}
use Rattle.c_grammar.specs.Printing.{print_args}
use Rattle.c_tree.specs.Syntax.{args_tree}
use Rattle.c_print.proofs.Rows.{then, ends, at_same}
use Rattle.c_print.proofs.Arguments.{arguments}
use Rattle.c_print.proofs.expressions.+write.Goals as goal

pub write_call-returns : goal.write_call-returns
write_call-returns t c =
    ends _ _ c.write_word-2.result
    (then c.in_ok-write_name.ensures (then c.in_ok-write_word.ensures c.in_ok-write_args.ensures)) c.write_word-2.ensures

pub write_args-returns : goal.write_args-returns
write_args-returns t c =
    let past : length c.deref-arg-items.result.now ≤ c.loop-place.place = search rules in
    at_same print_args _ _ (ap args_tree c.deref-arg-items.ensures.value) _ _
    (arguments c.deref-arg-items.result.now c.loop-place.place past c.loop-place.invariant)
