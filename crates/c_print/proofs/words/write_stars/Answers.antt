use Rattle.c_print.proofs.Rows.{star}
use Rattle.c_print.proofs.words.write_stars.Goals as goal

pub loop-preserved : goal.loop-preserved
loop-preserved c = star c.args.stars c.loop.counter c.loop-test.true c.loop.invariant c.in_ok-write_word.ensures
