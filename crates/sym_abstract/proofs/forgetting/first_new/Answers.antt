use Rattle.sym_abstract.proofs.ForgetTurns.{first-in-turn}
use Rattle.sym_abstract.proofs.forgetting.first_new.Goals as goal

pub returns-clause-value : goal.returns-clause-value
returns-clause-value c =
    first-in-turn
    (record {
      locals = c.args.locals.now;
      heap = c.args.heap.now;
    }) c.above_exps-locals.result c.above_atoms-atoms.result c.above_facts.result
    (rw c.from.ensures at c.above_exps-locals.ensures.value) (rw c.as_slice.ensures at c.above_atoms-atoms.ensures.value)
    (rw c.as_slice-2.ensures at c.above_facts.ensures.value)
