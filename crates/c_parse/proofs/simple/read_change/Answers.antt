use Rattle.c_tree.specs.Syntax.{expr_tree}
use Rattle.c_parse.proofs.Cases.{assign_stops}
use Rattle.c_parse.proofs.simple.read_change.Goals as goal

pub returns-in_default-clause-value : goal.returns-in_default-clause-value
returns-in_default-clause-value c =
    let d = c.in_default in
    assign_stops c.wrong.result c.args.levels
    (expr_tree c.args.target) c.args.words.now c.first_class.result c.first_class.ensures c.wrong.ensures
    d.not-Set d.not-AddTo d.not-SubtractFrom d.not-MultiplyBy d.not-Increment d.not-Decrement
