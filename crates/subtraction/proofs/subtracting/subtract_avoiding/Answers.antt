-- What is missing goes.
use Rattle.std.proofs.Common.{◌∙◌, sym}
use Rattle.sym_matching.specs.declared.matching.Mode.TheVariants.{Subtract}
use Rattle.sym_matching.specs.Matches.{matching, rules_of}
use Rattle.subtraction.proofs.SubtractSteps.{found-subtracted, stuck-subtracted}
use Rattle.subtraction.proofs.subtracting.subtract_avoiding.Goals as goal

pub returns-in-Found : goal.returns-in-Found
returns-in-Found c =
    found-subtracted (rules_of Subtract c.args.a.now c.args.flexible.now) c.args.b.now
    (matching Subtract c.args.a.now c.args.b.now c.args.bound.now c.args.flexible.now c.args.avoid.now 0) c.in-Found.missing
    c.in-Found.frame c.in-Found.binding
    (sym c.in-Found.is ∙ c.in_ok-found.ensures)

pub returns : goal.returns
returns c =
    stuck-subtracted (rules_of Subtract c.args.a.now c.args.flexible.now) c.args.b.now
    (matching Subtract c.args.a.now c.args.b.now c.args.bound.now c.args.flexible.now c.args.avoid.now 0) c.in-NoMatch.wanted
    (sym c.in-NoMatch.is ∙ c.in_ok-found.ensures)
