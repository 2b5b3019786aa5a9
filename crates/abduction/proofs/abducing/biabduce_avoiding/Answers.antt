-- The laws of the definition.
use Rattle.std.proofs.lemmas.Result.{IfOk-weaker}
use Rattle.std.proofs.Common.{◌≡◌}
use Rattle.sym_matching.specs.Matches.{biabduce_avoiding}
use Rattle.sym_matching.proofs.GivesLaws.{biabduce_gives_beside}
use Rattle.sym_matching.proofs.MissingLaws.{missing_is_logical}
use Rattle.abduction.specs.Found.{IsLogical, SplitsBeside}
use Rattle.abduction.proofs.FoundLaws.{found_beside, found_logical}
use Rattle.abduction.proofs.abducing.biabduce_avoiding.Goals as goal

pub returns-clause-logical : goal.returns-clause-logical
returns-clause-logical c =
    IfOk-weaker c.find.result
    (λ found. found
    ≡ biabduce_avoiding c.args.a.now c.args.b.now c.args.bound.now c.args.flexible.now c.args.fresh c.args.avoid.now) IsLogical
    (λ found is. found_logical c.args.a.now c.args.b.now c.args.bound.now c.args.flexible.now c.args.fresh c.args.avoid.now found is
    missing_is_logical) c.find.ensures

pub returns-clause-beside : goal.returns-clause-beside
returns-clause-beside c =
    IfOk-weaker c.find.result
    (λ found. found ≡ biabduce_avoiding c.args.a.now c.args.b.now c.args.bound.now c.args.flexible.now c.args.fresh c.args.avoid.now)
    (SplitsBeside c.args.a.now c.args.b.now c.args.bound.now c.args.flexible.now c.args.avoid.now)
    (λ found is. found_beside c.args.a.now c.args.b.now c.args.bound.now c.args.flexible.now c.args.fresh c.args.avoid.now found is
    biabduce_gives_beside) c.find.ensures
