use Rattle.std.specs.Prelude.{◌≡◌, true, false}
use Rattle.std.proofs.Common.{rules}
use Rattle.solve_laws.specs.Certificates.Coverings.{covers_state, is_covered}
use Rattle.certificate_steps.proofs.Turns.{any-here, any-later}
use Rattle.certificate_steps.proofs.coverings.is_covered.Goals as goal

pub returns-then-branch : goal.returns-then-branch
returns-then-branch c =
    let passed : covers_state c.cover-item.result c.args.state.now ≡ true = search rules in
    any-here (λ cover. covers_state cover c.args.state.now) c.args.states.now c.loop-cover.cover-index c.cover-item.result
    c.loop-cover-test.true c.cover-item.is (is_covered c.args.states.now c.args.state.now) passed c.loop-cover.invariant

pub loop-cover-preserved : goal.loop-cover-preserved
loop-cover-preserved c =
    let failed : covers_state c.cover-item.result c.args.state.now ≡ false = search rules in
    any-later (λ cover. covers_state cover c.args.state.now) c.args.states.now c.loop-cover.cover-index c.cover-item.result
    c.loop-cover-test.true c.cover-item.is (is_covered c.args.states.now c.args.state.now) failed c.loop-cover.invariant
