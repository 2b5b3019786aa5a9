use Rattle.std.specs.Prelude.{◌≡◌, true, false}
use Rattle.std.proofs.Common.{rules}
use Rattle.solve_laws.specs.Certificates.Coverings.{covers_post, is_post_covered}
use Rattle.certificate_steps.proofs.Turns.{any-here, any-later}
use Rattle.certificate_steps.proofs.coverings.is_post_covered.Goals as goal

pub returns-then-branch : goal.returns-then-branch
returns-then-branch c =
    let passed : covers_post c.cover-item.result c.args.post.now ≡ true = search rules in
    any-here (λ cover. covers_post cover c.args.post.now) c.args.posts.now c.loop-cover.cover-index c.cover-item.result
    c.loop-cover-test.true c.cover-item.is (is_post_covered c.args.posts.now c.args.post.now) passed c.loop-cover.invariant

pub loop-cover-preserved : goal.loop-cover-preserved
loop-cover-preserved c =
    let failed : covers_post c.cover-item.result c.args.post.now ≡ false = search rules in
    any-later (λ cover. covers_post cover c.args.post.now) c.args.posts.now c.loop-cover.cover-index c.cover-item.result
    c.loop-cover-test.true c.cover-item.is (is_post_covered c.args.posts.now c.args.post.now) failed c.loop-cover.invariant
