-- The posts are taken as states.
use Rattle.std.proofs.Common.{◌≡◌, ◌∙◌, ap₂}
use Rattle.std.proofs.lemmas.Result.{IfOk-weaker}
use Rattle.sym_canon.specs.Canonical.{as_state}
use Rattle.sym_matching.specs.Covers.{matches_state}
use Rattle.subtraction.proofs.covering.matches_post.Goals as goal

pub returns : goal.returns
returns c =
    IfOk-weaker c.matches_state.result (λ matches. matches ≡ matches_state c.in_ok-one.one c.in_ok-other.other)
    (λ matches. matches ≡ matches_state (as_state c.args.a.now) (as_state c.args.b.now))
    (λ matches is. is ∙ ap₂ matches_state c.in_ok-one.ensures c.in_ok-other.ensures) c.matches_state.ensures
