use Rattle.std.proofs.Common.{sym}
use Rattle.call_components.proofs.Queued.{held_alike}
use Rattle.call_components.proofs.places.Places.add.Goals as goal

pub returns : goal.returns
returns c = λ other. sym (held_alike (λ place. place.0) _ _ c.in_ok-push.ensures.permutation other)
