use Rattle.call_components.proofs.Queued.{held_alike, least_of}
use Rattle.call_components.proofs.places.Places.take.Goals as goal

pub returns-in-Some-clause-taken : goal.returns-in-Some-clause-taken
returns-in-Some-clause-taken c = λ other. held_alike (λ place. place.0) _ _ c.in-Some.ensures.permutation other

pub returns-in-Some-clause-least : goal.returns-in-Some-clause-least
returns-in-Some-clause-least c =
    λ other h. least_of (λ place. place.0) c.in-Some.field-0 _ (c.in-Some.ensures.heap_order c.args.self.now.ordered).1 other h
