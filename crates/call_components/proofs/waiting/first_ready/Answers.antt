-- The least of those that are kept is taken, until one is not listed.
use Rattle.std.proofs.Common.{rules, ◌<◌, ◌∙◌, length, refl}
use Rattle.call_components.specs.Waiting.{places_in}
use Rattle.call_components.proofs.Held.{is_first_held}
use Rattle.call_components.proofs.waiting.first_ready.Goals as goal

pub bounds-all-place : goal.bounds-all-place
bounds-all-place c =
    c.requires c.in-Some.place
    (c.loop-place.invariant.own c.in-Some.place
    (c.in-Some.ensures.taken c.in-Some.place ∙ is_first_held c.in-Some.place (places_in c.take.new.self) c.in-Some.place refl))

pub offset_bounds-all-place : goal.offset_bounds-all-place
offset_bounds-all-place c =
    let within : c.in-Some.place
    < length c.args.all.now =
    c.requires c.in-Some.place
    (c.loop-place.invariant.own c.in-Some.place
    (c.in-Some.ensures.taken c.in-Some.place ∙ is_first_held c.in-Some.place (places_in c.take.new.self) c.in-Some.place refl)) in
    search rules
