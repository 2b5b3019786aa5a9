use Rattle.std.proofs.Common.{map, take, ap, ◌∙◌}
use Rattle.c_types_names.proofs.Binding.{map-take}
use Rattle.c_lower_exprs.specs.Slots.{bound_of}
use Rattle.c_lower_exprs.proofs.slots.Slots.truncate.Goals as goal

pub returns : goal.returns
returns c =
    ap (map bound_of) c.forget_behind.ensures.items
    ∙ map-take bound_of c.args.len c.self.inside.all.items
    ∙ ap (take c.args.len) c.self.view_is
