use Rattle.std.proofs.Common.{map, take, ap, ◌∙◌}
use Rattle.c_types_names.specs.Bindings.{variable_of}
use Rattle.c_types_names.proofs.Binding.{map-take}
use Rattle.c_types_names.proofs.variables.Variables.truncate.Goals as goal

pub returns : goal.returns
returns c =
    ap (map variable_of) c.forget_behind.ensures.items
    ∙ map-take variable_of c.args.len c.self.inside.all.items
    ∙ ap (take c.args.len) c.self.view_is
