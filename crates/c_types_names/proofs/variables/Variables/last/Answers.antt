use Rattle.std.proofs.Common.{option_map, sym, ap, ◌∙◌}
use Rattle.c_types_rules.specs.Scopes.{variable_in}
use Rattle.c_types_names.specs.Seen.{variable_seen, stacked}
use Rattle.c_types_names.specs.Bindings.{bound_of}
use Rattle.c_types_names.proofs.Binding.{variable_bound, last_is}
use Rattle.c_types_names.proofs.variables.Variables.last.Goals as goal

pub returns-in-None : goal.returns-in-None
returns-in-None c =
    ap (option_map (λ b. variable_seen (variable_bound b))) (sym c.in-None.is ∙ c.binding_of.ensures)
    ∙ last_is (bound_of c.self.inside.bindings) c.self.inside.all.items c.self.invariant.found c.args.name.now
    ∙ ap (λ vs. variable_in (stacked vs) c.args.name.now) c.self.view_is

pub returns-in-Some : goal.returns-in-Some
returns-in-Some c =
    ap (option_map (λ b. variable_seen (variable_bound b))) (sym c.in-Some.is ∙ c.binding_of.ensures)
    ∙ last_is (bound_of c.self.inside.bindings) c.self.inside.all.items c.self.invariant.found c.args.name.now
    ∙ ap (λ vs. variable_in (stacked vs) c.args.name.now) c.self.view_is
