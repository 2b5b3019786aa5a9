use Rattle.std.proofs.Common.{◌≤◌, List, is_some, drop, length, sym, ap, ◌∙◌, subst}
use Rattle.std.proofs.lemmas.List.{length-map}
use Rattle.c_types_rules.specs.Scopes.{variable_in}
use Rattle.c_types_names.specs.declared.variables.Variable.{Variable}
use Rattle.c_types_names.specs.Seen.{stacked}
use Rattle.c_types_names.specs.Bindings.{variable_of}
use Rattle.c_types_names.proofs.Binding.{is_from, bound_from}
use Rattle.c_types_names.proofs.variables.Variables.has_from.Goals as goal

pub returns-in-None : goal.returns-in-None
returns-in-None c =
    let within : c.args.begin ≤ length c.self.inside.all.items =
    subst (λ k. c.args.begin ≤ k) (ap length (sym c.self.view_is) ∙ length-map c.self.inside.all.items variable_of) c.requires in
    ap (is_from c.args.begin) (sym c.in-None.is ∙ c.binding_of.ensures ∙ c.self.invariant.found c.args.name.now)
    ∙ bound_from c.self.inside.all.items c.args.begin c.args.name.now within
    ∙ ap (λ (vs : List Variable). is_some (variable_in (stacked (drop c.args.begin vs)) c.args.name.now)) c.self.view_is

pub returns-in-Some : goal.returns-in-Some
returns-in-Some c =
    let within : c.args.begin ≤ length c.self.inside.all.items =
    subst (λ k. c.args.begin ≤ k) (ap length (sym c.self.view_is) ∙ length-map c.self.inside.all.items variable_of) c.requires in
    ap (is_from c.args.begin) (sym c.in-Some.is ∙ c.binding_of.ensures ∙ c.self.invariant.found c.args.name.now)
    ∙ bound_from c.self.inside.all.items c.args.begin c.args.name.now within
    ∙ ap (λ (vs : List Variable). is_some (variable_in (stacked (drop c.args.begin vs)) c.args.name.now)) c.self.view_is
