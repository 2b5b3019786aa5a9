use Rattle.std.proofs.Common.{[], ap, ◌∙◌}
use Rattle.c_grammar.specs.declared.tokens.places.Place.{Place}
use Rattle.c_types_rules.specs.Tables.{Tables, kind_of_result}
use Rattle.c_types_rules.specs.Programs.{known}
use Rattle.c_types_names.specs.Seen.{type_seen}
use Rattle.c_lower_rules.specs.Contexts.{Context}
use Rattle.c_tree.specs.Syntax.{head_tree}
use Rattle.c_lower_exprs.proofs.Beginning.{body_begun}
use Rattle.c_lower_exprs.proofs.context.Context.begin.Goals as goal

pub returns-clause-body : goal.returns-clause-body
returns-clause-body c =
    body_begun c.args.self.now.env.tables
    (head_tree c.args.head.now) c.args.locals c.clear.new.self c.add_params.new.env c.truncate.new.self c.bind_params.new.bound
    c.param_count-self-inside.result c.saturating_add-self-inside.result c.place_of_specifier.result.line
    (type_seen c.known-self-inside.result)
    (c.clear.ensures ∙ ap (λ (x : Context). record { tables = x.env.tables; scopes = record { here = []; around = [] } }) c.self.view_is)
    c.truncate.ensures c.in_ok-add_params.ensures.env c.in_ok-bind_params.ensures c.param_count-self-inside.ensures
    c.saturating_add-self-inside.ensures
    (c.known-self-inside.ensures
    ∙ ap known (c.kind_of_result.ensures ∙ ap (λ (t : Tables). kind_of_result t (head_tree c.args.head.now)) c.tables.ensures))
    (ap (λ (p : Place). p.line) c.place_of_specifier.ensures)
