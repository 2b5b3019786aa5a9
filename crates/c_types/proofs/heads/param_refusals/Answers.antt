use Rattle.std.proofs.Common.{Bool, not, ap, ◌∙◌}
use Rattle.c_grammar.specs.declared.tokens.places.Place.{Place}
use Rattle.c_types_rules.specs.Types.{unless, LEFT_OUT}
use Rattle.c_types_rules.specs.Tables.{may_be_object}
use Rattle.c_types_rules.specs.Items.{is_hidden_by}
use Rattle.c_tree.specs.Syntax.{param_tree}
use Rattle.c_types_names.specs.FirstRefusal.{with_refusals}
use Rattle.c_types_names.proofs.FirstRefusals.{then}
use Rattle.c_types.proofs.heads.param_refusals.Goals as goal

pub returns : goal.returns
returns c = λ names is.
    let p = param_tree c.args.param.now in
    let place = c.place_of_specifier-place in
    then _ _ _ _ _
    (then _ _ _ _ _ c.specifier_refusals.ensures
    (c.unless.ensures
    ∙ ap (λ (b : Bool). with_refusals c.specifier_refusals.new.first (unless (not b) place.result LEFT_OUT))
    (c.is_hidden_by-hidden.ensures names is)
    ∙ ap (λ (at : Place). with_refusals c.specifier_refusals.new.first
    (unless (not (is_hidden_by names p.specifier)) at LEFT_OUT)) place.ensures))
    (c.unless-2.ensures
    ∙ ap (λ (b : Bool). with_refusals c.unless.new.self (unless b place.result LEFT_OUT)) c.may_be_object.ensures
    ∙ ap (λ (at : Place). with_refusals c.unless.new.self (unless (may_be_object p.specifier p.stars) at LEFT_OUT)) place.ensures)
