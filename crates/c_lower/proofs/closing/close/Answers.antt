use Rattle.std.proofs.Common.{◌-◌, length, refl, subst}
use Rattle.std.proofs.lemmas.Result.{on_ok_weaker}
use Rattle.c_types_names.specs.Seen.{type_seen}
use Rattle.c_lower_rules.specs.Contexts.{Context}
use Rattle.c_lower_rules.specs.Temporaries.{take_temp}
use Rattle.c_lower_emit.specs.declared.drafts.Label.TheVariants.{At}
use Rattle.c_lower_emit.specs.Emitting.{HasRoom, EmitsCode}
use Rattle.c_lower.specs.Closing.{value_closing}
use Rattle.c_lower.proofs.Closed.{closed_with_value}
use Rattle.c_lower.proofs.closing.close.Goals as goal

pub returns-in_default : goal.returns-in_default
returns-in_default c =
    let before = c.args.context.now in
    let kind = type_seen c.result.result in
    let o = c.release.new.self in
    on_ok_weaker c.close_with_value.result (λ emits.
    closed_with_value before
    (c.args.place.line - before.first_line) c.args.place c.result.result c.args.out.now o c.close_with_value.new.out c.in_default.not-Void
    c.result.ensures refl c.release.ensures
    (subst (λ (site : Context). HasRoom site.first_temp 1 o
    → EmitsCode (value_closing site kind (take_temp kind o.temps)).code (take_temp kind o.temps).temps
    (At (length o.nodes)) o c.close_with_value.new.out) c.at-site.ensures emits))
    c.close_with_value.ensures
