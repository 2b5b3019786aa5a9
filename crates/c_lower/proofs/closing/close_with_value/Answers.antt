use Rattle.std.proofs.Common.{sym, ap, ◌∙◌}
use Rattle.std.proofs.lemmas.Result.{on_ok_weaker}
use Rattle.shape_data.specs.declared.program.Cmd.TheVariants as cmd
use Rattle.c_types_names.specs.Seen.{type_seen}
use Rattle.c_lower_emit.specs.declared.drafts.Label.TheVariants.{Next}
use Rattle.c_lower_emit.specs.Emitting.{with_draft}
use Rattle.c_lower.proofs.Closed.{value_closed}
use Rattle.c_lower.proofs.closing.close_with_value.Goals as goal

pub returns : goal.returns
returns c =
    let site = c.args.site.now in
    on_ok_weaker c.push.result (λ pushes.
    value_closed site
    (type_seen c.args.kind) c.in_ok-type_of.field-0 site.line c.spot.result.first_temp c.args.out.now c.make.new.self c.push.new.self
    c.in_ok-value.value
    c.in_ok-type_of.ensures c.spot.ensures.first_temp (λ at line first. c.in_ok-value.ensures at (line ∙ sym c.spot.ensures.line) first)
    (pushes ∙ ap (λ line. with_draft line (cmd.Return c.in_ok-value.value) Next Next c.make.new.self) c.line.ensures))
    c.push.ensures
