use Rattle.std.proofs.Common.{◌+◌, min, ap, ◌∙◌}
use Rattle.std.proofs.lemmas.Result.{on_ok_weaker}
use Rattle.std.specs.Prelude.{pos}
use Rattle.shape_data.specs.declared.program.Cmd.TheVariants as cmd
use Rattle.shape_data.specs.declared.program.Operand.TheVariants.{Num}
use Rattle.c_lower_emit.specs.declared.drafts.Label.TheVariants.{Next}
use Rattle.c_lower_emit.specs.Emitting.{with_draft}
use Rattle.c_lower_stmts.proofs.Zeroing.{zero_put}
use Rattle.c_lower_stmts.proofs.storing.zero.Goals as goal

pub returns : goal.returns
returns c = on_ok_weaker c.push.result (λ pushes.
    zero_put c.args.site.now.first_temp c.args.site.now.line c.args.out.now c.take.new.self c.push.new.self c.in_ok-place.place
    c.saturating_add.result
    c.in_ok-place.ensures.temps c.in_ok-place.ensures.place
    (c.saturating_add.ensures ∙ ap (λ f. min (f + c.in_ok-place.place) 4294967295) c.first_temp.ensures)
    (pushes ∙ ap
    (λ l. with_draft l (cmd.Copy c.saturating_add.result (Num (pos 0)) 0) Next Next c.take.new.self) c.line.ensures)) c.push.ensures
