use Rattle.std.proofs.Common.{sym, ap, ◌∙◌, subst}
use Rattle.std.specs.Prelude.{pos}
use Rattle.shape_data.specs.declared.program.Operand.TheVariants.{Num}
use Rattle.shape_data.specs.declared.program.Ty.TheVariants.{Int}
use Rattle.c_lower_rules.specs.Contexts.{Context, at_place}
use Rattle.c_lower_rules.specs.Values.{at_hand}
use Rattle.c_lower_emit.specs.Emitting.{Out, EmitsTested}
use Rattle.c_lower_stmts.proofs.Releasing.{released_out, test_released}
use Rattle.c_lower_stmts.proofs.heads.forever.Goals as goal

pub returns : goal.returns
returns c = λ line locals.
    let ctx = at_place c.args.context.now c.args.place in
    test_released c.args.context.now.first_temp
    ((at_hand ctx Int (Num (pos 1))).test (released_out c.args.out.now).temps) c.args.out.now c.at_hand.new.self
    (subst (λ (o : Out). EmitsTested
    ((at_hand ctx Int (Num (pos 1))).test o.temps) c.args.context.now.first_temp o c.at_hand.new.self) c.release.ensures
    (subst (λ f. EmitsTested ((at_hand ctx Int (Num (pos 1))).test c.release.new.self.temps) f c.release.new.self c.at_hand.new.self)
    (c.spot.ensures.first_temp ∙ ap (λ (x : Context). x.first_temp) c.at-site.ensures)
    (c.in_ok-at_hand.ensures ctx (sym (c.spot.ensures.line ∙ ap (λ (x : Context). x.line) c.at-site.ensures)))))
