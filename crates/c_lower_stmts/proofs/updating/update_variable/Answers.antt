use Rattle.shape_data.specs.declared.program.Operand.TheVariants.{Slot}
use Rattle.shape_data.specs.declared.program.Ty.TheVariants.{Int}
use Rattle.c_lower_rules.specs.Values.{at_hand}
use Rattle.c_lower_stmts.specs.Amounts.{amount}
use Rattle.c_lower_stmts.proofs.AtHand.{at_hand_lowered}
use Rattle.c_lower_stmts.proofs.updating.update_variable.Goals as goal

pub returns : goal.returns
returns c = λ numbers.
    let ctx = c.args.site.now in
    let lowered = c.in_ok-arithmetic.ensures (at_hand ctx Int (Slot c.args.to)) (amount ctx c.args.by) c.args.out.now c.args.out.now
    (at_hand_lowered ctx c.args.site.now.first_temp c.args.out.now _) (c.in_ok-by.ensures numbers) in
    lowered.emits
