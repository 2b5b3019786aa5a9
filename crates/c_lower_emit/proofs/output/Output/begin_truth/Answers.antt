use Rattle.std.proofs.Common.{sym, subst}
use Rattle.shape_data.specs.declared.program.Ty.TheVariants.{Int}
use Rattle.c_lower_emit.specs.Emitting.{BeginsTruth}
use Rattle.c_lower_emit.proofs.Using.{slot_is}
use Rattle.c_lower_emit.proofs.output.Output.begin_truth.Goals as goal

pub returns-in_ok-place-in-Value : goal.returns-in_ok-place-in-Value
returns-in_ok-place-in-Value c =
    subst (λ u. BeginsTruth u c.args.spot.first_temp c.args.self.now c.take.new.self c.saturating_add.result) (sym c.in-Value.is)
    (λ room. (
      slot_is c.args.spot.first_temp Int c.args.self.now c.in_ok-place-in-Value.place c.saturating_add.result room
          c.in_ok-place-in-Value.ensures.place c.saturating_add.ensures,
      c.in_ok-place-in-Value.ensures.temps,
    ))
