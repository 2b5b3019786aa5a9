-- Its first node returns its parameter.
use Rattle.std.proofs.Common.{refl, lit<, [], ◌∷◌}
use Rattle.std.specs.declared.option.Option.TheVariants.{None}
use Rattle.shape_data.specs.declared.program.Cmd.TheVariants as cmd
use Rattle.shape_data.specs.declared.program.Operand.TheVariants.{Slot}
use Rattle.sym_parts.specs.Shapes.Returns.{ReturnsAtOnce, identity_flow, identity_program}
use Rattle.sym_parts.proofs.ShapesLemmas.Returning.{parameter-Valid}
use Rattle.sym_parts.proofs.shapes.returns.identity_is_valid.Goals as goal

pub returns : goal.returns
returns c =
    let at_once : ReturnsAtOnce identity_program 0 (Slot 0) = record {
      proc = record { flow = identity_flow; file = 97 ∷ 46 ∷ 99 ∷ []; line = 1 };
      node = record { line = 0; cmd = cmd.Return (Slot 0); head = None };
      is_proc = refl;
      is_first = refl;
      is_return = refl;
    } in
    parameter-Valid identity_program 0 0 at_once (lit< tt) (lit< tt)
