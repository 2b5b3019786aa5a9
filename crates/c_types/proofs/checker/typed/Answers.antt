use Rattle.c_types.specs.Typing.{files_of}
use Rattle.c_types.proofs.Checked.{typed_is}
use Rattle.c_types.proofs.checker.typed.Goals as goal

pub invariant_of-result : goal.invariant_of-result
invariant_of-result c = record {
  typed = typed_is (files_of c.args.units.now) c.args.tables c.in_ok-structs.structs c.requires.well_typed c.requires.tables
      c.in_ok-structs.ensures;
}
