use Rattle.std.proofs.Common.{rules}
use Rattle.c_types.specs.Typing.{files_of}
use Rattle.c_types.proofs.Checked.{types_known}
use Rattle.c_types.proofs.checker.kinds_of.Goals as goal

pub returns-clause-known : goal.returns-clause-known
returns-clause-known c =
    types_known c.types_are_known.ensures (files_of c.args.typed.now.units.now) _ c.args.typed.now.typed.well_typed (search rules)
