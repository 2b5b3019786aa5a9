use Rattle.std.proofs.Common.{sym, subst}
use Rattle.c_types.specs.Typing.{files_of}
use Rattle.c_lower_exprs.specs.Contexts.{FieldsFit}
use Rattle.c_lower.proofs.FewFields.{fields_fit}
use Rattle.c_lower.proofs.lowering.lower.Goals as goal

pub new-context-requires : goal.new-context-requires
new-context-requires c =
    subst FieldsFit (sym c.args.typed.typed.tables)
    (fields_fit (files_of c.args.typed.units.now) c.requires.fields)
