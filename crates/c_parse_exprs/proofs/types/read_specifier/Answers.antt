use Rattle.c_parse_exprs.proofs.TypeSteps.{specifier_stops}
use Rattle.c_parse_exprs.proofs.types.read_specifier.Goals as goal

pub returns-in_default-clause-value : goal.returns-in_default-clause-value
returns-in_default-clause-value c =
    specifier_stops c.wrong.result c.args.words.now c.first_class.result c.first_class.ensures c.wrong.ensures c.in_default.not-Int
    c.in_default.not-Void c.in_default.not-Struct c.in_default.not-Name
