use Rattle.std.proofs.Common.{◌∙◌, sym}
use Rattle.c_parse_exprs.proofs.Steps.{name_stops}
use Rattle.c_parse_exprs.proofs.words.Words.take_name.Goals as goal

pub returns-then-not-sees-clause-value : goal.returns-then-not-sees-clause-value
returns-then-not-sees-clause-value c = name_stops c.wrong.result c.args.self.now (sym c.sees.ensures ∙ c.if-not-sees.true) c.wrong.ensures
