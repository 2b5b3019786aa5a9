use Rattle.std.proofs.Common.{◌∙◌, sym, ap}
use Rattle.composed_keys.specs.Programs.{number_called}
use Rattle.composed_keys.proofs.programs.called_number.Goals as goal

pub returns-in-Call : goal.returns-in-Call
returns-in-Call c = c.first_named.ensures ∙ sym (ap (number_called c.args.names.now) c.in-Call.is)
