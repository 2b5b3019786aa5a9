use Rattle.std.proofs.Common.{sym, ◌∙◌}
use Rattle.c_types_rules.specs.Programs.{refusals_of}
use Rattle.c_types.specs.Typing.{files_of}
use Rattle.c_types.proofs.checker.answer.Goals as goal

pub typed-requires-clause-well_typed : goal.typed-requires-clause-well_typed
typed-requires-clause-well_typed c =
    c.first_refusal.ensures.empty (refusals_of (files_of c.args.units.now)) (sym c.requires.refusal ∙ c.in-None.is)
