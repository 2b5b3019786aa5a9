use Rattle.loaded_answers.specs.Lookup.{lookup}
use Rattle.solve_laws.specs.Solving.{solve}
use Rattle.bottom_up.proofs.LookedUp.{looked_up_are_right}
use Rattle.bottom_up.proofs.Reported.{are_reported}
use Rattle.bottom_up.proofs.laws.each_is_reported.Goals as goal

pub returns-clause-solved : goal.returns-clause-solved
returns-clause-solved c =
    λ loaded right. are_reported c.all_are_valid.ensures (lookup solve loaded)
    (looked_up_are_right
    (record {
      inductive = c.solved_is_inductive.ensures;
      formed = c.solved_is_well_formed.ensures.formed;
      reasons = λ key is. c.solved_has_reasons.ensures key;
    }) loaded right)

pub returns-clause-right : goal.returns-clause-right
returns-clause-right c = are_reported c.all_are_valid.ensures

pub returns-clause-looked_up : goal.returns-clause-looked_up
returns-clause-looked_up c =
    looked_up_are_right
    (record {
      inductive = c.solved_is_inductive.ensures;
      formed = c.solved_is_well_formed.ensures.formed;
      reasons = λ key is. c.solved_has_reasons.ensures key;
    })
