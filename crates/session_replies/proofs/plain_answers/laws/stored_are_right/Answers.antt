-- What is within the limits of a store is within those of the analysis.
use Rattle.shape_data.specs.WellFormed.{storable}
use Rattle.solve_laws.specs.Certificates.Limits.{analysable}
use Rattle.key_laws.proofs.Elements.{all_where}
use Rattle.bottom_up.specs.Laws.{IsRight}
use Rattle.comp_solve.specs.Job.Solves.{IsStoredEntry}
use Rattle.session_replies.proofs.plain_answers.laws.stored_are_right.Goals as goal

pub returns : goal.returns
returns c = λ loaded stored.
    all_where IsStoredEntry IsRight loaded
    (λ i one at own. record {
      inductive = own.right.inductive;
      formed = c.limits_widen.ensures.answers storable analysable one.key one.answer c.limits_widen.ensures.known.0 own.storable.answers;
      reasons = own.storable.reasons;
    }) stored
