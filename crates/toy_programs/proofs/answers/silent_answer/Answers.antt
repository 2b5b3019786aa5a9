use Rattle.std.proofs.Common.{false, List, sym, subst}
use Rattle.shape_data.specs.declared.answer.Answer.{Answer}
use Rattle.shape_data.specs.declared.program.Flow.{Flow}
use Rattle.shape_data.specs.WellFormed.{storable, AreSummaries, IsStorableAnswer}
use Rattle.toy_programs.proofs.answers.silent_answer.Goals as goal

pub returns-clause-storable : goal.returns-clause-storable
returns-clause-storable c =
    let own : Answer = record { stored = false; procs = c.in_ok-silent_summaries.field-0 } in
    let answers : IsStorableAnswer c.args.key.now own = record {
      answers =
          subst (λ (l : List Flow). AreSummaries storable c.args.key.now.structs l c.in_ok-silent_summaries.field-0) c.deref.ensures
          (c.in_ok-silent_summaries.ensures.are c.args.key.now.structs);
      reasons = c.in_ok-silent_summaries.ensures.reasons;
    } in
    subst (IsStorableAnswer c.args.key.now) (sym c.in_ok-new.ensures.ok) answers
