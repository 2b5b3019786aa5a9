-- Answers from the bottom up are valid: by induction on their places.
use Rattle.std.specs.Prelude.{ℕ, zero, suc, ◌<◌, List, Contains}
use Rattle.std.proofs.Common.{ap, ◌∙◌, arith}
use Rattle.std.proofs.lemmas.List.Elements.{All-contains, All-weaker}
use Rattle.shape_data.specs.declared.answer.Answer.{Answer}
use Rattle.shape_data.specs.declared.answer.Callee.{Callee}
use Rattle.shape_data.specs.declared.answer.Key.{Key}
use Rattle.shape_data.specs.declared.program.Flow.{Flow}
use Rattle.shape_data.specs.declared.program.Program.{Program}
use Rattle.shape_data.specs.Valid.{Valid}
use Rattle.sym_parts.proofs.ShapesLemmas.StepsStacks.{All-at}
use Rattle.sound_laws.specs.Answers.{AreValidIn, StandAt}
use Rattle.sound_laws.specs.BottomUp.{IsAnsweredBefore, IsSoundAt, AreBottomUp, BottomUpIsValid}
use Rattle.sound_laws.specs.Procedures.{HasFlow, IsValidCallee}
use Rattle.sound_laws.proofs.ProcedureLemmas.{found_as}

module _ (program : Program) (keys : List Key) (answers : List Answer) (bottom_up : AreBottomUp program keys answers) where
  all_valid : (count at : ℕ) (key : Key) (answer : Answer) → at < count → StandAt keys answers at key answer → AreValidIn program key answer
  all_valid zero at key answer below stand = absurd (omega arith)
  all_valid (suc count) at key answer below stand =
      let here : IsSoundAt program keys answers at key answer = bottom_up at key answer stand in
      here.sound (record {
        structs = here.structs;
        own = here.flows;
        outer = All-weaker (IsAnsweredBefore keys answers at) (IsValidCallee program)
            (of_callee (λ before one its less stood. all_valid count before one its (omega arith) stood)) key.callees here.callees;
      })
    where
      -- a callee that is answered at an earlier place, where all answers are valid
      of_callee : ((before : ℕ) (one : Key) (its : Answer) → before < at → StandAt keys answers before one its →
          AreValidIn program one its) →
          (callee : Callee) → IsAnsweredBefore keys answers at callee → IsValidCallee program callee
      of_callee earlier callee (before, one, its, less, stood, answered) =
          let there : IsSoundAt program keys answers before one its = bottom_up before one its stood in
          let place = answered.summarized in
          let stands : HasFlow program answered.flow = All-at (HasFlow program) one.procs place.0 answered.flow there.flows place.1.0 in
          let valid =
          earlier before one its less stood answered.flow answered.summary place stands.number stands.proc stands.found in record {
            number = stands.number;
            proc = stands.proc;
            found = found_as program answered.flow.name callee.name stands.number stands.proc answered.name stands.found;
            params = ap (λ (flow : Flow). flow.params) stands.same ∙ answered.params;
            valid = All-weaker (Contains answered.summary.specs) (Valid program stands.number)
                (λ spec has. All-contains (Valid program stands.number) answered.summary.specs spec valid has) callee.specs answered.specs;
          }

pub bottom_up_is_valid : BottomUpIsValid
bottom_up_is_valid program keys answers bottom_up at key answer stand =
    let below : at < suc at = omega arith in
    all_valid program keys answers bottom_up (suc at) at key answer below stand
