-- By whether an entry with the key was loaded.
use Rattle.std.proofs.Common.{◌≡◌, Option, Some, None, false, true, sym, ◌∙◌, inl, inr}
use Rattle.std.specs.Option.{unwrap_or}
use Rattle.shape_data.specs.declared.answer.Answer.{Answer}
use Rattle.claim_core.specs.Views.{Solution}
use Rattle.loaded_answers.specs.Lookup.{IsFoundOrSolved, first_answer}
use Rattle.solve_laws.specs.Solving.{solve}
use Rattle.comp_solve.specs.Job.Solves.{Solves}
use Rattle.comp_solve.proofs.job.laws.agreed_are_looked_up.Goals as goal

by_found : (one : Solution) → Solves one.key one.answer → (found : Option Answer) → IsFoundOrSolved found one.answer
    → one.answer ≡ unwrap_or found (solve one.key)
by_found one solves (Some found) same = same
by_found one (inl is) None fresh = is
by_found one (inr stored) None fresh = let clash : true ≡ false = sym stored.stored ∙ fresh in absurd cc

pub returns : goal.returns
returns c = λ loaded one solves agrees. by_found one solves (first_answer loaded one.key) agrees
