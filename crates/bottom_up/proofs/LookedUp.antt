-- What is looked up is the answer of a loaded entry, or what solving gives.
use Rattle.std.proofs.Common.{◌≡◌, List, Some, None, Option, refl, subst, find, option_map, unwrap_or, All}
use Rattle.shape_data.specs.declared.answer.Answer.{Answer}
use Rattle.shape_data.specs.declared.answer.Key.{Key}
use Rattle.shape_data.specs.WellFormed.{HasReason, IsAnswer}
use Rattle.component_keys.specs.Tests.{key_test}
use Rattle.component_keys.proofs.Basics.{found}
use Rattle.claim_core.specs.Views.{Solution}
use Rattle.claim_laws.proofs.Invariant.{all_at}
use Rattle.solve_laws.specs.Certificates.Inductive.{Inductive}
use Rattle.solve_laws.specs.Certificates.Limits.{analysable}
use Rattle.solve_laws.specs.Solving.{solve}
use Rattle.loaded_answers.specs.Lookup.{lookup}
use Rattle.bottom_up.specs.Laws.{AreRight, IsRight, LookedUpAreRight}

-- what holds of each loaded entry, and of what solving gives, holds of it
pub looked_up : (Q : Solution → Type 0) (loaded : List Solution) → All Q loaded → (P : Key → Answer → Type 0) →
    ((one : Solution) → Q one → P one.key one.answer) →
    (key : Key) → P key (solve key) → P key (lookup solve loaded key)
looked_up Q loaded all P holds key solved = by_entry (find (λ (one : Solution). key_test.0 one.key key) loaded) refl
  where
    by_entry : (o : Option Solution) → find (λ (one : Solution). key_test.0 one.key key) loaded ≡ o →
        P key (unwrap_or (option_map (λ (one : Solution). one.answer) o) (solve key))
    by_entry None e = solved
    by_entry (Some entry) e =
        let there = found (λ (one : Solution). key_test.0 one.key key) loaded entry e in
        subst (λ k. P k entry.answer) ((key_test.1 entry.key key).0 there.0) (holds entry (all_at Q loaded there.1.0 entry all there.1.1))

pub looked_up_are_right : AreRight solve → LookedUpAreRight
looked_up_are_right solved loaded right = record {
  inductive = λ key is. looked_up IsRight loaded right Inductive (λ one own. own.inductive) key (solved.inductive key is);
  formed = λ key is. looked_up IsRight loaded right (IsAnswer analysable) (λ one own. own.formed) key (solved.formed key is);
  reasons =
      λ key is. looked_up IsRight loaded right (λ k answer. All HasReason answer.procs) (λ one own. own.reasons) key
      (solved.reasons key is);
}
