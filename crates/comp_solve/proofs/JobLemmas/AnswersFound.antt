-- An answer that is found is right for the key that it is found by.
use Rattle.std.proofs.Common.{◌≡◌, List, Some, subst, sym}
use Rattle.std.specs.Prelude.{All}
use Rattle.shape_data.specs.declared.answer.Answer.{Answer}
use Rattle.shape_data.specs.declared.answer.Key.{Key}
use Rattle.component_keys.specs.Tests.{key_test}
use Rattle.component_keys.proofs.Basics.{found, mapped_some}
use Rattle.claim_core.specs.Views.{Solution}
use Rattle.loaded_answers.specs.Lookup.{first_answer, first_entry}
use Rattle.comp_solve.specs.Job.Solves.{IsStoredEntry}
use Rattle.claim_laws.proofs.Invariant.{all_at}

pub stored_found : (loaded : List Solution) → All IsStoredEntry loaded → (key : Key) (answer : Answer)
    → first_answer loaded key ≡ Some answer → IsStoredEntry (record { key = key; answer = answer })
stored_found loaded all key answer is =
    let one = mapped_some (λ (it : Solution). it.answer) (first_entry loaded key) answer is in
    let own = found (λ (it : Solution). key_test.0 it.key key) loaded one.0 one.1 in
    let same : one.0.key ≡ key = (key_test.1 one.0.key key).0 own.0 in
    let entry : IsStoredEntry one.0 = all_at IsStoredEntry loaded own.1.0 one.0 all own.1.1 in
    subst (λ (k : Key). IsStoredEntry (record { key = k; answer = answer })) same
    (subst (λ (a : Answer). IsStoredEntry (record { key = one.0.key; answer = a })) (sym one.2) entry)
