-- What came into sight is different, and existential.
use Rattle.std.proofs.Common.{◌≡◌, [], true, ◌≤◌, sym, subst, All, List, ℕ}
use Rattle.sym_parts.specs.Laws.Fresh.{are_different}
use Rattle.sym_canon.specs.declared.parts.Variables.TheVariants.{Existential}
use Rattle.sym_canon.specs.Canonical.{sight_state}
use Rattle.sym_canon.proofs.NumberLaws.{seen-from}
use Rattle.sym_canon.proofs.SightLaws.{AreSeen, none-seen, state-seen}
use Rattle.sym_canon.proofs.states.existential_numbers.Goals as goal

pub from-requires : goal.from-requires
from-requires c =
    let seen : List ℕ = sight_state Existential c.args.state.now [] in
    let are : AreSeen Existential seen = state-seen Existential c.args.state.now [] (none-seen Existential) in
    let same : c.see_state.new.seen.items ≡ seen = rw c.new-seen.ensures.items at c.in_ok-see_state.ensures in
    record {
      different = subst (λ all. are_different all ≡ true) (sym same) are.different;
      from = subst (λ all. All (λ x. 65536 ≤ x) all) (sym same) (seen-from Existential seen are);
    }
