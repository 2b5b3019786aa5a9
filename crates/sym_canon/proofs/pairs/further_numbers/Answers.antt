-- What came into sight is different, and no parameter.
use Rattle.std.proofs.Common.{◌≡◌, [], true, ◌≤◌, sym, subst, All, List, ℕ}
use Rattle.sym_parts.specs.Laws.Fresh.{are_different}
use Rattle.sym_canon.specs.declared.parts.Variables.TheVariants.{Further}
use Rattle.sym_canon.specs.Canonical.{sight_state, sight_pair}
use Rattle.sym_canon.proofs.NumberLaws.{seen-from}
use Rattle.sym_canon.proofs.SightLaws.{AreSeen, none-seen, state-seen}
use Rattle.sym_canon.proofs.pairs.further_numbers.Goals as goal

pub from-requires : goal.from-requires
from-requires c =
    let seen : List ℕ = sight_pair c.args.params c.args.missing.now c.args.state.now in
    let first : AreSeen (Further c.args.params) (sight_state (Further c.args.params) c.args.missing.now []) =
    state-seen (Further c.args.params) c.args.missing.now [] (none-seen (Further c.args.params)) in
    let are : AreSeen (Further c.args.params) seen =
    state-seen (Further c.args.params) c.args.state.now (sight_state (Further c.args.params) c.args.missing.now []) first in
    let same : c.see_state-2.new.seen.items ≡ seen =
    rw (c.in_ok-see_state.ensures, c.new-seen.ensures.items) at c.in_ok-see_state-2.ensures in
    record {
      different = subst (λ all. are_different all ≡ true) (sym same) are.different;
      from = subst (λ all. All (λ x. c.args.params ≤ x) all) (sym same) (seen-from (Further c.args.params) seen are);
    }
