-- The variables of the other state are few; the state with new numbers is the one that coverings match.
use Rattle.std.proofs.Common.{◌≡◌, ◌∙◌, ap}
use Rattle.std.proofs.lemmas.Result.{IfOk-weaker}
use Rattle.sym_matching.specs.Covers.{apart_from}
use Rattle.sym_matching.specs.Renaming.Coverings.{state_apart}
use Rattle.subtraction.proofs.StateConditions.{variables-few}
use Rattle.subtraction.proofs.covering.apart_from.Goals as goal

pub state_apart-requires-clause-used : goal.state_apart-requires-clause-used
state_apart-requires-clause-used c =
    rw c.as_slice.ensures.value (variables-few c.args.a.now c.in_ok-names.names.items c.requires.a c.in_ok-names.ensures)

pub returns : goal.returns
returns c =
    IfOk-weaker c.state_apart.result (λ s. s ≡ state_apart c.as_slice.result.now c.args.b.now)
    (λ s. s ≡ apart_from c.args.a.now c.args.b.now)
    (λ s is. is ∙ ap (λ used. state_apart used c.args.b.now) (c.as_slice.ensures.value ∙ c.in_ok-names.ensures)) c.state_apart.ensures
