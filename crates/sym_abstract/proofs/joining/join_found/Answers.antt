use Rattle.std.specs.Prelude.{IfOk}
use Rattle.std.proofs.Common.{◌≡◌, ◌∙◌, sym}
use Rattle.abstraction_laws.specs.Joining.{with_join}
use Rattle.sym_abstract.proofs.JoinTurns.{found-goes}
use Rattle.sym_abstract.proofs.joining.join_found.Goals as goal

pub returns-in-Some : goal.returns-in-Some
returns-in-Some c =
    λ may there. found-goes may c.args.atoms.items c.in-Some.place
    (λ o. IfOk c.with_join_at.result (λ made. made.items ≡ with_join c.args.atoms.items o)) c.with_join_at.ensures
    (sym c.in-Some.is ∙ there)
