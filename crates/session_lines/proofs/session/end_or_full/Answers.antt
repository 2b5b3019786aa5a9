-- A byte stands ahead.
use Rattle.std.proofs.Common.{◌≢◌, List, ℕ, [], Option, sym, subst}
use Rattle.std.specs.Prelude.{IfSome}
use Rattle.session_lines.proofs.Streams.{not_empty}
use Rattle.session_lines.proofs.session.end_or_full.Goals as goal

pub returns-in-More-clause-ends : goal.returns-in-More-clause-ends
returns-in-More-clause-ends g c =
    subst (λ (told : Option (List ℕ)). IfSome told (λ stream. stream ≢ [])) (sym c.fill_if_empty.ensures.stream)
    (not_empty c.fill_if_empty.new.self (g.S.Source.left c.fill_if_empty.new.source) (c.in_ok-fill_if_empty.ensures.more c.in-More.is))
