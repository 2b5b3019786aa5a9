-- The key of the claim stands in the log.
use Rattle.std.proofs.Common.{◌≡◌, ◌∙◌, ◌↔◌, IsTrue, map, sym, ap, subst, Some, Option}
use Rattle.std.specs.Option.{option_copied}
use Rattle.shape_data.specs.declared.answer.Callee.{Callee}
use Rattle.shape_data.specs.declared.answer.Key.{Key}
use Rattle.summary_book.specs.Places.{key_at}
use Rattle.summary_book.specs.Rows.{known_row}
use Rattle.summary_book.specs.Settled.{HasKnown}
use Rattle.summary_book.proofs.settled.has_known.Goals as goal

pub returns-in-Some : goal.returns-in-Some
returns-in-Some c =
    let e : key_at c.args.log.now c.args.claimed ≡ Some c.in-Some.key.now = sym c.key_at.ensures ∙ ap option_copied c.in-Some.is in
    subst (λ (o : Option Key). IsTrue c.are_known.result
    ↔ HasKnown c.args.parts.now.program.value c.args.log.now c.args.slots.now c.args.outer.now o) (sym e)
    (subst (λ p. IsTrue c.are_known.result
    ↔ (map (known_row p c.args.log.now c.args.slots.now) c.args.outer.now
    ≡ map (λ (callee : Callee). Some callee) c.in-Some.key.now.callees)) c.deref.ensures
    (subst (λ l. IsTrue c.are_known.result
    ↔ (map (known_row c.deref.result.now c.args.log.now c.args.slots.now) c.args.outer.now
    ≡ map (λ (callee : Callee). Some callee) l)) c.deref-in-Some.ensures c.are_known.ensures))
