-- The number and the key of the row are those of the claim.
use Rattle.std.proofs.Common.{◌≡◌, ◌∙◌, sym, ap}
use Rattle.std.specs.Option.{option_copied}
use Rattle.component_keys.proofs.Basics.{some_same}
use Rattle.summary_book.proofs.OutstandingRows.{claim_test}
use Rattle.summary_book.proofs.outstanding.is_claim.Goals as goal

pub returns-in-Some : goal.returns-in-Some
returns-in-Some c = λ program out is.
    let key : out.key ≡ c.in-Some.key.now = some_same (sym is.key_is ∙ sym c.key_at.ensures ∙ ap option_copied c.in-Some.is) in
    let number : out.number ≡ c.args.claim.now.number = sym is.number ∙ c.if-row-number.false ∙ c.number.ensures in
    let wanted : c.deref-wanted.result.now ≡ c.args.claim.now.key = c.deref-wanted.ensures ∙ c.key.ensures.key in
    claim_test c.args.claim.now out c.is_same.result c.in-Some.key.now number key (λ t. c.is_same.ensures.0 t ∙ wanted)
    (λ e. c.is_same.ensures.1 (e ∙ sym wanted))
