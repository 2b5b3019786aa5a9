-- The last number is listed.
use Rattle.std.proofs.Common.{◌≡◌, ◌-◌, ◌∙◌, length, take, Some, sym, ap, subst}
use Rattle.std.specs.List.{slice_get}
use Rattle.call_components.specs.Waiting.{AreNeeded}
use Rattle.call_components.proofs.Queued.{last_listed}
use Rattle.call_components.proofs.waiting.last_missing.Goals as goal

pub loop-number-preserved : goal.loop-number-preserved
loop-number-preserved c =
    let lengths : c.loop-number.row.len ≡ length c.loop-number.row.items = c.loop-number.row.ok.0 in
    let rest : c.pop-listed.new.self.items ≡ take (length c.loop-number.row.items - 1) c.loop-number.row.items =
    c.pop-listed.ensures.rest ∙ ap (λ n. take (n - 1) c.loop-number.row.items) lengths in
    let last : slice_get c.deref.result.now (length c.deref.result.now - 1) ≡ Some c.in-Some.number.now = sym c.in-Some.ensures.value in
    subst (AreNeeded c.args.listed.now c.args.row.now.items) (sym rest)
    (last_listed c.args.listed.now c.args.row.now.items c.loop-number.row.items c.in-Some.number.now c.loop-number.invariant
    (subst (λ l. slice_get l (length l - 1) ≡ Some c.in-Some.number.now) c.deref.ensures.value last)
    (sym c.is_marked.ensures ∙ c.if-not-is_marked.false))
