-- The cell at the place has the address.
use Rattle.std.proofs.Common.{◌≡◌, ◌∙◌, ◌<◌, true, false, length, sym, subst, rules, arith}
use mir.Syntax.{w128}
use mir.Val.{SFits}
use Rattle.std.specs.Prelude.{ℤ, int_lt}
use Rattle.std.specs.Ordering.{int_eq}
use Rattle.std.proofs.lemmas.Int.{to_z-of_z}
use Rattle.sym_samples.proofs.CellTurns.{goes_same}
use Rattle.sym_samples.proofs.cells.place_of.Goals as goal

pub returns-then-is_at-clause-puts : goal.returns-then-is_at-clause-puts
returns-then-is_at-clause-puts c =
    let inside : c.loop-place.place < length c.args.heap.now = omega arith in
    let fits : SFits w128 c.args.at = search rules in
    let before : int_lt c.args.at c.index-heap-place.result.at ≡ false =
    rw (to_z-of_z w128 c.args.at fits) at (sym c.is_before.ensures ∙ c.if-is_before.false) in
    let same : int_eq c.index-heap-place.result.at c.args.at ≡ true =
    rw (to_z-of_z w128 c.args.at fits) at (sym c.is_at.ensures ∙ c.if-is_at.true) in
    λ cell is. goes_same c.args.heap.now c.loop-place.place c.index-heap-place.result cell inside c.index-heap-place.is
    (c.loop-place.invariant cell (is ∙ sym (to_z-of_z w128 c.args.at fits)))
    (subst (λ (z : ℤ). int_lt z c.index-heap-place.result.at ≡ false) (sym is) before)
    (subst (λ (z : ℤ). int_eq c.index-heap-place.result.at z ≡ true) (sym is) same)
