-- Each turn is one of the definition.
use Rattle.std.proofs.Common.{◌≡◌, ◌∙◌, ◌<◌, length, sym, Some, None, arith}
use Rattle.std.specs.List.{slice_get}
use Rattle.sym_pure.specs.Emptying.{place_of_empty, with_equal_ends}
use Rattle.sym_pure.proofs.TurnSteps.{settle-none, settle-clash, settle-more}
use Rattle.sym_pure.proofs.emptying.settle.Goals as goal

pub returns-in-None : goal.returns-in-None
returns-in-None c =
    let none : None ≡ place_of_empty c.loop-turn.current c.loop-turn.left =
    rw (c.as_slice.ensures, c.as_slice-in-loop-turn.ensures) at c.in-None.ensures.first in
    let inside : c.loop-turn._turn < length c.args.atoms = omega arith in
    sym (c.loop-turn.invariant ∙ settle-none (length c.args.atoms) c.loop-turn._turn c.loop-turn.current c.loop-turn.left inside none)

pub returns-in-None-2 : goal.returns-in-None-2
returns-in-None-2 c =
    let some : Some c.in-Some.place ≡ place_of_empty c.loop-turn.current c.loop-turn.left =
    rw (c.as_slice.ensures, c.as_slice-in-loop-turn.ensures) at c.in-Some.ensures.first in
    let clash : None ≡ with_equal_ends c.loop-turn.current (slice_get c.loop-turn.left c.in-Some.place) =
    sym c.in-None-2.is ∙ c.in_ok-more-in-Some.ensures.ends in
    let inside : c.loop-turn._turn < length c.args.atoms = omega arith in
    sym (c.loop-turn.invariant
    ∙ settle-clash (length c.args.atoms) c.loop-turn._turn c.loop-turn.current c.loop-turn.left inside c.in-Some.place some clash)

pub loop-turn-preserved : goal.loop-turn-preserved
loop-turn-preserved c =
    let some : Some c.in-Some.place ≡ place_of_empty c.loop-turn.current c.loop-turn.left =
    rw (c.as_slice.ensures, c.as_slice-in-loop-turn.ensures) at c.in-Some.ensures.first in
    let goes : Some c.in-Some-2.more ≡ with_equal_ends c.loop-turn.current (slice_get c.loop-turn.left c.in-Some.place) =
    sym c.in-Some-2.is ∙ c.in_ok-more-in-Some.ensures.ends in
    let inside : c.loop-turn._turn < length c.args.atoms = omega arith in
    rw c.empty_at.ensures.gone
    (c.loop-turn.invariant
    ∙ settle-more
    (length c.args.atoms) c.loop-turn._turn c.loop-turn.current c.loop-turn.left inside c.in-Some.place c.in-Some-2.more some goes)
