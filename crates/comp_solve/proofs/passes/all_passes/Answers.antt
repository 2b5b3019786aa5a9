use Rattle.std.proofs.Common.{◌≡◌, ◌-◌, ◌∙◌, ap, sym, subst, arith}
use Rattle.solve_laws.specs.Attempts.{count_of}
use Rattle.solve_laws.specs.Solving.{all_passes, pass, passes}
use Rattle.solve_laws.specs.Standing.{AreFormed}
use Rattle.comp_solve.proofs.LoopLaws.{passes-end, passes-go, passes-spent}
use Rattle.comp_solve.proofs.passes.all_passes.Goals as goal

pub loop-turn-init : goal.loop-turn-init
loop-turn-init c =
    let none : c.count_standing-most.result - 0 ≡ c.count_standing-most.result = omega arith in (
      ap (λ n. passes n c.args.key.now c.args.attempts)
          (none ∙ c.count_standing-most.ensures ∙ ap count_of c.as_slice-all.ensures),
      c.requires.formed,
    )

pub pass-requires-clause-formed : goal.pass-requires-clause-formed
pass-requires-clause-formed c = subst (AreFormed c.args.key.now) (sym c.as_slice-before.ensures) c.loop-turn.invariant.1

pub count_standing-left-requires-clause-formed : goal.count_standing-left-requires-clause-formed
count_standing-left-requires-clause-formed c = subst (AreFormed c.args.key.now) (sym c.as_slice-rest.ensures) c.in_ok-after.ensures.formed

pub count_standing-were-requires-clause-formed : goal.count_standing-were-requires-clause-formed
count_standing-were-requires-clause-formed c = subst (AreFormed c.args.key.now) (sym c.as_slice-before.ensures) c.loop-turn.invariant.1

pub returns-then-left-were-clause-value : goal.returns-then-left-were-clause-value
returns-then-left-were-clause-value c =
    passes-end c.args.key.now c.loop-turn.standing c.loop-turn._turn c.count_standing-most.result
    (all_passes c.args.key.now c.args.attempts) c.loop-turn.invariant.0 c.loop-turn-test.true c.in_ok-after.after
    (c.in_ok-after.ensures.value ∙ ap (pass c.args.key.now) c.as_slice-before.ensures)
    (sym (c.count_standing-left.ensures ∙ ap count_of c.as_slice-rest.ensures) ∙ c.if-left-were.true ∙ c.count_standing-were.ensures
    ∙ ap count_of c.as_slice-before.ensures)

pub loop-turn-preserved : goal.loop-turn-preserved
loop-turn-preserved c = (
  passes-go c.args.key.now c.loop-turn.standing c.loop-turn._turn c.count_standing-most.result
      (all_passes c.args.key.now c.args.attempts) c.loop-turn.invariant.0 c.loop-turn-test.true c.in_ok-after.after
      (c.in_ok-after.ensures.value ∙ ap (pass c.args.key.now) c.as_slice-before.ensures)
      (λ same. c.if-left-were.false
      ((c.count_standing-left.ensures ∙ ap count_of c.as_slice-rest.ensures) ∙ same
      ∙ sym (c.count_standing-were.ensures ∙ ap count_of c.as_slice-before.ensures))),
  c.in_ok-after.ensures.formed,
)

pub returns-clause-value : goal.returns-clause-value
returns-clause-value c =
    passes-spent c.args.key.now c.loop-turn.standing c.loop-turn._turn c.count_standing-most.result
    (all_passes c.args.key.now c.args.attempts) c.loop-turn.invariant.0 c.loop-turn-test.false

pub returns-clause-formed : goal.returns-clause-formed
returns-clause-formed c = c.loop-turn.invariant.1
