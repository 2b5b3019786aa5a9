use Rattle.std.proofs.Common.{[], sym, ap, ◌∙◌, subst, length}
use Rattle.std.proofs.lemmas.List.{length-map}
use Rattle.solve_laws.specs.Attempts.{specs_of}
use Rattle.solve_laws.specs.Laws.{FitKey}
use Rattle.solve_laws.specs.Solving.{no_specs, round, rounds}
use Rattle.comp_solve.proofs.FormedLaws.{formed-length}
use Rattle.comp_solve.proofs.LoopLaws.{rounds-end, rounds-go, rounds-spent}
use Rattle.comp_solve.proofs.rounds.rounds.Goals as goal

pub loop-turn-init : goal.loop-turn-init
loop-turn-init c = (
  ap (rounds 8 c.args.key.now) c.in_ok-before.ensures,
  subst (FitKey c.args.key.now) (sym c.in_ok-before.ensures) (c.standing_is_well_formed.ensures.specs c.args.key.now).empty,
  ap length c.in_ok-before.ensures ∙ length-map c.args.key.now.procs (λ flow. []),
)

pub round-requires-clause-fit : goal.round-requires-clause-fit
round-requires-clause-fit c = subst (FitKey c.args.key.now) (sym c.as_slice.ensures) c.loop-turn.invariant.1

pub round-requires-clause-one_each : goal.round-requires-clause-one_each
round-requires-clause-one_each c = ap length c.as_slice.ensures ∙ c.loop-turn.invariant.2

pub returns-then-same_specs-clause-value : goal.returns-then-same_specs-clause-value
returns-then-same_specs-clause-value c =
    rounds-end c.args.key.now c.loop-turn.before c.loop-turn._turn 8
    (rounds 8 c.args.key.now
    (no_specs c.args.key.now)) c.loop-turn.invariant.0 c.loop-turn-test.true c.in_ok-attempts.attempts c.in_ok-specs.specs
    (c.in_ok-attempts.ensures.value ∙ ap (round c.args.key.now) c.as_slice.ensures)
    (c.in_ok-specs.ensures.value ∙ ap specs_of c.as_slice-made.ensures)
    (sym c.same_specs.ensures ∙ c.if-same_specs.true)

pub loop-turn-preserved : goal.loop-turn-preserved
loop-turn-preserved c = (
  rounds-go c.args.key.now c.loop-turn.before c.loop-turn._turn 8
      (rounds 8 c.args.key.now
      (no_specs c.args.key.now)) c.loop-turn.invariant.0 c.loop-turn-test.true c.in_ok-attempts.attempts c.in_ok-specs.specs
      (c.in_ok-attempts.ensures.value ∙ ap (round c.args.key.now) c.as_slice.ensures)
      (c.in_ok-specs.ensures.value ∙ ap specs_of c.as_slice-made.ensures)
      (sym c.same_specs.ensures ∙ c.if-same_specs.false),
  subst (FitKey c.args.key.now) (sym (c.in_ok-specs.ensures.value ∙ ap specs_of c.as_slice-made.ensures))
      ((c.standing_is_well_formed.ensures.specs c.args.key.now).standing c.in_ok-attempts.attempts c.in_ok-attempts.ensures.formed),
  c.in_ok-specs.ensures.len ∙ ap length c.as_slice-made.ensures
      ∙ formed-length c.args.key.now c.in_ok-attempts.attempts c.in_ok-attempts.ensures.formed,
)

pub returns-clause-value : goal.returns-clause-value
returns-clause-value c =
    rounds-spent c.args.key.now c.loop-turn.before c.loop-turn._turn 8
    (rounds 8 c.args.key.now (no_specs c.args.key.now)) c.loop-turn.invariant.0 c.loop-turn-test.false
