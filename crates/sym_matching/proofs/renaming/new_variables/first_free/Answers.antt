-- Each turn passes over a number in use.
use Rattle.std.proofs.Common.{◌≡◌, ◌∙◌, ◌+◌, ◌-◌, ◌<◌, length, true, sym, arith}
use Rattle.sym_parts.specs.Laws.Fresh.{is_one_of}
use Rattle.sym_matching.specs.NewVariables.{first_free}
use Rattle.sym_matching.proofs.RenamingLemmas.NewVariableTurns.{passes_over, stays_below}
use Rattle.sym_matching.proofs.renaming.new_variables.first_free.Goals as goal

pub overflow_add-x : goal.overflow_add-x
overflow_add-x c =
    let inside : c.loop-turn.turn < length c.args.used.now = c.loop-turn-test.true in
    let is : is_one_of c.args.used.now c.loop-turn.x ≡ true = sym c.is_one_of.ensures ∙ c.if-not-is_one_of.false in
    let below : first_free (length c.args.used.now - c.loop-turn.turn) c.loop-turn.x c.args.used.now < 4294967296 =
    rw c.loop-turn.invariant at c.requires in
    let next : c.loop-turn.x + 1 < 4294967296 =
    stays_below (length c.args.used.now) c.loop-turn.turn c.loop-turn.x c.args.used.now inside is below in
    omega arith

pub loop-turn-preserved : goal.loop-turn-preserved
loop-turn-preserved c =
    let inside : c.loop-turn.turn < length c.args.used.now = c.loop-turn-test.true in
    let is : is_one_of c.args.used.now c.loop-turn.x ≡ true = sym c.is_one_of.ensures ∙ c.if-not-is_one_of.false in
    c.loop-turn.invariant ∙ passes_over (length c.args.used.now) c.loop-turn.turn c.loop-turn.x c.args.used.now inside is
