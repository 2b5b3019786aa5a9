-- What the desk answers is what is looked up, or that is made plainly; in either case the desk has settled as many components as are
-- reached.
use Rattle.std.proofs.Common.{◌≡◌, ◌≤◌, arith, subst}
use Rattle.std.specs.Prelude.{All}
use Rattle.std.proofs.lemmas.Result.{IfOk-weaker}
use Rattle.shape_data.specs.declared.answer.Kept.{Kept}
use Rattle.loaded_answers.specs.Lookup.{Agrees, lookup}
use Rattle.claim_core.specs.Views.{solution_of, solutions_of}
use Rattle.settled_laws.specs.Laws.{aimed_known}
use Rattle.session_replies.specs.PlainAnswers.Solving.{Solves, solve}
use Rattle.session_replies.specs.Work.{count_reached}
use Rattle.session_replies.proofs.Reached.{entries_known, entries_many}
use Rattle.session_replies.proofs.known.answers_for.Goals as goal

pub returns-then-agrees-clause-known : goal.returns-then-agrees-clause-known
returns-then-agrees-clause-known g c =
    let agree =
    subst (All (λ (one : Kept). Agrees c.args.loaded.now (solution_of one))) c.deref.ensures.value
    (c.agrees.ensures.0 c.if-agrees.true) in
    entries_known c.settled_is_known.ensures.collected c.agreed_are_looked_up.ensures c.args.loaded.now c.args.program.now.value
    c.args.aim.now c.in_ok-kept.kept.items
    c.in_ok-kept.ensures.entries agree

pub returns-then-agrees-clause-worked : goal.returns-then-agrees-clause-worked
returns-then-agrees-clause-worked g c =
    let many =
    entries_many Solves c.settled_is_known.ensures.many c.args.program.now.value c.args.aim.now c.in_ok-kept.kept.items
    c.in_ok-kept.ensures.entries in
    let few = c.in_ok-kept.ensures.count in
    omega (arith, many, few)

pub returns-else-agrees-clause-worked : goal.returns-else-agrees-clause-worked
returns-else-agrees-clause-worked g c =
    let many =
    entries_many Solves c.settled_is_known.ensures.many c.args.program.now.value c.args.aim.now c.in_ok-kept.kept.items
    c.in_ok-kept.ensures.entries in
    let few = c.in_ok-kept.ensures.count in
    let worked : count_reached c.args.program.now.value c.args.aim.now ≤ c.settle.new.hands.seen = omega (arith, many, few) in
    IfOk-weaker c.plain.result
    (λ kept. solutions_of kept.items ≡ aimed_known (lookup solve c.args.loaded.now) c.deref-else-agrees.result.now c.args.aim.now)
    (λ kept. count_reached c.args.program.now.value c.args.aim.now ≤ c.settle.new.hands.seen) (λ kept known. worked) c.plain.ensures.known
