-- The place is that of the component of the name, and few enough to be a 32-bit number.
use Rattle.std.proofs.Common.{◌<◌, ◌∙◌, length, sym, subst, arith}
use Rattle.std.specs.Option.{IfSome}
use Rattle.session_replies.proofs.PlainAnswersLemmas.ComponentsByName.{place_is, rows_few}
use Rattle.session_replies.proofs.plain_answers.aims.component_with.Goals as goal

pub overflow_cast-result : goal.overflow_cast-result
overflow_cast-result c =
    let few = rows_few c.args.program.now c.requires.formed c.args.components.now c.requires.rows in
    let lt : c.in-Some.place < length c.args.components.now =
    subst (λ o. IfSome o (λ place. place < length c.args.components.now)) c.in-Some.is c.place_with.ensures.within in
    omega (arith, few, lt)

pub returns-in-Some-clause-number : goal.returns-in-Some-clause-number
returns-in-Some-clause-number c =
    sym c.in-Some.is ∙ c.place_with.ensures.place ∙ place_is c.args.program.now c.args.components.now c.requires.rows c.args.name.now

pub returns-in-None-clause-number : goal.returns-in-None-clause-number
returns-in-None-clause-number c =
    sym c.in-None.is ∙ c.place_with.ensures.place ∙ place_is c.args.program.now c.args.components.now c.requires.rows c.args.name.now
