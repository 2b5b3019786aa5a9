-- The rows of calls are those of the components.
use Rattle.std.proofs.Common.{◌≡◌, ◌∙◌, ℕ, Bool, [], ◌∷◌, sym, ap, subst}
use Rattle.std.specs.Global.{Vec}
use Rattle.std.proofs.lemmas.Result.{IfOk-weaker}
use Rattle.call_components.specs.Reaching.{AreDefined, AreReached, marked, rows}
use Rattle.component_keys.specs.Components.{holds, reached}
use Rattle.summary_book.specs.Aims.{component_calls}
use Rattle.summary_book.proofs.Components.{calls_are, calls_defined}
use Rattle.session_replies.proofs.plain_answers.aims.reached_by.Goals as goal

pub reach-requires-clause-defined : goal.reach-requires-clause-defined
reach-requires-clause-defined c =
    subst AreDefined
    (sym (ap rows c.deref.ensures.value ∙ c.in_ok-calls.ensures
    ∙ calls_are c.args.program.now c.args.components.now c.requires.rows.are (λ place row at. (c.requires.rows.within place row at).outer)))
    (calls_defined c.args.program.now)

pub returns : goal.returns
returns c =
    IfOk-weaker c.reach.result (λ (marks : Vec Bool). AreReached (rows c.deref.result.now) (c.args.start ∷ []) marks.items)
    (λ (marks : Vec Bool). (component : ℕ)
    → marked marks.items component ≡ holds (reached (component_calls c.args.program.now) c.args.start) component)
    (λ marks are component.
    are component ∙
    ap (λ l. holds (reached l c.args.start) component)
    (ap rows c.deref.ensures.value ∙ c.in_ok-calls.ensures
    ∙ calls_are c.args.program.now c.args.components.now c.requires.rows.are (λ place row at. (c.requires.rows.within place row at).outer)))
    c.reach.ensures
