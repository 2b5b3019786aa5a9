-- The rows of calls are those of the components.
use Rattle.std.proofs.Common.{◌∙◌, sym, ap, subst}
use Rattle.call_components.specs.Reaching.{AreDefined, rows}
use Rattle.summary_book.proofs.Components.{calls_defined}
use Rattle.summary_book.proofs.parts.aimed_in.Goals as goal

pub reach-requires-clause-defined : goal.reach-requires-clause-defined
reach-requires-clause-defined c =
    subst AreDefined (sym (ap rows c.deref.ensures.value ∙ c.requires.calls)) (calls_defined c.args.parts.now.program.value)
