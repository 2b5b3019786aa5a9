use Rattle.std.proofs.Common.{◌∙◌, sym}
use Rattle.c_parse.proofs.Cases.{simple_named, simple_unnamed}
use Rattle.c_parse.proofs.simple.read_simple.Goals as goal

pub returns-then-not-sees-clause-value : goal.returns-then-not-sees-clause-value
returns-then-not-sees-clause-value c =
    rw (simple_unnamed c.args.levels c.args.words.now (sym c.sees.ensures ∙ c.if-not-sees.true)) c.read_other.ensures.value

pub returns-clause-value : goal.returns-clause-value
returns-clause-value c = rw (simple_named c.args.levels c.args.words.now _ _ c.in_ok-name.ensures.value) c.read_named.ensures.value
