use Rattle.std.proofs.Common.{◌∙◌, sym}
use Rattle.c_parse.proofs.Cases.{other_read}
use Rattle.c_parse.proofs.simple.read_other.Goals as goal

pub returns-clause-value : goal.returns-clause-value
returns-clause-value c =
    rw (other_read c.args.levels c.args.words.now _ _
    (sym c.sees.ensures ∙ c.if-sees.false) c.in_ok-base.ensures.value) c.read_target.ensures.value
