use Rattle.c_parse.proofs.Cases.{flat_plain}
use Rattle.c_parse.proofs.flat_stmts.read_flat.Goals as goal

pub returns-in_default-clause-value : goal.returns-in_default-clause-value
returns-in_default-clause-value c =
    let d = c.in_default in
    rw (flat_plain c.args.levels c.args.words.now c.first_class.result c.first_class.ensures d.not-Semicolon d.not-Break d.not-Continue
    d.not-Return) c.read_plain.ensures.value
