use Rattle.std.specs.Prelude.{◌<◌, length}
use Rattle.comp_solve.proofs.FormedLaws.{formed-few, formed-length}
use Rattle.comp_solve.proofs.passes.count_standing.Goals as goal

pub count_of-requires-clause-each : goal.count_of-requires-clause-each
count_of-requires-clause-each c = formed-few c.args.key.now c.args.attempts.now c.requires.formed

pub count_of-requires-clause-all : goal.count_of-requires-clause-all
count_of-requires-clause-all c =
    let countable : length c.args.key.now.procs < 4294967296 = c.requires.key.procs.countable in
    rw (formed-length c.args.key.now c.args.attempts.now c.requires.formed) countable
