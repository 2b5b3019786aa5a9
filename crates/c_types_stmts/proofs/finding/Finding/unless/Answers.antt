use Rattle.c_types_rules.specs.Types.{unless}
use Rattle.c_types_stmts.proofs.Adding.{refused}
use Rattle.c_types_stmts.proofs.finding.Finding.unless.Goals as goal

pub returns : goal.returns
returns c = refused (unless c.args.holds c.args.place c.args.code) c.args.self.now c.unless.new.self c.unless.ensures
