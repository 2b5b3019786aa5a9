use Rattle.std.proofs.Common.{Option, Box, Global, option_map, sym, ap}
use Rattle.c_types_rules.specs.Statements.{maybe_simple}
use Rattle.c_tree.specs.declared.stmts.Simple.{Simple}
use Rattle.c_tree.specs.Syntax.{for_step_tree}
use Rattle.c_types_stmts.proofs.Adding.{nothing, same}
use Rattle.c_types_stmts.proofs.stmts.maybe_simple.Goals as goal

pub returns-in-None : goal.returns-in-None
returns-in-None c =
    same (nothing c.args.found.now) _
    (ap (λ (v : Option (Box Simple Global)). maybe_simple c.args.env.now (option_map for_step_tree v)) (sym c.in-None.is))
