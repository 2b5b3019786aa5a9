-- Which variables stand behind statements.
use Rattle.c_grammar.specs.Trees.{Stmts}
use Rattle.c_types_rules.specs.Scopes.{Env}
use Rattle.c_types_rules.specs.Statements.{behind_stmt}

abbrev pub behind_stmts : Env → Stmts → Env
behind_stmts env Stmts.NoStmts = env
behind_stmts env (Stmts.Next first others) = behind_stmts (behind_stmt env first) others
