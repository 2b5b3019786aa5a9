use Rattle.std.proofs.Common.{◌+◌, ◌*◌, length, map}
use Rattle.c_grammar.specs.Readers.{begins_stmt, read_stmt}
use Rattle.c_tree.specs.Syntax.{stmt_tree}
use Rattle.c_parse_exprs.proofs.Loops.{SoFar}
use Rattle.c_parse.proofs.stmts.+stmt.Given as goal

abbrev pub decreases-read_stmt : goal.decreases-read_stmt
decreases-read_stmt l = 8 * l.levels

abbrev pub decreases-read_stmts : goal.decreases-read_stmts
decreases-read_stmts l = 8 * l.levels + 1

abbrev pub decreases-read_block : goal.decreases-read_block
decreases-read_block l = 8 * l.levels + 2

abbrev pub decreases-read_else : goal.decreases-read_else
decreases-read_else l = 8 * l.levels + 1

abbrev pub decreases-read_if : goal.decreases-read_if
decreases-read_if l = 8 * l.levels + 2

abbrev pub decreases-read_iteration : goal.decreases-read_iteration
decreases-read_iteration l = 8 * l.levels + 1

abbrev pub decreases-read_nested : goal.decreases-read_nested
decreases-read_nested l = 8 * l.levels + 3

abbrev pub invariant-read_stmts-each : goal.invariant-read_stmts-each
invariant-read_stmts-each l = SoFar begins_stmt (read_stmt l.levels) l.initial.words (map stmt_tree l.stmts.items) l.words

abbrev pub decreases-read_stmts-each : goal.decreases-read_stmts-each
decreases-read_stmts-each l = length l.words
