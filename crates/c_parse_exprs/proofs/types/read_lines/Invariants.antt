use Rattle.std.proofs.Common.{length, map}
use Rattle.c_grammar.specs.Readers.{begins_specifier, read_fields}
use Rattle.c_tree.specs.Syntax.{fields_tree}
use Rattle.c_parse_exprs.proofs.Loops.{SoFar}
use Rattle.c_parse_exprs.proofs.types.read_lines.Given as goal

abbrev pub invariant-loop-alloc : goal.invariant-loop-alloc
invariant-loop-alloc l = SoFar begins_specifier read_fields l.initial.words (map fields_tree l.lines.items) l.words

abbrev pub decreases-loop-alloc : goal.decreases-loop-alloc
decreases-loop-alloc l = length l.words
