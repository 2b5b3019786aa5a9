use Rattle.std.proofs.Common.{length, map}
use Rattle.c_grammar.specs.Readers.{begins_item, read_item}
use Rattle.c_tree.specs.Syntax.{item_tree}
use Rattle.c_parse_exprs.proofs.Loops.{SoFar}
use Rattle.c_parse.proofs.items.read_items.Given as goal

abbrev pub invariant-each : goal.invariant-each
invariant-each l = SoFar begins_item (read_item l.levels) l.initial.words (map item_tree l.items.items) l.words

abbrev pub decreases-each : goal.decreases-each
decreases-each l = length l.words
