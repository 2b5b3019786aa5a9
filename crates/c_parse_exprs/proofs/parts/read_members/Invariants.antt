use Rattle.std.proofs.Common.{length, map}
use Rattle.c_grammar.specs.declared.class.Class.TheVariants as class
use Rattle.c_grammar.specs.Readers.{is_class, behind, read_name}
use Rattle.c_tree.specs.Syntax.{ident_tree}
use Rattle.c_parse_exprs.proofs.Loops.{SoFar}
use Rattle.c_parse_exprs.proofs.parts.read_members.Given as goal

abbrev pub invariant-loop-alloc : goal.invariant-loop-alloc
invariant-loop-alloc l =
    SoFar (is_class class.Arrow) (λ comma. read_name (behind comma)) l.initial.words (map ident_tree l.members.items) l.words

abbrev pub decreases-loop-alloc : goal.decreases-loop-alloc
decreases-loop-alloc l = length l.words
