use Rattle.std.proofs.Common.{length, map}
use Rattle.c_grammar.specs.declared.class.Class.TheVariants as class
use Rattle.c_grammar.specs.Readers.{is_class, behind, read_param}
use Rattle.c_tree.specs.Syntax.{param_tree}
use Rattle.c_parse_exprs.proofs.Loops.{SoFar}
use Rattle.c_parse_exprs.proofs.types.read_more_params.Given as goal

abbrev pub invariant-loop-alloc : goal.invariant-loop-alloc
invariant-loop-alloc l =
    SoFar (is_class class.Comma) (λ comma. read_param (behind comma)) l.initial.words (map param_tree l.others.items) l.words

abbrev pub decreases-loop-alloc : goal.decreases-loop-alloc
decreases-loop-alloc l = length l.words
