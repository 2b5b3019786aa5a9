use Rattle.std.proofs.Common.{◌+◌, ◌*◌, length}
use Rattle.c_grammar.specs.Readers.{read_unary, read_expr, read_chain}
use Rattle.c_parse_exprs.proofs.Links.{LinksSoFar}
use Rattle.c_parse_exprs.proofs.Arguments.{ArgsSoFar}
use Rattle.c_parse_exprs.proofs.ExprSteps.{count_below}
use Rattle.c_parse_exprs.proofs.exprs.+expr.Given as goal

abbrev pub decreases-read_args : goal.decreases-read_args
decreases-read_args l = 32 * l.levels + 23

abbrev pub decreases-read_call : goal.decreases-read_call
decreases-read_call l = 32 * count_below l.below + 5

abbrev pub decreases-read_chain : goal.decreases-read_chain
decreases-read_chain l = 32 * l.levels + 10 + 2 * l.chain

abbrev pub decreases-read_closed : goal.decreases-read_closed
decreases-read_closed l = 32 * count_below l.below + 6

abbrev pub decreases-read_links : goal.decreases-read_links
decreases-read_links l = 32 * l.levels + 11 + 2 * l.level

abbrev pub decreases-read_paren : goal.decreases-read_paren
decreases-read_paren l = 32 * count_below l.below + 5

abbrev pub decreases-read_postfix : goal.decreases-read_postfix
decreases-read_postfix l = 32 * count_below l.below + 8

abbrev pub decreases-read_prefix : goal.decreases-read_prefix
decreases-read_prefix l = 32 * count_below l.below + 8

abbrev pub decreases-read_primary : goal.decreases-read_primary
decreases-read_primary l = 32 * count_below l.below + 7

abbrev pub decreases-read_unary : goal.decreases-read_unary
decreases-read_unary l = 32 * l.levels + 9

abbrev pub invariant-read_args-loop-alloc : goal.invariant-read_args-loop-alloc
invariant-read_args-loop-alloc l = ArgsSoFar (read_expr l.levels) l.fn.words l.args.items l.words

abbrev pub decreases-read_args-loop-alloc : goal.decreases-read_args-loop-alloc
decreases-read_args-loop-alloc l = length l.words

abbrev pub invariant-read_links-loop-op : goal.invariant-read_links-loop-op
invariant-read_links-loop-op l = LinksSoFar l.level (read_chain l.level (read_unary l.levels)) l.initial.words l.links.items l.words

abbrev pub decreases-read_links-loop-op : goal.decreases-read_links-loop-op
decreases-read_links-loop-op l = length l.words
