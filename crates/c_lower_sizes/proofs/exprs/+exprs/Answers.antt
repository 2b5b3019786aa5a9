use Rattle.std.proofs.Common.{◌<◌, length, sym, ◌∙◌, rules}
use Rattle.c_tree.specs.Syntax.{binary_tree, expr_tree}
use Rattle.c_lower_sizes.specs.Sizes.{binary_uses, expr_uses}
use Rattle.c_lower_sizes.proofs.Operands.{binary_counts, chain_parts}
use Rattle.c_lower_sizes.proofs.exprs.+exprs.Goals as goal

pub chain-loop-link-preserved : goal.chain-loop-link-preserved
chain-loop-link-preserved t c = λ uses h.
    let xs = c.deref-link-items.result.now in
    let within : c.loop-link.link-index < length xs = search rules in
    let link = c.link-item.result in
    let before = c.loop-link.invariant uses h in
    let operand = expr_uses (expr_tree link.operand) in (
      binary_uses (binary_tree link.op) before.0 operand,
      binary_counts (binary_tree link.op) before.0 operand c.loop-link.current c.expr.result c.binary-current.result
          before.1 c.expr.ensures c.binary-current.ensures,
      sym (chain_parts before.0 xs c.loop-link.link-index link within c.link-item.is) ∙ before.2,
    )
