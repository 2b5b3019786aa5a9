use Rattle.std.proofs.Common.{◌≡◌, ◌<◌, length, refl, ap, sym, ◌∙◌, arith}
use Rattle.c_lower_rules.specs.Code.{onto}
use Rattle.c_lower_rules.specs.Programs.{lowered_body}
use Rattle.c_lower_sizes.specs.Sizes.{stmts_size}
use Rattle.c_tree.specs.Syntax.{head_tree, block_tree, stmts_tree}
use Rattle.c_lower.proofs.Fitting.{block_is, alone, refused_for_nodes}
use Rattle.c_lower.proofs.items.definition.Goals as goal

pub returns-clause-built : goal.returns-clause-built
returns-clause-built c =
    let tables = c.args.context.now.env.tables in
    let head = head_tree c.args.head.now in
    let block = block_tree c.args.block.now in
    let l = lowered_body tables head block.body block.end in
    let is : stmts_tree c.as_slice.result.now ≡ block.body = ap stmts_tree c.as_slice.ensures.value ∙ sym (block_is c.args.block.now) in
    let many : 512 < length (l.code.nodes 0 (onto 0)) =
    omega (
      arith,
      c.body_size.ensures,
      c.if-body_size-le-MOST_NODES.false,
      ap stmts_size is,
      c.bodies_are_no_larger.ensures tables head
          block.body block.end,
    ) in
    record {
      first = c.unless.ensures
          ∙ alone tables head block.body l many c.args.built.now.first c.place_of_specifier.result c.place_of_specifier.ensures;
      most = refl;
      procs = λ none met are. absurd (refused_for_nodes tables head block.body l many none);
    }
