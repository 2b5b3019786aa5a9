use Rattle.std.proofs.Common.{◌≡◌, ◌<◌, ◌≤◌, ◌∷◌, [], ◌++◌, length, refl, ap, sym, ◌∙◌, arith, rules}
use Rattle.c_types_rules.specs.Tables.{Tables}
use Rattle.c_lower_rules.specs.Programs.{proc_of}
use Rattle.c_lower_rules.specs.Statements.{stmts_kinds}
use Rattle.c_types_names.specs.FirstRefusal.{with_refusals}
use Rattle.c_lower_sizes.specs.Sizes.{stmts_locals}
use Rattle.c_tree.specs.Syntax.{head_tree, block_tree, stmts_tree}
use Rattle.c_lower.specs.declared.sizes.Sizes.{Sizes}
use Rattle.c_lower.proofs.Adding.{kept_same, kept_more}
use Rattle.c_lower.proofs.Fitting.{block_is, sized_body, refused_of}
use Rattle.c_lower.proofs.items.small_definition.Goals as goal

pub returns-then-not-fit-clause-built : goal.returns-then-not-fit-clause-built
returns-then-not-fit-clause-built c =
    let tables = c.args.context.now.env.tables in
    let block = block_tree c.args.block.now in
    let found = c.in_ok-body.body in
    let sizes : Sizes =
    record { nodes = c.len.result; params = c.param_count.result; locals = c.local_count-locals.result; temps = c.len-2.result } in
    let statements : stmts_tree c.as_slice.result.now ≡ block.body =
    ap stmts_tree c.as_slice.ensures.value ∙ sym (block_is c.args.block.now) in
    let locals : sizes.locals ≡ length (stmts_kinds tables block.body) =
    omega (
      arith,
      c.local_count-locals.ensures,
      ap stmts_locals statements,
      c.locals_have_nodes.ensures block.body,
      c.requires.size,
      c.locals_have_types.ensures tables block.body,
    ) in
    let count = c.param_count.ensures (omega (arith, c.requires.params)) in
    let all = sized_body tables (head_tree c.args.head.now) block found sizes c.place_of_specifier.result c.in_ok-body.ensures.body
    (c.len.ensures ∙ found.nodes.ok.0) count locals (c.len-2.ensures ∙ found.temps.ok.0) c.place_of_specifier.ensures in
    record {
      first = c.refuse.ensures ∙ ap (with_refusals c.args.built.now.first) all;
      most = refl;
      procs = λ none met are. absurd (refused_of sizes c.place_of_specifier.result (sym c.fit.ensures ∙ c.if-not-fit.true) (all ∙ none));
    }

pub returns-then-built-len-clause-built : goal.returns-then-built-len-clause-built
returns-then-built-len-clause-built c =
    let tables = c.args.context.now.env.tables in
    let head = head_tree c.args.head.now in
    let block = block_tree c.args.block.now in
    let found = c.in_ok-body.body in
    let sizes : Sizes =
    record { nodes = c.len.result; params = c.param_count.result; locals = c.local_count-locals.result; temps = c.len-2.result } in
    let statements : stmts_tree c.as_slice.result.now ≡ block.body =
    ap stmts_tree c.as_slice.ensures.value ∙ sym (block_is c.args.block.now) in
    let locals : sizes.locals ≡ length (stmts_kinds tables block.body) =
    omega (
      arith,
      c.local_count-locals.ensures,
      ap stmts_locals statements,
      c.locals_have_nodes.ensures block.body,
      c.requires.size,
      c.locals_have_types.ensures tables block.body,
    ) in
    let enough : c.args.built.now.most ≤ length c.args.built.now.procs = search rules in
    let count = c.param_count.ensures (omega (arith, c.requires.params)) in
    let all = sized_body tables head block found sizes c.place_of_specifier.result c.in_ok-body.ensures.body
    (c.len.ensures ∙ found.nodes.ok.0) count locals (c.len-2.ensures ∙ found.temps.ok.0) c.place_of_specifier.ensures in
    record {
      first = c.refuse.ensures ∙ ap (with_refusals c.args.built.now.first) all;
      most = refl;
      procs = λ none met are. kept_same c.args.built.now.most c.args.built.now.procs enough met _ are;
    }

pub returns-clause-built : goal.returns-clause-built
returns-clause-built c =
    let tables = c.args.context.now.env.tables in
    let head = head_tree c.args.head.now in
    let block = block_tree c.args.block.now in
    let found = c.in_ok-body.body in
    let sizes : Sizes =
    record { nodes = c.len.result; params = c.param_count.result; locals = c.local_count-locals.result; temps = c.len-2.result } in
    let statements : stmts_tree c.as_slice.result.now ≡ block.body =
    ap stmts_tree c.as_slice.ensures.value ∙ sym (block_is c.args.block.now) in
    let locals : sizes.locals ≡ length (stmts_kinds tables block.body) =
    omega (
      arith,
      c.local_count-locals.ensures,
      ap stmts_locals statements,
      c.locals_have_nodes.ensures block.body,
      c.requires.size,
      c.locals_have_types.ensures tables block.body,
    ) in
    let room : length c.args.built.now.procs < c.args.built.now.most = search rules in
    let count = c.param_count.ensures (omega (arith, c.requires.params)) in
    let all = sized_body tables head block found sizes c.place_of_specifier.result c.in_ok-body.ensures.body
    (c.len.ensures ∙ found.nodes.ok.0) count locals (c.len-2.ensures ∙ found.temps.ok.0) c.place_of_specifier.ensures in
    record {
      first = c.refuse.ensures ∙ ap (with_refusals c.args.built.now.first) all;
      most = refl;
      procs = λ none met are.
          c.in_ok-push.ensures.ok
          ∙ ap (λ p. c.args.built.now.procs ++ p ∷ [])
          (c.in_ok-proc.ensures
          ∙ ap (λ (t : Tables). proc_of t c.args.file.now head block.body block.end)
          (c.tables.ensures.program ∙ c.in_ok-body.ensures.tables))
          ∙ kept_more c.args.built.now.most c.args.built.now.procs room _ met are;
    }
