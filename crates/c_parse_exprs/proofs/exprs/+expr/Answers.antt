use Rattle.std.proofs.Common.{◌≡◌, ◌≤◌, suc, ◌-◌, length, sym, ap, ◌∙◌, subst, arith, Ok}
use Rattle.c_grammar.specs.Readers.{read_unary, read_expr, read_chain}
use Rattle.c_tree.specs.Syntax.{expr_tree, binary_tree, prefix_tree, links_tree}
use Rattle.c_parse_exprs.specs.Reads.{Halts}
use Rattle.c_parse_exprs.proofs.Steps.{exit_halts}
use Rattle.c_parse_exprs.proofs.Links.{link_more, link_end, link_halts}
use Rattle.c_parse_exprs.proofs.Arguments.{more_arg, all_args_read, args_halt}
use Rattle.c_parse_exprs.proofs.ExprSteps.{reads_same, unary_minus, unary_not, unary_other, chain_none, first_halts, others_halt}
use Rattle.c_parse_exprs.proofs.ExprSteps.{chain_read, op_seen, op_unseen, closed_stops, call_deep, paren_deep, prefix_deep}
use Rattle.c_parse_exprs.proofs.exprs.+expr.Goals as goal

pub read_args-returns-in_err-read_chain-2-clause-value : goal.read_args-returns-in_err-read_chain-2-clause-value
read_args-returns-in_err-read_chain-2-clause-value t c =
    exit_halts _ _ c.from_residual-in_err-read_chain-2.result _ c.in_err-read_chain-2.field-0.0
    c.from_residual-in_err-read_chain-2.ensures.1
    (args_halt (read_expr c.args.levels) c.args.words.now c.loop-alloc.args.items c.loop-alloc.words c.eat.new.self c.eat.result _
    c.loop-alloc.invariant
    (record { seen = c.eat.ensures.seen; value = c.eat.ensures.value }) c.loop-alloc-test.true c.in_err-read_chain-2.ensures.value)

pub read_args-loop-alloc-preserved : goal.read_args-loop-alloc-preserved
read_args-loop-alloc-preserved t c =
    let eaten = c.eat.ensures.falls c.loop-alloc-test.true in
    let stays = c.in_ok-read_chain-2.ensures.stays in
    more_arg (read_expr c.args.levels) c.args.words.now c.loop-alloc.args.items c.push-in-loop-alloc.new.self.items c.loop-alloc.words
    c.eat.new.self c.read_chain-in-loop-alloc.new.words c.in_ok-read_chain-2.field-0 c.eat.result
    c.loop-alloc.invariant
    (record {
      seen = c.eat.ensures.seen;
      value = c.eat.ensures.value;
    }) c.loop-alloc-test.true c.in_ok-read_chain-2.ensures.value c.in_ok-push-2.ensures.items
    (omega (arith, eaten, stays))

pub read_args-returns-clause-value : goal.read_args-returns-clause-value
read_args-returns-clause-value t c =
    all_args_read
    (read_expr c.args.levels) c.args.words.now c.loop-alloc.args.items c.loop-alloc.words c.eat.new.self c.eat.result c.loop-alloc.invariant
    (record { seen = c.eat.ensures.seen; value = c.eat.ensures.value }) c.loop-alloc-test.false

pub read_call-returns-in_default-clause-value : goal.read_call-returns-in_default-clause-value
read_call-returns-in_default-clause-value t c = call_deep c.too_deep.result c.args.below c.args.words.now c.in_default.is c.too_deep.ensures

pub read_paren-returns-in_default-clause-value : goal.read_paren-returns-in_default-clause-value
read_paren-returns-in_default-clause-value t c =
    paren_deep c.too_deep.result c.args.below c.args.words.now c.in_default.is c.too_deep.ensures

pub read_prefix-returns-in_default-clause-value : goal.read_prefix-returns-in_default-clause-value
read_prefix-returns-in_default-clause-value t c =
    prefix_deep c.too_deep.result (prefix_tree c.args.op) c.args.below c.args.words.now c.in_default.is c.too_deep.ensures

pub read_chain-returns-then-chain-eq0-clause-value : goal.read_chain-returns-then-chain-eq0-clause-value
read_chain-returns-then-chain-eq0-clause-value t c =
    reads_same _ _ expr_tree c.read_unary.result c.read_unary.new.words
    (chain_none c.args.chain (read_unary c.args.levels) c.args.words.now c.if-chain-eq0.true) c.read_unary.ensures.value

pub read_chain-returns-in_err-first-clause-value : goal.read_chain-returns-in_err-first-clause-value
read_chain-returns-in_err-first-clause-value t c =
    let less : c.args.chain ≡ suc (c.args.chain - 1) = omega arith in
    exit_halts _ _ c.from_residual.result _ c.in_err-first.field-0.0 c.from_residual.ensures.1
    (first_halts c.args.chain (c.args.chain - 1) (read_unary c.args.levels) c.args.words.now _ less c.in_err-first.ensures.value)

pub read_chain-returns-in_err-others-clause-value : goal.read_chain-returns-in_err-others-clause-value
read_chain-returns-in_err-others-clause-value t c =
    let less : c.args.chain ≡ suc (c.args.chain - 1) = omega arith in
    exit_halts _ _ c.from_residual-in_err-others.result _ c.in_err-others.field-0.0 c.from_residual-in_err-others.ensures.1
    (others_halt c.args.chain (c.args.chain - 1) (read_unary c.args.levels) c.args.words.now c.read_chain.new.words
    (expr_tree c.in_ok-first.first) _ less c.in_ok-first.ensures.value c.in_err-others.ensures.value)

pub read_chain-returns-clause-value : goal.read_chain-returns-clause-value
read_chain-returns-clause-value t c =
    let less : c.args.chain ≡ suc (c.args.chain - 1) = omega arith in
    chain_read c.args.chain (c.args.chain - 1) (read_unary c.args.levels) c.args.words.now c.read_chain.new.words c.read_links.new.words
    (expr_tree c.in_ok-first.first) (links_tree c.in_ok-others.others.items) less c.in_ok-first.ensures.value c.in_ok-others.ensures.value
    ∙ ap (λ e. Ok (e, c.read_links.new.words)) (sym c.in_ok-chained.ensures)

pub read_closed-returns-in_default-clause-value : goal.read_closed-returns-in_default-clause-value
read_closed-returns-in_default-clause-value t c =
    closed_stops c.wrong.result c.args.words.now c.first_class.result _ c.first_class.ensures c.wrong.ensures c.in_default.not-Number
    c.in_default.not-Null c.in_default.not-Open c.in_default.not-Cast c.in_default.not-Malloc

pub read_links-returns-in_err-operand-clause-value : goal.read_links-returns-in_err-operand-clause-value
read_links-returns-in_err-operand-clause-value t c =
    let op =
    op_seen c.args.level c.first_class.result c.loop-op.words c.op_at.result c.in-Some.op c.op_at.ensures c.first_class.ensures
    c.in-Some.is in
    exit_halts _ _ c.from_residual.result _ c.in_err-operand.field-0.0 c.from_residual.ensures.1
    (link_halts c.args.level (read_chain c.args.level (read_unary c.args.levels)) c.args.words.now c.loop-op.links.items c.loop-op.words
    (binary_tree c.in-Some.op) _ c.loop-op.invariant op
    (subst (λ w. Halts c.in_err-operand.field-0.0
    (read_chain c.args.level (read_unary c.args.levels) w)) c.step.ensures.value c.in_err-operand.ensures.value))

pub read_links-loop-op-preserved : goal.read_links-loop-op-preserved
read_links-loop-op-preserved t c =
    let op =
    op_seen c.args.level c.first_class.result c.loop-op.words c.op_at.result c.in-Some.op c.op_at.ensures c.first_class.ensures
    c.in-Some.is in
    let behind_op = c.step.ensures.value in
    let read_on = c.in_ok-operand.ensures.stays in
    link_more c.args.level
    (read_chain c.args.level
    (read_unary c.args.levels)) c.args.words.now c.loop-op.links.items c.push.new.self.items c.loop-op.words c.read_chain.new.words
    (binary_tree c.in-Some.op) (expr_tree c.in_ok-operand.operand) c.link.result
    c.loop-op.invariant op
    (ap (read_chain c.args.level (read_unary c.args.levels)) (sym behind_op)
    ∙ c.in_ok-operand.ensures.value) c.link.ensures c.in_ok-push.ensures.items
    (subst (λ w. length c.read_chain.new.words ≤ length w) behind_op read_on)

pub read_links-returns-clause-value : goal.read_links-returns-clause-value
read_links-returns-clause-value t c =
    link_end c.args.level
    (read_chain c.args.level (read_unary c.args.levels)) c.args.words.now c.loop-op.links.items c.loop-op.words c.loop-op.invariant
    (op_unseen c.args.level c.first_class.result c.loop-op.words c.op_at.result c.op_at.ensures c.first_class.ensures c.in_default.is)

pub read_unary-returns-in-Minus-clause-value : goal.read_unary-returns-in-Minus-clause-value
read_unary-returns-in-Minus-clause-value t c =
    reads_same _ _ expr_tree c.read_prefix.result c.read_prefix.new.words
    (unary_minus c.args.levels c.args.words.now c.first_class.result c.level_below-below.result c.first_class.ensures
    c.level_below-below.ensures c.in-Minus.is) c.read_prefix.ensures.value

pub read_unary-returns-in-Not-clause-value : goal.read_unary-returns-in-Not-clause-value
read_unary-returns-in-Not-clause-value t c =
    reads_same _ _ expr_tree c.read_prefix-in-Not.result c.read_prefix-in-Not.new.words
    (unary_not c.args.levels c.args.words.now c.first_class.result c.level_below-below.result c.first_class.ensures
    c.level_below-below.ensures c.in-Not.is) c.read_prefix-in-Not.ensures.value

pub read_unary-returns-in_default-clause-value : goal.read_unary-returns-in_default-clause-value
read_unary-returns-in_default-clause-value t c =
    reads_same _ _ expr_tree c.read_postfix.result c.read_postfix.new.words
    (unary_other c.args.levels c.args.words.now c.first_class.result c.level_below-below.result c.first_class.ensures
    c.level_below-below.ensures c.in_default.not-Minus c.in_default.not-Not) c.read_postfix.ensures.value
