use Rattle.std.proofs.Common.{◌≡◌, ◌<◌, ◌+◌, ◌-◌, ◌∷◌, map, drop, take, sym, ap, ◌∙◌, subst, arith, rules}
use Rattle.std.proofs.lemmas.List.{at_drop_more, at_drop_all}
use Rattle.std.proofs.lemmas.Result.{IfOk-weaker}
use Rattle.c_tree.specs.NonEmpty.{items}
use Rattle.c_tree.specs.Syntax.{ident_tree, expr_tree, links_tree, args_tree, prefix_tree}
use Rattle.c_lower_rules.specs.Expressions.{lowering, prefix, chain, lowerings, members}
use Rattle.c_lower_rules.specs.Numbers.{HasIntNumbers}
use Rattle.c_lower_emit.specs.declared.uses.Use.TheVariants.{Value}
use Rattle.c_lower_emit.specs.Emitting.{BeginsTruth}
use Rattle.c_lower_exprs.specs.Lowered.{IsLowered}
use Rattle.c_lower_exprs.proofs.Weights.{weight, links_weight, args_weight}
use Rattle.c_lower_exprs.proofs.Chaining.{chain_is, weights, operand_numbers}
use Rattle.c_lower_exprs.proofs.Arguing.{arguments_begun, arguments_more, arguments_all, each_weighs}
use Rattle.c_tree.proofs.Trees.{members_is, call_is}
use Rattle.c_lower_exprs.proofs.values.+values.Goals as goal

pub chain-chain-requires : goal.chain-chain-requires
chain-chain-requires t c =
    let w = weights c.args.links.now.items c.args.count c.if-count-eq0.false c.requires c.index.result.now c.index.ensures in
    let falls : weight (expr_tree c.args.first.now.value) + links_weight (links_tree (take (c.args.count - 1) c.args.links.now.items)) + 2
    < t = omega (arith, w, c.decreases) in
    (falls, omega (arith, c.requires))

pub chain-chain-requires-in-Compare : goal.chain-chain-requires-in-Compare
chain-chain-requires-in-Compare t c =
    let w = weights c.args.links.now.items c.args.count c.if-count-eq0.false c.requires c.index.result.now c.index.ensures in
    let falls : weight (expr_tree c.args.first.now.value) + links_weight (links_tree (take (c.args.count - 1) c.args.links.now.items)) + 2
    < t = omega (arith, w, c.decreases) in
    (falls, omega (arith, c.requires))

pub chain-chain-requires-in-Both : goal.chain-chain-requires-in-Both
chain-chain-requires-in-Both t c =
    let w = weights c.args.links.now.items c.args.count c.if-count-eq0.false c.requires c.index.result.now c.index.ensures in
    let falls : weight (expr_tree c.args.first.now.value) + links_weight (links_tree (take (c.args.count - 1) c.args.links.now.items)) + 2
    < t = omega (arith, w, c.decreases) in
    (falls, omega (arith, c.requires))

pub chain-chain-requires-in-Either : goal.chain-chain-requires-in-Either
chain-chain-requires-in-Either t c =
    let w = weights c.args.links.now.items c.args.count c.if-count-eq0.false c.requires c.index.result.now c.index.ensures in
    let falls : weight (expr_tree c.args.first.now.value) + links_weight (links_tree (take (c.args.count - 1) c.args.links.now.items)) + 2
    < t = omega (arith, w, c.decreases) in
    (falls, omega (arith, c.requires))

pub chain-lower-requires-in-Arith : goal.chain-lower-requires-in-Arith
chain-lower-requires-in-Arith t c =
    let w =
    weights c.args.links.now.items c.args.count c.if-count-eq0.false c.requires c.index-in-Arith.result.now c.index-in-Arith.ensures in
    let falls : weight (expr_tree c.index-in-Arith.result.now.operand) < t = omega (arith, w, c.decreases) in
    (falls, tt)

pub chain-lower-requires-in-Compare : goal.chain-lower-requires-in-Compare
chain-lower-requires-in-Compare t c =
    let w =
    weights c.args.links.now.items c.args.count c.if-count-eq0.false c.requires c.index-in-Compare.result.now c.index-in-Compare.ensures in
    let falls : weight (expr_tree c.index-in-Compare.result.now.operand) < t = omega (arith, w, c.decreases) in
    (falls, tt)

pub chain-lower-requires-in-Both : goal.chain-lower-requires-in-Both
chain-lower-requires-in-Both t c =
    let w =
    weights c.args.links.now.items c.args.count c.if-count-eq0.false c.requires c.index-in-Both.result.now c.index-in-Both.ensures in
    let falls : weight (expr_tree c.index-in-Both.result.now.operand) < t = omega (arith, w, c.decreases) in
    (falls, tt)

pub chain-lower-requires-in-Either : goal.chain-lower-requires-in-Either
chain-lower-requires-in-Either t c =
    let w =
    weights c.args.links.now.items c.args.count c.if-count-eq0.false c.requires c.index-in-Either.result.now c.index-in-Either.ensures in
    let falls : weight (expr_tree c.index-in-Either.result.now.operand) < t = omega (arith, w, c.decreases) in
    (falls, tt)

pub chain-returns-in_ok-right-in-Arith : goal.chain-returns-in_ok-right-in-Arith
chain-returns-in_ok-right-in-Arith t c =
    let ctx = c.args.site.now in
    let before = lowering ctx (expr_tree c.args.first.now.value) in
    let some = chain ctx before (links_tree (take (c.args.count - 1) c.args.links.now.items)) in
    let last = lowering ctx (expr_tree c.index-in-Arith.result.now.operand) in
    IfOk-weaker c.arithmetic.result _ _ (λ found is first links.
    subst (λ l. IsLowered c.args.used l c.args.site.now.first_temp c.args.out.now c.arithmetic.new.out found)
    (sym (chain_is c.args.links.now.items c.args.count c.if-count-eq0.false c.requires ctx before c.index.result.now
    c.index-in-Arith.result.now c.index.ensures c.index-in-Arith.ensures
    ∙ c.in-Arith.ensures ctx some last))
    (is some last c.args.out.now c.chain.new.out (c.in_ok-left-in-Arith.ensures first links)
    (c.in_ok-right-in-Arith.ensures
    (operand_numbers c.args.links.now.items c.args.count c.if-count-eq0.false c.requires c.index-in-Arith.result.now
    c.index-in-Arith.ensures links)))) c.arithmetic.ensures

pub chain-returns-in_ok-right-in-Compare : goal.chain-returns-in_ok-right-in-Compare
chain-returns-in_ok-right-in-Compare t c =
    let ctx = c.args.site.now in
    let before = lowering ctx (expr_tree c.args.first.now.value) in
    let some = chain ctx before (links_tree (take (c.args.count - 1) c.args.links.now.items)) in
    let last = lowering ctx (expr_tree c.index-in-Compare.result.now.operand) in
    IfOk-weaker c.compared.result _ _ (λ found is first links.
    subst (λ l. IsLowered c.args.used l c.args.site.now.first_temp c.args.out.now c.compared.new.out found)
    (sym (chain_is c.args.links.now.items c.args.count c.if-count-eq0.false c.requires ctx before c.index.result.now
    c.index-in-Compare.result.now c.index.ensures c.index-in-Compare.ensures
    ∙ c.in-Compare.ensures ctx some last))
    (is some last c.args.out.now c.begin_truth.new.self c.chain-in-Compare.new.out
    (subst (λ f. BeginsTruth c.args.used f c.args.out.now c.begin_truth.new.self c.in_ok-to-in-Compare.to) c.spot.ensures.first_temp
    c.in_ok-to-in-Compare.ensures) c.len-from.ensures
    (c.in_ok-left-in-Compare.ensures first links)
    (c.in_ok-right-in-Compare.ensures
    (operand_numbers c.args.links.now.items c.args.count c.if-count-eq0.false c.requires c.index-in-Compare.result.now
    c.index-in-Compare.ensures links)))) c.compared.ensures

pub chain-returns-in_ok-lower-in-Both : goal.chain-returns-in_ok-lower-in-Both
chain-returns-in_ok-lower-in-Both t c =
    let ctx = c.args.site.now in
    let before = lowering ctx (expr_tree c.args.first.now.value) in
    let some = chain ctx before (links_tree (take (c.args.count - 1) c.args.links.now.items)) in
    let last = lowering ctx (expr_tree c.index-in-Both.result.now.operand) in
    IfOk-weaker c.both.result _ _ (λ found is first links.
    subst (λ l. IsLowered c.args.used l c.args.site.now.first_temp c.args.out.now c.both.new.out found)
    (sym (chain_is c.args.links.now.items c.args.count c.if-count-eq0.false c.requires ctx before c.index.result.now
    c.index-in-Both.result.now c.index.ensures c.index-in-Both.ensures
    ∙ c.in-Both.ensures ctx some last))
    (is some last c.args.out.now c.begin_truth-in-Both.new.self c.chain-in-Both.new.out c.lead_holds.new.self
    (subst (λ f. BeginsTruth c.args.used f c.args.out.now c.begin_truth-in-Both.new.self c.in_ok-to-in-Both.to)
    c.spot-in-Both.ensures.first_temp c.in_ok-to-in-Both.ensures) c.len-from-in-Both.ensures
    (c.in_ok-chain-in-Both.ensures first links).emits c.lead_holds.ensures
    (c.in_ok-lower-in-Both.ensures
    (operand_numbers c.args.links.now.items c.args.count c.if-count-eq0.false c.requires c.index-in-Both.result.now c.index-in-Both.ensures
    links)).emits)) c.both.ensures

pub chain-returns-in_ok-lower-in-Either : goal.chain-returns-in_ok-lower-in-Either
chain-returns-in_ok-lower-in-Either t c =
    let ctx = c.args.site.now in
    let before = lowering ctx (expr_tree c.args.first.now.value) in
    let some = chain ctx before (links_tree (take (c.args.count - 1) c.args.links.now.items)) in
    let last = lowering ctx (expr_tree c.index-in-Either.result.now.operand) in
    IfOk-weaker c.either.result _ _ (λ found is first links.
    subst (λ l. IsLowered c.args.used l c.args.site.now.first_temp c.args.out.now c.either.new.out found)
    (sym (chain_is c.args.links.now.items c.args.count c.if-count-eq0.false c.requires ctx before c.index.result.now
    c.index-in-Either.result.now c.index.ensures c.index-in-Either.ensures
    ∙ c.in-Either.ensures ctx some last))
    (is some last c.args.out.now c.begin_truth-in-Either.new.self c.chain-in-Either.new.out c.lead_fails.new.self
    (subst (λ f. BeginsTruth c.args.used f c.args.out.now c.begin_truth-in-Either.new.self c.in_ok-to-in-Either.to)
    c.spot-in-Either.ensures.first_temp c.in_ok-to-in-Either.ensures) c.len-from-in-Either.ensures
    (c.in_ok-chain-in-Either.ensures first links).emits c.lead_fails.ensures
    (c.in_ok-lower-in-Either.ensures
    (operand_numbers c.args.links.now.items c.args.count c.if-count-eq0.false c.requires c.index-in-Either.result.now
    c.index-in-Either.ensures links)).emits)) c.either.ensures

pub lower-returns-in_ok-base-in-Members : goal.lower-returns-in_ok-base-in-Members
lower-returns-in_ok-base-in-Members t c =
    let ctx = c.args.site.now in
    let m = c.in-Members in
    let tree = ap expr_tree m.is ∙ members_is m.base m.fields in
    let base : m.base.value ≡ c.deref.result.now = search rules in
    IfOk-weaker c.members.result _ _ (λ found is numbers.
    subst (λ e. IsLowered c.args.used (lowering ctx e) c.args.site.now.first_temp c.args.out.now c.members.new.out found) (sym tree)
    (subst (λ b. IsLowered c.args.used
    (members ctx (lowering ctx (expr_tree b)) (map ident_tree (items m.fields)))
    c.args.site.now.first_temp c.args.out.now c.members.new.out found)
    (sym base)
    (is (lowering ctx (expr_tree c.deref.result.now)) c.args.out.now
    (c.in_ok-base-in-Members.ensures
    (subst (λ b. HasIntNumbers (expr_tree b)) base (subst HasIntNumbers tree numbers)))))) c.members.ensures

pub lower-returns-in_ok-operands-in-Call : goal.lower-returns-in_ok-operands-in-Call
lower-returns-in_ok-operands-in-Call t c =
    let ctx = c.args.site.now in
    let m = c.in-Call in
    let tree = ap expr_tree m.is ∙ call_is m.callee m.args in
    IfOk-weaker c.called.result _ _ (λ found is numbers.
    subst (λ e. IsLowered c.args.used (lowering ctx e) c.args.site.now.first_temp c.args.out.now c.called.new.out found) (sym tree)
    (is c.args.out.now (lowerings ctx (args_tree m.args.items))
    (c.in_ok-operands-in-Call.ensures (subst HasIntNumbers tree numbers)))) c.called.ensures

pub prefix-returns-in_ok-found-in-Negate : goal.prefix-returns-in_ok-found-in-Negate
prefix-returns-in_ok-found-in-Negate t c =
    let ctx = c.args.site.now in
    let inner = lowering ctx (expr_tree c.args.inner.now.value) in
    let same : c.args.inner.now.value ≡ c.deref.result.now = search rules in
    IfOk-weaker c.negated.result _ _ (λ found is numbers.
    subst (λ op. IsLowered c.args.used
    (prefix ctx (prefix_tree op) inner) c.args.site.now.first_temp c.args.out.now c.negated.new.out found) (sym c.in-Negate.is)
    (is inner c.args.out.now
    (subst (λ e. IsLowered Value
    (lowering ctx (expr_tree e)) c.args.site.now.first_temp c.args.out.now c.lower.new.out c.in_ok-found-in-Negate.found) (sym same)
    (c.in_ok-found-in-Negate.ensures (subst (λ e. HasIntNumbers (expr_tree e)) same numbers))))) c.negated.ensures

pub values-lower-requires : goal.values-lower-requires
values-lower-requires t c =
    let items : c.deref-arg-items.result.now ≡ c.args.args.now.items = search rules in
    let each = each_weighs c.deref-arg-items.result.now c.loop-arg.arg-index c.arg-item.result c.loop-arg-test.true in
    let item = ap (λ e. weight (expr_tree e)) c.arg-item.is in
    let all = ap (λ xs. args_weight (args_tree xs)) items in
    let falls : weight (expr_tree c.arg-item.result) < t = omega (arith, each, item, all, c.decreases) in
    (falls, tt)

pub values-loop-arg-init : goal.values-loop-arg-init
values-loop-arg-init t c = λ numbers.
    let items : c.args.args.now.items ≡ c.deref-arg-items.result.now = search rules in
    arguments_begun c.args.site.now c.args.site.now.first_temp (map expr_tree c.args.args.now.items) _ c.args.out.now _
    (ap (map expr_tree) items) (search rules) numbers

pub values-loop-arg-preserved : goal.values-loop-arg-preserved
values-loop-arg-preserved t c = λ numbers.
    arguments_more c.args.site.now c.args.site.now.first_temp (map expr_tree c.args.args.now.items) _ _
    (expr_tree c.arg-item.result) c.args.out.now c.loop-arg.out c.lower.new.out
    c.loop-arg.operands.items c.push.new.self.items c.in_ok-found.found
    (at_drop_more (map expr_tree) c.deref-arg-items.result.now c.loop-arg.arg-index c.arg-item.result c.loop-arg-test.true
    ∙ ap (λ e. expr_tree e ∷ map expr_tree (drop (c.loop-arg.arg-index + 1) c.deref-arg-items.result.now)) (sym c.arg-item.is))
    (c.loop-arg.invariant numbers) c.in_ok-found.ensures c.in_ok-push.ensures.items

pub values-returns : goal.values-returns
values-returns t c = λ numbers.
    arguments_all c.args.site.now c.args.site.now.first_temp
    (map expr_tree c.args.args.now.items) _ c.args.out.now c.loop-arg.out c.loop-arg.operands.items
    (at_drop_all (map expr_tree) c.deref-arg-items.result.now c.loop-arg.arg-index c.loop-arg-test.false) (c.loop-arg.invariant numbers)
