use Rattle.std.proofs.Common.{◌≡◌, ◌+◌, ◌<◌, ◌++◌, List, false, length, drop, sym, ap, ◌∙◌, rules}
use Rattle.std.proofs.lemmas.List.{at_drop_more, at_drop_all}
use Rattle.c_grammar.specs.declared.tokens.places.Refusal.{Refusal}
use Rattle.c_types_rules.specs.Types.{unless, CLASH}
use Rattle.c_tree.specs.declared.exprs.Expr.{Expr}
use Rattle.c_tree.specs.declared.exprs.Link.{Link}
use Rattle.c_types_names.specs.FirstRefusal.{with_refusals}
use Rattle.c_types_rules.specs.Expressions.{OfKind, kind_of, kind_of_binary, may_stand_by, given_by, is_null, expr_refusals, links_refusals}
use Rattle.c_types_rules.specs.Expressions.{args_refusals, kind_of_chain}
use Rattle.c_tree.specs.Syntax.{LinkTree, link_tree, binary_tree, expr_tree, links_tree, args_tree}
use Rattle.c_types_names.specs.Seen.{kind_seen}
use Rattle.c_types_exprs.specs.Seen.{given_seen}
use Rattle.c_types_names.proofs.FirstRefusals.{nothing, then, same, turn, over}
use Rattle.c_tree.specs.declared.exprs.Expr.{the_lemmas}
use Rattle.c_types_exprs.proofs.refusals.+refusals.Goals as goal

pub expr_refusals-returns-in-Chain-clause-refusals : goal.expr_refusals-returns-in-Chain-clause-refusals
expr_refusals-returns-in-Chain-clause-refusals t c =
    same _ _ _ _ (then _ _ _ _ _ c.expr_refusals-kind.ensures.refusals c.links_refusals.ensures.refusals) (search (rules, the_lemmas))

pub expr_refusals-returns-in-Prefix-clause-refusals : goal.expr_refusals-returns-in-Prefix-clause-refusals
expr_refusals-returns-in-Prefix-clause-refusals t c =
    same _ _ _ _ (then _ _ _ _ _ c.expr_refusals-kind-in-Prefix.ensures.refusals c.unless.ensures) (search (rules, the_lemmas))

pub expr_refusals-returns-in-Members-clause-refusals : goal.expr_refusals-returns-in-Members-clause-refusals
expr_refusals-returns-in-Members-clause-refusals t c =
    same _ _ _ _
    (then _ _ _ _ _ c.expr_refusals-kind-in-Members.ensures.refusals c.members_refusals.ensures.refusals) (search (rules, the_lemmas))

pub expr_refusals-returns-in-Number-clause-refusals : goal.expr_refusals-returns-in-Number-clause-refusals
expr_refusals-returns-in-Number-clause-refusals t c = same _ _ _ _ (nothing _) (search (rules, the_lemmas))

pub expr_refusals-returns-in-Null-clause-refusals : goal.expr_refusals-returns-in-Null-clause-refusals
expr_refusals-returns-in-Null-clause-refusals t c = same _ _ _ _ (nothing _) (search (rules, the_lemmas))

pub expr_refusals-returns-in-Call-clause-refusals : goal.expr_refusals-returns-in-Call-clause-refusals
expr_refusals-returns-in-Call-clause-refusals t c =
    same _ _ _ _ (then _ _ _ _ _ c.unless-in-Call.ensures (then _ _ _ _ _ c.args_refusals.ensures c.callee_refusals.ensures.refusals))
    (search (rules, the_lemmas))

pub expr_refusals-returns-in-Malloc-clause-refusals : goal.expr_refusals-returns-in-Malloc-clause-refusals
expr_refusals-returns-in-Malloc-clause-refusals t c =
    same _ _ _ _ (then _ _ _ _ _ c.unless-in-Malloc.ensures c.malloc_refusals.ensures) (search (rules, the_lemmas))

pub args_refusals-loop-arg-preserved : goal.args_refusals-loop-arg-preserved
args_refusals-loop-arg-preserved t c =
    let within : c.loop-arg.arg-index < length c.deref-arg-items.result.now = search rules in
    let rest = args_refusals c.args.env.now (args_tree (drop (c.loop-arg.arg-index + 1) c.deref-arg-items.result.now)) in
    turn _ _ _ _ _ rest c.expr_refusals.ensures.refusals
    (at_drop_more
    (λ (xs : List Expr). args_refusals c.args.env.now (args_tree xs)) c.deref-arg-items.result.now c.loop-arg.arg-index _ within
    ∙ ap (λ (x : Expr). expr_refusals c.args.env.now (expr_tree x) ++ rest) (sym c.arg-item.is))
    c.loop-arg.invariant

pub args_refusals-returns : goal.args_refusals-returns
args_refusals-returns t c =
    over _ _ _ (at_drop_all
    (λ (xs : List Expr). args_refusals c.args.env.now (args_tree xs)) c.deref-arg-items.result.now c.loop-arg.arg-index
    (search rules)) c.loop-arg.invariant
    ∙ ap (λ (xs : List Expr). with_refusals c.args.first.now (args_refusals c.args.env.now (args_tree xs))) c.deref-arg-items.ensures.value

pub links_refusals-returns-clause-refusals : goal.links_refusals-returns-clause-refusals
links_refusals-returns-clause-refusals t c =
    over _ _ _ (at_drop_all
    (λ (xs : List Link). links_refusals c.args.env.now c.args.place (kind_seen c.loop-link.kind)
    (given_seen c.loop-link.given) c.loop-link.null (links_tree xs)) c.deref-link-items.result.now c.loop-link.link-index
    (search rules)) c.loop-link.invariant.0
    ∙ ap (λ (xs : List Link). with_refusals c.args.first.now
    (links_refusals c.args.env.now c.args.place (kind_seen c.args.left.kind) (given_seen c.args.left.given) c.args.left.null
    (links_tree xs))) c.deref-link-items.ensures.value

pub links_refusals-loop-link-preserved : goal.links_refusals-loop-link-preserved
links_refusals-loop-link-preserved t c =
    let within : c.loop-link.link-index < length c.deref-link-items.result.now = search rules in
    let op = binary_tree c.link-item.result.op in
    let operand = expr_tree c.link-item.result.operand in
    let kind = kind_of_binary op (kind_seen c.loop-link.kind) (kind_of c.args.env.now operand) in
    let fit = may_stand_by op (given_seen c.loop-link.given) c.loop-link.null (given_by c.args.env.now operand) (is_null operand) in
    let behind = links_tree (drop (c.loop-link.link-index + 1) c.deref-link-items.result.now) in
    let rest = links_refusals c.args.env.now c.args.place kind (OfKind kind) false behind in
    let parts = λ (x : LinkTree). (expr_refusals c.args.env.now x.operand
    ++ unless (may_stand_by x.op (given_seen c.loop-link.given) c.loop-link.null (given_by c.args.env.now x.operand)
    (is_null x.operand)) c.args.place CLASH)
    ++ links_refusals c.args.env.now c.args.place (kind_of_binary x.op (kind_seen c.loop-link.kind) (kind_of c.args.env.now x.operand))
    (OfKind (kind_of_binary x.op (kind_seen c.loop-link.kind) (kind_of c.args.env.now x.operand))) false behind in
    let shown : link_tree c.link-item.result ≡ record { op = op; operand = operand } = search (rules, the_lemmas) in
    let refused : List Refusal = unless fit c.args.place CLASH in
    let next : links_refusals c.args.env.now c.args.place (kind_seen c.loop-link.kind) (given_seen c.loop-link.given) c.loop-link.null
    (links_tree (drop c.loop-link.link-index c.deref-link-items.result.now))
    ≡ (expr_refusals c.args.env.now operand ++ refused) ++ rest =
    at_drop_more
    (λ (xs : List Link). links_refusals c.args.env.now c.args.place (kind_seen c.loop-link.kind)
    (given_seen c.loop-link.given) c.loop-link.null
    (links_tree xs)) c.deref-link-items.result.now c.loop-link.link-index c.link-item.result within
    ∙ (ap (λ (x : Link). parts (link_tree x)) (sym c.link-item.is) ∙ ap parts shown) in
    let looked : c.unless.new.self ≡ with_refusals c.expr_refusals-right.new.first refused = search (rules, the_lemmas) in
    let both : c.unless.new.self ≡ with_refusals c.loop-link.first (expr_refusals c.args.env.now operand ++ refused) =
    then _ _ _ _ _ c.expr_refusals-right.ensures.refusals looked in
    let kinds = λ (x : LinkTree). kind_of_chain c.args.env.now
    (kind_of_binary x.op (kind_seen c.loop-link.kind) (kind_of c.args.env.now x.operand)) behind in
    let known : kind_seen c.kind_of_binary-kind.result ≡ kind = search (rules, the_lemmas) in (
      rw known (turn _ _ _ _ (expr_refusals c.args.env.now operand ++ refused) rest both next c.loop-link.invariant.0),
      ap (λ k. kind_of_chain c.args.env.now k behind) known ∙ ap kinds (sym shown) ∙ ap (λ (x : Link). kinds (link_tree x)) c.link-item.is
          ∙ sym (at_drop_more (λ (xs : List Link). kind_of_chain c.args.env.now (kind_seen c.loop-link.kind) (links_tree xs))
          c.deref-link-items.result.now c.loop-link.link-index c.link-item.result within)
          ∙ c.loop-link.invariant.1,
    )
