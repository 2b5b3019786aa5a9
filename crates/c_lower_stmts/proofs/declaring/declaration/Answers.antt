use Rattle.std.proofs.Common.{◌+◌, ◌∷◌, map, drop, sym, ap, ◌∙◌}
use Rattle.std.proofs.lemmas.List.{at_drop_more, at_drop_all}
use Rattle.c_tree.specs.Syntax.{specifier_tree, initialized_tree}
use Rattle.c_lower_stmts.proofs.Locals.{locals_begun, locals_turned, locals_ended}
use Rattle.c_lower_stmts.proofs.WithinScope.{within_then}
use Rattle.c_lower_stmts.proofs.declaring.declaration.Goals as goal

pub loop-other-init : goal.loop-other-init
loop-other-init c = (
  c.in_ok-count.ensures.within,
  λ numbers.
      let one = c.args.one.now in
      locals_begun (specifier_tree one.specifier) c.args.context.now c.args.line c.args.locals (initialized_tree one.declarators.first)
      (map initialized_tree one.declarators.others.items)
      (map initialized_tree c.deref-other-items.result.now) c.args.out.now c.local.new.context c.in_ok-count.count c.local.new.out
      (ap (map initialized_tree) (sym c.deref-other-items.ensures.value)) numbers.1 (c.in_ok-count.ensures.declared numbers.0),
)

pub loop-other-preserved : goal.loop-other-preserved
loop-other-preserved c = (
  within_then c.args.context.now c.loop-other.context c.local_behind.new.context c.loop-other.invariant.0 c.in_ok-count-2.ensures.within,
  λ numbers.
      let one = c.args.one.now in
      let items = c.deref-other-items.result.now in
      let at = c.loop-other.other-index in
      locals_turned (specifier_tree one.specifier) c.args.context.now c.args.line c.args.locals
      (initialized_tree one.declarators.first ∷ map initialized_tree one.declarators.others.items)
      (map initialized_tree (drop at items)) (map initialized_tree (drop (at + 1) items))
      (initialized_tree c.other-item.result) c.args.out.now c.loop-other.context
      c.local_behind.new.context
      c.loop-other.count c.in_ok-count-2.count c.loop-other.out c.local_behind.new.out c.len-start.result
      (at_drop_more (map initialized_tree) items at c.other-item.result c.loop-other-test.true
      ∙ ap (λ x. initialized_tree x ∷ map initialized_tree (drop (at + 1) items)) (sym c.other-item.is))
      c.len-start.ensures (c.loop-other.invariant.1 numbers) c.in_ok-count-2.ensures.declared,
)

pub returns-clause-within : goal.returns-clause-within
returns-clause-within c = c.loop-other.invariant.0

pub returns-clause-declared : goal.returns-clause-declared
returns-clause-declared c = λ numbers.
    let one = c.args.one.now in
    let items = c.deref-other-items.result.now in
    locals_ended (specifier_tree one.specifier) c.args.context.now c.args.line c.args.locals
    (initialized_tree one.declarators.first ∷ map initialized_tree one.declarators.others.items)
    (map initialized_tree (drop c.loop-other.other-index items)) c.args.out.now c.loop-other.context c.loop-other.count c.loop-other.out
    (at_drop_all (map initialized_tree) items c.loop-other.other-index c.loop-other-test.false) (c.loop-other.invariant.1 numbers)
