use Rattle.std.proofs.Common.{◌≡◌, ◌<◌, ◌≤◌, None, Some, List, length, option_map, refl, ap, ◌∙◌, rules}
use Rattle.std.proofs.lemmas.List.{at_drop_all}
use Rattle.c_types_rules.specs.Scopes.{Env, entered}
use Rattle.c_types_rules.specs.Statements.{test, stmt, stmts, behind_stmt}
use Rattle.c_tree.specs.declared.stmts.Stmt.{Stmt}
use Rattle.c_tree.specs.declared.stmts.Stmt.TheViews.{If}
use Rattle.c_tree.specs.Syntax.{stmt_tree, stmts_tree, expr_tree, init_tree, for_step_tree}
use Rattle.c_tree.proofs.Branches.{if_else}
use Rattle.c_types_names.specs.Seen.{kind_seen}
use Rattle.c_types_stmts.specs.Behind.{behind_stmts}
use Rattle.c_types_stmts.proofs.Adding.{nothing, then, ends, same, ends_same, turned, passed, over}
use Rattle.c_types_stmts.proofs.Leaving.{stmt_kept, stmts_kept, init_kept, kept_again, left, may_leave}
use Rattle.c_types_stmts.proofs.Loops.{for_found, tree_found, tree_ends}
use Rattle.c_tree.proofs.Trees.{empty_is, if_is, while_is, do_while_is, for_is}
use Rattle.c_types_stmts.proofs.stmts.+stmts.Goals as goal

pub block-leave-requires : goal.block-leave-requires
block-leave-requires t c =
    may_leave c.args.env.now c.enter-begin.new.self c.stmts.new.env c.enter-begin.result c.enter-begin.ensures.scopes
    (stmts_kept _ _ (stmts_tree c.args.body.now.stmts.items) c.in_ok-stmts.ensures.env) c.enter-begin.ensures.around

pub block-returns-clause-env : goal.block-returns-clause-env
block-returns-clause-env t c =
    left c.args.env.now c.enter-begin.new.self c.stmts.new.env c.leave.new.self c.enter-begin.result c.enter-begin.ensures.scopes
    (stmts_kept _ _ (stmts_tree c.args.body.now.stmts.items) c.in_ok-stmts.ensures.env) c.enter-begin.ensures.around
    c.leave.ensures

pub nested-leave-requires : goal.nested-leave-requires
nested-leave-requires t c =
    may_leave c.args.env.now c.enter-begin.new.self c.stmt.new.env c.enter-begin.result c.enter-begin.ensures.scopes
    (stmt_kept _ _ (stmt_tree c.deref.result.now) c.in_ok-stmt.ensures.env) c.enter-begin.ensures.around

pub nested-returns-clause-env : goal.nested-returns-clause-env
nested-returns-clause-env t c =
    left c.args.env.now c.enter-begin.new.self c.stmt.new.env c.leave.new.self c.enter-begin.result c.enter-begin.ensures.scopes
    (stmt_kept _ _ (stmt_tree c.deref.result.now) c.in_ok-stmt.ensures.env) c.enter-begin.ensures.around
    c.leave.ensures

pub for_loop-leave-requires : goal.for_loop-leave-requires
for_loop-leave-requires t c =
    may_leave c.args.env.now c.enter-begin.new.self c.nested.new.env c.enter-begin.result c.enter-begin.ensures.scopes
    (kept_again _ _ _ c.in_ok-nested.ensures.env
    (init_kept _ _ (init_tree c.args.first.now) c.in_ok-init.ensures.env)) c.enter-begin.ensures.around

pub for_loop-returns-clause-env : goal.for_loop-returns-clause-env
for_loop-returns-clause-env t c =
    left c.args.env.now c.enter-begin.new.self c.nested.new.env c.leave.new.self c.enter-begin.result c.enter-begin.ensures.scopes
    (kept_again _ _ _ c.in_ok-nested.ensures.env
    (init_kept _ _ (init_tree c.args.first.now) c.in_ok-init.ensures.env)) c.enter-begin.ensures.around c.leave.ensures

pub for_loop-returns-clause-found : goal.for_loop-returns-clause-found
for_loop-returns-clause-found t c = λ loops place.
    for_found c.args.env.now c.enter-begin.new.self c.init.new.env (kind_seen c.args.answer) loops place (init_tree c.args.first.now)
    (option_map expr_tree c.args.test.now) (option_map for_step_tree c.args.step.now) (stmt_tree c.args.body.now.value)
    c.enter-begin.ensures.scopes c.in_ok-init.ensures.env c.in_ok-init.ensures.found c.in_ok-maybe_condition.ensures
    c.in_ok-maybe_simple.ensures c.in_ok-nested.ensures.found

pub stmt-returns-in-Empty-clause-found : goal.stmt-returns-in-Empty-clause-found
stmt-returns-in-Empty-clause-found t c =
    tree_found c.args.env.now (kind_seen c.args.answer) c.args.loops _ _ (ap stmt_tree c.in-Empty.is ∙ empty_is c.in-Empty.field-0)
    (nothing c.args.found.now)

pub stmt-returns-in-None-clause-found : goal.stmt-returns-in-None-clause-found
stmt-returns-in-None-clause-found t c =
    let s = c.in-If in
    let whole : c.args.one.now ≡ If s.place s.test s.body None = s.is ∙ ap (λ o. If s.place s.test s.body o) c.in-None.is in
    tree_found c.args.env.now (kind_seen c.args.answer) c.args.loops _ _ (ap stmt_tree whole ∙ if_is s.place s.test s.body)
    (then c.in_ok-condition-in-If.ensures c.in_ok-nested-in-If.ensures.found)

pub stmt-returns-in-Some-clause-found : goal.stmt-returns-in-Some-clause-found
stmt-returns-in-Some-clause-found t c =
    let s = c.in-If in
    let whole : c.args.one.now ≡ If s.place s.test s.body (Some c.in-Some.other) =
    s.is ∙ ap (λ o. If s.place s.test s.body o) c.in-Some.is in
    tree_ends c.nested-in-Some.result c.args.env.now (kind_seen c.args.answer) c.args.loops _ _ _ _
    (ap stmt_tree whole ∙ if_else s.place s.test s.body c.in-Some.other)
    (ends c.nested-in-Some.result _ _ c.in_ok-condition-in-If.ensures (ends c.nested-in-Some.result _ _ c.in_ok-nested-in-If.ensures.found
    (ends_same c.nested-in-Some.result _ _ _ _ c.nested-in-Some.ensures.found
    (ap (λ (e : Env). stmt (entered e) (kind_seen c.args.answer) c.args.loops
    (stmt_tree c.in-Some.other.value)) c.in_ok-nested-in-If.ensures.env))))

pub stmt-returns-in-For-clause-found : goal.stmt-returns-in-For-clause-found
stmt-returns-in-For-clause-found t c =
    let s = c.in-For in
    tree_ends c.for_loop.result c.args.env.now (kind_seen c.args.answer) c.args.loops _ _ _ _
    (ap stmt_tree s.is ∙ for_is s.place s.first s.test s.step s.body) (c.for_loop.ensures.found c.args.loops s.place)

pub stmt-returns-in_ok-condition-in-While-clause-found : goal.stmt-returns-in_ok-condition-in-While-clause-found
stmt-returns-in_ok-condition-in-While-clause-found t c =
    let s = c.in-While in
    tree_ends c.nested-in-While.result c.args.env.now (kind_seen c.args.answer) c.args.loops _ _ _ _
    (ap stmt_tree s.is ∙ while_is s.place s.test s.body)
    (ends c.nested-in-While.result _ _ c.in_ok-condition-in-While.ensures c.nested-in-While.ensures.found)

pub stmt-returns-in_ok-nested-in-DoWhile-clause-found : goal.stmt-returns-in_ok-nested-in-DoWhile-clause-found
stmt-returns-in_ok-nested-in-DoWhile-clause-found t c =
    let s = c.in-DoWhile in
    tree_ends c.condition-in-DoWhile.result c.args.env.now (kind_seen c.args.answer) c.args.loops _ _ _ _
    (ap stmt_tree s.is ∙ do_while_is s.place s.body s.test)
    (ends c.condition-in-DoWhile.result _ _ c.in_ok-nested-in-DoWhile.ensures.found
    (ends_same c.condition-in-DoWhile.result _ _ _ _ c.condition-in-DoWhile.ensures
    (ap (λ (e : Env). test e (expr_tree s.test)) c.in_ok-nested-in-DoWhile.ensures.env)))

pub stmts-loop-one-preserved : goal.stmts-loop-one-preserved
stmts-loop-one-preserved t c =
    let xs = c.deref-one-items.result.now in
    let within : c.loop-one.one-index < length xs = search rules in
    let next = λ (env : Env) (one : Stmt). behind_stmt env (stmt_tree one) in
    record {
      found =
          turned (λ (env : Env) (list : List Stmt). stmts env (kind_seen c.args.answer) c.args.loops (stmts_tree list))
          (λ (env : Env) (one : Stmt). stmt env (kind_seen c.args.answer) c.args.loops (stmt_tree one)) next
          (λ env one list. refl) xs c.loop-one.one-index c.one-item.result within c.one-item.is c.loop-one.env c.stmt.new.env
          c.in_ok-stmt.ensures.env
          c.loop-one.invariant.found c.in_ok-stmt.ensures.found;
      env =
          passed (λ (env : Env) (list : List Stmt). behind_stmts env (stmts_tree list)) next
          (λ env one list. refl) xs c.loop-one.one-index c.one-item.result within c.one-item.is c.loop-one.env c.stmt.new.env
          c.in_ok-stmt.ensures.env _ c.loop-one.invariant.env;
    }

pub stmts-returns-clause-found : goal.stmts-returns-clause-found
stmts-returns-clause-found t c =
    let xs = c.deref-one-items.result.now in
    let past : length xs ≤ c.loop-one.one-index = search rules in
    same (over c.loop-one.invariant.found
    (at_drop_all
    (λ (list : List Stmt). stmts c.loop-one.env (kind_seen c.args.answer) c.args.loops (stmts_tree list)) xs c.loop-one.one-index past)) _
    (ap (λ (list : List Stmt). stmts c.args.env.now (kind_seen c.args.answer) c.args.loops
    (stmts_tree list)) c.deref-one-items.ensures.value)
