use Rattle.std.proofs.Common.{◌≡◌, ◌<◌, ◌+◌, ℕ, None, Some, length, map, take, option_map, refl, sym, ap, ◌∙◌, subst, rules}
use Rattle.std.proofs.lemmas.Result.{IfOk-weaker}
use Rattle.c_grammar.specs.Trees as tree
use Rattle.c_grammar.specs.declared.tokens.places.Place.{Place}
use Rattle.c_tree.specs.declared.stmts.Stmt.TheViews.{If}
use Rattle.c_tree.specs.Syntax.{stmt_tree, stmts_of, stmts_tree, expr_tree, simple_tree, for_step_tree, local_tree, init_tree}
use Rattle.c_tree.proofs.Branches.{if_else}
use Rattle.c_tree.proofs.Trees.{empty_is, if_is, while_is, do_while_is, for_is}
use Rattle.c_lower_rules.specs.Contexts.{Context, within_scope}
use Rattle.c_lower_rules.specs.Statements.{inside, stmt, stmts, condition, for_init, for_step, from_place, simple_from, declaration}
use Rattle.c_lower_rules.specs.Numbers.{StmtHasIntNumbers, StmtsHaveIntNumbers}
use Rattle.c_lower_emit.specs.declared.drafts.Label.TheVariants.{Next, Breaks, Continues}
use Rattle.c_lower_emit.specs.Emitting.{EmitsTested}
use Rattle.c_lower_exprs.specs.Contexts.{on_line, IsWithin}
use Rattle.c_lower_stmts.specs.Laying.{EmitsLowered, EmitsStmt, EmitsWithin}
use Rattle.c_lower_stmts.specs.Standing.{state}
use Rattle.c_lower_stmts.proofs.Branching.{jumped, if_laid, if_else_laid}
use Rattle.c_lower_stmts.proofs.Rounds.{while_laid, do_laid, for_laid}
use Rattle.c_lower_stmts.proofs.StmtsInTurn.{stmts_turn, numbers_at, one_more}
use Rattle.c_lower_stmts.proofs.WithinScope.{within_then}
use Rattle.c_lower_stmts.proofs.Scopes.{entered_within}
use Rattle.c_tree.proofs.Trees.{local_is, simple_is, break_is, continue_is, return_is}
use Rattle.c_lower_stmts.proofs.stmts.+stmts.Goals as goal

pub stmt-returns-in-Empty-clause-laid : goal.stmt-returns-in-Empty-clause-laid
stmt-returns-in-Empty-clause-laid t c =
    subst (λ laid. EmitsStmt (stmt_tree c.args.one.now) c.args.context.now c.args.locals
    c.args.context.now laid c.args.out.now c.args.out.now)
    (sym c.new.ensures) (λ numbers line.
    let tree_is = ap stmt_tree c.in-Empty.is ∙ empty_is c.in-Empty.field-0 in
    subst (λ s. EmitsLowered
    (stmt s (state (on_line c.args.context.now line) c.args.locals c.args.out.now)) c.args.context.now c.args.locals c.args.context.now
    (record { begin = Next; locals = c.args.locals }) c.args.out.now c.args.out.now)
    (sym tree_is) (jumped c.args.context.now line c.args.locals (λ exits. exits.next) Next c.args.out.now (λ p. refl)))

pub stmt-returns-in-Break-clause-laid : goal.stmt-returns-in-Break-clause-laid
stmt-returns-in-Break-clause-laid t c =
    subst (λ laid. EmitsStmt (stmt_tree c.args.one.now) c.args.context.now c.args.locals
    c.args.context.now laid c.args.out.now c.args.out.now)
    (sym c.new-in-Break.ensures) (λ numbers line.
    let tree_is = ap stmt_tree c.in-Break.is ∙ break_is c.in-Break.field-0 in
    subst (λ s. EmitsLowered
    (stmt s (state (on_line c.args.context.now line) c.args.locals c.args.out.now)) c.args.context.now c.args.locals c.args.context.now
    (record { begin = Breaks; locals = c.args.locals }) c.args.out.now c.args.out.now)
    (sym tree_is) (jumped c.args.context.now line c.args.locals (λ exits. exits.breaks) Breaks c.args.out.now (λ p. refl)))

pub stmt-returns-in-Continue-clause-laid : goal.stmt-returns-in-Continue-clause-laid
stmt-returns-in-Continue-clause-laid t c =
    subst (λ laid. EmitsStmt (stmt_tree c.args.one.now) c.args.context.now c.args.locals
    c.args.context.now laid c.args.out.now c.args.out.now)
    (sym c.new-in-Continue.ensures) (λ numbers line.
    let tree_is = ap stmt_tree c.in-Continue.is ∙ continue_is c.in-Continue.field-0 in
    subst (λ s. EmitsLowered
    (stmt s (state (on_line c.args.context.now line) c.args.locals c.args.out.now)) c.args.context.now c.args.locals c.args.context.now
    (record { begin = Continues; locals = c.args.locals }) c.args.out.now c.args.out.now)
    (sym tree_is) (jumped c.args.context.now line c.args.locals (λ exits. exits.continues) Continues c.args.out.now (λ p. refl)))

pub stmt-returns-in-Local-clause-laid : goal.stmt-returns-in-Local-clause-laid
stmt-returns-in-Local-clause-laid t c =
    let tree_is = ap stmt_tree c.in-Local.is ∙ local_is c.in-Local.one in
    IfOk-weaker c.declared.result _ _ (λ laid is numbers line.
    let st = state (on_line c.args.context.now line) c.args.locals c.args.out.now in
    subst (λ s. EmitsLowered (stmt s st) c.args.context.now c.args.locals c.declared.new.context laid c.args.out.now c.declared.new.out)
    (sym tree_is)
    (subst (λ p. EmitsLowered
    (declaration (local_tree c.in-Local.one)
    (from_place st p)) c.args.context.now c.args.locals c.declared.new.context laid c.args.out.now c.declared.new.out)
    c.place_of_local.ensures
    (is (subst StmtHasIntNumbers tree_is numbers) line))) c.declared.ensures.laid

pub stmt-returns-in-Simple-clause-laid : goal.stmt-returns-in-Simple-clause-laid
stmt-returns-in-Simple-clause-laid t c =
    let tree_is = ap stmt_tree c.in-Simple.is ∙ simple_is c.in-Simple.one in
    IfOk-weaker c.once.result _ _ (λ laid is numbers line.
    let st = state (on_line c.args.context.now line) c.args.locals c.args.out.now in
    subst (λ s. EmitsLowered (stmt s st) c.args.context.now c.args.locals
    c.args.context.now laid c.args.out.now c.once.new.out) (sym tree_is)
    (subst (λ p. EmitsLowered
    (simple_from st (from_place st p)
    (simple_tree c.in-Simple.one)) c.args.context.now c.args.locals
    c.args.context.now laid c.args.out.now c.once.new.out) c.place_of_simple.ensures
    (is (subst StmtHasIntNumbers tree_is numbers) line))) c.once.ensures

pub stmt-returns-in-Return-clause-laid : goal.stmt-returns-in-Return-clause-laid
stmt-returns-in-Return-clause-laid t c =
    let tree_is = ap stmt_tree c.in-Return.is ∙ return_is c.in-Return.place c.in-Return.value in
    IfOk-weaker c.return_at.result _ _ (λ laid is numbers line.
    subst (λ s. EmitsLowered
    (stmt s (state
    (on_line c.args.context.now line) c.args.locals c.args.out.now))
    c.args.context.now c.args.locals c.args.context.now laid c.args.out.now c.return_at.new.out)
    (sym tree_is)
    (is (subst StmtHasIntNumbers tree_is numbers) line)) c.return_at.ensures

pub stmt-returns-in-None-clause-laid : goal.stmt-returns-in-None-clause-laid
stmt-returns-in-None-clause-laid t c =
    subst (λ laid. EmitsStmt (stmt_tree c.args.one.now) c.args.context.now c.args.locals
    c.nested.new.context laid c.args.out.now c.choose.new.out)
    (sym c.new-in-None.ensures) (λ numbers line.
    let s = c.in-If in
    let whole : c.args.one.now ≡ If s.place s.test s.body None = s.is ∙ ap (λ o. If s.place s.test s.body o) c.in-None.is in
    let tree_is = ap stmt_tree whole ∙ if_is s.place s.test s.body in
    let n = subst StmtHasIntNumbers tree_is numbers in
    subst (λ x. EmitsLowered
    (stmt x (state (on_line c.args.context.now line) c.args.locals c.args.out.now)) c.args.context.now c.args.locals c.nested.new.context
    (record { begin = c.at.result; locals = c.in_ok-first-in-If.first.locals }) c.args.out.now c.choose.new.out)
    (sym tree_is)
    (subst (λ x. EmitsLowered
    (stmt (tree.Stmt.If s.place (expr_tree s.test) (stmt_tree s.body.value))
    (state (on_line c.args.context.now line) c.args.locals c.args.out.now)) c.args.context.now c.args.locals x
    (record { begin = c.at.result; locals = c.in_ok-first-in-If.first.locals }) c.args.out.now c.choose.new.out)
    (sym c.in_ok-first-in-If.ensures.context)
    (if_laid c.args.context.now line c.args.locals c.len-from.result c.len-past.result s.place (expr_tree s.test)
    (stmt_tree s.body.value) c.in_ok-first-in-If.first c.at.result c.args.out.now c.tested.new.out
    c.nested.new.out c.choose.new.out c.len-from.ensures c.len-past.ensures c.at.ensures
    (c.in_ok-tested-in-If.ensures n.0 line c.args.locals) (c.in_ok-first-in-If.ensures.laid n.1 line) c.choose.ensures)))

pub stmt-returns-in_ok-second-in-Some-clause-laid : goal.stmt-returns-in_ok-second-in-Some-clause-laid
stmt-returns-in_ok-second-in-Some-clause-laid t c =
    subst (λ laid. EmitsStmt (stmt_tree c.args.one.now) c.args.context.now c.args.locals
    c.nested-in-Some.new.context laid c.args.out.now c.choose-in-Some.new.out)
    (sym c.new-in-Some.ensures) (λ numbers line.
    let s = c.in-If in
    let whole : c.args.one.now ≡ If s.place s.test s.body (Some c.in-Some.other) =
    s.is ∙ ap (λ o. If s.place s.test s.body o) c.in-Some.is in
    let tree_is = ap stmt_tree whole ∙ if_else s.place s.test s.body c.in-Some.other in
    let n = subst StmtHasIntNumbers tree_is numbers in
    let first = c.in_ok-first-in-If.first in
    let second = c.in_ok-second-in-Some.second in
    let kept = c.in_ok-first-in-If.ensures.context in
    let two : EmitsWithin
    (stmt (stmt_tree c.in-Some.other.value)
    (inside (state
    (on_line c.args.context.now line) first.locals c.nested.new.out))) c.args.context.now first.locals second c.nested.new.out
    c.nested-in-Some.new.out =
    subst (λ x. EmitsWithin
    (stmt (stmt_tree c.in-Some.other.value)
    (inside (state (on_line x line) first.locals c.nested.new.out))) x first.locals second c.nested.new.out c.nested-in-Some.new.out) kept
    (c.in_ok-second-in-Some.ensures.laid n.2 line) in
    subst (λ x. EmitsLowered
    (stmt x (state (on_line c.args.context.now line) c.args.locals c.args.out.now))
    c.args.context.now c.args.locals c.nested-in-Some.new.context
    (record { begin = c.at-in-Some.result; locals = second.locals }) c.args.out.now c.choose-in-Some.new.out)
    (sym tree_is)
    (subst (λ x. EmitsLowered
    (stmt (tree.Stmt.IfElse s.place (expr_tree s.test) (stmt_tree s.body.value) (stmt_tree c.in-Some.other.value))
    (state (on_line c.args.context.now line) c.args.locals c.args.out.now)) c.args.context.now c.args.locals x
    (record { begin = c.at-in-Some.result; locals = second.locals }) c.args.out.now c.choose-in-Some.new.out)
    (sym (c.in_ok-second-in-Some.ensures.context ∙ kept))
    (if_else_laid c.args.context.now line c.args.locals c.len-from.result c.len-past.result s.place (expr_tree s.test)
    (stmt_tree s.body.value)
    (stmt_tree c.in-Some.other.value) first second c.at-in-Some.result
    c.args.out.now c.tested.new.out c.nested.new.out c.nested-in-Some.new.out c.choose-in-Some.new.out c.len-from.ensures c.len-past.ensures
    c.at-in-Some.ensures
    (c.in_ok-tested-in-If.ensures n.0 line c.args.locals) (c.in_ok-first-in-If.ensures.laid n.1 line) two c.choose-in-Some.ensures)))

pub stmt-returns-in-While-clause-laid : goal.stmt-returns-in-While-clause-laid
stmt-returns-in-While-clause-laid t c =
    let s = c.in-While in
    let tree_is = ap stmt_tree s.is ∙ while_is s.place s.test s.body in
    IfOk-weaker c.while_loop.result _ _ (λ laid is numbers line.
    subst (λ x. EmitsLowered
    (stmt x (state
    (on_line c.args.context.now line) c.args.locals c.args.out.now))
    c.args.context.now c.args.locals c.while_loop.new.context laid c.args.out.now
    c.while_loop.new.out) (sym tree_is)
    (is s.place (subst StmtHasIntNumbers tree_is numbers) line)) c.while_loop.ensures.laid

pub stmt-returns-in-DoWhile-clause-laid : goal.stmt-returns-in-DoWhile-clause-laid
stmt-returns-in-DoWhile-clause-laid t c =
    let s = c.in-DoWhile in
    let tree_is = ap stmt_tree s.is ∙ do_while_is s.place s.body s.test in
    IfOk-weaker c.do_loop.result _ _ (λ laid is numbers line.
    subst (λ x. EmitsLowered
    (stmt x (state
    (on_line c.args.context.now line) c.args.locals c.args.out.now))
    c.args.context.now c.args.locals c.do_loop.new.context laid c.args.out.now
    c.do_loop.new.out) (sym tree_is)
    (is s.place (subst StmtHasIntNumbers tree_is numbers) line)) c.do_loop.ensures.laid

pub stmt-returns-in-For-clause-laid : goal.stmt-returns-in-For-clause-laid
stmt-returns-in-For-clause-laid t c =
    let s = c.in-For in
    let tree_is = ap stmt_tree s.is ∙ for_is s.place s.init s.test s.step s.body in
    IfOk-weaker c.for_loop.result _ _ (λ laid is numbers line.
    subst (λ x. EmitsLowered
    (stmt x (state
    (on_line c.args.context.now line) c.args.locals c.args.out.now))
    c.args.context.now c.args.locals c.for_loop.new.context laid c.args.out.now
    c.for_loop.new.out) (sym tree_is)
    (is (subst StmtHasIntNumbers tree_is numbers) line)) c.for_loop.ensures.laid

pub while_loop-returns-clause-laid : goal.while_loop-returns-clause-laid
while_loop-returns-clause-laid t c =
    subst (λ laid. (place : Place) → EmitsStmt (tree.Stmt.While place (expr_tree c.args.test.now) (stmt_tree c.args.body.now.value))
    c.args.context.now c.args.locals c.nested.new.context laid c.args.out.now c.close.new.out)
    (sym c.new.ensures) (λ place n line.
    let test = expr_tree c.args.test.now in
    let body = stmt_tree c.args.body.now.value in
    let opened = c.in_ok-opened in
    let first = c.in_ok-laid.laid in
    subst (λ x. EmitsLowered
    (stmt (tree.Stmt.While place test body) (state (on_line
    c.args.context.now line) c.args.locals c.args.out.now)) c.args.context.now c.args.locals x
    (record { begin = c.at.result; locals = first.locals }) c.args.out.now c.close.new.out)
    (sym c.in_ok-laid.ensures.context)
    (while_laid c.args.context.now line c.args.locals opened.opened.head opened.opened.index c.len-from.result c.len-past.result
    opened.opened.visible place test body first
    c.at.result c.args.out.now c.tested.new.out c.nested.new.out c.close.new.out opened.ensures.head opened.ensures.index
    opened.ensures.visible c.len-from.ensures
    c.len-past.ensures c.at.ensures (c.in_ok-tested.ensures n.0 line c.args.locals)
    (c.in_ok-laid.ensures.laid n.1 line) c.in_ok-close.ensures))

pub do_loop-returns-clause-laid : goal.do_loop-returns-clause-laid
do_loop-returns-clause-laid t c =
    subst (λ laid. (place : Place) → EmitsStmt (tree.Stmt.DoWhile place (stmt_tree c.args.body.now.value) (expr_tree c.args.test.now))
    c.args.context.now c.args.locals c.nested.new.context laid c.args.out.now c.close_behind.new.out)
    (sym c.new.ensures) (λ place n line.
    let test = expr_tree c.args.test.now in
    let body = stmt_tree c.args.body.now.value in
    let opened = c.in_ok-opened in
    let first = c.in_ok-laid.laid in
    let kept = c.in_ok-laid.ensures.context in
    let cond : EmitsTested
    (condition (state
    (on_line c.args.context.now line) first.locals c.nested.new.out) test) c.args.context.now.first_temp c.nested.new.out c.tested.new.out =
    subst (λ (x : Context). EmitsTested
    (condition (state (on_line x line) first.locals c.nested.new.out) test) x.first_temp c.nested.new.out c.tested.new.out) kept
    (c.in_ok-tested.ensures n.1 line first.locals) in
    subst (λ x. EmitsLowered
    (stmt (tree.Stmt.DoWhile place body test)
    (state (on_line c.args.context.now line) c.args.locals c.args.out.now)) c.args.context.now c.args.locals x
    (record { begin = c.in_ok-begin.begin; locals = first.locals }) c.args.out.now c.close_behind.new.out)
    (sym kept)
    (do_laid c.args.context.now line c.args.locals opened.opened.head opened.opened.index c.len-from.result opened.opened.visible place test
    body first
    c.in_ok-begin.begin c.args.out.now c.nested.new.out c.tested.new.out c.close_behind.new.out opened.ensures.head opened.ensures.index
    opened.ensures.visible
    c.len-from.ensures (c.in_ok-laid.ensures.laid n.0 line) cond c.in_ok-begin.ensures))

pub for_loop-returns-clause-laid : goal.for_loop-returns-clause-laid
for_loop-returns-clause-laid t c =
    subst (λ laid. EmitsStmt (tree.Stmt.For c.args.place (init_tree c.args.first.now) (option_map expr_tree c.args.test.now)
    (option_map for_step_tree c.args.last.now) (stmt_tree c.args.body.now.value))
    c.args.context.now c.args.locals c.leave.new.self laid c.args.out.now c.lead_next.new.self)
    (sym c.new.ensures) (λ n line.
    let place = c.args.place in
    let starts = init_tree c.args.first.now in
    let test = option_map expr_tree c.args.test.now in
    let ends = option_map for_step_tree c.args.last.now in
    let body = stmt_tree c.args.body.now.value in
    let opened = c.in_ok-opened in
    let first = c.in_ok-begun.begun in
    let second = c.in_ok-laid.laid in
    let third = c.in_ok-stepped.stepped in
    let kept = c.in_ok-laid.ensures.context in
    let inner = c.init.new.context in
    let within : IsWithin (within_scope c.args.context.now) inner =
    entered_within c.args.context.now c.enter-scope.new.self inner c.enter-scope.ensures.scope c.in_ok-begun.ensures.within in
    let left : c.leave.new.self ≡ c.args.context.now =
    c.leave.ensures c.args.context.now
    (subst (IsWithin (within_scope c.args.context.now)) (sym kept) within) c.enter-scope.ensures.begin c.enter-scope.ensures.bound in
    let inits : (line : ℕ)
    → EmitsLowered (for_init (state (on_line (within_scope c.args.context.now) line) c.args.locals c.args.out.now) place starts)
    (within_scope c.args.context.now) c.args.locals inner first c.args.out.now c.init.new.out =
    subst (λ x. (line : ℕ)
    → EmitsLowered
    (for_init (state
    (on_line x line) c.args.locals c.args.out.now) place starts) x c.args.locals inner first c.args.out.now c.init.new.out)
    c.enter-scope.ensures.scope
    (c.in_ok-begun.ensures.laid n.0) in
    let steps : (line : ℕ)
    → EmitsWithin
    (for_step (state
    (on_line inner line) second.locals c.nested.new.out) ends) inner second.locals third c.nested.new.out c.step.new.out =
    subst (λ x. (line : ℕ)
    → EmitsWithin
    (for_step (state (on_line x line) second.locals c.nested.new.out) ends) x second.locals third c.nested.new.out c.step.new.out) kept
    (c.in_ok-stepped.ensures n.2) in
    subst (λ x. EmitsLowered
    (stmt (tree.Stmt.For place starts test ends body)
    (state (on_line c.args.context.now line) c.args.locals c.args.out.now)) c.args.context.now c.args.locals x
    (record { begin = c.followed_by.result; locals = third.locals }) c.args.out.now c.lead_next.new.self)
    (sym left)
    (for_laid c.args.context.now inner line c.args.locals c.len-start.result opened.opened.head opened.opened.index c.len-from.result
    c.len-past.result opened.opened.visible place starts
    test ends body first second third c.followed_by.result c.at-label.result c.args.out.now c.init.new.out c.tested_for.new.out
    c.nested.new.out c.step.new.out c.close.new.out c.lead_next.new.self within c.len-start.ensures opened.ensures.head opened.ensures.index
    opened.ensures.visible c.len-from.ensures
    c.len-past.ensures c.at-label.ensures inits (λ l. c.in_ok-tested_for.ensures n.1 l first.locals)
    (c.in_ok-laid.ensures.laid n.3) steps c.in_ok-close.ensures
    c.lead_next.ensures c.followed_by.ensures))

pub stmts-loop-one-preserved : goal.stmts-loop-one-preserved
stmts-loop-one-preserved t c =
    let items = c.deref-one-items.result.now in
    let i = c.loop-one.one-index in
    let lt : i < length items = search rules in
    let same : c.args.ones.now.items ≡ items = search rules in
    record {
      within = within_then c.args.context.now c.loop-one.context c.stmt.new.context c.loop-one.invariant.within c.in_ok-next.ensures.within;
      laid =
          subst (λ laid. StmtsHaveIntNumbers (stmts_tree c.args.ones.now.items) → (line : ℕ) → EmitsLowered
          (stmts (stmts_of (map stmt_tree (take (i + 1) items))) (state (on_line c.args.context.now line) c.args.locals c.args.out.now))
          c.args.context.now c.args.locals c.stmt.new.context laid c.args.out.now c.lead_next.new.self)
          (sym c.new-laid-in-loop-one.ensures) (λ numbers line.
          let each = numbers_at items i c.one-item.result lt (subst (λ xs. StmtsHaveIntNumbers (stmts_tree xs)) same numbers) in
          let this = subst (λ x. StmtHasIntNumbers (stmt_tree x)) (sym c.one-item.is) each in
          subst (λ xs. EmitsLowered
          (stmts (stmts_of xs) (state (on_line c.args.context.now line) c.args.locals c.args.out.now))
          c.args.context.now c.args.locals c.stmt.new.context
          (record { begin = c.followed_by.result; locals = c.in_ok-next.next.locals })
          c.args.out.now c.lead_next.new.self)
          (one_more items i c.one-item.result lt c.one-item.is)
          (stmts_turn c.args.context.now c.loop-one.context c.stmt.new.context line c.args.locals c.len-start.result c.len-past.result
          (map stmt_tree (take i items)) (stmt_tree c.one-item.result) c.loop-one.laid c.in_ok-next.next
          c.followed_by.result c.args.out.now c.loop-one.out c.stmt.new.out c.lead_next.new.self c.loop-one.invariant.within
          c.len-start.ensures c.len-past.ensures (c.loop-one.invariant.laid numbers line)
          (λ l. c.in_ok-next.ensures.laid this l) c.lead_next.ensures c.followed_by.ensures));
    }
