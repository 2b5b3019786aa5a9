-- Statements one behind another.
use Rattle.std.proofs.Common.{◌≡◌, ℕ, ◌+◌, ◌<◌, ◌≤◌, List, [], ◌∷◌, ◌++◌, length, map, refl, sym, ap, ◌∙◌, subst, arith}
use Rattle.c_grammar.specs.Trees.{Stmt}
use Rattle.c_lower_rules.specs.Code.{◌⨾◌}
use Rattle.c_lower_rules.specs.Contexts.{Context}
use Rattle.c_lower_rules.specs.Statements.{State, Lowered, stmt, stmts}
use Rattle.c_lower_emit.specs.declared.drafts.Label.{Label}
use Rattle.c_lower_emit.specs.Drafts.{redirect, next_at}
use Rattle.c_lower_emit.specs.Emitting.{Out, led_out, HasRoom, EmitsCode}
use Rattle.c_lower_emit.proofs.Joining.{behind_nodes, code_then, SameCode, same_code, same_back, same_both, same_behind}
use Rattle.c_lower_emit.proofs.Joining.{same_nothing_behind, same_nothing_before, same_groups}
use Rattle.c_lower_exprs.specs.Contexts.{on_line, IsWithin}
use Rattle.c_lower_stmts.specs.declared.laid.Laid.{Laid}
use Rattle.c_lower_stmts.specs.Laying.{EmitsLowered}
use Rattle.c_lower_stmts.specs.Standing.{state}
use Rattle.c_lower_stmts.proofs.Branching.{room_part, room_behind}
use Rattle.std.proofs.Common.{zero, suc, take, get_or}
use Rattle.std.proofs.lemmas.List.{map-append, take_more}
use Rattle.c_tree.specs.declared.stmts.Stmt.{Stmt as StmtValue}
use Rattle.c_tree.specs.Syntax.{stmt_tree, stmts_of, stmts_tree}
use Rattle.c_lower_rules.specs.Numbers.{StmtHasIntNumbers, StmtsHaveIntNumbers}

-- the code of one statement more
pub record IsMore (whole : Lowered) (one other : Lowered) : Type 0 where
  pub code : SameCode whole.code (one.code ⨾ other.code)
  pub behind : whole.behind ≡ other.behind

pub stmts_more : (xs : List Stmt) (x : Stmt) (st : State)
    → IsMore (stmts (stmts_of (xs ++ x ∷ [])) st) (stmts (stmts_of xs) st) (stmt x (stmts (stmts_of xs) st).behind)
stmts_more [] x st = record {
  code = same_both _ _ _ (same_nothing_behind (stmt x st).code) (same_back _ _ (same_nothing_before (stmt x st).code));
  behind = refl;
}
stmts_more (y ∷ ys) x st =
    let one = stmt y st in
    let rest = stmts (stmts_of ys) one.behind in
    let last = stmt x rest.behind in
    let more = stmts_more ys x one.behind in
    record {
      code =
          same_both (one.code ⨾ (stmts (stmts_of (ys ++ x ∷ [])) one.behind).code) (one.code ⨾ (rest.code ⨾ last.code))
          ((one.code ⨾ rest.code) ⨾ last.code)
          (same_behind one.code _ _ more.code) (same_back _ _ (same_groups one.code rest.code last.code));
      behind = more.behind;
    }

pub stmts_turn : (c0 c c' : Context) (line locals from past : ℕ) (xs : List Stmt) (x : Stmt) (laid next : Laid) (begin : Label)
    (o m n new : Out)
    → IsWithin c0 c → from ≡ length o.nodes → past ≡ length m.nodes
    → EmitsLowered (stmts (stmts_of xs) (state (on_line c0 line) locals o)) c0 locals c laid o m
    → ((line : ℕ) → EmitsLowered (stmt x (state (on_line c line) laid.locals m)) c laid.locals c' next m n)
    → (from ≤ past → past ≤ length n.nodes → new ≡ led_out from past (next_at next.begin) n)
    → begin ≡ redirect (next_at next.begin) laid.begin
    → EmitsLowered (stmts (stmts_of (xs ++ x ∷ [])) (state (on_line c0 line) locals o)) c0 locals c'
    (record { begin = begin; locals = next.locals }) o new
stmts_turn c0 c c' line locals from past xs x laid next begin o m n new within at there before one leads begins room slots =
    let st = state (on_line c0 line) locals o in
    let p = stmts (stmts_of xs) st in
    let q = stmt x p.behind in
    let whole = stmts (stmts_of (xs ++ x ∷ [])) st in
    let more = stmts_more xs x st in
    let size = more.code.size in
    let f_temp = within.first_temp in
    let f_local = within.first_local in
    let e = before (room_part c0.first_temp whole.code.size p.code.size o room (omega (arith, size))) (omega (arith, slots, size)) in
    let grown = e.grown in
    let one' : EmitsLowered q c laid.locals c' next m n =
    subst (λ y. EmitsLowered
    (stmt x (record { temps = p.behind.temps; locals = p.behind.locals; context = y })) c laid.locals c' next m n) e.context
    (subst (λ k. EmitsLowered
    (stmt x (record {
      temps = p.behind.temps;
      locals = k;
      context = on_line c p.behind.context.line;
    })) c laid.locals c' next m n) e.locals_then
    (subst (λ ts. EmitsLowered
    (stmt x (record {
      temps = ts;
      locals = laid.locals;
      context = on_line c p.behind.context.line;
    })) c laid.locals c' next m n) e.emits.grows.temps
    (one p.behind.context.line))) in
    let room' : HasRoom c.first_temp q.code.size m =
    subst (λ f. HasRoom f q.code.size m) (sym f_temp)
    (room_behind c0.first_temp whole.code.size p.code.size q.code.size o m room e.emits.grows (omega (arith, size))) in
    let f = one' room' (omega (arith, slots, size, f_local, grown)) in
    let grown' = f.grown in
    let p1 = behind_nodes o m e.emits.grows in
    let p2 = behind_nodes m n f.emits.grows in
    let new_is : new ≡ led_out (length o.nodes) (length m.nodes) (next_at next.begin) n =
    leads (omega (arith, at, there, p1)) (omega (arith, there, p2))
    ∙ ap (λ y. led_out y past (next_at next.begin) n) at ∙ ap (λ y. led_out (length o.nodes) y (next_at next.begin) n) there in
    let joint = code_then p.code q.code p.behind.temps q.behind.temps laid.begin next.begin o m n e.emits f.emits in
    let same =
    same_code (p.code ⨾ q.code) whole.code q.behind.temps (redirect (next_at next.begin) laid.begin) o
    (led_out (length o.nodes) (length m.nodes) (next_at next.begin) n)
    (same_back _ _ more.code) joint in
    record {
      emits = subst (λ y. EmitsCode whole.code whole.behind.temps begin o y) (sym new_is)
          (subst (λ y. EmitsCode whole.code whole.behind.temps y o (led_out (length o.nodes) (length m.nodes) (next_at next.begin) n))
          (sym begins)
          (subst (λ (y : State). EmitsCode whole.code y.temps (redirect (next_at next.begin) laid.begin) o
          (led_out (length o.nodes) (length m.nodes) (next_at next.begin) n)) (sym more.behind) same));
      locals_then = f.locals_then ∙ ap (λ (y : State). y.locals) (sym more.behind);
      context = ap (λ (y : State). on_line c' y.context.line) more.behind ∙ f.context ∙ ap (λ (y : State). y.context) (sym more.behind);
      grown = omega (arith, grown, grown', size);
    }

-- the statement at a place, and those before it
pub numbers_at : (ones : List StmtValue) (i : ℕ) (d : StmtValue) → i < length ones → StmtsHaveIntNumbers (stmts_tree ones)
    → StmtHasIntNumbers (stmt_tree (get_or ones i d))
numbers_at [] i d = λ lt. absurd (omega (arith, lt))
numbers_at (x ∷ xs) zero d = λ lt h. h.0
numbers_at (x ∷ xs) (suc i) d = λ lt h. numbers_at xs i d (omega (arith, lt)) h.1

pub one_more : (ones : List StmtValue) (i : ℕ) (one : StmtValue) → i < length ones → one ≡ get_or ones i one
    → map stmt_tree (take i ones) ++ stmt_tree one ∷ [] ≡ map stmt_tree (take (i + 1) ones)
one_more ones i one lt is =
    ap (λ x. map stmt_tree (take i ones) ++ stmt_tree x ∷ []) is ∙ sym (map-append stmt_tree (take i ones) (get_or ones i one ∷ []))
    ∙ ap (map stmt_tree) (sym (take_more ones i one lt))
