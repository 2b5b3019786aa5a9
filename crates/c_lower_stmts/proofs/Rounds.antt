-- Loops.
use Rattle.std.proofs.Common.{◌≡◌, ℕ, ◌+◌, ◌<◌, ◌≤◌, List, length, refl, sym, ap, ◌∙◌, subst, arith}
use Rattle.std.specs.Prelude.{Option}
use Rattle.c_grammar.specs.declared.tokens.places.Place.{Place}
use Rattle.c_grammar.specs.Trees.{Expr, Simple, ForInit, Stmt}
use Rattle.c_lower_rules.specs.Code.{Code, Test, nothing, ◌⨾◌, repeat, repeat_first}
use Rattle.c_lower_rules.specs.Contexts.{Context, visible, within_scope}
use Rattle.c_lower_rules.specs.Temporaries.{Temp}
use Rattle.c_lower_rules.specs.Statements.{with_temps, with_names, inside, condition, for_init, for_condition, for_step, stmt}
use Rattle.c_lower_emit.specs.declared.drafts.Label.{Label}
use Rattle.c_lower_emit.specs.declared.drafts.Label.TheVariants.{At, Next}
use Rattle.c_lower_emit.specs.Drafts.{redirect, next_at}
use Rattle.c_lower_emit.specs.Emitting.{Out, led_out, HasRoom, EmitsTest, EmitsCode, EmitsTested}
use Rattle.c_lower_emit.proofs.Joining.{behind_nodes, code_none, code_then}
use Rattle.c_lower_exprs.specs.Contexts.{on_line, IsWithin}
use Rattle.c_lower_stmts.specs.declared.laid.Laid.{Laid}
use Rattle.c_lower_stmts.specs.Laying.{EmitsLowered, EmitsWithin}
use Rattle.c_lower_stmts.specs.Standing.{state}
use Rattle.c_lower_stmts.proofs.Branching.{room_part, room_behind}

-- what the functions that put loops together say
abbrev pub Closes : ℕ → ℕ → List ℕ → ℕ → ℕ → Label → Label → Out → Out → Type 0
Closes head index visible body step body_begin step_begin old new =
    (t : Test) → (b s : Code) → (u v x : List Temp) → (o m n : Out) → head ≡ length o.nodes → index ≡ length o.loops → body ≡ length m.nodes
    → step ≡ length n.nodes
    → length old.nodes < 4294967296 → EmitsTest t u o m → EmitsCode b v body_begin m n → EmitsCode s x step_begin n old
    → EmitsCode (repeat visible t b s) x (At (length o.nodes)) o new

abbrev pub ClosesBehind : ℕ → ℕ → List ℕ → ℕ → Label → Label → Out → Out → Type 0
ClosesBehind head index visible test body_begin begin old new =
    (t : Test) → (b : Code) → (u v : List Temp) → (o m : Out) → head ≡ length o.nodes → index ≡ length o.loops → test ≡ length m.nodes
    → length old.nodes < 4294967296 → EmitsCode b u body_begin o m → EmitsTest t v m old
    → EmitsCode (repeat_first visible b t) v begin o new

pub while_laid : (c : Context) (line locals head index body step : ℕ) (slots' : List ℕ) (place : Place) (e : Expr) (b : Stmt) (first : Laid)
    (begin : Label) (old m now new : Out)
    → head ≡ length old.nodes → index ≡ length old.loops → slots' ≡ visible c → body ≡ length m.nodes → step ≡ length now.nodes
    → (head < 4294967296 → begin ≡ At head)
    → EmitsTested (condition (state (on_line c line) locals old) e) c.first_temp old m
    → EmitsWithin (stmt b (inside (state (on_line c line) locals m))) c locals first m now
    → Closes head index slots' body step first.begin Next now new
    → EmitsLowered (stmt (Stmt.While place e b) (state (on_line c line) locals old)) c locals c
    (record { begin = begin; locals = first.locals }) old new
while_laid c line locals head index body step slots' place e b first begin old m now new at_head at_index is_visible at_body at_step is cond
    one closes room slots =
    let st = state (on_line c line) locals old in
    let t = condition st e in
    let bl = stmt b (inside (with_temps st t.temps)) in
    let size = t.test.size + bl.code.size + 0 in
    let nodes = room.nodes in
    let e1 = cond (room_part c.first_temp size t.test.size old room (omega arith)) in
    let one' : EmitsWithin bl c locals first m now =
    subst (λ ts. EmitsWithin (stmt b (inside (with_temps st ts))) c locals first m now) e1.grows.temps one in
    let e2 = one' (room_behind c.first_temp size t.test.size bl.code.size old m room e1.grows (omega arith)) (omega (arith, slots)) in
    let e3 = subst (λ ts. EmitsCode nothing ts Next now now) e2.emits.grows.temps (code_none (λ exits. exits.next) Next now (λ p. refl)) in
    let p1 = behind_nodes old m e1.grows in
    let p2 = behind_nodes m now e2.emits.grows in
    let grown = e2.grown in
    record {
      emits =
          subst (λ x. EmitsCode (repeat (visible c) t.test bl.code nothing) bl.behind.temps x old new)
          (sym (is (omega (arith, at_head, nodes)) ∙ ap At at_head))
          (subst (λ v. EmitsCode (repeat v t.test bl.code nothing) bl.behind.temps (At (length old.nodes)) old new) is_visible
          (closes t.test bl.code nothing t.temps bl.behind.temps bl.behind.temps old m now at_head at_index at_body at_step
          (omega (arith, nodes, p1, p2)) e1 e2.emits e3));
      locals_then = e2.locals_then;
      context = refl;
      grown = omega (arith, grown);
    }

pub do_laid : (c : Context) (line locals head index test : ℕ) (slots' : List ℕ) (place : Place) (e : Expr) (b : Stmt) (first : Laid)
    (begin : Label) (old m now new : Out)
    → head ≡ length old.nodes → index ≡ length old.loops → slots' ≡ visible c → test ≡ length m.nodes
    → EmitsWithin (stmt b (inside (state (on_line c line) locals old))) c locals first old m
    → EmitsTested (condition (state (on_line c line) first.locals m) e) c.first_temp m now
    → ClosesBehind head index slots' test first.begin begin now new
    → EmitsLowered (stmt (Stmt.DoWhile place b e) (state (on_line c line) locals old)) c locals c
    (record { begin = begin; locals = first.locals }) old new
do_laid c line locals head index test slots' place e b first begin old m now new at_head at_index is_visible at_test one cond closes room
    slots =
    let st = state (on_line c line) locals old in
    let bl = stmt b (inside st) in
    let t = condition (with_names st bl.behind) e in
    let size = bl.code.size + t.test.size in
    let nodes = room.nodes in
    let e1 = one (room_part c.first_temp size bl.code.size old room (omega arith)) (omega (arith, slots)) in
    let cond' : EmitsTested t c.first_temp m now =
    subst (λ ts. EmitsTested
    (condition (record {
      temps = ts;
      locals = first.locals;
      context = on_line c line;
    }) e) c.first_temp m now) e1.emits.grows.temps cond in
    let e2 = cond' (room_behind c.first_temp size bl.code.size t.test.size old m room e1.emits.grows (omega arith)) in
    let p1 = behind_nodes old m e1.emits.grows in
    let p2 = behind_nodes m now e2.grows in
    let grown = e1.grown in
    record {
      emits = subst (λ v. EmitsCode (repeat_first v bl.code t.test) t.temps begin old new) is_visible
          (closes t.test bl.code bl.behind.temps t.temps old m at_head at_index at_test (omega (arith, nodes, p1, p2)) e1.emits e2);
      locals_then = e1.locals_then;
      context = refl;
      grown = omega (arith, grown);
    }

pub for_laid : (c inner : Context) (line locals from head index body step : ℕ) (slots' : List ℕ) (place : Place) (init : ForInit)
    (e : Option Expr) (s : Option Simple) (b : Stmt)
    (first second third : Laid) (begin at_head' : Label) (old i m n now closed new : Out)
    → IsWithin (within_scope c) inner
    → from ≡ length old.nodes → head ≡ length i.nodes → index ≡ length i.loops → slots' ≡ visible inner → body ≡ length m.nodes
    → step ≡ length n.nodes → (head < 4294967296 → at_head' ≡ At head)
    → ((line : ℕ)
    → EmitsLowered (for_init (state (on_line (within_scope c) line) locals old) place init) (within_scope c) locals inner first old i)
    → ((line : ℕ) → EmitsTested (for_condition (state (on_line inner line) first.locals i) place e) inner.first_temp i m)
    → ((line : ℕ) → EmitsWithin (stmt b (inside (state (on_line inner line) first.locals m))) inner first.locals second m n)
    → ((line : ℕ) → EmitsWithin (for_step (state (on_line inner line) second.locals n) s) inner second.locals third n now)
    → Closes head index slots' body step second.begin third.begin now closed
    → (from ≤ head → head ≤ length closed.nodes → new ≡ led_out from head (next_at at_head') closed)
    → begin ≡ redirect (next_at at_head') first.begin
    → EmitsLowered (stmt (Stmt.For place init e s b) (state (on_line c line) locals old)) c locals c
    (record { begin = begin; locals = third.locals }) old new
for_laid c inner line locals from head index body step slots' place init e s b first second third begin head_label old i m n now closed new
    within
    at_from at_head at_index is_visible at_body at_step is inits conds ones steps closes leads begins room slots =
    let st = state (on_line c line) locals old in
    let il = for_init (inside st) place init in
    let tl = for_condition il.behind place e in
    let bl = stmt b (inside (with_temps il.behind tl.temps)) in
    let sl = for_step (with_names il.behind bl.behind) s in
    let rest = tl.test.size + bl.code.size + sl.code.size in
    let size = il.code.size + rest in
    let nodes = room.nodes in
    let f_temp = within.first_temp in
    let f_local = within.first_local in
    let e0 = inits line (room_part c.first_temp size il.code.size old room (omega arith)) (omega (arith, slots)) in
    let inner_line = il.behind.context.line in
    let grown0 = e0.grown in
    let room0 : HasRoom inner.first_temp rest i =
    subst (λ f. HasRoom f rest i) (sym f_temp) (room_behind c.first_temp size il.code.size rest old i room e0.emits.grows (omega arith)) in
    let cond' : EmitsTested tl inner.first_temp i m =
    subst (λ x. EmitsTested
    (for_condition (record { temps = il.behind.temps; locals = il.behind.locals; context = x }) place e) inner.first_temp i m) e0.context
    (subst (λ k. EmitsTested
    (for_condition
    (record { temps = il.behind.temps; locals = k; context = on_line inner inner_line }) place e) inner.first_temp i m) e0.locals_then
    (subst (λ ts. EmitsTested
    (for_condition
    (record { temps = ts; locals = first.locals; context = on_line inner inner_line }) place e) inner.first_temp i m) e0.emits.grows.temps
    (conds inner_line))) in
    let e1 = cond' (room_part inner.first_temp rest tl.test.size i room0 (omega arith)) in
    let one' : EmitsWithin bl inner first.locals second m n =
    subst (λ x. EmitsWithin
    (stmt b (inside (record { temps = tl.temps; locals = il.behind.locals; context = x }))) inner first.locals second m n) e0.context
    (subst (λ k. EmitsWithin
    (stmt b (inside
    (record { temps = tl.temps; locals = k; context = on_line inner inner_line }))) inner first.locals second m n) e0.locals_then
    (subst (λ ts. EmitsWithin
    (stmt b (inside
    (record { temps = ts; locals = first.locals; context = on_line inner inner_line }))) inner first.locals second m n) e1.grows.temps
    (ones inner_line))) in
    let room1 : HasRoom inner.first_temp (bl.code.size + sl.code.size) m =
    room_behind inner.first_temp rest tl.test.size (bl.code.size + sl.code.size) i m room0 e1.grows (omega arith) in
    let e2 =
    one' (room_part inner.first_temp (bl.code.size + sl.code.size) bl.code.size m room1 (omega arith))
    (omega (arith, slots, f_local, grown0)) in
    let grown1 = e2.grown in
    let step' : EmitsWithin sl inner second.locals third n now =
    subst (λ x. EmitsWithin
    (for_step (record { temps = bl.behind.temps; locals = bl.behind.locals; context = x }) s) inner second.locals third n now) e0.context
    (subst (λ k. EmitsWithin
    (for_step (record {
      temps = bl.behind.temps;
      locals = k;
      context = on_line inner inner_line;
    }) s) inner second.locals third n now) e2.locals_then
    (subst (λ ts. EmitsWithin
    (for_step (record {
      temps = ts;
      locals = second.locals;
      context = on_line inner inner_line;
    }) s) inner second.locals third n now) e2.emits.grows.temps
    (steps inner_line))) in
    let e3 =
    step' (room_behind inner.first_temp (bl.code.size + sl.code.size) bl.code.size sl.code.size m n room1 e2.emits.grows (omega arith))
    (omega (arith, slots, f_local, grown0, grown1)) in
    let grown2 = e3.grown in
    let p0 = behind_nodes old i e0.emits.grows in
    let p1 = behind_nodes i m e1.grows in
    let p2 = behind_nodes m n e2.emits.grows in
    let p3 = behind_nodes n now e3.emits.grows in
    let seen : slots' ≡ visible il.behind.context = is_visible ∙ ap visible e0.context in
    let loop : EmitsCode (repeat (visible il.behind.context) tl.test bl.code sl.code) sl.behind.temps (At (length i.nodes)) i closed =
    subst (λ v. EmitsCode (repeat v tl.test bl.code sl.code) sl.behind.temps (At (length i.nodes)) i closed) seen
    (closes tl.test bl.code sl.code tl.temps bl.behind.temps sl.behind.temps i m n at_head at_index at_body at_step
    (omega (arith, nodes, p0, p1, p2, p3)) e1 e2.emits e3.emits) in
    let p4 = behind_nodes i closed loop.grows in
    let label : head_label ≡ At (length i.nodes) = is (omega (arith, at_head, nodes, p0)) ∙ ap At at_head in
    let new_is : new ≡ led_out (length old.nodes) (length i.nodes) (next_at (At (length i.nodes))) closed =
    leads (omega (arith, at_from, at_head, p0)) (omega (arith, at_head, p4))
    ∙ ap (λ y. led_out y head (next_at head_label) closed) at_from
    ∙ ap (λ y. led_out (length old.nodes) y (next_at head_label) closed) at_head
    ∙ ap (λ w. led_out (length old.nodes) (length i.nodes) (next_at w) closed) label in
    let whole = il.code ⨾ repeat (visible il.behind.context) tl.test bl.code sl.code in
    record {
      emits =
          subst (λ y. EmitsCode whole sl.behind.temps begin old y) (sym new_is)
          (subst (λ y. EmitsCode whole sl.behind.temps y old
          (led_out (length old.nodes) (length i.nodes) (next_at (At (length i.nodes))) closed))
          (sym (begins ∙ ap (λ w. redirect (next_at w) first.begin) label))
          (code_then il.code (repeat (visible il.behind.context) tl.test bl.code sl.code) il.behind.temps sl.behind.temps first.begin
          (At (length i.nodes)) old i closed e0.emits loop));
      locals_then = e3.locals_then;
      context = refl;
      grown = omega (arith, grown0, grown1, grown2);
    }
