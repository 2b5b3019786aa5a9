-- Statements of one part, and branches.
use Rattle.std.proofs.Common.{◌≡◌, ℕ, ◌+◌, ◌<◌, ◌≤◌, List, length, refl, sym, ap, ◌∙◌, subst, arith}
use Rattle.c_grammar.specs.declared.tokens.places.Place.{Place}
use Rattle.c_grammar.specs.Trees.{Expr, Stmt}
use Rattle.c_lower_rules.specs.Code.{Exits, Code, Test, jump, nothing, choose}
use Rattle.c_lower_rules.specs.Contexts.{Context}
use Rattle.c_lower_rules.specs.Temporaries.{Temp}
use Rattle.c_lower_rules.specs.Statements.{Lowered, with_temps, with_names, inside, condition, stmt}
use Rattle.c_lower_emit.specs.declared.drafts.Label.{Label}
use Rattle.c_lower_emit.specs.declared.drafts.Label.TheVariants.{At, Next}
use Rattle.c_lower_emit.specs.Drafts.{Places, exits, resolve}
use Rattle.c_lower_emit.specs.Emitting.{Out, HasRoom, Grows, EmitsTest, EmitsCode, EmitsTested}
use Rattle.c_lower_emit.proofs.Joining.{behind_nodes, code_none}
use Rattle.c_lower_exprs.specs.Contexts.{on_line}
use Rattle.c_lower_stmts.specs.Standing.{state}
use Rattle.c_lower_stmts.specs.declared.laid.Laid.{Laid}
use Rattle.c_lower_stmts.specs.Laying.{EmitsLowered, EmitsWithin}

-- ROOM

pub room_part : (first n k : ℕ) (o : Out) → HasRoom first n o → k ≤ n → HasRoom first k o
room_part first n k o h le =
    let nodes = h.nodes in
    let temps = h.temps in
    record { nodes = omega (arith, nodes, le); temps = omega (arith, temps, le) }

pub room_behind : (first n a k : ℕ) {s : List Temp} {ds : List _} (o m : Out) → HasRoom first n o → Grows a s ds o m → a + k ≤ n
    → HasRoom first k m
room_behind first n a k o m h g le =
    let nodes = h.nodes in
    let temps = h.temps in
    let place = behind_nodes o m g in
    let grown = g.grown in
    let there = ap length g.temps in
    record { nodes = omega (arith, nodes, place, le); temps = omega (arith, temps, grown, there, le) }

-- ONE PART

pub jumped : (c : Context) (line locals : ℕ) (exit : Exits → ℕ) (begin : Label) (o : Out)
    → ((p : Places) → resolve p begin ≡ exit (exits p))
    → EmitsLowered (record { code = jump exit; behind = state (on_line c line) locals o }) c locals c
    (record { begin = begin; locals = locals }) o o
jumped c line locals exit begin o is room slots =
    record { emits = code_none exit begin o is; locals_then = refl; context = refl; grown = omega arith }

pub without_names : (l : Lowered) (c : Context) (locals : ℕ) (after : Context) (laid : Laid) (old new : Out)
    → EmitsLowered l c locals after laid old new → EmitsWithin l c locals laid old new
without_names l c locals after laid old new h room slots =
    let e = h room slots in
    record { emits = e.emits; locals_then = e.locals_then; grown = e.grown }

-- BRANCHES

-- what the function that leads a test says
abbrev pub Chooses : Label → Label → Out → Out → ℕ → ℕ → Type 0
Chooses holds fails old new from past =
    (tested : Test) → (one other : Code) → (s t u : List Temp) → (o m n : Out) → from ≡ length o.nodes → past ≡ length m.nodes
    → EmitsTest tested s o m → EmitsCode one t holds m n → EmitsCode other u fails n old
    → EmitsCode (choose tested one other) u (At (length o.nodes)) o new

pub if_else_laid : (c : Context) (line locals from past : ℕ) (place : Place) (e : Expr) (b other : Stmt) (first second : Laid)
    (begin : Label) (old m n now new : Out)
    → from ≡ length old.nodes → past ≡ length m.nodes → (from < 4294967296 → begin ≡ At from)
    → EmitsTested (condition (state (on_line c line) locals old) e) c.first_temp old m
    → EmitsWithin (stmt b (inside (state (on_line c line) locals m))) c locals first m n
    → EmitsWithin (stmt other (inside (state (on_line c line) first.locals n))) c first.locals second n now
    → Chooses first.begin second.begin now new from past
    → EmitsLowered (stmt (Stmt.IfElse place e b other) (state (on_line c line) locals old)) c locals c
    (record { begin = begin; locals = second.locals }) old new
if_else_laid c line locals from past place e b other first second begin old m n now new at there is cond one two chooses room slots =
    let st = state (on_line c line) locals old in
    let t = condition st e in
    let bl = stmt b (inside (with_temps st t.temps)) in
    let ol = stmt other (inside (with_names st bl.behind)) in
    let size = t.test.size + bl.code.size + ol.code.size in
    let nodes = room.nodes in
    let e1 = cond (room_part c.first_temp size t.test.size old room (omega arith)) in
    let one' : EmitsWithin bl c locals first m n =
    subst (λ ts. EmitsWithin (stmt b (inside (with_temps st ts))) c locals first m n) e1.grows.temps one in
    let e2 = one' (room_behind c.first_temp size t.test.size bl.code.size old m room e1.grows (omega arith)) (omega (arith, slots)) in
    let two' : EmitsWithin ol c first.locals second n now =
    subst (λ k. EmitsWithin
    (stmt other (inside
    (record { temps = bl.behind.temps; locals = k; context = on_line c line }))) c first.locals second n now) e2.locals_then
    (subst (λ ts. EmitsWithin
    (stmt other (inside
    (record { temps = ts; locals = first.locals; context = on_line c line }))) c first.locals second n now) e2.emits.grows.temps two) in
    let room1 = room_behind c.first_temp size t.test.size (bl.code.size + ol.code.size) old m room e1.grows (omega arith) in
    let grown = e2.grown in
    let e3 =
    two' (room_behind c.first_temp (bl.code.size + ol.code.size) bl.code.size ol.code.size m n room1 e2.emits.grows (omega arith))
    (omega (arith, slots, grown)) in
    let grown' = e3.grown in
    record {
      emits =
          subst (λ x. EmitsCode (choose t.test bl.code ol.code) ol.behind.temps x old new) (sym (is (omega (arith, at, nodes)) ∙ ap At at))
          (chooses t.test bl.code ol.code t.temps bl.behind.temps ol.behind.temps old m n at there e1 e2.emits e3.emits);
      locals_then = e3.locals_then;
      context = refl;
      grown = omega (arith, grown, grown');
    }

pub if_laid : (c : Context) (line locals from past : ℕ) (place : Place) (e : Expr) (b : Stmt) (first : Laid) (begin : Label)
    (old m now new : Out)
    → from ≡ length old.nodes → past ≡ length m.nodes → (from < 4294967296 → begin ≡ At from)
    → EmitsTested (condition (state (on_line c line) locals old) e) c.first_temp old m
    → EmitsWithin (stmt b (inside (state (on_line c line) locals m))) c locals first m now
    → Chooses first.begin Next now new from past
    → EmitsLowered (stmt (Stmt.If place e b) (state (on_line c line) locals old)) c locals c
    (record { begin = begin; locals = first.locals }) old new
if_laid c line locals from past place e b first begin old m now new at there is cond one chooses room slots =
    let st = state (on_line c line) locals old in
    let t = condition st e in
    let bl = stmt b (inside (with_temps st t.temps)) in
    let size = t.test.size + bl.code.size + 0 in
    let nodes = room.nodes in
    let e1 = cond (room_part c.first_temp size t.test.size old room (omega arith)) in
    let one' : EmitsWithin bl c locals first m now =
    subst (λ ts. EmitsWithin (stmt b (inside (with_temps st ts))) c locals first m now) e1.grows.temps one in
    let e2 = one' (room_behind c.first_temp size t.test.size bl.code.size old m room e1.grows (omega arith)) (omega (arith, slots)) in
    let e3 = subst (λ ts. EmitsCode nothing ts Next now now) e2.emits.grows.temps (code_none (λ exits. exits.next) Next now (λ p. refl)) in
    let grown = e2.grown in
    record {
      emits =
          subst (λ x. EmitsCode (choose t.test bl.code nothing) bl.behind.temps x old new) (sym (is (omega (arith, at, nodes)) ∙ ap At at))
          (chooses t.test bl.code nothing t.temps bl.behind.temps bl.behind.temps old m now at there e1 e2.emits e3);
      locals_then = e2.locals_then;
      context = refl;
      grown = omega (arith, grown);
    }
