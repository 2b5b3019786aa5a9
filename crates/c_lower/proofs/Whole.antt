-- Whole bodies, laid from the first place on.
use Rattle.std.proofs.Common.{◌≡◌, ℕ, zero, suc, ◌+◌, ◌<◌, ◌≤◌, [], length, map, refl, sym, ap, ◌∙◌, subst, arith}
use Rattle.c_grammar.specs.Trees.{Head}
use Rattle.c_types_rules.specs.Tables.{Tables}
use Rattle.c_types_rules.specs.Items.{listed}
use Rattle.c_lower_rules.specs.Code.{Code, ◌⨾◌, onto, begun_at}
use Rattle.c_lower_rules.specs.Contexts.{Context}
use Rattle.c_lower_rules.specs.Numbers.{IsIntNumber}
use Rattle.c_lower_rules.specs.Statements.{Lowered, stmts, stmts_kinds}
use Rattle.c_lower_rules.specs.Programs.{at_body, result_type, closed, opened, temp_kind}
use Rattle.c_lower_sizes.specs.Sizes.{stmts_size, stmts_locals}
use Rattle.c_lower_sizes.specs.Laws.{HaveSizes, HaveLocalKinds, HaveANodeForEachLocal}
use Rattle.c_tree.specs.declared.stmts.Block.{Block}
use Rattle.c_tree.specs.declared.stmts.Stmt.TheFolds.{fold_out-Block}
use Rattle.c_tree.specs.Syntax.{BlockTree, stmt_level, block_level, block_tree, stmts_tree}
use Rattle.c_grammar.specs.Trees as tree
use Rattle.c_lower_emit.specs.declared.drafts.Label.{Label}
use Rattle.c_lower_emit.specs.declared.drafts.Label.TheVariants.{At}
use Rattle.c_lower_emit.specs.Drafts.{at_start, resolve, laid, next_at}
use Rattle.c_lower_emit.specs.Emitting.{Out, HasRoom, led_out, EmitsCode}
use Rattle.c_lower_emit.proofs.Joining.{behind_nodes, code_then}
use Rattle.c_lower_exprs.specs.Contexts.{on_line}
use Rattle.c_lower_stmts.specs.Standing.{HasSlots}
use Rattle.c_lower.specs.declared.body.Body.{Body}
use Rattle.c_lower.specs.Bodies.{IsBodyOf}
use Rattle.c_lower.specs.Closing.{opening, closed_body, closed_of, behind_opening, no_out, Closes, IsFinished}
use Rattle.c_lower.proofs.Closed.{closed_size}

-- the statements of a block, and the place of its `}`
pub block_is : (block : Block) → (block_tree block).body ≡ stmts_tree block.stmts.items
block_is block = ap (λ (b : BlockTree). b.body) (fold_out-Block tree.Stmt BlockTree stmt_level block_level block)

pub end_is : (block : Block) → (block_tree block).end ≡ block.close
end_is block = ap (λ (b : BlockTree). b.end) (fold_out-Block tree.Stmt BlockTree stmt_level block_level block)

-- there is room for a body that is not too large
module _ (tables : Tables) (head : Head) (block : BlockTree) (o : Out) where
  abbrev start : Context
  start = at_body tables head (length (stmts_kinds tables block.body))

  pub begun_closed : (c : Context) (locals : ℕ) (begin : Label) (new : Out) → IsIntNumber (length (listed head.params))
      → locals ≡ stmts_locals block.body
      → stmts_size block.body ≤ 512 → length o.nodes ≤ 1 → o.temps ≡ [] → HaveSizes → HaveLocalKinds → HaveANodeForEachLocal
      → (length (listed head.params) + locals < 4294967296 → c ≡ at_body tables head locals)
      → ((line : ℕ) → HasRoom c.first_temp (closed_body (on_line c line) block o).code.size o
      → HasSlots c 0 (closed_body (on_line c line) block o).code.size
      → Closes (closed_body (on_line c line) block o) begin o new)
      → Closes (closed_of tables head block) begin o new
  begun_closed c locals begin new params locals_are few nodes none sizes kinds fewer begins closes =
      let count = kinds tables block.body in
      let less = fewer block.body in
      let is : c ≡ start = begins (omega (arith, params, locals_are, less, few)) ∙ ap (at_body tables head) (locals_are ∙ sym count) in
      let same : closed_body (on_line start 0) block o ≡ closed_of tables head block =
      ap (λ ts. closed (result_type tables head) block.end (stmts block.body (record { temps = ts; locals = 0; context = start }))) none in
      let statements = stmts block.body (record { temps = []; locals = 0; context = start }) in
      let size = closed_size (result_type tables head) block.end statements in
      let exact = sizes block.body (record { temps = []; locals = 0; context = start }) in
      let temps = ap length none in
      subst (λ (l : Lowered). HasRoom start.first_temp l.code.size o → HasSlots start 0 l.code.size → Closes l begin o new) same
      (subst (λ x. HasRoom x.first_temp (closed_body (on_line x 0) block o).code.size o
      → HasSlots x 0 (closed_body (on_line x 0) block o).code.size
      → Closes (closed_body (on_line x 0) block o) begin o new) is (closes 0))
      (record { nodes = omega (arith, nodes, size, exact, few); temps = omega (arith, params, count, less, size, exact, few, temps) })
      (omega (arith, params, size, exact, few))

-- a body behind a test that always holds
pub opened_whole : (l : Lowered) (begin : Label) (o p q new : Out) → o ≡ no_out → EmitsCode opening o.temps (At (length o.nodes)) o p
    → Closes l begin p q
    → (0 ≤ 1 → 1 ≤ length q.nodes → new ≡ led_out 0 1 (next_at begin) q) → Closes (behind_opening l) (At 0) no_out new
opened_whole l begin o p q new none opens closes leads =
    let opens' = subst (λ (x : Out). EmitsCode opening x.temps (At (length x.nodes)) x p) none opens in
    let first = behind_nodes no_out p opens'.grows in
    let second = behind_nodes p q closes.emits.grows in
    let emits = code_then opening l.code [] q.temps (At 0) begin no_out p q opens' closes.emits in
    let is : new ≡ led_out 0 (length p.nodes) (next_at begin) q =
    leads (omega arith) (omega (arith, first, second)) ∙ ap (λ n. led_out 0 n (next_at begin) q) (sym first) in
    record {
      emits = subst (λ x. EmitsCode (opening ⨾ l.code) x.temps (At 0) no_out x) (sym is) emits;
      temps = ap (λ (x : Out). map temp_kind x.temps) is ∙ closes.temps;
    }

module _ (tables : Tables) (head : Head) (block : BlockTree) where
  -- the body of a procedure
  whole_body : (l : Lowered) (begin : Label) (out : Out) (found : Body) → opened (closed_of tables head block) ≡ l
      → Closes l begin no_out out → IsFinished out found
      → IsBodyOf tables head block found
  whole_body l begin out found is closes finished = record {
    nodes = finished.nodes ∙ ap (map (laid at_start)) closes.emits.grows.nodes ∙ closes.emits.laid at_start
        ∙ ap (λ (x : Lowered). x.code.nodes 0 (onto 0)) (sym is);
    loops = finished.loops ∙ closes.emits.loops ∙ ap (λ (x : Lowered). x.code.loops 0) (sym is);
    temps = finished.temps ∙ closes.temps ∙ ap (λ (x : Lowered). map temp_kind x.behind.temps) (sym is);
  }

  begun_behind : (n : ℕ) (code : Code) → (n ≡ 0 → ⊥) → begun_at n code ≡ opening ⨾ code
  begun_behind zero code not = absurd (not refl)
  begun_behind (suc n) code not = refl

  -- its code does not begin at its first node
  pub begun_later : (begin : Label) (place : ℕ) (none before out : Out) (found : Body) → none ≡ no_out
      → Closes (closed_of tables head block) begin none before
      → place ≡ resolve at_start begin → (place ≡ 0 → ⊥) → Closes (behind_opening (closed_of tables head block)) (At 0) no_out out
      → IsFinished out found
      → IsBodyOf tables head block found
  begun_later begin place none before out found nothing closes places not behind =
      let l = closed_of tables head block in
      let closes' = subst (λ x. Closes l begin x before) nothing closes in
      let entry : l.code.entry 0 (onto 0) ≡ place = sym (closes'.emits.entry at_start) ∙ sym places in
      whole_body (behind_opening l) (At 0) out found
      (ap (λ x. record l { code = x }) (begun_behind (l.code.entry 0 (onto 0)) l.code (λ e. not (sym entry ∙ e)))) behind
