-- What was emitted of statements.
use Rattle.std.specs.Prelude.{◌≡◌, ℕ, ◌+◌, ◌≤◌}
use Rattle.c_grammar.specs.Trees.{Stmt}
use Rattle.c_lower_rules.specs.Contexts.{Context}
use Rattle.c_lower_rules.specs.Numbers.{StmtHasIntNumbers}
use Rattle.c_lower_rules.specs.Statements.{Lowered, stmt}
use Rattle.c_lower_emit.specs.Emitting.{Out, HasRoom, EmitsCode}
use Rattle.c_lower_exprs.specs.Contexts.{on_line}
use Rattle.c_lower_stmts.specs.Standing.{state, HasSlots}
use Rattle.c_lower_stmts.specs.declared.laid.Laid.{Laid}

-- the code was emitted, and these are the locals then
pub record LaysCode (l : Lowered) (locals : ℕ) (laid : Laid) (old new : Out) : Type 0 where
  pub emits : EmitsCode l.code l.behind.temps laid.begin old new
  pub locals_then : laid.locals ≡ l.behind.locals
  pub grown : laid.locals ≤ locals + l.code.size

-- the same, and names mean there what they are to mean
pub record Lays (l : Lowered) (c : Context) (locals : ℕ) (after : Context) (laid : Laid) (old new : Out) : Type 0 where
  pub emits : EmitsCode l.code l.behind.temps laid.begin old new
  pub locals_then : laid.locals ≡ l.behind.locals
  pub context : on_line after l.behind.context.line ≡ l.behind.context
  pub grown : laid.locals ≤ locals + l.code.size

-- where there is room for it
abbrev pub EmitsLowered : Lowered → Context → ℕ → Context → Laid → Out → Out → Type 0
EmitsLowered l c locals after laid old new =
    HasRoom c.first_temp l.code.size old → HasSlots c locals l.code.size → Lays l c locals after laid old new

-- a piece in a scope of its own was emitted, where there is room for it
abbrev pub EmitsWithin : Lowered → Context → ℕ → Laid → Out → Out → Type 0
EmitsWithin l c locals laid old new = HasRoom c.first_temp l.code.size old → HasSlots c locals l.code.size → LaysCode l locals laid old new

-- a statement whose numbers are ints was emitted, whatever line the context has
abbrev pub EmitsStmt : Stmt → Context → ℕ → Context → Laid → Out → Out → Type 0
EmitsStmt one c locals after laid old new =
    StmtHasIntNumbers one → (line : ℕ) → EmitsLowered (stmt one (state (on_line c line) locals old)) c locals after laid old new
