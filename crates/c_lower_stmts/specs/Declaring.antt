-- What the functions on declarations answer.
use Rattle.std.specs.Prelude.{◌≡◌, ℕ, ◌+◌, ◌≤◌, List, [], ◌∷◌, ◌++◌, length}
use Rattle.c_grammar.specs.Trees.{Specifier, Initialized}
use Rattle.c_lower_rules.specs.Contexts.{Context}
use Rattle.c_lower_rules.specs.Statements.{Lowered, locals as locals_of}
use Rattle.c_lower_emit.specs.declared.drafts.Label.TheVariants.{At}
use Rattle.c_lower_emit.specs.Emitting.{Out, HasRoom, EmitsCode}
use Rattle.c_lower_exprs.specs.Contexts.{on_line}
use Rattle.c_lower_stmts.specs.Standing.{state, HasSlots}

-- locals were declared
pub record IsDeclared (l : Lowered) (line locals : ℕ) (after : Context) (then : ℕ) (old new : Out) : Type 0 where
  pub emits : EmitsCode l.code l.behind.temps (At (length old.nodes)) old new
  pub locals_then : then ≡ l.behind.locals
  pub context : on_line after line ≡ l.behind.context
  pub grown : then ≤ locals + l.code.size

-- the same, where there is room for it
abbrev pub Declares : Lowered → Context → ℕ → ℕ → Context → ℕ → Out → Out → Type 0
Declares l c line locals after then old new =
    HasRoom c.first_temp l.code.size old → HasSlots c locals l.code.size → IsDeclared l line locals after then old new

-- behind any locals of the specifier whose code begins at `start`, the local is declared as one more
abbrev pub DeclaresMore : Specifier → Initialized → ℕ → ℕ → Context → ℕ → Context → ℕ → Out → Out → Type 0
DeclaresMore specifier one start line c locals after then old new =
    (done : List Initialized) → (first : Context) → (count : ℕ) → (before : Out) → start ≡ length before.nodes
    → Declares (locals_of specifier done (state (on_line first line) count before)) first line count c locals before old
    → Declares (locals_of specifier (done ++ one ∷ []) (state (on_line first line) count before)) first line count after then before new
