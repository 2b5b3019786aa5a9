-- What the functions on expressions answer.
use Rattle.std.specs.Prelude.{◌≡◌, ℕ, length, List}
use Rattle.shape_data.specs.declared.program.ArithOp.{ArithOp}
use Rattle.shape_data.specs.declared.program.Operand.{Operand}
use Rattle.shape_data.specs.declared.program.TestOp.{TestOp}
use Rattle.c_lower_rules.specs.Values.{Lowering}
use Rattle.c_grammar.specs.Trees.{Name}
use Rattle.c_lower_rules.specs.Contexts.{Context}
use Rattle.c_lower_rules.specs.Expressions.{Arguments, arguments, no_arguments, arithmetic, comparison, conjunction, disjunction, called}
use Rattle.c_types_names.specs.Seen.{type_seen}
use Rattle.c_lower_emit.specs.declared.uses.Use.{Use}
use Rattle.c_lower_emit.specs.declared.uses.Use.TheVariants.{Value}
use Rattle.c_lower_emit.specs.Emitting.{Out, HasRoom, EmitsStraight, Emits, EmitsTested, BeginsTruth, LeadsWhereHolds, LeadsWhereFails}
use Rattle.c_lower_exprs.specs.declared.members.Found.{Found}

-- the expression was emitted in the use, and has this type
pub record IsLowered (used : Use) (l : Lowering) (first : ℕ) (old new : Out) (found : Found) : Type 0 where
  pub kind : type_seen found.kind ≡ l.kind
  pub emits : Emits used l first old new found.operand

-- arguments were emitted, where there is room for them
abbrev pub EmitsArguments : Arguments → ℕ → Out → Out → List Operand → Type 0
EmitsArguments args first old new operands =
    HasRoom first args.code.size old → EmitsStraight args.code args.temps old new × (operands ≡ args.operands)

-- behind any arguments that have these values, the call was emitted
abbrev pub IsCalled : Use → Context → Name → List Operand → ℕ → Out → Out → Out → Found → Type 0
IsCalled used c callee operands first before old new found =
    (args : List Lowering) → EmitsArguments (arguments (no_arguments before.temps) args) first before old operands
    → IsLowered used (called c callee args) first before new found

-- OPERATORS, behind any operands. A test begins at `from`, and its value goes to the slot `to`

-- behind two operands, what is computed of them was emitted
abbrev pub IsComputed : Use → Context → ArithOp → Found → Found → Out → Out → Found → Type 0
IsComputed used c op left right old new found =
    (l r : Lowering) → (before mid : Out) → IsLowered Value l c.first_temp before mid left → IsLowered Value r c.first_temp mid old right
    → IsLowered used (arithmetic c op l r) c.first_temp before new found

-- behind two operands, their comparison was emitted
abbrev pub IsCompared : Use → Context → TestOp → ℕ → ℕ → Found → Found → Out → Out → Found → Type 0
IsCompared used c op to from left right old new found =
    (l r : Lowering) → (before start mid : Out) → BeginsTruth used c.first_temp before start to → from ≡ length start.nodes
    → IsLowered Value l c.first_temp start mid left → IsLowered Value r c.first_temp mid old right
    → IsLowered used (comparison c op l r) c.first_temp before new found

-- behind two tests, the second where the first holds, their conjunction was emitted
abbrev pub IsBoth : Use → Context → ℕ → ℕ → Out → Out → Found → Type 0
IsBoth used c to from old new found =
    (l r : Lowering) → (before start one led : Out) → BeginsTruth used c.first_temp before start to → from ≡ length start.nodes
    → EmitsTested (l.test start.temps) c.first_temp start one → LeadsWhereHolds from one led
    → EmitsTested (r.test led.temps) c.first_temp led old
    → IsLowered used (conjunction c l r) c.first_temp before new found

-- behind two tests, the second where the first doesn't hold, their disjunction was emitted
abbrev pub IsEither : Use → Context → ℕ → ℕ → Out → Out → Found → Type 0
IsEither used c to from old new found =
    (l r : Lowering) → (before start one led : Out) → BeginsTruth used c.first_temp before start to → from ≡ length start.nodes
    → EmitsTested (l.test start.temps) c.first_temp start one → LeadsWhereFails from one led
    → EmitsTested (r.test led.temps) c.first_temp led old
    → IsLowered used (disjunction c l r) c.first_temp before new found
