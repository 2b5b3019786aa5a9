-- A procedure that returns at once: its run has not begun, or has returned at its first step.
use Rattle.std.specs.Prelude.{◌≡◌, ℕ, zero, suc, ◌+◌, ◌<◌, ◌≤◌, ℤ, pos, List, [], ◌∷◌, ◌++◌, length, replicate, slice_index_or}
use Rattle.std.proofs.Common.{refl, sym, ap, ◌∙◌, arith, add-zero, inl}
use Rattle.std.proofs.Math.ListN.{get_or-append}
use Rattle.std.specs.declared.option.Option.TheVariants.{None}
use Rattle.shape_data.specs.declared.machine.Cell.{Cell}
use Rattle.shape_data.specs.declared.machine.Choice.{Choice}
use Rattle.shape_data.specs.declared.machine.Stepped.TheVariants as stepped
use Rattle.shape_data.specs.declared.program.Operand.{Operand}
use Rattle.shape_data.specs.declared.program.Operand.TheVariants.{Slot, Num}
use Rattle.shape_data.specs.declared.program.Program.{Program}
use Rattle.shape_data.specs.declared.symbolic.Exp.{Exp}
use Rattle.shape_data.specs.declared.symbolic.Exp.TheVariants.{Var, Const}
use Rattle.shape_data.specs.Machine.{start, step, operand_value, new_frame}
use Rattle.shape_data.specs.Meaning.{value, AgreesOnLogical}
use Rattle.shape_data.specs.Valid.{Valid, ValidFor, values_from}
use Rattle.sym_parts.specs.Shapes.Returns.{ReturnsAtOnce, returns_value}

-- the value of a parameter's slot
param_value : {A : Type 0} (s : ℕ → ℤ) (k : ℕ) (params : List A) (others : List ℤ) (slot : ℕ) → slot < length params →
    slice_index_or (values_from s k params ++ others) slot (pos 0) ≡ s (k + slot)
param_value s k [] others slot h = absurd (omega arith)
param_value s k (param ∷ params) others zero h = ap s (sym (add-zero k))
param_value s k (param ∷ params) others (suc slot) h =
    let inside : slot < length params = omega arith in
    let shifted : (k + 1) + slot ≡ k + suc slot = omega arith in
    rw (param_value s (k + 1) params others slot inside) (ap s shifted)

-- a slot of zeros, or past them
zero_value : (count slot : ℕ) → slice_index_or (replicate count (pos 0)) slot (pos 0) ≡ pos 0
zero_value zero slot = refl
zero_value (suc count) zero = refl
zero_value (suc count) (suc slot) = zero_value count slot

-- the value of a slot that is no parameter
past_value : (args : List ℤ) (count slot : ℕ) → length args ≤ slot → slice_index_or (args ++ replicate count (pos 0)) slot (pos 0) ≡ pos 0
past_value [] count slot h = zero_value count slot
past_value (arg ∷ args) count zero h = absurd (omega arith)
past_value (arg ∷ args) count (suc slot) h = let past : length args ≤ slot = omega arith in past_value args count slot past

length-values_from : {A : Type 0} (s : ℕ → ℤ) (k : ℕ) (params : List A) → length (values_from s k params) ≡ length params
length-values_from s k [] = refl
length-values_from s k (param ∷ params) = ap (λ n. suc n) (length-values_from s (k + 1) params)

module _ (program : Program) (number : ℕ) (operand : Operand) (at_once : ReturnsAtOnce program number operand) where
  -- whatever the arguments, the heap and the choice, the first step returns the operand's value and leaves the heap
  pub first_step : (args : List ℤ) (heap : List Cell) (choice : Choice) →
      step program (start at_once.proc.flow number args heap) choice
      ≡ stepped.Returned (operand_value (new_frame number at_once.proc.flow args None).locals operand) heap
  first_step args heap choice = rw (at_once.is_proc, at_once.is_first, at_once.is_return) refl

  pub returned-ValidFor : (ret : Exp) →
      ((s t : ℕ → ℤ) → AgreesOnLogical s t →
      operand_value (new_frame number at_once.proc.flow (values_from s 0 at_once.proc.flow.params) None).locals operand ≡ value t ret) →
      ValidFor program number at_once.proc (returns_value ret)
  returned-ValidFor ret said s own frame whole meets sum [] = tt
  returned-ValidFor ret said s own frame whole meets sum (choice ∷ choices) =
      rw (first_step (values_from s 0 at_once.proc.flow.params) whole choice)
      (own, sum, inl (meets.0, meets.1, said s meets.0 meets.1, meets.2))

  pub returned-Valid : (ret : Exp) →
      ((s t : ℕ → ℤ) → AgreesOnLogical s t →
      operand_value (new_frame number at_once.proc.flow (values_from s 0 at_once.proc.flow.params) None).locals operand ≡ value t ret) →
      Valid program number (returns_value ret)
  returned-Valid ret said = rw at_once.is_proc (returned-ValidFor ret said)

pub parameter-first_step : (program : Program) (number slot : ℕ) (at_once : ReturnsAtOnce program number (Slot slot)) (args : List ℤ)
    (heap : List Cell) (choice : Choice) →
    slot < length args →
    step program (start at_once.proc.flow number args heap) choice ≡ stepped.Returned (slice_index_or args slot (pos 0)) heap
parameter-first_step program number slot at_once args heap choice within =
    first_step program number (Slot slot) at_once args heap choice
    ∙ ap (λ v. stepped.Returned v heap) (get_or-append args _ (pos 0) slot within)

pub other_slot-first_step : (program : Program) (number slot : ℕ) (at_once : ReturnsAtOnce program number (Slot slot)) (args : List ℤ)
    (heap : List Cell) (choice : Choice) →
    length args ≤ slot → step program (start at_once.proc.flow number args heap) choice ≡ stepped.Returned (pos 0) heap
other_slot-first_step program number slot at_once args heap choice past =
    first_step program number (Slot slot) at_once args heap choice ∙ ap (λ v. stepped.Returned v heap) (past_value args _ slot past)

pub parameter-Valid : (program : Program) (number slot : ℕ) (at_once : ReturnsAtOnce program number (Slot slot)) →
    slot < length at_once.proc.flow.params → slot < 65536 → Valid program number (returns_value (Var slot))
parameter-Valid program number slot at_once is_param is_logical =
    returned-Valid program number (Slot slot) at_once (Var slot) (λ s t agrees.
    let bare : 0 + slot ≡ slot = omega arith in
    param_value s 0 at_once.proc.flow.params _ slot is_param ∙ ap s bare ∙ sym (agrees slot is_logical))

pub number-Valid : (program : Program) (number : ℕ) (n : ℤ) → ReturnsAtOnce program number (Num n) →
    Valid program number (returns_value (Const n))
number-Valid program number n at_once = returned-Valid program number (Num n) at_once (Const n) (λ s t agrees. refl)

pub other_slot-Valid : (program : Program) (number slot : ℕ) (at_once : ReturnsAtOnce program number (Slot slot)) →
    length at_once.proc.flow.params ≤ slot → Valid program number (returns_value (Const (pos 0)))
other_slot-Valid program number slot at_once is_other = returned-Valid program number (Slot slot) at_once (Const (pos 0)) (λ s t agrees.
    let past : length (values_from s 0 at_once.proc.flow.params) ≤ slot = rw (length-values_from s 0 at_once.proc.flow.params) is_other in
    past_value (values_from s 0 at_once.proc.flow.params) _ slot past)
