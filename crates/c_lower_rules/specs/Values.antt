-- What the code of an expression is, in each of the three ways in which one is used: for its value, into a slot, as a test.
use Rattle.std.specs.Prelude.{ℕ, ◌+◌, Bool, true, false, List, pos}
use Rattle.shape_data.specs.declared.program.Cmd.{Cmd}
use Rattle.shape_data.specs.declared.program.Cmd.TheVariants as cmd
use Rattle.shape_data.specs.declared.program.Operand.{Operand}
use Rattle.shape_data.specs.declared.program.Operand.TheVariants.{Slot, Num}
use Rattle.shape_data.specs.declared.program.TestOp.TheVariants as test
use Rattle.shape_data.specs.declared.program.Ty.{Ty}
use Rattle.shape_data.specs.declared.program.Ty.TheVariants.{Int, Ptr}
use Rattle.c_lower_rules.specs.Code.{Code, Test, Straight, no_nodes, straight, command, ◌⊳◌, branch, test_behind, choose}
use Rattle.c_lower_rules.specs.Temporaries.{Temp, Taken, take_temp}
use Rattle.c_lower_rules.specs.Contexts.{Context}

infixl 5 ◌▹◌
-- what a function makes of a value
abbrev pub ◌▹◌ : {A B : Type 0} → A → (A → B) → B
value ▹ make = make value

-- code, and the temporaries behind it
pub record Piece : Type 0 where
  pub code : Code
  pub temps : List Temp

-- code that leaves a value, and what the value is read from
pub record Value : Type 0 where
  pub code : Straight
  pub operand : Operand
  pub temps : List Temp

-- the code of a test, and the temporaries behind it
pub record Tested : Type 0 where
  pub test : Test
  pub temps : List Temp

-- the code before a command that makes a value, and the command, of a slot to put it into and a place to go on at
pub record Making : Type 0 where
  pub code : Straight
  pub make : ℕ → ℕ → Cmd
  pub temps : List Temp

-- an expression: its type, and its code in each use, from temporaries on
pub record Lowering : Type 0 where
  pub kind : Ty
  pub value : List Temp → Value
  pub into : ℕ → List Temp → Piece
  pub test : List Temp → Tested

-- the type is a pointer
abbrev pub is_pointer : Ty → Bool
is_pointer (Ptr tag) = true
is_pointer _ = false

-- the slot of the temporary that was taken
abbrev pub slot_taken : Context → Taken → ℕ
slot_taken c taken = c.first_temp + taken.place

-- a value as a test: it is not 0 (C11 6.8.4.1)
abbrev pub not_zero : Context → Ty → Value → Tested
not_zero c kind value = record {
  test = test_behind value.code (branch c.line test.Ne (is_pointer kind) value.operand (Num (pos 0)));
  temps = value.temps;
}

-- a number or a variable: there is nothing to compute
abbrev pub at_hand : Context → Ty → Operand → Lowering
at_hand c kind operand = record {
  kind = kind;
  value = λ temps. record { code = no_nodes; operand = operand; temps = temps };
  into = λ to temps. record { code = command c.line (cmd.Copy to operand); temps = temps };
  test = λ temps. not_zero c kind (record { code = no_nodes; operand = operand; temps = temps });
}

-- the command puts its value into the slot
abbrev pub put_into : Context → ℕ → Making → Piece
put_into c to making = record { code = making.code ⊳ command c.line (making.make to); temps = making.temps }

-- what is put into a slot, as a value
abbrev pub read_from : ℕ → Code → List Temp → Value
read_from slot code temps = record { code = straight code; operand = Slot slot; temps = temps }

-- the command puts its value into the temporary that was taken, and the value is read from there
abbrev pub put_into_temp : Context → Making → Taken → Value
put_into_temp c making taken = read_from (slot_taken c taken) (put_into c (slot_taken c taken) making).code taken.temps

-- a value that a command makes goes to a temporary, which is taken behind those that its operands take
abbrev pub made_value : Context → Ty → Making → Value
made_value c kind making = put_into_temp c making (take_temp kind making.temps)

-- an expression whose last command makes its value
abbrev pub made : Context → Ty → (List Temp → Making) → Lowering
made c kind making = record {
  kind = kind;
  value = λ temps. made_value c kind (making temps);
  into = λ to temps. put_into c to (making temps);
  test = λ temps. not_zero c kind (made_value c kind (making temps));
}

-- 1 where the test holds, 0 where it doesn't
abbrev pub put_truth : Context → ℕ → Tested → Piece
put_truth c to tested = record {
  code = choose tested.test (command c.line (cmd.Copy to (Num (pos 1)))) (command c.line (cmd.Copy to (Num (pos 0))));
  temps = tested.temps;
}

-- what a piece left in the slot, 1 or 0, as a value
abbrev pub truth_value : ℕ → Piece → Value
truth_value slot piece = read_from slot piece.code piece.temps

-- an expression that is a test. Where its value is wanted, the temporary for that is taken first
abbrev pub truth : Context → (List Temp → Tested) → Lowering
truth c testing = record {
  kind = Int;
  value = λ temps. take_temp Int temps
      ▹ (λ taken. truth_value (slot_taken c taken) (put_truth c (slot_taken c taken) (testing taken.temps)));
  into = λ to temps. put_truth c to (testing temps);
  test = testing;
}
