-- The code of an expression is good in each of its uses.
use Rattle.std.proofs.Common.{◌≡◌, ℕ, ◌+◌, ◌-◌, ◌<◌, ◌≤◌, Bool, true, false, cond, List, [], ◌∷◌, length, arith}
use Rattle.std.specs.Prelude.{All, pos}
use Rattle.std.proofs.lemmas.List.Elements.{All-nil, All-cons, All-head, All-tail}
use Rattle.shape_data.specs.declared.program.Operand.{Operand}
use Rattle.shape_data.specs.declared.program.Operand.TheVariants.{Num}
use Rattle.shape_data.specs.declared.program.StructDef.{StructDef}
use Rattle.shape_data.specs.declared.program.TestOp.TheVariants as test
use Rattle.shape_data.specs.declared.program.Ty.{Ty}
use Rattle.shape_data.specs.declared.program.Ty.TheVariants.{Int}
use Rattle.shape_data.specs.WellFormed.{IsTy, IsOperand}
use Rattle.c_lower_rules.specs.Code.{no_nodes}
use Rattle.c_lower_rules.specs.Temporaries.{Temp, Taken, is_free, behind_temp, take_temp}
use Rattle.c_lower_rules.specs.Contexts.{Context}
use Rattle.c_lower_rules.specs.Values.{Piece, Value, Tested, Making, Lowering, is_pointer, slot_taken, not_zero, at_hand, put_into}
use Rattle.c_lower_rules.specs.Values.{made_value, made, put_truth, truth}
use Rattle.c_lower_rules.specs.Expressions.{slot_read}
use Rattle.c_lower_rules.proofs.Pieces.{World, operand_more, IsStraight, straight_more, straight_none, IsCode, IsMake, code_command}
use Rattle.c_lower_rules.proofs.Pieces.{code_before, straight_of, IsTest, test_branch, test_after, code_choose}

-- TEMPORARIES

-- temporaries behind others: none is gone, and each has a type
pub record IsBehind (temps later : List Temp) : Type 0 where
  pub longer : length temps ≤ length later
  pub kinds : All (λ (t : Temp). IsTy t.kind) temps → All (λ (t : Temp). IsTy t.kind) later

pub behind_self : (temps : List Temp) → IsBehind temps temps
behind_self temps = record { longer = omega arith; kinds = λ h. h }

pub behind_both : (one two three : List Temp) → IsBehind one two → IsBehind two three → IsBehind one three
behind_both one two three h k =
    let a = h.longer in
    let b = k.longer in
    record { longer = omega arith; kinds = λ e. k.kinds (h.kinds e) }

-- what was taken is there
pub record IsTaken (temps : List Temp) (taken : Taken) : Type 0 where
  pub behind : IsBehind temps taken.temps
  pub there : taken.place < length taken.temps

pub taken_good : (kind : Ty) → IsTy kind → (temps : List Temp) → IsTaken temps (take_temp kind temps)
taken_good kind h [] = record {
  behind = record { longer = omega arith; kinds = λ e. All-cons (λ (t : Temp). IsTy t.kind) _ [] h (All-nil _) };
  there = omega arith;
}
taken_good kind h (first ∷ others) = by_test (is_free kind first) (taken_good kind h others)
  where
    by_test : (b : Bool) → IsTaken others (take_temp kind others)
        → IsTaken (first ∷ others)
        (cond b (record { place = 0; temps = record first { used = true } ∷ others }) (behind_temp first (take_temp kind others)))
    by_test true k = record {
      behind = record {
        longer = omega arith;
        kinds =
            λ e. All-cons (λ (t : Temp). IsTy t.kind) _ others (All-head (λ (t : Temp). IsTy t.kind) first others e)
            (All-tail (λ (t : Temp). IsTy t.kind) first others e);
      };
      there = omega arith;
    }
    by_test false k =
        let longer = k.behind.longer in
        let there = k.there in
        record {
          behind = record {
            longer = omega arith;
            kinds = λ e. All-cons (λ (t : Temp). IsTy t.kind) first _ (All-head (λ (t : Temp). IsTy t.kind) first others e)
                (k.behind.kinds (All-tail (λ (t : Temp). IsTy t.kind) first others e));
          };
          there = omega arith;
        }

-- USES

abbrev pub world : List StructDef → Context → World
world structs c = record { structs = structs; tables = c.env.tables; lines = 4294967296 - c.first_line }

-- the line that nodes get is one of the file
abbrev pub IsLined : Context → Type 0
IsLined c = c.line < 4294967296 - c.first_line

pub record GoodPiece (structs : List StructDef) (c : Context) (temps : List Temp) (piece : Piece) : Type 0 where
  pub behind : IsBehind temps piece.temps
  pub code : IsCode (world structs c) (c.first_temp + length piece.temps) piece.code

pub record GoodValue (structs : List StructDef) (c : Context) (temps : List Temp) (v : Value) : Type 0 where
  pub behind : IsBehind temps v.temps
  pub code : IsStraight (world structs c) (c.first_temp + length v.temps) v.code
  pub operand : IsOperand (c.first_temp + length v.temps) v.operand

pub record GoodTested (structs : List StructDef) (c : Context) (temps : List Temp) (t : Tested) : Type 0 where
  pub behind : IsBehind temps t.temps
  pub test : IsTest (world structs c) (c.first_temp + length t.temps) t.test

pub record GoodMaking (structs : List StructDef) (c : Context) (temps : List Temp) (m : Making) : Type 0 where
  pub behind : IsBehind temps m.temps
  pub code : IsStraight (world structs c) (c.first_temp + length m.temps) m.code
  pub make : (slots to : ℕ) → c.first_temp + length m.temps ≤ slots → to < slots → IsMake (world structs c) slots (m.make to)

pub record GoodLowering (structs : List StructDef) (c : Context) (l : Lowering) : Type 0 where
  pub kind : IsTy l.kind
  pub value : (temps : List Temp) → GoodValue structs c temps (l.value temps)
  -- the value of a pointer is read from a slot
  pub base : (temps : List Temp) → is_pointer l.kind ≡ true
      → slot_read (l.value temps).operand < c.first_temp + length (l.value temps).temps
  pub into : (to : ℕ) (temps : List Temp) → to < c.first_temp → GoodPiece structs c temps (l.into to temps)
  pub test : (temps : List Temp) → GoodTested structs c temps (l.test temps)

zero_operand : (slots : ℕ) → IsOperand slots (Num (pos 0))
zero_operand slots = tt

not_zero_good : (structs : List StructDef) (c : Context) (ln : IsLined c) (temps : List Temp) (kind : Ty) (v : Value)
    → GoodValue structs c temps v
    → GoodTested structs c temps (not_zero c kind v)
not_zero_good structs c ln temps kind v h = record {
  behind = h.behind;
  test =
      test_after (world structs c) _ v.code _ h.code
      (test_branch (world structs c) _ c.line test.Ne (is_pointer kind) v.operand (Num (pos 0)) ln h.operand tt);
}

-- AT HAND

at_hand_value : (structs : List StructDef) (c : Context) (ln : IsLined c) (operand : Operand) → IsOperand c.first_temp operand
    → (temps : List Temp)
    → GoodValue structs c temps (record { code = no_nodes; operand = operand; temps = temps })
at_hand_value structs c ln operand h temps = record {
  behind = behind_self temps;
  code = straight_none (world structs c) _;
  operand = operand_more c.first_temp _ (omega arith) operand h;
}

pub at_hand_good : (structs : List StructDef) (c : Context) (ln : IsLined c) (kind : Ty) (operand : Operand) → IsTy kind
    → IsOperand c.first_temp operand
    → (is_pointer kind ≡ true → slot_read operand < c.first_temp) → GoodLowering structs c (at_hand c kind operand)
at_hand_good structs c ln kind operand k h b = record {
  kind = k;
  value = at_hand_value structs c ln operand h;
  base = λ temps e. let lt = b e in omega arith;
  into = λ to temps lt. record {
    behind = behind_self temps;
    code =
        code_command (world structs c) _ c.line _ ln
        (λ total next e. ((omega arith, operand_more c.first_temp _ (omega arith) operand h, e), tt));
  };
  test = λ temps. not_zero_good structs c ln temps kind _ (at_hand_value structs c ln operand h temps);
}

-- MADE BY A COMMAND

pub put_good : (structs : List StructDef) (c : Context) (ln : IsLined c) (temps : List Temp) (m : Making) → GoodMaking structs c temps m
    → (slots to : ℕ)
    → c.first_temp + length m.temps ≤ slots → to < slots → IsCode (world structs c) slots (put_into c to m).code
put_good structs c ln temps m h slots to le lt =
    code_before (world structs c) slots m.code _ (omega arith) (straight_more (world structs c) _ slots le m.code h.code)
    (code_command (world structs c) slots c.line (m.make to) ln (h.make slots to le lt))

pub made_value_good : (structs : List StructDef) (c : Context) (ln : IsLined c) (kind : Ty) → IsTy kind → (temps : List Temp) (m : Making)
    → GoodMaking structs c temps m
    → GoodValue structs c temps (made_value c kind m)
made_value_good structs c ln kind k temps m h =
    let taken = taken_good kind k m.temps in
    let longer = taken.behind.longer in
    let there = taken.there in
    let slots = c.first_temp + length (take_temp kind m.temps).temps in
    record {
      behind = behind_both temps m.temps _ h.behind taken.behind;
      code =
          straight_of (world structs c) slots _
          (put_good structs c ln temps m h slots (slot_taken c (take_temp kind m.temps)) (omega arith) (omega arith));
      operand = omega arith;
    }

pub made_good : (structs : List StructDef) (c : Context) (ln : IsLined c) (kind : Ty) (making : List Temp → Making) → IsTy kind
    → ((temps : List Temp) → GoodMaking structs c temps (making temps)) → GoodLowering structs c (made c kind making)
made_good structs c ln kind making k h = record {
  kind = k;
  value = λ temps. made_value_good structs c ln kind k temps (making temps) (h temps);
  base = λ temps e. (made_value_good structs c ln kind k temps (making temps) (h temps)).operand;
  into = λ to temps lt. record {
    behind = (h temps).behind;
    code = put_good structs c ln temps (making temps) (h temps) _ to (omega arith) (omega arith);
  };
  test = λ temps. not_zero_good structs c ln temps kind _ (made_value_good structs c ln kind k temps (making temps) (h temps));
}

-- TRUTH

put_truth_good : (structs : List StructDef) (c : Context) (ln : IsLined c) (temps : List Temp) (t : Tested) → GoodTested structs c temps t
    → (to : ℕ)
    → to < c.first_temp + length t.temps → GoodPiece structs c temps (put_truth c to t)
put_truth_good structs c ln temps t h to lt = record {
  behind = h.behind;
  code = code_choose (world structs c) _ t.test _ _ h.test
      (code_command (world structs c) _ c.line _ ln (λ total next e. ((lt, tt, e), tt)))
      (code_command (world structs c) _ c.line _ ln (λ total next e. ((lt, tt, e), tt)));
}

truth_value_good : (structs : List StructDef) (c : Context) (ln : IsLined c) (testing : List Temp → Tested)
    → ((temps : List Temp) → GoodTested structs c temps (testing temps))
    → (temps : List Temp) → GoodValue structs c temps ((truth c testing).value temps)
truth_value_good structs c ln testing h temps =
    let taken = taken_good Int tt temps in
    let there = taken.there in
    let tested = h (take_temp Int temps).temps in
    let longer = tested.behind.longer in
    let piece =
    put_truth_good structs c ln (take_temp Int temps).temps (testing (take_temp Int temps).temps) tested
    (slot_taken c (take_temp Int temps)) (omega arith) in
    record {
      behind = behind_both temps (take_temp Int temps).temps _ taken.behind tested.behind;
      code = straight_of (world structs c) _ _ piece.code;
      operand = omega arith;
    }

pub truth_good : (structs : List StructDef) (c : Context) (ln : IsLined c) (testing : List Temp → Tested)
    → ((temps : List Temp) → GoodTested structs c temps (testing temps))
    → GoodLowering structs c (truth c testing)
truth_good structs c ln testing h = record {
  kind = tt;
  value = truth_value_good structs c ln testing h;
  base = λ temps e. absurd (cc);
  into = λ to temps lt. put_truth_good structs c ln temps (testing temps) (h temps) to (omega arith);
  test = h;
}
