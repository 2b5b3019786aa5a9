-- Operands and commands are read as they were written, and only so.
use Rattle.std.specs.Prelude.{◌≡◌, ℕ, Bool, if◌then◌else◌, codes, List, [], ◌∷◌, All, IfSome}
use Rattle.std.specs.Str.{bytes_eq}
use Rattle.std.specs.declared.option.Option.{Option}
use Rattle.std.specs.declared.option.Option.TheVariants.{None, Some}
use Rattle.std.proofs.Common.{refl, sym, ap, ◌∙◌, subst}
use Rattle.serde_json.specs.Data.{Data, string}
use Rattle.serde_json.specs.Find.{as_bool, as_str}
use Rattle.shape_data.specs.declared.program.ArithOp.{ArithOp}
use Rattle.shape_data.specs.declared.program.ArithOp.TheVariants.{Add, Sub, Mul}
use Rattle.shape_data.specs.declared.program.Cmd.{Cmd}
use Rattle.shape_data.specs.declared.program.Cmd.TheVariants as cmd
use Rattle.shape_data.specs.declared.program.Operand.{Operand}
use Rattle.shape_data.specs.declared.program.Operand.TheVariants.{Slot, Num}
use Rattle.shape_data.specs.declared.program.TestOp.{TestOp}
use Rattle.shape_data.specs.declared.program.TestOp.TheVariants as test
use Rattle.shape_data.specs.declared.program.Ty.{Ty}
use Rattle.flow_json.specs.Commands.{any_parts, arith_data, arith_of, arith_parts, branch_parts, call_parts, cell_cmd, cmd_data, cmd_of}
use Rattle.flow_json.specs.Commands.{cmd_parts, copy_parts, free_parts, load_parts, new_parts, operand_data, operand_of, operand_parts}
use Rattle.flow_json.specs.Commands.{read_arith, read_cmd, read_operand, read_test, return_parts, slot_cmd, store_parts, test_data, test_of}
use Rattle.flow_json.specs.Forms.{count_data, flag_data, go_on, list_data, option_data, read_count, read_int, read_list, read_name}
use Rattle.flow_json.specs.Forms.{read_option, tuple}
use Rattle.flow_json.specs.Laws.{CmdFits, IsCount, IsInverse, OperandFits}
use Rattle.flow_json.specs.Types.{read_ty, ty_data}
use Rattle.flow_json.proofs.InverseLemmas.{cons_is, last_is, count_inverse, flag_inverse, go_on_is, go_on_some, int_inverse, list_inverse}
use Rattle.flow_json.proofs.InverseLemmas.{name_inverse, on_word, option_inverse, some_is, string_only}
use Rattle.flow_json.proofs.TypeLaws.{of_parts, ty_inverse}

-- ---- operands

operand_only : (ds : List Data) (operand : Operand) → operand_parts ds ≡ Some operand
    → (operand_data operand ≡ tuple ds) × OperandFits operand
operand_only (tag ∷ d ∷ []) operand is =
    let w = go_on_some (as_str tag) (operand_of d) operand is in
    on_word ((operand_data operand ≡ tuple (tag ∷ d ∷ [])) × OperandFits operand) w.0 (codes "s")
    (go_on (read_count d) (λ slot. Some (Slot slot)))
    (if bytes_eq w.0 (codes "n") then go_on (read_int d) (λ n. Some (Num n)) else None) operand w.2
    (λ same it.
    let n = go_on_some (read_count d) (λ slot. Some (Slot slot)) operand it in
    let one = count_inverse.only d n.0 n.1 in
    subst (λ operand. (operand_data operand ≡ tuple (tag ∷ d ∷ [])) × OperandFits operand) (some_is (Slot n.0) operand n.2)
    (ap tuple (cons_is (ap string (sym same) ∙ string_only tag w.0 w.1) (last_is one.0)), one.1))
    (λ is. on_word ((operand_data operand ≡ tuple (tag ∷ d ∷ [])) × OperandFits operand) w.0 (codes "n")
    (go_on (read_int d) (λ n. Some (Num n))) None operand is
    (λ same it.
    let n = go_on_some (read_int d) (λ n. Some (Num n)) operand it in
    let one = int_inverse.only d n.0 n.1 in
    subst (λ operand. (operand_data operand ≡ tuple (tag ∷ d ∷ [])) × OperandFits operand) (some_is (Num n.0) operand n.2)
    (ap tuple (cons_is (ap string (sym same) ∙ string_only tag w.0 w.1) (last_is one.0)), one.1))
    (λ is. cc))
operand_only _ operand is = cc

pub operand_inverse : IsInverse OperandFits operand_data read_operand
operand_inverse = record { back = back; only = of_parts OperandFits operand_data operand_parts operand_only }
  where
    back : (operand : Operand) → OperandFits operand → read_operand (operand_data operand) ≡ Some operand
    back (Slot slot) fits =
        go_on_is _ _ _ _ refl (go_on_is _ _ (codes "s") _ refl (go_on_is _ _ slot _ (count_inverse.back slot fits) refl))
    back (Num n) fits = go_on_is _ _ _ _ refl (go_on_is _ _ (codes "n") _ refl (go_on_is _ _ n _ (int_inverse.back n fits) refl))

operands_inverse : IsInverse (All OperandFits) (list_data operand_data) (read_list read_operand)
operands_inverse = list_inverse OperandFits operand_data read_operand operand_inverse

slot_inverse : IsInverse (λ slot. IfSome slot IsCount) (option_data count_data) (read_option read_count)
slot_inverse = option_inverse IsCount count_data read_count count_inverse (λ n. refl)

-- ---- operators and tests

arith_of_word : (word : List ℕ) (thing : ArithOp) → arith_of word ≡ Some thing → arith_data thing ≡ string word
arith_of_word word thing is =
    on_word (arith_data thing ≡ string word) word (codes "+") (Some Add)
    (if bytes_eq word (codes "-") then Some Sub else (if bytes_eq word (codes "*") then Some Mul else None)) thing is
    (λ same it. subst (λ one. arith_data one ≡ string word) (some_is Add thing it) (ap string (sym same))) (λ is.
    on_word (arith_data thing ≡ string word) word (codes "-") (Some Sub) (if bytes_eq word (codes "*") then Some Mul else None) thing is
    (λ same it. subst (λ one. arith_data one ≡ string word) (some_is Sub thing it) (ap string (sym same))) (λ is.
    on_word (arith_data thing ≡ string word) word (codes "*") (Some Mul) None thing is
    (λ same it. subst (λ one. arith_data one ≡ string word) (some_is Mul thing it) (ap string (sym same))) (λ is.
    cc)))

test_of_word : (word : List ℕ) (thing : TestOp) → test_of word ≡ Some thing → test_data thing ≡ string word
test_of_word word thing is =
    on_word (test_data thing ≡ string word) word (codes "==") (Some test.Eq)
    (if bytes_eq word (codes "!=") then Some test.Ne
    else (if bytes_eq word (codes "<") then Some test.Lt
    else (if bytes_eq word (codes "<=") then Some test.Le
    else (if bytes_eq word (codes ">") then Some test.Gt else (if bytes_eq word (codes ">=") then Some test.Ge else None))))) thing is
    (λ same it. subst (λ one. test_data one ≡ string word) (some_is test.Eq thing it) (ap string (sym same))) (λ is.
    on_word (test_data thing ≡ string word) word (codes "!=") (Some test.Ne)
    (if bytes_eq word (codes "<") then Some test.Lt
    else (if bytes_eq word (codes "<=") then Some test.Le
    else (if bytes_eq word (codes ">") then Some test.Gt else (if bytes_eq word (codes ">=") then Some test.Ge else None)))) thing is
    (λ same it. subst (λ one. test_data one ≡ string word) (some_is test.Ne thing it) (ap string (sym same))) (λ is.
    on_word (test_data thing ≡ string word) word (codes "<") (Some test.Lt)
    (if bytes_eq word (codes "<=") then Some test.Le
    else (if bytes_eq word (codes ">") then Some test.Gt else (if bytes_eq word (codes ">=") then Some test.Ge else None))) thing is
    (λ same it. subst (λ one. test_data one ≡ string word) (some_is test.Lt thing it) (ap string (sym same))) (λ is.
    on_word (test_data thing ≡ string word) word (codes "<=") (Some test.Le)
    (if bytes_eq word (codes ">") then Some test.Gt else (if bytes_eq word (codes ">=") then Some test.Ge else None)) thing is
    (λ same it. subst (λ one. test_data one ≡ string word) (some_is test.Le thing it) (ap string (sym same))) (λ is.
    on_word (test_data thing ≡ string word) word (codes ">") (Some test.Gt)
    (if bytes_eq word (codes ">=") then Some test.Ge else None) thing is
    (λ same it. subst (λ one. test_data one ≡ string word) (some_is test.Gt thing it) (ap string (sym same))) (λ is.
    on_word (test_data thing ≡ string word) word (codes ">=") (Some test.Ge) None thing is
    (λ same it. subst (λ one. test_data one ≡ string word) (some_is test.Ge thing it) (ap string (sym same))) (λ is.
    cc))))))

arith_inverse : IsInverse (λ (op : ArithOp). Unit {0}) arith_data read_arith
unfolding go_on
arith_inverse = record { back = back; only = only }
  where
    back : (op : ArithOp) → Unit {0} → read_arith (arith_data op) ≡ Some op
    back Add fits = refl
    back Sub fits = refl
    back Mul fits = refl

    only : (d : Data) (op : ArithOp) → read_arith d ≡ Some op → (arith_data op ≡ d) × Unit {0}
    only d op is = let word = go_on_some (as_str d) arith_of op is in (arith_of_word word.0 op word.2 ∙ string_only d word.0 word.1, tt)

test_inverse : IsInverse (λ (op : TestOp). Unit {0}) test_data read_test
unfolding go_on
test_inverse = record { back = back; only = only }
  where
    back : (op : TestOp) → Unit {0} → read_test (test_data op) ≡ Some op
    back test.Eq fits = refl
    back test.Ne fits = refl
    back test.Lt fits = refl
    back test.Le fits = refl
    back test.Gt fits = refl
    back test.Ge fits = refl

    only : (d : Data) (op : TestOp) → read_test d ≡ Some op → (test_data op ≡ d) × Unit {0}
    only d op is = let word = go_on_some (as_str d) test_of op is in (test_of_word word.0 op word.2 ∙ string_only d word.0 word.1, tt)

-- ---- the fields of each command

copy_parts_back : (to : ℕ) (from : Operand) (next : ℕ) → CmdFits (cmd.Copy to from next)
    → copy_parts (count_data to ∷ operand_data from ∷ count_data next ∷ []) ≡ Some (cmd.Copy to from next)
copy_parts_back to from next fits =
    go_on_is _ _ to _ (count_inverse.back to fits.0)
    (go_on_is _ _ from _ (operand_inverse.back from fits.1) (go_on_is _ _ next _ (count_inverse.back next fits.2) refl))

copy_parts_only : (ds : List Data) (thing : Cmd) → copy_parts ds ≡ Some thing
    → (cmd_data thing ≡ tuple (string (codes "copy") ∷ ds)) × CmdFits thing
copy_parts_only (to ∷ from ∷ next ∷ []) thing is =
    let r0 =
    go_on_some (read_count to)
    (λ to'. go_on (read_operand from) (λ from'. go_on (read_count next) (λ next'. Some (cmd.Copy to' from' next')))) thing is in
    let e0 = count_inverse.only to r0.0 r0.1 in
    let r1 = go_on_some (read_operand from) (λ from'. go_on (read_count next) (λ next'. Some (cmd.Copy r0.0 from' next'))) thing r0.2 in
    let e1 = operand_inverse.only from r1.0 r1.1 in
    let r2 = go_on_some (read_count next) (λ next'. Some (cmd.Copy r0.0 r1.0 next')) thing r1.2 in
    let e2 = count_inverse.only next r2.0 r2.1 in
    let same : cmd.Copy r0.0 r1.0 r2.0 ≡ thing = some_is _ thing r2.2 in
    subst (λ one. (cmd_data one ≡ tuple (string (codes "copy") ∷ to ∷ from ∷ next ∷ [])) × CmdFits one) same
    (ap (λ rest. tuple (string (codes "copy") ∷ rest)) (cons_is e0.0 (cons_is e1.0 (last_is e2.0))), (e0.1, e1.1, e2.1))
copy_parts_only _ thing is = cc

arith_parts_back : (to : ℕ) (op : ArithOp) (left : Operand) (right : Operand) (next : ℕ) → CmdFits (cmd.Arith to op left right next)
    → arith_parts (count_data to ∷ arith_data op ∷ operand_data left ∷ operand_data right ∷ count_data next ∷ [])
    ≡ Some (cmd.Arith to op left right next)
arith_parts_back to op left right next fits =
    go_on_is _ _ to _ (count_inverse.back to fits.0)
    (go_on_is _ _ op _ (arith_inverse.back op fits.1)
    (go_on_is _ _ left _ (operand_inverse.back left fits.2)
    (go_on_is _ _ right _ (operand_inverse.back right fits.3) (go_on_is _ _ next _ (count_inverse.back next fits.4) refl))))

arith_parts_only : (ds : List Data) (thing : Cmd) → arith_parts ds ≡ Some thing
    → (cmd_data thing ≡ tuple (string (codes "arith") ∷ ds)) × CmdFits thing
arith_parts_only (to ∷ op ∷ left ∷ right ∷ next ∷ []) thing is =
    let r0 =
    go_on_some (read_count to)
    (λ to'. go_on (read_arith op)
    (λ op'. go_on (read_operand left)
    (λ left'. go_on (read_operand right)
    (λ right'. go_on (read_count next) (λ next'. Some (cmd.Arith to' op' left' right' next')))))) thing is in
    let e0 = count_inverse.only to r0.0 r0.1 in
    let r1 =
    go_on_some (read_arith op)
    (λ op'. go_on (read_operand left)
    (λ left'. go_on (read_operand right)
    (λ right'. go_on (read_count next) (λ next'. Some (cmd.Arith r0.0 op' left' right' next'))))) thing r0.2 in
    let e1 = arith_inverse.only op r1.0 r1.1 in
    let r2 =
    go_on_some (read_operand left)
    (λ left'. go_on (read_operand right)
    (λ right'. go_on (read_count next) (λ next'. Some (cmd.Arith r0.0 r1.0 left' right' next')))) thing r1.2 in
    let e2 = operand_inverse.only left r2.0 r2.1 in
    let r3 =
    go_on_some (read_operand right)
    (λ right'. go_on (read_count next) (λ next'. Some (cmd.Arith r0.0 r1.0 r2.0 right' next'))) thing r2.2 in
    let e3 = operand_inverse.only right r3.0 r3.1 in
    let r4 = go_on_some (read_count next) (λ next'. Some (cmd.Arith r0.0 r1.0 r2.0 r3.0 next')) thing r3.2 in
    let e4 = count_inverse.only next r4.0 r4.1 in
    let same : cmd.Arith r0.0 r1.0 r2.0 r3.0 r4.0 ≡ thing = some_is _ thing r4.2 in
    subst (λ one. (cmd_data one ≡ tuple (string (codes "arith") ∷ to ∷ op ∷ left ∷ right ∷ next ∷ [])) × CmdFits one) same (
      ap (λ rest. tuple (string (codes "arith") ∷ rest)) (cons_is e0.0 (cons_is e1.0 (cons_is e2.0 (cons_is e3.0 (last_is e4.0))))),
      (e0.1, e1.1, e2.1, e3.1, e4.1),
    )
arith_parts_only _ thing is = cc

any_parts_back : (to : ℕ) (ty : Ty) (next : ℕ) → CmdFits (cmd.Any to ty next)
    → any_parts (count_data to ∷ ty_data ty ∷ count_data next ∷ []) ≡ Some (cmd.Any to ty next)
any_parts_back to ty next fits =
    go_on_is _ _ to _ (count_inverse.back to fits.0)
    (go_on_is _ _ ty _ (ty_inverse.back ty fits.1) (go_on_is _ _ next _ (count_inverse.back next fits.2) refl))

any_parts_only : (ds : List Data) (thing : Cmd) → any_parts ds ≡ Some thing
    → (cmd_data thing ≡ tuple (string (codes "any") ∷ ds)) × CmdFits thing
any_parts_only (to ∷ ty ∷ next ∷ []) thing is =
    let r0 =
    go_on_some (read_count to)
    (λ to'. go_on (read_ty ty) (λ ty'. go_on (read_count next) (λ next'. Some (cmd.Any to' ty' next')))) thing is in
    let e0 = count_inverse.only to r0.0 r0.1 in
    let r1 = go_on_some (read_ty ty) (λ ty'. go_on (read_count next) (λ next'. Some (cmd.Any r0.0 ty' next'))) thing r0.2 in
    let e1 = ty_inverse.only ty r1.0 r1.1 in
    let r2 = go_on_some (read_count next) (λ next'. Some (cmd.Any r0.0 r1.0 next')) thing r1.2 in
    let e2 = count_inverse.only next r2.0 r2.1 in
    let same : cmd.Any r0.0 r1.0 r2.0 ≡ thing = some_is _ thing r2.2 in
    subst (λ one. (cmd_data one ≡ tuple (string (codes "any") ∷ to ∷ ty ∷ next ∷ [])) × CmdFits one) same
    (ap (λ rest. tuple (string (codes "any") ∷ rest)) (cons_is e0.0 (cons_is e1.0 (last_is e2.0))), (e0.1, e1.1, e2.1))
any_parts_only _ thing is = cc

load_parts_back : (to : ℕ) (base : ℕ) (kind : List ℕ) (field : ℕ) (next : ℕ) → CmdFits (cmd.Load to base kind field next)
    → load_parts (count_data to ∷ count_data base ∷ string kind ∷ count_data field ∷ count_data next ∷ [])
    ≡ Some (cmd.Load to base kind field next)
load_parts_back to base kind field next fits =
    go_on_is _ _ to _ (count_inverse.back to fits.0)
    (go_on_is _ _ base _ (count_inverse.back base fits.1)
    (go_on_is _ _ kind _ (name_inverse.back kind fits.2)
    (go_on_is _ _ field _ (count_inverse.back field fits.3) (go_on_is _ _ next _ (count_inverse.back next fits.4) refl))))

load_parts_only : (ds : List Data) (thing : Cmd) → load_parts ds ≡ Some thing
    → (cmd_data thing ≡ tuple (string (codes "load") ∷ ds)) × CmdFits thing
load_parts_only (to ∷ base ∷ kind ∷ field ∷ next ∷ []) thing is =
    let r0 =
    go_on_some (read_count to)
    (λ to'. go_on (read_count base)
    (λ base'. go_on (read_name kind)
    (λ kind'. go_on (read_count field)
    (λ field'. go_on (read_count next) (λ next'. Some (cmd.Load to' base' kind' field' next')))))) thing is in
    let e0 = count_inverse.only to r0.0 r0.1 in
    let r1 =
    go_on_some (read_count base)
    (λ base'. go_on (read_name kind)
    (λ kind'. go_on (read_count field)
    (λ field'. go_on (read_count next) (λ next'. Some (cmd.Load r0.0 base' kind' field' next'))))) thing r0.2 in
    let e1 = count_inverse.only base r1.0 r1.1 in
    let r2 =
    go_on_some (read_name kind)
    (λ kind'. go_on (read_count field)
    (λ field'. go_on (read_count next) (λ next'. Some (cmd.Load r0.0 r1.0 kind' field' next')))) thing r1.2 in
    let e2 = name_inverse.only kind r2.0 r2.1 in
    let r3 =
    go_on_some (read_count field) (λ field'. go_on (read_count next) (λ next'. Some (cmd.Load r0.0 r1.0 r2.0 field' next'))) thing r2.2 in
    let e3 = count_inverse.only field r3.0 r3.1 in
    let r4 = go_on_some (read_count next) (λ next'. Some (cmd.Load r0.0 r1.0 r2.0 r3.0 next')) thing r3.2 in
    let e4 = count_inverse.only next r4.0 r4.1 in
    let same : cmd.Load r0.0 r1.0 r2.0 r3.0 r4.0 ≡ thing = some_is _ thing r4.2 in
    subst (λ one. (cmd_data one ≡ tuple (string (codes "load") ∷ to ∷ base ∷ kind ∷ field ∷ next ∷ [])) × CmdFits one) same (
      ap (λ rest. tuple (string (codes "load") ∷ rest)) (cons_is e0.0 (cons_is e1.0 (cons_is e2.0 (cons_is e3.0 (last_is e4.0))))),
      (e0.1, e1.1, e2.1, e3.1, e4.1),
    )
load_parts_only _ thing is = cc

store_parts_back : (base : ℕ) (kind : List ℕ) (field : ℕ) (from : Operand) (next : ℕ) → CmdFits (cmd.Store base kind field from next)
    → store_parts (count_data base ∷ string kind ∷ count_data field ∷ operand_data from ∷ count_data next ∷ [])
    ≡ Some (cmd.Store base kind field from next)
store_parts_back base kind field from next fits =
    go_on_is _ _ base _ (count_inverse.back base fits.0)
    (go_on_is _ _ kind _ (name_inverse.back kind fits.1)
    (go_on_is _ _ field _ (count_inverse.back field fits.2)
    (go_on_is _ _ from _ (operand_inverse.back from fits.3) (go_on_is _ _ next _ (count_inverse.back next fits.4) refl))))

store_parts_only : (ds : List Data) (thing : Cmd) → store_parts ds ≡ Some thing
    → (cmd_data thing ≡ tuple (string (codes "store") ∷ ds)) × CmdFits thing
store_parts_only (base ∷ kind ∷ field ∷ from ∷ next ∷ []) thing is =
    let r0 =
    go_on_some (read_count base)
    (λ base'. go_on (read_name kind)
    (λ kind'. go_on (read_count field)
    (λ field'. go_on (read_operand from)
    (λ from'. go_on (read_count next) (λ next'. Some (cmd.Store base' kind' field' from' next')))))) thing is in
    let e0 = count_inverse.only base r0.0 r0.1 in
    let r1 =
    go_on_some (read_name kind)
    (λ kind'. go_on (read_count field)
    (λ field'. go_on (read_operand from)
    (λ from'. go_on (read_count next) (λ next'. Some (cmd.Store r0.0 kind' field' from' next'))))) thing r0.2 in
    let e1 = name_inverse.only kind r1.0 r1.1 in
    let r2 =
    go_on_some (read_count field)
    (λ field'. go_on (read_operand from)
    (λ from'. go_on (read_count next) (λ next'. Some (cmd.Store r0.0 r1.0 field' from' next')))) thing r1.2 in
    let e2 = count_inverse.only field r2.0 r2.1 in
    let r3 =
    go_on_some (read_operand from) (λ from'. go_on (read_count next) (λ next'. Some (cmd.Store r0.0 r1.0 r2.0 from' next'))) thing r2.2 in
    let e3 = operand_inverse.only from r3.0 r3.1 in
    let r4 = go_on_some (read_count next) (λ next'. Some (cmd.Store r0.0 r1.0 r2.0 r3.0 next')) thing r3.2 in
    let e4 = count_inverse.only next r4.0 r4.1 in
    let same : cmd.Store r0.0 r1.0 r2.0 r3.0 r4.0 ≡ thing = some_is _ thing r4.2 in
    subst (λ one. (cmd_data one ≡ tuple (string (codes "store") ∷ base ∷ kind ∷ field ∷ from ∷ next ∷ [])) × CmdFits one) same (
      ap (λ rest. tuple (string (codes "store") ∷ rest)) (cons_is e0.0 (cons_is e1.0 (cons_is e2.0 (cons_is e3.0 (last_is e4.0))))),
      (e0.1, e1.1, e2.1, e3.1, e4.1),
    )
store_parts_only _ thing is = cc

new_parts_back : (to : ℕ) (kind : List ℕ) (next : ℕ) → CmdFits (cmd.New to kind next)
    → new_parts (count_data to ∷ string kind ∷ count_data next ∷ []) ≡ Some (cmd.New to kind next)
new_parts_back to kind next fits =
    go_on_is _ _ to _ (count_inverse.back to fits.0)
    (go_on_is _ _ kind _ (name_inverse.back kind fits.1) (go_on_is _ _ next _ (count_inverse.back next fits.2) refl))

new_parts_only : (ds : List Data) (thing : Cmd) → new_parts ds ≡ Some thing
    → (cmd_data thing ≡ tuple (string (codes "new") ∷ ds)) × CmdFits thing
new_parts_only (to ∷ kind ∷ next ∷ []) thing is =
    let r0 =
    go_on_some (read_count to)
    (λ to'. go_on (read_name kind) (λ kind'. go_on (read_count next) (λ next'. Some (cmd.New to' kind' next')))) thing is in
    let e0 = count_inverse.only to r0.0 r0.1 in
    let r1 = go_on_some (read_name kind) (λ kind'. go_on (read_count next) (λ next'. Some (cmd.New r0.0 kind' next'))) thing r0.2 in
    let e1 = name_inverse.only kind r1.0 r1.1 in
    let r2 = go_on_some (read_count next) (λ next'. Some (cmd.New r0.0 r1.0 next')) thing r1.2 in
    let e2 = count_inverse.only next r2.0 r2.1 in
    let same : cmd.New r0.0 r1.0 r2.0 ≡ thing = some_is _ thing r2.2 in
    subst (λ one. (cmd_data one ≡ tuple (string (codes "new") ∷ to ∷ kind ∷ next ∷ [])) × CmdFits one) same
    (ap (λ rest. tuple (string (codes "new") ∷ rest)) (cons_is e0.0 (cons_is e1.0 (last_is e2.0))), (e0.1, e1.1, e2.1))
new_parts_only _ thing is = cc

free_parts_back : (base : ℕ) (kind : List ℕ) (next : ℕ) → CmdFits (cmd.Free base kind next)
    → free_parts (count_data base ∷ string kind ∷ count_data next ∷ []) ≡ Some (cmd.Free base kind next)
free_parts_back base kind next fits =
    go_on_is _ _ base _ (count_inverse.back base fits.0)
    (go_on_is _ _ kind _ (name_inverse.back kind fits.1) (go_on_is _ _ next _ (count_inverse.back next fits.2) refl))

free_parts_only : (ds : List Data) (thing : Cmd) → free_parts ds ≡ Some thing
    → (cmd_data thing ≡ tuple (string (codes "free") ∷ ds)) × CmdFits thing
free_parts_only (base ∷ kind ∷ next ∷ []) thing is =
    let r0 =
    go_on_some (read_count base)
    (λ base'. go_on (read_name kind) (λ kind'. go_on (read_count next) (λ next'. Some (cmd.Free base' kind' next')))) thing is in
    let e0 = count_inverse.only base r0.0 r0.1 in
    let r1 = go_on_some (read_name kind) (λ kind'. go_on (read_count next) (λ next'. Some (cmd.Free r0.0 kind' next'))) thing r0.2 in
    let e1 = name_inverse.only kind r1.0 r1.1 in
    let r2 = go_on_some (read_count next) (λ next'. Some (cmd.Free r0.0 r1.0 next')) thing r1.2 in
    let e2 = count_inverse.only next r2.0 r2.1 in
    let same : cmd.Free r0.0 r1.0 r2.0 ≡ thing = some_is _ thing r2.2 in
    subst (λ one. (cmd_data one ≡ tuple (string (codes "free") ∷ base ∷ kind ∷ next ∷ [])) × CmdFits one) same
    (ap (λ rest. tuple (string (codes "free") ∷ rest)) (cons_is e0.0 (cons_is e1.0 (last_is e2.0))), (e0.1, e1.1, e2.1))
free_parts_only _ thing is = cc

call_parts_back : (to : Option ℕ) (callee : List ℕ) (args : List Operand) (next : ℕ) → CmdFits (cmd.Call to callee args next)
    → call_parts ((option_data count_data) to ∷ string callee ∷ (list_data operand_data) args ∷ count_data next ∷ [])
    ≡ Some (cmd.Call to callee args next)
call_parts_back to callee args next fits =
    go_on_is _ _ to _ (slot_inverse.back to fits.0)
    (go_on_is _ _ callee _ (name_inverse.back callee fits.1)
    (go_on_is _ _ args _ (operands_inverse.back args fits.2) (go_on_is _ _ next _ (count_inverse.back next fits.3) refl)))

call_parts_only : (ds : List Data) (thing : Cmd) → call_parts ds ≡ Some thing
    → (cmd_data thing ≡ tuple (string (codes "call") ∷ ds)) × CmdFits thing
call_parts_only (to ∷ callee ∷ args ∷ next ∷ []) thing is =
    let r0 =
    go_on_some (read_option read_count to)
    (λ to'. go_on (read_name callee)
    (λ callee'. go_on (read_list read_operand args)
    (λ args'. go_on (read_count next) (λ next'. Some (cmd.Call to' callee' args' next'))))) thing is in
    let e0 = slot_inverse.only to r0.0 r0.1 in
    let r1 =
    go_on_some (read_name callee)
    (λ callee'. go_on (read_list read_operand args)
    (λ args'. go_on (read_count next) (λ next'. Some (cmd.Call r0.0 callee' args' next')))) thing r0.2 in
    let e1 = name_inverse.only callee r1.0 r1.1 in
    let r2 =
    go_on_some (read_list read_operand args)
    (λ args'. go_on (read_count next) (λ next'. Some (cmd.Call r0.0 r1.0 args' next'))) thing r1.2 in
    let e2 = operands_inverse.only args r2.0 r2.1 in
    let r3 = go_on_some (read_count next) (λ next'. Some (cmd.Call r0.0 r1.0 r2.0 next')) thing r2.2 in
    let e3 = count_inverse.only next r3.0 r3.1 in
    let same : cmd.Call r0.0 r1.0 r2.0 r3.0 ≡ thing = some_is _ thing r3.2 in
    subst (λ one. (cmd_data one ≡ tuple (string (codes "call") ∷ to ∷ callee ∷ args ∷ next ∷ [])) × CmdFits one) same (
      ap (λ rest. tuple (string (codes "call") ∷ rest)) (cons_is e0.0 (cons_is e1.0 (cons_is e2.0 (last_is e3.0)))),
      (e0.1, e1.1, e2.1, e3.1),
    )
call_parts_only _ thing is = cc

branch_parts_back : (op : TestOp) (pointers : Bool) (left : Operand) (right : Operand) (on_true : ℕ) (on_false : ℕ)
    → CmdFits (cmd.Branch op pointers left right on_true on_false)
    → branch_parts
    (test_data op ∷ flag_data pointers ∷ operand_data left ∷ operand_data right ∷ count_data on_true ∷ count_data on_false ∷ [])
    ≡ Some (cmd.Branch op pointers left right on_true on_false)
branch_parts_back op pointers left right on_true on_false fits =
    go_on_is _ _ op _ (test_inverse.back op fits.0)
    (go_on_is _ _ pointers _ (flag_inverse.back pointers fits.1)
    (go_on_is _ _ left _ (operand_inverse.back left fits.2)
    (go_on_is _ _ right _ (operand_inverse.back right fits.3)
    (go_on_is _ _ on_true _ (count_inverse.back on_true fits.4) (go_on_is _ _ on_false _ (count_inverse.back on_false fits.5) refl)))))

branch_parts_only : (ds : List Data) (thing : Cmd) → branch_parts ds ≡ Some thing
    → (cmd_data thing ≡ tuple (string (codes "branch") ∷ ds)) × CmdFits thing
branch_parts_only (op ∷ pointers ∷ left ∷ right ∷ on_true ∷ on_false ∷ []) thing is =
    let r0 =
    go_on_some (read_test op)
    (λ op'. go_on (as_bool pointers)
    (λ pointers'. go_on (read_operand left)
    (λ left'. go_on (read_operand right)
    (λ right'. go_on (read_count on_true)
    (λ on_true'. go_on (read_count on_false)
    (λ on_false'. Some (cmd.Branch op' pointers' left' right' on_true' on_false'))))))) thing is in
    let e0 = test_inverse.only op r0.0 r0.1 in
    let r1 =
    go_on_some (as_bool pointers)
    (λ pointers'. go_on (read_operand left)
    (λ left'. go_on (read_operand right)
    (λ right'. go_on (read_count on_true)
    (λ on_true'. go_on (read_count on_false)
    (λ on_false'. Some (cmd.Branch r0.0 pointers' left' right' on_true' on_false')))))) thing r0.2 in
    let e1 = flag_inverse.only pointers r1.0 r1.1 in
    let r2 =
    go_on_some (read_operand left)
    (λ left'. go_on (read_operand right)
    (λ right'. go_on (read_count on_true)
    (λ on_true'. go_on (read_count on_false) (λ on_false'. Some (cmd.Branch r0.0 r1.0 left' right' on_true' on_false'))))) thing r1.2 in
    let e2 = operand_inverse.only left r2.0 r2.1 in
    let r3 =
    go_on_some (read_operand right)
    (λ right'. go_on (read_count on_true)
    (λ on_true'. go_on (read_count on_false) (λ on_false'. Some (cmd.Branch r0.0 r1.0 r2.0 right' on_true' on_false')))) thing r2.2 in
    let e3 = operand_inverse.only right r3.0 r3.1 in
    let r4 =
    go_on_some (read_count on_true)
    (λ on_true'. go_on (read_count on_false) (λ on_false'. Some (cmd.Branch r0.0 r1.0 r2.0 r3.0 on_true' on_false'))) thing r3.2 in
    let e4 = count_inverse.only on_true r4.0 r4.1 in
    let r5 = go_on_some (read_count on_false) (λ on_false'. Some (cmd.Branch r0.0 r1.0 r2.0 r3.0 r4.0 on_false')) thing r4.2 in
    let e5 = count_inverse.only on_false r5.0 r5.1 in
    let same : cmd.Branch r0.0 r1.0 r2.0 r3.0 r4.0 r5.0 ≡ thing = some_is _ thing r5.2 in
    subst (λ one. (cmd_data one ≡ tuple (string (codes "branch") ∷ op ∷ pointers ∷ left ∷ right ∷ on_true ∷ on_false ∷ []))
    × CmdFits one) same (
      ap (λ rest. tuple (string (codes "branch") ∷ rest))
          (cons_is e0.0 (cons_is e1.0 (cons_is e2.0 (cons_is e3.0 (cons_is e4.0 (last_is e5.0)))))),
      (e0.1, e1.1, e2.1, e3.1, e4.1, e5.1),
    )
branch_parts_only _ thing is = cc

return_parts_back : (value : Operand) → CmdFits (cmd.Return value) → return_parts (operand_data value ∷ []) ≡ Some (cmd.Return value)
return_parts_back value fits =
    go_on_is _ _ value _ (operand_inverse.back value fits) refl

return_parts_only : (ds : List Data) (thing : Cmd) → return_parts ds ≡ Some thing
    → (cmd_data thing ≡ tuple (string (codes "return") ∷ ds)) × CmdFits thing
return_parts_only (value ∷ []) thing is =
    let r0 = go_on_some (read_operand value) (λ value'. Some (cmd.Return value')) thing is in
    let e0 = operand_inverse.only value r0.0 r0.1 in
    let same : cmd.Return r0.0 ≡ thing = some_is _ thing r0.2 in
    subst (λ one. (cmd_data one ≡ tuple (string (codes "return") ∷ value ∷ [])) × CmdFits one) same
    (ap (λ rest. tuple (string (codes "return") ∷ rest)) (last_is e0.0), e0.1)
return_parts_only _ thing is = cc

-- ---- commands by their names

slot_cmd_only : (parts : List Data) (word : List ℕ) (command : Cmd) → slot_cmd parts word ≡ Some command
    → (cmd_data command ≡ tuple (string word ∷ parts)) × CmdFits command
slot_cmd_only parts word command is =
    on_word ((cmd_data command ≡ tuple (string word ∷ parts)) × CmdFits command) word (codes "copy") (copy_parts parts)
    (if bytes_eq word (codes "arith") then arith_parts parts
    else (if bytes_eq word (codes "any") then any_parts parts else None)) command is
    (λ same it. subst (λ word. (cmd_data command ≡ tuple (string word ∷ parts)) × CmdFits command) (sym same)
    (copy_parts_only parts command it)) (λ is.
    on_word ((cmd_data command ≡ tuple (string word ∷ parts)) × CmdFits command) word (codes "arith") (arith_parts parts)
    (if bytes_eq word (codes "any") then any_parts parts else None) command is
    (λ same it. subst (λ word. (cmd_data command ≡ tuple (string word ∷ parts)) × CmdFits command) (sym same)
    (arith_parts_only parts command it)) (λ is.
    on_word ((cmd_data command ≡ tuple (string word ∷ parts)) × CmdFits command) word (codes "any") (any_parts parts) None command is
    (λ same it. subst (λ word. (cmd_data command ≡ tuple (string word ∷ parts)) × CmdFits command) (sym same)
    (any_parts_only parts command it)) (λ is.
    cc)))

cell_cmd_only : (parts : List Data) (word : List ℕ) (command : Cmd) → cell_cmd parts word ≡ Some command
    → (cmd_data command ≡ tuple (string word ∷ parts)) × CmdFits command
cell_cmd_only parts word command is =
    on_word ((cmd_data command ≡ tuple (string word ∷ parts)) × CmdFits command) word (codes "load") (load_parts parts)
    (if bytes_eq word (codes "store") then store_parts parts
    else (if bytes_eq word (codes "new") then new_parts parts
    else (if bytes_eq word (codes "free") then free_parts parts else (slot_cmd parts word)))) command is
    (λ same it. subst (λ word. (cmd_data command ≡ tuple (string word ∷ parts)) × CmdFits command) (sym same)
    (load_parts_only parts command it)) (λ is.
    on_word ((cmd_data command ≡ tuple (string word ∷ parts)) × CmdFits command) word (codes "store") (store_parts parts)
    (if bytes_eq word (codes "new") then new_parts parts
    else (if bytes_eq word (codes "free") then free_parts parts else (slot_cmd parts word))) command is
    (λ same it. subst (λ word. (cmd_data command ≡ tuple (string word ∷ parts)) × CmdFits command) (sym same)
    (store_parts_only parts command it)) (λ is.
    on_word ((cmd_data command ≡ tuple (string word ∷ parts)) × CmdFits command) word (codes "new") (new_parts parts)
    (if bytes_eq word (codes "free") then free_parts parts else (slot_cmd parts word)) command is
    (λ same it. subst (λ word. (cmd_data command ≡ tuple (string word ∷ parts)) × CmdFits command) (sym same)
    (new_parts_only parts command it)) (λ is.
    on_word ((cmd_data command ≡ tuple (string word ∷ parts)) × CmdFits command) word (codes "free") (free_parts parts)
    (slot_cmd parts word) command is
    (λ same it. subst (λ word. (cmd_data command ≡ tuple (string word ∷ parts)) × CmdFits command) (sym same)
    (free_parts_only parts command it)) (λ is.
    slot_cmd_only parts word command is))))

cmd_of_only : (parts : List Data) (word : List ℕ) (command : Cmd) → cmd_of parts word ≡ Some command
    → (cmd_data command ≡ tuple (string word ∷ parts)) × CmdFits command
cmd_of_only parts word command is =
    on_word ((cmd_data command ≡ tuple (string word ∷ parts)) × CmdFits command) word (codes "call") (call_parts parts)
    (if bytes_eq word (codes "branch") then branch_parts parts
    else (if bytes_eq word (codes "return") then return_parts parts else (cell_cmd parts word))) command is
    (λ same it. subst (λ word. (cmd_data command ≡ tuple (string word ∷ parts)) × CmdFits command) (sym same)
    (call_parts_only parts command it)) (λ is.
    on_word ((cmd_data command ≡ tuple (string word ∷ parts)) × CmdFits command) word (codes "branch") (branch_parts parts)
    (if bytes_eq word (codes "return") then return_parts parts else (cell_cmd parts word)) command is
    (λ same it. subst (λ word. (cmd_data command ≡ tuple (string word ∷ parts)) × CmdFits command) (sym same)
    (branch_parts_only parts command it)) (λ is.
    on_word ((cmd_data command ≡ tuple (string word ∷ parts)) × CmdFits command) word (codes "return") (return_parts parts)
    (cell_cmd parts word) command is
    (λ same it. subst (λ word. (cmd_data command ≡ tuple (string word ∷ parts)) × CmdFits command) (sym same)
    (return_parts_only parts command it)) (λ is.
    cell_cmd_only parts word command is)))

cmd_only : (ds : List Data) (command : Cmd) → cmd_parts ds ≡ Some command → (cmd_data command ≡ tuple ds) × CmdFits command
cmd_only [] command is = cc
cmd_only (tag ∷ parts) command is =
    let word = go_on_some (as_str tag) (cmd_of parts) command is in
    let one = cmd_of_only parts word.0 command word.2 in
    (one.0 ∙ ap (λ first. tuple (first ∷ parts)) (string_only tag word.0 word.1), one.1)

pub cmd_inverse : IsInverse CmdFits cmd_data read_cmd
unfolding read_cmd
cmd_inverse = record { back = back; only = of_parts CmdFits cmd_data cmd_parts cmd_only }
  where
    back : (command : Cmd) → CmdFits command → read_cmd (cmd_data command) ≡ Some command
    back (cmd.Copy to from next) fits = go_on_is _ _ _ _ refl (go_on_is _ _ (codes "copy") _ refl (copy_parts_back to from next fits))
    back (cmd.Arith to op left right next) fits =
        go_on_is _ _ _ _ refl (go_on_is _ _ (codes "arith") _ refl (arith_parts_back to op left right next fits))
    back (cmd.Any to ty next) fits = go_on_is _ _ _ _ refl (go_on_is _ _ (codes "any") _ refl (any_parts_back to ty next fits))
    back (cmd.Load to base kind field next) fits =
        go_on_is _ _ _ _ refl (go_on_is _ _ (codes "load") _ refl (load_parts_back to base kind field next fits))
    back (cmd.Store base kind field from next) fits =
        go_on_is _ _ _ _ refl (go_on_is _ _ (codes "store") _ refl (store_parts_back base kind field from next fits))
    back (cmd.New to kind next) fits = go_on_is _ _ _ _ refl (go_on_is _ _ (codes "new") _ refl (new_parts_back to kind next fits))
    back (cmd.Free base kind next) fits = go_on_is _ _ _ _ refl (go_on_is _ _ (codes "free") _ refl (free_parts_back base kind next fits))
    back (cmd.Call to callee args next) fits =
        go_on_is _ _ _ _ refl (go_on_is _ _ (codes "call") _ refl (call_parts_back to callee args next fits))
    back (cmd.Branch op pointers left right on_true on_false) fits =
        go_on_is _ _ _ _ refl (go_on_is _ _ (codes "branch") _ refl (branch_parts_back op pointers left right on_true on_false fits))
    back (cmd.Return value) fits = go_on_is _ _ _ _ refl (go_on_is _ _ (codes "return") _ refl (return_parts_back value fits))
