-- The JSON forms of operands and commands.
use Rattle.std.specs.Prelude.{ℕ, if◌then◌else◌, codes, List, [], ◌∷◌, IsUtf8}
use Rattle.std.specs.Str.{bytes_eq}
use Rattle.std.specs.declared.option.Option.{Option}
use Rattle.std.specs.declared.option.Option.TheVariants.{None, Some}
use Rattle.serde_json.specs.Data.{Data, string}
use Rattle.serde_json.specs.Find.{as_bool, as_str}
use Rattle.shape_data.specs.declared.program.ArithOp.{ArithOp}
use Rattle.shape_data.specs.declared.program.ArithOp.TheVariants.{Add, Sub, Mul}
use Rattle.shape_data.specs.declared.program.Cmd.{Cmd}
use Rattle.shape_data.specs.declared.program.Cmd.TheVariants as cmd
use Rattle.shape_data.specs.declared.program.Operand.{Operand}
use Rattle.shape_data.specs.declared.program.Operand.TheVariants.{Slot, Num}
use Rattle.shape_data.specs.declared.program.TestOp.{TestOp}
use Rattle.shape_data.specs.declared.program.TestOp.TheVariants as test
use Rattle.flow_json.specs.Forms.{as_list, count_data, flag_data, go_on, int_data, list_data, option_data, read_count, read_int, read_list}
use Rattle.flow_json.specs.Forms.{read_name, read_option, tuple}
use Rattle.flow_json.specs.Types.{read_ty, ty_data, TyIsText}

-- an operand: `["s",slot]` or `["n",number]`
abbrev pub operand_data : Operand → Data
operand_data (Slot slot) = tuple (string (codes "s") ∷ count_data slot ∷ [])
operand_data (Num n) = tuple (string (codes "n") ∷ int_data n ∷ [])

abbrev pub operand_of : Data → List ℕ → Option Operand
operand_of d word =
    if bytes_eq word (codes "s") then go_on (read_count d) (λ slot. Some (Slot slot))
    else (if bytes_eq word (codes "n") then go_on (read_int d) (λ n. Some (Num n)) else None)

abbrev pub operand_parts : List Data → Option Operand
operand_parts (tag ∷ d ∷ []) = go_on (as_str tag) (operand_of d)
operand_parts _ = None

abbrev pub read_operand : Data → Option Operand
read_operand d = go_on (as_list d) operand_parts

-- an operator of arithmetic, as in C
abbrev pub arith_data : ArithOp → Data
arith_data Add = string (codes "+")
arith_data Sub = string (codes "-")
arith_data Mul = string (codes "*")

abbrev pub arith_of : List ℕ → Option ArithOp
arith_of word =
    if bytes_eq word (codes "+") then Some Add
    else (if bytes_eq word (codes "-") then Some Sub else (if bytes_eq word (codes "*") then Some Mul else None))

abbrev pub read_arith : Data → Option ArithOp
read_arith d = go_on (as_str d) arith_of

-- a test, as in C
abbrev pub test_data : TestOp → Data
test_data test.Eq = string (codes "==")
test_data test.Ne = string (codes "!=")
test_data test.Lt = string (codes "<")
test_data test.Le = string (codes "<=")
test_data test.Gt = string (codes ">")
test_data test.Ge = string (codes ">=")

abbrev pub test_of : List ℕ → Option TestOp
test_of word =
    if bytes_eq word (codes "==") then Some test.Eq
    else (if bytes_eq word (codes "!=") then Some test.Ne
    else (if bytes_eq word (codes "<") then Some test.Lt
    else (if bytes_eq word (codes "<=") then Some test.Le
    else (if bytes_eq word (codes ">") then Some test.Gt
    else (if bytes_eq word (codes ">=") then Some test.Ge else None)))))

abbrev pub read_test : Data → Option TestOp
read_test d = go_on (as_str d) test_of

-- a command: its name, and its fields in their order
abbrev pub cmd_data : Cmd → Data
cmd_data (cmd.Copy to from next) = tuple (string (codes "copy") ∷ count_data to ∷ operand_data from ∷ count_data next ∷ [])
cmd_data (cmd.Arith to op left right next) =
    tuple (string (codes "arith") ∷ count_data to ∷ arith_data op ∷ operand_data left ∷ operand_data right ∷ count_data next ∷ [])
cmd_data (cmd.Any to ty next) = tuple (string (codes "any") ∷ count_data to ∷ ty_data ty ∷ count_data next ∷ [])
cmd_data (cmd.Load to base kind field next) =
    tuple (string (codes "load") ∷ count_data to ∷ count_data base ∷ string kind ∷ count_data field ∷ count_data next ∷ [])
cmd_data (cmd.Store base kind field from next) =
    tuple (string (codes "store") ∷ count_data base ∷ string kind ∷ count_data field ∷ operand_data from ∷ count_data next ∷ [])
cmd_data (cmd.New to kind next) = tuple (string (codes "new") ∷ count_data to ∷ string kind ∷ count_data next ∷ [])
cmd_data (cmd.Free base kind next) = tuple (string (codes "free") ∷ count_data base ∷ string kind ∷ count_data next ∷ [])
cmd_data (cmd.Call to callee args next) =
    tuple (string (codes "call") ∷ option_data count_data to ∷ string callee ∷ list_data operand_data args ∷ count_data next ∷ [])
cmd_data (cmd.Branch op pointers left right on_true on_false) =
    tuple (string (codes "branch") ∷ test_data op ∷ flag_data pointers ∷ operand_data left ∷ operand_data right ∷ count_data on_true
    ∷ count_data on_false ∷ [])
cmd_data (cmd.Return value) = tuple (string (codes "return") ∷ operand_data value ∷ [])

-- the fields of each command
abbrev pub copy_parts : List Data → Option Cmd
copy_parts (to ∷ from ∷ next ∷ []) =
    go_on (read_count to) (λ to. go_on (read_operand from) (λ from. go_on (read_count next) (λ next. Some (cmd.Copy to from next))))
copy_parts _ = None

abbrev pub arith_parts : List Data → Option Cmd
arith_parts (to ∷ op ∷ left ∷ right ∷ next ∷ []) =
    go_on (read_count to)
    (λ to. go_on (read_arith op)
    (λ op. go_on (read_operand left)
    (λ left. go_on (read_operand right) (λ right. go_on (read_count next) (λ next. Some (cmd.Arith to op left right next))))))
arith_parts _ = None

abbrev pub any_parts : List Data → Option Cmd
any_parts (to ∷ ty ∷ next ∷ []) =
    go_on (read_count to) (λ to. go_on (read_ty ty) (λ ty. go_on (read_count next) (λ next. Some (cmd.Any to ty next))))
any_parts _ = None

abbrev pub load_parts : List Data → Option Cmd
load_parts (to ∷ base ∷ kind ∷ field ∷ next ∷ []) =
    go_on (read_count to)
    (λ to. go_on (read_count base)
    (λ base. go_on (read_name kind)
    (λ kind. go_on (read_count field) (λ field. go_on (read_count next) (λ next. Some (cmd.Load to base kind field next))))))
load_parts _ = None

abbrev pub store_parts : List Data → Option Cmd
store_parts (base ∷ kind ∷ field ∷ from ∷ next ∷ []) =
    go_on (read_count base)
    (λ base. go_on (read_name kind)
    (λ kind. go_on (read_count field)
    (λ field. go_on (read_operand from) (λ from. go_on (read_count next) (λ next. Some (cmd.Store base kind field from next))))))
store_parts _ = None

abbrev pub new_parts : List Data → Option Cmd
new_parts (to ∷ kind ∷ next ∷ []) =
    go_on (read_count to) (λ to. go_on (read_name kind) (λ kind. go_on (read_count next) (λ next. Some (cmd.New to kind next))))
new_parts _ = None

abbrev pub free_parts : List Data → Option Cmd
free_parts (base ∷ kind ∷ next ∷ []) =
    go_on (read_count base) (λ base. go_on (read_name kind) (λ kind. go_on (read_count next) (λ next. Some (cmd.Free base kind next))))
free_parts _ = None

abbrev pub call_parts : List Data → Option Cmd
call_parts (to ∷ callee ∷ args ∷ next ∷ []) =
    go_on (read_option read_count to)
    (λ to. go_on (read_name callee)
    (λ callee. go_on (read_list read_operand args) (λ args. go_on (read_count next) (λ next. Some (cmd.Call to callee args next)))))
call_parts _ = None

abbrev pub branch_parts : List Data → Option Cmd
branch_parts (op ∷ pointers ∷ left ∷ right ∷ on_true ∷ on_false ∷ []) =
    go_on (read_test op)
    (λ op. go_on (as_bool pointers)
    (λ pointers. go_on (read_operand left)
    (λ left. go_on (read_operand right)
    (λ right. go_on (read_count on_true)
    (λ on_true. go_on (read_count on_false) (λ on_false. Some (cmd.Branch op pointers left right on_true on_false)))))))
branch_parts _ = None

abbrev pub return_parts : List Data → Option Cmd
return_parts (value ∷ []) =
    go_on (read_operand value) (λ value. Some (cmd.Return value))
return_parts _ = None

-- the command of a name with these fields: those of slots alone, of cells, and of the way on
abbrev pub slot_cmd : List Data → List ℕ → Option Cmd
slot_cmd parts word =
    if bytes_eq word (codes "copy") then copy_parts parts
    else (if bytes_eq word (codes "arith") then arith_parts parts else (if bytes_eq word (codes "any") then any_parts parts else None))

abbrev pub cell_cmd : List Data → List ℕ → Option Cmd
cell_cmd parts word =
    if bytes_eq word (codes "load") then load_parts parts
    else (if bytes_eq word (codes "store") then store_parts parts
    else (if bytes_eq word (codes "new") then new_parts parts
    else (if bytes_eq word (codes "free") then free_parts parts else slot_cmd parts word)))

abbrev pub cmd_of : List Data → List ℕ → Option Cmd
cmd_of parts word =
    if bytes_eq word (codes "call") then call_parts parts
    else (if bytes_eq word (codes "branch") then branch_parts parts
    else (if bytes_eq word (codes "return") then return_parts parts else cell_cmd parts word))

abbrev pub cmd_parts : List Data → Option Cmd
cmd_parts [] = None
cmd_parts (tag ∷ parts) = go_on (as_str tag) (cmd_of parts)

unfoldable pub read_cmd : Data → Option Cmd
read_cmd d = go_on (as_list d) cmd_parts

-- WHAT CAN BE WRITTEN

abbrev pub CmdIsText : Cmd → Type 0
CmdIsText (cmd.Copy to from next) = Unit {0}
CmdIsText (cmd.Arith to op left right next) = Unit {0}
CmdIsText (cmd.Any to ty next) = TyIsText ty
CmdIsText (cmd.Load to base kind field next) = IsUtf8 kind
CmdIsText (cmd.Store base kind field from next) = IsUtf8 kind
CmdIsText (cmd.New to kind next) = IsUtf8 kind
CmdIsText (cmd.Free base kind next) = IsUtf8 kind
CmdIsText (cmd.Call to callee args next) = IsUtf8 callee
CmdIsText (cmd.Branch op pointers left right on_true on_false) = Unit {0}
CmdIsText (cmd.Return value) = Unit {0}
