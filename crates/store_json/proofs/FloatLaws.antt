-- No number of a store is a float.
use Rattle.std.specs.Prelude.{◌≡◌, ℕ, pos, negsuc, false, List, [], ◌∷◌}
use Rattle.std.specs.declared.option.Option.{Option}
use Rattle.std.specs.declared.option.Option.TheVariants.{None, Some}
use Rattle.std.proofs.Common.{refl}
use Rattle.serde_json.specs.Data.{Data, string}
use Rattle.serde_json.specs.Written.{has_float}
use Rattle.shape_data.specs.declared.answer.Answer.{Answer}
use Rattle.shape_data.specs.declared.answer.Budget.{Budget}
use Rattle.shape_data.specs.declared.answer.Budget.TheVariants as budget
use Rattle.shape_data.specs.declared.answer.Callee.{Callee}
use Rattle.shape_data.specs.declared.answer.Fault.{Fault}
use Rattle.shape_data.specs.declared.answer.Fault.TheVariants as fault
use Rattle.shape_data.specs.declared.answer.Key.{Key}
use Rattle.shape_data.specs.declared.answer.ProcSummary.{ProcSummary}
use Rattle.shape_data.specs.declared.answer.Reason.{Reason}
use Rattle.shape_data.specs.declared.answer.Reason.TheVariants as reason
use Rattle.shape_data.specs.declared.program.ArithOp.{ArithOp}
use Rattle.shape_data.specs.declared.program.ArithOp.TheVariants.{Add, Sub, Mul}
use Rattle.shape_data.specs.declared.program.Cmd.{Cmd}
use Rattle.shape_data.specs.declared.program.Cmd.TheVariants as cmd
use Rattle.shape_data.specs.declared.program.Field.{Field}
use Rattle.shape_data.specs.declared.program.Flow.{Flow}
use Rattle.shape_data.specs.declared.program.HeadMark.{HeadMark}
use Rattle.shape_data.specs.declared.program.Node.{Node}
use Rattle.shape_data.specs.declared.program.Operand.{Operand}
use Rattle.shape_data.specs.declared.program.Operand.TheVariants.{Slot, Num}
use Rattle.shape_data.specs.declared.program.StructDef.{StructDef}
use Rattle.shape_data.specs.declared.program.TestOp.{TestOp}
use Rattle.shape_data.specs.declared.program.TestOp.TheVariants as test
use Rattle.shape_data.specs.declared.program.Ty.{Ty}
use Rattle.shape_data.specs.declared.program.Ty.TheVariants.{Int, Ptr, Void}
use Rattle.shape_data.specs.declared.symbolic.Cert.{Cert}
use Rattle.shape_data.specs.declared.symbolic.Spec.{Spec}
use Rattle.shape_data.specs.declared.symbolic.SymState.{SymState}
use Rattle.claim_core.specs.Views.{Solution}
use Rattle.flow_json.specs.Commands.{arith_data, cmd_data, operand_data, test_data}
use Rattle.flow_json.specs.Flows.{flow_data, mark_data, node_data}
use Rattle.flow_json.specs.Forms.{count_data, list_data, option_data, tuple}
use Rattle.flow_json.specs.Types.{field_data, struct_data, ty_data}
use Rattle.summary_json.specs.Answers.{answer_data, cert_data, state_data, summaries_data, summary_data}
use Rattle.summary_json.specs.Keys.{callee_data, key_data, spec_data}
use Rattle.summary_json.specs.Reasons.{budget_data, fault_data, reason_data}
use Rattle.summary_json.specs.Texts.{exp_data, post_data}
use Rattle.store_json.specs.Texts.{entry_data, store_data}

abbrev pub HasNoFloat : Data → Type 0
HasNoFloat d = has_float d ≡ false

lists : {A : Type 0} (write : A → Data) → ((thing : A) → HasNoFloat (write thing)) → (things : List A) → HasNoFloat (list_data write things)
lists write each [] = refl
lists write each (thing ∷ things) = rw (each thing, lists write each things) refl

options : {A : Type 0} (write : A → Data) → ((thing : A) → HasNoFloat (write thing)) → (thing : Option A)
    → HasNoFloat (option_data write thing)
options write each None = refl
options write each (Some thing) = each thing

-- ---- programs

tys : (ty : Ty) → HasNoFloat (ty_data ty)
tys Int = refl
tys (Ptr name) = refl
tys Void = refl

fields : (field : Field) → HasNoFloat (field_data field)
fields field = rw (tys field.ty) refl

structs : (def : StructDef) → HasNoFloat (struct_data def)
structs def = rw (lists field_data fields def.fields) refl

operands : (operand : Operand) → HasNoFloat (operand_data operand)
operands (Slot slot) = refl
operands (Num (pos n)) = refl
operands (Num (negsuc n)) = refl

ariths : (op : ArithOp) → HasNoFloat (arith_data op)
ariths Add = refl
ariths Sub = refl
ariths Mul = refl

tests : (op : TestOp) → HasNoFloat (test_data op)
tests test.Eq = refl
tests test.Ne = refl
tests test.Lt = refl
tests test.Le = refl
tests test.Gt = refl
tests test.Ge = refl

counts : (n : ℕ) → HasNoFloat (count_data n)
counts n = refl

cmds : (command : Cmd) → HasNoFloat (cmd_data command)
cmds (cmd.Copy to from next) = rw (operands from) refl
cmds (cmd.Arith to op left right next) = rw (ariths op, operands left, operands right) refl
cmds (cmd.Any to ty next) = rw (tys ty) refl
cmds (cmd.Load to base kind field next) = refl
cmds (cmd.Store base kind field from next) = rw (operands from) refl
cmds (cmd.New to kind next) = refl
cmds (cmd.Free base kind next) = refl
cmds (cmd.Call to callee args next) = rw (options count_data counts to, lists operand_data operands args) refl
cmds (cmd.Branch op pointers left right on_true on_false) = rw (tests op, operands left, operands right) refl
cmds (cmd.Return value) = rw (operands value) refl

marks : (mark : HeadMark) → HasNoFloat (mark_data mark)
marks mark = rw (lists count_data counts mark.ints, lists count_data counts mark.dead) refl

nodes : (node : Node) → HasNoFloat (node_data node)
nodes node = rw (options mark_data marks node.head, cmds node.cmd) refl

names : (name : List ℕ) → HasNoFloat (string name)
names name = refl

flows : (flow : Flow) → HasNoFloat (flow_data flow)
flows flow = rw (lists node_data nodes flow.nodes, lists string names flow.params, tys flow.ret, lists ty_data tys flow.slots) refl

-- ---- keys and answers

specs : (structs : List StructDef) (params : List (List ℕ)) (spec : Spec) → HasNoFloat (spec_data structs params spec)
specs structs params spec = rw (lists (post_data structs params) (λ post. refl) spec.posts) refl

callees : (structs : List StructDef) (callee : Callee) → HasNoFloat (callee_data structs callee)
callees structs callee =
    rw (lists string names callee.params, lists (spec_data structs callee.params) (specs structs callee.params) callee.specs) refl

keys : (key : Key) → HasNoFloat (key_data key)
keys key = rw (
  lists (callee_data key.structs) (callees key.structs) key.callees,
  lists flow_data flows key.procs,
  lists struct_data structs key.structs,
) refl

states : (structs : List StructDef) (params : List (List ℕ)) (state : SymState) → HasNoFloat (state_data structs params state)
states structs params state = rw (lists (exp_data params) (λ e. refl) state.locals) refl

certs : (structs : List StructDef) (params : List (List ℕ)) (cert : Cert) → HasNoFloat (cert_data structs params cert)
certs structs params cert = rw (
  lists (post_data structs params) (λ post. refl) cert.exits,
  lists (list_data (state_data structs params)) (lists (state_data structs params) (states structs params)) cert.nodes,
) refl

faults : (it : Fault) → HasNoFloat (fault_data it)
faults fault.Null = refl
faults fault.Unowned = refl
faults fault.Kind = refl
faults fault.Callee = refl
faults fault.Cover = refl
faults fault.Alias = refl
faults fault.States = refl
faults fault.Parts = refl
faults fault.Turns = refl

budgets : (it : Budget) → HasNoFloat (budget_data it)
budgets budget.Turns = refl
budgets budget.States = refl
budgets budget.Parts = refl
budgets budget.Rounds = refl

reasons : (it : Reason) → HasNoFloat (reason_data it)
reasons (reason.NoPath cause line) = rw (faults cause) refl
reasons reason.Endless = refl
reasons (reason.Failed cause line) = rw (faults cause) refl
reasons (reason.Spent what count) = rw (budgets what) refl

summaries : (structs : List StructDef) (params : List (List ℕ)) (summary : ProcSummary) → HasNoFloat (summary_data structs params summary)
summaries structs params summary = rw (
  lists (cert_data structs params) (certs structs params) summary.certs,
  options reason_data reasons summary.reason,
  lists (spec_data structs params) (specs structs params) summary.specs,
) refl

each_summary : (structs : List StructDef) (flows : List Flow) (answers : List ProcSummary)
    → HasNoFloat (tuple (summaries_data structs flows answers))
each_summary structs [] answers = refl
each_summary structs (flow ∷ flows) [] = refl
each_summary structs (flow ∷ flows) (summary ∷ answers) =
    rw (summaries structs flow.params summary, each_summary structs flows answers) refl

answers : (key : Key) (answer : Answer) → HasNoFloat (answer_data key answer)
answers key answer = rw (each_summary key.structs key.procs answer.procs) refl

entries : (entry : Solution) → HasNoFloat (entry_data entry)
entries entry = rw (answers entry.key entry.answer, keys entry.key) refl

pub store_has_no_float : (all : List Solution) → HasNoFloat (store_data all)
store_has_no_float all = rw (lists entry_data entries all) refl
