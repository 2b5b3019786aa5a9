-- What is written of entries that a store may hold is plain, and so it is read back.
use Rattle.std.specs.Prelude.{◌≡◌, ◌<◌, ℕ, suc, pos, negsuc, codes, List, [], ◌∷◌, length, map, slice_index_or, All, IfSome, IsUtf8}
use Rattle.std.specs.declared.option.Option.{Option}
use Rattle.std.specs.declared.option.Option.TheVariants.{None, Some}
use Rattle.std.proofs.Common.{refl, ap, arith}
use Rattle.std.proofs.lemmas.List.Elements.{All-cons, All-head, All-nil, All-tail}
use Rattle.serde_json.specs.Data.{Data, string}
use Rattle.serde_json.specs.View.{items_of}
use Rattle.serde_json.specs.Written.{compact_text}
use Rattle.shape_data.specs.declared.answer.Budget.{Budget}
use Rattle.shape_data.specs.declared.answer.Budget.TheVariants as budget
use Rattle.shape_data.specs.declared.answer.Callee.{Callee}
use Rattle.shape_data.specs.declared.answer.Fault.{Fault}
use Rattle.shape_data.specs.declared.answer.Fault.TheVariants as fault
use Rattle.shape_data.specs.declared.answer.ProcSummary.{ProcSummary}
use Rattle.shape_data.specs.declared.answer.Reason.{Reason}
use Rattle.shape_data.specs.declared.answer.Reason.TheVariants as reason
use Rattle.shape_data.specs.declared.program.ArithOp.{ArithOp}
use Rattle.shape_data.specs.declared.program.ArithOp.TheVariants.{Add, Sub, Mul}
use Rattle.shape_data.specs.declared.program.Cmd.{Cmd}
use Rattle.shape_data.specs.declared.program.Cmd.TheVariants as cmd
use Rattle.shape_data.specs.declared.program.Field.{Field}
use Rattle.shape_data.specs.declared.program.Flow.{Flow}
use Rattle.shape_data.specs.declared.program.HeadMark.{HeadMark}
use Rattle.shape_data.specs.declared.program.Node.{Node}
use Rattle.shape_data.specs.declared.program.Operand.{Operand}
use Rattle.shape_data.specs.declared.program.Operand.TheVariants.{Slot, Num}
use Rattle.shape_data.specs.declared.program.StructDef.{StructDef}
use Rattle.shape_data.specs.declared.program.TestOp.{TestOp}
use Rattle.shape_data.specs.declared.program.TestOp.TheVariants as test
use Rattle.shape_data.specs.declared.program.Ty.{Ty}
use Rattle.shape_data.specs.declared.program.Ty.TheVariants.{Int, Ptr, Void}
use Rattle.shape_data.specs.declared.symbolic.Cert.{Cert}
use Rattle.shape_data.specs.declared.symbolic.Post.{Post}
use Rattle.shape_data.specs.declared.symbolic.Spec.{Spec}
use Rattle.shape_data.specs.declared.symbolic.SymState.{SymState}
use Rattle.shape_data.specs.WellFormed.{storable, AreParams, AreStructs, IsCallee, IsExp, IsPost, IsSpec}
use Rattle.claim_core.specs.Views.{Solution}
use Rattle.flow_json.specs.Commands.{arith_data, cmd_data, operand_data, test_data, CmdIsText}
use Rattle.flow_json.specs.Flows.{flow_data, mark_data, node_data, FlowIsText, NodeIsText}
use Rattle.flow_json.specs.Forms.{count_data, list_data, option_data}
use Rattle.flow_json.specs.Laws.{CmdFits, FlowFits, IsCount, MarkFits, NodeFits, OperandFits}
use Rattle.flow_json.specs.Types.{field_data, struct_data, ty_data, FieldIsText, StructIsText, TyIsText}
use Rattle.flow_json.proofs.TextLaws.{name_is_text}
use Rattle.summary_json.specs.Answers.{cert_data, state_data, summaries_data, summary_data}
use Rattle.summary_json.specs.Fits.{ReasonFits, SummaryFits}
use Rattle.summary_json.specs.Keys.{callee_data, spec_data}
use Rattle.summary_json.specs.Reasons.{budget_data, fault_data, reason_data}
use Rattle.summary_json.specs.Texts.{exp_data, post_data}
use Rattle.summary_json.specs.Written.{CertIsText, StateIsText, SummaryIsText}
use Rattle.summary_json.proofs.AnswerTexts.{flow_params, summary_is_text}
use Rattle.summary_json.proofs.KeyTexts.{procs_are_texts, structs_are_texts}
use Rattle.summary_json.proofs.PlainTexts.{exp_is_utf8, heap_is_utf8, names_are_utf8, post_is_utf8}
use Rattle.store_json.specs.Entries.{as_stored, Fits, IsReadEntry, IsStorable}
use Rattle.store_json.specs.Laws.{StoresAreReadBack}
use Rattle.store_json.specs.Texts.{entry_data, store_data, store_object}
use Rattle.store_json.proofs.PlainLaws.{literal, text_is_read, text_is_utf8, ArePlain, IsPlain}

lists_from : {A : Type 0} (P : A → Type 0) (write : A → Data) (levels : ℕ) → ((thing : A) → P thing → IsPlain (write thing) levels) →
    (things : List A) → All P things → ArePlain (items_of (map write things)) levels
lists_from P write levels each [] all = tt
lists_from P write levels each (thing ∷ things) all =
    (each thing (All-head P thing things all), lists_from P write levels each things (All-tail P thing things all))

lists : {A : Type 0} (P : A → Type 0) (write : A → Data) (levels : ℕ) → ((thing : A) → P thing → IsPlain (write thing) levels) →
    (things : List A) → All P things → IsPlain (list_data write things) (suc levels)
lists P write levels each things all = lists_from P write levels each things all

options : {A : Type 0} (P : A → Type 0) (write : A → Data) (levels : ℕ) → ((thing : A) → P thing → IsPlain (write thing) levels) →
    (thing : Option A) → IfSome thing P → IsPlain (option_data write thing) levels
options P write levels each None is = tt
options P write levels each (Some thing) is = each thing is

-- ---- programs

counts : (levels n : ℕ) → IsCount n → IsPlain (count_data n) levels
counts levels n is = omega arith

names : (levels : ℕ) (name : List ℕ) → IsUtf8 name → IsPlain (string name) levels
names levels name is = is

tys : (levels : ℕ) (ty : Ty) → TyIsText ty → IsPlain (ty_data ty) (suc levels)
tys levels Int is = literal (codes "int") refl
tys levels (Ptr name) is = (literal (codes "ptr") refl, (is, tt))
tys levels Void is = literal (codes "void") refl

fields : (levels : ℕ) (field : Field) → FieldIsText field → IsPlain (field_data field) (suc (suc levels))
fields levels field is = (is.0, (tys levels field.ty is.1, tt))

structs_plain : (levels : ℕ) (def : StructDef) → StructIsText def → IsPlain (struct_data def) (suc (suc (suc (suc levels))))
structs_plain levels def is = (is.0, (lists FieldIsText field_data (suc (suc levels)) (fields levels) def.fields is.1, tt))

operands : (levels : ℕ) (operand : Operand) → OperandFits operand → IsPlain (operand_data operand) (suc levels)
operands levels (Slot slot) is = (literal (codes "s") refl, (counts levels slot is, tt))
operands levels (Num (pos n)) is = let small : n < 2147483648 = is in (literal (codes "n") refl, (omega arith, tt))
operands levels (Num (negsuc n)) is = let small : n < 2147483648 = is in (literal (codes "n") refl, (omega arith, tt))

ariths : (levels : ℕ) (op : ArithOp) → IsPlain (arith_data op) levels
ariths levels Add = literal (codes "+") refl
ariths levels Sub = literal (codes "-") refl
ariths levels Mul = literal (codes "*") refl

tests : (levels : ℕ) (op : TestOp) → IsPlain (test_data op) levels
tests levels test.Eq = literal (codes "==") refl
tests levels test.Ne = literal (codes "!=") refl
tests levels test.Lt = literal (codes "<") refl
tests levels test.Le = literal (codes "<=") refl
tests levels test.Gt = literal (codes ">") refl
tests levels test.Ge = literal (codes ">=") refl

cmds : (levels : ℕ) (command : Cmd) → CmdIsText command → CmdFits command → IsPlain (cmd_data command) (suc (suc (suc levels)))
cmds levels (cmd.Copy to from next) is fits =
    (literal (codes "copy") refl, (counts levels to fits.0, (operands (suc levels) from fits.1, (counts levels next fits.2, tt))))
cmds levels (cmd.Arith to op left right next) is fits = (
  literal (codes "arith") refl,
  (
    counts levels to fits.0,
    (
      ariths (suc (suc levels)) op,
      (
        operands (suc levels) left fits.2,
        (
          operands (suc levels) right fits.3,
          (counts levels next fits.4, tt),
        ),
      ),
    ),
  ),
)
cmds levels (cmd.Any to ty next) is fits =
    (literal (codes "any") refl, (counts levels to fits.0, (tys (suc levels) ty is, (counts levels next fits.2, tt))))
cmds levels (cmd.Load to base kind field next) is fits = (
  literal (codes "load") refl,
  (counts levels to fits.0, (counts levels base fits.1, (is, (counts levels field fits.3, (counts levels next fits.4, tt))))),
)
cmds levels (cmd.Store base kind field from next) is fits = (
  literal (codes "store") refl,
  (counts levels base fits.0, (is, (counts levels field fits.2, (operands (suc levels) from fits.3, (counts levels next fits.4, tt))))),
)
cmds levels (cmd.New to kind next) is fits =
    (literal (codes "new") refl, (counts levels to fits.0, (is, (counts levels next fits.2, tt))))
cmds levels (cmd.Free base kind next) is fits =
    (literal (codes "free") refl, (counts levels base fits.0, (is, (counts levels next fits.2, tt))))
cmds levels (cmd.Call to callee args next) is fits = (
  literal (codes "call") refl,
  (
    options IsCount count_data (suc (suc levels)) (counts (suc (suc levels))) to fits.0,
    (is, (lists OperandFits operand_data (suc levels) (operands levels) args fits.2, (counts levels next fits.3, tt))),
  ),
)
cmds levels (cmd.Branch op pointers left right on_true on_false) is fits = (
  literal (codes "branch") refl,
  (
    tests (suc (suc levels)) op,
    (
      tt,
      (
        operands (suc levels) left fits.2,
        (
          operands (suc levels) right fits.3,
          (counts levels on_true fits.4, (counts levels on_false fits.5, tt)),
        ),
      ),
    ),
  ),
)
cmds levels (cmd.Return value) is fits = (literal (codes "return") refl, (operands (suc levels) value fits, tt))

marks : (levels : ℕ) (mark : HeadMark) → MarkFits mark → IsPlain (mark_data mark) (suc (suc levels))
marks levels mark fits = (
  lists IsCount count_data levels (counts levels) mark.ints fits.0,
  (lists IsCount count_data levels (counts levels) mark.dead fits.1, tt),
)

nodes : (levels : ℕ) (node : Node) → NodeIsText node × NodeFits node → IsPlain (node_data node) (suc (suc (suc (suc levels))))
nodes levels node is = (
  counts levels node.line is.1.0,
  (options MarkFits mark_data (suc (suc (suc levels))) (marks (suc levels)) node.head is.1.1, (cmds levels node.cmd is.0 is.1.2, tt)),
)

flows : (levels : ℕ) (flow : Flow) → FlowIsText flow × FlowFits flow → IsPlain (flow_data flow) (suc (suc (suc (suc (suc (suc levels))))))
flows levels flow is = (
  refl,
  (
    literal (codes "name") refl,
    is.0.name,
    (
      literal (codes "nodes") refl,
      lists (λ (node : Node). NodeIsText node × NodeFits node) node_data (suc (suc (suc (suc levels)))) (nodes levels) flow.nodes
          (λ place other within. (is.0.nodes place other within, is.1.nodes place other within)),
      (
        literal (codes "params") refl,
        lists IsUtf8 string (suc (suc (suc (suc levels)))) (names (suc (suc (suc (suc levels))))) flow.params is.0.params,
        (
          literal (codes "ret") refl,
          tys (suc (suc (suc (suc levels)))) flow.ret is.0.ret,
          (
            literal (codes "slots") refl,
            lists TyIsText ty_data (suc (suc (suc (suc levels))))
                (tys (suc (suc (suc levels)))) flow.slots is.0.slots,
            tt,
          ),
        ),
      ),
    ),
  ),
)

-- ---- specs, callees and keys

module _ (structs : List StructDef) (are_structs : AreStructs structs) where
  posts : (levels : ℕ) (params : List (List ℕ)) → AreParams params → (all : List Post) → All (IsPost storable structs (length params)) all →
      IsPlain (list_data (post_data structs params) all) (suc levels)
  posts levels params are all is =
      lists (IsPost storable structs (length params)) (post_data structs params) levels
      (λ post it. post_is_utf8 structs params are_structs are post it) all is

  specs : (levels : ℕ) (params : List (List ℕ)) → AreParams params → (spec : Spec) → IsSpec storable structs (length params) spec →
      IsPlain (spec_data structs params spec) (suc (suc levels))
  specs levels params are spec is = (
    refl,
    (
      literal (codes "posts") refl,
      posts levels params are spec.posts is.posts,
      (literal (codes "pre") refl, heap_is_utf8 structs params are_structs are spec.pre is.pre, tt),
    ),
  )

  callees : (levels : ℕ) (callee : Callee) → IsCallee storable structs callee →
      IsPlain (callee_data structs callee) (suc (suc (suc (suc levels))))
  callees levels callee is = (
    name_is_text callee.name is.name,
    (
      lists IsUtf8 string (suc (suc levels)) (names (suc (suc levels))) callee.params (names_are_utf8 callee.params is.params.names),
      (
        lists (IsSpec storable structs (length callee.params)) (spec_data structs callee.params) (suc (suc levels))
            (specs levels callee.params is.params) callee.specs is.specs,
        tt,
      ),
    ),
  )

  -- ---- certificates and summaries

  states : (levels : ℕ) (params : List (List ℕ)) → AreParams params → (state : SymState) → StateIsText structs params state →
      IsPlain (state_data structs params state) (suc (suc levels))
  states levels params are state is = (
    refl,
    (
      literal (codes "heap") refl,
      heap_is_utf8 structs params are_structs are state.heap is.heap,
      (
        literal (codes "locals") refl,
        lists (IsExp storable (length params)) (exp_data params) levels (λ e it. exp_is_utf8 params are e) state.locals is.locals,
        tt,
      ),
    ),
  )

  certs : (levels : ℕ) (params : List (List ℕ)) → AreParams params → (cert : Cert) → CertIsText structs params cert →
      IsPlain (cert_data structs params cert) (suc (suc (suc (suc (suc levels)))))
  certs levels params are cert is = (
    refl,
    (
      literal (codes "exits") refl,
      posts (suc (suc (suc levels))) params are cert.exits is.exits,
      (
        literal (codes "nodes") refl,
        lists (All (StateIsText structs params)) (list_data (state_data structs params)) (suc (suc (suc levels)))
            (lists (StateIsText structs params) (state_data structs params) (suc (suc levels))
            (states levels params are)) cert.nodes is.nodes,
        tt,
      ),
    ),
  )

faults : (levels : ℕ) (it : Fault) → IsPlain (fault_data it) levels
faults levels fault.Null = literal (codes "null") refl
faults levels fault.Unowned = literal (codes "unowned") refl
faults levels fault.Kind = literal (codes "struct") refl
faults levels fault.Callee = literal (codes "callee") refl
faults levels fault.Cover = literal (codes "cover") refl
faults levels fault.Alias = literal (codes "alias") refl
faults levels fault.States = literal (codes "states") refl
faults levels fault.Parts = literal (codes "parts") refl
faults levels fault.Turns = literal (codes "turns") refl

budgets : (levels : ℕ) (it : Budget) → IsPlain (budget_data it) levels
budgets levels budget.Turns = literal (codes "turns") refl
budgets levels budget.States = literal (codes "states") refl
budgets levels budget.Parts = literal (codes "parts") refl
budgets levels budget.Rounds = literal (codes "rounds") refl

reasons : (levels : ℕ) (it : Reason) → ReasonFits it → IsPlain (reason_data it) (suc levels)
reasons levels (reason.NoPath cause line) is = (literal (codes "no-path") refl, (counts levels line is, (faults levels cause, tt)))
reasons levels reason.Endless is = (literal (codes "endless") refl, tt)
reasons levels (reason.Failed cause line) is = (literal (codes "failed") refl, (counts levels line is, (faults levels cause, tt)))
reasons levels (reason.Spent what count) is = (literal (codes "spent") refl, (budgets levels what, (counts levels count is, tt)))

module _ (structs : List StructDef) (are_structs : AreStructs structs) where
  summaries : (levels : ℕ) (params : List (List ℕ)) → AreParams params → (summary : ProcSummary) → SummaryIsText structs params summary →
      SummaryFits summary → IsPlain (summary_data structs params summary) (suc (suc (suc (suc (suc (suc (suc levels)))))))
  summaries levels params are summary is fits = (
    refl,
    (
      literal (codes "certs") refl,
      lists (CertIsText structs params) (cert_data structs params) (suc (suc (suc (suc (suc levels)))))
          (certs structs are_structs levels params are) summary.certs is.certs,
      (
        literal (codes "name") refl,
        is.name,
        (
          literal (codes "reason") refl,
          options ReasonFits reason_data (suc (suc (suc (suc (suc (suc levels)))))) (reasons (suc (suc (suc (suc (suc levels))))))
              summary.reason fits.reason,
          (
            literal (codes "specs") refl,
            lists (IsSpec storable structs (length params)) (spec_data structs params) (suc (suc (suc (suc (suc levels)))))
                (specs structs are_structs (suc (suc (suc levels))) params are) summary.specs is.specs,
            tt,
          ),
        ),
      ),
    ),
  )

  -- one for each procedure
  each_summary : (levels : ℕ) (all : List Flow) (answers : List ProcSummary) → length answers ≡ length all →
      ((place : ℕ) (flow : Flow) → place < length all → AreParams (slice_index_or all place flow).params) →
      ((place : ℕ) (flow : Flow) (summary : ProcSummary) → place < length all →
      SummaryIsText structs (slice_index_or all place flow).params (slice_index_or answers place summary)) → All SummaryFits answers →
      ArePlain (items_of (summaries_data structs all answers)) (suc (suc (suc (suc (suc (suc (suc levels)))))))
  each_summary levels [] answers same are each fits = tt
  each_summary levels (flow ∷ all) [] same are each fits = tt
  each_summary levels (flow ∷ all) (summary ∷ answers) same are each fits = (
    summaries levels flow.params (are 0 flow (omega arith)) summary (each 0 flow summary (omega arith))
        (All-head SummaryFits summary answers fits),
    each_summary levels all answers (omega (arith, same)) (λ place one within. are (suc place) one (omega arith))
        (λ place one other within. each (suc place) one other (omega arith)) (All-tail SummaryFits summary answers fits),
  )

-- ---- entries

entries_plain : (entry : Solution) → IsStorable entry × Fits entry → IsPlain (entry_data entry) 125
entries_plain entry is =
    let key = is.0.key in
    let flows_of = procs_are_texts entry.key.structs entry.key.procs key.structs key.procs in (
      refl,
      (
        literal (codes "answer") refl,
        (
          refl,
          (
            literal (codes "procs") refl,
            each_summary entry.key.structs key.structs 115 entry.key.procs entry.answer.procs is.0.answer.answers.one_each
                (λ place flow within. flow_params entry.key.structs entry.key.procs place flow key.procs.each within)
                (λ place flow summary within. summary_is_text entry.key.structs entry.key.procs entry.answer.procs place flow summary
                key.procs.each is.0.answer.answers within) is.1.answer,
            tt,
          ),
        ),
        (
          literal (codes "key") refl,
          (
            refl,
            (
              literal (codes "callees") refl,
              lists (IsCallee storable entry.key.structs) (callee_data entry.key.structs) 122 (callees entry.key.structs key.structs 118)
                  entry.key.callees key.callees.each,
              (
                literal (codes "procs") refl,
                lists (λ (flow : Flow). FlowIsText flow × FlowFits flow) flow_data 122 (flows 116) entry.key.procs
                    (λ place other within. (flows_of place other within, is.1.key.procs place other within)),
                (
                  literal (codes "recursive") refl,
                  tt,
                  (
                    literal (codes "structs") refl,
                    lists StructIsText struct_data 122 (structs_plain 118) entry.key.structs
                        (structs_are_texts entry.key.structs key.structs),
                    tt,
                  ),
                ),
              ),
            ),
          ),
          tt,
        ),
      ),
    )

store_plain : (entries : List Solution) → All (λ (entry : Solution). IsStorable entry × Fits entry) entries →
    IsPlain (store_data entries) 127
store_plain entries is = (
  refl,
  (
    literal (codes "entries") refl,
    lists (λ (entry : Solution). IsStorable entry × Fits entry) entry_data 125 entries_plain entries is,
    (literal (codes "format") refl, omega arith, tt),
  ),
)

-- ---- the mark is not written

unmarked : (entries : List Solution) → map entry_data (map as_stored entries) ≡ map entry_data entries
unmarked [] = refl
unmarked (entry ∷ entries) = ap (λ others. entry_data entry ∷ others) (unmarked entries)

marked : (entries : List Solution) → All IsStorable entries → All Fits entries → All IsReadEntry (map as_stored entries)
marked [] formed fits = All-nil IsReadEntry
marked (entry ∷ entries) formed fits =
    let one = All-head IsStorable entry entries formed in
    let fit = All-head Fits entry entries fits in
    All-cons IsReadEntry (as_stored entry) (map as_stored entries)
    (record {
      storable = record { key = one.key; answer = record { answers = one.answer.answers; reasons = one.answer.reasons } };
      fits = record { key = fit.key; answer = fit.answer };
      stored = refl;
    })
    (marked entries (All-tail IsStorable entry entries formed) (All-tail Fits entry entries fits))

pub stores_are_read_back : StoresAreReadBack
stores_are_read_back entries formed fits =
    let plain = store_plain entries (λ place other within. (formed place other within, fits place other within)) in (
      compact_text (store_data entries),
      store_data entries,
      refl,
      (text_is_utf8 (store_data entries) 127 plain, text_is_read (store_data entries) plain),
      (marked entries formed fits, ap store_object (unmarked entries)),
    )
