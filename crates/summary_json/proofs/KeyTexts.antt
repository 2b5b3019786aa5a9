-- What is well formed can be written, and what is read of a key's object.
use Rattle.std.specs.Prelude.{◌≡◌, codes, List, [], All}
use Rattle.std.specs.declared.option.Option.{Option}
use Rattle.std.specs.declared.option.Option.TheVariants.{None, Some}
use Rattle.std.proofs.Common.{sym, ap, ◌∙◌, subst, arith}
use Rattle.std.proofs.lemmas.List.Elements.{All-nil, All-weaker}
use Rattle.serde_json.specs.Data.{Data}
use Rattle.serde_json.specs.Find.{as_bool, get}
use Rattle.shape_data.specs.declared.program.Flow.{Flow}
use Rattle.shape_data.specs.declared.program.StructDef.{StructDef}
use Rattle.shape_data.specs.declared.answer.Key.{Key}
use Rattle.shape_data.specs.Names.{IsCName}
use Rattle.shape_data.specs.WellFormed.{AreKeyProcs, AreParams, AreStructs, IsFlow, IsStruct}
use Rattle.flow_json.specs.Flows.{read_flow, FlowIsText}
use Rattle.flow_json.specs.Forms.{go_on, read_list}
use Rattle.flow_json.specs.Types.{StructIsText}
use Rattle.flow_json.specs.Unread.{IsUnread}
use Rattle.flow_json.specs.declared.unread.Unread.{Unread}
use Rattle.flow_json.specs.declared.unread.Unread.TheVariants.{NotOfForm, OutOfMemory}
use Rattle.flow_json.proofs.InverseLemmas.{go_on_some, some_is}
use Rattle.flow_json.proofs.TextLaws.{flow_is_text, struct_is_text}
use Rattle.summary_json.specs.Keys.{key_members, read_callee}
use Rattle.summary_json.specs.Unfit.{IsUnfit}

pub no_params : AreParams []
no_params = record { few = omega arith; names = All-nil IsCName; different = λ i j d below within. absurd (omega arith) }

pub structs_are_texts : (structs : List StructDef) → AreStructs structs → All StructIsText structs
structs_are_texts structs are = All-weaker IsStruct StructIsText struct_is_text structs are.each

pub procs_are_texts : (structs : List StructDef) (flows : List Flow) → AreStructs structs → AreKeyProcs structs flows → All FlowIsText flows
procs_are_texts structs flows are procs = All-weaker (IsFlow structs) FlowIsText
    (λ flow is. flow_is_text structs flow are is) flows procs.each

-- where nothing is read, no key is
pub unfit : (fault : Unread) (outcome : Option Key) → IsUnread fault outcome → IsUnfit fault outcome
unfit NotOfForm outcome none = λ key is are. let never : None ≡ Some key = sym none ∙ is in cc
unfit OutOfMemory outcome none = tt

-- a key over structures has these
key_structs : (structs : List StructDef) (d : Data) (key : Key) → key_members structs d ≡ Some key → structs ≡ key.structs
key_structs structs d key is =
    let r0 = go_on_some (go_on (get (codes "callees") d) (read_list (read_callee structs)))
    (λ callees. go_on (go_on (get (codes "procs") d) (read_list read_flow))
    (λ procs. go_on (go_on (get (codes "recursive") d) as_bool) (λ recursive. Some
    (record { recursive = recursive; procs = procs; structs = structs; callees = callees })))) key is in
    let r1 = go_on_some (go_on (get (codes "procs") d) (read_list read_flow))
    (λ procs. go_on (go_on (get (codes "recursive") d) as_bool) (λ recursive. Some
    (record { recursive = recursive; procs = procs; structs = structs; callees = r0.0 }))) key r0.2 in
    let r2 = go_on_some (go_on (get (codes "recursive") d) as_bool) (λ recursive. Some
    (record { recursive = recursive; procs = r1.0; structs = structs; callees = r0.0 })) key r1.2 in
    ap (λ (one : Key). one.structs) (some_is (record { recursive = r2.0; procs = r1.0; structs = structs; callees = r0.0 }) key r2.2)

-- where the structures are not well formed, no key over them is
pub unformed : (structs : List StructDef) (d : Data) → (AreStructs structs → ⊥) → IsUnfit NotOfForm (key_members structs d)
unformed structs d never key is are = never (subst AreStructs (sym (key_structs structs d key is)) are)
