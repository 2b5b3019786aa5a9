-- Callees and keys are read as they were written, and only so.
use Rattle.std.specs.Prelude.{◌≡◌, ℕ, Bool, codes, List, [], ◌∷◌, All}
use Rattle.std.specs.declared.option.Option.TheVariants.{Some}
use Rattle.std.proofs.Common.{refl, sym, ap, ◌∙◌, subst}
use Rattle.serde_json.specs.Data.{Data, string}
use Rattle.serde_json.specs.Find.{as_bool}
use Rattle.shape_data.specs.declared.program.Flow.{Flow}
use Rattle.shape_data.specs.declared.program.StructDef.{StructDef}
use Rattle.shape_data.specs.declared.symbolic.Spec.{Spec}
use Rattle.shape_data.specs.declared.answer.Callee.{Callee}
use Rattle.shape_data.specs.declared.answer.Key.{Key}
use Rattle.shape_data.specs.WellFormed.{AreStructs}
use Rattle.flow_json.specs.Flows.{flow_data, read_flow}
use Rattle.flow_json.specs.Forms.{flag_data, go_on, list_data, read_list, read_name, tuple}
use Rattle.flow_json.specs.Laws.{FlowFits, IsInverse, IsName, StructFits}
use Rattle.flow_json.specs.Types.{read_struct, struct_data}
use Rattle.flow_json.proofs.FlowLaws.{at_some, flow_inverse}
use Rattle.flow_json.proofs.InverseLemmas.{cons_is, flag_inverse, go_on_is, go_on_some, last_is, list_back, list_inverse, name_inverse}
use Rattle.flow_json.proofs.InverseLemmas.{some_is}
use Rattle.flow_json.proofs.TypeLaws.{of_parts, struct_inverse}
use Rattle.summary_json.specs.Keys.{callee_data, callee_parts, key_data, key_members, read_callee, read_key, read_spec}
use Rattle.summary_json.specs.Keys.{spec_data, whole_key}
use Rattle.summary_json.specs.Params.{read_params}
use Rattle.summary_json.proofs.ObjectLaws.{four_members, read_of_four}
use Rattle.summary_json.proofs.ParamLaws.{ParamsAreRead, params_inverse}
use Rattle.summary_json.proofs.ScopedLaws.{SpecIsRead, specs_inverse}

-- ---- callees

-- what is read as a callee
abbrev pub CalleeIsRead : List StructDef → Callee → Type 0
CalleeIsRead structs callee = IsName callee.name × ParamsAreRead callee.params × All (SpecIsRead structs callee.params) callee.specs

abbrev callee_of : List ℕ → List (List ℕ) → List Spec → Callee
callee_of name params specs = record { name = name; params = params; specs = specs }

module _ (structs : List StructDef) (are_structs : AreStructs structs) where
  callee_back : (callee : Callee) → CalleeIsRead structs callee → read_callee structs (callee_data structs callee) ≡ Some callee
  callee_back callee fits =
      go_on_is _ _ _ _ (list_back (string callee.name ∷ list_data string callee.params ∷ list_data
      (spec_data structs callee.params) callee.specs ∷ []))
      (go_on_is _ _ callee.name _ (name_inverse.back callee.name fits.0)
      (go_on_is _ _ callee.params _ (params_inverse.back callee.params fits.1)
      (go_on_is _ _ callee.specs _ ((specs_inverse structs callee.params are_structs fits.1.1).back callee.specs fits.2) refl)))

  callee_only : (ds : List Data) (callee : Callee) → callee_parts structs ds ≡ Some callee →
      (callee_data structs callee ≡ tuple ds) × CalleeIsRead structs callee
  callee_only (name ∷ params ∷ specs ∷ []) callee is =
      let r0 = go_on_some (read_name name) (λ one. go_on (read_params params)
      (λ ps. go_on (read_list (read_spec structs ps) specs) (λ all. Some (callee_of one ps all)))) callee is in
      let e0 = name_inverse.only name r0.0 r0.1 in
      let r1 = go_on_some (read_params params) (λ ps. go_on (read_list (read_spec structs ps) specs)
      (λ all. Some (callee_of r0.0 ps all))) callee r0.2 in
      let e1 = params_inverse.only params r1.0 r1.1 in
      let r2 = go_on_some (read_list (read_spec structs r1.0) specs) (λ all. Some (callee_of r0.0 r1.0 all)) callee r1.2 in
      let e2 = (specs_inverse structs r1.0 are_structs e1.1.1).only specs r2.0 r2.1 in
      let same : callee_of r0.0 r1.0 r2.0 ≡ callee = some_is _ callee r2.2 in
      subst (λ one. (callee_data structs one ≡ tuple (name ∷ params ∷ specs ∷ [])) × CalleeIsRead structs one) same
      (ap tuple (cons_is e0.0 (cons_is e1.0 (last_is e2.0))), (e0.1, e1.1, e2.1))
  callee_only _ callee is = cc

  callee_inverse : IsInverse (CalleeIsRead structs) (callee_data structs) (read_callee structs)
  callee_inverse = record {
    back = callee_back;
    only = of_parts (CalleeIsRead structs) (callee_data structs)
        (callee_parts structs) callee_only;
  }

  callees_inverse : IsInverse (All (CalleeIsRead structs)) (list_data (callee_data structs)) (read_list (read_callee structs))
  callees_inverse = list_inverse (CalleeIsRead structs) (callee_data structs) (read_callee structs) callee_inverse

-- ---- keys

structs_inverse : IsInverse (All StructFits) (list_data struct_data) (read_list read_struct)
structs_inverse = list_inverse StructFits struct_data read_struct struct_inverse

flows_inverse : IsInverse (All FlowFits) (list_data flow_data) (read_list read_flow)
flows_inverse = list_inverse FlowFits flow_data read_flow flow_inverse

-- what is read as a key
pub record KeyIsRead (key : Key) : Type 0 where
  pub structs : All StructFits key.structs
  pub procs : All FlowFits key.procs
  pub callees : All (CalleeIsRead key.structs) key.callees

abbrev key_of : Bool → List Flow → List StructDef → List Callee → Key
key_of recursive procs structs callees = record { recursive = recursive; procs = procs; structs = structs; callees = callees }

pub key_back : (key : Key) → KeyIsRead key → AreStructs key.structs → read_key (key_data key) ≡ Some key
key_back key fits are =
    go_on_is _ _ key.structs _ (go_on_is _ _ (list_data struct_data key.structs) _ refl (structs_inverse.back key.structs fits.structs)) (
    go_on_is _ _ key.callees _ (go_on_is _ _ (list_data (callee_data key.structs) key.callees) _ refl
    ((callees_inverse key.structs are).back key.callees fits.callees)) (
    go_on_is _ _ key.procs _ (go_on_is _ _ (list_data flow_data key.procs) _ refl (flows_inverse.back key.procs fits.procs)) (
    go_on_is _ _ key.recursive _ (go_on_is _ _ (flag_data key.recursive) _ refl (flag_inverse.back key.recursive tt)) refl)))

abbrev key_object : Data → Data → Data → Data → Data
key_object callees procs recursive structs = four_members (codes "callees") (codes "procs") (codes "recursive")
    (codes "structs") callees procs recursive structs

key_only_of : (callees procs recursive structs : Data) (key : Key) → whole_key (key_object callees procs recursive structs) ≡ Some key →
    AreStructs key.structs →
    (key_data key ≡ key_object callees procs recursive structs) × KeyIsRead key
key_only_of callees procs recursive structs key is are =
    let r0 = go_on_some (go_on (Some structs) (read_list read_struct)) (λ defs. key_members defs
    (key_object callees procs recursive structs)) key is in
    let e0 = structs_inverse.only structs r0.0 (at_some structs (read_list read_struct) r0.0 r0.1) in
    let r1 = go_on_some (go_on (Some callees) (read_list (read_callee r0.0)))
    (λ all. go_on (go_on (Some procs) (read_list read_flow)) (λ flows. go_on (go_on (Some recursive) as_bool)
    (λ flag. Some (key_of flag flows r0.0 all)))) key r0.2 in
    let r2 = go_on_some (go_on (Some procs) (read_list read_flow)) (λ flows. go_on (go_on (Some recursive) as_bool)
    (λ flag. Some (key_of flag flows r0.0 r1.0))) key r1.2 in
    let e2 = flows_inverse.only procs r2.0 (at_some procs (read_list read_flow) r2.0 r2.1) in
    let r3 = go_on_some (go_on (Some recursive) as_bool) (λ flag. Some (key_of flag r2.0 r0.0 r1.0)) key r2.2 in
    let e3 = flag_inverse.only recursive r3.0 (at_some recursive as_bool r3.0 r3.1) in
    let same : key_of r3.0 r2.0 r0.0 r1.0 ≡ key = some_is (key_of r3.0 r2.0 r0.0 r1.0) key r3.2 in
    let formed : AreStructs r0.0 = subst (λ (one : Key). AreStructs one.structs) (sym same) are in
    let e1 = (callees_inverse r0.0 formed).only callees r1.0 (at_some callees (read_list (read_callee r0.0)) r1.0 r1.1) in
    subst (λ one. (key_data one ≡ key_object callees procs recursive structs) × KeyIsRead one) same
    (rw (e0.0, e1.0, e2.0, e3.0) refl, record { structs = e0.1; procs = e2.1; callees = e1.1 })

pub key_only : (d : Data) (key : Key) → read_key d ≡ Some key → AreStructs key.structs → (key_data key ≡ d) × KeyIsRead key
key_only d key is are =
    let shape = read_of_four (codes "callees") (codes "procs") (codes "recursive") (codes "structs") whole_key d key is in
    let one = key_only_of shape.0 shape.1 shape.2 shape.3 key shape.5 are in
    (one.0 ∙ sym shape.4, one.1)
