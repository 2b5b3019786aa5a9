-- The JSON forms of specs, callees and keys.
use Rattle.std.specs.Prelude.{ℕ, codes, List, [], ◌∷◌}
use Rattle.std.specs.declared.option.Option.{Option}
use Rattle.std.specs.declared.option.Option.TheVariants.{None, Some}
use Rattle.serde_json.specs.Data.{Data, string, object, member, no_members}
use Rattle.serde_json.specs.Find.{as_bool, get}
use Rattle.shape_data.specs.declared.program.StructDef.{StructDef}
use Rattle.shape_data.specs.declared.symbolic.Spec.{Spec}
use Rattle.shape_data.specs.declared.answer.Callee.{Callee}
use Rattle.shape_data.specs.declared.answer.Key.{Key}
use Rattle.flow_json.specs.Flows.{flow_data, read_flow}
use Rattle.flow_json.specs.Forms.{as_list, flag_data, go_on, list_data, read_list, read_name, read_object, tuple}
use Rattle.flow_json.specs.Types.{read_struct, struct_data}
use Rattle.summary_json.specs.Params.{read_params}
use Rattle.summary_json.specs.Texts.{heap_data, post_data, read_heap, read_post}

-- a spec: `{"posts":[text],"pre":text}`
abbrev pub spec_data : List StructDef → List (List ℕ) → Spec → Data
spec_data structs params spec =
    object (member (codes "posts") (list_data (post_data structs params) spec.posts)
    (member (codes "pre") (heap_data structs params spec.pre) no_members))

abbrev pub spec_names : List (List ℕ)
spec_names = codes "posts" ∷ codes "pre" ∷ []

abbrev pub spec_members : List StructDef → List (List ℕ) → Data → Option Spec
spec_members structs params d =
    go_on (go_on (get (codes "posts") d) (read_list (read_post structs params))) (λ posts.
    go_on (go_on (get (codes "pre") d) (read_heap structs params)) (λ pre.
    Some (record { pre = pre; posts = posts })))

abbrev pub read_spec : List StructDef → List (List ℕ) → Data → Option Spec
read_spec structs params d = read_object spec_names (spec_members structs params) d

-- a callee: `[NAME,[param],[spec]]`
abbrev pub callee_data : List StructDef → Callee → Data
callee_data structs callee =
    tuple (string callee.name ∷ list_data string callee.params ∷ list_data (spec_data structs callee.params) callee.specs ∷ [])

abbrev pub callee_parts : List StructDef → List Data → Option Callee
callee_parts structs (name ∷ params ∷ specs ∷ []) =
    go_on (read_name name) (λ name. go_on (read_params params) (λ params. go_on (read_list (read_spec structs params) specs) (λ specs.
    Some (record { name = name; params = params; specs = specs }))))
callee_parts structs _ = None

abbrev pub read_callee : List StructDef → Data → Option Callee
read_callee structs d = go_on (as_list d) (callee_parts structs)

-- a key: `{"callees":[callee],"procs":[flow],"recursive":flag,"structs":[structure]}`
abbrev pub key_data : Key → Data
key_data key =
    object (member (codes "callees") (list_data (callee_data key.structs) key.callees)
    (member (codes "procs") (list_data flow_data key.procs)
    (member (codes "recursive") (flag_data key.recursive)
    (member (codes "structs") (list_data struct_data key.structs) no_members))))

abbrev pub key_names : List (List ℕ)
key_names = codes "callees" ∷ codes "procs" ∷ codes "recursive" ∷ codes "structs" ∷ []

-- what stands beside the structures
abbrev pub key_members : List StructDef → Data → Option Key
key_members structs d =
    go_on (go_on (get (codes "callees") d) (read_list (read_callee structs))) (λ callees.
    go_on (go_on (get (codes "procs") d) (read_list read_flow)) (λ procs.
    go_on (go_on (get (codes "recursive") d) as_bool) (λ recursive.
    Some (record { recursive = recursive; procs = procs; structs = structs; callees = callees }))))

-- the structures come first, as the texts of heaps are over them
abbrev pub whole_key : Data → Option Key
whole_key d = go_on (go_on (get (codes "structs") d) (read_list read_struct)) (λ structs. key_members structs d)

abbrev pub read_key : Data → Option Key
read_key d = read_object key_names whole_key d
