-- The JSON forms of certificates, summaries and answers.
use Rattle.std.specs.Prelude.{ℕ, codes, true, List, [], ◌∷◌}
use Rattle.std.specs.declared.option.Option.{Option}
use Rattle.std.specs.declared.option.Option.TheVariants.{None, Some}
use Rattle.serde_json.specs.Data.{Data, string, object, member, no_members}
use Rattle.serde_json.specs.Find.{get}
use Rattle.shape_data.specs.declared.program.Flow.{Flow}
use Rattle.shape_data.specs.declared.program.StructDef.{StructDef}
use Rattle.shape_data.specs.declared.symbolic.Cert.{Cert}
use Rattle.shape_data.specs.declared.symbolic.SymState.{SymState}
use Rattle.shape_data.specs.declared.answer.Answer.{Answer}
use Rattle.shape_data.specs.declared.answer.Key.{Key}
use Rattle.shape_data.specs.declared.answer.ProcSummary.{ProcSummary}
use Rattle.flow_json.specs.Forms.{as_list, go_on, list_data, option_data, read_list, read_name, read_object, read_option, tuple}
use Rattle.summary_json.specs.Keys.{read_spec, spec_data}
use Rattle.summary_json.specs.Reasons.{read_reason, reason_data}
use Rattle.summary_json.specs.Texts.{exp_data, heap_data, post_data, read_exp_data, read_heap, read_post}

-- a state: `{"heap":text,"locals":[EXP]}`
abbrev pub state_data : List StructDef → List (List ℕ) → SymState → Data
state_data structs params state =
    object (member (codes "heap") (heap_data structs params state.heap)
    (member (codes "locals") (list_data (exp_data params) state.locals) no_members))

abbrev pub state_names : List (List ℕ)
state_names = codes "heap" ∷ codes "locals" ∷ []

abbrev pub state_members : List StructDef → List (List ℕ) → Data → Option SymState
state_members structs params d =
    go_on (go_on (get (codes "heap") d) (read_heap structs params)) (λ heap.
    go_on (go_on (get (codes "locals") d) (read_list (read_exp_data params))) (λ locals.
    Some (record { locals = locals; heap = heap })))

abbrev pub read_state : List StructDef → List (List ℕ) → Data → Option SymState
read_state structs params d = read_object state_names (state_members structs params) d

-- a certificate: `{"exits":[text],"nodes":[[state]]}`
abbrev pub cert_data : List StructDef → List (List ℕ) → Cert → Data
cert_data structs params cert =
    object (member (codes "exits") (list_data (post_data structs params) cert.exits)
    (member (codes "nodes") (list_data (list_data (state_data structs params)) cert.nodes) no_members))

abbrev pub cert_names : List (List ℕ)
cert_names = codes "exits" ∷ codes "nodes" ∷ []

abbrev pub cert_members : List StructDef → List (List ℕ) → Data → Option Cert
cert_members structs params d =
    go_on (go_on (get (codes "exits") d) (read_list (read_post structs params))) (λ exits.
    go_on (go_on (get (codes "nodes") d) (read_list (read_list (read_state structs params)))) (λ nodes.
    Some (record { nodes = nodes; exits = exits })))

abbrev pub read_cert : List StructDef → List (List ℕ) → Data → Option Cert
read_cert structs params d = read_object cert_names (cert_members structs params) d

-- a summary over its procedure's parameters: `{"certs":[cert],"name":NAME,"reason":reason,"specs":[spec]}`
abbrev pub summary_data : List StructDef → List (List ℕ) → ProcSummary → Data
summary_data structs params summary =
    object (member (codes "certs") (list_data (cert_data structs params) summary.certs)
    (member (codes "name") (string summary.name)
    (member (codes "reason") (option_data reason_data summary.reason)
    (member (codes "specs") (list_data (spec_data structs params) summary.specs) no_members))))

abbrev pub summary_names : List (List ℕ)
summary_names = codes "certs" ∷ codes "name" ∷ codes "reason" ∷ codes "specs" ∷ []

abbrev pub summary_members : List StructDef → List (List ℕ) → Data → Option ProcSummary
summary_members structs params d =
    go_on (go_on (get (codes "certs") d) (read_list (read_cert structs params))) (λ certs.
    go_on (go_on (get (codes "name") d) read_name) (λ name.
    go_on (go_on (get (codes "reason") d) (read_option read_reason)) (λ reason.
    go_on (go_on (get (codes "specs") d) (read_list (read_spec structs params))) (λ specs.
    Some (record { name = name; specs = specs; certs = certs; reason = reason })))))

abbrev pub read_summary : List StructDef → List (List ℕ) → Data → Option ProcSummary
read_summary structs params d = read_object summary_names (summary_members structs params) d

-- the summaries of procedures, one for each
abbrev pub summaries_data : List StructDef → List Flow → List ProcSummary → List Data
summaries_data structs [] summaries = []
summaries_data structs (flow ∷ flows) [] = []
summaries_data structs (flow ∷ flows) (summary ∷ summaries) =
    summary_data structs flow.params summary ∷ summaries_data structs flows summaries

abbrev pub read_summaries : List StructDef → List Flow → List Data → Option (List ProcSummary)
read_summaries structs [] [] = Some []
read_summaries structs [] (d ∷ ds) = None
read_summaries structs (flow ∷ flows) [] = None
read_summaries structs (flow ∷ flows) (d ∷ ds) =
    go_on (read_summary structs flow.params d) (λ summary.
    go_on (read_summaries structs flows ds) (λ summaries. Some (summary ∷ summaries)))

-- an answer for a key: `{"procs":[summary]}`, one summary for each procedure of the key; the mark `stored` is not written
abbrev pub answer_data : Key → Answer → Data
answer_data key answer = object (member (codes "procs") (tuple (summaries_data key.structs key.procs answer.procs)) no_members)

abbrev pub answer_names : List (List ℕ)
answer_names = codes "procs" ∷ []

-- what is read is marked `stored`
abbrev pub answer_members : Key → Data → Option Answer
answer_members key d =
    go_on (go_on (get (codes "procs") d) as_list) (λ items.
    go_on (read_summaries key.structs key.procs items) (λ procs.
    Some (record { stored = true; procs = procs })))

abbrev pub read_answer : Key → Data → Option Answer
read_answer key d = read_object answer_names (answer_members key) d
