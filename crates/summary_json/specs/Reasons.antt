-- The JSON forms of faults, budgets and reasons.
use Rattle.std.specs.Prelude.{ℕ, if◌then◌else◌, codes, List, [], ◌∷◌}
use Rattle.std.specs.Str.{bytes_eq}
use Rattle.std.specs.declared.option.Option.{Option}
use Rattle.std.specs.declared.option.Option.TheVariants.{None, Some}
use Rattle.serde_json.specs.Data.{Data, string}
use Rattle.serde_json.specs.Find.{as_str}
use Rattle.shape_data.specs.declared.answer.Budget.{Budget}
use Rattle.shape_data.specs.declared.answer.Budget.TheVariants as budget
use Rattle.shape_data.specs.declared.answer.Fault.{Fault}
use Rattle.shape_data.specs.declared.answer.Fault.TheVariants as fault
use Rattle.shape_data.specs.declared.answer.Reason.{Reason}
use Rattle.shape_data.specs.declared.answer.Reason.TheVariants as reason
use Rattle.flow_json.specs.Forms.{as_list, count_data, go_on, read_count, tuple}

-- a fault: its word, as in a report
abbrev pub fault_data : Fault → Data
fault_data fault.Null = string (codes "null")
fault_data fault.Unowned = string (codes "unowned")
fault_data fault.Kind = string (codes "struct")
fault_data fault.Callee = string (codes "callee")
fault_data fault.Cover = string (codes "cover")
fault_data fault.Alias = string (codes "alias")
fault_data fault.States = string (codes "states")
fault_data fault.Parts = string (codes "parts")
fault_data fault.Turns = string (codes "turns")

-- the faults of the analysis alone
abbrev pub limit_fault : List ℕ → Option Fault
limit_fault word =
    if bytes_eq word (codes "cover") then Some fault.Cover
    else (if bytes_eq word (codes "alias") then Some fault.Alias
    else (if bytes_eq word (codes "states") then Some fault.States
    else (if bytes_eq word (codes "parts") then Some fault.Parts
    else (if bytes_eq word (codes "turns") then Some fault.Turns else None))))

abbrev pub fault_of : List ℕ → Option Fault
fault_of word =
    if bytes_eq word (codes "null") then Some fault.Null
    else (if bytes_eq word (codes "unowned") then Some fault.Unowned
    else (if bytes_eq word (codes "struct") then Some fault.Kind
    else (if bytes_eq word (codes "callee") then Some fault.Callee else limit_fault word)))

abbrev pub read_fault : Data → Option Fault
read_fault d = go_on (as_str d) fault_of

-- a budget: its word, as in a report
abbrev pub budget_data : Budget → Data
budget_data budget.Turns = string (codes "turns")
budget_data budget.States = string (codes "states")
budget_data budget.Parts = string (codes "parts")
budget_data budget.Rounds = string (codes "rounds")

abbrev pub budget_of : List ℕ → Option Budget
budget_of word =
    if bytes_eq word (codes "turns") then Some budget.Turns
    else (if bytes_eq word (codes "states") then Some budget.States
    else (if bytes_eq word (codes "parts") then Some budget.Parts
    else (if bytes_eq word (codes "rounds") then Some budget.Rounds else None)))

abbrev pub read_budget : Data → Option Budget
read_budget d = go_on (as_str d) budget_of

-- a reason: `["no-path",line,KIND]`, `["endless"]`, `["failed",line,KIND]`, `["spent",WHAT,count]`
abbrev pub reason_data : Reason → Data
reason_data (reason.NoPath cause line) = tuple (string (codes "no-path") ∷ count_data line ∷ fault_data cause ∷ [])
reason_data reason.Endless = tuple (string (codes "endless") ∷ [])
reason_data (reason.Failed cause line) = tuple (string (codes "failed") ∷ count_data line ∷ fault_data cause ∷ [])
reason_data (reason.Spent what count) = tuple (string (codes "spent") ∷ budget_data what ∷ count_data count ∷ [])

-- what stands behind the word of each
abbrev pub no_path_parts : List Data → Option Reason
no_path_parts (line ∷ cause ∷ []) = go_on (read_count line) (λ line. go_on (read_fault cause) (λ cause. Some (reason.NoPath cause line)))
no_path_parts _ = None

abbrev pub endless_parts : List Data → Option Reason
endless_parts [] = Some reason.Endless
endless_parts _ = None

abbrev pub failed_parts : List Data → Option Reason
failed_parts (line ∷ cause ∷ []) = go_on (read_count line) (λ line. go_on (read_fault cause) (λ cause. Some (reason.Failed cause line)))
failed_parts _ = None

abbrev pub spent_parts : List Data → Option Reason
spent_parts (what ∷ count ∷ []) = go_on (read_budget what) (λ what. go_on (read_count count) (λ count. Some (reason.Spent what count)))
spent_parts _ = None

abbrev pub reason_of : List Data → List ℕ → Option Reason
reason_of parts word =
    if bytes_eq word (codes "no-path") then no_path_parts parts
    else (if bytes_eq word (codes "endless") then endless_parts parts
    else (if bytes_eq word (codes "failed") then failed_parts parts
    else (if bytes_eq word (codes "spent") then spent_parts parts else None)))

abbrev pub reason_parts : List Data → Option Reason
reason_parts [] = None
reason_parts (tag ∷ parts) = go_on (as_str tag) (reason_of parts)

abbrev pub read_reason : Data → Option Reason
read_reason d = go_on (as_list d) reason_parts
