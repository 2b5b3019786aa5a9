-- The lines of a report. The texts of expressions and symbolic heaps are those of `sym_text`.
use Rattle.std.specs.Prelude.{ℕ, ◌+◌, ◌==◌, Bool, true, false, if◌then◌else◌, Option, Some, None, List, [], ◌∷◌, ◌++◌, length, codes}
use Rattle.std.specs.List.{count_by, flat_map, list_any}
use Rattle.std.specs.Fmt.{decimal}
use Rattle.shape_data.specs.declared.answer.Budget.{Budget}
use Rattle.shape_data.specs.declared.answer.Budget.TheVariants as budget
use Rattle.shape_data.specs.declared.answer.Fault.{Fault}
use Rattle.shape_data.specs.declared.answer.Fault.TheVariants as fault
use Rattle.shape_data.specs.declared.answer.ProcSummary.{ProcSummary}
use Rattle.shape_data.specs.declared.answer.Reason.{Reason}
use Rattle.shape_data.specs.declared.answer.Reason.TheVariants as reason
use Rattle.shape_data.specs.declared.program.Proc.{Proc}
use Rattle.shape_data.specs.declared.program.StructDef.{StructDef}
use Rattle.shape_data.specs.declared.program.Ty.{Ty}
use Rattle.shape_data.specs.declared.program.Ty.TheVariants.{Int, Ptr, Void}
use Rattle.shape_data.specs.declared.symbolic.Atom.{Atom}
use Rattle.shape_data.specs.declared.symbolic.Atom.TheVariants.{Points, Seg, Junk}
use Rattle.shape_data.specs.declared.symbolic.Post.{Post}
use Rattle.shape_data.specs.declared.symbolic.Spec.{Spec}
use Rattle.shape_data.specs.declared.symbolic.SymHeap.{SymHeap}
use Rattle.sym_text.specs.Text.{heap_text, post_text}

-- a line is its bytes and a line feed
abbrev pub line_of : List ℕ → List ℕ
line_of bytes = bytes ++ (10 ∷ [])

-- SPECS

-- the procedure has a result: it is not void
abbrev pub has_result : Ty → Bool
has_result Int = true
has_result (Ptr kind) = true
has_result Void = false

-- the atom is `junk`
abbrev pub is_junk : Atom → Bool
is_junk (Points at kind fields) = false
is_junk (Seg kind link from to) = false
is_junk Junk = true

-- ` leak`, where a post has `junk`
abbrev pub leak_text : SymHeap → List ℕ
leak_text heap = if list_any is_junk heap.spatial then codes " leak" else []

-- ` post HEAP`, with ` ret=EXP` unless the procedure is void, and with ` leak` where the heap has `junk`
abbrev pub post_line : List StructDef → List (List ℕ) → Ty → Post → List ℕ
post_line structs params ty post = line_of (codes " post " ++ post_text structs params (has_result ty) post ++ leak_text post.heap)

-- ` pre HEAP`, and a line for each post
abbrev pub spec_lines : List StructDef → List (List ℕ) → Ty → Spec → List ℕ
spec_lines structs params ty spec =
    line_of (codes " pre " ++ heap_text structs params spec.pre) ++ flat_map (post_line structs params ty) spec.posts

-- REASONS

-- what went wrong, in a word
abbrev pub fault_text : Fault → List ℕ
fault_text fault.Null = codes "null"
fault_text fault.Unowned = codes "unowned"
fault_text fault.Kind = codes "struct"
fault_text fault.Callee = codes "callee"
fault_text fault.Cover = codes "cover"
fault_text fault.Alias = codes "alias"
fault_text fault.States = codes "states"
fault_text fault.Parts = codes "parts"
fault_text fault.Turns = codes "turns"

-- what was used up, in a word
abbrev pub budget_text : Budget → List ℕ
budget_text budget.Turns = codes "turns"
budget_text budget.States = codes "states"
budget_text budget.Parts = codes "parts"
budget_text budget.Rounds = codes "rounds"

-- why a procedure that begins on this line has no spec: a line is counted in the file
abbrev pub reason_text : ℕ → Reason → List ℕ
reason_text first (reason.NoPath fault line) = codes "no-path " ++ decimal (first + line) ++ codes " " ++ fault_text fault
reason_text first reason.Endless = codes "no-path endless"
reason_text first (reason.Failed fault line) = codes "failed " ++ decimal (first + line) ++ codes " " ++ fault_text fault
reason_text first (reason.Spent what count) = codes "spent " ++ budget_text what ++ codes " " ++ decimal count

-- ` none REASON`, where there is a reason
abbrev pub none_line : ℕ → Option Reason → List ℕ
none_line first None = []
none_line first (Some why) = line_of (codes " none " ++ reason_text first why)

-- BLOCKS

-- `PROC FILE LINE`
abbrev pub head_line : Proc → List ℕ
head_line proc = line_of (proc.flow.name ++ codes " " ++ proc.file ++ codes " " ++ decimal proc.line)

-- the lines of the specs, or without a spec the line of the reason
abbrev pub summary_lines : List StructDef → Proc → List Spec → Option Reason → List ℕ
summary_lines structs proc [] why = none_line proc.line why
summary_lines structs proc (spec ∷ specs) why = flat_map (spec_lines structs proc.flow.params proc.flow.ret) (spec ∷ specs)

-- the block of a procedure with these specs, or without one for this reason
abbrev pub block_with : List StructDef → Proc → List Spec → Option Reason → List ℕ
block_with structs proc specs why = head_line proc ++ summary_lines structs proc specs why

-- the block of a procedure with its summary
abbrev pub block_text : List StructDef → Proc → ProcSummary → List ℕ
block_text structs proc summary = block_with structs proc summary.specs summary.reason

-- TOTALS

-- no spec is printed of the procedure
abbrev pub has_no_spec : ProcSummary → Bool
has_no_spec summary = length summary.specs == 0

-- `total PROCS SPECS NONE`: procedures, specs, and procedures without a spec
abbrev pub total_line : ℕ → ℕ → ℕ → List ℕ
total_line procs specs none = line_of (codes "total " ++ decimal procs ++ codes " " ++ decimal specs ++ codes " " ++ decimal none)

-- how many specs the summaries have
abbrev pub spec_count : List ProcSummary → ℕ
spec_count summaries = length (flat_map (λ (summary : ProcSummary). summary.specs) summaries)

-- how many of the summaries have no spec
abbrev pub none_count : List ProcSummary → ℕ
none_count summaries = count_by has_no_spec summaries

-- the total line of summaries
abbrev pub total_text : List ProcSummary → List ℕ
total_text summaries = total_line (length summaries) (spec_count summaries) (none_count summaries)

-- REPORTS

-- the blocks of procedures, each with its summary, in order
abbrev pub blocks_text : List StructDef → List Proc → List ProcSummary → List ℕ
blocks_text structs [] summaries = []
blocks_text structs (proc ∷ procs) [] = []
blocks_text structs (proc ∷ procs) (summary ∷ summaries) = block_text structs proc summary ++ blocks_text structs procs summaries

-- a report: the blocks of all procedures, and the total line
abbrev pub report_of : List StructDef → List Proc → List ProcSummary → List ℕ
report_of structs procs summaries = blocks_text structs procs summaries ++ total_text summaries
