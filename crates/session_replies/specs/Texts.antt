-- The lines of replies: that all is well, what is refused, and what is reported of a program.
use Rattle.std.specs.Prelude.{ℕ, nat_eq, nat_le, Bool, true, false, Option, Some, None, List, [], ◌++◌, codes, length, slice_get}
use Rattle.std.specs.Prelude.{if◌then◌else◌}
use Rattle.std.specs.List.{position}
use Rattle.std.specs.Cmp.Lexicographic.{pointwise}
use Rattle.std.specs.Fmt.{decimal}
use Rattle.shape_data.specs.declared.answer.ProcSummary.{ProcSummary}
use Rattle.shape_data.specs.declared.program.Proc.{Proc}
use Rattle.shape_data.specs.declared.program.Program.{Program}
use Rattle.shape_data.specs.declared.program.StructDef.{StructDef}
use Rattle.report_text.specs.Report.{block_text, line_of, none_count, report_of, total_text}
use Rattle.io_ports.specs.Places.{MOST_HELD}
use Rattle.claim_core.specs.Views.{Solution}
use Rattle.bottom_up.specs.BottomUp.{bottom_up, program_summaries}
use Rattle.store_json.specs.Texts.{store_text}
use Rattle.project_form.specs.declared.fault.Refused.{Refused}

-- `ok`
abbrev pub ok_line : List ℕ
ok_line = line_of (codes "ok")

-- `error CODE`
abbrev pub error_line : ℕ → List ℕ
error_line code = line_of (codes "error " ++ decimal code)

-- `refused FILE LINE CODE`
abbrev pub refused_line : Refused → List ℕ
refused_line refused = line_of (codes "refused " ++ refused.file ++ codes " " ++ decimal refused.line ++ codes " " ++ decimal refused.code)

-- `ok`, unless there is an error
abbrev pub put_line : Option ℕ → List ℕ
put_line None = ok_line
put_line (Some code) = error_line code

-- `ok` where a file was dropped, else the error that there is none
abbrev pub drop_line : Bool → List ℕ
drop_line true = ok_line
drop_line false = error_line 145

-- ONE PROCEDURE

-- the procedure has this name
abbrev pub is_named : List ℕ → Proc → Bool
is_named name proc = pointwise nat_eq proc.flow.name name

-- the block of a procedure with its summary
abbrev pub block_of : List StructDef → Option Proc → Option ProcSummary → List ℕ
block_of structs (Some proc) (Some summary) = block_text structs proc summary
block_of structs _ _ = []

-- the block of the procedure of a number; without a number the error that there is none
abbrev pub block_at : List Solution → Program → Option ℕ → List ℕ
block_at loaded program (Some number) =
    block_of program.structs (slice_get program.procs number) (slice_get (program_summaries loaded program) number)
block_at loaded program None = error_line 146

-- the block of the procedure of a name, or the error that the program defines none
abbrev pub block_named : List Solution → List ℕ → Program → List ℕ
block_named loaded name program = block_at loaded program (position (is_named name) program.procs)

-- ALL PROCEDURES

-- what is known of each procedure, in the order of the program, and the total line
abbrev pub program_report : List Solution → Program → List ℕ
program_report loaded program = report_of program.structs program.procs (program_summaries loaded program)

-- the total line alone
abbrev pub program_total : List Solution → Program → List ℕ
program_total loaded program = total_text (program_summaries loaded program)

-- how many procedures have no spec
abbrev pub program_missing : List Solution → Program → ℕ
program_missing loaded program = none_count (program_summaries loaded program)

-- THE STORE

-- the bytes of a store with what is known of all components, callees first
abbrev pub program_store : List Solution → Program → List ℕ
program_store loaded program = store_text (bottom_up loaded program)

-- bytes that a store may have: no more than a keeper reads again
abbrev pub unless_too_long : List ℕ → Option (List ℕ)
unless_too_long bytes = if nat_le (length bytes) MOST_HELD then Some bytes else None

-- `ok` where a store may have the bytes, else the error that they are too many
abbrev pub stored_line : Option (List ℕ) → List ℕ
stored_line (Some bytes) = ok_line
stored_line None = error_line 148

-- the bytes that a store of a program has, unless they are too many
abbrev pub stored_program : List Solution → Program → Option (List ℕ)
stored_program loaded program = unless_too_long (program_store loaded program)

-- `ok`, or that they are too many
abbrev pub program_stored_line : List Solution → Program → List ℕ
program_stored_line loaded program = stored_line (stored_program loaded program)
