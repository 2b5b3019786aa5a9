-- What closes a body, and what was emitted when it is closed.
use Rattle.std.specs.Prelude.{◌≡◌, List, [], false, map, length, pos}
use Rattle.shape_data.specs.declared.program.Cmd.TheVariants as cmd
use Rattle.shape_data.specs.declared.program.Operand.TheVariants.{Slot, Num}
use Rattle.shape_data.specs.declared.program.TestOp.TheVariants as op
use Rattle.shape_data.specs.declared.program.Ty.{Ty}
use Rattle.shape_data.specs.declared.program.Ty.TheVariants.{Void}
use Rattle.c_grammar.specs.Trees.{Head}
use Rattle.c_types_rules.specs.Tables.{Tables}
use Rattle.c_lower_rules.specs.Code.{Code, command, ◌⨾◌, branch, choose, nothing}
use Rattle.c_lower_rules.specs.Contexts.{Context}
use Rattle.c_lower_rules.specs.Temporaries.{Temp, Taken, take_temp}
use Rattle.c_lower_rules.specs.Values.{Piece, slot_taken}
use Rattle.c_lower_rules.specs.Statements.{Lowered, stmts, stmts_kinds}
use Rattle.c_lower_rules.specs.Programs.{at_body, result_type, closed, temp_kind}
use Rattle.c_lower_emit.specs.Seen.{loop_seen}
use Rattle.c_types_names.specs.Seen.{type_seen}
use Rattle.c_tree.specs.Syntax.{BlockTree}
use Rattle.c_lower_emit.specs.declared.drafts.Label.{Label}
use Rattle.c_lower_emit.specs.Drafts.{at_start, laid}
use Rattle.c_lower_emit.specs.Emitting.{Out, EmitsCode}
use Rattle.c_lower_stmts.specs.Standing.{state}
use Rattle.c_lower.specs.declared.body.Body.{Body}

-- any value of the type is returned
abbrev pub value_closing : Context → Ty → Taken → Piece
value_closing c kind taken = record {
  code = command c.line (cmd.Any (slot_taken c taken) kind) ⨾ command c.line (λ next. cmd.Return (Slot (slot_taken c taken)));
  temps = taken.temps;
}

-- the code that closes a body: nothing is returned, or any value
abbrev pub closing : Ty → Context → List Temp → Piece
closing Void c temps = record { code = command c.line (λ next. cmd.Return (Num (pos 0))); temps = temps }
closing kind c temps = value_closing c kind (take_temp kind temps)

-- a body and what closes it, behind what was emitted
abbrev pub closed_body : Context → BlockTree → Out → Lowered
closed_body c block out = closed c.result block.end (stmts block.body (state c 0 out))

-- the body of a procedure and what closes it
abbrev pub closed_of : Tables → Head → BlockTree → Lowered
closed_of tables head block =
    closed (result_type tables head) block.end
    (stmts block.body (record { temps = []; locals = 0; context = at_body tables head (length (stmts_kinds tables block.body)) }))

-- a test that always holds
abbrev pub opening : Code
opening = choose (branch 0 op.Ne false (Num (pos 1)) (Num (pos 0))) nothing nothing

-- behind a test that always holds
abbrev pub behind_opening : Lowered → Lowered
behind_opening l = record l { code = opening ⨾ l.code }

-- nothing was emitted
abbrev pub no_out : Out
no_out = record { nodes = []; temps = []; loops = [] }

-- the piece was emitted, with temporaries of these types, and a run of it begins there
pub record Closes (l : Lowered) (begin : Label) (old new : Out) : Type 0 where
  pub emits : EmitsCode l.code new.temps begin old new
  pub temps : map temp_kind new.temps ≡ map temp_kind l.behind.temps

-- these are the nodes, loops and temporaries that were emitted
pub record IsFinished (out : Out) (found : Body) : Type 0 where
  pub nodes : found.nodes.items ≡ map (laid at_start) out.nodes
  pub loops : map loop_seen found.loops.items ≡ out.loops
  pub temps : map type_seen found.temps.items ≡ map temp_kind out.temps
