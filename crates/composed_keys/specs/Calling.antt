-- Who calls one of some procedures.
use Rattle.std.specs.Prelude.{ℕ, Bool, false, nat_eq, List}
use Rattle.std.specs.List.{list_any}
use Rattle.std.specs.Cmp.Lexicographic.{pointwise}
use Rattle.shape_data.specs.declared.program.Cmd.{Cmd}
use Rattle.shape_data.specs.declared.program.Cmd.TheVariants as cmd
use Rattle.shape_data.specs.declared.program.Flow.{Flow}

-- one of the procedures has the name
abbrev pub names_any : List Flow → List ℕ → Bool
names_any flows name = list_any (λ (flow : Flow). pointwise nat_eq flow.name name) flows

-- the command calls one of the procedures
abbrev pub calls_any : List Flow → Cmd → Bool
calls_any flows (cmd.Call to callee args next) = names_any flows callee
calls_any flows _ = false
