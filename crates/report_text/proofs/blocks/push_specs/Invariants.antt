use Rattle.std.proofs.Common.{◌≡◌, ◌++◌, take}
use Rattle.std.specs.List.{flat_map}
use Rattle.report_text.specs.Report.{spec_lines}
use Rattle.report_text.proofs.blocks.push_specs.Given as goal

-- the lines of the specs so far were appended
abbrev pub invariant-loop-spec : goal.invariant-loop-spec
invariant-loop-spec l = l.text.items ≡ l.fn.text.items ++ flat_map (spec_lines l.structs l.params l.ty) (take l.spec-index l.specs)
