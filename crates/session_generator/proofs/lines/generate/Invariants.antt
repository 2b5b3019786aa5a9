use Rattle.std.proofs.Common.{◌≡◌, ◌++◌}
use Rattle.session_generator.specs.Generated.{proc_lines, structure_line}
use Rattle.session_generator.proofs.lines.generate.Given as goal

-- the procedures so far stand behind the structure
abbrev pub invariant-loop-number : goal.invariant-loop-number
invariant-loop-number l = l.text.items ≡ structure_line ++ proc_lines l.number
