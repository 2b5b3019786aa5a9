-- Marks by place, and nodes that get them.
use Rattle.std.specs.Prelude.{ℕ, suc, Option, List, [], ◌∷◌}
use Rattle.shape_data.specs.declared.program.HeadMark.{HeadMark}
use Rattle.shape_data.specs.declared.program.Node.{Node}
use Rattle.shape_data.specs.declared.program.Ty.{Ty}
use Rattle.c_lower_rules.specs.Code.{Loop}
use Rattle.c_lower_rules.specs.Marks.{loops_at, mark_by}

-- the marks of the nodes that are left, from a place on
abbrev pub marks_from : List Ty → List Node → List Loop → ℕ → List Node → List (Option HeadMark)
marks_from slots nodes loops place [] = []
marks_from slots nodes loops place (first ∷ others) =
    mark_by slots nodes (loops_at place loops) ∷ marks_from slots nodes loops (suc place) others

-- the first nodes with these marks, the others as they are
abbrev pub with_marks : List (Option HeadMark) → List Node → List Node
with_marks (mark ∷ marks) (node ∷ nodes) = record node { head = mark } ∷ with_marks marks nodes
with_marks _ nodes = nodes
