-- The specs that calls may use while a component is solved: some for its own procedures, and those of the key's callees.
use Rattle.std.specs.Prelude.{Bool, ◌&&◌, List, [], ◌∷◌}
use Rattle.std.specs.Cmp.Lexicographic.{pointwise}
use Rattle.shape_data.specs.declared.answer.Callee.{Callee}
use Rattle.shape_data.specs.declared.answer.Key.{Key}
use Rattle.shape_data.specs.declared.program.Flow.{Flow}
use Rattle.shape_data.specs.declared.symbolic.Spec.{Spec}
use Rattle.exec_laws.specs.declared.parts.Table.{Table}
use Rattle.solve_laws.specs.Certificates.Coming.{Task}
use Rattle.solve_laws.specs.Certificates.Sameness.{same_heap, same_post}

-- a procedure with specs, as a callee
abbrev pub with_specs : Flow → List Spec → Callee
with_specs flow specs = record { name = flow.name; params = flow.params; specs = specs }

-- the procedures of a key with the specs of each, in their order; those for which there are none given are left out
abbrev pub own_with : List Flow → List (List Spec) → List Callee
own_with [] specs = []
own_with (flow ∷ flows) [] = []
own_with (flow ∷ flows) (one ∷ specs) = with_specs flow one ∷ own_with flows specs

-- the table of a key with these own specs, cut or strict
abbrev pub table_with : Key → List (List Spec) → Bool → Table
table_with key specs cut = record { own = own_with key.procs specs; outer = key.callees; cut = cut }

-- the analysis of a procedure of a key under a table
abbrev pub task_under : Key → Table → Flow → Task
task_under key table flow = record { flow = flow; structs = key.structs; table = table; recursive = key.recursive }

-- SAMENESS

-- the two specs are the same
abbrev pub same_spec : Spec → Spec → Bool
same_spec a b = same_heap a.pre b.pre && pointwise same_post a.posts b.posts

-- the same specs for each procedure
abbrev pub same_specs : List (List Spec) → List (List Spec) → Bool
same_specs a b = pointwise (pointwise same_spec) a b
