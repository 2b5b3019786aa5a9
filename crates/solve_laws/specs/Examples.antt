-- Answers by hand: of a procedure that reads a field, of some that have no spec, and of one that calls itself.
use Rattle.std.specs.Prelude.{false, List, [], ◌∷◌, map}
use Rattle.std.specs.declared.option.Option.TheVariants.{Some}
use Rattle.shape_data.specs.declared.answer.Answer.{Answer}
use Rattle.shape_data.specs.declared.answer.ProcSummary.{ProcSummary}
use Rattle.shape_data.specs.declared.answer.Reason.{Reason}
use Rattle.shape_data.specs.declared.program.Cmd.TheVariants as cmd
use Rattle.shape_data.specs.declared.program.Flow.{Flow}
use Rattle.shape_data.specs.declared.program.Operand.TheVariants.{Slot}
use Rattle.shape_data.specs.declared.program.Ty.TheVariants.{Int, Ptr}
use Rattle.shape_data.specs.declared.symbolic.Exp.TheVariants.{Var}
use Rattle.shape_data.specs.declared.symbolic.Spec.{Spec}
use Rattle.shape_data.specs.declared.symbolic.SymHeap.{SymHeap}
use Rattle.sym_parts.specs.Shapes.Examples.{node_name, on_line}
use Rattle.exec_laws.specs.Examples.{post, spec}
use Rattle.solve_laws.specs.Certificates.Examples.{whole_list}
use Rattle.solve_laws.specs.Candidates.Examples.{last_node, null_heap}

-- the answer for one procedure without a spec, for this reason
abbrev pub answer_without : Flow → Reason → Answer
answer_without flow why = record {
  stored = false;
  procs = record { name = flow.name; specs = []; certs = []; reason = Some why } ∷ [];
}

-- the specs of an answer
abbrev pub specs_of_all : Answer → List (List Spec)
specs_of_all answer = map (λ (summary : ProcSummary). summary.specs) answer.procs

-- FOREVER
-- `int forever(struct node *x) {`
-- `return forever(x);`
-- `}`
abbrev pub forever_flow : Flow
forever_flow = record {
  name = 102 ∷ 111 ∷ 114 ∷ 101 ∷ 118 ∷ 101 ∷ 114 ∷ [];
  params = (120 ∷ []) ∷ [];
  slots = Ptr node_name ∷ Int ∷ [];
  ret = Int;
  nodes =
      on_line 2 (cmd.Call (Some 1) (102 ∷ 111 ∷ 114 ∷ 101 ∷ 118 ∷ 101 ∷ 114 ∷ []) (Slot 0 ∷ []) 1) ∷ on_line 2 (cmd.Return (Slot 1)) ∷ [];
}

-- the heap stays, and the result is some number, which is the existential variable 65,536
abbrev pub some_number : SymHeap → Spec
some_number pre = spec pre (post (Var 65536) pre ∷ [])

-- the length of the empty list, of one node, and of a list
abbrev pub length_specs : List Spec
length_specs = some_number null_heap ∷ some_number last_node ∷ some_number whole_list ∷ []
