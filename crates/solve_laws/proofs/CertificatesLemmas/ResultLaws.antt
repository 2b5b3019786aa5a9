-- What comes to a node or an exit is well formed where what is given is.
use Rattle.std.specs.Prelude.{◌≡◌, ℕ, ◌+◌, ◌-◌, ◌*◌, ◌≤◌, pos, List, [], ◌∷◌, ◌++◌, length, replicate, All}
use Rattle.std.specs.Option.{option_and_then}
use Rattle.std.specs.declared.option.Option.{Option}
use Rattle.std.specs.declared.option.Option.TheVariants.{None, Some}
use Rattle.std.proofs.Common.{refl, subst, arith}
use Rattle.std.proofs.lemmas.Bool.{lt-ltb}
use Rattle.std.proofs.lemmas.List.{length-append, length-replicate}
use Rattle.std.proofs.lemmas.List.Elements.{All-append, All-cons, All-head, All-nil, All-replicate}
use Rattle.shape_data.specs.declared.program.HeadMark.{HeadMark}
use Rattle.shape_data.specs.declared.program.StructDef.{StructDef}
use Rattle.shape_data.specs.declared.symbolic.Exp.{Exp}
use Rattle.shape_data.specs.declared.symbolic.Exp.TheVariants.{Var, Const}
use Rattle.shape_data.specs.declared.symbolic.Post.{Post}
use Rattle.shape_data.specs.declared.symbolic.SymHeap.{SymHeap}
use Rattle.shape_data.specs.declared.symbolic.SymState.{SymState}
use Rattle.shape_data.specs.WellFormed.{AreStructs, IsExp, IsFlow, IsPost, IsState, IsSymHeap, Limits, widest}
use Rattle.sym_pure.proofs.WellFormedLaws.{form_is_well_formed}
use Rattle.sym_canon.specs.Canonical.{as_state, canon_state}
use Rattle.sym_forms.specs.Sizes.{fields_in, most_exps}
use Rattle.sym_forms.proofs.WellFormedLaws.{canon_state_is_well_formed}
use Rattle.abstraction_laws.specs.Heads.{post_of, result_of}
use Rattle.abstraction_laws.proofs.NormalResults.{made-of}
use Rattle.abstraction_laws.proofs.RoomLaws.{few-fields}
use Rattle.abstraction_laws.proofs.WellFormedResults.{abstract_exit_is_well_formed, abstract_head_is_well_formed}
use Rattle.sound_laws.specs.Certificates.{start_state, variables_from}
use Rattle.solve_laws.specs.Certificates.Coming.{Task, at_mark, at_node, mark_at, start_form}
use Rattle.solve_laws.specs.Certificates.Results.{AtExitIsWellFormed, AtNodeIsWellFormed, NormalPostIsWellFormed, NormalStateIsWellFormed}
use Rattle.solve_laws.specs.Certificates.Results.{StartAtNodeIsWellFormed, StartIsWellFormed}

-- ---- normal forms

pub normal_state_is_well_formed : NormalStateIsWellFormed
normal_state_is_well_formed limits task params slots state form is h =
    let made = made-of (λ one. one) state form h in
    subst (IsState limits task.structs params slots) made.made
    (form_is_well_formed limits task.structs params slots state made.form made.form_is is)

as_one : (limits : Limits) (structs : List StructDef) (params : ℕ) (post : Post) → IsPost limits structs params post →
    IsState limits structs params 1 (as_state post)
as_one limits structs params post is =
    record { one_each = refl; locals = All-cons (IsExp limits params) post.ret [] is.ret (All-nil (IsExp limits params)); heap = is.heap }

result-fits : (limits : Limits) (params : ℕ) (other : Exp) (locals : List Exp) → IsExp limits params other →
    All (IsExp limits params) locals → IsExp limits params (result_of other locals)
result-fits limits params other [] is each = is
result-fits limits params other (e ∷ es) is each = All-head (IsExp limits params) e es each

pub normal_post_is_well_formed : NormalPostIsWellFormed
normal_post_is_well_formed limits task params post form is h =
    let made = made-of (post_of post.ret) (as_state post) form h in
    let fits =
    form_is_well_formed limits task.structs params 1 (as_state post) made.form made.form_is (as_one limits task.structs params post is) in
    subst (IsPost limits task.structs params) made.made
    (record { ret = result-fits limits params post.ret made.form.locals is.ret fits.locals; heap = fits.heap })

-- ---- the start

variables-length : {A : Type 0} (k : ℕ) (params : List A) → length (variables_from k params) ≡ length params
variables-length k [] = refl
variables-length k (param ∷ params) =
    let later : length (variables_from (k + 1) params) ≡ length params = variables-length (k + 1) params in
    let goal : length (Var k ∷ variables_from (k + 1) params) ≡ length (param ∷ params) = omega (arith, later) in goal

variables-fit : {A : Type 0} (count k : ℕ) (params : List A) → k + length params ≤ 32768 →
    All (IsExp widest count) (variables_from k params)
variables-fit count k [] few = All-nil (IsExp widest count)
variables-fit count k (param ∷ params) few =
    All-cons (IsExp widest count) (Var k) (variables_from (k + 1) params) (lt-ltb k 2147483648 (omega (arith, few)))
    (variables-fit count (k + 1) params (omega (arith, few)))

pub start_is_well_formed : StartIsWellFormed
start_is_well_formed task pre are is_flow is_pre =
    let params = task.flow.params in
    let slots = task.flow.slots in
    let variables = variables_from 0 params in
    let zeros = replicate (length slots - length params) (Const (pos 0)) in
    let few : length params ≤ 32768 = is_flow.params.few in
    let less : length params ≤ length slots = is_flow.param_slots in
    let of_variables : length variables ≡ length params = variables-length 0 params in
    let of_zeros : length zeros ≡ length slots - length params = length-replicate (length slots - length params) (Const (pos 0)) in
    let of_both : length (variables ++ zeros) ≡ length variables + length zeros = length-append variables zeros in record {
      one_each = omega (arith, less, of_variables, of_zeros, of_both);
      locals = All-append (IsExp widest (length params)) variables zeros (variables-fit (length params) 0 params (omega (arith, few)))
          (All-replicate (IsExp widest (length params)) (length slots - length params) (Const (pos 0)) tt);
      heap = is_pre;
    }

-- ---- canonical forms

canon-fits : (structs : List StructDef) (params slots : ℕ) (state : SymState) → AreStructs structs → slots ≤ 32768 →
    IsState widest structs params slots state →
    IsState widest structs params slots (canon_state state params)
canon-fits structs params slots state are few is =
    let fields : fields_in state.heap.spatial ≤ length state.heap.spatial * 32768 =
    few-fields widest structs params are.each state.heap.spatial is.heap.atoms in
    let parts : length state.heap.pure + length state.heap.spatial ≤ 4000 = is.heap.parts in
    let one_each : length state.locals ≡ slots = is.one_each in
    let most : most_exps state ≤ 131200000 = omega (arith, fields, parts, one_each, few) in
    canon_state_is_well_formed widest widest structs params slots state
    (record {
      logical = λ x low is. is;
      numbered = λ place low. lt-ltb (65536 + place) 2147483648 (omega (arith, low, most));
      parts = omega arith;
    })
    is

pub start_form_is_well_formed : (task : Task) (pre : SymHeap) (form : SymState) → AreStructs task.structs → IsFlow task.structs task.flow →
    IsSymHeap widest task.structs (length task.flow.params) pre → start_form task.flow pre ≡ Some form →
    IsState widest task.structs (length task.flow.params) (length task.flow.slots) form
start_form_is_well_formed task pre form are is_flow is_pre h =
    let params = length task.flow.params in
    let slots = length task.flow.slots in
    let start = start_state task.flow pre in
    let made = made-of (λ one. canon_state one params) start form h in
    subst (IsState widest task.structs params slots) made.made
    (canon-fits task.structs params slots made.form are is_flow.slots
    (form_is_well_formed widest task.structs params slots start made.form made.form_is (start_is_well_formed task pre are is_flow is_pre)))

-- ---- at a node, and at an exit

at_mark_is_well_formed : (task : Task) (mark : Option HeadMark) (slots : ℕ) (state form : SymState) → AreStructs task.structs →
    slots ≤ 32768 →
    IsState widest task.structs (length task.flow.params) slots state → at_mark task mark state ≡ Some form →
    IsState widest task.structs (length task.flow.params) slots form
at_mark_is_well_formed task None slots state form are few is h =
    let same : state ≡ form = cc in
    subst (IsState widest task.structs (length task.flow.params) slots) same is
at_mark_is_well_formed task (Some mark) slots state form are few is h =
    abstract_head_is_well_formed task.structs task.structs slots state form task.flow mark are few is h

pub at_node_is_well_formed : AtNodeIsWellFormed
at_node_is_well_formed task at slots state form are few is h =
    at_mark_is_well_formed task (mark_at task.flow at) slots state form are few is h

pub start_at_node_is_well_formed : StartAtNodeIsWellFormed
start_at_node_is_well_formed task pre form are is_flow is_pre h = by_start (start_form task.flow pre) refl h
  where
    by_start : (o : Option SymState) → start_form task.flow pre ≡ o → option_and_then (at_node task 0) o ≡ Some form →
        IsState widest task.structs (length task.flow.params) (length task.flow.slots) form
    by_start None e k = cc
    by_start (Some start) e k =
        at_node_is_well_formed task 0 (length task.flow.slots) start form are is_flow.slots
        (start_form_is_well_formed task pre start are is_flow is_pre e) k

pub at_exit_is_well_formed : AtExitIsWellFormed
at_exit_is_well_formed task post form are is h =
    abstract_exit_is_well_formed task.structs task.structs post form task.flow task.recursive are is h
