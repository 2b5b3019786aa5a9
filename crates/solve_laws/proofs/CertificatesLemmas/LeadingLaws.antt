-- Where a state or a post leads that comes to a node or an exit, or is in normal form, and is covered there.
use Rattle.std.specs.Prelude.{◌≡◌, ℕ, ℤ, List, [], ◌∷◌, length, map, All, IfSome}
use Rattle.std.specs.Option.{option_and_then}
use Rattle.std.specs.declared.option.Option.{Option}
use Rattle.std.specs.declared.option.Option.TheVariants.{None, Some}
use Rattle.std.proofs.Common.{ap}
use Rattle.std.proofs.lemmas.List.Elements.{All-contains}
use Rattle.shape_data.specs.declared.machine.Cell.{Cell}
use Rattle.shape_data.specs.declared.program.HeadMark.{HeadMark}
use Rattle.shape_data.specs.declared.program.StructDef.{StructDef}
use Rattle.shape_data.specs.declared.symbolic.Exp.{Exp}
use Rattle.shape_data.specs.declared.symbolic.Post.{Post}
use Rattle.shape_data.specs.declared.symbolic.SymHeap.{SymHeap}
use Rattle.shape_data.specs.declared.symbolic.SymState.{SymState}
use Rattle.shape_data.specs.Meaning.{value, MeetsPost, MeetsState}
use Rattle.sym_pure.specs.declared.parts.Normal.{Normal}
use Rattle.sym_pure.specs.declared.parts.Normal.TheVariants.{Is, Contradiction}
use Rattle.sym_pure.specs.Laws.{MeansTheSame}
use Rattle.sym_pure.specs.Normal.{normal}
use Rattle.sym_pure.proofs.MeaningLaws.{normal_keeps_meaning}
use Rattle.sym_canon.specs.Canonical.{as_state, canon_state}
use Rattle.sym_canon.proofs.CanonLaws.{canon_state_keeps_meaning}
use Rattle.sym_forms.specs.Forms.{of_form}
use Rattle.sym_matching.specs.Laws.{FitsAtom}
use Rattle.sym_matching.proofs.CoverLaws.{covering_post_meets, covering_state_meets}
use Rattle.abstraction_laws.specs.Heads.{post_of, result_of}
use Rattle.abstraction_laws.specs.Laws.{PostWeakensTo, StateWeakensTo}
use Rattle.abstraction_laws.proofs.HeadLaws.{abstract_exit_weakens, abstract_head_weakens}
use Rattle.sound_laws.specs.Certificates.{start_state}
use Rattle.sound_laws.specs.Leading.{PostLeads, StateLeads}
use Rattle.sound_laws.proofs.LeadingLemmas.{listed_post_leads, listed_state_leads}
use Rattle.solve_laws.specs.Certificates.Coming.{Task, at_exit, at_mark, at_node, mark_at, normal_post, start_at_node, start_form}
use Rattle.solve_laws.specs.Certificates.Coverings.{IsCovered, IsPostCovered}

-- ---- what comes only weakens

-- the normal form of a state, and what has its meaning
module _ (state : SymState) (make : SymState → SymState)
    (same : (form : SymState) (structs : List StructDef) (s : ℕ → ℤ) (locals : List ℤ) (heap : List Cell) →
    MeetsState structs s locals heap form → MeetsState structs s locals heap (make form)) where
  form-weakens : (n : Normal) → MeansTheSame state n → StateWeakensTo state (of_form make n)
  form-weakens (Is form) means = λ structs s locals heap meets. same form structs s locals heap ((means structs s locals heap).0 meets)
  form-weakens Contradiction means = means

mark-weakens : (task : Task) (mark : Option HeadMark) (state : SymState) → StateWeakensTo state (at_mark task mark state)
mark-weakens task None state = λ structs s locals heap meets. meets
mark-weakens task (Some mark) state = abstract_head_weakens state task.flow mark task.structs

pub at_node-weakens : (task : Task) (at : ℕ) (state : SymState) → StateWeakensTo state (at_node task at state)
at_node-weakens task at state = mark-weakens task (mark_at task.flow at) state

-- one after the other
then-weakens : (state : SymState) (o : Option SymState) (go_on : SymState → Option SymState) → StateWeakensTo state o →
    ((form : SymState) → StateWeakensTo form (go_on form)) →
    StateWeakensTo state (option_and_then go_on o)
then-weakens state None go_on first later = first
then-weakens state (Some form) go_on first later = both (go_on form) (later form)
  where
    both : (last : Option SymState) → StateWeakensTo form last → StateWeakensTo state last
    both None nothing = λ structs s locals heap meets. nothing structs s locals heap (first structs s locals heap meets)
    both (Some weaker) weakens = λ structs s locals heap meets. weakens structs s locals heap (first structs s locals heap meets)

pub start-weakens : (task : Task) (pre : SymHeap) → StateWeakensTo (start_state task.flow pre) (start_at_node task pre)
start-weakens task pre =
    let start = start_state task.flow pre in
    then-weakens start (start_form task.flow pre) (at_node task 0)
    (form-weakens start (λ form. canon_state form (length task.flow.params))
    (λ form structs s locals heap meets. (canon_state_keeps_meaning form (length task.flow.params) structs s locals heap).0 meets)
    (normal start) (normal_keeps_meaning start))
    (at_node-weakens task 0)

pub at_exit-weakens : (task : Task) (exit : Post) → PostWeakensTo exit (at_exit task exit)
at_exit-weakens task exit = abstract_exit_weakens exit task.flow task.structs task.recursive

-- a post as a state with one local, and back
only-result : (t : ℕ → ℤ) (ret : ℤ) (other : Exp) (locals : List Exp) → ret ∷ [] ≡ map (value t) locals →
    ret ≡ value t (result_of other locals)
only-result t ret other [] same = cc
only-result t ret other (e ∷ es) same = cc

pub normal_post-weakens : (post : Post) → PostWeakensTo post (normal_post post)
normal_post-weakens post = by_form (normal (as_state post)) (normal_keeps_meaning (as_state post))
  where
    as_one : (structs : List StructDef) (s : ℕ → ℤ) (ret : ℤ) (heap : List Cell) → MeetsPost structs s ret heap post →
        MeetsState structs s (ret ∷ []) heap (as_state post)
    as_one structs s ret heap meets = (meets.0, meets.1, ap (λ v. v ∷ []) meets.2, meets.3)

    by_form : (n : Normal) → MeansTheSame (as_state post) n → PostWeakensTo post (of_form (post_of post.ret) n)
    by_form (Is form) means = λ structs s ret heap meets.
        let is : MeetsState structs s (ret ∷ []) heap form = (means structs s (ret ∷ []) heap).0 (as_one structs s ret heap meets) in
        (is.0, is.1, only-result is.0 ret post.ret form.locals is.2, is.3)
    by_form Contradiction means = λ structs s ret heap meets. means structs s (ret ∷ []) heap (as_one structs s ret heap meets)

-- ---- and where it is covered, it leads there

-- each atom of these fits its structure
abbrev pub StatesFit : List StructDef → List SymState → Type 0
StatesFit structs states = All (λ state. All (FitsAtom structs) state.heap.spatial) states

abbrev pub PostsFit : List StructDef → List Post → Type 0
PostsFit structs posts = All (λ post. All (FitsAtom structs) post.heap.spatial) posts

pub covered-leads : (structs : List StructDef) (states : List SymState) → StatesFit structs states →
    (state : SymState) (o : Option SymState) → StateWeakensTo state o →
    IfSome o (IsCovered states) → StateLeads structs state states
covered-leads structs states fit state None nothing covered = λ s locals heap meets. absurd (nothing structs s locals heap meets)
covered-leads structs states fit state (Some form) weakens covered = λ s locals heap meets.
    let cover = covered.0 in
    let fits = All-contains (λ one. All (FitsAtom structs) one.heap.spatial) states cover fit covered.1 in
    listed_state_leads structs states cover covered.1 s locals heap
    (covering_state_meets structs form cover fits covered.2 s locals heap (weakens structs s locals heap meets))

pub covered-post-leads : (structs : List StructDef) (posts : List Post) → PostsFit structs posts → (post : Post) (o : Option Post) →
    PostWeakensTo post o →
    IfSome o (IsPostCovered posts) → PostLeads structs post posts
covered-post-leads structs posts fit post None nothing covered = λ s ret heap meets. absurd (nothing structs s ret heap meets)
covered-post-leads structs posts fit post (Some form) weakens covered = λ s ret heap meets.
    let cover = covered.0 in
    let fits = All-contains (λ one. All (FitsAtom structs) one.heap.spatial) posts cover fit covered.1 in
    listed_post_leads structs posts cover covered.1 s ret heap
    (covering_post_meets structs form cover fits covered.2 s ret heap (weakens structs s ret heap meets))
