-- Abstraction at the head of a loop and at an exit only weakens.
use Rattle.std.specs.Prelude.{◌≡◌, ℕ, ◌+◌, ℤ, Bool, true, false, List, [], ◌∷◌, length, map}
use Rattle.std.proofs.Common.{sym, ap, ◌∙◌}
use Rattle.shape_data.specs.declared.machine.Cell.{Cell}
use Rattle.shape_data.specs.declared.program.Flow.{Flow}
use Rattle.shape_data.specs.declared.program.HeadMark.{HeadMark}
use Rattle.shape_data.specs.declared.program.StructDef.{StructDef}
use Rattle.shape_data.specs.declared.symbolic.Exp.{Exp}
use Rattle.shape_data.specs.declared.symbolic.Post.{Post}
use Rattle.shape_data.specs.declared.symbolic.SymState.{SymState}
use Rattle.shape_data.specs.Meaning.{value, MeetsPost, MeetsState}
use Rattle.sym_parts.specs.Laws.Each.{EachInState}
use Rattle.sym_pure.specs.declared.parts.Normal.{Normal}
use Rattle.sym_pure.specs.declared.parts.Normal.TheVariants.{Is, Contradiction}
use Rattle.sym_pure.specs.Laws.{MeansTheSame}
use Rattle.sym_pure.specs.Normal.{normal}
use Rattle.sym_pure.proofs.MeaningLaws.{normal_keeps_meaning}
use Rattle.sym_canon.specs.Canonical.{as_state, canon_post, canon_state}
use Rattle.sym_canon.proofs.CanonLaws.{canon_post_keeps_meaning, canon_state_keeps_meaning}
use Rattle.std.proofs.lemmas.List.Elements.{All-head}
use Rattle.sym_forms.specs.Forms.{of_form}
use Rattle.abstraction_laws.specs.Forgetting.{first_new, forget}
use Rattle.abstraction_laws.specs.Heads.{at_exit, at_head, forget_at_exit, forget_if_recursive, post_of, reduced, result_of}
use Rattle.abstraction_laws.specs.Laws.{AbstractExitWeakens, AbstractHeadWeakens, PostWeakens, PostWeakensTo, StateWeakens, StateWeakensTo}
use Rattle.abstraction_laws.specs.Repeating.{size_of}
use Rattle.abstraction_laws.proofs.ForgetLaws.{IsSame, atoms-same, each-same, facts-same, forget_weakens, have-new, logical-low, new-below}
use Rattle.abstraction_laws.proofs.ForgetLaws.{new_values, value-same}
use Rattle.abstraction_laws.proofs.ReduceLaws.{times-hold}

-- a state, a weaker one, and what is made of that one's form
module _ (state weaker : SymState) (weakens : StateWeakens state weaker) (make : SymState → SymState)
    (same : (form : SymState) → StateWeakens form (make form)) where
  form-weakens : (n : Normal) → MeansTheSame weaker n → StateWeakensTo state (of_form make n)
  form-weakens (Is form) alike =
      λ structs s locals heap m. same form structs s locals heap ((alike structs s locals heap).0 (weakens structs s locals heap m))
  form-weakens Contradiction alike = λ structs s locals heap m. alike structs s locals heap (weakens structs s locals heap m)

pub reduced-weakens : (joins : Bool) (state : SymState) → StateWeakens state (reduced joins state)
reduced-weakens joins state structs s locals heap m =
    (m.0, m.1, m.2, times-hold structs m.0 joins state.locals heap (size_of state.heap) state.heap m.3)

at_head-weakens : (kinds : List StructDef) (mark : HeadMark) (state : SymState) → StateWeakens state (at_head kinds mark state)
at_head-weakens kinds mark state structs s locals heap m =
    reduced-weakens true (forget kinds mark state) structs s locals heap (forget_weakens kinds mark state structs s locals heap m)

pub abstract_head_weakens : AbstractHeadWeakens
abstract_head_weakens state flow mark kinds =
    form-weakens state (at_head kinds mark state) (at_head-weakens kinds mark state) (λ form. canon_state form (length flow.params))
    (λ form structs s locals heap m. (canon_state_keeps_meaning form (length flow.params) structs s locals heap).0 m)
    (normal (at_head kinds mark state)) (normal_keeps_meaning (at_head kinds mark state))

-- ---- posts

at_exit-forgets : (kinds : List StructDef) (flow : Flow) (post : Post) → PostWeakens post (forget_at_exit kinds flow post)
at_exit-forgets kinds flow post structs s ret heap m =
    let t : ℕ → ℤ = m.0 in
    let state : SymState = as_state post in
    let u : ℕ → ℤ = new_values t state in
    let each : EachInState (IsSame t u) state = each-same t state in
    let have = have-new t state in (
      u,
      λ x low. new-below t state x (logical-low state x low) ∙ m.1 x low,
      m.2 ∙ sym (value-same t u (first_new state) flow.ret post.ret (All-head (IsSame t u) post.ret [] each.locals) have.0.0),
      record {
        facts = facts-same t u post.heap.pure each.heap.facts m.3.facts;
        atoms = atoms-same t u structs kinds (first_new state + 1) post.heap.spatial heap each.heap.atoms have.1 m.3.atoms;
      },
    )

recursive-forgets : (recursive : Bool) (kinds : List StructDef) (flow : Flow) (post : Post) →
    PostWeakens post (forget_if_recursive recursive kinds flow post)
recursive-forgets true kinds flow post = at_exit-forgets kinds flow post
recursive-forgets false kinds flow post = λ structs s ret heap m. m

-- a post as a state with one local, and back
post-as_state : (structs : List StructDef) (s : ℕ → ℤ) (ret : ℤ) (heap : List Cell) (post : Post) → MeetsPost structs s ret heap post →
    MeetsState structs s (ret ∷ []) heap (as_state post)
post-as_state structs s ret heap post m = (m.0, m.1, ap (λ v. v ∷ []) m.2, m.3)

only-result : (t : ℕ → ℤ) (ret : ℤ) (other : Exp) (locals : List Exp) → ret ∷ [] ≡ map (value t) locals →
    ret ≡ value t (result_of other locals)
only-result t ret other [] same = cc
only-result t ret other (e ∷ es) same = cc

state-as_post : (structs : List StructDef) (s : ℕ → ℤ) (ret : ℤ) (heap : List Cell) (other : Exp) (state : SymState) →
    MeetsState structs s (ret ∷ []) heap state → MeetsPost structs s ret heap (post_of other state)
state-as_post structs s ret heap other state m = (m.0, m.1, only-result m.0 ret other state.locals m.2, m.3)

at_exit-meets : (recursive : Bool) (kinds : List StructDef) (flow : Flow) (post : Post) (structs : List StructDef) (s : ℕ → ℤ) (ret : ℤ)
    (heap : List Cell) →
    MeetsPost structs s ret heap post → MeetsState structs s (ret ∷ []) heap (at_exit recursive kinds flow post)
at_exit-meets recursive kinds flow post structs s ret heap m =
    let forgotten : Post = forget_if_recursive recursive kinds flow post in
    reduced-weakens recursive (as_state forgotten) structs s (ret ∷ []) heap
    (post-as_state structs s ret heap forgotten (recursive-forgets recursive kinds flow post structs s ret heap m))

exit-weakens : (recursive : Bool) (kinds : List StructDef) (flow : Flow) (post : Post) (n : Normal) →
    MeansTheSame (at_exit recursive kinds flow post) n →
    PostWeakensTo post (of_form (λ form. canon_post (post_of post.ret form) (length flow.params)) n)
exit-weakens recursive kinds flow post (Is form) alike = λ structs s ret heap m.
    let meets : MeetsState structs s (ret ∷ []) heap form =
    (alike structs s (ret ∷ []) heap).0 (at_exit-meets recursive kinds flow post structs s ret heap m) in
    (canon_post_keeps_meaning (post_of post.ret form) (length flow.params) structs s ret heap).0
    (state-as_post structs s ret heap post.ret form meets)
exit-weakens recursive kinds flow post Contradiction alike =
    λ structs s ret heap m. alike structs s (ret ∷ []) heap (at_exit-meets recursive kinds flow post structs s ret heap m)

pub abstract_exit_weakens : AbstractExitWeakens
abstract_exit_weakens post flow kinds recursive =
    exit-weakens recursive kinds flow post (normal (at_exit recursive kinds flow post))
    (normal_keeps_meaning (at_exit recursive kinds flow post))
