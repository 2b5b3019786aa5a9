-- What is listed is normal: it is executed, and covered, as it stands.
use Rattle.std.specs.Prelude.{◌≡◌, ℕ, true, length}
use Rattle.std.specs.Option.{option_and_then}
use Rattle.std.specs.declared.option.Option.{Option}
use Rattle.std.specs.declared.option.Option.TheVariants.{None, Some}
use Rattle.std.proofs.Common.{refl, sym, ap, subst}
use Rattle.std.proofs.lemmas.List.Elements.{All-weaker}
use Rattle.shape_data.specs.declared.program.HeadMark.{HeadMark}
use Rattle.shape_data.specs.declared.symbolic.Post.{Post}
use Rattle.shape_data.specs.declared.symbolic.SymHeap.{SymHeap}
use Rattle.shape_data.specs.declared.symbolic.SymState.{SymState}
use Rattle.sym_pure.specs.IsNormal.{is_normal}
use Rattle.sym_pure.proofs.FormLaws.{form_is_normal}
use Rattle.sym_pure.proofs.ItselfLaws.{normal_is_itself}
use Rattle.sym_canon.specs.Canonical.{as_state, canon_state}
use Rattle.sym_forms.specs.Forms.{of_form}
use Rattle.sym_forms.proofs.FormNormalLaws.{canon_state_is_normal}
use Rattle.abstraction_laws.specs.Heads.{post_of}
use Rattle.abstraction_laws.proofs.NormalResults.{abstract_exit_is_normal, abstract_head_is_normal, made-of}
use Rattle.sound_laws.specs.Certificates.{start_state}
use Rattle.exec_laws.specs.declared.parts.Step.{Step}
use Rattle.exec_laws.specs.declared.parts.Step.TheVariants as step
use Rattle.exec_laws.specs.Laws.{IsForm}
use Rattle.exec_laws.proofs.FormedLemmas.{answers_are_forms}
use Rattle.solve_laws.specs.Certificates.Coming.{
  Task,
  at_exit,
  at_mark,
  at_node,
  mark_at,
  normal_post,
  normal_state,
  start_at_node,
  start_form,
}
use Rattle.solve_laws.specs.Certificates.Inductive.{OfNexts, execution}

-- ---- a normal state, or post, is its own form

pub normal-state-itself : (state : SymState) → is_normal state ≡ true → normal_state state ≡ Some state
normal-state-itself state is = ap (λ form. of_form (λ (one : SymState). one) form) ((normal_is_itself state).0 is)

pub normal-post-itself : (post : Post) → is_normal (as_state post) ≡ true → normal_post post ≡ Some post
normal-post-itself post is = ap (λ form. of_form (post_of post.ret) form) ((normal_is_itself (as_state post)).0 is)

-- ---- what comes is normal

form-normal : (params : ℕ) (state : SymState) → IsForm params state → is_normal state ≡ true
form-normal params state is = subst (λ one. is_normal one ≡ true) (sym is.2) (canon_state_is_normal is.0 params is.1)

mark-normal : (task : Task) (mark : Option HeadMark) (state form : SymState) → is_normal state ≡ true → at_mark task mark state ≡ Some form
    → is_normal form ≡ true
mark-normal task None state form is h = let same : state ≡ form = cc in subst (λ one. is_normal one ≡ true) same is
mark-normal task (Some mark) state form is h = abstract_head_is_normal state form task.flow mark task.structs h

-- a state that comes to a node is normal, if it was
pub at-node-normal : (task : Task) (at : ℕ) (state form : SymState) → is_normal state ≡ true → at_node task at state ≡ Some form
    → is_normal form ≡ true
at-node-normal task at state form is h = mark-normal task (mark_at task.flow at) state form is h

-- and so is a post that comes to an exit
pub at-exit-normal : (task : Task) (post form : Post) → at_exit task post ≡ Some form → is_normal (as_state form) ≡ true
at-exit-normal task post form h = abstract_exit_is_normal post form task.flow task.structs task.recursive h

start-form-normal : (task : Task) (pre : SymHeap) (start : SymState) → start_form task.flow pre ≡ Some start → is_normal start ≡ true
start-form-normal task pre start h =
    let params = length task.flow.params in
    let made = made-of (λ one. canon_state one params) (start_state task.flow pre) start h in
    subst (λ one. is_normal one ≡ true) made.made
    (canon_state_is_normal made.form params (form_is_normal (start_state task.flow pre) made.form made.form_is))

-- the start state is
pub start-normal : (task : Task) (pre : SymHeap) (form : SymState) → start_at_node task pre ≡ Some form → is_normal form ≡ true
start-normal task pre form h = by_start (start_form task.flow pre) refl h
  where
    by_start : (o : Option SymState) → start_form task.flow pre ≡ o → option_and_then (at_node task 0) o ≡ Some form → is_normal form ≡ true
    by_start None e k = cc
    by_start (Some start) e k = at-node-normal task 0 start form (start-form-normal task pre start e) k

-- the states that an execution gives are
pub nexts-normal : (task : Task) (at : ℕ) (state : SymState) (one : Step) → one ≡ execution task at state
    → OfNexts (λ (next : ℕ × SymState). is_normal next.1 ≡ true) one
nexts-normal task at state (step.Next nexts exits) same =
    All-weaker (λ (next : ℕ × SymState). IsForm (length task.flow.params) next.1) (λ (next : ℕ × SymState). is_normal next.1 ≡ true)
    (λ next is. form-normal (length task.flow.params) next.1 is) nexts
    (answers_are_forms task.flow task.structs at state task.table nexts exits (sym same)).0
nexts-normal task at state (step.Fail cause line) same = tt
