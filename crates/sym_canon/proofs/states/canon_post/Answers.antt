-- The form of the state has one local, the form's result.
use Rattle.std.proofs.Common.{◌≡◌, ◌∙◌, ap, slice_index_or}
use Rattle.shape_data.specs.declared.symbolic.Exp.TheVariants.{Var}
use Rattle.shape_data.specs.declared.symbolic.Post.{Post}
use Rattle.shape_data.specs.declared.symbolic.SymState.{SymState}
use Rattle.sym_canon.specs.Canonical.{as_state, canon_state}
use Rattle.sym_canon.proofs.states.canon_post.Goals as goal

pub returns : goal.returns
returns c =
    let told : c.in_ok-form.form ≡ canon_state (as_state c.args.post.now) c.args.params =
    c.in_ok-form.ensures ∙ ap (λ state. canon_state state c.args.params) c.in_ok-state.ensures in
    let post_of : SymState → Post = λ form. record { ret = slice_index_or form.locals 0 (Var 0); heap = form.heap } in
    rw c.deref.ensures (ap post_of told)
