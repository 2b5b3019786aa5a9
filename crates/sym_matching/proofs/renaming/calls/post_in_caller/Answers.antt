-- The numbers of the new variables are those of the definition.
use Rattle.std.proofs.Common.{◌≡◌, ◌∙◌, ap}
use Rattle.std.proofs.lemmas.Result.{IfOk-weaker}
use Rattle.sym_parts.specs.Laws.Mapped.{on_post}
use Rattle.sym_matching.specs.Renaming.Calls.{in_caller, post_in_caller}
use Rattle.sym_matching.proofs.renaming.calls.post_in_caller.Goals as goal

pub returns : goal.returns
returns c =
    IfOk-weaker c.map_post.result (λ made. made ≡ on_post (in_caller c.args.apart.now c.args.binding.now c.in_ok-own.own) c.args.post.now)
    (λ made. made ≡ post_in_caller c.args.used.now c.args.apart.now c.args.binding.now c.args.post.now)
    (λ made is. is
    ∙ ap (λ own. on_post (in_caller c.args.apart.now c.args.binding.now own) c.args.post.now) c.in_ok-own.ensures.value) c.map_post.ensures
