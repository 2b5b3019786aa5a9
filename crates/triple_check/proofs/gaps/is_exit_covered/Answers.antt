use Rattle.std.proofs.Common.{rules}
use Rattle.std.proofs.lemmas.List.Elements.{All-same}
use Rattle.subtraction.specs.Conditions.{IsPostWithinSizes}
use Rattle.solve_laws.specs.Certificates.Conditions.{IsTaskPost}
use Rattle.certificate_steps.specs.InTask.{task_in}
use Rattle.certificate_steps.proofs.SizeLaws.{exits-sizes, post-sizes}
use Rattle.triple_check.proofs.gaps.is_exit_covered.Goals as goal

pub is_post_covered-requires-clause-posts : goal.is_post_covered-requires-clause-posts
is_post_covered-requires-clause-posts c =
    All-same IsPostWithinSizes c.as_slice.result.now c.args.cert.now.exits c.as_slice.ensures
    (exits-sizes (task_in c.args.task.now) c.requires.task c.args.cert.now c.requires.cert)

pub is_post_covered-requires-clause-post : goal.is_post_covered-requires-clause-post
is_post_covered-requires-clause-post c =
    let given : IsTaskPost (task_in c.args.task.now) c.in-Some.form = search rules in
    post-sizes (task_in c.args.task.now) c.requires.task c.in-Some.form given
