use Rattle.std.specs.Prelude.{◌≡◌}
use Rattle.std.specs.declared.option.Option.{Option}
use Rattle.std.specs.declared.option.Option.TheVariants.{Some}
use Rattle.std.proofs.Common.{rules}
use Rattle.std.proofs.lemmas.List.Elements.{All-same}
use Rattle.shape_data.specs.declared.symbolic.Post.{Post}
use Rattle.subtraction.specs.Conditions.{IsPostWithinSizes}
use Rattle.solve_laws.specs.Certificates.Coming.{normal_post}
use Rattle.certificate_steps.specs.InTask.{task_in}
use Rattle.solve_laws.proofs.CertificatesLemmas.GivenLaws.{normal-post-given}
use Rattle.certificate_steps.proofs.SizeLaws.{post-sizes, posts-sizes}
use Rattle.triple_check.proofs.gaps.does_post_cover.Goals as goal

pub is_post_covered-requires-clause-posts : goal.is_post_covered-requires-clause-posts
is_post_covered-requires-clause-posts c =
    All-same IsPostWithinSizes c.as_slice.result.now c.args.spec.now.posts c.as_slice.ensures
    (posts-sizes (task_in c.args.task.now) c.requires.task c.args.spec.now c.requires.spec)

pub is_post_covered-requires-clause-post : goal.is_post_covered-requires-clause-post
is_post_covered-requires-clause-post c =
    let is : ◌≡◌ {A = Option Post} (Some c.in-Some.form) (normal_post c.args.exit.now) = search rules in
    post-sizes (task_in c.args.task.now) c.requires.task c.in-Some.form
    (normal-post-given (task_in c.args.task.now) c.requires.task c.args.exit.now c.in-Some.form c.requires.exit is)
