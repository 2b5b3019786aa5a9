-- The posts that cover an exit.
use Rattle.std.specs.Prelude.{Bool}
use Rattle.shape_data.specs.declared.symbolic.Post.{Post}
use Rattle.shape_data.specs.declared.symbolic.Spec.{Spec}
use Rattle.solve_laws.specs.Certificates.Coming.{normal_post}
use Rattle.solve_laws.specs.Certificates.Coverings.{is_post_covered}
use Rattle.solve_laws.specs.Certificates.Gaps.{passes}

-- whether a post of the spec covers an exit, in normal form
abbrev pub do_posts_cover : Spec → Post → Bool
do_posts_cover spec exit = passes (is_post_covered spec.posts) (normal_post exit)
