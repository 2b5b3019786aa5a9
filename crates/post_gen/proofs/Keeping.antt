-- The posts that are kept have the sizes that the tests of coverings ask for.
use Rattle.std.specs.Prelude.{◌≡◌, ℕ, Bool, true, false, List, [], ◌∷◌, All}
use Rattle.std.proofs.Common.{refl, drop}
use Rattle.std.proofs.lemmas.List.Elements.{All-cons, All-drop, All-head, All-nil, All-same, All-tail}
use Rattle.shape_data.specs.declared.symbolic.Post.{Post}
use Rattle.subtraction.specs.Conditions.{IsPostWithinSizes}
use Rattle.solve_laws.specs.Certificates.Coverings.{is_post_covered}
use Rattle.solve_laws.specs.Annotation.Annotation.{keep_unless, kept}

one-within : (post : Post) (later : List Post) → IsPostWithinSizes post → All IsPostWithinSizes later
    → All IsPostWithinSizes (keep_unless post later)
one-within post later is are = by_test (is_post_covered later post) refl
  where
    by_test : (b : Bool) → is_post_covered later post ≡ b → All IsPostWithinSizes (keep_unless post later)
    by_test true covered = rw covered are
    by_test false covered = rw covered (All-cons IsPostWithinSizes post later is are)

kept-sizes : (posts : List Post) → All IsPostWithinSizes posts → All IsPostWithinSizes (kept posts)
kept-sizes [] are = All-nil IsPostWithinSizes
kept-sizes (post ∷ posts) are =
    one-within post (kept posts) (All-head IsPostWithinSizes post posts are) (kept-sizes posts (All-tail IsPostWithinSizes post posts are))

pub kept-within : (exits posts : List Post) (place : ℕ) → All IsPostWithinSizes exits → posts ≡ kept (drop place exits)
    → All IsPostWithinSizes posts
kept-within exits posts place are is =
    All-same IsPostWithinSizes posts (kept (drop place exits)) is
    (kept-sizes (drop place exits) (All-drop IsPostWithinSizes place exits are))
