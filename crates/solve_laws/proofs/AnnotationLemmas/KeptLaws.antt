-- Posts are kept: each exit is covered by one that is kept.
use Rattle.std.specs.Prelude.{◌≡◌, ◌⊎◌, ℕ, zero, suc, ◌<◌, ◌≤◌, Bool, true, false, List, [], ◌∷◌, length, slice_index_or, All, Contains}
use Rattle.std.proofs.Common.{refl, sym, subst, arith, inl, inr, ⊎_elim}
use Rattle.std.proofs.lemmas.List.Elements.{All-cons, All-head, All-nil, All-tail}
use Rattle.shape_data.specs.declared.symbolic.Post.{Post}
use Rattle.sound_laws.proofs.LeadingLemmas.{Contains-first, Contains-later}
use Rattle.solve_laws.specs.Certificates.Coverings.{IsPostCovered, is_post_covered}
use Rattle.solve_laws.proofs.CertificatesLemmas.CoveringLaws.{is_post_covered-Decides}
use Rattle.solve_laws.specs.Annotation.Annotation.{keep_unless, kept}

-- what a list contains is its first, or in its rest
pub Contains-cons_cases : {A : Type 0} (first : A) (things : List A) (thing : A) → Contains (first ∷ things) thing
    → (first ≡ thing) ⊎ Contains things thing
Contains-cons_cases first things thing (place, within, is) = by_place place within is
  where
    by_place : (place : ℕ) → place < length (first ∷ things) → slice_index_or (first ∷ things) place thing ≡ thing
        → (first ≡ thing) ⊎ Contains things thing
    by_place zero within is = inl is
    by_place (suc place) within is = let inside : place < length things = omega arith in inr (place, inside, is)

-- a post is left out, since a later one covers it, or kept
keeping : (post : Post) (later : List Post)
    → (IsPostCovered later post × (keep_unless post later ≡ later)) ⊎ (keep_unless post later ≡ post ∷ later)
keeping post later = by_test (is_post_covered later post) refl
  where
    by_test : (b : Bool) → is_post_covered later post ≡ b
        → (IsPostCovered later post × (keep_unless post later ≡ later)) ⊎ (keep_unless post later ≡ post ∷ later)
    by_test true e = let same : keep_unless post later ≡ later = rw e refl in inl ((is_post_covered-Decides later post).0 e, same)
    by_test false e = let same : keep_unless post later ≡ post ∷ later = rw e refl in inr same

-- what later ones cover is covered
covered-later : (post : Post) (later : List Post) (exit : Post) → IsPostCovered later exit → IsPostCovered (keep_unless post later) exit
covered-later post later exit is =
    ⊎_elim (λ out. subst (λ all. IsPostCovered all exit) (sym out.1) is)
    (λ more. subst (λ all. IsPostCovered all exit) (sym more) (is.0, Contains-later post later is.0 is.1, is.2))
    (keeping post later)

-- and so is the post
covered-itself : (post : Post) (later : List Post) → IsPostCovered (keep_unless post later) post
covered-itself post later =
    ⊎_elim (λ out. subst (λ all. IsPostCovered all post) (sym out.1) out.0)
    (λ more. subst (λ all. IsPostCovered all post) (sym more) (post, Contains-first post later, inl refl)) (keeping post later)

-- each exit is covered by a kept one
pub kept-cover : (exits : List Post) → All (IsPostCovered (kept exits)) exits
kept-cover [] = All-nil (IsPostCovered [])
kept-cover (post ∷ posts) =
    let later = kept-cover posts in
    All-cons (IsPostCovered (keep_unless post (kept posts))) post posts (covered-itself post (kept posts))
    (λ k d below. covered-later post (kept posts) (slice_index_or posts k d) (later k d below))

-- the kept ones are exits, and no more of them
pub kept-each : (P : Post → Type 0) (exits : List Post) → All P exits → All P (kept exits)
kept-each P [] are = are
kept-each P (post ∷ posts) are =
    let later = kept-each P posts (All-tail P post posts are) in
    ⊎_elim (λ out. subst (All P) (sym out.1) later)
    (λ more. subst (All P) (sym more) (All-cons P post (kept posts) (All-head P post posts are) later)) (keeping post (kept posts))

pub kept-fewer : (exits : List Post) → length (kept exits) ≤ length exits
kept-fewer [] = omega arith
kept-fewer (post ∷ posts) =
    let fewer : length (kept posts) ≤ length posts = kept-fewer posts in
    let out : length (kept posts) ≤ length (post ∷ posts) = omega (arith, fewer) in
    let more : length (post ∷ kept posts) ≤ length (post ∷ posts) = omega (arith, fewer) in
    ⊎_elim (λ left. subst (λ (all : List Post). length all ≤ length (post ∷ posts)) (sym left.1) out)
    (λ is. subst (λ (all : List Post). length all ≤ length (post ∷ posts)) (sym is) more) (keeping post (kept posts))
