-- The tests of coverings answer whether there is one.
use Rattle.std.specs.Prelude.{◌≡◌, ◌⊎◌, ℕ, zero, suc, ◌<◌, Bool, Decides, ◌||◌, List, [], ◌∷◌, length, slice_index_or, Contains}
use Rattle.std.specs.List.{list_any}
use Rattle.std.proofs.Common.{sym, subst, arith, inl, inr}
use Rattle.std.proofs.lemmas.Bool.Decides.{Decides-like, Decides-or}
use Rattle.shape_data.specs.declared.symbolic.Post.{Post}
use Rattle.shape_data.specs.declared.symbolic.SymState.{SymState}
use Rattle.sym_canon.specs.Canonical.{as_state, canon_post, canon_state}
use Rattle.sym_matching.specs.Covers.{PostCovers, StateCovers, matches_state}
use Rattle.sound_laws.proofs.LeadingLemmas.{Contains-first, Contains-later}
use Rattle.solve_laws.specs.Certificates.Coverings.{IsCovered, IsPostCovered, covers_post, covers_state, is_covered, is_post_covered}
use Rattle.solve_laws.specs.Certificates.Laws.{PostTestIsExact, PostsTestIsExact, StateTestIsExact, StatesTestIsExact}
use Rattle.solve_laws.specs.Certificates.Sameness.{same_post, same_state}
use Rattle.solve_laws.proofs.CertificatesLemmas.SamenessLaws.{same_post-Decides, same_state-Decides}

-- one thing of a list has a property
abbrev OneHas : {A : Type 0} → (A → Type 0) → List A → Type 0
OneHas {A} P things = (thing : A) × Contains things thing × P thing

module _ {A : Type 0} (test : A → Bool) (P : A → Type 0) (each : (thing : A) → Decides (test thing) (P thing)) where
  join : (thing : A) (things : List A) → P thing ⊎ OneHas P things → OneHas P (thing ∷ things)
  join thing things (inl has) = (thing, Contains-first thing things, has)
  join thing things (inr later) = (later.0, Contains-later thing things later.0 later.1, later.2)

  part : (first : A) (things : List A) (thing : A) (place : ℕ) → place < length (first ∷ things)
      → slice_index_or (first ∷ things) place thing ≡ thing → P thing → P first ⊎ OneHas P things
  part first things thing zero within is has = inl (subst P (sym is) has)
  part first things thing (suc place) within is has =
      let inside : place < length things = omega arith in
      inr (thing, (place, inside, is), has)

  none : OneHas P [] → ⊥
  none one = let within : one.1.0 < 0 = one.1.1 in absurd (omega arith)

  pub one-Decides : (things : List A) → Decides (list_any test things) (OneHas P things)
  one-Decides [] = (λ t. cc, λ one. absurd (none one))
  one-Decides (thing ∷ things) =
      Decides-like (test thing || list_any test things) (join thing things) (λ one. part thing things one.0 one.1.0 one.1.1 one.1.2 one.2)
      (Decides-or (test thing) (list_any test things) (each thing) (one-Decides things))

pub covers_state-Decides : (b a : SymState) → Decides (covers_state b a) (StateCovers b a)
covers_state-Decides b a =
    Decides-or (same_state (canon_state a 0) (canon_state b 0)) (matches_state a b) (same_state-Decides (canon_state a 0) (canon_state b 0))
    (λ t. t, λ t. t)

pub covers_post-Decides : (b a : Post) → Decides (covers_post b a) (PostCovers b a)
covers_post-Decides b a =
    Decides-or (same_post (canon_post a 0) (canon_post b 0)) (matches_state (as_state a) (as_state b))
    (same_post-Decides (canon_post a 0) (canon_post b 0)) (λ t. t, λ t. t)

pub is_covered-Decides : (states : List SymState) (state : SymState) → Decides (is_covered states state) (IsCovered states state)
is_covered-Decides states state =
    one-Decides (λ cover. covers_state cover state) (λ cover. StateCovers cover state) (λ cover. covers_state-Decides cover state) states

pub is_post_covered-Decides : (posts : List Post) (post : Post) → Decides (is_post_covered posts post) (IsPostCovered posts post)
is_post_covered-Decides posts post =
    one-Decides (λ cover. covers_post cover post) (λ cover. PostCovers cover post) (λ cover. covers_post-Decides cover post) posts

pub state_test_is_exact : StateTestIsExact
state_test_is_exact b a = covers_state-Decides b a

pub post_test_is_exact : PostTestIsExact
post_test_is_exact b a = covers_post-Decides b a

pub states_test_is_exact : StatesTestIsExact
states_test_is_exact states state = is_covered-Decides states state

pub posts_test_is_exact : PostsTestIsExact
posts_test_is_exact posts post = is_post_covered-Decides posts post
