-- When one of a list covers a state or a post, and the tests for it.
use Rattle.std.specs.Prelude.{Bool, ◌||◌, List, Contains}
use Rattle.std.specs.List.{list_any}
use Rattle.shape_data.specs.declared.symbolic.Post.{Post}
use Rattle.shape_data.specs.declared.symbolic.SymState.{SymState}
use Rattle.sym_canon.specs.Canonical.{as_state, canon_post, canon_state}
use Rattle.sym_matching.specs.Covers.{PostCovers, StateCovers, matches_state}
use Rattle.solve_laws.specs.Certificates.Sameness.{same_post, same_state}

-- one of the states covers it
abbrev pub IsCovered : List SymState → SymState → Type 0
IsCovered states state = (cover : SymState) × Contains states cover × StateCovers cover state

-- one of the posts covers it
abbrev pub IsPostCovered : List Post → Post → Type 0
IsPostCovered posts post = (cover : Post) × Contains posts cover × PostCovers cover post

-- TESTS

-- whether the state b covers a
abbrev pub covers_state : SymState → SymState → Bool
covers_state b a = same_state (canon_state a 0) (canon_state b 0) || matches_state a b

-- whether the post b covers a
abbrev pub covers_post : Post → Post → Bool
covers_post b a = same_post (canon_post a 0) (canon_post b 0) || matches_state (as_state a) (as_state b)

-- whether one of the states covers it
abbrev pub is_covered : List SymState → SymState → Bool
is_covered states state = list_any (λ cover. covers_state cover state) states

-- whether one of the posts covers it
abbrev pub is_post_covered : List Post → Post → Bool
is_post_covered posts post = list_any (λ cover. covers_post cover post) posts
