-- One turn of a loop that tests whether one of a list passes.
use Rattle.std.specs.Prelude.{◌≡◌, ℕ, ◌+◌, ◌<◌, Bool, true, false, ◌||◌, List, length, slice_index_or}
use Rattle.std.specs.List.{list_any}
use Rattle.std.proofs.Common.{sym, ap, ◌∙◌, drop}
use Rattle.std.proofs.lemmas.List.{at_drop_more}

module _ {A : Type 0} (test : A → Bool) (things : List A) (place : ℕ) (thing : A) (within : place < length things)
    (is : thing ≡ slice_index_or things place thing) (whole : Bool) where
  any-more : list_any test (drop place things) ≡ (test thing || list_any test (drop (place + 1) things))
  any-more = at_drop_more (λ all. list_any test all) things place thing within
      ∙ ap (λ one. test one || list_any test (drop (place + 1) things)) (sym is)

  pub any-here : test thing ≡ true → whole ≡ list_any test (drop place things) → true ≡ whole
  any-here passed known = sym (known ∙ any-more ∙ ap (λ b. b || list_any test (drop (place + 1) things)) passed)

  pub any-later : test thing ≡ false → whole ≡ list_any test (drop place things) → whole ≡ list_any test (drop (place + 1) things)
  any-later failed known = known ∙ any-more ∙ ap (λ b. b || list_any test (drop (place + 1) things)) failed
