-- Refusals of one thing after another, by a loop; and lists that are put together.
use Rattle.std.proofs.Common.{◌≡◌, ℕ, ◌+◌, ◌<◌, ◌≤◌, List, [], ◌∷◌, ◌++◌, length, drop, get_or, append_assoc, sym, ap, ◌∙◌}
use Rattle.std.proofs.lemmas.List.{at_drop_more, at_drop_all}
use Rattle.c_grammar.specs.declared.tokens.places.Refusal.{Refusal}
use Rattle.c_types_names.specs.declared.first_refusal.FirstRefusal.{FirstRefusal}
use Rattle.c_types_names.specs.FirstRefusal.{with_refusals}
use Rattle.c_types_names.proofs.FirstRefusals as more

module _ {X : Type 0} (all : List X → List Refusal) (one : X → List Refusal) (step : (x : X) (xs : List X) → all (x ∷ xs) ≡ one x ++ all xs)
    (xs : List X) (i : ℕ) where
  pub looped : (x : X) → i < length xs → x ≡ get_or xs i x → (from to whole : FirstRefusal) → to ≡ with_refusals from (one x)
      → with_refusals from (all (drop i xs)) ≡ whole → with_refusals to (all (drop (i + 1) xs)) ≡ whole
  looped x within is from to whole goes known =
      more.turn from to whole (all (drop i xs)) (one x) (all (drop (i + 1) xs)) goes
      (at_drop_more all xs i x within ∙ step (get_or xs i x) (drop (i + 1) xs) ∙ ap (λ y. one y ++ all (drop (i + 1) xs)) (sym is)) known

  pub ended : length xs ≤ i → all [] ≡ [] → (to whole : FirstRefusal) → with_refusals to (all (drop i xs)) ≡ whole → to ≡ whole
  ended past none to whole known = more.over to whole (all (drop i xs)) (at_drop_all all xs i past ∙ none) known

-- a turn of a loop that adds some values
pub appended : {X Y : Type 0} (all : List X → List Y) (one : X → List Y) → ((x : X) (xs : List X) → all (x ∷ xs) ≡ one x ++ all xs)
    → (xs : List X) (i : ℕ) (x : X) → i < length xs → x ≡ get_or xs i x
    → (before after whole : List Y) → after ≡ before ++ one x → before ++ all (drop i xs) ≡ whole → after ++ all (drop (i + 1) xs) ≡ whole
appended all one step xs i x within is before after whole goes known =
    ap (λ ys. ys ++ all (drop (i + 1) xs)) goes
    ∙ append_assoc before (one x) (all (drop (i + 1) xs))
    ∙ ap (λ y. before ++ (one y ++ all (drop (i + 1) xs))) is
    ∙ ap (λ ys. before ++ ys) (sym (step (get_or xs i x) (drop (i + 1) xs)))
    ∙ sym (at_drop_more (λ ys. before ++ all ys) xs i x within)
    ∙ known
