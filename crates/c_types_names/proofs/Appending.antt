-- One text behind another.
use Rattle.std.proofs.Common.{◌≡◌, ℕ, ◌+◌, ◌<◌, List, [], ◌∷◌, ◌++◌, length, drop, get_or, append_assoc, sym, ap, ◌∙◌}
use Rattle.std.proofs.lemmas.List.{append-nil, at_drop_more}

pub ruleset appending = (append_assoc, append-nil)

-- a turn of a loop that adds one value
pub pushed : {X Y : Type 0} (all : List X → List Y) (one : X → Y) → ((x : X) (xs : List X) → all (x ∷ xs) ≡ one x ∷ all xs)
    → (xs : List X) (i : ℕ) (x : X) → i < length xs → x ≡ get_or xs i x
    → (before after whole : List Y) → after ≡ before ++ one x ∷ [] → before ++ all (drop i xs) ≡ whole
    → after ++ all (drop (i + 1) xs) ≡ whole
pushed all one step xs i x within is before after whole goes known =
    ap (λ ys. ys ++ all (drop (i + 1) xs)) goes
    ∙ append_assoc before (one x ∷ []) (all (drop (i + 1) xs))
    ∙ ap (λ y. before ++ one y ∷ all (drop (i + 1) xs)) is
    ∙ ap (λ ys. before ++ ys) (sym (step (get_or xs i x) (drop (i + 1) xs)))
    ∙ sym (at_drop_more (λ ys. before ++ all ys) xs i x within)
    ∙ known
