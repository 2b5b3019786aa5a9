-- Texts that follow one another, as the printing functions write them.
use Rattle.std.specs.Prelude.{ℕ, Bool, true, false, List, [], ◌∷◌, ◌++◌}

-- the texts, with the separator before each but, unless it is led, the first
abbrev pub led_texts : List ℕ → Bool → List (List ℕ) → List ℕ
led_texts separator led [] = []
led_texts separator true (text ∷ texts) = separator ++ text ++ led_texts separator true texts
led_texts separator false (text ∷ texts) = text ++ led_texts separator true texts
