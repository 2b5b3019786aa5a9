-- Bytes that a source has left or a sink holds, where it tells them.
use Rattle.std.specs.Prelude.{◌≡◌, ℕ, ◌<◌, List, [], ◌++◌, length, take}
use Rattle.std.specs.Option.{option_map}
use Rattle.std.specs.declared.option.Option.{Option}
use Rattle.std.specs.declared.option.Option.TheVariants.{Some, None}

-- bytes, and then the bytes left; not told where those are not told
abbrev pub before_left : List ℕ → Option (List ℕ) → Option (List ℕ)
before_left bytes left = option_map (λ rest. bytes ++ rest) left

-- the bytes held, and then bytes; not told where those held are not told
abbrev pub after_held : Option (List ℕ) → List ℕ → Option (List ℕ)
after_held held bytes = option_map (λ front. front ++ bytes) held

-- where the bytes left are told, there are none
abbrev pub IsNothingLeft : Option (List ℕ) → Type 0
IsNothingLeft None = Unit {0}
IsNothingLeft (Some rest) = rest ≡ []

-- a front of the bytes, and not all of them, was appended to what was held
abbrev pub AppendsFront : Option (List ℕ) → Option (List ℕ) → List ℕ → Type 0
AppendsFront old new bytes = (count : ℕ) × (count < length bytes) × (new ≡ after_held old (take count bytes))
