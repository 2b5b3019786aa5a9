-- Places in a text.
use Rattle.std.specs.Prelude.{ℕ, ◌+◌, ◌==◌, List, [], ◌∷◌, if◌then◌else◌}
use Rattle.c_grammar.specs.declared.tokens.places.Place.{Place}
use Rattle.c_grammar.specs.declared.tokens.places.Refusal.{Refusal}

-- the place of the first byte
abbrev pub first_place : Place
first_place = record { line = 1; column = 1 }

-- the place behind a byte: a line feed ends its line
abbrev pub after : Place → ℕ → Place
after place b =
    if b == 10 then record { line = place.line + 1; column = 1 } else record { line = place.line; column = place.column + 1 }

-- the place behind some bytes
abbrev pub place_after : Place → List ℕ → Place
place_after place [] = place
place_after place (b ∷ bytes) = place_after (after place b) bytes

-- the code, at the place
abbrev pub refusal : Place → ℕ → Refusal
refusal place code = record { line = place.line; column = place.column; code = code }
