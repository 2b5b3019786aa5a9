-- Where comments end, byte by byte. No public contract cites it: `Gaps` says what a comment is.
use Rattle.std.specs.Prelude.{ℕ, ◌+◌, Bool, true, false, ◌||◌, ◌&&◌, ◌==◌, not, Option, Some, None, List, [], ◌∷◌, if◌then◌else◌}
use Rattle.c_grammar.specs.declared.tokens.comments.Behind.{Behind}
use Rattle.c_grammar.specs.declared.tokens.comments.Behind.TheVariants.{Other, Star, Join}

-- where a `//` comment ends that reaches the byte at this place: at the first line feed that is joined to nothing
-- by a backslash before it, or at the end of the text
abbrev pub line_end : ℕ → Bool → List ℕ → ℕ
line_end place joined [] = place
line_end place joined (b ∷ bytes) =
    if b == 10 && not joined then place else line_end (place + 1) (b == 92 || (joined && b == 13)) bytes

-- the last byte passed is a star, lines that are joined aside
abbrev pub is_star : Behind → Bool
is_star Star = true
is_star Join = false
is_star Other = false

-- what stands behind a byte that is no star
abbrev pub behind_other : Behind → ℕ → Behind
behind_other Star b = if b == 92 then Join else Other
behind_other Join b = if b == 10 then Star else if b == 13 then Join else Other
behind_other Other b = Other

-- what stands behind one more byte
abbrev pub behind : Behind → ℕ → Behind
behind before b = if b == 42 then Star else behind_other before b

-- where a `/*` comment ends that reaches the byte at this place: behind the first slash that follows a star
abbrev pub block_end : ℕ → Behind → List ℕ → Option ℕ
block_end place before [] = None
block_end place before (b ∷ bytes) =
    if b == 47 && is_star before then Some (place + 1) else block_end (place + 1) (behind before b) bytes
