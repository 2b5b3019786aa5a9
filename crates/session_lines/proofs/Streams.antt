-- Lemmas on what is left of a stream.
use Rattle.std.proofs.Common.{◌≡◌, ◌≢◌, ℕ, ◌+◌, ◌<◌, ◌≤◌, Option, Some, None, List, [], ◌++◌, length, take, drop, refl, sym, ap, ◌∙◌, subst}
use Rattle.std.proofs.Common.{arith, append_assoc, length-append}
use Rattle.std.proofs.lemmas.List.{take-append-drop}
use Rattle.std.proofs.lemmas.List.Elements.{All-take}
use Rattle.std.proofs.lemmas.Grind.{common_steps}
use Rattle.std.specs.Prelude.{IfSome}
use Rattle.io_ports.specs.Bytes.{before_left}
use Rattle.session_lines.specs.Parts.{IsAbsent}

-- two pieces, one after the other
pub before_left-append : (first second : List ℕ) (left : Option (List ℕ))
    → before_left first (before_left second left) ≡ before_left (first ++ second) left
before_left-append first second None = refl
before_left-append first second (Some rest) = ap (λ bytes. Some bytes) (sym (append_assoc first second rest))

-- the front of what is ahead is taken
pub taken_front : (count : ℕ) (ahead : List ℕ) (left : Option (List ℕ))
    → before_left ahead left ≡ before_left (take count ahead) (before_left (drop count ahead) left)
taken_front count ahead left =
    ap (λ bytes. before_left bytes left) (sym (take-append-drop count ahead))
    ∙ sym (before_left-append (take count ahead) (drop count ahead) left)

-- a turn of taking
pub more_taken : (bytes : List ℕ) (count : ℕ) (ahead : List ℕ) (old mid left : Option (List ℕ)) → old ≡ before_left bytes mid
    → mid ≡ before_left ahead left
    → old ≡ before_left (bytes ++ take count ahead) (before_left (drop count ahead) left)
more_taken bytes count ahead old mid left was is =
    was ∙ ap (before_left bytes) (is ∙ taken_front count ahead left)
    ∙ before_left-append bytes (take count ahead) (before_left (drop count ahead) left)

-- a shorter front
pub take_front : (few many : ℕ) (bytes : List ℕ) → few ≤ many → take few (take many bytes) ≡ take few bytes
take_front few many bytes within = grind (arith, common_steps)

-- a byte that is absent from a front is absent from a shorter one
pub absent_front : (byte few many : ℕ) (bytes : List ℕ) → few ≤ many → IsAbsent byte (take many bytes) → IsAbsent byte (take few bytes)
absent_front byte few many bytes within absent =
    subst (IsAbsent byte) (take_front few many bytes within) (All-take (λ b. b ≢ byte) few (take many bytes) absent)

-- a byte that is absent is absent from a front
pub absent_in_front : (byte few : ℕ) (bytes : List ℕ) → IsAbsent byte bytes → IsAbsent byte (take few bytes)
absent_in_front byte few bytes absent = All-take (λ b. b ≢ byte) few bytes absent

pub length_taken : (bytes ahead : List ℕ) (count : ℕ) → count ≤ length ahead → length (bytes ++ take count ahead) ≡ length bytes + count
length_taken bytes ahead count within = grind (arith, common_steps, length-append bytes (take count ahead))

-- a stream of which something stands ahead
pub not_empty : (ahead : List ℕ) (left : Option (List ℕ)) → 0 < length ahead → IfSome (before_left ahead left) (λ stream. stream ≢ [])
not_empty ahead None some = tt
not_empty ahead (Some rest) some = λ none. let size = ap length none in let parts = length-append ahead rest in omega arith

-- what is kept behind a front
pub kept_behind : (size : ℕ) (ahead behind : List ℕ) (left after : Option (List ℕ)) → behind ≡ drop size ahead
    → ((bytes : List ℕ) × (before_left behind left ≡ before_left bytes after))
    → (bytes : List ℕ) × (before_left ahead left ≡ before_left bytes after)
kept_behind size ahead behind left after is (bytes, moved) = (
  take size ahead ++ bytes,
  taken_front size ahead left ∙ ap (before_left (take size ahead)) (ap (λ xs. before_left xs left) (sym is) ∙ moved)
      ∙ before_left-append (take size ahead) bytes after,
)
