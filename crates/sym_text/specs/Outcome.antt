-- Readers from the front of a text, and how they are put together.
use Rattle.std.specs.Prelude.{◌≡◌, ◌≤◌, ◌-◌, ℕ, Bool, true, false, List, [], ◌∷◌, length, Option, Some, None, ◌==◌, if◌then◌else◌}
use Rattle.sym_text.specs.declared.fault.BadSpec.{BadSpec}
use Rattle.sym_text.specs.declared.fault.BadSpec.TheVariants as bad
use Rattle.sym_text.specs.declared.fault.Fault.{Fault}
use Rattle.sym_text.specs.declared.fault.Fault.TheVariants.{Refused, OutOfMemory}

-- what a reader makes of a text: a value, and what stands behind what was read; or what is left of the text where the reader
-- stopped, its first byte being one with which the reader can't go on; if nothing is left, the text ends too early
pub data Outcome (A : Type 0) : Type 0 where
  Got : A → List ℕ → Outcome A
  Stopped : List ℕ → Outcome A

-- a reader
abbrev pub Reader : Type 0 → Type 0
Reader A = List ℕ → Outcome A

-- goes on behind a value
abbrev pub pass : {A B : Type 0} → Outcome A → (A → List ℕ → Outcome B) → Outcome B
pass (Got value rest) next = next value rest
pass (Stopped rest) next = Stopped rest

-- one reader, and then another by what the first has read
unfoldable pub go_on : {A B : Type 0} → Reader A → (A → Reader B) → Reader B
go_on one next text = pass (one text) next

infixl 10 ◌>>=◌
abbrev pub ◌>>=◌ : {A B : Type 0} → Reader A → (A → Reader B) → Reader B
one >>= next = go_on one next

-- reads nothing, and gives the value
abbrev pub give : {A : Type 0} → A → Reader A
give value text = Got value text

-- may come nowhere
abbrev pub never : {A : Type 0} → Reader A
never text = Stopped text

-- may come on this condition
abbrev pub only_if : {A : Type 0} → Bool → Reader A → Reader A
only_if true reader text = reader text
only_if false reader text = Stopped text

-- the first byte of a text
abbrev pub first : List ℕ → Option ℕ
first [] = None
first (byte ∷ text) = Some byte

-- by the kind of the first byte
unfoldable pub by_first : {A Kind : Type 0} → (Option ℕ → Kind) → (Kind → Reader A) → Reader A
by_first kind reader text = reader (kind (first text)) text

-- exactly these bytes
abbrev pub literal : List ℕ → Reader (Unit {0})
literal [] text = Got tt text
literal (byte ∷ bytes) [] = Stopped []
literal (byte ∷ bytes) (other ∷ text) = if other == byte then literal bytes text else Stopped (other ∷ text)

-- so many bytes are left where the reader stopped
abbrev pub HasLeft : {A : Type 0} → ℕ → Outcome A → Type 0
HasLeft left (Got value rest) = ⊥
HasLeft left (Stopped rest) = left ≡ length rest

-- memory wanted, or the reader stopped there
abbrev pub IsStop : {A : Type 0} → Fault → Outcome A → Type 0
IsStop (Refused left) outcome = HasLeft left outcome
IsStop OutOfMemory outcome = Unit {0}

-- no more is left than there was
abbrev pub IsWithin : Fault → ℕ → Type 0
IsWithin (Refused left) len = left ≤ len
IsWithin OutOfMemory len = Unit {0}

-- what callers are told of a text of this length
abbrev pub bad_of : ℕ → Fault → BadSpec
bad_of len (Refused left) = bad.At (len - left)
bad_of len OutOfMemory = bad.OutOfMemory
