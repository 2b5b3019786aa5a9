-- Types as the typing rules see them (C11 6.2.5, of which the subset keeps `int`, pointers to structures and, as a
-- result, `void`), and refusals.
use Rattle.std.specs.Prelude.{ℕ, Bool, true, false, Option, Some, None, List, [], ◌∷◌, if◌then◌else◌}
use Rattle.std.specs.Str.{bytes_eq}
use Rattle.shape_data.specs.declared.program.Ty.{Ty}
use Rattle.shape_data.specs.declared.program.Ty.TheVariants.{Int, Ptr, Void}
use Rattle.c_grammar.specs.declared.tokens.places.Place.{Place}
use Rattle.c_grammar.specs.declared.tokens.places.Refusal.{Refusal}
use Rattle.c_grammar.specs.Tokens.Places.{refusal}

-- the type of an expression or an object, or None where it is not known: then a cause of that is refused elsewhere
abbrev pub Kind : Type 0
Kind = Option Ty

abbrev pub IsKnown : Kind → Type 0
IsKnown None = ⊥
IsKnown (Some kind) = Unit {0}

abbrev pub same_type : Ty → Ty → Bool
same_type Int Int = true
same_type (Ptr one) (Ptr other) = bytes_eq one other
same_type Void Void = true
same_type _ _ = false

-- two types that are equal, or of which one is not known
abbrev pub may_agree : Kind → Kind → Bool
may_agree (Some one) (Some other) = same_type one other
may_agree _ _ = true

-- what `+`, `-`, `*`, `<` and the like, `++` and `--`, and `+=` and the like take (C11 6.5.2.4, 6.5.3.3, 6.5.5, 6.5.6, 6.5.8,
-- 6.5.16.2)
abbrev pub may_be_int : Kind → Bool
may_be_int kind = may_agree kind (Some Int)

-- what `!`, `&&`, `||` and tests take (C11 6.5.3.3, 6.5.13, 6.5.14, 6.8.4.1, 6.8.5): an int or a pointer
abbrev pub may_be_scalar : Kind → Bool
may_be_scalar (Some Void) = false
may_be_scalar _ = true

-- types that `==` and `!=` compare: two ints, two pointers to one structure, or a pointer and the type of a null pointer
abbrev pub may_be_compared : Kind → Bool → Kind → Bool → Bool
may_be_compared (Some Void) is_null other other_is_null = false
may_be_compared kind is_null (Some Void) other_is_null = false
may_be_compared (Some (Ptr tag)) is_null (Some Int) other_is_null = other_is_null
may_be_compared (Some Int) is_null (Some (Ptr tag)) other_is_null = is_null
may_be_compared kind is_null other other_is_null = may_agree kind other

-- the codes of refusals

-- a name that is not declared
abbrev pub UNDECLARED : ℕ
UNDECLARED = 121

-- types that clash
abbrev pub CLASH : ℕ
CLASH = 122

-- a second definition
abbrev pub SECOND : ℕ
SECOND = 123

-- a wrong number of arguments
abbrev pub ARGUMENTS : ℕ
ARGUMENTS = 124

-- a structure that is repeated and differs
abbrev pub DIFFERS : ℕ
DIFFERS = 125

-- a construct that the subset leaves out
abbrev pub LEFT_OUT : ℕ
LEFT_OUT = 126

-- what a rule asks for holds, or else the place is refused
abbrev pub unless : Bool → Place → ℕ → List Refusal
unless holds place code = if holds then [] else (refusal place code ∷ [])
