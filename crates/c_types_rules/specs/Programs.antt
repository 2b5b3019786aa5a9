-- Programs: what is refused in files, what is refused first, and the structures and types of a program in which nothing is.
use Rattle.std.specs.Prelude.{◌≡◌, ℕ, suc, nat_lt, ◌==◌, Bool, true, false, ◌&&◌, ◌||◌, not, Option, Some, None, List, [], ◌∷◌, ◌++◌, map}
use Rattle.std.specs.Prelude.{if◌then◌else◌}
use Rattle.shape_data.specs.declared.program.Field.{Field}
use Rattle.shape_data.specs.declared.program.StructDef.{StructDef}
use Rattle.shape_data.specs.declared.program.Ty.{Ty}
use Rattle.shape_data.specs.declared.program.Ty.TheVariants.{Int}
use Rattle.c_grammar.specs.declared.tokens.places.Refusal.{Refusal}
use Rattle.c_grammar.specs.Trees.{Item, File}
use Rattle.c_types_rules.specs.declared.at.At.{At}
use Rattle.c_types_rules.specs.Types.{Kind}
use Rattle.c_types_rules.specs.Tables.{Structure, Tables, FieldKind, no_tables, joined, declares, declared_by, items_of, structure_in}
use Rattle.c_types_rules.specs.Tables.{field_kinds}
use Rattle.c_types_rules.specs.Statements.{Found, nothing_found, ◌⊹◌}
use Rattle.c_types_rules.specs.Items.{item}

-- what is found in items, and what is declared before them
abbrev pub items : Tables → Tables → List Item → Found
items tables before [] = nothing_found
items tables before (first ∷ others) = item tables before first ⊹ items tables (joined before (declares first)) others

abbrev pub in_unit : ℕ → Refusal → At
in_unit unit refusal = record { unit = unit; refusal = refusal }

-- what is refused in files, the first of which has this number
abbrev pub files_refusals : Tables → Tables → ℕ → List File → List At
files_refusals tables before unit [] = []
files_refusals tables before unit (file ∷ files) =
    map (in_unit unit) (items tables before file.items).refusals
    ++ files_refusals tables (joined before (declared_by file.items)) (suc unit) files

-- the tables of a program
abbrev pub tables_of : List File → Tables
tables_of files = declared_by (items_of files)

-- all that is refused in a program
abbrev pub refusals_of : List File → List At
refusals_of files = files_refusals (tables_of files) no_tables 0 files

-- the program is well typed: nothing is refused in it
abbrev pub IsWellTyped : List File → Type 0
IsWellTyped files = refusals_of files ≡ []

-- the types of all expressions of a program, in the order of the text
abbrev pub kinds_of : List File → List Kind
kinds_of files = (items (tables_of files) no_tables (items_of files)).kinds

-- the type, where it is known; that it is not never comes where nothing is refused
abbrev pub known : Kind → Ty
known (Some kind) = kind
known None = Int

abbrev pub field_def : FieldKind → Field
field_def field = record { name = field.name.text; ty = known field.kind }

abbrev pub struct_def : Tables → Structure → StructDef
struct_def tables found = record { name = found.tag; fields = map field_def (field_kinds tables found.lines) }

-- the structure has a definition among those
abbrev pub is_among : List Structure → Structure → Bool
is_among before found = elim (structure_in before found.tag) [ None ↦ false | Some first ↦ true ]

-- each at its first definition
abbrev pub first_structures : List Structure → List Structure → List Structure
first_structures before [] = []
first_structures before (first ∷ others) =
    if is_among before first then first_structures before others else first ∷ first_structures (before ++ first ∷ []) others

-- the structures of a program, in the order of their first definitions
abbrev pub structs_of : List File → List StructDef
structs_of files = map (struct_def (tables_of files)) (first_structures [] (tables_of files).structures)

-- THE FIRST REFUSAL: by file, then place, then code

abbrev pub stands_before : ℕ → ℕ → Bool → Bool
stands_before one other otherwise = nat_lt one other || ((one == other) && otherwise)

-- the one is no later than the other
abbrev pub is_no_later : At → At → Bool
is_no_later one other =
    stands_before one.unit other.unit
    (stands_before one.refusal.line other.refusal.line
    (stands_before one.refusal.column other.refusal.column (not (nat_lt other.refusal.code one.refusal.code))))

abbrev pub first_by : Bool → At → At → At
first_by true one other = one
first_by false one other = other

abbrev pub earlier : At → Option At → Option At
earlier one None = Some one
earlier one (Some other) = Some (first_by (is_no_later one other) one other)

-- the first of refusals
abbrev pub first_of : List At → Option At
first_of [] = None
first_of (one ∷ others) = earlier one (first_of others)

-- what is refused first in a program
abbrev pub first_refusal : List File → Option At
first_refusal files = first_of (refusals_of files)
