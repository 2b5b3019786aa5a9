-- The JSON forms of types and structures.
use Rattle.std.specs.Prelude.{ℕ, if◌then◌else◌, codes, List, [], ◌∷◌, All, IsUtf8}
use Rattle.std.specs.Str.{bytes_eq}
use Rattle.std.specs.declared.option.Option.{Option}
use Rattle.std.specs.declared.option.Option.TheVariants.{None, Some}
use Rattle.serde_json.specs.Data.{Data, string}
use Rattle.serde_json.specs.Find.{as_str}
use Rattle.shape_data.specs.declared.program.Field.{Field}
use Rattle.shape_data.specs.declared.program.StructDef.{StructDef}
use Rattle.shape_data.specs.declared.program.Ty.{Ty}
use Rattle.shape_data.specs.declared.program.Ty.TheVariants.{Int, Ptr, Void}
use Rattle.flow_json.specs.Forms.{as_list, go_on, list_data, read_list, read_name, tuple}

-- a type: `"int"`, `"void"`, or `["ptr",NAME]`
abbrev pub ty_data : Ty → Data
ty_data Int = string (codes "int")
ty_data Void = string (codes "void")
ty_data (Ptr name) = tuple (string (codes "ptr") ∷ string name ∷ [])

abbrev pub ty_of_word : List ℕ → Option Ty
ty_of_word word = if bytes_eq word (codes "int") then Some Int else (if bytes_eq word (codes "void") then Some Void else None)

abbrev pub pointer_of : Data → List ℕ → Option Ty
pointer_of d word = if bytes_eq word (codes "ptr") then go_on (read_name d) (λ name. Some (Ptr name)) else None

abbrev pub pointer_parts : List Data → Option Ty
pointer_parts (tag ∷ name ∷ []) = go_on (as_str tag) (pointer_of name)
pointer_parts _ = None

abbrev pub ty_by : Option (List ℕ) → Data → Option Ty
ty_by (Some word) d = ty_of_word word
ty_by None d = go_on (as_list d) pointer_parts

abbrev pub read_ty : Data → Option Ty
read_ty d = ty_by (as_str d) d

-- a field: `[FIELD,type]`
abbrev pub field_data : Field → Data
field_data field = tuple (string field.name ∷ ty_data field.ty ∷ [])

abbrev pub field_parts : List Data → Option Field
field_parts (name ∷ ty ∷ []) = go_on (read_name name) (λ name. go_on (read_ty ty) (λ ty. Some (record { name = name; ty = ty })))
field_parts _ = None

abbrev pub read_field : Data → Option Field
read_field d = go_on (as_list d) field_parts

-- a structure: `[NAME,[[FIELD,type],..]]`
abbrev pub struct_data : StructDef → Data
struct_data def = tuple (string def.name ∷ list_data field_data def.fields ∷ [])

abbrev pub struct_parts : List Data → Option StructDef
struct_parts (name ∷ fields ∷ []) =
    go_on (read_name name) (λ name. go_on (read_list read_field fields) (λ fields. Some (record { name = name; fields = fields })))
struct_parts _ = None

abbrev pub read_struct : Data → Option StructDef
read_struct d = go_on (as_list d) struct_parts

-- WHAT CAN BE WRITTEN: JSON has texts alone, so each name must be one (as C names are)

abbrev pub TyIsText : Ty → Type 0
TyIsText Int = Unit {0}
TyIsText (Ptr name) = IsUtf8 name
TyIsText Void = Unit {0}

abbrev pub FieldIsText : Field → Type 0
FieldIsText field = IsUtf8 field.name × TyIsText field.ty

abbrev pub StructIsText : StructDef → Type 0
StructIsText def = IsUtf8 def.name × All FieldIsText def.fields
