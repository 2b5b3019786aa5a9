-- How JSON forms are put together: what a thing is written as, and how it is read.
use Rattle.std.specs.Prelude.{ℕ, ℤ, pos, negsuc, Bool, true, false, if◌then◌else◌, ◌&&◌, int_le, int_lt, nat_le, nat_lt, List, [], ◌∷◌, map}
use Rattle.std.specs.Prelude.{length, is_some, option_and_then, option_map}
use Rattle.std.specs.Str.{bytes_eq}
use Rattle.std.specs.declared.option.Option.{Option}
use Rattle.std.specs.declared.option.Option.TheVariants.{None, Some}
use Rattle.serde_json.specs.Data.{unsigned, Data, null, boolean, number, array, Items, no_items, item, Members, no_members, member}
use Rattle.serde_json.specs.Find.{as_array, as_i64, as_null, as_number, as_object, as_str, as_u64, of_integer}
use Rattle.serde_json.specs.View.{items_of}

-- goes on with what was read, if something was
unfoldable pub go_on : {A B : Type 0} → Option A → (A → Option B) → Option B
go_on None next = None
go_on (Some value) next = next value

-- ARRAYS

-- the array of these
abbrev pub tuple : List Data → Data
tuple ds = array (items_of ds)

-- the items of an array
abbrev pub list_of : Items → List Data
list_of no_items = []
list_of (item d ds) = d ∷ list_of ds

-- what an array is of
abbrev pub as_list : Data → Option (List Data)
as_list d = option_map list_of (as_array d)

-- things in order, each as it is written
abbrev pub list_data : {A : Type 0} → (A → Data) → List A → Data
list_data write things = tuple (map write things)

-- each is read
abbrev pub read_each : {A : Type 0} → (Data → Option A) → List Data → Option (List A)
read_each read [] = Some []
read_each read (d ∷ ds) = go_on (read d) (λ thing. go_on (read_each read ds) (λ things. Some (thing ∷ things)))

-- an array of things
abbrev pub read_list : {A : Type 0} → (Data → Option A) → Data → Option (List A)
read_list read d = go_on (as_list d) (read_each read)

-- OBJECTS

-- the members have these names, in this order
abbrev pub names_are : List (List ℕ) → Members → Bool
names_are [] no_members = true
names_are [] (member key d others) = false
names_are (name ∷ names) no_members = false
names_are (name ∷ names) (member key d others) = bytes_eq key name && names_are names others

-- the members of an object, if it is one and they have these names
abbrev pub are_members : List (List ℕ) → Option Members → Bool
are_members names None = false
are_members names (Some members) = names_are names members

-- the object has these members and no others
abbrev pub has_names : List (List ℕ) → Data → Bool
has_names names d = are_members names (as_object d)

-- an object with these members is read by them
abbrev pub read_object : {A : Type 0} → List (List ℕ) → (Data → Option A) → Data → Option A
read_object names read d = if has_names names d then read d else None

-- NUMBERS AND NAMES

-- a number of 32 bits
abbrev pub count_data : ℕ → Data
count_data n = number (unsigned n)

-- as far as 32 bits go
abbrev pub count_of : ℕ → Option ℕ
count_of n = if nat_lt n 4294967296 then Some n else None

abbrev pub read_count : Data → Option ℕ
read_count d = go_on (option_and_then as_u64 (as_number d)) count_of

-- a number of 32 bits with a sign
abbrev pub int_data : ℤ → Data
int_data z = number (of_integer z)

-- as far as 32 bits with a sign go: one that is not negative, or else one that is
abbrev pub int_of : Option ℕ → Option ℤ → Option ℤ
int_of (Some n) other = if nat_lt n 2147483648 then Some (pos n) else None
int_of None None = None
int_of None (Some z) = if int_le (negsuc 2147483647) z && int_lt z (pos 0) then Some z else None

abbrev pub read_int : Data → Option ℤ
read_int d = int_of (option_and_then as_u64 (as_number d)) (option_and_then as_i64 (as_number d))

-- a truth value
abbrev pub flag_data : Bool → Data
flag_data = boolean

-- nothing, or a thing as it is written
abbrev pub option_data : {A : Type 0} → (A → Data) → Option A → Data
option_data write None = null
option_data write (Some thing) = write thing

abbrev pub read_option : {A : Type 0} → (Data → Option A) → Data → Option (Option A)
read_option read d = if is_some (as_null d) then Some None else go_on (read d) (λ thing. Some (Some thing))

-- a name of 1 to 64 bytes
abbrev pub name_of : List ℕ → Option (List ℕ)
name_of word = if nat_le 1 (length word) && nat_le (length word) 64 then Some word else None

abbrev pub read_name : Data → Option (List ℕ)
read_name d = go_on (as_str d) name_of
