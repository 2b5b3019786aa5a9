-- Whether parameters are well formed, as a test that computes.
use Rattle.std.specs.Prelude.{ℕ, nat_le, nat_lt, Bool, true, ◌&&◌, not, if◌then◌else◌, List, [], ◌∷◌, length, slice_index}
use Rattle.std.specs.List.{list_all, list_any}
use Rattle.std.specs.Str.{bytes_eq}
use Rattle.std.specs.declared.option.Option.{Option}
use Rattle.std.specs.declared.option.Option.TheVariants.{None, Some}
use Rattle.serde_json.specs.Data.{Data}
use Rattle.shape_data.specs.Names.{is_name_byte, is_name_start}
use Rattle.flow_json.specs.Forms.{go_on, read_list, read_name}

-- a C name
abbrev pub is_c_name : List ℕ → Bool
is_c_name name = nat_lt 0 (length name) && is_name_start (slice_index name 0) && list_all is_name_byte name

-- no two of the names are the same
abbrev pub all_differ : List (List ℕ) → Bool
all_differ [] = true
all_differ (name ∷ names) = not (list_any (bytes_eq name) names) && all_differ names

-- few C names, which differ
abbrev pub are_params : List (List ℕ) → Bool
are_params params = nat_le (length params) 32768 && list_all is_c_name params && all_differ params

abbrev pub if_params : List (List ℕ) → Option (List (List ℕ))
if_params params = if are_params params then Some params else None

abbrev pub read_params : Data → Option (List (List ℕ))
read_params d = go_on (read_list read_name d) if_params
