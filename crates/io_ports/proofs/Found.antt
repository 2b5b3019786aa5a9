-- What a keeper in memory has under a path, and what its map has there.
use Rattle.std.proofs.Common.{◌≡◌, ◌≢◌, ℕ, List, [], ◌∷◌, map, Option, Some, Bool, true, false, cond, if◌then◌else◌, refl, sym, ap, ◌∙◌}
use Rattle.std.specs.Option.{option_map}
use Rattle.std.specs.Map.{lookup}
use Rattle.std.specs.BTreeMap.{BTreeMap, get_by_text, is_at, Updates}
use Rattle.std.specs.Str.{bytes_eq}
use Rattle.std.specs.String.{string_bytes, string_cmp}
use Rattle.std.specs.declared.string.String.{String}
use Rattle.std.specs.Global.{Global, Vec}
use Rattle.std.proofs.lemmas.Bool.{false_from_ne_true}
use Rattle.std.proofs.lemmas.Map.Text.{is_eq-slice_cmp, text_cmp, btree_map_updates_text}
use Rattle.std.proofs.lemmas.Slice.Eq.{bytes_eq-Decides}
use Rattle.io_ports.specs.Places.{Stored, found, stored}

-- the first entry is of the path, or one behind it
by_test : (same : Bool) (bytes : Vec ℕ) (files : List Stored) (path : List ℕ) (there : Option (Vec ℕ))
    → found files path ≡ option_map (λ bytes. bytes.items) there
    → (if same then Some bytes.items else found files path) ≡ option_map (λ bytes. bytes.items) (cond same (Some bytes) there)
by_test true bytes files path there is = refl
by_test false bytes files path there is = is

-- what is found among the map's entries is what the map has
found_in : (entries : List (String Global × Vec ℕ)) (path : List ℕ)
    → found (map stored entries) path ≡ option_map (λ bytes. bytes.items) (lookup (is_at (text_cmp path)) entries)
found_in [] path = refl
found_in (e ∷ es) path =
    rw (is_eq-slice_cmp path (string_bytes e.0)) (by_test (bytes_eq path (string_bytes e.0)) e.1 (map stored es) path _ (found_in es path))

-- the same, of what callers see of the map
pub found_there : (files : BTreeMap (String Global) (Vec ℕ)) (seen : List Stored) → map stored files.entries ≡ seen → (path : List ℕ)
    → found seen path ≡ option_map (λ bytes. bytes.items) (get_by_text files path)
found_there files seen is path = ap (λ list. found list path) (sym is) ∙ found_in files.entries path

module _ (old new : BTreeMap (String Global) (Vec ℕ)) (key : String Global) (value : Vec ℕ)
    (updates : Updates string_cmp old new key (Some value)) where
  -- the path of the key has the value
  pub found_put : (path : List ℕ) → string_bytes key ≡ path → found (map stored new.entries) path ≡ Some value.items
  found_put path is =
      found_in new.entries path
      ∙ ap (option_map (λ bytes. bytes.items)) (btree_map_updates_text (string_bytes key) old new (Some value) updates path
      ∙ ap (λ same. cond same (Some value) (get_by_text old path)) ((bytes_eq-Decides (string_bytes key) path).1 is))

  -- every other path has what it had
  pub found_other : (path other : List ℕ) → string_bytes key ≡ path → other ≢ path
      → (seen : List Stored) → map stored old.entries ≡ seen → found (map stored new.entries) other ≡ found seen other
  found_other path other is differs seen was =
      found_in new.entries other
      ∙ ap (option_map (λ bytes. bytes.items)) (btree_map_updates_text (string_bytes key) old new (Some value) updates other
      ∙ ap (λ same. cond same (Some value) (get_by_text old other))
      (false_from_ne_true _ (λ same. differs (sym ((bytes_eq-Decides (string_bytes key) other).0 same) ∙ is))))
      ∙ sym (found_there old seen was other)
