-- A thing for each of some names.
use Rattle.std.specs.Prelude.{ℕ, ◌+◌, ◌*◌, ◌%◌, Bool, List, [], ◌∷◌, Option, Some, None, is_none, if◌then◌else◌}
use Rattle.std.specs.BTreeMap.{get_by}
use Rattle.std.specs.Cmp.Lexicographic.{slice_cmp}
use Rattle.std.specs.Ordering.{nat_cmp}
use Rattle.std.specs.Str.{bytes_eq}
use Rattle.c_types_names.specs.declared.name_map.First.{First}
use Rattle.c_types_names.specs.declared.name_map.NameMap.{NameMap}

-- a digest, led on by bytes
abbrev pub digest_from : ℕ → List ℕ → ℕ
digest_from number [] = number
digest_from number (x ∷ xs) = digest_from (((number * 131) % 18446744073709551616 + x) % 18446744073709551616) xs

-- a number of 64 bits that is made of a name
abbrev pub digest : List ℕ → ℕ
digest n = digest_from 0 n

-- the thing of the name: that of the first one with its digest, if it is that one, or what was found among the others
abbrev pub first_or : {X : Type 0} → Option (First X) → List ℕ → Option X → Option X
first_or None n other = other
first_or (Some first) n other = if bytes_eq first.name.now n then Some first.thing else other

-- whether it is the first one with its digest, or has no thing and would be it
abbrev pub is_first : {X : Type 0} → Option (First X) → List ℕ → Option X → Bool
is_first None n other = is_none other
is_first (Some first) n other = bytes_eq first.name.now n

-- the thing of the name
abbrev pub named : {X : Type 0} → NameMap X → List ℕ → Option X
named things n =
    first_or (get_by (nat_cmp (digest n)) things.firsts) n (get_by (λ k. slice_cmp nat_cmp n k.now) things.others)

-- what was found, or else the thing where the test passes
abbrev pub or_first : {X : Type 0} → Option X → Bool → X → Option X
or_first None passes x = if passes then Some x else None
or_first (Some found) passes x = Some found

-- the thing where the test passes, or else what was found
abbrev pub or_last : {X : Type 0} → Option X → Bool → X → Option X
or_last found passes x = if passes then Some x else found
