-- Lists of names of which no two are the same.
use Rattle.std.proofs.Common.{arith, ◌≡◌, ℕ, Bool, true, false, cond, List, [], ◌∷◌, map, refl}
use Rattle.std.specs.Prelude.{◌≢◌, not}
use Rattle.std.specs.List.{AllByRecursion, AllPairs}
use Rattle.std.specs.Str.{bytes_eq}
use Rattle.std.proofs.lemmas.Slice.Eq.{bytes_eq-Decides}
use Rattle.std.proofs.lemmas.List.Elements.{All-from_recursion}
use Rattle.std.proofs.lemmas.List.Kept.{AllPairs-cons}
use Rattle.shape_data.specs.Names.{HaveDifferentNames}
use Rattle.c_grammar.specs.Trees.{Name}
use Rattle.c_types_rules.specs.Items.{is_listed, twice}
use Rattle.c_lower_rules.specs.Programs.{name_text}
use Rattle.c_types_rules.proofs.KnownTables.{nil_left, nil_right, holds}

abbrev pub Distinct : List (List ℕ) → Type 0
Distinct [] = Unit {0}
Distinct (first ∷ others) = AllByRecursion (λ other. first ≢ other) others × Distinct others

pub all_of_map : {A B : Type 0} (P : B → Type 0) (f : A → B) (xs : List A) → AllByRecursion P (map f xs) → AllByRecursion (λ x. P (f x)) xs
all_of_map P f [] h = tt
all_of_map P f (x ∷ xs) h = (h.0, all_of_map P f xs h.1)

pub map_of_all : {A B : Type 0} (P : B → Type 0) (f : A → B) (xs : List A) → AllByRecursion (λ x. P (f x)) xs → AllByRecursion P (map f xs)
map_of_all P f [] h = tt
map_of_all P f (x ∷ xs) h = (h.0, map_of_all P f xs h.1)

pub all_more : {A : Type 0} (P Q : A → Type 0) → ((x : A) → P x → Q x) → (xs : List A) → AllByRecursion P xs → AllByRecursion Q xs
all_more P Q f [] h = tt
all_more P Q f (x ∷ xs) h = (f x h.0, all_more P Q f xs h.1)

no_pairs : {A : Type 0} (R : A → A → Type 0) → AllPairs R []
no_pairs R = λ i j d i_lt j_lt. absurd (omega arith)

pub different_names : {A : Type 0} (name_of : A → List ℕ) (things : List A) → Distinct (map name_of things)
    → HaveDifferentNames name_of things
different_names name_of [] h = no_pairs (λ one other. name_of one ≢ name_of other)
different_names name_of (first ∷ others) h =
    AllPairs-cons (λ one other. name_of one ≢ name_of other) first others
    (All-from_recursion (λ other. name_of first ≢ name_of other) others (all_of_map (λ other. name_of first ≢ other) name_of others h.0))
    (different_names name_of others h.1)

-- names that are not the same
pub unequal : (one other : List ℕ) → bytes_eq one other ≡ false → one ≢ other
unequal one other e = λ same. clash (bytes_eq one other) e ((bytes_eq-Decides one other).1 same)
  where
    clash : (b : Bool) → b ≡ false → b ≡ true → ⊥
    clash true e f = cc
    clash false e f = cc

pub equal : (one other : List ℕ) → bytes_eq one other ≡ true → one ≡ other
equal one other e = (bytes_eq-Decides one other).0 e

-- NAMES OF WHICH NONE IS REFUSED AS A SECOND

is_not : (b : Bool) → not b ≡ true → b ≡ false
is_not true e = absurd (cc)
is_not false e = refl

-- of a test that failed
pub first_failed : (b : Bool) (other : Bool) → cond b true other ≡ false → (b ≡ false) × (other ≡ false)
first_failed true other e = absurd (cc)
first_failed false other e = (refl, e)

pub none_listed : (before all : List Name) → twice before all ≡ [] → AllByRecursion (λ (n : Name). is_listed before n ≡ false) all
none_listed before [] e = tt
none_listed before (first ∷ others) e = (
  is_not (is_listed before first) (holds _ _ _ (nil_left _ _ e)),
  all_more (λ (n : Name). is_listed (first ∷ before) n ≡ false) (λ (n : Name). is_listed before n ≡ false)
      (λ n h. (first_failed (bytes_eq first.text n.text) (is_listed before n) h).1) others
      (none_listed (first ∷ before) others (nil_right _ _ e)),
)

pub twice_distinct : (before all : List Name) → twice before all ≡ [] → Distinct (map name_text all)
twice_distinct before [] e = tt
twice_distinct before (first ∷ others) e = (
  map_of_all (λ other. first.text ≢ other) name_text others
      (all_more (λ (n : Name). is_listed (first ∷ before) n ≡ false) (λ (n : Name). first.text ≢ n.text)
      (λ n h. unequal first.text n.text (first_failed (bytes_eq first.text n.text) (is_listed before n) h).0) others
      (none_listed (first ∷ before) others (nil_right _ _ e))),
  twice_distinct (first ∷ before) others (nil_right _ _ e),
)
