-- Lists of C names, and the places of words in them.
use Rattle.std.proofs.Common.{◌≡◌, if◌then◌else◌, ℕ, zero, suc, ◌<◌, Bool, true, false, List, [], ◌∷◌, ◌++◌, length, map, get_or, ◌⊎◌, inl}
use Rattle.std.proofs.Common.{inr, refl, sym, ap, ◌∙◌, subst, arith}
use Rattle.std.specs.Prelude.{All}
use Rattle.std.specs.Str.{bytes_eq}
use Rattle.std.proofs.lemmas.List.Elements.{All-head, All-tail}
use Rattle.std.proofs.lemmas.Slice.Eq.{bytes_eq-Decides}
use Rattle.shape_data.specs.Names.{is_name_start, IsCName, HaveDifferentNames}
use Rattle.sym_text.specs.Reading.{place_of}
use Rattle.sym_text.proofs.WordLaws.{Member, AreNames, same_bytes}

-- each is a C name
abbrev pub AreCNames : List (List ℕ) → Type 0
AreCNames [] = Unit {0}
AreCNames (word ∷ words) = IsCName word × AreCNames words

pub c_names : {A : Type 0} (name_of : A → List ℕ) (things : List A) → All (λ (a : A). IsCName (name_of a)) things
    → AreCNames (map name_of things)
c_names name_of [] all = tt
c_names {A} name_of (a ∷ things) all = (
  All-head (λ (a : A). IsCName (name_of a)) a things all,
  c_names name_of things
      (All-tail (λ (a : A). IsCName (name_of a)) a things all),
)

pub are_names : (words : List (List ℕ)) → AreCNames words → AreNames words
are_names [] names = tt
are_names (word ∷ words) names = (names.0.each, are_names words names.1)

pub names_append : (words more : List (List ℕ)) → AreCNames words → AreCNames more → AreCNames (words ++ more)
names_append [] more names more_names = more_names
names_append (word ∷ words) more names more_names = (names.0, names_append words more names.1 more_names)

pub member_c_name : (word : List ℕ) (words : List (List ℕ)) → AreCNames words → Member word words → IsCName word
member_c_name word [] names is = absurd is
member_c_name word (one ∷ words) names (inl same) = subst IsCName same names.0
member_c_name word (one ∷ words) names (inr is) = member_c_name word words names.1 is

-- a C name begins with a letter
pub first_letter : (word : List ℕ) → IsCName word → (byte : ℕ) × (rest : List ℕ) × (word ≡ byte ∷ rest) × (is_name_start byte ≡ true)
first_letter [] name = absurd (omega (arith, name.some))
first_letter (byte ∷ rest) name = (byte, rest, refl, name.first)

-- PLACES

pub place_within : (words : List (List ℕ)) (word : List ℕ) (d : List ℕ) → Member word words
    → (place_of words word < length words) × (get_or words (place_of words word) d ≡ word)
place_within [] word d is = absurd is
place_within (one ∷ words) word d is = by_test (bytes_eq one word) refl is (place_within words word d)
  where
    by_test : (same : Bool) → bytes_eq one word ≡ same → (one ≡ word) ⊎ Member word words
        → (Member word words → (place_of words word < length words) × (get_or words (place_of words word) d ≡ word))
        → ((if same then 0 else suc (place_of words word)) < suc (length words))
        × (get_or (one ∷ words) (if same then 0 else suc (place_of words word)) d ≡ word)
    by_test true same is rest = (omega arith, same_bytes one word same)
    by_test false same (inl is) rest =
        let never = (bytes_eq-Decides one word).1 is in absurd (let no_way : true ≡ false = sym never ∙ same in cc)
    by_test false same (inr is) rest = let (inside, at) = rest is in (omega arith, at)

pub member_at : (words : List (List ℕ)) (i : ℕ) (d : List ℕ) → i < length words → Member (get_or words i d) words
member_at [] i d inside = absurd (omega arith)
member_at (one ∷ words) zero d inside = inl refl
member_at (one ∷ words) (suc i) d inside = inr (member_at words i d (omega arith))

-- words that differ
abbrev pub Differ : List (List ℕ) → Type 0
Differ [] = Unit {0}
Differ (word ∷ words) = (Member word words → ⊥) × Differ words

pub place_at : (words : List (List ℕ)) (i : ℕ) (d : List ℕ) → Differ words → i < length words → place_of words (get_or words i d) ≡ i
place_at [] i d differ inside = absurd (omega arith)
place_at (one ∷ words) zero d differ inside = let same = (bytes_eq-Decides one one).1 refl in rw same refl
place_at (one ∷ words) (suc i) d differ inside =
    by_test (bytes_eq one (get_or words i d)) refl (place_at words i d differ.1 (omega arith))
  where
    by_test : (same : Bool) → bytes_eq one (get_or words i d) ≡ same → place_of words (get_or words i d) ≡ i
        → (if same then 0 else suc (place_of words (get_or words i d))) ≡ suc i
    by_test true same rest =
        absurd (differ.0
        (subst (λ (w : List ℕ). Member w words) (sym (same_bytes one (get_or words i d) same)) (member_at words i d (omega arith))))
    by_test false same rest = ap suc rest

pub differ_from : {A : Type 0} (name_of : A → List ℕ) (things : List A) → HaveDifferentNames name_of things → Differ (map name_of things)
differ_from name_of [] different = tt
differ_from {A} name_of (a ∷ things) different = (
  not_in things (λ j d inside same. different 0 (suc j) d (omega arith) (omega arith) same),
  differ_from name_of things
      (λ i j d below inside. different (suc i) (suc j) d (omega arith) (omega arith)),
)
  where
    not_in : (things : List A) → ((j : ℕ) (d : A) → j < length things → name_of a ≡ name_of (get_or things j d) → ⊥)
        → Member (name_of a) (map name_of things) → ⊥
    not_in [] each is = absurd is
    not_in (b ∷ things) each (inl same) = each 0 a (omega arith) (sym same)
    not_in (b ∷ things) each (inr is) = not_in things (λ j d inside same. each (suc j) d (omega arith) same) is
