-- Lists of classes, and the first words of lists.
use Rattle.std.proofs.Common.{◌≡◌, ℕ, Bool, true, false, cond, List, [], ◌∷◌, ◌++◌, refl, ap, subst, eq-eqb}
use Rattle.std.specs.Prelude.{◌&&◌, ◌||◌, ◌==◌, not}
use Rattle.std.proofs.lemmas.Bool.{eqb-true}
use Rattle.grammar_laws.specs.Form.{is_in, begins_in, are_in, are_apart}

pub no_truth : {A : Type 0} → false ≡ true → A
no_truth e = absurd (cc)

pub or_left : (a b : Bool) → a ≡ true → (a || b) ≡ true
or_left true b e = refl
or_left false b e = absurd (cc)

pub or_right : (a b : Bool) → b ≡ true → (a || b) ≡ true
or_right true b e = refl
or_right false b e = e

pub or_false_left : (a b : Bool) → (a || b) ≡ false → a ≡ false
or_false_left true b e = absurd (cc)
or_false_left false b e = refl

pub or_false_right : (a b : Bool) → (a || b) ≡ false → b ≡ false
or_false_right true b e = absurd (cc)
or_false_right false b e = e

pub and_left : (a b : Bool) → (a && b) ≡ true → a ≡ true
and_left true b e = refl
and_left false b e = e

pub and_right : (a b : Bool) → (a && b) ≡ true → b ≡ true
and_right true b e = e
and_right false b e = absurd (cc)

pub and_both : (a b : Bool) → a ≡ true → b ≡ true → (a && b) ≡ true
and_both true b e f = f
and_both false b e f = e

pub not_true : (a : Bool) → not a ≡ true → a ≡ false
not_true true e = absurd (cc)
not_true false e = refl

-- a class is not both in a list and not in it
pub in_and_out : {A : Type 0} (b : Bool) → b ≡ true → b ≡ false → A
in_and_out true e f = absurd (cc)
in_and_out false e f = absurd (cc)

pub or_neither : (a b : Bool) → a ≡ false → b ≡ false → (a || b) ≡ false
or_neither true b e f = e
or_neither false b e f = f

or_more : (a b more : Bool) → (b ≡ true → more ≡ true) → (a || b) ≡ true → (a || more) ≡ true
or_more true b more step e = refl
or_more false b more step e = step e

pub out_of_left : (c : ℕ) (xs ys : List ℕ) → is_in c (xs ++ ys) ≡ false → is_in c xs ≡ false
out_of_left c [] ys e = refl
out_of_left c (x ∷ xs) ys e =
    or_neither (x == c) (is_in c xs) (or_false_left (x == c) _ e) (out_of_left c xs ys (or_false_right (x == c) _ e))

pub out_of_right : (c : ℕ) (xs ys : List ℕ) → is_in c (xs ++ ys) ≡ false → is_in c ys ≡ false
out_of_right c [] ys e = e
out_of_right c (x ∷ xs) ys e = out_of_right c xs ys (or_false_right (x == c) _ e)

pub in_left : (c : ℕ) (xs ys : List ℕ) → is_in c xs ≡ true → is_in c (xs ++ ys) ≡ true
in_left c [] ys e = no_truth e
in_left c (x ∷ xs) ys e = or_more (x == c) (is_in c xs) (is_in c (xs ++ ys)) (λ h. in_left c xs ys h) e

pub in_right : (c : ℕ) (xs ys : List ℕ) → is_in c ys ≡ true → is_in c (xs ++ ys) ≡ true
in_right c [] ys e = e
in_right c (x ∷ xs) ys e = or_right (x == c) (is_in c (xs ++ ys)) (in_right c xs ys e)

-- a class of a list that is apart from another is not in the other
pub apart : (c : ℕ) (xs ys : List ℕ) → are_apart xs ys ≡ true → is_in c xs ≡ true → is_in c ys ≡ false
apart c [] ys e f = no_truth f
apart c (x ∷ xs) ys e f = by_test (x == c) refl f (λ g. apart c xs ys (and_right (not (is_in x ys)) _ e) g)
  where
    by_test : (a : Bool) → (x == c) ≡ a → (a || is_in c xs) ≡ true → (is_in c xs ≡ true → is_in c ys ≡ false) → is_in c ys ≡ false
    by_test true same g others =
        subst (λ d. is_in d ys ≡ false) (eqb-true x c same) (not_true (is_in x ys) (and_left (not (is_in x ys)) _ e))
    by_test false other g others = others g

-- a class of the other list is not in the first
pub apart_other : (c : ℕ) (xs ys : List ℕ) → are_apart xs ys ≡ true → is_in c ys ≡ true → is_in c xs ≡ false
apart_other c xs ys e f = by_test (is_in c xs) refl
  where
    by_test : (a : Bool) → is_in c xs ≡ a → a ≡ false
    by_test true g = in_and_out (is_in c ys) f (apart c xs ys e g)
    by_test false g = refl

-- a class of a list is in each list that has all of it
pub within : (c : ℕ) (xs ys : List ℕ) → are_in xs ys ≡ true → is_in c xs ≡ true → is_in c ys ≡ true
within c [] ys e f = no_truth f
within c (x ∷ xs) ys e f = by_test (x == c) refl f (λ g. within c xs ys (and_right (is_in x ys) _ e) g)
  where
    by_test : (a : Bool) → (x == c) ≡ a → (a || is_in c xs) ≡ true → (is_in c xs ≡ true → is_in c ys ≡ true) → is_in c ys ≡ true
    by_test true same g others = subst (λ d. is_in d ys ≡ true) (eqb-true x c same) (and_left (is_in x ys) _ e)
    by_test false other g others = others g

-- what is not in the greater list is not in the smaller one
pub without : (c : ℕ) (xs ys : List ℕ) → are_in xs ys ≡ true → is_in c ys ≡ false → is_in c xs ≡ false
without c xs ys e f = by_test (is_in c xs) refl
  where
    by_test : (a : Bool) → is_in c xs ≡ a → a ≡ false
    by_test true g = in_and_out (is_in c ys) (within c xs ys e g) f
    by_test false g = refl

-- the same of the first word of a list
pub begins_not_left : (xs ys words : List ℕ) → begins_in (xs ++ ys) words ≡ false → begins_in xs words ≡ false
begins_not_left xs ys [] e = refl
begins_not_left xs ys (word ∷ words) e = out_of_left word xs ys e

pub begins_not_right : (xs ys words : List ℕ) → begins_in (xs ++ ys) words ≡ false → begins_in ys words ≡ false
begins_not_right xs ys [] e = refl
begins_not_right xs ys (word ∷ words) e = out_of_right word xs ys e

pub begins_without : (xs ys words : List ℕ) → are_in xs ys ≡ true → begins_in ys words ≡ false → begins_in xs words ≡ false
begins_without xs ys [] e f = refl
begins_without xs ys (word ∷ words) e f = without word xs ys e f

-- a list that is taken where a test holds
pub begins_chosen : (b : Bool) (xs words : List ℕ) → b ≡ true → begins_in (cond b xs []) words ≡ false → begins_in xs words ≡ false
begins_chosen true xs words e f = f
begins_chosen false xs words e f = absurd (cc)

pub in_chosen : (c : ℕ) (b : Bool) (xs : List ℕ) → b ≡ true → is_in c xs ≡ true → is_in c (cond b xs []) ≡ true
in_chosen c true xs e f = f
in_chosen c false xs e f = absurd (cc)

pub eqb_itself : (c : ℕ) → (c == c) ≡ true
eqb_itself c = eq-eqb c c refl

-- both lists are empty, or both begin with the same word
abbrev pub SameFirst : List ℕ → List ℕ → Type 0
SameFirst [] [] = Unit {0}
SameFirst [] (y ∷ ys) = ⊥
SameFirst (x ∷ xs) [] = ⊥
SameFirst (x ∷ xs) (y ∷ ys) = x ≡ y

pub same_first : (words rest other : List ℕ) → SameFirst rest other → SameFirst (words ++ rest) (words ++ other)
same_first [] rest other same = same
same_first (word ∷ words) rest other same = refl

pub begins_same : (classes rest other : List ℕ) → SameFirst rest other → begins_in classes rest ≡ begins_in classes other
begins_same classes [] [] same = refl
begins_same classes [] (y ∷ ys) same = absurd same
begins_same classes (x ∷ xs) [] same = absurd same
begins_same classes (x ∷ xs) (y ∷ ys) same = ap (λ c. is_in c classes) same
