-- Bytes of lists, and lists that begin one text.
use Rattle.std.proofs.Common.{◌≡◌, ◌≢◌, ℕ, ◌≤◌, Bool, true, false, List, [], ◌∷◌, ◌++◌, length, refl, sym, ap, ◌∙◌, arith}
use Rattle.std.specs.Prelude.{◌==◌}
use Rattle.std.specs.List.{list_all}
use Rattle.c_grammar.proofs.TokensLemmas.Booleans.{both_true, true_both}
use Rattle.std.proofs.lemmas.Bool.Decides.{nat_tests}

pub heads : {a b : ℕ} {xs ys : List ℕ} → a ∷ xs ≡ b ∷ ys → a ≡ b
heads e = cc

pub tails : {a b : ℕ} {xs ys : List ℕ} → a ∷ xs ≡ b ∷ ys → xs ≡ ys
tails e = cc

pub differ : (a b : ℕ) → (a == b) ≡ false → a ≢ b
differ a b e = λ same. grind (arith, nat_tests)

-- what holds of all bytes holds of one
pub in_all : (p : ℕ → Bool) (front : List ℕ) (b : ℕ) (back : List ℕ) → list_all p (front ++ b ∷ back) ≡ true → p b ≡ true
in_all p [] b back e = (both_true (p b) (list_all p back) e).0
in_all p (x ∷ front) b back e = in_all p front b back (both_true (p x) (list_all p (front ++ b ∷ back)) e).1

pub all_append : (p : ℕ → Bool) (xs ys : List ℕ) → list_all p xs ≡ true → list_all p ys ≡ true → list_all p (xs ++ ys) ≡ true
all_append p [] ys f g = g
all_append p (x ∷ xs) ys f g =
    let both = both_true (p x) (list_all p xs) f in true_both (p x) (list_all p (xs ++ ys)) both.0 (all_append p xs ys both.1 g)

-- of two lists that begin one text, the shorter one begins the longer one
pub shorter_first : (xs ys us vs : List ℕ) → length xs ≤ length us → xs ++ ys ≡ us ++ vs
    → (mid : List ℕ) × (us ≡ xs ++ mid) × (ys ≡ mid ++ vs)
shorter_first [] ys us vs short e = (us, refl, e)
shorter_first (x ∷ xs) ys [] vs short e = absurd (omega arith)
shorter_first (x ∷ xs) ys (u ∷ us) vs short e =
    let (mid, front, back) = shorter_first xs ys us vs (omega arith) (tails e) in
    (mid, ap (λ h. h ∷ us) (sym (heads e)) ∙ ap (λ l. x ∷ l) front, back)
