-- What a form avoids is in nothing that it derives.
use Rattle.std.proofs.Common.{◌≡◌, inl, inr, ℕ, Bool, true, false, List, [], ◌∷◌, ◌++◌, refl, sym, subst}
use Rattle.std.specs.Prelude.{◌==◌, ◌||◌}
use Rattle.grammar_laws.specs.Form.{Form, Word, Closed, Nothing, Both, Either, Many, Nearest, Known, is_in, joined, Repeats, Derives}
use Rattle.grammar_laws.specs.Form.{Avoids}
use Rattle.grammar_laws.proofs.Classes.{or_neither}

pub out_of_both : (class : ℕ) (front back : List ℕ) → is_in class front ≡ false → is_in class back ≡ false
    → is_in class (front ++ back) ≡ false
out_of_both class [] back e f = f
out_of_both class (word ∷ front) back e f = by_test (word == class) e (λ g. out_of_both class front back g f)
  where
    by_test : (b : Bool) → (b || is_in class front) ≡ false → (is_in class front ≡ false → is_in class (front ++ back) ≡ false)
        → (b || is_in class (front ++ back)) ≡ false
    by_test true g others = absurd (cc)
    by_test false g others = others g

avoided_many : (class : ℕ) (one : Form) → ((words rest : List ℕ) → Derives one words rest → is_in class words ≡ false)
    → (parts : List (List ℕ)) (rest : List ℕ) → Repeats (Derives one) parts rest → is_in class (joined parts) ≡ false
avoided_many class one avoided_one [] rest repeats = refl
avoided_many class one avoided_one (part ∷ parts) rest repeats =
    out_of_both class part (joined parts) (avoided_one part _ repeats.0) (avoided_many class one avoided_one parts rest repeats.1)

pub avoided : (class : ℕ) (form : Form) → Avoids class form → (words rest : List ℕ) → Derives form words rest → is_in class words ≡ false
avoided class (Word word) avoids words rest derives =
    subst (λ w. is_in class w ≡ false) (sym derives) (or_neither (word == class) false avoids refl)
avoided class (Closed word) avoids words rest derives = absurd derives
avoided class Nothing avoids words rest derives = subst (λ w. is_in class w ≡ false) (sym derives) refl
avoided class (Both one other) avoids words rest (front, back, split, d, e) =
    subst (λ w. is_in class w ≡ false) (sym split)
    (out_of_both class front back (avoided class one avoids.0 front (back ++ rest) d) (avoided class other avoids.1 back rest e))
avoided class (Either one other) avoids words rest (inl d) = avoided class one avoids.0 words rest d
avoided class (Either one other) avoids words rest (inr d) = avoided class other avoids.1 words rest d
avoided class (Many one) avoids words rest (parts, split, repeats) =
    subst (λ w. is_in class w ≡ false) (sym split) (avoided_many class one (avoided class one avoids) parts rest repeats)
avoided class (Nearest word one) avoids words rest (inl (none, ends)) = subst (λ w. is_in class w ≡ false) (sym none) refl
avoided class (Nearest word one) avoids words rest (inr (tail, split, d)) =
    subst (λ w. is_in class w ≡ false) (sym split)
    (or_neither (word == class) (is_in class tail) avoids.0 (avoided class one avoids.1 tail rest d))
avoided class (Known facts one) avoids words rest d = avoided class one avoids words rest d
