-- Flags that are set one after another.
use Rattle.std.proofs.Common.{◌≡◌, ℕ, zero, suc, ◌+◌, ◌<◌, ◌≤◌, Bool, true, false, ◌||◌, Some, None, List, [], ◌∷◌, length, drop}
use Rattle.std.proofs.Common.{get_or, set, replicate, refl, sym, ap, ◌∙◌, arith}
use Rattle.std.specs.Prelude.{◌==◌}
use Rattle.std.proofs.lemmas.Bool.{eq-eqb, ne_eqb}
use Rattle.std.proofs.lemmas.List.{at_drop_more, at_drop_all}
use Rattle.c_lower_rules.specs.Marks.{goes_to}
use Rattle.c_lower_marks.specs.Flagged.{flagged}

or_assoc : (a b c : Bool) → (a || (b || c)) ≡ ((a || b) || c)
or_assoc true b c = refl
or_assoc false b c = refl

or_false : (a b : Bool) → b ≡ false → (a || b) ≡ a
or_false true b is = refl
or_false false b is = is

or_true : (a b : Bool) → b ≡ true → true ≡ (a || b)
or_true true b is = refl
or_true false b is = sym is

-- no flag is lost
pub flagged-length : (passes : ℕ → Bool) (slot : ℕ) (flags : List Bool) → length (flagged passes slot flags) ≡ length flags
flagged-length passes slot [] = refl
flagged-length passes slot (flag ∷ flags) = ap suc (flagged-length passes (suc slot) flags)

-- two tests that say the same
pub flagged_same : (one other : ℕ → Bool) → ((n : ℕ) → one n ≡ other n) → (slot : ℕ) (flags : List Bool)
    → flagged one slot flags ≡ flagged other slot flags
flagged_same one other same slot [] = refl
flagged_same one other same slot (flag ∷ flags) =
    ap (λ (b : Bool). (flag || b) ∷ flagged one (suc slot) flags) (same slot)
    ∙ ap (λ (xs : List Bool). (flag || other slot) ∷ xs) (flagged_same one other same (suc slot) flags)

-- one test behind the other
pub flagged_both : (one other : ℕ → Bool) (slot : ℕ) (flags : List Bool)
    → flagged (λ n. one n || other n) slot flags ≡ flagged other slot (flagged one slot flags)
flagged_both one other slot [] = refl
flagged_both one other slot (flag ∷ flags) =
    ap (λ (b : Bool). b ∷ flagged (λ n. one n || other n) (suc slot) flags) (or_assoc flag (one slot) (other slot))
    ∙ ap (λ (xs : List Bool). ((flag || one slot) || other slot) ∷ xs) (flagged_both one other (suc slot) flags)

-- a test that no slot passes
pub flagged_none : (passes : ℕ → Bool) (slot : ℕ) (flags : List Bool)
    → ((n : ℕ) → slot ≤ n → n < slot + length flags → passes n ≡ false) → flagged passes slot flags ≡ flags
flagged_none passes slot [] none = refl
flagged_none passes slot (flag ∷ flags) none =
    ap (λ (b : Bool). b ∷ flagged passes (suc slot) flags) (or_false flag (passes slot) (none slot (omega arith) (omega arith)))
    ∙ ap (λ (xs : List Bool). flag ∷ xs)
    (flagged_none passes (suc slot) flags (λ n least most. none n (omega (arith, least)) (omega (arith, most))))

-- one slot's flag
flagged_one : (slot place : ℕ) (flags : List Bool) → place < length flags
    → set flags place true ≡ flagged (λ n. (slot + place) == n) slot flags
flagged_one slot place [] within = absurd (omega (arith, within))
flagged_one slot zero (flag ∷ flags) within =
    ap (λ (b : Bool). b ∷ flags) (or_true flag ((slot + 0) == slot) (eq-eqb (slot + 0) slot (omega arith)))
    ∙ ap (λ (xs : List Bool). (flag || ((slot + 0) == slot)) ∷ xs)
    (sym (flagged_none (λ n. (slot + 0) == n) (suc slot) flags
    (λ n least most. ne_eqb (slot + 0) n (λ same. omega (arith, least, same)))))
flagged_one slot (suc place) (flag ∷ flags) within =
    ap (λ (b : Bool). b ∷ set flags place true)
    (sym (or_false flag ((slot + suc place) == slot) (ne_eqb (slot + suc place) slot (λ same. omega (arith, same)))))
    ∙ ap (λ (xs : List Bool). (flag || ((slot + suc place) == slot)) ∷ xs)
    (flagged_one (suc slot) place flags (omega (arith, within))
    ∙ ap (λ (m : ℕ). flagged (λ n. m == n) (suc slot) flags) (omega arith))

-- the flag of a slot is set
pub flag_set : (place : ℕ) (flags : List Bool) → place < length flags
    → set flags place true ≡ flagged (goes_to (Some place)) 0 flags
flag_set place flags within =
    flagged_one 0 place flags within ∙ ap (λ (m : ℕ). flagged (λ n. m == n) 0 flags) (omega arith)

-- a slot without a flag
pub flag_lacks : (place : ℕ) (flags : List Bool) → length flags ≤ place → flags ≡ flagged (goes_to (Some place)) 0 flags
flag_lacks place flags lacks =
    sym (flagged_none (goes_to (Some place)) 0 flags
    (λ n least most. ne_eqb place n (λ same. omega (arith, lacks, most, same))))

-- no slot
pub flag_no_slot : (flags : List Bool) → flags ≡ flagged (goes_to None) 0 flags
flag_no_slot flags = sym (flagged_none (goes_to None) 0 flags (λ n least most. refl))

-- what the flag of a slot says, where none was set before
flag_from : (passes : ℕ → Bool) (slot count place : ℕ) → place < count
    → get_or (flagged passes slot (replicate count false)) place false ≡ passes (slot + place)
flag_from passes slot zero place within = absurd (omega (arith, within))
flag_from passes slot (suc count) zero within = ap passes (omega arith)
flag_from passes slot (suc count) (suc place) within =
    flag_from passes (suc slot) count place (omega (arith, within)) ∙ ap passes (omega arith)

pub flag_of : (passes : ℕ → Bool) (count place : ℕ) → place < count
    → get_or (flagged passes 0 (replicate count false)) place false ≡ passes place
flag_of passes count place within = flag_from passes 0 count place within ∙ ap passes (omega arith)

-- what is left of a list, each of whose members has a test
module _ {X : Type 0} (test : X → ℕ → Bool) (tests : List X → ℕ → Bool) where
  -- one more member
  pub flagged_turn : ((x : X) (xs : List X) (n : ℕ) → tests (x ∷ xs) n ≡ (test x n || tests xs n)) → (xs : List X) (i : ℕ) (x : X)
      → i < length xs → x ≡ get_or xs i x → (flags after whole : List Bool) → after ≡ flagged (test x) 0 flags
      → flagged (tests (drop i xs)) 0 flags ≡ whole → flagged (tests (drop (i + 1) xs)) 0 after ≡ whole
  flagged_turn goes xs i x within is flags after whole now known =
      ap (λ (found : List Bool). flagged (tests (drop (i + 1) xs)) 0 found) now
      ∙ sym (flagged_both (test x) (tests (drop (i + 1) xs)) 0 flags)
      ∙ sym (flagged_same (tests (x ∷ drop (i + 1) xs)) (λ n. test x n || tests (drop (i + 1) xs) n) (goes x (drop (i + 1) xs)) 0 flags)
      ∙ ap (λ (y : X). flagged (tests (y ∷ drop (i + 1) xs)) 0 flags) is
      ∙ sym (at_drop_more (λ (ys : List X). flagged (tests ys) 0 flags) xs i x within)
      ∙ known

  -- no more members
  pub flagged_end : ((n : ℕ) → tests [] n ≡ false) → (xs : List X) (i : ℕ) → length xs ≤ i → (flags whole : List Bool)
      → flagged (tests (drop i xs)) 0 flags ≡ whole → flags ≡ whole
  flagged_end none xs i past flags whole known =
      sym (flagged_none (tests []) 0 flags (λ n least most. none n))
      ∙ sym (at_drop_all (λ (ys : List X). flagged (tests ys) 0 flags) xs i past)
      ∙ known
