-- Stars, and where no type begins.
use Rattle.std.proofs.Common.{◌≡◌, ℕ, zero, suc, ◌+◌, ◌-◌, ◌≤◌, Bool, true, false, List, [], ◌∷◌, length, refl, sym, ap, ◌∙◌, arith}
use Rattle.c_grammar.specs.declared.tokens.fault.ReadFault.{ReadFault}
use Rattle.c_grammar.specs.declared.class.Class.{Class}
use Rattle.c_grammar.specs.declared.class.Class.TheVariants as class
use Rattle.c_grammar.specs.Words.{Word}
use Rattle.c_grammar.specs.Readers.{class_at, behind, is_class, wrong, read_stars, specifier_by, read_specifier}
use Rattle.c_parse_exprs.specs.Reads.{Halts, wrong_at}
use Rattle.c_parse_exprs.proofs.Steps.{halts_at}

-- so many stars more
abbrev pub with_stars : ℕ → ℕ × List Word → ℕ × List Word
with_stars n more = (n + more.0, more.1)

-- of the stars that the first words begin with, those were passed that these words no longer have
pub record StarsSoFar (from words : List Word) : Type 0 where
  pub room : length words ≤ length from
  pub rest : read_stars (length from) from ≡ with_stars (length from - length words) (read_stars (length words) words)

pub no_stars : (from : List Word) → StarsSoFar from from
no_stars from = record {
  room = omega arith;
  rest = let none : length from - length from + (read_stars (length from) from).0 ≡ (read_stars (length from) from).0 = omega arith in
      ap (λ n. (n, (read_stars (length from) from).1)) (sym none);
}

pub one_star : (from words : List Word) → StarsSoFar from words → is_class class.Star (class_at words) ≡ true
    → StarsSoFar from (behind words)
one_star from [] so seen = absurd (cc)
one_star from (first ∷ others) so seen = record {
  room = omega (arith, so.room);
  rest = so.rest ∙ ap (with_stars (length from - length (first ∷ others))) opened
      ∙ ap (λ n. (n, (read_stars (length others) others).1))
      (counted (length from) (length others) (read_stars (length others) others).0 (omega (arith, so.room)));
}
  where
    opened : read_stars (suc (length others)) (first ∷ others)
        ≡ (suc (read_stars (length others) others).0, (read_stars (length others) others).1)
    opened = rw seen refl

    counted : (f n more : ℕ) → suc n ≤ f → f - suc n + suc more ≡ f - n + more
    counted f n more fits = omega arith

pub all_stars : (from words : List Word) → StarsSoFar from words → is_class class.Star (class_at words) ≡ false
    → read_stars (length from) from ≡ (length from - length words, words)
all_stars from words so none = so.rest ∙ ap (with_stars (length from - length words)) (ends (length words))
    ∙ ap (λ n. (n, words)) (let e : length from - length words + 0 ≡ length from - length words = omega arith in e)
  where
    ends : (times : ℕ) → read_stars times words ≡ (0, words)
    ends zero = refl
    ends (suc times) = rw none refl

no_specifier : (k : Class) (words : List Word) → (k ≡ class.Int → ⊥) → (k ≡ class.Void → ⊥) → (k ≡ class.Struct → ⊥) → (k ≡ class.Name → ⊥)
    → specifier_by k words ≡ wrong words
no_specifier class.Int words i v s n = absurd (i refl)
no_specifier class.Void words i v s n = absurd (v refl)
no_specifier class.Struct words i v s n = absurd (s refl)
no_specifier class.Name words i v s n = absurd (n refl)
no_specifier _ words i v s n = refl

pub specifier_stops : (fault : ReadFault) (words : List Word) (k : Class) → k ≡ class_at words → fault ≡ wrong_at words
    → (k ≡ class.Int → ⊥) → (k ≡ class.Void → ⊥) → (k ≡ class.Struct → ⊥) → (k ≡ class.Name → ⊥) → Halts fault (read_specifier words)
unfolding read_specifier
specifier_stops fault words k is place i v s n =
    halts_at fault _ (record { deep = false; at = words }) (ap (λ c. specifier_by c words) (sym is) ∙ no_specifier k words i v s n) place

-- what a test of the first word's class says
pub seen_class : (begins : Class → Bool) (seen is : Bool) (k : Class) (words : List Word) → seen ≡ begins k → k ≡ class_at words → seen ≡ is
    → begins (class_at words) ≡ is
seen_class begins seen is k words test first same = ap begins (sym first) ∙ sym test ∙ same
