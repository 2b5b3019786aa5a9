-- Writing one thing behind another.
use Rattle.std.proofs.Common.{◌≡◌, ℕ, suc, ◌+◌, ◌-◌, ◌<◌, List, ◌∷◌, ◌++◌, Result, Ok, Err, OnOk, length, get_or, drop, sym, ap, ◌∙◌, arith}
use Rattle.std.proofs.lemmas.List.{at_drop_more}
use Rattle.std.specs.Prelude.{codes}
use Rattle.c_grammar.specs.Printing.{Texts, spaced_texts, print_stars}
use Rattle.c_print.specs.Writing.{Prints, PrintsUpTo}

-- two things, one behind the other
pub then : {f g : Texts → Texts} {a b c : List ℕ} → Prints f a b → Prints g b c → Prints (λ behind. f (g behind)) a c
then {g = g} first next = record { shown = λ behind. next.shown behind ∙ first.shown (g behind) }

-- the same, where the second is what a function ends with
pub ends : {T E : Type 0} (g : Texts → Texts) (c : List ℕ) (r : Result T E) {f : Texts → Texts} {a b : List ℕ} → Prints f a b
    → OnOk r (Prints g b c) → OnOk r (Prints (λ behind. f (g behind)) a c)
ends g c (Ok x) first next = then first next
ends g c (Err e) first next = tt

-- a number's worth of stars
pub star : (stars : ℕ) (i : ℕ) → i < stars → {a b c : List ℕ} → PrintsUpTo (print_stars (stars - i)) (print_stars stars) a b
    → Prints (λ behind. codes "*" ∷ behind) b c
    → PrintsUpTo (print_stars (stars - (i + 1))) (print_stars stars) a c
star stars i below {b = b} before now =
    let more : stars - i ≡ suc (stars - (i + 1)) = omega arith in
    record {
      shown = λ behind.
          now.shown (print_stars (stars - (i + 1)) behind)
          ∙ ap (λ n. b ++ spaced_texts (print_stars n behind)) (sym more)
          ∙ before.shown behind;
    }

-- a turn of a loop over a list: `step` says how the first of a list is printed
pub turn : {X : Type 0} (all : List X → Texts → Texts) (one : X → Texts → Texts)
    → ((x : X) (xs : List X) (behind : Texts) → all (x ∷ xs) behind ≡ one x (all xs behind))
    → (xs : List X) (i : ℕ) (x : X) → i < length xs → {a b c : List ℕ} → PrintsUpTo (all (drop i xs)) (all xs) a b
    → Prints (one (get_or xs i x)) b c → PrintsUpTo (all (drop (i + 1) xs)) (all xs) a c
turn all one step xs i x within {b = b} before now = record {
  shown = λ behind.
      now.shown (all (drop (i + 1) xs) behind)
      ∙ ap (λ texts. b ++ spaced_texts texts)
      (sym (at_drop_more (λ ys. all ys behind) xs i x within ∙ step (get_or xs i x) (drop (i + 1) xs) behind))
      ∙ before.shown behind;
}

-- another way to say what is printed
pub same : {T E : Type 0} (f g : Texts → Texts) (a b : List ℕ) (r : Result T E) → ((behind : Texts) → f behind ≡ g behind)
    → OnOk r (Prints f a b) → OnOk r (Prints g a b)
same f g a b (Ok x) is now = record { shown = λ behind. now.shown behind ∙ ap (λ texts. a ++ spaced_texts texts) (is behind) }
same f g a b (Err e) is now = tt

-- another tree that is the same
pub at_same : {A : Type 0} (print : A → Texts → Texts) (t u : A) → t ≡ u → (a b : List ℕ) → Prints (print t) a b → Prints (print u) a b
at_same print t u is a b now = record { shown = λ behind. now.shown behind ∙ ap (λ v. a ++ spaced_texts (print v behind)) is }

pub at_tree : {A T E : Type 0} (print : A → Texts → Texts) (t u : A) → t ≡ u → (a b : List ℕ) (r : Result T E)
    → OnOk r (Prints (print t) a b) → OnOk r (Prints (print u) a b)
at_tree print t u is a b (Ok x) now = at_same print t u is a b now
at_tree print t u is a b (Err e) now = tt
