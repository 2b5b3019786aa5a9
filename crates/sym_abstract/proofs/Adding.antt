-- Counting lists, one after another.
use Rattle.std.specs.Prelude.{◌≡◌, ℕ, suc, ◌+◌, ◌<◌, min, List, [], ◌∷◌, ◌++◌, length}
use Rattle.std.proofs.Common.{add-one, ap₂, arith, drop, drop-cons, get_or, refl, sym, ◌∙◌}
use Rattle.std.proofs.lemmas.List.Sums.{sum_by-append}
use Rattle.shape_data.specs.declared.symbolic.Exp.{Exp}
use Rattle.shape_data.specs.declared.symbolic.Exp.TheVariants.{Var}
use Rattle.abstraction_laws.specs.Occurrences.{times_in}
use Rattle.sym_abstract.specs.Counted.{Adds, Counts, Times, counted}

pub times-append : (e : Exp) (xs ys : List Exp) → times_in e (xs ++ ys) ≡ times_in e xs + times_in e ys
times-append e xs ys = sum_by-append _ xs ys

-- one list, and then another
pub adds-both : (a b c : Times) (xs ys : List Exp) → Adds a b xs → Adds b c ys → Adds a c (xs ++ ys)
adds-both a b c xs ys first second = record {
  adds = λ x n h.
      let now : counted b x ≡ min 3 (n + times_in (Var x) xs) = first.adds x n h in
      let last : counted c x ≡ min 3 (n + times_in (Var x) xs + times_in (Var x) ys) = second.adds x (n + times_in (Var x) xs) now in
      let parts : times_in (Var x) (xs ++ ys) ≡ times_in (Var x) xs + times_in (Var x) ys = times-append (Var x) xs ys in
      omega (arith, last, parts);
}

-- the next element of a list
pub next-is : {A : Type 0} (list : List A) (i : ℕ) (x : A) → i < length list → x ≡ get_or list i x → drop i list ≡ x ∷ drop (i + 1) list
next-is list i x low is = let on : suc i ≡ i + 1 = omega arith in drop-cons list i x low ∙ ap₂ (λ y n. y ∷ drop n list) (sym is) on

-- a turn of a loop over a list, each element of which stands for some expressions
module _ {A : Type 0} (one : A → List Exp) (all : List A → List Exp) (each : (x : A) (xs : List A) → all (x ∷ xs) ≡ one x ++ all xs) where
  counted-next : (start now next last : Times) (x : A) (left rest whole : List A) → left ≡ x ∷ rest →
      (Adds now last (all left) → Adds start last (all whole)) → Adds now next (one x) → Adds next last (all rest) →
      Adds start last (all whole)
  counted-next start now next last x left rest whole is before step later =
      before (rw (is, each x rest) (adds-both now next last (one x) (all rest) step later))

  pub counted-item : (start now next : Times) (list : List A) (i : ℕ) (x : A) → i < length list → x ≡ get_or list i x →
      ((last : Times) → Adds now last (all (drop i list)) → Adds start last (all list)) → Adds now next (one x) →
      (last : Times) → Adds next last (all (drop (i + 1) list)) → Adds start last (all list)
  counted-item start now next list i x low is before step last later =
      counted-next start now next last x (drop i list) (drop (i + 1) list) list (next-is list i x low is) (before last) step later

  pub counted-place : (start now next : Times) (list : List A) (i : ℕ) (d : A) → i < length list →
      ((last : Times) → Adds now last (all (drop i list)) → Adds start last (all list)) → Adds now next (one (get_or list i d)) →
      (last : Times) → Adds next last (all (drop (i + 1) list)) → Adds start last (all list)
  counted-place start now next list i d low before step last later =
      counted-next start now next last (get_or list i d) (drop i list) (drop (i + 1) list) list (rw add-one (drop-cons list i d low))
      (before last) step later

-- counted from nothing
pub counts-all : (empty counts : Times) (es : List Exp) → ((x : ℕ) → counted empty x ≡ 0) → Adds empty counts es → Counts counts es
counts-all empty counts es none h =
    λ x. let zero : counted empty x ≡ 0 =
    none x in let told : counted counts x ≡ min 3 (0 + times_in (Var x) es) = h.adds x 0 (omega (arith, zero)) in omega (arith, told)

-- an empty map counts nothing
pub empty-counts : (counts : Times) → counts.entries ≡ [] → (x : ℕ) → counted counts x ≡ 0
empty-counts counts empty x = rw empty refl
