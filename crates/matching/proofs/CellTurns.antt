-- The rules for a wanted cell that is missing.
use Rattle.std.proofs.Common.{◌≡◌, ◌∙◌, ℕ, zero, suc, ◌+◌, ◌<◌, ◌≤◌, Bool, true, false, ◌||◌, List, [], ◌∷◌, Some, refl, sym, ap, arith}
use Rattle.std.proofs.Common.{get_or, length, slice_get}
use Rattle.shape_data.specs.declared.symbolic.Atom.{Atom}
use Rattle.shape_data.specs.declared.symbolic.Atom.TheVariants.{Points, Seg, Junk}
use Rattle.shape_data.specs.declared.symbolic.Exp.{Exp}
use Rattle.shape_data.specs.declared.symbolic.Exp.TheVariants.{Var, Const}
use Rattle.shape_data.specs.declared.symbolic.Fact.{Fact}
use Rattle.shape_data.specs.declared.symbolic.Fact.TheVariants.{Ne}
use Rattle.sym_matching.specs.declared.matching.Matching.{Matching}
use Rattle.sym_matching.specs.declared.matching.Turned.TheVariants.{On, Stuck}
use Rattle.sym_matching.specs.Reading.{is_unbound}
use Rattle.sym_matching.specs.Steps.{Rules, and_then, bind_new, contradicts, miss_fact, whole, with_missing_fact}
use Rattle.sym_matching.specs.WantedCells.{name_field, take_parted, take_unfolded}

-- where a missing fact makes no contradiction, it is added and nothing else
pub missed_fact : (rules : Rules) (number : ℕ) (fact : Fact) (m n : Matching) → On n ≡ miss_fact rules number fact m
    → n ≡ with_missing_fact m fact
missed_fact rules number fact m n goes =
    by_test (contradicts (whole rules (with_missing_fact m fact)) || contradicts (with_missing_fact m fact).missing) refl
  where
    by_test : (b : Bool) → (contradicts (whole rules (with_missing_fact m fact)) || contradicts (with_missing_fact m fact).missing) ≡ b
        → n ≡ with_missing_fact m fact
    by_test true e = let is : On n ≡ Stuck number = rw e at goes in cc
    by_test false e = let is : On n ≡ On (with_missing_fact m fact) = rw e at goes in cc

new-next : (m : Matching) (e : Exp) → (bind_new m e).next ≡ m.next + 1
new-next m (Var x) = refl
new-next m (Const n) = refl

-- naming a field takes one new logical variable at most
pub named-next : (rules : Rules) (want : Exp) (m n : Matching) → n ≡ name_field rules want m → n.next ≤ m.next + 1
named-next rules want m n is = by_test (is_unbound rules.flexible m.binding want) refl
  where
    by_test : (b : Bool) → is_unbound rules.flexible m.binding want ≡ b → n.next ≤ m.next + 1
    by_test true e = let same : n ≡ bind_new m want = rw e at is in let next : n.next ≡ m.next + 1 = ap (λ (k : Matching). k.next) same
        ∙ new-next m want in omega arith
    by_test false e = let same : n ≡ m = rw e at is in let next : n.next ≡ m.next = ap (λ (k : Matching). k.next) same in omega arith

-- what is read at a place stands there
there : (atoms : List Atom) (place : ℕ) (atom : Atom) → place < length atoms → atom ≡ get_or atoms place atom
    → slice_get atoms place ≡ Some atom
there [] place atom inside is = absurd (omega arith)
there (first ∷ atoms) zero atom inside is = ap Some (sym is)
there (first ∷ atoms) (suc place) atom inside is = there atoms place atom (omega arith) is

pub stands_there : (atoms seen : List Atom) (place : ℕ) (atom : Atom) → seen ≡ atoms → place < length atoms → atom ≡ get_or seen place atom
    → slice_get atoms place ≡ Some atom
stands_there atoms seen place atom same inside is = there atoms place atom inside (is ∙ ap (λ list. get_or list place atom) same)

-- the ends of a segment are made to differ
module _ (rules : Rules) (number : ℕ) (wants : List Exp) (m : Matching) (place : ℕ) where
  module _ (kind : List ℕ) (link : ℕ) (from to : Exp) (is : slice_get m.left place ≡ Some (Seg kind link from to)) where
    pub parted_goes : (n : Matching) → On n ≡ miss_fact rules number (Ne from to) m
        → take_unfolded rules number wants n place (slice_get n.left place)
        ≡ take_parted rules number wants m place (slice_get m.left place)
    parted_goes n goes =
        let added : n ≡ with_missing_fact m (Ne from to) = missed_fact rules number (Ne from to) m n goes in
        let same : slice_get n.left place ≡ Some (Seg kind link from to) = ap (λ (k : Matching). slice_get k.left place) added ∙ is in
        ap (take_unfolded rules number wants n place) same
        ∙ sym (ap (take_parted rules number wants m place) is
        ∙ ap (and_then (λ k. take_unfolded rules number wants k place (Some (Seg kind link from to)))) (sym goes))

    pub parted_stops : (stuck : ℕ) → Stuck stuck ≡ miss_fact rules number (Ne from to) m
        → Stuck stuck ≡ take_parted rules number wants m place (slice_get m.left place)
    parted_stops stuck goes =
        sym (ap (take_parted rules number wants m place) is
        ∙ ap (and_then (λ k. take_unfolded rules number wants k place (Some (Seg kind link from to)))) (sym goes))

  pub not_parted : (atom : Atom) → slice_get m.left place ≡ Some atom
      → ((kind : List ℕ) (link : ℕ) (from to : Exp) → atom ≡ Seg kind link from to → ⊥)
      → Stuck number ≡ take_parted rules number wants m place (slice_get m.left place)
  not_parted (Points at kind fields) is other = sym (ap (take_parted rules number wants m place) is)
  not_parted (Seg kind link from to) is other = absurd (other kind link from to refl)
  not_parted Junk is other = sym (ap (take_parted rules number wants m place) is)
