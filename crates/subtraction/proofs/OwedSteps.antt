-- Facts that are left over take no new variables.
use Rattle.std.proofs.Common.{◌≡◌, ◌∙◌, ℕ, ◌+◌, ◌<◌, Bool, true, false, not, ◌&&◌, List, [], ◌∷◌, refl, sym, ap, subst, arith}
use Rattle.shape_data.specs.declared.symbolic.Exp.{Exp}
use Rattle.shape_data.specs.declared.symbolic.Exp.TheVariants.{Var, Const}
use Rattle.shape_data.specs.declared.symbolic.Fact.TheVariants.{Eq}
use Rattle.sym_parts.specs.Laws.Expressions.{same_exp}
use Rattle.sym_pure.specs.Equations.{read_through}
use Rattle.sym_pure.specs.Sources.{differs}
use Rattle.sym_matching.specs.declared.matching.Matching.{Matching}
use Rattle.sym_matching.specs.declared.matching.Mode.{Mode}
use Rattle.sym_matching.specs.declared.matching.Mode.TheVariants.{Subtract, Abduce}
use Rattle.sym_matching.specs.declared.matching.Owed.{Owed}
use Rattle.sym_matching.specs.declared.matching.Turned.{Turned}
use Rattle.sym_matching.specs.declared.matching.Turned.TheVariants.{On, Stuck}
use Rattle.sym_matching.specs.NewVariables.{HasRoom}
use Rattle.sym_matching.specs.Reading.{is_logical, is_unbound, read}
use Rattle.sym_matching.specs.Steps.{Rules, and_then, bind, miss_fact, whole, with_missing_fact}
use Rattle.sym_matching.specs.WantedFacts.{miss_equation, want_all_owed, want_owed, want_same}
use Rattle.sym_matching.proofs.RoomSteps.{on_then}
use Rattle.matching.proofs.CellTurns.{missed_fact}

-- no new variable is taken
record Same (m n : Matching) : Type 0 where
  used : n.used ≡ m.used
  next : n.next ≡ m.next

Same-refl : (m n : Matching) → n ≡ m → Same m n
Same-refl m n is = record { used = ap (λ (k : Matching). k.used) is; next = ap (λ (k : Matching). k.next) is }

Same-trans : (m k n : Matching) → Same m k → Same k n → Same m n
Same-trans m k n one other = record { used = other.used ∙ one.used; next = other.next ∙ one.next }

same-bound : (m k : Matching) (e f : Exp) → k ≡ bind m e f → Same m k
same-bound m k (Var x) f is = record { used = ap (λ (n : Matching). n.used) is; next = ap (λ (n : Matching). n.next) is }
same-bound m k (Const n) f is = Same-refl m k is

module _ (rules : Rules) where
  same-missed : (number : ℕ) (left right : Exp) (m k : Matching) (mode : Mode) → miss_equation rules number left right m mode ≡ On k
      → Same m k
  same-missed number left right m k Subtract h = cc
  same-missed number left right m k Abduce h =
      let goes : miss_fact rules number (Eq left right) m
      ≡ On k =
      on_then (is_logical left && is_logical right && not (differs (whole rules m) left right))
      (miss_fact rules number (Eq left right) m) number k h in
      let is : k ≡ with_missing_fact m (Eq left right) = missed_fact rules number (Eq left right) m k (sym goes) in
      record { used = ap (λ (n : Matching). n.used) is; next = ap (λ (n : Matching). n.next) is }

  same-same : (number : ℕ) (left right : Exp) (m k : Matching) → want_same rules number left right m ≡ On k → Same m k
  same-same number left right m k h = by_test (same_exp left right) refl
    where
      by_test : (b : Bool) → same_exp left right ≡ b → Same m k
      by_test true e = let is : On m ≡ On k = rw e at h in let same : k ≡ m = cc in Same-refl m k same
      by_test false e = same-missed number left right m k rules.mode (rw e at h)

  same-one : (owed : Owed) (m k : Matching) → want_owed rules owed m ≡ On k → Same m k
  same-one owed m k h = by_test (is_unbound rules.flexible m.binding owed.want) refl
    where
      by_test : (b : Bool) → is_unbound rules.flexible m.binding owed.want ≡ b → Same m k
      by_test true e =
          let is : On (bind m owed.want (read_through rules.facts owed.have)) ≡ On k = rw e at h in
          let same : k ≡ bind m owed.want (read_through rules.facts owed.have) = cc in
          same-bound m k owed.want (read_through rules.facts owed.have) same
      by_test false e = same-same owed.number (read rules.facts m.binding owed.want) (read_through rules.facts owed.have) m k (rw e at h)

  same-all : (owed : List Owed) (m n : Matching) → want_all_owed rules owed m ≡ On n → Same m n
  same-all [] m n h = let same : n ≡ m = cc in Same-refl m n same
  same-all (one ∷ owed) m n h = by_turn (want_owed rules one m) refl h (λ k. same-all owed k n)
    where
      by_turn : (r : Turned) → want_owed rules one m ≡ r → and_then (want_all_owed rules owed) r ≡ On n
          → ((k : Matching) → want_all_owed rules owed k ≡ On n → Same k n) → Same m n
      by_turn (On k) e f later = Same-trans m k n (same-one one m k e) (later k f)
      by_turn (Stuck number) e f later = cc

  pub owed_room : (owed : List Owed) (m n : Matching) (count : ℕ) → want_all_owed rules owed m ≡ On n → HasRoom count m.used
      → HasRoom count n.used
  owed_room owed m n count goes room = subst (HasRoom count) (sym (same-all owed m n goes).used) room

  pub owed_names : (owed : List Owed) (m n : Matching) (count : ℕ) → want_all_owed rules owed m ≡ On n → m.next + count < 4294967296
      → n.next + count < 4294967296
  owed_names owed m n count goes few = let is : n.next ≡ m.next = (same-all owed m n goes).next in omega arith
