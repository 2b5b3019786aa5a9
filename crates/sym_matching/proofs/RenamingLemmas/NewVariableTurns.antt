-- A turn of the search for a free number, and of the list of new variables.
use Rattle.std.proofs.Common.{◌≡◌, ◌∙◌, ℕ, zero, suc, ◌+◌, ◌-◌, ◌<◌, ◌≤◌, Bool, true, false, List, [], ◌∷◌, ◌++◌, refl, sym, ap, arith}
use Rattle.std.proofs.Common.{append_assoc}
use Rattle.std.proofs.lemmas.List.Elements.{All-head, All-tail}
use Rattle.sym_parts.specs.Laws.Fresh.{is_one_of}
use Rattle.sym_matching.specs.NewVariables.{HasRoom, first_free, fresh, fresh_variables}

pub not_below : (turns x : ℕ) (used : List ℕ) → x ≤ first_free turns x used
not_below zero x used = omega arith
not_below (suc turns) x used = by_test (not_below turns (x + 1) used) (is_one_of used x) refl
  where
    by_test : x + 1 ≤ first_free turns (x + 1) used → (b : Bool) → is_one_of used x ≡ b → x ≤ first_free (suc turns) x used
    by_test later true e = rw e (omega arith)
    by_test later false e = rw e (omega arith)

module _ (turns done x : ℕ) (used : List ℕ) (inside : done < turns) where
  turn_left : turns - done ≡ suc (turns - (done + 1))
  turn_left = omega arith

  pub passes_over : is_one_of used x ≡ true → first_free (turns - done) x used ≡ first_free (turns - (done + 1)) (x + 1) used
  passes_over is = rw (turn_left, is) refl

  pub stays_below : is_one_of used x ≡ true → first_free (turns - done) x used < 4294967296 → x + 1 < 4294967296
  stays_below is below =
      let more : first_free (turns - (done + 1)) (x + 1) used < 4294967296 = rw (passes_over is) at below in
      let above : x + 1 ≤ first_free (turns - (done + 1)) (x + 1) used = not_below (turns - (done + 1)) (x + 1) used in
      omega arith

module _ (count done : ℕ) (used : List ℕ) (inside : done < count) where
  count_left : count - done ≡ suc (count - (done + 1))
  count_left = omega arith

  pub one_more : fresh_variables (count - done) used ≡ fresh used ∷ fresh_variables (count - (done + 1)) (used ++ fresh used ∷ [])
  one_more = rw count_left refl

  pub first_below : HasRoom (count - done) used → fresh used < 4294967296
  first_below room =
      let all : HasRoom (suc (count - (done + 1))) used =
      rw count_left at room in All-head (λ x. x < 4294967296) (fresh used)
      (fresh_variables (count - (done + 1)) (used ++ fresh used ∷ [])) all

  pub others_below : HasRoom (count - done) used → HasRoom (count - (done + 1)) (used ++ fresh used ∷ [])
  others_below room =
      let all : HasRoom (suc (count - (done + 1))) used =
      rw count_left at room in All-tail (λ x. x < 4294967296) (fresh used)
      (fresh_variables (count - (done + 1)) (used ++ fresh used ∷ [])) all

  pub turn : (old names now more : List ℕ) → (x : ℕ) →
      (fresh_variables count old ≡ names ++ fresh_variables (count - done) used) × (used ≡ old ++ names) × HasRoom (count - done) used →
      x ≡ fresh used → more ≡ names ++ x ∷ [] → now ≡ used ++ x ∷ [] →
      (fresh_variables count old ≡ more ++ fresh_variables (count - (done + 1)) now) × (now ≡ old ++ more)
      × HasRoom (count - (done + 1)) now
  turn old names now more x (listed, grown, room) is a b =
      let next : now ≡ used ++ fresh used ∷ [] = b ∙ ap (λ y. used ++ y ∷ []) is in
      let far : more ≡ names ++ fresh used ∷ [] = a ∙ ap (λ y. names ++ y ∷ []) is in
      rw (next, far) (
        listed ∙ ap (λ ys. names ++ ys) one_more
            ∙ sym (append_assoc names (fresh used ∷ []) (fresh_variables (count - (done + 1)) (used ++ fresh used ∷ []))),
        ap (λ ys. ys ++ fresh used ∷ []) grown ∙ append_assoc old names (fresh used ∷ []),
        others_below room,
      )
