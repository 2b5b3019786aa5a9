-- One more atom, of which Junk goes where there was one.
use Rattle.std.specs.Prelude.{◌≡◌, Bool, true, false, ◌||◌, List, [], ◌∷◌, ◌++◌, filter}
use Rattle.std.proofs.Common.{refl, ap, ◌∙◌}
use Rattle.std.specs.List.{list_any}
use Rattle.shape_data.specs.declared.symbolic.Atom.{Atom}
use Rattle.shape_data.specs.declared.symbolic.Atom.TheVariants.{Points, Seg, Junk}
use Rattle.sym_parts.specs.Laws.Junks.{is_junk, is_other}
use Rattle.sym_pure.specs.Redundancy.{one_junk, with_one_junk}

-- behind a Junk
others-push : (atoms : List Atom) (atom : Atom) → filter is_other (atoms ++ atom ∷ []) ≡ with_one_junk (filter is_other atoms) true atom
others-push [] (Points at kind fields) = refl
others-push [] (Seg kind link from to) = refl
others-push [] Junk = refl
others-push (Points at kind fields ∷ atoms) atom = ap (λ rest. Points at kind fields ∷ rest) (others-push atoms atom) ∙ behind atom
  where
    behind : (atom : Atom)
        → Points at kind fields ∷ with_one_junk (filter is_other atoms) true atom
        ≡ with_one_junk (filter is_other (Points at kind fields ∷ atoms)) true atom
    behind (Points a k f) = refl
    behind (Seg k l f t) = refl
    behind Junk = refl
others-push (Seg kind link from to ∷ atoms) atom = ap (λ rest. Seg kind link from to ∷ rest) (others-push atoms atom) ∙ behind atom
  where
    behind : (atom : Atom)
        → Seg kind link from to ∷ with_one_junk (filter is_other atoms) true atom
        ≡ with_one_junk (filter is_other (Seg kind link from to ∷ atoms)) true atom
    behind (Points a k f) = refl
    behind (Seg k l f t) = refl
    behind Junk = refl
others-push (Junk ∷ atoms) atom = others-push atoms atom

-- an atom in front changes nothing behind it
front-push : (first : Atom) (rest : List Atom) (seen : Bool) (atom : Atom)
    → first ∷ with_one_junk rest seen atom ≡ with_one_junk (first ∷ rest) seen atom
front-push first rest seen (Points at kind fields) = refl
front-push first rest seen (Seg kind link from to) = refl
front-push first rest true Junk = refl
front-push first rest false Junk = refl

pub one_junk-push : (atoms : List Atom) (atom : Atom)
    → one_junk (atoms ++ atom ∷ []) ≡ with_one_junk (one_junk atoms) (list_any is_junk atoms) atom
one_junk-push [] (Points at kind fields) = refl
one_junk-push [] (Seg kind link from to) = refl
one_junk-push [] Junk = refl
one_junk-push (Points at kind fields ∷ atoms) atom = ap (λ rest. Points at kind fields ∷ rest) (one_junk-push atoms atom)
    ∙ front-push (Points at kind fields) (one_junk atoms) (list_any is_junk atoms) atom
one_junk-push (Seg kind link from to ∷ atoms) atom = ap (λ rest. Seg kind link from to ∷ rest) (one_junk-push atoms atom)
    ∙ front-push (Seg kind link from to) (one_junk atoms) (list_any is_junk atoms) atom
one_junk-push (Junk ∷ atoms) atom = ap (λ rest. Junk ∷ rest) (others-push atoms atom) ∙ front-push Junk (filter is_other atoms) true atom

pub any_junk-push : (atoms : List Atom) (atom : Atom) → list_any is_junk (atoms ++ atom ∷ []) ≡ (list_any is_junk atoms || is_junk atom)
any_junk-push [] (Points at kind fields) = refl
any_junk-push [] (Seg kind link from to) = refl
any_junk-push [] Junk = refl
any_junk-push (Points at kind fields ∷ atoms) atom = any_junk-push atoms atom
any_junk-push (Seg kind link from to ∷ atoms) atom = any_junk-push atoms atom
any_junk-push (Junk ∷ atoms) atom = refl

pub ruleset junk_steps = (one_junk-push, any_junk-push)
