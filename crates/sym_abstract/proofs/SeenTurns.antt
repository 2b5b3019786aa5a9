-- What is seen, turn by turn.
use Rattle.std.specs.Prelude.{◌≡◌, ℕ, zero, suc, ◌+◌, min, Bool, true, false, not, ◌==◌, List, [], ◌∷◌, ◌++◌, filter, length}
use Rattle.std.specs.List.{list_all}
use Rattle.std.proofs.Common.{refl, sym, ap, ap₂, subst, ◌∙◌, arith}
use Rattle.std.proofs.lemmas.Bool.{eqb-true}
use Rattle.std.proofs.lemmas.List.{append-nil}
use Rattle.shape_data.specs.declared.symbolic.Atom.{Atom}
use Rattle.shape_data.specs.declared.symbolic.Atom.TheVariants.{Junk}
use Rattle.shape_data.specs.declared.symbolic.Exp.{Exp}
use Rattle.shape_data.specs.declared.symbolic.Exp.TheVariants.{Var}
use Rattle.sym_canon.specs.Placing.{all_lead_to}
use Rattle.abstraction_laws.specs.Reaching.{is_kept, is_left, keep_reached, see_from, seen_from}
use Rattle.sym_abstract.specs.Counted.{Adds, Counts, Times, counted, is_kept_by}
use Rattle.sym_abstract.proofs.Adding.{times-append}
use Rattle.sym_abstract.proofs.CountedLaws.{all-alike, filter-alike, kept-same}
use Rattle.abstraction_laws.specs.Occurrences.{times_in}

-- where no atom is kept, nothing more is seen
left-all : (seen : List Exp) (left : List Atom) → filter (is_kept seen) left ≡ [] → filter (is_left seen) left ≡ left
left-all seen [] none = refl
left-all seen (atom ∷ left) none = by_test (is_kept seen atom) refl (λ rest. left-all seen left rest)
  where
    by_test : (b : Bool) → is_kept seen atom ≡ b → (filter (is_kept seen) left ≡ [] → filter (is_left seen) left ≡ left) →
        filter (is_left seen) (atom ∷ left) ≡ atom ∷ left
    by_test true e go_on = let some : atom ∷ filter (is_kept seen) left ≡ [] = rw e at none in cc
    by_test false e go_on = let rest : filter (is_kept seen) left ≡ [] = rw e at none in rw e (ap (λ xs. atom ∷ xs) (go_on rest))

see-stays : (turns : ℕ) (seen : List Exp) (left : List Atom) → filter (is_kept seen) left ≡ [] → see_from turns seen left ≡ seen
see-stays zero seen left none = refl
see-stays (suc turns) seen left none = rw (none, left-all seen left none, append-nil seen) (see-stays turns seen left none)

-- what the counts keep is what the list keeps
module _ (counts : Times) (es : List Exp) (are : Counts counts es) where
  kept-alike : (atoms : List Atom) → filter (is_kept_by counts) atoms ≡ filter (is_kept es) atoms
  kept-alike atoms = filter-alike (is_kept_by counts) (is_kept es) (kept-same counts es are) atoms

  left-alike : (atoms : List Atom) → filter (λ atom. not (is_kept_by counts atom)) atoms ≡ filter (is_left es) atoms
  left-alike atoms = filter-alike (λ atom. not (is_kept_by counts atom)) (is_left es) (λ atom. ap not (kept-same counts es are atom)) atoms

-- what is counted is what the definition has seen by now
pub record HasSeen (whole : List Exp) (turns : ℕ) (counts : Times) (left : List Atom) : Type 0 where
  pub es : List Exp
  pub are : Counts counts es
  pub same : whole ≡ see_from turns es left

-- at first
pub seen-first : (counts : Times) (locals : List Exp) (atoms : List Atom) → Counts counts locals →
    HasSeen (seen_from locals atoms) (length atoms) counts atoms
seen-first counts locals atoms are = record { es = locals; are = are; same = refl }

-- where a turn keeps none, all is seen
pub seen-last : (whole : List Exp) (turns : ℕ) (counts : Times) (left kept : List Atom) → HasSeen whole turns counts left →
    kept ≡ filter (is_kept_by counts) left → kept ≡ [] → Counts counts whole
seen-last whole turns counts left kept has is none =
    let nothing : filter (is_kept has.es) left ≡ [] = sym (kept-alike counts has.es has.are left) ∙ (sym is ∙ none) in
    subst (λ es. Counts counts es) (sym (has.same ∙ see-stays turns has.es left nothing)) has.are

-- where no turn is left, all is seen
pub seen-out : (whole : List Exp) (counts : Times) (left : List Atom) → HasSeen whole 0 counts left → Counts counts whole
seen-out whole counts left has = subst (λ es. Counts counts es) (sym has.same) has.are

-- a turn
pub seen-turn : (whole : List Exp) (turns : ℕ) (counts next : Times) (left kept others : List Atom) →
    HasSeen whole (suc turns) counts left → kept ≡ filter (is_kept_by counts) left →
    others ≡ filter (λ atom. not (is_kept_by counts atom)) left → Adds counts next (all_lead_to kept) → HasSeen whole turns next others
seen-turn whole turns counts next left kept others has is rest adds =
    let same_kept : kept ≡ filter (is_kept has.es) left = is ∙ kept-alike counts has.es has.are left in
    let same_left : others ≡ filter (is_left has.es) left = rest ∙ left-alike counts has.es has.are left in
    record {
      es = has.es ++ all_lead_to kept;
      are = λ x.
          let told : counted next x ≡ min 3 (times_in (Var x) has.es + times_in (Var x) (all_lead_to kept)) =
          adds.adds x (times_in (Var x) has.es) (has.are x) in
          let parts : times_in (Var x) (has.es ++ all_lead_to kept) ≡ times_in (Var x) has.es + times_in (Var x) (all_lead_to kept) =
          times-append (Var x) has.es (all_lead_to kept) in
          omega (arith, told, parts);
      same = has.same ∙ ap₂ (λ ks ls. see_from turns (has.es ++ all_lead_to ks) ls) (sym same_kept) (sym same_left);
    }

-- what is kept in the end
module _ (locals : List Exp) (atoms : List Atom) (counts : Times) (are : Counts counts (seen_from locals atoms)) where
  pub kept-all : list_all (is_kept_by counts) atoms ≡ true → atoms ≡ keep_reached locals atoms
  kept-all all = let told : list_all (is_kept (seen_from locals atoms)) atoms
      ≡ true = sym (all-alike (is_kept_by counts) (is_kept (seen_from locals atoms)) (kept-same counts (seen_from locals atoms) are) atoms)
      ∙ all in rw told refl

  pub kept-some : (kept made : List Atom) → list_all (is_kept_by counts) atoms ≡ false → kept ≡ filter (is_kept_by counts) atoms →
      made ≡ kept ++ Junk ∷ [] → made ≡ keep_reached locals atoms
  kept-some kept made some is step =
      let told : list_all (is_kept (seen_from locals atoms)) atoms ≡ false =
      sym (all-alike (is_kept_by counts) (is_kept (seen_from locals atoms)) (kept-same counts (seen_from locals atoms) are) atoms)
      ∙ some in
      rw told (step ∙ ap (λ xs. xs ++ Junk ∷ []) (is ∙ kept-alike counts (seen_from locals atoms) are atoms))

-- no elements
pub no-items : {A : Type 0} (xs : List A) → (length xs == 0) ≡ true → xs ≡ []
no-items [] h = refl
no-items (x ∷ xs) h = let none : length (x ∷ xs) ≡ 0 = eqb-true (length (x ∷ xs)) 0 h in absurd (omega (arith, none))
