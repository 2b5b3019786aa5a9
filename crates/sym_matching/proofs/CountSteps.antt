-- How much the steps of a match make.
use Rattle.std.specs.Prelude.{◌≡◌, ℕ, zero, suc, ◌+◌, ◌≤◌, ◌==◌, Bool, true, false, not, ◌&&◌, ◌||◌, if◌then◌else◌, List, [], ◌∷◌, ◌++◌}
use Rattle.std.specs.Prelude.{length, map, position, slice_get}
use Rattle.std.specs.List.{insert, list_all, list_any, remove}
use Rattle.std.specs.Str.{bytes_eq}
use Rattle.std.specs.declared.option.Option.{Option}
use Rattle.std.specs.declared.option.Option.TheVariants.{None, Some}
use Rattle.std.proofs.Common.{refl, sym, ap, subst, ◌∙◌, arith}
use Rattle.std.proofs.lemmas.Bool.{and_parts, eq-eqb, eqb-true}
use Rattle.std.proofs.lemmas.List.{length_push}
use Rattle.std.proofs.lemmas.List.Edits.{length-remove}
use Rattle.std.proofs.lemmas.Option.{slice_get_within}
use Rattle.shape_data.specs.declared.symbolic.Atom.{Atom}
use Rattle.shape_data.specs.declared.symbolic.Atom.TheVariants.{Points, Seg, Junk}
use Rattle.shape_data.specs.declared.symbolic.Exp.{Exp}
use Rattle.shape_data.specs.declared.symbolic.Exp.TheVariants.{Var, Const}
use Rattle.shape_data.specs.declared.symbolic.Fact.{Fact}
use Rattle.shape_data.specs.declared.symbolic.Fact.TheVariants.{Eq, Ne}
use Rattle.sym_parts.specs.Laws.Expressions.{same_exp}
use Rattle.sym_parts.specs.Laws.Fresh.{is_one_of}
use Rattle.sym_canon.specs.Placing.{is_cell_at}
use Rattle.sym_pure.specs.Equations.{read_through}
use Rattle.sym_pure.specs.Sources.{differs}
use Rattle.sym_matching.specs.declared.matching.Matching.{Matching}
use Rattle.sym_matching.specs.declared.matching.Mode.{Mode}
use Rattle.sym_matching.specs.declared.matching.Mode.TheVariants.{Subtract, Abduce}
use Rattle.sym_matching.specs.declared.matching.Owed.{Owed}
use Rattle.sym_matching.specs.declared.matching.Turned.{Turned}
use Rattle.sym_matching.specs.declared.matching.Turned.TheVariants.{On, Stuck}
use Rattle.sym_matching.specs.NewVariables.{fresh_variables}
use Rattle.sym_matching.specs.Reading.{bound_to, is_logical, is_logical_variable, is_none, is_unbound, read}
use Rattle.sym_matching.specs.Rooms.{fields_of}
use Rattle.sym_matching.specs.Steps.{Rules, and_then, bind, bind_new, miss_atom, miss_fact, owe, take_atom, unfold_at, whole}
use Rattle.sym_matching.specs.Steps.{with_missing_atom, with_missing_fact}
use Rattle.sym_matching.specs.WantedAtoms.{want_atom}
use Rattle.sym_matching.specs.WantedCells.{cell_place, is_atom_from, is_to_unfold, miss_cell, miss_named, name_field, name_fields, part_at}
use Rattle.sym_matching.specs.WantedCells.{place_to_part, take_cell, take_field, take_fields, take_parted, take_unfolded, unfold_place}
use Rattle.sym_matching.specs.WantedFacts.{miss_disequality, miss_equation, want_all_owed, want_apart, want_equal, want_fact, want_facts}
use Rattle.sym_matching.specs.WantedFacts.{want_owed, want_same}
use Rattle.sym_matching.specs.WantedSegments.{bind_end, miss_segment, next_of, piece, piece_at, reach, take_piece, walk, want_segment}
use Rattle.sym_matching.proofs.ReadingLaws.{bound_to-new, bound_to-push, none_of}
use Rattle.sym_matching.proofs.RoomSteps.{on_then}
use Rattle.sym_matching.proofs.SettleLaws.{unless-on}

-- ---- the flexible variables that are unbound

abbrev one_if : Bool → ℕ
one_if true = 1
one_if false = 0

-- how many there are
abbrev pub unbound_of : List ℕ → List (ℕ × Exp) → ℕ
unbound_of [] binding = 0
unbound_of (x ∷ xs) binding = one_if (is_none (bound_to binding x)) + unbound_of xs binding

one_at_most : (b : Bool) → one_if b ≤ 1
one_at_most true = omega arith
one_at_most false = omega arith

-- no more than all
pub unbound-few : (xs : List ℕ) (binding : List (ℕ × Exp)) → unbound_of xs binding ≤ length xs
unbound-few [] binding = omega arith
unbound-few (x ∷ xs) binding =
    let one : one_if (is_none (bound_to binding x)) ≤ 1 = one_at_most (is_none (bound_to binding x)) in
    let later : unbound_of xs binding ≤ length xs = unbound-few xs binding in
    omega arith

stays_bound : (binding : List (ℕ × Exp)) (bound : ℕ × Exp) (y : ℕ) →
    one_if (is_none (bound_to (binding ++ bound ∷ []) y)) ≤ one_if (is_none (bound_to binding y))
stays_bound binding bound y = by_bound (bound_to binding y) refl
  where
    by_bound : (o : Option Exp) → bound_to binding y ≡ o →
        one_if (is_none (bound_to (binding ++ bound ∷ []) y)) ≤ one_if (is_none (bound_to binding y))
    by_bound None is = rw is (one_at_most (is_none (bound_to (binding ++ bound ∷ []) y)))
    by_bound (Some e) is = rw (bound_to-push binding bound y e is, is) (omega arith)

unbound-grown : (xs : List ℕ) (binding : List (ℕ × Exp)) (bound : ℕ × Exp) → unbound_of xs (binding ++ bound ∷ []) ≤ unbound_of xs binding
unbound-grown [] binding bound = omega arith
unbound-grown (y ∷ ys) binding bound =
    let one : one_if (is_none (bound_to (binding ++ bound ∷ []) y)) ≤ one_if (is_none (bound_to binding y)) = stays_bound binding bound y in
    let later : unbound_of ys (binding ++ bound ∷ []) ≤ unbound_of ys binding = unbound-grown ys binding bound in
    omega arith

-- one less where one of them is bound
unbound-less : (xs : List ℕ) (binding : List (ℕ × Exp)) (x : ℕ) (e : Exp) → is_one_of xs x ≡ true → is_none (bound_to binding x) ≡ true →
    unbound_of xs (binding ++ (x, e) ∷ []) + 1 ≤ unbound_of xs binding
unbound-less [] binding x e is none = cc
unbound-less (y ∷ ys) binding x e is none = by_test (x == y) refl (unbound-less ys binding x e)
  where
    by_test : (b : Bool) → (x == y) ≡ b →
        (is_one_of ys x ≡ true → is_none (bound_to binding x) ≡ true → unbound_of ys (binding ++ (x, e) ∷ []) + 1 ≤ unbound_of ys binding) →
        unbound_of (y ∷ ys) (binding ++ (x, e) ∷ []) + 1 ≤ unbound_of (y ∷ ys) binding
    by_test true f later =
        let same : x ≡ y = eqb-true x y f in
        let new : bound_to (binding ++ (x, e) ∷ []) x ≡ Some e =
        bound_to-new binding (x, e) x (none_of (bound_to binding x) none) (eq-eqb x x refl) in
        let before_x : one_if (is_none (bound_to binding x)) ≡ 1 = ap one_if none in
        let after_x : one_if (is_none (bound_to (binding ++ (x, e) ∷ []) x)) ≡ 0 = ap (λ o. one_if (is_none o)) new in
        let before : one_if (is_none (bound_to binding y)) ≡ 1 = subst (λ z. one_if (is_none (bound_to binding z)) ≡ 1) same before_x in
        let after : one_if (is_none (bound_to (binding ++ (x, e) ∷ []) y)) ≡ 0 =
        subst (λ z. one_if (is_none (bound_to (binding ++ (x, e) ∷ []) z)) ≡ 0) same after_x in
        let others : unbound_of ys (binding ++ (x, e) ∷ []) ≤ unbound_of ys binding = unbound-grown ys binding (x, e) in
        omega arith
    by_test false f later =
        let rest : is_one_of ys x ≡ true = rw f at is in
        let less : unbound_of ys (binding ++ (x, e) ∷ []) + 1 ≤ unbound_of ys binding = later rest none in
        let one : one_if (is_none (bound_to (binding ++ (x, e) ∷ []) y)) ≤ one_if (is_none (bound_to binding y)) =
        stays_bound binding (x, e) y in
        omega arith

-- ---- what is made from one place of a match to another

-- no more bindings than flexible variables are no longer unbound; no more atoms are left; at most so many atoms, and so many parts, are
-- missing
-- besides; and at most so many facts are left over besides
pub record Makes (rules : Rules) (atoms parts facts : ℕ) (m n : Matching) : Type 0 where
  pub bindings : length n.binding + unbound_of rules.flexible n.binding ≤ length m.binding + unbound_of rules.flexible m.binding
  pub left : length n.left ≤ length m.left
  pub missing_atoms : length n.missing.spatial ≤ length m.missing.spatial + atoms
  pub missing_parts : length n.missing.pure + length n.missing.spatial ≤ length m.missing.pure + length m.missing.spatial + parts
  pub owed : length n.owed ≤ length m.owed + facts

pub makes-none : (rules : Rules) (atoms parts facts : ℕ) (m n : Matching) → m ≡ n → Makes rules atoms parts facts m n
makes-none rules atoms parts facts m n same =
    subst (λ (k : Matching). Makes rules atoms parts facts m k) same
    (record { bindings = omega arith; left = omega arith; missing_atoms = omega arith; missing_parts = omega arith; owed = omega arith })

-- one after the other
pub makes-both : (rules : Rules) (atoms parts facts one_atoms one_parts one_facts more_atoms more_parts more_facts : ℕ) (m k n : Matching) →
    one_atoms + more_atoms ≤ atoms → one_parts + more_parts ≤ parts → one_facts + more_facts ≤ facts →
    Makes rules one_atoms one_parts one_facts m k → Makes rules more_atoms more_parts more_facts k n → Makes rules atoms parts facts m n
makes-both rules atoms parts facts one_atoms one_parts one_facts more_atoms more_parts more_facts m k n few_atoms few_parts few_facts one
    more =
    let one_bindings : length k.binding + unbound_of rules.flexible k.binding ≤ length m.binding + unbound_of rules.flexible m.binding =
    one.bindings in
    let more_bindings : length n.binding + unbound_of rules.flexible n.binding ≤ length k.binding + unbound_of rules.flexible k.binding =
    more.bindings in
    let one_left : length k.left ≤ length m.left = one.left in
    let more_left : length n.left ≤ length k.left = more.left in
    let one_missing : length k.missing.spatial ≤ length m.missing.spatial + one_atoms = one.missing_atoms in
    let more_missing : length n.missing.spatial ≤ length k.missing.spatial + more_atoms = more.missing_atoms in
    let one_in_all : length k.missing.pure + length k.missing.spatial ≤ length m.missing.pure + length m.missing.spatial + one_parts =
    one.missing_parts in
    let more_in_all : length n.missing.pure + length n.missing.spatial ≤ length k.missing.pure + length k.missing.spatial + more_parts =
    more.missing_parts in
    let one_owed : length k.owed ≤ length m.owed + one_facts = one.owed in
    let more_owed : length n.owed ≤ length k.owed + more_facts = more.owed in
    record { bindings = omega arith; left = omega arith; missing_atoms = omega arith; missing_parts = omega arith; owed = omega arith }

-- no less
pub makes-more : (rules : Rules) (atoms parts facts fewer_atoms fewer_parts fewer_facts : ℕ) (m n : Matching) → fewer_atoms ≤ atoms →
    fewer_parts ≤ parts → fewer_facts ≤ facts → Makes rules fewer_atoms fewer_parts fewer_facts m n →
    Makes rules atoms parts facts m n
makes-more rules atoms parts facts fewer_atoms fewer_parts fewer_facts m n few_atoms few_parts few_facts one =
    makes-both rules atoms parts facts fewer_atoms fewer_parts fewer_facts 0 0 0 m n n (omega arith) (omega arith) (omega arith) one
    (makes-none rules 0 0 0 n n refl)

module _ (rules : Rules) where
  -- ---- the steps

  bind-makes : (m : Matching) (e f : Exp) → is_unbound rules.flexible m.binding e ≡ true → Makes rules 0 0 0 m (bind m e f)
  bind-makes m (Var x) f unbound =
      let parts = and_parts (is_one_of rules.flexible x) (is_none (bound_to m.binding x)) unbound in
      let more : length (m.binding ++ (x, f) ∷ []) ≡ length m.binding + 1 = length_push m.binding (x, f) in
      let less : unbound_of rules.flexible (m.binding ++ (x, f) ∷ []) + 1 ≤ unbound_of rules.flexible m.binding =
      unbound-less rules.flexible m.binding x f parts.0 parts.1 in
      record { bindings = omega arith; left = omega arith; missing_atoms = omega arith; missing_parts = omega arith; owed = omega arith }
  bind-makes m (Const n) f unbound = cc

  owe-makes : (m : Matching) (number : ℕ) (want have : Exp) → Makes rules 0 0 1 m (owe m number want have)
  owe-makes m number want have =
      let more : length (m.owed ++ record { number = number; want = want; have = have } ∷ []) ≡ length m.owed + 1 =
      length_push m.owed (record { number = number; want = want; have = have }) in
      record { bindings = omega arith; left = omega arith; missing_atoms = omega arith; missing_parts = omega arith; owed = omega arith }

  take_atom-makes : (m : Matching) (place : ℕ) (atom : Atom) → slice_get m.left place ≡ Some atom →
      Makes rules 0 0 0 m (take_atom m place atom)
  take_atom-makes m place atom is =
      let shorter : length (remove m.left place) + 1 ≡ length m.left = length-remove m.left place (slice_get_within m.left place atom is) in
      record { bindings = omega arith; left = omega arith; missing_atoms = omega arith; missing_parts = omega arith; owed = omega arith }

  inserted : {A : Type 0} (xs : List A) (place : ℕ) (x : A) → length (insert xs place x) ≤ length xs + 1
  inserted [] zero x = omega arith
  inserted [] (suc place) x = omega arith
  inserted (y ∷ ys) zero x = omega arith
  inserted (y ∷ ys) (suc place) x = let later : length (insert ys place x) ≤ length ys + 1 = inserted ys place x in omega arith

  unfold-makes : (m : Matching) (place : ℕ) (kind : List ℕ) (link : ℕ) (from to : Exp) (names : List ℕ) →
      slice_get m.left place ≡ Some (Seg kind link from to) → Makes rules 0 0 0 m (unfold_at m place kind link from to names)
  unfold-makes m place kind link from to names is =
      let shorter : length (remove m.left place) + 1 ≡ length m.left =
      length-remove m.left place (slice_get_within m.left place (Seg kind link from to) is) in
      let back : (atom : Atom) → length (insert (remove m.left place) place atom) ≤ length (remove m.left place) + 1 =
      λ atom. inserted (remove m.left place) place atom in
      record {
        bindings = omega arith;
        left = as_long (λ atom. length (insert (remove m.left place) place atom)) back;
        missing_atoms = omega arith;
        missing_parts = omega arith;
        owed = omega arith;
      }
    where
      as_long : (counted : Atom → ℕ) → ((atom : Atom) → counted atom ≤ length (remove m.left place) + 1) → {atom : Atom} →
          counted atom ≤ length m.left
      as_long counted each {atom} =
          let shorter : length (remove m.left place) + 1 ≡ length m.left =
          length-remove m.left place (slice_get_within m.left place (Seg kind link from to) is) in
          let one : counted atom ≤ length (remove m.left place) + 1 = each atom in
          omega arith

  miss_fact-makes : (m n : Matching) (number : ℕ) (fact : Fact) → miss_fact rules number fact m ≡ On n → Makes rules 0 1 0 m n
  miss_fact-makes m n number fact h =
      let more : length (m.missing.pure ++ fact ∷ []) ≡ length m.missing.pure + 1 = length_push m.missing.pure fact in
      let made : Makes rules 0 1 0 m (with_missing_fact m fact) =
      record {
        bindings = omega arith;
        left = omega arith;
        missing_atoms = omega arith;
        missing_parts = omega arith;
        owed = omega arith;
      } in
      subst (λ (k : Matching). Makes rules 0 1 0 m k) (sym (unless-on rules number (with_missing_fact m fact) n h)) made

  miss_atom-makes : (m n : Matching) (number : ℕ) (atom : Atom) → miss_atom rules number atom m ≡ On n → Makes rules 1 1 0 m n
  miss_atom-makes m n number atom h =
      let more : length (m.missing.spatial ++ atom ∷ []) ≡ length m.missing.spatial + 1 = length_push m.missing.spatial atom in
      let made : Makes rules 1 1 0 m (with_missing_atom m atom) =
      record {
        bindings = omega arith;
        left = omega arith;
        missing_atoms = omega arith;
        missing_parts = omega arith;
        owed = omega arith;
      } in
      subst (λ (k : Matching). Makes rules 1 1 0 m k) (sym (unless-on rules number (with_missing_atom m atom) n h)) made

  bind_new-makes : (m : Matching) (e : Exp) → is_unbound rules.flexible m.binding e ≡ true → Makes rules 0 0 0 m (bind_new m e)
  bind_new-makes m (Var x) unbound =
      let bound : Makes rules 0 0 0 m (bind m (Var x) (Var m.next)) = bind-makes m (Var x) (Var m.next) unbound in
      record {
        bindings = bound.bindings;
        left = bound.left;
        missing_atoms = bound.missing_atoms;
        missing_parts = bound.missing_parts;
        owed = bound.owed;
      }
  bind_new-makes m (Const n) unbound = cc

  same-makes : (atoms parts facts : ℕ) (m n : Matching) → On m ≡ On n → Makes rules atoms parts facts m n
  same-makes atoms parts facts m n h = let is_n : m ≡ n = cc in makes-none rules atoms parts facts m n is_n

  -- what is made from m to a place that the match goes on with
  goes-makes : (atoms parts facts : ℕ) (m k n : Matching) → On k ≡ On n → Makes rules atoms parts facts m k →
      Makes rules atoms parts facts m n
  goes-makes atoms parts facts m k n h made = let is_n : k ≡ n = cc in subst (λ (j : Matching). Makes rules atoms parts facts m j) is_n made

  either-makes : (atoms parts facts : ℕ) (m : Matching) (b : Bool) (x y : Turned) (n : Matching) →
      (x ≡ On n → Makes rules atoms parts facts m n) → (y ≡ On n → Makes rules atoms parts facts m n) → (if b then x else y) ≡ On n →
      Makes rules atoms parts facts m n
  either-makes atoms parts facts m true x y n one other h = one h
  either-makes atoms parts facts m false x y n one other h = other h

  module _ (number : ℕ) where
    -- ---- a wanted cell

    take_field-makes : (want have : Exp) (m : Matching) → Makes rules 0 0 1 m (take_field rules number want have m)
    take_field-makes want have m = by_test (is_unbound rules.flexible m.binding want) refl
      where
        by_test : (b : Bool) → is_unbound rules.flexible m.binding want ≡ b →
            Makes rules 0 0 1 m (if b then bind m want have else owe m number want have)
        by_test true e =
            makes-more rules 0 0 1 0 0 0 m (bind m want have) (omega arith) (omega arith) (omega arith) (bind-makes m want have e)
        by_test false e = owe-makes m number want have

    take_fields-makes : (wants haves : List Exp) (m : Matching) → Makes rules 0 0 (length wants) m (take_fields rules number wants haves m)
    take_fields-makes [] haves m = makes-none rules 0 0 0 m m refl
    take_fields-makes (want ∷ wants) [] m = makes-none rules 0 0 (length (want ∷ wants)) m m refl
    take_fields-makes (want ∷ wants) (have ∷ haves) m =
        let k : Matching = take_field rules number want have m in
        makes-both rules 0 0 (length (want ∷ wants)) 0 0 1 0 0 (length wants) m k (take_fields rules number wants haves k) (omega arith)
        (omega arith) (omega arith) (take_field-makes want have m) (take_fields-makes wants haves k)

    name_field-makes : (want : Exp) (m : Matching) → Makes rules 0 0 0 m (name_field rules want m)
    name_field-makes want m = by_test (is_unbound rules.flexible m.binding want) refl
      where
        by_test : (b : Bool) → is_unbound rules.flexible m.binding want ≡ b → Makes rules 0 0 0 m (if b then bind_new m want else m)
        by_test true e = bind_new-makes m want e
        by_test false e = makes-none rules 0 0 0 m m refl

    name_fields-makes : (wants : List Exp) (m : Matching) → Makes rules 0 0 0 m (name_fields rules wants m)
    name_fields-makes [] m = makes-none rules 0 0 0 m m refl
    name_fields-makes (want ∷ wants) m =
        let k : Matching = name_field rules want m in
        makes-both rules 0 0 0 0 0 0 0 0 0 m k (name_fields rules wants k) (omega arith) (omega arith) (omega arith)
        (name_field-makes want m) (name_fields-makes wants k)

    module _ (kind : List ℕ) (wants : List Exp) (e : Exp) where
      miss_cell-makes : (m n : Matching) (mode : Mode) → miss_cell rules number kind wants e m mode ≡ On n →
          Makes rules 1 1 (length wants) m n
      miss_cell-makes m n Subtract h = cc
      miss_cell-makes m n Abduce h =
          let k : Matching = name_fields rules wants m in
          let fields : List Exp = map (read rules.facts k.binding) wants in
          let named : miss_named rules number kind wants e k ≡ On n =
          on_then (is_logical_variable e && not (list_any (is_atom_from e) m.left)) (miss_named rules number kind wants e k) number n h in
          let missed : miss_atom rules number (Points e kind fields) k ≡ On n =
          on_then (list_all is_logical fields) (miss_atom rules number (Points e kind fields) k) number n named in
          makes-both rules 1 1 (length wants) 0 0 0 1 1 0 m k n (omega arith) (omega arith) (omega arith) (name_fields-makes wants m)
          (miss_atom-makes k n number (Points e kind fields) missed)

      unfolded-makes : (k n : Matching) (place : ℕ) (o : Option Atom) → slice_get k.left place ≡ o →
          take_unfolded rules number wants k place o ≡ On n → Makes rules 0 0 (length wants) k n
      unfolded-makes k n place None is h = cc
      unfolded-makes k n place (Some (Points at kind' haves)) is h = cc
      unfolded-makes k n place (Some (Seg kind' link from to)) is h =
          let xs : List ℕ = fresh_variables (length wants) k.used in
          let next : Matching = unfold_at k place kind' link from to xs in
          goes-makes 0 0 (length wants) k (take_fields rules number wants (map Var xs) next) n h
          (makes-both rules 0 0 (length wants) 0 0 0 0 0 (length wants) k next (take_fields rules number wants (map Var xs) next)
          (omega arith) (omega arith) (omega arith) (unfold-makes k place kind' link from to xs is)
          (take_fields-makes wants (map Var xs) next))
      unfolded-makes k n place (Some Junk) is h = cc

      parted-makes : (m n : Matching) (place : ℕ) (o : Option Atom) → slice_get m.left place ≡ o →
          take_parted rules number wants m place o ≡ On n → Makes rules 1 1 (length wants) m n
      parted-makes m n place None is h = cc
      parted-makes m n place (Some (Points at kind' haves)) is h = cc
      parted-makes m n place (Some (Seg kind' link from to)) is h = by_turn (miss_fact rules number (Ne from to) m) refl h
        where
          by_turn : (r : Turned) → miss_fact rules number (Ne from to) m ≡ r →
              and_then (λ k. take_unfolded rules number wants k place (Some (Seg kind' link from to))) r ≡ On n →
              Makes rules 1 1 (length wants) m n
          by_turn (On k) f g =
              let is_k : k ≡ with_missing_fact m (Ne from to) = unless-on rules number (with_missing_fact m (Ne from to)) k f in
              let there : slice_get k.left place ≡ Some (Seg kind' link from to) =
              ap (λ (j : Matching). slice_get j.left place) is_k ∙ is in
              makes-both rules 1 1 (length wants) 0 1 0 0 0 (length wants) m k n (omega arith) (omega arith) (omega arith)
              (miss_fact-makes m k number (Ne from to) f) (unfolded-makes k n place (Some (Seg kind' link from to)) there g)
          by_turn (Stuck other) f g = cc
      parted-makes m n place (Some Junk) is h = cc

      part_at-makes : (m n : Matching) (p : Option ℕ) → part_at rules number kind wants e m p ≡ On n → Makes rules 1 1 (length wants) m n
      part_at-makes m n None h = miss_cell-makes m n rules.mode h
      part_at-makes m n (Some place) h = parted-makes m n place (slice_get m.left place) refl h

      unfold_place-makes : (m n : Matching) (p : Option ℕ) → unfold_place rules number kind wants e m p ≡ On n →
          Makes rules 1 1 (length wants) m n
      unfold_place-makes m n None h = part_at-makes m n (place_to_part rules.mode e kind m.left) h
      unfold_place-makes m n (Some place) h =
          makes-more rules 1 1 (length wants) 0 0 (length wants) m n (omega arith) (omega arith) (omega arith)
          (unfolded-makes m n place (slice_get m.left place) refl h)

      take_cell-makes : (m n : Matching) (place : ℕ) (o : Option Atom) → slice_get m.left place ≡ o →
          take_cell rules number kind wants m place o ≡ On n → Makes rules 1 1 (length wants) m n
      take_cell-makes m n place None is h = cc
      take_cell-makes m n place (Some (Points at kind' haves)) is h =
          let next : Matching = take_atom m place (Points at kind' haves) in
          let taken : On (take_fields rules number wants haves next) ≡ On n =
          on_then (bytes_eq kind' kind) (On (take_fields rules number wants haves next)) number n h in
          goes-makes 1 1 (length wants) m (take_fields rules number wants haves next) n taken
          (makes-both rules 1 1 (length wants) 0 0 0 0 0 (length wants) m next (take_fields rules number wants haves next) (omega arith)
          (omega arith) (omega arith) (take_atom-makes m place (Points at kind' haves) is)
          (take_fields-makes wants haves next))
      take_cell-makes m n place (Some (Seg kind' link from to)) is h = cc
      take_cell-makes m n place (Some Junk) is h = cc

      cell_place-makes : (m n : Matching) (p : Option ℕ) → cell_place rules number kind wants e m p ≡ On n →
          Makes rules 1 1 (length wants) m n
      cell_place-makes m n None h = unfold_place-makes m n (position (is_to_unfold (whole rules m) e kind) m.left) h
      cell_place-makes m n (Some place) h = take_cell-makes m n place (slice_get m.left place) refl h

    -- ---- a wanted segment

    module _ (kind : List ℕ) (link : ℕ) where
      miss_segment-makes : (to e : Exp) (m n : Matching) (mode : Mode) → miss_segment rules number kind link to e m mode ≡ On n →
          Makes rules 1 1 0 m n
      miss_segment-makes to e m n Subtract h = cc
      miss_segment-makes to e m n Abduce h =
          miss_atom-makes m n number (Seg kind link e to)
          (on_then (is_logical_variable e && is_logical to) (miss_atom rules number (Seg kind link e to) m) number n h)

      -- a piece is taken, and then no more is made than this
      abbrev GoesOn : (Exp → Matching → Turned) → Matching → Type 0
      GoesOn go_on n = (f : Exp) (k : Matching) → go_on f k ≡ On n → Makes rules 1 1 0 k n

      piece-makes : (go_on : Exp → Matching → Turned) (m n : Matching) → GoesOn go_on n → (place : ℕ) (o : Option Atom) →
          slice_get m.left place ≡ o → take_piece number link m go_on place o ≡ On n → Makes rules 1 1 0 m n
      piece-makes go_on m n later place None is h = cc
      piece-makes go_on m n later place (Some atom) is h =
          makes-both rules 1 1 0 0 0 0 1 1 0 m (take_atom m place atom) n (omega arith) (omega arith) (omega arith)
          (take_atom-makes m place atom is) (later (next_of link atom) (take_atom m place atom) h)

      piece_at-makes : (go_on : Exp → Matching → Turned) (otherwise : Turned) (m n : Matching) → GoesOn go_on n →
          (otherwise ≡ On n → Makes rules 1 1 0 m n) → (p : Option ℕ) → piece_at number link m go_on otherwise p ≡ On n →
          Makes rules 1 1 0 m n
      piece_at-makes go_on otherwise m n later other None h = other h
      piece_at-makes go_on otherwise m n later other (Some place) h = piece-makes go_on m n later place (slice_get m.left place) refl h

      walk-makes : (turns : ℕ) (to e : Exp) (m n : Matching) → walk turns rules number kind link to e m ≡ On n → Makes rules 1 1 0 m n
      walk-makes zero to e m n h =
          either-makes 1 1 0 m (same_exp e to) (On m) (miss_segment rules number kind link to e m rules.mode) n (same-makes 1 1 0 m n)
          (miss_segment-makes to e m n rules.mode) h
      walk-makes (suc turns) to e m n h =
          either-makes 1 1 0 m (same_exp e to) (On m)
          (piece_at number link m (walk turns rules number kind link to) (miss_segment rules number kind link to e m rules.mode)
          (piece kind link e m.left)) n (same-makes 1 1 0 m n)
          (piece_at-makes (walk turns rules number kind link to) (miss_segment rules number kind link to e m rules.mode) m n
          (λ f k g. walk-makes turns to f k n g) (miss_segment-makes to e m n rules.mode) (piece kind link e m.left)) h

      module _ (to : Exp) where
        bound-makes : (f : Exp) (k n : Matching) → is_unbound rules.flexible k.binding to ≡ true → On (bind k to f) ≡ On n →
            Makes rules 1 1 0 k n
        bound-makes f k n unbound h =
            goes-makes 1 1 0 k (bind k to f) n h
            (makes-more rules 1 1 0 0 0 0 k (bind k to f) (omega arith) (omega arith) (omega arith) (bind-makes k to f unbound))

        bind_end-makes : (e : Exp) (m n : Matching) (mode : Mode) → is_unbound rules.flexible m.binding to ≡ true →
            bind_end rules number kind link to e m mode ≡ On n → Makes rules 1 1 0 m n
        bind_end-makes e m n Subtract unbound h = bound-makes e m n unbound h
        bind_end-makes e m n Abduce unbound h =
            either-makes 1 1 0 m (is_logical_variable e) (miss_segment rules number kind link (Var m.next) e (bind_new m to) Abduce)
            (On (bind m to e)) n
            (λ g. makes-both rules 1 1 0 0 0 0 1 1 0 m (bind_new m to) n (omega arith) (omega arith) (omega arith)
            (bind_new-makes m to unbound) (miss_segment-makes (Var m.next) e (bind_new m to) n Abduce g)) (bound-makes e m n unbound) h

        reached-makes : (m n : Matching) → is_unbound rules.flexible m.binding to ≡ true → (place : ℕ) (o : Option Atom) →
            slice_get m.left place ≡ o → take_piece number link m (λ next k. On (bind k to next)) place o ≡ On n → Makes rules 1 1 0 m n
        reached-makes m n unbound place None is h = cc
        reached-makes m n unbound place (Some atom) is h =
            makes-both rules 1 1 0 0 0 0 1 1 0 m (take_atom m place atom) n (omega arith) (omega arith) (omega arith)
            (take_atom-makes m place atom is) (bound-makes (next_of link atom) (take_atom m place atom) n unbound h)

        reach-makes : (e : Exp) (m n : Matching) → is_unbound rules.flexible m.binding to ≡ true → (p : Option ℕ) →
            piece_at number link m (λ next k. On (bind k to next)) (bind_end rules number kind link to e m rules.mode) p ≡ On n →
            Makes rules 1 1 0 m n
        reach-makes e m n unbound None h = bind_end-makes e m n rules.mode unbound h
        reach-makes e m n unbound (Some place) h = reached-makes m n unbound place (slice_get m.left place) refl h

        want_segment-makes : (e : Exp) (m n : Matching) → want_segment rules number kind link e to m ≡ On n → Makes rules 1 1 0 m n
        want_segment-makes e m n h = by_test (is_unbound rules.flexible m.binding to) refl h
          where
            by_test : (b : Bool) → is_unbound rules.flexible m.binding to ≡ b →
                (if b then reach rules number kind link to e m
                else walk (length m.left) rules number kind link (read rules.facts m.binding to) e m) ≡ On n → Makes rules 1 1 0 m n
            by_test true f g = reach-makes e m n f (piece kind link e m.left) g
            by_test false f g = walk-makes (length m.left) (read rules.facts m.binding to) e m n g

    -- ---- a wanted fact

    want_same-makes : (left right : Exp) (m n : Matching) → want_same rules number left right m ≡ On n → Makes rules 0 1 0 m n
    want_same-makes left right m n h =
        either-makes 0 1 0 m (same_exp left right) (On m) (miss_equation rules number left right m rules.mode) n (same-makes 0 1 0 m n)
        (missed rules.mode) h
      where
        missed : (mode : Mode) → miss_equation rules number left right m mode ≡ On n → Makes rules 0 1 0 m n
        missed Subtract g = cc
        missed Abduce g =
            miss_fact-makes m n number (Eq left right)
            (on_then (is_logical left && is_logical right && not (differs (whole rules m) left right))
            (miss_fact rules number (Eq left right) m) number n g)

    want_apart-makes : (left right : Exp) (m n : Matching) → want_apart rules number left right m ≡ On n → Makes rules 0 1 0 m n
    want_apart-makes left right m n h =
        either-makes 0 1 0 m (differs (whole rules m) left right) (On m) (miss_disequality rules number left right m rules.mode) n
        (same-makes 0 1 0 m n) (missed rules.mode) h
      where
        missed : (mode : Mode) → miss_disequality rules number left right m mode ≡ On n → Makes rules 0 1 0 m n
        missed Subtract g = cc
        missed Abduce g =
            miss_fact-makes m n number (Ne left right)
            (on_then (is_logical left && is_logical right && not (same_exp left right))
            (miss_fact rules number (Ne left right) m) number n g)

    bind_one-makes : (e f : Exp) (m n : Matching) → is_unbound rules.flexible m.binding e ≡ true → On (bind m e f) ≡ On n →
        Makes rules 0 1 0 m n
    bind_one-makes e f m n unbound h =
        goes-makes 0 1 0 m (bind m e f) n h
        (makes-more rules 0 1 0 0 0 0 m (bind m e f) (omega arith) (omega arith) (omega arith) (bind-makes m e f unbound))

    want_equal-makes : (e f : Exp) (m n : Matching) (b d : Bool) → is_unbound rules.flexible m.binding e ≡ b →
        is_unbound rules.flexible m.binding f ≡ d → want_equal rules number e f m b d ≡ On n → Makes rules 0 1 0 m n
    want_equal-makes e f m n true false at_e at_f h = bind_one-makes e (read rules.facts m.binding f) m n at_e h
    want_equal-makes e f m n false true at_e at_f h = bind_one-makes f (read rules.facts m.binding e) m n at_f h
    want_equal-makes e f m n false false at_e at_f h = want_same-makes (read rules.facts m.binding e) (read rules.facts m.binding f) m n h
    want_equal-makes e f m n true true at_e at_f h = same-makes 0 1 0 m n (on_then (same_exp e f) (On m) number n h)

    want_fact-makes : (fact : Fact) (m n : Matching) → want_fact rules number fact m ≡ On n → Makes rules 0 1 0 m n
    want_fact-makes (Eq e f) m n h =
        want_equal-makes e f m n (is_unbound rules.flexible m.binding e) (is_unbound rules.flexible m.binding f) refl refl h
    want_fact-makes (Ne e f) m n h =
        either-makes 0 1 0 m (is_unbound rules.flexible m.binding e || is_unbound rules.flexible m.binding f) (Stuck number)
        (want_apart rules number (read rules.facts m.binding e) (read rules.facts m.binding f) m) n (λ g. cc)
        (want_apart-makes (read rules.facts m.binding e) (read rules.facts m.binding f) m n) h

  pub want_atom-makes : (number : ℕ) (atom : Atom) (m n : Matching) → want_atom rules number atom m ≡ On n →
      Makes rules 1 1 (fields_of atom) m n
  want_atom-makes number (Points at kind fields) m n h =
      cell_place-makes number kind fields (read rules.facts m.binding at) m n
      (position (is_cell_at (read rules.facts m.binding at)) m.left) h
  want_atom-makes number (Seg kind link from to) m n h = want_segment-makes number kind link to (read rules.facts m.binding from) m n h
  want_atom-makes number Junk m n h = same-makes 1 1 0 m n h

  pub want_facts-makes : (number : ℕ) (facts : List Fact) (m n : Matching) → want_facts rules number facts m ≡ On n →
      Makes rules 0 (length facts) 0 m n
  want_facts-makes number [] m n h = same-makes 0 0 0 m n h
  want_facts-makes number (fact ∷ facts) m n h =
      by_turn (λ k g. want_facts-makes (number + 1) facts k n g) (want_fact rules number fact m) refl h
    where
      by_turn : ((k : Matching) → want_facts rules (number + 1) facts k ≡ On n → Makes rules 0 (length facts) 0 k n) → (r : Turned) →
          want_fact rules number fact m ≡ r → and_then (want_facts rules (number + 1) facts) r ≡ On n →
          Makes rules 0 (length (fact ∷ facts)) 0 m n
      by_turn later (On k) f g =
          makes-both rules 0 (length (fact ∷ facts)) 0 0 1 0 0 (length facts) 0 m k n (omega arith) (omega arith) (omega arith)
          (want_fact-makes number fact m k f) (later k g)
      by_turn later (Stuck other) f g = cc

  want_owed-makes : (owed : Owed) (m n : Matching) → want_owed rules owed m ≡ On n → Makes rules 0 1 0 m n
  want_owed-makes owed m n h = by_test (is_unbound rules.flexible m.binding owed.want) refl h
    where
      by_test : (b : Bool) → is_unbound rules.flexible m.binding owed.want ≡ b →
          (if b then On (bind m owed.want (read_through rules.facts owed.have))
          else want_same rules owed.number (read rules.facts m.binding owed.want) (read_through rules.facts owed.have) m) ≡ On n →
          Makes rules 0 1 0 m n
      by_test true f g = bind_one-makes owed.number owed.want (read_through rules.facts owed.have) m n f g
      by_test false f g = want_same-makes owed.number (read rules.facts m.binding owed.want) (read_through rules.facts owed.have) m n g

  pub want_all_owed-makes : (all : List Owed) (m n : Matching) → want_all_owed rules all m ≡ On n → Makes rules 0 (length all) 0 m n
  want_all_owed-makes [] m n h = same-makes 0 0 0 m n h
  want_all_owed-makes (owed ∷ all) m n h = by_turn (λ k g. want_all_owed-makes all k n g) (want_owed rules owed m) refl h
    where
      by_turn : ((k : Matching) → want_all_owed rules all k ≡ On n → Makes rules 0 (length all) 0 k n) → (r : Turned) →
          want_owed rules owed m ≡ r → and_then (want_all_owed rules all) r ≡ On n → Makes rules 0 (length (owed ∷ all)) 0 m n
      by_turn later (On k) f g =
          makes-both rules 0 (length (owed ∷ all)) 0 0 1 0 0 (length all) 0 m k n (omega arith) (omega arith) (omega arith)
          (want_owed-makes owed m k f) (later k g)
      by_turn later (Stuck other) f g = cc
