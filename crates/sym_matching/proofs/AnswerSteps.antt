-- The steps of a match keep its parts well formed.
use Rattle.std.specs.Prelude.{◌≡◌, ℕ, zero, suc, ◌+◌, ◌<◌, ◌≤◌, pos, ◌==◌, Bool, true, false, not, ◌&&◌, ◌||◌, if◌then◌else◌, List, [], ◌∷◌}
use Rattle.std.specs.Prelude.{length, map, position, slice_get, slice_index_or, All}
use Rattle.std.specs.List.{insert, list_all, list_any, remove}
use Rattle.std.specs.Option.{IsSomeAnd}
use Rattle.std.specs.Str.{bytes_eq}
use Rattle.std.specs.declared.option.Option.{Option}
use Rattle.std.specs.declared.option.Option.TheVariants.{None, Some}
use Rattle.std.proofs.Common.{refl, sym, ap, subst, ◌∙◌, arith}
use Rattle.std.proofs.lemmas.Bool.{and_parts, eqb-true}
use Rattle.std.proofs.lemmas.List.{length-map}
use Rattle.std.proofs.lemmas.List.Edits.{length-remove}
use Rattle.std.proofs.lemmas.List.Elements.{All-head, All-map, All-push, All-tail, All-weaker}
use Rattle.std.proofs.lemmas.Option.{slice_get_within}
use Rattle.shape_data.specs.declared.program.StructDef.{StructDef}
use Rattle.shape_data.specs.declared.symbolic.Atom.{Atom}
use Rattle.shape_data.specs.declared.symbolic.Atom.TheVariants.{Points, Seg, Junk}
use Rattle.shape_data.specs.declared.symbolic.Exp.{Exp}
use Rattle.shape_data.specs.declared.symbolic.Exp.TheVariants.{Var, Const}
use Rattle.shape_data.specs.declared.symbolic.Fact.{Fact}
use Rattle.shape_data.specs.declared.symbolic.Fact.TheVariants.{Eq, Ne}
use Rattle.shape_data.specs.Heap.{struct_named}
use Rattle.shape_data.specs.WellFormed.{IsAtom, IsExp, IsFact, IsField, Limits}
use Rattle.sym_parts.specs.Laws.Each.{EachInFact}
use Rattle.sym_parts.specs.Laws.Expressions.{same_exp}
use Rattle.sym_parts.specs.Laws.Fresh.{is_one_of}
use Rattle.sym_pure.specs.Equations.{read_through}
use Rattle.sym_pure.specs.Sources.{differs}
use Rattle.sym_pure.proofs.EachLaws.{All-get, All-remove}
use Rattle.sym_pure.proofs.ReadThrough.{read_through-each}
use Rattle.sym_pure.proofs.WellFormedLaws.{to_each}
use Rattle.sym_canon.specs.Placing.{is_cell_at}
use Rattle.sym_matching.specs.declared.matching.Matching.{Matching}
use Rattle.sym_matching.specs.declared.matching.Mode.{Mode}
use Rattle.sym_matching.specs.declared.matching.Mode.TheVariants.{Subtract, Abduce}
use Rattle.sym_matching.specs.declared.matching.Owed.{Owed}
use Rattle.sym_matching.specs.declared.matching.Turned.{Turned}
use Rattle.sym_matching.specs.declared.matching.Turned.TheVariants.{On, Stuck}
use Rattle.sym_matching.specs.Answers.{HasParts, IsBound, MayOccur}
use Rattle.sym_matching.specs.NewVariables.{fresh_variables}
use Rattle.sym_matching.specs.Reading.{bound_exp, bound_to, is_logical, is_logical_variable, is_none, is_unbound, or_itself, read}
use Rattle.sym_matching.specs.Steps.{Rules, and_then, bind, bind_new, miss_atom, miss_fact, owe, take_atom, unfold_at, whole}
use Rattle.sym_matching.specs.Steps.{with_missing_atom, with_missing_fact}
use Rattle.sym_matching.specs.WantedCells.{cell_place, is_atom_from, is_to_unfold, miss_cell, miss_named, name_fields, part_at}
use Rattle.sym_matching.specs.WantedCells.{place_to_part, take_cell, take_field, take_fields, take_parted, take_unfolded, unfold_place}
use Rattle.sym_matching.specs.WantedCells.{want_cell}
use Rattle.sym_matching.specs.WantedFacts.{miss_disequality, miss_equation, want_all_owed, want_apart, want_equal, want_fact, want_facts}
use Rattle.sym_matching.specs.WantedFacts.{want_owed, want_same}
use Rattle.sym_matching.specs.WantedSegments.{bind_end, miss_segment, next_of, piece, piece_at, reach, take_piece, walk, want_segment}
use Rattle.sym_matching.proofs.KeptLaws.{All-insert, All-or}
use Rattle.sym_matching.proofs.RoomSteps.{on_then}
use Rattle.sym_matching.proofs.SettleLaws.{unless-on}

module _ (limits : Limits) (structs : List StructDef) (params : ℕ) where
  abbrev P : Exp → Type 0
  P e = IsExp limits params e

  abbrev IsOwed : Owed → Type 0
  IsOwed owed = P owed.want × P owed.have

  pub read_through-fine : (facts : List Fact) (e : Exp) → All (IsFact limits params) facts → P e → P (read_through facts e)
  read_through-fine facts e each fine =
      read_through-each (IsExp limits params) facts
      (All-weaker (IsFact limits params) (EachInFact (IsExp limits params)) (to_each limits structs params) facts each) e fine

  bound_to-fine : (binding : List (ℕ × Exp)) (x : ℕ) → All (IsBound limits params) binding → P (Var x) →
      P (or_itself x (bound_to binding x))
  bound_to-fine [] x each fine = fine
  bound_to-fine (bound ∷ binding) x each fine =
      by_test (bound.0 == x) refl (bound_to-fine binding x (All-tail (IsBound limits params) bound binding each) fine)
    where
      by_test : (b : Bool) → (bound.0 == x) ≡ b → P (or_itself x (bound_to binding x)) → P (or_itself x (bound_to (bound ∷ binding) x))
      by_test true e later = rw e (All-head (IsBound limits params) bound binding each).1
      by_test false e later = rw e later

  bound_exp-fine : (binding : List (ℕ × Exp)) (e : Exp) → All (IsBound limits params) binding → P e → P (bound_exp binding e)
  bound_exp-fine binding (Var x) each fine = bound_to-fine binding x each fine
  bound_exp-fine binding (Const n) each fine = fine

  module _ (rules : Rules) (most : ℕ) (facts_fine : All (IsFact limits params) rules.facts)
      (flexible_fine : All (MayOccur limits params) rules.flexible) where
    -- where a match stands, its parts are well formed
    pub record Fine (m : Matching) : Type 0 where
      pub left : All (IsAtom limits structs params) m.left
      pub fewer : length m.left ≤ most
      pub missing : HasParts limits structs params m.missing
      pub binding : All (IsBound limits params) m.binding
      pub owed : All IsOwed m.owed

    pub read-fine : (m : Matching) → Fine m → (e : Exp) → P e → P (read rules.facts m.binding e)
    read-fine m fine e is = read_through-fine rules.facts (bound_exp m.binding e) facts_fine (bound_exp-fine m.binding e fine.binding is)

    reads-fine : (m : Matching) → Fine m → (es : List Exp) → All P es → All P (map (read rules.facts m.binding) es)
    reads-fine m fine es each =
        All-map P (read rules.facts m.binding) es (All-weaker P (λ e. P (read rules.facts m.binding e)) (read-fine m fine) es each)

    -- ---- the steps

    one_fine : (xs : List ℕ) (x : ℕ) → All (MayOccur limits params) xs → is_one_of xs x ≡ true → MayOccur limits params x
    one_fine [] x each is = cc
    one_fine (y ∷ ys) x each is = by_test (x == y) refl (one_fine ys x (All-tail (MayOccur limits params) y ys each))
      where
        by_test : (b : Bool) → (x == y) ≡ b → (is_one_of ys x ≡ true → MayOccur limits params x) → MayOccur limits params x
        by_test true e later = subst (λ z. MayOccur limits params z) (sym (eqb-true x y e)) (All-head (MayOccur limits params) y ys each)
        by_test false e later = let rest : is_one_of ys x ≡ true = rw e at is in later rest

    bind-fine : (m : Matching) (e f : Exp) → Fine m → is_unbound rules.flexible m.binding e ≡ true → P f → Fine (bind m e f)
    bind-fine m (Var x) f fine unbound is =
        let flexible : is_one_of rules.flexible x ≡ true =
        (and_parts (is_one_of rules.flexible x) (is_none (bound_to m.binding x)) unbound).0 in record {
          left = fine.left;
          fewer = fine.fewer;
          missing = fine.missing;
          binding = All-push (IsBound limits params) m.binding (x, f) fine.binding (one_fine rules.flexible x flexible_fine flexible, is);
          owed = fine.owed;
        }
    bind-fine m (Const n) f fine unbound is = fine

    owe-fine : (m : Matching) (number : ℕ) (want have : Exp) → Fine m → P want → P have → Fine (owe m number want have)
    owe-fine m number want have fine one other = record {
      left = fine.left;
      fewer = fine.fewer;
      missing = fine.missing;
      binding = fine.binding;
      owed = All-push IsOwed m.owed (record { number = number; want = want; have = have }) fine.owed (one, other);
    }

    take_atom-fine : (m : Matching) (place : ℕ) (atom : Atom) → slice_get m.left place ≡ Some atom → Fine m → Fine (take_atom m place atom)
    take_atom-fine m place atom is fine =
        let shorter : length (remove m.left place) + 1 ≡ length m.left =
        length-remove m.left place (slice_get_within m.left place atom is) in
        let few : length m.left ≤ most = fine.fewer in record {
          left = All-remove (IsAtom limits structs params) m.left place fine.left;
          fewer = omega arith;
          missing = fine.missing;
          binding = fine.binding;
          owed = fine.owed;
        }

    unfold-fine : (m : Matching) (place : ℕ) (kind : List ℕ) (link : ℕ) (from to : Exp) (names : List ℕ) →
        slice_get m.left place ≡ Some (Seg kind link from to) → All (MayOccur limits params) names → Fine m →
        Fine (unfold_at m place kind link from to names)
    unfold-fine m place kind link from to names is named fine =
        let seg : IsAtom limits structs params (Seg kind link from to) =
        All-get (IsAtom limits structs params) m.left place (Seg kind link from to) is fine.left in
        let next : P (slice_index_or (map Var names) link (Const (pos 0))) =
        All-or P (map Var names) link (Const (pos 0)) tt (All-map P Var names named) in
        let shorter : length (remove m.left place) + 1 ≡ length m.left =
        length-remove m.left place (slice_get_within m.left place (Seg kind link from to) is) in
        let longer : length (insert (remove m.left place) place (Seg kind link (slice_index_or (map Var names) link (Const (pos 0))) to))
        ≤ length (remove m.left place) + 1 =
        inserted (remove m.left place) place (Seg kind link (slice_index_or (map Var names) link (Const (pos 0))) to) in
        let few : length m.left ≤ most = fine.fewer in record {
          left =
              All-insert (IsAtom limits structs params) (remove m.left place) place
              (Seg kind link (slice_index_or (map Var names) link (Const (pos 0))) to) (seg.0, next, seg.2)
              (All-remove (IsAtom limits structs params) m.left place fine.left);
          fewer = omega arith;
          missing = fine.missing;
          binding = fine.binding;
          owed = fine.owed;
        }
      where
        inserted : (xs : List Atom) (k : ℕ) (x : Atom) → length (insert xs k x) ≤ length xs + 1
        inserted [] zero x = omega arith
        inserted [] (suc k) x = omega arith
        inserted (y ∷ ys) zero x = omega arith
        inserted (y ∷ ys) (suc k) x = let later : length (insert ys k x) ≤ length ys + 1 = inserted ys k x in omega arith

    miss_fact-fine : (m n : Matching) (number : ℕ) (fact : Fact) → IsFact limits params fact → Fine m →
        miss_fact rules number fact m ≡ On n → Fine n
    miss_fact-fine m n number fact is fine h =
        subst (λ (k : Matching). Fine k) (sym (unless-on rules number (with_missing_fact m fact) n h)) (record {
          left = fine.left;
          fewer = fine.fewer;
          missing =
              record { facts = All-push (IsFact limits params) m.missing.pure fact fine.missing.facts is; atoms = fine.missing.atoms };
          binding = fine.binding;
          owed = fine.owed;
        })

    miss_atom-fine : (m n : Matching) (number : ℕ) (atom : Atom) → IsAtom limits structs params atom → Fine m →
        miss_atom rules number atom m ≡ On n → Fine n
    miss_atom-fine m n number atom is fine h =
        subst (λ (k : Matching). Fine k) (sym (unless-on rules number (with_missing_atom m atom) n h)) (record {
          left = fine.left;
          fewer = fine.fewer;
          missing =
              record {
                facts = fine.missing.facts;
                atoms = All-push (IsAtom limits structs params) m.missing.spatial atom fine.missing.atoms is;
              };
          binding = fine.binding;
          owed = fine.owed;
        })

    bind_new-fine : (m : Matching) (e : Exp) → Fine m → is_unbound rules.flexible m.binding e ≡ true → MayOccur limits params m.next →
        Fine (bind_new m e)
    bind_new-fine m (Var x) fine unbound is =
        let bound : Fine (bind m (Var x) (Var m.next)) = bind-fine m (Var x) (Var m.next) fine unbound is in
        record { left = bound.left; fewer = bound.fewer; missing = bound.missing; binding = bound.binding; owed = bound.owed }
    bind_new-fine m (Const n) fine unbound is = cc

    same-fine : (m n : Matching) → Fine m → On m ≡ On n → Fine n
    same-fine m n fine h = let is_n : m ≡ n = cc in subst (λ (k : Matching). Fine k) is_n fine

    -- ---- a wanted cell

    module _ (number : ℕ) where
      take_field-fine : (want have : Exp) (m : Matching) → P want → P have → Fine m → Fine (take_field rules number want have m)
      take_field-fine want have m one other fine = by_test (is_unbound rules.flexible m.binding want) refl
        where
          by_test : (b : Bool) → is_unbound rules.flexible m.binding want ≡ b →
              Fine (if b then bind m want have else owe m number want have)
          by_test true e = bind-fine m want have fine e other
          by_test false e = owe-fine m number want have fine one other

      take_fields-fine : (wants haves : List Exp) (m : Matching) → All P wants → All P haves → Fine m →
          Fine (take_fields rules number wants haves m)
      take_fields-fine [] haves m one other fine = fine
      take_fields-fine (want ∷ wants) [] m one other fine = fine
      take_fields-fine (want ∷ wants) (have ∷ haves) m one other fine =
          take_fields-fine wants haves (take_field rules number want have m) (All-tail P want wants one) (All-tail P have haves other)
          (take_field-fine want have m (All-head P want wants one) (All-head P have haves other) fine)

      module _ (kind : List ℕ) (wants : List Exp) (e : Exp) (wants_fine : All P wants) (e_fine : P e)
          (shaped : IsSomeAnd (struct_named structs kind) (λ def. length wants ≡ length def.fields)) where
        -- the logical variables up to so many from a number on may occur
        abbrev MayFrom : ℕ → ℕ → Type 0
        MayFrom next count = (x : ℕ) → x < next + count → MayOccur limits params x

        name_fields-fine : (es : List Exp) (m : Matching) → MayFrom m.next (length es) → Fine m → Fine (name_fields rules es m)
        name_fields-fine [] m may fine = fine
        name_fields-fine (want ∷ es) m may fine = by_test (is_unbound rules.flexible m.binding want) refl
            (λ f. name_fields-fine es (bind_new m want) (later f) (bind_new-fine m want fine f (may m.next (omega arith))))
            (name_fields-fine es m (λ x high. may x (omega arith)) fine)
          where
            next_is : (w : Exp) → (bind_new m w).next ≡ m.next + 1
            next_is (Var x) = refl
            next_is (Const n) = refl

            later : is_unbound rules.flexible m.binding want ≡ true → MayFrom (bind_new m want).next (length es)
            later f x high = let same : (bind_new m want).next ≡ m.next + 1 = next_is want in may x (omega arith)

            by_test : (b : Bool) → is_unbound rules.flexible m.binding want ≡ b →
                (is_unbound rules.flexible m.binding want ≡ true → Fine (name_fields rules es (bind_new m want))) →
                Fine (name_fields rules es m) →
                Fine (name_fields rules (want ∷ es) m)
            by_test true f bound free = rw f (bound f)
            by_test false f bound free = rw f free

        miss_cell-fine : (m n : Matching) (mode : Mode) → MayFrom m.next (length wants) → Fine m →
            miss_cell rules number kind wants e m mode ≡ On n → Fine n
        miss_cell-fine m n Subtract may fine h = cc
        miss_cell-fine m n Abduce may fine h =
            let k : Matching = name_fields rules wants m in
            let fields : List Exp = map (read rules.facts k.binding) wants in
            let named : miss_named rules number kind wants e k ≡ On n =
            on_then (is_logical_variable e && not (list_any (is_atom_from e) m.left))
            (miss_named rules number kind wants e k) number n h in
            let missed : miss_atom rules number (Points e kind fields) k ≡ On n =
            on_then (list_all is_logical fields) (miss_atom rules number (Points e kind fields) k) number n named in
            let fine_k : Fine k = name_fields-fine wants m may fine in
            miss_atom-fine k n number (Points e kind fields)
            (e_fine, rw (length-map wants (read rules.facts k.binding)) shaped, reads-fine k fine_k wants wants_fine) fine_k missed

        abbrev MayFresh : Matching → Type 0
        MayFresh m = All (MayOccur limits params) (fresh_variables (length wants) m.used)

        unfolded-fine : (m n : Matching) (place : ℕ) (o : Option Atom) → slice_get m.left place ≡ o → MayFresh m → Fine m →
            take_unfolded rules number wants m place o ≡ On n → Fine n
        unfolded-fine m n place None is may fine h = cc
        unfolded-fine m n place (Some (Points at kind' haves)) is may fine h = cc
        unfolded-fine m n place (Some (Seg kind' link from to)) is may fine h =
            let xs : List ℕ = fresh_variables (length wants) m.used in
            let next : Matching = unfold_at m place kind' link from to xs in
            same-fine (take_fields rules number wants (map Var xs) next) n
            (take_fields-fine wants (map Var xs) next wants_fine (All-map P Var xs may)
            (unfold-fine m place kind' link from to xs is may fine)) h
        unfolded-fine m n place (Some Junk) is may fine h = cc

        parted-fine : (m n : Matching) (place : ℕ) (o : Option Atom) → slice_get m.left place ≡ o → MayFresh m → Fine m →
            take_parted rules number wants m place o ≡ On n → Fine n
        parted-fine m n place None is may fine h = cc
        parted-fine m n place (Some (Points at kind' haves)) is may fine h = cc
        parted-fine m n place (Some (Seg kind' link from to)) is may fine h = by_turn (miss_fact rules number (Ne from to) m) refl h
          where
            seg : IsAtom limits structs params (Seg kind' link from to)
            seg = All-get (IsAtom limits structs params) m.left place (Seg kind' link from to) is fine.left

            by_turn : (r : Turned) → miss_fact rules number (Ne from to) m ≡ r →
                and_then (λ k. take_unfolded rules number wants k place (Some (Seg kind' link from to))) r ≡ On n → Fine n
            by_turn (On k) f g =
                let is_k : k ≡ with_missing_fact m (Ne from to) = unless-on rules number (with_missing_fact m (Ne from to)) k f in
                let there : slice_get k.left place ≡ Some (Seg kind' link from to) =
                ap (λ (j : Matching). slice_get j.left place) is_k ∙ is in
                let fresh : MayFresh k = subst (λ (j : Matching). MayFresh j) (sym is_k) may in
                unfolded-fine k n place (Some (Seg kind' link from to)) there fresh
                (miss_fact-fine m k number (Ne from to) (seg.1, seg.2) fine f) g
            by_turn (Stuck other) f g = cc
        parted-fine m n place (Some Junk) is may fine h = cc

        part_at-fine : (m n : Matching) (p : Option ℕ) → MayFresh m → MayFrom m.next (length wants) → Fine m →
            part_at rules number kind wants e m p ≡ On n → Fine n
        part_at-fine m n None fresh may fine h = miss_cell-fine m n rules.mode may fine h
        part_at-fine m n (Some place) fresh may fine h = parted-fine m n place (slice_get m.left place) refl fresh fine h

        unfold_place-fine : (m n : Matching) (p : Option ℕ) → MayFresh m → MayFrom m.next (length wants) → Fine m →
            unfold_place rules number kind wants e m p ≡ On n → Fine n
        unfold_place-fine m n None fresh may fine h = part_at-fine m n (place_to_part rules.mode e kind m.left) fresh may fine h
        unfold_place-fine m n (Some place) fresh may fine h = unfolded-fine m n place (slice_get m.left place) refl fresh fine h

        take_cell-fine : (m n : Matching) (place : ℕ) (o : Option Atom) → slice_get m.left place ≡ o → Fine m →
            take_cell rules number kind wants m place o ≡ On n → Fine n
        take_cell-fine m n place None is fine h = cc
        take_cell-fine m n place (Some (Points at kind' haves)) is fine h =
            let next : Matching = take_atom m place (Points at kind' haves) in
            let cell : IsAtom limits structs params (Points at kind' haves) =
            All-get (IsAtom limits structs params) m.left place (Points at kind' haves) is fine.left in
            let taken : On (take_fields rules number wants haves next) ≡ On n =
            on_then (bytes_eq kind' kind) (On (take_fields rules number wants haves next)) number n h in
            same-fine (take_fields rules number wants haves next) n
            (take_fields-fine wants haves next wants_fine cell.2 (take_atom-fine m place (Points at kind' haves) is fine)) taken
        take_cell-fine m n place (Some (Seg kind' link from to)) is fine h = cc
        take_cell-fine m n place (Some Junk) is fine h = cc

        cell_place-fine : (m n : Matching) (p : Option ℕ) → MayFresh m → MayFrom m.next (length wants) → Fine m →
            cell_place rules number kind wants e m p ≡ On n → Fine n
        cell_place-fine m n None fresh may fine h =
            unfold_place-fine m n (position (is_to_unfold (whole rules m) e kind) m.left) fresh may fine h
        cell_place-fine m n (Some place) fresh may fine h = take_cell-fine m n place (slice_get m.left place) refl fine h

        pub want_cell-fine : (m n : Matching) → MayFresh m → MayFrom m.next (length wants) → Fine m →
            want_cell rules number kind wants e m ≡ On n → Fine n
        want_cell-fine m n fresh may fine h = cell_place-fine m n (position (is_cell_at e) m.left) fresh may fine h

      -- ---- a wanted segment

      module _ (kind : List ℕ) (link : ℕ) (field : IsField structs kind link) where
        miss_segment-fine : (to e : Exp) (m n : Matching) (mode : Mode) → P to → P e → Fine m →
            miss_segment rules number kind link to e m mode ≡ On n → Fine n
        miss_segment-fine to e m n Subtract one other fine h = cc
        miss_segment-fine to e m n Abduce one other fine h =
            let missed : miss_atom rules number (Seg kind link e to) m ≡ On n =
            on_then (is_logical_variable e && is_logical to) (miss_atom rules number (Seg kind link e to) m) number n h in
            miss_atom-fine m n number (Seg kind link e to) (field, other, one) fine missed

        next-fine : (atom : Atom) → IsAtom limits structs params atom → P (next_of link atom)
        next-fine (Points at kind' fields) is = All-or P fields link (Const (pos 0)) tt is.2
        next-fine (Seg kind' link' from to) is = is.2
        next-fine Junk is = tt

        abbrev GoesOn : (Exp → Matching → Turned) → Matching → Type 0
        GoesOn go_on n = (e : Exp) (k : Matching) → P e → Fine k → go_on e k ≡ On n → Fine n

        piece-fine : (go_on : Exp → Matching → Turned) (m n : Matching) → GoesOn go_on n → (place : ℕ) (o : Option Atom) →
            slice_get m.left place ≡ o → Fine m → take_piece number link m go_on place o ≡ On n → Fine n
        piece-fine go_on m n later place None is fine h = cc
        piece-fine go_on m n later place (Some atom) is fine h =
            later (next_of link atom) (take_atom m place atom)
            (next-fine atom (All-get (IsAtom limits structs params) m.left place atom is fine.left)) (take_atom-fine m place atom is fine) h

        piece_at-fine : (go_on : Exp → Matching → Turned) (otherwise : Turned) (m n : Matching) → GoesOn go_on n → Fine m →
            (otherwise ≡ On n → Fine n) → (p : Option ℕ) → piece_at number link m go_on otherwise p ≡ On n → Fine n
        piece_at-fine go_on otherwise m n later fine other None h = other h
        piece_at-fine go_on otherwise m n later fine other (Some place) h =
            piece-fine go_on m n later place (slice_get m.left place) refl fine h

        either-fine : (b : Bool) (x y : Turned) (n : Matching) → (x ≡ On n → Fine n) → (y ≡ On n → Fine n) → (if b then x else y) ≡ On n →
            Fine n
        either-fine true x y n one other h = one h
        either-fine false x y n one other h = other h

        walk-fine : (turns : ℕ) (to e : Exp) (m n : Matching) → P to → P e → Fine m → walk turns rules number kind link to e m ≡ On n →
            Fine n
        walk-fine zero to e m n one other fine h =
            either-fine (same_exp e to) (On m) (miss_segment rules number kind link to e m rules.mode) n (same-fine m n fine)
            (miss_segment-fine to e m n rules.mode one other fine) h
        walk-fine (suc turns) to e m n one other fine h =
            either-fine (same_exp e to) (On m)
            (piece_at number link m (walk turns rules number kind link to) (miss_segment rules number kind link to e m rules.mode)
            (piece kind link e m.left)) n (same-fine m n fine)
            (piece_at-fine (walk turns rules number kind link to) (miss_segment rules number kind link to e m rules.mode) m n
            (λ f k f_fine k_fine g. walk-fine turns to f k n one f_fine k_fine g) fine
            (miss_segment-fine to e m n rules.mode one other fine) (piece kind link e m.left)) h

        module _ (to : Exp) where
          -- an end that is unbound stays so where an atom is taken
          bound-fine : (f : Exp) (k n : Matching) → is_unbound rules.flexible k.binding to ≡ true → P f → Fine k → On (bind k to f) ≡ On n →
              Fine n
          bound-fine f k n unbound is fine h = same-fine (bind k to f) n (bind-fine k to f fine unbound is) h

          bind_end-fine : (e : Exp) (m n : Matching) (mode : Mode) → is_unbound rules.flexible m.binding to ≡ true →
              MayOccur limits params m.next → P e → Fine m → bind_end rules number kind link to e m mode ≡ On n → Fine n
          bind_end-fine e m n Subtract unbound may is fine h = bound-fine e m n unbound is fine h
          bind_end-fine e m n Abduce unbound may is fine h =
              either-fine (is_logical_variable e) (miss_segment rules number kind link (Var m.next) e (bind_new m to) Abduce)
              (On (bind m to e)) n
              (miss_segment-fine (Var m.next) e (bind_new m to) n Abduce may is (bind_new-fine m to fine unbound may))
              (bound-fine e m n unbound is fine) h

          pub want_segment-fine : (e : Exp) (m n : Matching) → P to → P e → MayOccur limits params m.next → Fine m →
              want_segment rules number kind link e to m ≡ On n → Fine n
          want_segment-fine e m n to_fine is may fine h = by_test (is_unbound rules.flexible m.binding to) refl h
            where
              taken : (unbound : is_unbound rules.flexible m.binding to ≡ true) →
                  piece_at number link m (λ next k. On (bind k to next)) (bind_end rules number kind link to e m rules.mode)
                  (piece kind link e m.left) ≡ On n → Fine n
              taken unbound g = by_place (piece kind link e m.left) g
                where
                  by_atom : (place : ℕ) (o : Option Atom) → slice_get m.left place ≡ o →
                      take_piece number link m (λ next k. On (bind k to next)) place o ≡ On n → Fine n
                  by_atom place None there j = cc
                  by_atom place (Some atom) there j =
                      bound-fine (next_of link atom) (take_atom m place atom) n unbound
                      (next-fine atom (All-get (IsAtom limits structs params) m.left place atom there fine.left))
                      (take_atom-fine m place atom there fine) j

                  by_place : (p : Option ℕ) →
                      piece_at number link m (λ next k. On (bind k to next)) (bind_end rules number kind link to e m rules.mode) p ≡ On n →
                      Fine n
                  by_place None j = bind_end-fine e m n rules.mode unbound may is fine j
                  by_place (Some place) j = by_atom place (slice_get m.left place) refl j

              by_test : (b : Bool) → is_unbound rules.flexible m.binding to ≡ b →
                  (if b then reach rules number kind link to e m
                  else walk (length m.left) rules number kind link (read rules.facts m.binding to) e m) ≡ On n → Fine n
              by_test true f g = taken f g
              by_test false f g = walk-fine (length m.left) (read rules.facts m.binding to) e m n (read-fine m fine to to_fine) is fine g

      -- ---- a wanted fact

      want_same-fine : (left right : Exp) (m n : Matching) → P left → P right → Fine m → want_same rules number left right m ≡ On n → Fine n
      want_same-fine left right m n one other fine h = by_test (same_exp left right) h
        where
          missed : (mode : Mode) → miss_equation rules number left right m mode ≡ On n → Fine n
          missed Subtract g = cc
          missed Abduce g =
              miss_fact-fine m n number (Eq left right) (one, other) fine
              (on_then (is_logical left && is_logical right && not (differs (whole rules m) left right))
              (miss_fact rules number (Eq left right) m) number n g)

          by_test : (b : Bool) → (if b then On m else miss_equation rules number left right m rules.mode) ≡ On n → Fine n
          by_test true g = same-fine m n fine g
          by_test false g = missed rules.mode g

      want_apart-fine : (left right : Exp) (m n : Matching) → P left → P right → Fine m → want_apart rules number left right m ≡ On n →
          Fine n
      want_apart-fine left right m n one other fine h = by_test (differs (whole rules m) left right) h
        where
          missed : (mode : Mode) → miss_disequality rules number left right m mode ≡ On n → Fine n
          missed Subtract g = cc
          missed Abduce g =
              miss_fact-fine m n number (Ne left right) (one, other) fine
              (on_then (is_logical left && is_logical right && not (same_exp left right))
              (miss_fact rules number (Ne left right) m) number n g)

          by_test : (b : Bool) → (if b then On m else miss_disequality rules number left right m rules.mode) ≡ On n → Fine n
          by_test true g = same-fine m n fine g
          by_test false g = missed rules.mode g

      want_equal-fine : (e f : Exp) (m n : Matching) → P e → P f → Fine m → (b d : Bool) → is_unbound rules.flexible m.binding e ≡ b →
          is_unbound rules.flexible m.binding f ≡ d → want_equal rules number e f m b d ≡ On n → Fine n
      want_equal-fine e f m n one other fine true false at_e at_f h =
          same-fine (bind m e (read rules.facts m.binding f)) n
          (bind-fine m e (read rules.facts m.binding f) fine at_e (read-fine m fine f other)) h
      want_equal-fine e f m n one other fine false true at_e at_f h =
          same-fine (bind m f (read rules.facts m.binding e)) n
          (bind-fine m f (read rules.facts m.binding e) fine at_f (read-fine m fine e one)) h
      want_equal-fine e f m n one other fine false false at_e at_f h =
          want_same-fine (read rules.facts m.binding e) (read rules.facts m.binding f) m n (read-fine m fine e one)
          (read-fine m fine f other) fine h
      want_equal-fine e f m n one other fine true true at_e at_f h = same-fine m n fine (on_then (same_exp e f) (On m) number n h)

      pub want_fact-fine : (fact : Fact) (m n : Matching) → IsFact limits params fact → Fine m → want_fact rules number fact m ≡ On n →
          Fine n
      want_fact-fine (Eq e f) m n is fine h =
          want_equal-fine e f m n is.0 is.1 fine (is_unbound rules.flexible m.binding e) (is_unbound rules.flexible m.binding f) refl refl h
      want_fact-fine (Ne e f) m n is fine h = by_test (is_unbound rules.flexible m.binding e || is_unbound rules.flexible m.binding f) h
        where
          by_test : (b : Bool) →
              (if b then Stuck number else want_apart rules number (read rules.facts m.binding e) (read rules.facts m.binding f) m) ≡ On n →
              Fine n
          by_test true g = cc
          by_test false g =
              want_apart-fine (read rules.facts m.binding e) (read rules.facts m.binding f) m n (read-fine m fine e is.0)
              (read-fine m fine f is.1) fine g

    pub want_facts-fine : (number : ℕ) (facts : List Fact) (m n : Matching) → All (IsFact limits params) facts → Fine m →
        want_facts rules number facts m ≡ On n → Fine n
    want_facts-fine number [] m n each fine h = same-fine m n fine h
    want_facts-fine number (fact ∷ facts) m n each fine h =
        by_turn (λ k k_fine g. want_facts-fine (number + 1) facts k n (All-tail (IsFact limits params) fact facts each) k_fine g)
        (want_fact rules number fact m) refl h
      where
        by_turn : ((k : Matching) → Fine k → want_facts rules (number + 1) facts k ≡ On n → Fine n) → (r : Turned) →
            want_fact rules number fact m ≡ r → and_then (want_facts rules (number + 1) facts) r ≡ On n → Fine n
        by_turn later (On k) f g = later k (want_fact-fine number fact m k (All-head (IsFact limits params) fact facts each) fine f) g
        by_turn later (Stuck other) f g = cc

    want_owed-fine : (owed : Owed) (m n : Matching) → IsOwed owed → Fine m → want_owed rules owed m ≡ On n → Fine n
    want_owed-fine owed m n is fine h = by_test (is_unbound rules.flexible m.binding owed.want) refl h
      where
        by_test : (b : Bool) → is_unbound rules.flexible m.binding owed.want ≡ b →
            (if b then On (bind m owed.want (read_through rules.facts owed.have))
            else want_same rules owed.number (read rules.facts m.binding owed.want) (read_through rules.facts owed.have) m) ≡ On n → Fine n
        by_test true f g =
            same-fine (bind m owed.want (read_through rules.facts owed.have)) n
            (bind-fine m owed.want (read_through rules.facts owed.have) fine f (read_through-fine rules.facts owed.have facts_fine is.1)) g
        by_test false f g =
            want_same-fine owed.number (read rules.facts m.binding owed.want) (read_through rules.facts owed.have) m n
            (read-fine m fine owed.want is.0) (read_through-fine rules.facts owed.have facts_fine is.1) fine g

    pub want_all_owed-fine : (all : List Owed) (m n : Matching) → All IsOwed all → Fine m → want_all_owed rules all m ≡ On n → Fine n
    want_all_owed-fine [] m n each fine h = same-fine m n fine h
    want_all_owed-fine (owed ∷ all) m n each fine h =
        by_turn (λ k k_fine g. want_all_owed-fine all k n (All-tail IsOwed owed all each) k_fine g) (want_owed rules owed m) refl h
      where
        by_turn : ((k : Matching) → Fine k → want_all_owed rules all k ≡ On n → Fine n) → (r : Turned) → want_owed rules owed m ≡ r →
            and_then (want_all_owed rules all) r ≡ On n → Fine n
        by_turn later (On k) f g = later k (want_owed-fine owed m k (All-head IsOwed owed all each) fine f) g
        by_turn later (Stuck other) f g = cc
