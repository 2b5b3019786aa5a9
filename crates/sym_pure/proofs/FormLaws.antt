-- The form of a state is normal.
use Rattle.std.specs.Prelude.{◌≡◌, ◌+◌, ◌≤◌, pos, Bool, true, false, not, ◌&&◌, List, [], ◌∷◌, map, length, filter, nat_lt, MatchOption}
use Rattle.std.proofs.Common.{refl, sym, ap, ◌∙◌, arith, ⊎_elim}
use Rattle.std.specs.List.{cons_option, list_all, list_any, position, position_or_len}
use Rattle.std.specs.declared.option.Option.{Option}
use Rattle.std.specs.declared.option.Option.TheVariants.{None, Some}
use Rattle.std.proofs.lemmas.Bool.{or_cases, or_parts, or_from, or_left, or_right, and_parts, and_from}
use Rattle.std.proofs.lemmas.Bool.Decides.{nat_tests}
use Rattle.shape_data.specs.declared.symbolic.Atom.{Atom}
use Rattle.shape_data.specs.declared.symbolic.Atom.TheVariants.{Points, Seg, Junk}
use Rattle.shape_data.specs.declared.symbolic.Exp.{Exp}
use Rattle.shape_data.specs.declared.symbolic.Exp.TheVariants.{Var, Const}
use Rattle.shape_data.specs.declared.symbolic.Fact.{Fact}
use Rattle.shape_data.specs.declared.symbolic.Fact.TheVariants.{Eq, Ne}
use Rattle.shape_data.specs.declared.symbolic.SymState.{SymState}
use Rattle.sym_parts.specs.Laws.Addresses.{addresses}
use Rattle.sym_parts.specs.Laws.Expressions.{same_exp, is_among, has_double}
use Rattle.sym_parts.specs.Laws.Junks.{is_junk, is_other}
use Rattle.sym_parts.specs.Laws.Mapped.{on_atom}
use Rattle.sym_pure.specs.declared.parts.Normal.{Normal}
use Rattle.sym_pure.specs.declared.parts.Normal.TheVariants.{Is, Contradiction}
use Rattle.sym_pure.specs.declared.parts.Settled.{Settled}
use Rattle.sym_pure.specs.declared.parts.Solved.{Solved}
use Rattle.sym_pure.specs.Contradictions.{has_same_sides, do_sources_clash, has_clash}
use Rattle.sym_pure.specs.Emptying.{is_empty, settle}
use Rattle.sym_pure.specs.IsNormal.{is_read, is_read_fact, is_read_atom, are_in_order, has_redundant, has_two_junk, are_normal_facts}
use Rattle.sym_pure.specs.IsNormal.{are_normal_atoms, is_normal_heap, is_normal}
use Rattle.sym_pure.specs.Laws.{FormIsNormal}
use Rattle.sym_pure.specs.Normal.{disequalities, form_of, normal_of, normal_settled, normal_solved, normal}
use Rattle.sym_pure.specs.Redundancy.{needed, one_junk}
use Rattle.sym_pure.specs.Solving.{read, solve, equations}
use Rattle.sym_pure.specs.Sources.{are_unequal_constants, is_written, do_ends_differ, source_of, sources}
use Rattle.sym_pure.proofs.EquationsLaws.{is_solved}
use Rattle.sym_pure.proofs.FormFactsLaws.{equations-order, equations-solved_in, equations-all, equations-redundant, equations-same_sides}
use Rattle.sym_pure.proofs.FormFactsLaws.{equations-written, needed-order, needed-redundant, needed-solved_in, needed-all, needed-written}
use Rattle.sym_pure.proofs.FormFactsLaws.{needed-same_sides}
use Rattle.sym_pure.proofs.SolutionLaws.{IsSolution, IsAtEnd, itself-unsolved, solve-solution, no_solution, settle-ends}

-- ---- lists

pub position-none : {A : Type 0} (test : A → Bool) (xs : List A) → position test xs ≡ None → list_any test xs ≡ false
position-none {A} test xs is = by_test (nat_lt (position_or_len test xs) (length xs)) refl is
  where
    none_passes : (ys : List A) → length ys ≤ position_or_len test ys → list_any test ys ≡ false
    none_passes [] h = refl
    none_passes (y ∷ ys) h = by_first (test y) refl h (λ k. none_passes ys k)
      where
        by_first : (b : Bool) → test y ≡ b → length (y ∷ ys) ≤ position_or_len test (y ∷ ys) →
            (length ys ≤ position_or_len test ys → list_any test ys ≡ false) → list_any test (y ∷ ys) ≡ false
        by_first true e k go_on = let wrong : length (y ∷ ys) ≤ 0 = rw e at k in absurd (omega arith)
        by_first false e k go_on = let inner : length (y ∷ ys)
            ≤ 1 + position_or_len test ys = rw e at k in or_from (test y) (list_any test ys) e (go_on (omega arith))

    by_test : (b : Bool) → nat_lt (position_or_len test xs) (length xs) ≡ b → position test xs ≡ None → list_any test xs ≡ false
    by_test true e k = let told : Some (position_or_len test xs) ≡ None = rw e at k in cc
    by_test false e k = none_passes xs (grind (arith, nat_tests))

all-map : {A B : Type 0} (test : B → Bool) (f : A → B) → ((x : A) → test (f x) ≡ true) → (xs : List A) → list_all test (map f xs) ≡ true
all-map test f passes [] = refl
all-map test f passes (x ∷ xs) = and_from (test (f x)) (list_all test (map f xs)) (passes x) (all-map test f passes xs)

all-filter : {A : Type 0} (test keep : A → Bool) (xs : List A) → list_all test xs ≡ true → list_all test (filter keep xs) ≡ true
all-filter test keep [] h = refl
all-filter test keep (x ∷ xs) h = by_test (keep x) refl (all-filter test keep xs parts.1)
  where
    parts : (test x ≡ true) × (list_all test xs ≡ true)
    parts = and_parts (test x) (list_all test xs) h

    by_test : (b : Bool) → keep x ≡ b → list_all test (filter keep xs) ≡ true → list_all test (filter keep (x ∷ xs)) ≡ true
    by_test true e k = rw e (and_from (test x) (list_all test (filter keep xs)) parts.0 k)
    by_test false e k = rw e k

-- ---- atoms with one Junk

addresses-others : (atoms : List Atom) → addresses (filter is_other atoms) ≡ addresses atoms
addresses-others [] = refl
addresses-others (Points at kind fields ∷ atoms) = ap (λ rest. at ∷ rest) (addresses-others atoms)
addresses-others (Seg kind link from to ∷ atoms) = addresses-others atoms
addresses-others (Junk ∷ atoms) = addresses-others atoms

addresses-one_junk : (atoms : List Atom) → addresses (one_junk atoms) ≡ addresses atoms
addresses-one_junk [] = refl
addresses-one_junk (Points at kind fields ∷ atoms) = ap (λ rest. at ∷ rest) (addresses-one_junk atoms)
addresses-one_junk (Seg kind link from to ∷ atoms) = addresses-one_junk atoms
addresses-one_junk (Junk ∷ atoms) = addresses-others atoms

sources-others : (facts : List Fact) (atoms : List Atom) → sources facts (filter is_other atoms) ≡ sources facts atoms
sources-others facts [] = refl
sources-others facts (Points at kind fields ∷ atoms) = ap (λ rest. at ∷ rest) (sources-others facts atoms)
sources-others facts (Seg kind link from to ∷ atoms) =
    ap (λ rest. cons_option (source_of facts (Seg kind link from to)) rest) (sources-others facts atoms)
sources-others facts (Junk ∷ atoms) = sources-others facts atoms

sources-one_junk : (facts : List Fact) (atoms : List Atom) → sources facts (one_junk atoms) ≡ sources facts atoms
sources-one_junk facts [] = refl
sources-one_junk facts (Points at kind fields ∷ atoms) = ap (λ rest. at ∷ rest) (sources-one_junk facts atoms)
sources-one_junk facts (Seg kind link from to ∷ atoms) =
    ap (λ rest. cons_option (source_of facts (Seg kind link from to)) rest) (sources-one_junk facts atoms)
sources-one_junk facts (Junk ∷ atoms) = sources-others facts atoms

all-one_junk : (test : Atom → Bool) (atoms : List Atom) → list_all test atoms ≡ true → list_all test (one_junk atoms) ≡ true
all-one_junk test [] h = refl
all-one_junk test (Points at kind fields ∷ atoms) h =
    let parts =
    and_parts (test (Points at kind fields)) (list_all test atoms) h in and_from (test (Points at kind fields))
    (list_all test (one_junk atoms)) parts.0 (all-one_junk test atoms parts.1)
all-one_junk test (Seg kind link from to ∷ atoms) h =
    let parts =
    and_parts (test (Seg kind link from to)) (list_all test atoms) h in and_from (test (Seg kind link from to))
    (list_all test (one_junk atoms)) parts.0 (all-one_junk test atoms parts.1)
all-one_junk test (Junk ∷ atoms) h =
    let parts =
    and_parts (test Junk) (list_all test atoms) h in and_from (test Junk) (list_all test (filter is_other atoms)) parts.0
    (all-filter test is_other atoms parts.1)

-- no segment is known to be empty
none_empty-others : (cells : List Exp) (atoms : List Atom) → list_any (is_empty [] cells) atoms ≡ false →
    list_any (is_empty [] cells) (filter is_other atoms) ≡ false
none_empty-others cells [] h = refl
none_empty-others cells (Points at kind fields ∷ atoms) h = none_empty-others cells atoms h
none_empty-others cells (Seg kind link from to ∷ atoms) h =
    let parts = or_parts (is_empty [] cells (Seg kind link from to)) (list_any (is_empty [] cells) atoms) h in
    or_from (is_empty [] cells (Seg kind link from to)) (list_any (is_empty [] cells) (filter is_other atoms)) parts.0
    (none_empty-others cells atoms parts.1)
none_empty-others cells (Junk ∷ atoms) h = none_empty-others cells atoms h

none_empty-one_junk : (cells : List Exp) (atoms : List Atom) → list_any (is_empty [] cells) atoms ≡ false →
    list_any (is_empty [] cells) (one_junk atoms) ≡ false
none_empty-one_junk cells [] h = refl
none_empty-one_junk cells (Points at kind fields ∷ atoms) h = none_empty-one_junk cells atoms h
none_empty-one_junk cells (Seg kind link from to ∷ atoms) h =
    let parts = or_parts (is_empty [] cells (Seg kind link from to)) (list_any (is_empty [] cells) atoms) h in
    or_from (is_empty [] cells (Seg kind link from to)) (list_any (is_empty [] cells) (one_junk atoms)) parts.0
    (none_empty-one_junk cells atoms parts.1)
none_empty-one_junk cells (Junk ∷ atoms) h = none_empty-others cells atoms h

none_empty-read : (solved : List Solved) (cells : List Exp) (atoms : List Atom) → list_any (is_empty solved cells) atoms ≡ false →
    list_any (is_empty [] cells) (map (on_atom (read solved)) atoms) ≡ false
none_empty-read solved cells [] h = refl
none_empty-read solved cells (Points at kind fields ∷ atoms) h = none_empty-read solved cells atoms h
none_empty-read solved cells (Seg kind link from to ∷ atoms) h =
    let parts = or_parts (is_empty solved cells (Seg kind link from to)) (list_any (is_empty solved cells) atoms) h in
    or_from (is_empty solved cells (Seg kind link from to)) (list_any (is_empty [] cells) (map (on_atom (read solved)) atoms)) parts.0
    (none_empty-read solved cells atoms parts.1)
none_empty-read solved cells (Junk ∷ atoms) h = none_empty-read solved cells atoms h

-- no two Junk
no_junk-others : (atoms : List Atom) → list_any is_junk (filter is_other atoms) ≡ false
no_junk-others [] = refl
no_junk-others (Points at kind fields ∷ atoms) = no_junk-others atoms
no_junk-others (Seg kind link from to ∷ atoms) = no_junk-others atoms
no_junk-others (Junk ∷ atoms) = no_junk-others atoms

no_two-others : (atoms : List Atom) → has_two_junk (filter is_other atoms) ≡ false
no_two-others [] = refl
no_two-others (Points at kind fields ∷ atoms) = no_two-others atoms
no_two-others (Seg kind link from to ∷ atoms) = no_two-others atoms
no_two-others (Junk ∷ atoms) = no_two-others atoms

no_two-one_junk : (atoms : List Atom) → has_two_junk (one_junk atoms) ≡ false
no_two-one_junk [] = refl
no_two-one_junk (Points at kind fields ∷ atoms) = no_two-one_junk atoms
no_two-one_junk (Seg kind link from to ∷ atoms) = no_two-one_junk atoms
no_two-one_junk (Junk ∷ atoms) =
    or_from (true && list_any is_junk (filter is_other atoms)) (has_two_junk (filter is_other atoms)) (no_junk-others atoms)
    (no_two-others atoms)

-- ---- fewer disequalities make fewer sources

module _ (few many : List Fact) (written : (e f : Exp) → is_written few e f ≡ true → is_written many e f ≡ true) where
  ends-many : (from to : Exp) → do_ends_differ few from to ≡ true → do_ends_differ many from to ≡ true
  ends-many from to h =
      ⊎_elim (λ constants. or_left (are_unequal_constants from to) (is_written many from to) constants)
      (λ k. or_right (are_unequal_constants from to) (is_written many from to) (written from to k))
      (or_cases (are_unequal_constants from to) (is_written few from to) h)

  among-many : (e : Exp) (atoms : List Atom) → is_among e (sources few atoms) ≡ true → is_among e (sources many atoms) ≡ true
  among-many e [] h = cc
  among-many e (Points at kind fields ∷ atoms) h =
      ⊎_elim (λ here. or_left (same_exp e at) (is_among e (sources many atoms)) here)
      (λ later. or_right (same_exp e at) (is_among e (sources many atoms)) (among-many e atoms later))
      (or_cases (same_exp e at) (is_among e (sources few atoms)) h)
  among-many e (Junk ∷ atoms) h = among-many e atoms h
  among-many e (Seg kind link from to ∷ atoms) h = by_few (do_ends_differ few from to) refl h (λ k. among-many e atoms k)
    where
      behind : (b : Bool) → do_ends_differ many from to ≡ b → is_among e (sources many atoms) ≡ true →
          is_among e (sources many (Seg kind link from to ∷ atoms)) ≡ true
      behind true m k = rw m (or_right (same_exp e from) (is_among e (sources many atoms)) k)
      behind false m k = rw m k

      by_few : (b : Bool) → do_ends_differ few from to ≡ b → is_among e (sources few (Seg kind link from to ∷ atoms)) ≡ true →
          (is_among e (sources few atoms) ≡ true → is_among e (sources many atoms) ≡ true) →
          is_among e (sources many (Seg kind link from to ∷ atoms)) ≡ true
      by_few true d k go_on =
          let told : is_among e (from ∷ sources few atoms) ≡ true = rw d at k in
          ⊎_elim (λ here. rw (ends-many from to d) (or_left (same_exp e from) (is_among e (sources many atoms)) here))
          (λ later. behind (do_ends_differ many from to) refl (go_on later))
          (or_cases (same_exp e from) (is_among e (sources few atoms)) told)
      by_few false d k go_on = let told : is_among e (sources few atoms)
          ≡ true = rw d at k in behind (do_ends_differ many from to) refl (go_on told)

  double-many : (atoms : List Atom) → has_double (sources few atoms) ≡ true → has_double (sources many atoms) ≡ true
  double-many [] h = cc
  double-many (Points at kind fields ∷ atoms) h =
      ⊎_elim (λ here. or_left (is_among at (sources many atoms)) (has_double (sources many atoms)) (among-many at atoms here))
      (λ later. or_right (is_among at (sources many atoms)) (has_double (sources many atoms)) (double-many atoms later))
      (or_cases (is_among at (sources few atoms)) (has_double (sources few atoms)) h)
  double-many (Junk ∷ atoms) h = double-many atoms h
  double-many (Seg kind link from to ∷ atoms) h = by_few (do_ends_differ few from to) refl h (λ k. double-many atoms k)
    where
      behind : (b : Bool) → do_ends_differ many from to ≡ b → has_double (sources many atoms) ≡ true →
          has_double (sources many (Seg kind link from to ∷ atoms)) ≡ true
      behind true m k = rw m (or_right (is_among from (sources many atoms)) (has_double (sources many atoms)) k)
      behind false m k = rw m k

      by_few : (b : Bool) → do_ends_differ few from to ≡ b → has_double (sources few (Seg kind link from to ∷ atoms)) ≡ true →
          (has_double (sources few atoms) ≡ true → has_double (sources many atoms) ≡ true) →
          has_double (sources many (Seg kind link from to ∷ atoms)) ≡ true
      by_few true d k go_on =
          let told : has_double (from ∷ sources few atoms) ≡ true = rw d at k in
          ⊎_elim (λ here. rw (ends-many from to d)
          (or_left (is_among from (sources many atoms)) (has_double (sources many atoms)) (among-many from atoms here)))
          (λ later. behind (do_ends_differ many from to) refl (go_on later))
          (or_cases (is_among from (sources few atoms)) (has_double (sources few atoms)) told)
      by_few false d k go_on = let told : has_double (sources few atoms)
          ≡ true = rw d at k in behind (do_ends_differ many from to) refl (go_on told)

  sources-clear : (atoms : List Atom) → do_sources_clash many atoms ≡ false → do_sources_clash few atoms ≡ false
  sources-clear atoms clear = by_test (do_sources_clash few atoms) refl
    where
      clash : do_sources_clash few atoms ≡ true → do_sources_clash many atoms ≡ true
      clash h =
          ⊎_elim (λ zero_in. or_left (is_among (Const (pos 0)) (sources many atoms)) (has_double (sources many atoms))
          (among-many (Const (pos 0)) atoms zero_in))
          (λ double. or_right (is_among (Const (pos 0)) (sources many atoms)) (has_double (sources many atoms)) (double-many atoms double))
          (or_cases (is_among (Const (pos 0)) (sources few atoms)) (has_double (sources few atoms)) h)

      by_test : (b : Bool) → do_sources_clash few atoms ≡ b → do_sources_clash few atoms ≡ false
      by_test false e = e
      by_test true e = let many_clash = clash e in cc

-- ---- the form

not_false : {b : Bool} → b ≡ false → not b ≡ true
not_false e = rw e refl

module _ (state : SymState) (settled : Settled) (end : IsAtEnd settled) where
  abbrev solved : List Solved
  solved = settled.solved

  abbrev facts : List Fact
  facts = disequalities settled.solved state.heap.pure

  abbrev atoms : List Atom
  atoms = map (on_atom (read settled.solved)) settled.atoms

  abbrev pure : List Fact
  pure = needed (addresses atoms) facts (equations settled.solved settled.solved [])

  -- what is read has no equation in the form
  reads : (e : Exp) → is_read pure (read solved e) ≡ true
  reads e = by_exp (read solved e) (end.0.clean e)
    where
      by_exp : (r : Exp) → read solved r ≡ r → is_read pure r ≡ true
      by_exp (Const n) itself = refl
      by_exp (Var x) itself =
          let unsolved : is_solved x solved ≡ false = itself-unsolved x solved end.0.lower itself in
          not_false (needed-solved_in (addresses atoms) x facts (equations solved solved [])
          (equations-solved_in solved x solved [] unsolved refl))

  facts-read : (some : List Fact) → list_all (is_read_fact pure) (disequalities solved some) ≡ true
  facts-read [] = refl
  facts-read (Eq left right ∷ some) = facts-read some
  facts-read (Ne left right ∷ some) =
      and_from (is_read pure (read solved left) && is_read pure (read solved right))
      (list_all (is_read_fact pure) (disequalities solved some))
      (and_from (is_read pure (read solved left)) (is_read pure (read solved right)) (reads left) (reads right)) (facts-read some)

  atom-read : (atom : Atom) → is_read_atom pure (on_atom (read solved) atom) ≡ true
  atom-read (Points at kind fields) =
      and_from (is_read pure (read solved at)) (list_all (is_read pure) (map (read solved) fields)) (reads at)
      (all-map (is_read pure) (read solved) reads fields)
  atom-read (Seg kind link from to) = and_from (is_read pure (read solved from)) (is_read pure (read solved to)) (reads from) (reads to)
  atom-read Junk = refl

  normal_facts : are_normal_facts (record { pure = pure; spatial = one_junk atoms }) ≡ true
  normal_facts =
      and_from (are_in_order 0 pure && list_all (is_read_fact pure) pure) (not (has_redundant (addresses (one_junk atoms)) pure))
      (and_from (are_in_order 0 pure) (list_all (is_read_fact pure) pure)
      (needed-order (addresses atoms) facts (equations solved solved [])
      (equations-order solved end.0.lower solved [] end.0.distinct (λ x is. is) (λ x is. refl) refl))
      (needed-all (addresses atoms) (is_read_fact pure) facts (equations solved solved []) (facts-read state.heap.pure)
      (equations-all solved (is_read_fact pure) (λ x. reads (Var x)) solved [] refl)))
      (not_false (rw (addresses-one_junk atoms)
      (needed-redundant (addresses atoms) facts (equations solved solved [])
      (equations-redundant (addresses atoms) solved solved [] refl))))

  normal_atoms : are_normal_atoms (record { pure = pure; spatial = one_junk atoms }) ≡ true
  normal_atoms =
      and_from (list_all (is_read_atom pure) (one_junk atoms) && not (list_any (is_empty [] (addresses (one_junk atoms))) (one_junk atoms)))
      (not (has_two_junk (one_junk atoms)))
      (and_from (list_all (is_read_atom pure) (one_junk atoms)) (not (list_any (is_empty [] (addresses (one_junk atoms))) (one_junk atoms)))
      (all-one_junk (is_read_atom pure) atoms (all-map (is_read_atom pure) (on_atom (read solved)) atom-read settled.atoms))
      (not_false (rw (addresses-one_junk atoms)
      (none_empty-one_junk (addresses atoms) atoms
      (none_empty-read solved (addresses atoms) settled.atoms (position-none (is_empty solved (addresses atoms)) settled.atoms end.1))))))
      (not_false (no_two-one_junk atoms))

  written-before : (e f : Exp) → is_written pure e f ≡ true → is_written facts e f ≡ true
  written-before e f h =
      ⊎_elim (λ k. let none : is_written [] e f ≡ true = sym (equations-written solved solved [] e f) ∙ k in absurd (nothing none)) (λ k. k)
      (needed-written (addresses atoms) facts (equations solved solved []) e f h)
    where
      nothing : false ≡ true → ⊥
      nothing k = cc

  no_clash : has_clash facts atoms ≡ false → has_clash pure (one_junk atoms) ≡ false
  no_clash clear =
      let parts = or_parts (has_same_sides facts) (do_sources_clash facts atoms) clear in
      let sides : has_same_sides pure ≡ false =
      needed-same_sides (addresses atoms) facts (equations solved solved []) parts.0 (equations-same_sides solved solved []) in
      let clear_sources : do_sources_clash pure atoms ≡ false = sources-clear pure facts written-before atoms parts.1 in
      or_from (has_same_sides pure) (do_sources_clash pure (one_junk atoms)) sides (rw (sources-one_junk pure atoms) clear_sources)

  form-normal : has_clash facts atoms ≡ false → is_normal (form_of state settled.solved facts atoms) ≡ true
  form-normal clear =
      and_from (is_normal_heap (record { pure = pure; spatial = one_junk atoms }))
      (list_all (is_read pure) (map (read solved) state.locals))
      (and_from (are_normal_facts (record { pure = pure; spatial = one_junk atoms })
      && are_normal_atoms (record { pure = pure; spatial = one_junk atoms })) (not (has_clash pure (one_junk atoms)))
      (and_from (are_normal_facts (record { pure = pure; spatial = one_junk atoms }))
      (are_normal_atoms (record { pure = pure; spatial = one_junk atoms })) normal_facts normal_atoms) (not_false (no_clash clear)))
      (all-map (is_read pure) (read solved) reads state.locals)

abbrev IsNormalForm : Normal → Type 0
IsNormalForm (Is form) = is_normal form ≡ true
IsNormalForm Contradiction = Unit {0}

settled-normal : (state : SymState) (o : Option Settled) → MatchOption o (Unit {0}) IsAtEnd → IsNormalForm (normal_settled state o)
settled-normal state None h = tt
settled-normal state (Some settled) end =
    by_clash (has_clash (disequalities settled.solved state.heap.pure) (map (on_atom (read settled.solved)) settled.atoms)) refl
  where
    by_clash : (b : Bool) →
        has_clash (disequalities settled.solved state.heap.pure) (map (on_atom (read settled.solved)) settled.atoms) ≡ b →
        IsNormalForm
        (normal_of state settled.solved (disequalities settled.solved state.heap.pure) (map (on_atom (read settled.solved)) settled.atoms))
    by_clash true e = rw e tt
    by_clash false e = rw e (form-normal state settled end e)

solved-normal : (state : SymState) (o : Option (List Solved)) → MatchOption o (Unit {0}) IsSolution → IsNormalForm (normal_solved state o)
solved-normal state None h = tt
solved-normal state (Some solved) is =
    settled-normal state (settle (length state.heap.spatial) solved state.heap.spatial)
    (settle-ends (length state.heap.spatial) solved state.heap.spatial (omega arith) is)

pub form_is_normal : FormIsNormal
form_is_normal state form is =
    let told : IsNormalForm (normal state) =
    solved-normal state (solve state.heap.pure []) (solve-solution state.heap.pure [] no_solution) in rw is at told
