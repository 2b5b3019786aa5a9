-- A form has no more parts than its state, and no more atoms: each solved equation comes from an equation or from a segment that went.
use Rattle.std.specs.Prelude.{◌≡◌, ℕ, zero, suc, ◌+◌, ◌≤◌, Bool, true, false, ◌==◌, ltb, List, [], ◌∷◌, map, length, filter, slice_get}
use Rattle.std.specs.Prelude.{MatchOption}
use Rattle.std.proofs.Common.{refl, ap, subst, arith, length-append}
use Rattle.std.proofs.lemmas.List.{length-map}
use Rattle.std.specs.List.{remove}
use Rattle.std.specs.Ordering.{int_eq}
use Rattle.std.specs.declared.option.Option.{Option}
use Rattle.std.specs.declared.option.Option.TheVariants.{None, Some}
use Rattle.shape_data.specs.declared.symbolic.Atom.{Atom}
use Rattle.shape_data.specs.declared.symbolic.Atom.TheVariants.{Points, Seg, Junk}
use Rattle.shape_data.specs.declared.symbolic.Exp.{Exp}
use Rattle.shape_data.specs.declared.symbolic.Exp.TheVariants.{Var, Const}
use Rattle.shape_data.specs.declared.symbolic.Fact.{Fact}
use Rattle.shape_data.specs.declared.symbolic.Fact.TheVariants.{Eq, Ne}
use Rattle.shape_data.specs.declared.symbolic.SymState.{SymState}
use Rattle.sym_parts.specs.Laws.Addresses.{addresses}
use Rattle.sym_parts.specs.Laws.Junks.{is_other}
use Rattle.sym_parts.specs.Laws.Mapped.{on_atom}
use Rattle.sym_pure.specs.declared.parts.Normal.{Normal}
use Rattle.sym_pure.specs.declared.parts.Normal.TheVariants.{Is, Contradiction}
use Rattle.sym_pure.specs.declared.parts.Settled.{Settled}
use Rattle.sym_pure.specs.declared.parts.Solved.{Solved}
use Rattle.sym_pure.specs.Contradictions.{has_clash}
use Rattle.sym_pure.specs.Emptying.{place_of_empty, settle_at, settle}
use Rattle.sym_pure.specs.Laws.{HasNoMoreParts, FormHasNoMoreParts}
use Rattle.sym_pure.specs.Normal.{disequalities, form_of, normal_of, normal_settled, normal_solved, normal}
use Rattle.sym_pure.specs.Redundancy.{is_redundant, with_needed, needed, one_junk}
use Rattle.sym_pure.specs.Solving.{read, with_solved, with_read, with_equation, solve, stands_behind, with_equation_of, equations}
use Rattle.sym_pure.proofs.EmptyingLaws.{IsEmptied, place_of_empty-is}
use Rattle.sym_pure.proofs.EquationsLaws.{with_one}
use Rattle.sym_pure.proofs.SolvingLaws.{unless_clash-goes}

pub remove-shorter : {A : Type 0} (xs : List A) (place : ℕ) (x : A) → slice_get xs place ≡ Some x →
    length xs ≡ suc (length (remove xs place))
remove-shorter [] place x is = cc
remove-shorter (y ∷ ys) zero x is = refl
remove-shorter (y ∷ ys) (suc place) x is = ap (λ n. suc n) (remove-shorter ys place x is)

pub filter-fewer : {A : Type 0} (test : A → Bool) (xs : List A) → length (filter test xs) ≤ length xs
filter-fewer test [] = omega arith
filter-fewer test (x ∷ xs) = by_test (test x) refl (filter-fewer test xs)
  where
    by_test : (b : Bool) → test x ≡ b → length (filter test xs) ≤ length xs → length (filter test (x ∷ xs)) ≤ length (x ∷ xs)
    by_test true e k = rw e (omega arith)
    by_test false e k = rw e (omega arith)

-- no more than one longer
abbrev AtMostOneMore : List Solved → List Solved → Type 0
AtMostOneMore solved more = length more ≤ suc (length solved)

push-longer : (solved : List Solved) (variable : ℕ) (by : Exp) → AtMostOneMore solved (with_solved solved variable by)
push-longer solved variable by = omega (arith, length-append solved (record { variable = variable; by = by } ∷ []))

with_read-longer : (solved : List Solved) (left right : Exp) → MatchOption (with_read solved left right) (Unit {0}) (AtMostOneMore solved)
with_read-longer solved (Const m) (Const n) = by_test (int_eq m n) refl
  where
    by_test : (b : Bool) → int_eq m n ≡ b → MatchOption (with_read solved (Const m) (Const n)) (Unit {0}) (AtMostOneMore solved)
    by_test true e = rw e (omega arith)
    by_test false e = rw e tt
with_read-longer solved (Var x) (Const n) = push-longer solved x (Const n)
with_read-longer solved (Const n) (Var x) = push-longer solved x (Const n)
with_read-longer solved (Var x) (Var y) = by_test (x == y) refl (ltb x y) refl
  where
    by_test : (b : Bool) → (x == y) ≡ b → (d : Bool) → ltb x y ≡ d →
        MatchOption (with_read solved (Var x) (Var y)) (Unit {0}) (AtMostOneMore solved)
    by_test true e d f = rw e (omega arith)
    by_test false e true f = rw (e, f) (push-longer solved y (Var x))
    by_test false e false f = rw (e, f) (push-longer solved x (Var y))

with_equation-longer : (solved : List Solved) (left right : Exp) →
    MatchOption (with_equation solved left right) (Unit {0}) (AtMostOneMore solved)
with_equation-longer solved left right = with_read-longer solved (read solved left) (read solved right)

-- solved equations and disequalities are no more than the facts
abbrev AreWithin : List Fact → List Solved → List Solved → Type 0
AreWithin facts solved more = (any : List Solved) → length more + length (disequalities any facts) ≤ length solved + length facts

solve-within : (facts : List Fact) (solved : List Solved) → MatchOption (solve facts solved) (Unit {0}) (AreWithin facts solved)
solve-within [] solved = λ any. omega arith
solve-within (Eq left right ∷ facts) solved =
    unless_clash-goes (Unit {0}) (AtMostOneMore solved) (AreWithin (Eq left right ∷ facts) solved) (λ more. solve facts more)
    (with_equation solved left right) (with_equation-longer solved left right)
    (λ more k. stronger more k (solve facts more) (solve-within facts more))
  where
    stronger : (more : List Solved) → AtMostOneMore solved more → (o : Option (List Solved)) →
        MatchOption o (Unit {0}) (AreWithin facts more) → MatchOption o (Unit {0}) (AreWithin (Eq left right ∷ facts) solved)
    stronger more k None l = tt
    stronger more k (Some last) l = λ any. omega (arith, l any)
solve-within (Ne left right ∷ facts) solved = stronger (solve facts solved) (solve-within facts solved)
  where
    stronger : (o : Option (List Solved)) → MatchOption o (Unit {0}) (AreWithin facts solved) →
        MatchOption o (Unit {0}) (AreWithin (Ne left right ∷ facts) solved)
    stronger None l = tt
    stronger (Some last) l = λ any. omega (arith, l any)

-- a segment that goes brings one equation at most, and no atom comes
record IsWithin (solved : List Solved) (atoms : List Atom) (settled : Settled) : Type 0 where
  both : length settled.solved + length settled.atoms ≤ length solved + length atoms
  fewer : length settled.atoms ≤ length atoms

settle-within : (turns : ℕ) (solved : List Solved) (atoms : List Atom) →
    MatchOption (settle turns solved atoms) (Unit {0}) (IsWithin solved atoms)
settle-within zero solved atoms = record { both = omega arith; fewer = omega arith }
settle-within (suc turns) solved atoms =
    by_place (place_of_empty solved atoms) (place_of_empty-is solved atoms) (λ more others. settle-within turns more others)
  where
    stronger : (place : ℕ) (atom : Atom) → slice_get atoms place ≡ Some atom → (more : List Solved) → AtMostOneMore solved more →
        (o : Option Settled) → MatchOption o (Unit {0}) (IsWithin more (remove atoms place)) →
        MatchOption o (Unit {0}) (IsWithin solved atoms)
    stronger place atom is more k None l = tt
    stronger place atom is more k (Some settled) l =
        let shorter = remove-shorter atoms place atom is in
        let both = l.both in
        let fewer = l.fewer in
        record { both = omega (arith, k, shorter, both); fewer = omega (arith, shorter, fewer) }

    by_place : (o : Option ℕ) → ((place : ℕ) → o ≡ Some place → IsEmptied solved atoms place) →
        ((more : List Solved) (others : List Atom) → MatchOption (settle turns more others) (Unit {0}) (IsWithin more others)) →
        MatchOption (settle_at (λ more others. settle turns more others) solved atoms o) (Unit {0}) (IsWithin solved atoms)
    by_place None is again = record { both = omega arith; fewer = omega arith }
    by_place (Some place) is again =
        let emptied : IsEmptied solved atoms place = is place refl in
        rw emptied.is
        (unless_clash-goes (Unit {0}) (AtMostOneMore solved) (IsWithin solved atoms) (λ more. settle turns more (remove atoms place))
        (with_equation solved emptied.from emptied.to)
        (with_equation-longer solved emptied.from emptied.to)
        (λ more k. stronger place (Seg emptied.kind emptied.link emptied.from emptied.to) emptied.is more k
        (settle turns more (remove atoms place)) (again more (remove atoms place))))

inserted-longer : (variable : ℕ) (by : Exp) (facts : List Fact) → length (with_equation_of variable by facts) ≡ suc (length facts)
inserted-longer variable by [] = refl
inserted-longer variable by (fact ∷ facts) = by_test (stands_behind variable fact) refl (inserted-longer variable by facts)
  where
    by_test : (b : Bool) → stands_behind variable fact ≡ b → length (with_equation_of variable by facts) ≡ suc (length facts) →
        length (with_equation_of variable by (fact ∷ facts)) ≡ suc (length (fact ∷ facts))
    by_test true e k = rw e refl
    by_test false e k = rw e (ap (λ n. suc n) k)

equations-within : (all later : List Solved) (facts : List Fact) → length (equations all later facts) ≤ length facts + length later
equations-within all [] facts = omega arith
equations-within all (first ∷ later) facts = by_test (ltb first.variable 65536) refl (equations-within all later (with_one all first facts))
  where
    by_test : (b : Bool) → ltb first.variable 65536 ≡ b →
        length (equations all later (with_one all first facts)) ≤ length (with_one all first facts) + length later →
        length (equations all later (with_one all first facts)) ≤ length facts + length (first ∷ later)
    by_test true e k =
        let one : length (with_one all first facts) ≡ suc (length facts) =
        rw e (inserted-longer first.variable (read all (Var first.variable)) facts) in
        omega arith
    by_test false e k = let none : length (with_one all first facts) ≡ length facts = rw e refl in omega arith

needed-within : (cells : List Exp) (facts kept : List Fact) → length (needed cells facts kept) ≤ length kept + length facts
needed-within cells [] kept = omega arith
needed-within cells (Eq left right ∷ facts) kept = omega (arith, needed-within cells facts kept)
needed-within cells (Ne left right ∷ facts) kept =
    by_test (is_redundant cells kept left right) refl (needed-within cells facts (with_needed cells kept left right))
  where
    by_test : (b : Bool) → is_redundant cells kept left right ≡ b →
        length (needed cells facts (with_needed cells kept left right)) ≤ length (with_needed cells kept left right) + length facts →
        length (needed cells facts (with_needed cells kept left right)) ≤ length kept + length (Ne left right ∷ facts)
    by_test true e k = let none : length (with_needed cells kept left right) ≡ length kept = rw e refl in omega arith
    by_test false e k =
        let one : length (with_needed cells kept left right) ≡ length kept + 1 = rw e (length-append kept (Ne left right ∷ [])) in
        omega arith

junk-within : (atoms : List Atom) → length (one_junk atoms) ≤ length atoms
junk-within [] = omega arith
junk-within (Points at kind fields ∷ atoms) = omega (arith, junk-within atoms)
junk-within (Seg kind link from to ∷ atoms) = omega (arith, junk-within atoms)
junk-within (Junk ∷ atoms) = omega (arith, filter-fewer is_other atoms)

record IsSmallForm (state form : SymState) : Type 0 where
  parts : HasNoMoreParts state form
  fewer : length form.heap.spatial ≤ length state.heap.spatial

abbrev IsSmall : SymState → Normal → Type 0
IsSmall state (Is form) = IsSmallForm state form
IsSmall state Contradiction = Unit {0}

settled-small : (state : SymState) (solved : List Solved) (o : Option Settled) → AreWithin state.heap.pure [] solved →
    MatchOption o (Unit {0}) (IsWithin solved state.heap.spatial) → IsSmall state (normal_settled state o)
settled-small state solved None h k = tt
settled-small state solved (Some settled) h k = by_test (has_clash facts atoms) refl
  where
    facts : List Fact
    facts = disequalities settled.solved state.heap.pure

    atoms : List Atom
    atoms = map (on_atom (read settled.solved)) settled.atoms

    by_test : (b : Bool) → has_clash facts atoms ≡ b → IsSmall state (normal_of state settled.solved facts atoms)
    by_test true e = rw e tt
    by_test false e = rw e small
      where
        equal : List Fact
        equal = equations settled.solved settled.solved []

        atoms-alike : length atoms ≡ length settled.atoms
        atoms-alike = length-map settled.atoms (on_atom (read settled.solved))

        parts : length (needed (addresses atoms) facts equal) + length (one_junk atoms) ≤ length state.heap.pure + length state.heap.spatial
        parts =
            let on_facts = needed-within (addresses atoms) facts equal in
            let on_equations = equations-within settled.solved settled.solved [] in
            let on_junk = junk-within atoms in
            let on_atoms : length atoms ≡ length settled.atoms = atoms-alike in
            let on_state = h settled.solved in
            let on_settled = k.both in
            omega arith

        small : IsSmallForm state (form_of state settled.solved facts atoms)
        small = record {
          parts = record { parts = parts; locals = length-map state.locals (read settled.solved) };
          fewer = omega (arith, junk-within atoms, atoms-alike, k.fewer);
        }

solved-small : (state : SymState) (o : Option (List Solved)) → MatchOption o (Unit {0}) (AreWithin state.heap.pure []) →
    IsSmall state (normal_solved state o)
solved-small state None h = tt
solved-small state (Some solved) h =
    settled-small state solved (settle (length state.heap.spatial) solved state.heap.spatial) h
    (settle-within (length state.heap.spatial) solved state.heap.spatial)

any-small : (state : SymState) → IsSmall state (normal state)
any-small state = solved-small state (solve state.heap.pure []) (solve-within state.heap.pure [])

form-small : (state form : SymState) → normal state ≡ Is form → IsSmallForm state form
form-small state form is = subst (IsSmall state) is (any-small state)

pub form_has_no_more_parts : FormHasNoMoreParts
form_has_no_more_parts state form is = (form-small state form is).parts

pub form_has_no_more_atoms : (state form : SymState) → normal state ≡ Is form → length form.heap.spatial ≤ length state.heap.spatial
form_has_no_more_atoms state form is = (form-small state form is).fewer

-- the form, if there is one, has no more atoms
abbrev pub FormHasNoMore : SymState → Normal → Type 0
FormHasNoMore state (Is form) = length form.heap.spatial ≤ length state.heap.spatial
FormHasNoMore state Contradiction = Unit {0}

pub form-fewer : (state : SymState) → FormHasNoMore state (normal state)
form-fewer state = by_form (normal state) (any-small state)
  where
    by_form : (n : Normal) → IsSmall state n → FormHasNoMore state n
    by_form (Is form) small = small.fewer
    by_form Contradiction small = tt
