-- What holds of each expression of a state holds of each of its form, and what holds of each of its atoms too where
-- reading keeps it.
use Rattle.std.specs.Prelude.{◌≡◌, ℕ, zero, suc, Bool, true, false, ◌==◌, ltb, List, [], ◌∷◌, map, length, filter, slice_get, MatchOption}
use Rattle.std.specs.Prelude.{All}
use Rattle.std.proofs.Common.{refl}
use Rattle.std.specs.List.{remove}
use Rattle.std.specs.Ordering.{int_eq}
use Rattle.std.specs.declared.option.Option.{Option}
use Rattle.std.specs.declared.option.Option.TheVariants.{None, Some}
use Rattle.std.proofs.lemmas.List.Elements.{All-nil, All-cons, All-head, All-tail, All-append, All-filter, All-map, All-weaker}
use Rattle.shape_data.specs.declared.symbolic.Atom.{Atom}
use Rattle.shape_data.specs.declared.symbolic.Atom.TheVariants.{Points, Seg, Junk}
use Rattle.shape_data.specs.declared.symbolic.Exp.{Exp}
use Rattle.shape_data.specs.declared.symbolic.Exp.TheVariants.{Var, Const}
use Rattle.shape_data.specs.declared.symbolic.Fact.{Fact}
use Rattle.shape_data.specs.declared.symbolic.Fact.TheVariants.{Eq, Ne}
use Rattle.shape_data.specs.declared.symbolic.SymState.{SymState}
use Rattle.sym_parts.specs.Laws.Addresses.{addresses}
use Rattle.sym_parts.specs.Laws.Each.{EachInAtom, EachInFact, EachInState}
use Rattle.sym_parts.specs.Laws.Junks.{is_other}
use Rattle.sym_parts.specs.Laws.Mapped.{on_atom}
use Rattle.sym_parts.proofs.LawsLemmas.EachLemmas.{each-on_exps, each-on_atom}
use Rattle.sym_pure.specs.declared.parts.Normal.{Normal}
use Rattle.sym_pure.specs.declared.parts.Normal.TheVariants.{Is, Contradiction}
use Rattle.sym_pure.specs.declared.parts.Settled.{Settled}
use Rattle.sym_pure.specs.declared.parts.Solved.{Solved}
use Rattle.sym_pure.specs.Contradictions.{has_clash}
use Rattle.sym_pure.specs.Emptying.{place_of_empty, settle_at, settle}
use Rattle.sym_pure.specs.Laws.{FormHasNoOther}
use Rattle.sym_pure.specs.Normal.{disequalities, normal_of, normal_settled, normal_solved, normal}
use Rattle.sym_pure.specs.Redundancy.{is_redundant, with_needed, needed, one_junk}
use Rattle.sym_pure.specs.Solving.{instead, read, with_solved, with_read, with_equation, solve, stands_behind, with_equation_of, equations}
use Rattle.sym_pure.proofs.EmptyingLaws.{IsEmptied, place_of_empty-is}
use Rattle.sym_pure.proofs.EquationsLaws.{with_one}
use Rattle.sym_pure.proofs.SolvingLaws.{unless_clash-goes}

-- ---- one element of a list, and the others

pub All-get : {A : Type 0} (P : A → Type 0) (xs : List A) (place : ℕ) (x : A) → slice_get xs place ≡ Some x → All P xs → P x
All-get P [] place x is h = cc
All-get P (y ∷ ys) zero x is h = let same : x ≡ y = cc in rw same (All-head P y ys h)
All-get P (y ∷ ys) (suc place) x is h = All-get P ys place x is (All-tail P y ys h)

pub All-remove : {A : Type 0} (P : A → Type 0) (xs : List A) (place : ℕ) → All P xs → All P (remove xs place)
All-remove P [] zero h = h
All-remove P [] (suc place) h = h
All-remove P (y ∷ ys) zero h = All-tail P y ys h
All-remove P (y ∷ ys) (suc place) h = All-cons P y (remove ys place) (All-head P y ys h) (All-remove P ys place (All-tail P y ys h))

-- P of expressions; Q of atoms, which says P of each expression, and which reading keeps
module _ (P : Exp → Type 0) (Q : Atom → Type 0) (q_each : (atom : Atom) → Q atom → EachInAtom P atom)
    (q_maps : (f : Exp → Exp) → ((e : Exp) → P e → P (f e)) → (atom : Atom) → Q atom → Q (on_atom f atom)) (q_junk : Q Junk) where
  -- P holds of the sides of each solved equation
  abbrev pub SolvedEach : List Solved → Type 0
  SolvedEach [] = Unit {0}
  SolvedEach (first ∷ later) = (P (Var first.variable) × P first.by) × SolvedEach later

  instead-each : (variable : ℕ) (by e : Exp) → P by → P e → P (instead variable by e)
  instead-each variable by (Const n) b h = h
  instead-each variable by (Var x) b h = by_test (x == variable) refl
    where
      by_test : (t : Bool) → (x == variable) ≡ t → P (instead variable by (Var x))
      by_test true e = rw e b
      by_test false e = rw e h

  read-each : (solved : List Solved) (e : Exp) → SolvedEach solved → P e → P (read solved e)
  read-each [] e s h = h
  read-each (first ∷ later) e s h = read-each later (instead first.variable first.by e) s.1 (instead-each first.variable first.by e s.0.1 h)

  push-each : (solved : List Solved) (variable : ℕ) (by : Exp) → SolvedEach solved → P (Var variable) → P by →
      SolvedEach (with_solved solved variable by)
  push-each [] variable by s v b = ((v, b), tt)
  push-each (first ∷ later) variable by s v b = (s.0, push-each later variable by s.1 v b)

  with_read-each : (solved : List Solved) (left right : Exp) → SolvedEach solved → P left → P right →
      MatchOption (with_read solved left right) (Unit {0}) SolvedEach
  with_read-each solved (Const m) (Const n) s l r = by_test (int_eq m n) refl
    where
      by_test : (b : Bool) → int_eq m n ≡ b → MatchOption (with_read solved (Const m) (Const n)) (Unit {0}) SolvedEach
      by_test true e = rw e s
      by_test false e = rw e tt
  with_read-each solved (Var x) (Const n) s l r = push-each solved x (Const n) s l r
  with_read-each solved (Const n) (Var x) s l r = push-each solved x (Const n) s r l
  with_read-each solved (Var x) (Var y) s l r = by_test (x == y) refl (ltb x y) refl
    where
      by_test : (b : Bool) → (x == y) ≡ b → (d : Bool) → ltb x y ≡ d → MatchOption (with_read solved (Var x) (Var y)) (Unit {0}) SolvedEach
      by_test true e d f = rw e s
      by_test false e true f = rw (e, f) (push-each solved y (Var x) s r l)
      by_test false e false f = rw (e, f) (push-each solved x (Var y) s l r)

  with_equation-each : (solved : List Solved) (left right : Exp) → SolvedEach solved → P left → P right →
      MatchOption (with_equation solved left right) (Unit {0}) SolvedEach
  with_equation-each solved left right s l r =
      with_read-each solved (read solved left) (read solved right) s (read-each solved left s l) (read-each solved right s r)

  solve-each : (facts : List Fact) (solved : List Solved) → All (EachInFact P) facts → SolvedEach solved →
      MatchOption (solve facts solved) (Unit {0}) SolvedEach
  solve-each [] solved f s = s
  solve-each (Eq left right ∷ facts) solved f s =
      let sides : P left × P right = All-head (EachInFact P) (Eq left right) facts f in
      unless_clash-goes (Unit {0}) SolvedEach SolvedEach (λ more. solve facts more) (with_equation solved left right)
      (with_equation-each solved left right s sides.0 sides.1)
      (λ more k. solve-each facts more (All-tail (EachInFact P) (Eq left right) facts f) k)
  solve-each (Ne left right ∷ facts) solved f s = solve-each facts solved (All-tail (EachInFact P) (Ne left right) facts f) s

  abbrev SettledEach : Settled → Type 0
  SettledEach settled = SolvedEach settled.solved × All Q settled.atoms

  settle-each : (turns : ℕ) (solved : List Solved) (atoms : List Atom) → SolvedEach solved → All Q atoms →
      MatchOption (settle turns solved atoms) (Unit {0}) SettledEach
  settle-each zero solved atoms s a = (s, a)
  settle-each (suc turns) solved atoms s a =
      by_place (place_of_empty solved atoms) (place_of_empty-is solved atoms) (λ more others k l. settle-each turns more others k l)
    where
      by_place : (o : Option ℕ) → ((place : ℕ) → o ≡ Some place → IsEmptied solved atoms place) →
          ((more : List Solved) (others : List Atom) → SolvedEach more → All Q others →
          MatchOption (settle turns more others) (Unit {0}) SettledEach) →
          MatchOption (settle_at (λ more others. settle turns more others) solved atoms o) (Unit {0}) SettledEach
      by_place None is again = (s, a)
      by_place (Some place) is again =
          let emptied : IsEmptied solved atoms place = is place refl in
          let ends : P emptied.from
          × P emptied.to =
          q_each (Seg emptied.kind emptied.link emptied.from emptied.to)
          (All-get Q atoms place (Seg emptied.kind emptied.link emptied.from emptied.to) emptied.is a) in
          rw emptied.is
          (unless_clash-goes (Unit {0}) SolvedEach SettledEach (λ more. settle turns more (remove atoms place))
          (with_equation solved emptied.from emptied.to) (with_equation-each solved emptied.from emptied.to s ends.0 ends.1)
          (λ more k. again more (remove atoms place) k (All-remove Q atoms place a)))

  module _ (solved : List Solved) (s : SolvedEach solved) where
    atoms-read : (atoms : List Atom) → All Q atoms → All Q (map (on_atom (read solved)) atoms)
    atoms-read atoms h =
        All-map Q (on_atom (read solved)) atoms
        (All-weaker Q (λ atom. Q (on_atom (read solved) atom)) (λ atom. q_maps (read solved) (λ e. read-each solved e s) atom) atoms h)

    disequalities-each : (facts : List Fact) → All (EachInFact P) facts → All (EachInFact P) (disequalities solved facts)
    disequalities-each [] f = All-nil (EachInFact P)
    disequalities-each (Eq left right ∷ facts) f = disequalities-each facts (All-tail (EachInFact P) (Eq left right) facts f)
    disequalities-each (Ne left right ∷ facts) f =
        let sides : P left × P right = All-head (EachInFact P) (Ne left right) facts f in
        All-cons (EachInFact P) (Ne (read solved left) (read solved right)) (disequalities solved facts)
        (read-each solved left s sides.0, read-each solved right s sides.1)
        (disequalities-each facts (All-tail (EachInFact P) (Ne left right) facts f))

    needed-each : (cells : List Exp) (facts kept : List Fact) → All (EachInFact P) facts → All (EachInFact P) kept →
        All (EachInFact P) (needed cells facts kept)
    needed-each cells [] kept f k = k
    needed-each cells (Eq left right ∷ facts) kept f k = needed-each cells facts kept (All-tail (EachInFact P) (Eq left right) facts f) k
    needed-each cells (Ne left right ∷ facts) kept f k =
        needed-each cells facts (with_needed cells kept left right) (All-tail (EachInFact P) (Ne left right) facts f)
        (by_test (is_redundant cells kept left right) refl)
      where
        by_test : (b : Bool) → is_redundant cells kept left right ≡ b → All (EachInFact P) (with_needed cells kept left right)
        by_test true e = rw e k
        by_test false e =
            rw e (All-append (EachInFact P) kept (Ne left right ∷ []) k
            (All-cons (EachInFact P) (Ne left right) [] (All-head (EachInFact P) (Ne left right) facts f) (All-nil (EachInFact P))))

    inserted-each : (variable : ℕ) (by : Exp) (facts : List Fact) → P (Var variable) → P by → All (EachInFact P) facts →
        All (EachInFact P) (with_equation_of variable by facts)
    inserted-each variable by [] v b h = All-cons (EachInFact P) (Eq (Var variable) by) [] (v, b) h
    inserted-each variable by (fact ∷ facts) v b h =
        by_test (stands_behind variable fact) refl (inserted-each variable by facts v b (All-tail (EachInFact P) fact facts h))
      where
        by_test : (t : Bool) → stands_behind variable fact ≡ t → All (EachInFact P) (with_equation_of variable by facts) →
            All (EachInFact P) (with_equation_of variable by (fact ∷ facts))
        by_test true e k = rw e (All-cons (EachInFact P) (Eq (Var variable) by) (fact ∷ facts) (v, b) h)
        by_test false e k =
            rw e (All-cons (EachInFact P) fact (with_equation_of variable by facts) (All-head (EachInFact P) fact facts h) k)

    equations-each : (later : List Solved) (facts : List Fact) → SolvedEach later → All (EachInFact P) facts →
        All (EachInFact P) (equations solved later facts)
    equations-each [] facts l h = h
    equations-each (first ∷ later) facts l h =
        equations-each later (with_one solved first facts) l.1 (by_test (ltb first.variable 65536) refl)
      where
        by_test : (b : Bool) → ltb first.variable 65536 ≡ b → All (EachInFact P) (with_one solved first facts)
        by_test true e =
            rw e (inserted-each first.variable (read solved (Var first.variable)) facts l.0.0
            (read-each solved (Var first.variable) s l.0.0) h)
        by_test false e = rw e h

  junk-each : (atoms : List Atom) → All Q atoms → All Q (one_junk atoms)
  junk-each [] h = h
  junk-each (Points at kind fields ∷ atoms) h =
      All-cons Q (Points at kind fields) (one_junk atoms) (All-head Q (Points at kind fields) atoms h)
      (junk-each atoms (All-tail Q (Points at kind fields) atoms h))
  junk-each (Seg kind link from to ∷ atoms) h =
      All-cons Q (Seg kind link from to) (one_junk atoms) (All-head Q (Seg kind link from to) atoms h)
      (junk-each atoms (All-tail Q (Seg kind link from to) atoms h))
  junk-each (Junk ∷ atoms) h = All-cons Q Junk (filter is_other atoms) q_junk (All-filter is_other Q atoms (All-tail Q Junk atoms h))

  -- P of the locals and the facts, Q of the atoms
  abbrev pub StateEach : SymState → Type 0
  StateEach state = All P state.locals × All (EachInFact P) state.heap.pure × All Q state.heap.spatial

  abbrev NormalEach : Normal → Type 0
  NormalEach (Is form) = StateEach form
  NormalEach Contradiction = Unit {0}

  settled-each : (state : SymState) (o : Option Settled) → StateEach state → MatchOption o (Unit {0}) SettledEach →
      NormalEach (normal_settled state o)
  settled-each state None h k = tt
  settled-each state (Some settled) h k = by_test (has_clash facts atoms) refl
    where
      facts : List Fact
      facts = disequalities settled.solved state.heap.pure

      atoms : List Atom
      atoms = map (on_atom (read settled.solved)) settled.atoms

      by_test : (b : Bool) → has_clash facts atoms ≡ b → NormalEach (normal_of state settled.solved facts atoms)
      by_test true e = rw e tt
      by_test false e =
          rw e (
            each-on_exps P P (read settled.solved) (λ x p. read-each settled.solved x k.0 p) state.locals h.0,
            needed-each settled.solved k.0 (addresses atoms) facts (equations settled.solved settled.solved [])
                (disequalities-each settled.solved k.0 state.heap.pure h.1)
                (equations-each settled.solved k.0 settled.solved [] k.0 (All-nil (EachInFact P))),
            junk-each atoms (atoms-read settled.solved k.0 settled.atoms k.1),
          )

  solved-each : (state : SymState) (o : Option (List Solved)) → StateEach state → MatchOption o (Unit {0}) SolvedEach →
      NormalEach (normal_solved state o)
  solved-each state None h k = tt
  solved-each state (Some solved) h k =
      settled-each state (settle (length state.heap.spatial) solved state.heap.spatial) h
      (settle-each (length state.heap.spatial) solved state.heap.spatial k h.2)

  pub normal-each : (state form : SymState) → normal state ≡ Is form → StateEach state → StateEach form
  normal-each state form is h =
      let each : NormalEach (normal state) = solved-each state (solve state.heap.pure []) h (solve-each state.heap.pure [] h.1 tt) in
      rw is at each

-- what holds of each expression of a state holds of each of its form
pub form-each : (P : Exp → Type 0) (state form : SymState) → normal state ≡ Is form → EachInState P state → EachInState P form
form-each P state form is h =
    let all =
    normal-each P (EachInAtom P) (λ atom q. q) (λ f gives atom q. each-on_atom P P f gives atom q) tt state form is
    (h.locals, h.heap.facts, h.heap.atoms) in
    record { locals = all.0; heap = record { facts = all.1; atoms = all.2 } }

pub form_has_no_other : FormHasNoOther
form_has_no_other test state form is h = form-each (λ e. test e ≡ true) state form is h
