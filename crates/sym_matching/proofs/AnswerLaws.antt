-- What a match answers is well formed.
use Rattle.std.specs.Prelude.{◌≡◌, ℕ, zero, suc, ◌+◌, ◌<◌, ◌≤◌, Bool, true, false, if◌then◌else◌, List, [], ◌∷◌, ◌++◌, length, slice_get}
use Rattle.std.specs.Prelude.{All}
use Rattle.std.specs.List.{remove}
use Rattle.std.specs.declared.option.Option.{Option}
use Rattle.std.specs.declared.option.Option.TheVariants.{None, Some}
use Rattle.std.proofs.Common.{refl, sym, ap, subst, ◌∙◌, arith, ⊎_elim}
use Rattle.std.proofs.lemmas.Bool.{lt-ltb}
use Rattle.std.proofs.lemmas.List.{append-nil, length_push}
use Rattle.std.proofs.lemmas.List.Edits.{length-remove}
use Rattle.std.proofs.lemmas.List.Elements.{All-append, All-cons, All-head, All-nil, All-tail}
use Rattle.std.proofs.lemmas.Option.{slice_get_within}
use Rattle.shape_data.specs.declared.program.StructDef.{StructDef}
use Rattle.shape_data.specs.declared.symbolic.Atom.{Atom}
use Rattle.shape_data.specs.declared.symbolic.Atom.TheVariants.{Points, Seg, Junk}
use Rattle.shape_data.specs.declared.symbolic.SymHeap.{SymHeap}
use Rattle.shape_data.specs.WellFormed.{AreStructs, IsAtom, IsExp, IsFact, IsSymHeap, Limits, widest}
use Rattle.sym_pure.proofs.EachLaws.{All-get, All-remove}
use Rattle.sym_matching.specs.declared.matching.Abd.TheVariants as abd
use Rattle.sym_matching.specs.declared.matching.Matching.{Matching}
use Rattle.sym_matching.specs.declared.matching.Mode.TheVariants.{Subtract, Abduce}
use Rattle.sym_matching.specs.declared.matching.Owed.{Owed}
use Rattle.sym_matching.specs.declared.matching.Sub.TheVariants as sub
use Rattle.sym_matching.specs.declared.matching.Turned.{Turned}
use Rattle.sym_matching.specs.declared.matching.Turned.TheVariants.{On, Stuck}
use Rattle.sym_matching.specs.declared.matching.Wanted.{Wanted}
use Rattle.sym_matching.specs.Answers.{names_of_all, BiabduceIsWellFormed, HasParts, IsBound, IsFound, MatchIsWellFormed, MayName, MayOccur}
use Rattle.sym_matching.specs.Answers.{SubtractIsWellFormed}
use Rattle.sym_matching.specs.Matches.{answer_abd, answer_sub, argument_variables, frame_of, has_junk, left_over, matching, rules_of}
use Rattle.sym_matching.specs.Matches.{start_of, want_heap, want_spatial}
use Rattle.sym_matching.specs.NewVariables.{fresh, fresh_variables}
use Rattle.sym_matching.specs.Reading.{read}
use Rattle.sym_matching.specs.Rooms.{fields_of, fields_of_all, fields_wanted, names_of, names_wanted}
use Rattle.sym_matching.specs.Steps.{Rules, and_then}
use Rattle.sym_matching.specs.WantedAtoms.{first_number, next_place, want_at, want_atom, want_atoms, want_one, wanted_from}
use Rattle.sym_matching.specs.WantedFacts.{want_all_owed, want_facts}
use Rattle.sym_matching.proofs.AnswerSteps.{Fine, read-fine, want_all_owed-fine, want_cell-fine, want_facts-fine, want_segment-fine}
use Rattle.sym_matching.proofs.KeptLaws.{All-left, All-right}
use Rattle.sym_matching.proofs.NextSteps.{atom_names, names-removed}
use Rattle.sym_matching.proofs.RoomLaws.{few_fields, free_near, variables-append}
use Rattle.sym_matching.proofs.RoomSteps.{fields-removed, want_cell-grown, want_segment-used}
use Rattle.sym_matching.proofs.SizeLaws.{well_formed_is_within_sizes}
use Rattle.sym_matching.proofs.MissingLaws.{subtract_misses_nothing}

-- ---- new variables, for any test of them

fresh_parts : (Q : ℕ → Type 0) (one other : ℕ) (used : List ℕ) → All Q (fresh_variables (one + other) used) →
    All Q (fresh_variables one used) × All Q (fresh_variables other (used ++ fresh_variables one used))
fresh_parts Q one other used h =
    let all : All Q (fresh_variables one used ++ fresh_variables other (used ++ fresh_variables one used)) =
    subst (λ xs. All Q xs) (variables-append one other used) h in (
      All-left Q (fresh_variables one used) (fresh_variables other (used ++ fresh_variables one used)) all,
      All-right Q
          (fresh_variables one used) (fresh_variables other (used ++ fresh_variables one used)) all,
    )

fresh_less : (Q : ℕ → Type 0) (count more : ℕ) (used : List ℕ) → All Q (fresh_variables (count + more) used) →
    All Q (fresh_variables more used)
fresh_less Q count more used h =
    let turned : count + more ≡ more + count = omega arith in
    (fresh_parts Q more count used (subst (λ c. All Q (fresh_variables c used)) turned h)).0

-- ---- the wanted atoms

pub fields-from : (number : ℕ) (atoms : List Atom) → fields_wanted (wanted_from number atoms) ≡ fields_of_all atoms
fields-from number [] = refl
fields-from number (Points at kind fields ∷ atoms) = ap (λ count. length fields + count) (fields-from (number + 1) atoms)
fields-from number (Seg kind link from to ∷ atoms) = ap (λ count. 0 + count) (fields-from (number + 1) atoms)
fields-from number (Junk ∷ atoms) =
    let later : fields_wanted (wanted_from (number + 1) atoms) ≡ fields_of_all atoms = fields-from (number + 1) atoms in omega arith

pub names-from : (number : ℕ) (atoms : List Atom) → names_wanted (wanted_from number atoms) ≡ names_of_all atoms
names-from number [] = refl
names-from number (Points at kind fields ∷ atoms) = ap (λ count. length fields + count) (names-from (number + 1) atoms)
names-from number (Seg kind link from to ∷ atoms) = ap (λ count. 1 + count) (names-from (number + 1) atoms)
names-from number (Junk ∷ atoms) =
    let later : names_wanted (wanted_from (number + 1) atoms) ≡ names_of_all atoms = names-from (number + 1) atoms in omega arith

module _ (limits : Limits) (structs : List StructDef) (params : ℕ) where
  abbrev IsWanted : Wanted → Type 0
  IsWanted w = IsAtom limits structs params w.atom

  wanted-fine : (number : ℕ) (atoms : List Atom) → All (IsAtom limits structs params) atoms → All IsWanted (wanted_from number atoms)
  wanted-fine number [] each = All-nil IsWanted
  wanted-fine number (Points at kind fields ∷ atoms) each =
      All-cons IsWanted (record { number = number; atom = Points at kind fields }) (wanted_from (number + 1) atoms)
      (All-head (IsAtom limits structs params) (Points at kind fields) atoms each)
      (wanted-fine (number + 1) atoms (All-tail (IsAtom limits structs params) (Points at kind fields) atoms each))
  wanted-fine number (Seg kind link from to ∷ atoms) each =
      All-cons IsWanted (record { number = number; atom = Seg kind link from to }) (wanted_from (number + 1) atoms)
      (All-head (IsAtom limits structs params) (Seg kind link from to) atoms each)
      (wanted-fine (number + 1) atoms (All-tail (IsAtom limits structs params) (Seg kind link from to) atoms each))
  wanted-fine number (Junk ∷ atoms) each = wanted-fine (number + 1) atoms (All-tail (IsAtom limits structs params) Junk atoms each)

  module _ (rules : Rules) (most : ℕ) (facts_fine : All (IsFact limits params) rules.facts)
      (flexible_fine : All (MayOccur limits params) rules.flexible) where
    abbrev IsFine : Matching → Type 0
    IsFine m = Fine limits structs params rules most facts_fine flexible_fine m

    abbrev MayTake : ℕ → Matching → Type 0
    MayTake count m = All (MayOccur limits params) (fresh_variables count m.used)

    abbrev MayBe : ℕ → Matching → Type 0
    MayBe count m = (x : ℕ) → x < m.next + count → MayOccur limits params x

    atom-fine : (number : ℕ) (atom : Atom) (m n : Matching) (fields names : ℕ) → IsAtom limits structs params atom →
        MayTake (fields_of atom + fields) m → MayBe (names_of atom + names) m → IsFine m → want_atom rules number atom m ≡ On n →
        IsFine n × MayTake fields n
    atom-fine number (Points at kind wants) m n fields names is may low fine h = (
      want_cell-fine limits structs params rules most facts_fine flexible_fine number kind wants (read rules.facts m.binding at) is.2
          (read-fine limits structs params rules most facts_fine flexible_fine m fine at is.0) is.1 m n
          (fresh_parts (MayOccur limits params) (length wants) fields m.used may).0 (λ x high. low x (omega arith)) fine h,
      ⊎_elim (λ same. subst (λ used. All (MayOccur limits params) (fresh_variables fields used)) (sym same)
          (fresh_less (MayOccur limits params) (length wants) fields m.used may))
          (λ grown. subst (λ used. All (MayOccur limits params) (fresh_variables fields used)) (sym grown)
          (fresh_parts (MayOccur limits params) (length wants) fields m.used may).1)
          (want_cell-grown rules number kind wants (read rules.facts m.binding at) m n h),
    )
    atom-fine number (Seg kind link from to) m n fields names is may low fine h = (
      want_segment-fine limits structs params rules most facts_fine flexible_fine number kind link is.0 to
          (read rules.facts m.binding from) m n is.2
          (read-fine limits structs params rules most facts_fine flexible_fine m fine from is.1) (low m.next (omega arith)) fine h,
      subst (λ used. All (MayOccur limits params) (fresh_variables fields used))
          (sym (want_segment-used rules number kind link (read rules.facts m.binding from) to m n h))
          (fresh_less (MayOccur limits params) 0 fields m.used may),
    )
    atom-fine number Junk m n fields names is may low fine h =
        let is_n : m ≡ n = cc in (
          subst (λ (k : Matching). IsFine k) is_n fine,
          subst (λ (k : Matching). MayTake fields k) is_n
              (fresh_less (MayOccur limits params) 0 fields m.used may),
        )

    module _ (turns : ℕ) (wanted : List Wanted) (m n : Matching) (many : length wanted ≡ suc turns)
        (go_on : (place : ℕ) (k : Matching) → length (remove wanted place) ≡ turns → want_atoms turns rules (remove wanted place) k ≡ On n →
        All IsWanted (remove wanted place) →
        MayTake (fields_wanted (remove wanted place)) k → MayBe (names_wanted (remove wanted place)) k → IsFine k → IsFine n)
        (each : All IsWanted wanted) (may : MayTake (fields_wanted wanted) m) (low : MayBe (names_wanted wanted) m) (fine : IsFine m) where
      one-fine : (place : ℕ) (w : Wanted) → slice_get wanted place ≡ Some w → (r : Turned) → want_atom rules w.number w.atom m ≡ r →
          and_then (want_atoms turns rules (remove wanted place)) r ≡ On n → IsFine n
      one-fine place w is (Stuck number) f g = cc
      one-fine place w is (On k) f g =
          let fields : fields_wanted wanted ≡ fields_of w.atom + fields_wanted (remove wanted place) = fields-removed wanted place w is in
          let names : names_wanted wanted ≡ names_of w.atom + names_wanted (remove wanted place) = names-removed wanted place w is in
          let shorter : length (remove wanted place) + 1 ≡ length wanted =
          length-remove wanted place (slice_get_within wanted place w is) in
          let fewer : length (remove wanted place) ≡ turns = omega arith in
          let lower : MayBe (names_of w.atom + names_wanted (remove wanted place)) m = λ x high. low x (omega arith) in
          let one =
          atom-fine w.number w.atom m k (fields_wanted (remove wanted place)) (names_wanted (remove wanted place))
          (All-get IsWanted wanted place w is each)
          (subst (λ c. All (MayOccur limits params) (fresh_variables c m.used)) fields may) lower fine f in
          let near : k.next ≤ m.next + names_of w.atom = atom_names rules w.number w.atom m k f in
          go_on place k fewer g (All-remove IsWanted wanted place each) one.1 (λ x high. lower x (omega arith)) one.0

      wanted_one-fine : (place : ℕ) (o : Option Wanted) → slice_get wanted place ≡ o →
          want_one rules m (want_atoms turns rules (remove wanted place)) (first_number wanted) o ≡ On n → IsFine n
      wanted_one-fine place None is g = cc
      wanted_one-fine place (Some w) is g = one-fine place w is (want_atom rules w.number w.atom m) refl g

      at-fine : (p : Option ℕ) → want_at rules m wanted (want_atoms turns rules) p ≡ On n → IsFine n
      at-fine None g = cc
      at-fine (Some place) g = wanted_one-fine place (slice_get wanted place) refl g

    atoms-fine : (turns : ℕ) (wanted : List Wanted) (m n : Matching) → length wanted ≡ turns → want_atoms turns rules wanted m ≡ On n →
        All IsWanted wanted → MayTake (fields_wanted wanted) m → MayBe (names_wanted wanted) m → IsFine m → IsFine n
    atoms-fine zero wanted m n many h each may low fine = let is_n : m ≡ n = cc in subst (λ (k : Matching). IsFine k) is_n fine
    atoms-fine (suc turns) wanted m n many h each may low fine =
        at-fine turns wanted m n many
        (λ place k fewer g each' may' low' fine'. atoms-fine turns
        (remove wanted place) k n fewer g each' may' low' fine') each may low fine (next_place rules m wanted) h

    heap-fine : (b : SymHeap) (m n : Matching) → HasParts limits structs params b → MayTake (fields_of_all b.spatial) m →
        MayBe (names_of_all b.spatial) m → IsFine m → want_heap rules b m ≡ On n → IsFine n
    heap-fine b m n parts may low fine h = after_atoms (want_spatial rules b m) refl h
      where
        fields : fields_wanted (wanted_from 0 b.spatial) ≡ fields_of_all b.spatial
        fields = fields-from 0 b.spatial

        names : names_wanted (wanted_from 0 b.spatial) ≡ names_of_all b.spatial
        names = names-from 0 b.spatial

        after_owed : (k : Matching) → IsFine k → (r : Turned) → want_all_owed rules k.owed k ≡ r →
            and_then (want_facts rules (length b.spatial) b.pure) r ≡ On n → IsFine n
        after_owed k k_fine (On l) e f =
            want_facts-fine limits structs params rules most facts_fine flexible_fine (length b.spatial) b.pure l n parts.facts
            (want_all_owed-fine limits structs params rules most facts_fine flexible_fine k.owed k l k_fine.owed k_fine e) f
        after_owed k k_fine (Stuck number) e f = cc

        after_atoms : (r : Turned) → want_spatial rules b m ≡ r →
            and_then (want_facts rules (length b.spatial) b.pure) (and_then (λ k. want_all_owed rules k.owed k) r) ≡ On n → IsFine n
        after_atoms (On k) e f =
            let low_wanted : MayBe (names_wanted (wanted_from 0 b.spatial)) m = subst (λ c. MayBe c m) (sym names) low in
            after_owed k
            (atoms-fine (length (wanted_from 0 b.spatial)) (wanted_from 0 b.spatial) m k refl e (wanted-fine 0 b.spatial parts.atoms)
            (subst (λ c. MayTake c m) (sym fields) may) low_wanted fine) (want_all_owed rules k.owed k) refl f
        after_atoms (Stuck number) e f = cc

pub match_is_well_formed : MatchIsWellFormed
match_is_well_formed limits structs params mode a b bound flexible avoid next n a_parts b_parts bound_fine flexible_fine names h =
    let used : List ℕ = argument_variables a b bound flexible ++ avoid in
    let none : HasParts limits structs params (record { pure = []; spatial = [] }) =
    record { facts = All-nil (IsFact limits params); atoms = All-nil (IsAtom limits structs params) } in
    let begin : Fine limits structs params (rules_of mode a flexible) (length a.spatial) a_parts.facts flexible_fine
    (start_of a bound used next) = record {
      left = a_parts.atoms;
      fewer = omega arith;
      missing = none;
      binding = bound_fine;
      owed = All-nil (λ (owed : Owed). IsExp limits params owed.want × IsExp limits params owed.have);
    } in
    let fine =
    heap-fine limits structs params (rules_of mode a flexible) (length a.spatial) a_parts.facts flexible_fine b
    (start_of a bound used next) n b_parts names.fresh names.logical begin h in
    record { left = fine.left; fewer = fine.fewer; missing = fine.missing; binding = fine.binding }

-- ---- the answers

-- new variables are below 2^31 where few are in use
fresh_low : (params count : ℕ) (used : List ℕ) → 65536 + length used + count ≤ 2147483648 →
    All (MayOccur widest params) (fresh_variables count used)
fresh_low params zero used room = All-nil (MayOccur widest params)
fresh_low params (suc count) used room =
    let near : fresh used ≤ 65536 + length used = free_near (length used) 65536 used in
    let more : length (used ++ fresh used ∷ []) ≡ length used + 1 = length_push used (fresh used) in
    All-cons (MayOccur widest params) (fresh used) (fresh_variables count (used ++ fresh used ∷ []))
    (lt-ltb (fresh used) 2147483648 (omega arith)) (fresh_low params count (used ++ fresh used ∷ []) (omega arith))

parts_of : (structs : List StructDef) (params : ℕ) (heap : SymHeap) → IsSymHeap widest structs params heap →
    HasParts widest structs params heap
parts_of structs params heap is = record { facts = is.facts; atoms = is.atoms }

module _ (structs : List StructDef) (params : ℕ) (b : SymHeap) (used : List ℕ) (next : ℕ) (are : AreStructs structs)
    (is : IsSymHeap widest structs params b) (few : length used ≤ 1073741824) (top : next + names_of_all b.spatial ≤ 2147483648) where
  may_name : MayName widest params b used next
  may_name =
      let fields : fields_of_all b.spatial ≤ 131072000 = few_fields b (well_formed_is_within_sizes structs params b are is) in record {
        fresh = fresh_low params (fields_of_all b.spatial) used (omega arith);
        logical = λ x high. lt-ltb x 2147483648 (omega arith);
      }

left_over-fine : (limits : Limits) (structs : List StructDef) (params : ℕ) (b : SymHeap) (n : Matching) (most : ℕ) →
    All (IsAtom limits structs params) n.left → length n.left ≤ most →
    All (IsAtom limits structs params) (left_over b n) × (length (left_over b n) ≤ most)
left_over-fine limits structs params b n most each few = by_junk (has_junk b)
  where
    by_junk : (c : Bool) → All (IsAtom limits structs params) (if c then [] else n.left) × (length (if c then [] else n.left) ≤ most)
    by_junk true = (All-nil (IsAtom limits structs params), omega arith)
    by_junk false = (each, few)

-- no more names than fields and atoms
pub few_names : (atoms : List Atom) → names_of_all atoms ≤ fields_of_all atoms + length atoms
few_names [] = omega arith
few_names (Points at kind fields ∷ atoms) =
    let later : names_of_all atoms ≤ fields_of_all atoms + length atoms = few_names atoms in omega arith
few_names (Seg kind link from to ∷ atoms) =
    let later : names_of_all atoms ≤ fields_of_all atoms + length atoms = few_names atoms in omega arith
few_names (Junk ∷ atoms) = let later : names_of_all atoms ≤ fields_of_all atoms + length atoms = few_names atoms in omega arith

pub subtract_is_well_formed : SubtractIsWellFormed
subtract_is_well_formed structs params a b bound flexible avoid frame binding are is_a is_b bound_fine flexible_fine few h =
    by_turn (matching Subtract a b bound flexible avoid 0) refl h
  where
    used : List ℕ
    used = argument_variables a b bound flexible ++ avoid

    low : 0 + names_of_all b.spatial ≤ 2147483648
    low =
        let sizes = well_formed_is_within_sizes structs params b are is_b in
        let fields : fields_of_all b.spatial ≤ 131072000 = few_fields b sizes in
        let parts : length b.pure + length b.spatial ≤ 4000 = sizes.parts in
        let names : names_of_all b.spatial ≤ fields_of_all b.spatial + length b.spatial = few_names b.spatial in
        omega arith

    by_turn : (r : Turned) → matching Subtract a b bound flexible avoid 0 ≡ r →
        answer_sub (rules_of Subtract a flexible) b r ≡ sub.Match frame binding →
        IsSymHeap widest structs params frame × All (IsBound widest params) binding
    by_turn (On n) e f =
        let same_frame : frame_of (rules_of Subtract a flexible) b n ≡ frame = cc in
        let same_binding : n.binding ≡ binding = cc in
        let fine =
        match_is_well_formed widest structs params Subtract a b bound flexible avoid 0 n (parts_of structs params a is_a)
        (parts_of structs params b is_b) bound_fine flexible_fine (may_name structs params b used 0 are is_b few low) e in
        let left = left_over-fine widest structs params b n (length a.spatial) fine.left fine.fewer in
        let none = subtract_misses_nothing a b bound flexible avoid 0 n e in
        let pure : a.pure ++ n.missing.pure ≡ a.pure = ap (λ (m : SymHeap). a.pure ++ m.pure) none ∙ append-nil a.pure in
        let counted : length (a.pure ++ n.missing.pure) ≡ length a.pure = ap (λ facts. length facts) pure in
        let parts : length a.pure + length a.spatial ≤ 4000 = is_a.parts in
        let shorter : length (left_over b n) ≤ length a.spatial = left.1 in
        let made : IsSymHeap widest structs params (frame_of (rules_of Subtract a flexible) b n) =
        record { parts = omega arith; facts = subst (λ facts. All (IsFact widest params) facts) (sym pure) is_a.facts; atoms = left.0 } in (
          subst (λ k. IsSymHeap widest structs params k) same_frame made,
          subst
              (λ k. All (IsBound widest params) k) same_binding fine.binding,
        )
    by_turn (Stuck number) e f = cc

pub biabduce_is_well_formed : BiabduceIsWellFormed
biabduce_is_well_formed structs params a b bound flexible next avoid missing frame binding are is_a is_b bound_fine flexible_fine few top
    h = by_turn (matching Abduce a b bound flexible avoid next) refl h
  where
    used : List ℕ
    used = argument_variables a b bound flexible ++ avoid

    by_turn : (r : Turned) → matching Abduce a b bound flexible avoid next ≡ r →
        answer_abd (rules_of Abduce a flexible) b r ≡ abd.Found missing frame binding →
        IsFound widest structs params (length a.spatial) missing frame binding
    by_turn (On n) e f =
        let same_missing : n.missing ≡ missing = cc in
        let same_frame : frame_of (rules_of Abduce a flexible) b n ≡ frame = cc in
        let same_binding : n.binding ≡ binding = cc in
        let fine =
        match_is_well_formed widest structs params Abduce a b bound flexible avoid next n (parts_of structs params a is_a)
        (parts_of structs params b is_b) bound_fine flexible_fine (may_name structs params b used next are is_b few top) e in
        let left = left_over-fine widest structs params b n (length a.spatial) fine.left fine.fewer in
        let made : HasParts widest structs params (frame_of (rules_of Abduce a flexible) b n) =
        record { facts = All-append (IsFact widest params) a.pure n.missing.pure is_a.facts fine.missing.facts; atoms = left.0 } in
        record {
          missing_parts = subst (λ (k : SymHeap). HasParts widest structs params k) same_missing fine.missing;
          frame_parts = subst (λ (k : SymHeap). HasParts widest structs params k) same_frame made;
          fewer = subst (λ (k : SymHeap). length k.spatial ≤ length a.spatial) same_frame left.1;
          binding_parts = subst (λ k. All (IsBound widest params) k) same_binding fine.binding;
        }
    by_turn (Stuck number) e f = cc
