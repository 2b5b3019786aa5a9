-- Well-formed pairs with so many parts: their variables are few, so new ones may occur; and their forms are such pairs again.
use Rattle.std.specs.Prelude.{◌≡◌, ℕ, zero, suc, ◌+◌, ◌*◌, ◌<◌, ◌≤◌, Bool, true, false, not, if◌then◌else◌, List, [], ◌∷◌, ◌++◌, filter}
use Rattle.std.specs.Prelude.{length, map, slice_get, All}
use Rattle.std.specs.List.{insert, remove}
use Rattle.std.specs.Option.{IsSomeAnd}
use Rattle.std.specs.Str.{bytes_eq}
use Rattle.std.specs.declared.option.Option.TheVariants.{Some}
use Rattle.std.proofs.Common.{refl, arith}
use Rattle.std.proofs.lemmas.Bool.{lt-ltb}
use Rattle.std.proofs.lemmas.List.{length-map, length_push}
use Rattle.std.proofs.lemmas.List.Elements.{All-filter, All-head, All-map, All-nil, All-push, All-tail, All-weaker}
use Rattle.shape_data.specs.declared.program.StructDef.{StructDef}
use Rattle.shape_data.specs.declared.symbolic.Atom.{Atom}
use Rattle.shape_data.specs.declared.symbolic.Atom.TheVariants.{Points, Seg, Junk}
use Rattle.shape_data.specs.declared.symbolic.Exp.{Exp}
use Rattle.shape_data.specs.declared.symbolic.Exp.TheVariants.{Var}
use Rattle.shape_data.specs.declared.symbolic.Fact.{Fact}
use Rattle.shape_data.specs.declared.symbolic.Fact.TheVariants.{Eq, Ne}
use Rattle.shape_data.specs.declared.symbolic.SymHeap.{SymHeap}
use Rattle.shape_data.specs.Heap.{struct_named}
use Rattle.shape_data.specs.WellFormed.{AreStructs, IsAtom, IsExp, IsFact, IsState, IsStruct, widest}
use Rattle.sym_parts.specs.Laws.Each.{EachInFact}
use Rattle.sym_parts.specs.Laws.Mapped.{on_atom, on_state}
use Rattle.sym_canon.specs.Canonical.{without_locals}
use Rattle.sym_canon.specs.declared.parts.Pair.{Pair}
use Rattle.sym_canon.specs.Numbering.{sides}
use Rattle.sym_canon.specs.Placing.{exps_of}
use Rattle.sym_pure.specs.declared.parts.Normal.{Normal}
use Rattle.sym_pure.specs.declared.parts.Normal.TheVariants.{Is, Contradiction}
use Rattle.sym_pure.specs.Equations.{read_through}
use Rattle.sym_pure.specs.Normal.{normal}
use Rattle.sym_pure.proofs.PartsLaws.{FormHasNoMore, filter-fewer, form-fewer}
use Rattle.sym_pure.proofs.ReadThrough.{read_through-each}
use Rattle.sym_pure.proofs.WellFormedLaws.{form_is_well_formed, to_each}
use Rattle.sym_matching.specs.Variables.{with_atoms, with_exps, with_facts, with_heap, with_state}
use Rattle.sym_matching.specs.Renaming.Sizes.{AreSmall}
use Rattle.sym_matching.proofs.RenamingLemmas.NumberLemmas.{fresh_small}
use Rattle.sym_matching.proofs.RenamingLemmas.SizeLemmas.{few_exps, mapped_state_is_well_formed}
use Rattle.sym_forms.specs.Forms.{of_form, of_form_some}
use Rattle.sym_forms.specs.PairForms.{is_further_equation, pair_of, with_missing}
use Rattle.exec_laws.specs.declared.parts.Mode.{Mode}
use Rattle.exec_laws.specs.declared.parts.Mode.TheVariants.{Strict, Search}
use Rattle.exec_laws.specs.Rooms.{with_parts, IsPairWithin}
use Rattle.exec_laws.specs.Pairs.{formed, is_logical_fact, new_existentials, pair_variables, unless_left_out, with_fact, with_missing_fact}
use Rattle.exec_laws.specs.Pairs.{with_state_fact}

-- ---- lists

pub remove-shorter : {A : Type 0} (xs : List A) (place : ℕ) (x : A) → slice_get xs place ≡ Some x → length (remove xs place) + 1 ≡ length xs
remove-shorter [] place x is = cc
remove-shorter (first ∷ xs) zero x is = omega arith
remove-shorter (first ∷ xs) (suc place) x is =
    let fewer : length (remove xs place) + 1 ≡ length xs = remove-shorter xs place x is in omega arith

pub insert-longer : {A : Type 0} (xs : List A) (place : ℕ) (x : A) → length (insert xs place x) ≡ length xs + 1
insert-longer [] zero x = refl
insert-longer [] (suc place) x = refl
insert-longer (first ∷ xs) zero x = omega arith
insert-longer (first ∷ xs) (suc place) x = let more : length (insert xs place x) ≡ length xs + 1 = insert-longer xs place x in omega arith

-- ---- how many variables

few_of : (structs : List StructDef) (kind : List ℕ) (count : ℕ) → All IsStruct structs →
    IsSomeAnd (struct_named structs kind) (λ def. count ≡ length def.fields) → count ≤ 32768
few_of [] kind count each h = absurd h
few_of (def ∷ structs) kind count each h =
    by_test (bytes_eq def.name kind) refl (few_of structs kind count (All-tail IsStruct def structs each))
  where
    by_test : (b : Bool) → bytes_eq def.name kind ≡ b →
        (IsSomeAnd (struct_named structs kind) (λ d. count ≡ length d.fields) → count ≤ 32768) → count ≤ 32768
    by_test true e later =
        let here : count ≡ length def.fields = rw e at h in
        let few : length def.fields ≤ 32768 = (All-head IsStruct def structs each).fields in
        omega arith
    by_test false e later = later (rw e at h)

-- a structure that is found has few fields
pub few_fields : (structs : List StructDef) (kind : List ℕ) (def : StructDef) → AreStructs structs → struct_named structs kind ≡ Some def →
    length def.fields ≤ 32768
few_fields structs kind def are is = few_of structs kind (length def.fields) are.each (rw is refl)

pub two_sides : (fact : Fact) → length (sides fact) ≤ 2
two_sides (Eq left right) = omega arith
two_sides (Ne left right) = omega arith

facts-few : (facts : List Fact) (names : List ℕ) → length (with_facts names facts) ≤ length names + 32769 * length facts
facts-few [] names = omega arith
facts-few (fact ∷ facts) names =
    let two : length (sides fact) ≤ 2 = two_sides fact in
    let first : length (with_exps names (sides fact)) ≤ length names + length (sides fact) = few_exps (sides fact) names in
    let later : length (with_facts (with_exps names (sides fact)) facts) ≤ length (with_exps names (sides fact)) + 32769 * length facts =
    facts-few facts (with_exps names (sides fact)) in
    omega arith

module _ (structs : List StructDef) (are : AreStructs structs) (params slots : ℕ) where
  pub atom-few : (k : ℕ) (atom : Atom) → IsAtom (with_parts k) structs params atom → length (exps_of atom) ≤ 32769
  atom-few k (Points at kind fields) is = let few : length fields ≤ 32768 = few_of structs kind (length fields) are.each is.1 in omega arith
  atom-few k (Seg kind link from to) is = omega arith
  atom-few k Junk is = omega arith

  pub atoms-few : (k : ℕ) (atoms : List Atom) (names : List ℕ) → All (IsAtom (with_parts k) structs params) atoms →
      length (with_atoms names atoms) ≤ length names + 32769 * length atoms
  atoms-few k [] names each = omega arith
  atoms-few k (atom ∷ atoms) names each =
      let narrow : length (exps_of atom) ≤ 32769 = atom-few k atom (All-head (IsAtom (with_parts k) structs params) atom atoms each) in
      let first : length (with_exps names (exps_of atom)) ≤ length names + length (exps_of atom) = few_exps (exps_of atom) names in
      let later : length (with_atoms (with_exps names (exps_of atom)) atoms)
      ≤ length (with_exps names (exps_of atom)) + 32769 * length atoms =
      atoms-few k atoms (with_exps names (exps_of atom)) (All-tail (IsAtom (with_parts k) structs params) atom atoms each) in
      omega arith

  heap-few : (k : ℕ) (heap : SymHeap) (names : List ℕ) → All (IsAtom (with_parts k) structs params) heap.spatial →
      length (with_heap names heap) ≤ length names + 32769 * (length heap.pure + length heap.spatial)
  heap-few k heap names each =
      let first : length (with_facts names heap.pure) ≤ length names + 32769 * length heap.pure = facts-few heap.pure names in
      let later : length (with_heap names heap) ≤ length (with_facts names heap.pure) + 32769 * length heap.spatial =
      atoms-few k heap.spatial (with_facts names heap.pure) each in
      omega arith

  -- ---- pairs

  abbrev pub InRoom : ℕ → ℕ → Pair → Type 0
  InRoom k j pair = IsPairWithin structs params slots k j pair

  pub room-more : (k m j i : ℕ) → k ≤ m → j ≤ i → (pair : Pair) → InRoom k j pair → InRoom m i pair
  room-more k m j i below under pair room = record {
    state = record {
      one_each = room.state.one_each;
      locals = room.state.locals;
      heap =
          record {
            parts = let parts : length pair.state.heap.pure + length pair.state.heap.spatial
                ≤ k = room.state.heap.parts in omega arith;
            facts = room.state.heap.facts;
            atoms = room.state.heap.atoms;
          };
    };
    facts = room.facts;
    atoms = room.atoms;
    light = let weight : length pair.missing.pure + length pair.missing.spatial + length pair.state.heap.spatial
        ≤ j = room.light in omega arith;
  }

  -- what facts' equations solve a variable for may occur
  reads-good : (k : ℕ) (facts : List Fact) → All (IsFact widest params) facts → (e : Exp) → IsExp (with_parts k) params e →
      IsExp (with_parts k) params (read_through facts e)
  reads-good k facts each =
      read_through-each (IsExp (with_parts k) params) facts
      (All-weaker (IsFact widest params) (EachInFact (IsExp (with_parts k) params)) (to_each widest structs params) facts each)

  -- what is made of the normal form is good where what is made of each pair in that room is
  pub form-room : {A : Type 0} (P : A → Type 0) (go_on : Pair → List A) (mode : Mode) (count k j : ℕ) (pair : Pair) → InRoom k j pair →
      ((form : Pair) → InRoom k j form → All P (go_on form)) →
      All P (unless_left_out go_on (formed mode count pair))
  form-room {A = A} P go_on Strict count k j pair room each = by_form (normal pair.state) refl (form-fewer pair.state)
    where
      by_form : (form : Normal) → normal pair.state ≡ form → FormHasNoMore pair.state form →
          All P (unless_left_out go_on (of_form (λ one. record pair { state = one }) form))
      by_form (Is form) is fewer = each (record pair { state = form }) (record {
        state = form_is_well_formed (with_parts k) structs params slots pair.state form is room.state;
        facts = room.facts;
        atoms = room.atoms;
        light = let weight : length pair.missing.pure + length pair.missing.spatial + length pair.state.heap.spatial
            ≤ j = room.light in omega arith;
      })
      by_form Contradiction is fewer = All-nil P
  form-room {A = A} P go_on Search count k j pair room each = by_missing (normal (without_locals pair.missing)) refl
    where
      by_form : (lacking : SymHeap) → All (IsFact widest params) lacking.pure → All (IsAtom widest structs params) lacking.spatial →
          length lacking.pure + length lacking.spatial ≤ length pair.missing.pure + length pair.missing.spatial →
          (form : Normal) → normal (on_state (read_through lacking.pure) pair.state) ≡ form →
          FormHasNoMore (on_state (read_through lacking.pure) pair.state) form →
          All P (unless_left_out go_on (of_form (pair_of count lacking) form))
      by_form lacking facts atoms less (Is form) is fewer = each (pair_of count lacking form) (record {
        state = form_is_well_formed (with_parts k) structs params slots (on_state (read_through lacking.pure) pair.state) form is
            (mapped_state_is_well_formed (with_parts k) structs params params slots (read_through lacking.pure) pair.state
            (reads-good k lacking.pure facts) room.state);
        facts = All-filter (λ fact. not (is_further_equation count fact)) (IsFact widest params) lacking.pure facts;
        atoms = atoms;
        light =
            let weight : length pair.missing.pure + length pair.missing.spatial + length pair.state.heap.spatial ≤ j = room.light in
            let some : length (filter (λ fact. not (is_further_equation count fact)) lacking.pure) ≤ length lacking.pure =
            filter-fewer (λ fact. not (is_further_equation count fact)) lacking.pure in
            let alike : length (map (on_atom (read_through lacking.pure)) pair.state.heap.spatial) ≡ length pair.state.heap.spatial =
            length-map pair.state.heap.spatial (on_atom (read_through lacking.pure)) in
            omega arith;
      })
      by_form lacking facts atoms less Contradiction is fewer = All-nil P

      by_missing : (form : Normal) → normal (without_locals pair.missing) ≡ form →
          All P (unless_left_out go_on (of_form_some (λ lacking. with_missing count pair.state lacking.heap) form))
      by_missing (Is lacking) is =
          let size : ℕ = length pair.missing.pure + length pair.missing.spatial in
          let given : IsState (with_parts size) structs params 0 (without_locals pair.missing) =
          record {
            one_each = refl;
            locals = All-nil (IsExp (with_parts size) params);
            heap = record { parts = omega arith; facts = room.facts; atoms = room.atoms };
          } in
          let good : IsState (with_parts size) structs params 0 lacking =
          form_is_well_formed (with_parts size) structs params 0 (without_locals pair.missing) lacking is given in
          by_form lacking.heap good.heap.facts good.heap.atoms good.heap.parts
          (normal (on_state (read_through lacking.heap.pure) pair.state)) refl
          (form-fewer (on_state (read_through lacking.heap.pure) pair.state))
      by_missing Contradiction is = All-nil P

  module _ (narrow : slots ≤ 32768) where
    -- the variables of a pair are few
    pub pair-few : (k j : ℕ) (pair : Pair) → InRoom k j pair → length (pair_variables pair) ≤ 32768 + 32769 * k + 32769 * j
    pair-few k j pair room =
        let parts : length pair.state.heap.pure + length pair.state.heap.spatial ≤ k = room.state.heap.parts in
        let weight : length pair.missing.pure + length pair.missing.spatial + length pair.state.heap.spatial ≤ j = room.light in
        let one_each : length pair.state.locals ≡ slots = room.state.one_each in
        let first : length (with_exps [] pair.state.locals) ≤ 0 + length pair.state.locals = few_exps pair.state.locals [] in
        let second : length (with_state [] pair.state)
        ≤ length (with_exps [] pair.state.locals) + 32769 * (length pair.state.heap.pure + length pair.state.heap.spatial) =
        heap-few k pair.state.heap (with_exps [] pair.state.locals) room.state.heap.atoms in
        let third : length (pair_variables pair)
        ≤ length (with_state [] pair.state) + 32769 * (length pair.missing.pure + length pair.missing.spatial) =
        heap-few k pair.missing (with_state [] pair.state) room.atoms in
        omega arith

    -- new variables may occur
    pub new-small : (k j count : ℕ) (pair : Pair) → InRoom k j pair → k ≤ 8192 → j ≤ 16384 → count ≤ 32769 →
        AreSmall (new_existentials count pair)
    new-small k j count pair room few light fields =
        let names : length (pair_variables pair) ≤ 32768 + 32769 * k + 32769 * j = pair-few k j pair room in
        fresh_small count (pair_variables pair) (omega arith)

    pub new-exps : (k j count m : ℕ) (pair : Pair) → InRoom k j pair → k ≤ 8192 → j ≤ 16384 → count ≤ 32769 →
        All (IsExp (with_parts m) params) (map Var (new_existentials count pair))
    new-exps k j count m pair room few light fields =
        All-map (IsExp (with_parts m) params) Var (new_existentials count pair)
        (All-weaker (λ x. x < 2147483648) (λ x. IsExp (with_parts m) params (Var x)) (λ x low. lt-ltb x 2147483648 low)
        (new_existentials count pair) (new-small k j count pair room few light fields))

    -- one more fact in the state, and one that may be missing too
    pub fact-room : (k j : ℕ) (fact : Fact) (pair : Pair) → InRoom k j pair → IsFact widest params fact →
        InRoom (k + 1) j (with_state_fact fact pair)
    fact-room k j fact pair room is = record {
      state = record {
        one_each = room.state.one_each;
        locals = room.state.locals;
        heap = record {
          parts =
              let parts : length pair.state.heap.pure + length pair.state.heap.spatial ≤ k = room.state.heap.parts in
              let more : length (pair.state.heap.pure ++ fact ∷ []) ≡ length pair.state.heap.pure + 1 =
              length_push pair.state.heap.pure fact in
              omega arith;
          facts = All-push (IsFact (with_parts k) params) pair.state.heap.pure fact room.state.heap.facts is;
          atoms = room.state.heap.atoms;
        };
      };
      facts = room.facts;
      atoms = room.atoms;
      light = room.light;
    }

    pub missing-room : (mode : Mode) (k j : ℕ) (fact : Fact) (pair : Pair) → InRoom k j pair → IsFact widest params fact →
        InRoom k (j + 1) (with_missing_fact mode fact pair)
    missing-room Strict k j fact pair room is = room-more k k j (j + 1) (omega arith) (omega arith) pair room
    missing-room Search k j fact pair room is = by_test (is_logical_fact fact)
      where
        by_test : (b : Bool) → InRoom k (j + 1) (if b then record pair { missing = with_fact fact pair.missing } else pair)
        by_test true = record {
          state = room.state;
          facts = All-push (IsFact widest params) pair.missing.pure fact room.facts is;
          atoms = room.atoms;
          light =
              let weight : length pair.missing.pure + length pair.missing.spatial + length pair.state.heap.spatial ≤ j = room.light in
              let more : length (pair.missing.pure ++ fact ∷ []) ≡ length pair.missing.pure + 1 = length_push pair.missing.pure fact in
              omega arith;
        }
        by_test false = room-more k k j (j + 1) (omega arith) (omega arith) pair room

    pub true-room : (mode : Mode) (k j : ℕ) (fact : Fact) (pair : Pair) → InRoom k j pair → IsFact widest params fact →
        InRoom (k + 1) (j + 1) (with_state_fact fact (with_missing_fact mode fact pair))
    true-room mode k j fact pair room is =
        fact-room k (j + 1) fact (with_missing_fact mode fact pair) (missing-room mode k j fact pair room is) is
