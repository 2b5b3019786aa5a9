-- How many new logical variables the stages of a match take.
use Rattle.std.specs.Prelude.{◌≡◌, ℕ, zero, suc, ◌+◌, ◌≤◌, Bool, true, false, not, ◌&&◌, if◌then◌else◌, List, [], ◌∷◌, ◌++◌, length, map}
use Rattle.std.specs.Prelude.{position, slice_get}
use Rattle.std.specs.List.{list_all, list_any, remove}
use Rattle.std.specs.Str.{bytes_eq}
use Rattle.std.specs.declared.option.Option.{Option}
use Rattle.std.specs.declared.option.Option.TheVariants.{None, Some}
use Rattle.std.proofs.Common.{refl, ap, ◌∙◌, arith}
use Rattle.std.proofs.lemmas.List.Edits.{length-remove}
use Rattle.std.proofs.lemmas.Option.{slice_get_within}
use Rattle.shape_data.specs.declared.symbolic.Atom.{Atom}
use Rattle.shape_data.specs.declared.symbolic.Atom.TheVariants.{Points, Seg, Junk}
use Rattle.shape_data.specs.declared.symbolic.Exp.{Exp}
use Rattle.shape_data.specs.declared.symbolic.Exp.TheVariants.{Var, Const}
use Rattle.shape_data.specs.declared.symbolic.Fact.TheVariants.{Ne}
use Rattle.sym_parts.specs.Laws.Expressions.{same_exp}
use Rattle.sym_canon.specs.Placing.{is_cell_at}
use Rattle.sym_matching.specs.declared.matching.Matching.{Matching}
use Rattle.sym_matching.specs.declared.matching.Mode.{Mode}
use Rattle.sym_matching.specs.declared.matching.Mode.TheVariants.{Subtract, Abduce}
use Rattle.sym_matching.specs.declared.matching.Turned.{Turned}
use Rattle.sym_matching.specs.declared.matching.Turned.TheVariants.{On, Stuck}
use Rattle.sym_matching.specs.declared.matching.Wanted.{Wanted}
use Rattle.sym_matching.specs.NewVariables.{fresh_variables}
use Rattle.sym_matching.specs.Reading.{read, is_unbound, is_logical, is_logical_variable}
use Rattle.sym_matching.specs.Rooms.{names_of, names_wanted, AtomNames, AtomsName}
use Rattle.sym_matching.specs.Steps.{Rules, whole, bind, bind_new, take_atom, unfold_at, and_then, miss_atom, miss_fact, with_missing_atom}
use Rattle.sym_matching.specs.Steps.{with_missing_fact}
use Rattle.sym_matching.specs.WantedAtoms.{want_atom, next_place, first_number, want_one, want_at, want_atoms}
use Rattle.sym_matching.specs.WantedCells.{take_field, take_fields, is_atom_from, name_field, name_fields, miss_named, miss_cell}
use Rattle.sym_matching.specs.WantedCells.{take_unfolded, is_to_unfold, take_parted, part_at, place_to_part, unfold_place, take_cell}
use Rattle.sym_matching.specs.WantedCells.{cell_place}
use Rattle.sym_matching.specs.WantedSegments.{next_of, piece, take_piece, piece_at, miss_segment, walk, bind_end, reach, want_segment}
use Rattle.sym_matching.proofs.RoomSteps.{on_then}
use Rattle.sym_matching.proofs.SettleLaws.{unless-on}

-- at most so many new logical variables
abbrev Names : ℕ → Matching → Matching → Type 0
Names count m n = n.next ≤ m.next + count

bind-next : (m : Matching) (e f : Exp) → (bind m e f).next ≡ m.next
bind-next m (Var x) f = refl
bind-next m (Const n) f = refl

same-next : (count : ℕ) (m n : Matching) → n.next ≡ m.next → Names count m n
same-next count m n same = omega arith

module _ (rules : Rules) (number : ℕ) where
  field-next : (want have : Exp) (m : Matching) → (take_field rules number want have m).next ≡ m.next
  field-next want have m = by_test (is_unbound rules.flexible m.binding want)
    where
      by_test : (b : Bool) →
          (if b then bind m want have else record m { owed = m.owed ++ record { number = number; want = want; have = have } ∷ [] }).next
          ≡ m.next
      by_test true = bind-next m want have
      by_test false = refl

  fields-next : (wants haves : List Exp) (m : Matching) → (take_fields rules number wants haves m).next ≡ m.next
  fields-next [] haves m = refl
  fields-next (want ∷ wants) [] m = refl
  fields-next (want ∷ wants) (have ∷ haves) m = fields-next wants haves (take_field rules number want have m) ∙ field-next want have m

  name_field-next : (want : Exp) (m : Matching) → Names 1 m (name_field rules want m)
  name_field-next want m = by_test (is_unbound rules.flexible m.binding want)
    where
      by_test : (b : Bool) → (if b then bind_new m want else m).next ≤ m.next + 1
      by_test true = omega arith
      by_test false = omega arith

  name_fields-next : (wants : List Exp) (m : Matching) → Names (length wants) m (name_fields rules wants m)
  name_fields-next [] m = omega arith
  name_fields-next (want ∷ wants) m =
      let one : (name_field rules want m).next ≤ m.next + 1 = name_field-next want m in
      let others : (name_fields rules wants (name_field rules want m)).next ≤ (name_field rules want m).next + length wants =
      name_fields-next wants (name_field rules want m) in
      omega arith

  module _ (kind : List ℕ) (wants : List Exp) (e : Exp) where
    miss_cell-next : (m n : Matching) (mode : Mode) → miss_cell rules number kind wants e m mode ≡ On n → Names (length wants) m n
    miss_cell-next m n Subtract h = cc
    miss_cell-next m n Abduce h =
        let k : Matching = name_fields rules wants m in
        let fields : List Exp = map (read rules.facts k.binding) wants in
        let named : miss_named rules number kind wants e k ≡ On n =
        on_then (is_logical_variable e && not (list_any (is_atom_from e) m.left)) (miss_named rules number kind wants e k) number n h in
        let missed : miss_atom rules number (Points e kind fields) k ≡ On n =
        on_then (list_all is_logical fields) (miss_atom rules number (Points e kind fields) k) number n named in
        let same : n.next
        ≡ k.next = ap (λ (j : Matching). j.next) (unless-on rules number (with_missing_atom k (Points e kind fields)) n missed) in
        let bound : k.next ≤ m.next + length wants = name_fields-next wants m in
        omega arith

    unfolded-next : (k n : Matching) (place : ℕ) (o : Option Atom) → take_unfolded rules number wants k place o ≡ On n → n.next ≡ k.next
    unfolded-next k n place None h = cc
    unfolded-next k n place (Some (Points at kind' haves)) h = cc
    unfolded-next k n place (Some (Seg kind' link from to)) h =
        let xs : List ℕ = fresh_variables (length wants) k.used in
        let is_n : n ≡ take_fields rules number wants (map Var xs) (unfold_at k place kind' link from to xs) = cc in
        ap (λ (j : Matching). j.next) is_n ∙ fields-next wants (map Var xs) (unfold_at k place kind' link from to xs)
    unfolded-next k n place (Some Junk) h = cc

    parted-next : (m n : Matching) (place : ℕ) (o : Option Atom) → take_parted rules number wants m place o ≡ On n → n.next ≡ m.next
    parted-next m n place None h = cc
    parted-next m n place (Some (Points at kind' haves)) h = cc
    parted-next m n place (Some (Seg kind' link from to)) h = by_turn (miss_fact rules number (Ne from to) m) refl h
      where
        by_turn : (r : Turned) → miss_fact rules number (Ne from to) m ≡ r →
            and_then (λ k. take_unfolded rules number wants k place (Some (Seg kind' link from to))) r ≡ On n → n.next ≡ m.next
        by_turn (On k) f g = unfolded-next k n place (Some (Seg kind' link from to)) g
            ∙ ap (λ (j : Matching). j.next) (unless-on rules number (with_missing_fact m (Ne from to)) k f)
        by_turn (Stuck other) f g = cc
    parted-next m n place (Some Junk) h = cc

    part_at-next : (m n : Matching) (p : Option ℕ) → part_at rules number kind wants e m p ≡ On n → Names (length wants) m n
    part_at-next m n None h = miss_cell-next m n rules.mode h
    part_at-next m n (Some place) h = same-next (length wants) m n (parted-next m n place (slice_get m.left place) h)

    unfold_place-next : (m n : Matching) (p : Option ℕ) → unfold_place rules number kind wants e m p ≡ On n → Names (length wants) m n
    unfold_place-next m n None h = part_at-next m n (place_to_part rules.mode e kind m.left) h
    unfold_place-next m n (Some place) h = same-next (length wants) m n (unfolded-next m n place (slice_get m.left place) h)

    take_cell-next : (m n : Matching) (place : ℕ) (o : Option Atom) → take_cell rules number kind wants m place o ≡ On n → n.next ≡ m.next
    take_cell-next m n place None h = cc
    take_cell-next m n place (Some (Points at kind' haves)) h =
        let next : Matching = take_atom m place (Points at kind' haves) in
        let taken : On (take_fields rules number wants haves next) ≡ On n =
        on_then (bytes_eq kind' kind) (On (take_fields rules number wants haves next)) number n h in
        let is_n : n ≡ take_fields rules number wants haves next = cc in
        ap (λ (j : Matching). j.next) is_n ∙ fields-next wants haves next
    take_cell-next m n place (Some (Seg kind' link from to)) h = cc
    take_cell-next m n place (Some Junk) h = cc

    cell_place-next : (m n : Matching) (p : Option ℕ) → cell_place rules number kind wants e m p ≡ On n → Names (length wants) m n
    cell_place-next m n None h = unfold_place-next m n (position (is_to_unfold (whole rules m) e kind) m.left) h
    cell_place-next m n (Some place) h = same-next (length wants) m n (take_cell-next m n place (slice_get m.left place) h)

  module _ (kind : List ℕ) (link : ℕ) where
    there-next : (m n : Matching) → On m ≡ On n → n.next ≡ m.next
    there-next m n h = let is_n : n ≡ m = cc in ap (λ (j : Matching). j.next) is_n

    miss_segment-next : (to e : Exp) (m n : Matching) (mode : Mode) → miss_segment rules number kind link to e m mode ≡ On n →
        n.next ≡ m.next
    miss_segment-next to e m n Subtract h = cc
    miss_segment-next to e m n Abduce h =
        let missed : miss_atom rules number (Seg kind link e to) m ≡ On n =
        on_then (is_logical_variable e && is_logical to) (miss_atom rules number (Seg kind link e to) m) number n h in
        ap (λ (j : Matching). j.next) (unless-on rules number (with_missing_atom m (Seg kind link e to)) n missed)

    bound-next : (to f : Exp) (k n : Matching) → On (bind k to f) ≡ On n → n.next ≡ k.next
    bound-next to f k n h = there-next (bind k to f) n h ∙ bind-next k to f

    bind_end-next : (to e : Exp) (m n : Matching) (mode : Mode) → bind_end rules number kind link to e m mode ≡ On n → Names 1 m n
    bind_end-next to e m n Subtract h = same-next 1 m n (bound-next to e m n h)
    bind_end-next to e m n Abduce h = by_test (is_logical_variable e) h
      where
        by_test : (b : Bool) →
            (if b then miss_segment rules number kind link (Var m.next) e (bind_new m to) Abduce else On (bind m to e)) ≡ On n →
            n.next ≤ m.next + 1
        by_test true g = let same : n.next ≡ m.next + 1 = miss_segment-next (Var m.next) e (bind_new m to) n Abduce g in omega arith
        by_test false g = let same : n.next ≡ m.next = bound-next to e m n g in omega arith

    reach_piece-next : (to : Exp) (m n : Matching) (place : ℕ) (o : Option Atom) →
        take_piece number link m (λ next k. On (bind k to next)) place o ≡ On n → n.next ≡ m.next
    reach_piece-next to m n place None h = cc
    reach_piece-next to m n place (Some atom) h = bound-next to (next_of link atom) (take_atom m place atom) n h

    reach-next : (to e : Exp) (m n : Matching) (p : Option ℕ) →
        piece_at number link m (λ next k. On (bind k to next)) (bind_end rules number kind link to e m rules.mode) p ≡ On n → Names 1 m n
    reach-next to e m n None h = bind_end-next to e m n rules.mode h
    reach-next to e m n (Some place) h = same-next 1 m n (reach_piece-next to m n place (slice_get m.left place) h)

    walk-next : (turns : ℕ) (to e : Exp) (m n : Matching) → walk turns rules number kind link to e m ≡ On n → n.next ≡ m.next
    walk-next zero to e m n h = by_test (same_exp e to) h
      where
        by_test : (b : Bool) → (if b then On m else miss_segment rules number kind link to e m rules.mode) ≡ On n → n.next ≡ m.next
        by_test true g = there-next m n g
        by_test false g = miss_segment-next to e m n rules.mode g
    walk-next (suc turns) to e m n h = by_test (λ f k l. walk-next turns to f k l) (same_exp e to) h
      where
        by_atom : ((f : Exp) (k l : Matching) → walk turns rules number kind link to f k ≡ On l → l.next ≡ k.next) →
            (place : ℕ) (o : Option Atom) → take_piece number link m (walk turns rules number kind link to) place o ≡ On n → n.next ≡ m.next
        by_atom again place None g = cc
        by_atom again place (Some atom) g = again (next_of link atom) (take_atom m place atom) n g

        by_place : ((f : Exp) (k l : Matching) → walk turns rules number kind link to f k ≡ On l → l.next ≡ k.next) → (p : Option ℕ) →
            piece_at number link m (walk turns rules number kind link to) (miss_segment rules number kind link to e m rules.mode) p ≡ On n →
            n.next ≡ m.next
        by_place again None g = miss_segment-next to e m n rules.mode g
        by_place again (Some place) g = by_atom again place (slice_get m.left place) g

        by_test : ((f : Exp) (k l : Matching) → walk turns rules number kind link to f k ≡ On l → l.next ≡ k.next) → (b : Bool) →
            (if b then On m
            else piece_at number link m (walk turns rules number kind link to) (miss_segment rules number kind link to e m rules.mode)
            (piece kind link e m.left)) ≡ On n → n.next ≡ m.next
        by_test again true g = there-next m n g
        by_test again false g = by_place again (piece kind link e m.left) g

    want_segment-next : (e to : Exp) (m n : Matching) → want_segment rules number kind link e to m ≡ On n → Names 1 m n
    want_segment-next e to m n h = by_test (is_unbound rules.flexible m.binding to) h
      where
        by_test : (b : Bool) →
            (if b then reach rules number kind link to e m
            else walk (length m.left) rules number kind link (read rules.facts m.binding to) e m) ≡ On n → n.next ≤ m.next + 1
        by_test true g = reach-next to e m n (piece kind link e m.left) g
        by_test false g = same-next 1 m n (walk-next (length m.left) (read rules.facts m.binding to) e m n g)

pub atom_names : AtomNames
atom_names rules number (Points at kind fields) m n h =
    cell_place-next rules number kind fields (read rules.facts m.binding at) m n
    (position (is_cell_at (read rules.facts m.binding at)) m.left) h
atom_names rules number (Seg kind link from to) m n h = want_segment-next rules number kind link (read rules.facts m.binding from) to m n h
atom_names rules number Junk m n h = let is_n : n ≡ m = cc in same-next 0 m n (ap (λ (j : Matching). j.next) is_n)

-- the wanted atoms may take as many new logical variables as one of them, and the others
pub names-removed : (wanted : List Wanted) (place : ℕ) (w : Wanted) → slice_get wanted place ≡ Some w →
    names_wanted wanted ≡ names_of w.atom + names_wanted (remove wanted place)
names-removed [] place w is = cc
names-removed (first ∷ others) zero w is = let same : first ≡ w = cc in rw same refl
names-removed (first ∷ others) (suc place) w is =
    let later : names_wanted others ≡ names_of w.atom + names_wanted (remove others place) = names-removed others place w is in
    omega arith

module _ (rules : Rules) (turns : ℕ) (wanted : List Wanted) (m n : Matching) (many : length wanted ≡ suc turns)
    (go_on : (place : ℕ) (k : Matching) → length (remove wanted place) ≡ turns → want_atoms turns rules (remove wanted place) k ≡ On n →
    n.next ≤ k.next + names_wanted (remove wanted place)) where
  one-next : (place : ℕ) (w : Wanted) → slice_get wanted place ≡ Some w → (r : Turned) → want_atom rules w.number w.atom m ≡ r →
      and_then (want_atoms turns rules (remove wanted place)) r ≡ On n → n.next ≤ m.next + names_wanted wanted
  one-next place w is (Stuck number) f g = cc
  one-next place w is (On k) f g =
      let parts : names_wanted wanted ≡ names_of w.atom + names_wanted (remove wanted place) = names-removed wanted place w is in
      let shorter : length (remove wanted place) + 1 ≡ length wanted = length-remove wanted place (slice_get_within wanted place w is) in
      let fewer : length (remove wanted place) ≡ turns = omega arith in
      let one : k.next ≤ m.next + names_of w.atom = atom_names rules w.number w.atom m k f in
      let others : n.next ≤ k.next + names_wanted (remove wanted place) = go_on place k fewer g in
      omega arith

  wanted-next : (place : ℕ) (o : Option Wanted) → slice_get wanted place ≡ o →
      want_one rules m (want_atoms turns rules (remove wanted place)) (first_number wanted) o ≡ On n → n.next ≤ m.next + names_wanted wanted
  wanted-next place None is g = cc
  wanted-next place (Some w) is g = one-next place w is (want_atom rules w.number w.atom m) refl g

  at-next : (p : Option ℕ) → want_at rules m wanted (want_atoms turns rules) p ≡ On n → n.next ≤ m.next + names_wanted wanted
  at-next None g = cc
  at-next (Some place) g = wanted-next place (slice_get wanted place) refl g

pub atoms_name : AtomsName
atoms_name rules zero wanted m n many h =
    let is_n : n ≡ m = cc in let same : n.next ≡ m.next = ap (λ (j : Matching). j.next) is_n in omega arith
atoms_name rules (suc turns) wanted m n many h =
    at-next rules turns wanted m n many (λ place k fewer g. atoms_name rules turns (remove wanted place) k n fewer g)
    (next_place rules m wanted) h
