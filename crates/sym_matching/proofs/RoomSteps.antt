-- How many new variables the stages of a match take.
use Rattle.std.specs.Prelude.{◌≡◌, ◌⊎◌, ℕ, zero, suc, ◌+◌, Bool, true, false, not, ◌&&◌, if◌then◌else◌, List, [], ◌∷◌, ◌++◌, length, map}
use Rattle.std.specs.Prelude.{position, slice_get}
use Rattle.std.specs.List.{list_all, list_any, remove}
use Rattle.std.specs.Str.{bytes_eq}
use Rattle.std.specs.declared.option.Option.{Option}
use Rattle.std.specs.declared.option.Option.TheVariants.{None, Some}
use Rattle.std.proofs.Common.{refl, sym, ap, subst, ◌∙◌, arith, inl, inr, ⊎_elim}
use Rattle.std.proofs.lemmas.List.Edits.{length-remove}
use Rattle.std.proofs.lemmas.Option.{slice_get_within}
use Rattle.shape_data.specs.declared.symbolic.Atom.{Atom}
use Rattle.shape_data.specs.declared.symbolic.Atom.TheVariants.{Points, Seg, Junk}
use Rattle.shape_data.specs.declared.symbolic.Exp.{Exp}
use Rattle.shape_data.specs.declared.symbolic.Exp.TheVariants.{Var, Const}
use Rattle.shape_data.specs.declared.symbolic.Fact.TheVariants.{Ne}
use Rattle.sym_parts.specs.Laws.Expressions.{same_exp}
use Rattle.sym_canon.specs.Placing.{is_cell_at}
use Rattle.sym_matching.specs.declared.matching.Matching.{Matching}
use Rattle.sym_matching.specs.declared.matching.Mode.{Mode}
use Rattle.sym_matching.specs.declared.matching.Mode.TheVariants.{Subtract, Abduce}
use Rattle.sym_matching.specs.declared.matching.Turned.{Turned}
use Rattle.sym_matching.specs.declared.matching.Turned.TheVariants.{On, Stuck}
use Rattle.sym_matching.specs.declared.matching.Wanted.{Wanted}
use Rattle.sym_matching.specs.NewVariables.{HasRoom, fresh_variables}
use Rattle.sym_matching.specs.Reading.{read, is_unbound, is_logical, is_logical_variable}
use Rattle.sym_matching.specs.Rooms.{fields_of, fields_wanted, AtomTakesRoom, AtomsTakeRoom}
use Rattle.sym_matching.specs.Steps.{Rules, whole, bind, bind_new, take_atom, unfold_at, and_then, miss_atom, miss_fact, with_missing_atom}
use Rattle.sym_matching.specs.Steps.{with_missing_fact}
use Rattle.sym_matching.specs.WantedAtoms.{want_atom, next_place, first_number, want_one, want_at, want_atoms}
use Rattle.sym_matching.specs.WantedCells.{take_fields, is_atom_from, name_field, name_fields, miss_named, miss_cell, take_unfolded}
use Rattle.sym_matching.specs.WantedCells.{is_to_unfold, take_parted, part_at, place_to_part, unfold_place, take_cell, cell_place}
use Rattle.sym_matching.specs.WantedCells.{want_cell}
use Rattle.sym_matching.specs.WantedSegments.{next_of, piece, take_piece, piece_at, miss_segment, walk, bind_end, reach, want_segment}
use Rattle.sym_matching.proofs.RoomLaws.{room_parts}
use Rattle.sym_matching.proofs.SettleLaws.{unless-on}
use Rattle.sym_matching.proofs.StandLaws.{Passes-fields}

-- what goes on behind a test passed it
pub on_then : (b : Bool) (x : Turned) (number : ℕ) (n : Matching) → (if b then x else Stuck number) ≡ On n → x ≡ On n
on_then true x number n h = h
on_then false x number n h = cc

bind-used : (m : Matching) (e f : Exp) → (bind m e f).used ≡ m.used
bind-used m (Var x) f = refl
bind-used m (Const n) f = refl

module _ (rules : Rules) (number : ℕ) where
  -- ---- a wanted cell

  fields-used : (wants haves : List Exp) (m : Matching) → (take_fields rules number wants haves m).used ≡ m.used
  fields-used wants haves m = (Passes-fields rules number wants haves m).used

  name_field-used : (want : Exp) (m : Matching) → (name_field rules want m).used ≡ m.used
  name_field-used want m = by_test (is_unbound rules.flexible m.binding want)
    where
      by_test : (b : Bool) → (if b then bind_new m want else m).used ≡ m.used
      by_test true = bind-used m want (Var m.next)
      by_test false = refl

  name_fields-used : (wants : List Exp) (m : Matching) → (name_fields rules wants m).used ≡ m.used
  name_fields-used [] m = refl
  name_fields-used (want ∷ wants) m = name_fields-used wants (name_field rules want m) ∙ name_field-used want m

  module _ (kind : List ℕ) (wants : List Exp) (e : Exp) where
    -- nothing, or one new variable for each field
    abbrev pub Grown : Matching → Matching → Type 0
    Grown m n = (n.used ≡ m.used) ⊎ (n.used ≡ m.used ++ fresh_variables (length wants) m.used)

    miss_cell-used : (m n : Matching) (mode : Mode) → miss_cell rules number kind wants e m mode ≡ On n → n.used ≡ m.used
    miss_cell-used m n Subtract h = cc
    miss_cell-used m n Abduce h =
        let k : Matching = name_fields rules wants m in
        let fields : List Exp = map (read rules.facts k.binding) wants in
        let named : miss_named rules number kind wants e k ≡ On n =
        on_then (is_logical_variable e && not (list_any (is_atom_from e) m.left)) (miss_named rules number kind wants e k) number n h in
        let missed : miss_atom rules number (Points e kind fields) k ≡ On n =
        on_then (list_all is_logical fields) (miss_atom rules number (Points e kind fields) k) number n named in
        ap (λ (j : Matching). j.used) (unless-on rules number (with_missing_atom k (Points e kind fields)) n missed)
        ∙ name_fields-used wants m

    unfolded-used : (m k n : Matching) (place : ℕ) (o : Option Atom) → k.used ≡ m.used → take_unfolded rules number wants k place o ≡ On n →
        n.used ≡ m.used ++ fresh_variables (length wants) m.used
    unfolded-used m k n place None same h = cc
    unfolded-used m k n place (Some (Points at kind' haves)) same h = cc
    unfolded-used m k n place (Some (Seg kind' link from to)) same h =
        let xs : List ℕ = fresh_variables (length wants) k.used in
        let next : Matching = unfold_at k place kind' link from to xs in
        let is_n : n ≡ take_fields rules number wants (map Var xs) next = cc in
        ap (λ (j : Matching). j.used) is_n ∙ fields-used wants (map Var xs) next
        ∙ ap (λ used. used ++ fresh_variables (length wants) used) same
    unfolded-used m k n place (Some Junk) same h = cc

    parted-used : (m n : Matching) (place : ℕ) (o : Option Atom) → take_parted rules number wants m place o ≡ On n →
        n.used ≡ m.used ++ fresh_variables (length wants) m.used
    parted-used m n place None h = cc
    parted-used m n place (Some (Points at kind' haves)) h = cc
    parted-used m n place (Some (Seg kind' link from to)) h = by_turn (miss_fact rules number (Ne from to) m) refl h
      where
        by_turn : (r : Turned) → miss_fact rules number (Ne from to) m ≡ r →
            and_then (λ k. take_unfolded rules number wants k place (Some (Seg kind' link from to))) r ≡ On n →
            n.used ≡ m.used ++ fresh_variables (length wants) m.used
        by_turn (On k) f g =
            unfolded-used m k n place (Some (Seg kind' link from to))
            (ap (λ (j : Matching). j.used) (unless-on rules number (with_missing_fact m (Ne from to)) k f)) g
        by_turn (Stuck other) f g = cc
    parted-used m n place (Some Junk) h = cc

    part_at-grown : (m n : Matching) (p : Option ℕ) → part_at rules number kind wants e m p ≡ On n → Grown m n
    part_at-grown m n None h = inl (miss_cell-used m n rules.mode h)
    part_at-grown m n (Some place) h = inr (parted-used m n place (slice_get m.left place) h)

    unfold_place-grown : (m n : Matching) (p : Option ℕ) → unfold_place rules number kind wants e m p ≡ On n → Grown m n
    unfold_place-grown m n None h = part_at-grown m n (place_to_part rules.mode e kind m.left) h
    unfold_place-grown m n (Some place) h = inr (unfolded-used m m n place (slice_get m.left place) refl h)

    take_cell-used : (m n : Matching) (place : ℕ) (o : Option Atom) → take_cell rules number kind wants m place o ≡ On n → n.used ≡ m.used
    take_cell-used m n place None h = cc
    take_cell-used m n place (Some (Points at kind' haves)) h =
        let next : Matching = take_atom m place (Points at kind' haves) in
        let taken : On (take_fields rules number wants haves next) ≡ On n =
        on_then (bytes_eq kind' kind) (On (take_fields rules number wants haves next)) number n h in
        let is_n : n ≡ take_fields rules number wants haves next = cc in
        ap (λ (j : Matching). j.used) is_n ∙ fields-used wants haves next
    take_cell-used m n place (Some (Seg kind' link from to)) h = cc
    take_cell-used m n place (Some Junk) h = cc

    cell_place-grown : (m n : Matching) (p : Option ℕ) → cell_place rules number kind wants e m p ≡ On n → Grown m n
    cell_place-grown m n None h = unfold_place-grown m n (position (is_to_unfold (whole rules m) e kind) m.left) h
    cell_place-grown m n (Some place) h = inl (take_cell-used m n place (slice_get m.left place) h)

    pub want_cell-grown : (m n : Matching) → want_cell rules number kind wants e m ≡ On n → Grown m n
    want_cell-grown m n h = cell_place-grown m n (position (is_cell_at e) m.left) h

  -- ---- a wanted segment

  module _ (kind : List ℕ) (link : ℕ) where
    miss_segment-used : (to e : Exp) (m n : Matching) (mode : Mode) → miss_segment rules number kind link to e m mode ≡ On n →
        n.used ≡ m.used
    miss_segment-used to e m n Subtract h = cc
    miss_segment-used to e m n Abduce h =
        let missed : miss_atom rules number (Seg kind link e to) m ≡ On n =
        on_then (is_logical_variable e && is_logical to) (miss_atom rules number (Seg kind link e to) m) number n h in
        ap (λ (j : Matching). j.used) (unless-on rules number (with_missing_atom m (Seg kind link e to)) n missed)

    there-used : (m n : Matching) → On m ≡ On n → n.used ≡ m.used
    there-used m n h = let is_n : n ≡ m = cc in ap (λ (j : Matching). j.used) is_n

    piece-used : (go_on : Exp → Matching → Turned) → ((e : Exp) (k n : Matching) → go_on e k ≡ On n → n.used ≡ k.used) →
        (m n : Matching) (place : ℕ) (o : Option Atom) → take_piece number link m go_on place o ≡ On n → n.used ≡ m.used
    piece-used go_on later m n place None h = cc
    piece-used go_on later m n place (Some atom) h = later (next_of link atom) (take_atom m place atom) n h

    piece_at-used : (go_on : Exp → Matching → Turned) (otherwise : Turned) →
        ((e : Exp) (k n : Matching) → go_on e k ≡ On n → n.used ≡ k.used) → (m n : Matching) → (otherwise ≡ On n → n.used ≡ m.used) →
        (p : Option ℕ) →
        piece_at number link m go_on otherwise p ≡ On n → n.used ≡ m.used
    piece_at-used go_on otherwise later m n other None h = other h
    piece_at-used go_on otherwise later m n other (Some place) h = piece-used go_on later m n place (slice_get m.left place) h

    either : (b : Bool) (x y : Turned) (m n : Matching) → (x ≡ On n → n.used ≡ m.used) → (y ≡ On n → n.used ≡ m.used) →
        (if b then x else y) ≡ On n → n.used ≡ m.used
    either true x y m n one other h = one h
    either false x y m n one other h = other h

    walk-used : (turns : ℕ) (to e : Exp) (m n : Matching) → walk turns rules number kind link to e m ≡ On n → n.used ≡ m.used
    walk-used zero to e m n h =
        either (same_exp e to) (On m) (miss_segment rules number kind link to e m rules.mode) m n (there-used m n)
        (miss_segment-used to e m n rules.mode) h
    walk-used (suc turns) to e m n h =
        either (same_exp e to) (On m)
        (piece_at number link m (walk turns rules number kind link to) (miss_segment rules number kind link to e m rules.mode)
        (piece kind link e m.left)) m n (there-used m n)
        (piece_at-used (walk turns rules number kind link to) (miss_segment rules number kind link to e m rules.mode)
        (λ f k l g. walk-used turns to f k l g) m n (miss_segment-used to e m n rules.mode) (piece kind link e m.left)) h

    bound-used : (to f : Exp) (k n : Matching) → On (bind k to f) ≡ On n → n.used ≡ k.used
    bound-used to f k n h = there-used (bind k to f) n h ∙ bind-used k to f

    bind_end-used : (to e : Exp) (m n : Matching) (mode : Mode) → bind_end rules number kind link to e m mode ≡ On n → n.used ≡ m.used
    bind_end-used to e m n Subtract h = bound-used to e m n h
    bind_end-used to e m n Abduce h =
        either (is_logical_variable e) (miss_segment rules number kind link (Var m.next) e (bind_new m to) Abduce) (On (bind m to e)) m n
        (λ g. miss_segment-used (Var m.next) e (bind_new m to) n Abduce g ∙ bind-used m to (Var m.next)) (bound-used to e m n) h

    pub want_segment-used : (e to : Exp) (m n : Matching) → want_segment rules number kind link e to m ≡ On n → n.used ≡ m.used
    want_segment-used e to m n h =
        either (is_unbound rules.flexible m.binding to) (reach rules number kind link to e m)
        (walk (length m.left) rules number kind link (read rules.facts m.binding to) e m) m n
        (λ g. piece_at-used (λ next k. On (bind k to next)) (bind_end rules number kind link to e m rules.mode)
        (λ f k l j. bound-used to f k l j) m n (bind_end-used to e m n rules.mode) (piece kind link e m.left) g)
        (walk-used (length m.left) (read rules.facts m.binding to) e m n) h

-- ---- room

-- room for more is room for less
room_less : (count more : ℕ) (used : List ℕ) → HasRoom (count + more) used → HasRoom more used
room_less count more used room =
    let turned : count + more ≡ more + count = omega arith in
    (room_parts more count used (subst (λ c. HasRoom c used) turned room)).0

pub atom_takes_room : AtomTakesRoom
atom_takes_room rules number (Points at kind fields) m n more h room =
    ⊎_elim (λ same. subst (λ used. HasRoom more used) (sym same) (room_less (length fields) more m.used room))
    (λ grown. subst (λ used. HasRoom more used) (sym grown) (room_parts (length fields) more m.used room).1)
    (want_cell-grown rules number kind fields (read rules.facts m.binding at) m n h)
atom_takes_room rules number (Seg kind link from to) m n more h room =
    subst (λ used. HasRoom more used) (sym (want_segment-used rules number kind link (read rules.facts m.binding from) to m n h))
    (room_less 0 more m.used room)
atom_takes_room rules number Junk m n more h room =
    let is_n : n ≡ m = cc in
    subst (λ (k : Matching). HasRoom more k.used) (sym is_n) (room_less 0 more m.used room)

-- the wanted atoms have the fields of one of them, and of the others
pub fields-removed : (wanted : List Wanted) (place : ℕ) (w : Wanted) → slice_get wanted place ≡ Some w →
    fields_wanted wanted ≡ fields_of w.atom + fields_wanted (remove wanted place)
fields-removed [] place w is = cc
fields-removed (first ∷ others) zero w is = let same : first ≡ w = cc in rw same refl
fields-removed (first ∷ others) (suc place) w is =
    let later : fields_wanted others ≡ fields_of w.atom + fields_wanted (remove others place) = fields-removed others place w is in
    omega arith

module _ (rules : Rules) (turns : ℕ) (wanted : List Wanted) (m n : Matching) (more : ℕ) (many : length wanted ≡ suc turns)
    (go_on : (place : ℕ) (k : Matching) → length (remove wanted place) ≡ turns → want_atoms turns rules (remove wanted place) k ≡ On n →
    HasRoom (fields_wanted (remove wanted place) + more) k.used → HasRoom more n.used)
    (room : HasRoom (fields_wanted wanted + more) m.used) where
  one-room : (place : ℕ) (w : Wanted) → slice_get wanted place ≡ Some w → (r : Turned) → want_atom rules w.number w.atom m ≡ r →
      and_then (want_atoms turns rules (remove wanted place)) r ≡ On n → HasRoom more n.used
  one-room place w is (Stuck number) f g = cc
  one-room place w is (On k) f g =
      let parts : fields_wanted wanted ≡ fields_of w.atom + fields_wanted (remove wanted place) = fields-removed wanted place w is in
      let counts : fields_wanted wanted + more ≡ fields_of w.atom + (fields_wanted (remove wanted place) + more) = omega arith in
      let shorter : length (remove wanted place) + 1 ≡ length wanted = length-remove wanted place (slice_get_within wanted place w is) in
      let fewer : length (remove wanted place) ≡ turns = omega arith in
      go_on place k fewer g
      (atom_takes_room rules w.number w.atom m k (fields_wanted (remove wanted place) + more) f (subst (λ c. HasRoom c m.used) counts room))

  wanted-room : (place : ℕ) (o : Option Wanted) → slice_get wanted place ≡ o →
      want_one rules m (want_atoms turns rules (remove wanted place)) (first_number wanted) o ≡ On n → HasRoom more n.used
  wanted-room place None is g = cc
  wanted-room place (Some w) is g = one-room place w is (want_atom rules w.number w.atom m) refl g

  at-room : (p : Option ℕ) → want_at rules m wanted (want_atoms turns rules) p ≡ On n → HasRoom more n.used
  at-room None g = cc
  at-room (Some place) g = wanted-room place (slice_get wanted place) refl g

pub atoms_take_room : AtomsTakeRoom
atoms_take_room rules zero wanted m n more many h room =
    let is_n : n ≡ m = cc in
    subst (λ (k : Matching). HasRoom more k.used) (sym is_n) (room_less (fields_wanted wanted) more m.used room)
atoms_take_room rules (suc turns) wanted m n more many h room =
    at-room rules turns wanted m n more many
    (λ place k fewer g less. atoms_take_room rules turns (remove wanted place) k n more fewer g less) room (next_place rules m wanted) h
