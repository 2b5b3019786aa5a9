-- A turn of the wanted atoms, and its room.
use Rattle.std.proofs.Common.{◌≡◌, ◌∙◌, ℕ, suc, ◌+◌, ◌-◌, ◌<◌, ◌≤◌, List, Some, sym, ap, subst, slice_get, arith}
use Rattle.std.specs.List.{remove}
use Rattle.shape_data.specs.declared.symbolic.Atom.{Atom}
use Rattle.sym_matching.specs.declared.matching.Matching.{Matching}
use Rattle.sym_matching.specs.declared.matching.Turned.{Turned}
use Rattle.sym_matching.specs.declared.matching.Turned.TheVariants.{On, Stuck}
use Rattle.sym_matching.specs.declared.matching.Wanted.{Wanted}
use Rattle.sym_matching.specs.NewVariables.{HasRoom}
use Rattle.sym_matching.specs.Rooms.{fields_of, fields_of_all, fields_wanted, names_of, names_wanted}
use Rattle.sym_matching.specs.Steps.{Rules, and_then}
use Rattle.sym_matching.specs.WantedAtoms.{next_place, want_at, want_atom, want_atoms, wanted_from}
use Rattle.sym_matching.proofs.AnswerLaws.{fields-from, names-from}
use Rattle.sym_matching.proofs.RoomLaws.{room_parts}
use Rattle.sym_matching.proofs.NextSteps.{atom_names, names-removed}
use Rattle.sym_matching.proofs.RoomSteps.{atom_takes_room, fields-removed}
use Rattle.sym_matching.specs.Answers.{names_of_all}

module _ (wanted left : List Wanted) (place : ℕ) (w : Wanted) (used : List ℕ) (is : slice_get wanted place ≡ Some w)
    (rest : left ≡ remove wanted place) (room : HasRoom (fields_wanted wanted) used) where
  both : HasRoom (fields_of w.atom + fields_wanted left) used
  both = let counts : fields_wanted wanted ≡ fields_of w.atom + fields_wanted left = fields-removed wanted place w is
      ∙ ap (λ list. fields_of w.atom + fields_wanted list) (sym rest) in subst (λ count. HasRoom count used) counts room

  pub first_room : HasRoom (fields_of w.atom) used
  first_room = (room_parts (fields_of w.atom) (fields_wanted left) used both).0

pub later_room : (rules : Rules) (wanted left : List Wanted) (place : ℕ) (w : Wanted) (m n : Matching) → slice_get wanted place ≡ Some w →
    left ≡ remove wanted place → HasRoom (fields_wanted wanted) m.used →
    want_atom rules w.number w.atom m ≡ On n → HasRoom (fields_wanted left) n.used
later_room rules wanted left place w m n is rest room goes =
    atom_takes_room rules w.number w.atom m n (fields_wanted left) goes (both wanted left place w m.used is rest room)

module _ (wanted left : List Wanted) (place : ℕ) (w : Wanted) (next : ℕ) (is : slice_get wanted place ≡ Some w)
    (rest : left ≡ remove wanted place) (few : next + names_wanted wanted < 4294967296) where
  counted : names_wanted wanted ≡ names_of w.atom + names_wanted left
  counted = names-removed wanted place w is ∙ ap (λ list. names_of w.atom + names_wanted list) (sym rest)

  pub first_names : next + names_of w.atom < 4294967296
  first_names = let both : names_wanted wanted ≡ names_of w.atom + names_wanted left = counted in omega arith

pub later_names : (rules : Rules) (wanted left : List Wanted) (place : ℕ) (w : Wanted) (m n : Matching) → slice_get wanted place ≡ Some w →
    left ≡ remove wanted place → m.next + names_wanted wanted < 4294967296 →
    want_atom rules w.number w.atom m ≡ On n → n.next + names_wanted left < 4294967296
later_names rules wanted left place w m n is rest few goes =
    let both : names_wanted wanted ≡ names_of w.atom + names_wanted left = counted wanted left place w m.next is rest few in
    let taken : n.next ≤ m.next + names_of w.atom = atom_names rules w.number w.atom m n goes in
    omega arith

module _ (rules : Rules) (turns done : ℕ) (wanted now : List Wanted) (m : Matching) (turned : Turned) (inside : done < turns)
    (told : (go_on : List Wanted → Matching → Turned) →
    want_at rules m wanted go_on (next_place rules m wanted) ≡ and_then (go_on now) turned) where
  turn_left : turns - done ≡ suc (turns - (done + 1))
  turn_left = omega arith

  one_turn : want_atoms (turns - done) rules wanted m ≡ and_then (want_atoms (turns - (done + 1)) rules now) turned
  one_turn = rw turn_left (told (want_atoms (turns - (done + 1)) rules))

  pub atoms_stop : (number : ℕ) → turned ≡ Stuck number → want_atoms (turns - done) rules wanted m ≡ Stuck number
  atoms_stop number is = one_turn ∙ ap (and_then (want_atoms (turns - (done + 1)) rules now)) is

  pub atoms_go : (n : Matching) → turned ≡ On n → want_atoms (turns - done) rules wanted m ≡ want_atoms (turns - (done + 1)) rules now n
  atoms_go n is = one_turn ∙ ap (and_then (want_atoms (turns - (done + 1)) rules now)) is

-- the wanted atoms have the fields of the heap's atoms
pub wanted_room : (atoms : List Atom) (wanted : List Wanted) (used : List ℕ) → wanted ≡ wanted_from 0 atoms →
    HasRoom (fields_of_all atoms) used → HasRoom (fields_wanted wanted) used
wanted_room atoms wanted used is room = subst (λ count. HasRoom count used) (sym (ap fields_wanted is ∙ fields-from 0 atoms)) room

-- and may take as many new logical variables
pub wanted_names : (atoms : List Atom) (wanted : List Wanted) (next : ℕ) → wanted ≡ wanted_from 0 atoms →
    next + names_of_all atoms < 4294967296 → next + names_wanted wanted < 4294967296
wanted_names atoms wanted next is few =
    let same : names_wanted wanted ≡ names_of_all atoms = ap names_wanted is ∙ names-from 0 atoms in omega arith
