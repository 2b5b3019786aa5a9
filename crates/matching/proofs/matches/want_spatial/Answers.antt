-- The wanted atoms have the fields of the heap's.
use Rattle.std.proofs.Common.{◌≡◌}
use Rattle.sym_matching.specs.WantedAtoms.{wanted_from}
use Rattle.matching.proofs.AtomTurns.{wanted_names, wanted_room}
use Rattle.matching.proofs.matches.want_spatial.Goals as goal

pub want_atoms-requires-clause-room : goal.want_atoms-requires-clause-room
want_atoms-requires-clause-room c =
    let is : c.in_ok-wanted.wanted ≡ wanted_from 0 c.args.b.now.spatial = rw c.as_slice.ensures at c.in_ok-wanted.ensures in
    wanted_room c.args.b.now.spatial c.in_ok-wanted.wanted c.args.m.used is c.requires.room

pub want_atoms-requires-clause-names : goal.want_atoms-requires-clause-names
want_atoms-requires-clause-names c =
    let is : c.in_ok-wanted.wanted ≡ wanted_from 0 c.args.b.now.spatial = rw c.as_slice.ensures at c.in_ok-wanted.ensures in
    wanted_names c.args.b.now.spatial c.in_ok-wanted.wanted c.args.m.next is c.requires.names
