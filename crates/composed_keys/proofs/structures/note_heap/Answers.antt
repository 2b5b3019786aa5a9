use Rattle.component_keys.specs.Structures.{atom_struct}
use Rattle.composed_keys.proofs.Noted.{more_named}
use Rattle.composed_keys.proofs.structures.note_heap.Goals as goal

pub loop-atom-preserved : goal.loop-atom-preserved
loop-atom-preserved c =
    more_named c.args.structs.now atom_struct c.as_slice-atoms.result.now c.loop-atom.atom-index c.atom-item.result c.args.numbers.now.items
    c.loop-atom.numbers.items c.note_atom.new.numbers.items c.loop-atom.invariant c.loop-atom-test.true c.atom-item.is
    c.in_ok-note_atom.ensures
