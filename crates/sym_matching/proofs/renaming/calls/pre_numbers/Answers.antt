-- A heap within the sizes has few variables.
use Rattle.sym_matching.proofs.RenamingLemmas.SizeLemmas.{pre_room}
use Rattle.sym_matching.proofs.renaming.calls.pre_numbers.Goals as goal

pub numbers_apart-requires : goal.numbers_apart-requires
numbers_apart-requires c =
    pre_room c.args.used.now c.in_ok-names.names.items c.as_slice.result.now c.args.params c.args.pre.now c.requires.used c.requires.params
    c.requires.pre c.in_ok-names.ensures (rw c.as_slice.ensures.value c.in_ok-add_heap.ensures)
