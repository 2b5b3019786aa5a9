-- A state within the sizes has few variables.
use Rattle.sym_matching.proofs.RenamingLemmas.SizeLemmas.{state_room}
use Rattle.sym_matching.proofs.renaming.coverings.state_numbers.Goals as goal

pub numbers_apart-requires : goal.numbers_apart-requires
numbers_apart-requires c =
    state_room c.args.used.now c.as_slice.result.now c.args.state.now c.requires.used c.requires.locals c.requires.heap
    (rw c.as_slice.ensures.value c.in_ok-list.ensures)
