-- A post within the sizes has few variables, and so does what was bound.
use Rattle.std.proofs.Common.{◌≡◌, length, rules}
use Rattle.sym_matching.proofs.RenamingLemmas.SizeLemmas.{post_room}
use Rattle.sym_matching.proofs.renaming.calls.post_numbers.Goals as goal

pub numbers_apart-requires : goal.numbers_apart-requires
numbers_apart-requires c =
    let same : length c.in_ok-avoid.avoid.items ≡ length c.args.used.now = search rules in
    post_room c.args.used.now c.in_ok-avoid.avoid.items c.as_slice.result.now c.as_slice-2.result.now c.args.found.now.apart.now
    c.args.found.now.binding.now c.args.post.now c.requires.used c.requires.binding c.requires.post same
    (rw c.as_slice.ensures.value c.in_ok-add_binding.ensures) (rw c.as_slice-2.ensures.value c.in_ok-list.ensures)
