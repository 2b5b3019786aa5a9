-- There are no more different variables than variables.
use Rattle.std.proofs.Common.{◌≡◌, length, rules}
use Rattle.sym_matching.proofs.RenamingLemmas.SizeLemmas.{apart_room, apart_small}
use Rattle.sym_matching.proofs.renaming.apart.numbers_apart.Goals as goal

pub new_numbers-requires : goal.new_numbers-requires
new_numbers-requires c =
    let same : c.len.result ≡ length c.in_ok-variables.variables.items = search rules in
    apart_room c.args.used.now c.args.list.now c.in_ok-variables.variables.items c.len.result c.requires c.in_ok-variables.ensures same

pub returns-clause-small : goal.returns-clause-small
returns-clause-small c =
    let same : c.len.result ≡ length c.in_ok-variables.variables.items = search rules in
    apart_small c.args.used.now c.args.list.now c.in_ok-variables.variables.items c.in_ok-numbers.numbers.items c.from_vec-2.result
    c.len.result c.requires c.in_ok-variables.ensures same c.in_ok-numbers.ensures c.from_vec-2.ensures
