-- Different numbers of 32 bits, from one on, are at most those that are left.
use Rattle.std.proofs.Common.{◌<◌, ◌≤◌, All, rules, arith}
use Rattle.sym_canon.proofs.FrontLaws.{front-fit}
use Rattle.sym_canon.proofs.numbering.Numbers.from.Goals as goal

pub invariant_of-result : goal.invariant_of-result
invariant_of-result c =
    let under : All (λ y. y < 4294967296) c.args.seen.items = search rules in
    let low : c.args.first ≤ 4294967296 = omega arith in
    record { fit = front-fit c.args.first 4294967296 low c.args.seen.items c.requires.from under c.requires.different }
