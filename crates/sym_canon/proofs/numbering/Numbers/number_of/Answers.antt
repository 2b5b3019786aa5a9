use Rattle.std.proofs.Common.{◌≡◌, ◌==◌, ap, Some, None, position}
use Rattle.sym_canon.specs.Numbering.{number_at}
use Rattle.sym_canon.proofs.numbering.Numbers.number_of.Goals as goal

pub returns-in-Some : goal.returns-in-Some
returns-in-Some c =
    let told : Some c.in-Some.place ≡ position (λ y. c.args.x == y) c.args.self.now.seen.items =
    rw c.as_slice.ensures.value at c.in-Some.ensures.first in
    ap (number_at c.args.self.now.first c.args.x) told

pub returns-in-None : goal.returns-in-None
returns-in-None c =
    let told : None ≡ position (λ y. c.args.x == y) c.args.self.now.seen.items = rw c.as_slice.ensures.value at c.in-None.ensures.first in
    ap (number_at c.args.self.now.first c.args.x) told
