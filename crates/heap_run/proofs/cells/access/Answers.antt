use Rattle.std.proofs.Common.{◌≡◌, ◌∙◌, ap, sym, true, false}
use Rattle.std.specs.Str.{bytes_eq}
use Rattle.std.proofs.lemmas.Int.{to_z-of_z}
use mir.Syntax.{w128}
use mir.Val.{of_z}
use Rattle.heap_run.proofs.Accesses.{access_finds, access_of_kind, access_of_none}
use Rattle.heap_run.proofs.cells.access.Goals as goal

pub returns-then-eq : goal.returns-then-eq
returns-then-eq c =
    let placed = rw (c.in-Ok.is, to_z-of_z w128 c.args.at c.ranges.at) at c.place_of.ensures in
    let test : bytes_eq c.index-heap-place.result.kind c.args.kind.now ≡ true =
    rw (← c.index-heap-place.is) at (sym c.eq.ensures ∙ c.if-eq.true) in
    access_finds c.args.heap.now c.args.at c.args.kind.now c.in-Ok.place c.index-heap-place.result c.requires
    (λ e. c.if-at-eq0.false (ap (of_z w128) e)) placed c.index-heap-place.is test

pub returns-else-eq : goal.returns-else-eq
returns-else-eq c =
    let placed = rw (c.in-Ok.is, to_z-of_z w128 c.args.at c.ranges.at) at c.place_of.ensures in
    let test : bytes_eq c.index-heap-place.result.kind c.args.kind.now ≡ false =
    rw (← c.index-heap-place.is) at (sym c.eq.ensures ∙ c.if-eq.false) in
    access_of_kind c.args.heap.now c.args.at c.args.kind.now c.in-Ok.place c.index-heap-place.result c.requires
    (λ e. c.if-at-eq0.false (ap (of_z w128) e)) placed c.index-heap-place.is test

pub returns-in-Err : goal.returns-in-Err
returns-in-Err c =
    let placed = rw (c.in-Err.is, to_z-of_z w128 c.args.at c.ranges.at) at c.place_of.ensures in
    access_of_none c.args.heap.now c.args.at c.args.kind.now c.in-Err.field-0 (λ e. c.if-at-eq0.false (ap (of_z w128) e)) placed
