-- One claim less is to be given back.
use Rattle.std.proofs.Common.{◌<◌, ◌∙◌, length, sym, refl, arith}
use Rattle.claim_core.specs.Views.{IsSolution}
use Rattle.summary_book.proofs.Rowed.{row_at}
use Rattle.summary_book.proofs.Sweeping.{positive, swept_more}
use Rattle.summary_book.proofs.book.Book.sweep.Goals as goal

pub loop-self-preserved : goal.loop-self-preserved
loop-self-preserved g c =
    let inside = c.loop-self.self-inside in
    let row = c.remove-row.result in
    let lt : 0 < length inside.out.items =
    (let p = positive _ (sym c.is_empty.ensures ∙ c.loop-self-test.true) in let f = inside.out.ok.0 in omega (arith, p, f)) in
    swept_more (IsSolution g.J.Meaning.solves) c.args.self.now inside.log c.push_reserved.new.self inside.parts inside.slots inside.marks
    inside.out c.remove-row.new.self inside.revision inside.made c.loop-self.invariant row
    (row_at inside.out.items inside.out.items 0 row refl lt c.remove-row.ensures.value)
    (record { items_are = c.push_reserved.ensures.items; len_is = c.push_reserved.ensures.len })
    c.remove-row.ensures.items c.remove-row.ensures.len c.push_reserved.ensures.capacity
