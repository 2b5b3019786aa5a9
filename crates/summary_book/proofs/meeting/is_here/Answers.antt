-- The component at the place has the names.
use Rattle.std.proofs.Common.{◌<◌, ◌∙◌, length, slice_get, sym, ap, refl, rules}
use Rattle.std.specs.List.{filter_map}
use Rattle.component_keys.specs.Keys.{flows_of, names_of}
use Rattle.summary_book.proofs.Rowed.{named_here, row_at}
use Rattle.summary_book.proofs.meeting.is_here.Goals as goal

pub returns : goal.returns
returns c = λ h.
    let items = c.args.parts.now.components.items in
    let lt : c.args.place < length items = search rules in
    named_here c.args.parts.now c.requires (names_of c.args.procs.now) c.args.place c.index.result.now
    (row_at items items c.args.place c.index.result.now refl lt c.index.ensures)
    (ap (λ p. names_of (filter_map (slice_get (flows_of p)) c.index.result.now.members.items)) (sym c.deref.ensures)
    ∙ ap (λ m. names_of (filter_map (slice_get (flows_of c.deref.result.now)) m)) (sym c.deref-2.ensures.value) ∙
    c.have_names.ensures.0 h)
