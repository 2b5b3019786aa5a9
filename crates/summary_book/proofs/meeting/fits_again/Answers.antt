-- The key's procedures are the component's.
use Rattle.std.proofs.Common.{◌∙◌, slice_get, sym, ap, refl}
use Rattle.std.specs.List.{filter_map}
use Rattle.component_keys.specs.Keys.{flows_of}
use Rattle.summary_book.proofs.Rowed.{fit_again, row_at}
use Rattle.summary_book.proofs.meeting.fits_again.Goals as goal

pub returns : goal.returns
returns c =
    let items = c.args.parts.now.components.items in
    let at = row_at items items c.args.place c.index.result.now refl c.requires.within c.index.ensures in
    let same =
    ap (λ p. filter_map (slice_get (flows_of p)) c.deref-2.result.now) c.deref.ensures ∙
    ap (λ m. filter_map (slice_get (flows_of c.args.parts.now.program.value)) m) c.deref-2.ensures.value in
    fit_again c.args.parts.now c.requires.parts c.args.place c.index.result.now c.args.key.now c.are_flows.result at c.requires.composed
    (λ t. sym c.deref-3.ensures ∙ c.are_flows.ensures.0 t ∙ same)
    (λ e. c.are_flows.ensures.1 (c.deref-3.ensures ∙ e ∙ sym same))
