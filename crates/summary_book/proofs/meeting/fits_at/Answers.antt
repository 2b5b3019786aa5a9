-- The key is compared with the component's own.
use Rattle.std.proofs.Common.{◌≡◌, ◌∙◌, ◌↔◌, IsTrue, Some, slice_get, sym, ap, refl}
use Rattle.std.specs.List.{filter_map}
use Rattle.std.proofs.lemmas.Result.{IfOk-weaker}
use Rattle.component_keys.specs.Keys.{flows_of, key_over}
use Rattle.summary_book.specs.Rows.{is_fit_at}
use Rattle.summary_book.proofs.Rowed.{fit_there, row_at}
use Rattle.summary_book.proofs.meeting.fits_at.Goals as goal

pub returns : goal.returns
returns c =
    let items = c.args.parts.now.components.items in
    let at = row_at items items c.args.place c.index.result.now refl c.requires.within c.index.ensures in
    let same =
    ap (λ p. key_over p.structs (filter_map (slice_get (flows_of p)) c.deref-2.result.now) c.args.key.now.callees) c.deref.ensures ∙
    ap (λ m. key_over c.args.parts.now.program.value.structs
    (filter_map (slice_get (flows_of c.args.parts.now.program.value)) m) c.args.key.now.callees) c.deref-2.ensures.value in
    IfOk-weaker c.is_key_of.result
    (λ is. IsTrue is
    ↔ (c.args.key.now
    ≡ key_over c.deref.result.now.structs
    (filter_map (slice_get (flows_of c.deref.result.now)) c.deref-2.result.now) c.args.key.now.callees))
    (λ fits. fits ≡ is_fit_at c.args.parts.now.program.value (Some c.args.place) c.args.key.now)
    (λ fits is. fit_there c.args.parts.now c.requires.parts c.args.place c.index.result.now c.args.key.now fits at (λ t. is.0 t ∙ same)
    (λ e. is.1 (e ∙ sym same))) c.is_key_of.ensures
