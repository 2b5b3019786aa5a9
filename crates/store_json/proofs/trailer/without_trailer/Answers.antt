use Rattle.std.proofs.Common.{sym, ◌∙◌, true≢false}
use Rattle.std.proofs.lemmas.Slice.Eq.{bytes_eq-Decides}
use Rattle.store_json.proofs.TrailerLemmas.{no_text_found}
use Rattle.store_json.proofs.trailer.without_trailer.Goals as goal

pub returns : goal.returns
returns c =
    no_text_found c.args.bytes.now c.split_at.result.0.now c.split_at.result.1.now c.split_at.ensures.front c.split_at.ensures.back
    (λ same. true≢false (sym ((bytes_eq-Decides c.split_at.result.1.now c.as_slice.result.now).1
    (same ∙ sym c.in_ok-right.ensures ∙ sym c.as_slice.ensures.value)) ∙ sym c.eq.ensures ∙ c.if-eq.false))
