use Rattle.std.proofs.Common.{ap, map, sym, ◌∙◌}
use Rattle.std.proofs.lemmas.List.{take_all}
use Rattle.serde_json.proofs.Views.{view-Array}
use Rattle.shape_data.specs.declared.answer.Kept.{Kept}
use Rattle.flow_json.specs.Forms.{tuple}
use Rattle.claim_core.specs.Views.{solution_of}
use Rattle.store_json.specs.Texts.{entry_data}
use Rattle.store_json.proofs.EntryLemmas.{each_written}
use Rattle.store_json.proofs.writing.entries_value.Goals as goal

pub returns : goal.returns
returns c =
    let l = c.loop-entry in
    view-Array l.values ∙ ap tuple (l.invariant ∙ ap (map (λ (kept : Kept). entry_data (solution_of kept)))
    (take_all l.entry-index c.args.entries.now c.loop-entry-test.false) ∙ sym (each_written c.args.entries.now))
