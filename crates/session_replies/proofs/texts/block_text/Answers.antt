-- The block is that of the procedure of the name.
use Rattle.std.proofs.Common.{◌≡◌, ◌∙◌, ap, get_or, sym}
use Rattle.std.specs.List.{position}
use Rattle.std.proofs.lemmas.Result.{IfOk-weaker}
use Rattle.shape_data.specs.declared.program.Proc.{Proc}
use Rattle.shape_data.specs.declared.program.Program.{Program}
use Rattle.report_text.specs.Report.{block_text}
use Rattle.session_replies.specs.Texts.{block_named, is_named}
use Rattle.session_replies.proofs.Replying.{block_is}
use Rattle.session_replies.proofs.texts.block_text.Goals as goal

pub returns-clause-text : goal.returns-clause-text
returns-clause-text g c =
    let program : Program = c.args.program.now.value in
    let name = c.args.name.now in
    let proc : Proc = c.index-deref-place.result in
    let summary = c.in_ok-summary.summary in
    IfOk-weaker c.block.result (λ text. text.items ≡ block_text c.as_slice.result.now proc summary)
    (λ text. text.items ≡ block_named c.args.loaded.now name program)
    (λ text says. says
    ∙ ap (λ structs. block_text structs proc summary) (c.as_slice.ensures ∙ ap (λ (p : Program). p.structs) c.deref-4.ensures) ∙
    block_is c.args.loaded.now program name c.in-Some.place proc summary
    (ap (λ (p : Program). position (is_named name) p.procs) (sym c.deref.ensures) ∙ sym c.place_of.ensures ∙ c.in-Some.is)
    (c.index-deref-place.is
    ∙ ap (λ procs. get_or procs c.in-Some.place proc) (c.deref-3.ensures ∙ ap (λ (p : Program). p.procs) c.deref-2.ensures))
    c.in_ok-summary.ensures.value)
    c.block.ensures
