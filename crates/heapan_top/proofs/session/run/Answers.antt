-- What was read is answered in full where nothing failed.
use Rattle.std.proofs.Common.{◌≡◌, ◌∙◌, Ok, Some, ap, inr, refl, subst}
use Rattle.std.specs.Prelude.{IfSome}
use Rattle.heapan_top.specs.Headline.{Completes, store_named, word_bytes}
use Rattle.heapan_top.specs.Parts.{path_bytes}
use Rattle.heapan_top.specs.Stores.{store_told}
use Rattle.heapan_top.proofs.Completing.{completes_left}
use Rattle.heapan_top.proofs.Fronts.{counts_unopened, still_unopened}
use Rattle.heapan_top.proofs.StoreAskedFor.{are_right, named_is}
use Rattle.heapan_top.proofs.session.run.Goals as goal

pub returns-in-Ok-Some-clause-complete : goal.returns-in-Ok-Some-clause-complete
returns-in-Ok-Some-clause-complete g c no_read no_write no_fault =
    let words = word_bytes c.args.words.now in
    let is : c.asked_by.result ≡ Ok (Some c.in-Ok-Some.asked) = c.in-Ok-Some.is ∙ ap Ok c.in-Ok-Some.field-0-is in
    subst
    (λ path. IfSome (store_told (g.P.Keeper.kept c.args.keeper.now) path)
    (λ store. IfSome (g.S.Source.left c.args.source.now)
    (λ stream. Completes (word_bytes c.args.words.now) store stream c.answer_stream.result.status)))
    (named_is words c.asked_by.result c.in-Ok-Some.asked is c.asked_by.ensures.asked)
    (completes_left c.one_reply.ensures c.one_opening.ensures.one (g.K.Sink.held c.args.sink.now)
    (g.K.Sink.held c.answer_stream.new.sink) words (are_right words c.asked_by.result c.in-Ok-Some.asked is c.asked_by.ensures.asked)
    (store_told (g.P.Keeper.kept c.args.keeper.now) (path_bytes c.in-Ok-Some.asked.store))
    (g.S.Source.left c.args.source.now) c.answer_stream.result.status c.answer_stream.ensures.answers
    (λ same. no_read (c.answer_stream.ensures.read_fault same))
    (λ same. no_write (c.answer_stream.ensures.write_fault same))
    (λ same. no_fault (c.answer_stream.ensures.store_fault same)))

pub returns-in-Err-clause-counted : goal.returns-in-Err-clause-counted
returns-in-Err-clause-counted g c right =
    counts_unopened c.one_opening.ensures.one c.one_opening.ensures.some
    (store_told (g.P.Keeper.kept c.args.keeper.now) (store_named (word_bytes c.args.words.now))) (g.S.Source.left c.args.source.now)
    (g.K.Sink.held c.args.sink.now) c.nothing_done-in-Err.result.solves

pub returns-in-Err-clause-fed : goal.returns-in-Err-clause-fed
returns-in-Err-clause-fed g c right =
    still_unopened c.one_opening.ensures.one c.one_opening.ensures.some
    (store_told (g.P.Keeper.kept c.args.keeper.now) (store_named (word_bytes c.args.words.now))) (g.S.Source.left c.args.source.now)
    (g.K.Sink.held c.args.sink.now)
    (λ one. (goal.Reporter-dyn g
    (one.vtable, one.value)).known one.value) c.args.reporters.items c.nothing_done-in-Err.result.reporters.items _ _
    c.nothing_done-in-Err.result.status
    (ap (λ all. all.items) c.nothing_done-in-Err.ensures.reporters) refl (inr (inr c.nothing_done-in-Err.ensures.status))
