-- One entry more, up to the last.
use Rattle.std.proofs.Common.{◌≡◌, ◌+◌, ◌<◌, List, [], ◌∷◌, ◌++◌, length, take, get_or, refl, sym, ap, ◌∙◌, subst, rules}
use Rattle.std.specs.Prelude.{Err, IfOk, Ok}
use Rattle.std.proofs.lemmas.List.{take_all, take_more}
use Rattle.reporters.specs.declared.reporter.Entry.{Entry}
use Rattle.session_replies.specs.Entries.{Feeds}
use Rattle.heapan_top.proofs.FedLaws.{fed_one_more, fed_to, saved_as, unfed}
use Rattle.heapan_top.proofs.turns.reply.Goals as goal

pub loop-told-init : goal.loop-told-init
loop-told-init g c = record { fed = unfed _ _ refl; steady = refl }

pub loop-told-preserved : goal.loop-told-preserved
loop-told-preserved g c =
    let all = c.as_slice-told-items.result.now in
    let place = c.loop-told.told-index in
    let item = c.told-item.result in
    let one = c.entry.result.now in
    let here : place < length all = search rules in
    let own : item ≡ get_or all place item = search rules in
    let element : one ≡ get_or all place one = c.entry.ensures ∙ own ∙ ap (λ (k : Entry). get_or all place k) (sym c.entry.ensures) in
    let taken : take (place + 1) all ≡ take place all ++ one ∷ [] =
    take_more all place one here ∙ ap (λ (k : Entry). take place all ++ k ∷ []) (sym element) in
    record {
      fed = fed_to _ _ _ _ _ (sym taken) (fed_one_more _ _ (take place all) one _ _ _ c.loop-told.invariant.fed c.feed_all.ensures.fed);
      steady = c.feed_all.ensures.steady ∙ c.loop-told.invariant.steady;
    }

pub returns-after-loop-told-clause-feeds : goal.returns-after-loop-told-clause-feeds
returns-after-loop-told-clause-feeds g c =
    let all = c.as_slice-told-items.result.now in
    let whole : take c.loop-told.told-index all ≡ all = search (take_all, rules) in
    let same : all ≡ c.in-Ok.entries.items = search rules in
    let feeds : Feeds c.args.session.now c.args.asked c.in-Ok.entries.items =
    subst (λ r. IfOk r (λ entries. Feeds c.args.session.now c.args.asked entries.items)) c.in-Ok.is c.write_reply.ensures.entries in (
      (
        all,
        subst (λ (fed : List Entry). Feeds c.args.session.now c.args.asked fed)
            (sym same) feeds,
        fed_to _ _ _ _ _ whole c.loop-told.invariant.fed,
      ),
      saved_as c.args.session.now c.args.asked _ _ c.write_reply.result (Ok c.in-Ok.entries) c.in-Ok.is c.write_reply.ensures.saved,
    )

pub returns-after-loop-told-clause-steady : goal.returns-after-loop-told-clause-steady
returns-after-loop-told-clause-steady g c = c.loop-told.invariant.steady

pub returns-in-Err-clause-feeds : goal.returns-in-Err-clause-feeds
returns-in-Err-clause-feeds g c = (
  unfed _ _ refl,
  saved_as c.args.session.now c.args.asked _ _ c.write_reply.result
      (Err c.in-Err.status) c.in-Err.is c.write_reply.ensures.saved,
)
