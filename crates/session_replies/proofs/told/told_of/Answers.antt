-- One entry more.
use Rattle.std.proofs.Common.{◌≡◌, ◌<◌, [], ◌∷◌, ◌++◌, Some, length, get_or, sym, ap, ◌∙◌, rules}
use Rattle.bottom_up.specs.declared.places.Place.{Place}
use Rattle.bottom_up.specs.Placed.{answers_kept, summary_in}
use Rattle.session_replies.proofs.Entries.{told_more}
use Rattle.session_replies.proofs.told.told_of.Goals as goal

pub loop-number-preserved : goal.loop-number-preserved
loop-number-preserved c =
    let places = c.args.places.now in
    let number = c.loop-number.number in
    let place : Place = record { component = 0; member = 0 } in
    let entry = c.in_ok-of.field-0 in
    let here : number < length places = search rules in
    let put : c.push.new.self.items ≡ c.loop-number.all.items ++ entry ∷ [] = search rules in
    let told = c.in_ok-of.ensures in
    let at : summary_in (answers_kept c.args.kept.now) (get_or places number place) ≡ Some entry.summary =
    sym c.answer_at-answer.ensures ∙ told.0 in
    put ∙ ap (λ all. all ++ entry ∷ []) c.loop-number.invariant ∙
    told_more (summary_in
    (answers_kept c.args.kept.now)) c.args.procs.now places number c.index-procs-number.result place entry c.requires.one_each
    c.requires.there here c.index-procs-number.is at told.1
