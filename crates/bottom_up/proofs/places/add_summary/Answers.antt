-- Its name is new, or has the place of an earlier summary.
use Rattle.std.proofs.Common.{◌≡◌, ◌∙◌, true, false, cond, Some, is_some, option_map, rules, sym, ap, bytes_eq}
use Rattle.std.proofs.lemmas.Map.Text.{hash_map_updates_str}
use Rattle.bottom_up.specs.Placed.{first_place, summary_in}
use Rattle.bottom_up.proofs.FirstSummaries.{first_put, first_stays}
use Rattle.bottom_up.proofs.places.add_summary.Goals as goal

pub returns-in_ok-insert : goal.returns-in_ok-insert
returns-in_ok-insert c = λ answers before is are n.
    let bytes = c.as_bytes-name.result.now in
    let none : is_some (first_place c.args.firsts.now bytes) ≡ false = search rules in
    ap (option_map (summary_in answers))
    (hash_map_updates_str bytes c.args.firsts.now c.insert.new.self (Some c.args.place) c.in_ok-insert.ensures.updates n ∙
    ap (λ bs. cond (bytes_eq bs n) (Some c.args.place) (first_place c.args.firsts.now n)) c.as_bytes-name.ensures.value) ∙
    first_put answers before c.args.summary.now (first_place c.args.firsts.now) are n c.args.place is
    (ap (λ bs. is_some (first_place c.args.firsts.now bs)) (sym c.as_bytes-name.ensures.value) ∙ none)

pub returns-else-not-contains_key : goal.returns-else-not-contains_key
returns-else-not-contains_key c = λ answers before is are n.
    let bytes = c.as_bytes-name.result.now in
    let some : is_some (first_place c.args.firsts.now bytes) ≡ true = search rules in
    first_stays answers before c.args.summary.now (first_place c.args.firsts.now) are n
    (ap (λ bs. is_some (first_place c.args.firsts.now bs)) (sym c.as_bytes-name.ensures.value) ∙ some)
