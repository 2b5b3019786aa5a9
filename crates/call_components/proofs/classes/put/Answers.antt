-- A class has one number more, or is begun.
use Rattle.std.proofs.Common.{rules, ◌≡◌, ◌<◌, ◌++◌, ◌∷◌, ◌∙◌, [], None, Some, length, get_or, set, sym, ap}
use Rattle.std.specs.Prelude.{slice_index_or}
use Rattle.std.proofs.lemmas.List.{get_or_default, map-set, map_push}
use Rattle.call_components.specs.Reaching.{rows}
use Rattle.call_components.specs.Tables.{put_list, put_slot}
use Rattle.call_components.proofs.Walk.{row_of}
use Rattle.call_components.proofs.classes.put.Goals as goal

pub returns-in_ok-push-in-Some-clause-lists : goal.returns-in_ok-push-in-Some-clause-lists
returns-in_ok-push-in-Some-clause-lists c =
    let slot : get_or c.args.slots.now.items c.args.kind None ≡ Some c.in-Some.place =
    get_or_default c.args.slots.now.items c.args.kind None c.index.result.now c.requires.kind ∙ sym c.index.ensures ∙ c.in-Some.is in
    let lt : c.in-Some.place < length c.args.classes.now.items = c.requires.places c.in-Some.place slot in
    let row : c.push.new.self.items ≡ slice_index_or (rows c.args.classes.now.items) c.in-Some.place [] ++ c.args.number ∷ [] =
    c.in_ok-push-in-Some.ensures.items
    ∙ ap (λ l. l ++ c.args.number ∷ [])
    (sym (row_of c.args.classes.now.items c.in-Some.place c.index_mut.result.now lt c.index_mut.ensures.value)) in
    map-set (λ row. row.items) c.args.classes.now.items c.in-Some.place c.push.new.self
    ∙ ap (set (rows c.args.classes.now.items) c.in-Some.place) row ∙
    sym (ap (λ o. put_list o c.args.number (rows c.args.classes.now.items)) slot)

pub returns-in_ok-push-in-None-clause-lists : goal.returns-in_ok-push-in-None-clause-lists
returns-in_ok-push-in-None-clause-lists c =
    let slot : get_or c.args.slots.now.items c.args.kind None ≡ None =
    get_or_default c.args.slots.now.items c.args.kind None c.index.result.now c.requires.kind ∙ sym c.index.ensures ∙ c.in-None.is in
    ap rows c.in_ok-push-in-None.ensures.items ∙ map_push (λ row. row.items) c.args.classes.now.items c.in_ok-from_slice-in-None.field-0 ∙
    ap (λ l. rows c.args.classes.now.items ++ l ∷ []) c.in_ok-from_slice-in-None.ensures.items
    ∙ sym (ap (λ o. put_list o c.args.number (rows c.args.classes.now.items)) slot)

pub returns-in_ok-push-in-Some-clause-slots : goal.returns-in_ok-push-in-Some-clause-slots
returns-in_ok-push-in-Some-clause-slots c =
    let slot : get_or c.args.slots.now.items c.args.kind None ≡ Some c.in-Some.place =
    get_or_default c.args.slots.now.items c.args.kind None c.index.result.now c.requires.kind ∙ sym c.index.ensures ∙ c.in-Some.is in
    sym (ap (λ o. put_slot o c.args.kind (length c.args.classes.now.items) c.args.slots.now.items) slot)

pub returns-in_ok-push-in-None-clause-slots : goal.returns-in_ok-push-in-None-clause-slots
returns-in_ok-push-in-None-clause-slots c =
    let slot : get_or c.args.slots.now.items c.args.kind None ≡ None =
    get_or_default c.args.slots.now.items c.args.kind None c.index.result.now c.requires.kind ∙ sym c.index.ensures ∙ c.in-None.is in
    let count : c.len-place.result ≡ length c.args.classes.now.items = search rules in
    ap (λ n. set c.args.slots.now.items c.args.kind (Some n)) count
    ∙ sym (ap (λ o. put_slot o c.args.kind (length c.args.classes.now.items) c.args.slots.now.items) slot)
