-- At first each class is still to be looked at.
use Rattle.std.proofs.Common.{◌≡◌, ◌<◌, ◌∙◌, [], true, All, length, map, refl, sym, ap, subst, arith}
use Rattle.std.proofs.lemmas.List.{length-map, length-replicate}
use Rattle.component_keys.specs.Components.{holds, calls_of}
use Rattle.call_components.specs.Reaching.{rows}
use Rattle.call_components.specs.Sorting.{below}
use Rattle.call_components.specs.Waiting.{IsBounded, outside_of, places_in}
use Rattle.call_components.proofs.Held.{none_held}
use Rattle.call_components.proofs.Looked.{all_places_below, first_rows, no_waits, outs_bounded}
use Rattle.call_components.proofs.waiting.waiting_for.Goals as goal

pub look_at_each-requires-clause-bounded : goal.look_at_each-requires-clause-bounded
look_at_each-requires-clause-bounded c =
    let same : length (rows c.args.calls.now) ≡ length c.args.calls.now = length-map c.args.calls.now (λ row. row.items) in
    let numbers : length c.in_ok-empty_rows.field-0.items ≡ length c.args.calls.now =
    sym (length-map c.in_ok-empty_rows.field-0.items (λ row. row.items)) ∙ ap length c.in_ok-empty_rows.ensures
    ∙ length-replicate (length c.args.calls.now) [] in
    record {
      classes_are = refl;
      numbers_are = refl;
      needs = λ place number h.
          let less : number < length (rows c.args.calls.now) =
          outs_bounded c.args.kinds.now (rows c.args.calls.now) c.requires (rows c.args.all.now) place number
          (subst (λ l. holds (calls_of l place) number ≡ true) c.in_ok-all_outside.ensures h) in
          omega (arith, less, same, numbers);
      waits =
          λ number place h. no_waits (length c.args.calls.now) number place _
          (subst (λ l. holds (calls_of l number) place ≡ true) c.in_ok-empty_rows.ensures h);
      ready = λ place h. none_held place (subst (λ l. holds l place ≡ true) c.new.ensures h);
    }

pub look_at_each-requires-clause-places : goal.look_at_each-requires-clause-places
look_at_each-requires-clause-places c =
    let places : c.deref.result.now ≡ below (length c.args.all.now) = c.deref.ensures.value ∙ c.in_ok-places.ensures in
    let classes : length c.in_ok-all_outside.field-0.items ≡ length c.args.all.now =
    sym (length-map c.in_ok-all_outside.field-0.items (λ row. row.items)) ∙ ap length c.in_ok-all_outside.ensures
    ∙ length-map (rows c.args.all.now) (outside_of c.args.kinds.now (rows c.args.calls.now)) ∙
    length-map c.args.all.now (λ row. row.items) in
    subst (λ n. All (λ place. place < n) c.deref.result.now) (sym classes)
    (subst (All (λ place. place < length c.args.all.now)) (sym places) (all_places_below (length c.args.all.now)))

pub returns-clause-bounded : goal.returns-clause-bounded
returns-clause-bounded c =
    let numbers : length c.in_ok-empty_rows.field-0.items ≡ length c.args.calls.now =
    sym (length-map c.in_ok-empty_rows.field-0.items (λ row. row.items)) ∙ ap length c.in_ok-empty_rows.ensures
    ∙ length-replicate (length c.args.calls.now) [] in
    let classes : length c.in_ok-all_outside.field-0.items ≡ length c.args.all.now =
    sym (length-map c.in_ok-all_outside.field-0.items (λ row. row.items)) ∙ ap length c.in_ok-all_outside.ensures
    ∙ length-map (rows c.args.all.now) (outside_of c.args.kinds.now (rows c.args.calls.now)) ∙
    length-map c.args.all.now (λ row. row.items) in
    subst (λ n. IsBounded n (length c.args.calls.now) c.look_at_each.new.waiting) classes
    (subst (λ n. IsBounded
    (length c.in_ok-all_outside.field-0.items) n c.look_at_each.new.waiting) numbers c.in_ok-look_at_each.ensures.bounded)

pub returns-clause-waiting : goal.returns-clause-waiting
returns-clause-waiting c =
    let places : c.deref.result.now ≡ below (length (rows c.args.all.now)) =
    c.deref.ensures.value ∙ c.in_ok-places.ensures ∙ ap below (sym (length-map c.args.all.now (λ row. row.items))) in
    c.in_ok-look_at_each.ensures.looked (rows c.args.all.now)
    (map (outside_of c.args.kinds.now (rows c.args.calls.now)) (rows c.args.all.now)) []
    (first_rows (rows c.args.all.now)
    (map (outside_of c.args.kinds.now (rows c.args.calls.now)) (rows c.args.all.now)) c.args.listed.now c.deref.result.now
    (rows c.in_ok-all_outside.field-0.items) (rows c.in_ok-empty_rows.field-0.items) (places_in c.new.result)
    (length c.args.calls.now) places c.in_ok-all_outside.ensures c.in_ok-empty_rows.ensures c.new.ensures)
