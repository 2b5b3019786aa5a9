-- The parts fit as `Components` says.
use Rattle.std.proofs.Common.{◌≡◌, ◌<◌, ◌≤◌, ◌∙◌, ℕ, All, AllPairs, length, map, sym, ap, subst, arith}
use Rattle.std.specs.Prelude.{◌≢◌}
use Rattle.std.proofs.lemmas.List.{length-map}
use Rattle.component_keys.specs.Components.{by_name}
use Rattle.call_components.specs.Reaching.{rows}
use Rattle.call_components.proofs.Naming.{by_name_apart, by_name_below}
use Rattle.composed_keys.specs.Outside.{ArePlaced}
use Rattle.composed_keys.specs.Programs.{ArePlaces}
use Rattle.composed_keys.specs.Rows.{AreRowsOf, outer_in}
use Rattle.composed_keys.proofs.Components.{are_placed, both_ok, classes_below, few}
use Rattle.composed_keys.proofs.programs.components_in.Goals as goal

pub places_of-requires-clause-few : goal.places_of-requires-clause-few
places_of-requires-clause-few c =
    let same : length c.deref.result.now ≡ length c.in_ok-all.all.items = ap length c.deref.ensures.value in
    let le : length c.in_ok-all.all.items ≤ length c.args.names.now =
    few c.args.names.now (rows c.args.calls.now) c.in_ok-all.all.items c.in_ok-all.ensures in
    let small : length c.args.names.now < 4294967296 = c.requires.small in
    omega (arith, same, le, small)

pub places_of-requires-clause-within : goal.places_of-requires-clause-within
places_of-requires-clause-within c =
    subst (All (λ class. All (λ number. number < length c.args.calls.now) class.items)) (sym c.deref.ensures.value)
    (classes_below c.args.names.now (rows c.args.calls.now) c.requires.graph
    (length c.args.calls.now) c.in_ok-all.all.items c.in_ok-all.ensures
    (c.requires.graph.lengths ∙ length-map c.args.calls.now (λ row. row.items)))

pub rows_of-requires-clause-small : goal.rows_of-requires-clause-small
rows_of-requires-clause-small c =
    let lengths : length c.args.names.now ≡ length (rows c.args.calls.now) = c.requires.graph.lengths in
    let same : length (rows c.args.calls.now) ≡ length c.args.calls.now = length-map c.args.calls.now (λ row. row.items) in
    let small : length c.args.names.now < 4294967296 = c.requires.small in
    omega (arith, lengths, same, small)

pub rows_of-requires-clause-defined : goal.rows_of-requires-clause-defined
rows_of-requires-clause-defined c = c.requires.graph.defined

pub rows_of-requires-clause-places : goal.rows_of-requires-clause-places
rows_of-requires-clause-places c =
    let same : length (rows c.args.calls.now) ≡ length c.args.calls.now = length-map c.args.calls.now (λ row. row.items) in
    let placing : ArePlaces (length c.args.calls.now) (rows c.in_ok-all.all.items) 0 c.deref-2.result.now =
    subst (λ l. ArePlaces (length c.args.calls.now) (rows l) 0 c.deref-2.result.now) c.deref.ensures.value
    (subst (ArePlaces (length c.args.calls.now) (rows c.deref.result.now) 0) (sym c.deref-2.ensures.value) c.in_ok-places.ensures) in
    subst (λ n. ArePlaced (rows c.in_ok-all.all.items) n c.deref-2.result.now) same
    (are_placed c.args.names.now (rows c.args.calls.now)
    (rows c.in_ok-all.all.items) c.deref-2.result.now c.requires.graph c.in_ok-all.ensures
    (subst (λ n. ArePlaces n (rows c.in_ok-all.all.items) 0 c.deref-2.result.now) (sym same) placing))

pub rows_of-requires-clause-order : goal.rows_of-requires-clause-order
rows_of-requires-clause-order c =
    subst (λ n. All (λ number. number < n) c.args.order.now) (c.requires.graph.lengths ∙ length-map c.args.calls.now (λ row. row.items))
    (subst (All (λ number. number < length c.args.names.now)) (sym c.requires.order)
    (by_name_below c.args.names.now (length c.args.names.now)))

pub rows_of-requires-clause-apart : goal.rows_of-requires-clause-apart
rows_of-requires-clause-apart c =
    subst (AllPairs (λ (one other : ℕ). one ≢ other)) (sym c.requires.order) (by_name_apart c.args.names.now (length c.args.names.now))

pub returns : goal.returns
returns c =
    let same : length (rows c.args.calls.now) ≡ length c.args.calls.now = length-map c.args.calls.now (λ row. row.items) in
    let placing : ArePlaces (length c.args.calls.now) (rows c.in_ok-all.all.items) 0 c.deref-2.result.now =
    subst (λ l. ArePlaces (length c.args.calls.now) (rows l) 0 c.deref-2.result.now) c.deref.ensures.value
    (subst (ArePlaces (length c.args.calls.now) (rows c.deref.result.now) 0) (sym c.deref-2.ensures.value) c.in_ok-places.ensures) in
    both_ok c.rows_of.result _ _ (λ made. AreRowsOf c.args.names.now (rows c.args.calls.now) made.items)
    (λ made members outer. record {
      members = members ∙ c.in_ok-all.ensures;
      places = c.deref-2.result.now;
      placing =
          subst (λ l. ArePlaces (length (rows c.args.calls.now)) l 0 c.deref-2.result.now) c.in_ok-all.ensures
          (subst (λ n. ArePlaces n (rows c.in_ok-all.all.items) 0 c.deref-2.result.now) (sym same) placing);
      outer = outer ∙ ap (λ o. map (outer_in (rows c.args.calls.now) c.deref-2.result.now o) (rows c.in_ok-all.all.items)) c.requires.order
          ∙
          ap (map (outer_in (rows c.args.calls.now) c.deref-2.result.now
          (by_name c.args.names.now (length c.args.names.now)))) c.in_ok-all.ensures;
    })
    c.rows_of.ensures.members c.rows_of.ensures.outer
