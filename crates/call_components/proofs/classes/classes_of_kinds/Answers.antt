-- One number more.
use Rattle.std.proofs.Common.{rules, ◌≡◌, ◌<◌, ◌∙◌, ℕ, [], None, length, get_or, replicate, take, sym, ap, subst, arith}
use Rattle.std.specs.Prelude.{slice_index_or}
use Rattle.std.proofs.lemmas.List.{length-map, length-replicate, take_all}
use Rattle.call_components.specs.Reaching.{rows}
use Rattle.call_components.specs.Tables.{classes_in, put_list, put_slot}
use Rattle.call_components.proofs.Grouped.{IsGrouped, first_group, more_grouped, put_slot_length, slots_within}
use Rattle.call_components.proofs.classes.classes_of_kinds.Goals as goal

pub loop-number-init : goal.loop-number-init
loop-number-init c =
    let is : c.in_ok-slots.slots.items ≡ replicate c.args.count None = search rules in
    record {
      grouped =
          subst (λ ls. IsGrouped c.args.kinds.now [] ls c.in_ok-slots.slots.items) (sym (ap rows c.new-classes.ensures.items))
          (first_group c.args.kinds.now c.args.count c.in_ok-slots.slots.items is);
      lengths = ap length is ∙ length-replicate c.args.count None;
    }

pub put-requires-clause-kind : goal.put-requires-clause-kind
put-requires-clause-kind c =
    let is : c.kind_of.result ≡ get_or c.args.kinds.now (get_or c.args.order.now c.loop-number.number-index 0) 0 = c.kind_of.ensures in
    let below : get_or c.args.kinds.now (get_or c.args.order.now c.loop-number.number-index 0) 0 < c.args.count =
    c.requires.below (get_or c.args.order.now c.loop-number.number-index 0) 0
    (c.requires.order c.loop-number.number-index 0 c.loop-number-test.true) in
    let lengths : length c.loop-number.slots.items ≡ c.args.count = c.loop-number.invariant.lengths in
    omega (arith, is, below, lengths)

pub put-requires-clause-places : goal.put-requires-clause-places
put-requires-clause-places c = λ place at.
    let lt : place
    < length (rows c.loop-number.classes.items) =
    slots_within c.args.kinds.now (take c.loop-number.number-index c.args.order.now)
    (rows c.loop-number.classes.items) c.loop-number.slots.items c.loop-number.invariant.grouped c.kind_of.result place at in
    let same : length (rows c.loop-number.classes.items) ≡ length c.loop-number.classes.items =
    length-map c.loop-number.classes.items (λ row. row.items) in
    omega (arith, lt, same)

pub loop-number-preserved : goal.loop-number-preserved
loop-number-preserved c =
    let number : ℕ = get_or c.args.order.now c.loop-number.number-index 0 in
    let below : get_or c.args.kinds.now number 0 < c.args.count =
    c.requires.below number 0 (c.requires.order c.loop-number.number-index 0 c.loop-number-test.true) in
    let lengths : length c.loop-number.slots.items ≡ c.args.count = c.loop-number.invariant.lengths in
    let lists : rows c.put.new.classes.items
    ≡ put_list (slice_index_or c.loop-number.slots.items (get_or c.args.kinds.now number 0) None) number
    (rows c.loop-number.classes.items) =
    subst (λ k. rows c.put.new.classes.items
    ≡ put_list (slice_index_or c.loop-number.slots.items k None) number
    (rows c.loop-number.classes.items)) c.kind_of.ensures c.in_ok-put.ensures.lists in
    let slots : c.put.new.slots.items
    ≡ put_slot (slice_index_or c.loop-number.slots.items (get_or c.args.kinds.now number 0) None) (get_or c.args.kinds.now number 0)
    (length (rows c.loop-number.classes.items)) c.loop-number.slots.items =
    subst (λ n. c.put.new.slots.items
    ≡ put_slot (slice_index_or c.loop-number.slots.items (get_or c.args.kinds.now number 0) None)
    (get_or c.args.kinds.now number 0) n c.loop-number.slots.items)
    (sym (length-map c.loop-number.classes.items (λ row. row.items)))
    (subst (λ k. c.put.new.slots.items
    ≡ put_slot (slice_index_or c.loop-number.slots.items k None) k
    (length c.loop-number.classes.items) c.loop-number.slots.items) c.kind_of.ensures c.in_ok-put.ensures.slots) in
    record {
      grouped =
          more_grouped c.args.kinds.now c.args.order.now c.loop-number.number-index (rows c.loop-number.classes.items)
          (rows c.put.new.classes.items) c.loop-number.slots.items c.put.new.slots.items c.loop-number.invariant.grouped
          c.requires.apart c.loop-number-test.true (omega (arith, below, lengths)) lists slots;
      lengths = ap length slots
          ∙ put_slot_length (slice_index_or c.loop-number.slots.items (get_or c.args.kinds.now number 0) None)
          (get_or c.args.kinds.now number 0) (length (rows c.loop-number.classes.items)) c.loop-number.slots.items ∙ lengths;
    }

pub returns : goal.returns
returns c =
    subst (λ l. rows c.loop-number.classes.items ≡ classes_in c.args.kinds.now l)
    (take_all c.loop-number.number-index c.args.order.now c.loop-number-test.false) c.loop-number.invariant.grouped.lists_are
