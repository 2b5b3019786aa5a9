-- The number behind those ahead is the first of the name, if it has the name.
use Rattle.std.proofs.Common.{rules, ◌≡◌, ◌<◌, ◌≤◌, ◌∙◌, [], true, false, length, get_or, sym}
use Rattle.std.specs.Prelude.{nat_eq}
use Rattle.std.specs.Cmp.Lexicographic.{pointwise}
use Rattle.call_components.proofs.NameOrder.{found_first, found_none, found_other}
use Rattle.call_components.proofs.order.first_named.Goals as goal

pub returns-in_err-number : goal.returns-in_err-number
returns-in_err-number c =
    let past : length c.args.order.now ≤ c.count_ahead.result = search rules in
    c.from_residual.ensures
    ∙ sym (found_none c.args.names.now c.args.order.now c.requires c.args.name.now c.count_ahead.result c.count_ahead.ensures.parted past)

pub returns-then-eq : goal.returns-then-eq
returns-then-eq c =
    let within : c.count_ahead.result < length c.args.order.now = search rules in
    let own : c.in_ok-number.field-0.now ≡ get_or c.args.order.now c.count_ahead.result 0 = search rules in
    let named : pointwise nat_eq (get_or c.args.names.now c.in_ok-number.field-0.now []) c.args.name.now ≡ true = search rules in
    sym
    (found_first c.args.names.now c.args.order.now c.requires c.args.name.now c.count_ahead.result c.count_ahead.ensures.parted
    c.in_ok-number.field-0.now within own named)

pub returns-else-eq : goal.returns-else-eq
returns-else-eq c =
    let within : c.count_ahead.result < length c.args.order.now = search rules in
    let own : c.in_ok-number.field-0.now ≡ get_or c.args.order.now c.count_ahead.result 0 = search rules in
    let other : pointwise nat_eq (get_or c.args.names.now c.in_ok-number.field-0.now []) c.args.name.now ≡ false = search rules in
    sym
    (found_other c.args.names.now c.args.order.now c.requires c.args.name.now c.count_ahead.result c.count_ahead.ensures.parted
    c.in_ok-number.field-0.now within own other)
