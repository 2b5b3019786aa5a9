-- What is sorted is the order of the definition.
use Rattle.std.proofs.Common.{rules, length, ap, ◌∙◌, ◌≡◌}
use Rattle.std.proofs.lemmas.Fn.{always_returns_same}
use Rattle.std.specs.Ordering.{is_lt}
use Rattle.call_components.specs.Sorting.{name_rank, below}
use Rattle.call_components.proofs.Sorting.{ranks_numbers, sorted_is}
use Rattle.call_components.proofs.order.in_order.Goals as goal

pub returns : goal.returns
returns c =
    let all : c.loop-number.number ≡ length c.args.names.now = search rules in
    sorted_is c.args.names.now (length c.args.names.now) c.loop-number.order.items _
    (c.loop-number.invariant ∙ ap below all) c.sort_unstable_by.ensures.permutation
    (c.sort_unstable_by.ensures.sorted (λ one other. is_lt (name_rank c.args.names.now one other)) (ranks_numbers c.args.names.now)
    (always_returns_same _ _ _ (λ a r f called. search rules)))
