-- The order has each number once.
use Rattle.std.proofs.Common.{◌≢◌, ◌<◌, ◌∙◌, All, AllPairs, ℕ, length, sym, ap, subst}
use Rattle.call_components.proofs.Naming.{by_name_apart, by_name_below}
use Rattle.call_components.proofs.listing.ordered_components.Goals as goal

pub classes_of_kinds-requires-clause-below : goal.classes_of_kinds-requires-clause-below
classes_of_kinds-requires-clause-below c =
    subst (All (λ kind. kind < c.in_ok-kinds.count)) (sym c.deref.ensures.value) c.in_ok-kinds.ensures.below

pub classes_of_kinds-requires-clause-order : goal.classes_of_kinds-requires-clause-order
classes_of_kinds-requires-clause-order c =
    subst (λ n. All (λ number. number < n) c.args.order.now)
    (c.requires.graph.lengths ∙ sym c.in_ok-kinds.ensures.kinds.lengths ∙ ap length (sym c.deref.ensures.value))
    (subst (All (λ number. number < length c.args.names.now)) (sym c.requires.order)
    (by_name_below c.args.names.now (length c.args.names.now)))

pub classes_of_kinds-requires-clause-apart : goal.classes_of_kinds-requires-clause-apart
classes_of_kinds-requires-clause-apart c =
    subst (AllPairs (λ (one other : ℕ). one ≢ other)) (sym c.requires.order) (by_name_apart c.args.names.now (length c.args.names.now))
