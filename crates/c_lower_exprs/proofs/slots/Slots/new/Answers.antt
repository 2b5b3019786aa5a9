use Rattle.std.proofs.Common.{◌≡◌, ℕ, List, reverse, sym, ap, ◌∙◌, rules}
use Rattle.c_lower_exprs.specs.Slots.{AreLinked, slot_found, slot_among, slots_of}
use Rattle.c_lower_exprs.proofs.SlotsOfNames.{slots_none}
use Rattle.c_lower_exprs.proofs.slots.Slots.new.Goals as goal

pub invariant_of-result : goal.invariant_of-result
invariant_of-result c =
    let linked : AreLinked (reverse c.new.result.items) = search rules in
    let found : (n : List ℕ) → slot_found c.new-2.result n ≡ slot_among (reverse c.new.result.items) n = search rules in
    record { linked = linked; found = found; listed = c.new-3.ensures ∙ slots_none ∙ ap slots_of (sym c.new.ensures.items) }
