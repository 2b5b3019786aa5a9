use Rattle.std.proofs.Common.{◌≡◌, drop, length}
use Rattle.c_lower_emit.specs.OpenPlaces.{led_at_each}
use Rattle.c_lower_emit.proofs.draft_list.redirect_each.Given as goal

-- what is left gives the result
abbrev pub invariant-loop-place : goal.invariant-loop-place
invariant-loop-place l =
    record {
      led : led_at_each l.ways (drop l.place-index l.places) l.drafts.items ≡ led_at_each l.ways l.places l.initial.drafts.items;
      long : length l.drafts.items ≡ length l.initial.drafts.items;
    }
