use Rattle.std.proofs.Common.{◌≡◌, ◌⊎◌, ℕ, true, length}
use Rattle.component_keys.specs.Components.{holds}
use Rattle.call_components.specs.Reaching.{rows}
use Rattle.call_components.specs.Waiting.{is_listed, places_in}
use Rattle.call_components.proofs.waiting.first_ready.Given as goal

-- the classes at the places that were taken are listed
abbrev pub invariant-loop-place : goal.invariant-loop-place
invariant-loop-place l =
    record {
      own : (place : ℕ) → holds (places_in l.ready) place ≡ true → holds (places_in l.initial.ready) place ≡ true;
      kept : (place : ℕ) → holds (places_in l.initial.ready) place ≡ true
          → (is_listed l.listed (rows l.all) place ≡ true) ⊎ (holds (places_in l.ready) place ≡ true);
    }

abbrev pub decreases-loop-place : goal.decreases-loop-place
decreases-loop-place l = length (places_in l.ready)
