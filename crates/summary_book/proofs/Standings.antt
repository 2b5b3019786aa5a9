-- Components by their places, and how they stand.
use Rattle.std.proofs.Common.{◌≡◌, ℕ, ◌<◌, Bool, true, false, List, length, slice_get, is_some, Some, None, Option, refl, sym, ap, ◌∙◌}
use Rattle.std.proofs.Common.{arith}
use Rattle.std.proofs.lemmas.List.{length-map}
use Rattle.shape_data.specs.declared.program.Program.{Program}
use Rattle.component_keys.specs.Components.{same_names}
use Rattle.component_keys.specs.Keys.{Component, program_components, names_of}
use Rattle.component_keys.proofs.Apart.{components_differ, names_same}
use Rattle.component_keys.proofs.Basics.{not_none, some_same, mapped_some, at_map}
use Rattle.claim_laws.specs.World.{World, Slot, Standing, settled_in, standings, standing_at, standing_named}
use Rattle.claim_laws.specs.Logs.{settled_at}
use Rattle.claim_laws.proofs.Still.{parts_all, part_at}
use Rattle.summary_book.specs.Rows.{place_named}
use Rattle.summary_book.proofs.Lists.{position_at, position_found, position_missing, find_place, find_none}

-- each component stands somehow
pub record StandsAt (world : World) (place : ℕ) (part : Component) : Type 0 where
  pub standing : Standing
  pub at : standing_at world place ≡ Some standing
  pub part_is : standing.part ≡ part

pub stands_at : (world : World) (place : ℕ) (part : Component) → slice_get (program_components world.program) place ≡ Some part →
    StandsAt world place part
stands_at world place part at =
    let one = mapped_some (λ (standing : Standing). standing.part) (standing_at world place) part
    (sym (at_map (λ (standing : Standing). standing.part) (standings world) place) ∙ ap (λ all. slice_get all place) (parts_all world)
    ∙ at) in
    record { standing = one.0; at = one.1; part_is = sym one.2 }

pub standings_length : (world : World) → length (standings world) ≡ length (program_components world.program)
standings_length world = sym (length-map (standings world) (λ (standing : Standing). standing.part)) ∙ ap length (parts_all world)

-- settled is what stands with a slot
pub settled_of : (world : World) (place : ℕ) (standing : Standing) → standing_at world place ≡ Some standing →
    settled_at world place ≡ standing.settled
settled_of world place standing at = ap settled_in at

pub settled_stands : (world : World) (place : ℕ) (slot : Slot) → settled_at world place ≡ Some slot →
    (standing : Standing) × (standing_at world place ≡ Some standing) × (standing.settled ≡ Some slot)
settled_stands world place slot e = by_standing (standing_at world place) refl e
  where
    by_standing : (o : Option Standing) → standing_at world place ≡ o → settled_in o ≡ Some slot →
        (standing : Standing) × (standing_at world place ≡ Some standing) × (standing.settled ≡ Some slot)
    by_standing None at f = not_none f
    by_standing (Some standing) at f = (standing, at, f)

pub some_settled : (o : Option Slot) → is_some o ≡ true → (slot : Slot) × (o ≡ Some slot)
some_settled None e = cc
some_settled (Some slot) e = (slot, refl)

pub not_settled : (o : Option Slot) → is_some o ≡ false → o ≡ None
not_settled None e = refl
not_settled (Some slot) e = cc

-- ---- the component of some members

-- the component of its own members stands at its place
pub own_place : (program : Program) (place : ℕ) (part : Component) (members : List (List ℕ)) →
    slice_get (program_components program) place ≡ Some part → names_of part.flows ≡ members →
    place_named (program_components program) members ≡ Some place
own_place program place part members at same =
    position_at (λ (one : Component). same_names (names_of one.flows) members) (program_components program) place part at
    ((names_same (names_of part.flows) members).1 same)
    (λ j other less there. by_test j other less there (same_names (names_of other.flows) members) refl)
  where
    by_test : (j : ℕ) (other : Component) → j < place → slice_get (program_components program) j ≡ Some other → (b : Bool) →
        same_names (names_of other.flows) members ≡ b → b ≡ false
    by_test j other less there false e = refl
    by_test j other less there true e =
        let equal : names_of other.flows ≡ names_of part.flows = (names_same (names_of other.flows) members).0 e ∙ sym same in
        let place_is : j ≡ place = components_differ program j place other part there at equal in
        absurd (omega (arith, less, place_is))

-- the component at the place has the members
pub place_is : (program : Program) (members : List (List ℕ)) (place : ℕ) → place_named (program_components program) members ≡ Some place →
    (part : Component) × (slice_get (program_components program) place ≡ Some part) × (names_of part.flows ≡ members)
place_is program members place e =
    let there = position_found (λ (one : Component). same_names (names_of one.flows) members) (program_components program) place e in
    (there.0, there.1, (names_same (names_of there.0.flows) members).0 there.2)

-- no component has the members
pub no_place : (program : Program) (members : List (List ℕ)) → place_named (program_components program) members ≡ None →
    (j : ℕ) (part : Component) → slice_get (program_components program) j ≡ Some part →
    names_of part.flows ≡ members → ⊥
no_place program members none j part at same =
    let fails =
    position_missing (λ (one : Component). same_names (names_of one.flows) members) (program_components program) none j part at in
    let passes = (names_same (names_of part.flows) members).1 same in
    let never : true ≡ false = sym passes ∙ fails in
    cc

-- how the component of some members stands
pub named_at : (world : World) (members : List (List ℕ)) (place : ℕ) → place_named (program_components world.program) members ≡ Some place →
    standing_named world members ≡ standing_at world place
named_at world members place e =
    let there = place_is world.program members place e in
    let own = stands_at world place there.0 there.1 in
    let named : names_of own.standing.part.flows ≡ members = ap (λ (part : Component). names_of part.flows) own.part_is ∙ there.2 in
    find_place (λ (standing : Standing). same_names (names_of standing.part.flows) members) (standings world) place
    (position_at (λ (standing : Standing). same_names (names_of standing.part.flows) members) (standings world) place own.standing own.at
    ((names_same (names_of own.standing.part.flows) members).1 named)
    (λ j other less at. by_test j other less at (same_names (names_of other.part.flows) members) refl))
  where
    by_test : (j : ℕ) (other : Standing) → j < place → standing_at world j ≡ Some other → (b : Bool) →
        same_names (names_of other.part.flows) members ≡ b → b ≡ false
    by_test j other less at false f = refl
    by_test j other less at true f =
        let one : place_named (program_components world.program) members ≡ Some j =
        own_place world.program j other.part members (part_at world j other at) ((names_same (names_of other.part.flows) members).0 f) in
        let same : j ≡ place = some_same (sym one ∙ e) in
        absurd (omega (arith, less, same))

pub named_none : (world : World) (members : List (List ℕ)) → place_named (program_components world.program) members ≡ None →
    standing_named world members ≡ None
named_none world members none =
    find_none (λ (standing : Standing). same_names (names_of standing.part.flows) members) (standings world)
    (λ j standing at. by_test j standing at (same_names (names_of standing.part.flows) members) refl)
  where
    by_test : (j : ℕ) (standing : Standing) → standing_at world j ≡ Some standing → (b : Bool) →
        same_names (names_of standing.part.flows) members ≡ b → b ≡ false
    by_test j standing at false f = refl
    by_test j standing at true f =
        absurd (no_place world.program members none j standing.part (part_at world j standing at)
        ((names_same (names_of standing.part.flows) members).0 f))
