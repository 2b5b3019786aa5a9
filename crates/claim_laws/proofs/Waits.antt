-- Each unsettled component is out or stands above one that is out, where none can be claimed.
use Rattle.std.proofs.Common.{◌≡◌, ℕ, zero, suc, ◌<◌, Bool, true, List, [], ◌∷◌, length, slice_get, get_or, Some, None, Option, refl, sym}
use Rattle.std.proofs.Common.{ap, ◌∙◌, ⊎_elim, ◌⊎◌, inl, inr, option_map, arith}
use Rattle.std.proofs.lemmas.Option.{slice_get_within, slice_get-get_or}
use Rattle.shape_data.specs.declared.answer.Callee.{Callee}
use Rattle.shape_data.specs.declared.answer.Key.{Key}
use Rattle.component_keys.specs.Keys.{Outer, key_over}
use Rattle.claim_laws.specs.World.{World, Slot, Standing, both, given_by, settled_in, given, standings, standing_at}
use Rattle.claim_laws.specs.Waits.{IsUnsettled, IsOut, IsAboveOut, IsAim, WaitsOnOut}
use Rattle.claim_laws.specs.Waits.IsAboveOut.{Itself, Above}
use Rattle.claim_laws.proofs.Still.{part_at}
use Rattle.component_keys.proofs.Ordered.{callees_before}
use Rattle.claim_laws.proofs.Defined.{standings_as_defined}

-- a callee whose component is not settled
abbrev Lacks : List Standing → List Outer → Type 0
Lacks all outer = (k : ℕ) × (one : Outer) × (slice_get outer k ≡ Some one) × (settled_in (slice_get all one.component) ≡ None)

given_or_lacks : (all : List Standing) (outer : List Outer) → ((callees : List Callee) × (given all outer ≡ Some callees)) ⊎ Lacks all outer
given_or_lacks all [] = inl ([], refl)
given_or_lacks all (first ∷ others) = by_settled (settled_in (slice_get all first.component)) refl (given_or_lacks all others)
  where
    by_settled : (o : Option Slot) → settled_in (slice_get all first.component) ≡ o →
        ((callees : List Callee) × (given all others ≡ Some callees)) ⊎ Lacks all others →
        ((callees : List Callee) × (both (given_by first o) (given all others) ≡ Some callees)) ⊎ Lacks all (first ∷ others)
    by_settled None e rest = inr (0, first, refl, e)
    by_settled (Some slot) e rest =
        ⊎_elim (λ known. inl (_, ap (both (given_by first (Some slot))) known.1))
        (λ lacks. inr (suc lacks.0, lacks.1, lacks.2, lacks.3)) rest

-- what has a place is present
present_at : (world : World) (i : ℕ) → i < length (standings world) → settled_in (standing_at world i) ≡ None → IsUnsettled world i
present_at world i lt none =
    let d : Standing = record { part = record { flows = []; outer = [] }; due = None; settled = None } in
    let at = slice_get-get_or (standings world) i d lt in
    record { standing = get_or (standings world) i d; at = at; settled = sym (ap settled_in at) ∙ none }

waits_below : (bound : ℕ) (world : World) (aim : ℕ → Bool) → IsAim world aim →
    ((component : ℕ) (standing : Standing) (key : Key) → aim component ≡ true → standing_at world component ≡ Some standing →
    standing.settled ≡ None → standing.due ≡ Some key → IsOut world component) →
    (component : ℕ) → component < bound → aim component ≡ true → IsUnsettled world component → IsAboveOut world component
waits_below zero world aim is_aim out component lt aimed unsettled = absurd (omega (arith, lt))
waits_below (suc bound) world aim is_aim out component lt aimed unsettled =
    by_given (given_or_lacks (standings world) unsettled.standing.part.outer) (waits_below bound world aim is_aim out)
  where
    own : Standing
    own = unsettled.standing

    by_given : ((callees : List Callee) × (given (standings world) own.part.outer ≡ Some callees))
        ⊎ Lacks (standings world) own.part.outer →
        ((other : ℕ) → other < bound → aim other ≡ true → IsUnsettled world other → IsAboveOut world other) → IsAboveOut world component
    by_given (inl known) again =
        Itself (out component own _ aimed unsettled.at unsettled.settled
        ((standings_as_defined world component own unsettled.at).due
        ∙ ap (option_map (key_over world.program.structs own.part.flows)) known.1))
    by_given (inr lacks) again =
        let before : lacks.1.component < component =
        callees_before world.program component lacks.0 own.part lacks.1 (part_at world component own unsettled.at) lacks.2 in
        let within : component < length (standings world) = slice_get_within (standings world) component own unsettled.at in
        Above own lacks.0 lacks.1 unsettled.at unsettled.settled lacks.2
        (again lacks.1.component (omega (arith, before, lt)) (is_aim component own lacks.0 lacks.1 aimed unsettled.at lacks.2)
        (present_at world lacks.1.component (omega (arith, before, within)) lacks.3))

pub waits_on_out : WaitsOnOut
waits_on_out world aim is_aim out component aimed unsettled =
    waits_below (suc component) world aim is_aim out component (omega arith) aimed unsettled
