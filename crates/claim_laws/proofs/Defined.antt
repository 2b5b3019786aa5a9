-- Whom a component calls stands before it, so its key over those before is its key over all.
use Rattle.std.proofs.Common.{◌≡◌, ℕ, suc, ◌<◌, List, [], ◌∷◌, ◌++◌, length, slice_get, get_or, Some, None, refl, sym, ap, ◌∙◌, subst}
use Rattle.std.proofs.Common.{⊎_elim, option_map}
use Rattle.std.proofs.lemmas.Option.{slice_get-get_or}
use Rattle.shape_data.specs.declared.program.StructDef.{StructDef}
use Rattle.component_keys.specs.Keys.{Component, Outer, program_components, key_over}
use Rattle.claim_laws.specs.World.{Slot, Standing, given, due_over, standing_of, standings_from, standings}
use Rattle.claim_laws.specs.Claims.{StandingsAreAsDefined}
use Rattle.component_keys.proofs.Basics.{not_none, at_end, at_push}
use Rattle.component_keys.proofs.Ordered.{callees_before}
use Rattle.claim_laws.proofs.Still.{stays_at, standings_known, part_at}

-- ---- a key over those before is a key over all

given_longer : (before all : List Standing) (outer : List Outer) →
    ((j : ℕ) (k : ℕ) (one : Outer) → slice_get outer k ≡ Some one → slice_get all one.component ≡ slice_get before one.component) →
    given before outer ≡ given all outer
given_longer before all [] same = refl
given_longer before all (first ∷ others) same =
    rw (same 0 0 first refl, given_longer before all others (λ j k one at. same j (suc k) one at)) refl

within_same : (structs : List StructDef) (slots : List Slot) (rest : List Component) (before : List Standing) (j : ℕ) → j < length before →
    slice_get (standings_from structs slots rest before) j ≡ slice_get before j
within_same structs slots rest before j lt =
    let d : Standing = record { part = record { flows = []; outer = [] }; due = None; settled = None } in
    let own = slice_get-get_or before j d lt in
    stays_at structs slots rest before j (get_or before j d) own ∙ sym own

-- each component that is still to come is due what it would be due over all
due_from : (structs : List StructDef) (slots : List Slot) (rest : List Component) (before : List Standing) (all : List Standing) →
    standings_from structs slots rest before ≡ all →
    ((i : ℕ) (standing : Standing) → slice_get all i ≡ Some standing → (k : ℕ) (outer : Outer) →
    slice_get standing.part.outer k ≡ Some outer → outer.component < i) →
    ((i : ℕ) (standing : Standing) → slice_get before i ≡ Some standing → standing.due ≡ due_over structs all standing.part) →
    (i : ℕ) (standing : Standing) → slice_get all i ≡ Some standing → standing.due ≡ due_over structs all standing.part
due_from structs slots [] before all is_all ordered known i standing at = known i standing (ap (λ l. slice_get l i) is_all ∙ at)
due_from structs slots (part ∷ rest) before all is_all ordered known place one at_place =
    due_from structs slots rest (before ++ standing_of structs slots before part ∷ []) all is_all ordered
    (λ i standing at. ⊎_elim (known i standing) (λ end. subst (λ one. one.due ≡ due_over structs all one.part) (sym end.1) new)
    (at_push before (standing_of structs slots before part) i standing at)) place one at_place
  where
    own : Standing
    own = standing_of structs slots before part

    here : slice_get all (length before) ≡ Some own
    here = ap (λ l. slice_get l (length before)) (sym is_all)
        ∙ stays_at structs slots rest (before ++ own ∷ []) (length before) own (at_end before own)

    new : own.due ≡ due_over structs all part
    new = ap (option_map (key_over structs part.flows)) (given_longer before all part.outer
        (λ j k one at. ap (λ l. slice_get l one.component) (sym is_all)
        ∙ within_same structs slots (part ∷ rest) before one.component (ordered (length before) own here k one at)))

pub standings_as_defined : StandingsAreAsDefined
standings_as_defined world component standing at = record {
  due = due_from world.program.structs world.slots (program_components world.program) [] (standings world) refl
      (λ i one there k outer is_outer. callees_before world.program i k one.part outer (part_at world i one there) is_outer)
      (λ i one there. not_none there) component standing at;
  settled = (standings_known world component standing at).settled;
}
