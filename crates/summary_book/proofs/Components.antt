-- The components of a program and whom they call, by their rows; and what an aim reaches.
use Rattle.std.proofs.Common.{◌≡◌, ℕ, suc, ◌<◌, ◌≤◌, true, List, [], ◌∷◌, map, length, slice_get, Some, None, Option, refl, sym, ap, ◌∙◌}
use Rattle.std.proofs.Common.{⊎_elim, arith, All, option_map}
use Rattle.std.specs.List.{filter_map, cons_option}
use Rattle.std.proofs.lemmas.Bool.Decides.{Decides-ltb}
use Rattle.std.proofs.lemmas.Bool.{cases_lt}
use Rattle.std.proofs.lemmas.List.{get_or_past, length-map}
use Rattle.std.proofs.lemmas.List.Elements.{All-head, All-tail}
use Rattle.std.proofs.lemmas.Option.{get_or_from_slice_get, slice_get_within}
use Rattle.shape_data.specs.declared.program.Proc.{Proc}
use Rattle.shape_data.specs.declared.program.Program.{Program}
use Rattle.call_components.specs.Reaching.{AreDefined, rows}
use Rattle.sym_parts.proofs.ShapesLemmas.StepsStacks.{within-some}
use Rattle.component_keys.specs.Components.{calls_of, components, holds}
use Rattle.component_keys.specs.Keys.{Component, Outer, calls_in, component_of, flows_of, names_of, program_components}
use Rattle.component_keys.proofs.Basics.{at_map, mapped_some}
use Rattle.component_keys.proofs.Ordered.{callees_before, held_at}
use Rattle.component_keys.proofs.Reach.{holds_at, reached_is_closed}
use Rattle.composed_keys.specs.declared.rows.Component.{Component as ComponentRow}
use Rattle.composed_keys.specs.declared.rows.Outer.{Outer as OuterRow}
use Rattle.composed_keys.specs.Rows.{component_value, outer_value}
use Rattle.composed_keys.proofs.Components.{components_few}
use Rattle.claim_laws.specs.Waits.{IsAim}
use Rattle.claim_laws.specs.World.{World}
use Rattle.claim_laws.proofs.Still.{part_at}
use Rattle.summary_book.specs.declared.aims.Aim.{Aim}
use Rattle.summary_book.specs.declared.aims.Aim.TheVariants as aim
use Rattle.summary_book.specs.declared.rows.Parts.{Parts}
use Rattle.summary_book.specs.Aims.{aimed, called_components, component_calls, component_with, reaches_from}
use Rattle.summary_book.specs.Rows.{AreParts}
use Rattle.summary_book.proofs.Callees.{AreProcs, outer_there}
use Rattle.summary_book.proofs.Events.{not_both}

-- ---- how many there are

pub components_length : (parts : Parts) → AreParts parts → length parts.components.items ≡ length (program_components parts.program.value)
components_length parts are = sym (length-map parts.components.items (component_value (flows_of parts.program.value)))
    ∙ ap length are.components

count_few : (program : Program) → length (program_components program) ≤ length program.procs
unfolding program_components
count_few program =
    let all : List (List ℕ) = components (names_of (flows_of program)) (calls_in (flows_of program)) in
    let one : length (map (component_of (flows_of program) (calls_in (flows_of program)) all) all) ≡ length all =
    length-map all (component_of (flows_of program) (calls_in (flows_of program)) all) in
    let few : length all ≤ length (names_of (flows_of program)) =
    components_few (names_of (flows_of program)) (calls_in (flows_of program)) in
    let names : length (names_of (flows_of program)) ≡ length program.procs =
    length-map (flows_of program) (λ flow. flow.name) ∙ length-map program.procs (λ (proc : Proc). proc.flow) in
    omega (arith, one, few, names)

pub components_small : (parts : Parts) → AreParts parts → length parts.components.items < 4294967296
components_small parts are =
    let same = components_length parts are in
    let few = count_few parts.program.value in
    let small : length parts.program.value.procs < 4294967296 = are.formed.countable in
    omega (arith, same, few, small)

-- the component of a row
pub part_of_row : (parts : Parts) → AreParts parts → (place : ℕ) (row : ComponentRow) → slice_get parts.components.items place ≡ Some row →
    slice_get (program_components parts.program.value) place ≡ Some (component_value (flows_of parts.program.value) row)
part_of_row parts are place row at =
    ap (λ l. slice_get l place) (sym are.components) ∙ at_map (component_value (flows_of parts.program.value)) parts.components.items place
    ∙ ap (option_map (component_value (flows_of parts.program.value))) at

-- and the row of a component
pub row_of_part : (parts : Parts) → AreParts parts → (place : ℕ) (part : Component) →
    slice_get (program_components parts.program.value) place ≡ Some part →
    (row : ComponentRow) × (slice_get parts.components.items place ≡ Some row) × (part ≡ component_value (flows_of parts.program.value) row)
row_of_part parts are place part at =
    mapped_some (component_value (flows_of parts.program.value)) (slice_get parts.components.items place) part
    (sym (at_map (component_value (flows_of parts.program.value)) parts.components.items place) ∙ ap (λ l. slice_get l place) are.components
    ∙ at)

-- ---- whom they call

called_same : (program : Program) (outer : List OuterRow) → AreProcs program outer →
    map (λ (one : Outer). one.component) (filter_map (outer_value (flows_of program)) outer) ≡ map (λ (one : OuterRow). one.component) outer
called_same program [] within = refl
called_same program (first ∷ outer) within =
    let there = outer_there program first (All-head (λ (one : OuterRow). one.number < length program.procs) first outer within) in
    ap (λ o. map (λ (one : Outer). one.component) (cons_option o (filter_map (outer_value (flows_of program)) outer))) there.2 ∙
    ap (λ l. first.component ∷ l)
    (called_same program outer (All-tail (λ (one : OuterRow). one.number < length program.procs) first outer within))

calls_same : (program : Program) (all : List ComponentRow) →
    ((place : ℕ) (row : ComponentRow) → slice_get all place ≡ Some row → AreProcs program row.outer.items) →
    map (λ (row : ComponentRow). map (λ (one : OuterRow). one.component) row.outer.items) all
    ≡ map called_components (map (component_value (flows_of program)) all)
calls_same program [] within = refl
calls_same program (first ∷ all) within =
    ap (λ r. r ∷ map (λ (row : ComponentRow). map (λ (one : OuterRow). one.component) row.outer.items) all)
    (sym (called_same program first.outer.items (within 0 first refl))) ∙
    ap (λ l. called_components (component_value (flows_of program) first) ∷ l)
    (calls_same program all (λ place row at. within (suc place) row at))

-- the calls of rows are those of the components
pub calls_are : (program : Program) (all : List ComponentRow) → map (component_value (flows_of program)) all ≡ program_components program →
    ((place : ℕ) (row : ComponentRow) → slice_get all place ≡ Some row → AreProcs program row.outer.items) →
    map (λ (row : ComponentRow). map (λ (one : OuterRow). one.component) row.outer.items) all ≡ component_calls program
calls_are program all components within = calls_same program all within ∙ ap (map called_components) components

-- ---- a component's calls in the list of all

-- whom a component calls
pub called_at : (program : Program) (place k : ℕ) (part : Component) (outer : Outer) →
    slice_get (program_components program) place ≡ Some part → slice_get part.outer k ≡ Some outer →
    holds (calls_of (component_calls program) place) outer.component ≡ true
called_at program place k part outer at callee =
    let row : slice_get (component_calls program) place ≡ Some (called_components part) =
    at_map called_components (program_components program) place ∙ ap (option_map called_components) at in
    let calls : calls_of (component_calls program) place ≡ called_components part =
    get_or_from_slice_get (component_calls program) place (called_components part) [] row in
    ap (λ l. holds l outer.component) calls
    ∙ holds_at (called_components part) k outer.component
    (at_map (λ (one : Outer). one.component) part.outer k ∙ ap (option_map (λ (one : Outer). one.component)) callee)

pub calls_length : (program : Program) → length (component_calls program) ≡ length (program_components program)
calls_length program = length-map (program_components program) called_components

-- whoever is called is a component
pub calls_defined : (program : Program) → AreDefined (component_calls program)
calls_defined program number callee h =
    ⊎_elim (λ lt. let there = within-some (program_components program) number lt in by_row there.0 there.1) (λ le. none le)
    (cases_lt number (length (program_components program)))
  where
    none : length (program_components program) ≤ number → callee < length (component_calls program)
    none le =
        let same = calls_length program in
        let empty : calls_of (component_calls program) number ≡ [] =
        get_or_past (component_calls program) number [] (omega (arith, same, le)) in
        not_both (sym (ap (λ l. holds l callee) empty) ∙ h) refl

    by_row : (part : Component) → slice_get (program_components program) number ≡ Some part → callee < length (component_calls program)
    by_row part e =
        let row : slice_get (component_calls program) number ≡ Some (called_components part) =
        at_map called_components (program_components program) number ∙ ap (option_map called_components) e in
        let calls : calls_of (component_calls program) number ≡ called_components part =
        get_or_from_slice_get (component_calls program) number (called_components part) [] row in
        let there = held_at (called_components part) callee (ap (λ l. holds l callee) (sym calls) ∙ h) in
        let one =
        mapped_some (λ (outer : Outer). outer.component) (slice_get part.outer there.0) callee
        (sym (at_map (λ (outer : Outer). outer.component) part.outer there.0) ∙ there.1) in
        let before : one.0.component < number = callees_before program number there.0 part one.0 e one.1 in
        let within : number < length (program_components program) = slice_get_within (program_components program) number part e in
        let same = calls_length program in
        let is = one.2 in
        omega (arith, before, within, same, is)

-- ---- aims

-- an aim reaches whom its components call
pub aims_are : (world : World) (its : Aim) → IsAim world (aimed world.program its)
aims_are world its component standing place outer there at callee =
    let part = part_at world component standing at in
    let before : outer.component < component = callees_before world.program component place standing.part outer part callee in
    let within : component < length (program_components world.program) =
    slice_get_within (program_components world.program) component standing.part part in
    by_aim its there before within (called_at world.program component place standing.part outer part callee)
  where
    by_aim : (its : Aim) → aimed world.program its component ≡ true → outer.component < component →
        component < length (program_components world.program) →
        holds (calls_of (component_calls world.program) component) outer.component ≡ true → aimed world.program its outer.component ≡ true
    by_aim aim.All h before within calls =
        (Decides-ltb outer.component (length (program_components world.program))).1 (omega (arith, before, within))
    by_aim (aim.One name) h before within calls = by_start (component_with world.program name) h
      where
        by_start : (o : Option ℕ) → reaches_from world.program o component ≡ true → reaches_from world.program o outer.component ≡ true
        by_start None e = cc
        by_start (Some start) e =
            let same = calls_length world.program in
            reached_is_closed (component_calls world.program) start component outer.component e calls (omega (arith, before, within, same))
