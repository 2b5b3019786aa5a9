-- The key of a component of a program of few fields and slots has few: its structures and its procedures are the program's.
use Rattle.std.specs.Prelude.{◌≡◌, ℕ, zero, suc, List, [], ◌∷◌, filter_map, map, slice_get, All}
use Rattle.std.specs.List.{cons_option}
use Rattle.std.specs.declared.option.Option.{Option}
use Rattle.std.specs.declared.option.Option.TheVariants.{None, Some}
use Rattle.std.proofs.Common.{refl, subst}
use Rattle.std.proofs.lemmas.List.Elements.{All-cons, All-map, All-nil}
use Rattle.shape_data.specs.declared.answer.Callee.{Callee}
use Rattle.shape_data.specs.declared.program.Flow.{Flow}
use Rattle.shape_data.specs.declared.program.Proc.{Proc}
use Rattle.shape_data.specs.declared.program.StructDef.{StructDef}
use Rattle.component_keys.specs.Components.{components}
use Rattle.component_keys.specs.Keys.{Component, calls_in, component_of, flows_of, names_of, program_components}
use Rattle.component_keys.specs.Structures.{structs_used}
use Rattle.sym_pure.proofs.EachLaws.{All-get}
use Rattle.solve_laws.specs.Limits.Laws.{ComposedKeysHaveSizes}
use Rattle.shape_data.specs.Sizes.{HasFewSlots, IsNarrow}

-- what holds of each of a list holds of each that is picked from it
picked : {A : Type 0} (P : A → Type 0) (all : List A) → All P all → (numbers : List ℕ) → All P (filter_map (slice_get all) numbers)
picked P all each [] = All-nil P
picked {A = A} P all each (number ∷ numbers) = by_one (slice_get all number) refl (picked P all each numbers)
  where
    by_one : (o : Option A) → slice_get all number ≡ o → All P (filter_map (slice_get all) numbers) →
        All P (cons_option o (filter_map (slice_get all) numbers))
    by_one None is later = later
    by_one (Some x) is later = All-cons P x (filter_map (slice_get all) numbers) (All-get P all number x is each) later

structs-narrow : (structs : List StructDef) (flows : List Flow) (callees : List Callee) → All IsNarrow structs →
    All IsNarrow (structs_used structs flows callees)
unfolding structs_used
structs-narrow structs flows callees each = picked IsNarrow structs each _

component-slots : (flows : List Flow) (calls : List (List ℕ)) (all : List (List ℕ)) → All HasFewSlots flows →
    (classes : List (List ℕ)) (place : ℕ) (component : Component) →
    slice_get (map (component_of flows calls all) classes) place ≡ Some component → All HasFewSlots component.flows
component-slots flows calls all each [] place component is = cc
component-slots flows calls all each (class ∷ classes) zero component is =
    let same : component_of flows calls all class ≡ component = cc in
    subst (λ (one : Component). All HasFewSlots one.flows) same (picked HasFewSlots flows each class)
component-slots flows calls all each (class ∷ classes) (suc place) component is =
    component-slots flows calls all each classes place component is

pub composed_keys_have_sizes : ComposedKeysHaveSizes
unfolding program_components
composed_keys_have_sizes program place component callees sizes is =
    let flows : List Flow = flows_of program in
    let each : All HasFewSlots flows = All-map HasFewSlots (λ (proc : Proc). proc.flow) program.procs sizes.procs in
    let classes : List (List ℕ) = components (names_of flows) (calls_in flows) in
    record {
      structs = structs-narrow program.structs component.flows callees sizes.structs;
      procs = component-slots flows (calls_in flows) classes each classes place component is;
    }
