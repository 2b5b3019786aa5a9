-- What holds of the components of every program.
use Rattle.std.specs.Prelude.{◌≡◌, ℕ, ◌<◌, true, List, length, slice_get}
use Rattle.std.specs.declared.option.Option.TheVariants.{Some}
use Rattle.shape_data.specs.declared.program.Program.{Program}
use Rattle.component_keys.specs.Components.{holds, calls_of, components}
use Rattle.component_keys.specs.Keys.{Component, Outer, program_components, names_of}

-- components of the same members stand at one place
abbrev pub MembersDiffer : Type 0
MembersDiffer =
    (program : Program) (i j : ℕ) (one other : Component) → slice_get (program_components program) i ≡ Some one →
    slice_get (program_components program) j ≡ Some other →
    names_of one.flows ≡ names_of other.flows → i ≡ j

-- each procedure outside that a component calls is of a component before it
abbrev pub CalleesStandBefore : Type 0
CalleesStandBefore =
    (program : Program) (i k : ℕ) (component : Component) (outer : Outer) → slice_get (program_components program) i ≡ Some component →
    slice_get component.outer k ≡ Some outer →
    outer.component < i

-- names differ, and whoever is called is defined
pub record IsCallGraph (names calls : List (List ℕ)) : Type 0 where
  pub lengths : length names ≡ length calls
  pub differ : (i j : ℕ) (name : List ℕ) → slice_get names i ≡ Some name → slice_get names j ≡ Some name → i ≡ j
  pub defined : (number callee : ℕ) → holds (calls_of calls number) callee ≡ true → callee < length calls

-- each procedure is in a class of the list
abbrev pub EachIsListed : Type 0
EachIsListed =
    (names calls : List (List ℕ)) → IsCallGraph names calls → (number : ℕ) → number < length calls →
    (place : ℕ) × (class : List ℕ) × (slice_get (components names calls) place ≡ Some class) × (holds class number ≡ true)
