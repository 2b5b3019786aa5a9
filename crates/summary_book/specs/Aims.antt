-- Which components an aim reaches.
use Rattle.std.specs.Prelude.{ℕ, Bool, false, nat_eq, nat_lt, List, map, length}
use Rattle.std.specs.List.{list_any, position}
use Rattle.std.specs.Cmp.Lexicographic.{pointwise}
use Rattle.std.specs.declared.option.Option.{Option}
use Rattle.std.specs.declared.option.Option.TheVariants.{None, Some}
use Rattle.shape_data.specs.declared.program.Flow.{Flow}
use Rattle.shape_data.specs.declared.program.Program.{Program}
use Rattle.component_keys.specs.Components.{holds, reached}
use Rattle.component_keys.specs.Keys.{Component, Outer, program_components}
use Rattle.summary_book.specs.declared.aims.Aim.{Aim}
use Rattle.summary_book.specs.declared.aims.Aim.TheVariants.{All, One}

-- the numbers of the components that a component calls
abbrev pub called_components : Component → List ℕ
called_components part = map (λ (outer : Outer). outer.component) part.outer

-- the same for each component of a program
abbrev pub component_calls : Program → List (List ℕ)
component_calls program = map called_components (program_components program)

-- one of the procedures has the name
abbrev pub has_name : List ℕ → List Flow → Bool
has_name name flows = list_any (λ (flow : Flow). pointwise nat_eq flow.name name) flows

-- the number of the component with a procedure of the name
abbrev pub component_with : Program → List ℕ → Option ℕ
component_with program name = position (λ (part : Component). has_name name part.flows) (program_components program)

-- the component is called from a start, directly or not, or is it
abbrev pub reaches_from : Program → Option ℕ → ℕ → Bool
reaches_from program None component = false
reaches_from program (Some start) component = holds (reached (component_calls program) start) component

-- all components, or those of a procedure and whom it calls, directly or not; a name that the program does not define reaches none
abbrev pub aimed : Program → Aim → ℕ → Bool
aimed program All component = nat_lt component (length (program_components program))
aimed program (One name) component = reaches_from program (component_with program name) component
