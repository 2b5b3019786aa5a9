-- What a component is due is no larger than the program allows.
use Rattle.std.proofs.Common.{◌≡◌, ℕ, List, map, slice_get, filter_map, Some, sym, subst, ◌∙◌, All}
use Rattle.std.proofs.lemmas.List.Elements.{All-map}
use Rattle.shape_data.specs.declared.answer.Callee.{Callee}
use Rattle.shape_data.specs.declared.answer.Key.{Key}
use Rattle.shape_data.specs.declared.program.Flow.{Flow}
use Rattle.shape_data.specs.declared.program.Proc.{Proc}
use Rattle.shape_data.specs.declared.program.Program.{Program}
use Rattle.shape_data.specs.declared.program.StructDef.{StructDef}
use Rattle.shape_data.specs.WellFormed.{IsProgram}
use Rattle.component_keys.specs.Keys.{Component, flows_of, key_over, program_components}
use Rattle.component_keys.specs.Structures.{structs_used}
use Rattle.component_keys.proofs.Basics.{mapped_some}
use Rattle.shape_data.specs.Sizes.{HasFewSlots, HasKeySizes, HasProgramSizes, IsNarrow}
use Rattle.claim_laws.specs.Invariant.{IsDueAt}
use Rattle.claim_laws.specs.World.{World, given, standings}
use Rattle.claim_laws.proofs.Defined.{standings_as_defined}
use Rattle.claim_laws.proofs.Invariant.{all_at}
use Rattle.claim_laws.proofs.Still.{part_at}
use Rattle.key_laws.proofs.Elements.{all_mapped}
use Rattle.key_laws.proofs.Members.{component_at}

chosen : {X : Type 0} (P : X → Type 0) (xs : List X) → All P xs → (numbers : List ℕ) → All P (filter_map (slice_get xs) numbers)
chosen P xs all numbers =
    all_mapped (slice_get xs) (λ number. Unit {0}) P (λ number x none at. all_at P xs number x all at) numbers (λ k d lt. tt)

used_few : (structs : List StructDef) (flows : List Flow) (callees : List Callee) → All IsNarrow structs →
    All IsNarrow (structs_used structs flows callees)
unfolding structs_used
used_few structs flows callees all = chosen IsNarrow structs all _

members_few : (program : Program) → IsProgram program → All (λ (proc : Proc). HasFewSlots proc.flow) program.procs →
    (place : ℕ) (part : Component) → slice_get (program_components program) place ≡ Some part →
    All HasFewSlots part.flows
members_few program formed all place part at =
    let one = component_at program formed place part at in
    subst (λ (p : Component). All HasFewSlots p.flows) (sym one.is)
    (chosen HasFewSlots (flows_of program) (All-map HasFewSlots (λ (proc : Proc). proc.flow) program.procs all) one.class)

pub due_sizes : (world : World) → IsProgram world.program → HasProgramSizes world.program → (component : ℕ) (key : Key) →
    IsDueAt world component key → HasKeySizes key
due_sizes world formed sizes component key due =
    let part = due.standing.part in
    let defined = standings_as_defined world component due.standing due.at in
    let own =
    mapped_some (key_over world.program.structs part.flows) (given (standings world) part.outer) key (sym defined.due ∙ due.due) in
    subst HasKeySizes (sym own.2)
    (record {
      structs = used_few world.program.structs part.flows own.0 sizes.structs;
      procs = members_few world.program formed sizes.procs component part (part_at world component due.standing due.at);
    })
