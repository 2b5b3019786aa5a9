-- The first of the names is the name of the first structure that has it.
use Rattle.std.proofs.Common.{◌∙◌, ap, List, ℕ}
use Rattle.std.specs.Prelude.{nat_eq, position}
use Rattle.std.specs.Cmp.Lexicographic.{pointwise}
use Rattle.shape_data.specs.declared.program.StructDef.{StructDef}
use Rattle.component_keys.specs.Structures.{struct_number}
use Rattle.composed_keys.proofs.Calls.{position_map}
use Rattle.composed_keys.proofs.structure_index.StructureIndex.number_of.Goals as goal

pub returns : goal.returns
returns c =
    c.first_named.ensures ∙ ap (position (λ (other : List ℕ). pointwise nat_eq other c.args.name.now)) c.self.invariant.named
    ∙ position_map (λ (other : List ℕ). pointwise nat_eq other c.args.name.now) (λ (def : StructDef). def.name) c.self.inside.structs.now
    ∙ ap (λ structs. struct_number structs c.args.name.now) c.self.view_is
