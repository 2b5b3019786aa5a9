use Rattle.std.proofs.Common.{◌≡◌, take, map}
use Rattle.shape_data.specs.declared.program.StructDef.{StructDef}
use Rattle.composed_keys.proofs.structures.names_in.Given as goal

abbrev pub invariant-loop-def : goal.invariant-loop-def
invariant-loop-def l = l.names.items ≡ map (λ (def : StructDef). def.name) (take l.def-index l.structs)
