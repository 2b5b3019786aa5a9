-- Lists of structures, one of which contains the other: a key has only the structures that it uses, its program has them all.
use Rattle.std.specs.Prelude.{◌≡◌, ℕ, List}
use Rattle.std.specs.declared.option.Option.TheVariants.{Some}
use Rattle.shape_data.specs.declared.program.StructDef.{StructDef}
use Rattle.shape_data.specs.Heap.{struct_named}

-- what is found by a name in the smaller list is found by that name, the same, in the larger
abbrev pub ContainsStructures : List StructDef → List StructDef → Type 0
ContainsStructures larger smaller =
    (name : List ℕ) (def : StructDef) → struct_named smaller name ≡ Some def → struct_named larger name ≡ Some def
