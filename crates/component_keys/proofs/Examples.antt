-- Worked lists and keys.
use Rattle.std.proofs.Common.{◌≡◌, [], ◌∷◌, None, refl, pos}
use Rattle.shape_data.specs.declared.program.Flow.{Flow}
use Rattle.shape_data.specs.declared.program.StructDef.{StructDef}
use Rattle.shape_data.specs.declared.program.Cmd.TheVariants as cmd
use Rattle.shape_data.specs.declared.program.Operand.TheVariants.{Num}
use Rattle.shape_data.specs.declared.program.Ty.TheVariants.{Int, Ptr}
use Rattle.component_keys.specs.Components.{components}
use Rattle.component_keys.specs.Structures.{structs_used}

-- f and g call each other, g calls h: h stands first
three : components ((102 ∷ []) ∷ (103 ∷ []) ∷ (104 ∷ []) ∷ []) ((1 ∷ []) ∷ (0 ∷ 2 ∷ []) ∷ [] ∷ []) ≡ (2 ∷ []) ∷ (0 ∷ 1 ∷ []) ∷ []
unfolding components
three = refl

-- b, a, and ` that calls b: of the ready ones the least name is first
least : components ((98 ∷ []) ∷ (97 ∷ []) ∷ (96 ∷ []) ∷ []) ([] ∷ [] ∷ (0 ∷ []) ∷ []) ≡ (1 ∷ []) ∷ (0 ∷ []) ∷ (2 ∷ []) ∷ []
unfolding components
least = refl

-- a procedure with a slot that points to s
abbrev pointing : Flow
pointing =
    record {
      name = 102 ∷ [];
      params = [];
      slots = Ptr (115 ∷ []) ∷ [];
      ret = Int;
      nodes = record { line = 0; cmd = cmd.Return (Num (pos 0)); head = None } ∷ [];
    }

-- s points to r, r to s and to nothing else, t to s
abbrev s : StructDef
s = record { name = 115 ∷ []; fields = record { name = 110 ∷ []; ty = Ptr (114 ∷ []) } ∷ [] }

abbrev r : StructDef
r = record { name = 114 ∷ []; fields = record { name = 110 ∷ []; ty = Ptr (115 ∷ []) } ∷ [] }

abbrev t : StructDef
t = record { name = 116 ∷ []; fields = record { name = 110 ∷ []; ty = Ptr (115 ∷ []) } ∷ [] }

-- what points to what is used is not used, and the structures stand in order of their names
used : structs_used (s ∷ t ∷ r ∷ []) (pointing ∷ []) [] ≡ r ∷ s ∷ []
unfolding structs_used
used = refl
