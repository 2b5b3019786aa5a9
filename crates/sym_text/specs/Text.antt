-- The texts of expressions, facts, atoms, symbolic heaps and posts.
use Rattle.std.specs.Prelude.{ℕ, ◌+◌, ◌-◌, nat_lt, Bool, true, false, if◌then◌else◌, List, [], ◌∷◌, ◌++◌, length, map, codes}
use Rattle.std.specs.Prelude.{slice_index_or, unwrap_or}
use Rattle.std.specs.List.{join_by}
use Rattle.std.specs.Option.{option_map}
use Rattle.std.specs.Fmt.{decimal, signed_decimal}
use Rattle.shape_data.specs.declared.program.Field.{Field}
use Rattle.shape_data.specs.declared.program.StructDef.{StructDef}
use Rattle.shape_data.specs.declared.symbolic.Atom.{Atom}
use Rattle.shape_data.specs.declared.symbolic.Atom.TheVariants.{Points, Seg, Junk}
use Rattle.shape_data.specs.declared.symbolic.Exp.{Exp}
use Rattle.shape_data.specs.declared.symbolic.Exp.TheVariants.{Var, Const}
use Rattle.shape_data.specs.declared.symbolic.Fact.{Fact}
use Rattle.shape_data.specs.declared.symbolic.Fact.TheVariants.{Eq, Ne}
use Rattle.shape_data.specs.declared.symbolic.Post.{Post}
use Rattle.shape_data.specs.declared.symbolic.SymHeap.{SymHeap}
use Rattle.shape_data.specs.Heap.{struct_named}

-- a variable: a parameter's name, `$n` for the other logical ones, `?n` for the existential ones, from 65,536 on
abbrev pub variable_text : List (List ℕ) → ℕ → List ℕ
variable_text params x =
    if nat_lt x (length params) then slice_index_or params x []
    else (if nat_lt x 65536 then codes "$" ++ decimal (x - length params + 1) else codes "?" ++ decimal (x - 65535))

-- an expression: a variable, or a decimal constant
abbrev pub exp_text : List (List ℕ) → Exp → List ℕ
exp_text params (Var x) = variable_text params x
exp_text params (Const n) = signed_decimal n

-- `EXP=EXP` or `EXP!=EXP`
abbrev pub fact_text : List (List ℕ) → Fact → List ℕ
fact_text params (Eq left right) = exp_text params left ++ codes "=" ++ exp_text params right
fact_text params (Ne left right) = exp_text params left ++ codes "!=" ++ exp_text params right

-- the names of the fields of a structure
abbrev pub field_names : List StructDef → List ℕ → List (List ℕ)
field_names structs kind =
    unwrap_or (option_map (λ (def : StructDef). map (λ (field : Field). field.name) def.fields) (struct_named structs kind)) []

-- `FIELD:EXP` for each field, one after another
abbrev pub field_texts : List (List ℕ) → List (List ℕ) → List Exp → List (List ℕ)
field_texts params [] fields = []
field_texts params (name ∷ names) [] = []
field_texts params (name ∷ names) (field ∷ fields) = (name ++ codes ":" ++ exp_text params field) ∷ field_texts params names fields

-- `EXP|->KIND(FIELD:EXP,FIELD:EXP)`, `ls[KIND.FIELD](EXP,EXP)` or `junk`
abbrev pub atom_text : List StructDef → List (List ℕ) → Atom → List ℕ
atom_text structs params (Points at kind fields) =
    exp_text params at ++ codes "|->" ++ kind
    ++ codes "(" ++ join_by (λ text. text) (codes ",") (field_texts params (field_names structs kind) fields) ++ codes ")"
atom_text structs params (Seg kind link from to) =
    codes "ls[" ++ kind ++ codes "." ++ slice_index_or (field_names structs kind) link [] ++ codes "](" ++ exp_text params from ++ codes ","
    ++ exp_text params to ++ codes ")"
atom_text structs params Junk = codes "junk"

-- `emp` where there is nothing, else the texts with ` * ` between each two
abbrev pub joined_texts : List (List ℕ) → List ℕ
joined_texts [] = codes "emp"
joined_texts (text ∷ texts) = join_by (λ one. one) (codes " * ") (text ∷ texts)

-- a heap: its facts, and then its atoms
abbrev pub heap_text : List StructDef → List (List ℕ) → SymHeap → List ℕ
heap_text structs params heap = joined_texts (map (fact_text params) heap.pure ++ map (atom_text structs params) heap.spatial)

-- ` ret=EXP`, if asked
abbrev pub ret_text : List (List ℕ) → Bool → Exp → List ℕ
ret_text params true ret = codes " ret=" ++ exp_text params ret
ret_text params false ret = []

-- a post: its heap and, if asked, its result
abbrev pub post_text : List StructDef → List (List ℕ) → Bool → Post → List ℕ
post_text structs params with_ret post = heap_text structs params post.heap ++ ret_text params with_ret post.ret
