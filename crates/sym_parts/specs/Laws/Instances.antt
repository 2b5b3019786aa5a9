-- A state is weaker than each of its instances: what meets the state with expressions in place of existential variables meets the
-- state. So a constant, or any other expression, may be forgotten where it stands once.
use Rattle.std.specs.Prelude.{◌≡◌, ℕ, ◌<◌, ◌≤◌, ◌==◌, ℤ, if◌then◌else◌, List}
use Rattle.shape_data.specs.declared.machine.Cell.{Cell}
use Rattle.shape_data.specs.declared.program.StructDef.{StructDef}
use Rattle.shape_data.specs.declared.symbolic.Exp.{Exp}
use Rattle.shape_data.specs.declared.symbolic.Exp.TheVariants.{Var, Const}
use Rattle.shape_data.specs.declared.symbolic.Post.{Post}
use Rattle.shape_data.specs.declared.symbolic.SymHeap.{SymHeap}
use Rattle.shape_data.specs.declared.symbolic.SymState.{SymState}
use Rattle.shape_data.specs.Meaning.{Meets, MeetsPost, MeetsState}
use Rattle.sym_parts.specs.Laws.Mapped.{on_heap, on_post, on_state}

-- an expression with other ones in place of its variable
abbrev pub with_images : (ℕ → Exp) → Exp → Exp
with_images image (Var x) = image x
with_images image (Const n) = Const n

-- logical variables, which are those below 65,536, stand for themselves
abbrev pub KeepsLogical : (ℕ → Exp) → Type 0
KeepsLogical image = (x : ℕ) → x < 65536 → image x ≡ Var x

-- an expression in place of one variable
abbrev pub in_place_of : ℕ → Exp → ℕ → Exp
in_place_of x e y = if y == x then e else Var y

-- LAWS

-- what meets an instance of a heap meets the heap; and so for states and posts
abbrev pub InstanceMeets : Type 0
InstanceMeets =
    (image : ℕ → Exp) → KeepsLogical image → (structs : List StructDef) (s : ℕ → ℤ) (heap : List Cell) (shape : SymHeap) →
    Meets structs s heap (on_heap (with_images image) shape) → Meets structs s heap shape

abbrev pub InstanceStateMeets : Type 0
InstanceStateMeets =
    (image : ℕ → Exp) → KeepsLogical image →
    (structs : List StructDef) (s : ℕ → ℤ) (locals : List ℤ) (heap : List Cell) (state : SymState) →
    MeetsState structs s locals heap (on_state (with_images image) state) → MeetsState structs s locals heap state

abbrev pub InstancePostMeets : Type 0
InstancePostMeets =
    (image : ℕ → Exp) → KeepsLogical image → (structs : List StructDef) (s : ℕ → ℤ) (ret : ℤ) (heap : List Cell) (post : Post) →
    MeetsPost structs s ret heap (on_post (with_images image) post) → MeetsPost structs s ret heap post

-- where an expression is forgotten, at one place or at several: a state that becomes the first one when the expression is put back
-- for an existential variable is met by whatever meets the first one. (A new variable stands nowhere else, so that nothing else
-- changes when the expression is put back)
abbrev pub ForgottenStateMeets : Type 0
ForgottenStateMeets =
    (x : ℕ) (e : Exp) → 65536 ≤ x → (first forgetting : SymState) → on_state (with_images (in_place_of x e)) forgetting ≡ first →
    (structs : List StructDef) (s : ℕ → ℤ) (locals : List ℤ) (heap : List Cell) → MeetsState structs s locals heap first →
    MeetsState structs s locals heap forgetting

abbrev pub ForgottenPostMeets : Type 0
ForgottenPostMeets =
    (x : ℕ) (e : Exp) → 65536 ≤ x → (first forgetting : Post) → on_post (with_images (in_place_of x e)) forgetting ≡ first →
    (structs : List StructDef) (s : ℕ → ℤ) (ret : ℤ) (heap : List Cell) → MeetsPost structs s ret heap first →
    MeetsPost structs s ret heap forgetting
