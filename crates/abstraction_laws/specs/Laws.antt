-- Laws of abstraction: it only weakens, its repetitions end, and what it answers is normal, well formed and no larger.
use Rattle.std.specs.Prelude.{◌≡◌, ℕ, ℤ, Bool, List}
use Rattle.std.specs.declared.option.Option.{Option}
use Rattle.std.specs.declared.option.Option.TheVariants.{None, Some}
use Rattle.shape_data.specs.declared.machine.Cell.{Cell}
use Rattle.shape_data.specs.declared.program.Flow.{Flow}
use Rattle.shape_data.specs.declared.program.HeadMark.{HeadMark}
use Rattle.shape_data.specs.declared.program.StructDef.{StructDef}
use Rattle.shape_data.specs.declared.symbolic.Exp.{Exp}
use Rattle.shape_data.specs.declared.symbolic.Post.{Post}
use Rattle.shape_data.specs.declared.symbolic.SymHeap.{SymHeap}
use Rattle.shape_data.specs.declared.symbolic.SymState.{SymState}
use Rattle.shape_data.specs.Meaning.{Holds, MeetsPost, MeetsState}
use Rattle.sym_canon.specs.declared.parts.Pair.{Pair}
use Rattle.abstraction_laws.specs.Forgetting.{forget}
use Rattle.abstraction_laws.specs.Heads.{abstract_exit, abstract_head}
use Rattle.abstraction_laws.specs.Pairs.{join_pair, join_pair_once}
use Rattle.abstraction_laws.specs.Repeating.{reduce, reduce_once}

-- IT ONLY WEAKENS

-- whatever meets a state meets another, under the same assignment to the logical variables; over any list of structures
abbrev pub StateWeakens : SymState → SymState → Type 0
StateWeakens state weaker = (structs : List StructDef) (s : ℕ → ℤ) (locals : List ℤ) (heap : List Cell)
    → MeetsState structs s locals heap state → MeetsState structs s locals heap weaker

-- the same of what is answered; where nothing is, nothing meets the state
abbrev pub StateWeakensTo : SymState → Option SymState → Type 0
StateWeakensTo state (Some weaker) = StateWeakens state weaker
StateWeakensTo state None = (structs : List StructDef) (s : ℕ → ℤ) (locals : List ℤ) (heap : List Cell)
    → ¬ MeetsState structs s locals heap state

-- whatever meets a post meets another
abbrev pub PostWeakens : Post → Post → Type 0
PostWeakens post weaker = (structs : List StructDef) (s : ℕ → ℤ) (ret : ℤ) (heap : List Cell) → MeetsPost structs s ret heap post
    → MeetsPost structs s ret heap weaker

-- the same of what is answered; where nothing is, nothing meets the post
abbrev pub PostWeakensTo : Post → Option Post → Type 0
PostWeakensTo post (Some weaker) = PostWeakens post weaker
PostWeakensTo post None = (structs : List StructDef) (s : ℕ → ℤ) (ret : ℤ) (heap : List Cell) → ¬ MeetsPost structs s ret heap post

-- what holds of a heap under an assignment to all variables holds of another under the same one
abbrev pub HeapWeakens : SymHeap → SymHeap → Type 0
HeapWeakens shape weaker = (structs : List StructDef) (t : ℕ → ℤ) (heap : List Cell) → Holds structs t heap shape
    → Holds structs t heap weaker

-- the second to the fourth rule weaken a heap and need no other assignment
abbrev pub ReduceWeakens : Type 0
ReduceWeakens = (joins : Bool) (locals : List Exp) (heap : SymHeap) → HeapWeakens heap (reduce joins locals heap)

-- forgetting constants weakens a state
abbrev pub ForgetWeakens : Type 0
ForgetWeakens = (kinds : List StructDef) (mark : HeadMark) (state : SymState) → StateWeakens state (forget kinds mark state)

-- whatever meets a state meets its abstraction at the head of a loop
abbrev pub AbstractHeadWeakens : Type 0
AbstractHeadWeakens = (state : SymState) (flow : Flow) (mark : HeadMark) (kinds : List StructDef)
    → StateWeakensTo state (abstract_head state flow mark kinds)

-- whatever meets a post meets its abstraction at an exit
abbrev pub AbstractExitWeakens : Type 0
AbstractExitWeakens = (post : Post) (flow : Flow) (kinds : List StructDef) (recursive : Bool)
    → PostWeakensTo post (abstract_exit post flow kinds recursive)

-- ITS REPETITIONS END

-- so often as `reduce` goes, nothing changes any more
abbrev pub ReduceIsDone : Type 0
ReduceIsDone = (joins : Bool) (locals : List Exp) (heap : SymHeap)
    → reduce_once joins locals (reduce joins locals heap) ≡ reduce joins locals heap

-- so often as `join_pair` goes, there is no join any more
abbrev pub JoinPairIsDone : Type 0
JoinPairIsDone = (params : ℕ) (pair : Pair) → join_pair_once params (join_pair params pair) ≡ join_pair params pair
