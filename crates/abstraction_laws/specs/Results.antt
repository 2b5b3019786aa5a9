-- Laws of what abstraction answers: it is normal, well formed, and no larger than what was given.
use Rattle.std.specs.Prelude.{◌≡◌, ℕ, ◌+◌, ◌≤◌, Bool, true, List, length}
use Rattle.std.specs.declared.option.Option.TheVariants.{Some}
use Rattle.shape_data.specs.declared.program.Flow.{Flow}
use Rattle.shape_data.specs.declared.program.HeadMark.{HeadMark}
use Rattle.shape_data.specs.declared.program.StructDef.{StructDef}
use Rattle.shape_data.specs.declared.symbolic.Post.{Post}
use Rattle.shape_data.specs.declared.symbolic.SymHeap.{SymHeap}
use Rattle.shape_data.specs.declared.symbolic.SymState.{SymState}
use Rattle.shape_data.specs.WellFormed.{AreStructs, IsPost, IsState, IsSymHeap, Limits, widest}
use Rattle.sym_pure.specs.IsNormal.{is_normal}
use Rattle.sym_pure.specs.Laws.{HasNoMoreParts}
use Rattle.sym_canon.specs.declared.parts.Pair.{Pair}
use Rattle.sym_canon.specs.Canonical.{as_state, without_locals}
use Rattle.abstraction_laws.specs.Heads.{abstract_exit, abstract_head}
use Rattle.abstraction_laws.specs.Pairs.{abstract_pair, abstract_pre}

-- NORMAL

-- the abstraction of a state is normal
abbrev pub AbstractHeadIsNormal : Type 0
AbstractHeadIsNormal = (state form : SymState) (flow : Flow) (mark : HeadMark) (kinds : List StructDef) →
    abstract_head state flow mark kinds ≡ Some form → is_normal form ≡ true

-- the abstraction of a post is
abbrev pub AbstractExitIsNormal : Type 0
AbstractExitIsNormal = (post form : Post) (flow : Flow) (kinds : List StructDef) (recursive : Bool) →
    abstract_exit post flow kinds recursive ≡ Some form → is_normal (as_state form) ≡ true

-- the missing heap of a pair's abstraction is. (Its state was before its logical variables were numbered; it is brought to
-- its normal form again before it is executed.)
abbrev pub AbstractPairIsNormal : Type 0
AbstractPairIsNormal =
    (pair form : Pair) (flow : Flow) (mark : HeadMark) (kinds : List StructDef) → length flow.params ≤ 65536 →
    abstract_pair pair flow mark kinds ≡ Some form → is_normal (without_locals form.missing) ≡ true

-- the abstraction of a candidate is
abbrev pub AbstractPreIsNormal : Type 0
AbstractPreIsNormal = (missing form : SymHeap) (params : ℕ) → params ≤ 65536 → abstract_pre missing params ≡ Some form →
    is_normal (without_locals form) ≡ true

-- NO LARGER

-- the abstraction of a state has no more parts, and as many locals
abbrev pub AbstractHeadHasNoMoreParts : Type 0
AbstractHeadHasNoMoreParts = (state form : SymState) (flow : Flow) (mark : HeadMark) (kinds : List StructDef) →
    abstract_head state flow mark kinds ≡ Some form → HasNoMoreParts state form

-- the abstraction of a post has no more parts
abbrev pub AbstractExitHasNoMoreParts : Type 0
AbstractExitHasNoMoreParts =
    (post form : Post) (flow : Flow) (kinds : List StructDef) (recursive : Bool) → abstract_exit post flow kinds recursive ≡ Some form →
    HasNoMoreParts (as_state post) (as_state form)

-- the abstraction of a pair has no more parts missing, its state no more parts and as many locals
abbrev pub AbstractPairHasNoMoreParts : Type 0
AbstractPairHasNoMoreParts =
    (pair form : Pair) (flow : Flow) (mark : HeadMark) (kinds : List StructDef) → abstract_pair pair flow mark kinds ≡ Some form →
    (length form.missing.pure + length form.missing.spatial ≤ length pair.missing.pure + length pair.missing.spatial)
    × HasNoMoreParts pair.state form.state

-- the abstraction of a candidate has no more parts
abbrev pub AbstractPreHasNoMoreParts : Type 0
AbstractPreHasNoMoreParts =
    (missing form : SymHeap) (params : ℕ) → abstract_pre missing params ≡ Some form →
    length form.pure + length form.spatial ≤ length missing.pure + length missing.spatial

-- WELL FORMED

-- the abstraction of a well-formed state is well formed
abbrev pub AbstractHeadIsWellFormed : Type 0
AbstractHeadIsWellFormed =
    (structs kinds : List StructDef) (slots : ℕ) (state form : SymState) (flow : Flow) (mark : HeadMark) → AreStructs structs →
    slots ≤ 32768 →
    IsState widest structs (length flow.params) slots state → abstract_head state flow mark kinds ≡ Some form →
    IsState widest structs (length flow.params) slots form

-- the abstraction of a well-formed post is
abbrev pub AbstractExitIsWellFormed : Type 0
AbstractExitIsWellFormed =
    (structs kinds : List StructDef) (post form : Post) (flow : Flow) (recursive : Bool) → AreStructs structs →
    IsPost widest structs (length flow.params) post → abstract_exit post flow kinds recursive ≡ Some form →
    IsPost widest structs (length flow.params) form

-- a missing heap, and a state
pub record IsPair (limits : Limits) (structs : List StructDef) (params slots : ℕ) (pair : Pair) : Type 0 where
  pub missing : IsSymHeap limits structs params pair.missing
  pub state : IsState limits structs params slots pair.state

-- the abstraction of a well-formed pair is
abbrev pub AbstractPairIsWellFormed : Type 0
AbstractPairIsWellFormed =
    (structs kinds : List StructDef) (slots : ℕ) (pair form : Pair) (flow : Flow) (mark : HeadMark) → AreStructs structs → slots ≤ 32768 →
    length flow.params ≤ 32768 →
    IsPair widest structs (length flow.params) slots pair → abstract_pair pair flow mark kinds ≡ Some form →
    IsPair widest structs (length flow.params) slots form

-- well-formedness, with at most so many parts in each heap
abbrev pub with_at_most : ℕ → Limits
with_at_most count = record widest { parts = count }

-- the abstraction of a well-formed pair of few atoms and at most so many parts in each heap is well formed, with at most so many. (One
-- call in the search may add very many facts, but few atoms.)
abbrev pub AbstractPairIsWithin : Type 0
AbstractPairIsWithin =
    (parts : ℕ) (structs kinds : List StructDef) (slots : ℕ) (pair form : Pair) (flow : Flow) (mark : HeadMark) → parts ≤ 131100000 →
    AreStructs structs → slots ≤ 32768 → length flow.params ≤ 32768 → IsPair (with_at_most parts) structs (length flow.params) slots pair →
    length pair.missing.spatial ≤ 12000 → length pair.state.heap.spatial ≤ 12000 → abstract_pair pair flow mark kinds ≡ Some form →
    IsPair (with_at_most parts) structs (length flow.params) slots form

-- the abstraction of a well-formed candidate is
abbrev pub AbstractPreIsWellFormed : Type 0
AbstractPreIsWellFormed =
    (structs : List StructDef) (missing form : SymHeap) (params : ℕ) → AreStructs structs → params ≤ 32768 →
    IsSymHeap widest structs params missing →
    abstract_pre missing params ≡ Some form → IsSymHeap widest structs params form
