-- How states and exits are listed: what comes is left out where a listed one covers it, and there is room for sixteen at each node,
-- and for sixteen exits.
use Rattle.std.specs.Prelude.{ℕ, if◌then◌else◌, leb, ltb, List, [], ◌∷◌, ◌++◌, ◌+◌, length, slice_index_or, slice_set}
use Rattle.std.specs.declared.option.Option.{Option}
use Rattle.std.specs.declared.option.Option.TheVariants.{None, Some}
use Rattle.shape_data.specs.declared.answer.Budget.TheVariants as budget
use Rattle.shape_data.specs.declared.symbolic.Post.{Post}
use Rattle.shape_data.specs.declared.symbolic.SymHeap.{SymHeap}
use Rattle.shape_data.specs.declared.symbolic.SymState.{SymState}
use Rattle.solve_laws.specs.Certificates.Coverings.{is_covered, is_post_covered}
use Rattle.solve_laws.specs.declared.annotation.parts.Annotated.{Annotated}
use Rattle.solve_laws.specs.declared.annotation.parts.Annotated.TheVariants.{Spent}

-- LIMITS

-- the most parts of a heap, atoms and facts
abbrev pub MOST_PARTS : ℕ
MOST_PARTS = 96

-- the most states of a node, and the most exits
abbrev pub MOST_STATES : ℕ
MOST_STATES = 16

-- the parts of a heap: facts and atoms
abbrev pub parts_of : SymHeap → ℕ
parts_of heap = length heap.pure + length heap.spatial

-- LISTINGS

-- what was listed so far: the states of each node, the exits, and the states whose turn is still to come, each with its node
pub record Listing : Type 0 where
  pub nodes : List (List SymState)
  pub exits : List Post
  pub queue : List (ℕ × SymState)

-- an annotation goes on with a listing, or it ends
pub data Course : Type 0 where
  Goes : (listing : Listing) → Course
  Ends : (annotated : Annotated) → Course

-- it goes on from where it stands, unless it ended
abbrev pub then_on : (Listing → Course) → Course → Course
then_on go_on (Goes listing) = go_on listing
then_on go_on (Ends annotated) = Ends annotated

-- things come one after the other
abbrev pub all_come : {A : Type 0} → (A → Listing → Course) → List A → Listing → Course
all_come comes [] listing = Goes listing
all_come comes (thing ∷ things) listing = then_on (all_come comes things) (comes thing listing)

-- a contradiction is left out: it changes nothing
abbrev pub unless_none : {A : Type 0} → (A → Listing → Course) → Option A → Listing → Course
unless_none comes None listing = Goes listing
unless_none comes (Some thing) listing = comes thing listing

-- A STATE COMES TO A NODE

-- the listed states of a node
abbrev pub listed_at : ℕ → Listing → List SymState
listed_at node listing = slice_index_or listing.nodes node []

-- the state is listed at the node, and queued
abbrev pub with_state : ℕ → SymState → Listing → Listing
with_state node state listing = record {
  nodes = slice_set listing.nodes node (listed_at node listing ++ state ∷ []);
  exits = listing.exits;
  queue = listing.queue ++ (node, state) ∷ [];
}

-- it has too many parts: the parts are spent; a listed state of the node covers it: it is left out; the node has sixteen: the states
-- are spent; else it is listed and queued
abbrev pub state_comes : ℕ → SymState → Listing → Course
state_comes node state listing =
    if ltb MOST_PARTS (parts_of state.heap)
    then Ends (Spent budget.Parts 97)
    else if is_covered (listed_at node listing) state
    then Goes listing
    else if leb MOST_STATES (length (listed_at node listing))
    then Ends (Spent budget.States 17)
    else Goes (with_state node state listing)

-- AN EXIT COMES

-- the exit is listed
abbrev pub with_exit : Post → Listing → Listing
with_exit post listing = record { nodes = listing.nodes; exits = listing.exits ++ post ∷ []; queue = listing.queue }

-- likewise
abbrev pub exit_comes : Post → Listing → Course
exit_comes post listing =
    if ltb MOST_PARTS (parts_of post.heap)
    then Ends (Spent budget.Parts 97)
    else if is_post_covered listing.exits post
    then Goes listing
    else if leb MOST_STATES (length listing.exits)
    then Ends (Spent budget.States 17)
    else Goes (with_exit post listing)
