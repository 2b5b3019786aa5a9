-- Annotation of a precondition: states are executed strictly, first in first out, and what comes of them is abstracted and listed. When
-- no state waits for its turn, the posts are taken from the exits, and all that is listed is the certificate.
use Rattle.std.specs.Prelude.{ℕ, zero, suc, if◌then◌else◌, List, [], ◌∷◌, map}
use Rattle.shape_data.specs.declared.answer.Budget.TheVariants as budget
use Rattle.shape_data.specs.declared.symbolic.Post.{Post}
use Rattle.shape_data.specs.declared.symbolic.SymHeap.{SymHeap}
use Rattle.shape_data.specs.declared.symbolic.SymState.{SymState}
use Rattle.exec_laws.specs.declared.parts.Step.{Step}
use Rattle.exec_laws.specs.declared.parts.Step.TheVariants as step
use Rattle.solve_laws.specs.Certificates.Coming.{Task, at_exit, at_node, start_at_node}
use Rattle.solve_laws.specs.Certificates.Coverings.{is_post_covered}
use Rattle.solve_laws.specs.Certificates.Inductive.{execution}
use Rattle.solve_laws.specs.declared.annotation.parts.Annotated.{Annotated}
use Rattle.solve_laws.specs.declared.annotation.parts.Annotated.TheVariants.{Done, Fail, Spent}
use Rattle.solve_laws.specs.Annotation.Listing.{Course, Ends, Goes, Listing, all_come, exit_comes, state_comes, then_on, unless_none}

-- A TURN

-- a state that an execution gave is abstracted, and comes to its node
abbrev pub result_comes : Task → ℕ × SymState → Listing → Course
result_comes task (node, state) listing = unless_none (state_comes node) (at_node task node state) listing

-- a post that an execution gave is abstracted, and comes to the exits
abbrev pub post_comes : Task → Post → Listing → Course
post_comes task post listing = unless_none exit_comes (at_exit task post) listing

-- what an execution gave comes in order (of one node either states come or exits); a failure ends the annotation
abbrev pub after_step : Task → Step → Listing → Course
after_step task (step.Next nexts exits) listing = then_on (all_come (post_comes task) exits) (all_come (result_comes task) nexts listing)
after_step task (step.Fail cause line) listing = Ends (Fail cause line)

-- the turn of a state at a node
abbrev pub turn_of : Task → ℕ → SymState → Listing → Course
turn_of task node state listing = after_step task (execution task node state) listing

-- POSTS

-- a post, unless a later one that is kept covers it
abbrev pub keep_unless : Post → List Post → List Post
keep_unless post later = if is_post_covered later post then later else post ∷ later

-- the posts, going from the last exit to the first: those that no later kept exit covers, in their own order
abbrev pub kept : List Post → List Post
kept [] = []
kept (post ∷ posts) = keep_unless post (kept posts)

-- no state waits: the posts, and the certificate of all that is listed
abbrev pub all_done : Listing → Annotated
all_done listing = Done (kept listing.exits) (record { nodes = listing.nodes; exits = listing.exits })

-- ALL TURNS

-- how many turns there are at most
abbrev pub MOST_TURNS : ℕ
MOST_TURNS = 2048

-- how it ends, or what comes of further turns
abbrev pub end_of : (Listing → Annotated) → Course → Annotated
end_of again (Goes listing) = again listing
end_of again (Ends annotated) = annotated

-- no turn is left: done, if no state waits; else the turns are spent
abbrev pub without_turns : Listing → List (ℕ × SymState) → Annotated
without_turns listing [] = all_done listing
without_turns listing (item ∷ queue) = Spent budget.Turns 2049

-- the first of the queue has its turn, and so again
abbrev pub with_turn : (Listing → Annotated) → Task → Listing → List (ℕ × SymState) → Annotated
with_turn again task listing [] = all_done listing
with_turn again task listing ((node, state) ∷ queue) =
    end_of again (turn_of task node state (record { nodes = listing.nodes; exits = listing.exits; queue = queue }))

-- so many turns are left
abbrev pub turns : ℕ → Task → Listing → Annotated
turns zero task listing = without_turns listing listing.queue
turns (suc left) task listing = with_turn (turns left task) task listing listing.queue

-- nothing is listed
abbrev pub empty_listing : Task → Listing
empty_listing task = record { nodes = map (λ node. []) task.flow.nodes; exits = []; queue = [] }

-- what is listed when the start state has come to node 0
abbrev pub started : Task → SymHeap → Course
started task pre = unless_none (state_comes 0) (start_at_node task pre) (empty_listing task)

-- ANNOTATE: the start state comes to node 0, and then there are turns
unfoldable pub annotate : Task → SymHeap → Annotated
annotate task pre = end_of (turns MOST_TURNS task) (started task pre)
