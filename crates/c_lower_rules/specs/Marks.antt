-- The marks of loop heads.
use Rattle.std.specs.Prelude.{ℕ, suc, ◌-◌, ◌==◌, Bool, true, false, ◌&&◌, ◌||◌, not, Option, Some, None, List, [], ◌∷◌, take, drop}
use Rattle.std.specs.Prelude.{if◌then◌else◌}
use Rattle.shape_data.specs.declared.program.Cmd.{Cmd}
use Rattle.shape_data.specs.declared.program.Cmd.TheVariants as cmd
use Rattle.shape_data.specs.declared.program.HeadMark.{HeadMark}
use Rattle.shape_data.specs.declared.program.Node.{Node}
use Rattle.shape_data.specs.declared.program.Ty.{Ty}
use Rattle.shape_data.specs.declared.program.Ty.TheVariants.{Int}
use Rattle.c_lower_rules.specs.Code.{Loop}

-- the result of a call goes to the slot
abbrev pub goes_to : Option ℕ → ℕ → Bool
goes_to None n = false
goes_to (Some one) n = one == n

-- a command assigns the slot
abbrev pub assigns : Cmd → ℕ → Bool
assigns (cmd.Copy to from next) slot = to == slot
assigns (cmd.Arith to op left right next) slot = to == slot
assigns (cmd.Any to kind next) slot = to == slot
assigns (cmd.Load to base kind field next) slot = to == slot
assigns (cmd.New to kind next) slot = to == slot
assigns (cmd.Call to callee args next) slot = goes_to to slot
assigns _ slot = false

-- some node assigns the slot
abbrev pub assigned : List Node → ℕ → Bool
assigned [] slot = false
assigned (first ∷ others) slot = assigns first.cmd slot || assigned others slot

-- the nodes of a loop, of all nodes
abbrev pub nodes_of : List Node → Loop → List Node
nodes_of nodes loop = take (loop.past - loop.head) (drop loop.head nodes)

-- a node of some of the loops assigns the slot
abbrev pub assigned_in : List Node → List Loop → ℕ → Bool
assigned_in nodes [] slot = false
assigned_in nodes (first ∷ others) slot = assigned (nodes_of nodes first) slot || assigned_in nodes others slot

-- the type is `int`
abbrev pub is_int : Ty → Bool
is_int Int = true
is_int _ = false

-- the slots, numbered from one on, whose type and number pass a test
abbrev pub slots_that : (ℕ → Ty → Bool) → ℕ → List Ty → List ℕ
slots_that passes slot [] = []
slots_that passes slot (kind ∷ kinds) =
    if passes slot kind then slot ∷ slots_that passes (suc slot) kinds else slots_that passes (suc slot) kinds

-- the slot is one of these
abbrev pub is_listed : List ℕ → ℕ → Bool
is_listed [] n = false
is_listed (first ∷ others) n = (first == n) || is_listed others n

-- the mark of the head of loops: the int slots that a node of one of them assigns, and the slots that hold no variable in scope
-- at the head: temporaries, and locals out of scope
abbrev pub mark : List Ty → List Node → Loop → List Loop → HeadMark
mark slots nodes first others = record {
  ints = slots_that (λ slot kind. is_int kind && assigned_in nodes (first ∷ others) slot) 0 slots;
  dead = slots_that (λ slot kind. not (is_listed first.visible slot)) 0 slots;
}

-- the mark that the loops with their head at a node give it, if there are any
abbrev pub mark_by : List Ty → List Node → List Loop → Option HeadMark
mark_by slots nodes [] = None
mark_by slots nodes (first ∷ others) = Some (mark slots nodes first others)

-- the loops that have their head at the place
abbrev pub loops_at : ℕ → List Loop → List Loop
loops_at place [] = []
loops_at place (first ∷ others) = if first.head == place then first ∷ loops_at place others else loops_at place others

-- the nodes that are left, from a place on, with the marks of the loops that have their heads there
abbrev pub marked_from : List Ty → List Node → List Loop → ℕ → List Node → List Node
marked_from slots nodes loops place [] = []
marked_from slots nodes loops place (first ∷ others) =
    record first { head = mark_by slots nodes (loops_at place loops) } ∷ marked_from slots nodes loops (suc place) others

-- all nodes, with the marks of these loops
abbrev pub marked : List Ty → List Loop → List Node → List Node
marked slots loops nodes = marked_from slots nodes loops 0 nodes
