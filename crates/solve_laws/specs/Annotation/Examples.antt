-- Annotations by hand: of a procedure that reads a field, one that walks along a list, one that calls another, and one that calls itself;
-- and listings at their limits.
use Rattle.std.specs.Prelude.{ℕ, Bool, true, false, List, [], ◌∷◌, replicate}
use Rattle.shape_data.specs.declared.answer.Callee.{Callee}
use Rattle.shape_data.specs.declared.program.Flow.{Flow}
use Rattle.shape_data.specs.declared.symbolic.Cert.{Cert}
use Rattle.shape_data.specs.declared.symbolic.Exp.TheVariants.{Var}
use Rattle.shape_data.specs.declared.symbolic.Fact.TheVariants.{Eq, Ne}
use Rattle.shape_data.specs.declared.symbolic.Post.{Post}
use Rattle.shape_data.specs.declared.symbolic.SymHeap.{SymHeap}
use Rattle.shape_data.specs.declared.symbolic.SymState.{SymState}
use Rattle.sym_parts.specs.Shapes.Examples.{node_struct}
use Rattle.sym_matching.specs.Examples.{any, cell, heap, list, null, state}
use Rattle.exec_laws.specs.Examples.{callee, post}
use Rattle.solve_laws.specs.Certificates.Coming.{Task}
use Rattle.solve_laws.specs.Certificates.Examples.{cert, get_flow, get_spec, read_flow, walk_body, walk_end, walk_head, whole_list}
use Rattle.solve_laws.specs.Annotation.Listing.{Listing}

-- the strict analysis of a procedure whose callees are these
abbrev pub strict : Flow → List Callee → Task
strict flow callees =
    record { flow = flow; structs = node_struct ∷ []; table = record { own = []; outer = callees; cut = false }; recursive = false }

-- the analysis of a procedure that calls itself, while no spec of it is known: strict, or under a cut table
abbrev pub unknown : Flow → Bool → Task
unknown flow cut =
    record {
      flow = flow;
      structs = node_struct ∷ [];
      table = record { own = callee flow.name flow.params [] ∷ []; outer = []; cut = cut };
      recursive = true;
    }

-- the procedure that reads, where the one that it calls has its spec
abbrev pub read_task : Task
read_task = strict read_flow (callee get_flow.name get_flow.params (get_spec ∷ []) ∷ [])

-- `x=0`
abbrev pub null_heap : SymHeap
null_heap = heap (Eq (Var 0) null ∷ []) []

-- `x!=x`, which no heap meets
abbrev pub no_heap : SymHeap
no_heap = heap (Ne (Var 0) (Var 0) ∷ []) []

-- no state comes to any of four nodes
abbrev pub nothing_cert : Cert
nothing_cert = cert ([] ∷ [] ∷ [] ∷ [] ∷ []) []

-- the list from x: it may be empty; it may have one node; else there is a list up to what x has come to, and one from there
abbrev pub walk_exits : List Post
walk_exits = post null null_heap ∷ post null (heap [] (cell (Var 0) (any 1) null ∷ [])) ∷ post null whole_list ∷ []

abbrev pub walk_whole_cert : Cert
walk_whole_cert =
    cert (
    (record { locals = Var 0 ∷ []; heap = whole_list } ∷ state (any 1 ∷ []) [] (cell (Var 0) (any 2) (any 1) ∷ list (any 1) null ∷ [])
    ∷ walk_head ∷ []) ∷
    (state (Var 0 ∷ []) (Ne (Var 0) null ∷ []) (list (Var 0) null ∷ [])
    ∷ state (any 1 ∷ []) (Ne (any 1) null ∷ []) (cell (Var 0) (any 2) (any 1) ∷ list (any 1) null ∷ []) ∷ walk_body ∷ []) ∷
    (record { locals = null ∷ []; heap = null_heap } ∷ state (null ∷ []) [] (cell (Var 0) (any 1) null ∷ []) ∷ walk_end ∷ [])
    ∷ []) walk_exits

-- under a cut table the call of the procedure that calls itself leads nowhere: only the empty list is known, whose length is forgotten
abbrev pub length_cut_cert : Cert
length_cut_cert =
    cert (
    (record { locals = Var 0 ∷ null ∷ null ∷ null ∷ []; heap = whole_list } ∷ []) ∷
    (record { locals = null ∷ null ∷ null ∷ null ∷ []; heap = null_heap } ∷ []) ∷
    (state (Var 0 ∷ null ∷ null ∷ null ∷ []) (Ne (Var 0) null ∷ []) (list (Var 0) null ∷ []) ∷ []) ∷
    (state (Var 0 ∷ null ∷ any 1 ∷ null ∷ []) [] (cell (Var 0) (any 2) (any 1) ∷ list (any 1) null ∷ []) ∷ []) ∷ [] ∷ [] ∷ [] ∷ [] ∷ [])
    (post (any 1) null_heap ∷ [])

-- THE LIMITS

-- a listing of one node, where these are listed, these are the exits, and these wait
abbrev pub listing : List SymState → List Post → List (ℕ × SymState) → Listing
listing states exits queue = record { nodes = states ∷ []; exits = exits; queue = queue }

-- the local is x, or 0
abbrev pub x_state : SymState
x_state = state (Var 0 ∷ []) [] []

abbrev pub null_state : SymState
null_state = state (null ∷ []) [] []

-- a heap of so many facts
abbrev pub large_heap : ℕ → SymHeap
large_heap count = heap (replicate count (Ne (Var 0) null)) []

abbrev pub large_state : ℕ → SymState
large_state count = record { locals = Var 0 ∷ []; heap = large_heap count }

-- so many times the same is listed
abbrev pub listed : ℕ → List SymState
listed count = replicate count null_state

abbrev pub exits_before : ℕ → List Post
exits_before count = replicate count (post null (heap [] []))

-- x is the local of a procedure that reads a field: it is null, or it is in no cell
abbrev pub reads_null : SymState
reads_null = state (null ∷ null ∷ []) [] []

abbrev pub reads_unowned : SymState
reads_unowned = state (Var 0 ∷ null ∷ []) [] []
