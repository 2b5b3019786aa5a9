-- The canonical form of a state, of a post, and of a pair.
use Rattle.std.specs.Prelude.{ℕ, List, [], ◌∷◌}
use Rattle.shape_data.specs.declared.symbolic.Post.{Post}
use Rattle.shape_data.specs.declared.symbolic.SymHeap.{SymHeap}
use Rattle.shape_data.specs.declared.symbolic.SymState.{SymState}
use Rattle.sym_parts.specs.Laws.Mapped.{on_heap, on_state}
use Rattle.sym_canon.specs.declared.parts.Variables.{Variables}
use Rattle.sym_canon.specs.declared.parts.Variables.TheVariants.{Existential, Further}
use Rattle.sym_canon.specs.declared.parts.Pair.{Pair}
use Rattle.sym_canon.specs.FactOrder.{sorted_facts}
use Rattle.sym_canon.specs.Numbering.{sight, sight_heap, with_number}
use Rattle.sym_canon.specs.Placing.{placed}

-- the variables of a state, by first sight: the locals', then the heap's
abbrev pub sight_state : Variables → SymState → List ℕ → List ℕ
sight_state which state seen = sight_heap which state.heap (sight which state.locals seen)

-- the state with its atoms in their order
abbrev pub with_atoms_placed : ℕ → SymState → SymState
with_atoms_placed params state = record {
  locals = state.locals;
  heap = record { pure = state.heap.pure; spatial = placed params state.locals state.heap.spatial };
}

-- the state with its existential variables numbered by first sight
abbrev pub with_existentials_numbered : SymState → SymState
with_existentials_numbered state = on_state (with_number 65536 (sight_state Existential state [])) state

-- the heap with its facts in order
abbrev pub with_facts_sorted : SymHeap → SymHeap
with_facts_sorted heap = record { pure = sorted_facts heap.pure; spatial = heap.spatial }

-- the state with its atoms in order and its existential variables numbered; its facts are not sorted yet
abbrev pub arranged : ℕ → SymState → SymState
arranged params state = with_existentials_numbered (with_atoms_placed params state)

-- the state with its facts in order
abbrev pub state_with_facts_sorted : SymState → SymState
state_with_facts_sorted state = record { locals = state.locals; heap = with_facts_sorted state.heap }

-- the canonical form of a state: atoms placed, then existential variables numbered, then facts sorted
abbrev pub canon_state : SymState → ℕ → SymState
canon_state state params = state_with_facts_sorted (arranged params state)

-- a post as a state with one local, the result
abbrev pub as_state : Post → SymState
as_state post = record { locals = post.ret ∷ []; heap = post.heap }

-- the canonical form of a post is that of the state
abbrev pub canon_post : Post → ℕ → Post
canon_post post params = record {
  ret = with_number 65536 (sight_state Existential (with_atoms_placed params (as_state post)) []) post.ret;
  heap = (canon_state (as_state post) params).heap;
}

-- a heap as a state without locals
abbrev pub without_locals : SymHeap → SymState
without_locals heap = record { locals = []; heap = heap }

-- the logical variables of a pair that are no parameters, by first sight: the missing heap's, then the state's
abbrev pub sight_pair : ℕ → SymState → SymState → List ℕ
sight_pair params missing state = sight_state (Further params) state (sight_state (Further params) missing [])

-- both parts with these variables numbered, and then with their facts in order
abbrev pub pair_numbered : ℕ → List ℕ → SymState → SymState → Pair
pair_numbered params seen missing state = record {
  missing = with_facts_sorted (on_heap (with_number params seen) missing.heap);
  state = state_with_facts_sorted (on_state (with_number params seen) state);
}

-- the parts arranged each by itself, their logical variables numbered together
abbrev pub pair_arranged : ℕ → SymState → SymState → Pair
pair_arranged params missing state = pair_numbered params (sight_pair params missing state) missing state

-- the canonical form of a pair of a missing heap and a state
abbrev pub canon_pair : SymHeap → SymState → ℕ → Pair
canon_pair missing state params = pair_arranged params (arranged params (without_locals missing)) (arranged params state)
