-- How pairs and candidates are listed in a search, and how paths are dropped.
use Rattle.std.specs.Prelude.{ℕ, if◌then◌else◌, leb, List, [], ◌∷◌, ◌++◌, length, slice_index_or, slice_set}
use Rattle.std.specs.List.{list_any}
use Rattle.std.specs.Option.{option_or}
use Rattle.std.specs.declared.option.Option.{Option}
use Rattle.std.specs.declared.option.Option.TheVariants.{None, Some}
use Rattle.shape_data.specs.declared.answer.Fault.{Fault}
use Rattle.shape_data.specs.declared.answer.Fault.TheVariants as fault
use Rattle.shape_data.specs.declared.symbolic.SymHeap.{SymHeap}
use Rattle.sym_canon.specs.declared.parts.Pair.{Pair}
use Rattle.sym_samples.specs.Samples.{has_plain_sources}
use Rattle.solve_laws.specs.Certificates.Sameness.{same_heap}
use Rattle.solve_laws.specs.declared.candidates.parts.Dropped.{Dropped}
use Rattle.solve_laws.specs.Candidates.Coming.{has_many_parts, same_pair}

-- where a search stands: the listed pairs of each node, those whose turn is still to come, each with its node, the candidates, and
-- the first drop
pub record Search : Type 0 where
  pub nodes : List (List Pair)
  pub queue : List (ℕ × Pair)
  pub pres : List SymHeap
  pub first_drop : Option Dropped

-- a path is dropped at a line; the first drop stays
abbrev pub drops : Fault → ℕ → Search → Search
drops cause line search = record {
  nodes = search.nodes;
  queue = search.queue;
  pres = search.pres;
  first_drop = option_or search.first_drop (Some (record { fault = cause; line = line }));
}

-- a contradiction is left out: it changes nothing
abbrev pub unless_none : {A : Type 0} → (A → Search → Search) → Option A → Search → Search
unless_none comes None search = search
unless_none comes (Some thing) search = comes thing search

-- A PAIR COMES TO A NODE

-- the listed pairs of a node
abbrev pub listed_at : ℕ → Search → List Pair
listed_at node search = slice_index_or search.nodes node []

-- the pair is listed at the node, and queued
abbrev pub with_pair : ℕ → Pair → Search → Search
with_pair node pair search = record {
  nodes = slice_set search.nodes node (listed_at node search ++ pair ∷ []);
  queue = search.queue ++ (node, pair) ∷ [];
  pres = search.pres;
  first_drop = search.first_drop;
}

-- over 96 parts in a heap: it is dropped with `Parts`; equal to a listed one of the node: it is left out; the seventeenth: it is
-- dropped with `States`; else it is listed and queued. The line is that of the node whose execution gave it
abbrev pub pair_comes : ℕ → ℕ → Pair → Search → Search
pair_comes line node pair search =
    if has_many_parts pair
    then drops fault.Parts line search
    else if list_any (same_pair pair) (listed_at node search)
    then search
    else if leb 16 (length (listed_at node search))
    then drops fault.States line search
    else with_pair node pair search

-- A CANDIDATE COMES

-- how many candidates there are at most
abbrev pub MOST_CANDIDATES : ℕ
MOST_CANDIDATES = 8

-- one more candidate; after eight the rest is left out
abbrev pub with_candidate : SymHeap → Search → Search
with_candidate pre search =
    if leb MOST_CANDIDATES (length search.pres)
    then search
    else record { nodes = search.nodes; queue = search.queue; pres = search.pres ++ pre ∷ []; first_drop = search.first_drop }

-- equal to an earlier one: it is left out; sources that are not pairwise distinct variables: it is dropped with `Alias`
abbrev pub candidate_comes : ℕ → SymHeap → Search → Search
candidate_comes line pre search =
    if list_any (same_heap pre) search.pres
    then search
    else if has_plain_sources pre
    then with_candidate pre search
    else drops fault.Alias line search
