-- What holds of each atom holds of each that the second and the third rule leave, if it holds of Junk and of the segments that
-- joins make.
use Rattle.std.specs.Prelude.{◌≡◌, ℕ, zero, suc, Bool, true, false, ◌==◌, List, [], ◌∷◌, filter, length, slice_set, All}
use Rattle.std.specs.List.{list_all}
use Rattle.std.specs.declared.option.Option.{Option}
use Rattle.std.specs.declared.option.Option.TheVariants.{None, Some}
use Rattle.std.proofs.Common.{refl}
use Rattle.std.proofs.lemmas.List.Elements.{All-append, All-cons, All-filter, All-nil, All-set}
use Rattle.shape_data.specs.declared.symbolic.Atom.{Atom}
use Rattle.shape_data.specs.declared.symbolic.Atom.TheVariants.{Junk}
use Rattle.shape_data.specs.declared.symbolic.Exp.{Exp}
use Rattle.shape_data.specs.declared.symbolic.Exp.TheVariants.{Var, Const}
use Rattle.shape_data.specs.declared.symbolic.SymHeap.{SymHeap}
use Rattle.shape_data.specs.declared.symbolic.SymState.{SymState}
use Rattle.sym_pure.proofs.EachLaws.{All-get, All-remove}
use Rattle.sym_canon.specs.declared.parts.Pair.{Pair}
use Rattle.abstraction_laws.specs.Joining.{IsJoin, Join, find_join, segment_of, start_of, with_join}
use Rattle.abstraction_laws.specs.Pairs.{join_pair, join_pair_once, join_pair_times, may_join, pair_with_join, state_joined_at}
use Rattle.abstraction_laws.specs.Reaching.{is_kept, keep_reached, keep_seen, seen_from}
use Rattle.abstraction_laws.specs.Repeating.{is_inner, join_inner, reduce, reduce_once, reduce_times, size_of}
use Rattle.abstraction_laws.proofs.JoinLaws.{found-is}

module _ (P : Atom → Type 0) (junk : P Junk)
    (joined : (v : Exp) (one other segment : Atom) → start_of other ≡ Some v → segment_of v one other ≡ Some segment → P one → P other
    → P segment) where
  pub kept-each : (locals : List Exp) (atoms : List Atom) → All P atoms → All P (keep_reached locals atoms)
  kept-each locals atoms h = by_test (list_all (is_kept (seen_from locals atoms)) atoms) refl
    where
      by_test : (b : Bool) → list_all (is_kept (seen_from locals atoms)) atoms ≡ b → All P (keep_seen (seen_from locals atoms) atoms)
      by_test true e = rw e h
      by_test false e =
          rw e (All-append P (filter (is_kept (seen_from locals atoms)) atoms) (Junk ∷ [])
          (All-filter (is_kept (seen_from locals atoms)) P atoms h) (All-cons P Junk [] junk (All-nil P)))

  pub found-each : (may : ℕ → Bool) (atoms : List Atom) → All P atoms → All P (with_join atoms (find_join may atoms))
  found-each may atoms h = by_found (find_join may atoms) refl
    where
      by_found : (o : Option Join) → find_join may atoms ≡ o → All P (with_join atoms o)
      by_found None e = h
      by_found (Some join) e =
          let is : IsJoin atoms join = found-is may atoms join e in
          All-remove P (slice_set atoms join.first join.segment) join.second
          (All-set P atoms join.first join.segment
          (joined join.middle is.one is.other join.segment is.starts is.makes (All-get P atoms join.first is.one is.one_there h)
          (All-get P atoms join.second is.other is.other_there h)) h)

  inner-each : (joins : Bool) (locals : List Exp) (atoms : List Atom) → All P atoms → All P (join_inner joins locals atoms)
  inner-each true locals atoms h = found-each (is_inner locals) atoms h
  inner-each false locals atoms h = h

  pub once-each : (joins : Bool) (locals : List Exp) (heap : SymHeap) → All P heap.spatial → All P (reduce_once joins locals heap).spatial
  once-each joins locals heap h = inner-each joins locals (keep_reached locals heap.spatial) (kept-each locals heap.spatial h)

  times-each : (turns : ℕ) (joins : Bool) (locals : List Exp) (heap : SymHeap) → All P heap.spatial
      → All P (reduce_times turns joins locals heap).spatial
  times-each zero joins locals heap h = h
  times-each (suc turns) joins locals heap h = times-each turns joins locals (reduce_once joins locals heap) (once-each joins locals heap h)

  pub reduce-each : (joins : Bool) (locals : List Exp) (heap : SymHeap) → All P heap.spatial → All P (reduce joins locals heap).spatial
  reduce-each joins locals heap h = times-each (size_of heap) joins locals heap h

  -- both heaps of a pair
  abbrev pub InPair : Pair → Type 0
  InPair pair = All P pair.missing.spatial × All P pair.state.heap.spatial

  at-each : (state : SymState) (middle : Exp) → All P state.heap.spatial → All P (state_joined_at state middle).heap.spatial
  at-each state (Var x) h = found-each (λ y. y == x) state.heap.spatial h
  at-each state (Const n) h = h

  pub pair_once-each : (params : ℕ) (pair : Pair) → InPair pair → InPair (join_pair_once params pair)
  pair_once-each params pair h =
      by_found (find_join (may_join params pair.state) pair.missing.spatial) refl
      (found-each (may_join params pair.state) pair.missing.spatial h.0)
    where
      by_found : (o : Option Join) → find_join (may_join params pair.state) pair.missing.spatial ≡ o
          → All P (with_join pair.missing.spatial o) → InPair (pair_with_join pair o)
      by_found None e k = h
      by_found (Some join) e k = (k, at-each pair.state join.middle h.1)

  pair_times-each : (turns params : ℕ) (pair : Pair) → InPair pair → InPair (join_pair_times turns params pair)
  pair_times-each zero params pair h = h
  pair_times-each (suc turns) params pair h = pair_times-each turns params (join_pair_once params pair) (pair_once-each params pair h)

  pub join_pair-each : (params : ℕ) (pair : Pair) → InPair pair → InPair (join_pair params pair)
  join_pair-each params pair h = pair_times-each (length pair.missing.spatial) params pair h

  -- the state alone
  state_once-each : (params : ℕ) (pair : Pair) → All P pair.state.heap.spatial → All P (join_pair_once params pair).state.heap.spatial
  state_once-each params pair h = by_found (find_join (may_join params pair.state) pair.missing.spatial)
    where
      by_found : (o : Option Join) → All P (pair_with_join pair o).state.heap.spatial
      by_found None = h
      by_found (Some join) = at-each pair.state join.middle h

  pub state_times-each : (turns params : ℕ) (pair : Pair) → All P pair.state.heap.spatial
      → All P (join_pair_times turns params pair).state.heap.spatial
  state_times-each zero params pair h = h
  state_times-each (suc turns) params pair h = state_times-each turns params (join_pair_once params pair) (state_once-each params pair h)
