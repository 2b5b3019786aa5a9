-- The rules are repeated often enough: as often as they are, nothing changes any more.
use Rattle.std.specs.Prelude.{◌≡◌, ◌≢◌, ◌⊎◌, ℕ, zero, suc, ◌+◌, ◌-◌, ◌<◌, ◌≤◌, Bool, true, false, not, ◌==◌, if◌then◌else◌, List, [], ◌∷◌}
use Rattle.std.specs.Prelude.{◌++◌, length, filter, slice_get, slice_set, position, is_some}
use Rattle.std.specs.List.{list_all, remove}
use Rattle.std.specs.declared.option.Option.{Option}
use Rattle.std.specs.declared.option.Option.TheVariants.{None, Some}
use Rattle.std.proofs.Common.{refl, sym, ap, ap₂, subst, ◌∙◌, arith, inl, inr}
use Rattle.std.proofs.lemmas.Bool.{eqb-false, ne_eqb}
use Rattle.std.proofs.lemmas.List.{append-nil}
use Rattle.std.proofs.lemmas.List.Elements.{filter-append}
use Rattle.shape_data.specs.declared.symbolic.Atom.{Atom}
use Rattle.shape_data.specs.declared.symbolic.Atom.TheVariants.{Points, Seg, Junk}
use Rattle.shape_data.specs.declared.symbolic.Exp.{Exp}
use Rattle.shape_data.specs.declared.symbolic.Fact.{Fact}
use Rattle.shape_data.specs.declared.symbolic.SymHeap.{SymHeap}
use Rattle.sym_parts.specs.Laws.Expressions.{same_exp}
use Rattle.sym_parts.specs.Laws.Junks.{is_other}
use Rattle.sym_canon.specs.declared.parts.Pair.{Pair}
use Rattle.sym_pure.proofs.PartsLaws.{remove-shorter}
use Rattle.abstraction_laws.specs.Joining.{IsJoin, Join, end_by, find_join, join_first, segment_by, segment_of, segment_to, start_of}
use Rattle.abstraction_laws.specs.Joining.{with_join}
use Rattle.abstraction_laws.specs.Laws.{JoinPairIsDone, ReduceIsDone}
use Rattle.abstraction_laws.specs.Losing.{is_disequality_of, is_lost_among, lose}
use Rattle.abstraction_laws.specs.Occurrences.{exps_of_atoms}
use Rattle.abstraction_laws.specs.Pairs.{join_pair, join_pair_once, join_pair_times, may_join, pair_with_join}
use Rattle.abstraction_laws.specs.Reaching.{is_kept, keep_seen, keep_reached, seen_from}
use Rattle.abstraction_laws.specs.Repeating.{is_inner, join_inner, reduce, reduce_once, reduce_times, size_of}
use Rattle.abstraction_laws.proofs.JoinLaws.{found-is}

-- how many atoms there are other than Junk
abbrev others : List Atom → ℕ
others atoms = length (filter is_other atoms)

-- 1 for an atom other than Junk
abbrev one_of : Atom → ℕ
one_of (Points at kind fields) = 1
one_of (Seg kind link from to) = 1
one_of Junk = 0

others-cons : (atom : Atom) (atoms : List Atom) → others (atom ∷ atoms) ≡ one_of atom + others atoms
others-cons (Points at kind fields) atoms = omega arith
others-cons (Seg kind link from to) atoms = omega arith
others-cons Junk atoms = omega arith

one-other : (atom : Atom) → is_other atom ≡ true → one_of atom ≡ 1
one-other (Points at kind fields) h = refl
one-other (Seg kind link from to) h = refl
one-other Junk h = cc

-- ---- a filter changes nothing, or takes something

others-filter : (test : Atom → Bool) (atoms : List Atom) → others (filter test atoms) ≤ others atoms
others-filter test [] = omega arith
others-filter test (atom ∷ atoms) = by_test (test atom) refl (others-filter test atoms)
  where
    by_test : (b : Bool) → test atom ≡ b → others (filter test atoms) ≤ others atoms →
        others (filter test (atom ∷ atoms)) ≤ others (atom ∷ atoms)
    by_test true e k = rw e (omega (arith, others-cons atom atoms, others-cons atom (filter test atoms)))
    by_test false e k = rw e (omega (arith, others-cons atom atoms))

left-other : (seen : List Exp) (atom : Atom) → is_kept seen atom ≡ false → one_of atom ≡ 1
left-other seen (Points at kind fields) h = refl
left-other seen (Seg kind link from to) h = refl
left-other seen Junk h = cc

kept-fewer : (seen : List Exp) (atoms : List Atom) → list_all (is_kept seen) atoms ≡ false →
    others (filter (is_kept seen) atoms) < others atoms
kept-fewer seen [] h = cc
kept-fewer seen (atom ∷ atoms) h = by_test (is_kept seen atom) refl (λ k. kept-fewer seen atoms k)
  where
    by_test : (b : Bool) → is_kept seen atom ≡ b →
        (list_all (is_kept seen) atoms ≡ false → others (filter (is_kept seen) atoms) < others atoms) →
        others (filter (is_kept seen) (atom ∷ atoms)) < others (atom ∷ atoms)
    by_test true e go_on =
        let rest : list_all (is_kept seen) atoms ≡ false = rw e at h in
        let less : others (filter (is_kept seen) atoms) < others atoms = go_on rest in
        rw e (omega (arith, others-cons atom atoms, others-cons atom (filter (is_kept seen) atoms), less))
    by_test false e go_on =
        let one : one_of atom ≡ 1 = left-other seen atom e in
        let no_more : others (filter (is_kept seen) atoms) ≤ others atoms = others-filter (is_kept seen) atoms in
        rw e (omega (arith, others-cons atom atoms, one, no_more))

facts-step : (test : Fact → Bool) (facts : List Fact) → (filter test facts ≡ facts) ⊎ (length (filter test facts) < length facts)
facts-step test [] = inl refl
facts-step test (fact ∷ facts) = by_test (test fact) refl (facts-step test facts)
  where
    by_test : (b : Bool) → test fact ≡ b → (filter test facts ≡ facts) ⊎ (length (filter test facts) < length facts) →
        (filter test (fact ∷ facts) ≡ fact ∷ facts) ⊎ (length (filter test (fact ∷ facts)) < length (fact ∷ facts))
    by_test true e (inl same) = rw e (inl (ap (λ fs. fact ∷ fs) same))
    by_test true e (inr less) = rw e (inr (omega (arith, less)))
    by_test false e (inl same) =
        rw e (inr (let same_length : length (filter test facts) ≡ length facts = ap length same in omega (arith, same_length)))
    by_test false e (inr less) = rw e (inr (omega (arith, less)))

-- ---- the atoms

-- nothing changes, or there are fewer
abbrev AtomsStep : List Atom → List Atom → Type 0
AtomsStep atoms new = (new ≡ atoms) ⊎ (others new < others atoms)

step-then : (atoms more new : List Atom) → AtomsStep atoms more → AtomsStep more new → AtomsStep atoms new
step-then atoms more new (inl same) (inl also) = inl (also ∙ same)
step-then atoms more new (inl same) (inr less) = inr (subst (λ xs. others new < others xs) same less)
step-then atoms more new (inr less) (inl also) = inr (subst (λ xs. others xs < others atoms) (sym also) less)
step-then atoms more new (inr less) (inr fewer) = inr (omega (arith, less, fewer))

seen-step : (seen : List Exp) (atoms : List Atom) → AtomsStep atoms (keep_seen seen atoms)
seen-step seen atoms = by_test (list_all (is_kept seen) atoms) refl
  where
    by_test : (b : Bool) → list_all (is_kept seen) atoms ≡ b → AtomsStep atoms (keep_seen seen atoms)
    by_test true e = rw e (inl refl)
    by_test false e =
        let kept : List Atom = filter (is_kept seen) atoms in
        let same : filter is_other (kept ++ Junk ∷ []) ≡ filter is_other kept ++ [] = filter-append is_other kept (Junk ∷ []) in
        let less : others kept < others atoms = kept-fewer seen atoms e in
        rw e (inr (rw (same, append-nil (filter is_other kept)) less))

-- an atom other than Junk in the place of another
set-others : (atoms : List Atom) (place : ℕ) (old new : Atom) → slice_get atoms place ≡ Some old → one_of old ≡ one_of new →
    others (slice_set atoms place new) ≡ others atoms
set-others [] place old new is same = cc
set-others (first ∷ atoms) zero old new is same =
    let there : first ≡ old = cc in
    let one : one_of first ≡ one_of new = ap one_of there ∙ same in
    omega (arith, others-cons first atoms, others-cons new atoms, one)
set-others (first ∷ atoms) (suc place) old new is same =
    let later : others (slice_set atoms place new) ≡ others atoms = set-others atoms place old new is same in
    omega (arith, others-cons first atoms, others-cons first (slice_set atoms place new), later)

remove-others : (atoms : List Atom) (place : ℕ) (old : Atom) → slice_get atoms place ≡ Some old → one_of old ≡ 1 →
    others (remove atoms place) < others atoms
remove-others [] place old is one = cc
remove-others (first ∷ atoms) zero old is one =
    let there : first ≡ old = cc in
    let same : one_of first ≡ 1 = ap one_of there ∙ one in
    omega (arith, others-cons first atoms, same)
remove-others (first ∷ atoms) (suc place) old is one =
    let later : others (remove atoms place) < others atoms = remove-others atoms place old is one in
    omega (arith, others-cons first atoms, others-cons first (remove atoms place), later)

get-set_other : {A : Type 0} (xs : List A) (i j : ℕ) (new : A) → (i == j) ≡ false → slice_get (slice_set xs i new) j ≡ slice_get xs j
get-set_other [] i j new apart = refl
get-set_other (x ∷ xs) zero zero new apart = cc
get-set_other (x ∷ xs) zero (suc j) new apart = refl
get-set_other (x ∷ xs) (suc i) zero new apart = refl
get-set_other (x ∷ xs) (suc i) (suc j) new apart =
    get-set_other xs i j new (ne_eqb i j (λ same. eqb-false (suc i) (suc j) apart (ap suc same)))

-- the three atoms of a join are no Junk
start-other : (atom : Atom) (v : Exp) → start_of atom ≡ Some v → one_of atom ≡ 1
start-other (Points at kind fields) v h = refl
start-other (Seg kind link from to) v h = refl
start-other Junk v h = cc

to-other : (kind : List ℕ) (link : ℕ) (from : Exp) (o : Option Exp) (segment : Atom) → segment_to kind link from o ≡ Some segment →
    one_of segment ≡ 1
to-other kind link from None segment h = cc
to-other kind link from (Some to) segment h = let same : Seg kind link from to ≡ segment = cc in ap one_of (sym same)

segment-others : (v : Exp) (first second segment : Atom) → segment_of v first second ≡ Some segment →
    (one_of first ≡ 1) × (one_of segment ≡ 1)
segment-others v (Points at kind fields) second segment h = (refl, by_link (position (same_exp v) fields) h)
  where
    by_link : (o : Option ℕ) → segment_by kind at second o ≡ Some segment → one_of segment ≡ 1
    by_link None f = cc
    by_link (Some link) f = to-other kind link at (end_by kind link second) segment f
segment-others v (Seg kind link from to) second segment h = (refl, by_test (same_exp v to) h)
  where
    by_test : (b : Bool) → (if b then segment_to kind link from (end_by kind link second) else None) ≡ Some segment → one_of segment ≡ 1
    by_test true f = to-other kind link from (end_by kind link second) segment f
    by_test false f = cc
segment-others v Junk second segment h = cc

join-fewer : (atoms : List Atom) (join : Join) → IsJoin atoms join → others (with_join atoms (Some join)) < others atoms
join-fewer atoms join is =
    let ones = segment-others join.middle is.one is.other join.segment is.makes in
    let put : List Atom = slice_set atoms join.first join.segment in
    let as_many : others put ≡ others atoms = set-others atoms join.first is.one join.segment is.one_there (ones.0 ∙ sym ones.1) in
    let there : slice_get put join.second ≡ Some is.other =
    get-set_other atoms join.first join.second join.segment is.apart ∙ is.other_there in
    let less : others (remove put join.second) < others put =
    remove-others put join.second is.other there (start-other is.other join.middle is.starts) in
    omega (arith, as_many, less)

join-step : (may : ℕ → Bool) (atoms : List Atom) → AtomsStep atoms (join_first may atoms)
join-step may atoms = by_found (find_join may atoms) refl
  where
    by_found : (o : Option Join) → find_join may atoms ≡ o → AtomsStep atoms (with_join atoms o)
    by_found None e = inl refl
    by_found (Some join) e = inr (join-fewer atoms join (found-is may atoms join e))

inner-step : (joins : Bool) (locals : List Exp) (atoms : List Atom) → AtomsStep atoms (join_inner joins locals atoms)
inner-step true locals atoms = join-step (is_inner locals) atoms
inner-step false locals atoms = inl refl

-- ---- the heap

module _ (joins : Bool) (locals : List Exp) where
  pub once-step : (heap : SymHeap) → (reduce_once joins locals heap ≡ heap) ⊎ (size_of (reduce_once joins locals heap) < size_of heap)
  once-step heap =
      by_both atoms-step (facts-step (λ fact. not (is_disequality_of (is_lost_among 65536 (locals ++ exps_of_atoms atoms)) fact)) heap.pure)
    where
      atoms : List Atom
      atoms = join_inner joins locals (keep_reached locals heap.spatial)

      atoms-step : AtomsStep heap.spatial atoms
      atoms-step =
          step-then heap.spatial (keep_reached locals heap.spatial) atoms (seen-step (seen_from locals heap.spatial) heap.spatial)
          (inner-step joins locals (keep_reached locals heap.spatial))

      by_both : AtomsStep heap.spatial atoms →
          (lose locals atoms heap.pure ≡ heap.pure) ⊎ (length (lose locals atoms heap.pure) < length heap.pure) →
          (reduce_once joins locals heap ≡ heap) ⊎ (size_of (reduce_once joins locals heap) < size_of heap)
      by_both (inl same) (inl also) = inl (ap₂ (λ facts others. record { pure = facts; spatial = others }) also same)
      by_both (inl same) (inr less) =
          inr (let as_many : others atoms ≡ others heap.spatial = ap others same in omega (arith, as_many, less))
      by_both (inr less) (inl also) =
          inr (let as_many : length (lose locals atoms heap.pure) ≡ length heap.pure = ap length also in omega (arith, as_many, less))
      by_both (inr less) (inr fewer) = inr (omega (arith, less, fewer))

  -- a heap that does not change stays
  pub stays : (turns : ℕ) (heap : SymHeap) → reduce_once joins locals heap ≡ heap → reduce_times turns joins locals heap ≡ heap
  stays zero heap same = refl
  stays (suc turns) heap same = rw same (stays turns heap same)

  done : (turns : ℕ) (heap : SymHeap) → size_of heap ≤ turns →
      reduce_once joins locals (reduce_times turns joins locals heap) ≡ reduce_times turns joins locals heap
  done zero heap few = by_step (once-step heap)
    where
      by_step : (reduce_once joins locals heap ≡ heap) ⊎ (size_of (reduce_once joins locals heap) < size_of heap) →
          reduce_once joins locals heap ≡ heap
      by_step (inl same) = same
      by_step (inr less) = absurd (omega (arith, less, few))
  done (suc turns) heap few = by_step (once-step heap) (λ less. done turns (reduce_once joins locals heap) less)
    where
      by_step : (reduce_once joins locals heap ≡ heap) ⊎ (size_of (reduce_once joins locals heap) < size_of heap) →
          (size_of (reduce_once joins locals heap) ≤ turns →
          reduce_once joins locals (reduce_times turns joins locals (reduce_once joins locals heap))
          ≡ reduce_times turns joins locals (reduce_once joins locals heap)) →
          reduce_once joins locals (reduce_times (suc turns) joins locals heap) ≡ reduce_times (suc turns) joins locals heap
      by_step (inl same) go_on = let still : reduce_times (suc turns) joins locals heap
          ≡ heap = stays (suc turns) heap same in rw still same
      by_step (inr less) go_on = go_on (omega (arith, less, few))

pub reduce_is_done : ReduceIsDone
reduce_is_done joins locals heap = done joins locals (size_of heap) heap (omega arith)

-- so many turns and then more
times-more : (joins : Bool) (locals : List Exp) (turns more : ℕ) (heap : SymHeap) →
    reduce_times (turns + more) joins locals heap ≡ reduce_times more joins locals (reduce_times turns joins locals heap)
times-more joins locals zero more heap = let same : 0 + more ≡ more = omega arith in rw same refl
times-more joins locals (suc turns) more heap = let same : suc turns + more
    ≡ suc (turns + more) = omega arith in rw same (times-more joins locals turns more (reduce_once joins locals heap))

-- more turns than enough change nothing
enough : (joins : Bool) (locals : List Exp) (more : ℕ) (heap : SymHeap) →
    reduce_times (size_of heap + more) joins locals heap ≡ reduce joins locals heap
enough joins locals more heap = times-more joins locals (size_of heap) more heap
    ∙ stays joins locals more (reduce joins locals heap) (reduce_is_done joins locals heap)

-- to reduce a heap, reduce it once and go on
pub reduce-goes_on : (joins : Bool) (locals : List Exp) (heap : SymHeap) →
    reduce joins locals (reduce_once joins locals heap) ≡ reduce joins locals heap
reduce-goes_on joins locals heap = by_step (once-step joins locals heap)
  where
    once : SymHeap
    once = reduce_once joins locals heap

    by_step : (once ≡ heap) ⊎ (size_of once < size_of heap) → reduce joins locals once ≡ reduce joins locals heap
    by_step (inl same) = ap (reduce joins locals) same
    by_step (inr less) =
        let more : ℕ = size_of heap - (size_of once + 1) in
        let turns : size_of heap ≡ suc (size_of once + more) = omega (arith, less) in
        let first : reduce joins locals heap ≡ reduce_times (size_of once + more) joins locals once =
        ap (λ n. reduce_times n joins locals heap) turns in
        sym (first ∙ enough joins locals more once)

-- a heap of which one turn changes the size by nothing is reduced
pub reduced-stays : (joins : Bool) (locals : List Exp) (heap : SymHeap) → size_of (reduce_once joins locals heap) ≡ size_of heap →
    reduce joins locals heap ≡ reduce_once joins locals heap
reduced-stays joins locals heap as_large = by_step (once-step joins locals heap)
  where
    by_step : (reduce_once joins locals heap ≡ heap) ⊎ (size_of (reduce_once joins locals heap) < size_of heap) →
        reduce joins locals heap ≡ reduce_once joins locals heap
    by_step (inl same) = stays joins locals (size_of heap) heap same ∙ sym same
    by_step (inr less) = absurd (omega (arith, less, as_large))

-- and where it changes the size, the size falls
pub once-falls : (joins : Bool) (locals : List Exp) (heap : SymHeap) → size_of (reduce_once joins locals heap) ≢ size_of heap →
    size_of (reduce_once joins locals heap) < size_of heap
once-falls joins locals heap changed = by_step (once-step joins locals heap)
  where
    by_step : (reduce_once joins locals heap ≡ heap) ⊎ (size_of (reduce_once joins locals heap) < size_of heap) →
        size_of (reduce_once joins locals heap) < size_of heap
    by_step (inl same) = absurd (changed (ap size_of same))
    by_step (inr less) = less

-- ---- joins at logical variables

set-length : {A : Type 0} (xs : List A) (place : ℕ) (new : A) → length (slice_set xs place new) ≡ length xs
set-length [] place new = refl
set-length (x ∷ xs) zero new = refl
set-length (x ∷ xs) (suc place) new = ap suc (set-length xs place new)

pub join-shorter : (atoms : List Atom) (join : Join) → IsJoin atoms join → length (with_join atoms (Some join)) < length atoms
join-shorter atoms join is =
    let put : List Atom = slice_set atoms join.first join.segment in
    let there : slice_get put join.second ≡ Some is.other =
    get-set_other atoms join.first join.second join.segment is.apart ∙ is.other_there in
    let shorter : length put ≡ suc (length (remove put join.second)) = remove-shorter put join.second is.other there in
    let same : length put ≡ length atoms = set-length atoms join.first join.segment in
    omega (arith, shorter, same)

module _ (params : ℕ) where
  pub pair-step : (pair : Pair) →
      (join_pair_once params pair ≡ pair) ⊎ (length (join_pair_once params pair).missing.spatial < length pair.missing.spatial)
  pair-step pair = by_found (find_join (may_join params pair.state) pair.missing.spatial) refl
    where
      by_found : (o : Option Join) → find_join (may_join params pair.state) pair.missing.spatial ≡ o →
          (pair_with_join pair o ≡ pair) ⊎ (length (pair_with_join pair o).missing.spatial < length pair.missing.spatial)
      by_found None e = inl refl
      by_found (Some join) e =
          inr (join-shorter pair.missing.spatial join (found-is (may_join params pair.state) pair.missing.spatial join e))

  pub pair-stays : (turns : ℕ) (pair : Pair) → join_pair_once params pair ≡ pair → join_pair_times turns params pair ≡ pair
  pair-stays zero pair same = refl
  pair-stays (suc turns) pair same = rw same (pair-stays turns pair same)

  pair-done : (turns : ℕ) (pair : Pair) → length pair.missing.spatial ≤ turns →
      join_pair_once params (join_pair_times turns params pair) ≡ join_pair_times turns params pair
  pair-done zero pair few = by_step (pair-step pair)
    where
      by_step : (join_pair_once params pair ≡ pair) ⊎ (length (join_pair_once params pair).missing.spatial < length pair.missing.spatial) →
          join_pair_once params pair ≡ pair
      by_step (inl same) = same
      by_step (inr less) = absurd (omega (arith, less, few))
  pair-done (suc turns) pair few = by_step (pair-step pair) (λ less. pair-done turns (join_pair_once params pair) less)
    where
      by_step : (join_pair_once params pair ≡ pair) ⊎ (length (join_pair_once params pair).missing.spatial < length pair.missing.spatial) →
          (length (join_pair_once params pair).missing.spatial ≤ turns →
          join_pair_once params (join_pair_times turns params (join_pair_once params pair))
          ≡ join_pair_times turns params (join_pair_once params pair)) →
          join_pair_once params (join_pair_times (suc turns) params pair) ≡ join_pair_times (suc turns) params pair
      by_step (inl same) go_on = let still : join_pair_times (suc turns) params pair
          ≡ pair = pair-stays (suc turns) pair same in rw still same
      by_step (inr less) go_on = go_on (omega (arith, less, few))

pub join_pair_is_done : JoinPairIsDone
join_pair_is_done params pair = pair-done params (length pair.missing.spatial) pair (omega arith)

-- to join a pair, join it once and go on
pair_times-more : (params turns more : ℕ) (pair : Pair) →
    join_pair_times (turns + more) params pair ≡ join_pair_times more params (join_pair_times turns params pair)
pair_times-more params zero more pair = let same : 0 + more ≡ more = omega arith in rw same refl
pair_times-more params (suc turns) more pair = let same : suc turns + more
    ≡ suc (turns + more) = omega arith in rw same (pair_times-more params turns more (join_pair_once params pair))

pair-enough : (params more : ℕ) (pair : Pair) → join_pair_times (length pair.missing.spatial + more) params pair ≡ join_pair params pair
pair-enough params more pair = pair_times-more params (length pair.missing.spatial) more pair
    ∙ pair-stays params more (join_pair params pair) (join_pair_is_done params pair)

pub join_pair-goes_on : (params : ℕ) (pair : Pair) → join_pair params (join_pair_once params pair) ≡ join_pair params pair
join_pair-goes_on params pair = by_step (pair-step params pair)
  where
    once : Pair
    once = join_pair_once params pair

    by_step : (once ≡ pair) ⊎ (length once.missing.spatial < length pair.missing.spatial) → join_pair params once ≡ join_pair params pair
    by_step (inl same) = ap (join_pair params) same
    by_step (inr less) =
        let more : ℕ = length pair.missing.spatial - (length once.missing.spatial + 1) in
        let turns : length pair.missing.spatial ≡ suc (length once.missing.spatial + more) = omega (arith, less) in
        let first : join_pair params pair ≡ join_pair_times (length once.missing.spatial + more) params once =
        ap (λ n. join_pair_times n params pair) turns in
        sym (first ∙ pair-enough params more once)

-- where there is no join, nothing changes
pub join_pair-stays : (params : ℕ) (pair : Pair) → is_some (find_join (may_join params pair.state) pair.missing.spatial) ≡ false →
    join_pair params pair ≡ join_pair_once params pair
join_pair-stays params pair none = by_found (find_join (may_join params pair.state) pair.missing.spatial) refl
  where
    by_found : (o : Option Join) → find_join (may_join params pair.state) pair.missing.spatial ≡ o →
        join_pair params pair ≡ join_pair_once params pair
    by_found None e = let same : join_pair_once params pair
        ≡ pair = ap (pair_with_join pair) e in pair-stays params (length pair.missing.spatial) pair same ∙ sym same
    by_found (Some join) e = let some : true ≡ false = rw e at none in cc

-- and where there is one, an atom of the missing heap goes
pub join_pair-falls : (params : ℕ) (pair : Pair) → is_some (find_join (may_join params pair.state) pair.missing.spatial) ≡ true →
    length (join_pair_once params pair).missing.spatial < length pair.missing.spatial
join_pair-falls params pair some = by_found (find_join (may_join params pair.state) pair.missing.spatial) refl
  where
    by_found : (o : Option Join) → find_join (may_join params pair.state) pair.missing.spatial ≡ o →
        length (pair_with_join pair (find_join (may_join params pair.state) pair.missing.spatial)).missing.spatial
        < length pair.missing.spatial
    by_found None e = let none : false ≡ true = rw e at some in cc
    by_found (Some join) e =
        rw e (join-shorter pair.missing.spatial join (found-is (may_join params pair.state) pair.missing.spatial join e))
