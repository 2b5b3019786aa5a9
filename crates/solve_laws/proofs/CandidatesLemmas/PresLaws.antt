-- What each new candidate keeps of a search's candidates, a search does; so each has a sample, and they are few.
use Rattle.std.specs.Prelude.{◌≡◌, ℕ, zero, suc, ◌+◌, ◌<◌, ◌≤◌, Bool, true, false, ◌&&◌, if◌then◌else◌, leb, List, [], ◌∷◌, ◌++◌, length}
use Rattle.std.specs.Prelude.{option_map, All}
use Rattle.std.specs.List.{list_all, list_any}
use Rattle.std.specs.declared.option.Option.{Option}
use Rattle.std.specs.declared.option.Option.TheVariants.{None, Some}
use Rattle.std.proofs.Common.{refl, ap, subst, ◌∙◌, arith, length-append, lit≤}
use Rattle.std.proofs.lemmas.Bool.{and_parts, leb-false}
use Rattle.std.proofs.lemmas.List.Elements.{All-append, All-cons, All-nil}
use Rattle.shape_data.specs.declared.answer.Fault.TheVariants as fault
use Rattle.shape_data.specs.declared.symbolic.SymHeap.{SymHeap}
use Rattle.sym_canon.specs.declared.parts.Pair.{Pair}
use Rattle.sym_canon.specs.Canonical.{without_locals}
use Rattle.sym_pure.specs.IsNormal.{is_normal, is_normal_heap, is_read}
use Rattle.sym_samples.specs.Samples.{has_plain_sources, has_sample}
use Rattle.abstraction_laws.specs.Pairs.{beside_nothing, pair_in_forms}
use Rattle.abstraction_laws.proofs.NormalResults.{abstract_pre_is_normal, missing-normal}
use Rattle.exec_laws.specs.declared.parts.Case.{Case}
use Rattle.exec_laws.specs.declared.parts.Case.TheVariants.{On, Leaves, Drops}
use Rattle.solve_laws.specs.Certificates.Coming.{Task}
use Rattle.solve_laws.specs.Certificates.Gaps.{line_at}
use Rattle.solve_laws.specs.Certificates.Sameness.{same_heap}
use Rattle.solve_laws.specs.Candidates.Candidates.{
  MOST_TURNS,
  candidates,
  case_comes,
  cases_come,
  cases_of_pair,
  empty_search,
  started,
  turns,
}
use Rattle.solve_laws.specs.Candidates.Candidates.{turn_of, with_turn, without_turns}
use Rattle.solve_laws.specs.Candidates.Coming.{candidate_by, candidate_of, has_many_parts, pair_at_node, same_pair, start_pair_at_node}
use Rattle.solve_laws.specs.Candidates.Laws.{CandidatesAreFew, CandidatesHaveSamples}
use Rattle.solve_laws.specs.Candidates.Searching.{MOST_CANDIDATES, Search, candidate_comes, drops, listed_at, pair_comes, unless_none}
use Rattle.solve_laws.specs.Candidates.Searching.{with_candidate, with_pair}

-- what holds of both holds of the chosen one
pub on_test : (P : Search → Type 0) (b : Bool) (one other : Search) → (b ≡ true → P one) → (b ≡ false → P other) →
    P (if b then one else other)
on_test P true one other here there = here refl
on_test P false one other here there = there refl

module _ (task : Task) (R : List SymHeap → Type 0)
    (adds : (pres : List SymHeap) (missing pre : SymHeap) → candidate_of task missing ≡ Some pre → has_plain_sources pre ≡ true →
    length pres < MOST_CANDIDATES → R pres → R (pres ++ pre ∷ [])) where
  abbrev Keeps : Search → Type 0
  Keeps search = R search.pres

  candidate-keeps : (line : ℕ) (missing pre : SymHeap) → candidate_of task missing ≡ Some pre → (search : Search) → Keeps search →
      Keeps (candidate_comes line pre search)
  candidate-keeps line missing pre is search has =
      on_test Keeps (list_any (same_heap pre) search.pres) search _ (λ old. has)
      (λ new. on_test Keeps (has_plain_sources pre) (with_candidate pre search) (drops fault.Alias line search)
      (λ plain. on_test Keeps (leb MOST_CANDIDATES (length search.pres)) search _ (λ full. has)
      (λ room. adds search.pres missing pre is plain (leb-false MOST_CANDIDATES
      (length search.pres) room) has)) (λ alias. has))

  pair-keeps : (line node : ℕ) (pair : Pair) (search : Search) → Keeps search → Keeps (pair_comes line node pair search)
  pair-keeps line node pair search has =
      on_test Keeps (has_many_parts pair) (drops fault.Parts line search) _ (λ many. has)
      (λ few. on_test Keeps (list_any (same_pair pair) (listed_at node search)) search _ (λ old. has)
      (λ new. on_test Keeps (leb 16 (length (listed_at node search))) (drops fault.States line search) (with_pair node pair search)
      (λ full. has) (λ room. has)))

  coming-keeps : (line node : ℕ) (made : Option Pair) (search : Search) → Keeps search →
      Keeps (unless_none (pair_comes line node) made search)
  coming-keeps line node None search has = has
  coming-keeps line node (Some pair) search has = pair-keeps line node pair search has

  leaving-keeps : (line : ℕ) (missing : SymHeap) (made : Option SymHeap) → candidate_of task missing ≡ made → (search : Search) →
      Keeps search →
      Keeps (unless_none (candidate_comes line) made search)
  leaving-keeps line missing None is search has = has
  leaving-keeps line missing (Some pre) is search has = candidate-keeps line missing pre is search has

  case-keeps : (line : ℕ) (case : Case) (search : Search) → Keeps search → Keeps (case_comes task line case search)
  case-keeps line (On node pair) search has = coming-keeps line node (pair_at_node task node pair) search has
  case-keeps line (Leaves pair) search has = leaving-keeps line pair.missing (candidate_of task pair.missing) refl search has
  case-keeps line (Drops cause) search has = has

  cases-keep : (line : ℕ) (cases : List Case) (search : Search) → Keeps search → Keeps (cases_come task line cases search)
  cases-keep line [] search has = has
  cases-keep line (case ∷ cases) search has = cases-keep line cases (case_comes task line case search) (case-keeps line case search has)

  ended-keeps : (search : Search) (queue : List (ℕ × Pair)) → Keeps search → Keeps (without_turns task search queue)
  ended-keeps search [] has = has
  ended-keeps search ((node, pair) ∷ queue) has = has

  turn-keeps : (again : Search → Search) → ((search : Search) → Keeps search → Keeps (again search)) →
      (search : Search) (queue : List (ℕ × Pair)) → Keeps search →
      Keeps (with_turn again task search queue)
  turn-keeps again later search [] has = has
  turn-keeps again later search ((node, pair) ∷ queue) has =
      let popped : Search = record { nodes = search.nodes; queue = queue; pres = search.pres; first_drop = search.first_drop } in
      later (turn_of task node pair popped) (cases-keep (line_at task node) (cases_of_pair task node pair) popped has)

  turns-keep : (left : ℕ) (search : Search) → Keeps search → Keeps (turns left task search)
  turns-keep zero search has = ended-keeps search search.queue has
  turns-keep (suc left) search has = turn-keeps (turns left task) (turns-keep left) search search.queue has

  started-keeps : R [] → Keeps (started task)
  started-keeps has = coming-keeps (line_at task 0) 0 (start_pair_at_node task) (empty_search task) has

  -- what holds of no candidates holds of those of the search
  pub pres-keep : (most : ℕ) → R [] → R (turns most task (started task)).pres
  pres-keep most has = turns-keep most (started task) (started-keeps has)

-- ---- samples

-- a candidate is normal
normal-by : (recursive : Bool) (params : ℕ) (missing pre : SymHeap) → params ≤ 65536 → candidate_by recursive params missing ≡ Some pre →
    is_normal (without_locals pre) ≡ true
normal-by true params missing pre few is = abstract_pre_is_normal missing pre params few is
normal-by false params missing pre few is = by_pair (pair_in_forms params (beside_nothing missing)) refl is
  where
    by_pair : (o : Option Pair) → pair_in_forms params (beside_nothing missing) ≡ o → option_map (λ pair. pair.missing) o ≡ Some pre →
        is_normal (without_locals pre) ≡ true
    by_pair None same made = cc
    by_pair (Some pair) same made = let alike : pair.missing
        ≡ pre =
        cc in subst (λ heap. is_normal (without_locals heap) ≡ true) alike (missing-normal params (beside_nothing missing) pair few same)

abbrev HasSample : SymHeap → Type 0
HasSample pre = has_sample pre ≡ true

-- the two tests of a sample
sampled : (pre : SymHeap) → is_normal (without_locals pre) ≡ true → has_plain_sources pre ≡ true → has_sample pre ≡ true
sampled pre normal plain =
    let heap : is_normal_heap pre ≡ true = (and_parts (is_normal_heap pre) (list_all (is_read pre.pure) []) normal).0 in
    ap (λ b. b && has_plain_sources pre) heap ∙ plain

pub candidates_have_samples : CandidatesHaveSamples
unfolding candidates
candidates_have_samples task few = pres-keep task (All HasSample) adds MOST_TURNS (All-nil HasSample)
  where
    adds : (pres : List SymHeap) (missing pre : SymHeap) → candidate_of task missing ≡ Some pre → has_plain_sources pre ≡ true →
        length pres < MOST_CANDIDATES →
        All HasSample pres → All HasSample (pres ++ pre ∷ [])
    adds pres missing pre is plain room has =
        All-append HasSample pres (pre ∷ []) has
        (All-cons HasSample pre [] (sampled pre (normal-by task.recursive (length task.flow.params) missing pre few is) plain)
        (All-nil HasSample))

-- ---- how many

abbrev IsFew : List SymHeap → Type 0
IsFew pres = length pres ≤ MOST_CANDIDATES

pub candidates_are_few : CandidatesAreFew
unfolding candidates
candidates_are_few task = pres-keep task IsFew adds MOST_TURNS (lit≤ tt)
  where
    adds : (pres : List SymHeap) (missing pre : SymHeap) → candidate_of task missing ≡ Some pre → has_plain_sources pre ≡ true →
        length pres < MOST_CANDIDATES → IsFew pres → IsFew (pres ++ pre ∷ [])
    adds pres missing pre is plain room has =
        let longer : length (pres ++ pre ∷ []) ≡ length pres + 1 = length-append pres (pre ∷ []) in omega (arith, room, longer)
