-- Each step of a search keeps it well formed, and so its candidates are.
use Rattle.std.specs.Prelude.{◌≡◌, ℕ, zero, suc, ◌+◌, ◌<◌, ◌≤◌, Bool, true, false, leb, List, [], ◌∷◌, ◌++◌, length, map, option_map, All}
use Rattle.std.specs.Prelude.{IfSome}
use Rattle.std.specs.List.{list_any}
use Rattle.std.specs.Option.{option_and_then}
use Rattle.std.specs.declared.option.Option.{Option}
use Rattle.std.specs.declared.option.Option.TheVariants.{None, Some}
use Rattle.std.proofs.Common.{refl, subst, ◌∙◌, arith, lit≤}
use Rattle.std.proofs.lemmas.List.{length-map, length-set}
use Rattle.std.proofs.lemmas.List.Elements.{All-append, All-cons, All-head, All-nil, All-set, All-tail}
use Rattle.shape_data.specs.declared.answer.Fault.{Fault}
use Rattle.shape_data.specs.declared.answer.Fault.TheVariants as fault
use Rattle.shape_data.specs.declared.program.Node.{Node}
use Rattle.shape_data.specs.declared.symbolic.SymHeap.{SymHeap}
use Rattle.shape_data.specs.declared.symbolic.SymState.{SymState}
use Rattle.shape_data.specs.WellFormed.{IsAtom, IsExp, IsFact, IsState, IsSymHeap, widest}
use Rattle.sym_parts.specs.Shapes.Symbolic.{emp}
use Rattle.sym_canon.specs.declared.parts.Pair.{Pair}
use Rattle.abstraction_laws.specs.Pairs.{beside_nothing, pair_in_forms}
use Rattle.abstraction_laws.proofs.PairFormed.{abstract_pre_is_well_formed, in_forms_is_well_formed}
use Rattle.sym_samples.specs.Samples.{has_plain_sources}
use Rattle.abstraction_laws.proofs.PairResults.{abstract_pre_has_no_more_parts}
use Rattle.exec_laws.specs.declared.parts.Case.{Case}
use Rattle.exec_laws.specs.declared.parts.Case.TheVariants.{On, Leaves, Drops}
use Rattle.solve_laws.specs.Certificates.Coming.{Task, start_form}
use Rattle.solve_laws.specs.Certificates.Conditions.{IsTask}
use Rattle.solve_laws.specs.Certificates.Gaps.{line_at}
use Rattle.solve_laws.specs.Certificates.Limits.{analysable}
use Rattle.solve_laws.specs.Certificates.Sameness.{same_heap}
use Rattle.solve_laws.specs.Candidates.Candidates.{
  MOST_TURNS,
  candidates,
  case_comes,
  cases_come,
  cases_of_pair,
  empty_search,
  started,
  turn_of,
}
use Rattle.solve_laws.specs.Candidates.Candidates.{turns, with_turn, without_turns}
use Rattle.solve_laws.specs.Candidates.Coming.{candidate_by, candidate_of, has_many_parts, pair_at_node, parts_of, same_pair, start_pair}
use Rattle.solve_laws.specs.Candidates.Coming.{start_pair_at_node}
use Rattle.solve_laws.specs.Candidates.Conditions.{IsGivenCase, IsSearch, IsTaskHeap, IsTaskPair, IsWaiting}
use Rattle.solve_laws.specs.Candidates.Laws.{CandidatesAreWellFormed}
use Rattle.solve_laws.specs.Candidates.Searching.{MOST_CANDIDATES, Search, candidate_comes, drops, listed_at, pair_comes, unless_none}
use Rattle.solve_laws.specs.Candidates.Searching.{with_candidate, with_pair}
use Rattle.sym_matching.proofs.KeptLaws.{All-or}
use Rattle.solve_laws.proofs.CandidatesLemmas.GivenCases.{cases-given, start-comes}
use Rattle.solve_laws.proofs.CandidatesLemmas.PresLaws.{on_test}

-- the search without the first of its queue
abbrev pub popped : Search → List (ℕ × Pair) → Search
popped search queue = record { nodes = search.nodes; queue = queue; pres = search.pres; first_drop = search.first_drop }

module _ (task : Task) (good : IsTask task) where
  abbrev params : ℕ
  params = length task.flow.params

  -- ---- a missing heap becomes a candidate

  candidate-fine : (recursive : Bool) (missing pre : SymHeap) → IsTaskHeap task missing → candidate_by recursive params missing ≡ Some pre →
      IsTaskHeap task pre
  candidate-fine true missing pre is made =
      let few : parts_of missing ≤ 96 = is.parts in
      let wide : IsSymHeap widest task.structs params missing = record { parts = omega (arith, few); facts = is.facts; atoms = is.atoms } in
      let fine : IsSymHeap widest task.structs params pre =
      abstract_pre_is_well_formed task.structs missing pre params good.structs good.flow.params.few wide made in
      let less : parts_of pre ≤ parts_of missing = abstract_pre_has_no_more_parts missing pre params made in
      record { parts = omega (arith, few, less); facts = fine.facts; atoms = fine.atoms }
  candidate-fine false missing pre is made = by_pair (pair_in_forms params (beside_nothing missing)) refl made
    where
      nothing : IsState analysable task.structs params 0 (beside_nothing missing).state
      nothing = record {
        one_each = refl;
        locals = All-nil (IsExp analysable params);
        heap =
            record {
              parts = omega arith;
              facts = All-nil (IsFact analysable params);
              atoms = All-nil (IsAtom analysable task.structs params);
            };
      }

      few : length missing.pure + length missing.spatial ≤ 96
      few = is.parts

      by_pair : (o : Option Pair) → pair_in_forms params (beside_nothing missing) ≡ o → option_map (λ pair. pair.missing) o ≡ Some pre →
          IsTaskHeap task pre
      by_pair None same made' = cc
      by_pair (Some pair) same made' =
          let alike : pair.missing ≡ pre = cc in
          let atoms : length missing.spatial ≤ 12000 =
          let parts : length missing.pure + length missing.spatial ≤ 96 = few in omega (arith, parts) in
          subst (IsTaskHeap task) alike
          (in_forms_is_well_formed 96 task.structs params 0 (beside_nothing missing) pair (lit≤ tt) good.structs
          (omega arith) good.flow.params.few (record {
            missing =
                is;
            state = nothing;
          }) atoms (omega arith) same).missing

  -- WHAT BECOMES OF A MISSING HEAP
  pub candidate-given : (missing pre : SymHeap) → IsTaskHeap task missing → candidate_of task missing ≡ Some pre → IsTaskHeap task pre
  candidate-given missing pre is made = candidate-fine task.recursive missing pre is made

  -- ---- what each step keeps

  abbrev Good : Search → Type 0
  Good search = IsSearch task search

  drops-keeps : (cause : Fault) (line : ℕ) (search : Search) → Good search → Good (drops cause line search)
  drops-keeps cause line search is = record { one_each = is.one_each; nodes = is.nodes; queue = is.queue; pres = is.pres }

  with_pair-keeps : (node : ℕ) (pair : Pair) (search : Search) → node < length task.flow.nodes → IsTaskPair task pair → Good search →
      Good (with_pair node pair search)
  with_pair-keeps node pair search within fine is =
      let old : All (IsTaskPair task) (listed_at node search) =
      All-or (All (IsTaskPair task)) search.nodes node [] (All-nil (IsTaskPair task)) is.nodes in
      let listed : All (IsTaskPair task) (listed_at node search ++ pair ∷ []) =
      All-append (IsTaskPair task) (listed_at node search) (pair ∷ []) old
      (All-cons (IsTaskPair task) pair [] fine (All-nil (IsTaskPair task))) in
      record {
        one_each = length-set search.nodes node (listed_at node search ++ pair ∷ []) ∙ is.one_each;
        nodes = All-set (All (IsTaskPair task)) search.nodes node (listed_at node search ++ pair ∷ []) listed is.nodes;
        queue =
            All-append (IsWaiting task) search.queue ((node, pair) ∷ []) is.queue
            (All-cons (IsWaiting task) (node, pair) [] (within, fine) (All-nil (IsWaiting task)));
        pres = is.pres;
      }

  pub pair_comes-keeps : (line node : ℕ) (pair : Pair) (search : Search) → node < length task.flow.nodes →
      (has_many_parts pair ≡ false → IsTaskPair task pair) → Good search →
      Good (pair_comes line node pair search)
  pair_comes-keeps line node pair search within fine is =
      on_test Good (has_many_parts pair) (drops fault.Parts line search) _ (λ many. drops-keeps fault.Parts line search is)
      (λ few. on_test Good (list_any (same_pair pair) (listed_at node search)) search _ (λ old. is)
      (λ new. on_test Good (leb 16 (length (listed_at node search))) (drops fault.States line search) (with_pair node pair search)
      (λ full. drops-keeps fault.States line search is) (λ room. with_pair-keeps node pair search within (fine few) is)))

  with_candidate-keeps : (pre : SymHeap) (search : Search) → IsTaskHeap task pre → Good search → Good (with_candidate pre search)
  with_candidate-keeps pre search fine is = on_test Good (leb MOST_CANDIDATES (length search.pres)) search _ (λ full. is) (λ room. record {
    one_each = is.one_each;
    nodes = is.nodes;
    queue = is.queue;
    pres = All-append (IsTaskHeap task) search.pres (pre ∷ []) is.pres (All-cons (IsTaskHeap task) pre [] fine (All-nil (IsTaskHeap task)));
  })

  pub candidate_comes-keeps : (line : ℕ) (pre : SymHeap) (search : Search) → IsTaskHeap task pre → Good search →
      Good (candidate_comes line pre search)
  candidate_comes-keeps line pre search fine is =
      on_test Good (list_any (same_heap pre) search.pres) search _ (λ old. is)
      (λ new. on_test Good (has_plain_sources pre) (with_candidate pre search) (drops fault.Alias line search)
      (λ plain. with_candidate-keeps pre search fine is)
      (λ alias. drops-keeps fault.Alias line search is))

  pub coming-keeps : (line node : ℕ) (made : Option Pair) (search : Search) → node < length task.flow.nodes →
      IfSome made (λ pair. has_many_parts pair ≡ false → IsTaskPair task pair) → Good search →
      Good (unless_none (pair_comes line node) made search)
  coming-keeps line node None search within fine is = is
  coming-keeps line node (Some pair) search within fine is = pair_comes-keeps line node pair search within fine is

  leaving-keeps : (line : ℕ) (missing : SymHeap) (made : Option SymHeap) (search : Search) → candidate_of task missing ≡ made →
      IsTaskHeap task missing → Good search →
      Good (unless_none (candidate_comes line) made search)
  leaving-keeps line missing None search same fine is = is
  leaving-keeps line missing (Some pre) search same fine is =
      candidate_comes-keeps line pre search (candidate-given missing pre fine same) is

  pub case_comes-keeps : (line : ℕ) (case : Case) (search : Search) → IsGivenCase task case → Good search →
      Good (case_comes task line case search)
  case_comes-keeps line (On node pair) search given is =
      coming-keeps line node (pair_at_node task node pair) search given.within given.gives is
  case_comes-keeps line (Leaves pair) search given is =
      leaving-keeps line pair.missing (candidate_of task pair.missing) search refl given.fine is
  case_comes-keeps line (Drops cause) search given is = drops-keeps cause line search is

  pub cases_come-keeps : (line : ℕ) (cases : List Case) (search : Search) → All (IsGivenCase task) cases → Good search →
      Good (cases_come task line cases search)
  cases_come-keeps line [] search given is = is
  cases_come-keeps line (case ∷ cases) search given is =
      cases_come-keeps line cases (case_comes task line case search) (All-tail (IsGivenCase task) case cases given)
      (case_comes-keeps line case search (All-head
      (IsGivenCase task) case cases given) is)

  -- ---- turns

  -- the first of the queue waits at a node that is there, and is well formed
  pub first-fine : (node : ℕ) (pair : Pair) (queue : List (ℕ × Pair)) (search : Search) → search.queue ≡ (node, pair) ∷ queue →
      Good search → IsWaiting task (node, pair)
  first-fine node pair queue search is fine = All-head (IsWaiting task) (node, pair) queue (subst (All (IsWaiting task)) is fine.queue)

  pub turn-keeps : (node : ℕ) (pair : Pair) (queue : List (ℕ × Pair)) (search : Search) → search.queue ≡ (node, pair) ∷ queue →
      Good search → Good (turn_of task node pair (popped search queue))
  turn-keeps node pair queue search is fine =
      let each : All (IsWaiting task) ((node, pair) ∷ queue) = subst (All (IsWaiting task)) is fine.queue in
      let left : Good (popped search queue) =
      record {
        one_each = fine.one_each;
        nodes = fine.nodes;
        queue = All-tail (IsWaiting task) (node, pair) queue each;
        pres = fine.pres;
      } in
      cases_come-keeps (line_at task node) (cases_of_pair task node pair) (popped search queue)
      (cases-given task good node pair (All-head (IsWaiting task) (node, pair) queue each).1) left

  ended-keeps : (search : Search) (queue : List (ℕ × Pair)) → Good search → Good (without_turns task search queue)
  ended-keeps search [] is = is
  ended-keeps search ((node, pair) ∷ queue) is = drops-keeps fault.Turns (line_at task node) search is

  pub turns-keep : (left : ℕ) (search : Search) → Good search → Good (turns left task search)
  turns-keep zero search is = ended-keeps search search.queue is
  turns-keep (suc left) search is = by_queue (turns-keep left) search.queue refl
    where
      by_queue : ((after : Search) → Good after → Good (turns left task after)) → (queue : List (ℕ × Pair)) → search.queue ≡ queue →
          Good (with_turn (turns left task) task search queue)
      by_queue later [] same = is
      by_queue later ((node, pair) ∷ queue) same =
          later (turn_of task node pair (popped search queue)) (turn-keeps node pair queue search same is)

  -- ---- how it begins

  lists-fine : (nodes : List Node) → All (All (IsTaskPair task)) (map (λ node. []) nodes)
  lists-fine [] = All-nil (All (IsTaskPair task))
  lists-fine (node ∷ nodes) = All-cons (All (IsTaskPair task)) [] (map (λ one. []) nodes) (All-nil (IsTaskPair task)) (lists-fine nodes)

  pub empty-fine : Good (empty_search task)
  empty-fine =
      record {
        one_each = length-map task.flow.nodes (λ node. []);
        nodes = lists-fine task.flow.nodes;
        queue = All-nil (IsWaiting task);
        pres = All-nil (IsTaskHeap task);
      }

  by_start : (o : Option SymState) → start_form task.flow emp ≡ o →
      IfSome (option_and_then (λ start. pair_at_node task 0 (start_pair task start)) o)
      (λ made. has_many_parts made ≡ false → IsTaskPair task made)
  by_start None is = tt
  by_start (Some start) is = (start-comes task good start is).gives

  pub started-fine : Good (started task)
  started-fine =
      coming-keeps (line_at task 0) 0 (start_pair_at_node task) (empty_search task) good.flow.entry
      (by_start (start_form task.flow emp) refl) empty-fine

pub candidates_are_well_formed : CandidatesAreWellFormed
unfolding candidates
candidates_are_well_formed task good = (turns-keep task good MOST_TURNS (started task) (started-fine task good)).pres
