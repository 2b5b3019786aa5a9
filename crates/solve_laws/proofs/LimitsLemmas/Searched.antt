-- Candidates are within the limits of a store: their variables have the first numbers.
use Rattle.std.specs.Prelude.{◌≡◌, ℕ, zero, suc, ◌+◌, ◌<◌, ◌≤◌, Bool, true, false, List, [], ◌∷◌, ◌++◌, length, option_map, slice_index_or}
use Rattle.std.specs.Prelude.{All}
use Rattle.std.specs.declared.option.Option.{Option}
use Rattle.std.specs.declared.option.Option.TheVariants.{None, Some}
use Rattle.std.proofs.Common.{refl, ap, subst, ◌∙◌, arith}
use Rattle.std.proofs.lemmas.List.Elements.{All-append, All-cons, All-nil}
use Rattle.shape_data.specs.declared.symbolic.Atom.{Atom}
use Rattle.shape_data.specs.declared.symbolic.Exp.{Exp}
use Rattle.shape_data.specs.declared.symbolic.Exp.TheVariants.{Var, Const}
use Rattle.shape_data.specs.declared.symbolic.SymHeap.{SymHeap}
use Rattle.shape_data.specs.declared.symbolic.SymState.{SymState}
use Rattle.sym_parts.specs.Shapes.Symbolic.{emp}
use Rattle.sym_canon.specs.declared.parts.Pair.{Pair}
use Rattle.sym_canon.specs.Canonical.{without_locals}
use Rattle.sym_forms.specs.PairForms.{pair_form}
use Rattle.sym_forms.specs.Sizes.{fields_in, most_exps}
use Rattle.sym_samples.specs.Samples.{has_plain_sources}
use Rattle.abstraction_laws.specs.Joining.{Join, find_join}
use Rattle.abstraction_laws.specs.Pairs.{beside_nothing, canon_of, join_pair, join_pair_once, join_pair_times, may_join, pair_in_forms}
use Rattle.abstraction_laws.specs.Pairs.{pair_with_join, state_joined_at}
use Rattle.abstraction_laws.proofs.PairResults.{in_forms-small}
use Rattle.solve_laws.specs.Certificates.Coming.{Task}
use Rattle.solve_laws.specs.Candidates.Candidates.{candidates, MOST_TURNS}
use Rattle.solve_laws.specs.Candidates.Coming.{candidate_by, candidate_of}
use Rattle.solve_laws.specs.Candidates.Searching.{MOST_CANDIDATES}
use Rattle.solve_laws.proofs.CandidatesLemmas.PresLaws.{pres-keep}
use Rattle.solve_laws.proofs.CandidatesLemmas.SearchFormed.{candidates_are_well_formed}
use Rattle.solve_laws.specs.Limits.Laws.{CandidatesAreStorable}
use Rattle.solve_laws.proofs.LimitsLemmas.Counted.{first-storable}
use Rattle.solve_laws.proofs.LimitsLemmas.Numbered.{HasFirstNumbers, canon_pair-first}

-- ---- a pair whose state says nothing

abbrev nothing : SymState
nothing = without_locals emp

at-nothing : (middle : Exp) → state_joined_at nothing middle ≡ nothing
at-nothing (Var x) = refl
at-nothing (Const n) = refl

once-nothing : (params : ℕ) (pair : Pair) → pair.state ≡ nothing → (join_pair_once params pair).state ≡ nothing
once-nothing params pair same = by_found (find_join (may_join params pair.state) pair.missing.spatial)
  where
    by_found : (o : Option Join) → (pair_with_join pair o).state ≡ nothing
    by_found None = same
    by_found (Some join) = ap (λ state. state_joined_at state join.middle) same ∙ at-nothing join.middle

times-nothing : (turns params : ℕ) (pair : Pair) → pair.state ≡ nothing → (join_pair_times turns params pair).state ≡ nothing
times-nothing zero params pair same = same
times-nothing (suc turns) params pair same = times-nothing turns params (join_pair_once params pair) (once-nothing params pair same)

-- ---- its missing heap in normal and canonical form

no-fields : (atoms : List Atom) → length atoms ≤ 0 → fields_in atoms ≡ 0
no-fields [] few = refl
no-fields (atom ∷ atoms) few = absurd (omega (arith, few))

module _ (params : ℕ) (low : params ≤ 65536) where
  -- the variables of a heap have the first numbers, no more than it has expressions
  abbrev HasFirst : SymHeap → Type 0
  HasFirst heap = HasFirstNumbers params (most_exps (without_locals heap)) heap

  formed-first : (pair answer : Pair) → pair.state ≡ nothing → pair_in_forms params pair ≡ Some answer → HasFirst answer.missing
  formed-first pair answer same h =
      let small = in_forms-small params pair answer h in
      let parts : length answer.state.heap.pure + length answer.state.heap.spatial
      ≤ length pair.state.heap.pure + length pair.state.heap.spatial = small.state.parts in
      let locals : length answer.state.locals ≡ length pair.state.locals = small.state.locals in
      let no_parts : length pair.state.heap.pure + length pair.state.heap.spatial ≡ 0 =
      ap (λ (state : SymState). length state.heap.pure + length state.heap.spatial) same in
      let no_locals : length pair.state.locals ≡ 0 = ap (λ (state : SymState). length state.locals) same in
      let fields : fields_in answer.state.heap.spatial ≡ 0 = no-fields answer.state.heap.spatial (omega (arith, parts, no_parts)) in
      let none : most_exps (without_locals answer.missing) + most_exps answer.state ≡ most_exps (without_locals answer.missing) =
      omega (arith, parts, locals, no_parts, no_locals, fields) in
      subst (λ count. HasFirstNumbers params count answer.missing) none (by_form (pair_form params pair) h)
    where
      by_form : (o : Option Pair) → option_map (canon_of params) o ≡ Some answer →
          HasFirstNumbers params (most_exps (without_locals answer.missing) + most_exps answer.state) answer.missing
      by_form None k = cc
      by_form (Some form) k =
          let made : canon_of params form ≡ answer = cc in
          subst (λ (one : Pair). HasFirstNumbers params (most_exps (without_locals one.missing) + most_exps one.state) one.missing) made
          (canon_pair-first params form.missing form.state low)

  missing-first : (pair : Pair) (pre : SymHeap) → pair.state ≡ nothing →
      option_map (λ (one : Pair). one.missing) (pair_in_forms params pair) ≡ Some pre → HasFirst pre
  missing-first pair pre same h = by_pair (pair_in_forms params pair) refl h
    where
      by_pair : (o : Option Pair) → pair_in_forms params pair ≡ o → option_map (λ (one : Pair). one.missing) o ≡ Some pre → HasFirst pre
      by_pair None e k = cc
      by_pair (Some answer) e k = let made : answer.missing ≡ pre = cc in subst HasFirst made (formed-first pair answer same e)

  candidate-first : (recursive : Bool) (missing pre : SymHeap) → candidate_by recursive params missing ≡ Some pre → HasFirst pre
  candidate-first true missing pre h =
      missing-first (join_pair params (beside_nothing missing)) pre
      (times-nothing (length missing.spatial) params (beside_nothing missing) refl) h
  candidate-first false missing pre h = missing-first (beside_nothing missing) pre refl h

-- ---- the candidates

module _ (task : Task) (low : length task.flow.params ≤ 65536) where
  abbrev IsFirst : SymHeap → Type 0
  IsFirst = HasFirst (length task.flow.params) low

  adds : (pres : List SymHeap) (missing pre : SymHeap) → candidate_of task missing ≡ Some pre → has_plain_sources pre ≡ true →
      length pres < MOST_CANDIDATES → All IsFirst pres →
      All IsFirst (pres ++ pre ∷ [])
  adds pres missing pre is plain room has =
      All-append IsFirst pres (pre ∷ []) has
      (All-cons IsFirst pre [] (candidate-first (length task.flow.params) low task.recursive missing pre is) (All-nil IsFirst))

  candidates-first : All IsFirst (candidates task).pres
  unfolding candidates
  candidates-first = pres-keep task (All IsFirst) adds MOST_TURNS (All-nil IsFirst)

pub candidates_are_storable : CandidatesAreStorable
candidates_are_storable task good sizes =
    let few : length task.flow.params ≤ 32768 = good.flow.params.few in
    let low : length task.flow.params ≤ 65536 = omega (arith, few) in
    let formed = candidates_are_well_formed task good in
    let first = candidates-first task low in
    λ k d below.
    let pre : SymHeap = slice_index_or (candidates task).pres k d in
    first-storable task.structs (length task.flow.params) sizes.structs pre (formed k d below) (first k d below).logical
    (first k d below).existential
