-- One turn of a search, and one case of a turn.
use Rattle.std.specs.Prelude.{◌≡◌, ℕ, zero, suc, ◌+◌, ◌-◌, ◌<◌, ◌≤◌, List, [], ◌∷◌, ◌++◌, length, slice_index_or, All}
use Rattle.std.proofs.Common.{refl, sym, ap, ◌∙◌, subst, arith}
use Rattle.std.proofs.lemmas.List.Elements.{All-tail}
use Rattle.shape_data.specs.declared.answer.Fault.TheVariants as fault
use Rattle.sym_canon.specs.declared.parts.Pair.{Pair}
use Rattle.exec_laws.specs.declared.parts.Case.{Case}
use Rattle.solve_laws.specs.Certificates.Coming.{Task}
use Rattle.solve_laws.specs.Certificates.Gaps.{line_at}
use Rattle.solve_laws.specs.Candidates.Candidates.{
  candidates,
  case_comes,
  cases_come,
  found_by,
  started,
  turn_of,
  turns,
  with_turn,
  without_turns,
}
use Rattle.solve_laws.specs.Candidates.Candidates.{MOST_TURNS}
use Rattle.solve_laws.specs.Candidates.Conditions.{IsSearch, IsWaiting}
use Rattle.solve_laws.specs.Candidates.Searching.{Search, drops}
use Rattle.solve_laws.proofs.CandidatesLemmas.SearchFormed.{popped}

-- one case more
pub one-more : (task : Task) (line : ℕ) (cases : List Case) (case : Case) (search : Search)
    → cases_come task line (cases ++ case ∷ []) search ≡ case_comes task line case (cases_come task line cases search)
one-more task line [] case search = refl
one-more task line (first ∷ cases) case search = one-more task line cases case (case_comes task line first search)

nothing : {A : Type 0} (xs : List A) → length xs ≡ 0 → xs ≡ []
nothing [] none = refl
nothing (x ∷ xs) none = cc

module _ (task : Task) (most place : ℕ) (whole before : Search) (known : whole ≡ turns (most - place) task before) where
  module _ (within : place < most) where
    one-left : most - place ≡ suc (most - (place + 1))
    one-left = omega (arith, within)

    -- a turn
    pub turn-more : (node : ℕ) (pair : Pair) (queue : List (ℕ × Pair)) (after : Search) → before.queue ≡ (node, pair) ∷ queue
        → after ≡ turn_of task node pair (popped before queue) → whole ≡ turns (most - (place + 1)) task after
    turn-more node pair queue after is taken =
        known ∙ ap (λ left. turns left task before) one-left ∙ ap (with_turn (turns (most - (place + 1)) task) task before) is
        ∙ ap (turns (most - (place + 1)) task) (sym taken)

    -- nothing waits
    pub turn-none : (queue : List (ℕ × Pair)) → length before.queue ≡ 0 → before.queue ≡ queue → popped before queue ≡ whole
    turn-none queue none same =
        ap (popped before) (sym same)
        ∙ sym (known ∙ ap (λ left. turns left task before) one-left
        ∙ ap (with_turn (turns (most - (place + 1)) task) task before) (nothing before.queue none))

  -- no turn is left
  pub no-turn : most ≤ place → without_turns task before before.queue ≡ whole
  no-turn past = let none : most - place ≡ zero = omega (arith, past) in sym (known ∙ ap (λ left. turns left task before) none)

-- all turns
pub all-turns : (task : Task) (search : Search) → search ≡ turns MOST_TURNS task (started task) → found_by search ≡ candidates task
unfolding candidates
all-turns task search is = ap found_by is

-- a search without the first of its queue is well formed
pub popped-fine : (task : Task) (node : ℕ) (pair : Pair) (queue : List (ℕ × Pair)) (search : Search) → search.queue ≡ (node, pair) ∷ queue
    → IsSearch task search → IsSearch task (popped search queue)
popped-fine task node pair queue search is fine =
    record {
      one_each = fine.one_each;
      nodes = fine.nodes;
      queue = All-tail (IsWaiting task) (node, pair) queue (subst (λ all. All (IsWaiting task) all) is fine.queue);
      pres = fine.pres;
    }

-- nothing waits, or the first of the queue does
pub none-waits : (task : Task) (search : Search) (queue : List (ℕ × Pair)) → length queue ≤ 0 → search ≡ without_turns task search queue
none-waits task search [] none = refl
none-waits task search (one ∷ queue) none = absurd (omega (arith, none))

pub first-waits : (task : Task) (search : Search) (queue : List (ℕ × Pair)) (first : ℕ × Pair) → 0 < length queue
    → first ≡ slice_index_or queue 0 first → drops fault.Turns (line_at task first.0) search ≡ without_turns task search queue
first-waits task search [] first some is = absurd (omega (arith, some))
first-waits task search (one ∷ queue) first some is = ap (λ (entry : ℕ × Pair). drops fault.Turns (line_at task entry.0) search) is
