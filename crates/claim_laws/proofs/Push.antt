-- One more event at the end of a log.
use Rattle.std.proofs.Common.{◌≡◌, ◌==◌, ◌≤◌, cond, not, suc, length, arith, ℕ, List, [], ◌∷◌, ◌++◌, Bool, true, false, Some, sym, ap}
use Rattle.shape_data.specs.declared.answer.Answer.{Answer}
use Rattle.shape_data.specs.declared.answer.Key.{Key}
use Rattle.component_keys.proofs.Basics.{not_none, filter_less}
use Rattle.claim_laws.specs.World.{World, Event, Out, without, same_bool, out_of, may_happen, after}
use Rattle.claim_laws.specs.Logs.{replay_from, replay, first_world, IsSolved, AreLegal, IsLegal}
use Rattle.claim_laws.proofs.Once.{replay_append}

AreLegal-push : (solves : Key → Answer → Type 0) (world : World) (log : List Event) (event : Event) → AreLegal solves world log →
    may_happen (replay_from world log) event ≡ true →
    IsSolved solves (replay_from world log) event → AreLegal solves world (log ++ event ∷ [])
AreLegal-push solves world [] event legal may solved = (may, solved, tt)
AreLegal-push solves world (first ∷ others) event legal may solved =
    (legal.0, legal.1, AreLegal-push solves (after world first) others event legal.2 may solved)

pub IsLegal-push : (solves : Key → Answer → Type 0) (log : List Event) (event : Event) → IsLegal solves log →
    may_happen (replay log) event ≡ true →
    IsSolved solves (replay log) event → IsLegal solves (log ++ event ∷ [])
IsLegal-push solves log event = AreLegal-push solves first_world log event

pub replay_push : (log : List Event) (event : Event) → replay (log ++ event ∷ []) ≡ after (replay log) event
replay_push log event = replay_append first_world log (event ∷ [])

-- ---- room for the end of each claim

pub without_fewer : (out : List Out) (number : ℕ) (claim : Out) → out_of out number ≡ Some claim →
    suc (length (without out number)) ≤ length out
without_fewer [] number claim e = not_none e
without_fewer (first ∷ others) number claim e =
    by_test (first.number == number) e (without_fewer others number claim) (filter_less (λ one. not (one.number == number)) others)
  where
    by_test : (b : Bool) → cond b (Some first) (out_of others number) ≡ Some claim →
        (out_of others number ≡ Some claim → suc (length (without others number)) ≤ length others) →
        length (without others number) ≤ length others →
        suc (length (cond (not b) (first ∷ without others number) (without others number))) ≤ suc (length others)
    by_test true f again less = omega (arith, less)
    by_test false f again less = let rest : suc (length (without others number)) ≤ length others = again f in omega (arith, rest)

pub same_bool_same : (kept b : Bool) → kept ≡ b → same_bool kept b ≡ true
same_bool_same true b e = sym e
same_bool_same false b e = ap not (sym e)
