-- Turns of the first of the queue.
use Rattle.std.specs.Prelude.{◌≡◌, ℕ, suc, List, ◌∷◌, IfOk, Result}
use Rattle.std.specs.declared.option.Option.{Option}
use Rattle.std.proofs.Common.{sym, ap, ◌∙◌}
use Rattle.std.proofs.lemmas.Result.{IfOk-weaker}
use Rattle.shape_data.specs.declared.symbolic.SymState.{SymState}
use Rattle.solve_laws.specs.declared.annotation.parts.Annotated.{Annotated}
use Rattle.solve_laws.specs.Annotation.Annotation.{end_of, turn_of, turns, with_turn}
use Rattle.solve_laws.specs.Annotation.Listing.{Course, Ends, Goes, Listing}
use Rattle.solve_laws.specs.Certificates.Coming.{Task}
use Rattle.post_gen.specs.declared.listing.Ended.{Ended}
use Rattle.post_gen.specs.Conditions.{IsListing}
use Rattle.post_gen.specs.InListing.{annotated_of}

-- what comes of so many turns is what comes of those that are left, from what is listed by now, which is well formed
pub record TakesUpTo (task : Task) (most left : ℕ) (first now : Listing) : Type 0 where
  pub whole : turns most task first ≡ turns left task now
  pub listing : IsListing task now

-- what is listed when the first of the queue is taken, and the rest waits
abbrev pub taken : Listing → List (ℕ × SymState) → Listing
taken listing rest = record { nodes = listing.nodes; exits = listing.exits; queue = rest }

-- a state waits
module _ (task : Task) (listing : Listing) (whole : Annotated) (left more node : ℕ) (state : SymState) (rest : List (ℕ × SymState))
    (first : listing.queue ≡ (node, state) ∷ rest)
    (is_more : left ≡ suc more) (known : whole ≡ turns left task listing) where
  turned : whole ≡ end_of (turns more task) (turn_of task node state (taken listing rest))
  turned = known ∙ ap (λ n. turns n task listing) is_more ∙ ap (λ queue. with_turn (turns more task) task listing queue) first

  -- it goes on
  pub turn-more : (after : Listing) → Goes after ≡ turn_of task node state (taken listing rest) → whole ≡ turns more task after
  turn-more after goes = turned ∙ ap (λ course. end_of (turns more task) course) (sym goes)

  -- it ends
  pub turn-ended : (annotated : Annotated) → Ends annotated ≡ turn_of task node state (taken listing rest) → annotated ≡ whole
  turn-ended annotated ends = sym (turned ∙ ap (λ course. end_of (turns more task) course) (sym ends))

-- the start state has come: there are turns, unless it ended
pub start-more : {E : Type 0} (outcome : Result (Option Ended) E) (again : Listing → Annotated) (course : Course) (first last : Listing) →
    Goes first ≡ course →
    IfOk outcome (λ how. annotated_of how last ≡ again first) → IfOk outcome (λ how. annotated_of how last ≡ end_of again course)
start-more outcome again course first last goes known =
    IfOk-weaker outcome (λ how. annotated_of how last ≡ again first) (λ how. annotated_of how last ≡ end_of again course)
    (λ how same. same ∙ ap (λ one. end_of again one) goes) known

pub start-ended : (again : Listing → Annotated) (course : Course) (annotated : Annotated) → Ends annotated ≡ course →
    annotated ≡ end_of again course
start-ended again course annotated ends = ap (λ one. end_of again one) ends
