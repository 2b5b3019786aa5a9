-- Loops that have their head at a place, gathered one after another.
use Rattle.std.proofs.Common.{◌≡◌, ◌≢◌, ℕ, ◌+◌, ◌<◌, ◌==◌, List, [], ◌∷◌, ◌++◌, length, map, drop, get_or, append_assoc}
use Rattle.std.proofs.Common.{sym, ap, ◌∙◌, ⊎_elim}
use Rattle.std.specs.Prelude.{if◌then◌else◌}
use Rattle.std.proofs.lemmas.List.{at_drop_more}
use Rattle.std.proofs.lemmas.Bool.Decides.{eqb_tells}
use Rattle.c_lower_rules.specs.Code as code
use Rattle.c_lower_rules.specs.Marks.{loops_at}
use Rattle.c_lower_emit.specs.declared.loops.Loop.{Loop}
use Rattle.c_lower_emit.specs.Seen.{loop_seen}
use Rattle.c_lower_marks.proofs.Keeping.{then_is, else_is}

module _ (place : ℕ) (loops : List Loop) (at : ℕ) (one : Loop) (within : at < length loops) (is : one ≡ get_or loops at one) where
  -- what is left, taken apart
  left : loops_at place (map loop_seen (drop at loops))
      ≡ (if one.head == place then loop_seen one ∷ loops_at place (map loop_seen (drop (at + 1) loops))
      else loops_at place (map loop_seen (drop (at + 1) loops)))
  left =
      at_drop_more (λ ls. loops_at place (map loop_seen ls)) loops at one within
      ∙ ap (λ (x : Loop). if x.head == place then loop_seen x ∷ loops_at place (map loop_seen (drop (at + 1) loops))
      else loops_at place (map loop_seen (drop (at + 1) loops)))
      (sym is)

  -- a loop that has its head there
  pub met : one.head ≡ place → (found after whole : List code.Loop) → after ≡ found ++ loop_seen one ∷ []
      → found ++ loops_at place (map loop_seen (drop at loops)) ≡ whole
      → after ++ loops_at place (map loop_seen (drop (at + 1) loops)) ≡ whole
  met same found after whole goes known =
      let rest = loops_at place (map loop_seen (drop (at + 1) loops)) in
      ap (λ xs. xs ++ rest) goes
      ∙ append_assoc found (loop_seen one ∷ []) rest
      ∙ ap (λ xs. found ++ xs)
      (sym (left ∙ ⊎_elim (λ t. then_is (one.head == place) _ _ t.0) (λ t. absurd (t.1 same)) (eqb_tells one.head place)))
      ∙ known

  -- a loop that has it elsewhere
  pub missed : one.head ≢ place → (found after whole : List code.Loop) → after ≡ found
      → found ++ loops_at place (map loop_seen (drop at loops)) ≡ whole
      → after ++ loops_at place (map loop_seen (drop (at + 1) loops)) ≡ whole
  missed apart found after whole goes known =
      ap (λ xs. xs ++ loops_at place (map loop_seen (drop (at + 1) loops))) goes
      ∙ ap (λ xs. found ++ xs)
      (sym (left ∙ ⊎_elim (λ t. absurd (apart t.1)) (λ t. else_is (one.head == place) _ _ t.0) (eqb_tells one.head place)))
      ∙ known
