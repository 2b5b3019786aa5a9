-- One turn of a loop that searches, and of one that makes callees.
use Rattle.std.specs.Prelude.{◌≡◌, ℕ, suc, ◌+◌, ◌<◌, ◌≤◌, List, [], ◌∷◌, ◌++◌, length, slice_index_or, zip}
use Rattle.std.specs.Option.{option_or}
use Rattle.std.specs.declared.option.Option.{Option}
use Rattle.std.specs.declared.option.Option.TheVariants.{None, Some}
use Rattle.std.proofs.Common.{sym, ap, ◌∙◌, arith, append_assoc, drop}
use Rattle.std.proofs.lemmas.List.{append-nil, at_drop_all, at_drop_more}
use Rattle.shape_data.specs.declared.answer.Callee.{Callee}
use Rattle.shape_data.specs.declared.answer.ProcSummary.{ProcSummary}
use Rattle.shape_data.specs.declared.program.Flow.{Flow}
use Rattle.sound_laws.specs.Answers.{callee_with, own_callees}
use Rattle.solve_laws.specs.Certificates.Gaps.{first_found}

module _ {A B : Type 0} (search : ℕ → A → Option B) (things : List A) (place : ℕ) where
  found-more : (thing : A) → place < length things → thing ≡ slice_index_or things place thing →
      first_found search place (drop place things)
      ≡ option_or (search place thing) (first_found search (place + 1) (drop (place + 1) things))
  found-more thing within is =
      let next : suc place ≡ place + 1 = omega arith in
      at_drop_more (λ all. first_found search place all) things place thing within
      ∙ ap (λ one. option_or (search place one) (first_found search (suc place) (drop (place + 1) things))) (sym is)
      ∙ ap (λ from. option_or (search place thing) (first_found search from (drop (place + 1) things))) next

  -- nothing is found here
  pub found-later : (whole : Option B) (thing : A) → place < length things → thing ≡ slice_index_or things place thing →
      search place thing ≡ None →
      whole ≡ first_found search place (drop place things) → whole ≡ first_found search (place + 1) (drop (place + 1) things)
  found-later whole thing within is none known =
      known ∙ found-more thing within is ∙ ap (λ one. option_or one (first_found search (place + 1) (drop (place + 1) things))) none

  -- it is found here
  pub found-here : (whole : Option B) (thing : A) (found : B) → place < length things → thing ≡ slice_index_or things place thing →
      search place thing ≡ Some found →
      whole ≡ first_found search place (drop place things) → Some found ≡ whole
  found-here whole thing found within is some known =
      sym (known ∙ found-more thing within is ∙ ap (λ one. option_or one (first_found search (place + 1) (drop (place + 1) things))) some)

  -- it is found nowhere
  pub found-nowhere : (whole : Option B) → length things ≤ place → whole ≡ first_found search place (drop place things) → None ≡ whole
  found-nowhere whole all known = sym (known ∙ at_drop_all (λ rest. first_found search place rest) things place all)

-- the pairs of two lists, from a place on
module _ {A B C : Type 0} (search : ℕ → A × B → Option C) (ones : List A) (others : List B) (place : ℕ) where
  pairs-more : (one : A) (other : B) → place < length ones → place < length others → one ≡ slice_index_or ones place one →
      other ≡ slice_index_or others place other →
      first_found search place (zip (drop place ones) (drop place others))
      ≡ option_or (search place (one, other)) (first_found search (place + 1) (zip (drop (place + 1) ones) (drop (place + 1) others)))
  pairs-more one other within inside is its =
      let next : suc place ≡ place + 1 = omega arith in
      at_drop_more (λ all. first_found search place (zip all (drop place others))) ones place one within
      ∙ at_drop_more
      (λ all. first_found search place (zip (slice_index_or ones place one ∷ drop (place + 1) ones) all)) others place other inside
      ∙ ap (λ first. option_or (search place (first, slice_index_or others place other))
      (first_found search (suc place) (zip (drop (place + 1) ones) (drop (place + 1) others)))) (sym is)
      ∙ ap (λ second. option_or (search place (one, second))
      (first_found search (suc place) (zip (drop (place + 1) ones) (drop (place + 1) others)))) (sym its)
      ∙ ap (λ from. option_or (search place (one, other))
      (first_found search from (zip (drop (place + 1) ones) (drop (place + 1) others)))) next

  pub pairs-later : (whole : Option C) (one : A) (other : B) → place < length ones → place < length others →
      one ≡ slice_index_or ones place one → other ≡ slice_index_or others place other →
      search place (one, other) ≡ None → whole ≡ first_found search place (zip (drop place ones) (drop place others)) →
      whole ≡ first_found search (place + 1) (zip (drop (place + 1) ones) (drop (place + 1) others))
  pairs-later whole one other within inside is its none known =
      known ∙ pairs-more one other within inside is its
      ∙ ap (λ found. option_or found (first_found search (place + 1) (zip (drop (place + 1) ones) (drop (place + 1) others)))) none

  pub pairs-here : (whole : Option C) (one : A) (other : B) (found : C) → place < length ones → place < length others →
      one ≡ slice_index_or ones place one → other ≡ slice_index_or others place other →
      search place (one, other) ≡ Some found → whole ≡ first_found search place (zip (drop place ones) (drop place others)) →
      Some found ≡ whole
  pairs-here whole one other found within inside is its some known =
      sym (known ∙ pairs-more one other within inside is its
      ∙ ap (λ one. option_or one (first_found search (place + 1) (zip (drop (place + 1) ones) (drop (place + 1) others)))) some)

  pub pairs-nowhere : (whole : Option C) → length ones ≤ place →
      whole ≡ first_found search place (zip (drop place ones) (drop place others)) → None ≡ whole
  pairs-nowhere whole all known = sym (known ∙ at_drop_all (λ rest. first_found search place (zip rest (drop place others))) ones place all)

-- callees, one after the other
module _ (flows : List Flow) (summaries : List ProcSummary) (place : ℕ) where
  pub own-turn : (flow : Flow) (summary : ProcSummary) (callee : Callee) (before whole : List Callee) → place < length flows →
      place < length summaries →
      flow ≡ slice_index_or flows place flow → summary ≡ slice_index_or summaries place summary → callee ≡ callee_with flow summary →
      before ++ own_callees (drop place flows) (drop place summaries) ≡ whole →
      (before ++ callee ∷ []) ++ own_callees (drop (place + 1) flows) (drop (place + 1) summaries) ≡ whole
  own-turn flow summary callee before whole within inside is its made known =
      append_assoc before (callee ∷ []) (own_callees (drop (place + 1) flows) (drop (place + 1) summaries))
      ∙ ap (λ one. before ++ one ∷ own_callees (drop (place + 1) flows) (drop (place + 1) summaries)) made
      ∙ ap (λ one. before ++ callee_with one summary ∷ own_callees (drop (place + 1) flows) (drop (place + 1) summaries)) is
      ∙ ap (λ one. before ++ callee_with (slice_index_or flows place flow) one
      ∷ own_callees (drop (place + 1) flows) (drop (place + 1) summaries)) its
      ∙ sym (at_drop_more
      (λ all. before ++ own_callees (slice_index_or flows place flow ∷ drop (place + 1) flows) all) summaries place summary inside)
      ∙ sym (at_drop_more (λ all. before ++ own_callees all (drop place summaries)) flows place flow within)
      ∙ known

  pub own-end : (made whole : List Callee) → length flows ≤ place → made ++ own_callees (drop place flows) (drop place summaries) ≡ whole →
      made ≡ whole
  own-end made whole all known =
      sym (append-nil made) ∙ sym (at_drop_all (λ rest. made ++ own_callees rest (drop place summaries)) flows place all) ∙ known

pub ruleset found_turns = (found-later, found-here, found-nowhere)

pub ruleset pair_turns = (pairs-later, pairs-here, pairs-nowhere)

pub ruleset own_turns = (own-turn, own-end)
