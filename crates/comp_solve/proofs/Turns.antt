-- One turn of a loop that makes a list from a list, or from two, and its end.
use Rattle.std.specs.Prelude.{◌≡◌, ℕ, ◌+◌, ◌<◌, ◌≤◌, List, [], ◌∷◌, ◌++◌, filter_map, length, map, slice_index_or}
use Rattle.std.specs.List.{cons_option}
use Rattle.std.specs.declared.option.Option.{Option}
use Rattle.std.specs.declared.option.Option.TheVariants.{None, Some}
use Rattle.std.proofs.Common.{sym, ap, ◌∙◌, append_assoc, drop}
use Rattle.std.proofs.lemmas.List.{append-nil, at_drop_all, at_drop_more}
use Rattle.shape_data.specs.declared.answer.Callee.{Callee}
use Rattle.shape_data.specs.declared.answer.Key.{Key}
use Rattle.shape_data.specs.declared.answer.ProcSummary.{ProcSummary}
use Rattle.shape_data.specs.declared.program.Flow.{Flow}
use Rattle.shape_data.specs.declared.symbolic.Cert.{Cert}
use Rattle.shape_data.specs.declared.symbolic.Spec.{Spec}
use Rattle.exec_laws.specs.declared.parts.Table.{Table}
use Rattle.solve_laws.specs.Certificates.Coming.{Task}
use Rattle.solve_laws.specs.declared.parts.Attempt.{Attempt}
use Rattle.solve_laws.specs.declared.parts.Trial.{Trial}
use Rattle.solve_laws.specs.Attempts.{summaries_of, summary_of}
use Rattle.solve_laws.specs.Solving.{attempt_again, attempts_again}
use Rattle.solve_laws.specs.Tables.{own_with, task_under, with_specs}

-- what a function gives of each
module _ {A B : Type 0} (f : A → B) (things : List A) (place : ℕ) where
  pub map-turn : (thing : A) (made : B) (before whole : List B) → place < length things → thing ≡ slice_index_or things place thing →
      made ≡ f thing →
      before ++ map f (drop place things) ≡ whole → (before ++ made ∷ []) ++ map f (drop (place + 1) things) ≡ whole
  map-turn thing made before whole within is same known =
      append_assoc before (made ∷ []) (map f (drop (place + 1) things))
      ∙ ap (λ one. before ++ one ∷ map f (drop (place + 1) things)) same
      ∙ ap (λ one. before ++ f one ∷ map f (drop (place + 1) things)) is
      ∙ sym (at_drop_more (λ all. before ++ map f all) things place thing within)
      ∙ known

  pub map-end : (made whole : List B) → length things ≤ place → made ++ map f (drop place things) ≡ whole → made ≡ whole
  map-end made whole all known = sym (append-nil made) ∙ sym (at_drop_all (λ rest. made ++ map f rest) things place all) ∙ known

-- what a function gives of those of which it gives something
module _ {A B : Type 0} (f : A → Option B) (things : List A) (place : ℕ) where
  filter-more : (thing : A) (before : List B) → place < length things → thing ≡ slice_index_or things place thing →
      before ++ filter_map f (drop place things) ≡ before ++ cons_option (f thing) (filter_map f (drop (place + 1) things))
  filter-more thing before within is =
      at_drop_more (λ all. before ++ filter_map f all) things place thing within
      ∙ ap (λ one. before ++ cons_option (f one) (filter_map f (drop (place + 1) things))) (sym is)

  pub filter-kept : (thing : A) (made : B) (before whole : List B) → place < length things → thing ≡ slice_index_or things place thing →
      f thing ≡ Some made →
      before ++ filter_map f (drop place things) ≡ whole → (before ++ made ∷ []) ++ filter_map f (drop (place + 1) things) ≡ whole
  filter-kept thing made before whole within is some known =
      append_assoc before (made ∷ []) (filter_map f (drop (place + 1) things))
      ∙ ap (λ one. before ++ cons_option one (filter_map f (drop (place + 1) things))) (sym some)
      ∙ sym (filter-more thing before within is)
      ∙ known

  pub filter-passed : (thing : A) (before whole : List B) → place < length things → thing ≡ slice_index_or things place thing →
      f thing ≡ None →
      before ++ filter_map f (drop place things) ≡ whole → before ++ filter_map f (drop (place + 1) things) ≡ whole
  filter-passed thing before whole within is none known =
      ap (λ one. before ++ cons_option one (filter_map f (drop (place + 1) things))) (sym none) ∙ sym (filter-more thing before within is)
      ∙ known

  pub filter-end : (made whole : List B) → length things ≤ place → made ++ filter_map f (drop place things) ≡ whole → made ≡ whole
  filter-end made whole all known = sym (append-nil made) ∙ sym (at_drop_all (λ rest. made ++ filter_map f rest) things place all) ∙ known

-- callees, one for each procedure and its specs
module _ (flows : List Flow) (specs : List (List Spec)) (place : ℕ) where
  pub own-turn : (flow : Flow) (one : List Spec) (callee : Callee) (before whole : List Callee) → place < length flows →
      place < length specs →
      flow ≡ slice_index_or flows place flow → one ≡ slice_index_or specs place one → callee ≡ with_specs flow one →
      before ++ own_with (drop place flows) (drop place specs) ≡ whole →
      (before ++ callee ∷ []) ++ own_with (drop (place + 1) flows) (drop (place + 1) specs) ≡ whole
  own-turn flow one callee before whole within inside is its made known =
      append_assoc before (callee ∷ []) (own_with (drop (place + 1) flows) (drop (place + 1) specs))
      ∙ ap (λ first. before ++ first ∷ own_with (drop (place + 1) flows) (drop (place + 1) specs)) made
      ∙ ap (λ first. before ++ with_specs first one ∷ own_with (drop (place + 1) flows) (drop (place + 1) specs)) is
      ∙ ap (λ first. before ++ with_specs (slice_index_or flows place flow) first
      ∷ own_with (drop (place + 1) flows) (drop (place + 1) specs)) its
      ∙ sym (at_drop_more (λ all. before ++ own_with (slice_index_or flows place flow ∷ drop (place + 1) flows) all) specs place one inside)
      ∙ sym (at_drop_more (λ all. before ++ own_with all (drop place specs)) flows place flow within)
      ∙ known

  pub own-end : (made whole : List Callee) → length flows ≤ place → made ++ own_with (drop place flows) (drop place specs) ≡ whole →
      made ≡ whole
  own-end made whole all known = sym (append-nil made)
      ∙ sym (at_drop_all (λ rest. made ++ own_with rest (drop place specs)) flows place all) ∙ known

-- summaries, one for each procedure and its attempt
module _ (flows : List Flow) (attempts : List Attempt) (place : ℕ) where
  pub summary-turn : (flow : Flow) (one : Attempt) (summary : ProcSummary) (before whole : List ProcSummary) → place < length flows →
      place < length attempts →
      flow ≡ slice_index_or flows place flow → one ≡ slice_index_or attempts place one → summary ≡ summary_of flow one →
      before ++ summaries_of (drop place flows) (drop place attempts) ≡ whole →
      (before ++ summary ∷ []) ++ summaries_of (drop (place + 1) flows) (drop (place + 1) attempts) ≡ whole
  summary-turn flow one summary before whole within inside is its made known =
      append_assoc before (summary ∷ []) (summaries_of (drop (place + 1) flows) (drop (place + 1) attempts))
      ∙ ap (λ first. before ++ first ∷ summaries_of (drop (place + 1) flows) (drop (place + 1) attempts)) made
      ∙ ap (λ first. before ++ summary_of first one ∷ summaries_of (drop (place + 1) flows) (drop (place + 1) attempts)) is
      ∙ ap (λ first. before ++ summary_of (slice_index_or flows place flow) first
      ∷ summaries_of (drop (place + 1) flows) (drop (place + 1) attempts)) its
      ∙ sym (at_drop_more
      (λ all. before ++ summaries_of (slice_index_or flows place flow ∷ drop (place + 1) flows) all) attempts place one inside)
      ∙ sym (at_drop_more (λ all. before ++ summaries_of all (drop place attempts)) flows place flow within)
      ∙ known

  pub summary-end : (made whole : List ProcSummary) → length flows ≤ place →
      made ++ summaries_of (drop place flows) (drop place attempts) ≡ whole → made ≡ whole
  summary-end made whole all known =
      sym (append-nil made) ∙ sym (at_drop_all (λ rest. made ++ summaries_of rest (drop place attempts)) flows place all) ∙ known

-- attempts of which what stands is tested again
module _ (test : Task → Spec → Cert → Trial) (key : Key) (table : Table) (flows : List Flow) (attempts : List Attempt) (place : ℕ) where
  abbrev again : List Flow → List Attempt → List Attempt
  again some ones = attempts_again test key table some ones

  pub again-turn : (flow : Flow) (one made : Attempt) (before whole : List Attempt) → place < length flows → place < length attempts →
      flow ≡ slice_index_or flows place flow → one ≡ slice_index_or attempts place one →
      made ≡ attempt_again test (task_under key table flow) one →
      before ++ again (drop place flows) (drop place attempts) ≡ whole →
      (before ++ made ∷ []) ++ again (drop (place + 1) flows) (drop (place + 1) attempts) ≡ whole
  again-turn flow one made before whole within inside is its same known =
      append_assoc before (made ∷ []) (again (drop (place + 1) flows) (drop (place + 1) attempts))
      ∙ ap (λ first. before ++ first ∷ again (drop (place + 1) flows) (drop (place + 1) attempts)) same
      ∙ ap (λ first. before ++ attempt_again test (task_under key table first) one
      ∷ again (drop (place + 1) flows) (drop (place + 1) attempts)) is
      ∙ ap (λ first. before ++ attempt_again test (task_under key table (slice_index_or flows place flow)) first
      ∷ again (drop (place + 1) flows) (drop (place + 1) attempts)) its
      ∙ sym (at_drop_more (λ all. before ++ again (slice_index_or flows place flow ∷ drop (place + 1) flows) all) attempts place one inside)
      ∙ sym (at_drop_more (λ all. before ++ again all (drop place attempts)) flows place flow within)
      ∙ known

  pub again-end : (made whole : List Attempt) → length flows ≤ place → made ++ again (drop place flows) (drop place attempts) ≡ whole →
      made ≡ whole
  again-end made whole all known =
      sym (append-nil made) ∙ sym (at_drop_all (λ rest. made ++ again rest (drop place attempts)) flows place all) ∙ known

pub ruleset map_turns = (map-turn, map-end)

pub ruleset kept_turns = (filter-kept, filter-passed, filter-end)

pub ruleset own_turns = (own-turn, own-end)

pub ruleset summary_turns = (summary-turn, summary-end)

pub ruleset again_turns = (again-turn, again-end)
