-- Over the entries of a store, all keys of a program and what is looked up for them are within the limits of a store: up the components.
use Rattle.std.proofs.Common.{◌≡◌, ℕ, zero, suc, ◌<◌, List, length, map, filter, slice_get, Some, refl, sym, ap, ◌∙◌, subst, All}
use Rattle.std.proofs.Common.{option_map, arith}
use Rattle.std.specs.List.{range_with_len}
use Rattle.std.proofs.lemmas.Option.{slice_get-map}
use Rattle.shape_data.specs.declared.answer.Answer.{Answer}
use Rattle.shape_data.specs.declared.answer.Kept.{Kept}
use Rattle.shape_data.specs.declared.answer.Key.{Key}
use Rattle.shape_data.specs.declared.program.Program.{Program}
use Rattle.shape_data.specs.Sizes.{HasKeySizes, HasProgramSizes}
use Rattle.shape_data.specs.WellFormed.{IsCallee, IsProgram, IsStorableAnswer, IsStorableKey, storable}
use Rattle.component_keys.specs.Keys.{Component, Outer, program_components, specs_in}
use Rattle.component_keys.proofs.Basics.{at_map, mapped_some}
use Rattle.component_keys.proofs.Whole.{from_filter_map}
use Rattle.claim_core.specs.Views.{Solution, solution_of, solutions_of}
use Rattle.claim_laws.proofs.Invariant.{all_at}
use Rattle.key_laws.specs.Composing.{IsCalleeFor}
use Rattle.key_laws.proofs.Callees.{answers_are_callees}
use Rattle.key_laws.proofs.Elements.{all_of, contained_at}
use Rattle.key_laws.proofs.Formed.{composed_are_formed}
use Rattle.key_laws.proofs.Keeping.{used_contained}
use Rattle.solve_laws.specs.Limits.Laws.{ComposedKeysHaveSizes, SolvedIsStorable}
use Rattle.loaded_answers.specs.Lookup.{lookup}
use Rattle.bottom_up.specs.BottomUp.{answered, answers_in, callee_by, callee_from, key_after, known_by}
use Rattle.bottom_up.proofs.Formed.{IsOutside, is_outside}
use Rattle.bottom_up.proofs.ListPlaces.{zip_mapped}
use Rattle.bottom_up.proofs.LookedUp.{looked_up}
use Rattle.bottom_up.proofs.Over.{answer_is, known_is, known_of_component}
use Rattle.comp_solve.specs.Job.Solves.{IsStoredEntry, solve}
use Rattle.store_json.specs.Entries.{IsStorable}
use Rattle.summary_book.specs.declared.aims.Aim.{Aim}
use Rattle.summary_book.specs.Aims.{aimed}
use Rattle.settled_laws.specs.Laws.{aimed_known}
use Rattle.session_replies.specs.PlainAnswers.Laws.{KnownIsStorable}

module _ (solved_fits : SolvedIsStorable) (have_sizes : ComposedKeysHaveSizes) (loaded : List Solution) (stored : All IsStoredEntry loaded)
    (program : Program) (formed : IsProgram program)
    (sizes : HasProgramSizes program) where
  abbrev known : List Solution
  known = known_by (lookup solve loaded) program

  abbrev key_at : Component → Key
  key_at part = key_after program.structs (answers_in known) part

  -- what is looked up is within the limits, where the key is and has few fields and slots
  looked_up_fits : (key : Key) → IsStorableKey key → HasKeySizes key → IsStorableAnswer key (lookup solve loaded key)
  looked_up_fits key is few = looked_up IsStoredEntry loaded stored IsStorableAnswer (λ one own. own.storable) key (solved_fits key is few)

  answer_fits : (place : ℕ) (part : Component) → slice_get (program_components program) place ≡ Some part → IsStorableKey (key_at part) →
      IsStorableAnswer (key_at part) (lookup solve loaded (key_at part))
  answer_fits place part at is =
      looked_up_fits (key_at part) is (have_sizes program place part (map (callee_from (answers_in known)) part.outer) sizes at)

  abbrev AreBelow : ℕ → Type 0
  AreBelow place = (i : ℕ) (other : Component) → i < place → slice_get (program_components program) i ≡ Some other →
      IsStorableKey (key_at other)

  callee_is : (place : ℕ) (outer : Outer) → AreBelow place → IsOutside program place outer →
      IsCallee storable program.structs (callee_from (answers_in known) outer)
  callee_is place outer below out =
      let key : Key = key_at out.part in
      let answer : Answer = lookup solve loaded key in
      let is_key : IsStorableKey key = below outer.component out.part out.before out.at in
      let fits : IsStorableAnswer key answer = answer_fits outer.component out.part out.at is_key in
      let made : IsCallee storable program.structs
      (record { name = out.flow.name; params = out.flow.params; specs = specs_in answer out.flow.name }) =
      answers_are_callees storable program.structs key answer out.flow is_key fits.answers
      (used_contained program.structs formed.structs out.part.flows (map (callee_from (answers_in known)) out.part.outer))
      (contained_at out.part.flows out.member out.flow out.flow_at) in
      let named : IsCallee storable program.structs
      (record { name = outer.name; params = out.flow.params; specs = specs_in answer outer.name }) =
      subst (λ n. IsCallee storable program.structs
      (record { name = n; params = out.flow.params; specs = specs_in answer n })) out.name made in
      let whole : IsCallee storable program.structs (callee_by outer (Some answer)) =
      subst (λ p. IsCallee storable program.structs
      (record { name = outer.name; params = p; specs = specs_in answer outer.name })) out.params named in
      subst (λ o. IsCallee storable program.structs (callee_by outer o))
      (sym (answer_is (lookup solve loaded) program outer.component out.part out.at)) whole

  key_over_below : (place : ℕ) (part : Component) → slice_get (program_components program) place ≡ Some part → AreBelow place →
      IsStorableKey (key_at part)
  key_over_below place part at below =
      composed_are_formed storable program place part (map (callee_from (answers_in known)) part.outer) formed at
      (zip_mapped IsCalleeFor (callee_from (answers_in known)) part.outer (λ outer. record { name = refl; params = refl }))
      (all_of (IsCallee storable program.structs) (map (callee_from (answers_in known)) part.outer)
      (λ k callee at_k.
      let one = mapped_some (callee_from (answers_in known)) (slice_get part.outer k) callee
      (sym (slice_get-map (callee_from (answers_in known)) part.outer k) ∙ at_k) in
      subst (IsCallee storable program.structs) (sym one.2)
      (callee_is place one.0 below (is_outside program formed place part k one.0 at one.1))))

  keys_below : (bound place : ℕ) (part : Component) → place < bound → slice_get (program_components program) place ≡ Some part →
      IsStorableKey (key_at part)
  keys_below zero place part lt at = absurd (omega (arith, lt))
  keys_below (suc bound) place part lt at =
      key_over_below place part at (λ i other less at_i. keys_below bound i other (omega (arith, less, lt)) at_i)

  known_fits : (place : ℕ) (one : Solution) → slice_get known place ≡ Some one → IsStorable one
  known_fits place one at =
      let of = known_of_component (lookup solve loaded) program place one at in
      let is_key : IsStorableKey (key_at of.0) = keys_below (suc place) place of.0 (omega arith) of.1 in
      let fits : IsStorable (answered (lookup solve loaded) (key_at of.0)) =
      record { key = is_key; answer = answer_fits place of.0 of.1 is_key } in
      subst IsStorable (sym of.2) fits

pub known_is_storable : SolvedIsStorable → ComposedKeysHaveSizes → KnownIsStorable
known_is_storable solved_fits have_sizes loaded stored program formed sizes =
    all_of IsStorable (known_by (lookup solve loaded) program) (known_fits solved_fits have_sizes loaded stored program formed sizes)

module _ (loaded : List Solution) (program : Program) (fits : All IsStorable (known_by (lookup solve loaded) program)) where
  -- so is each component's key
  pub key_fits : (place : ℕ) (part : Component) → slice_get (program_components program) place ≡ Some part →
      IsStorableKey (key_after program.structs (answers_in (known_by (lookup solve loaded) program)) part)
  key_fits place part at =
      let one : Solution =
      answered (lookup solve loaded) (key_after program.structs (answers_in (known_by (lookup solve loaded) program)) part) in
      (all_at IsStorable (known_by (lookup solve loaded) program) place one fits (known_is (lookup solve loaded) program place part at)).key

  aimed_fit : (aim : Aim) → All IsStorable (aimed_known (lookup solve loaded) program aim)
  aimed_fit aim =
      let places : List ℕ = filter (aimed program aim) (range_with_len 0 (length (program_components program))) in
      all_of IsStorable (aimed_known (lookup solve loaded) program aim)
      (λ k one at.
      let from = from_filter_map (slice_get (known_by (lookup solve loaded) program)) places k one at in
      all_at IsStorable (known_by (lookup solve loaded) program) from.1 one fits from.3)

  -- and so are entries that are what is known of an aim's components
  pub entries_fit : (aim : Aim) (kept : List Kept) → solutions_of kept ≡ aimed_known (lookup solve loaded) program aim →
      All (λ (one : Kept). IsStorable (solution_of one)) kept
  entries_fit aim kept is =
      let all : All IsStorable (solutions_of kept) = subst (All IsStorable) (sym is) (aimed_fit aim) in
      all_of (λ (one : Kept). IsStorable (solution_of one)) kept
      (λ k one at. all_at IsStorable (solutions_of kept) k (solution_of one) all
      (at_map solution_of kept k ∙ ap (option_map solution_of) at))
