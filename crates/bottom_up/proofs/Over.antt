-- The key of each component is made of the answers of all, of which it uses those before it.
use Rattle.std.proofs.Common.{◌≡◌, ℕ, zero, suc, ◌+◌, ◌<◌, List, [], ◌∷◌, ◌++◌, length, map, slice_get, Some, None, Option, refl, sym, ap}
use Rattle.std.proofs.Common.{ap₂, ◌∙◌, subst, option_map, arith, append_assoc, length-append}
use Rattle.std.proofs.lemmas.Option.{slice_get-map, slice_get_within}
use Rattle.shape_data.specs.declared.answer.Answer.{Answer}
use Rattle.shape_data.specs.declared.answer.Key.{Key}
use Rattle.shape_data.specs.declared.program.Program.{Program}
use Rattle.shape_data.specs.declared.program.StructDef.{StructDef}
use Rattle.component_keys.specs.Keys.{Component, Outer, key_over, program_components}
use Rattle.component_keys.proofs.Basics.{not_none, some_same}
use Rattle.component_keys.proofs.Ordered.{callees_before}
use Rattle.claim_core.specs.Views.{Solution}
use Rattle.bottom_up.specs.BottomUp.{answered, answers_in, callee_by, callee_from, key_after, known_by, known_over}
use Rattle.bottom_up.proofs.ListPlaces.{front_at, within_at}

-- two lists are the same at the places below
abbrev pub AgreeBelow : ℕ → List Answer → List Answer → Type 0
AgreeBelow n xs ys = (k : ℕ) → k < n → slice_get xs k ≡ slice_get ys k

callees_agree : (n : ℕ) (xs ys : List Answer) (outer : List Outer) → AgreeBelow n xs ys →
    ((k : ℕ) (o : Outer) → slice_get outer k ≡ Some o → o.component < n) →
    map (callee_from xs) outer ≡ map (callee_from ys) outer
callees_agree n xs ys [] agree before = refl
callees_agree n xs ys (o ∷ outer) agree before =
    ap₂ (λ one others. one ∷ others) (ap (callee_by o) (agree o.component (before 0 o refl)))
    (callees_agree n xs ys outer agree (λ k p at. before (suc k) p at))

-- the key of a component uses the answers of those before it alone
pub key_agrees : (program : Program) (place : ℕ) (part : Component) (xs ys : List Answer) →
    slice_get (program_components program) place ≡ Some part → AgreeBelow place xs ys →
    key_after program.structs xs part ≡ key_after program.structs ys part
key_agrees program place part xs ys at agree =
    ap (key_over program.structs part.flows)
    (callees_agree place xs ys part.outer agree (λ k outer at_k. callees_before program place k part outer at at_k))

module _ (answer_of : Key → Answer) (structs : List StructDef) where
  known_length : (parts : List Component) (before : List Answer) → length (known_over answer_of structs parts before) ≡ length parts
  known_length [] before = refl
  known_length (part ∷ parts) before = ap (λ n. suc n) (known_length parts (before ++ answer_of (key_after structs before part) ∷ []))

  -- the key at a place is made of answers that are those of the whole at the places before it
  record IsKnownAt (whole : List Answer) (place : ℕ) (part : Component) (one : Option Solution) : Type 0 where
    front : List Answer
    agrees : AgreeBelow place front whole
    is : one ≡ Some (answered answer_of (key_after structs front part))

  known_at : (parts : List Component) (before whole : List Answer) →
      whole ≡ before ++ answers_in (known_over answer_of structs parts before) → (i : ℕ) (part : Component) →
      slice_get parts i ≡ Some part →
      IsKnownAt whole (length before + i) part (slice_get (known_over answer_of structs parts before) i)
  known_at [] before whole is i part at = not_none at
  known_at (first ∷ parts) before whole is zero part at = record {
    front = before;
    agrees =
        λ k lt. sym (ap (λ l. slice_get l k) is
        ∙ front_at before (answers_in (known_over answer_of structs (first ∷ parts) before)) k (omega (arith, lt)));
    is = ap (λ p. Some (answered answer_of (key_after structs before p))) (some_same at);
  }
  known_at (first ∷ parts) before whole is (suc i) part at =
      let one : Answer = answer_of (key_after structs before first) in
      let rest : List Solution = known_over answer_of structs parts (before ++ one ∷ []) in
      let again : IsKnownAt whole (length (before ++ one ∷ []) + i) part (slice_get rest i) =
      known_at parts (before ++ one ∷ []) whole (is ∙ sym (append_assoc before (one ∷ []) (answers_in rest))) i part at in
      let longer : length (before ++ one ∷ []) ≡ length before + 1 = length-append before (one ∷ []) in
      let place : length (before ++ one ∷ []) + i ≡ length before + suc i = omega (arith, longer) in
      subst (λ n. IsKnownAt whole n part (slice_get rest i)) place again

module _ (answer_of : Key → Answer) (program : Program) where
  -- what is known of a component: its key is made of the answers of all
  pub known_is : (place : ℕ) (part : Component) → slice_get (program_components program) place ≡ Some part →
      slice_get (known_by answer_of program) place
      ≡ Some (answered answer_of (key_after program.structs (answers_in (known_by answer_of program)) part))
  unfolding known_by
  known_is place part at =
      let whole : List Answer = answers_in (known_over answer_of program.structs (program_components program) []) in
      let one = known_at answer_of program.structs (program_components program) [] whole refl place part at in
      one.is ∙ ap (λ key. Some (answered answer_of key))
      (key_agrees program place part one.front whole at (λ k lt. one.agrees k (omega (arith, lt))))

  pub known_many : length (known_by answer_of program) ≡ length (program_components program)
  unfolding known_by
  known_many = known_length answer_of program.structs (program_components program) []

  pub answer_is : (place : ℕ) (part : Component) → slice_get (program_components program) place ≡ Some part →
      slice_get (answers_in (known_by answer_of program)) place
      ≡ Some (answer_of (key_after program.structs (answers_in (known_by answer_of program)) part))
  answer_is place part at =
      slice_get-map (λ (one : Solution). one.answer) (known_by answer_of program) place
      ∙ ap (option_map (λ (one : Solution). one.answer)) (known_is place part at)

  -- what is known at a place is known of the component there
  pub known_of_component : (place : ℕ) (one : Solution) → slice_get (known_by answer_of program) place ≡ Some one →
      (part : Component) × (slice_get (program_components program) place ≡ Some part)
      × (one ≡ answered answer_of (key_after program.structs (answers_in (known_by answer_of program)) part))
  known_of_component place one at =
      by_part (slice_get (program_components program) place) refl
    where
      by_part : (o : Option Component) → slice_get (program_components program) place ≡ o →
          (part : Component) × (slice_get (program_components program) place ≡ Some part)
          × (one ≡ answered answer_of (key_after program.structs (answers_in (known_by answer_of program)) part))
      by_part None e =
          let within = slice_get_within (known_by answer_of program) place one at in
          let same = known_many in
          not_none (sym e ∙ (within_at (program_components program) place (omega (arith, within, same))).1)
      by_part (Some part) e = (part, e, some_same (sym at ∙ known_is place part e))
