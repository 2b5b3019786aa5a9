-- The cases of a call are well formed, in both modes: what a spec that fits gives is, and so is each of its posts in the caller.
use Rattle.std.specs.Prelude.{◌≡◌, ℕ, ◌+◌, ◌*◌, ◌<◌, ◌≤◌, Bool, true, false, if◌then◌else◌, List, [], ◌∷◌, ◌++◌, length, flat_map, map, All}
use Rattle.std.specs.Prelude.{Contains}
use Rattle.std.specs.List.{cons_option, filter_map}
use Rattle.std.specs.declared.option.Option.{Option}
use Rattle.std.specs.declared.option.Option.TheVariants.{None, Some}
use Rattle.std.proofs.Common.{refl, sym, ap, subst, ◌∙◌, arith}
use Rattle.std.proofs.lemmas.List.{length-append, length-map, length-set}
use Rattle.std.proofs.lemmas.List.Elements.{All-append, All-cons, All-contains, All-head, All-map, All-nil, All-set, All-tail, All-weaker}
use Rattle.shape_data.specs.declared.answer.Callee.{Callee}
use Rattle.shape_data.specs.declared.answer.Fault.TheVariants as fault
use Rattle.shape_data.specs.declared.program.Cmd.TheVariants as cmd
use Rattle.shape_data.specs.declared.program.Operand.{Operand}
use Rattle.shape_data.specs.declared.program.StructDef.{StructDef}
use Rattle.shape_data.specs.declared.symbolic.Exp.{Exp}
use Rattle.shape_data.specs.declared.symbolic.Fact.{Fact}
use Rattle.shape_data.specs.declared.symbolic.Post.{Post}
use Rattle.shape_data.specs.declared.symbolic.Spec.{Spec}
use Rattle.shape_data.specs.WellFormed.{AreStructs, IsAtom, IsCallee, IsExp, IsFact, IsPost, IsSpec, IsSymHeap, widest}
use Rattle.sym_parts.specs.Shapes.Symbolic.{beside}
use Rattle.sym_canon.specs.declared.parts.Pair.{Pair}
use Rattle.sym_canon.specs.Numbering.{sides}
use Rattle.sym_matching.specs.declared.matching.Abd.{Abd}
use Rattle.sym_matching.specs.declared.matching.Abd.TheVariants as abd
use Rattle.sym_matching.specs.declared.matching.Sub.{Sub}
use Rattle.sym_matching.specs.declared.matching.Sub.TheVariants as sub
use Rattle.sym_matching.specs.Answers.{HasParts, names_of_all}
use Rattle.sym_matching.specs.Matches.{argument_variables, biabduce_avoiding, subtract_avoiding}
use Rattle.sym_matching.specs.Rooms.{IsWithinSizes, fields_of_all}
use Rattle.sym_matching.specs.Steps.{contradicts}
use Rattle.sym_matching.specs.Variables.{with_atoms, with_binding, with_exps, with_facts, with_heap}
use Rattle.sym_matching.proofs.AnswerLaws.{biabduce_is_well_formed, few_names, subtract_is_well_formed}
use Rattle.sym_matching.proofs.CountLaws.{biabduce_has_sizes, subtract_has_sizes}
use Rattle.sym_matching.proofs.RoomLaws.{few_each, few_fields}
use Rattle.sym_matching.proofs.SizeLaws.{well_formed_is_within_sizes}
use Rattle.sym_matching.specs.declared.renaming.parts.CalledPre.{CalledPre}
use Rattle.sym_matching.specs.Renaming.Calls.{called_with}
use Rattle.sym_matching.specs.Renaming.Sizes.{IsCalledWellFormed, IsPostWellFormed}
use Rattle.sym_matching.proofs.RenamingLemmas.CalledLemmas.{called_is_well_formed, post_is_well_formed}
use Rattle.sym_matching.proofs.RenamingLemmas.SizeLemmas.{few_binding_variables, few_exps, few_heap_variables}
use Rattle.exec_laws.specs.declared.parts.Case.{Case}
use Rattle.exec_laws.specs.declared.parts.Case.TheVariants.{On, Leaves, Drops}
use Rattle.exec_laws.specs.declared.parts.Mode.{Mode}
use Rattle.exec_laws.specs.declared.parts.Mode.TheVariants.{Strict, Search}
use Rattle.exec_laws.specs.declared.parts.Table.{Table}
use Rattle.exec_laws.specs.Calling.{Fit, after_fit, after_found, after_post, call, call_of, call_with, callee_of, first_subtracted}
use Rattle.exec_laws.specs.Calling.{fit_of_abd, fit_of_sub, found, found_by, in_caller, in_use, is_cut, state_after, subtracted}
use Rattle.exec_laws.specs.Calling.{with_received, without_fit}
use Rattle.exec_laws.specs.Laws.{FitsTable, FoundFitsAreWithin, IsTableWithin, SubtractedFitsAreWithin, callees_of}
use Rattle.exec_laws.specs.Pairs.{Setting, new_logical, pair_variables, with_pair}
use Rattle.exec_laws.specs.Rooms.{may_miss, with_parts, IsCaseWithin, IsFitWithin, IsPairWithin}
use Rattle.exec_laws.specs.Values.{operand}
use Rattle.exec_laws.proofs.CallRows.{callee-found, first-found}
use Rattle.exec_laws.proofs.CaseRooms.{logical-low, operand-exp}
use Rattle.exec_laws.proofs.RoomLemmas.{atoms-few, room-more, two_sides}

-- ---- lists

All-flat : {A B : Type 0} (P : B → Type 0) (f : A → List B) (xs : List A) → All (λ x. All P (f x)) xs → All P (flat_map f xs)
All-flat P f [] each = All-nil P
All-flat P f (x ∷ xs) each =
    All-append P (f x) (flat_map f xs) (All-head (λ y. All P (f y)) x xs each) (All-flat P f xs (All-tail (λ y. All P (f y)) x xs each))

All-passed : {A B : Type 0} (P : B → Type 0) (Q : A → Type 0) (f : A → Option B) (xs : List A) →
    ((x : A) (y : B) → Q x → f x ≡ Some y → P y) → All Q xs → All P (filter_map f xs)
All-passed P Q f [] gives each = All-nil P
All-passed {B = B} P Q f (x ∷ xs) gives each = by_one (f x) refl (All-passed P Q f xs gives (All-tail Q x xs each))
  where
    by_one : (o : Option B) → f x ≡ o → All P (filter_map f xs) → All P (cons_option o (filter_map f xs))
    by_one None is later = later
    by_one (Some y) is later = All-cons P y (filter_map f xs) (gives x y (All-head Q x xs each) is) later

-- ---- how many atoms

-- a case has few atoms, in its state and in its missing heap
abbrev pub HasFewAtoms : Pair → Type 0
HasFewAtoms pair = (length pair.state.heap.spatial ≤ 12000) × (length pair.missing.spatial ≤ 12000)

abbrev pub HasAtoms : Case → Type 0
HasAtoms (On node pair) = HasFewAtoms pair
HasAtoms (Leaves pair) = HasFewAtoms pair
HasAtoms (Drops cause) = Unit {0}

-- a fit has few
abbrev FitAtoms : Fit → Type 0
FitAtoms fit = (length fit.frame.spatial ≤ 4000) × (length fit.missing.spatial ≤ 12000)

-- ---- how many variables

facts-two : (facts : List Fact) (names : List ℕ) → length (with_facts names facts) ≤ length names + 2 * length facts
facts-two [] names = omega arith
facts-two (fact ∷ facts) names =
    let two : length (sides fact) ≤ 2 = two_sides fact in
    let first : length (with_exps names (sides fact)) ≤ length names + length (sides fact) = few_exps (sides fact) names in
    let later : length (with_facts (with_exps names (sides fact)) facts) ≤ length (with_exps names (sides fact)) + 2 * length facts =
    facts-two facts (with_exps names (sides fact)) in
    omega arith

-- the variables of a pair behind others are as many more
behind-more : (structs : List StructDef) (are : AreStructs structs) (params slots : ℕ) (names : List ℕ) (pair : Pair) (k j : ℕ) →
    slots ≤ 32768 → IsPairWithin structs params slots k j pair →
    length (with_pair names pair) ≤ length names + 32768 + 32769 * k + 32769 * j
behind-more structs are params slots names pair k j narrow room =
    let parts : length pair.state.heap.pure + length pair.state.heap.spatial ≤ k = room.state.heap.parts in
    let weight : length pair.missing.pure + length pair.missing.spatial + length pair.state.heap.spatial ≤ j = room.light in
    let one_each : length pair.state.locals ≡ slots = room.state.one_each in
    let first : length (with_exps names pair.state.locals) ≤ length names + length pair.state.locals = few_exps pair.state.locals names in
    let facts : List ℕ = with_facts (with_exps names pair.state.locals) pair.state.heap.pure in
    let second : length facts ≤ length (with_exps names pair.state.locals) + 2 * length pair.state.heap.pure =
    facts-two pair.state.heap.pure (with_exps names pair.state.locals) in
    let state : List ℕ = with_atoms facts pair.state.heap.spatial in
    let third : length state ≤ length facts + 32769 * length pair.state.heap.spatial =
    atoms-few structs are params slots k pair.state.heap.spatial facts room.state.heap.atoms in
    let missing : List ℕ = with_facts state pair.missing.pure in
    let fourth : length missing ≤ length state + 2 * length pair.missing.pure = facts-two pair.missing.pure state in
    let fifth : length (with_atoms missing pair.missing.spatial) ≤ length missing + 32769 * length pair.missing.spatial =
    atoms-few structs are params slots 4000 pair.missing.spatial missing room.atoms in
    omega arith

module _ (structs : List StructDef) (are : AreStructs structs) (params slots : ℕ) (narrow : slots ≤ 32768) (k j : ℕ) (few : k ≤ 4000)
    (small : j ≤ 8000) (pair : Pair) (room : IsPairWithin structs params slots k j pair)
    (most : ℕ) (few_most : most ≤ 4000) (before : ℕ) (spec : Spec) (is_spec : IsSpec (with_parts most) structs before spec)
    (args : List Exp) (low : length args ≤ 32768) (args_fine : All (IsExp widest params) args) where
  used-few : length (pair_variables pair) ≤ 393260768
  used-few = let all : length (pair_variables pair)
      ≤ 0 + 32768 + 32769 * k + 32769 * j = behind-more structs are params slots [] pair k j narrow room in omega arith

  state-heap : IsSymHeap widest structs params pair.state.heap
  state-heap = let parts : length pair.state.heap.pure + length pair.state.heap.spatial
      ≤ k = room.state.heap.parts in record { parts = omega arith; facts = room.state.heap.facts; atoms = room.state.heap.atoms }

  pre-heap : IsSymHeap widest structs before spec.pre
  pre-heap = let parts : length spec.pre.pure + length spec.pre.spatial
      ≤ most = is_spec.pre.parts in record { parts = omega arith; facts = is_spec.pre.facts; atoms = is_spec.pre.atoms }

  abbrev called : CalledPre
  called = called_with (pair_variables pair) args spec.pre

  called-fine : IsCalledWellFormed structs params args spec.pre called
  called-fine = let names : length (pair_variables pair)
      ≤ 393260768 =
      used-few in called_is_well_formed structs before params (pair_variables pair) args spec.pre are (omega arith) low args_fine pre-heap

  -- the variables of the match
  matched-few : length (argument_variables pair.state.heap called.pre called.bound called.flexible ++ pair_variables pair) ≤ 1073741824
  matched-few =
      let names : length (pair_variables pair) ≤ 393260768 = used-few in
      let a : length (with_heap [] pair.state.heap) ≤ 0 + 131076000 =
      few_heap_variables [] pair.state.heap (well_formed_is_within_sizes structs params pair.state.heap are state-heap) in
      let b : length (with_heap (with_heap [] pair.state.heap) called.pre) ≤ length (with_heap [] pair.state.heap) + 131076000 =
      few_heap_variables (with_heap [] pair.state.heap) called.pre
      (well_formed_is_within_sizes structs params called.pre are called-fine.heap) in
      let c : length (with_binding (with_heap (with_heap [] pair.state.heap) called.pre) called.bound)
      ≤ length (with_heap (with_heap [] pair.state.heap) called.pre) + 2 * length called.bound =
      few_binding_variables (with_heap (with_heap [] pair.state.heap) called.pre) called.bound in
      let bound : length called.bound ≡ length args = called-fine.one_each in
      let flexible : length called.flexible ≤ length args + 131076000 = called-fine.few in
      let d : length (argument_variables pair.state.heap called.pre called.bound called.flexible)
      ≡ length (with_binding (with_heap (with_heap [] pair.state.heap) called.pre) called.bound) + length called.flexible =
      length-append (with_binding (with_heap (with_heap [] pair.state.heap) called.pre) called.bound) called.flexible in
      let e : length (argument_variables pair.state.heap called.pre called.bound called.flexible ++ pair_variables pair)
      ≡ length (argument_variables pair.state.heap called.pre called.bound called.flexible) + length (pair_variables pair) =
      length-append (argument_variables pair.state.heap called.pre called.bound called.flexible) (pair_variables pair) in
      omega arith

  -- the bindings are few
  bindings-few : (binding : List (ℕ × Exp)) → length binding ≤ length called.bound + length called.flexible → length binding ≤ 268435456
  bindings-few binding h = let bound : length called.bound ≡ length args = called-fine.one_each in let flexible : length called.flexible
      ≤ length args + 131076000 = called-fine.few in omega arith

  -- and the variables in use
  in-use-few : (fit : Fit) → HasParts widest structs params fit.frame → length fit.frame.pure ≤ 131084000 →
      length fit.frame.spatial ≤ 4000 → length (in_use pair fit) ≤ 1073741824
  in-use-few fit parts facts atoms =
      let first : length (with_facts [] fit.frame.pure) ≤ 0 + 2 * length fit.frame.pure = facts-two fit.frame.pure [] in
      let second : length (with_heap [] fit.frame) ≤ length (with_facts [] fit.frame.pure) + 32769 * length fit.frame.spatial =
      atoms-few structs are params slots 4000 fit.frame.spatial (with_facts [] fit.frame.pure) parts.atoms in
      let all : length (in_use pair fit) ≤ length (with_heap [] fit.frame) + 32768 + 32769 * k + 32769 * j =
      behind-more structs are params slots (with_heap [] fit.frame) pair k j narrow room in
      omega arith

  -- ---- a spec that is subtracted

  abbrev IsFitIn : ℕ → ℕ → Fit → Type 0
  IsFitIn m i fit = IsFitWithin structs params m i pair fit × FitAtoms fit

  pub subtracted-room : (fit : Fit) → subtracted args pair spec ≡ Some fit → IsFitIn k j fit
  subtracted-room fit is = by_sub (subtract_avoiding pair.state.heap called.pre called.bound called.flexible (pair_variables pair)) refl is
    where
      by_sub : (r : Sub) → subtract_avoiding pair.state.heap called.pre called.bound called.flexible (pair_variables pair) ≡ r →
          fit_of_sub pair spec called.numbers r ≡ Some fit → IsFitIn k j fit
      by_sub (sub.NoMatch wanted) matched h = cc
      by_sub (sub.Match frame binding) matched h =
          let one : record { missing = pair.missing; frame = frame; apart = called.numbers; binding = binding; posts = spec.posts } ≡ fit =
          cc in
          let fine =
          subtract_is_well_formed structs params pair.state.heap called.pre called.bound called.flexible
          (pair_variables pair) frame binding are state-heap called-fine.heap called-fine.bound called-fine.flexible matched-few
          matched in
          let sizes =
          subtract_has_sizes pair.state.heap called.pre called.bound called.flexible (pair_variables pair) frame binding matched in
          let facts : length frame.pure ≡ length pair.state.heap.pure = ap (λ some. length some) sizes.facts in
          let atoms : length frame.spatial ≤ length pair.state.heap.spatial = sizes.atoms in
          let parts : length pair.state.heap.pure + length pair.state.heap.spatial ≤ k = room.state.heap.parts in
          let weight : length pair.missing.pure + length pair.missing.spatial + length pair.state.heap.spatial ≤ j = room.light in
          let frame_parts : HasParts widest structs params frame = record { facts = fine.0.facts; atoms = fine.0.atoms } in
          let made : IsFitWithin structs params k j pair
          (record { missing = pair.missing; frame = frame; apart = called.numbers; binding = binding; posts = spec.posts }) = record {
            missing = record { facts = room.facts; atoms = room.atoms };
            frame = frame_parts;
            few = omega arith;
            light = omega arith;
            binding = fine.1;
            bindings = bindings-few binding sizes.bindings;
            used =
                in-use-few (record {
                  missing = pair.missing;
                  frame = frame;
                  apart = called.numbers;
                  binding = binding;
                  posts = spec.posts;
                }) frame_parts (omega arith) (omega arith);
          } in
          subst (λ (f : Fit). IsFitIn k j f) one (made, (omega arith, omega arith))

  -- ---- a spec that is found by abduction

  module _ (first : ℕ) (first_low : first ≤ 65536) where
    names-few : first + names_of_all called.pre.spatial ≤ 2147483648
    names-few =
        let sizes : IsWithinSizes called.pre = well_formed_is_within_sizes structs params called.pre are called-fine.heap in
        let fields : fields_of_all called.pre.spatial ≤ 131072000 = few_fields called.pre sizes in
        let parts : length called.pre.pure + length called.pre.spatial ≤ 4000 = sizes.parts in
        let names : names_of_all called.pre.spatial ≤ fields_of_all called.pre.spatial + length called.pre.spatial =
        few_names called.pre.spatial in
        omega arith

    pub found-room : (fit : Fit) → found_by called first pair spec ≡ Some fit →
        IsFitIn (k + may_miss Search most) (j + may_miss Search most) fit
    found-room fit is =
        by_abd (biabduce_avoiding pair.state.heap called.pre called.bound called.flexible first (pair_variables pair)) refl is
      where
        by_abd : (r : Abd) → biabduce_avoiding pair.state.heap called.pre called.bound called.flexible first (pair_variables pair) ≡ r →
            fit_of_abd pair spec called.numbers r ≡ Some fit →
            IsFitIn (k + may_miss Search most) (j + may_miss Search most) fit
        by_abd (abd.NoMatch wanted) matched h = cc
        by_abd (abd.Found missing frame binding) matched h = by_test (contradicts (beside pair.missing missing)) h
          where
            by_test : (b : Bool) →
                (if b then None
                else Some (record {
                  missing = beside pair.missing missing;
                  frame = frame;
                  apart = called.numbers;
                  binding = binding;
                  posts = spec.posts;
                })) ≡ Some fit →
                IsFitIn (k + may_miss Search most) (j + may_miss Search most) fit
            by_test true g = cc
            by_test false g =
                let one : record {
                  missing = beside pair.missing missing;
                  frame = frame;
                  apart = called.numbers;
                  binding = binding;
                  posts = spec.posts;
                } ≡ fit = cc in
                let fine =
                biabduce_is_well_formed structs params pair.state.heap called.pre called.bound called.flexible first
                (pair_variables pair) missing frame binding are state-heap called-fine.heap called-fine.bound called-fine.flexible
                matched-few names-few matched in
                let sizes =
                biabduce_has_sizes pair.state.heap called.pre called.bound called.flexible first
                (pair_variables pair) missing frame binding matched in
                let within : IsWithinSizes called.pre = well_formed_is_within_sizes structs params called.pre are called-fine.heap in
                let fields : fields_of_all called.pre.spatial ≤ 32768 * length called.pre.spatial =
                few_each called.pre.spatial within.fields in
                let same_facts : length called.pre.pure ≡ length spec.pre.pure = called-fine.facts in
                let same_atoms : length called.pre.spatial ≡ length spec.pre.spatial = called-fine.atoms in
                let pre_parts : length spec.pre.pure + length spec.pre.spatial ≤ most = is_spec.pre.parts in
                let lacks : length missing.pure + length missing.spatial
                ≤ length called.pre.pure + length called.pre.spatial + fields_of_all called.pre.spatial = sizes.missing_parts in
                let facts : length frame.pure ≡ length pair.state.heap.pure + length missing.pure =
                ap (λ some. length some) sizes.facts ∙ length-append pair.state.heap.pure missing.pure in
                let atoms : length frame.spatial ≤ length pair.state.heap.spatial = sizes.atoms in
                let more_facts : length (pair.missing.pure ++ missing.pure) ≡ length pair.missing.pure + length missing.pure =
                length-append pair.missing.pure missing.pure in
                let more_atoms : length (pair.missing.spatial ++ missing.spatial) ≡ length pair.missing.spatial + length missing.spatial =
                length-append pair.missing.spatial missing.spatial in
                let parts : length pair.state.heap.pure + length pair.state.heap.spatial ≤ k = room.state.heap.parts in
                let weight : length pair.missing.pure + length pair.missing.spatial + length pair.state.heap.spatial ≤ j = room.light in
                let pre_atoms : length missing.spatial ≤ length called.pre.spatial = sizes.missing_atoms in
                let made : IsFitWithin structs params (k + may_miss Search most) (j + may_miss Search most) pair
                (record {
                  missing = beside pair.missing missing;
                  frame = frame;
                  apart = called.numbers;
                  binding = binding;
                  posts = spec.posts;
                }) = record {
                  missing = record {
                    facts = All-append (IsFact widest params) pair.missing.pure missing.pure room.facts fine.missing_parts.facts;
                    atoms =
                        All-append (IsAtom widest structs params) pair.missing.spatial missing.spatial room.atoms fine.missing_parts.atoms;
                  };
                  frame = fine.frame_parts;
                  few = omega arith;
                  light = omega arith;
                  binding = fine.binding_parts;
                  bindings = bindings-few binding sizes.bindings;
                  used =
                      in-use-few (record {
                        missing = beside pair.missing missing;
                        frame = frame;
                        apart = called.numbers;
                        binding = binding;
                        posts = spec.posts;
                      }) fine.frame_parts (omega arith) (omega arith);
                } in
                subst (λ (f : Fit). IsFitIn (k + may_miss Search most) (j + may_miss Search most) f) one (made, (omega arith, omega arith))

pub subtracted_fits_are_within : SubtractedFitsAreWithin
subtracted_fits_are_within structs args pair spec fit before params slots parts weight most are is_spec low fine narrow few small few_most
    room is =
    (subtracted-room structs are params slots narrow parts weight few small pair room most few_most before spec is_spec args low fine fit
    is).0

pub found_fits_are_within : FoundFitsAreWithin
found_fits_are_within setting args pair spec fit before params slots parts weight most are is_spec low fine narrow known few small few_most
    room is =
    (found-room setting.structs are params slots narrow parts weight few small pair room most few_most before spec is_spec args low fine
    (new_logical setting.params pair)
    (logical-low setting.structs are params slots 0 narrow setting.mode setting.params known setting.table pair) fit is).0

-- ---- cases with more room

pub case-more : (structs : List StructDef) (are : AreStructs structs) (params slots nodes m i n l : ℕ) → m ≤ n → i ≤ l → (case : Case) →
    IsCaseWithin structs params slots nodes m i case → IsCaseWithin structs params slots nodes n l case
case-more structs are params slots nodes m i n l below under (On node one) is =
    (is.0, room-more structs are params slots m n i l below under one is.1)
case-more structs are params slots nodes m i n l below under (Leaves one) is = room-more structs are params 1 m n i l below under one is
case-more structs are params slots nodes m i n l below under (Drops cause) is = tt

-- ---- the posts of a spec that fits

module _ (structs : List StructDef) (are : AreStructs structs) (params slots nodes : ℕ) (k j : ℕ) (pair : Pair)
    (room : IsPairWithin structs params slots k j pair)
    (most : ℕ) (few_most : most ≤ 4000) (m i : ℕ) (fit : Fit) (good : IsFitWithin structs params m i pair fit) (fit_atoms : FitAtoms fit)
    (to : Option ℕ) (next : ℕ) (there : next < nodes) where
  -- a case in that room, with few atoms
  abbrev IsCaseIn : Case → Type 0
  IsCaseIn case = IsCaseWithin structs params slots nodes (m + most) (i + most) case × HasAtoms case

  received-fine : (to : Option ℕ) (e : Exp) → IsExp widest params e →
      (length (with_received to e pair.state.locals) ≡ slots) × All (IsExp widest params) (with_received to e pair.state.locals)
  received-fine None e fine = (room.state.one_each, room.state.locals)
  received-fine (Some slot) e fine = (
    length-set pair.state.locals slot e
        ∙ room.state.one_each,
    All-set (IsExp widest params) pair.state.locals slot e fine room.state.locals,
  )

  post-room : (before : ℕ) (post : Post) → IsPost (with_parts most) structs before post → IsCaseIn (after_post to next pair fit post)
  post-room before post is =
      let read : Post = in_caller pair fit post in
      let post_parts : length post.heap.pure + length post.heap.spatial ≤ most = is.heap.parts in
      let wide : IsPost widest structs before post =
      record { ret = is.ret; heap = record { parts = omega arith; facts = is.heap.facts; atoms = is.heap.atoms } } in
      let fine : IsPostWellFormed structs params post read =
      post_is_well_formed structs before params
      (in_use pair fit) fit.apart fit.binding post are good.used good.bindings good.binding wide in
      let facts : length read.heap.pure ≡ length post.heap.pure = fine.facts in
      let atoms : length read.heap.spatial ≡ length post.heap.spatial = fine.atoms in
      let all_facts : length (fit.frame.pure ++ read.heap.pure) ≡ length fit.frame.pure + length read.heap.pure =
      length-append fit.frame.pure read.heap.pure in
      let all_atoms : length (fit.frame.spatial ++ read.heap.spatial) ≡ length fit.frame.spatial + length read.heap.spatial =
      length-append fit.frame.spatial read.heap.spatial in
      let few : length fit.frame.pure + length fit.frame.spatial ≤ m = good.few in
      let light : length fit.missing.pure + length fit.missing.spatial + length fit.frame.spatial ≤ i = good.light in
      let frame_atoms : length fit.frame.spatial ≤ 4000 = fit_atoms.0 in
      let received = received-fine to read.ret fine.well_formed.ret in
      let made : IsPairWithin structs params slots (m + most) (i + most)
      (record { missing = fit.missing; state = state_after pair.state.locals to fit.frame read }) =
      record {
        state = record {
          one_each = received.0;
          locals = received.1;
          heap = record {
            parts = omega arith;
            facts = All-append (IsFact widest params) fit.frame.pure read.heap.pure good.frame.facts fine.well_formed.heap.facts;
            atoms =
                All-append (IsAtom widest structs params) fit.frame.spatial read.heap.spatial good.frame.atoms fine.well_formed.heap.atoms;
          };
        };
        facts = good.missing.facts;
        atoms = good.missing.atoms;
        light = omega arith;
      } in
      ((there, made), (omega arith, fit_atoms.1))

  pub fit-room : (before : ℕ) → All (IsPost (with_parts most) structs before) fit.posts → All IsCaseIn (after_fit to next pair fit)
  fit-room before each =
      All-map IsCaseIn (after_post to next pair fit) fit.posts
      (All-weaker (IsPost (with_parts most) structs before) (λ post. IsCaseIn (after_post to next pair fit post))
      (post-room before) fit.posts each)

-- ---- the row

-- the posts of a fit are those of the spec
subtracted-posts : (args : List Exp) (pair : Pair) (spec : Spec) (fit : Fit) → subtracted args pair spec ≡ Some fit → fit.posts ≡ spec.posts
subtracted-posts args pair spec fit is =
    by_sub (subtract_avoiding pair.state.heap (called_with (pair_variables pair) args spec.pre).pre
    (called_with (pair_variables pair) args spec.pre).bound (called_with (pair_variables pair) args spec.pre).flexible
    (pair_variables pair)) is
  where
    by_sub : (r : Sub) → fit_of_sub pair spec (called_with (pair_variables pair) args spec.pre).numbers r ≡ Some fit →
        fit.posts ≡ spec.posts
    by_sub (sub.NoMatch wanted) h = cc
    by_sub (sub.Match frame binding) h =
        let one : record {
          missing = pair.missing;
          frame = frame;
          apart = (called_with (pair_variables pair) args spec.pre).numbers;
          binding = binding;
          posts = spec.posts;
        } ≡ fit = cc in
        ap (λ (f : Fit). f.posts) (sym one)

found-posts : (setting : Setting) (args : List Exp) (pair : Pair) (spec : Spec) (fit : Fit) → found setting args pair spec ≡ Some fit →
    fit.posts ≡ spec.posts
found-posts setting args pair spec fit is =
    by_abd
    (biabduce_avoiding pair.state.heap (called_with (pair_variables pair) args spec.pre).pre
    (called_with (pair_variables pair) args spec.pre).bound (called_with (pair_variables pair) args spec.pre).flexible
    (new_logical setting.params pair)
    (pair_variables pair)) is
  where
    by_abd : (r : Abd) → fit_of_abd pair spec (called_with (pair_variables pair) args spec.pre).numbers r ≡ Some fit →
        fit.posts ≡ spec.posts
    by_abd (abd.NoMatch wanted) h = cc
    by_abd (abd.Found missing frame binding) h = by_test (contradicts (beside pair.missing missing)) h
      where
        by_test : (b : Bool) →
            (if b then None
            else Some (record {
              missing = beside pair.missing missing;
              frame = frame;
              apart = (called_with (pair_variables pair) args spec.pre).numbers;
              binding = binding;
              posts = spec.posts;
            })) ≡ Some fit →
            fit.posts ≡ spec.posts
        by_test true g = cc
        by_test false g =
            let one : record {
              missing = beside pair.missing missing;
              frame = frame;
              apart = (called_with (pair_variables pair) args spec.pre).numbers;
              binding = binding;
              posts = spec.posts;
            } ≡ fit = cc in
            ap (λ (f : Fit). f.posts) (sym one)

module _ (structs : List StructDef) (are : AreStructs structs) (params slots nodes : ℕ) (narrow : slots ≤ 32768) (mode : Mode) (count : ℕ)
    (known : count ≤ 32768) (table : Table)
    (k j : ℕ) (few : k ≤ 4000) (small : j ≤ 8000) (pair : Pair) (room : IsPairWithin structs params slots k j pair) (most : ℕ)
    (few_most : most ≤ 4000) (good : IsTableWithin structs most table)
    (to : Option ℕ) (name : List ℕ) (args : List Operand) (next : ℕ) (there : next < nodes)
    (fits : FitsTable table (cmd.Call to name args next)) where
  abbrev setting : Setting
  setting = record { mode = mode; params = count; structs = structs; table = table }

  abbrev exps : List Exp
  exps = map (operand pair) args

  abbrev Room : ℕ → Case → Type 0
  Room more case = IsCaseWithin structs params slots nodes (k + most + more) (j + most + more) case × HasAtoms case

  -- with more room
  raised : (m i more : ℕ) → m ≤ k + most + more → i ≤ j + most + more → (case : Case) →
      IsCaseWithin structs params slots nodes m i case × HasAtoms case → Room more case
  raised m i more below under case is =
      (case-more structs are params slots nodes m i (k + most + more) (j + most + more) below under case is.0, is.1)

  exps-fine : All (IsExp widest params) exps
  exps-fine = All-map (IsExp widest params) (operand pair) args (each args)
    where
      each : (some : List Operand) → All (λ one. IsExp widest params (operand pair one)) some
      each [] = All-nil (λ one. IsExp widest params (operand pair one))
      each (one ∷ some) =
          All-cons (λ o. IsExp widest params (operand pair o)) one some
          (operand-exp structs are params slots nodes narrow mode count known table k j pair room one) (each some)

  drop-room : (more : ℕ) → All (Room more) (Drops fault.Callee ∷ [])
  drop-room more = All-cons (Room more) (Drops fault.Callee) [] (tt, tt) (All-nil (Room more))

  module _ (callee : Callee) (listed : Contains (callees_of table) callee) (named : callee.name ≡ name) where
    is_callee : IsCallee (with_parts most) structs callee
    is_callee = All-contains (IsCallee (with_parts most) structs) (callees_of table) callee good listed

    exps-few : length exps ≤ 32768
    exps-few =
        let counted : length callee.params ≡ length args =
        All-contains (λ (one : Callee). one.name ≡ name → length one.params ≡ length args) (callees_of table) callee fits listed named in
        let same : length exps ≡ length args = length-map args (operand pair) in
        let low : length callee.params ≤ 32768 = is_callee.params.few in
        omega arith

    abbrev IsGoodSpec : Spec → Type 0
    IsGoodSpec spec = IsSpec (with_parts most) structs (length callee.params) spec

    -- a spec that is subtracted
    first-room : (more : ℕ) (fit : Fit) → first_subtracted exps pair callee.specs ≡ Some fit → All (Room more) (after_fit to next pair fit)
    first-room more fit is =
        let one = first-found exps pair callee.specs fit is in
        let is_spec : IsGoodSpec one.0 = All-contains IsGoodSpec callee.specs one.0 is_callee.specs one.1 in
        let within : IsFitWithin structs params k j pair fit × FitAtoms fit =
        subtracted-room structs are params slots narrow k j few small pair room most few_most
        (length callee.params) one.0 is_spec exps exps-few exps-fine fit one.2 in
        let posts : All (IsPost (with_parts most) structs (length callee.params)) fit.posts =
        subst (λ some. All (IsPost (with_parts most) structs (length callee.params)) some)
        (sym (subtracted-posts exps pair one.0 fit one.2)) is_spec.posts in
        All-weaker (λ case. IsCaseWithin structs params slots nodes (k + most) (j + most) case × HasAtoms case) (Room more)
        (raised (k + most) (j + most) more (omega arith) (omega arith)) (after_fit to next pair fit)
        (fit-room structs are params slots nodes k j pair room most few_most k j fit within.0 within.1 to next there
        (length callee.params) posts)

    -- specs that are found by abduction
    found-cases : (fits : List Fit) → All (λ fit. All (Room (32769 * most)) (after_fit to next pair fit)) fits →
        All (Room (32769 * most)) (after_found to next pair fits)
    found-cases [] each = drop-room (32769 * most)
    found-cases (fit ∷ fits) each = All-flat (Room (32769 * most)) (after_fit to next pair) (fit ∷ fits) each

    one-found : (spec : Spec) (fit : Fit) → IsGoodSpec spec → found setting exps pair spec ≡ Some fit →
        All (Room (32769 * most)) (after_fit to next pair fit)
    one-found spec fit is_spec is =
        let within : IsFitWithin structs params (k + 32769 * most) (j + 32769 * most) pair fit × FitAtoms fit =
        found-room structs are params slots narrow k j few small pair room most few_most
        (length callee.params) spec is_spec exps exps-few exps-fine (new_logical count pair)
        (logical-low structs are params slots nodes narrow mode count known table pair) fit is in
        let posts : All (IsPost (with_parts most) structs (length callee.params)) fit.posts =
        subst (λ some. All (IsPost (with_parts most) structs (length callee.params)) some)
        (sym (found-posts setting exps pair spec fit is)) is_spec.posts in
        All-weaker (λ case. IsCaseWithin structs params slots nodes (k + 32769 * most + most) (j + 32769 * most + most) case
        × HasAtoms case) (Room (32769 * most))
        (raised (k + 32769 * most + most) (j + 32769 * most + most) (32769 * most) (omega arith) (omega arith)) (after_fit to next pair fit)
        (fit-room structs are params slots nodes k j pair room most few_most (k + 32769 * most)
        (j + 32769 * most) fit within.0 within.1 to next there (length callee.params) posts)

    -- where no spec is subtracted
    without-room : (cut : Bool) (own : Mode) → own ≡ mode →
        All (Room (may_miss own most)) (without_fit own setting cut to next exps pair callee)
    without-room true Strict is = All-nil (Room 0)
    without-room false Strict is = drop-room 0
    without-room cut Search is =
        found-cases (filter_map (found setting exps pair) callee.specs)
        (All-passed (λ fit. All (Room (32769 * most)) (after_fit to next pair fit)) IsGoodSpec
        (found setting exps pair) callee.specs one-found is_callee.specs)

    with-room : (cut : Bool) (o : Option Fit) → first_subtracted exps pair callee.specs ≡ o →
        All (Room (may_miss mode most)) (call_with setting cut to next exps pair callee o)
    with-room cut None is = without-room cut mode refl
    with-room cut (Some fit) is = first-room (may_miss mode most) fit is

  pub call-both : All (Room (may_miss mode most)) (call setting to name args next pair)
  call-both = by_callee (callee_of table name) refl
    where
      by_callee : (o : Option Callee) → callee_of table name ≡ o →
          All (Room (may_miss mode most)) (call_of setting (is_cut table name) to next exps pair o)
      by_callee None is = drop-room (may_miss mode most)
      by_callee (Some callee) is =
          let one = callee-found table name callee is in
          with-room callee one.0 one.1 (is_cut table name) (first_subtracted exps pair callee.specs) refl

  pub call-room : All (IsCaseWithin structs params slots nodes (k + most + may_miss mode most) (j + most + may_miss mode most))
      (call setting to name args next pair)
  call-room =
      All-weaker (Room (may_miss mode most))
      (IsCaseWithin structs params slots nodes (k + most + may_miss mode most) (j + most + may_miss mode most)) (λ case is. is.0)
      (call setting to name args next pair) call-both
