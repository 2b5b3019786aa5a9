-- What a call's specs are matched with is within the sizes, and what fits is that of the definition.
use Rattle.std.specs.Prelude.{◌≡◌, ℕ, ◌+◌, ◌<◌, ◌≤◌, true, false, List, [], ◌∷◌, ◌++◌, length, map, filter, ltb, drop, All}
use Rattle.std.specs.List.{filter_map}
use Rattle.std.specs.declared.option.Option.{Option}
use Rattle.std.specs.declared.option.Option.TheVariants.{None, Some}
use Rattle.std.specs.Option.{IfSome}
use Rattle.std.proofs.Common.{refl, sym, ap, subst, ◌∙◌, append_assoc, arith, get_or}
use Rattle.std.proofs.lemmas.List.{drop_more, length-map, map-append}
use Rattle.std.proofs.lemmas.List.Elements.{All-weaker}
use Rattle.shape_data.specs.declared.program.Operand.{Operand}
use Rattle.shape_data.specs.declared.symbolic.Exp.{Exp}
use Rattle.shape_data.specs.declared.symbolic.Post.{Post}
use Rattle.shape_data.specs.declared.symbolic.Spec.{Spec}
use Rattle.shape_data.specs.declared.symbolic.SymHeap.{SymHeap}
use Rattle.shape_data.specs.WellFormed.{IsExp, IsPost, IsSpec, widest}
use Rattle.sym_parts.specs.Shapes.Symbolic.{beside}
use Rattle.sym_canon.specs.declared.parts.Pair.{Pair}
use Rattle.sym_matching.specs.declared.matching.Abd.{Abd}
use Rattle.sym_matching.specs.declared.matching.Abd.TheVariants as abd
use Rattle.sym_matching.specs.declared.matching.Sub.{Sub}
use Rattle.sym_matching.specs.declared.matching.Sub.TheVariants as sub
use Rattle.sym_matching.specs.Matches.{biabduce_avoiding, subtract_avoiding}
use Rattle.sym_matching.specs.Rooms.{IsSmall, IsWithinSizes}
use Rattle.sym_matching.specs.Steps.{contradicts}
use Rattle.sym_matching.proofs.SizeLaws.{small, well_formed_is_within_sizes}
use Rattle.sym_matching.specs.declared.renaming.parts.CalledPre.{CalledPre}
use Rattle.sym_matching.specs.declared.renaming.parts.Numbers.{Numbers}
use Rattle.sym_matching.specs.Renaming.Calls.{called_with}
use Rattle.sym_matching.specs.Renaming.Sizes.{AreSmall, IsCalledWithinSizes}
use Rattle.sym_matching.proofs.RenamingLemmas.SizeLemmas.{called_is_within_sizes}
use Rattle.exec_laws.specs.Calling as calling
use Rattle.exec_laws.specs.Calling.{first_subtracted, fit_of_abd, fit_of_sub, found, subtracted}
use Rattle.exec_laws.specs.Laws.{FoundFitsAreWithin, SubtractedFitsAreWithin}
use Rattle.exec_laws.specs.Pairs.{Setting, new_logical, pair_variables}
use Rattle.exec_laws.specs.Rooms.{IsFitWithin, may_miss}
use Rattle.exec_laws.specs.declared.parts.Mode.TheVariants.{Search}
use Rattle.sym_exec.specs.declared.calls.Caller.{Caller}
use Rattle.sym_exec.specs.declared.calls.Fit.{Fit}
use Rattle.exec_laws.specs.Values.{operand}
use Rattle.sym_matching.specs.Covers.{above}
use Rattle.sym_exec.specs.Callers.{IsCaller, IsGiven, IsRoomy, fit_in}
use Rattle.exec_cells.specs.InSetting.{IsGood}
use Rattle.exec_cells.specs.Sizes.{IsLowPair}
use Rattle.sym_exec.proofs.GivenPairs.{given_is_few, given_is_low, given_is_within, operands_are_exps}
use Rattle.exec_cells.proofs.LowVariables.{low_variables}

-- ---- sizes

module _ (setting : Setting) (caller : Caller) (is : IsCaller setting caller) (before : ℕ) (spec : Spec)
    (good : IsSpec widest setting.structs before spec) where
  pub pre_within : IsWithinSizes spec.pre
  pre_within = well_formed_is_within_sizes setting.structs before spec.pre is.good.structs good.pre

  pub heap_within : IsWithinSizes caller.pair.now.state.heap
  heap_within = well_formed_is_within_sizes setting.structs setting.params caller.pair.now.state.heap is.good.structs is.given.state.heap

  pub called_within : (called : CalledPre) → called ≡ called_with caller.used.now caller.args.now spec.pre → IsCalledWithinSizes called
  called_within called same =
      let few : length caller.used.now ≤ 300000000 = is.few in
      rw same (called_is_within_sizes caller.used.now caller.args.now spec.pre (omega arith) is.few_args
      (All-weaker (IsExp widest setting.params) IsSmall (small setting.params) caller.args.now is.args) pre_within)

  posts_within : All (λ (post : Post). IsWithinSizes post.heap) spec.posts
  posts_within =
      All-weaker (IsPost widest setting.structs before) (λ (post : Post). IsWithinSizes post.heap)
      (λ post one. well_formed_is_within_sizes setting.structs before post.heap is.good.structs one.heap) spec.posts good.posts

  -- a fit leaves room for its posts
  pub subtracted_roomy : SubtractedFitsAreWithin → (fit : Fit) → Some (fit_in fit) ≡ subtracted caller.args.now caller.pair.now spec →
      fit.posts.now ≡ spec.posts → IsRoomy caller fit
  subtracted_roomy law fit fits same =
      let within : IsFitWithin setting.structs setting.params 4000 8000 caller.pair.now (fit_in fit) =
      law setting.structs caller.args.now caller.pair.now spec (fit_in fit) before setting.params
      (length caller.pair.now.state.locals) 4000 8000 4000 is.good.structs good is.few_args is.args is.given.slots
      (omega arith) (omega arith) (omega arith) (given_is_within setting caller.pair.now is.given) (sym fits) in
      record { used = within.used; binding = within.bindings; posts = rw same posts_within }

  pub found_roomy : FoundFitsAreWithin → (fit : Fit) → Some (fit_in fit) ≡ found setting caller.args.now caller.pair.now spec →
      fit.posts.now ≡ spec.posts → IsRoomy caller fit
  found_roomy law fit fits same =
      let within : IsFitWithin setting.structs setting.params (4000 + may_miss Search 4000) (8000 + may_miss Search 4000) caller.pair.now
      (fit_in fit) =
      law setting caller.args.now caller.pair.now spec (fit_in fit) before setting.params
      (length caller.pair.now.state.locals) 4000 8000 4000 is.good.structs good is.few_args is.args is.given.slots is.good.params
      (omega arith) (omega arith) (omega arith) (given_is_within setting caller.pair.now is.given) (sym fits) in
      record { used = within.used; binding = within.bindings; posts = rw same posts_within }

-- ---- values

-- a fit of these parts
abbrev made_fit : SymHeap → SymHeap → Numbers → List (ℕ × Exp) → List Post → calling.Fit
made_fit missing frame apart binding posts = record { missing = missing; frame = frame; apart = apart; binding = binding; posts = posts }

fit_same : (one other frame : SymHeap) (apart : Numbers) (binding : List (ℕ × Exp)) (posts more : List Post) → one ≡ other → posts ≡ more →
    Some (made_fit one frame apart binding posts) ≡ Some (made_fit other frame apart binding more)
fit_same one other frame apart binding posts more same all = rw (same, all) refl

module _ (args : List Exp) (pair : Pair) (spec : Spec) (used : List ℕ) (called : CalledPre) (is_used : used ≡ pair_variables pair)
    (is_called : called ≡ called_with used args spec.pre) where
  module _ (answer : Sub) (is : answer ≡ subtract_avoiding pair.state.heap called.pre called.bound called.flexible used) where
    subtracted_is : fit_of_sub pair spec called.numbers answer ≡ subtracted args pair spec
    subtracted_is = rw (is, is_called, is_used) refl

    pub subtracted_some : (frame missing : SymHeap) (binding : List (ℕ × Exp)) (posts : List Post) → answer ≡ sub.Match frame binding →
        missing ≡ pair.missing → posts ≡ spec.posts →
        Some (made_fit missing frame called.numbers binding posts) ≡ subtracted args pair spec
    subtracted_some frame missing binding posts same copied all =
        fit_same missing pair.missing frame called.numbers binding posts spec.posts copied all ∙ (rw same at subtracted_is)

  module _ (setting : Setting) (first : ℕ) (is_first : first ≡ new_logical setting.params pair) (answer : Abd)
      (is : answer ≡ biabduce_avoiding pair.state.heap called.pre called.bound called.flexible first used) where
    found_is : fit_of_abd pair spec called.numbers answer ≡ found setting args pair spec
    found_is = rw (is, is_called, is_first, is_used) refl

    pub found_clashes : (missing frame : SymHeap) (binding : List (ℕ × Exp)) → answer ≡ abd.Found missing frame binding →
        contradicts (beside pair.missing missing) ≡ true → None ≡ found setting args pair spec
    found_clashes missing frame binding same clash = let there : fit_of_abd pair spec called.numbers (abd.Found missing frame binding)
        ≡ found setting args pair spec = rw same at found_is in rw clash at there

    pub found_some : (missing frame all : SymHeap) (binding : List (ℕ × Exp)) (posts : List Post) →
        answer ≡ abd.Found missing frame binding → contradicts (beside pair.missing missing) ≡ false → all ≡ beside pair.missing missing →
        posts ≡ spec.posts →
        Some (made_fit all frame called.numbers binding posts) ≡ found setting args pair spec
    found_some missing frame all binding posts same goes both listed =
        let there : fit_of_abd pair spec called.numbers (abd.Found missing frame binding) ≡ found setting args pair spec =
        rw same at found_is in
        fit_same all (beside pair.missing missing) frame called.numbers binding posts spec.posts both listed ∙ (rw goes at there)

-- ---- lists of specs

-- the spec at a place, and those behind it
pub at_place : {A : Type 0} (xs : List A) (i : ℕ) (x : A) → i < length xs → x ≡ get_or xs i x → drop i xs ≡ x ∷ drop (i + 1) xs
at_place xs i x inside is = drop_more xs i x inside ∙ ap (λ y. y ∷ drop (i + 1) xs) (sym is)

module _ (args : List Exp) (pair : Pair) (specs : List Spec) (i : ℕ) (spec : Spec) (whole : Option calling.Fit) (inside : i < length specs)
    (here : spec ≡ get_or specs i spec) (now : whole ≡ first_subtracted args pair (drop i specs)) where
  pub first_some : (fit : calling.Fit) → Some fit ≡ subtracted args pair spec → Some fit ≡ whole
  first_some fit is = sym (now ∙ (rw (at_place specs i spec inside here, ← is) refl))

  pub first_none : None ≡ subtracted args pair spec → whole ≡ first_subtracted args pair (drop (i + 1) specs)
  first_none is = now ∙ (rw (at_place specs i spec inside here, ← is) refl)

module _ (f : Spec → Option calling.Fit) (specs : List Spec) (i : ℕ) (spec : Spec) (fits : List Fit) (whole : List calling.Fit)
    (inside : i < length specs) (here : spec ≡ get_or specs i spec)
    (now : whole ≡ map fit_in fits ++ filter_map f (drop i specs)) where
  pub all_more : (fit : Fit) (more : List Fit) → Some (fit_in fit) ≡ f spec → more ≡ fits ++ fit ∷ [] →
      whole ≡ map fit_in more ++ filter_map f (drop (i + 1) specs)
  all_more fit more is grown =
      now ∙ (rw (at_place specs i spec inside here, ← is, grown, map-append fit_in fits (fit ∷ []))
      (sym (append_assoc (map fit_in fits) (fit_in fit ∷ []) (filter_map f (drop (i + 1) specs)))))

  pub all_passed : None ≡ f spec → whole ≡ map fit_in fits ++ filter_map f (drop (i + 1) specs)
  all_passed is = now ∙ (rw (at_place specs i spec inside here, ← is) refl)

-- the fit that there is
pub found_one : (caller : Caller) (made : Option Fit) (fit : Fit) → made ≡ Some fit → IfSome made (IsRoomy caller) → IsRoomy caller fit
found_one caller made fit is room = rw is at room

-- ---- the caller

pub caller_is : (setting : Setting) (caller : Caller) (operands : List Operand) → IsGood setting → IsGiven setting caller.pair.now →
    caller.args.now ≡ map (operand caller.pair.now) operands → length operands ≤ 32768 →
    caller.used.now ≡ pair_variables caller.pair.now → caller.first ≡ above setting.params (filter (λ x. ltb x 65536) caller.used.now) →
    caller.first ≤ 65536 → IsCaller setting caller
caller_is setting caller operands good given args few used first low =
    let low_pair : IsLowPair caller.pair.now =
    given_is_low setting.structs setting.params (length caller.pair.now.state.locals) caller.pair.now given.state given.missing in
    let counted : length caller.args.now ≡ length operands =
    ap (λ list. length list) args ∙ length-map operands (operand caller.pair.now) in
    let fewer : length (pair_variables caller.pair.now) ≤ 300000000 = given_is_few setting caller.pair.now good given in
    let same : length caller.used.now ≡ length (pair_variables caller.pair.now) = ap (λ list. length list) used in
    record {
      good = good;
      used = used;
      small = subst (λ names. AreSmall names) (sym used) (low_variables caller.pair.now low_pair);
      few = omega arith;
      first = first ∙ ap (λ names. above setting.params (filter (λ x. ltb x 65536) names)) used;
      low = low;
      given = given;
      args = subst (λ list. All (IsExp widest setting.params) list) (sym args) (operands_are_exps setting caller.pair.now given operands);
      few_args = omega arith;
    }
