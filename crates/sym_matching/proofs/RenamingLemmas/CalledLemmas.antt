-- A spec in its caller is well formed.
use Rattle.std.specs.Prelude.{◌≡◌, ℕ, ◌+◌, ◌<◌, ◌≤◌, leb, List, [], ◌∷◌, length, filter, map, All}
use Rattle.std.proofs.Common.{refl, arith}
use Rattle.std.proofs.lemmas.Bool.{lt-ltb, ltb-true}
use Rattle.std.proofs.lemmas.List.{length-map}
use Rattle.std.proofs.lemmas.List.Elements.{All-weaker}
use Rattle.shape_data.specs.declared.symbolic.Exp.{Exp}
use Rattle.shape_data.specs.declared.symbolic.Exp.TheVariants.{Var, Const}
use Rattle.shape_data.specs.declared.symbolic.SymHeap.{SymHeap}
use Rattle.shape_data.specs.WellFormed.{IsExp, widest}
use Rattle.sym_parts.specs.Laws.Mapped.{on_atom, on_fact, renamed}
use Rattle.sym_matching.specs.Answers.{IsBound, MayOccur}
use Rattle.sym_matching.specs.NewVariables.{distinct}
use Rattle.sym_matching.specs.Rooms.{IsSmall, IsWithinSizes}
use Rattle.sym_matching.specs.Variables.{with_binding, with_heap}
use Rattle.sym_matching.proofs.SizeLaws.{small, well_formed_is_within_sizes}
use Rattle.sym_matching.specs.declared.renaming.parts.Numbers.{Numbers}
use Rattle.sym_matching.specs.Renaming.Apart.{number_of, numbers_apart}
use Rattle.sym_matching.specs.Renaming.Calls.{
  called_with,
  in_caller,
  new_in_post,
  others_flexible,
  parameters_bound,
  post_numbers,
  variables_from,
}
use Rattle.sym_matching.specs.Renaming.Sizes.{CalledIsWellFormed, IsSmallBinding, PostIsWellFormed}
use Rattle.sym_matching.proofs.RenamingLemmas.NumberLemmas.{few_distinct}
use Rattle.sym_matching.proofs.RenamingLemmas.SizeLemmas.{
  called_is_within_sizes,
  few_from,
  few_heap_variables,
  few_passing,
  mapped_heap_is_well_formed,
}
use Rattle.sym_matching.proofs.RenamingLemmas.SizeLemmas.{mapped_post_is_well_formed, post_room, pre_room, small_in_caller, small_renamed}

-- ---- variables below 2^31 may occur, and no others

small_exp : (params : ℕ) (e : Exp) → IsSmall e → IsExp widest params e
small_exp params (Var x) h = lt-ltb x 2147483648 h
small_exp params (Const n) h = tt

abbrev IsSmallBound : ℕ × Exp → Type 0
IsSmallBound bound = (bound.0 < 2147483648) × IsSmall bound.1

small_bound : (params : ℕ) (bound : ℕ × Exp) → IsSmallBound bound → IsBound widest params bound
small_bound params bound h = (lt-ltb bound.0 2147483648 h.0, small_exp params bound.1 h.1)

bound_small : (params : ℕ) (bound : ℕ × Exp) → IsBound widest params bound → IsSmallBound bound
bound_small params bound h = (ltb-true bound.0 2147483648 h.0, small params bound.1 h.1)

pub binding_small : (params : ℕ) (binding : List (ℕ × Exp)) → All (IsBound widest params) binding → IsSmallBinding binding
binding_small params binding each = All-weaker (IsBound widest params) IsSmallBound (bound_small params) binding each

-- ---- how many

one_each : (apart : Numbers) (k : ℕ) (args : List Exp) → length (parameters_bound apart k args) ≡ length args
one_each apart k [] = refl
one_each apart k (arg ∷ args) =
    let later : length (parameters_bound apart (k + 1) args) ≡ length args = one_each apart (k + 1) args in omega arith

few_flexible : (used : List ℕ) (params : ℕ) (pre : SymHeap) → IsWithinSizes pre
    → length (others_flexible (numbers_apart used (with_heap (variables_from 0 params) pre)) params) ≤ params + 131076000
few_flexible used params pre sizes =
    let list : List ℕ = with_heap (variables_from 0 params) pre in
    let mapped : length (map (number_of (numbers_apart used list)) (filter (λ x. leb params x) (distinct list)))
    ≡ length (filter (λ x. leb params x) (distinct list)) =
    length-map (filter (λ x. leb params x) (distinct list)) (number_of (numbers_apart used list)) in
    let passing : length (filter (λ x. leb params x) (distinct list)) ≤ length (distinct list) =
    few_passing (λ x. leb params x) (distinct list) in
    let once : length (distinct list) ≤ length list = few_distinct list in
    let all : length list ≤ length (variables_from 0 params) + 131076000 = few_heap_variables (variables_from 0 params) pre sizes in
    let counted : length (variables_from 0 params) ≡ params = few_from 0 params in
    omega arith

-- ---- the spec

pub called_is_well_formed : CalledIsWellFormed
called_is_well_formed structs before after used args pre are few low each is =
    let list : List ℕ = with_heap (variables_from 0 (length args)) pre in
    let sizes : IsWithinSizes pre = well_formed_is_within_sizes structs before pre are is in
    let room : length used + length list < 2147418112 =
    pre_room used (variables_from 0 (length args)) list (length args) pre few low sizes refl refl in
    let f : Exp → Exp = renamed (number_of (numbers_apart used list)) in
    let within =
    called_is_within_sizes used args pre few low (All-weaker (IsExp widest after) IsSmall (small after) args each) sizes in record {
      heap =
          mapped_heap_is_well_formed widest structs before after f pre
          (λ e occurs. small_exp after (f e) (small_renamed used list room e (small before e occurs))) is;
      facts = length-map pre.pure (on_fact f);
      atoms = length-map pre.spatial (on_atom f);
      bound = All-weaker IsSmallBound (IsBound widest after) (small_bound after) (called_with used args pre).bound within.bound;
      one_each = one_each (numbers_apart used list) 0 args;
      flexible =
          All-weaker (λ x. x < 2147483648) (MayOccur widest after) (λ x under. lt-ltb x 2147483648 under)
          (called_with used args pre).flexible within.flexible;
      few = few_flexible used (length args) pre sizes;
    }

pub post_is_well_formed : PostIsWellFormed
post_is_well_formed structs before after used apart binding post are few short each is =
    let sizes : IsWithinSizes post.heap = well_formed_is_within_sizes structs before post.heap are is.heap in
    let room : length (with_binding used binding) + length (new_in_post apart binding post) < 2147418112 =
    post_room used used (with_binding used binding) (new_in_post apart binding post) apart binding post few short sizes refl refl refl in
    let f : Exp → Exp = in_caller apart binding (post_numbers used apart binding post) in record {
      well_formed = mapped_post_is_well_formed widest structs before after f post
          (λ e occurs. small_exp after (f e)
          (small_in_caller used apart binding post (binding_small after binding each) room e (small before e occurs))) is;
      facts = length-map post.heap.pure (on_fact f);
      atoms = length-map post.heap.spatial (on_atom f);
    }
