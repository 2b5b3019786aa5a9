-- A spec in its caller.
use Rattle.std.specs.Prelude.{◌≡◌, ◌≢◌, ℕ, zero, suc, ◌+◌, ◌<◌, ◌≤◌, ◌==◌, ltb, ℤ, Bool, true, false, List, [], ◌∷◌, ◌++◌, length, map}
use Rattle.std.specs.Option.{is_none}
use Rattle.std.proofs.Common.{refl, sym, ap, ap₂, subst, ◌∙◌, arith}
use Rattle.std.specs.declared.option.Option.{Option}
use Rattle.std.specs.declared.option.Option.TheVariants.{None, Some}
use Rattle.std.proofs.lemmas.Bool.{eqb-true, eq-eqb, ltb-true, or_left, or_right}
use Rattle.shape_data.specs.declared.machine.Cell.{Cell}
use Rattle.shape_data.specs.declared.program.StructDef.{StructDef}
use Rattle.shape_data.specs.declared.symbolic.Exp.{Exp}
use Rattle.shape_data.specs.declared.symbolic.Exp.TheVariants.{Var, Const}
use Rattle.shape_data.specs.declared.symbolic.Post.{Post}
use Rattle.shape_data.specs.declared.symbolic.SymHeap.{SymHeap}
use Rattle.shape_data.specs.Meaning.{value, AgreesOnLogical, AreTrueFacts, Holds, HoldsAtoms}
use Rattle.shape_data.specs.Valid.{values_from}
use Rattle.sym_parts.proofs.ShapesLemmas.Meets.{Holds-beside}
use Rattle.sym_parts.proofs.ShapesLemmas.Sums.{IsSum-sym}
use Rattle.sym_parts.specs.Laws.Each.{EachInHeap}
use Rattle.sym_parts.specs.Laws.Fresh.{is_one_of}
use Rattle.sym_parts.specs.Laws.Mapped.{renamed}
use Rattle.sym_parts.proofs.LawsLemmas.MappedLemmas.{Holds-each, Holds-mapped}
use Rattle.sym_matching.specs.Laws.{AgreesOn, StaysBound}
use Rattle.sym_matching.specs.NewVariables.{at_its_place}
use Rattle.sym_matching.specs.Reading.{bound_exp, bound_to, or_itself, through}
use Rattle.sym_matching.specs.Variables.{with_binding, with_heap, with_variable}
use Rattle.sym_matching.proofs.KeptLaws.{IsKept, AreTrueFacts-alike, HoldsAtoms-alike, kept-more, kept-name, value-kept}
use Rattle.sym_matching.proofs.ReadingLaws.{value-through}
use Rattle.sym_matching.proofs.VariableLaws.{binding-within, heap-kept, heap-within}
use Rattle.sym_matching.specs.declared.renaming.parts.Numbers.{Numbers}
use Rattle.sym_matching.specs.Renaming.Apart.{number_of, numbers_apart}
use Rattle.sym_matching.specs.Renaming.Calls.{
  bound_in,
  bound_or_new,
  in_caller,
  new_in_post,
  parameters_bound,
  post_in_caller,
  post_variables,
}
use Rattle.sym_matching.specs.Renaming.Calls.{pre_apart, pre_numbers, variables_from}
use Rattle.sym_matching.specs.Renaming.Laws.{ArgumentsStand, MatchIsCall, PostBesideFrame, PostHolds, PostInCaller, PreInCaller, standing}
use Rattle.sym_matching.proofs.RenamingLemmas.CoveringLemmas.{filtered}
use Rattle.sym_matching.proofs.RenamingLemmas.ListedLemmas.{IsListed, heap-listed, listed-more, variable-listed}
use Rattle.sym_matching.proofs.RenamingLemmas.NumberLemmas.{numbers_are_apart, renumbered_values}

-- ---- the precondition

reads_number : (apart : Numbers) (binding : List (ℕ × Exp)) (t : ℕ → ℤ) (e : Exp) →
    value (through binding t) (renamed (number_of apart) e) ≡ value (standing apart binding t) e
reads_number apart binding t (Var x) = refl
reads_number apart binding t (Const n) = refl

pub pre_in_caller : PreInCaller
pre_in_caller structs apart binding pre t heap =
    let read =
    Holds-mapped t (through binding t) (bound_exp binding) (λ e. sym (value-through binding t e)) structs heap (pre_apart apart pre) in
    let numbered =
    Holds-mapped (through binding t) (standing apart binding t) (renamed (number_of apart))
    (reads_number apart binding t) structs heap pre in
    (λ h. numbered.0 (read.0 h), λ h. read.1 (numbered.1 h))

-- ---- the arguments

-- the variables from a number on are listed, so the parameters are among those that get numbers
pub listed_from : (k count x : ℕ) → k ≤ x → x < k + count → is_one_of (variables_from k count) x ≡ true
listed_from k zero x low high = absurd (omega arith)
listed_from k (suc count) x low high = by_test (listed_from (k + 1) count x) (x == k) refl
  where
    by_test : (k + 1 ≤ x → x < k + 1 + count → is_one_of (variables_from (k + 1) count) x ≡ true) → (b : Bool) → (x == k) ≡ b →
        is_one_of (variables_from k (suc count)) x ≡ true
    by_test later true e = or_left (x == k) (is_one_of (variables_from (k + 1) count) x) e
    by_test later false e =
        let other : x ≢ k = λ same. absurd (true_false (eq-eqb x k same) e) in
        or_right (x == k) (is_one_of (variables_from (k + 1) count) x) (later (omega arith) (omega arith))
      where
        true_false : {b : Bool} → b ≡ true → b ≡ false → ⊥
        true_false yes_is no_is = let wrong : true ≡ false = sym yes_is ∙ no_is in cc

module _ (used : List ℕ) (pre : SymHeap) (args : List Exp) (binding : List (ℕ × Exp)) where
  abbrev apart : Numbers
  apart = pre_numbers used (length args) pre

  abbrev variables : List ℕ
  variables = with_heap (variables_from 0 (length args)) pre

  listed : (x : ℕ) → x < length args → is_one_of variables x ≡ true
  listed x low = heap-within pre (variables_from 0 (length args)) x (listed_from 0 (length args) x (omega arith) (omega arith))

  -- the numbers of two parameters differ
  numbers_differ : (x y : ℕ) → x < length args → y < length args → x ≢ y → (number_of apart x == number_of apart y) ≡ false
  numbers_differ x y low under apart_from = by_test (number_of apart x == number_of apart y) refl
    where
      back : (z : ℕ) → z < length args → at_its_place apart.numbers apart.variables (number_of apart z) ≡ z
      back z below = (numbers_are_apart used variables).undone z (listed z below)

      by_test : (b : Bool) → (number_of apart x == number_of apart y) ≡ b → b ≡ false
      by_test true e =
          let one : number_of apart x ≡ number_of apart y = eqb-true (number_of apart x) (number_of apart y) e in
          absurd (apart_from (sym (back x low) ∙ ap (at_its_place apart.numbers apart.variables) one ∙ back y under))
      by_test false e = refl

  -- an earlier parameter is not bound by later ones
  not_bound : (k x : ℕ) (es : List Exp) → x < k → k + length es ≤ length args →
      bound_to (parameters_bound apart k es) (number_of apart x) ≡ None
  not_bound k x [] low room = refl
  not_bound k x (e ∷ es) low room =
      rw (numbers_differ k x (omega arith) (omega arith) (omega arith)) (not_bound (k + 1) x es (omega arith) (omega arith))

  none_some : (o : Option Exp) (e : Exp) → o ≡ None → o ≡ Some e → ⊥
  none_some o e none some = let wrong : None ≡ Some e = sym none ∙ some in cc

  stand : (k : ℕ) (es : List Exp) (params : List (List ℕ)) → k + length es ≤ length args → length params ≡ length es →
      StaysBound (parameters_bound apart k es) binding → (t : ℕ → ℤ) →
      values_from (standing apart binding t) k params ≡ map (value t) es
  stand k [] [] room same stays t = refl
  stand k [] (param ∷ params) room same stays t = absurd (omega arith)
  stand k (e ∷ es) [] room same stays t = absurd (omega arith)
  stand k (e ∷ es) (param ∷ params) room same stays t =
      ap₂ (λ v vs. v ∷ vs) (ap (value t) here) (stand (k + 1) es params (omega arith) (omega arith) later t)
    where
      here : bound_exp binding (Var (number_of apart k)) ≡ e
      here = stays (number_of apart k) e (rw (eq-eqb (number_of apart k) (number_of apart k) refl) refl)

      later : StaysBound (parameters_bound apart (k + 1) es) binding
      later x f is = by_test (number_of apart k == x) refl
        where
          by_test : (b : Bool) → (number_of apart k == x) ≡ b → bound_exp binding (Var x) ≡ f
          by_test true g =
              let one : number_of apart k ≡ x = eqb-true (number_of apart k) x g in
              absurd (none_some (bound_to (parameters_bound apart (k + 1) es) (number_of apart k)) f
              (not_bound (k + 1) k es (omega arith) (omega arith)) (rw one is))
          by_test false g = stays x f (rw g is)

pub arguments_stand : ArgumentsStand
arguments_stand used pre params args binding same stays t = stand used pre args binding 0 args params (omega arith) same stays t

pub match_is_call : MatchIsCall
match_is_call structs s heap a used avoid params args pre binding frame same gives = record {
  t = gives.t;
  lent = gives.own;
  kept = gives.rest;
  agrees = gives.agrees;
  avoids = gives.avoids;
  logical = gives.logical;
  sum = gives.sum;
  wanted = (pre_in_caller structs (pre_numbers used (length args) pre) binding pre gives.t gives.own).0 gives.wanted;
  arguments = arguments_stand used pre params args binding same gives.stays gives.t;
  rest = gives.frame_holds;
}

-- ---- a post

-- what a variable is bound to has variables of the binding's list
bound_listed : (binding : List (ℕ × Exp)) (names : List ℕ) (x : ℕ) (e : Exp) → bound_to binding x ≡ Some e →
    IsListed (with_binding names binding) e
bound_listed [] names x e is = cc
bound_listed (bound ∷ binding) names x e is =
    by_test (bound.0 == x) refl (bound_listed binding (with_variable (names ++ bound.0 ∷ []) bound.1) x e)
  where
    by_test : (b : Bool) → (bound.0 == x) ≡ b → (bound_to binding x ≡ Some e → IsListed (with_binding names (bound ∷ binding)) e) →
        IsListed (with_binding names (bound ∷ binding)) e
    by_test true f later =
        let same : Some bound.1 ≡ Some e = rw f at is in
        let one : bound.1 ≡ e = cc in
        subst (λ d. IsListed (with_binding names (bound ∷ binding)) d) one
        (listed-more (with_variable (names ++ bound.0 ∷ []) bound.1) (with_binding names (bound ∷ binding))
        (binding-within binding (with_variable (names ++ bound.0 ∷ []) bound.1)) bound.1 (variable-listed (names ++ bound.0 ∷ []) bound.1))
    by_test false f later = let rest : bound_to binding x ≡ Some e = rw f at is in later rest

listed-kept : (names : List ℕ) (e : Exp) → IsListed names e → IsKept names e
listed-kept names (Var x) is = kept-name names x is
listed-kept names (Const n) is = refl

module _ (used : List ℕ) (apart : Numbers) (binding : List (ℕ × Exp)) (post : Post) (t v : ℕ → ℤ)
    (logical : AgreesOnLogical (standing apart binding t) v) where
  abbrev all : List ℕ
  all = with_binding used binding

  abbrev new : List ℕ
  new = new_in_post apart binding post

  abbrev own : Numbers
  own = numbers_apart all new

  abbrev Given : Type 0
  Given = (w : ℕ → ℤ) × AgreesOn all t w × ((x : ℕ) → is_one_of new x ≡ true → w (number_of own x) ≡ v x)

  module _ (given : Given) where
    -- what was bound has the value that it has in the callee
    bound_value : (x : ℕ) (e : Exp) → bound_in apart binding x ≡ Some e → value given.0 e ≡ v x
    bound_value x e is = by_test (ltb x 65536) refl
      where
        by_test : (b : Bool) → ltb x 65536 ≡ b → value given.0 e ≡ v x
        by_test true f =
            let there : bound_to binding (number_of apart x) ≡ Some e = rw f at is in
            let kept : value given.0 e ≡ value t e =
            value-kept all t given.0 given.1 e (listed-kept all e (bound_listed binding used (number_of apart x) e there)) in
            let reads : standing apart binding t x ≡ value t e = ap (λ o. value t (or_itself (number_of apart x) o)) there in
            kept ∙ sym reads ∙ sym (logical x (ltb-true x 65536 f))
        by_test false f = let none : None ≡ Some e = rw f at is in cc

    reads_in_caller : (e : Exp) → IsListed (post_variables post) e → value given.0 (in_caller apart binding own e) ≡ value v e
    reads_in_caller (Var x) is = by_bound (bound_in apart binding x) refl
      where
        by_bound : (o : Option Exp) → bound_in apart binding x ≡ o → value given.0 (bound_or_new own x o) ≡ v x
        by_bound None f = given.2 x (filtered (λ y. is_none (bound_in apart binding y)) (post_variables post) x is (ap is_none f))
        by_bound (Some e) f = bound_value x e f
    reads_in_caller (Const n) is = refl

    post_held : (structs : List StructDef) (ret : ℤ) (heap : List Cell) → ret ≡ value v post.ret → Holds structs v heap post.heap →
        PostHolds structs used t ret heap (post_in_caller used apart binding post)
    post_held structs ret heap same holds = record {
      w = given.0;
      agrees = λ x is. given.1 x (kept-more used all (binding-within binding used) x is);
      result = same
          ∙ sym (reads_in_caller post.ret
          (listed-more (with_variable [] post.ret) (post_variables post) (heap-within post.heap (with_variable [] post.ret)) post.ret
          (variable-listed [] post.ret)));
      holds =
          (Holds-each (IsListed (post_variables post)) given.0 v (in_caller apart binding own) reads_in_caller structs heap post.heap
          (heap-listed post.heap (with_variable [] post.ret))).1 holds;
    }

pub post_is_in_caller : PostInCaller
post_is_in_caller structs used apart binding post t ret heap meets =
    post_held used apart binding post t meets.0 meets.1
    (renumbered_values (with_binding used binding) (new_in_post apart binding post) t meets.0) structs ret heap meets.2 meets.3

-- the frame keeps what it holds
pub post_is_beside_frame : PostBesideFrame
post_is_beside_frame structs used apart binding post frame t ret whole own kept has rest sum meets =
    let held = post_is_in_caller structs used apart binding post t ret own meets in
    let each : EachInHeap (IsKept used) frame = heap-kept frame [] used has in
    let reads : (e : Exp) → IsKept used e → value held.w e ≡ value t e = value-kept used t held.w held.agrees in
    let facts : AreTrueFacts held.w frame.pure = AreTrueFacts-alike (IsKept used) t held.w reads frame.pure each.facts rest.facts in
    let atoms : HoldsAtoms structs held.w frame.spatial kept =
    HoldsAtoms-alike (IsKept used) t held.w reads structs frame.spatial kept each.atoms rest.atoms in
    record {
      w = held.w;
      agrees = held.agrees;
      result = held.result;
      holds =
          Holds-beside structs held.w frame (post_in_caller used apart binding post).heap (IsSum-sym sum)
          (record { facts = facts; atoms = atoms }) held.holds;
    }
