-- A table grows by what is known of the next component; what is gathered from it is what is known of those that are reached.
use Rattle.std.proofs.Common.{◌≡◌, ℕ, suc, ◌+◌, ◌<◌, Bool, true, false, cond, List, [], ◌∷◌, ◌++◌, length, map, slice_get, Some, None}
use Rattle.std.proofs.Common.{Option, refl, sym, ap, ap₂, ◌∙◌, subst}
use Rattle.std.proofs.Common.{filter, filter_map, option_map, arith}
use Rattle.std.specs.List.{cons_option, range_with_len}
use Rattle.std.specs.Option.{option_and_then}
use Rattle.std.proofs.lemmas.List.{length-map, map_push}
use Rattle.std.proofs.lemmas.List.FromFn.{map-range_with_len_more}
use Rattle.shape_data.specs.declared.answer.Answer.{Answer}
use Rattle.shape_data.specs.declared.answer.Kept.{Kept}
use Rattle.shape_data.specs.declared.answer.Key.{Key}
use Rattle.shape_data.specs.declared.program.Program.{Program}
use Rattle.component_keys.specs.Keys.{Component, Outer, flows_of, key_over, program_components}
use Rattle.component_keys.proofs.Basics.{at_map, not_none, some_same}
use Rattle.component_keys.proofs.Ordered.{callees_before}
use Rattle.component_keys.proofs.Reach.{range_at}
use Rattle.call_components.specs.Reaching.{marked}
use Rattle.composed_keys.specs.Rows.{component_value}
use Rattle.composed_keys.specs.declared.rows.Component.{Component as Row}
use Rattle.claim_core.specs.Views.{Solution, solution_of, solutions_of}
use Rattle.bottom_up.specs.BottomUp.{answered, answers_in, key_after, known_by}
use Rattle.bottom_up.specs.Placed.{AreRows}
use Rattle.bottom_up.proofs.Over.{known_is}
use Rattle.settled_laws.proofs.Whole.{given_mapped}
use Rattle.settled_laws.specs.Laws.{aimed_known}
use Rattle.summary_book.specs.declared.aims.Aim.{Aim}
use Rattle.summary_book.specs.Aims.{aimed}
use Rattle.session_replies.specs.PlainAnswers.Table.{
  IsClosed,
  IsTable,
  answer_at,
  callee_over,
  entry_answer,
  key_by,
  known_where,
  where_reached,
}

-- ---- the row of a component

pub part_at : (program : Program) (rows : List Row) → AreRows program rows → (place : ℕ) (row : Row) → slice_get rows place ≡ Some row →
    slice_get (program_components program) place ≡ Some (component_value (flows_of program) row)
part_at program rows are place row at =
    ap (λ l. slice_get l place) (sym are.are) ∙ at_map (component_value (flows_of program)) rows place
    ∙ ap (option_map (component_value (flows_of program))) at

-- ---- one more

abbrev answer_in : Solution → Answer
answer_in one = one.answer

callees_same : (one other : ℕ → Option Answer) (outers : List Outer) →
    ((k : ℕ) (outer : Outer) → slice_get outers k ≡ Some outer → one outer.component ≡ other outer.component) →
    map (callee_over one) outers ≡ map (callee_over other) outers
callees_same one other [] same = refl
callees_same one other (outer ∷ outers) same =
    ap₂ (λ callee callees. callee ∷ callees) (ap (λ o. callee_over (λ (n : ℕ). o) outer) (same 0 outer refl))
    (callees_same one other outers (λ k next at. same (suc k) next at))

module _ (answer_of : Key → Answer) (program : Program) (reached : ℕ → Bool) where
  abbrev known : List Solution
  known = known_by answer_of program

  entry_is : (entry : Option Kept) (one : Option Solution) → option_map solution_of entry ≡ one →
      entry_answer entry ≡ option_map answer_in one
  entry_is None one e = ap (option_map answer_in) e
  entry_is (Some kept) one e = ap (option_map answer_in) e

  there_is : (entry : Option (Option Kept)) (one : Option Solution) → option_map (option_map solution_of) entry ≡ Some one →
      option_and_then entry_answer entry ≡ option_map answer_in one
  there_is None one e = not_none e
  there_is (Some entry) one e = entry_is entry one (some_same e)

  -- the table has the answers of those that are reached
  answer_there : (count place : ℕ) (table : List (Option Kept)) → IsTable reached known count table → place < count → reached place ≡ true →
      answer_at table place ≡ slice_get (answers_in known) place
  answer_there count place table is lt reaches =
      let here : 0 + place ≡ place = omega arith in
      there_is (slice_get table place) (slice_get known place)
      (sym (at_map (option_map solution_of) table place) ∙ ap (λ l. slice_get l place) is
      ∙ at_map (known_where reached known) (range_with_len 0 count) place ∙
      ap (option_map (known_where reached known)) (range_at 0 count place lt ∙ ap (λ n. Some n) here) ∙
      ap (λ b. Some (where_reached b (slice_get known place))) reaches) ∙
      sym (at_map answer_in known place)

  -- so the key over the table is the one over all answers
  pub key_is : IsClosed program reached → (place : ℕ) (part : Component) (table : List (Option Kept)) →
      slice_get (program_components program) place ≡ Some part →
      IsTable reached known place table → reached place ≡ true →
      key_by program.structs (answer_at table) part ≡ key_after program.structs (answers_in known) part
  key_is closed place part table at is reaches =
      ap (key_over program.structs part.flows)
      (callees_same (answer_at table) (slice_get (answers_in known)) part.outer
      (λ k outer at_k. answer_there place outer.component table is (callees_before program place k part outer at at_k)
      (closed place k part outer reaches at at_k)))

  more : (place : ℕ) (table : List (Option Kept)) (entry : Option Kept) → IsTable reached known place table →
      option_map solution_of entry ≡ known_where reached known place →
      IsTable reached known (place + 1) (table ++ entry ∷ [])
  more place table entry is next =
      let here : 0 + place ≡ place = omega arith in
      map_push (option_map solution_of) table entry ∙ ap (λ l. l ++ option_map solution_of entry ∷ []) is ∙
      ap (λ o. map (known_where reached known) (range_with_len 0 place) ++ o ∷ []) next
      ∙ sym (map-range_with_len_more (known_where reached known) 0 place place here)

  pub none_more : (place : ℕ) (table : List (Option Kept)) → IsTable reached known place table → reached place ≡ false →
      IsTable reached known (place + 1) (table ++ None ∷ [])
  none_more place table is fails = more place table None is (sym (ap (λ b. where_reached b (slice_get known place)) fails))

  pub one_more : IsClosed program reached → (place : ℕ) (part : Component) (table : List (Option Kept)) (kept : Kept) →
      slice_get (program_components program) place ≡ Some part →
      IsTable reached known place table → reached place ≡ true →
      solution_of kept ≡ answered answer_of (key_by program.structs (answer_at table) part) →
      IsTable reached known (place + 1) (table ++ Some kept ∷ [])
  one_more closed place part table kept at is reaches own =
      more place table (Some kept) is
      (ap (λ (one : Solution). Some one) (own ∙ ap (answered answer_of) (key_is closed place part table at is reaches))
      ∙ sym (known_is answer_of program place part at) ∙
      sym (ap (λ b. where_reached b (slice_get known place)) reaches))

-- ---- what is gathered

through : {X Y : Type 0} (f : X → Option Y) (xs : List X) → filter_map (λ (o : Option Y). o) (map f xs) ≡ filter_map f xs
through f [] = refl
through f (x ∷ xs) = ap (cons_option (f x)) (through f xs)

taken : (reached : ℕ → Bool) (solutions : List Solution) (places : List ℕ) →
    filter_map (known_where reached solutions) places ≡ filter_map (slice_get solutions) (filter reached places)
taken reached solutions [] = refl
taken reached solutions (place ∷ places) = by_test (reached place) (taken reached solutions places)
  where
    by_test : (b : Bool) → filter_map (known_where reached solutions) places ≡ filter_map (slice_get solutions) (filter reached places) →
        cons_option (where_reached b (slice_get solutions place)) (filter_map (known_where reached solutions) places) ≡
        filter_map (slice_get solutions) (cond b (place ∷ filter reached places) (filter reached places))
    by_test true again = ap (cons_option (slice_get solutions place)) again
    by_test false again = again

gathered : (reached : ℕ → Bool) (known : List Solution) (count : ℕ) (table : List (Option Kept)) → IsTable reached known count table →
    solutions_of (filter_map (λ (entry : Option Kept). entry) table)
    ≡ filter_map (slice_get known) (filter reached (range_with_len 0 count))
gathered reached known count table is =
    given_mapped solution_of (λ (entry : Option Kept). entry) table ∙ sym (through (option_map solution_of) table)
    ∙ ap (filter_map (λ (o : Option Solution). o)) is ∙
    through (known_where reached known) (range_with_len 0 count) ∙ taken reached known (range_with_len 0 count)

-- what is gathered of an aim's components is what is known of them
pub gathered_are : (answer_of : Key → Answer) (program : Program) (aim : Aim) (rows : List Row) → AreRows program rows →
    (reached : ℕ → Bool) → ((component : ℕ) → reached component ≡ aimed program aim component) →
    (table : List (Option Kept)) → IsTable reached (known_by answer_of program) (length rows) table →
    solutions_of (filter_map (λ (entry : Option Kept). entry) table) ≡ aimed_known answer_of program aim
gathered_are answer_of program aim rows are reached same table is =
    let path : reached ≡ aimed program aim = λ i component. same component i in
    let many : length rows ≡ length (program_components program) =
    sym (length-map rows (component_value (flows_of program))) ∙ ap length are.are in
    gathered reached (known_by answer_of program) (length rows) table is ∙
    ap (λ test. filter_map (slice_get (known_by answer_of program)) (filter test (range_with_len 0 (length rows)))) path ∙
    ap (λ n. filter_map (slice_get (known_by answer_of program)) (filter (aimed program aim) (range_with_len 0 n))) many

-- the same, as rows and marks are lent
pub gathered_in : (answer_of : Key → Answer) (program : Program) (aim : Aim) (lent rows : List Row) → lent ≡ rows → AreRows program rows →
    (lent_marks marks : List Bool) → lent_marks ≡ marks →
    ((component : ℕ) → marked marks component ≡ aimed program aim component) → (table : List (Option Kept)) →
    IsTable (marked lent_marks) (known_by answer_of program) (length lent) table →
    (kept : List Kept) → kept ≡ filter_map (λ (entry : Option Kept). entry) table → solutions_of kept ≡ aimed_known answer_of program aim
gathered_in answer_of program aim lent rows same_rows are lent_marks marks same_marks reached table is kept gathered_from =
    ap solutions_of gathered_from ∙
    gathered_are answer_of program aim lent (subst (AreRows program) (sym same_rows) are) (marked lent_marks)
    (λ component. ap (λ l. marked l component) same_marks ∙ reached component) table is
