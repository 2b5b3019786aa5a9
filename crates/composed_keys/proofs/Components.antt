-- The components of a program by the places of its procedures.
use Rattle.std.proofs.Common.{◌≡◌, ℕ, zero, suc, ◌+◌, ◌<◌, ◌≤◌, ◌==◌, Bool, true, false, List, [], ◌∷◌, ◌++◌, length, map, slice_get}
use Rattle.std.proofs.Common.{get_or, Some, None, Option, refl, sym, ap, ◌∙◌, subst, ⊎_elim, find, filter, option_map, arith, All, Ok, Err}
use Rattle.std.proofs.Common.{Result, IfOk}
use Rattle.std.specs.Global.{Vec}
use Rattle.std.specs.Prelude.{if◌then◌else◌, slice_index_or}
use Rattle.std.specs.List.{filter_map}
use Rattle.std.proofs.lemmas.Bool.Decides.{Decides-eqb}
use Rattle.std.proofs.lemmas.List.{length-map, length_push, get_or_default}
use Rattle.std.proofs.lemmas.List.Elements.{All-nil, All-cons, All-head, All-tail, All-filter, All-weaker}
use Rattle.std.proofs.lemmas.Option.{slice_get-get_or, get_or_from_slice_get, slice_get_within}
use Rattle.shape_data.specs.declared.program.Flow.{Flow}
use Rattle.shape_data.specs.declared.program.Proc.{Proc}
use Rattle.shape_data.specs.declared.program.Program.{Program}
use Rattle.shape_data.specs.declared.program.Ty.TheVariants.{Void}
use Rattle.shape_data.specs.WellFormed.{IsProgram}
use Rattle.component_keys.specs.Components.{are_mutual, by_name, class_of, classes, holds, is_next, names_at, with_next, listed_after}
use Rattle.component_keys.specs.Components.{components}
use Rattle.component_keys.specs.Keys.{Outer, is_outer, place_of, calls_in, flows_of, names_of, component_of, program_components}
use Rattle.component_keys.specs.Laws.{IsCallGraph}
use Rattle.component_keys.proofs.Basics.{not_none, some_same, at_push, at_map, found}
use Rattle.component_keys.proofs.Apart.{components_apart}
use Rattle.component_keys.proofs.Ordered.{callees_before}
use Rattle.component_keys.proofs.Whole.{class_from, class_in, components_whole, in_filter_map, mutual_of, mutual_parts, reach_through}
use Rattle.component_keys.proofs.Whole.{same_answers, same_class}
use Rattle.call_components.specs.Reaching.{rows}
use Rattle.call_components.proofs.Naming.{by_name_below}
use Rattle.composed_keys.specs.declared.rows.Component.{Component as Row}
use Rattle.composed_keys.specs.declared.rows.Outer.{Outer as OuterRow}
use Rattle.composed_keys.specs.Outside.{ArePlaced}
use Rattle.composed_keys.specs.Programs.{ArePlaces, called_in}
use Rattle.composed_keys.specs.Rows.{component_value, outer_value, outer_row, outer_in, AreRowsOf, AreWithin}
use Rattle.composed_keys.proofs.Calls.{graph_same, names_are as program_names, program_graph}
use Rattle.composed_keys.proofs.Placed.{rows_same}

-- ---- the classes of the list

listed_few : (turns : ℕ) (names calls all listed : List (List ℕ)) →
    length (listed_after turns names calls all listed) ≤ length listed + turns
listed_few zero names calls all listed = omega arith
listed_few (suc turns) names calls all listed = by_found (find (is_next names calls listed) all) (listed_few turns names calls all)
  where
    by_found : (o : Option (List ℕ)) → ((more : List (List ℕ)) → length (listed_after turns names calls all more) ≤ length more + turns) →
        length (with_next (listed_after turns names calls all) listed o) ≤ length listed + suc turns
    by_found None again = omega arith
    by_found (Some class) again = let le = again (listed ++ class ∷ []) in let longer : length (listed ++ class ∷ [])
        ≡ length listed + 1 = length_push listed class in omega (arith, le, longer)

pub components_few : (names calls : List (List ℕ)) → length (components names calls) ≤ length names
unfolding components
components_few names calls = let le : length (listed_after (length names) names calls (classes calls (by_name names (length names))) [])
    ≤ 0 + length names = listed_few (length names) names calls (classes calls (by_name names (length names))) [] in omega (arith, le)

abbrev AreBelow : ℕ → List (List ℕ) → Type 0
AreBelow count listed = (p : ℕ) (class : List ℕ) → slice_get listed p ≡ Some class → All (λ number. number < count) class

-- each is the class of a procedure
abbrev AreClasses : List (List ℕ) → List (List ℕ) → List (List ℕ) → Type 0
AreClasses names calls listed =
    (p : ℕ) (class : List ℕ) → slice_get listed p ≡ Some class →
    (m : ℕ) × (holds (by_name names (length names)) m ≡ true) × (class ≡ class_of calls (by_name names (length names)) m)

listed_classes : (turns : ℕ) (names calls : List (List ℕ)) (graph : IsCallGraph names calls) (listed : List (List ℕ)) →
    AreClasses names calls listed →
    AreClasses names calls (listed_after turns names calls (classes calls (by_name names (length names))) listed)
listed_classes zero names calls graph listed own = own
listed_classes (suc turns) names calls graph listed own =
    by_found (find (is_next names calls listed) (classes calls (by_name names (length names)))) refl
    (listed_classes turns names calls graph)
  where
    by_found : (o : Option (List ℕ)) → find (is_next names calls listed) (classes calls (by_name names (length names))) ≡ o →
        ((more : List (List ℕ)) → AreClasses names calls more →
        AreClasses names calls (listed_after turns names calls (classes calls (by_name names (length names))) more)) →
        AreClasses names calls (with_next (listed_after turns names calls (classes calls (by_name names (length names)))) listed o)
    by_found None e again = own
    by_found (Some class) e again =
        let there = found (is_next names calls listed) (classes calls (by_name names (length names))) class e in
        let from = class_from names calls graph there.1.0 class there.1.1 in
        again (listed ++ class ∷ [])
        (λ p one at. ⊎_elim (own p one)
        (λ end. subst
        (λ l. (m : ℕ) × (holds (by_name names (length names)) m ≡ true) × (l ≡ class_of calls (by_name names (length names)) m))
        (sym end.1) from) (at_push listed class p one at))

components_classes : (names calls : List (List ℕ)) → IsCallGraph names calls → AreClasses names calls (components names calls)
unfolding components
components_classes names calls graph = listed_classes (length names) names calls graph [] (λ p class at. not_none at)

pub components_below : (names calls : List (List ℕ)) → IsCallGraph names calls → AreBelow (length names) (components names calls)
components_below names calls graph p class at =
    let from = components_classes names calls graph p class at in
    subst (All (λ number. number < length names)) (sym from.2)
    (All-filter (are_mutual calls from.0) (λ number. number < length names) (by_name names (length names))
    (by_name_below names (length names)))

-- ---- each procedure is in one of them

one_place : (names calls : List (List ℕ)) → IsCallGraph names calls → (i j number : ℕ) (one other : List ℕ) →
    slice_get (components names calls) i ≡ Some one → slice_get (components names calls) j ≡ Some other →
    holds one number ≡ true → holds other number ≡ true → i ≡ j
one_place names calls graph i j number one other at_i at_j in_one in_other =
    let from = components_classes names calls graph i one at_i in
    let from_other = components_classes names calls graph j other at_j in
    let to =
    mutual_parts names calls graph from.0 number
    (class_in names calls graph from.0 number (ap (λ l. holds l number) (sym from.2) ∙ in_one)).0 in
    let to_other =
    mutual_parts names calls graph from_other.0 number
    (class_in names calls graph from_other.0 number (ap (λ l. holds l number) (sym from_other.2) ∙ in_other)).0 in
    let same = same_class names calls graph from.0 from_other.0
    (mutual_of names calls graph from.0 from_other.0 (reach_through names calls graph from.0 number from_other.0 to.0 to_other.1)
    (reach_through names calls graph from_other.0 number from.0 to_other.0 to.1)) in
    components_apart names calls i j one other at_i at_j (ap (names_at names) (from.2 ∙ same ∙ sym from_other.2))

-- the first that holds a number, where one does
first_holds : (number : ℕ) (all : List (List ℕ)) (p : ℕ) (class : List ℕ) → slice_get all p ≡ Some class → holds class number ≡ true →
    (first : List ℕ) × (slice_get all (place_of number all) ≡ Some first) × (holds first number ≡ true)
first_holds number [] p class at h = not_none at
first_holds number (first ∷ others) p class at h =
    by_test (holds first number) refl p at (λ k later. first_holds number others k class later h)
  where
    by_test : (b : Bool) → holds first number ≡ b → (k : ℕ) → slice_get (first ∷ others) k ≡ Some class →
        ((m : ℕ) → slice_get others m ≡ Some class →
        (one : List ℕ) × (slice_get others (place_of number others) ≡ Some one) × (holds one number ≡ true)) →
        (one : List ℕ) × (slice_get (first ∷ others) (if b then zero else suc (place_of number others)) ≡ Some one)
        × (holds one number ≡ true)
    by_test true e k there again = (first, refl, e)
    by_test false e zero there again = let never : false ≡ true = sym e ∙ ap (λ l. holds l number) (some_same there) ∙ h in cc
    by_test false e (suc k) there again = again k there

pub are_placed : (names calls all : List (List ℕ)) (places : List ℕ) → IsCallGraph names calls → all ≡ components names calls →
    ArePlaces (length calls) all 0 places → ArePlaced all (length calls) places
are_placed names calls all places graph is placing = record {
  lengths = placing.lengths;
  within = λ k d lt.
      let less : k < length calls = subst (λ n. k < n) placing.lengths lt in
      let here = at_home k less in
      subst (λ n. n < length all) (home k less ∙ get_or_default places k 0 d lt) (slice_get_within all (place_of k all) here.0 here.1);
  own = λ number place lt less. same_answers _ _ (to number place lt less) (back number place lt less);
}
  where
    home : (number : ℕ) → number < length calls → place_of number all ≡ slice_index_or places number 0
    home number lt = sym (placing.each number lt ∙ (let e : 0 + place_of number all ≡ place_of number all = omega arith in e))

    at_home : (number : ℕ) → number < length calls →
        (first : List ℕ) × (slice_get all (place_of number all) ≡ Some first) × (holds first number ≡ true)
    at_home number lt =
        let some = components_whole names calls graph number lt in
        first_holds number all some.0 some.1 (ap (λ l. slice_get l some.0) is ∙ some.2) some.3

    to : (number place : ℕ) → number < length calls → place < length all → holds (slice_index_or all place []) number ≡ true →
        (slice_index_or places number 0 == place) ≡ true
    to number place lt less h =
        let here = at_home number lt in
        let same : place_of number all ≡ place =
        one_place names calls graph (place_of number all) place number here.0 (slice_index_or all place [])
        (ap (λ l. slice_get l (place_of number all)) (sym is) ∙ here.1)
        (ap (λ l. slice_get l place) (sym is) ∙ slice_get-get_or all place [] less) here.2 h in
        (Decides-eqb (slice_index_or places number 0) place).1 (sym (home number lt) ∙ same)

    back : (number place : ℕ) → number < length calls → place < length all → (slice_index_or places number 0 == place) ≡ true →
        holds (slice_index_or all place []) number ≡ true
    back number place lt less e =
        let here = at_home number lt in
        let same : place_of number all ≡ place = home number lt ∙ (Decides-eqb (slice_index_or places number 0) place).0 e in
        let at : slice_get all place ≡ Some here.0 = ap (slice_get all) (sym same) ∙ here.1 in
        ap (λ l. holds l number) (get_or_from_slice_get all place here.0 [] at) ∙ here.2

-- what two clauses say of an answer
pub both_ok : {X E : Type 0} (r : Result X E) (P Q R : X → Type 0) → ((x : X) → P x → Q x → R x) → IfOk r P → IfOk r Q → IfOk r R
both_ok (Ok x) P Q R f p q = f x p q
both_ok (Err e) P Q R f p q = tt

pub few : (names calls : List (List ℕ)) (all : List (Vec ℕ)) → rows all ≡ components names calls → length all ≤ length names
few names calls all are =
    let same : length (rows all) ≡ length all = length-map all (λ class. class.items) in
    let less : length (components names calls) ≤ length names = components_few names calls in
    let e : length (rows all) ≡ length (components names calls) = ap length are in
    omega (arith, same, less, e)

pub classes_below : (names calls : List (List ℕ)) → IsCallGraph names calls → (count : ℕ) (all : List (Vec ℕ)) →
    rows all ≡ components names calls → length names ≡ count →
    All (λ (class : Vec ℕ). All (λ number. number < count) class.items) all
classes_below names calls graph count all are same = λ k d lt.
    let at : slice_get (rows all) k ≡ Some (get_or all k d).items =
    at_map (λ (class : Vec ℕ). class.items) all k ∙ ap (option_map (λ (class : Vec ℕ). class.items)) (slice_get-get_or all k d lt) in
    subst (λ n. All (λ number. number < n) (get_or all k d).items) same
    (components_below names calls graph k (get_or all k d).items (ap (λ l. slice_get l k) (sym are) ∙ at))

-- ---- in the words of the call

pub names_told : (program : Program) (procs : List Proc) (names seen : List (List ℕ)) → procs ≡ program.procs →
    names ≡ map (λ (proc : Proc). proc.flow.name) procs → seen ≡ names → seen ≡ names_of (flows_of program)
names_told program procs names seen same are is = is ∙ (are ∙ (ap (map (λ (proc : Proc). proc.flow.name)) same ∙ program_names program))

pub calls_told : (program : Program) (procs : List Proc) (names calls seen : List (List ℕ)) → procs ≡ program.procs →
    names ≡ names_of (flows_of program) →
    calls ≡ map (λ (proc : Proc). filter_map (called_in names) proc.flow.nodes) procs → seen ≡ calls → seen ≡ calls_in (flows_of program)
calls_told program procs names calls seen same named are is =
    is ∙ (are ∙ (ap (map (λ (proc : Proc). filter_map (called_in names) proc.flow.nodes)) same
    ∙ (ap (λ ns. map (λ (proc : Proc). filter_map (called_in ns) proc.flow.nodes) program.procs) named ∙ graph_same program)))

module _ (program : Program) (formed : IsProgram program) (names : List (List ℕ)) (calls : List (Vec ℕ))
    (names_are : names ≡ names_of (flows_of program)) (calls_are : rows calls ≡ calls_in (flows_of program)) where
  pub graph : IsCallGraph names (rows calls)
  graph =
      subst (λ n. IsCallGraph n (rows calls)) (sym names_are)
      (subst (IsCallGraph (names_of (flows_of program))) (sym calls_are) (program_graph program formed))

  pub names_length : length names ≡ length program.procs
  names_length = ap length names_are ∙ length-map (flows_of program) (λ flow. flow.name) ∙ length-map program.procs (λ proc. proc.flow)

  pub calls_length : length calls ≡ length program.procs
  calls_length = sym (length-map calls (λ row. row.items)) ∙ sym graph.lengths ∙ names_length

  -- the rows are the program's components
  made_are : (all : List (List ℕ)) (places order : List ℕ) (made : List Row) → all ≡ components names (rows calls) →
      ArePlaces (length program.procs) all 0 places → order ≡ by_name names (length names) →
      map (λ (row : Row). row.members.items) made ≡ all →
      map (λ (row : Row). row.outer.items) made ≡ map (outer_in (rows calls) places order) all →
      map (component_value (flows_of program)) made ≡ program_components program
  unfolding program_components
  made_are all places order made are places_are is_order members outer =
      let flows : List Flow = flows_of program in
      let count : length flows ≡ length program.procs = length-map program.procs (λ proc. proc.flow) in
      let ordered : order ≡ by_name (names_of flows) (length flows) =
      is_order ∙ ap (λ n. by_name n (length names)) names_are ∙ ap (by_name (names_of flows)) (names_length ∙ sym count) in
      let all_are : all ≡ components (names_of flows) (calls_in flows) =
      are ∙ ap (λ n. components n (rows calls)) names_are ∙ ap (components (names_of flows)) calls_are in
      let same_places : All (λ number. get_or places number 0 ≡ place_of number all) order =
      All-weaker (λ number. number < length names) (λ number. get_or places number 0 ≡ place_of number all)
      (λ number lt. places_are.each number (subst (λ n. number < n) names_length lt) ∙ omega arith) order
      (subst (All (λ number. number < length names)) (sym is_order) (by_name_below names (length names))) in
      rows_same flows (rows calls) all places order made all same_places ordered members outer ∙
      ap (λ g. map (component_of flows g all) all) calls_are ∙ ap (λ l. map (component_of flows (calls_in flows) l) l) all_are

  -- their numbers are those of procedures, and whom they call stands before
  made_within : (all : List (List ℕ)) (places order : List ℕ) (made : List Row) → all ≡ components names (rows calls) →
      order ≡ by_name names (length names) →
      map (λ (row : Row). row.members.items) made ≡ all →
      map (λ (row : Row). row.outer.items) made ≡ map (outer_in (rows calls) places order) all →
      map (component_value (flows_of program)) made ≡ program_components program → AreWithin (length program.procs) made
  made_within all places order made are is_order members outer components_are place row at =
      record {
        members = subst (λ n. All (λ number. number < n) row.members.items) names_length
            (components_below names (rows calls) graph place row.members.items
            (ap (λ l. slice_get l place) (sym are)
            ∙ (ap (λ l. slice_get l place) (sym members)
            ∙ (at_map (λ (r : Row). r.members.items) made place ∙ ap (option_map (λ (r : Row). r.members.items)) at))));
        outer = numbers;
        before = λ k d lt.
            let one : OuterRow = get_or row.outer.items k d in
            let number : one.number < length program.procs = numbers k d lt in
            outer_before k one (slice_get-get_or row.outer.items k d lt) number;
      }
    where
      at_members : slice_get all place ≡ Some row.members.items
      at_members = ap (λ l. slice_get l place) (sym members)
          ∙ (at_map (λ (r : Row). r.members.items) made place ∙ ap (option_map (λ (r : Row). r.members.items)) at)

      outer_is : row.outer.items ≡ outer_in (rows calls) places order row.members.items
      outer_is =
          some_same (sym (at_map (λ (r : Row). r.outer.items) made place ∙ ap (option_map (λ (r : Row). r.outer.items)) at)
          ∙ (ap (λ l. slice_get l place) outer ∙
          (at_map (outer_in (rows calls) places order) all place ∙ ap (option_map (outer_in (rows calls) places order)) at_members)))

      numbers : All (λ (one : OuterRow). one.number < length program.procs) row.outer.items
      numbers =
          subst (All (λ (one : OuterRow). one.number < length program.procs)) (sym outer_is)
          (rows_below places (filter (is_outer (rows calls) row.members.items) order)
          (All-filter (is_outer (rows calls) row.members.items) (λ number. number < length program.procs) order
          (subst (λ n. All (λ number. number < n) order) names_length
          (subst (All (λ number. number < length names)) (sym is_order) (by_name_below names (length names))))))
        where
          rows_below : (list xs : List ℕ) → All (λ number. number < length program.procs) xs →
              All (λ (one : OuterRow). one.number < length program.procs) (map (outer_row list) xs)
          rows_below list [] below = All-nil (λ (one : OuterRow). one.number < length program.procs)
          rows_below list (x ∷ xs) below =
              All-cons (λ (one : OuterRow). one.number < length program.procs) (outer_row list x) (map (outer_row list) xs)
              (All-head (λ number. number < length program.procs) x xs below)
              (rows_below list xs (All-tail (λ number. number < length program.procs) x xs below))

      outer_before : (k : ℕ) (one : OuterRow) → slice_get row.outer.items k ≡ Some one → one.number < length program.procs →
          one.component < place
      outer_before k one there number =
          let flows : List Flow = flows_of program in
          let count : length flows ≡ length program.procs = length-map program.procs (λ proc. proc.flow) in
          let flow : Flow = get_or flows one.number default in
          let at_flow : slice_get flows one.number ≡ Some flow = slice_get-get_or flows one.number default (omega (arith, number, count)) in
          let value : Outer = record { name = flow.name; params = flow.params; component = one.component } in
          let is_value : outer_value flows one ≡ Some value = rw at_flow refl in
          let found_at = in_filter_map (outer_value flows) row.outer.items k one value there is_value in
          callees_before program place found_at.0 (component_value flows row) value
          (ap (λ l. slice_get l place) (sym components_are)
          ∙ (at_map (component_value flows) made place ∙ ap (option_map (component_value flows)) at)) found_at.1
        where
          default : Flow
          default = record { name = []; params = []; slots = []; ret = Void; nodes = [] }

  pub rows_are : (made : List Row) → AreRowsOf names (rows calls) made →
      map (component_value (flows_of program)) made ≡ program_components program
  rows_are made rows_of =
      made_are (components names (rows calls)) rows_of.places (by_name names (length names)) made refl
      (subst (λ n. ArePlaces n (components names (rows calls)) 0 rows_of.places)
      (length-map calls (λ row. row.items) ∙ calls_length) rows_of.placing) refl rows_of.members rows_of.outer

  pub rows_within : (made : List Row) → AreRowsOf names (rows calls) made → AreWithin (length program.procs) made
  rows_within made rows_of =
      made_within (components names (rows calls)) rows_of.places (by_name names (length names)) made refl refl rows_of.members rows_of.outer
      (rows_are made rows_of)
