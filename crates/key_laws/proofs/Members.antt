-- The procedures of a component, and those outside that they call.
use Rattle.std.proofs.Common.{◌≡◌, ◌≢◌, ℕ, zero, suc, ◌<◌, ◌≤◌, Bool, true, false, cond, not, List, [], ◌∷◌, ◌++◌, length, slice_get}
use Rattle.std.proofs.Common.{get_or, Some, None, Option, refl, sym, ap, ◌∙◌, subst, ⊎_elim, filter, filter_map, find, option_map, arith}
use Rattle.std.proofs.Common.{AllPairs}
use Rattle.std.proofs.lemmas.List.{length-map}
use Rattle.std.proofs.lemmas.List.Kept.{AllPairs-filter}
use Rattle.std.proofs.lemmas.Option.{slice_get-get_or, get_or_from_slice_get, slice_get_within}
use Rattle.shape_data.specs.declared.program.Flow.{Flow}
use Rattle.shape_data.specs.declared.program.Proc.{Proc}
use Rattle.shape_data.specs.declared.program.Program.{Program}
use Rattle.shape_data.specs.declared.program.Ty.TheVariants.{Void}
use Rattle.shape_data.specs.WellFormed.{IsProgram}
use Rattle.component_keys.specs.Components.{are_mutual, by_name, class_of, classes, components, holds, is_next, listed_after, with_next}
use Rattle.component_keys.specs.Keys.{Component, Outer, calls_in, component_of, flows_of, is_outer, names_of, outer_at, place_of}
use Rattle.component_keys.specs.Keys.{program_components}
use Rattle.component_keys.specs.Laws.{IsCallGraph}
use Rattle.component_keys.proofs.Basics.{not_none, not_true, some_same, mapped_some, at_map, at_push, found, both_true, filter_less}
use Rattle.component_keys.proofs.Ordered.{held_at}
use Rattle.component_keys.proofs.Reach.{holds_at}
use Rattle.component_keys.proofs.Whole.{class_from, components_whole, filtered, from_filter_map, in_class, in_filter_map, length-by_name}
use Rattle.component_keys.proofs.Whole.{mutual_of, reach_self}
use Rattle.call_components.proofs.Naming.{by_name_below}
use Rattle.composed_keys.proofs.Calls.{program_graph}
use Rattle.key_laws.proofs.Elements.{length-filter_map, pairs_mapped}
use Rattle.key_laws.proofs.Rising.{IsBelow, HasNameBelow, named, by_name_rising}
use Rattle.claim_laws.proofs.Invariant.{all_at}

-- what holds of each class holds of each listed one
listed_all : (P : List ℕ → Type 0) (turns : ℕ) (names calls all listed : List (List ℕ)) →
    ((p : ℕ) (class : List ℕ) → slice_get all p ≡ Some class → P class) →
    ((p : ℕ) (class : List ℕ) → slice_get listed p ≡ Some class → P class) → (p : ℕ) (class : List ℕ) →
    slice_get (listed_after turns names calls all listed) p ≡ Some class → P class
listed_all P zero names calls all listed each start p class at = start p class at
listed_all P (suc turns) names calls all listed each start p class at =
    by_found (find (is_next names calls listed) all) refl (listed_all P turns names calls all) at
  where
    by_found : (o : Option (List ℕ)) → find (is_next names calls listed) all ≡ o →
        ((more : List (List ℕ)) → ((q : ℕ) (c : List ℕ) → slice_get all q ≡ Some c → P c) →
        ((q : ℕ) (c : List ℕ) → slice_get more q ≡ Some c → P c) →
        (q : ℕ) (c : List ℕ) → slice_get (listed_after turns names calls all more) q ≡ Some c → P c) →
        slice_get (with_next (listed_after turns names calls all) listed o) p ≡ Some class → P class
    by_found None e again there = start p class there
    by_found (Some new) e again there =
        let one = found (is_next names calls listed) all new e in
        again (listed ++ new ∷ []) each
        (λ q c at_q. ⊎_elim (start q c) (λ end. subst P (sym end.1) (each one.1.0 new one.1.1)) (at_push listed new q c at_q)) p class there

-- where a class holds the number, the class at its place does
place_of_holds : (number : ℕ) (all : List (List ℕ)) (p : ℕ) (class : List ℕ) → slice_get all p ≡ Some class → holds class number ≡ true →
    (own : List ℕ) × (slice_get all (place_of number all) ≡ Some own) × (holds own number ≡ true)
place_of_holds number [] p class at h = not_none at
place_of_holds number (first ∷ others) zero class at h =
    let here : holds first number ≡ true = subst (λ c. holds c number ≡ true) (sym (some_same at)) h in
    (first, rw here refl, here)
place_of_holds number (first ∷ others) (suc p) class at h = by_test (holds first number) refl (place_of_holds number others p class at h)
  where
    by_test : (b : Bool) → holds first number ≡ b →
        (own : List ℕ) × (slice_get others (place_of number others) ≡ Some own) × (holds own number ≡ true) →
        (own : List ℕ) × (slice_get (first ∷ others) (cond b zero (suc (place_of number others))) ≡ Some own) × (holds own number ≡ true)
    by_test true e rest = (first, refl, e)
    by_test false e rest = rest

pub proc_at : (program : Program) (i : ℕ) (flow : Flow) → slice_get (flows_of program) i ≡ Some flow →
    (proc : Proc) × (slice_get program.procs i ≡ Some proc) × (flow ≡ proc.flow)
proc_at program i flow at =
    mapped_some (λ (proc : Proc). proc.flow) (slice_get program.procs i) flow
    (sym (at_map (λ (proc : Proc). proc.flow) program.procs i) ∙ at)

-- a procedure outside: its number, and the procedure
pub record IsOuterAt (flows : List Flow) (calls all : List (List ℕ)) (class : List ℕ) (outer : Outer) : Type 0 where
  pub number : ℕ
  pub outside : is_outer calls class number ≡ true
  pub flow : Flow
  pub at : slice_get flows number ≡ Some flow
  pub is : outer ≡ record { name = flow.name; params = flow.params; component = place_of number all }

module _ (program : Program) (formed : IsProgram program) where
  abbrev pub flows : List Flow
  flows = flows_of program

  abbrev pub names : List (List ℕ)
  names = names_of (flows_of program)

  abbrev pub calls : List (List ℕ)
  calls = calls_in (flows_of program)

  abbrev pub all : List (List ℕ)
  all = components (names_of (flows_of program)) (calls_in (flows_of program))

  graph : IsCallGraph names calls
  graph = program_graph program formed

  pub names_length : length names ≡ length flows
  names_length = length-map flows (λ flow. flow.name)

  pub flows_length : length flows ≡ length program.procs
  flows_length = length-map program.procs (λ proc. proc.flow)

  pub name_at : (i : ℕ) (flow : Flow) → slice_get flows i ≡ Some flow → named names i ≡ flow.name
  name_at i flow at =
      get_or_from_slice_get names i flow.name [] (at_map (λ (one : Flow). one.name) flows i ∙ ap (option_map (λ (one : Flow). one.name)) at)

  -- procedures of one name are one
  pub same_number : (i j : ℕ) (one other : Flow) → slice_get flows i ≡ Some one → slice_get flows j ≡ Some other → one.name ≡ other.name →
      i ≡ j
  same_number i j one other at at' same =
      graph.differ i j other.name
      (at_map (λ (flow : Flow). flow.name) flows i ∙ ap (option_map (λ (flow : Flow). flow.name)) at ∙ ap (λ n. Some n) same)
      (at_map (λ (flow : Flow). flow.name) flows j ∙ ap (option_map (λ (flow : Flow). flow.name)) at')

  rises : (n : ℕ) → n ≤ length names → AllPairs (HasNameBelow names) (by_name names n)
  rises n le = by_name_rising names n (λ i j lt less same.
      graph.differ i j (get_or names j []) (slice_get-get_or names i [] (omega (arith, lt, le)) ∙ ap (λ l. Some l) same)
      (slice_get-get_or names j [] (omega (arith, less, le))))

  -- a class that is listed is that of one of its members
  pub record IsClass (class : List ℕ) : Type 0 where
    pub member : ℕ
    pub holds_it : holds class member ≡ true
    pub below : member < length names
    pub is : class ≡ class_of calls (by_name names (length names)) member

  classes_are : (p : ℕ) (class : List ℕ) → slice_get (classes calls (by_name names (length names))) p ≡ Some class → IsClass class
  classes_are p class at =
      let from = class_from names calls graph p class at in
      let held = held_at (by_name names (length names)) from.0 from.1 in
      let below : from.0 < length names =
      all_at (λ k. k < length names) (by_name names (length names)) held.0 from.0 (by_name_below names (length names)) held.1 in
      record {
        member = from.0;
        holds_it = subst (λ c. holds c from.0 ≡ true) (sym from.2)
            (in_class names calls graph from.0 from.0 (subst (λ n. from.0 < n) graph.lengths below)
            (mutual_of names calls graph from.0 from.0 (reach_self names calls graph from.0) (reach_self names calls graph from.0)));
        below = below;
        is = from.2;
      }

  pub listed_are : (p : ℕ) (class : List ℕ) → slice_get all p ≡ Some class → IsClass class
  unfolding components
  listed_are p class at =
      listed_all IsClass (length names) names calls (classes calls (by_name names (length names))) [] classes_are
      (λ q c at_q. not_none at_q) p class at

  pub class_rises : (class : List ℕ) → IsClass class → AllPairs (HasNameBelow names) class
  class_rises class is =
      subst (AllPairs (HasNameBelow names)) (sym is.is)
      (AllPairs-filter (HasNameBelow names) (are_mutual calls is.member) (by_name names (length names))
      (rises (length names) (omega arith)))

  pub class_few : (class : List ℕ) → IsClass class → length class ≤ length flows
  class_few class is =
      let less : length (class_of calls (by_name names (length names)) is.member) ≤ length (by_name names (length names)) =
      filter_less (are_mutual calls is.member) (by_name names (length names)) in
      let own : length (by_name names (length names)) ≡ length names = length-by_name names (length names) in
      let same : length class ≡ length (class_of calls (by_name names (length names)) is.member) = ap length is.is in
      omega (arith, less, own, same, names_length)

  -- the component of a class, by its place
  pub record IsComponent (place : ℕ) (component : Component) : Type 0 where
    pub class : List ℕ
    pub at : slice_get all place ≡ Some class
    pub is : component ≡ component_of flows calls all class

  pub component_at : (place : ℕ) (component : Component) → slice_get (program_components program) place ≡ Some component →
      IsComponent place component
  unfolding program_components
  component_at place component at =
      let one =
      mapped_some (component_of flows calls all) (slice_get all place) component
      (sym (at_map (component_of flows calls all) all place) ∙ at) in
      record { class = one.0; at = one.1; is = one.2 }

  pub component_of_class : (place : ℕ) (class : List ℕ) → slice_get all place ≡ Some class →
      slice_get (program_components program) place ≡ Some (component_of flows calls all class)
  unfolding program_components
  component_of_class place class at = at_map (component_of flows calls all) all place ∙ ap (option_map (component_of flows calls all)) at

  -- ---- the members of a class

  pub member_from : (class : List ℕ) (k : ℕ) (flow : Flow) → slice_get (filter_map (slice_get flows) class) k ≡ Some flow →
      (i : ℕ) × (holds class i ≡ true) × (slice_get flows i ≡ Some flow)
  member_from class k flow at =
      let from = from_filter_map (slice_get flows) class k flow at in (from.1, holds_at class from.0 from.1 from.2, from.3)

  pub members_rise : (class : List ℕ) → IsClass class →
      AllPairs (λ (one other : Flow). IsBelow one.name other.name) (filter_map (slice_get flows) class)
  members_rise class is =
      pairs_mapped (slice_get flows) (HasNameBelow names) (λ (one other : Flow). IsBelow one.name other.name)
      (λ i j one other less at at'. subst (λ n. IsBelow n other.name) (name_at i one at)
      (subst (IsBelow (named names i)) (name_at j other at') less)) class (class_rises class is)

  pub member_in : (class : List ℕ) (number : ℕ) (flow : Flow) → holds class number ≡ true → slice_get flows number ≡ Some flow →
      (j : ℕ) × (slice_get (filter_map (slice_get flows) class) j ≡ Some flow)
  member_in class number flow h at =
      let place = held_at class number h in in_filter_map (slice_get flows) class place.0 number flow place.1 at

  pub members_some : (class : List ℕ) → IsClass class → 0 < length (filter_map (slice_get flows) class)
  members_some class is =
      let d : Flow = record { name = []; params = []; slots = []; ret = Void; nodes = [] } in
      let lt : is.member < length flows = subst (λ n. is.member < n) names_length is.below in
      let there = member_in class is.member (get_or flows is.member d) is.holds_it (slice_get-get_or flows is.member d lt) in
      let within : there.0 < length (filter_map (slice_get flows) class) =
      slice_get_within (filter_map (slice_get flows) class) there.0 (get_or flows is.member d) there.1 in
      omega (arith, within)

  pub members_few : (class : List ℕ) → IsClass class → length (filter_map (slice_get flows) class) ≤ length flows
  members_few class is = let less : length (filter_map (slice_get flows) class)
      ≤ length class = length-filter_map (slice_get flows) class in omega (arith, less, class_few class is)

  -- ---- those outside

  abbrev pub outer_of : List ℕ → List Outer
  outer_of class = filter_map (outer_at flows all) (filter (is_outer calls class) (by_name names (length flows)))

  pub outer_from : (class : List ℕ) (k : ℕ) (outer : Outer) → slice_get (outer_of class) k ≡ Some outer →
      IsOuterAt flows calls all class outer
  outer_from class k outer at =
      let from = from_filter_map (outer_at flows all) (filter (is_outer calls class) (by_name names (length flows))) k outer at in
      let flow = mapped_some _ (slice_get flows from.1) outer from.3 in
      record {
        number = from.1;
        outside =
            (filtered (is_outer calls class) (by_name names (length flows)) from.1
            (holds_at (filter (is_outer calls class) (by_name names (length flows))) from.0 from.1 from.2)).0;
        flow = flow.0;
        at = flow.1;
        is = flow.2;
      }

  pub outer_rise : (class : List ℕ) → AllPairs (λ (one other : Outer). IsBelow one.name other.name) (outer_of class)
  outer_rise class =
      pairs_mapped (outer_at flows all) (HasNameBelow names) (λ (one other : Outer). IsBelow one.name other.name)
      (λ i j one other less at at'.
      let first = mapped_some _ (slice_get flows i) one at in
      let second = mapped_some _ (slice_get flows j) other at' in
      let first_name : named names i ≡ one.name = name_at i first.0 first.1 ∙ ap (λ (o : Outer). o.name) (sym first.2) in
      let second_name : named names j ≡ other.name = name_at j second.0 second.1 ∙ ap (λ (o : Outer). o.name) (sym second.2) in
      subst (λ n. IsBelow n other.name) first_name (subst (IsBelow (named names i)) second_name less))
      (filter (is_outer calls class) (by_name names (length flows)))
      (AllPairs-filter (HasNameBelow names) (is_outer calls class) (by_name names (length flows))
      (rises (length flows) (omega (arith, names_length))))

  pub outer_few : (class : List ℕ) → length (outer_of class) ≤ length flows
  outer_few class =
      let less : length (outer_of class) ≤ length (filter (is_outer calls class) (by_name names (length flows))) =
      length-filter_map (outer_at flows all) (filter (is_outer calls class) (by_name names (length flows))) in
      let few : length (filter (is_outer calls class) (by_name names (length flows))) ≤ length (by_name names (length flows)) =
      filter_less (is_outer calls class) (by_name names (length flows)) in
      let own : length (by_name names (length flows)) ≡ length flows = length-by_name names (length flows) in
      omega (arith, less, few, own)

  -- no member is outside
  pub outer_apart : (class : List ℕ) (i : ℕ) (member : Flow) (outer : Outer) → holds class i ≡ true → slice_get flows i ≡ Some member →
      IsOuterAt flows calls all class outer → member.name ≢ outer.name
  outer_apart class i member outer h at out same =
      let place : i ≡ out.number = same_number i out.number member out.flow at out.at (same ∙ ap (λ (o : Outer). o.name) out.is) in
      let away : holds class out.number ≡ false =
      not_true (holds class out.number) (both_true (not (holds class out.number)) _ out.outside).0 in
      let own : holds class out.number ≡ true = subst (λ n. holds class n ≡ true) place h in
      cc

  -- the component of a procedure outside has it
  pub outer_listed : (class : List ℕ) (outer : Outer) → IsOuterAt flows calls all class outer →
      (own : List ℕ) × (slice_get all outer.component ≡ Some own) × (j : ℕ) × (flow : Flow)
      × (slice_get (filter_map (slice_get flows) own) j ≡ Some flow) × (flow.name ≡ outer.name) × (flow.params ≡ outer.params)
  outer_listed class outer out =
      let lt : out.number < length flows = slice_get_within flows out.number out.flow out.at in
      let within : out.number < length calls = subst (λ n. out.number < n) (sym names_length ∙ graph.lengths) lt in
      let whole = components_whole names calls graph out.number within in
      let there = place_of_holds out.number all whole.0 whole.1 whole.2 whole.3 in
      let member = member_in there.0 out.number out.flow there.2 out.at in (
        there.0,
        ap (λ (o : Outer). slice_get all o.component) out.is
            ∙ there.1,
        member.0,
        out.flow,
        member.1,
        ap (λ (o : Outer). o.name) (sym out.is),
        ap (λ (o : Outer). o.params) (sym out.is),
      )
