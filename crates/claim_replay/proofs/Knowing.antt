-- How components stand, from how those before stand.
use Rattle.std.proofs.Common.{◌≡◌, ℕ, suc, ◌+◌, ◌<◌, ◌≤◌, List, [], ◌∷◌, ◌++◌, length, map, drop, slice_get, get_or, Some, None, Option}
use Rattle.std.proofs.Common.{refl, sym, ap, ◌∙◌, subst, ⊎_elim, arith, All, option_map, append_assoc}
use Rattle.std.specs.List.{filter_map}
use Rattle.std.proofs.lemmas.List.{length-map, append-nil}
use Rattle.std.proofs.lemmas.List.Elements.{All-head, All-tail}
use Rattle.std.proofs.lemmas.Option.{slice_get-get_or}
use Rattle.std.proofs.Math.Seq.{drop-cons}
use Rattle.shape_data.specs.declared.answer.Callee.{Callee}
use Rattle.shape_data.specs.declared.program.Flow.{Flow}
use Rattle.shape_data.specs.declared.program.Program.{Program}
use Rattle.shape_data.specs.declared.program.Ty.TheVariants.{Void}
use Rattle.component_keys.specs.Keys.{flows_of, names_of, key_over, program_components}
use Rattle.component_keys.proofs.Basics.{some_same, at_push, at_map}
use Rattle.call_components.specs.Tables.{at_place}
use Rattle.composed_keys.specs.declared.rows.Component.{Component as Row}
use Rattle.composed_keys.specs.declared.rows.Outer.{Outer as OuterRow}
use Rattle.composed_keys.specs.declared.rows.Structures.{Structures}
use Rattle.composed_keys.specs.Rows.{component_value, outer_value, IsWithin}
use Rattle.claim_replay.specs.declared.standing.Standing.{Standing as Known}
use Rattle.claim_replay.specs.Values.{IsPresent, given_row, given_rows, place_settled, slot_at, AreKnown, AreKnownFor}
use Rattle.claim_laws.specs.World.{World, Slot, Standing, both, given, due_over, settled_by, settled_in, slot_of, standings, standing_at}
use Rattle.claim_laws.proofs.Still.{part_at, parts_all}
use Rattle.claim_laws.proofs.Defined.{standings_as_defined}

-- ---- callees one after the other

-- the callees so far, and those to come
abbrev pub prepended : List Callee → Option (List Callee) → Option (List Callee)
prepended before None = None
prepended before (Some others) = Some (before ++ others)

one_given : (callee : Callee) (before : List Callee) (others : Option (List Callee)) →
    prepended before (both (Some callee) others) ≡ prepended (before ++ callee ∷ []) others
one_given callee before None = refl
one_given callee before (Some others) = ap (λ l. Some l) (sym (append_assoc before (callee ∷ []) others))

dropped : (outer : List OuterRow) (i : ℕ) (one : OuterRow) → i < length outer → one ≡ get_or outer i one →
    drop i outer ≡ one ∷ drop (i + 1) outer
dropped outer i one lt is = drop-cons outer i one lt ∙ ap (λ x. x ∷ drop (suc i) outer) (sym is)
    ∙ ap (λ n. one ∷ drop n outer) (let e : suc i ≡ i + 1 = omega arith in e)

pub given_more : (flows : List Flow) (slots : List Slot) (known : List Known) (outer : List OuterRow) (i : ℕ) (one : OuterRow)
    (before : List Callee) (callee : Callee) → i < length outer → one ≡ get_or outer i one →
    given_rows flows slots known outer ≡ prepended before (given_rows flows slots known (drop i outer)) →
    given_row flows slots known one ≡ Some callee →
    given_rows flows slots known outer ≡ prepended (before ++ callee ∷ []) (given_rows flows slots known (drop (i + 1) outer))
given_more flows slots known outer i one before callee lt is so_far new =
    so_far ∙ ap (λ l. prepended before (given_rows flows slots known l)) (dropped outer i one lt is) ∙
    ap (λ o. prepended before (both o (given_rows flows slots known (drop (i + 1) outer)))) new
    ∙ one_given callee before (given_rows flows slots known (drop (i + 1) outer))

pub given_none : (flows : List Flow) (slots : List Slot) (known : List Known) (outer : List OuterRow) (i : ℕ) (one : OuterRow)
    (before : List Callee) → i < length outer → one ≡ get_or outer i one →
    given_rows flows slots known outer ≡ prepended before (given_rows flows slots known (drop i outer)) →
    given_row flows slots known one ≡ None → given_rows flows slots known outer ≡ None
given_none flows slots known outer i one before lt is so_far none =
    so_far ∙ ap (λ l. prepended before (given_rows flows slots known l)) (dropped outer i one lt is) ∙
    ap (λ o. prepended before (both o (given_rows flows slots known (drop (i + 1) outer)))) none

pub given_all : (flows : List Flow) (slots : List Slot) (known : List Known) (outer : List OuterRow) (i : ℕ) (before : List Callee) →
    drop i outer ≡ [] →
    given_rows flows slots known outer ≡ prepended before (given_rows flows slots known (drop i outer)) →
    given_rows flows slots known outer ≡ Some before
given_all flows slots known outer i before none so_far =
    so_far ∙ ap (λ l. prepended before (given_rows flows slots known l)) none ∙ ap (λ l. Some l) (append-nil before)

-- ---- as in the world

-- how a component before stands
known_at : (world : World) (known : List Known) (place : ℕ) → AreKnown world known → place < length known →
    place < length (standings world) → slot_at world.slots known place ≡ settled_in (standing_at world place)
known_at world known place are lt within =
    let one : Known = get_or known place (record { due = None; settled = None }) in
    let at = slice_get-get_or known place (record { due = None; settled = None }) lt in
    let standing : Standing =
    get_or (standings world) place (record { part = record { flows = []; outer = [] }; due = None; settled = None }) in
    let there =
    slice_get-get_or (standings world) place (record { part = record { flows = []; outer = [] }; due = None; settled = None }) within in
    ap (λ o. at_place world.slots (place_settled o)) at ∙ are.settled place one standing at there ∙ sym (ap settled_in there)

given_same : (world : World) (flows : List Flow) (known : List Known) (outer : List OuterRow) → AreKnown world known →
    length known ≤ length (standings world) →
    All (λ (one : OuterRow). one.number < length flows) outer → All (λ (one : OuterRow). one.component < length known) outer →
    given_rows flows world.slots known outer ≡ given (standings world) (filter_map (outer_value flows) outer)
given_same world flows known [] are few numbers before = refl
given_same world flows known (one ∷ others) are few numbers before =
    let number : one.number < length flows = All-head (λ (o : OuterRow). o.number < length flows) one others numbers in
    let earlier : one.component < length known = All-head (λ (o : OuterRow). o.component < length known) one others before in
    let d : Flow = get_or flows one.number default in
    let at : slice_get flows one.number ≡ Some d = slice_get-get_or flows one.number default number in
    let slot : slot_at world.slots known one.component ≡ settled_in (standing_at world one.component) =
    known_at world known one.component are earlier (omega (arith, earlier, few)) in
    let rest =
    given_same world flows known others are few (All-tail (λ (o : OuterRow). o.number < length flows) one others numbers)
    (All-tail (λ (o : OuterRow). o.component < length known) one others before) in
    rw (at, slot, rest) refl
  where
    default : Flow
    default = record { name = []; params = []; slots = []; ret = Void; nodes = [] }

pub number_of_standings : (world : World) (program : Program) (rows : List Row) →
    map (component_value (flows_of program)) rows ≡ program_components program → world.program ≡ program →
    length (standings world) ≡ length rows
number_of_standings world program rows components is_program =
    sym (length-map (standings world) (λ s. s.part)) ∙ ap length (parts_all world) ∙ ap (λ p. length (program_components p)) is_program
    ∙ ap length (sym components) ∙ length-map rows (component_value (flows_of program))

-- the standing of a row
pub known_more : (program : Program) (rows : List Row) (structures : Structures) (slots : List Slot) (known : List Known) (i : ℕ)
    (row : Row) (one : Known) → IsPresent program rows structures → length known ≡ i → i < length rows → row ≡ get_or rows i row →
    one.due ≡ option_map (key_over program.structs (filter_map (slice_get (flows_of program)) row.members.items))
    (given_rows (flows_of program) slots known row.outer.items) →
    at_place slots one.settled
    ≡ settled_by (slot_of slots (names_of (filter_map (slice_get (flows_of program)) row.members.items))) one.due →
    AreKnownFor program slots known → AreKnownFor program slots (known ++ one ∷ [])
known_more program rows structures slots known i row one present len lt is due settled are world is_program is_slots = record {
  due =
      λ place k standing at there. ⊎_elim (λ old. before.due place k standing old there)
      (λ end. ap (λ x. x.due) end.1 ∙ new_due standing (at_own end.0 standing there)) (at_push known one place k at);
  settled =
      λ place k standing at there. ⊎_elim (λ old. before.settled place k standing old there)
      (λ end. ap (λ x. at_place world.slots x.settled) end.1 ∙ new_settled standing (at_own end.0 standing there))
      (at_push known one place k at);
}
  where
    before : AreKnown world known
    before = are world is_program is_slots

    at_own : {place : ℕ} → place ≡ length known → (standing : Standing) → standing_at world place ≡ Some standing →
        standing_at world i ≡ Some standing
    at_own e standing there = ap (standing_at world) (sym len ∙ sym e) ∙ there

    row_at : slice_get rows i ≡ Some row
    row_at = slice_get-get_or rows i row lt ∙ ap (λ r. Some r) (sym is)

    -- the component of the row
    component_is : (standing : Standing) → standing_at world i ≡ Some standing → standing.part ≡ component_value (flows_of program) row
    component_is standing there =
        some_same (sym (part_at world i standing there) ∙ ap (λ p. slice_get (program_components p) i) is_program
        ∙ ap (λ l. slice_get l i) (sym present.components) ∙ at_map (component_value (flows_of program)) rows i ∙
        ap (option_map (component_value (flows_of program))) row_at)

    new_due : (standing : Standing) → standing_at world i ≡ Some standing → one.due ≡ standing.due
    new_due standing there =
        let within : IsWithin (length program.procs) i row = present.within i row row_at in
        let flows_length : length (flows_of program) ≡ length program.procs = length-map program.procs (λ proc. proc.flow) in
        due ∙ ap (λ s. option_map (key_over program.structs (filter_map (slice_get (flows_of program)) row.members.items))
        (given_rows (flows_of program) s known row.outer.items)) (sym is_slots) ∙
        ap (option_map (key_over program.structs (filter_map (slice_get (flows_of program)) row.members.items)))
        (given_same world (flows_of program) known row.outer.items before
        (omega (arith, len, lt, number_of_standings world program rows present.components is_program))
        (subst (λ n. All (λ (o : OuterRow). o.number < n) row.outer.items) (sym flows_length) within.outer)
        (subst (λ n. All (λ (o : OuterRow). o.component < n) row.outer.items) (sym len) within.before)) ∙
        sym ((standings_as_defined world i standing there).due
        ∙ ap (due_over world.program.structs (standings world)) (component_is standing there) ∙
        ap (λ p. due_over p.structs (standings world) (component_value (flows_of program) row)) is_program)

    new_settled : (standing : Standing) → standing_at world i ≡ Some standing → at_place world.slots one.settled ≡ standing.settled
    new_settled standing there =
        ap (λ s. at_place s one.settled) is_slots ∙ settled
        ∙ ap (settled_by (slot_of slots (names_of (filter_map (slice_get (flows_of program)) row.members.items)))) (new_due standing there)
        ∙
        ap (λ s. settled_by (slot_of s (names_of (filter_map (slice_get (flows_of program)) row.members.items))) standing.due)
        (sym is_slots) ∙
        ap (λ c. settled_by (slot_of world.slots (names_of c.flows)) standing.due) (sym (component_is standing there))
        ∙ sym (standings_as_defined world i standing there).settled
