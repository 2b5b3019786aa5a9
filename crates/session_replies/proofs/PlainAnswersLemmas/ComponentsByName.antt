-- The component of a name is found by the places of the components' procedures; and an aim reaches whom its components call.
use Rattle.std.proofs.Common.{◌≡◌, ℕ, ◌+◌, ◌<◌, ◌≤◌, Bool, true, ◌||◌, not, cond, nat_lt, List, [], ◌∷◌, length, map, slice_get, Some, None}
use Rattle.std.proofs.Common.{Option, refl, sym, ap, ap₂, ◌∙◌}
use Rattle.std.proofs.Common.{filter_map, option_map, arith}
use Rattle.std.specs.List.{cons_option, position, position_or_len}
use Rattle.std.proofs.lemmas.Bool.Decides.{Decides-ltb}
use Rattle.std.proofs.lemmas.List.{length-map}
use Rattle.std.proofs.lemmas.Option.{slice_get_within}
use Rattle.shape_data.specs.declared.program.Flow.{Flow}
use Rattle.shape_data.specs.declared.program.Proc.{Proc}
use Rattle.shape_data.specs.declared.program.Program.{Program}
use Rattle.shape_data.specs.WellFormed.{IsProgram}
use Rattle.component_keys.specs.Components.{calls_of, components, holds}
use Rattle.component_keys.specs.Keys.{Component, calls_in, component_of, flows_of, names_of, program_components}
use Rattle.component_keys.proofs.Basics.{at_map}
use Rattle.component_keys.proofs.Ordered.{callees_before}
use Rattle.component_keys.proofs.Reach.{reached_is_closed}
use Rattle.composed_keys.proofs.Components.{components_few}
use Rattle.composed_keys.specs.Rows.{component_value}
use Rattle.composed_keys.specs.declared.rows.Component.{Component as Row}
use Rattle.bottom_up.specs.Placed.{AreRows}
use Rattle.summary_book.specs.declared.aims.Aim.{Aim}
use Rattle.summary_book.specs.declared.aims.Aim.TheVariants as aims
use Rattle.summary_book.specs.Aims.{aimed, component_calls, component_with, has_name, reaches_from}
use Rattle.summary_book.proofs.Components.{called_at, calls_length}
use Rattle.session_replies.specs.PlainAnswers.Table.{IsClosed, has_own_name, names_one}

-- ---- names

any_named : (program : Program) (name : List ℕ) (members : List ℕ) →
    names_one program.procs name members ≡ has_name name (filter_map (slice_get (flows_of program)) members)
any_named program name [] = refl
any_named program name (number ∷ members) =
    ap (λ b. has_own_name name (slice_get program.procs number) || b) (any_named program name members) ∙
    by_proc (slice_get program.procs number) (filter_map (slice_get (flows_of program)) members) ∙
    ap (λ o. has_name name (cons_option o (filter_map (slice_get (flows_of program)) members)))
    (sym (at_map (λ (proc : Proc). proc.flow) program.procs number))
  where
    by_proc : (o : Option Proc) (flows : List Flow) →
        (has_own_name name o || has_name name flows) ≡ has_name name (cons_option (option_map (λ (proc : Proc). proc.flow) o) flows)
    by_proc None flows = refl
    by_proc (Some proc) flows = refl

first_mapped : {X Y : Type 0} (f : X → Y) (p : Y → Bool) (q : X → Bool) → ((x : X) → q x ≡ p (f x)) → (xs : List X) →
    position_or_len q xs ≡ position_or_len p (map f xs)
first_mapped f p q same [] = refl
first_mapped f p q same (x ∷ xs) = ap₂ (λ b n. cond (not b) (1 + n) 0) (same x) (first_mapped f p q same xs)

position_mapped : {X Y : Type 0} (f : X → Y) (p : Y → Bool) (q : X → Bool) → ((x : X) → q x ≡ p (f x)) → (xs : List X) →
    position q xs ≡ position p (map f xs)
position_mapped f p q same xs =
    ap₂ (λ n count. cond (nat_lt n count) (Some n) None) (first_mapped f p q same xs) (sym (length-map xs f))

-- the component of a name, by the rows
pub place_is : (program : Program) (rows : List Row) → AreRows program rows → (name : List ℕ) →
    position (λ (row : Row). names_one program.procs name row.members.items) rows ≡ component_with program name
place_is program rows are name =
    position_mapped (component_value (flows_of program)) (λ (part : Component). has_name name part.flows)
    (λ (row : Row). names_one program.procs name row.members.items)
    (λ row. any_named program name row.members.items) rows ∙
    ap (position (λ (part : Component). has_name name part.flows)) are.are

-- ---- how many there are

pub rows_many : (program : Program) (rows : List Row) → AreRows program rows → length rows ≡ length (program_components program)
rows_many program rows are = sym (length-map rows (component_value (flows_of program))) ∙ ap length are.are

parts_few : (program : Program) → length (program_components program) ≤ length program.procs
unfolding program_components
parts_few program =
    let all : List (List ℕ) = components (names_of (flows_of program)) (calls_in (flows_of program)) in
    let one : length (map (component_of (flows_of program) (calls_in (flows_of program)) all) all) ≡ length all =
    length-map all (component_of (flows_of program) (calls_in (flows_of program)) all) in
    let few : length all ≤ length (names_of (flows_of program)) =
    components_few (names_of (flows_of program)) (calls_in (flows_of program)) in
    let names : length (names_of (flows_of program)) ≡ length program.procs =
    length-map (flows_of program) (λ flow. flow.name) ∙ length-map program.procs (λ (proc : Proc). proc.flow) in
    omega (arith, one, few, names)

pub rows_few : (program : Program) → IsProgram program → (rows : List Row) → AreRows program rows → length rows < 4294967296
rows_few program formed rows are =
    let many = rows_many program rows are in
    let few = parts_few program in
    let small : length program.procs < 4294967296 = formed.countable in
    omega (arith, many, few, small)

-- ---- an aim reaches whom its components call

pub aim_is_closed : (program : Program) (its : Aim) → IsClosed program (aimed program its)
aim_is_closed program its place k part outer reached at at_k =
    by_aim its reached (callees_before program place k part outer at at_k) (slice_get_within (program_components program) place part at)
    (called_at program place k part outer at at_k)
  where
    by_aim : (its : Aim) → aimed program its place ≡ true → outer.component < place → place < length (program_components program) →
        holds (calls_of (component_calls program) place) outer.component ≡ true → aimed program its outer.component ≡ true
    by_aim aims.All h before within calls =
        (Decides-ltb outer.component (length (program_components program))).1 (omega (arith, before, within))
    by_aim (aims.One name) h before within calls = by_start (component_with program name) h
      where
        by_start : (o : Option ℕ) → reaches_from program o place ≡ true → reaches_from program o outer.component ≡ true
        by_start None e = cc
        by_start (Some start) e =
            let same = calls_length program in
            reached_is_closed (component_calls program) start place outer.component e calls (omega (arith, before, within, same))

pub same_is_closed : (program : Program) (its : Aim) (reached : ℕ → Bool) →
    ((component : ℕ) → reached component ≡ aimed program its component) → IsClosed program reached
same_is_closed program its reached same place k part outer reaches at at_k =
    same outer.component ∙ aim_is_closed program its place k part outer (sym (same place) ∙ reaches) at at_k
