-- Calls by the places of procedures are the calls by name.
use Rattle.std.proofs.Common.{◌≡◌, ℕ, zero, suc, ◌<◌, nat_eq, nat_lt, Bool, true, false, cond, not, List, [], ◌∷◌, length, map, slice_get}
use Rattle.std.proofs.Common.{Some, None, Option, refl, sym, ap, ◌∙◌, subst}
use Rattle.std.specs.Prelude.{position, slice_index_or}
use Rattle.std.specs.List.{filter_map, cons_option, prefix_len, position_or_len}
use Rattle.std.specs.Cmp.Lexicographic.{pointwise}
use Rattle.std.proofs.lemmas.Bool.Decides.{Decides-ltb}
use Rattle.std.proofs.lemmas.List.{length-map}
use Rattle.std.proofs.lemmas.Option.{get_or_from_slice_get}
use Rattle.shape_data.specs.declared.program.Cmd.{Cmd}
use Rattle.shape_data.specs.declared.program.Cmd.TheVariants as cmd
use Rattle.shape_data.specs.declared.program.Flow.{Flow}
use Rattle.shape_data.specs.declared.program.Node.{Node}
use Rattle.shape_data.specs.declared.program.Proc.{Proc}
use Rattle.shape_data.specs.declared.program.Program.{Program}
use Rattle.shape_data.specs.WellFormed.{IsProgram}
use Rattle.component_keys.specs.Components.{holds, calls_of}
use Rattle.component_keys.specs.Keys.{callee_of, called_by, number_of, calls_in, flows_of, names_of}
use Rattle.component_keys.specs.Laws.{IsCallGraph}
use Rattle.component_keys.proofs.Basics.{not_none, some_same, mapped_some, at_map}
use Rattle.call_components.proofs.Graphs.{differ_at}
use Rattle.component_keys.proofs.Ordered.{held_at}
use Rattle.component_keys.proofs.Whole.{from_filter_map}
use Rattle.composed_keys.specs.Programs.{number_in, number_called, called_in}

pub map_map : {X Y Z : Type 0} (f : Y → Z) (g : X → Y) (xs : List X) → map f (map g xs) ≡ map (λ x. f (g x)) xs
map_map f g [] = refl
map_map f g (x ∷ xs) = ap (λ ys. f (g x) ∷ ys) (map_map f g xs)

map_agree : {X Y : Type 0} (f g : X → Y) (xs : List X) → ((x : X) → f x ≡ g x) → map f xs ≡ map g xs
map_agree f g [] same = refl
map_agree f g (x ∷ xs) same = rw (same x, map_agree f g xs same) refl

prefix_map : {X Y : Type 0} (p : Y → Bool) (f : X → Y) (xs : List X) → prefix_len p (map f xs) ≡ prefix_len (λ x. p (f x)) xs
prefix_map p f [] = refl
prefix_map p f (x ∷ xs) = rw (prefix_map p f xs) refl

pub position_map : {X Y : Type 0} (p : Y → Bool) (f : X → Y) (xs : List X) → position p (map f xs) ≡ position (λ x. p (f x)) xs
position_map p f xs = rw (prefix_map (λ y. not (p y)) f xs, length-map xs f) refl

pub position_within : {X : Type 0} (p : X → Bool) (xs : List X) (i : ℕ) → position p xs ≡ Some i → i < length xs
position_within p xs i e = by_test (nat_lt (position_or_len p xs) (length xs)) refl e
  where
    by_test : (b : Bool) → nat_lt (position_or_len p xs) (length xs) ≡ b → cond b (Some (position_or_len p xs)) None ≡ Some i →
        i < length xs
    by_test true lt at = subst (λ k. k < length xs) (some_same at) ((Decides-ltb (position_or_len p xs) (length xs)).0 lt)
    by_test false lt at = not_none at

abbrev pub flow_of : Proc → Flow
flow_of proc = proc.flow

number_same : (flows : List Flow) (name : List ℕ) → number_of flows name ≡ number_in (names_of flows) name
number_same flows name = sym (position_map (λ (other : List ℕ). pointwise nat_eq other name) (λ (flow : Flow). flow.name) flows)

-- the number of what may have a name
abbrev number_at : List Flow → Option (List ℕ) → Option ℕ
number_at flows None = None
number_at flows (Some name) = number_of flows name

command_same : (flows : List Flow) (command : Cmd) → number_at flows (callee_of command) ≡ number_called (names_of flows) command
command_same flows (cmd.Copy to from next) = refl
command_same flows (cmd.Arith to op left right next) = refl
command_same flows (cmd.Any to ty next) = refl
command_same flows (cmd.Load to base kind field next) = refl
command_same flows (cmd.Store base kind field from next) = refl
command_same flows (cmd.New to kind next) = refl
command_same flows (cmd.Free base kind next) = refl
command_same flows (cmd.Call to callee args next) = number_same flows callee
command_same flows (cmd.Branch op pointers left right on_true on_false) = refl
command_same flows (cmd.Return value) = refl

mapped_twice : (flows : List Flow) (nodes : List Node) →
    filter_map (number_of flows) (filter_map (λ (node : Node). callee_of node.cmd) nodes)
    ≡ filter_map (λ (node : Node). number_at flows (callee_of node.cmd)) nodes
mapped_twice flows [] = refl
mapped_twice flows (node ∷ nodes) = by_callee (callee_of node.cmd) (mapped_twice flows nodes)
  where
    by_callee : (o : Option (List ℕ)) →
        filter_map (number_of flows) (filter_map (λ (one : Node). callee_of one.cmd) nodes)
        ≡ filter_map (λ (one : Node). number_at flows (callee_of one.cmd)) nodes →
        filter_map (number_of flows) (cons_option o (filter_map (λ (one : Node). callee_of one.cmd) nodes))
        ≡ cons_option (number_at flows o) (filter_map (λ (one : Node). number_at flows (callee_of one.cmd)) nodes)
    by_callee None e = e
    by_callee (Some name) e = ap (cons_option (number_of flows name)) e

filter_map_agree : {X Y : Type 0} (f g : X → Option Y) (xs : List X) → ((x : X) → f x ≡ g x) → filter_map f xs ≡ filter_map g xs
filter_map_agree f g [] same = refl
filter_map_agree f g (x ∷ xs) same = rw (same x, filter_map_agree f g xs same) refl

calls_same : (flows : List Flow) (nodes : List Node) →
    filter_map (number_of flows) (filter_map (λ (node : Node). callee_of node.cmd) nodes) ≡ filter_map (called_in (names_of flows)) nodes
calls_same flows nodes =
    mapped_twice flows nodes ∙
    filter_map_agree (λ (node : Node). number_at flows (callee_of node.cmd)) (called_in (names_of flows)) nodes
    (λ node. command_same flows node.cmd)

-- who calls whom
pub graph_same : (program : Program) →
    map (λ (proc : Proc). filter_map (called_in (names_of (flows_of program))) proc.flow.nodes) program.procs ≡ calls_in (flows_of program)
graph_same program =
    sym (map_map (λ flow. filter_map (number_of (map flow_of program.procs)) (called_by flow)) flow_of program.procs ∙
    map_agree (λ (proc : Proc). filter_map (number_of (map flow_of program.procs)) (called_by proc.flow))
    (λ (proc : Proc). filter_map (called_in (names_of (map flow_of program.procs))) proc.flow.nodes) program.procs
    (λ proc. calls_same (map flow_of program.procs) proc.flow.nodes))

pub names_are : (program : Program) → map (λ (proc : Proc). proc.flow.name) program.procs ≡ names_of (flows_of program)
names_are program = sym (map_map (λ (flow : Flow). flow.name) flow_of program.procs)

named_proc : (program : Program) (i : ℕ) (name : List ℕ) → slice_get (names_of (flows_of program)) i ≡ Some name →
    (proc : Proc) × (slice_get program.procs i ≡ Some proc) × (name ≡ proc.flow.name)
named_proc program i name at =
    mapped_some (λ (proc : Proc). proc.flow.name) (slice_get program.procs i) name
    (sym (at_map (λ (proc : Proc). proc.flow.name) program.procs i) ∙ ap (λ names. slice_get names i) (names_are program) ∙ at)

names_differ : (program : Program) → IsProgram program → (i j : ℕ) (name : List ℕ) →
    slice_get (names_of (flows_of program)) i ≡ Some name → slice_get (names_of (flows_of program)) j ≡ Some name → i ≡ j
names_differ program formed i j name at_i at_j =
    let one = named_proc program i name at_i in
    let other = named_proc program j name at_j in
    differ_at (λ (proc : Proc). proc.flow.name) program.procs formed.different i j one.0 other.0 one.1 other.1 (sym one.2 ∙ other.2)

pub nothing_at : (lists : List (List ℕ)) (k : ℕ) → slice_get lists k ≡ None → slice_index_or lists k [] ≡ []
nothing_at [] k none = refl
nothing_at (first ∷ rest) zero none = not_none (sym none)
nothing_at (first ∷ rest) (suc k) none = nothing_at rest k none

called_within : (flows : List Flow) (number callee : ℕ) → holds (calls_of (calls_in flows) number) callee ≡ true → callee < length flows
called_within flows number callee h = by_row (slice_get (calls_in flows) number) refl
  where
    row : List ℕ
    row = calls_of (calls_in flows) number

    by_row : (o : Option (List ℕ)) → slice_get (calls_in flows) number ≡ o → callee < length flows
    by_row None e =
        let place = held_at row callee h in
        not_none (ap (λ l. slice_get l place.0) (sym (nothing_at (calls_in flows) number e)) ∙ place.1)
    by_row (Some own) e =
        let flow =
        mapped_some (λ flow. filter_map (number_of flows) (called_by flow)) (slice_get flows number) own
        (sym (at_map (λ flow. filter_map (number_of flows) (called_by flow)) flows number) ∙ e) in
        let same : row ≡ own = get_or_from_slice_get (calls_in flows) number own [] e in
        let place = held_at row callee h in
        let from =
        from_filter_map (number_of flows) (called_by flow.0) place.0 callee
        (ap (λ r. slice_get r place.0) (sym flow.2) ∙ ap (λ r. slice_get r place.0) (sym same) ∙ place.1) in
        position_within (λ one. pointwise nat_eq one.name from.1) flows callee from.3

pub program_graph : (program : Program) → IsProgram program → IsCallGraph (names_of (flows_of program)) (calls_in (flows_of program))
program_graph program formed = record {
  lengths = length-map (flows_of program) (λ flow. flow.name)
      ∙ sym (length-map (flows_of program) (λ flow. filter_map (number_of (flows_of program)) (called_by flow)));
  differ = names_differ program formed;
  defined =
      λ number callee h. subst (λ n. callee < n)
      (sym (length-map (flows_of program) (λ flow. filter_map (number_of (flows_of program)) (called_by flow))))
      (called_within (flows_of program) number callee h);
}
