-- Whether procedures call themselves, by nodes.
use Rattle.std.proofs.Common.{◌≡◌, ℕ, Bool, false, ◌||◌, List, [], ◌∷◌, map, Some, None, Option, refl, sym, ap, ◌∙◌}
use Rattle.std.specs.Prelude.{nat_eq}
use Rattle.std.specs.List.{filter_map, cons_option, list_any}
use Rattle.std.specs.Cmp.Lexicographic.{pointwise}
use Rattle.shape_data.specs.declared.program.Cmd.{Cmd}
use Rattle.shape_data.specs.declared.program.Cmd.TheVariants as cmd
use Rattle.shape_data.specs.declared.program.Flow.{Flow}
use Rattle.shape_data.specs.declared.program.Node.{Node}
use Rattle.component_keys.specs.Keys.{callee_of, called_by, is_recursive, names_of}
use Rattle.composed_keys.specs.Calling.{names_any, calls_any}

any_mapped : {X Y : Type 0} (p : Y → Bool) (f : X → Y) (xs : List X) → list_any p (map f xs) ≡ list_any (λ x. p (f x)) xs
any_mapped p f [] = refl
any_mapped p f (x ∷ xs) = ap (λ b. p (f x) || b) (any_mapped p f xs)

any_same : {X : Type 0} (p q : X → Bool) (xs : List X) → ((x : X) → p x ≡ q x) → list_any p xs ≡ list_any q xs
any_same p q [] same = refl
any_same p q (x ∷ xs) same = rw (same x, any_same p q xs same) refl

-- one of the procedures has the name
abbrev has_name : List Flow → List ℕ → Bool
has_name flows name = list_any (λ (other : List ℕ). pointwise nat_eq other name) (names_of flows)

abbrev called_one : List Flow → Option (List ℕ) → Bool
called_one flows None = false
called_one flows (Some name) = has_name flows name

name_same : (flows : List Flow) (name : List ℕ) → names_any flows name ≡ has_name flows name
name_same flows name = sym (any_mapped (λ (other : List ℕ). pointwise nat_eq other name) (λ (flow : Flow). flow.name) flows)

command_same : (flows : List Flow) (command : Cmd) → calls_any flows command ≡ called_one flows (callee_of command)
command_same flows (cmd.Copy to from next) = refl
command_same flows (cmd.Arith to op left right next) = refl
command_same flows (cmd.Any to ty next) = refl
command_same flows (cmd.Load to base kind field next) = refl
command_same flows (cmd.Store base kind field from next) = refl
command_same flows (cmd.New to kind next) = refl
command_same flows (cmd.Free base kind next) = refl
command_same flows (cmd.Call to callee args next) = name_same flows callee
command_same flows (cmd.Branch op pointers left right on_true on_false) = refl
command_same flows (cmd.Return value) = refl

nodes_same : (flows : List Flow) (nodes : List Node) →
    list_any (λ (node : Node). calls_any flows node.cmd) nodes
    ≡ list_any (has_name flows) (filter_map (λ (node : Node). callee_of node.cmd) nodes)
nodes_same flows [] = refl
nodes_same flows (node ∷ nodes) =
    ap (λ b. b || list_any (λ (one : Node). calls_any flows one.cmd) nodes) (command_same flows node.cmd)
    ∙ by_callee (callee_of node.cmd) (nodes_same flows nodes)
  where
    by_callee : (o : Option (List ℕ)) →
        list_any (λ (one : Node). calls_any flows one.cmd) nodes
        ≡ list_any (has_name flows) (filter_map (λ (one : Node). callee_of one.cmd) nodes) →
        (called_one flows o || list_any (λ (one : Node). calls_any flows one.cmd) nodes)
        ≡ list_any (has_name flows) (cons_option o (filter_map (λ (one : Node). callee_of one.cmd) nodes))
    by_callee None e = e
    by_callee (Some name) e = ap (λ b. has_name flows name || b) e

pub recursive_same : (flows : List Flow) →
    list_any (λ (flow : Flow). list_any (λ (node : Node). calls_any flows node.cmd) flow.nodes) flows ≡ is_recursive flows
recursive_same flows =
    any_same (λ (flow : Flow). list_any (λ (node : Node). calls_any flows node.cmd) flow.nodes)
    (λ (flow : Flow). list_any (has_name flows) (called_by flow)) flows (λ flow. nodes_same flows flow.nodes)
