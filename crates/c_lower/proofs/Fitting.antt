-- What is too large in a procedure.
use Rattle.std.proofs.Common.{◌≡◌, ℕ, ◌+◌, ◌<◌, nat_le, Bool, true, false, ◌&&◌, List, [], ◌∷◌, ◌++◌, length, sym, ap, ◌∙◌, arith}
use Rattle.std.proofs.lemmas.List.{length-map}
use Rattle.c_grammar.specs.declared.tokens.places.Place.{Place}
use Rattle.c_grammar.specs.declared.tokens.places.Refusal.{Refusal}
use Rattle.c_grammar.specs.Trees as tree
use Rattle.c_tree.specs.declared.stmts.Block.{Block}
use Rattle.c_tree.specs.declared.stmts.Stmt.TheFolds.{fold_out-Block}
use Rattle.c_tree.specs.Syntax.{BlockTree, stmt_level, block_level, block_tree, stmts_tree}
use Rattle.c_grammar.specs.FirstPlaces.{place_of_head}
use Rattle.c_types_rules.specs.Types.{unless}
use Rattle.c_types_rules.specs.Tables.{Tables}
use Rattle.c_types_rules.specs.Items.{listed}
use Rattle.c_lower_rules.specs.Code.{onto}
use Rattle.c_lower_rules.specs.Statements.{Lowered, stmts_kinds}
use Rattle.c_lower_rules.specs.Programs.{MOST_NODES, MOST_LOCALS, MOST_TEMPORARIES, MOST_PARAMETERS, NODES, SLOTS, PARAMETERS}
use Rattle.c_lower_rules.specs.Programs.{lowered_body, temp_kind, size_refusals}
use Rattle.c_types_names.specs.Seen.{type_seen}
use Rattle.c_types_names.specs.declared.first_refusal.FirstRefusal.{FirstRefusal}
use Rattle.c_types_names.specs.FirstRefusal.{with_refusals}
use Rattle.c_lower.specs.declared.body.Body.{Body}
use Rattle.c_lower.specs.Bodies.{IsBodyOf}
use Rattle.c_lower.specs.declared.sizes.Sizes.{Sizes}
use Rattle.c_lower.specs.Sized.{refusals_of, all_fit}
use Rattle.c_lower.proofs.SamePlace.{nodes_alone}

-- the statements of a block
pub block_is : (block : Block) → (block_tree block).body ≡ stmts_tree block.stmts.items
block_is block = ap (λ (b : BlockTree). b.body) (fold_out-Block tree.Stmt BlockTree stmt_level block_level block)

no_fit : (place : Place) (a b c d : Bool) → (a && b && c && d) ≡ false
    → unless a place NODES ++ unless b place SLOTS ++ unless c place SLOTS ++ unless d place PARAMETERS ≡ [] → ⊥
no_fit place false b c d e none = absurd cc
no_fit place true false c d e none = absurd cc
no_fit place true true false d e none = absurd cc
no_fit place true true true false e none = absurd cc
no_fit place true true true true e none = absurd cc

-- where something is too large, something is refused
pub refused_of : (sizes : Sizes) (place : Place) → all_fit sizes ≡ false → refusals_of sizes place ≡ [] → ⊥
refused_of sizes place =
    no_fit place (nat_le sizes.nodes MOST_NODES) (nat_le (sizes.params + sizes.locals) MOST_LOCALS) (nat_le sizes.temps MOST_TEMPORARIES)
    (nat_le sizes.params MOST_PARAMETERS)

-- THE SIZES OF CODE

abbrev by_numbers : ℕ → ℕ → ℕ → ℕ → Place → List Refusal
by_numbers nodes slots temps params place =
    unless (nat_le nodes MOST_NODES) place NODES ++ unless (nat_le slots MOST_LOCALS) place SLOTS
    ++ unless (nat_le temps MOST_TEMPORARIES) place SLOTS
    ++ unless (nat_le params MOST_PARAMETERS) place PARAMETERS

sized : (tables : Tables) (head : tree.Head) (body : tree.Stmts) (l : Lowered) (sizes : Sizes) (place : Place)
    → sizes.nodes ≡ length (l.code.nodes 0 (onto 0)) → sizes.params ≡ length (listed head.params)
    → sizes.locals ≡ length (stmts_kinds tables body)
    → sizes.temps ≡ length l.behind.temps → place ≡ place_of_head head → refusals_of sizes place ≡ size_refusals tables head body l
sized tables head body l sizes place nodes params locals temps at =
    let code = length (l.code.nodes 0 (onto 0)) in
    let many = length (listed head.params) in
    let kinds = length (stmts_kinds tables body) in
    ap (λ n. by_numbers n (sizes.params + sizes.locals) sizes.temps sizes.params place) nodes
    ∙ ap (λ n. by_numbers code (n + sizes.locals) sizes.temps n place) params
    ∙ ap (λ n. by_numbers code (many + n) sizes.temps many place) locals
    ∙ ap (λ n. by_numbers code (many + kinds) n many place) temps
    ∙ ap (λ p. by_numbers code (many + kinds) (length l.behind.temps) many p) at

-- what is refused in a procedure whose body was lowered
pub sized_body : (tables : Tables) (head : tree.Head) (block : BlockTree) (found : Body) (sizes : Sizes) (place : Place)
    → IsBodyOf tables head block found
    → sizes.nodes ≡ length found.nodes.items → sizes.params ≡ length (listed head.params)
    → sizes.locals ≡ length (stmts_kinds tables block.body)
    → sizes.temps ≡ length found.temps.items → place ≡ place_of_head head
    → refusals_of sizes place ≡ size_refusals tables head block.body (lowered_body tables head block.body block.end)
sized_body tables head block found sizes place body nodes params locals temps at =
    let l = lowered_body tables head block.body block.end in
    let kinds : sizes.temps ≡ length l.behind.temps =
    omega (arith, temps, length-map found.temps.items type_seen, ap length body.temps, length-map l.behind.temps temp_kind) in
    sized tables head block.body l sizes place (nodes ∙ ap length body.nodes) params locals kinds at

-- TOO MANY NODES

is_more : (n most : ℕ) → most < n → nat_le n most ≡ false
is_more n most h = grind (arith, h)

not_nil : {X : Type 0} (x : X) (xs : List X) → x ∷ xs ≡ [] → ⊥
not_nil x xs e = absurd cc

module _ (tables : Tables) (head : tree.Head) (body : tree.Stmts) (l : Lowered) (many : 512 < length (l.code.nodes 0 (onto 0))) where
  abbrev with_nodes : Bool → List Refusal
  with_nodes fits =
      unless fits (place_of_head head) NODES
      ++ unless (nat_le (length (listed head.params) + length (stmts_kinds tables body)) MOST_LOCALS) (place_of_head head) SLOTS
      ++ unless (nat_le (length l.behind.temps) MOST_TEMPORARIES) (place_of_head head) SLOTS
      ++ unless (nat_le (length (listed head.params)) MOST_PARAMETERS) (place_of_head head) PARAMETERS

  are_with_nodes : size_refusals tables head body l ≡ with_nodes false
  are_with_nodes = ap with_nodes (is_more (length (l.code.nodes 0 (onto 0))) 512 many)

  -- that is refused before all else
  pub alone : (f : FirstRefusal) (place : Place) → place ≡ place_of_head head
      → with_refusals f (unless false place NODES) ≡ with_refusals f (size_refusals tables head body l)
  alone f place at =
      ap (λ p. with_refusals f (unless false p NODES)) at ∙ sym (nodes_alone f (place_of_head head) _ _ _)
      ∙ ap (with_refusals f) (sym are_with_nodes)

  pub refused_for_nodes : size_refusals tables head body l ≡ [] → ⊥
  refused_for_nodes none = not_nil _ _ (sym are_with_nodes ∙ none)
