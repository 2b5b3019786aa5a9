-- Items of one file behind another.
use Rattle.std.proofs.Common.{◌≡◌, List, [], ◌∷◌, ◌++◌, append_assoc, refl, sym, ap, ◌∙◌}
use Rattle.std.proofs.lemmas.List.{append-nil}
use Rattle.c_grammar.specs.Trees.{Item}
use Rattle.c_types_rules.specs.Tables.{Structure, Alias, Procedure, Tables, no_tables, joined, declares, declared_by}
use Rattle.c_types_rules.specs.Items.{item}
use Rattle.c_types_rules.specs.Programs.{items}

abbrev three : List Structure → List Alias → List Procedure → Tables
three structures aliases procedures = record { structures = structures; aliases = aliases; procedures = procedures }

pub joined-assoc : (one other third : Tables) → joined (joined one other) third ≡ joined one (joined other third)
joined-assoc one other third =
    ap (λ xs. three xs ((one.aliases ++ other.aliases) ++ third.aliases) ((one.procedures ++ other.procedures) ++ third.procedures))
    (append_assoc one.structures other.structures third.structures)
    ∙ ap (λ xs. three (one.structures ++ (other.structures ++ third.structures)) xs
    ((one.procedures ++ other.procedures) ++ third.procedures)) (append_assoc one.aliases other.aliases third.aliases)
    ∙ ap (λ xs. three (one.structures ++ (other.structures ++ third.structures)) (one.aliases ++ (other.aliases ++ third.aliases)) xs)
    (append_assoc one.procedures other.procedures third.procedures)

pub joined-none : (one : Tables) → joined one no_tables ≡ one
joined-none one =
    ap (λ xs. three xs (one.aliases ++ []) (one.procedures ++ [])) (append-nil one.structures)
    ∙ ap (λ xs. three one.structures xs (one.procedures ++ [])) (append-nil one.aliases)
    ∙ ap (λ xs. three one.structures one.aliases xs) (append-nil one.procedures)

pub declared-append : (one other : List Item) → declared_by (one ++ other) ≡ joined (declared_by one) (declared_by other)
declared-append [] other = refl
declared-append (first ∷ others) other =
    ap (joined (declares first)) (declared-append others other)
    ∙ sym (joined-assoc (declares first) (declared_by others) (declared_by other))

-- the types of items, one file behind another
pub items-append : (tables before : Tables) (one other : List Item)
    → (items tables before (one ++ other)).kinds
    ≡ (items tables before one).kinds ++ (items tables (joined before (declared_by one)) other).kinds
items-append tables before [] other = ap (λ t. (items tables t other).kinds) (sym (joined-none before))
items-append tables before (first ∷ others) other =
    ap (λ ks. (item tables before first).kinds ++ ks)
    (items-append tables (joined before (declares first)) others other
    ∙ ap (λ t. (items tables (joined before (declares first)) others).kinds ++ (items tables t other).kinds)
    (joined-assoc before (declares first) (declared_by others)))
    ∙ sym (append_assoc (item tables before first).kinds (items tables (joined before (declares first)) others).kinds
    (items tables (joined before (declared_by (first ∷ others))) other).kinds)
