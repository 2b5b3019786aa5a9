-- Files, one behind another.
use Rattle.std.proofs.Common.{◌≡◌, ℕ, suc, ◌+◌, ◌<◌, Option, List, ◌∷◌, length, map, drop, get_or, sym, ap, ◌∙◌, arith}
use Rattle.std.proofs.lemmas.List.{at_drop_more}
use Rattle.c_tree.specs.declared.items.Unit.{Unit}
use Rattle.c_tree.specs.Syntax.{unit_tree}
use Rattle.c_grammar.specs.Trees.{File}
use Rattle.c_types_rules.specs.declared.at.At.{At}
use Rattle.c_types_rules.specs.Types.{Kind}
use Rattle.c_types_rules.specs.Tables.{Tables, joined, declared_by, items_of}
use Rattle.c_types_rules.specs.Programs.{items, in_unit, files_refusals}
use Rattle.c_types_names.specs.declared.first_refusal.FirstRefusal.{FirstRefusal}
use Rattle.c_types_exprs.specs.Listing.{with_kinds}
use Rattle.c_types_exprs.proofs.ListedKinds.{with_two}
use Rattle.c_types_stmts.specs.declared.finding.Finding.{Finding}
use Rattle.c_types_stmts.specs.Adding.{Adds}
use Rattle.c_types_names.specs.FirstRefusal.{first_with}
use Rattle.c_types_names.proofs.FirstWith.{first_with-append, with_refusals-found}
use Rattle.c_types.proofs.JoinedTables.{joined-assoc, declared-append, items-append}

abbrev begun : ℕ → Option At → FirstRefusal
begun unit found = record { unit = unit; found = found }

-- a file, where the one tables stand before it and the others behind it
module _ (tables before behind : Tables) (file : File) (rest : List File) (goes : behind ≡ joined before (declared_by file.items)) where
  pub refusal_turn : (unit : ℕ) (found : Option At) (kinds : Option (List Kind)) (now : Finding)
      → Adds (items tables before file.items) (record { first = begun unit found; kinds = kinds }) now
      → first_with now.first.found (files_refusals tables behind (suc unit) rest)
      ≡ first_with found (files_refusals tables before unit (file ∷ rest))
  refusal_turn unit found kinds now adds =
      let all = map (in_unit unit) (items tables before file.items).refusals in
      let found_now : now.first.found ≡ first_with found all =
      ap (λ (f : FirstRefusal). f.found) adds.first ∙ with_refusals-found (begun unit found) (items tables before file.items).refusals in
      ap (λ t. first_with now.first.found (files_refusals tables t (suc unit) rest)) goes
      ∙ ap (λ f. first_with f (files_refusals tables (joined before (declared_by file.items)) (suc unit) rest)) found_now
      ∙ sym (first_with-append found all (files_refusals tables (joined before (declared_by file.items)) (suc unit) rest))

  pub kinds_turn : (first : FirstRefusal) (kinds : Option (List Kind)) (now : Finding)
      → Adds (items tables before file.items) (record { first = first; kinds = kinds }) now
      → with_kinds now.kinds (items tables behind (items_of rest)).kinds
      ≡ with_kinds kinds (items tables before (items_of (file ∷ rest))).kinds
  kinds_turn first kinds now adds =
      ap (λ t. with_kinds now.kinds (items tables t (items_of rest)).kinds) goes
      ∙ ap (λ ks. with_kinds ks (items tables (joined before (declared_by file.items)) (items_of rest)).kinds) adds.kinds
      ∙ with_two kinds (items tables before file.items).kinds
      (items tables (joined before (declared_by file.items)) (items_of rest)).kinds
      ∙ ap (with_kinds kinds) (sym (items-append tables before file.items (items_of rest)))

  pub tables_turn : joined behind (declared_by (items_of rest)) ≡ joined before (declared_by (items_of (file ∷ rest)))
  tables_turn =
      ap (λ t. joined t (declared_by (items_of rest))) goes
      ∙ joined-assoc before (declared_by file.items) (declared_by (items_of rest))
      ∙ ap (joined before) (sym (declared-append file.items (items_of rest)))

-- the same, at a turn of a loop
module _ (tables before behind : Tables) (units : List Unit) (i : ℕ) (one : Unit) (within : i < length units)
    (is : one ≡ get_or units i one)
    (goes : behind ≡ joined before (declared_by (unit_tree one).items)) where
  here : {T : Type 0} (F : List File → T) → F (map unit_tree (drop i units)) ≡ F (unit_tree one ∷ map unit_tree (drop (i + 1) units))
  here F = at_drop_more (λ (xs : List Unit). F (map unit_tree xs)) units i one within
      ∙ ap (λ (x : Unit). F (unit_tree x ∷ map unit_tree (drop (i + 1) units))) (sym is)

  next : i + 1 ≡ suc i
  next = omega arith

  pub refusal_next : (found : Option At) (kinds : Option (List Kind)) (now : Finding)
      → Adds (items tables before (unit_tree one).items) (record { first = begun i found; kinds = kinds }) now
      → (all : Option At) → first_with found (files_refusals tables before i (map unit_tree (drop i units))) ≡ all
      → first_with now.first.found (files_refusals tables behind (i + 1) (map unit_tree (drop (i + 1) units))) ≡ all
  refusal_next found kinds now adds all known =
      ap (λ n. first_with now.first.found (files_refusals tables behind n (map unit_tree (drop (i + 1) units)))) next
      ∙ refusal_turn tables before behind (unit_tree one) (map unit_tree (drop (i + 1) units)) goes i found kinds now adds
      ∙ sym (here (λ (xs : List File). first_with found (files_refusals tables before i xs)))
      ∙ known

  pub kinds_next : (first : FirstRefusal) (kinds : Option (List Kind)) (now : Finding)
      → Adds (items tables before (unit_tree one).items) (record { first = first; kinds = kinds }) now
      → (all : Option (List Kind)) → with_kinds kinds (items tables before (items_of (map unit_tree (drop i units)))).kinds ≡ all
      → with_kinds now.kinds (items tables behind (items_of (map unit_tree (drop (i + 1) units)))).kinds ≡ all
  kinds_next first kinds now adds all known =
      kinds_turn tables before behind (unit_tree one) (map unit_tree (drop (i + 1) units)) goes first kinds now adds
      ∙ sym (here (λ (xs : List File). with_kinds kinds (items tables before (items_of xs)).kinds))
      ∙ known

  pub tables_next : (all : Tables) → joined before (declared_by (items_of (map unit_tree (drop i units)))) ≡ all
      → joined behind (declared_by (items_of (map unit_tree (drop (i + 1) units)))) ≡ all
  tables_next all known =
      tables_turn tables before behind (unit_tree one) (map unit_tree (drop (i + 1) units)) goes
      ∙ sym (here (λ (xs : List File). joined before (declared_by (items_of xs))))
      ∙ known
