-- Files, one behind another.
use Rattle.std.proofs.Common.{◌≡◌, ℕ, suc, ◌+◌, ◌<◌, ◌≤◌, List, [], ◌∷◌, ◌++◌, length, map, take, drop, get_or, append_assoc, refl, sym, ap}
use Rattle.std.proofs.Common.{◌∙◌, subst, arith, add-one}
use Rattle.std.specs.Prelude.{All}
use Rattle.std.proofs.lemmas.List.{append-nil, at_drop_more, at_drop_all, length-map, get_or-map}
use Rattle.c_tree.specs.declared.items.Unit.{Unit}
use Rattle.c_tree.specs.Syntax.{unit_tree}
use Rattle.c_grammar.specs.Trees.{File}
use Rattle.c_types_rules.specs.Tables.{Tables}
use Rattle.c_types_rules.specs.Programs.{in_unit, first_of}
use Rattle.c_types_rules.proofs.KnownPrograms.{nothing_mapped}
use Rattle.c_types_rules.proofs.KnownTables.{nil_left, nil_right}
use Rattle.c_types_names.specs.declared.first_refusal.FirstRefusal.{FirstRefusal}
use Rattle.c_types_names.specs.FirstRefusal.{first_with}
use Rattle.c_types_names.proofs.FirstWith.{first_with-append, first_with-nil, first_with-is, with_refusals-found}
use Rattle.c_lower_rules.specs.Programs.{items_refusals, items_procs, files_refusals, files_procs}
use Rattle.c_lower.specs.declared.building.Building.{Building}
use Rattle.c_lower.specs.Building.{items_part, Adds, KeepsFirst, IsBuiltUpTo}

-- what is so of each of some values is so of the one at a place
pub at_map : {X Y : Type 0} (P : Y → Type 0) (f : X → Y) (xs : List X) (i : ℕ) (x : X) → i < length xs → x ≡ get_or xs i x
    → All P (map f xs) → P (f x)
at_map P f xs i x within is h =
    subst P (get_or-map f xs i x (f x) within ∙ ap f (sym is)) (h i (f x) (omega (arith, within, length-map xs f)))

-- no file has no procedures
procs_none : (tables : Tables) (names : List (List ℕ)) → files_procs tables names [] ≡ []
procs_none tables [] = refl
procs_none tables (name ∷ names) = refl

module _ (tables : Tables) (files : List File) (names : List (List ℕ)) (most : ℕ) where
  -- a file
  file_turn : (file : File) (rest : List File) (name : List ℕ) (rest_names : List (List ℕ)) (unit : ℕ) (before now : Building)
      → IsBuiltUpTo tables files names most (file ∷ rest) (name ∷ rest_names) unit before
      → Adds (items_part tables name file.items)
      (record before { first = record { unit = unit; found = before.first.found } }) now
      → IsBuiltUpTo tables files names most rest rest_names (suc unit) now
  file_turn file rest name rest_names unit before now known adds =
      let all = map (in_unit unit) (items_refusals tables file.items) in
      let found_now : now.first.found ≡ first_with before.first.found all =
      ap (λ (f : FirstRefusal). f.found) adds.first
      ∙ with_refusals-found (record { unit = unit; found = before.first.found }) (items_refusals tables file.items) in
      record {
        refusal = ap (λ f. first_with f (files_refusals tables (suc unit) rest)) found_now
            ∙ sym (first_with-append before.first.found all (files_refusals tables (suc unit) rest)) ∙ known.refusal;
        none = λ e. nil_right all (files_refusals tables (suc unit) rest) (known.none e);
        as_asked = adds.most ∙ known.as_asked;
        procs = λ e.
            let kept = known.procs e in
            let own = items_procs tables name file.items in
            let empty = nothing_mapped (in_unit unit) (items_refusals tables file.items)
            (nil_left all (files_refusals tables (suc unit) rest) (known.none e)) in
            let now_kept = adds.procs empty kept.met (kept.first ∙ ap (λ n. take n kept.met) (sym known.as_asked)) in
            record {
              met = kept.met ++ own;
              first = now_kept ∙ ap (λ n. take n (kept.met ++ own)) known.as_asked;
              whole = append_assoc kept.met own (files_procs tables rest_names rest) ∙ kept.whole;
            };
      }

  -- a turn of a loop over the files
  module _ (units : List Unit) (i : ℕ) (one : Unit) (within : i < length units) (is : one ≡ get_or units i one)
      (name : List ℕ) (within_names : i < length names) (name_is : name ≡ get_or names i name) where
    here : map unit_tree (drop i units) ≡ unit_tree one ∷ map unit_tree (drop (i + 1) units)
    here = at_drop_more (map unit_tree) units i one within ∙ ap (λ (x : Unit). unit_tree x ∷ map unit_tree (drop (i + 1) units)) (sym is)

    here_names : drop i names ≡ name ∷ drop (i + 1) names
    here_names = at_drop_more (λ xs. xs) names i name within_names ∙ ap (λ x. x ∷ drop (i + 1) names) (sym name_is)

    pub next_file : (before now : Building) → IsBuiltUpTo tables files names most (map unit_tree (drop i units)) (drop i names) i before
        → Adds (items_part tables name (unit_tree one).items)
        (record before { first = record { unit = i; found = before.first.found } }) now
        → IsBuiltUpTo tables files names most (map unit_tree (drop (i + 1) units)) (drop (i + 1) names) (i + 1) now
    next_file before now known adds =
        let rest = map unit_tree (drop (i + 1) units) in
        let by_files = subst (λ (xs : List File). IsBuiltUpTo tables files names most xs (drop i names) i before) here known in
        let by_names =
        subst (λ (xs : List (List ℕ)). IsBuiltUpTo tables files names most (unit_tree one ∷ rest) xs i before) here_names by_files in
        subst (λ (n : ℕ). IsBuiltUpTo tables files names most rest (drop (i + 1) names) n now) (sym (add-one i))
        (file_turn (unit_tree one) rest name (drop (i + 1) names) i before now by_names adds)

  -- behind the last turn
  pub last_file : (units : List Unit) (i : ℕ) (left_names : List (List ℕ)) (now : Building) → length units ≤ i
      → IsBuiltUpTo tables files names most (map unit_tree (drop i units)) left_names i now
      → now.first.found ≡ first_of (files_refusals tables 0 files)
  last_file units i left_names now past known =
      sym (first_with-nil now.first.found)
      ∙ sym (at_drop_all (λ (xs : List Unit). first_with now.first.found (files_refusals tables i (map unit_tree xs))) units i past)
      ∙ known.refusal
      ∙ first_with-is (files_refusals tables 0 files)

  -- and these procedures are kept, if nothing is too large
  pub last_kept : (units : List Unit) (i : ℕ) (now : Building) → length units ≤ i
      → IsBuiltUpTo tables files names most (map unit_tree (drop i units)) (drop i names) i now
      → files_refusals tables 0 files ≡ [] → now.procs ≡ take most (files_procs tables names files)
  last_kept units i now past known e =
      let kept = known.procs e in
      let none : files_procs tables (drop i names) (map unit_tree (drop i units)) ≡ [] =
      at_drop_all (λ (xs : List Unit). files_procs tables (drop i names) (map unit_tree xs)) units i past
      ∙ procs_none tables (drop i names) in
      kept.first
      ∙ ap (take most) (sym (append-nil kept.met) ∙ ap (λ ps. kept.met ++ ps) (sym none) ∙ kept.whole)
