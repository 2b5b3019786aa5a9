-- The procedures of a program in which nothing is refused: no two are defined with one name, and all that is declared with one name
-- has as many parameters.
use Rattle.std.proofs.Common.{◌≡◌, ℕ, suc, Bool, true, false, cond, List, [], ◌∷◌, ◌++◌, length, map, refl, subst, sym, ap, ◌∙◌}
use Rattle.std.specs.Prelude.{◌≢◌, Option, Some, None, IfSome, ◌&&◌, not}
use Rattle.std.specs.List.{AllByRecursion}
use Rattle.std.specs.Str.{bytes_eq}
use Rattle.std.proofs.lemmas.List.{append_assoc, append-nil, length-map}
use Rattle.std.proofs.lemmas.Slice.Eq.{bytes_eq-Decides}
use Rattle.c_grammar.specs.declared.tokens.places.Place.{Place}
use Rattle.c_grammar.specs.Trees.{Params, Head, Stmts, Item, File}
use Rattle.c_types_rules.specs.Types.{Kind, may_agree}
use Rattle.c_types_rules.specs.Tables.{Procedure, Tables, declares, joined, declared_by, no_tables, items_of, procedure_in, param_kind}
use Rattle.c_types_rules.specs.Tables.{param_kinds, kind_of_result}
use Rattle.c_types_rules.specs.Items.{same_kinds, same_head, same_bool, definitions, is_defined_before, listed, procedure_refusals, item}
use Rattle.c_types_rules.specs.Programs.{items, in_unit, files_refusals, tables_of, IsWellTyped}
use Rattle.c_types_rules.proofs.KnownTables.{nil_left, nil_right, holds}
use Rattle.c_types_rules.proofs.KnownPrograms.{nothing_mapped}
use Rattle.c_lower_rules.proofs.Different.{Distinct, all_more, map_of_all, unequal}

abbrev count : Procedure → ℕ
count p = length (listed p.head.params)

abbrev name_of : Procedure → List ℕ
name_of p = p.head.declarator.name.text

-- LOOKING UP BEHIND OTHERS

-- the first of the name in a list, or else behind it
found_in_front : (one other : List Procedure) (n : List ℕ) (f : Procedure) → procedure_in one n ≡ Some f
    → procedure_in (one ++ other) n ≡ Some f
found_in_front [] other n f e = absurd (cc)
found_in_front (first ∷ others) other n f e = by_test (bytes_eq (name_of first) n) (found_in_front others other n f) e
  where
    by_test : (b : Bool) → (procedure_in others n ≡ Some f → procedure_in (others ++ other) n ≡ Some f)
        → cond b (Some first) (procedure_in others n) ≡ Some f
        → cond b (Some first) (procedure_in (others ++ other) n) ≡ Some f
    by_test true behind g = g
    by_test false behind g = behind g

found_behind : (one other : List Procedure) (n : List ℕ) → procedure_in one n ≡ None → procedure_in (one ++ other) n ≡ procedure_in other n
found_behind [] other n e = refl
found_behind (first ∷ others) other n e = by_test (bytes_eq (name_of first) n) (found_behind others other n) e
  where
    by_test : (b : Bool) → (procedure_in others n ≡ None → procedure_in (others ++ other) n ≡ procedure_in other n)
        → cond b (Some first) (procedure_in others n) ≡ None
        → cond b (Some first) (procedure_in (others ++ other) n) ≡ procedure_in other n
    by_test true behind g = absurd (cc)
    by_test false behind g = behind g

-- AS MANY PARAMETERS

same_length : (tables : Tables) (one other : List Kind) → same_kinds one other ≡ true → length one ≡ length other
same_length tables [] [] e = refl
same_length tables (k ∷ ks) (l ∷ ls) e = ap suc (same_length tables ks ls (both_right (may_agree k l) (same_kinds ks ls) e))
  where
    both_right : (a b : Bool) → (a && b) ≡ true → b ≡ true
    both_right true b e = e
    both_right false b e = absurd (cc)
same_length tables [] (l ∷ ls) e = absurd (cc)
same_length tables (k ∷ ks) [] e = absurd (cc)

pub kinds_length : (tables : Tables) (params : Params) → length (param_kinds tables params) ≡ length (listed params)
kinds_length tables Params.NoParams = refl
kinds_length tables (Params.VoidParams place) = refl
kinds_length tables (Params.Listed first others) = ap suc (length-map others (param_kind tables))

head_length : (tables : Tables) (found : Option Procedure) (head : Head) → same_head tables found head ≡ true
    → IfSome found (λ f. count f ≡ length (listed head.params))
head_length tables None head e = tt
head_length tables (Some f) head e =
    sym (kinds_length tables f.head.params)
    ∙ same_length tables _ _
    (both_right (may_agree (kind_of_result tables f.head) (kind_of_result tables head))
    (same_kinds (param_kinds tables f.head.params) (param_kinds tables head.params)) e)
    ∙ kinds_length tables head.params
  where
    both_right : (a b : Bool) → (a && b) ≡ true → b ≡ true
    both_right true b e = e
    both_right false b e = absurd (cc)

-- where nothing of a name is defined, the first that is declared is the first that is declared alone
none_defined : (all : List Procedure) (n : List ℕ) → procedure_in (definitions true all) n ≡ None
    → procedure_in (definitions false all) n ≡ procedure_in all n
none_defined [] n e = refl
none_defined (first ∷ others) n e = by_kind first.defines refl (none_defined others n) e
  where
    by_test : (b : Bool)
        → (procedure_in (definitions true others) n ≡ None → procedure_in (definitions false others) n ≡ procedure_in others n)
        → cond b (Some first) (procedure_in (definitions true others) n) ≡ None
        → procedure_in (definitions false others) n ≡ cond b (Some first) (procedure_in others n)
    by_test true behind g = absurd (cc)
    by_test false behind g = behind g

    by_name : (b : Bool) → (procedure_in (definitions false others) n ≡ procedure_in others n)
        → cond b (Some first) (procedure_in (definitions false others) n) ≡ cond b (Some first) (procedure_in others n)
    by_name true g = refl
    by_name false g = g

    by_kind : (d : Bool) → first.defines ≡ d
        → (procedure_in (definitions true others) n ≡ None → procedure_in (definitions false others) n ≡ procedure_in others n)
        → procedure_in (cond (same_bool d true) (first ∷ definitions true others) (definitions true others)) n ≡ None
        → procedure_in (cond (same_bool d false) (first ∷ definitions false others) (definitions false others)) n
        ≡ procedure_in (first ∷ others) n
    by_kind true eq behind g = by_test (bytes_eq (name_of first) n) behind g
    by_kind false eq behind g = by_name (bytes_eq (name_of first) n) (behind g)

-- EACH DECLARATION

-- the first of its name, if there is one, has as many parameters
abbrev MaySettle : List Procedure → Head → Type 0
MaySettle all head = IfSome (procedure_in all head.declarator.name.text) (λ f. count f ≡ length (listed head.params))

-- there is a first of its name, and it has as many parameters
pub record IsSettled (all : List Procedure) (head : Head) : Type 0 where
  pub first : Procedure
  pub found : procedure_in all head.declarator.name.text ≡ Some first
  pub fits : length (listed first.head.params) ≡ length (listed head.params)

not_defined : (before : Tables) (head : Head) → not (is_defined_before before head) ≡ true
    → procedure_in (definitions true before.procedures) head.declarator.name.text ≡ None
not_defined before head e = by_found (procedure_in (definitions true before.procedures) head.declarator.name.text) e
  where
    by_found : (found : Option Procedure) → not (elim found [ None ↦ false | Some f ↦ true ]) ≡ true → found ≡ None
    by_found None f = refl
    by_found (Some p) f = absurd (cc)

prototype_settled : (tables before : Tables) (head : Head) → (item tables before (Item.Prototype head)).refusals ≡ []
    → MaySettle before.procedures head
prototype_settled tables before head e =
    head_length tables (procedure_in before.procedures head.declarator.name.text) head (holds _ _ _ (nil_right _ _ e))

definition_new : (tables before : Tables) (head : Head) (place : Place) (body : Stmts) (end : Place)
    → (item tables before (Item.Definition head place body end)).refusals ≡ []
    → procedure_in (definitions true before.procedures) head.declarator.name.text ≡ None
definition_new tables before head place body end e =
    not_defined before head
    (holds _ _ _ (nil_left _ _ (nil_right (procedure_refusals tables before (definitions false before.procedures) head) _ e)))

definition_settled : (tables before : Tables) (head : Head) (place : Place) (body : Stmts) (end : Place)
    → (item tables before (Item.Definition head place body end)).refusals ≡ []
    → MaySettle before.procedures head
definition_settled tables before head place body end e =
    subst (λ found. IfSome found (λ f. count f ≡ length (listed head.params)))
    (none_defined before.procedures head.declarator.name.text (definition_new tables before head place body end e))
    (head_length tables (procedure_in (definitions false before.procedures) head.declarator.name.text) head
    (holds _ _ _ (nil_right _ _ (nil_left _ _ e))))

-- behind its declaration, whatever stands behind that
settled_behind : (before behind : List Procedure) (head : Head) (defines : Bool) → MaySettle before head
    → IsSettled (before ++ record { head = head; defines = defines } ∷ behind) head
settled_behind before behind head defines h = by_found (procedure_in before head.declarator.name.text) refl h
  where
    own : Procedure
    own = record { head = head; defines = defines }

    here : procedure_in (own ∷ behind) head.declarator.name.text ≡ Some own
    here = rw ((bytes_eq-Decides head.declarator.name.text head.declarator.name.text).1 refl) refl

    by_found : (found : Option Procedure) → procedure_in before head.declarator.name.text ≡ found
        → IfSome found (λ f. count f ≡ length (listed head.params))
        → IsSettled (before ++ own ∷ behind) head
    by_found None e k = record { first = own; found = found_behind before (own ∷ behind) head.declarator.name.text e ∙ here; fits = refl }
    by_found (Some f) e k = record { first = f; found = found_in_front before (own ∷ behind) head.declarator.name.text f e; fits = k }

-- ALL DEFINITIONS

abbrev pub defined_by : Item → List Head
defined_by (Item.Definition head place body end) = head ∷ []
defined_by _ = []

abbrev pub definitions_of : List Item → List Head
definitions_of [] = []
definitions_of (first ∷ others) = defined_by first ++ definitions_of others

abbrev head_name : Head → List ℕ
head_name head = head.declarator.name.text

-- what holds of the definitions among items, behind others
record AreDefinitions (before : List Procedure) (all : List Item) : Type 0 where
  settled : AllByRecursion (IsSettled (before ++ (declared_by all).procedures)) (definitions_of all)
  new : AllByRecursion (λ head. procedure_in (definitions true before) (head_name head) ≡ None) (definitions_of all)
  distinct : Distinct (map head_name (definitions_of all))

definitions_append : (one other : List Procedure) → definitions true (one ++ other) ≡ definitions true one ++ definitions true other
definitions_append [] other = refl
definitions_append (first ∷ others) other = by_test (same_bool first.defines true) (definitions_append others other)
  where
    by_test : (b : Bool) → definitions true (others ++ other) ≡ definitions true others ++ definitions true other
        → cond b (first ∷ definitions true (others ++ other)) (definitions true (others ++ other))
        ≡ cond b (first ∷ definitions true others) (definitions true others) ++ definitions true other
    by_test true e = ap (λ r. first ∷ r) e
    by_test false e = e

-- found neither before nor here
not_found_in : (one other : List Procedure) (n : List ℕ) → procedure_in (one ++ other) n ≡ None
    → (procedure_in one n ≡ None) × (procedure_in other n ≡ None)
not_found_in [] other n e = (refl, e)
not_found_in (first ∷ others) other n e = by_test (bytes_eq (name_of first) n) (not_found_in others other n) e
  where
    by_test : (b : Bool) → (procedure_in (others ++ other) n ≡ None → (procedure_in others n ≡ None) × (procedure_in other n ≡ None))
        → cond b (Some first) (procedure_in (others ++ other) n) ≡ None
        → (cond b (Some first) (procedure_in others n) ≡ None) × (procedure_in other n ≡ None)
    by_test true behind g = absurd (cc)
    by_test false behind g = behind g

not_the_name : (head : Head) (n : List ℕ) → procedure_in (record { head = head; defines = true } ∷ []) n ≡ None → head_name head ≢ n
not_the_name head n e = unequal (head_name head) n (by_test (bytes_eq (head_name head) n) e)
  where
    by_test : (b : Bool) → cond {A = Option Procedure} b (Some (record { head = head; defines = true })) None ≡ None → b ≡ false
    by_test true f = absurd (cc)
    by_test false f = refl

-- what stands before, and one item more
behind_item : (before : List Procedure) (one : List Procedure) (others : List Item) → AreDefinitions (before ++ one) others
    → AllByRecursion (IsSettled (before ++ (one ++ (declared_by others).procedures))) (definitions_of others)
behind_item before one others h =
    subst (λ all. AllByRecursion (IsSettled all) (definitions_of others))
    (append_assoc before one (declared_by others).procedures) h.settled

older : (before one : List Procedure) (heads : List Head)
    → AllByRecursion (λ head. procedure_in (definitions true (before ++ one)) (head_name head) ≡ None) heads
    → AllByRecursion (λ head. procedure_in (definitions true before) (head_name head) ≡ None) heads
older before one heads h = all_more _ _ (λ head e.
    (not_found_in (definitions true before) (definitions true one) (head_name head)
    (subst (λ all. procedure_in all (head_name head) ≡ None) (definitions_append before one) e)).0) heads h

-- behind an item that defines nothing
undefined_item : (before one : List Procedure) (others : List Item) → AreDefinitions (before ++ one) others
    → AllByRecursion (IsSettled (before ++ (one ++ (declared_by others).procedures))) (definitions_of others)
    × AllByRecursion (λ head. procedure_in (definitions true before) (head_name head) ≡ None) (definitions_of others)
    × Distinct (map head_name (definitions_of others))
undefined_item before one others h = (behind_item before one others h, older before one (definitions_of others) h.new, h.distinct)

definitions_good : (tables before : Tables) (all : List Item) → (items tables before all).refusals ≡ []
    → AreDefinitions before.procedures all
definitions_good tables before [] e = record { settled = tt; new = tt; distinct = tt }
definitions_good tables before (Item.StructItem place tag lines ∷ others) e =
    let rest =
    undefined_item before.procedures [] others
    (definitions_good tables (joined before (declares (Item.StructItem place tag lines))) others (nil_right _ _ e)) in
    record { settled = rest.0; new = rest.1; distinct = rest.2 }
definitions_good tables before (Item.TypedefStruct place tag lines alias ∷ others) e =
    let rest =
    undefined_item before.procedures [] others
    (definitions_good tables (joined before (declares (Item.TypedefStruct place tag lines alias))) others (nil_right _ _ e)) in
    record { settled = rest.0; new = rest.1; distinct = rest.2 }
definitions_good tables before (Item.TypedefAlias place tag alias ∷ others) e =
    let rest =
    undefined_item before.procedures [] others
    (definitions_good tables (joined before (declares (Item.TypedefAlias place tag alias))) others (nil_right _ _ e)) in
    record { settled = rest.0; new = rest.1; distinct = rest.2 }
definitions_good tables before (Item.Prototype head ∷ others) e =
    let rest =
    undefined_item before.procedures (record { head = head; defines = false } ∷ []) others
    (definitions_good tables (joined before (declares (Item.Prototype head))) others (nil_right _ _ e)) in
    record { settled = rest.0; new = rest.1; distinct = rest.2 }
definitions_good tables before (Item.Definition head place body end ∷ others) e =
    let one = nil_left (item tables before (Item.Definition head place body end)).refusals _ e in
    let own : List Procedure = record { head = head; defines = true } ∷ [] in
    let h = definitions_good tables (joined before (declares (Item.Definition head place body end))) others (nil_right _ _ e) in
    let rest = undefined_item before.procedures own others h in
    record {
      settled = (
        settled_behind before.procedures (declared_by others).procedures head true
            (definition_settled tables before head place body end one),
        rest.0,
      );
      new = (definition_new tables before head place body end one, rest.1);
      distinct = (
        map_of_all (λ n. head_name head ≢ n) head_name (definitions_of others)
            (all_more _ _ (λ other f. not_the_name head (head_name other)
            (not_found_in (definitions true before.procedures) own (head_name other)
            (subst (λ all. procedure_in all (head_name other) ≡ None) (definitions_append before.procedures own) f)).1)
            (definitions_of others) h.new),
        rest.2,
      );
    }

-- FILES, one behind another

joined_more : (one two three : Tables) → joined (joined one two) three ≡ joined one (joined two three)
joined_more one two three =
    rw (
      append_assoc one.structures two.structures three.structures,
      append_assoc one.aliases two.aliases three.aliases,
      append_assoc
          one.procedures two.procedures three.procedures,
    ) refl

none_declared : (before : Tables) → joined before no_tables ≡ before
none_declared before = rw (append-nil before.structures, append-nil before.aliases, append-nil before.procedures) refl

items_append : (tables before : Tables) (xs ys : List Item) → (items tables before xs).refusals ≡ []
    → (items tables (joined before (declared_by xs)) ys).refusals ≡ []
    → (items tables before (xs ++ ys)).refusals ≡ []
items_append tables before [] ys e f = subst (λ b. (items tables b ys).refusals ≡ []) (none_declared before) f
items_append tables before (x ∷ xs) ys e f =
    rw (nil_left (item tables before x).refusals _ e)
    (items_append tables (joined before (declares x)) xs ys (nil_right _ _ e)
    (subst (λ b. (items tables b ys).refusals ≡ []) (sym (joined_more before (declares x) (declared_by xs))) f))

pub files_flat : (tables before : Tables) (unit : ℕ) (files : List File) → files_refusals tables before unit files ≡ []
    → (items tables before (items_of files)).refusals ≡ []
files_flat tables before unit [] e = refl
files_flat tables before unit (file ∷ files) e =
    items_append tables before file.items (items_of files)
    (nothing_mapped (in_unit unit) (items tables before file.items).refusals (nil_left _ _ e))
    (files_flat tables (joined before (declared_by file.items)) (suc unit) files (nil_right _ _ e))

-- of a program
pub record HasDefinitions (files : List File) : Type 0 where
  pub settled : AllByRecursion (IsSettled (tables_of files).procedures) (definitions_of (items_of files))
  pub distinct : Distinct (map (λ (head : Head). head.declarator.name.text) (definitions_of (items_of files)))

pub program_definitions : (files : List File) → IsWellTyped files → HasDefinitions files
program_definitions files e =
    let all = definitions_good (tables_of files) no_tables (items_of files) (files_flat (tables_of files) no_tables 0 files e) in
    record { settled = all.settled; distinct = all.distinct }
