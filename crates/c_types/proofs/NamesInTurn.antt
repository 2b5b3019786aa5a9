-- Names one by one.
use Rattle.std.proofs.Common.{◌≡◌, ℕ, ◌+◌, ◌<◌, Bool, true, false, ◌||◌, if◌then◌else◌, Option, Some, None, List, [], ◌∷◌, ◌++◌, length}
use Rattle.std.proofs.Common.{map, take, reverse, get_or, append_assoc, refl, ap, ◌∙◌, arith}
use Rattle.std.proofs.lemmas.List.{append-nil, map-append, reverse-append, take_more}
use Rattle.std.specs.Str.{bytes_eq}
use Rattle.c_grammar.specs.Trees.{Name}
use Rattle.c_types_rules.specs.Items.{is_listed, with_name}
use Rattle.c_types.specs.declared.names.Named.{Named}
use Rattle.c_types_names.specs.declared.name_set.NameSet.{NameSet}
use Rattle.c_types_names.specs.NameSets.{has}
use Rattle.c_types.specs.Names.{named_seen, names_before, Lists}

pub before-nil : names_before [] ≡ []
unfolding names_before
before-nil = refl

pub before_more : (names : List Named) (i : ℕ) (d : Named) → i < length names
    → names_before (take (i + 1) names) ≡ named_seen (get_or names i d) ∷ names_before (take i names)
unfolding names_before
before_more names i d within =
    ap (λ xs. reverse (map named_seen xs)) (take_more names i d within)
    ∙ ap reverse (map-append named_seen (take i names) (get_or names i d ∷ []))
    ∙ reverse-append (map named_seen (take i names)) (named_seen (get_or names i d) ∷ [])

pub ruleset naming = (before-nil, before_more)

pub with_name-append : (n : Option Name) (names : List Name) → with_name n names ≡ with_name n [] ++ names
with_name-append None names = refl
with_name-append (Some n) names = refl

pub ruleset pushing = (append_assoc, append-nil, with_name-append)

-- SETS

pub lists_none : (set : NameSet) → ((n : List ℕ) → has set n ≡ false) → Lists set []
lists_none set none = record { same = λ n. none n.text }

pub lists_more : (set more : NameSet) (names : List Name) (n : Name) → Lists set names
    → ((m : List ℕ) → has more m ≡ (bytes_eq n.text m || has set m)) → Lists more (n ∷ names)
lists_more set more names n h goes =
    record { same = λ m. goes m.text ∙ by_test (bytes_eq n.text m.text) (has set m.text) (is_listed names m) (h.same m) }
  where
    by_test : (b x y : Bool) → x ≡ y → (b || x) ≡ (if b then true else y)
    by_test true x y e = refl
    by_test false x y e = e
