-- The definitions among procedures, one by one.
use Rattle.std.proofs.Common.{◌≡◌, ℕ, Bool, true, false, ◌&&◌, List, [], ◌∷◌, ◌++◌, map, option_map, Option, Some, if◌then◌else◌, refl}
use Rattle.std.specs.Str.{bytes_eq}
use Rattle.c_types_rules.specs.Tables.{Procedure, procedure_in}
use Rattle.c_types_rules.specs.Items.{same_bool, definitions}
use Rattle.c_types_names.specs.declared.declared.Procedure as declared
use Rattle.c_types_names.specs.Seen.{procedure_seen}
use Rattle.c_types_names.specs.NameMap.{or_first}
use Rattle.c_types_names.proofs.Noting.{one_more}

by_tests : (defined : Bool) (first : Procedure) (others : List Procedure) (n : List ℕ)
    → procedure_in (if defined then first ∷ others else others) n
    ≡ (if defined && bytes_eq first.head.declarator.name.text n then Some first else procedure_in others n)
by_tests true first others n = refl
by_tests false first others n = refl

pub definition_step : (wanted : Bool) (first : Procedure) (others : List Procedure) (n : List ℕ)
    → procedure_in (definitions wanted (first ∷ others)) n
    ≡ (if same_bool first.defines wanted && bytes_eq first.head.declarator.name.text n then Some first
    else procedure_in (definitions wanted others) n)
definition_step wanted first others n = by_tests (same_bool first.defines wanted) first (definitions wanted others) n

pub definition_more : (wanted : Bool) (n : List ℕ) (before after : Option declared.Procedure) (xs : List declared.Procedure)
    (x : declared.Procedure)
    → option_map procedure_seen before ≡ procedure_in (definitions wanted (map procedure_seen xs)) n
    → after ≡ or_first before (same_bool (procedure_seen x).defines wanted && bytes_eq (procedure_seen x).head.declarator.name.text n) x
    → option_map procedure_seen after ≡ procedure_in (definitions wanted (map procedure_seen (xs ++ x ∷ []))) n
definition_more wanted n =
    one_more procedure_seen (λ y. same_bool y.defines wanted && bytes_eq y.head.declarator.name.text n)
    (λ ys. procedure_in (definitions wanted ys) n) refl (λ y ys. definition_step wanted y ys n)
