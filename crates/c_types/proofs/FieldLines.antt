-- Declarations of fields, one by one.
use Rattle.std.proofs.Common.{◌≡◌, Option, Some, None, List, [], map, option_map, append_assoc, refl, ap}
use Rattle.std.proofs.lemmas.List.{append-nil}
use Rattle.c_grammar.specs.declared.tokens.places.Refusal.{Refusal}
use Rattle.c_grammar.specs.Trees.{Name, Fields}
use Rattle.c_types_rules.specs.Types.{unless, DIFFERS}
use Rattle.c_types_rules.specs.Tables.{Tables, Structure, FieldKind, field_kinds}
use Rattle.c_types_rules.specs.Items.{same_fields, repeated_refusals}
use Rattle.c_types_names.specs.StructFields.{DeclaredTree, fields_of, kind_of_declared}
use Rattle.c_types_names.proofs.Fields.{kinds_declared}
use Rattle.c_types_names.proofs.FirstRefusals.{with_refusals-nil, with_refusals-append}

pub ruleset lining = (with_refusals-nil, with_refusals-append, append_assoc, append-nil)

-- what is refused where a structure of the tag has these fields, if there is one before
abbrev pub repeated_by : Tables → Option (List DeclaredTree) → Name → List Fields → List Refusal
repeated_by tables None tag lines = []
repeated_by tables (Some fields) tag lines =
    unless (same_fields (map (kind_of_declared tables) fields) (field_kinds tables lines)) tag.place DIFFERS

pub repeated_is : (tables : Tables) (found : Option Structure) (tag : Name) (lines : List Fields)
    → repeated_by tables (option_map fields_of found) tag lines ≡ repeated_refusals tables found tag lines
repeated_is tables None tag lines = refl
repeated_is tables (Some one) tag lines =
    ap (λ (kinds : List FieldKind). unless (same_fields kinds (field_kinds tables lines)) tag.place DIFFERS)
    (kinds_declared tables one.lines)
