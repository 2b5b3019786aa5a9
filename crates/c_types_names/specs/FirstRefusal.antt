-- The first refusal of those that were found so far.
use Rattle.std.specs.Prelude.{Option, Some, None, List, [], ◌∷◌}
use Rattle.c_grammar.specs.declared.tokens.places.Refusal.{Refusal}
use Rattle.c_types_rules.specs.declared.at.At.{At}
use Rattle.c_types_rules.specs.Programs.{is_no_later, first_by, in_unit}
use Rattle.c_types_names.specs.declared.first_refusal.FirstRefusal.{FirstRefusal}

-- the first of what was found first and of one more
abbrev pub least : Option At → At → Option At
least None one = Some one
least (Some found) one = Some (first_by (is_no_later found one) found one)

-- with one more refusal
abbrev pub with_refusal : FirstRefusal → Refusal → FirstRefusal
with_refusal first one = record first { found = least first.found (in_unit first.unit one) }

-- with more refusals
unfoldable pub with_refusals : FirstRefusal → List Refusal → FirstRefusal
with_refusals first [] = first
with_refusals first (one ∷ others) = with_refusals (with_refusal first one) others

-- the first of what was found before and of more
unfoldable pub first_with : Option At → List At → Option At
first_with found [] = found
first_with found (one ∷ others) = first_with (least found one) others
