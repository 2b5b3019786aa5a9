-- The first refusal is one of the list, so that it is in one of the files.
use Rattle.std.proofs.Common.{◌≡◌, Some, length, map, arith, rules}
use Rattle.std.proofs.lemmas.List.{length-map}
use Rattle.c_tree.specs.Syntax.{unit_tree}
use Rattle.c_types.specs.Typing.{files_of}
use Rattle.c_lower_rules.specs.Programs.{first_too_large}
use Rattle.project_form.proofs.Wholes.{lowered-within, lowerable-numbers, lowerable-fields}
use Rattle.project_form.proofs.whole.lowered_files.Goals as goal

pub lower-requires-clause-numbers : goal.lower-requires-clause-numbers
lower-requires-clause-numbers c = lowerable-numbers (files_of c.args.typed.units.now) c.requires.lowerable

pub lower-requires-clause-fields : goal.lower-requires-clause-fields
lower-requires-clause-fields c = lowerable-fields (files_of c.args.typed.units.now) c.requires.lowerable

pub refused-requires : goal.refused-requires
refused-requires c =
    let files = files_of c.args.typed.units.now in
    let is : first_too_large files ≡ Some c.in-Err-Refused.at = search rules in
    let below = lowered-within c.first_refusal.ensures files c.in-Err-Refused.at is in
    let same = length-map c.args.typed.units.now unit_tree in
    let each = c.requires.one_each in
    omega (arith, below, same, each)
