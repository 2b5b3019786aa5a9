-- The first refusal is one of the list, so that it is in one of the files.
use Rattle.std.proofs.Common.{◌≡◌, Some, length, map, arith, rules}
use Rattle.std.proofs.lemmas.List.{length-map}
use Rattle.c_tree.specs.Syntax.{unit_tree}
use Rattle.c_types.specs.Typing.{files_of}
use Rattle.c_types_rules.specs.Programs.{first_refusal}
use Rattle.project_form.proofs.Wholes.{typed-within}
use Rattle.project_form.proofs.whole.typed_files.Goals as goal

pub refused-requires : goal.refused-requires
refused-requires c =
    let files = files_of c.args.units.now in
    let is : first_refusal files ≡ Some c.in-Err-Refused.at = search rules in
    let below = typed-within c.first_refusal.ensures files c.in-Err-Refused.at is in
    let same = length-map c.args.units.now unit_tree in
    let each = c.requires.one_each in
    omega (arith, below, same, each)
