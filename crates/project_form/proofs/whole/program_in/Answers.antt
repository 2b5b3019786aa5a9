-- The typed files are the ones that were given, and the procedures that are kept of them tell whether there are too many.
use Rattle.std.proofs.Common.{◌≡◌, suc, List, Some, None, sym, ap, ◌∙◌, subst, rules}
use Rattle.std.specs.Prelude.{All}
use Rattle.c_tree.specs.declared.items.Unit.{Unit as UnitValue}
use Rattle.c_types.specs.Typing.{files_of}
use Rattle.c_lower_rules.specs.Programs.{first_too_large, program_of}
use Rattle.c_lower.specs.Lowering.{with_first}
use Rattle.project_form.specs.Parts.{IsLowerable}
use Rattle.project_form.specs.Reads.{MOST_PROCEDURES}
use Rattle.project_form.proofs.FirstProcs.{refused-first, program-whole}
use Rattle.project_form.proofs.whole.program_in.Goals as goal

pub lowered_files-requires-clause-lowerable : goal.lowered_files-requires-clause-lowerable
lowered_files-requires-clause-lowerable c =
    subst (λ (units : List UnitValue). All IsLowerable (files_of units)) (sym c.in_ok-typed.ensures.units) c.requires.lowerable

pub returns-in-Some-clause-fault : goal.returns-in-Some-clause-fault
returns-in-Some-clause-fault c =
    let names = c.args.names.now in
    let small = ap (λ (units : List UnitValue). first_too_large (files_of units)) (sym c.in_ok-typed.ensures.units)
    ∙ c.in_ok-program.ensures.small in
    let kept = c.in_ok-program.ensures.program
    ∙ ap (λ (units : List UnitValue). with_first (suc MOST_PROCEDURES) (program_of names (files_of units))) c.in_ok-typed.ensures.units in
    let found : c.in_ok-refused.field-0 ≡ Some c.in-Some.refused = search rules in
    refused-first names (files_of c.args.units.now) c.in_ok-program.program c.in_ok-refused.field-0 c.in_ok-typed.ensures.typed small kept
    c.in_ok-refused.ensures
    ∙ found

pub returns-in-None-clause-program : goal.returns-in-None-clause-program
returns-in-None-clause-program c =
    let names = c.args.names.now in
    let small = ap (λ (units : List UnitValue). first_too_large (files_of units)) (sym c.in_ok-typed.ensures.units)
    ∙ c.in_ok-program.ensures.small in
    let kept = c.in_ok-program.ensures.program
    ∙ ap (λ (units : List UnitValue). with_first (suc MOST_PROCEDURES) (program_of names (files_of units))) c.in_ok-typed.ensures.units in
    let none : c.in_ok-refused.field-0 ≡ None = search rules in
    program-whole names (files_of c.args.units.now) c.in_ok-program.program c.in_ok-refused.field-0 c.in_ok-typed.ensures.typed small kept
    c.in_ok-refused.ensures none
