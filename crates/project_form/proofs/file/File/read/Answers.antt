-- A tree that is kept, or that was just read, is one of the bytes.
use Rattle.std.proofs.Common.{◌≡◌, true, subst, rules}
use Rattle.std.specs.Prelude.{is_some}
use Rattle.c_tree.specs.Syntax.{unit_tree}
use Rattle.c_front.specs.Units.{IsUnitOf}
use Rattle.project_form.specs.Kept.{KeptFile, HasUnit}
use Rattle.project_form.proofs.Units.{kept-HasUnit}
use Rattle.project_form.proofs.file.File.read.Goals as goal

pub returns-then-is_some-clause-unit : goal.returns-then-is_some-clause-unit
returns-then-is_some-clause-unit c =
    let kept : is_some c.self.inside.unit ≡ true = search rules in
    subst (λ (file : KeptFile). HasUnit file.file.bytes) c.self.view_is
    (kept-HasUnit c.self.inside.bytes.items c.self.inside.unit kept c.self.invariant.0)

pub returns-clause-unit : goal.returns-clause-unit
returns-clause-unit c =
    let same : c.as_slice.result.now ≡ c.args.self.now.file.bytes = search rules in
    (unit_tree c.in_ok-unit.unit, subst (λ bytes. IsUnitOf bytes (unit_tree c.in_ok-unit.unit)) same c.in_ok-unit.ensures.unit)
