-- The atom's clause.
use Rattle.std.proofs.Common.{◌≡◌, ◌∙◌, ap}
use Rattle.std.proofs.lemmas.Result.{IfOk-weaker}
use Rattle.sym_matching.specs.Reading.{read}
use Rattle.sym_matching.specs.WantedSegments.{want_segment}
use Rattle.sym_matching.specs.RuleSteps.InSetting.{rules_in}
use Rattle.matching.proofs.atoms.want_atom.Goals as goal

pub returns-in-Points : goal.returns-in-Points
returns-in-Points c = rw c.in-Points.is (rw (c.as_slice.ensures, c.read_in-e.ensures) at c.want_cell.ensures)

pub returns-in-Seg : goal.returns-in-Seg
returns-in-Seg c =
    rw c.in-Seg.is (
    IfOk-weaker c.want_segment.result
    (λ turned. turned
    ≡ want_segment (rules_in c.args.setting.now) c.args.number c.in-Seg.kind c.in-Seg.link c.read_in-e-in-Seg.result c.in-Seg.to c.args.m)
    (λ turned. turned
    ≡ want_segment (rules_in c.args.setting.now) c.args.number c.in-Seg.kind c.in-Seg.link
    (read c.args.setting.now.facts.now c.args.m.binding c.in-Seg.from) c.in-Seg.to c.args.m)
    (λ turned told. told
    ∙ ap (λ e. want_segment
    (rules_in c.args.setting.now) c.args.number c.in-Seg.kind c.in-Seg.link e c.in-Seg.to c.args.m) c.read_in-e-in-Seg.ensures)
    c.want_segment.ensures
    )
