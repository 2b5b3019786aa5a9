-- The atom at the place is a segment, or not.
use Rattle.std.proofs.Common.{◌≡◌, ◌∙◌, Some, ap, sym, slice_get}
use Rattle.std.proofs.lemmas.Result.{IfOk-weaker}
use Rattle.shape_data.specs.declared.symbolic.Atom.TheVariants.{Seg}
use Rattle.shape_data.specs.declared.symbolic.Fact.TheVariants.{Ne}
use Rattle.sym_matching.specs.declared.matching.Turned.TheVariants.{On}
use Rattle.sym_matching.specs.Steps.{miss_fact}
use Rattle.sym_matching.specs.WantedCells.{take_parted, take_unfolded}
use Rattle.sym_matching.specs.RuleSteps.InSetting.{rules_in}
use Rattle.matching.proofs.CellTurns.{not_parted, parted_goes, parted_stops, stands_there}
use Rattle.matching.proofs.missing_cells.take_parted.Goals as goal

pub returns-in-On : goal.returns-in-On
returns-in-On c =
    let is : slice_get c.args.m.left c.args.place ≡ Some (Seg c.in-Seg.kind c.in-Seg.link c.in-Seg.from c.in-Seg.to) =
    stands_there c.args.m.left c.as_slice.result.now c.args.place c.index-as_slice-place.result c.as_slice.ensures c.requires.within
    c.index-as_slice-place.is ∙ ap Some c.in-Seg.is in
    let goes : On c.in-On.n ≡ miss_fact (rules_in c.args.setting.now) c.args.number (Ne c.in-Seg.from c.in-Seg.to) c.args.m =
    sym c.in-On.is ∙ c.in_ok-n-in-Seg.ensures in
    IfOk-weaker c.take_unfolded.result
    (λ turned. turned
    ≡ take_unfolded (rules_in c.args.setting.now) c.args.number c.args.wants.now c.in-On.n c.args.place
    (slice_get c.in-On.n.left c.args.place))
    (λ turned. turned
    ≡ take_parted (rules_in c.args.setting.now) c.args.number c.args.wants.now c.args.m c.args.place (slice_get c.args.m.left c.args.place))
    (λ turned told. told
    ∙ parted_goes
    (rules_in c.args.setting.now) c.args.number c.args.wants.now c.args.m c.args.place c.in-Seg.kind c.in-Seg.link c.in-Seg.from c.in-Seg.to
    is c.in-On.n goes)
    c.take_unfolded.ensures

pub returns-in-Stuck : goal.returns-in-Stuck
returns-in-Stuck c =
    let is : slice_get c.args.m.left c.args.place ≡ Some (Seg c.in-Seg.kind c.in-Seg.link c.in-Seg.from c.in-Seg.to) =
    stands_there c.args.m.left c.as_slice.result.now c.args.place c.index-as_slice-place.result c.as_slice.ensures c.requires.within
    c.index-as_slice-place.is ∙ ap Some c.in-Seg.is in
    parted_stops
    (rules_in c.args.setting.now) c.args.number c.args.wants.now c.args.m c.args.place c.in-Seg.kind c.in-Seg.link c.in-Seg.from c.in-Seg.to
    is c.in-Stuck.stuck (sym c.in-Stuck.is ∙ c.in_ok-n-in-Seg.ensures)

pub returns-in_default : goal.returns-in_default
returns-in_default c =
    not_parted (rules_in c.args.setting.now) c.args.number c.args.wants.now c.args.m c.args.place c.index-as_slice-place.result
    (stands_there c.args.m.left c.as_slice.result.now c.args.place c.index-as_slice-place.result c.as_slice.ensures c.requires.within
    c.index-as_slice-place.is)
    c.in_default.not-Seg
