-- The segment at the place has its two cases.
use Rattle.std.proofs.Common.{◌∙◌, ap, sym}
use Rattle.shape_data.specs.declared.symbolic.Atom.TheVariants.{Points, Seg, Junk}
use Rattle.exec_laws.specs.Pairs.{unless_left_out}
use Rattle.exec_cells.specs.InSetting.{setting_in}
use Rattle.exec_cells.proofs.ExposeTurns.{no_segment, segment_ends, segment_goes}
use Rattle.exec_cells.proofs.ListPlaces.{stands_there}
use Rattle.exec_cells.proofs.exposing.at_place.Goals as goal

pub returns-in-None-clause-value : goal.returns-in-None-clause-value
returns-in-None-clause-value c = λ again.
    rw c.new.ensures.items
    (segment_ends again
    (setting_in c.args.setting.now) c.args.e c.args.pair c.args.place c.in-Seg.kind c.in-Seg.link c.in-Seg.from c.in-Seg.to
    c.args.noted.now.items c.note_unfolded.new.noted.items
    (stands_there c.args.pair.state.heap.spatial c.deref.result.now c.args.place c.index-deref-place.result
    (Seg c.in-Seg.kind c.in-Seg.link c.in-Seg.from c.in-Seg.to) c.deref.ensures c.requires.place c.index-deref-place.is
    (sym c.in_ok-kind.ensures ∙ c.in-Seg.is))
    c.in_ok-note_unfolded-in-Seg.ensures (c.in_ok-emptied-in-Seg.ensures.value again ∙ ap (unless_left_out again) c.in-None.is))

pub returns-in-Seg-clause-value : goal.returns-in-Seg-clause-value
returns-in-Seg-clause-value c = λ again.
    segment_goes again
    (setting_in c.args.setting.now) c.args.e c.args.pair c.args.place c.in-Seg.kind c.in-Seg.link c.in-Seg.from c.in-Seg.to
    c.args.noted.now.items c.note_unfolded.new.noted.items
    (stands_there c.args.pair.state.heap.spatial c.deref.result.now c.args.place c.index-deref-place.result
    (Seg c.in-Seg.kind c.in-Seg.link c.in-Seg.from c.in-Seg.to) c.deref.ensures c.requires.place c.index-deref-place.is
    (sym c.in_ok-kind.ensures ∙ c.in-Seg.is))
    c.in_ok-note_unfolded-in-Seg.ensures c.in-Some.made
    (c.in_ok-emptied-in-Seg.ensures.value again ∙ ap (unless_left_out again) c.in-Some.is)

pub returns-in-Points-clause-value : goal.returns-in-Points-clause-value
returns-in-Points-clause-value c = λ again.
    no_segment again (setting_in c.args.setting.now) c.args.e c.args.pair c.args.place
    (Points c.in-Points.at c.in-Points.kind c.in-Points.fields) c.args.noted.now.items c.in_ok-lacking-in-Points.field-0.items
    (stands_there c.args.pair.state.heap.spatial c.deref.result.now c.args.place c.index-deref-place.result
    (Points c.in-Points.at c.in-Points.kind c.in-Points.fields) c.deref.ensures c.requires.place c.index-deref-place.is
    (sym c.in_ok-kind.ensures ∙ c.in-Points.is))
    tt c.in_ok-lacking-in-Points.ensures

pub returns-clause-value : goal.returns-clause-value
returns-clause-value c = λ again.
    no_segment again
    (setting_in c.args.setting.now) c.args.e c.args.pair c.args.place Junk c.args.noted.now.items c.in_ok-lacking-in-Junk.field-0.items
    (stands_there c.args.pair.state.heap.spatial c.deref.result.now c.args.place c.index-deref-place.result Junk c.deref.ensures
    c.requires.place c.index-deref-place.is
    (sym c.in_ok-kind.ensures ∙ c.in-Junk.is))
    tt c.in_ok-lacking-in-Junk.ensures
