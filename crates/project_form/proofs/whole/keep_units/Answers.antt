-- One syntax tree less.
use Rattle.std.proofs.Common.{◌≡◌, ◌<◌, ◌∷◌, length, slice_set, ap, ◌∙◌, rules}
use Rattle.std.specs.Vec.Iter.{into_iter_items}
use Rattle.std.proofs.lemmas.List.Edits.{map_over_more}
use Rattle.project_form.specs.Kept.{with_parse}
use Rattle.project_form.proofs.Taking.{units-left}
use Rattle.project_form.proofs.whole.keep_units.Goals as goal

pub loop-file-preserved : goal.loop-file-preserved
loop-file-preserved c =
    let files = c.args.files.now in
    let so_far = c.loop-file.files in
    let place = c.loop-file.file-index in
    let one = c.file-item.result in
    let inside : place < length files = search rules in
    let kept : c.keep_unit.new.self ≡ with_parse one = search rules in
    let next : into_iter_items c.loop-file.units ≡ c.in-Some.unit ∷ into_iter_items c.next.new.self = search rules in
    record {
      files = ap (λ f. slice_set so_far place f) kept
          ∙ map_over_more with_parse files so_far place one inside c.loop-file.invariant.files c.file-item.is;
      units =
          units-left files (into_iter_items c.loop-file.units)
          (into_iter_items c.next.new.self) place one c.in-Some.unit inside next c.loop-file.invariant.units;
    }
