-- One syntax tree more.
use Rattle.std.proofs.Common.{◌≡◌, ◌+◌, ◌<◌, List, [], ◌∷◌, ◌++◌, length, take, slice_set, sym, ap, ◌∙◌, subst, rules}
use Rattle.std.proofs.lemmas.List.Edits.{map_over_more}
use Rattle.c_tree.specs.declared.items.Unit.{Unit as UnitValue}
use Rattle.c_tree.specs.Syntax.{unit_tree}
use Rattle.c_front.specs.Units.{IsUnitOf}
use Rattle.project_form.specs.Kept.{without_parse}
use Rattle.project_form.specs.Parts.{AreUnits}
use Rattle.project_form.proofs.Taking.{units-taken}
use Rattle.project_form.proofs.whole.take_units.Goals as goal

pub loop-file-preserved : goal.loop-file-preserved
loop-file-preserved c =
    let files = c.args.files.now in
    let so_far = c.loop-file.files in
    let place = c.loop-file.file-index in
    let one = c.file-item.result in
    let inside : place < length files = search rules in
    let without : c.take_unit.new.self ≡ without_parse one = search rules in
    let read : IsUnitOf one.file.bytes (unit_tree c.take_unit.result) = search rules in
    let more : c.push_reserved.new.self.items ≡ c.loop-file.units.items ++ c.take_unit.result ∷ [] = search rules in
    record {
      files = ap (λ f. slice_set so_far place f) without
          ∙ map_over_more without_parse files so_far place one inside c.loop-file.invariant.files c.file-item.is;
      units = subst (λ (units : List UnitValue). AreUnits (take (place + 1) files) units) (sym more)
          (units-taken files so_far c.loop-file.units.items place one c.take_unit.result inside c.loop-file.invariant.files c.file-item.is
          c.loop-file.invariant.units read);
      len = search rules;
      room = search rules;
    }
