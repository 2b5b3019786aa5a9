use Rattle.component_keys.specs.Structures.{named_by_spec}
use Rattle.composed_keys.proofs.Noted.{more_names}
use Rattle.composed_keys.proofs.structures.note_callee.Goals as goal

pub loop-spec-preserved : goal.loop-spec-preserved
loop-spec-preserved c =
    more_names c.args.structs.now named_by_spec c.as_slice-specs.result.now c.loop-spec.spec-index c.spec-item.result
    c.args.numbers.now.items c.loop-spec.numbers.items c.note_spec.new.numbers.items c.loop-spec.invariant c.loop-spec-test.true
    c.spec-item.is
    c.in_ok-note_spec.ensures
