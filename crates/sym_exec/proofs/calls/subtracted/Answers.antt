-- The arguments of the subtraction are within the sizes, and the fit is the definition's.
use Rattle.std.proofs.Common.{◌∙◌, ap, sym, length, subst}
use Rattle.exec_cells.specs.InSetting.{setting_in}
use Rattle.sym_matching.specs.Matches.{subtract_avoiding}
use Rattle.sym_matching.specs.Renaming.Sizes.{AreSmall, IsSmallBinding}
use Rattle.sym_exec.proofs.CalledSpecs.{called_within, heap_within, pre_within, subtracted_roomy, subtracted_some}
use Rattle.sym_exec.proofs.calls.subtracted.Goals as goal

pub called_pre-requires-clause-pre : goal.called_pre-requires-clause-pre
called_pre-requires-clause-pre c =
    pre_within (setting_in c.args.setting.now) c.args.caller.now c.requires.caller
    (length c.args.caller.now.args.now) c.args.spec.now c.requires.spec

pub subtract_avoiding-requires-clause-a : goal.subtract_avoiding-requires-clause-a
subtract_avoiding-requires-clause-a c =
    heap_within (setting_in c.args.setting.now) c.args.caller.now c.requires.caller
    (length c.args.caller.now.args.now) c.args.spec.now c.requires.spec

pub subtract_avoiding-requires-clause-b : goal.subtract_avoiding-requires-clause-b
subtract_avoiding-requires-clause-b c =
    (called_within (setting_in c.args.setting.now) c.args.caller.now c.requires.caller
    (length c.args.caller.now.args.now) c.args.spec.now c.requires.spec c.in_ok-called.called c.in_ok-called.ensures.value).pre

pub subtract_avoiding-requires-clause-bound : goal.subtract_avoiding-requires-clause-bound
subtract_avoiding-requires-clause-bound c =
    subst (λ binding. IsSmallBinding binding) (sym c.as_slice.ensures)
    (called_within (setting_in c.args.setting.now) c.args.caller.now c.requires.caller
    (length c.args.caller.now.args.now) c.args.spec.now c.requires.spec c.in_ok-called.called c.in_ok-called.ensures.value).bound

pub subtract_avoiding-requires-clause-flexible : goal.subtract_avoiding-requires-clause-flexible
subtract_avoiding-requires-clause-flexible c =
    subst (λ names. AreSmall names) (sym c.as_slice-2.ensures)
    (called_within (setting_in c.args.setting.now) c.args.caller.now c.requires.caller
    (length c.args.caller.now.args.now) c.args.spec.now c.requires.spec c.in_ok-called.called c.in_ok-called.ensures.value).flexible

pub returns-clause-value : goal.returns-clause-value
returns-clause-value c =
    subtracted_some c.args.caller.now.args.now c.args.caller.now.pair.now c.args.spec.now c.args.caller.now.used.now c.in_ok-called.called
    c.requires.caller.used c.in_ok-called.ensures.value
    c.in_ok-subtract_avoiding.field-0
    (c.in_ok-subtract_avoiding.ensures
    ∙ (ap (λ bound. subtract_avoiding c.args.caller.now.pair.now.state.heap c.in_ok-called.called.pre bound c.as_slice-2.result.now
    c.args.caller.now.used.now) c.as_slice.ensures
    ∙ ap (λ flexible. subtract_avoiding c.args.caller.now.pair.now.state.heap c.in_ok-called.called.pre c.in_ok-called.called.bound flexible
    c.args.caller.now.used.now) c.as_slice-2.ensures))
    c.in-Match.frame c.in_ok-copy_of-in-Match.field-0 c.in-Match.binding c.as_slice-in-Match.result.now c.in-Match.is
    c.in_ok-copy_of-in-Match.ensures c.as_slice-in-Match.ensures

pub returns-clause-room : goal.returns-clause-room
returns-clause-room c =
    subtracted_roomy (setting_in c.args.setting.now) c.args.caller.now c.requires.caller
    (length c.args.caller.now.args.now) c.args.spec.now c.requires.spec c.fits_are_within.ensures.subtracted
    (record {
      missing = c.in_ok-copy_of-in-Match.field-0;
      frame = c.in-Match.frame;
      apart = c.in_ok-called.called.numbers;
      binding = c.in-Match.binding;
      posts = c.as_slice-in-Match.result;
    })
    (subtracted_some c.args.caller.now.args.now c.args.caller.now.pair.now c.args.spec.now c.args.caller.now.used.now c.in_ok-called.called
    c.requires.caller.used c.in_ok-called.ensures.value
    c.in_ok-subtract_avoiding.field-0
    (c.in_ok-subtract_avoiding.ensures
    ∙ (ap (λ bound. subtract_avoiding c.args.caller.now.pair.now.state.heap c.in_ok-called.called.pre bound c.as_slice-2.result.now
    c.args.caller.now.used.now) c.as_slice.ensures
    ∙ ap (λ flexible. subtract_avoiding c.args.caller.now.pair.now.state.heap c.in_ok-called.called.pre c.in_ok-called.called.bound flexible
    c.args.caller.now.used.now) c.as_slice-2.ensures))
    c.in-Match.frame c.in_ok-copy_of-in-Match.field-0 c.in-Match.binding c.as_slice-in-Match.result.now c.in-Match.is
    c.in_ok-copy_of-in-Match.ensures c.as_slice-in-Match.ensures)
    c.as_slice-in-Match.ensures
