-- The arguments of the abduction are within the sizes, and the fit is the definition's.
use Rattle.std.proofs.Common.{◌∙◌, ap, sym, length, subst}
use Rattle.exec_cells.specs.InSetting.{setting_in}
use Rattle.sym_matching.specs.Matches.{biabduce_avoiding}
use Rattle.sym_matching.specs.Steps.{contradicts}
use Rattle.sym_matching.specs.Renaming.Sizes.{AreSmall, IsSmallBinding}
use Rattle.sym_exec.proofs.CalledSpecs.{called_within, found_clashes, found_roomy, found_some, heap_within, pre_within}
use Rattle.sym_exec.proofs.calls.found.Goals as goal

pub called_pre-requires-clause-pre : goal.called_pre-requires-clause-pre
called_pre-requires-clause-pre c =
    pre_within (setting_in c.args.setting.now) c.args.caller.now c.requires.caller
    (length c.args.caller.now.args.now) c.args.spec.now c.requires.spec

pub biabduce_avoiding-requires-clause-a : goal.biabduce_avoiding-requires-clause-a
biabduce_avoiding-requires-clause-a c =
    heap_within (setting_in c.args.setting.now) c.args.caller.now c.requires.caller
    (length c.args.caller.now.args.now) c.args.spec.now c.requires.spec

pub biabduce_avoiding-requires-clause-b : goal.biabduce_avoiding-requires-clause-b
biabduce_avoiding-requires-clause-b c =
    (called_within (setting_in c.args.setting.now) c.args.caller.now c.requires.caller
    (length c.args.caller.now.args.now) c.args.spec.now c.requires.spec c.in_ok-called.called c.in_ok-called.ensures.value).pre

pub biabduce_avoiding-requires-clause-bound : goal.biabduce_avoiding-requires-clause-bound
biabduce_avoiding-requires-clause-bound c =
    subst (λ binding. IsSmallBinding binding) (sym c.as_slice.ensures)
    (called_within (setting_in c.args.setting.now) c.args.caller.now c.requires.caller
    (length c.args.caller.now.args.now) c.args.spec.now c.requires.spec c.in_ok-called.called c.in_ok-called.ensures.value).bound

pub biabduce_avoiding-requires-clause-flexible : goal.biabduce_avoiding-requires-clause-flexible
biabduce_avoiding-requires-clause-flexible c =
    subst (λ names. AreSmall names) (sym c.as_slice-2.ensures)
    (called_within (setting_in c.args.setting.now) c.args.caller.now c.requires.caller
    (length c.args.caller.now.args.now) c.args.spec.now c.requires.spec c.in_ok-called.called c.in_ok-called.ensures.value).flexible

pub returns-then-branch-clause-value : goal.returns-then-branch-clause-value
returns-then-branch-clause-value c =
    found_clashes c.args.caller.now.args.now c.args.caller.now.pair.now c.args.spec.now c.args.caller.now.used.now c.in_ok-called.called
    c.requires.caller.used c.in_ok-called.ensures.value
    (setting_in c.args.setting.now) c.args.caller.now.first c.requires.caller.first c.in_ok-biabduce_avoiding.field-0
    (c.in_ok-biabduce_avoiding.ensures.value
    ∙ (ap (λ bound. biabduce_avoiding c.args.caller.now.pair.now.state.heap c.in_ok-called.called.pre bound c.as_slice-2.result.now
    c.args.caller.now.first c.args.caller.now.used.now) c.as_slice.ensures
    ∙ ap (λ flexible. biabduce_avoiding c.args.caller.now.pair.now.state.heap c.in_ok-called.called.pre c.in_ok-called.called.bound flexible
    c.args.caller.now.first c.args.caller.now.used.now) c.as_slice-2.ensures))
    c.in-Found.missing c.in-Found.frame c.in-Found.binding c.in-Found.is
    (ap (λ heap. contradicts heap) (sym (c.in_ok-copy_of-in-Found.ensures ∙ c.in_ok-all-in-Found.ensures))
    ∙ (sym c.in_ok-contradicts-in-Found.ensures ∙ c.if-branch.true))

pub returns-clause-value : goal.returns-clause-value
returns-clause-value c =
    found_some c.args.caller.now.args.now c.args.caller.now.pair.now c.args.spec.now c.args.caller.now.used.now c.in_ok-called.called
    c.requires.caller.used c.in_ok-called.ensures.value
    (setting_in c.args.setting.now) c.args.caller.now.first c.requires.caller.first c.in_ok-biabduce_avoiding.field-0
    (c.in_ok-biabduce_avoiding.ensures.value
    ∙ (ap (λ bound. biabduce_avoiding c.args.caller.now.pair.now.state.heap c.in_ok-called.called.pre bound c.as_slice-2.result.now
    c.args.caller.now.first c.args.caller.now.used.now) c.as_slice.ensures
    ∙ ap (λ flexible. biabduce_avoiding c.args.caller.now.pair.now.state.heap c.in_ok-called.called.pre c.in_ok-called.called.bound flexible
    c.args.caller.now.first c.args.caller.now.used.now) c.as_slice-2.ensures))
    c.in-Found.missing c.in-Found.frame c.in_ok-all-in-Found.all c.in-Found.binding c.as_slice-in-Found.result.now c.in-Found.is
    (ap (λ heap. contradicts heap) (sym (c.in_ok-copy_of-in-Found.ensures ∙ c.in_ok-all-in-Found.ensures))
    ∙ (sym c.in_ok-contradicts-in-Found.ensures ∙ c.if-branch.false))
    c.in_ok-all-in-Found.ensures c.as_slice-in-Found.ensures

pub returns-clause-room : goal.returns-clause-room
returns-clause-room c =
    found_roomy (setting_in c.args.setting.now) c.args.caller.now c.requires.caller
    (length c.args.caller.now.args.now) c.args.spec.now c.requires.spec c.fits_are_within.ensures.found
    (record {
      missing = c.in_ok-all-in-Found.all;
      frame = c.in-Found.frame;
      apart = c.in_ok-called.called.numbers;
      binding = c.in-Found.binding;
      posts = c.as_slice-in-Found.result;
    })
    (found_some c.args.caller.now.args.now c.args.caller.now.pair.now c.args.spec.now c.args.caller.now.used.now c.in_ok-called.called
    c.requires.caller.used c.in_ok-called.ensures.value
    (setting_in c.args.setting.now) c.args.caller.now.first c.requires.caller.first c.in_ok-biabduce_avoiding.field-0
    (c.in_ok-biabduce_avoiding.ensures.value
    ∙ (ap (λ bound. biabduce_avoiding c.args.caller.now.pair.now.state.heap c.in_ok-called.called.pre bound c.as_slice-2.result.now
    c.args.caller.now.first c.args.caller.now.used.now) c.as_slice.ensures
    ∙ ap (λ flexible. biabduce_avoiding c.args.caller.now.pair.now.state.heap c.in_ok-called.called.pre c.in_ok-called.called.bound flexible
    c.args.caller.now.first c.args.caller.now.used.now) c.as_slice-2.ensures))
    c.in-Found.missing c.in-Found.frame c.in_ok-all-in-Found.all c.in-Found.binding c.as_slice-in-Found.result.now c.in-Found.is
    (ap (λ heap. contradicts heap) (sym (c.in_ok-copy_of-in-Found.ensures ∙ c.in_ok-all-in-Found.ensures))
    ∙ (sym c.in_ok-contradicts-in-Found.ensures ∙ c.if-branch.false))
    c.in_ok-all-in-Found.ensures c.as_slice-in-Found.ensures)
    c.as_slice-in-Found.ensures
