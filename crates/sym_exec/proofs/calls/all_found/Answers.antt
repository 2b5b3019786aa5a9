-- Each spec is found with a fit, or passed over.
use Rattle.std.proofs.Common.{◌∙◌, ap, sym, subst, All}
use Rattle.std.specs.List.{filter_map}
use Rattle.std.specs.Option.{option_map as map_option}
use Rattle.std.proofs.lemmas.List.Elements.{All-push}
use Rattle.exec_laws.specs.Calling.{found}
use Rattle.sym_exec.specs.Callers.{IsRoomy, fit_in}
use Rattle.exec_cells.specs.InSetting.{setting_in}
use Rattle.sym_exec.proofs.CalledSpecs.{all_more, all_passed, found_one}
use Rattle.sym_exec.proofs.calls.all_found.Goals.{in-Some+in_ok-push-in-Some, in-None}
use Rattle.sym_exec.proofs.calls.all_found.Goals as goal

pub loop-spec-preserved : goal.loop-spec-preserved
loop-spec-preserved c =
    elim c.match-branch-2.branch [
      | in-Some+in_ok-push-in-Some w ↦ rw w.fits-is (
        all_more (found
            (setting_in c.args.setting.now) c.args.caller.now.args.now c.args.caller.now.pair.now) c.args.specs.now c.loop-spec.spec-index
            c.spec-item.result c.loop-spec.fits.items
            (filter_map (found
            (setting_in c.args.setting.now) c.args.caller.now.args.now c.args.caller.now.pair.now) c.args.specs.now) c.loop-spec-test.true
            c.spec-item.is c.loop-spec.invariant.0
            w.in-Some.fit w.push.new.self.items
            (ap (λ fit. map_option fit_in fit) (sym w.in-Some.is) ∙ c.in_ok-fit.ensures.value) w.in_ok-push-in-Some.ensures.items,
        subst (λ fits. All (IsRoomy c.args.caller.now) fits) (sym w.in_ok-push-in-Some.ensures.items)
            (All-push (IsRoomy c.args.caller.now) c.loop-spec.fits.items w.in-Some.fit c.loop-spec.invariant.1
            (found_one c.args.caller.now c.in_ok-fit.field-0 w.in-Some.fit w.in-Some.is c.in_ok-fit.ensures.room)),
      )
      | in-None w ↦ rw w.fits-is (
        all_passed (found
            (setting_in c.args.setting.now) c.args.caller.now.args.now c.args.caller.now.pair.now) c.args.specs.now c.loop-spec.spec-index
            c.spec-item.result c.loop-spec.fits.items
            (filter_map (found
            (setting_in c.args.setting.now) c.args.caller.now.args.now c.args.caller.now.pair.now) c.args.specs.now) c.loop-spec-test.true
            c.spec-item.is c.loop-spec.invariant.0
            (ap (λ fit. map_option fit_in fit) (sym w.in-None.is) ∙ c.in_ok-fit.ensures.value),
        c.loop-spec.invariant.1,
      )
    ]
