-- Each turn is one of the definition.
use Rattle.std.proofs.Common.{◌≡◌, ◌∙◌, ◌++◌, ◌<◌, ◌≤◌, ap, sym, length, arith}
use Rattle.std.specs.Prelude.{reverse}
use Rattle.std.proofs.lemmas.Result.{IfOk-weaker}
use Rattle.exec_laws.specs.Exposing.{expose, without_atom}
use Rattle.exec_cells.specs.InSetting.{setting_in}
use Rattle.exec_cells.proofs.ExposeTurns.{turned_again, turned_last, turns_end}
use Rattle.exec_cells.proofs.exposing.expose.Goals as goal

pub returns-in-Last : goal.returns-in-Last
returns-in-Last c =
    let inside : c.loop-done.done < length c.args.pair.state.heap.spatial = omega (arith, c.len-turns.ensures) in
    IfOk-weaker c.with_noted.result (λ all. all.items ≡ c.in-Last.cases.items ++ reverse c.take_turn.new.noted.items)
    (λ all. all.items ≡ expose (setting_in c.args.setting.now) c.args.kind.now c.args.slot c.args.pair)
    (λ all told. told
    ∙ sym (turned_last (setting_in c.args.setting.now) c.args.kind.now c.args.slot (length c.args.pair.state.heap.spatial) c.loop-done.done
    (expose (setting_in c.args.setting.now) c.args.kind.now c.args.slot c.args.pair)
    c.loop-done.current c.loop-done.noted.items c.take_turn.new.noted.items c.loop-done.invariant.0 c.in_ok-made.field-0
    c.in_ok-made.ensures.value inside c.in-Last.cases c.in-Last.is))
    c.with_noted.ensures

pub loop-done-preserved : goal.loop-done-preserved
loop-done-preserved c =
    let inside : c.loop-done.done < length c.args.pair.state.heap.spatial = omega (arith, c.len-turns.ensures) in (
      turned_again (setting_in c.args.setting.now) c.args.kind.now c.args.slot (length c.args.pair.state.heap.spatial) c.loop-done.done
          (expose (setting_in c.args.setting.now) c.args.kind.now c.args.slot c.args.pair)
          c.loop-done.current c.loop-done.noted.items c.take_turn.new.noted.items c.loop-done.invariant.0 c.in_ok-made.field-0
          c.in_ok-made.ensures.value inside c.in-Again.made c.in-Again.is,
      rw c.in-Again.is at c.in_ok-made.ensures.low,
    )

pub returns : goal.returns
returns c =
    let past : length c.args.pair.state.heap.spatial ≤ c.loop-done.done = omega (arith, c.len-turns.ensures) in
    IfOk-weaker c.with_noted-2.result (λ all. all.items ≡ c.in_ok-cases.cases.items ++ reverse c.loop-done.noted.items)
    (λ all. all.items ≡ expose (setting_in c.args.setting.now) c.args.kind.now c.args.slot c.args.pair)
    (λ all told. told
    ∙ (ap (λ cases. cases ++ reverse c.loop-done.noted.items)
    (c.in_ok-cases.ensures
    ∙ ap (λ e. without_atom c.args.setting.now.mode
    (setting_in c.args.setting.now) c.args.kind.now e c.loop-done.current) c.in_slot-e.ensures)
    ∙ sym (turns_end (setting_in c.args.setting.now) c.args.kind.now c.args.slot (length c.args.pair.state.heap.spatial) c.loop-done.done
    (expose (setting_in c.args.setting.now) c.args.kind.now c.args.slot c.args.pair)
    c.loop-done.current c.loop-done.noted.items c.loop-done.invariant.0 past)))
    c.with_noted-2.ensures
