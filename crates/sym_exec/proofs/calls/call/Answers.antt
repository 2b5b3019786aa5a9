-- What the call is made with is well formed, and so are the callee's specs.
use Rattle.std.proofs.Common.{◌≡◌, ◌∙◌, ◌≤◌, ap, sym, subst, length, All, arith, ℕ}
use Rattle.std.proofs.lemmas.List.{length-map}
use Rattle.shape_data.specs.WellFormed.{IsSpec, widest}
use Rattle.sym_matching.specs.Covers.{above}
use Rattle.std.specs.Prelude.{filter, ltb}
use Rattle.exec_laws.specs.Values.{operand}
use Rattle.exec_cells.specs.InSetting.{setting_in}
use Rattle.sym_exec.proofs.CalledSpecs.{caller_is}
use Rattle.sym_exec.proofs.FoundCallees.{callee_fits}
use Rattle.sym_exec.proofs.calls.call.Goals as goal

pub call_callee-requires-clause-caller : goal.call_callee-requires-clause-caller
call_callee-requires-clause-caller c =
    let callee =
    callee_fits c.args.setting.now.structs.now c.args.setting.now.table.now c.args.callee.now c.args.args.now c.args.next c.args.to
    c.in-Some.one.now (sym c.in-Some.ensures) c.requires.table c.requires.fits in
    let few : length c.in-Some.one.now.params ≤ 32768 = callee.0.params.few in
    let same : length c.in-Some.one.now.params ≡ length c.args.args.now = callee.1 in
    caller_is (setting_in c.args.setting.now)
    (record {
      args = c.as_slice-in-Some.result;
      pair = c.args.pair;
      used = c.as_slice-in-Some-2.result;
      first = c.above_logical-first.result;
    }) c.args.args.now
    c.requires.setting c.requires.pair (c.as_slice-in-Some.ensures.value ∙ c.in_ok-list.ensures) (omega arith)
    (c.as_slice-in-Some-2.ensures.value ∙ c.in_ok-used.ensures)
    (c.above_logical-first.ensures.value
    ∙ ap (λ names. above c.args.setting.now.params (filter (λ x. ltb x 65536) names))
    (c.as_slice.ensures.value ∙ sym c.as_slice-in-Some-2.ensures.value))
    (c.above_logical-first.ensures.low (let known : c.args.setting.now.params ≤ 32768 = c.requires.setting.params in omega arith))

pub call_callee-requires-clause-specs : goal.call_callee-requires-clause-specs
call_callee-requires-clause-specs c =
    let callee =
    callee_fits c.args.setting.now.structs.now c.args.setting.now.table.now c.args.callee.now c.args.args.now c.args.next c.args.to
    c.in-Some.one.now (sym c.in-Some.ensures) c.requires.table c.requires.fits in
    let counted : length c.as_slice-in-Some.result.now ≡ length c.args.args.now =
    ap (λ list. length list) (c.as_slice-in-Some.ensures.value ∙ c.in_ok-list.ensures)
    ∙ length-map c.args.args.now (operand c.args.pair.now) in
    subst (λ (count : ℕ). All (IsSpec widest c.args.setting.now.structs.now count) c.in-Some.one.now.specs)
    (callee.1 ∙ sym counted) callee.0.specs
