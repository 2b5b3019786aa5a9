-- Without a cell the turn is at the first segment, if there is one.
use Rattle.std.proofs.Common.{◌≡◌, ◌∙◌, ◌++◌, ap, sym, false, None, Some, position, List}
use Rattle.std.specs.List.{list_any}
use Rattle.std.specs.Prelude.{reverse, slice_get}
use Rattle.std.proofs.lemmas.Result.{IfOk-weaker}
use Rattle.shape_data.specs.declared.symbolic.Exp.{Exp}
use Rattle.sym_canon.specs.declared.parts.Pair.{Pair}
use Rattle.sym_canon.specs.Placing.{is_cell_at, is_segment_from}
use Rattle.exec_laws.specs.declared.parts.Exposed.{Exposed}
use Rattle.exec_laws.specs.Exposing.{cases_of_segment, without_atom}
use Rattle.exec_laws.specs.Pairs.{atoms_of, in_slot}
use Rattle.exec_cells.specs.InSetting.{setting_in}
use Rattle.exec_cells.specs.Turns.{cases_after, turn_of}
use Rattle.exec_cells.proofs.ExposeTurns.{turn_at, turn_without}
use Rattle.exec_cells.proofs.exposing.take_turn.Goals as goal

pub returns-in_ok-without_atom-in-None-clause-value : goal.returns-in_ok-without_atom-in-None-clause-value
returns-in_ok-without_atom-in-None-clause-value c =
    let pair : Pair = c.args.pair in
    let absent : list_any (is_cell_at (in_slot pair c.args.slot)) (atoms_of pair) ≡ false =
    ap (λ (e : Exp). list_any (is_cell_at e) (atoms_of pair)) (sym c.in_slot-e.ensures)
    ∙ (ap (λ atoms. list_any (is_cell_at c.in_slot-e.result) atoms) (sym c.as_slice.ensures)
    ∙ (sym c.has_cell.ensures ∙ c.if-has_cell.false)) in
    let none : position (is_segment_from (in_slot pair c.args.slot)) (atoms_of pair) ≡ None =
    ap (λ (e : Exp). position (is_segment_from e) (atoms_of pair)) (sym c.in_slot-e.ensures)
    ∙ (ap (λ atoms. position (is_segment_from c.in_slot-e.result) atoms) (sym c.as_slice-2.ensures)
    ∙ (sym c.place_of_segment.ensures.first ∙ c.in-None.is)) in
    λ again. ap (λ cases. cases ++ reverse c.args.noted.now.items)
    (turn_without again (setting_in c.args.setting.now) c.args.kind.now c.args.slot pair absent none
    ∙ (ap (λ (e : Exp). without_atom c.args.setting.now.mode (setting_in c.args.setting.now) c.args.kind.now e pair)
    (sym c.in_slot-e.ensures) ∙ sym c.in_ok-without_atom-in-None.ensures))

pub returns-in-Some-clause-value : goal.returns-in-Some-clause-value
returns-in-Some-clause-value c =
    let pair : Pair = c.args.pair in
    let absent : list_any (is_cell_at (in_slot pair c.args.slot)) (atoms_of pair) ≡ false =
    ap (λ (e : Exp). list_any (is_cell_at e) (atoms_of pair)) (sym c.in_slot-e.ensures)
    ∙ (ap (λ atoms. list_any (is_cell_at c.in_slot-e.result) atoms) (sym c.as_slice.ensures)
    ∙ (sym c.has_cell.ensures ∙ c.if-has_cell.false)) in
    let some : position (is_segment_from (in_slot pair c.args.slot)) (atoms_of pair) ≡ Some c.in-Some.place =
    ap (λ (e : Exp). position (is_segment_from e) (atoms_of pair)) (sym c.in_slot-e.ensures)
    ∙ (ap (λ atoms. position (is_segment_from c.in_slot-e.result) atoms) (sym c.as_slice-2.ensures)
    ∙ (sym c.place_of_segment.ensures.first ∙ c.in-Some.is)) in
    IfOk-weaker c.at_place.result
    (λ turn. (again : Pair → List Exposed)
    → cases_of_segment again (setting_in c.args.setting.now) c.in_slot-e.result pair c.in-Some.place
    (slice_get (atoms_of pair) c.in-Some.place) ++ reverse c.args.noted.now.items
    ≡ cases_after again turn ++ reverse c.at_place.new.noted.items)
    (λ turn. (again : Pair → List Exposed)
    → turn_of again (setting_in c.args.setting.now) c.args.kind.now c.args.slot pair ++ reverse c.args.noted.now.items
    ≡ cases_after again turn ++ reverse c.at_place.new.noted.items)
    (λ turn told again.
    ap (λ cases. cases ++ reverse c.args.noted.now.items)
    (turn_at again (setting_in c.args.setting.now) c.args.kind.now c.args.slot pair absent c.in-Some.place some
    ∙ ap (λ (e : Exp). cases_of_segment again (setting_in c.args.setting.now) e pair c.in-Some.place
    (slice_get (atoms_of pair) c.in-Some.place)) (sym c.in_slot-e.ensures))
    ∙ told again)
    c.at_place.ensures.value
