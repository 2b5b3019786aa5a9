-- What is gathered from the table is what is known of the components that the aim reaches.
use Rattle.std.proofs.Common.{◌≡◌, All, filter_map, sym, subst}
use Rattle.std.specs.Global.{Vec}
use Rattle.std.specs.declared.option.Option.{Option}
use Rattle.std.proofs.lemmas.Result.{IfOk-weaker}
use Rattle.shape_data.specs.declared.answer.Kept.{Kept}
use Rattle.call_components.specs.Reaching.{marked}
use Rattle.store_json.specs.Entries.{IsStorable}
use Rattle.loaded_answers.specs.Lookup.{lookup}
use Rattle.comp_solve.specs.Job.Solves.{solve}
use Rattle.claim_core.specs.Views.{solution_of, solutions_of}
use Rattle.bottom_up.specs.Placed.{AreRows}
use Rattle.settled_laws.specs.Laws.{aimed_known}
use Rattle.session_replies.specs.PlainAnswers.Table.{IsClosed}
use Rattle.session_replies.proofs.PlainAnswersLemmas.ComponentsByName.{same_is_closed}
use Rattle.session_replies.proofs.PlainAnswersLemmas.Storing.{entries_fit}
use Rattle.session_replies.proofs.PlainAnswersLemmas.Tabled.{gathered_in}
use Rattle.session_replies.proofs.plain_answers.answers.plain.Goals as goal

pub aimed_in-requires-clause-rows : goal.aimed_in-requires-clause-rows
aimed_in-requires-clause-rows g c =
    subst (AreRows c.args.program.now) (sym c.deref.ensures.value)
    (record { are = c.in_ok-components.ensures.are; within = c.in_ok-components.ensures.within })

pub table_of-requires-clause-rows : goal.table_of-requires-clause-rows
table_of-requires-clause-rows g c =
    subst (AreRows c.args.program.now) (sym c.deref-2.ensures.value)
    (record { are = c.in_ok-components.ensures.are; within = c.in_ok-components.ensures.within })

pub table_of-requires-clause-closed : goal.table_of-requires-clause-closed
table_of-requires-clause-closed g c =
    subst (λ l. IsClosed c.args.program.now (marked l)) (sym c.deref-3.ensures.value)
    (same_is_closed c.args.program.now c.args.aim.now (marked c.in_ok-marks.marks.items) c.in_ok-marks.ensures)

pub returns-clause-known : goal.returns-clause-known
returns-clause-known g c =
    IfOk-weaker c.entries_in.result
    (λ (kept : Vec Kept). kept.items ≡ filter_map (λ (entry : Option Kept). entry) c.in_ok-table.table.items)
    (λ (kept : Vec Kept). solutions_of kept.items ≡ aimed_known (lookup solve c.args.loaded.now) c.args.program.now c.args.aim.now)
    (λ kept is.
    gathered_in (lookup solve c.args.loaded.now) c.args.program.now c.args.aim.now c.deref-2.result.now c.in_ok-components.components.items
    c.deref-2.ensures.value
    (record {
      are = c.in_ok-components.ensures.are;
      within = c.in_ok-components.ensures.within;
    }) c.deref-3.result.now c.in_ok-marks.marks.items c.deref-3.ensures.value
    c.in_ok-marks.ensures c.in_ok-table.table.items c.in_ok-table.ensures kept.items is)
    c.entries_in.ensures

pub returns-clause-storable : goal.returns-clause-storable
returns-clause-storable g c =
    let loaded = c.args.loaded.now in
    let program = c.args.program.now in
    IfOk-weaker c.entries_in.result
    (λ (kept : Vec Kept). kept.items ≡ filter_map (λ (entry : Option Kept). entry) c.in_ok-table.table.items)
    (λ (kept : Vec Kept). All (λ (one : Kept). IsStorable (solution_of one)) kept.items)
    (λ kept is.
    entries_fit loaded program
    (c.known_is_storable.ensures loaded c.requires.loaded program c.requires.formed c.requires.sizes) c.args.aim.now kept.items
    (gathered_in (lookup solve loaded) program c.args.aim.now c.deref-2.result.now c.in_ok-components.components.items
    c.deref-2.ensures.value
    (record {
      are = c.in_ok-components.ensures.are;
      within = c.in_ok-components.ensures.within;
    }) c.deref-3.result.now c.in_ok-marks.marks.items c.deref-3.ensures.value
    c.in_ok-marks.ensures c.in_ok-table.table.items c.in_ok-table.ensures kept.items is))
    c.entries_in.ensures
