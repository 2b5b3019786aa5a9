-- One row after the other finds its component; what no row is left for has none. A key that fitted is composed over the same structures.
use Rattle.std.proofs.Common.{◌≡◌, ◌+◌, ◌∙◌, length, slice_index_or, sym, ap, subst, Some, None, arith}
use Rattle.std.specs.Option.{option_copied}
use Rattle.component_keys.specs.Keys.{names_of, program_components}
use Rattle.component_keys.proofs.Basics.{some_same}
use Rattle.claim_core.specs.Told.{events_of}
use Rattle.claim_laws.specs.Logs.{replay}
use Rattle.shape_data.specs.declared.answer.Key.{Key}
use Rattle.shape_data.specs.declared.program.Program.{Program}
use Rattle.summary_book.specs.declared.rows.SlotRow.{SlotRow}
use Rattle.summary_book.specs.Places.{key_at}
use Rattle.summary_book.specs.Rows.{is_fit_at, place_named}
use Rattle.summary_book.proofs.Events.{not_both}
use Rattle.summary_book.proofs.Revised.{AreFound, found_all, found_here, found_none, slot_composed}
use Rattle.summary_book.proofs.meeting.slots_in.Goals.{else-same, in-Some-here, in_default-here, then-same}
use Rattle.summary_book.proofs.meeting.slots_in.Goals as goal

pub locate-requires-clause-composed : goal.locate-requires-clause-composed
locate-requires-clause-composed c = λ t.
    elim c.if-same.branch [
      | then-same w ↦
          slot_composed c.args.log.now c.args.old.now c.args.slots.now c.requires.sight c.args.new.now.program.value
          (ap (λ (p : Program). p.structs) (sym c.deref.ensures) ∙ c.is_same-same.ensures.0 w.if-same.true
          ∙ ap (λ (p : Program). p.structs) c.deref-2.ensures) c.loop-place.place c.in-Some.row
          c.in-Some-key_at.key.now c.loop-place-test.true (sym c.slot_at.ensures ∙ c.in-Some.is)
          (sym c.key_at.ensures ∙ ap option_copied c.in-Some-key_at.is) (sym w.locate-is ∙ t)
      | else-same w ↦ not_both t (w.locate-is ∙ w.if-same.false)
    ]

pub loop-place-preserved : goal.loop-place-preserved
loop-place-preserved c =
    let log = c.args.log.now in
    let program = c.args.new.now.program.value in
    let row = c.in-Some.row in
    let key = c.in-Some-key_at.key.now in
    let row_is : slice_index_or c.args.slots.now c.loop-place.place None ≡ Some row = sym c.slot_at.ensures ∙ c.in-Some.is in
    let key_is : key_at log row.claimed ≡ Some key = sym c.key_at.ensures ∙ ap option_copied c.in-Some-key_at.is in
    elim c.match-at.branch [
      | in-Some-here w ↦
          subst (λ l. AreFound log (replay (events_of log)).slots program c.args.slots.now l (c.loop-place.place + 1))
          (sym (ap (λ v. v.items) w.kept-is))
          (found_here log c.args.old.now.program.value program c.args.slots.now c.loop-place.kept.items c.loop-place.place
          c.requires.sight.program_is c.requires.sight.slots_are c.loop-place.invariant row key
          c.loop-place-test.true row_is key_is w.in-Some-here.here c.in_ok-at.at.fits (sym c.in_ok-at.ensures.here ∙ w.in-Some-here.is)
          (c.in_ok-at.ensures.fits ∙ ap (λ o. is_fit_at program o key) w.in-Some-here.is))
      | in_default-here w ↦
          subst (λ l. AreFound log (replay (events_of log)).slots program c.args.slots.now l (c.loop-place.place + 1))
          (sym (ap (λ v. v.items) w.kept-is))
          (found_none log
          (replay (events_of log)).slots program c.args.slots.now c.loop-place.kept.items c.loop-place.place c.loop-place.invariant
          (λ one its is its_is.
          let row_same : one ≡ row = some_same (sym is ∙ row_is) in
          let key_same : its ≡ key = some_same (sym its_is ∙ ap (λ (r : SlotRow). key_at log r.claimed) row_same ∙ key_is) in
          ap (λ (k : Key). place_named (program_components program) (names_of k.procs)) key_same ∙ sym c.in_ok-at.ensures.here
          ∙ w.in_default-here.is))
    ]

pub returns : goal.returns
returns c =
    let past = c.loop-place-test.false in
    let most = c.loop-place.auto.place-end in
    let end : c.loop-place.place ≡ length c.args.slots.now = omega (arith, past, most) in
    found_all c.args.log.now c.args.new.now.program.value c.args.slots.now c.loop-place.kept.items c.requires.sight.slots_are
    (subst (AreFound c.args.log.now
    (replay (events_of c.args.log.now)).slots c.args.new.now.program.value c.args.slots.now c.loop-place.kept.items) end
    c.loop-place.invariant)
