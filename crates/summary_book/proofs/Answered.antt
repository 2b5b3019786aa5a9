-- A claim that is answered.
use Rattle.std.proofs.Common.{◌≡◌, ℕ, ◌+◌, ◌<◌, Bool, true, false, IfSome, is_some, List, length, get_or, Some, None, Option, refl, sym, ap}
use Rattle.std.proofs.Common.{◌∙◌, subst, arith}
use Rattle.std.specs.Global.{Vec}
use Rattle.std.specs.List.{remove}
use Rattle.std.specs.Vec.{vec_len, vec_capacity}
use Rattle.std.proofs.lemmas.Option.{get_or_from_slice_get, slice_get_within}
use Rattle.shape_data.specs.declared.answer.Answer.{Answer}
use Rattle.shape_data.specs.declared.answer.Key.{Key}
use Rattle.call_components.specs.Reaching.{marked}
use Rattle.component_keys.specs.Keys.{names_of, program_components}
use Rattle.component_keys.proofs.Basics.{some_same}
use Rattle.claim_core.specs.Views.{Claimed}
use Rattle.claim_core.specs.declared.event.Event.{Event as Told}
use Rattle.claim_core.specs.Told.{event_of, events_of}
use Rattle.claim_laws.specs.Invariant.{IsDueAt}
use Rattle.claim_laws.specs.Logs.{IsSolved, replay, settled_at}
use Rattle.claim_laws.specs.World.{Event, Out, World, happened, is_kept, is_kept_outcome, may_happen, outcome, out_of}
use Rattle.claim_laws.specs.declared.published.Published.{Published}
use Rattle.claim_laws.specs.declared.published.Published.TheVariants.{Kept}
use Rattle.summary_book.specs.declared.rows.OutRow.{OutRow}
use Rattle.summary_book.specs.declared.rows.Parts.{Parts}
use Rattle.summary_book.specs.declared.rows.SlotRow.{SlotRow}
use Rattle.summary_book.specs.Book.{IsBook}
use Rattle.summary_book.specs.Held.{IsPlaceOf}
use Rattle.summary_book.specs.Moved.{with_slot}
use Rattle.summary_book.specs.Places.{answer_in}
use Rattle.summary_book.specs.Rows.{AreMarks, IsOutRow, place_named}
use Rattle.summary_book.specs.Settled.{AreExact, IsExactAt, IsMarkedAnew}
use Rattle.summary_book.specs.Views.{is_own}
use Rattle.summary_book.proofs.Booked.{IsLonger, book_sight, kept_book, marked_book, stale_book}
use Rattle.summary_book.proofs.RowLengths.{parts_count}
use Rattle.summary_book.proofs.Ends.{IsEnd, end_at, end_solved, kept_here, out_of_end}
use Rattle.summary_book.proofs.Events.{may_publish_at, own_found, replay_told}
use Rattle.summary_book.proofs.Standings.{place_is}
use Rattle.summary_book.proofs.Marking.{due_exact, due_place, due_settles, due_unsettled, unsettled_unmarked}

module _ (solves : Key → Answer → Type 0) (log : Vec Told) (parts : Parts) (slots : Vec (Option SlotRow)) (marks : Vec Bool)
    (out : Vec OutRow) (revision made : ℕ) (book : IsBook solves log parts slots marks out revision made)
    (claim : Claimed) (at : ℕ) (own : is_own (replay (events_of log.items)) claim ≡ true)
    (place : IsPlaceOf claim.number out.items at) where
  abbrev pub world : World
  world = replay (events_of log.items)

  pub end : IsEnd log.items world.program out.items at claim
  end = end_at log.items world.program out.items at claim book.rows_are.out_are own place

  own_due : (component : ℕ) → IsDueAt world component claim.key → IsDueAt world component end.out.key
  own_due component due = subst (IsDueAt world component) (sym end.key_is) due

  -- the claim's row is one of the rows
  pub end_within : at < vec_len out
  end_within = let lt = slice_get_within out.items at end.row end.row_at in let same = out.ok.0 in omega (arith, lt, same)

  module _ (row : OutRow) (row_is : row ≡ get_or out.items at row) where
    pub own_row : IsOutRow log.items world.program row end.out
    own_row =
        subst (λ r. IsOutRow log.items world.program r end.out)
        (sym (row_is ∙ get_or_from_slice_get out.items at end.row row end.row_at)) end.row_is

    pub own_row_here : IsOutRow log.items parts.program.value row end.out
    own_row_here = subst (λ p. IsOutRow log.items p row end.out) (sym book.rows_are.program_is) own_row

    -- its component is one of the components
    here_in : (o : Option ℕ) → o ≡ place_named (program_components world.program) (names_of end.out.key.procs) →
        IfSome o (λ here. here < length (program_components world.program))
    here_in None e = tt
    here_in (Some here) e =
        let there = place_is world.program (names_of end.out.key.procs) here (sym e) in
        slice_get_within (program_components world.program) here there.0 there.1

    -- it is the one that is due the claim's key
    pub row_here : (component : ℕ) → IsDueAt world component claim.key → row.here ≡ Some component
    row_here component due = own_row.here ∙ due_place world component end.out.key (own_due component due)

    pub here_within : IfSome row.here (λ here. here < length parts.components.items)
    here_within =
        subst (λ n. IfSome row.here (λ here. here < n))
        (sym (parts_count log.items parts slots.items (book_sight solves log parts slots marks out revision made book)))
        (here_in row.here own_row.here)

    pub here_among : IfSome row.here (λ here. here < length slots.items)
    here_among = subst (λ n. IfSome row.here (λ here. here < n)) (sym book.rows_are.slots_are.lengths) (here_in row.here own_row.here)

    module _ (others : Vec Bool) (others_are : AreMarks world others.items) (published : Published)
        (tells : (one : Out) → IsOutRow log.items parts.program.value row one → published ≡ outcome world one) where
      published_is : published ≡ outcome world end.out
      published_is = tells end.out own_row_here

      -- what became of the answer is by the order of cases
      pub published_by : (one : Out) → out_of world.out claim.number ≡ Some one → published ≡ outcome world one
      published_by one is = published_is
          ∙ ap (outcome world) (some_same (sym (out_of_end log.items world.program out.items at claim end) ∙ is))

      module _ (later : Vec Told) (told : Told) (longer : IsLonger log later told) (left : Vec OutRow)
          (left_is : left.items ≡ remove out.items at) (left_len : vec_len left + 1 ≡ vec_len out)
          (capacity : vec_capacity later ≡ vec_capacity log) (number : ℕ) (number_is : number ≡ claim.number) (answer : Answer)
          (right : solves claim.key answer) (kept : Bool)
          (event_is : event_of told ≡ Event.Publish number answer kept) (kept_is : kept ≡ is_kept_outcome published) where
        is_kept_by : kept ≡ is_kept world end.out
        is_kept_by = kept_is ∙ ap is_kept_outcome published_is

        solved : IsSolved solves world (Event.Publish number answer kept)
        solved =
            subst (λ n. IsSolved solves world (Event.Publish n answer kept)) (sym number_is)
            (end_solved solves log.items world.program out.items at claim answer kept end right)

        remarked : IsBook solves log parts slots others out revision made
        remarked = marked_book solves log log parts slots marks out revision made book others others_are

        pub stale_answer : kept ≡ false → IsBook solves later parts slots others left revision made
        stale_answer stale =
            stale_book solves log later parts slots others out revision made remarked told longer left at number end.out answer
            (event_is ∙ ap (λ k. Event.Publish number answer k) stale) end.out_at (end.number_is ∙ sym number_is)
            (sym is_kept_by ∙ stale)
            (subst (λ k. IsSolved solves world (Event.Publish number answer k)) stale solved) left_is left_len capacity

        pub kept_answer : kept ≡ true → answer_in (Some told) ≡ Some answer → (more : Vec (Option SlotRow)) →
            more.items ≡ with_slot slots.items row (vec_len log) → IsBook solves later parts more others left revision made
        kept_answer yes_kept answer_is more more_is =
            let here = kept_here log.items world.program row end.out refl own_row (sym is_kept_by ∙ yes_kept) in
            kept_book solves log later parts slots others out revision made remarked told longer left more at number here.0 row end.out
            answer (event_is ∙ ap (λ k. Event.Publish number answer k) yes_kept) answer_is end.out_at
            (end.number_is ∙ sym number_is) (sym is_kept_by ∙ yes_kept)
            (subst (λ k. IsSolved solves world (Event.Publish number answer k)) yes_kept solved) own_row_here here.1
            (more_is ∙ ap (with_slot slots.items row) log.ok.0) left_is left_len capacity

        -- ---- marks

        event_same : event_of told ≡ Event.Publish end.out.number answer kept
        event_same = event_is ∙ ap (λ n. Event.Publish n answer kept) (number_is ∙ sym end.number_is)

        may : may_happen world (Event.Publish end.out.number answer kept) ≡ true
        may = may_publish_at (events_of log.items) at end.out answer kept end.out_at is_kept_by

        abbrev later_world : World
        later_world = replay (events_of later.items)

        later_is : later_world ≡ happened world (Event.Publish end.out.number answer kept)
        later_is = ap (λ l. replay (events_of l)) longer.items_are ∙ replay_told log.items told (ap (may_happen world) event_same ∙ may)
            ∙ ap (happened world) event_same

        same_program : later_world.program ≡ world.program
        same_program = ap (λ (w : World). w.program) later_is

        -- a component that is due the claim's key is marked where the answer is kept, and was not before
        pub component_marked : (component : ℕ) → IsDueAt world component claim.key → published ≡ Kept → (last : List Bool) →
            AreExact world others.items component →
            (IsExactAt later_world others.items component → is_some (settled_at later_world component) ≡ true →
            marked last component ≡ true) → IsMarkedAnew marks.items last component
        component_marked component due is_published last exact found =
            let is_now : is_kept world end.out ≡ true = ap is_kept_outcome (sym published_is ∙ is_published) in
            let settled = subst (λ w. is_some (settled_at w component) ≡ true) (sym later_is)
            (due_settles world end.out.number answer kept component end.out (own_found (events_of log.items) at end.out end.out_at)
            (own_due component due) may) in
            record {
              was =
                  unsettled_unmarked world marks.items component book.rows_are.marks_are
                  (due_unsettled world component end.out (own_due component due) is_now);
              is = found (due_exact world later_world others.items component claim.key due exact same_program) settled;
            }
