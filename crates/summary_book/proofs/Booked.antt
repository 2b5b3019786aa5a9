-- A book after each of its events.
use Rattle.std.proofs.Common.{◌≡◌, ℕ, ◌+◌, ◌^◌, ◌<◌, ◌≤◌, All, Bool, true, false, cond, is_some, [], ◌∷◌, ◌++◌, length, slice_get, Some}
use Rattle.std.proofs.Common.{Option, refl, sym, ap, ◌∙◌, subst, arith}
use Rattle.std.specs.Global.{Vec}
use Rattle.std.specs.List.{AllZip, count_by, filter, range_with_len, remove}
use Rattle.std.proofs.lemmas.List.{length-map}
use Rattle.std.proofs.lemmas.List.Elements.{All-nil, All-push}
use Rattle.std.specs.Vec.{vec_len, vec_capacity}
use Rattle.shape_data.specs.declared.answer.Answer.{Answer}
use Rattle.shape_data.specs.declared.answer.Key.{Key}
use Rattle.shape_data.specs.declared.program.Program.{Program}
use Rattle.shape_data.specs.WellFormed.{IsProgram, IsStorableAnswer}
use Rattle.call_components.specs.Reaching.{marked}
use Rattle.component_keys.specs.Keys.{program_components}
use Rattle.component_keys.specs.Tests.{program_test}
use Rattle.claim_core.specs.declared.event.Event.{Event as Told}
use Rattle.claim_core.specs.Told.{event_of, events_of}
use Rattle.claim_laws.specs.Logs.{IsLegal, IsSolved, first_world, replay, settled_at}
use Rattle.claim_laws.specs.World.{Event, Out, World, is_kept, is_present, may_happen, standings}
use Rattle.key_laws.specs.Storing.{IsFormedEvent, IsStorableWorld}
use Rattle.key_laws.proofs.Worlds.{legal_weaker, legal_worlds}
use Rattle.summary_book.specs.declared.rows.OutRow.{OutRow}
use Rattle.summary_book.specs.declared.rows.Parts.{Parts}
use Rattle.summary_book.specs.declared.rows.SlotRow.{SlotRow}
use Rattle.summary_book.specs.declared.answers.Met.TheVariants.{Same, Revised}
use Rattle.summary_book.specs.Book.{AreRows, IsBook, count_marked, met_by}
use Rattle.summary_book.specs.Moved.{IsMoved, with_slot}
use Rattle.summary_book.specs.Places.{answer_in, key_in}
use Rattle.summary_book.specs.Rows.{AreMarks, AreParts, AreSlots, IsOutRow, IsSight}
use Rattle.summary_book.proofs.Components.{components_small}
use Rattle.summary_book.proofs.MarkedCount.{marked_few, marked_most}
use Rattle.summary_book.proofs.RowLengths.{parts_count}
use Rattle.summary_book.proofs.Events.{claimed_rows, given_rows, kept_rows, legal_told, made_few, may_give_back, may_publish_at}
use Rattle.summary_book.proofs.Events.{revised_rows, revision_few, sight_of, stale_rows, told_events}
use Rattle.summary_book.proofs.Standings.{standings_length}
use Rattle.summary_book.proofs.Opening.{empty_program, first_rows}

-- the log has grown by one
pub record IsLonger (log later : Vec Told) (told : Told) : Type 0 where
  pub items_are : later.items ≡ log.items ++ told ∷ []
  pub len_is : vec_len later ≡ vec_len log + 1

module _ (solves : Key → Answer → Type 0) where
  pub first_book : (log : Vec Told) (parts : Parts) (slots : Vec (Option SlotRow)) (marks : Vec Bool) (out : Vec OutRow) → log.items ≡ [] →
      slots.items ≡ [] → marks.items ≡ [] → out.items ≡ [] → vec_len log ≡ 0 → vec_len out ≡ 0 →
      parts.program.value ≡ empty_program → AreParts parts → IsBook solves log parts slots marks out 0 0
  first_book log parts slots marks out no_log no_slots no_marks no_out log_len out_len program_is are = record {
    legal = subst (λ l. IsLegal solves (events_of l)) (sym no_log) tt;
    formed = subst (λ l. All IsFormedEvent (events_of l)) (sym no_log) (All-nil IsFormedEvent);
    rows_are =
        subst (λ l. AreRows (replay (events_of l)) l parts slots.items marks.items out.items 0 0) (sym no_log)
        (subst (λ s. AreRows (replay []) [] parts s marks.items out.items 0 0) (sym no_slots)
        (subst (λ m. AreRows (replay []) [] parts [] m out.items 0 0) (sym no_marks)
        (subst (λ o. AreRows (replay []) [] parts [] [] o 0 0) (sym no_out) (first_rows parts program_is are))));
    room = omega (arith, log_len, out_len);
  }

  module _ (log later : Vec Told) (parts : Parts) (slots : Vec (Option SlotRow)) (marks : Vec Bool) (out : Vec OutRow) (revision made : ℕ)
      (book : IsBook solves log parts slots marks out revision made) where
    abbrev world : World
    world = replay (events_of log.items)

    legal_later : (told : Told) → IsLonger log later told → may_happen world (event_of told) ≡ true →
        IsSolved solves world (event_of told) → IsLegal solves (events_of later.items)
    legal_later told longer may solved =
        subst (λ l. IsLegal solves (events_of l)) (sym longer.items_are) (legal_told solves log.items told book.legal may solved)

    formed_later : (told : Told) → later.items ≡ log.items ++ told ∷ [] → IsFormedEvent (event_of told) →
        All IsFormedEvent (events_of later.items)
    formed_later told items_are formed =
        subst (λ l. All IsFormedEvent (events_of l)) (sym items_are)
        (subst (All IsFormedEvent) (sym (told_events log.items told))
        (All-push IsFormedEvent (events_of log.items) (event_of told) book.formed formed))

    -- a claim was given back
    pub given_book : (told : Told) → IsLonger log later told → (left : Vec OutRow) (at number : ℕ) (claim : Out) →
        event_of told ≡ Event.GiveBack number → slice_get world.out at ≡ Some claim → claim.number ≡ number →
        left.items ≡ remove out.items at → vec_len left + 1 ≡ vec_len out → vec_capacity later ≡ vec_capacity log →
        IsBook solves later parts slots marks left revision made
    given_book told longer left at number claim event_is out_at number_is left_is left_len capacity =
        let is : event_of told ≡ Event.GiveBack claim.number = event_is ∙ ap (λ n. Event.GiveBack n) (sym number_is) in
        let room = book.room in
        let len = longer.len_is in
        record {
          legal =
              legal_later told longer (ap (may_happen world) is ∙ may_give_back (events_of log.items) at claim out_at)
              (subst (IsSolved solves world) (sym is) tt);
          formed = formed_later told longer.items_are (subst IsFormedEvent (sym event_is) tt);
          rows_are =
              subst (λ l. AreRows (replay (events_of l)) l parts slots.items marks.items left.items revision made) (sym longer.items_are)
              (subst (λ o. AreRows (replay (events_of (log.items ++ told ∷ [])))
              (log.items ++ told ∷ []) parts slots.items marks.items o revision made) (sym left_is)
              (given_rows log.items parts slots.items marks.items out.items revision made book.rows_are told at number claim event_is out_at
              number_is));
          room = omega (arith, room, len, left_len, capacity);
        }

    -- an answer was not kept
    pub stale_book : (told : Told) → IsLonger log later told → (left : Vec OutRow) (at number : ℕ) (claim : Out) (answer : Answer) →
        event_of told ≡ Event.Publish number answer false → slice_get world.out at ≡ Some claim →
        claim.number ≡ number → is_kept world claim ≡ false → IsSolved solves world (Event.Publish number answer false) →
        left.items ≡ remove out.items at → vec_len left + 1 ≡ vec_len out →
        vec_capacity later ≡ vec_capacity log → IsBook solves later parts slots marks left revision made
    stale_book told longer left at number claim answer event_is out_at number_is stale solved left_is left_len capacity =
        let is : event_of told ≡ Event.Publish claim.number answer false =
        event_is ∙ ap (λ n. Event.Publish n answer false) (sym number_is) in
        let room = book.room in
        let len = longer.len_is in
        record {
          legal =
              legal_later told longer
              (ap (may_happen world) is ∙ may_publish_at (events_of log.items) at claim answer false out_at (sym stale))
              (subst (IsSolved solves world) (sym event_is) solved);
          formed = formed_later told longer.items_are (subst IsFormedEvent (sym event_is) tt);
          rows_are =
              subst (λ l. AreRows (replay (events_of l)) l parts slots.items marks.items left.items revision made) (sym longer.items_are)
              (subst (λ o. AreRows (replay (events_of (log.items ++ told ∷ [])))
              (log.items ++ told ∷ []) parts slots.items marks.items o revision made) (sym left_is)
              (stale_rows log.items parts slots.items marks.items out.items revision made book.rows_are told at number claim answer event_is
              out_at number_is stale));
          room = omega (arith, room, len, left_len, capacity);
        }

    -- an answer was kept
    pub kept_book : (told : Told) → IsLonger log later told →
        (left : Vec OutRow) (more : Vec (Option SlotRow)) (at number here : ℕ) (row : OutRow) (claim : Out) (answer : Answer) →
        event_of told ≡ Event.Publish number answer true →
        answer_in (Some told) ≡ Some answer → slice_get world.out at ≡ Some claim → claim.number ≡ number → is_kept world claim ≡ true →
        IsSolved solves world (Event.Publish number answer true) →
        IsOutRow log.items parts.program.value row claim → row.here ≡ Some here →
        more.items ≡ with_slot slots.items row (length log.items) → left.items ≡ remove out.items at → vec_len left + 1 ≡ vec_len out →
        vec_capacity later ≡ vec_capacity log → IsBook solves later parts more marks left revision made
    kept_book told longer left more at number here row claim answer event_is answer_is out_at number_is kept solved row_is here_is more_is
        left_is left_len capacity =
        let is : event_of told ≡ Event.Publish claim.number answer true =
        event_is ∙ ap (λ n. Event.Publish n answer true) (sym number_is) in
        let room = book.room in
        let len = longer.len_is in
        record {
          legal =
              legal_later told longer
              (ap (may_happen world) is ∙ may_publish_at (events_of log.items) at claim answer true out_at (sym kept))
              (subst (IsSolved solves world) (sym event_is) solved);
          formed = formed_later told longer.items_are (subst IsFormedEvent (sym event_is) tt);
          rows_are =
              subst (λ l. AreRows (replay (events_of l)) l parts more.items marks.items left.items revision made) (sym longer.items_are)
              (subst (λ s. AreRows (replay (events_of (log.items ++ told ∷ [])))
              (log.items ++ told ∷ []) parts s marks.items left.items revision made) (sym more_is)
              (subst (λ o. AreRows (replay (events_of (log.items ++ told ∷ []))) (log.items ++ told ∷ []) parts
              (with_slot slots.items row (length log.items)) marks.items o revision made) (sym left_is)
              (kept_rows log.items parts slots.items marks.items out.items revision made book.rows_are told at number here row claim answer
              event_is answer_is out_at number_is kept row_is here_is)));
          room = omega (arith, room, len, left_len, capacity);
        }

    -- a component was handed out
    pub claimed_book : (told : Told) → later.items ≡ log.items ++ told ∷ [] →
        (more : Vec OutRow) (number worker component : ℕ) (key : Key) → event_of told ≡ Event.Claim number worker component key →
        key_in (Some told) ≡ Some key →
        may_happen world (Event.Claim number worker component key) ≡ true →
        more.items ≡ out.items ++ record { number = number; claimed = length log.items; here = Some component; fits = true } ∷ [] →
        vec_len later + vec_len more ≤ vec_capacity later →
        IsBook solves later parts slots marks more revision number
    claimed_book told items_are more number worker component key event_is key_is may more_is room = record {
      legal =
          subst (λ l. IsLegal solves (events_of l)) (sym items_are)
          (legal_told solves log.items told book.legal (ap (may_happen world) event_is ∙ may)
          (subst (IsSolved solves world) (sym event_is) tt));
      formed = formed_later told items_are (subst IsFormedEvent (sym event_is) tt);
      rows_are =
          subst (λ l. AreRows (replay (events_of l)) l parts slots.items marks.items more.items revision number) (sym items_are)
          (subst (λ o. AreRows (replay (events_of (log.items ++ told ∷ [])))
          (log.items ++ told ∷ []) parts slots.items marks.items o revision number) (sym more_is)
          (claimed_rows log.items parts slots.items marks.items out.items revision made book.rows_are told number worker component key
          event_is key_is may));
      room = room;
    }

    -- another program is present
    pub revised_book : (told : Told) → later.items ≡ log.items ++ told ∷ [] →
        (new : Parts) (rows : Vec (Option SlotRow)) (unmarked : Vec Bool) (moved : Vec OutRow) (next : ℕ) (program : Program) →
        event_of told ≡ Event.Revise next program → may_happen world (Event.Revise next program) ≡ true → new.program.value ≡ program →
        AreParts new →
        AreSlots log.items (filter (is_present program) world.slots) program rows.items →
        length unmarked.items ≡ length (program_components program) → ((place : ℕ) → marked unmarked.items place ≡ false) →
        AllZip (IsMoved log.items program) out.items moved.items → vec_len later + vec_len moved ≤ vec_capacity later →
        IsBook solves later new rows unmarked moved next made
    revised_book told items_are new rows unmarked moved next program event_is may program_is parts_are slots_are lengths none moved_are
        room = record {
          legal =
              subst (λ l. IsLegal solves (events_of l)) (sym items_are)
              (legal_told solves log.items told book.legal (ap (may_happen world) event_is ∙ may)
              (subst (IsSolved solves world) (sym event_is) tt));
          formed = formed_later told items_are (subst IsFormedEvent (sym event_is) (subst IsProgram program_is parts_are.formed));
          rows_are =
              subst (λ l. AreRows (replay (events_of l)) l new rows.items unmarked.items moved.items next made) (sym items_are)
              (revised_rows log.items parts new slots.items rows.items marks.items unmarked.items out.items moved.items revision made
              book.rows_are told next program event_is may program_is parts_are slots_are lengths none
              moved_are);
          room = room;
        }

    -- other marks, as good
    pub marked_book : (others : Vec Bool) → AreMarks world others.items → IsBook solves log parts slots others out revision made
    marked_book others are = record {
      legal = book.legal;
      formed = book.formed;
      rows_are = record {
        program_is = book.rows_are.program_is;
        parts_are = book.rows_are.parts_are;
        slots_are = book.rows_are.slots_are;
        marks_are = are;
        out_are = book.rows_are.out_are;
        revision_is = book.rows_are.revision_is;
        made_is = book.rows_are.made_is;
      };
      room = book.room;
    }

-- ---- what a book's numbers are at most

module _ (solves : Key → Answer → Type 0) (log : Vec Told) (parts : Parts) (slots : Vec (Option SlotRow)) (marks : Vec Bool)
    (out : Vec OutRow) (revision made : ℕ) (book : IsBook solves log parts slots marks out revision made) where
  log_length : length (events_of log.items) ≡ vec_len log
  log_length = length-map log.items event_of ∙ sym log.ok.0

  -- so is it for each weaker meaning of answers
  pub book_legal : (weaker : Key → Answer → Type 0) → ((key : Key) (answer : Answer) → solves key answer → weaker key answer) →
      IsLegal weaker (events_of log.items)
  book_legal weaker holds = legal_weaker solves weaker holds first_world (events_of log.items) book.legal

  -- what the world holds is within the limits of a store
  pub book_storable : ((key : Key) (answer : Answer) → solves key answer → IsStorableAnswer key answer) →
      IsStorableWorld (replay (events_of log.items))
  book_storable within = legal_worlds solves within (events_of log.items) book.legal book.formed

  pub revision_small : revision < 2 ^ 63
  revision_small =
      let is = book.rows_are.revision_is in
      let few = revision_few (events_of log.items) in
      let same = log_length in
      let fits = log.ok.1 in
      let small = log.small in
      omega (arith, is, few, same, fits, small)

  pub made_small : made < 2 ^ 63
  made_small =
      let is = book.rows_are.made_is in
      let few = made_few (events_of log.items) in
      let same = log_length in
      let fits = log.ok.1 in
      let small = log.small in
      omega (arith, is, few, same, fits, small)

  pub book_sight : IsSight log.items parts slots.items
  book_sight = sight_of log.items parts slots.items marks.items out.items revision made book.rows_are

  pub marks_length : length marks.items ≡ length (standings (replay (events_of log.items)))
  marks_length =
      let count = standings_length (replay (events_of log.items)) in
      book.rows_are.marks_are.lengths ∙ sym count

  pub marks_small : count_marked marks.items < 4294967296
  marks_small =
      let most = marked_most marks.items in
      let lengths = book.rows_are.marks_are.lengths in
      let same = parts_count log.items parts slots.items book_sight in
      let few = components_small parts book.rows_are.parts_are in
      omega (arith, most, lengths, same, few)

  pub marks_few : count_marked marks.items
      ≤ count_by (λ component. is_some (settled_at (replay (events_of log.items)) component))
      (range_with_len 0 (length (standings (replay (events_of log.items)))))
  marks_few =
      marked_few (λ component. is_some (settled_at (replay (events_of log.items)) component)) marks.items
      (length (standings (replay (events_of log.items)))) marks_length (λ place mark. book.rows_are.marks_are.settled place mark)

-- ---- programs

pub met_same : (world : World) (program : Program) → program ≡ world.program → Same ≡ met_by world program
met_same world program same = sym (ap (λ b. cond b Same (Revised (world.revision + 1))) ((program_test.1 program world.program).1 same))

pub met_other : (world : World) (program : Program) (revision : ℕ) → (program ≡ world.program → ⊥) → revision ≡ world.revision →
    Revised (revision + 1) ≡ met_by world program
met_other world program revision other is =
    ap (λ n. Revised (n + 1)) is
    ∙ sym (ap (λ b. cond b Same (Revised (world.revision + 1))) (by_test (program_test.0 program world.program) refl))
  where
    by_test : (b : Bool) → program_test.0 program world.program ≡ b → b ≡ false
    by_test false e = refl
    by_test true e = absurd (other ((program_test.1 program world.program).0 e))
