use Rattle.std.proofs.Common.{◌≡◌, ◌∙◌, ◌<◌, List, length, Some, sym, ap, subst}
use Rattle.std.specs.Prelude.{position}
use Rattle.std.specs.Option.{IfSome}
use Rattle.std.proofs.lemmas.Option.{slice_get-get_or}
use Rattle.std.proofs.lemmas.Result.{IfOk-weaker}
use Rattle.shape_data.specs.declared.answer.Key.{Key}
use Rattle.shape_data.specs.declared.program.Program.{Program}
use Rattle.component_keys.specs.Components.{same_names}
use Rattle.component_keys.specs.Keys.{names_of}
use Rattle.composed_keys.specs.declared.rows.Component.{Component}
use Rattle.claim_replay.specs.Values.{row_names}
use Rattle.claim_replay.proofs.Happening.{is_gone, outcome_known}
use Rattle.claim_replay.proofs.replaying.outcome_of.Goals as goal

pub returns-in_default : goal.returns-in_default
returns-in_default c =
    is_gone c.args.present.now.world c.args.present.now.rows.items c.requires.components c.args.claim.now c.deref-5.result.now
    (c.deref-5.ensures ∙ (c.in_ok-names.ensures ∙ ap names_of (c.deref-2.ensures ∙ ap (λ (k : Key). k.procs) c.deref.ensures)))
    (sym c.in_default.is ∙
    subst (λ (l : List Component). c.in_ok-place.field-0
    ≡ position (λ row. same_names (row_names c.args.present.now.world.program.value row) c.deref-5.result.now) l) c.deref-4.ensures.value
    (subst (λ (p : Program). c.in_ok-place.field-0
    ≡ position (λ row. same_names
    (row_names p row) c.deref-5.result.now) c.deref-4.result.now) c.deref-3.ensures c.in_ok-place.ensures.first))

pub outcome_at-requires : goal.outcome_at-requires
outcome_at-requires c =
    let lt : c.in-Some.place < length c.args.present.now.rows.items =
    subst (λ (l : List Component). c.in-Some.place < length l) c.deref-4.ensures.value
    (subst (λ o. IfSome o (λ place. place < length c.deref-4.result.now)) c.in-Some.is c.in_ok-place.ensures.within) in
    (c.requires.within c.in-Some.place c.index.result.now
    (slice_get-get_or c.args.present.now.rows.items c.in-Some.place c.index.result.now lt
    ∙ ap (λ (r : Component). Some r) (sym c.index.ensures))).members

pub returns : goal.returns
returns c =
    let lt : c.in-Some.place < length c.args.present.now.rows.items =
    subst (λ (l : List Component). c.in-Some.place < length l) c.deref-4.ensures.value
    (subst (λ o. IfSome o (λ place. place < length c.deref-4.result.now)) c.in-Some.is c.in_ok-place.ensures.within) in
    IfOk-weaker c.outcome_at.result _ _
    (λ said is. is ∙
    outcome_known c.args.present.now.world c.args.present.now.rows.items c.requires.components c.args.claim.now c.deref-5.result.now
    c.in_ok-known.known.items c.in-Some.place c.index.result.now c.index-2.result.now
    (c.deref-5.ensures ∙ (c.in_ok-names.ensures ∙ ap names_of (c.deref-2.ensures ∙ ap (λ (k : Key). k.procs) c.deref.ensures)))
    (sym c.in-Some.is ∙
    subst (λ (l : List Component). c.in_ok-place.field-0
    ≡ position (λ row. same_names (row_names c.args.present.now.world.program.value row) c.deref-5.result.now) l) c.deref-4.ensures.value
    (subst (λ (p : Program). c.in_ok-place.field-0
    ≡ position (λ row. same_names
    (row_names p row) c.deref-5.result.now) c.deref-4.result.now) c.deref-3.ensures c.in_ok-place.ensures.first))
    c.in_ok-known.ensures.are c.in_ok-known.ensures.len lt c.index.ensures
    (subst (λ n. c.in-Some.place < n) (sym c.in_ok-known.ensures.rows) lt) c.index-2.ensures)
    c.outcome_at.ensures
