-- One component is changed.
use Rattle.std.proofs.Common.{◌≡◌, ◌∙◌, [], set, sym, ap}
use Rattle.std.specs.Prelude.{slice_index_or}
use Rattle.std.proofs.lemmas.List.{get_or-map, map-set}
use Rattle.std.proofs.Math.Seq.{map-set_same}
use Rattle.call_components.proofs.Looked.{on_ok}
use Rattle.composed_keys.specs.declared.rows.Component.{Component as Row}
use Rattle.composed_keys.specs.Outside.{noted_once, outers}
use Rattle.composed_keys.proofs.Called.{put_else}
use Rattle.composed_keys.proofs.outside.note_at.Goals as goal

pub returns-clause-members : goal.returns-clause-members
returns-clause-members c =
    on_ok c.note_once.result _ _
    (λ same. map-set_same
    (λ (row : Row). row.members.items) c.args.made.now.items c.args.place c.note_once.new.component c.index_mut.result.now
    (same ∙ ap (λ (row : Row). row.members.items) c.index_mut.ensures.value))
    c.note_once.ensures.members

pub returns-clause-outer : goal.returns-clause-outer
returns-clause-outer c =
    let old : c.index_mut.result.now.outer.items ≡ slice_index_or (outers c.args.made.now.items) c.args.place [] =
    ap (λ (row : Row). row.outer.items) c.index_mut.ensures.value
    ∙ sym (get_or-map (λ (row : Row). row.outer.items) c.args.made.now.items c.args.place c.index_mut.result.now [] c.requires) in
    on_ok c.note_once.result _ _
    (λ put.
    map-set (λ (row : Row). row.outer.items) c.args.made.now.items c.args.place c.note_once.new.component ∙
    ap (set (outers c.args.made.now.items) c.args.place) (put ∙ ap (λ l. noted_once l c.args.outer) old) ∙
    sym (put_else c.args.place c.args.outer.component (outers c.args.made.now.items)
    (set (outers c.args.made.now.items) c.args.place
    (noted_once (slice_index_or (outers c.args.made.now.items) c.args.place []) c.args.outer)) c.if-place-outer.false))
    c.note_once.ensures.outer
