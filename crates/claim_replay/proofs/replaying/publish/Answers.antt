use Rattle.std.proofs.Common.{◌≡◌, ◌∙◌, ◌<◌, false, Some, List, length, map, get_or, refl, sym, slice_get, subst, ap}
use Rattle.std.proofs.lemmas.List.{get_or_default}
use Rattle.claim_laws.specs.World.{is_kept_outcome, out_of, same_bool, slots_with}
use Rattle.claim_replay.specs.declared.world.Out.{Out}
use Rattle.claim_replay.specs.Values.{out_value, slot_value}
use Rattle.claim_replay.proofs.Happening.{not_published, one_bool, other_bool, outstanding_at, published}
use Rattle.claim_replay.proofs.replaying.publish.Goals as goal

pub returns-then-kept-is_kept-clause-world : goal.returns-then-kept-is_kept-clause-world
returns-then-kept-is_kept-clause-world c =
    not_published c.args.present.world c.args.number c.args.answer.now.value c.args.kept (out_value c.index-deref-place.result)
    (outstanding_at c.args.present.world.out c.args.number c.in-Some.place c.index-deref-place.result
    (subst (λ (l : List Out). slice_get (map out_value l) c.in-Some.place
    ≡ out_of (map out_value l) c.args.number) c.deref.ensures c.in-Some.ensures.claim)
    (subst (λ (l : List Out). c.in-Some.place < length l) c.deref.ensures c.in-Some.ensures.within)
    (c.index-deref-place.is ∙ ap (λ (l : List Out). get_or l c.in-Some.place c.index-deref-place.result) c.deref-2.ensures))
    (subst (λ b. same_bool c.args.kept b ≡ false) (c.is_kept.ensures ∙ ap is_kept_outcome c.in_ok-said.ensures)
    (other_bool c.args.kept c.is_kept.result c.if-kept-is_kept.true))

pub returns-clause-world : goal.returns-clause-world
returns-clause-world c =
    published c.args.present.world
    (record {
      revision = c.args.present.world.revision;
      program = c.args.present.world.program;
      slots = c.in_ok-slots.slots;
      out = c.in_ok-others.field-0;
      made = c.args.present.world.made;
    })
    c.args.number c.args.answer.now.value c.args.kept (out_value c.index-deref-place.result)
    (outstanding_at c.args.present.world.out c.args.number c.in-Some.place c.index-deref-place.result
    (subst (λ (l : List Out). slice_get (map out_value l) c.in-Some.place
    ≡ out_of (map out_value l) c.args.number) c.deref.ensures c.in-Some.ensures.claim)
    (subst (λ (l : List Out). c.in-Some.place < length l) c.deref.ensures c.in-Some.ensures.within)
    (c.index-deref-place.is ∙ ap (λ (l : List Out). get_or l c.in-Some.place c.index-deref-place.result) c.deref-2.ensures))
    (one_bool c.args.kept c.is_kept.result c.if-kept-is_kept.false ∙ (c.is_kept.ensures ∙ ap is_kept_outcome c.in_ok-said.ensures))
    refl refl
    (c.in_ok-slots.ensures
    ∙ ap (λ (o : Out). slots_with (map slot_value c.args.present.world.slots) c.args.kept c.args.answer.now.value (Some (out_value o)))
    (c.index-deref-place-2.is ∙ ap (λ (l : List Out). get_or l c.in-Some.place c.index-deref-place-2.result) c.deref-3.ensures ∙
    get_or_default c.args.present.world.out c.in-Some.place c.index-deref-place-2.result c.index-deref-place.result
    (subst (λ (l : List Out). c.in-Some.place < length l) c.deref.ensures c.in-Some.ensures.within) ∙
    sym (c.index-deref-place.is ∙ ap (λ (l : List Out). get_or l c.in-Some.place c.index-deref-place.result) c.deref-2.ensures)))
    c.in_ok-others.ensures refl
