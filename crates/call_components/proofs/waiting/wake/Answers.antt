-- Those that wait for the number are still to be looked at.
use Rattle.std.proofs.Common.{◌≡◌, ◌<◌, ◌∙◌, All, length, set, refl, sym, ap, subst}
use Rattle.std.proofs.lemmas.List.{length-set}
use Rattle.component_keys.specs.Components.{calls_of}
use Rattle.call_components.specs.Reaching.{rows}
use Rattle.call_components.specs.Waiting.{AreHeld, places_in}
use Rattle.call_components.proofs.Looked.{all_below, on_ok, waits_cut, woken_rows}
use Rattle.call_components.proofs.Walk.{row_of}
use Rattle.call_components.proofs.waiting.wake.Goals as goal

pub look_at_each-requires-clause-bounded : goal.look_at_each-requires-clause-bounded
look_at_each-requires-clause-bounded c =
    record {
      classes_are = refl;
      numbers_are = refl;
      needs =
          λ place number h. subst (λ n. number < n)
          (sym (length-set c.args.waiting.now.waits.items c.args.number c.replace-places.new.dest))
          (c.requires.bounded.needs place number h);
      waits =
          waits_cut c.args.waiting.now.waits.items c.args.number c.replace-places.new.dest
          (length c.args.waiting.now.needs.items) c.requires.number
          (ap (λ row. row.items) c.replace-places.ensures.after ∙ c.new.ensures.items)
          c.requires.bounded.waits;
      ready = c.requires.bounded.ready;
    }

pub look_at_each-requires-clause-places : goal.look_at_each-requires-clause-places
look_at_each-requires-clause-places c =
    let places : c.deref.result.now ≡ calls_of (rows c.args.waiting.now.waits.items) c.args.number =
    c.deref.ensures.value ∙ ap (λ row. row.items) c.replace-places.ensures.value
    ∙ sym (row_of c.args.waiting.now.waits.items c.args.number c.index_mut.result.now c.requires.number c.index_mut.ensures.value) in
    subst (All (λ place. place < length c.args.waiting.now.needs.items)) (sym places)
    (all_below (length c.args.waiting.now.needs.items) (calls_of (rows c.args.waiting.now.waits.items) c.args.number)
    (c.requires.bounded.waits c.args.number))

pub returns-clause-woken : goal.returns-clause-woken
returns-clause-woken c =
    on_ok c.look_at_each.result _ _
    (λ looked all outs wakes old.
    looked all outs wakes
    (subst (λ l. AreHeld all outs c.args.listed.now wakes l (rows c.args.waiting.now.needs.items)
    (rows (set c.args.waiting.now.waits.items c.args.number c.replace-places.new.dest)) (places_in c.args.waiting.now.ready))
    (sym (c.deref.ensures.value ∙ ap (λ row. row.items) c.replace-places.ensures.value))
    (woken_rows all outs c.args.listed.now wakes c.args.number (rows c.args.waiting.now.needs.items) c.args.waiting.now.waits.items
    (places_in c.args.waiting.now.ready) c.index_mut.result.now c.replace-places.new.dest c.requires.number c.index_mut.ensures.value
    (ap (λ row. row.items) c.replace-places.ensures.after ∙ c.new.ensures.items) old)))
    c.look_at_each.ensures.looked
