-- A class is ready, or waits for one more.
use Rattle.std.proofs.Common.{◌≡◌, ◌<◌, ◌∙◌, length, ⊎_elim, refl, sym, subst, arith}
use Rattle.std.proofs.lemmas.List.{length-set}
use Rattle.call_components.specs.Waiting.{places_in}
use Rattle.call_components.proofs.Held.{first_or_rest}
use Rattle.call_components.proofs.Looked.{looked_ready, looked_waits, missing_bounded, needs_bounded, waits_bounded}
use Rattle.call_components.proofs.waiting.look_at.Goals as goal

pub index_mut-requires-in-Some : goal.index_mut-requires-in-Some
index_mut-requires-in-Some c =
    let within : c.in-Some.number < length c.args.waiting.now.waits.items =
    missing_bounded c.args.listed.now c.args.waiting.now.needs.items c.args.place c.index_mut.result.now c.last_missing.new.row
    c.requires.place c.index_mut.ensures.value c.in-Some.ensures.needed
    (length c.args.waiting.now.waits.items) c.in-Some.number c.requires.bounded.needs c.in-Some.ensures.there in
    let same : c.args.waiting.now.waits.len ≡ length c.args.waiting.now.waits.items = c.args.waiting.now.waits.ok.0 in
    omega (arith, within, same)

pub returns-in_ok-push-in-Some-clause-bounded : goal.returns-in_ok-push-in-Some-clause-bounded
returns-in_ok-push-in-Some-clause-bounded c =
    let within : c.in-Some.number < length c.args.waiting.now.waits.items =
    missing_bounded c.args.listed.now c.args.waiting.now.needs.items c.args.place c.index_mut.result.now c.last_missing.new.row
    c.requires.place c.index_mut.ensures.value c.in-Some.ensures.needed
    (length c.args.waiting.now.waits.items) c.in-Some.number c.requires.bounded.needs c.in-Some.ensures.there in
    record {
      classes_are = length-set c.args.waiting.now.needs.items c.args.place c.last_missing.new.row;
      numbers_are = length-set c.args.waiting.now.waits.items c.in-Some.number c.push.new.self;
      needs =
          needs_bounded c.args.listed.now c.args.waiting.now.needs.items c.args.place c.index_mut.result.now c.last_missing.new.row
          c.requires.place c.index_mut.ensures.value c.in-Some.ensures.needed
          (length c.args.waiting.now.waits.items) c.requires.bounded.needs;
      waits =
          waits_bounded c.args.waiting.now.waits.items c.in-Some.number c.args.place c.index_mut-in-Some.result.now c.push.new.self
          (length c.args.waiting.now.needs.items) within c.index_mut-in-Some.ensures.value c.in_ok-push-in-Some.ensures.items
          c.requires.place c.requires.bounded.waits;
      ready = c.requires.bounded.ready;
    }

pub returns-in_ok-push-in-Some-clause-looked : goal.returns-in_ok-push-in-Some-clause-looked
returns-in_ok-push-in-Some-clause-looked c =
    let within : c.in-Some.number < length c.args.waiting.now.waits.items =
    missing_bounded c.args.listed.now c.args.waiting.now.needs.items c.args.place c.index_mut.result.now c.last_missing.new.row
    c.requires.place c.index_mut.ensures.value c.in-Some.ensures.needed
    (length c.args.waiting.now.waits.items) c.in-Some.number c.requires.bounded.needs c.in-Some.ensures.there in
    looked_waits c.args.listed.now c.args.waiting.now.needs.items c.args.place c.index_mut.result.now c.last_missing.new.row
    c.requires.place c.index_mut.ensures.value c.in-Some.ensures.needed
    c.args.waiting.now.waits.items
    (places_in c.args.waiting.now.ready) c.in-Some.number c.index_mut-in-Some.result.now c.push.new.self within
    c.index_mut-in-Some.ensures.value c.in_ok-push-in-Some.ensures.items c.in-Some.ensures.there c.in-Some.ensures.missing

pub returns-in_ok-add-in-None-clause-bounded : goal.returns-in_ok-add-in-None-clause-bounded
returns-in_ok-add-in-None-clause-bounded c =
    record {
      classes_are = length-set c.args.waiting.now.needs.items c.args.place c.last_missing.new.row;
      numbers_are = refl;
      needs =
          needs_bounded c.args.listed.now c.args.waiting.now.needs.items c.args.place c.index_mut.result.now c.last_missing.new.row
          c.requires.place c.index_mut.ensures.value c.in-None.ensures.needed
          (length c.args.waiting.now.waits.items) c.requires.bounded.needs;
      waits = c.requires.bounded.waits;
      ready = λ place h.
          ⊎_elim (λ same. subst (λ n. n < length c.args.waiting.now.needs.items) same c.requires.place) (c.requires.bounded.ready place)
          (first_or_rest c.args.place (places_in c.args.waiting.now.ready) place (sym (c.in_ok-add-in-None.ensures place) ∙ h));
    }

pub returns-in_ok-add-in-None-clause-looked : goal.returns-in_ok-add-in-None-clause-looked
returns-in_ok-add-in-None-clause-looked c =
    looked_ready c.args.listed.now c.args.waiting.now.needs.items c.args.place c.index_mut.result.now c.last_missing.new.row
    c.requires.place c.index_mut.ensures.value c.in-None.ensures.needed
    c.args.waiting.now.waits.items (places_in c.args.waiting.now.ready)
    (places_in c.add.new.self) c.in-None.ensures.none c.in_ok-add-in-None.ensures
