use Rattle.std.proofs.Common.{◌≡◌, suc, ◌+◌, ◌<◌, ◌≤◌, true, [], ◌∷◌, ◌++◌, length, map, take, drop, set}
use Rattle.std.proofs.Common.{unwrap_or, refl, sym, ap, ◌∙◌, subst, arith, rules}
use Rattle.std.proofs.lemmas.List.{take_rest, length-set, length_push}
use Rattle.c_types_names.specs.Seen.{type_seen}
use Rattle.c_lower_emit.specs.declared.temps.Temp.{Temp}
use Rattle.c_lower_emit.specs.TypeNumbers.{number_in}
use Rattle.c_lower_emit.specs.Seen.{temp_seen}
use Rattle.c_lower_emit.specs.KeptTemps.{AreUsed}
use Rattle.c_lower_emit.proofs.FirstTemps.{first_same, free_place, set_unused}
use Rattle.c_lower_emit.proofs.TakenTemps.{in_use, again_at, new_at, used_set, used_set_more, used_pushed_more}
use Rattle.c_lower_emit.proofs.temps.take_one.Goals as goal

pub add_used-requires-clause-first : goal.add_used-requires-clause-first
add_used-requires-clause-first c =
    let first : c.unwrap_or-first.result
    ≡ unwrap_or (number_in c.args.numbers.now (type_seen c.args.kind)) (length c.args.temps.now.items) = search rules in
    first ∙ c.requires.first.found (type_seen c.args.kind)

pub returns-then-place-len-clause-place : goal.returns-then-place-len-clause-place
returns-then-place-len-clause-place c =
    let items = c.args.temps.now.items in
    let first : c.unwrap_or-first.result
    ≡ unwrap_or (number_in c.args.numbers.now (type_seen c.args.kind)) (length items) = search rules in
    free_place c.args.numbers.now c.args.from items _ c.requires
    (take_rest c.deref.result.now c.args.from ∙ ap (drop c.args.from) c.deref.ensures.value)
    (type_seen c.args.kind) c.unwrap_or-first.result c.place_of_free.result first c.place_of_free.ensures.place

pub returns-then-place-len-clause-temps : goal.returns-then-place-len-clause-temps
returns-then-place-len-clause-temps c =
    again_at (type_seen c.args.kind) c.args.temps.now.items (c.args.from + c.place_of_free.result) c.index_mut.result.now
    (returns-then-place-len-clause-place c) (search rules) c.index_mut.ensures.value

pub returns-then-place-len-clause-kept : goal.returns-then-place-len-clause-kept
returns-then-place-len-clause-kept c =
    let items = c.args.temps.now.items in
    let place = c.args.from + c.place_of_free.result in
    let temp = in_use c.index_mut.result.now in
    let lt : c.args.from + c.place_of_free.result < length c.args.temps.now.items = search rules in
    record {
      within = omega (arith, c.requires.within, length-set items place temp);
      used = used_set c.args.from place items temp refl c.requires.used;
      first =
          first_same c.args.numbers.now items (set items place temp)
          (set_unused items place c.index_mut.result.now lt c.index_mut.ensures.value) c.requires.first;
    }

pub returns-then-place-len-clause-used : goal.returns-then-place-len-clause-used
returns-then-place-len-clause-used c = λ same.
    let items = c.args.temps.now.items in
    let place = c.args.from + c.place_of_free.result in
    let temp = in_use c.index_mut.result.now in
    let lt : c.args.from + c.place_of_free.result < length c.args.temps.now.items = search rules in
    let one : suc c.args.from ≡ c.args.from + 1 = omega arith in
    record {
      within = omega (arith, lt, same, length-set items place temp);
      used =
          subst (λ n. AreUsed (take n (set items place temp))) one
          (subst (λ n. AreUsed (take (suc c.args.from) (set items n temp))) (sym same)
          (used_set_more c.args.from items temp refl (omega (arith, lt, same)) c.requires.used));
      first =
          first_same c.args.numbers.now items (set items place temp)
          (set_unused items place c.index_mut.result.now lt c.index_mut.ensures.value) c.requires.first;
    }

pub returns-in_ok-add_used-clause-place : goal.returns-in_ok-add_used-clause-place
returns-in_ok-add_used-clause-place c =
    let items = c.args.temps.now.items in
    let first : c.unwrap_or-first.result
    ≡ unwrap_or (number_in c.args.numbers.now (type_seen c.args.kind)) (length items) = search rules in
    free_place c.args.numbers.now c.args.from items _ c.requires
    (take_rest c.deref.result.now c.args.from ∙ ap (drop c.args.from) c.deref.ensures.value)
    (type_seen c.args.kind) c.unwrap_or-first.result c.place_of_free.result first c.place_of_free.ensures.place

pub returns-in_ok-add_used-clause-temps : goal.returns-in_ok-add_used-clause-temps
returns-in_ok-add_used-clause-temps c =
    let le : length c.args.temps.now.items ≤ c.args.from + c.place_of_free.result = search rules in
    let temp : Temp = record { kind = c.args.kind; used = true; first = c.unwrap_or-first.result } in
    ap (map temp_seen) c.in_ok-add_used.ensures.more
    ∙ new_at temp refl c.args.temps.now.items (c.args.from + c.place_of_free.result) (returns-in_ok-add_used-clause-place c) le

pub returns-in_ok-add_used-clause-used : goal.returns-in_ok-add_used-clause-used
returns-in_ok-add_used-clause-used c = λ same.
    let items = c.args.temps.now.items in
    let le : length c.args.temps.now.items ≤ c.args.from + c.place_of_free.result = search rules in
    let temp : Temp = record { kind = c.args.kind; used = true; first = c.unwrap_or-first.result } in
    let one : suc c.args.from ≡ c.args.from + 1 = omega arith in
    let long = ap length c.in_ok-add_used.ensures.more ∙ length_push items temp in
    record {
      within = omega (arith, long, c.requires.within);
      used =
          subst (λ ts. AreUsed (take (c.args.from + 1) ts)) (sym c.in_ok-add_used.ensures.more)
          (subst (λ n. AreUsed (take n (items ++ temp ∷ []))) one
          (used_pushed_more c.args.from items temp refl (omega (arith, le, same, c.requires.within)) c.requires.used));
      first = c.in_ok-add_used.ensures.numbers;
    }
