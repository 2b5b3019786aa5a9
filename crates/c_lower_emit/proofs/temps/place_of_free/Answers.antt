use Rattle.std.proofs.Common.{◌≡◌, ◌==◌, false, map, sym, subst, arith}
use Rattle.std.proofs.lemmas.List.{at_drop_all}
use Rattle.c_types_rules.specs.Types.{same_type}
use Rattle.c_lower_rules.specs.Temporaries.{take_temp, is_free}
use Rattle.c_types_names.specs.Seen.{type_seen}
use Rattle.c_lower_emit.specs.declared.temps.Temp.{Temp}
use Rattle.c_lower_emit.specs.Seen.{temp_seen}
use Rattle.c_lower_emit.proofs.TakenTemps.{taken_here, taken_later, free_if, busy_if_used, busy_if_other}
use Rattle.c_lower_emit.proofs.temps.place_of_free.Goals as goal
use Rattle.c_lower_emit.proofs.temps.place_of_free.Goals.{else-temp-first-via-then-temp-first+else-not-temp}
use Rattle.c_lower_emit.proofs.temps.place_of_free.Goals.{else-temp-first-via-else-temp-first}

pub loop-place-init : goal.loop-place-init
loop-place-init c = λ kind all. omega arith

pub returns-then-not-temp-clause-place : goal.returns-then-not-temp-clause-place
returns-then-not-temp-clause-place c = λ kind all.
    let temp = c.index-temps-place.result in
    let tells = subst (λ (t : Temp). (t.first == c.args.first) ≡ same_type (type_seen t.kind) kind) (sym c.index-temps-place.is)
    (all c.loop-place.place temp c.loop-place-test.true) in
    let before = c.loop-place.invariant kind all in
    let here = taken_here kind c.args.temps.now c.loop-place.place temp c.loop-place-test.true c.index-temps-place.is
    (free_if kind c.args.first temp tells c.if-temp-first.true c.if-not-temp.true) in
    omega (arith, before, here)

pub loop-place-preserved : goal.loop-place-preserved
loop-place-preserved c = λ kind all.
    let temp = c.index-temps-place.result in
    let tells = subst (λ (t : Temp). (t.first == c.args.first) ≡ same_type (type_seen t.kind) kind) (sym c.index-temps-place.is)
    (all c.loop-place.place temp c.loop-place-test.true) in
    let before = c.loop-place.invariant kind all in
    let busy : is_free kind (temp_seen temp) ≡ false =
    elim c.else-temp-first.branch [
      | else-temp-first-via-then-temp-first+else-not-temp w ↦ busy_if_used kind c.args.first temp tells w.if-not-temp.false
      | else-temp-first-via-else-temp-first w ↦ busy_if_other kind c.args.first temp tells w.if-temp-first.false
    ] in
    let later = taken_later kind c.args.temps.now c.loop-place.place temp c.loop-place-test.true c.index-temps-place.is busy in
    omega (arith, before, later)

pub returns-clause-place : goal.returns-clause-place
returns-clause-place c = λ kind all.
    let before = c.loop-place.invariant kind all in
    let none = at_drop_all (λ ts. (take_temp kind (map temp_seen ts)).place) c.args.temps.now c.loop-place.place c.loop-place-test.false in
    omega (arith, before, none, c.loop-place-test.false, c.loop-place.auto.place-end)
