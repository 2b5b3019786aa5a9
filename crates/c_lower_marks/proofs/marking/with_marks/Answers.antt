use Rattle.std.proofs.Common.{◌∷◌, [], length, ap, ◌∙◌, arith, length-append}
use Rattle.std.proofs.lemmas.Iterator.Adapters.{YieldsList-from_vec}
use Rattle.std.proofs.lemmas.Iterator.Consumers.{YieldsList-turn}
use Rattle.c_lower_marks.proofs.Heading.{with_marks-length, with_marks-turn}
use Rattle.c_lower_marks.proofs.marking.with_marks.Goals as goal

pub index_mut-requires : goal.index_mut-requires
index_mut-requires c =
    let given = c.into_iter-mark-iterator.ensures.into_iter_gives in
    let all = YieldsList-from_vec {s = c.into_iter-mark-iterator.result} c.args.marks.items given.0 (given.1 ∙ c.args.marks.ok.0) in
    let turn = YieldsList-turn all c.loop-mark.yielded c.loop-mark.mark-iterator c.loop-mark.yielded_by
    c.next.result c.next.new.self c.in-Some.mark c.in-Some.is c.next.ensures.steps in
    omega (
      arith,
      turn.0,
      c.requires,
      c.loop-mark.invariant.0,
      ap length c.loop-mark.invariant.1,
      with_marks-length c.loop-mark.yielded c.args.nodes.items,
      c.loop-mark.nodes.ok.0,
    )

pub loop-mark-preserved : goal.loop-mark-preserved
loop-mark-preserved c =
    let given = c.into_iter-mark-iterator.ensures.into_iter_gives in
    let all = YieldsList-from_vec {s = c.into_iter-mark-iterator.result} c.args.marks.items given.0 (given.1 ∙ c.args.marks.ok.0) in
    let turn = YieldsList-turn all c.loop-mark.yielded c.loop-mark.mark-iterator c.loop-mark.yielded_by
    c.next.result c.next.new.self c.in-Some.mark c.in-Some.is c.next.ensures.steps in (
      omega (arith, c.loop-mark.invariant.0, length-append c.loop-mark.yielded (c.in-Some.mark ∷ [])),
      with_marks-turn c.loop-mark.yielded c.args.nodes.items c.loop-mark.nodes.items c.in-Some.mark c.index_mut.result.now c.loop-mark.place
          c.loop-mark.invariant.0 c.loop-mark.invariant.1 (omega (arith, turn.0, c.requires)) c.index_mut.ensures.value,
    )
