use Rattle.std.proofs.Common.{◌+◌, refl, sym, ◌∙◌, arith, true≢false}
use Rattle.summary_store.proofs.CheckLaws.{dropped_so_far, nothing_checked, same_solution, turn_drops, turn_keeps}
use Rattle.summary_store.proofs.loading.checked.Goals as goal
use Rattle.summary_store.proofs.loading.checked.Goals.{else-branch, then-branch+in_ok-share+in_ok-share-2+in_ok-push}

pub loop-entry-init : goal.loop-entry-init
loop-entry-init c = rw c.new-left.ensures nothing_checked

pub loop-entry-preserved : goal.loop-entry-preserved
loop-entry-preserved c =
    let l = c.loop-entry in
    let exact = c.in_ok-is_inductive.ensures in
    elim c.if-branch.branch [
      | then-branch+in_ok-share+in_ok-share-2+in_ok-push w ↦
          rw (w.left-is, w.dropped-is) (turn_keeps c.args.entries.now l.left w.push.new.self l.entry-index l.dropped c.entry-item.result _
          c.loop-entry-test.true c.entry-item.is (same_solution _ _ c.entry-item.result w.in_ok-share.ensures w.in_ok-share-2.ensures)
          w.in_ok-push.ensures.ok (exact.0 w.if-branch.true) l.invariant)
      | else-branch w ↦
          rw (w.left-is, w.dropped-is) (turn_drops c.args.entries.now l.left l.entry-index l.dropped (l.dropped + 1)
          c.entry-item.result c.loop-entry-test.true c.entry-item.is refl
          (λ is. true≢false (sym (exact.1 is) ∙ w.if-branch.false)) l.invariant)
    ]

pub overflow_add-dropped : goal.overflow_add-dropped
overflow_add-dropped c =
    let few =
    dropped_so_far c.args.entries.now c.loop-entry.left c.loop-entry.entry-index c.loop-entry.dropped c.loop-entry-test.true
    c.loop-entry.invariant in
    let all = c.requires.few in
    omega (arith, few, all)
