-- The entries so far were fed.
use Rattle.std.proofs.Common.{◌≡◌, map, take}
use Rattle.reporters.specs.Feeding.{steady_count}
use Rattle.heapan_top.specs.Fed.{WereFed}
use Rattle.heapan_top.proofs.turns.reply.Given as goal

abbrev pub invariant-loop-told : goal.invariant-loop-told
invariant-loop-told g l = record {
  fed :
      WereFed (l.reporters.items ≡ l.fn.reporters.items) (take l.told-index l.told-items)
      (map (λ one. (goal.Reporter-dyn g (one.vtable, one.value)).known one.value) l.fn.reporters.items)
      (map (λ one. (goal.Reporter-dyn g (one.vtable, one.value)).known one.value) l.reporters.items);
  steady :
      steady_count (map (λ one. (goal.Reporter-dyn g (one.vtable, one.value)).known one.value) l.reporters.items)
      ≡ steady_count (map (λ one. (goal.Reporter-dyn g (one.vtable, one.value)).known one.value) l.fn.reporters.items);
}
