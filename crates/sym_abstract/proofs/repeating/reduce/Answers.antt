use Rattle.std.proofs.Common.{◌≡◌, ◌<◌, ◌∙◌, ap, arith, subst, sym}
use Rattle.shape_data.specs.declared.symbolic.SymHeap.{SymHeap}
use Rattle.abstraction_laws.specs.Repeating.{reduce, reduce_once, size_of}
use Rattle.abstraction_laws.specs.Rooms.{HaveFewFields}
use Rattle.abstraction_laws.proofs.DoneLaws.{once-falls, reduce-goes_on, reduced-stays}
use Rattle.abstraction_laws.proofs.FewLaws.{once-few}
use Rattle.sym_abstract.proofs.repeating.reduce.Goals as goal

pub loop-heap-preserved : goal.loop-heap-preserved
loop-heap-preserved c =
    let heap : SymHeap = c.loop-heap.heap in
    record {
      same = ap (reduce c.args.joins c.args.locals.now) c.in_ok-heap.ensures
          ∙ (reduce-goes_on c.args.joins c.args.locals.now heap ∙ c.loop-heap.invariant.same);
      size = c.size_of-left.ensures;
      few =
          subst (λ (h : SymHeap). HaveFewFields h.spatial) (sym c.in_ok-heap.ensures)
          (once-few c.args.joins c.args.locals.now heap c.loop-heap.invariant.few);
    }

pub loop-heap-smaller : goal.loop-heap-smaller
loop-heap-smaller c =
    let heap : SymHeap = c.loop-heap.heap in
    let now : c.size_of-left.result ≡ size_of (reduce_once c.args.joins c.args.locals.now heap) =
    c.size_of-left.ensures ∙ ap size_of c.in_ok-heap.ensures in
    let before : c.loop-heap.size ≡ size_of heap = c.loop-heap.invariant.size in
    let falls : size_of (reduce_once c.args.joins c.args.locals.now heap) < size_of heap =
    once-falls c.args.joins c.args.locals.now heap (λ same. c.if-left-size.false (now ∙ (same ∙ sym before))) in
    omega (arith, now, before, falls)

pub returns-then-left-size : goal.returns-then-left-size
returns-then-left-size c =
    let heap : SymHeap = c.loop-heap.heap in
    let now : c.size_of-left.result ≡ size_of (reduce_once c.args.joins c.args.locals.now heap) =
    c.size_of-left.ensures ∙ ap size_of c.in_ok-heap.ensures in
    let before : c.loop-heap.size ≡ size_of heap = c.loop-heap.invariant.size in
    let same : size_of (reduce_once c.args.joins c.args.locals.now heap) ≡ size_of heap = sym now ∙ (c.if-left-size.true ∙ before) in
    c.in_ok-heap.ensures ∙ (sym (reduced-stays c.args.joins c.args.locals.now heap same) ∙ c.loop-heap.invariant.same)
