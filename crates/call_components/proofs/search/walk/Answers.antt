use Rattle.std.proofs.Common.{◌≡◌, ◌<◌, length, ap, subst, sym, arith}
use Rattle.call_components.specs.Reaching.{rows}
use Rattle.std.proofs.lemmas.List.{length-map}
use Rattle.call_components.specs.Searching.{AreMet}
use Rattle.call_components.proofs.Turns.{met_visit, open_not_new, root_search}
use Rattle.call_components.proofs.search.walk.Goals as goal

pub loop-top-init : goal.loop-top-init
loop-top-init c =
    let counted : length (rows c.args.calls.now) ≡ length c.args.calls.now = length-map c.args.calls.now (λ row. row.items) in
    let root : c.args.root < length c.args.calls.now = c.requires.root in
    let same : length c.args.search.now.marks.items ≡ length (rows c.args.calls.now) = c.requires.search.lengths in
    record {
      search =
          root_search (rows c.args.calls.now) c.requires.defined c.args.search.now.marks.items c.visit.new.search.marks.items
          c.args.search.now.stack.items c.visit.new.search.stack.items c.args.search.now.entries.items c.visit.new.search.entries.items
          c.args.search.now.todo.items c.visit.new.search.todo.items (length c.args.search.now.done.items)
          (length c.visit.new.search.done.items) c.args.root
          c.requires.search c.requires.closed
          (omega (arith, counted, root)) c.requires.new c.in_ok-visit.ensures.marks c.in_ok-visit.ensures.stack
          c.in_ok-visit.ensures.entries c.in_ok-visit.ensures.todo (ap length c.visit.ensures.done);
      met =
          subst (AreMet c.args.search.now.marks.items) (sym c.in_ok-visit.ensures.marks)
          (met_visit c.args.search.now.marks.items c.args.root (length c.args.search.now.stack.items));
      root =
          open_not_new c.args.search.now.marks.items c.visit.new.search.marks.items c.args.root (length c.args.search.now.stack.items)
          (omega (arith, counted, root, same)) c.in_ok-visit.ensures.marks;
    }
