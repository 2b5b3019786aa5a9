use Rattle.std.proofs.Common.{◌≢◌}
use Rattle.call_components.specs.Reaching.{rows}
use Rattle.call_components.specs.declared.marks.Mark.TheVariants.{New}
use Rattle.call_components.specs.Searching.{AreMet, IsSearch, mark_of, work_left}
use Rattle.call_components.proofs.search.walk.Given as goal

abbrev pub invariant-loop-top : goal.invariant-loop-top
invariant-loop-top l =
    record {
      search : IsSearch (rows l.calls) l.search;
      met : AreMet l.fn.search.marks.items l.search.marks.items;
      root : mark_of l.search.marks.items l.root ≢ New;
    }

abbrev pub decreases-loop-top : goal.decreases-loop-top
decreases-loop-top l = work_left (rows l.calls) l.search
