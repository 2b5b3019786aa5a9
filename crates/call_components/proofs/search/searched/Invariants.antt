use Rattle.std.proofs.Common.{◌≡◌, ◌≢◌, ◌<◌, ℕ, []}
use Rattle.call_components.specs.Reaching.{rows}
use Rattle.call_components.specs.declared.marks.Mark.TheVariants.{New}
use Rattle.call_components.specs.Searching.{IsSearch, mark_of}
use Rattle.call_components.proofs.search.searched.Given as goal

abbrev pub invariant-loop-number : goal.invariant-loop-number
invariant-loop-number l =
    record {
      search : IsSearch (rows l.calls) l.search;
      closed : l.search.entries.items ≡ [];
      met : (number : ℕ) → number < l.number → mark_of l.search.marks.items number ≢ New;
    }
