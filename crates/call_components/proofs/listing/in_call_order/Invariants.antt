use Rattle.std.proofs.Common.{◌-◌, [], length, map}
use Rattle.call_components.specs.Reaching.{rows}
use Rattle.call_components.specs.Waiting.{AreWaiting, IsBounded, outside_of}
use Rattle.call_components.proofs.ListedByMarks.{IsListing}
use Rattle.call_components.proofs.listing.in_call_order.Given as goal

abbrev pub invariant-loop-turn : goal.invariant-loop-turn
invariant-loop-turn l = record {
  listing : IsListing l.names (rows l.calls) (length l.names - l._turn) (rows l.listed.items) l.marks.items;
  bounded : IsBounded (length l.all) (length l.calls) l.waiting;
  waiting : AreWaiting (rows l.all) (map (outside_of l.kinds (rows l.calls)) (rows l.all)) l.marks.items [] [] l.waiting;
}
