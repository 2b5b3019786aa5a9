use Rattle.std.proofs.Common.{◌≡◌, ◌≤◌, length, arith}
use Rattle.std.proofs.lemmas.List.{length-map}
use Rattle.call_components.specs.Reaching.{rows}
use Rattle.call_components.proofs.search.searched.Goals as goal

pub returns : goal.returns
returns c =
    let counted : length (rows c.args.calls.now) ≡ length c.args.calls.now = length-map c.args.calls.now (λ row. row.items) in
    let all : length c.args.calls.now ≤ c.loop-number.number = c.loop-number-test.false in
    record {
      search = c.loop-number.invariant.search;
      closed = c.loop-number.invariant.closed;
      met = λ number lt. c.loop-number.invariant.met number (omega (arith, counted, all, lt));
    }
