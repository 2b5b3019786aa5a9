use Rattle.std.proofs.Common.{◌≡◌, ◌+◌, drop}
use Rattle.std.specs.List.{position_or_len}
use Rattle.sym_canon.specs.FactOrder.{is_fact_before}
use Rattle.sym_canon.proofs.facts.place_of.Given as goal

abbrev pub invariant-loop-place : goal.invariant-loop-place
invariant-loop-place l = position_or_len (is_fact_before l.fact) l.facts
    ≡ l.place + position_or_len (is_fact_before l.fact) (drop l.place l.facts)
