use Rattle.std.proofs.Common.{◌≡◌, drop}
use Rattle.sym_parts.specs.Laws.Expressions.{is_among}
use Rattle.sym_parts.proofs.expressions.is_among.Given as goal

abbrev pub invariant-loop-f : goal.invariant-loop-f
invariant-loop-f l = is_among l.e l.list ≡ is_among l.e (drop l.f-index l.list)
