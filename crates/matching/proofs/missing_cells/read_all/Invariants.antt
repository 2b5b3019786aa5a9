use Rattle.std.proofs.Common.{◌≡◌, map, take}
use Rattle.sym_matching.specs.Reading.{read}
use Rattle.matching.proofs.missing_cells.read_all.Given as goal

abbrev pub invariant-loop-want : goal.invariant-loop-want
invariant-loop-want l = l.all ≡ map (read l.setting.facts.now l.m.binding) (take l.want-index l.wants)
