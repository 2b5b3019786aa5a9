use Rattle.std.proofs.Common.{◌≡◌, ◌++◌, drop, map}
use Rattle.std.specs.List.{flat_map}
use Rattle.exec_laws.specs.Calling.{after_fit}
use Rattle.sym_exec.specs.Callers.{fit_in}
use Rattle.sym_exec.proofs.calls.after_found.Given as goal

abbrev pub invariant-loop-fit : goal.invariant-loop-fit
invariant-loop-fit l =
    flat_map (after_fit l.to l.next l.caller.pair.now) (map fit_in l.fits)
    ≡ l.cases.items ++ flat_map (after_fit l.to l.next l.caller.pair.now) (map fit_in (drop l.fit-index l.fits))
