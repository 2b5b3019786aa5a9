use Rattle.std.proofs.Common.{◌≡◌, drop}
use Rattle.exec_laws.specs.Calling.{first_subtracted}
use Rattle.sym_exec.proofs.calls.first_subtracted.Given as goal

abbrev pub invariant-loop-spec : goal.invariant-loop-spec
invariant-loop-spec l = first_subtracted l.caller.args.now l.caller.pair.now l.specs
    ≡ first_subtracted l.caller.args.now l.caller.pair.now (drop l.spec-index l.specs)
