use Rattle.std.proofs.Common.{◌≡◌, ◌++◌, drop, map}
use Rattle.exec_laws.specs.Calling.{after_post}
use Rattle.sym_exec.specs.Callers.{fit_in}
use Rattle.sym_exec.proofs.calls.add_after_fit.Given as goal

abbrev pub invariant-loop-post : goal.invariant-loop-post
invariant-loop-post l =
    l.initial.cases.items ++ map (after_post l.to l.next l.caller.pair.now (fit_in l.fit)) l.fit.posts.now
    ≡ l.cases.items ++ map (after_post l.to l.next l.caller.pair.now (fit_in l.fit)) (drop l.post-index l.fit.posts.now)
