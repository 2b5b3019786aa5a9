-- Each post has its case.
use Rattle.std.proofs.Common.{◌∙◌, ◌++◌, ap, map}
use Rattle.exec_laws.specs.Calling.{after_post}
use Rattle.sym_exec.specs.Callers.{fit_in}
use Rattle.sym_exec.proofs.Collected.{mapped_more}
use Rattle.sym_exec.proofs.calls.add_after_fit.Goals as goal

pub loop-post-preserved : goal.loop-post-preserved
loop-post-preserved c =
    mapped_more (after_post c.args.to c.args.next c.args.caller.now.pair.now
    (fit_in c.args.fit.now)) c.args.fit.now.posts.now c.loop-post.post-index c.post-item.result c.in_ok-case.case
    (c.args.cases.now.items
    ++ map (after_post c.args.to c.args.next c.args.caller.now.pair.now
    (fit_in c.args.fit.now)) c.args.fit.now.posts.now) c.loop-post.cases.items c.push.new.self.items
    c.loop-post-test.true c.loop-post.invariant
    (c.in_ok-case.ensures
    ∙ ap (after_post c.args.to c.args.next c.args.caller.now.pair.now (fit_in c.args.fit.now)) c.post-item.is) c.in_ok-push.ensures.items
