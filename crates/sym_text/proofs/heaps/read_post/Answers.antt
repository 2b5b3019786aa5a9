use Rattle.sym_text.proofs.Turns.{post_got, post_within, post_refuses}
use Rattle.sym_text.proofs.heaps.read_post.Goals as goal

pub bad_spec-requires-clause-within : goal.bad_spec-requires-clause-within
bad_spec-requires-clause-within c =
    post_within c.args.structs.now c.args.params.now c.requires.structs c.requires.params c.args.text.now c.in-Err.fault
    c.in-Err.ensures.err

pub returns-in-Ok-clause-post : goal.returns-in-Ok-clause-post
returns-in-Ok-clause-post c =
    (post_got c.args.structs.now c.args.params.now c.requires.structs c.requires.params c.args.text.now c.in-Ok.post _ c.in-Ok.ensures.ok).0

pub returns-in-Ok-clause-text : goal.returns-in-Ok-clause-text
returns-in-Ok-clause-text c =
    (post_got c.args.structs.now c.args.params.now c.requires.structs c.requires.params c.args.text.now c.in-Ok.post _ c.in-Ok.ensures.ok).1

pub returns-in-Err-clause-bad : goal.returns-in-Err-clause-bad
returns-in-Err-clause-bad c =
    rw c.bad_spec.ensures
    (post_refuses c.args.structs.now c.args.params.now c.requires.structs c.requires.params c.args.text.now c.in-Err.fault
    c.in-Err.ensures.err)
