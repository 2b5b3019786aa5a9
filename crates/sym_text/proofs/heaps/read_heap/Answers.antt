use Rattle.sym_text.proofs.Turns.{heap_got, heap_within, heap_refuses}
use Rattle.sym_text.proofs.heaps.read_heap.Goals as goal

pub bad_spec-requires-clause-within : goal.bad_spec-requires-clause-within
bad_spec-requires-clause-within c =
    heap_within c.args.structs.now c.args.params.now c.requires.structs c.requires.params c.args.text.now c.in-Err.fault
    c.in-Err.ensures.err

pub returns-in-Ok-clause-heap : goal.returns-in-Ok-clause-heap
returns-in-Ok-clause-heap c =
    (heap_got c.args.structs.now c.args.params.now c.requires.structs c.requires.params c.args.text.now c.in-Ok.heap _ c.in-Ok.ensures.ok).0

pub returns-in-Ok-clause-text : goal.returns-in-Ok-clause-text
returns-in-Ok-clause-text c =
    (heap_got c.args.structs.now c.args.params.now c.requires.structs c.requires.params c.args.text.now c.in-Ok.heap _ c.in-Ok.ensures.ok).1

pub returns-in-Err-clause-bad : goal.returns-in-Err-clause-bad
returns-in-Err-clause-bad c =
    rw c.bad_spec.ensures
    (heap_refuses c.args.structs.now c.args.params.now c.requires.structs c.requires.params c.args.text.now c.in-Err.fault
    c.in-Err.ensures.err)
