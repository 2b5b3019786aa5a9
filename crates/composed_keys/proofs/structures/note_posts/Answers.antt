use Rattle.component_keys.specs.Structures.{named_by_heap}
use Rattle.shape_data.specs.declared.symbolic.Post.{Post}
use Rattle.composed_keys.proofs.Noted.{more_names}
use Rattle.composed_keys.proofs.structures.note_posts.Goals as goal

pub loop-post-preserved : goal.loop-post-preserved
loop-post-preserved c =
    more_names c.args.structs.now
    (λ (post : Post). named_by_heap post.heap) c.args.posts.now c.loop-post.post-index c.post-item.result c.args.numbers.now.items
    c.loop-post.numbers.items c.note_heap.new.numbers.items c.loop-post.invariant c.loop-post-test.true c.post-item.is
    c.in_ok-note_heap.ensures
