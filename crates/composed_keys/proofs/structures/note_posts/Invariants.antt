use Rattle.std.proofs.Common.{◌≡◌, ◌++◌, take}
use Rattle.std.specs.List.{flat_map}
use Rattle.component_keys.specs.Structures.{struct_numbers, named_by_heap}
use Rattle.shape_data.specs.declared.symbolic.Post.{Post}
use Rattle.composed_keys.proofs.structures.note_posts.Given as goal

abbrev pub invariant-loop-post : goal.invariant-loop-post
invariant-loop-post l = l.numbers.items
    ≡ l.initial.numbers.items ++ struct_numbers l.structs (flat_map (λ (post : Post). named_by_heap post.heap) (take l.post-index l.posts))
