use Rattle.std.proofs.Common.{◌++◌, ◌∙◌, ap}
use Rattle.std.specs.List.{flat_map}
use Rattle.std.proofs.lemmas.Result.{IfOk-weaker}
use Rattle.shape_data.specs.declared.symbolic.Post.{Post}
use Rattle.component_keys.specs.Structures.{named_by_heap, struct_numbers}
use Rattle.composed_keys.proofs.Noted.{two_noted}
use Rattle.composed_keys.proofs.structures.note_spec.Goals as goal

pub returns : goal.returns
returns c =
    IfOk-weaker c.note_posts.result _ _
    (λ u is.
    two_noted c.args.structs.now c.args.numbers.now.items c.note_heap.new.numbers.items c.note_posts.new.numbers.items
    (named_by_heap c.args.spec.now.pre) (flat_map (λ (post : Post). named_by_heap post.heap) c.args.spec.now.posts)
    c.in_ok-note_heap.ensures
    (is ∙ ap (λ l. c.note_heap.new.numbers.items
    ++ struct_numbers c.args.structs.now (flat_map (λ (post : Post). named_by_heap post.heap) l)) c.deref.ensures)) c.note_posts.ensures
