use Rattle.std.proofs.Common.{◌≡◌, ◌++◌, take}
use Rattle.std.specs.List.{flat_map}
use Rattle.report_text.specs.Report.{post_line}
use Rattle.report_text.proofs.blocks.push_posts.Given as goal

-- the lines of the posts so far were appended
abbrev pub invariant-loop-post : goal.invariant-loop-post
invariant-loop-post l = l.text.items ≡ l.fn.text.items ++ flat_map (post_line l.structs l.params l.ty) (take l.post-index l.posts)
