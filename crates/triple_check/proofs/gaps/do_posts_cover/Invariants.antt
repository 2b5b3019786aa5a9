use Rattle.std.proofs.Common.{◌≡◌, drop}
use Rattle.std.specs.List.{list_all}
use Rattle.triple_check.specs.Steps.{do_posts_cover}
use Rattle.triple_check.proofs.gaps.do_posts_cover.Given as goal

abbrev pub invariant-loop-exit : goal.invariant-loop-exit
invariant-loop-exit l = list_all (do_posts_cover l.spec) l.cert.exits ≡ list_all (do_posts_cover l.spec) (drop l.exit-index l.cert.exits)
