-- What was listed, and how an annotation ends, as the code has them.
use Rattle.std.specs.declared.option.Option.{Option}
use Rattle.std.specs.declared.option.Option.TheVariants.{None, Some}
use Rattle.solve_laws.specs.declared.annotation.parts.Annotated.{Annotated}
use Rattle.solve_laws.specs.declared.annotation.parts.Annotated.TheVariants as annotated
use Rattle.solve_laws.specs.Annotation.Annotation.{all_done}
use Rattle.solve_laws.specs.Annotation.Listing as listing
use Rattle.solve_laws.specs.Annotation.Listing.{Course, Ends, Goes}
use Rattle.post_gen.specs.declared.listing.Ended.{Ended}
use Rattle.post_gen.specs.declared.listing.Ended.TheVariants as ended
use Rattle.post_gen.specs.declared.listing.Listing.{Listing}

-- the definitions' listing
abbrev pub listing_in : Listing → listing.Listing
listing_in it = record { nodes = it.nodes.items; exits = it.exits; queue = it.queue.items }

-- how it ended
abbrev pub annotated_by : Ended → Annotated
annotated_by (ended.Fail cause line) = annotated.Fail cause line
annotated_by (ended.Spent what count) = annotated.Spent what count

-- it goes on with what is listed, unless it ended
abbrev pub course_of : Option Ended → listing.Listing → Course
course_of None it = Goes it
course_of (Some how) it = Ends (annotated_by how)

-- all is done with what is listed, unless it ended
abbrev pub annotated_of : Option Ended → listing.Listing → Annotated
annotated_of None it = all_done it
annotated_of (Some how) it = annotated_by how
