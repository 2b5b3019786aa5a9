use Rattle.std.proofs.lemmas.List.Filters.{FiltersInPlace}
use Rattle.c_lower_emit.specs.OpenPlaces.{is_open_at}
use Rattle.c_lower_emit.proofs.draft_list.keep_open.Given as goal

abbrev pub invariant-loop-index : goal.invariant-loop-index
invariant-loop-index l = FiltersInPlace (is_open_at l.drafts) l.initial.places l.places l.kept l.index
