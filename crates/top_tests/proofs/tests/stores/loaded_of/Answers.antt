-- What was loaded is as it is to be looked up in.
use Rattle.std.proofs.Common.{rules}
use Rattle.heapan_top.proofs.Fronts.{entries_are_stored}
use Rattle.top_tests.proofs.tests.stores.loaded_of.Goals as goal

pub of-requires : goal.of-requires
of-requires c = entries_are_stored c.in-Entries.entries (search rules)
