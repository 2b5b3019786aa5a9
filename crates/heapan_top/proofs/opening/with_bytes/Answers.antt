-- What was loaded is as it is to be looked up in.
use Rattle.std.proofs.Common.{◌≡◌, List, [], Some, rules, subst, true}
use Rattle.claim_core.specs.Views.{Solution, solutions_of}
use Rattle.heapan_top.specs.Stores.{Opens}
use Rattle.heapan_top.proofs.Fronts.{entries_are_stored, opens_without}
use Rattle.heapan_top.proofs.opening.with_bytes.Goals as goal

pub of-requires : goal.of-requires
of-requires c = entries_are_stored c.in-Entries.entries (search rules)

pub returns-in_ok-loaded-in-Entries : goal.returns-in_ok-loaded-in-Entries
returns-in_ok-loaded-in-Entries c =
    let same : solutions_of c.in-Entries.entries ≡ c.in_ok-loaded-in-Entries.loaded.value = search rules in
    subst (λ (all : List Solution). Opens (Some (Some c.args.bytes.now)) (record { loaded = all; saves = true }) []) same
    (Opens.loaded c.args.bytes.now (record { entries = solutions_of c.in-Entries.entries; dropped = c.in-Entries.dropped }) c.requires
    (search rules))

pub returns-in-Unread : goal.returns-in-Unread
returns-in-Unread c =
    opens_without (Some (Some c.args.bytes.now)) true true
    (Opens.unread c.args.bytes.now c.in-Unread.why c.requires (search rules)) c.without_entries.result c.without_entries.ensures.loaded
    c.without_entries.ensures.unread
