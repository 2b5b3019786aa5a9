-- Why a value is not read.
use Rattle.std.specs.Prelude.{◌≡◌}
use Rattle.std.specs.declared.option.Option.{Option}
use Rattle.std.specs.declared.option.Option.TheVariants.{None}
use Rattle.flow_json.specs.declared.unread.Unread.{Unread}
use Rattle.flow_json.specs.declared.unread.Unread.TheVariants.{NotOfForm, OutOfMemory}

-- memory wanted, or nothing is read
abbrev pub IsUnread : {A : Type 0} → Unread → Option A → Type 0
IsUnread NotOfForm outcome = outcome ≡ None
IsUnread OutOfMemory outcome = Unit {0}
