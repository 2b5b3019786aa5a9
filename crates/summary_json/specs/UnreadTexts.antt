-- Why a string is not read whose text is refused.
use Rattle.sym_text.specs.declared.fault.BadSpec.{BadSpec}
use Rattle.sym_text.specs.declared.fault.BadSpec.TheVariants as bad
use Rattle.flow_json.specs.declared.unread.Unread.{Unread}
use Rattle.flow_json.specs.declared.unread.Unread.TheVariants as unread

-- it is not of the form, or memory wanted
abbrev pub unread_of : BadSpec → Unread
unread_of (bad.At offset) = unread.NotOfForm
unread_of bad.OutOfMemory = unread.OutOfMemory
