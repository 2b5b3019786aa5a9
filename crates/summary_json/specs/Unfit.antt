-- Why no key is read.
use Rattle.std.specs.Prelude.{◌≡◌}
use Rattle.std.specs.declared.option.Option.{Option}
use Rattle.std.specs.declared.option.Option.TheVariants.{Some}
use Rattle.shape_data.specs.declared.answer.Key.{Key}
use Rattle.shape_data.specs.WellFormed.{AreStructs}
use Rattle.flow_json.specs.declared.unread.Unread.{Unread}
use Rattle.flow_json.specs.declared.unread.Unread.TheVariants.{NotOfForm, OutOfMemory}

-- memory wanted, or no key over well-formed structures is read
abbrev pub IsUnfit : Unread → Option Key → Type 0
IsUnfit NotOfForm outcome = (key : Key) → outcome ≡ Some key → AreStructs key.structs → ⊥
IsUnfit OutOfMemory outcome = Unit {0}
