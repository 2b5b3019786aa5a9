-- Structures whose fields can be counted in an int, as in every file that was parsed.
use Rattle.std.specs.Prelude.{length, All}
use Rattle.c_grammar.specs.Trees.{Item, File}
use Rattle.c_types_rules.specs.Items.{field_names}
use Rattle.c_lower_rules.specs.Numbers.{IsIntNumber}

-- the structure that an item defines, if it defines one, has such a number of fields
abbrev pub ItemHasCountableFields : Item → Type 0
ItemHasCountableFields (Item.StructItem place tag lines) = IsIntNumber (length (field_names lines))
ItemHasCountableFields (Item.TypedefStruct place tag lines alias) = IsIntNumber (length (field_names lines))
ItemHasCountableFields _ = Unit {0}

-- each structure that the file defines has such a number of fields
abbrev pub HasCountableFields : File → Type 0
HasCountableFields file = All ItemHasCountableFields file.items
