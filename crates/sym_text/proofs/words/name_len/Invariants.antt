-- The bytes so far may stand in names.
use Rattle.std.proofs.Common.{◌≡◌, ◌+◌, drop}
use Rattle.std.specs.List.{prefix_len}
use Rattle.shape_data.specs.Names.{is_name_byte}
use Rattle.sym_text.proofs.words.name_len.Given as goal

abbrev pub invariant-loop-place : goal.invariant-loop-place
invariant-loop-place l = prefix_len is_name_byte l.text ≡ l.place + prefix_len is_name_byte (drop l.place l.text)
