-- What the values of the crate stand for among the definitions of lowering.
use Rattle.c_lower_rules.specs.Code as code
use Rattle.c_lower_rules.specs.Temporaries as temporaries
use Rattle.c_types_names.specs.Seen.{type_seen}
use Rattle.c_lower_emit.specs.declared.loops.Loop.{Loop}
use Rattle.c_lower_emit.specs.declared.temps.Temp.{Temp}

-- a temporary
abbrev pub temp_seen : Temp → temporaries.Temp
temp_seen temp = record { kind = type_seen temp.kind; used = temp.used }

-- a loop
abbrev pub loop_seen : Loop → code.Loop
loop_seen one = record { head = one.head; past = one.past; visible = one.visible }
