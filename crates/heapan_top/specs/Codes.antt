-- The numbers that the process ends with.
use Rattle.std.specs.Prelude.{ℕ}
use Rattle.heapan_top.specs.declared.status.Status.{Status}
use Rattle.heapan_top.specs.declared.status.Status.TheVariants as status

-- the number of a status
abbrev pub code_of : Status → ℕ
code_of status.Done = 0
code_of status.Unproven = 1
code_of (status.Refused command offset) = 2
code_of status.ReadFault = 3
code_of status.WriteFault = 4
code_of status.StoreFault = 5
code_of status.Usage = 6
code_of status.Full = 7
code_of status.NoMemory = 8
