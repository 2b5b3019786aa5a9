-- When a file is not put.
use Rattle.std.specs.Prelude.{◌≡◌, ℕ, Option, Some, None}
use Rattle.project_form.specs.declared.fault.PutFault.{PutFault}
use Rattle.project_form.specs.declared.fault.PutFault.TheVariants as fault

-- a code is the one of the refusal; memory is wanted only where there is none
abbrev pub IsPutFault : Option ℕ → PutFault → Type 0
IsPutFault refusal (fault.Code code) = refusal ≡ Some code
IsPutFault refusal fault.OutOfMemory = refusal ≡ None
