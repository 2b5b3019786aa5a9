-- One text behind another.
use Rattle.std.proofs.Common.{◌≡◌, true, false, Option, List, [], ◌∷◌, length, refl, append_assoc}
use Rattle.std.specs.Prelude.{◌==◌}
use Rattle.std.specs.List.{flat_map}
use Rattle.shape_data.specs.declared.answer.Reason.{Reason}
use Rattle.shape_data.specs.declared.program.Proc.{Proc}
use Rattle.shape_data.specs.declared.program.StructDef.{StructDef}
use Rattle.shape_data.specs.declared.symbolic.Spec.{Spec}
use Rattle.report_text.specs.Report.{spec_lines, summary_lines}
use Rattle.std.proofs.lemmas.List.{append-nil}

pub ruleset appending = (append_assoc, append-nil)

-- the lines of a summary that has a spec
pub lines_of_specs : (structs : List StructDef) (proc : Proc) (specs : List Spec) (why : Option Reason) → (length specs == 0) ≡ false
    → summary_lines structs proc specs why ≡ flat_map (spec_lines structs proc.flow.params proc.flow.ret) specs
lines_of_specs structs proc [] why some = let clash : true ≡ false = some in absurd cc
lines_of_specs structs proc (spec ∷ specs) why some = refl
