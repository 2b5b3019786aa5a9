-- The book of the empty program.
use Rattle.std.proofs.Common.{◌≡◌, List, [], length, slice_get, refl, sym, ap, ◌∙◌, arith}
use Rattle.std.proofs.lemmas.List.Elements.{All-nil}
use Rattle.shape_data.specs.declared.program.Program.{Program}
use Rattle.shape_data.specs.WellFormed.{IsProgram}
use Rattle.component_keys.specs.Components.{components}
use Rattle.component_keys.specs.Keys.{Component, program_components}
use Rattle.component_keys.proofs.Basics.{not_none}
use Rattle.shape_data.specs.Sizes.{HasProgramSizes}
use Rattle.claim_laws.specs.Logs.{replay}
use Rattle.summary_book.specs.declared.rows.Parts.{Parts}
use Rattle.summary_book.specs.Book.{AreRows}
use Rattle.summary_book.specs.Rows.{AreParts}
use Rattle.summary_book.proofs.Events.{not_both}

abbrev pub empty_program : Program
empty_program = record { structs = []; procs = [] }

pub empty_formed : IsProgram empty_program
empty_formed = record {
  structs = record { countable = omega arith; each = All-nil _; different = λ i j d lt within. absurd (grind (arith, within)) };
  countable = omega arith;
  flows = All-nil _;
  lines = All-nil _;
  different = λ i j d lt within. absurd (grind (arith, within));
  calls = All-nil _;
}

pub empty_sizes : HasProgramSizes empty_program
empty_sizes = record { structs = All-nil _; procs = All-nil _ }

no_components : program_components empty_program ≡ []
unfolding program_components components
no_components = refl

pub first_rows : (parts : Parts) → parts.program.value ≡ empty_program → AreParts parts → AreRows (replay []) [] parts [] [] [] 0 0
first_rows parts program_is are = record {
  program_is = program_is;
  parts_are = are;
  slots_are =
      record {
        lengths = ap length (sym no_components);
        each = λ place part at. not_none (ap (λ (l : List Component). slice_get l place) (sym no_components) ∙ at);
      };
  marks_are = record { lengths = ap length (sym no_components); settled = λ place mark. not_both mark refl };
  out_are = tt;
  revision_is = refl;
  made_is = refl;
}
