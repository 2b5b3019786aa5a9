-- The parts are of one program.
use Rattle.std.proofs.Common.{◌≡◌, ◌∙◌, map, length, sym, ap, subst}
use Rattle.shape_data.specs.declared.program.Program.{Program}
use Rattle.shape_data.specs.WellFormed.{IsProgram}
use Rattle.component_keys.specs.Keys.{flows_of, program_components}
use Rattle.composed_keys.specs.Rows.{AreWithin, component_value}
use Rattle.composed_keys.specs.Used.{AreStructures}
use Rattle.shape_data.specs.Sizes.{HasProgramSizes}
use Rattle.summary_book.proofs.Components.{calls_are}
use Rattle.composed_keys.proofs.CallRows.{called_in_row}
use Rattle.summary_book.proofs.parts.parts_of.Goals as goal

pub returns-clause-parts : goal.returns-clause-parts
returns-clause-parts c =
    let program = c.in_ok-program.program.value in
    let items = c.in_ok-components.components.items in
    let e : program ≡ c.args.program.now.value = c.in_ok-program.ensures in
    let components : map (component_value (flows_of program)) items ≡ program_components program =
    subst (λ p. map (component_value (flows_of p)) items ≡ program_components p)
    (c.deref-3.ensures ∙ sym e) c.in_ok-components.ensures.are in
    let within : AreWithin (length program.procs) items =
    subst (λ (p : Program). AreWithin (length p.procs) items) (c.deref-3.ensures ∙ sym e) c.in_ok-components.ensures.within in
    record {
      formed = subst IsProgram (sym e) c.requires.formed;
      sizes = subst HasProgramSizes (sym e) c.requires.sizes;
      structures =
          subst (λ s. AreStructures s c.in_ok-structures.structures)
          (c.deref-2.ensures ∙ ap (λ (p : Program). p.structs) (c.deref.ensures ∙ sym e)) c.in_ok-structures.ensures;
      components = components;
      within = within;
      calls = c.in_ok-calls.ensures ∙ ap (map called_in_row) c.deref-4.ensures.value
          ∙ calls_are program items components (λ place row at. (within place row at).outer);
    }
