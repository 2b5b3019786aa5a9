use Rattle.std.proofs.Common.{◌++◌, ap, sym, ◌∙◌}
use Rattle.std.proofs.lemmas.Result.{IfOk-equal}
use Rattle.shape_data.specs.declared.symbolic.Atom.{Atom}
use Rattle.sym_text.specs.Text.{atom_text}
use Rattle.sym_text.proofs.LedTexts.{cell_text}
use Rattle.sym_text.proofs.printing.push_atom.Goals as goal

pub returns-in-Some : goal.returns-in-Some
returns-in-Some c = IfOk-equal c.push_cell.result c.push_cell.new.text.items _ _ c.push_cell.ensures (
    cell_text c.args.structs.now c.args.params.now c.args.text.now.items c.in-Points.at c.in-Points.kind c.in-Some.def.now _
    c.in-Points.fields _ c.in-Some.ensures c.as_slice.ensures c.as_slice-in-Some.ensures
    ∙ ap (λ (atom : Atom). c.args.text.now.items ++ atom_text c.args.structs.now c.args.params.now atom) (sym c.in-Points.is)
    )
