-- What is written, and what is still to come, are the whole.
use Rattle.std.proofs.Common.{◌≡◌, ◌++◌, map, drop}
use Rattle.std.specs.Prelude.{codes}
use Rattle.sym_text.specs.Led.{led_texts}
use Rattle.sym_text.specs.Text.{atom_text}
use Rattle.sym_text.proofs.printing.push_atoms.Given as goal

abbrev pub invariant-loop-atom : goal.invariant-loop-atom
invariant-loop-atom l =
    l.text.items ++ led_texts (codes " * ") l.led (map (atom_text l.structs l.params) (drop l.atom-index l.atoms))
    ≡ l.fn.text.items ++ led_texts (codes " * ") l.fn.led (map (atom_text l.structs l.params) l.atoms)
