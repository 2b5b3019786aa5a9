-- The addresses at which the atoms of a symbolic heap say that cells stand.
use Rattle.std.specs.Prelude.{List}
use Rattle.std.specs.List.{filter_map}
use Rattle.std.specs.declared.option.Option.{Option}
use Rattle.std.specs.declared.option.Option.TheVariants.{None, Some}
use Rattle.shape_data.specs.declared.symbolic.Atom.{Atom}
use Rattle.shape_data.specs.declared.symbolic.Atom.TheVariants.{Points, Seg, Junk}
use Rattle.shape_data.specs.declared.symbolic.Exp.{Exp}

-- the address of an atom's cell, if it is a cell
abbrev pub address_of : Atom → Option Exp
address_of (Points at kind fields) = Some at
address_of (Seg kind link from to) = None
address_of Junk = None

-- the addresses of the cells, one for each
abbrev pub addresses : List Atom → List Exp
addresses atoms = filter_map address_of atoms
