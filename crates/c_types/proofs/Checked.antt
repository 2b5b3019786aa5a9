-- What is kept in the type of a program that was checked, and what is said of the types of its expressions.
use Rattle.std.proofs.Common.{◌≡◌, Some, List, [], All, map, sym, ap, ◌∙◌, subst}
use Rattle.shape_data.specs.declared.program.StructDef.{StructDef}
use Rattle.c_grammar.specs.Trees.{File}
use Rattle.c_types_rules.specs.Types.{Kind, IsKnown}
use Rattle.c_types_rules.specs.Tables.{Tables}
use Rattle.c_types_rules.specs.Programs.{tables_of, kinds_of, known, IsWellTyped, struct_def, first_structures}
use Rattle.c_types_rules.specs.Laws.{HaveKnown}
use Rattle.c_types.specs.Typing.{IsTyped}
use Rattle.c_types.proofs.KnownKinds.{all_known}

pub typed_is : (files : List File) (tables : Tables) (defs : List StructDef) → IsWellTyped files → tables ≡ tables_of files
    → defs ≡ map (struct_def tables) (first_structures [] tables.structures) → IsTyped files tables defs
typed_is files tables defs fine tables_is defs_is = record {
  well_typed = fine;
  tables = tables_is;
  structs = defs_is ∙ ap (λ (t : Tables). map (struct_def t) (first_structures [] t.structures)) tables_is;
}

pub types_known : HaveKnown → (files : List File) (found : List Kind) → IsWellTyped files → found ≡ kinds_of files
    → map Some (map known found) ≡ found
types_known laws files found fine is = all_known found (subst (All IsKnown) (sym is) (laws files fine))
