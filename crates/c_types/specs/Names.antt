-- Which names the values of the crate stand for.
use Rattle.std.specs.Prelude.{◌≡◌, List, map, reverse}
use Rattle.c_grammar.specs.Trees.{Name}
use Rattle.c_tree.specs.Syntax.{ident_tree}
use Rattle.c_types_rules.specs.Items.{is_listed}
use Rattle.c_types_names.specs.declared.name_set.NameSet.{NameSet}
use Rattle.c_types_names.specs.NameSets.{has}
use Rattle.c_types.specs.declared.names.Named.{Named}

abbrev pub named_seen : Named → Name
named_seen one = ident_tree one.name.now

-- the last one first
unfoldable pub names_before : List Named → List Name
names_before names = reverse (map named_seen names)

-- the set has these names
pub record Lists (set : NameSet) (names : List Name) : Type 0 where
  pub same : (n : Name) → has set n.text ≡ is_listed names n
