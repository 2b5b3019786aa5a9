use Rattle.std.proofs.Common.{◌≡◌, ◌++◌, map}
use Rattle.c_types_rules.specs.Items.{listed, param_names}
use Rattle.c_lower_rules.specs.Programs.{name_text}
use Rattle.c_tree.specs.NonEmpty.{left}
use Rattle.c_tree.specs.Syntax.{param_tree, params_tree}
use Rattle.c_lower.proofs.slots.name_texts.Given as goal

abbrev pub invariant-loop-param : goal.invariant-loop-param
invariant-loop-param l =
    l.names ++ map name_text (param_names (map param_tree (left l.param-iterator)))
    ≡ map name_text (param_names (listed (params_tree l.params)))
