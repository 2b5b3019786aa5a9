-- Parameters, one behind another.
use Rattle.std.proofs.Common.{◌≡◌, List}
use Rattle.c_grammar.specs.Trees.{Name, Param}
use Rattle.c_types_rules.specs.Tables.{Tables}
use Rattle.c_types_rules.specs.Items.{each_param_refusals}
use Rattle.c_types_names.specs.declared.first_refusal.FirstRefusal.{FirstRefusal}
use Rattle.c_types_names.specs.declared.name_set.NameSet.{NameSet}
use Rattle.c_types_names.specs.FirstRefusal.{with_refusals}
use Rattle.c_types.specs.Names.{Lists}

-- the set has the names of the parameters that were looked at; with those that are left, the whole is refused
pub record HasLookedAt (tables : Tables) (set : NameSet) (left : List Param) (now whole : FirstRefusal) : Type 0 where
  pub names : List Name
  pub lists : Lists set names
  pub passes : with_refusals now (each_param_refusals tables names left) ≡ whole
