-- Which variables stand behind parameters.
use Rattle.std.specs.Prelude.{List}
use Rattle.c_grammar.specs.Trees.{Param}
use Rattle.c_types_rules.specs.Scopes.{Env}
use Rattle.c_types_rules.specs.Items.{param_variables}

abbrev pub behind_params : Env → List Param → Env
behind_params env params = record env { scopes = record env.scopes { here = param_variables env.tables params env.scopes.here } }
