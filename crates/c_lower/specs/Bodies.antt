-- The code of a body, as values.
use Rattle.std.specs.Prelude.{◌≡◌, map}
use Rattle.c_grammar.specs.Trees.{Head}
use Rattle.c_types_rules.specs.Tables.{Tables}
use Rattle.c_lower_rules.specs.Code.{onto}
use Rattle.c_lower_rules.specs.Programs.{lowered_body, temp_kind}
use Rattle.c_lower_emit.specs.Seen.{loop_seen}
use Rattle.c_types_names.specs.Seen.{type_seen}
use Rattle.c_tree.specs.Syntax.{BlockTree}
use Rattle.c_lower.specs.declared.body.Body.{Body}

-- these are the nodes, loops and temporaries of the body of a procedure
pub record IsBodyOf (tables : Tables) (head : Head) (block : BlockTree) (found : Body) : Type 0 where
  pub nodes : found.nodes.items ≡ (lowered_body tables head block.body block.end).code.nodes 0 (onto 0)
  pub loops : map loop_seen found.loops.items ≡ (lowered_body tables head block.body block.end).code.loops 0
  pub temps : map type_seen found.temps.items ≡ map temp_kind (lowered_body tables head block.body block.end).behind.temps
