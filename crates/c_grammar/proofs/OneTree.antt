-- No words have two syntax trees.
use Rattle.c_grammar.specs.Laws.{HaveOneTree}
use Rattle.c_grammar.proofs.UniqueChains.{expr_unique}
use Rattle.c_grammar.proofs.UniqueSimples.{simple_unique, local_unique, apart_clauses}
use Rattle.c_grammar.proofs.UniqueStmts.{ClausesUnique}
use Rattle.c_grammar.proofs.UniqueFiles.{file_unique}

clauses_unique : ClausesUnique
clauses_unique = record {
  unique_expr = expr_unique;
  unique_simple = simple_unique;
  unique_local = local_unique;
  local_or_simple = λ n l s from to. apart_clauses n l s from to;
}

pub one_tree : HaveOneTree
one_tree words one other = file_unique clauses_unique words one other
