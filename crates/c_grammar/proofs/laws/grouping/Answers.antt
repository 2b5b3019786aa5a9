use Rattle.c_grammar.proofs.Grouping.{tighter_operands, chains as chain_law, nearest_else as else_law, void_alone as void_law}
use Rattle.c_grammar.proofs.laws.grouping.Goals as goal

pub returns : goal.returns
returns c = record {
  operands = tighter_operands;
  chains = chain_law;
  nearest_else = else_law;
  void_alone = void_law;
}
