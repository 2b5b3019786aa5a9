-- Words that a form derives. No public contract cites it.
use Rattle.std.specs.Prelude.{◌≡◌, List, ◌++◌}
use Rattle.grammar_laws.specs.Form.{Form, Derives}
use Rattle.c_grammar.specs.Words.{Word, classes}

-- the form derives the words up to the words behind them
pub record IsForm (form : Form) (from to : List Word) : Type 0 where
  pub front : List Word
  pub splits : from ≡ front ++ to
  pub derives : Derives form (classes front) (classes to)
