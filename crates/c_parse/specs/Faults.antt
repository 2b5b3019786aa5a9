-- What a fault of the parser says.
use Rattle.std.specs.Prelude.{List}
use Rattle.c_grammar.specs.declared.tokens.fault.ReadFault.{ReadFault}
use Rattle.c_grammar.specs.declared.tokens.fault.ReadFault.TheVariants.{Refused, OutOfMemory}
use Rattle.c_grammar.specs.Words.{Word}
use Rattle.c_grammar.specs.Refusals.{RefusedAt}

-- the words are refused there, with that code; want of memory says nothing
abbrev pub IsSyntaxFault : List Word → ReadFault → Type 0
IsSyntaxFault words (Refused refusal) = RefusedAt words refusal
IsSyntaxFault words OutOfMemory = Unit {0}
