-- Which file a text is, and why it is none.
use Rattle.std.specs.Prelude.{◌≡◌, ℕ, ◌≤◌, ◌⊎◌, Result, List, IfOk, IfErr}
use Rattle.c_grammar.specs.declared.tokens.places.Refusal.{Refusal}
use Rattle.c_grammar.specs.declared.tokens.token.Token.{Token}
use Rattle.c_grammar.specs.Tokens.Grammar.{HasTokens, Refuses}
use Rattle.c_grammar.specs.declared.tokens.fault.ReadFault.{ReadFault}
use Rattle.c_grammar.specs.declared.tokens.fault.ReadFault.TheVariants.{Refused, OutOfMemory}
use Rattle.c_grammar.specs.Nesting.{file_nesting}
use Rattle.c_grammar.specs.Placeless.{placeless}
use Rattle.c_grammar.specs.Refusals.{MOST_LEVELS, RefusedAt}
use Rattle.c_grammar.specs.Spelling.{Spells}
use Rattle.c_grammar.specs.Trees.{File}
use Rattle.c_grammar.specs.Words.{words_of}
use Rattle.c_tree.specs.declared.items.Unit.{Unit as UnitValue}
use Rattle.c_tree.specs.Syntax.{unit_tree}

-- the text has tokens that spell the file, within the levels of nesting
pub record IsUnitOf (text : List ℕ) (file : File) : Type 0 where
  pub tokens : List Token
  pub has : HasTokens text tokens
  pub spells : Spells file (words_of tokens)
  pub levels : file_nesting file ≤ MOST_LEVELS

-- the text is refused there: it has no tokens, or its tokens begin no file
abbrev pub IsRefusedText : List ℕ → Refusal → Type 0
IsRefusedText text refusal = Refuses text refusal ⊎ ((tokens : List Token) × HasTokens text tokens × RefusedAt (words_of tokens) refusal)

-- want of memory says nothing
abbrev pub IsReadFault : List ℕ → ReadFault → Type 0
IsReadFault text (Refused refusal) = IsRefusedText text refusal
IsReadFault text OutOfMemory = Unit {0}

-- the same file is read, up to places, where memory suffices
pub record ReadsBack (file : File) (result : Result UnitValue ReadFault) : Type 0 where
  pub same : IfOk result (λ unit. placeless (unit_tree unit) ≡ placeless file)
  pub memory : IfErr result (λ fault. fault ≡ OutOfMemory)
