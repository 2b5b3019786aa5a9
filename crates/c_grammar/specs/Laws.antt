-- What the laws of the grammar say.
use Rattle.std.specs.Prelude.{◌≡◌, ℕ, ◌≤◌, ◌⊎◌, List, [], ◌∷◌, None}
use Rattle.c_grammar.specs.declared.tokens.places.Place.{Place}
use Rattle.c_grammar.specs.declared.tokens.places.Refusal.{Refusal}
use Rattle.c_grammar.specs.declared.tokens.token.Token.{Token}
use Rattle.c_grammar.specs.Tokens.Grammar.{HasTokens}
use Rattle.c_grammar.specs.Tokens.TokenLists.{IsTokenList}
use Rattle.c_grammar.specs.Nesting.{file_nesting}
use Rattle.c_grammar.specs.Placeless.{placeless}
use Rattle.c_grammar.specs.Printing.{printed_text}
use Rattle.c_grammar.specs.Refusals.{MOST_LEVELS, RefusedAt}
use Rattle.c_grammar.specs.Classes
use Rattle.c_grammar.specs.Spelling.{Spells, level_of, expr_at, params, stmt}
use Rattle.c_grammar.specs.Trees.{Name, Specifier, Params, BinaryOp, Expr, Links, Stmt, File}
use Rattle.c_grammar.specs.Words.{Word, words_of}

-- no words have two trees, not even with other places
abbrev pub HaveOneTree : Type 0
HaveOneTree = (words : List Word) (one other : File) → Spells one words → Spells other words → one ≡ other

-- the text that is printed of a file has tokens, which spell the same file up to places
abbrev pub HaveRoundTrip : Type 0
HaveRoundTrip =
    (tokens : List Token) (file : File) → IsTokenList tokens → Spells file (words_of tokens)
    → (again : List Token) × (same : File) × HasTokens (printed_text file) again × Spells same (words_of again)
    × (placeless same ≡ placeless file) × (file_nesting same ≡ file_nesting file)

-- no words are refused twice
abbrev pub HaveOneRefusal : Type 0
HaveOneRefusal = (words : List Word) (one other : Refusal) → RefusedAt words one → RefusedAt words other → one ≡ other

-- no words are refused that a file within the levels spells
abbrev pub HaveNotBoth : Type 0
HaveNotBoth = (words : List Word) (file : File) (refusal : Refusal) → Spells file words → file_nesting file ≤ MOST_LEVELS
    → ¬ RefusedAt words refusal

-- each list of tokens is spelled by a file within the levels, or refused
abbrev pub HaveEither : Type 0
HaveEither =
    (tokens : List Token) → IsTokenList tokens
    → ((file : File) × Spells file (words_of tokens) × (file_nesting file ≤ MOST_LEVELS))
    ⊎ ((refusal : Refusal) × RefusedAt (words_of tokens) refusal)

-- an operand of an operator binds tighter than the operator: `a - (b - c)` is not written `a - b - c` (C11 6.5)
abbrev pub HaveTighterOperands : Type 0
HaveTighterOperands =
    (level : ℕ) (first second third : Expr) (op other : BinaryOp) (inner outer : Links) (from to : List Word) → level_of other ≤ level_of op
    → ¬ expr_at level (Expr.Chain first (Links.Link op (Expr.Chain second (Links.Link other third inner)) outer)) from to

abbrev pub name_word : Name → Word
name_word n = record { class = Classes.NAME; text = n.text; place = n.place }

abbrev pub minus_word : Place → Word
minus_word place = record { class = Classes.MINUS; text = []; place = place }

-- `a - b - c` is one chain
abbrev pub HaveChains : Type 0
HaveChains =
    (a b c : Name) (first second : Place)
    → expr_at 0 (Expr.Chain (Expr.Variable a)
    (Links.Link BinaryOp.Subtract (Expr.Variable b) (Links.Link BinaryOp.Subtract (Expr.Variable c) Links.NoLinks)))
    (name_word a ∷ minus_word first ∷ name_word b ∷ minus_word second ∷ name_word c ∷ []) []

-- an `if` without `else` is not written before an `else` (C11 6.8.4.1)
abbrev pub HaveNearestElse : Type 0
HaveNearestElse =
    (place second : Place) (test inner : Expr) (body other : Stmt) (from to : List Word)
    → ¬ stmt (Stmt.IfElse place test (Stmt.If second inner body) other) from to

-- `void` alone is no list of parameters (C11 6.7.6.3)
abbrev pub HaveVoidAlone : Type 0
HaveVoidAlone = (place : Place) (from to : List Word)
    → ¬ params (Params.Listed (record { specifier = Specifier.Void place; stars = 0; name = None }) []) from to
