-- What writing words to a text does, whatever words come behind.
use Rattle.std.specs.Prelude.{◌≡◌, ℕ, zero, suc, List, ◌∷◌, ◌++◌, Option, codes}
use Rattle.c_grammar.specs.Trees.{Name, Specifier, Expr, Args, Simple, ForInit, Stmt}
use Rattle.c_grammar.specs.Printing.{Texts, spaced_texts, print_maybe, print_name, print_specifier, print_expr, print_args, print_simple}
use Rattle.c_grammar.specs.Printing.{print_init, print_stmt, print_stmts}
use Rattle.c_tree.specs.Syntax.{BlockTree}

-- of the words to print before anything behind, all but those that `rest` prints have been written, each with a space behind it
pub record PrintsUpTo (rest : Texts → Texts) (print : Texts → Texts) (before : List ℕ) (after : List ℕ) : Type 0 where
  pub shown : (behind : Texts) → after ++ spaced_texts (rest behind) ≡ before ++ spaced_texts (print behind)

-- the words to print before anything behind have been written
abbrev pub Prints : (Texts → Texts) → List ℕ → List ℕ → Type 0
Prints print before after = PrintsUpTo (λ behind. behind) print before after

-- a comma before each but the first, which stands at place 0
abbrev pub print_comma : ℕ → Texts → Texts
print_comma zero behind = behind
print_comma (suc place) behind = codes "," ∷ behind

-- `( TYPE * )` before a `malloc`, if there is a cast
abbrev pub print_cast : Option Specifier → Texts → Texts
print_cast as_type behind = print_maybe (λ cast rest. codes "(" ∷ print_specifier cast (codes "*" ∷ codes ")" ∷ rest)) as_type behind

-- a call of a function by its name
abbrev pub print_call : Name → Args → Texts → Texts
print_call callee args behind = print_name callee (codes "(" ∷ print_args args (codes ")" ∷ behind))

-- a word, and an expression in parentheses
abbrev pub print_in_parens : List ℕ → Expr → Texts → Texts
print_in_parens word inner behind = word ∷ codes "(" ∷ print_expr inner (codes ")" ∷ behind)

-- `= VALUE`, if there is a value
abbrev pub print_value : Option Expr → Texts → Texts
print_value value behind = print_maybe (λ one rest. codes "=" ∷ print_expr one rest) value behind

-- `for` and its three parts in parentheses
abbrev pub print_for : ForInit → Option Expr → Option Simple → Texts → Texts
print_for init test step behind =
    codes "for" ∷ codes "("
    ∷ print_init init (codes ";" ∷ print_maybe print_expr test (codes ";" ∷ print_maybe print_simple step (codes ")" ∷ behind)))

-- `return`, the value, if there is one, and a semicolon
abbrev pub print_return : Option Expr → Texts → Texts
print_return value behind = codes "return" ∷ print_maybe print_expr value (codes ";" ∷ behind)

-- a word, a test in parentheses, and a statement
abbrev pub print_tested : List ℕ → Expr → Stmt → Texts → Texts
print_tested word test body behind = print_in_parens word test (print_stmt body behind)

-- `else` and a statement, if there is one
abbrev pub print_else : Option Stmt → Texts → Texts
print_else other behind = print_maybe (λ one rest. codes "else" ∷ print_stmt one rest) other behind

-- `do`, a statement, `while` with a test in parentheses, and a semicolon
abbrev pub print_do_while : Stmt → Expr → Texts → Texts
print_do_while body test behind = codes "do" ∷ print_stmt body (print_in_parens (codes "while") test (codes ";" ∷ behind))

-- statements in braces
abbrev pub print_block : BlockTree → Texts → Texts
print_block block behind = codes "{" ∷ print_stmts block.body (codes "}" ∷ behind)
