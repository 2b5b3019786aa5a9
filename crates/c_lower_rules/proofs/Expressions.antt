-- Expressions and simple statements: their numbers and lines.
use Rattle.std.proofs.Common.{ℕ, ◌+◌, List}
use Rattle.std.specs.Prelude.{Option, Some, None}
use Rattle.c_grammar.specs.declared.tokens.places.Place.{Place}
use Rattle.c_grammar.specs.Classes
use Rattle.c_grammar.specs.Words.{Word}
use Rattle.c_grammar.specs.Trees.{Specifier, Expr, Links, Args, Simple}
use Rattle.c_grammar.specs.Spelling.{◌⨾◌, word, name, level_of, class_of_binary, class_of_prefix, class_of_assign, class_of_step, size_of}
use Rattle.c_grammar.specs.Spelling.{malloc, expr_at, links_at, call_args, more_args, simple}
use Rattle.c_lower_rules.specs.Texts.{IsLine, IsExprLine, IsSimpleLine}
use Rattle.c_lower_rules.specs.Numbers.{HasIntNumbers, HaveIntNumbers, AllHaveIntNumbers, SimpleHasIntNumbers}
use Rattle.c_lower_rules.proofs.GoodWords.{AreGood}
use Rattle.c_lower_rules.proofs.Steps.{Has, nothing_else, then, ends, a_word, a_word_at, an_open, a_name, a_number, Shows, all_shown}
use Rattle.c_lower_rules.proofs.Parts.{a_specifier}

a_size_of : Shows size_of (λ allocated. Unit {0})
a_size_of allocated from to good (a, h, (b, i, (c, j, (d, k, (e, l, m))))) =
    then (an_open from a good h) (λ p.
    then (a_word Classes.SIZEOF a b p.good i) (λ q.
    then (an_open b c q.good j) (λ r.
    then (a_specifier allocated c d r.good k) (λ s.
    then (a_word Classes.CLOSE d e s.good l) (λ t. ends (a_word Classes.CLOSE e to t.good m) (λ u. tt))))))

a_malloc : (place : Place) (as_type : Option Specifier) (allocated : Specifier) (from to : List Word) → AreGood from
    → malloc place as_type allocated from to
    → Has from to (IsLine place)
a_malloc place None allocated from to good (a, h, k) =
    then (a_word_at place Classes.MALLOC from a good h) (λ w. ends (a_size_of allocated a to w.good k) (λ s. w.is.0))
a_malloc place (Some as_type) allocated from to good (a, (b, h, (c, i, (d, j, k))), (e, l, m)) =
    then (a_word_at place Classes.CAST from b good h) (λ w.
    then (a_specifier as_type b c w.good i) (λ s.
    then (a_word Classes.STAR c d s.good j) (λ t.
    then (a_word Classes.CLOSE d a t.good k) (λ u.
    then (a_word Classes.MALLOC a e u.good l) (λ v. ends (a_size_of allocated e to v.good m) (λ x. w.is.0))))))

a_member : Shows (λ field. word Classes.ARROW ⨾ name field) (λ field. Unit {0})
a_member field from to good (mid, h, k) = then (a_word Classes.ARROW from mid good h) (λ w. ends (a_name field mid to w.good k) (λ n. tt))

-- an expression's line is a 32-bit number, and its numbers are values of an int
pub record IsFitExpr (e : Expr) : Type 0 where
  pub line : IsExprLine e
  pub numbers : HasIntNumbers e

mutual
  pub an_expr : (e : Expr) (level : ℕ) (from to : List Word) → AreGood from → expr_at level e from to → Has from to (IsFitExpr e)
  an_expr (Expr.Chain first Links.NoLinks) level from to good h = absurd h
  an_expr (Expr.Chain first (Links.Link op second others)) level from to good (least, (a, h, (b, i, (c, j, k)))) =
      then (an_expr first (level_of op + 1) from a good h) (λ f.
      then (a_word (class_of_binary op) a b f.good i) (λ w.
      then (an_expr second (level_of op + 1) b c w.good j) (λ s.
      ends (some_links others (level_of op) c to s.good k)
      (λ l. record { line = f.is.line; numbers = (f.is.numbers, (s.is.numbers, l)) }))))
  an_expr (Expr.Prefix place op inner) level from to good (least, (a, h, k)) =
      then (a_word_at place (class_of_prefix op) from a good h) (λ w.
      ends (an_expr inner 6 a to w.good k) (λ i. record { line = w.is.0; numbers = i.numbers }))
  an_expr (Expr.Members base first others) level from to good (least, (a, h, (b, i, (c, j, k)))) =
      then (an_expr base 8 from a good h) (λ x.
      then (a_word Classes.ARROW a b x.good i) (λ w.
      then (a_name first b c w.good j) (λ n.
      ends (all_shown (λ field. word Classes.ARROW ⨾ name field) (λ field. Unit {0}) a_member others c to n.good k)
      (λ o. record { line = x.is.line; numbers = x.is.numbers }))))
  an_expr (Expr.Variable v) level from to good h = ends (a_name v from to good h) (λ n. record { line = n.0.line; numbers = tt })
  an_expr (Expr.Number place value) level from to good h =
      ends (a_number place value from to good h) (λ n. record { line = n.0; numbers = n.1 })
  an_expr (Expr.Null place) level from to good h =
      ends (a_word_at place Classes.NULL from to good h) (λ w. record { line = w.0; numbers = tt })
  an_expr (Expr.Paren place inner) level from to good (a, h, (b, i, k)) =
      then (a_word_at place Classes.OPEN from a good h) (λ w.
      then (an_expr inner 0 a b w.good i) (λ x.
      ends (a_word Classes.CLOSE b to x.good k) (λ c. record { line = w.is.0; numbers = x.is.numbers })))
  an_expr (Expr.Call callee args) level from to good (a, h, (b, i, (c, j, k))) =
      then (a_name callee from a good h) (λ n.
      then (an_open a b n.good i) (λ o.
      then (some_args args b c o.good j) (λ x.
      ends (a_word Classes.CLOSE c to x.good k) (λ w. record { line = n.is.0.line; numbers = x.is }))))
  an_expr (Expr.Malloc place as_type allocated) level from to good h =
      ends (a_malloc place as_type allocated from to good h) (λ line. record { line = line; numbers = tt })

  some_links : (links : Links) (level : ℕ) (from to : List Word) → AreGood from → links_at level links from to
      → Has from to (HaveIntNumbers links)
  some_links Links.NoLinks level from to good h = nothing_else from to good h tt
  some_links (Links.Link op operand others) level from to good (same, (a, h, (b, i, k))) =
      then (a_word (class_of_binary op) from a good h) (λ w.
      then (an_expr operand (level + 1) a b w.good i) (λ x. ends (some_links others level b to x.good k) (λ l. (x.is.numbers, l))))

  some_args : Shows call_args AllHaveIntNumbers
  some_args Args.NoArgs from to good h = nothing_else from to good h tt
  some_args (Args.Arg first others) from to good (a, h, k) =
      then (an_expr first 0 from a good h) (λ x. ends (other_args others a to x.good k) (λ o. (x.is.numbers, o)))

  other_args : Shows more_args AllHaveIntNumbers
  other_args Args.NoArgs from to good h = nothing_else from to good h tt
  other_args (Args.Arg first others) from to good (a, h, (b, i, k)) =
      then (a_word Classes.COMMA from a good h) (λ w.
      then (an_expr first 0 a b w.good i) (λ x. ends (other_args others b to x.good k) (λ o. (x.is.numbers, o))))

-- a simple statement, likewise
pub record IsFitSimple (s : Simple) : Type 0 where
  pub line : IsSimpleLine s
  pub numbers : SimpleHasIntNumbers s

pub a_simple : Shows simple IsFitSimple
a_simple (Simple.Assign target op value) from to good (a, h, (b, i, k)) =
    then (an_expr target 7 from a good h) (λ x.
    then (a_word (class_of_assign op) a b x.good i) (λ w.
    ends (an_expr value 0 b to w.good k) (λ y. record { line = x.is.line; numbers = (x.is.numbers, y.numbers) })))
a_simple (Simple.Step target op) from to good (a, h, k) =
    then (an_expr target 7 from a good h)
    (λ x. ends (a_word (class_of_step op) a to x.good k) (λ w. record { line = x.is.line; numbers = x.is.numbers }))
a_simple (Simple.Perform callee args) from to good (a, h, (b, i, (c, j, k))) =
    then (a_name callee from a good h) (λ n.
    then (an_open a b n.good i) (λ o.
    then (some_args args b c o.good j) (λ x.
    ends (a_word Classes.CLOSE c to x.good k) (λ w. record { line = n.is.0.line; numbers = x.is }))))
a_simple (Simple.Free place pointer) from to good (a, h, (b, i, (c, j, k))) =
    then (a_word_at place Classes.FREE from a good h) (λ w.
    then (an_open a b w.good i) (λ o.
    then (an_expr pointer 0 b c o.good j) (λ x.
    ends (a_word Classes.CLOSE c to x.good k) (λ v. record { line = w.is.0; numbers = x.is.numbers }))))
