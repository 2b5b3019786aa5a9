-- Declarations of locals and statements: their numbers and lines.
use Rattle.std.proofs.Common.{arith}
use Rattle.std.specs.Prelude.{IfSome}
use Rattle.std.proofs.lemmas.List.Elements.{All-from_recursion}
use Rattle.std.proofs.lemmas.Option.{IfSome_then}
use Rattle.c_grammar.specs.Classes
use Rattle.c_grammar.specs.Trees.{Local, ForInit, Stmt, Stmts}
use Rattle.c_grammar.specs.Spelling.{◌⨾◌, word, maybe, expr_at, simple, initialized, local, for_init, stmt, stmts}
use Rattle.c_grammar.specs.FirstPlaces.{place_of_local}
use Rattle.c_lower_rules.specs.Texts.{IsLine, AreStmtLines, AreStmtsLines}
use Rattle.c_lower_rules.specs.Numbers.{HasIntNumbers, InitializedHasIntNumbers, LocalHasIntNumbers, InitHasIntNumbers, StmtHasIntNumbers}
use Rattle.c_lower_rules.specs.Numbers.{StmtsHaveIntNumbers}
use Rattle.c_lower_rules.proofs.Steps.{nothing_else, then, ends, a_word, a_word_at, an_open, Shows, Takes, more_shown, maybe_shown}
use Rattle.c_lower_rules.proofs.Parts.{a_specifier, a_declarator}
use Rattle.c_lower_rules.proofs.Expressions.{IsFitExpr, an_expr, IsFitSimple, a_simple}

a_value : Shows (λ value. word Classes.SET ⨾ expr_at 0 value) HasIntNumbers
a_value value from to good (mid, h, k) =
    then (a_word Classes.SET from mid good h) (λ w. ends (an_expr value 0 mid to w.good k) (λ x. x.numbers))

an_initialized : Takes initialized InitializedHasIntNumbers
an_initialized one from to good (a, h, k) =
    then (a_declarator one.declarator from a good h) (λ d.
    let m = maybe_shown (λ value. word Classes.SET ⨾ expr_at 0 value) HasIntNumbers a_value one.value a to d.good k in
    ends m (λ numbers. (numbers, omega (arith, d.is.1, m.fewer))))

-- a declaration's line is a 32-bit number, and its numbers are values of an int
pub record IsFitLocal (l : Local) : Type 0 where
  pub line : IsLine (place_of_local l)
  pub numbers : LocalHasIntNumbers l

a_local : Shows local IsFitLocal
a_local l from to good (a, h, (b, i, k)) =
    then (a_specifier l.specifier from a good h) (λ s.
    then (an_initialized l.first a b s.good i) (λ f.
    ends (more_shown initialized InitializedHasIntNumbers an_initialized l.others b to f.good k)
    (λ o. record { line = s.is.0; numbers = (f.is.0, All-from_recursion InitializedHasIntNumbers l.others o.0) })))

an_init : Shows for_init InitHasIntNumbers
an_init ForInit.NoInit from to good h = nothing_else from to good h tt
an_init (ForInit.Locals l) from to good h = ends (a_local l from to good h) (λ x. x.numbers)
an_init (ForInit.Once s) from to good h = ends (a_simple s from to good h) (λ x. x.numbers)

maybe_expr : Shows (maybe (expr_at 0)) (λ value. IfSome value IsFitExpr)
maybe_expr = maybe_shown (expr_at 0) IsFitExpr (λ e. an_expr e 0)

-- a statement, likewise
pub record IsFitStmt (s : Stmt) : Type 0 where
  pub lines : AreStmtLines s
  pub numbers : StmtHasIntNumbers s

pub record AreFitStmts (all : Stmts) : Type 0 where
  pub lines : AreStmtsLines all
  pub numbers : StmtsHaveIntNumbers all

mutual
  a_stmt : Shows stmt IsFitStmt
  a_stmt (Stmt.Block place body end) from to good (a, h, (b, i, k)) =
      then (a_word_at place Classes.OPEN_BRACE from a good h) (λ w.
      then (some_stmts body a b w.good i) (λ x.
      ends (a_word_at end Classes.CLOSE_BRACE b to x.good k) (λ c. record { lines = x.is.lines; numbers = x.is.numbers })))
  a_stmt (Stmt.Empty place) from to good h =
      ends (a_word_at place Classes.SEMICOLON from to good h) (λ w. record { lines = tt; numbers = tt })
  a_stmt (Stmt.Declare l) from to good (a, h, k) =
      then (a_local l from a good h)
      (λ x. ends (a_word Classes.SEMICOLON a to x.good k) (λ w. record { lines = x.is.line; numbers = x.is.numbers }))
  a_stmt (Stmt.Do s) from to good (a, h, k) =
      then (a_simple s from a good h)
      (λ x. ends (a_word Classes.SEMICOLON a to x.good k) (λ w. record { lines = x.is.line; numbers = x.is.numbers }))
  a_stmt (Stmt.If place test body) from to good (lacks, (a, h, (b, i, (c, j, (d, k, l))))) =
      then (a_word_at place Classes.IF from a good h) (λ w.
      then (an_open a b w.good i) (λ o.
      then (an_expr test 0 b c o.good j) (λ x.
      then (a_word Classes.CLOSE c d x.good k) (λ v.
      ends (a_stmt body d to v.good l) (λ y. record { lines = (x.is.line, y.lines); numbers = (x.is.numbers, y.numbers) })))))
  a_stmt (Stmt.IfElse place test body other) from to good (a, h, (b, i, (c, j, (d, k, (e, l, (f, m, n)))))) =
      then (a_word_at place Classes.IF from a good h) (λ w.
      then (an_open a b w.good i) (λ o.
      then (an_expr test 0 b c o.good j) (λ x.
      then (a_word Classes.CLOSE c d x.good k) (λ v.
      then (a_stmt body d e v.good l) (λ y.
      then (a_word Classes.ELSE e f y.good m) (λ u.
      ends (a_stmt other f to u.good n)
      (λ z. record { lines = (x.is.line, y.is.lines, z.lines); numbers = (x.is.numbers, y.is.numbers, z.numbers) })))))))
  a_stmt (Stmt.While place test body) from to good (a, h, (b, i, (c, j, (d, k, l)))) =
      then (a_word_at place Classes.WHILE from a good h) (λ w.
      then (an_open a b w.good i) (λ o.
      then (an_expr test 0 b c o.good j) (λ x.
      then (a_word Classes.CLOSE c d x.good k) (λ v.
      ends (a_stmt body d to v.good l) (λ y. record { lines = (x.is.line, y.lines); numbers = (x.is.numbers, y.numbers) })))))
  a_stmt (Stmt.DoWhile place body test) from to good (a, h, (b, i, (c, j, (d, k, (e, l, (f, m, n)))))) =
      then (a_word_at place Classes.DO from a good h) (λ w.
      then (a_stmt body a b w.good i) (λ y.
      then (a_word Classes.WHILE b c y.good j) (λ v.
      then (an_open c d v.good k) (λ o.
      then (an_expr test 0 d e o.good l) (λ x.
      then (a_word Classes.CLOSE e f x.good m) (λ u.
      ends (a_word Classes.SEMICOLON f to u.good n)
      (λ t. record { lines = (y.is.lines, x.is.line); numbers = (y.is.numbers, x.is.numbers) })))))))
  a_stmt (Stmt.For place init test step body) from to good (a, h, (b, i, (c, j, (d, k, (e, l, (f, m, (g, n, (p, q, r)))))))) =
      then (a_word_at place Classes.FOR from a good h) (λ w.
      then (an_open a b w.good i) (λ o.
      then (an_init init b c o.good j) (λ z.
      then (a_word Classes.SEMICOLON c d z.good k) (λ v.
      then (maybe_expr test d e v.good l) (λ x.
      then (a_word Classes.SEMICOLON e f x.good m) (λ u.
      then (maybe_shown simple IsFitSimple a_simple step f g u.good n) (λ s.
      then (a_word Classes.CLOSE g p s.good q) (λ t.
      ends (a_stmt body p to t.good r) (λ y. record {
        lines = (w.is.0, IfSome_then test x.is (λ e fit. fit.line), IfSome_then step s.is (λ e fit. fit.line), y.lines);
        numbers = (z.is, IfSome_then test x.is (λ e fit. fit.numbers), IfSome_then step s.is (λ e fit. fit.numbers), y.numbers);
      })))))))))
  a_stmt (Stmt.Break place) from to good (a, h, k) =
      then (a_word_at place Classes.BREAK from a good h)
      (λ w. ends (a_word Classes.SEMICOLON a to w.good k) (λ v. record { lines = tt; numbers = tt }))
  a_stmt (Stmt.Continue place) from to good (a, h, k) =
      then (a_word_at place Classes.CONTINUE from a good h)
      (λ w. ends (a_word Classes.SEMICOLON a to w.good k) (λ v. record { lines = tt; numbers = tt }))
  a_stmt (Stmt.Return place value) from to good (a, h, (b, i, k)) =
      then (a_word_at place Classes.RETURN from a good h) (λ w.
      then (maybe_expr value a b w.good i) (λ x.
      ends (a_word Classes.SEMICOLON b to x.good k)
      (λ v. record { lines = w.is.0; numbers = IfSome_then value x.is (λ e fit. fit.numbers) })))

  pub some_stmts : Shows stmts AreFitStmts
  some_stmts Stmts.NoStmts from to good h = nothing_else from to good h (record { lines = tt; numbers = tt })
  some_stmts (Stmts.Next first others) from to good (a, h, k) =
      then (a_stmt first from a good h) (λ x.
      ends (some_stmts others a to x.good k) (λ y. record { lines = (x.is.lines, y.lines); numbers = (x.is.numbers, y.numbers) }))
