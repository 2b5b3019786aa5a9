-- What the grammar's forms derive is spelled by a syntax tree that nests no deeper than the form's levels: statements,
-- items and files.
use Rattle.std.proofs.Common.{◌≡◌, ◌⊎◌, inl, inr, ℕ, zero, suc, ◌≤◌, true, false, List, [], ◌∷◌, refl, sym, subst, arith}
use Rattle.std.specs.Prelude.{Some, None, ◌==◌, ◌||◌}
use Rattle.std.proofs.lemmas.Bool.{eq-eqb}
use Rattle.grammar_laws.specs.Form.{Form, Word as AWord, Closed, Nothing, Both, Either, Many, begins_in}
use Rattle.c_grammar.specs.declared.tokens.places.Place.{Place}
use Rattle.c_grammar.specs.Classes
use Rattle.c_grammar.specs.Words.{Word, classes}
use Rattle.c_grammar.specs.Matching.{IsForm}
use Rattle.c_grammar.specs.Trees.{Name, Specifier, Head, Expr, AssignOp, StepOp, Simple, ForInit, Stmt, Stmts, Item, File}
use Rattle.c_grammar.specs.Spelling.{word, word_at, open_paren, name, specifier, head, expr_at, class_of_assign, simple, initialized, local}
use Rattle.c_grammar.specs.Spelling.{for_init, NoElse, stmt, stmts, item, Spells}
use Rattle.c_grammar.specs.Nesting.{nesting, simple_nesting, initialized_nesting, local_nesting, init_nesting, stmt_nesting, stmts_nesting}
use Rattle.c_grammar.specs.Nesting.{item_nesting, file_nesting}
use Rattle.c_grammar.specs.Forms
use Rattle.c_grammar.proofs.Parts.{is_both, is_first, is_second, is_nothing, nothing_part, both_parts, either_part, known_part}
use Rattle.c_grammar.proofs.Parts.{nearest_part, IsMany, many_none, many_more, many_parts}
use Rattle.c_grammar.proofs.DerivedExprs.{Found, Finds, word_rule, word_at_rule, name_found, open_rule, many_found, maybe_found}
use Rattle.c_grammar.proofs.DerivedExprs.{comma_finds, declarator_found, struct_body_found, params_found, args_found, postfix_found}
use Rattle.c_grammar.proofs.DerivedExprs.{expr_found, below_found}

abbrev pub FoundSimple : ℕ → List Word → List Word → Type 0
FoundSimple n from to = Found simple simple_nesting n from to

abbrev assign_op_form : Form
assign_op_form =
    Either (AWord Classes.SET) (Either (AWord Classes.ADD_TO) (Either (AWord Classes.SUBTRACT_FROM) (AWord Classes.MULTIPLY_BY)))

assign_op_found : (from to : List Word) → IsForm assign_op_form from to → (op : AssignOp) × word (class_of_assign op) from to
assign_op_found from to f = first (either_part f)
  where
    third : IsForm (AWord Classes.SUBTRACT_FROM) from to ⊎ IsForm (AWord Classes.MULTIPLY_BY) from to
        → (op : AssignOp) × word (class_of_assign op) from to
    third (inl g) = (AssignOp.SubtractFrom, word_rule Classes.SUBTRACT_FROM from to g)
    third (inr g) = (AssignOp.MultiplyBy, word_rule Classes.MULTIPLY_BY from to g)

    second : IsForm (AWord Classes.ADD_TO) from to ⊎ IsForm (Either (AWord Classes.SUBTRACT_FROM) (AWord Classes.MULTIPLY_BY)) from to
        → (op : AssignOp) × word (class_of_assign op) from to
    second (inl g) = (AssignOp.AddTo, word_rule Classes.ADD_TO from to g)
    second (inr g) = third (either_part g)

    first : IsForm (AWord Classes.SET) from to
        ⊎ IsForm (Either (AWord Classes.ADD_TO) (Either (AWord Classes.SUBTRACT_FROM) (AWord Classes.MULTIPLY_BY))) from to
        → (op : AssignOp) × word (class_of_assign op) from to
    first (inl g) = (AssignOp.Set, word_rule Classes.SET from to g)
    first (inr g) = second (either_part g)

-- a target and what is done to it
assigned : (n : ℕ) (from mid to : List Word) → IsForm (Forms.postfix_form n (Forms.expr_below n)) from mid
    → IsForm (Forms.assign_form (Forms.expr_form n)) mid to → FoundSimple n from to
assigned n from mid to target f =
    let (e, eh, deep) = postfix_found n (below_found n) from mid target in
    first e eh deep (either_part f)
  where
    second : (e : Expr) → expr_at 7 e from mid → nesting e ≤ n
        → IsForm (AWord Classes.INCREMENT) mid to ⊎ IsForm (AWord Classes.DECREMENT) mid to → FoundSimple n from to
    second e eh deep (inl g) = (Simple.Step e StepOp.Increment, (mid, eh, word_rule Classes.INCREMENT mid to g), deep)
    second e eh deep (inr g) = (Simple.Step e StepOp.Decrement, (mid, eh, word_rule Classes.DECREMENT mid to g), deep)

    first : (e : Expr) → expr_at 7 e from mid → nesting e ≤ n
        → IsForm (Both assign_op_form (Forms.expr_form n)) mid to
        ⊎ IsForm (Either (AWord Classes.INCREMENT) (AWord Classes.DECREMENT)) mid to
        → FoundSimple n from to
    first e eh deep (inl g) =
        let (a, o, v) = both_parts g in
        let (op, oh) = assign_op_found mid a o in
        let (value, vh, vdeep) = expr_found n a to v in
        (Simple.Assign e op value, (mid, eh, (a, oh, vh)), omega arith)
    first e eh deep (inr g) = second e eh deep (either_part g)

-- a simple statement behind a name and the arguments of a call
called : (n : ℕ) (from a b to : List Word) → IsForm (AWord Classes.NAME) from a → IsForm (Forms.call_form n (Forms.expr_below n)) a b
    → FoundSimple n from b → IsForm (Forms.call_tail_form n) b to → FoundSimple n from to
called n from a b to named call perform f = by_case (either_part f)
  where
    by_case : IsForm (Both Forms.members_form (Forms.assign_form (Forms.expr_form n))) b to ⊎ IsForm Nothing b to → FoundSimple n from to
    by_case (inl g) =
        let (c, members, assign) = both_parts g in
        assigned n from c to (is_both (is_first (is_both named (is_first call))) members) assign
    by_case (inr g) = subst (λ w. FoundSimple n from w) (nothing_part g) perform

performed : (n : ℕ) (from a b c d : List Word) → IsForm (AWord Classes.NAME) from a → open_paren a b
    → IsForm (Forms.optional (Both (Forms.expr_form n) (Forms.more_of (Forms.expr_form n)))) b c → IsForm (AWord Classes.CLOSE) c d
    → FoundSimple (suc n) from d
performed n from a b c d named paren args close =
    let (callee, ch) = name_found from a named in
    let (all, ah, deep) = args_found n (expr_found n) b c args in
    (Simple.Perform callee all, (a, ch, (b, paren, (c, ah, word_rule Classes.CLOSE c d close))), omega arith)

call_then_found : (n : ℕ) (from a to : List Word) → IsForm (AWord Classes.NAME) from a → IsForm (Forms.call_then_form n) a to
    → FoundSimple n from to
call_then_found zero from a to named f = by_case (either_part f)
  where
    by_case : IsForm (Closed Classes.OPEN) a to ⊎ IsForm (Closed Classes.CAST) a to → FoundSimple zero from to
    by_case (inl g) = absurd g.derives
    by_case (inr g) = absurd g.derives
call_then_found (suc n) from a to named f = by_case (either_part f)
  where
    by_case : IsForm
        (Both (AWord Classes.OPEN)
        (Both (Forms.optional (Both (Forms.expr_form n) (Forms.more_of (Forms.expr_form n))))
        (Both (AWord Classes.CLOSE) (Forms.call_tail_form (suc n))))) a to
        ⊎ IsForm (Both (AWord Classes.CAST)
        (Both (Forms.optional (Both (Forms.expr_form n) (Forms.more_of (Forms.expr_form n))))
        (Both (AWord Classes.CLOSE) (Forms.call_tail_form (suc n))))) a to
        → FoundSimple (suc n) from to
    by_case (inl g) =
        let (b, paren, h) = both_parts g in
        let (c, args, i) = both_parts h in
        let (d, close, tail) = both_parts i in
        called (suc n) from a d to named (is_first (is_both paren (is_both args close)))
        (performed n from a b c d named (inl (word_rule Classes.OPEN a b paren)) args close) tail
    by_case (inr g) =
        let (b, paren, h) = both_parts g in
        let (c, args, i) = both_parts h in
        let (d, close, tail) = both_parts i in
        called (suc n) from a d to named (is_second (is_both paren (is_both args close)))
        (performed n from a b c d named (inr (word_rule Classes.CAST a b paren)) args close) tail

named_found : (n : ℕ) (from a to : List Word) → IsForm (AWord Classes.NAME) from a → IsForm (Forms.name_tail_form n) a to
    → FoundSimple n from to
named_found n from a to named f = by_case (either_part f)
  where
    by_case : IsForm (Forms.call_then_form n) a to ⊎ IsForm (Both Forms.members_form (Forms.assign_form (Forms.expr_form n))) a to
        → FoundSimple n from to
    by_case (inl g) = call_then_found n from a to named g
    by_case (inr g) =
        let (b, members, assign) = both_parts g in
        assigned n from b to (is_both (is_first (is_both named (is_second (is_nothing a a refl)))) members) assign

other_found : (n : ℕ) (from to : List Word) → IsForm (Forms.other_simple_form n) from to → FoundSimple n from to
other_found n from to f = by_case (either_part f)
  where
    by_case : IsForm (Both (AWord Classes.FREE) (Both Forms.open_form (Both (Forms.expr_form n) (AWord Classes.CLOSE)))) from to
        ⊎ IsForm (Both (Forms.closed_form n (Forms.expr_below n)) (Both Forms.members_form (Forms.assign_form (Forms.expr_form n)))) from to
        → FoundSimple n from to
    by_case (inl g) =
        let (a, key, h) = both_parts g in
        let (b, paren, i) = both_parts h in
        let (c, e, close) = both_parts i in
        let (place, ph) = word_at_rule Classes.FREE from a key in
        let (pointer, eh, deep) = expr_found n b c e in
        (Simple.Free place pointer, (a, ph, (b, open_rule a b paren, (c, eh, word_rule Classes.CLOSE c to close))), deep)
    by_case (inr g) =
        let (a, closed, h) = both_parts g in
        let (b, members, assign) = both_parts h in
        assigned n from b to (is_both (is_second closed) members) assign

simple_found : (n : ℕ) (from to : List Word) → IsForm (Forms.simple_form n) from to → FoundSimple n from to
simple_found n from to f = by_case (either_part (known_part f))
  where
    by_case : IsForm (Both (AWord Classes.NAME) (Forms.name_tail_form n)) from to ⊎ IsForm (Forms.other_simple_form n) from to
        → FoundSimple n from to
    by_case (inl g) = let (a, named, tail) = both_parts g in named_found n from a to named tail
    by_case (inr g) = other_found n from to g

set_value_found : (n : ℕ)
    → Finds (λ e from to. (mid : List Word) × word Classes.SET from mid × expr_at 0 e mid to) nesting n
    (Both (AWord Classes.SET) (Forms.expr_form n))
set_value_found n from to f =
    let (mid, sign, e) = both_parts f in
    let (value, eh, deep) = expr_found n mid to e in
    (value, (mid, word_rule Classes.SET from mid sign, eh), deep)

initialized_found : (n : ℕ) → Finds initialized initialized_nesting n (Forms.initialized_form n)
initialized_found n from to f =
    let (mid, d, v) = both_parts f in
    let (decl, dh, few) = declarator_found from mid d in
    let (value, vh, deep) = maybe_found _ nesting n (Both (AWord Classes.SET) (Forms.expr_form n)) (set_value_found n) mid to v in
    (record { declarator = decl; value = value }, (mid, dh, vh), deep)

-- the locals of a type
typed_found : (n : ℕ) (s : Specifier) (from mid to : List Word) → specifier s from mid → IsForm (Forms.locals_tail_form n) mid to
    → Found local local_nesting n from to
typed_found n s from mid to sh f =
    let (a, g, h) = both_parts f in
    let (first, fh, deep) = initialized_found n mid a g in
    let (others, oh, few) =
    many_found _ initialized_nesting n _
    (comma_finds initialized initialized_nesting n (Forms.initialized_form n) (initialized_found n)) a to h in
    (record { specifier = s; first = first; others = others }, (mid, sh, (a, fh, oh)), omega arith)

key_specifier_found : (from to : List Word) → IsForm Forms.key_specifier_form from to → (s : Specifier) × specifier s from to
key_specifier_found from to f = first (either_part f)
  where
    second : IsForm (AWord Classes.VOID) from to ⊎ IsForm (Both (AWord Classes.STRUCT) (AWord Classes.NAME)) from to
        → (s : Specifier) × specifier s from to
    second (inl g) = let (place, h) = word_at_rule Classes.VOID from to g in (Specifier.Void place, h)
    second (inr g) =
        let (mid, key, tag) = both_parts g in
        let (place, h) = word_at_rule Classes.STRUCT from mid key in
        let (n, k) = name_found mid to tag in
        (Specifier.Struct place n, (mid, h, k))

    first : IsForm (AWord Classes.INT) from to
        ⊎ IsForm (Either (AWord Classes.VOID) (Both (AWord Classes.STRUCT) (AWord Classes.NAME))) from to
        → (s : Specifier) × specifier s from to
    first (inl g) = let (place, h) = word_at_rule Classes.INT from to g in (Specifier.Int place, h)
    first (inr g) = second (either_part g)

-- locals or a simple statement
abbrev FoundClause : ℕ → List Word → List Word → Type 0
FoundClause n from to = Found local local_nesting n from to ⊎ FoundSimple n from to

clause_found : (n : ℕ) (from to : List Word) → IsForm (Forms.clause_form n) from to → FoundClause n from to
clause_found n from to f = first (either_part (known_part f))
  where
    third : (a : List Word) → IsForm (AWord Classes.NAME) from a
        → IsForm (Forms.locals_tail_form n) a to ⊎ IsForm (Forms.name_tail_form n) a to → FoundClause n from to
    third a named (inl g) = let (alias, h) = name_found from a named in inl (typed_found n (Specifier.Alias alias) from a to h g)
    third a named (inr g) = inr (named_found n from a to named g)

    second : IsForm (Both (AWord Classes.NAME) (Either (Forms.locals_tail_form n) (Forms.name_tail_form n))) from to
        ⊎ IsForm (Forms.other_simple_form n) from to → FoundClause n from to
    second (inl g) = let (a, named, tail) = both_parts g in third a named (either_part tail)
    second (inr g) = inr (other_found n from to g)

    first : IsForm (Both Forms.key_specifier_form (Forms.locals_tail_form n)) from to
        ⊎ IsForm (Either (Both (AWord Classes.NAME) (Either (Forms.locals_tail_form n) (Forms.name_tail_form n)))
        (Forms.other_simple_form n)) from to → FoundClause n from to
    first (inl g) =
        let (a, key, tail) = both_parts g in
        let (s, sh) = key_specifier_found from a key in
        inl (typed_found n s from a to sh tail)
    first (inr g) = second (either_part g)

init_found : (n : ℕ) (from to : List Word) → IsForm (Forms.optional (Forms.clause_form n)) from to → Found for_init init_nesting n from to
init_found n from to f = by_case (either_part f)
  where
    by_clause : FoundClause n from to → Found for_init init_nesting n from to
    by_clause (inl (l, h, deep)) = (ForInit.Locals l, h, deep)
    by_clause (inr (s, h, deep)) = (ForInit.Once s, h, deep)

    by_case : IsForm (Forms.clause_form n) from to ⊎ IsForm Nothing from to → Found for_init init_nesting n from to
    by_case (inl g) = by_clause (clause_found n from to g)
    by_case (inr g) = (ForInit.NoInit, nothing_part g, omega arith)

abbrev FoundStmt : ℕ → List Word → List Word → Type 0
FoundStmt n from to = Found stmt stmt_nesting n from to

stmts_many : (n : ℕ) → Finds stmt stmt_nesting n (Forms.stmt_form n) → (parts : List (List ℕ)) (from to : List Word)
    → IsMany (Forms.stmt_form n) parts from to → Found stmts stmts_nesting n from to
stmts_many n finds [] from to m = (Stmts.NoStmts, many_none (Forms.stmt_form n) m, omega arith)
stmts_many n finds (part ∷ parts) from to m =
    let (mid, f, g) = many_more (Forms.stmt_form n) part parts m in
    let (one, h, deep) = finds from mid f in
    let (others, k, few) = stmts_many n finds parts mid to g in
    (Stmts.Next one others, (mid, h, k), omega arith)

stmts_found : (n : ℕ) → Finds stmt stmt_nesting n (Forms.stmt_form n) → (from to : List Word) → IsForm (Many (Forms.stmt_form n)) from to
    → Found stmts stmts_nesting n from to
stmts_found n finds from to f = let (parts, m) = many_parts f in stmts_many n finds parts from to m

-- a block behind its brace, one level deeper
block_found : (n : ℕ) → Finds stmt stmt_nesting n (Forms.stmt_form n) → (from to : List Word)
    → IsForm (Forms.block_tail_form (Forms.stmt_form n)) from to
    → (body : Stmts) × (end : Place) × ((mid : List Word) × stmts body from mid × word_at end Classes.CLOSE_BRACE mid to)
    × (stmts_nesting body ≤ n)
block_found n finds from to f =
    let (mid, g, brace) = both_parts f in
    let (body, h, deep) = stmts_found n finds from mid g in
    let (end, k) = word_at_rule Classes.CLOSE_BRACE mid to brace in
    (body, end, (mid, h, k), deep)

flat_found : (n : ℕ) (from to : List Word) → IsForm (Forms.flat_form n) from to → FoundStmt n from to
flat_found n from to f = first (either_part f)
  where
    by_clause : (mid : List Word) → FoundClause n from mid → word Classes.SEMICOLON mid to → FoundStmt n from to
    by_clause mid (inl (l, h, deep)) end = (Stmt.Declare l, (mid, h, end), deep)
    by_clause mid (inr (s, h, deep)) end = (Stmt.Do s, (mid, h, end), deep)

    fourth : IsForm (Both (AWord Classes.RETURN) (Both (Forms.optional (Forms.expr_form n)) (AWord Classes.SEMICOLON))) from to
        ⊎ IsForm (Both (Forms.clause_form n) (AWord Classes.SEMICOLON)) from to → FoundStmt n from to
    fourth (inl g) =
        let (a, key, h) = both_parts g in
        let (b, e, end) = both_parts h in
        let (place, ph) = word_at_rule Classes.RETURN from a key in
        let (value, vh, deep) = maybe_found (expr_at 0) nesting n (Forms.expr_form n) (expr_found n) a b e in
        (Stmt.Return place value, (a, ph, (b, vh, word_rule Classes.SEMICOLON b to end)), deep)
    fourth (inr g) = let (mid, c, end) = both_parts g in by_clause mid (clause_found n from mid c) (word_rule Classes.SEMICOLON mid to end)

    third : IsForm (Both (AWord Classes.CONTINUE) (AWord Classes.SEMICOLON)) from to
        ⊎ IsForm (Either (Both (AWord Classes.RETURN) (Both (Forms.optional (Forms.expr_form n)) (AWord Classes.SEMICOLON)))
        (Both (Forms.clause_form n) (AWord Classes.SEMICOLON))) from to → FoundStmt n from to
    third (inl g) =
        let (mid, key, end) = both_parts g in
        let (place, ph) = word_at_rule Classes.CONTINUE from mid key in
        (Stmt.Continue place, (mid, ph, word_rule Classes.SEMICOLON mid to end), omega arith)
    third (inr g) = fourth (either_part g)

    second : IsForm (Both (AWord Classes.BREAK) (AWord Classes.SEMICOLON)) from to
        ⊎ IsForm (Either (Both (AWord Classes.CONTINUE) (AWord Classes.SEMICOLON))
        (Either (Both (AWord Classes.RETURN) (Both (Forms.optional (Forms.expr_form n)) (AWord Classes.SEMICOLON)))
        (Both (Forms.clause_form n) (AWord Classes.SEMICOLON)))) from to → FoundStmt n from to
    second (inl g) =
        let (mid, key, end) = both_parts g in
        let (place, ph) = word_at_rule Classes.BREAK from mid key in
        (Stmt.Break place, (mid, ph, word_rule Classes.SEMICOLON mid to end), omega arith)
    second (inr g) = third (either_part g)

    first : IsForm (AWord Classes.SEMICOLON) from to
        ⊎ IsForm (Either (Both (AWord Classes.BREAK) (AWord Classes.SEMICOLON))
        (Either (Both (AWord Classes.CONTINUE) (AWord Classes.SEMICOLON))
        (Either (Both (AWord Classes.RETURN) (Both (Forms.optional (Forms.expr_form n)) (AWord Classes.SEMICOLON)))
        (Both (Forms.clause_form n) (AWord Classes.SEMICOLON))))) from to → FoundStmt n from to
    first (inl g) = let (place, h) = word_at_rule Classes.SEMICOLON from to g in (Stmt.Empty place, h, omega arith)
    first (inr g) = second (either_part g)

else_part : (n : ℕ) → Finds stmt stmt_nesting n (Forms.stmt_form n)
    → (place : Place) (test : Expr) (body : Stmt) (from a b c d e to : List Word)
    → word_at place Classes.IF from a → open_paren a b → expr_at 0 test b c → nesting test ≤ n → word Classes.CLOSE c d → stmt body d e
    → stmt_nesting body ≤ n
    → ((e ≡ to) × (begins_in (Classes.ELSE ∷ []) (classes to) ≡ false))
    ⊎ ((first : Word) × (mid : List Word) × (first.class ≡ Classes.ELSE) × (e ≡ first ∷ mid) × IsForm (Forms.stmt_form n) mid to)
    → FoundStmt (suc n) from to
else_part n finds place test body from a b c d e to ph paren th tdeep close bh bdeep (inl (same, ends)) =
    (Stmt.If place test body, (no_else to ends, (a, ph, (b, paren, (c, th, (d, close, subst (λ w. stmt body d w) same bh))))), omega arith)
  where
    no_else : (words : List Word) → begins_in (Classes.ELSE ∷ []) (classes words) ≡ false → NoElse words
    no_else [] f = tt
    no_else (first ∷ others) f = λ is.
        let t : (Classes.ELSE == first.class) ≡ true = eq-eqb Classes.ELSE first.class (sym is) in
        let g : (true || false) ≡ false = subst (λ x. (x || false) ≡ false) t f in
        let z : true ≡ false = g in cc
else_part n finds place test body from a b c d e to ph paren th tdeep close bh bdeep (inr (first, mid, is, split, f)) =
    let (other, oh, odeep) = finds mid to f in
    let key : word Classes.ELSE e mid = subst (λ w. word Classes.ELSE w mid) (sym split) (is, refl) in
    (Stmt.IfElse place test body other, (a, ph, (b, paren, (c, th, (d, close, (e, bh, (mid, key, oh)))))), omega arith)

if_found : (n : ℕ) → Finds stmt stmt_nesting n (Forms.stmt_form n) → (from to : List Word)
    → IsForm (Both (AWord Classes.IF) (Forms.if_form (Forms.expr_form n) (Forms.stmt_form n))) from to → FoundStmt (suc n) from to
if_found n finds from to f =
    let (a, key, f1) = both_parts f in
    let (b, paren, f2) = both_parts f1 in
    let (c, test, f3) = both_parts f2 in
    let (d, close, f4) = both_parts f3 in
    let (e, body, other) = both_parts f4 in
    let (place, ph) = word_at_rule Classes.IF from a key in
    let (t, th, tdeep) = expr_found n b c test in
    let (s, sh, sdeep) = finds d e body in
    else_part n finds place t s from a b c d e to ph (open_rule a b paren) th tdeep (word_rule Classes.CLOSE c d close) sh sdeep
    (nearest_part other)

while_found : (n : ℕ) → Finds stmt stmt_nesting n (Forms.stmt_form n) → (from to : List Word)
    → IsForm (Both (AWord Classes.WHILE) (Forms.while_form (Forms.expr_form n) (Forms.stmt_form n))) from to → FoundStmt (suc n) from to
while_found n finds from to f =
    let (a, key, f1) = both_parts f in
    let (b, paren, f2) = both_parts f1 in
    let (c, test, f3) = both_parts f2 in
    let (d, close, body) = both_parts f3 in
    let (place, ph) = word_at_rule Classes.WHILE from a key in
    let (t, th, tdeep) = expr_found n b c test in
    let (s, sh, sdeep) = finds d to body in
    (Stmt.While place t s, (a, ph, (b, open_rule a b paren, (c, th, (d, word_rule Classes.CLOSE c d close, sh)))), omega arith)

do_found : (n : ℕ) → Finds stmt stmt_nesting n (Forms.stmt_form n) → (from to : List Word)
    → IsForm (Both (AWord Classes.DO) (Forms.do_form (Forms.expr_form n) (Forms.stmt_form n))) from to → FoundStmt (suc n) from to
do_found n finds from to f =
    let (a, key, f1) = both_parts f in
    let (b, body, f2) = both_parts f1 in
    let (c, again, f3) = both_parts f2 in
    let (d, paren, f4) = both_parts f3 in
    let (e, test, f5) = both_parts f4 in
    let (g, close, end) = both_parts f5 in
    let (place, ph) = word_at_rule Classes.DO from a key in
    let (s, sh, sdeep) = finds a b body in
    let (t, th, tdeep) = expr_found n d e test in (
      Stmt.DoWhile place s t,
      (
        a,
        ph,
        (
          b,
          sh,
          (
            c,
            word_rule Classes.WHILE b c again,
            (d, open_rule c d paren, (e, th, (g, word_rule Classes.CLOSE e g close, word_rule Classes.SEMICOLON g to end))),
          ),
        ),
      ),
      omega arith,
    )

for_found : (n : ℕ) → Finds stmt stmt_nesting n (Forms.stmt_form n) → (from to : List Word)
    → IsForm (Both (AWord Classes.FOR)
    (Forms.for_form (Forms.clause_form n) (Forms.expr_form n) (Forms.simple_form n) (Forms.stmt_form n))) from to
    → FoundStmt (suc n) from to
for_found n finds from to f =
    let (a, key, f1) = both_parts f in
    let (b, paren, f2) = both_parts f1 in
    let (c, init, f3) = both_parts f2 in
    let (d, semi, f4) = both_parts f3 in
    let (e, test, f5) = both_parts f4 in
    let (g, again, f6) = both_parts f5 in
    let (h, step, f7) = both_parts f6 in
    let (k, close, body) = both_parts f7 in
    let (place, ph) = word_at_rule Classes.FOR from a key in
    let (i, ih, ideep) = init_found n b c init in
    let (t, th, tdeep) = maybe_found (expr_at 0) nesting n (Forms.expr_form n) (expr_found n) d e test in
    let (p, sh, pdeep) = maybe_found simple simple_nesting n (Forms.simple_form n) (simple_found n) g h step in
    let (s, bh, sdeep) = finds k to body in (
      Stmt.For place i t p s,
      (
        a,
        ph,
        (
          b,
          open_rule a b paren,
          (
            c,
            ih,
            (
              d,
              word_rule Classes.SEMICOLON c d semi,
              (e, th, (g, word_rule Classes.SEMICOLON e g again, (h, sh, (k, word_rule Classes.CLOSE h k close, bh)))),
            ),
          ),
        ),
      ),
      omega arith,
    )

pub stmt_found : (n : ℕ) → Finds stmt stmt_nesting n (Forms.stmt_form n)
stmt_found zero from to f = first (either_part (known_part f))
  where
    fifth : IsForm (Closed Classes.FOR) from to ⊎ IsForm (Forms.flat_form zero) from to → FoundStmt zero from to
    fifth (inl g) = absurd g.derives
    fifth (inr g) = flat_found zero from to g

    fourth : IsForm (Closed Classes.DO) from to ⊎ IsForm (Either (Closed Classes.FOR) (Forms.flat_form zero)) from to
        → FoundStmt zero from to
    fourth (inl g) = absurd g.derives
    fourth (inr g) = fifth (either_part g)

    third : IsForm (Closed Classes.WHILE) from to
        ⊎ IsForm (Either (Closed Classes.DO) (Either (Closed Classes.FOR) (Forms.flat_form zero))) from to → FoundStmt zero from to
    third (inl g) = absurd g.derives
    third (inr g) = fourth (either_part g)

    second : IsForm (Closed Classes.IF) from to
        ⊎ IsForm (Either (Closed Classes.WHILE) (Either (Closed Classes.DO) (Either (Closed Classes.FOR) (Forms.flat_form zero)))) from to
        → FoundStmt zero from to
    second (inl g) = absurd g.derives
    second (inr g) = third (either_part g)

    first : IsForm (Closed Classes.OPEN_BRACE) from to
        ⊎ IsForm (Either (Closed Classes.IF)
        (Either (Closed Classes.WHILE) (Either (Closed Classes.DO) (Either (Closed Classes.FOR) (Forms.flat_form zero))))) from to
        → FoundStmt zero from to
    first (inl g) = absurd g.derives
    first (inr g) = second (either_part g)
stmt_found (suc n) from to f = first (stmt_found n) (either_part (known_part f))
  where
    fifth : Finds stmt stmt_nesting n (Forms.stmt_form n)
        → IsForm (Both (AWord Classes.FOR)
        (Forms.for_form (Forms.clause_form n) (Forms.expr_form n) (Forms.simple_form n) (Forms.stmt_form n))) from to
        ⊎ IsForm (Forms.flat_form (suc n)) from to → FoundStmt (suc n) from to
    fifth finds (inl g) = for_found n finds from to g
    fifth finds (inr g) = flat_found (suc n) from to g

    fourth : Finds stmt stmt_nesting n (Forms.stmt_form n)
        → IsForm (Both (AWord Classes.DO) (Forms.do_form (Forms.expr_form n) (Forms.stmt_form n))) from to
        ⊎ IsForm (Either
        (Both (AWord Classes.FOR) (Forms.for_form (Forms.clause_form n) (Forms.expr_form n) (Forms.simple_form n) (Forms.stmt_form n)))
        (Forms.flat_form (suc n))) from to → FoundStmt (suc n) from to
    fourth finds (inl g) = do_found n finds from to g
    fourth finds (inr g) = fifth finds (either_part g)

    third : Finds stmt stmt_nesting n (Forms.stmt_form n)
        → IsForm (Both (AWord Classes.WHILE) (Forms.while_form (Forms.expr_form n) (Forms.stmt_form n))) from to
        ⊎ IsForm (Either (Both (AWord Classes.DO) (Forms.do_form (Forms.expr_form n) (Forms.stmt_form n)))
        (Either (Both (AWord Classes.FOR)
        (Forms.for_form (Forms.clause_form n) (Forms.expr_form n) (Forms.simple_form n) (Forms.stmt_form n)))
        (Forms.flat_form (suc n)))) from to → FoundStmt (suc n) from to
    third finds (inl g) = while_found n finds from to g
    third finds (inr g) = fourth finds (either_part g)

    second : Finds stmt stmt_nesting n (Forms.stmt_form n)
        → IsForm (Both (AWord Classes.IF) (Forms.if_form (Forms.expr_form n) (Forms.stmt_form n))) from to
        ⊎ IsForm (Either (Both (AWord Classes.WHILE) (Forms.while_form (Forms.expr_form n) (Forms.stmt_form n)))
        (Either (Both (AWord Classes.DO) (Forms.do_form (Forms.expr_form n) (Forms.stmt_form n)))
        (Either (Both (AWord Classes.FOR)
        (Forms.for_form (Forms.clause_form n) (Forms.expr_form n) (Forms.simple_form n) (Forms.stmt_form n)))
        (Forms.flat_form (suc n))))) from to → FoundStmt (suc n) from to
    second finds (inl g) = if_found n finds from to g
    second finds (inr g) = third finds (either_part g)

    first : Finds stmt stmt_nesting n (Forms.stmt_form n)
        → IsForm (Both (AWord Classes.OPEN_BRACE) (Forms.block_tail_form (Forms.stmt_form n))) from to
        ⊎ IsForm (Either (Both (AWord Classes.IF) (Forms.if_form (Forms.expr_form n) (Forms.stmt_form n)))
        (Either (Both (AWord Classes.WHILE) (Forms.while_form (Forms.expr_form n) (Forms.stmt_form n)))
        (Either (Both (AWord Classes.DO) (Forms.do_form (Forms.expr_form n) (Forms.stmt_form n)))
        (Either (Both (AWord Classes.FOR)
        (Forms.for_form (Forms.clause_form n) (Forms.expr_form n) (Forms.simple_form n) (Forms.stmt_form n)))
        (Forms.flat_form (suc n)))))) from to → FoundStmt (suc n) from to
    first finds (inl g) =
        let (a, brace, h) = both_parts g in
        let (place, ph) = word_at_rule Classes.OPEN_BRACE from a brace in
        let (body, end, (mid, bh, eh), deep) = block_found n finds a to h in
        (Stmt.Block place body end, (a, ph, (mid, bh, eh)), omega arith)
    first finds (inr g) = second finds (either_part g)

-- an item behind a head
ended : (h : Head) (n : ℕ) (from mid to : List Word) → head h from mid → IsForm (Forms.item_end_form n) mid to
    → Found item item_nesting n from to
ended h zero from mid to hh f = by_case (either_part f)
  where
    by_case : IsForm (AWord Classes.SEMICOLON) mid to ⊎ IsForm (Closed Classes.OPEN_BRACE) mid to → Found item item_nesting zero from to
    by_case (inl g) = (Item.Prototype h, (mid, hh, word_rule Classes.SEMICOLON mid to g), omega arith)
    by_case (inr g) = absurd g.derives
ended h (suc n) from mid to hh f = by_case (either_part f)
  where
    by_case : IsForm (AWord Classes.SEMICOLON) mid to
        ⊎ IsForm (Both (AWord Classes.OPEN_BRACE) (Forms.block_tail_form (Forms.stmt_form n))) mid to
        → Found item item_nesting (suc n) from to
    by_case (inl g) = (Item.Prototype h, (mid, hh, word_rule Classes.SEMICOLON mid to g), omega arith)
    by_case (inr g) =
        let (a, brace, k) = both_parts g in
        let (place, ph) = word_at_rule Classes.OPEN_BRACE mid a brace in
        let (body, end, (b, bh, eh), deep) = block_found n (stmt_found n) a to k in
        (Item.Definition h place body end, (mid, hh, (a, ph, (b, bh, eh))), omega arith)

headed : (s : Specifier) (n : ℕ) (from mid to : List Word) → specifier s from mid
    → IsForm (Both Forms.head_tail_form (Forms.item_end_form n)) mid to → Found item item_nesting n from to
headed s n from mid to sh f =
    let (e, g, end) = both_parts f in
    let (a, d, g1) = both_parts g in
    let (b, paren, g2) = both_parts g1 in
    let (c, ps, close) = both_parts g2 in
    let (decl, dh, few) = declarator_found mid a d in
    let (p, ph) = params_found b c ps in
    ended (record { specifier = s; declarator = decl; params = p }) n from e to
    (mid, sh, (a, dh, (b, open_rule a b paren, (c, ph, word_rule Classes.CLOSE c e close)))) end

struct_item : (n : ℕ) (from to : List Word)
    → IsForm (Both (AWord Classes.STRUCT)
    (Both (AWord Classes.NAME)
    (Either (Both Forms.struct_body_form (AWord Classes.SEMICOLON)) (Both Forms.head_tail_form (Forms.item_end_form n))))) from to
    → Found item item_nesting n from to
struct_item n from to f =
    let (a, key, g) = both_parts f in
    let (b, named, h) = both_parts g in
    let (place, ph) = word_at_rule Classes.STRUCT from a key in
    let (tag, th) = name_found a b named in
    by_case a b place tag ph th (either_part h)
  where
    by_case : (a b : List Word) (place : Place) (tag : Name) → word_at place Classes.STRUCT from a → name tag a b
        → IsForm (Both Forms.struct_body_form (AWord Classes.SEMICOLON)) b to
        ⊎ IsForm (Both Forms.head_tail_form (Forms.item_end_form n)) b to → Found item item_nesting n from to
    by_case a b place tag ph th (inl g) =
        let (c, body, end) = both_parts g in
        let (lines, lh) = struct_body_found b c body in
        (Item.StructItem place tag lines, (a, ph, (b, th, (c, lh, word_rule Classes.SEMICOLON c to end))), omega arith)
    by_case a b place tag ph th (inr g) = headed (Specifier.Struct place tag) n from b to (a, ph, th) g

typedef_item : (n : ℕ) (from to : List Word) → IsForm Forms.typedef_form from to → Found item item_nesting n from to
typedef_item n from to f =
    let (a, key, g) = both_parts f in
    let (b, struct, h) = both_parts g in
    let (place, ph) = word_at_rule Classes.TYPEDEF from a key in
    first a b place ph (word_rule Classes.STRUCT a b struct) (either_part h)
  where
    second : (a b c : List Word) (place : Place) (tag : Name) → word_at place Classes.TYPEDEF from a → word Classes.STRUCT a b
        → name tag b c
        → IsForm (Both Forms.struct_body_form (Both (AWord Classes.NAME) (AWord Classes.SEMICOLON))) c to
        ⊎ IsForm (Both (AWord Classes.NAME) (AWord Classes.SEMICOLON)) c to → Found item item_nesting n from to
    second a b c place tag ph sh th (inl g) =
        let (d, body, k) = both_parts g in
        let (e, named, end) = both_parts k in
        let (lines, lh) = struct_body_found c d body in
        let (alias, ah) = name_found d e named in (
          Item.TypedefStruct place (Some tag) lines alias,
          (a, ph, (b, sh, (c, th, (d, lh, (e, ah, word_rule Classes.SEMICOLON e to end))))),
          omega arith,
        )
    second a b c place tag ph sh th (inr g) =
        let (d, named, end) = both_parts g in
        let (alias, ah) = name_found c d named in
        (Item.TypedefAlias place tag alias, (a, ph, (b, sh, (c, th, (d, ah, word_rule Classes.SEMICOLON d to end)))), omega arith)

    first : (a b : List Word) (place : Place) → word_at place Classes.TYPEDEF from a → word Classes.STRUCT a b
        → IsForm (Both Forms.struct_body_form (Both (AWord Classes.NAME) (AWord Classes.SEMICOLON))) b to
        ⊎ IsForm (Both (AWord Classes.NAME)
        (Either (Both Forms.struct_body_form (Both (AWord Classes.NAME) (AWord Classes.SEMICOLON)))
        (Both (AWord Classes.NAME) (AWord Classes.SEMICOLON)))) b to → Found item item_nesting n from to
    first a b place ph sh (inl g) =
        let (d, body, k) = both_parts g in
        let (e, named, end) = both_parts k in
        let (lines, lh) = struct_body_found b d body in
        let (alias, ah) = name_found d e named in (
          Item.TypedefStruct place None lines alias,
          (a, ph, (b, sh, (b, refl, (d, lh, (e, ah, word_rule Classes.SEMICOLON e to end))))),
          omega arith,
        )
    first a b place ph sh (inr g) =
        let (c, named, k) = both_parts g in
        let (tag, th) = name_found b c named in
        second a b c place tag ph sh th (either_part k)

item_found : (n : ℕ) → Finds item item_nesting n (Forms.item_form n)
item_found n from to f = first (either_part (known_part f))
  where
    fourth : (mid : List Word) → IsForm (AWord Classes.VOID) from mid ⊎ IsForm (AWord Classes.NAME) from mid
        → IsForm (Both Forms.head_tail_form (Forms.item_end_form n)) mid to → Found item item_nesting n from to
    fourth mid (inl g) tail = let (place, h) = word_at_rule Classes.VOID from mid g in headed (Specifier.Void place) n from mid to h tail
    fourth mid (inr g) tail = let (alias, h) = name_found from mid g in headed (Specifier.Alias alias) n from mid to h tail

    third : (mid : List Word) → IsForm (AWord Classes.INT) from mid ⊎ IsForm (Either (AWord Classes.VOID) (AWord Classes.NAME)) from mid
        → IsForm (Both Forms.head_tail_form (Forms.item_end_form n)) mid to → Found item item_nesting n from to
    third mid (inl g) tail = let (place, h) = word_at_rule Classes.INT from mid g in headed (Specifier.Int place) n from mid to h tail
    third mid (inr g) tail = fourth mid (either_part g) tail

    second : IsForm Forms.typedef_form from to
        ⊎ IsForm (Both (Either (AWord Classes.INT) (Either (AWord Classes.VOID) (AWord Classes.NAME)))
        (Both Forms.head_tail_form (Forms.item_end_form n))) from to → Found item item_nesting n from to
    second (inl g) = typedef_item n from to g
    second (inr g) = let (mid, s, tail) = both_parts g in third mid (either_part s) tail

    first : IsForm
        (Both (AWord Classes.STRUCT)
        (Both (AWord Classes.NAME)
        (Either (Both Forms.struct_body_form (AWord Classes.SEMICOLON)) (Both Forms.head_tail_form (Forms.item_end_form n))))) from to
        ⊎ IsForm (Either Forms.typedef_form
        (Both (Either (AWord Classes.INT) (Either (AWord Classes.VOID) (AWord Classes.NAME)))
        (Both Forms.head_tail_form (Forms.item_end_form n)))) from to → Found item item_nesting n from to
    first (inl g) = struct_item n from to g
    first (inr g) = second (either_part g)

pub file_found : (n : ℕ) (words : List Word) → IsForm (Forms.file_form n) words []
    → (file : File) × Spells file words × (file_nesting file ≤ n)
file_found n words f =
    let (mid, items, end) = both_parts f in
    let (all, h, deep) = many_found item item_nesting n (Forms.item_form n) (item_found n) words mid items in
    (record { items = all }, (mid, h, word_rule Classes.END mid [] end), deep)
