-- The readers agree with the grammar's forms: statements.
use Rattle.std.proofs.Common.{◌≡◌, ℕ, zero, suc, Bool, true, false, cond, List, [], ◌∷◌, length, refl, sym, subst}
use Rattle.std.specs.Prelude.{◌==◌, ◌||◌, Option, Some, None, Ok}
use Rattle.std.proofs.lemmas.Bool.{eq-eqb}
use Rattle.grammar_laws.specs.Form.{Form, Word as AWord, Both, Many, Nearest, is_in, begins_in, starts}
use Rattle.grammar_laws.specs.Reading.{Read, Done, Stop, go_on, repeat, reads}
use Rattle.c_grammar.specs.declared.tokens.places.Place.{Place}
use Rattle.c_grammar.specs.Classes
use Rattle.c_grammar.specs.declared.class.Class.{Class}
use Rattle.c_grammar.specs.declared.class.Class.TheVariants as class
use Rattle.c_grammar.specs.Classes.{number_of}
use Rattle.c_grammar.specs.Words.{Word, classes}
use Rattle.c_grammar.specs.Forms
use Rattle.c_grammar.specs.Trees.{Expr, Stmt, Stmts}
use Rattle.c_grammar.specs.Spelling.{Rule, word, word_at, open_paren, maybe, expr_at, simple, for_init, NoElse, stmt, stmts}
use Rattle.c_grammar.specs.Readers.{Got, ◌>>=◌, too_deep, class_at, place_at, is_class, take, read_maybe, begins_expr, read_expr}
use Rattle.c_grammar.specs.Readers.{read_simple, begins_simple, Clause, Declares, Does, clause_by, read_clause, begins_clause, stmt_of}
use Rattle.c_grammar.specs.Readers.{init_of, flat_by, read_test, begins_stmt, read_stmts, Body, read_body, if_of, read_else, read_if}
use Rattle.c_grammar.specs.Readers.{read_while, read_do, read_for, nested_by, opens_level, read_stmt}
use Rattle.c_grammar.proofs.Agreement.{AreProper, IsBehind, itself, one_behind, proper_behind, AgreesAs, ReadsAs, agree_then, agree_behind}
use Rattle.c_grammar.proofs.Agreement.{agree_map, test_class, test_classes, AgreesBy, by_class, deep_agrees, maybe_agrees, step, over}
use Rattle.c_grammar.proofs.Agreement.{over_open, at_word, at_last}
use Rattle.c_grammar.proofs.AgreesExprs.{proper_first, begins_expr_same, expr_agrees}
use Rattle.c_grammar.proofs.AgreesClauses.{simple_agrees, begins_simple_same, clause_rule, clause_by_agrees, clause_agrees}
use Rattle.c_grammar.proofs.AgreesClauses.{begins_clause_same}
use Rattle.c_grammar.proofs.Parts.{length-classes}

abbrev pub test_rule : Expr → Rule
test_rule e = λ from to. (a : List Word) × open_paren from a × ((b : List Word) × expr_at 0 e a b × word Classes.CLOSE b to)

test_agrees : (n : ℕ) → ReadsAs test_rule (read_test n) (Both Forms.open_form (Both (Forms.expr_form n) (AWord Classes.CLOSE)))
unfolding read_test
test_agrees n words proper =
    over_open test_rule words proper words (itself words) _ _ (λ a ah ab.
    step test_rule words proper (expr_at 0) (read_expr n) (Forms.expr_form n) (expr_agrees n) a ab _ _ (λ x xh xb.
    at_word test_rule words proper class.Close refl x.1 xb x.0 (λ to k. (a, ah, (x.1, xh, k)))))

-- a test and what is read behind it, in either grouping
regroup : (r : Read) (f h : List ℕ → Read) (g : List ℕ → Read)
    → go_on (go_on r (λ a. go_on (f a) h)) g ≡ go_on r (λ a. go_on (f a) (λ b. go_on (h b) g))
regroup (Done rest) f h g = inner (f rest)
  where
    inner : (r : Read) → go_on (go_on r h) g ≡ go_on r (λ b. go_on (h b) g)
    inner (Done mid) = refl
    inner (Stop deep mid) = refl
regroup (Stop deep rest) f h g = refl

after_test : (n : ℕ) (from : List Word) → AreProper from → (mid : List Word) → IsBehind mid from
    → (next : Expr × List Word → Got Stmt) (more : List ℕ → Read)
    → ((x : Expr × List Word) → test_rule x.0 mid x.1 → IsBehind x.1 from → AgreesAs stmt from (next x) (more (classes x.1)))
    → AgreesAs stmt from (read_test n mid >>= next)
    (go_on (reads Forms.open_form (classes mid))
    (λ a. go_on (reads (Forms.expr_form n) a) (λ b. go_on (reads (AWord Classes.CLOSE) b) more)))
after_test n from proper mid b next more k =
    subst (λ r. AgreesAs stmt from (read_test n mid >>= next) r)
    (regroup (reads Forms.open_form (classes mid)) (reads (Forms.expr_form n)) (reads (AWord Classes.CLOSE)) more)
    (step stmt from proper test_rule (read_test n) (Both Forms.open_form (Both (Forms.expr_form n) (AWord Classes.CLOSE)))
    (test_agrees n) mid b next more k)

-- a clause as a statement
stmt_of_clause : (c : Clause) (from mid to : List Word) → clause_rule c from mid → word Classes.SEMICOLON mid to → stmt (stmt_of c) from to
stmt_of_clause (Declares l) from mid to h k = (mid, h, k)
stmt_of_clause (Does s) from mid to h k = (mid, h, k)

abbrev StmtBy : (Class → List Word → Got Stmt) → Form → Type 0
StmtBy reader form = AgreesBy (λ (x : Stmt × List Word). x.1) (λ words x. stmt x.0 words x.1) reader form

jump_agrees : (c : Class) (first : Word) (others : List Word) → AreProper (first ∷ others) → (s : Stmt)
    → ((to : List Word) → word Classes.SEMICOLON others to → stmt s (first ∷ others) to)
    → AgreesAs stmt (first ∷ others) (take class.Semicolon others >>= (λ rest. Ok (s, rest)))
    (reads (AWord Classes.SEMICOLON) (classes others))
jump_agrees c first others proper s spells =
    at_word stmt (first ∷ others) proper class.Semicolon refl others (one_behind first others) s spells

maybe_expr : (n : ℕ) → ReadsAs (maybe (expr_at 0)) (read_maybe begins_expr (read_expr n)) (Forms.optional (Forms.expr_form n))
maybe_expr n words proper =
    maybe_agrees begins_expr (expr_at 0) (read_expr n) (Forms.expr_form n) begins_expr_same (λ w p e. expr_agrees n w p) words proper

return_agrees : (n : ℕ) (first : Word) (others : List Word) → first.class ≡ Classes.RETURN → AreProper others
    → AgreesAs stmt (first ∷ others) (flat_by class.Return n (first ∷ others))
    (reads (Both (Forms.optional (Forms.expr_form n)) (AWord Classes.SEMICOLON)) (classes others))
return_agrees n first others e proper =
    let p = proper_first class.Return first others e proper in
    step stmt (first ∷ others) p (maybe (expr_at 0)) (read_maybe begins_expr (read_expr n)) (Forms.optional (Forms.expr_form n))
    (maybe_expr n) others (one_behind first others) _ _ (λ x xh xb.
    at_word stmt (first ∷ others) p class.Semicolon refl x.1 xb (Stmt.Return first.place x.0)
    (λ to k. (others, (e, refl, refl), (x.1, xh, k))))

clause_stmt : (n : ℕ) (c : Class) (first : Word) (others : List Word) → first.class ≡ number_of c → AreProper others
    → AgreesAs stmt (first ∷ others)
    (clause_by c n (first ∷ others) >>= (λ x. take class.Semicolon x.1 >>= (λ rest. Ok (stmt_of x.0, rest))))
    (go_on (reads (Forms.clause_form n) (number_of c ∷ classes others)) (λ rest. reads (AWord Classes.SEMICOLON) rest))
clause_stmt n c first others e proper =
    let p = proper_first c first others e proper in
    agree_then (λ (x : Clause × List Word). x.1) (λ x. clause_rule x.0 (first ∷ others) x.1) (λ (y : Stmt × List Word). y.1)
    (λ y. stmt y.0 (first ∷ others) y.1) (first ∷ others)
    (clause_by c n (first ∷ others)) (reads (Forms.clause_form n) (number_of c ∷ classes others))
    (clause_by_agrees n c first others e proper)
    _ (λ rest. reads (AWord Classes.SEMICOLON) rest)
    (λ x h b. at_word stmt (first ∷ others) p class.Semicolon refl x.1 b (stmt_of x.0)
    (λ to k. stmt_of_clause x.0 (first ∷ others) x.1 to h k))

flat_agrees : (n : ℕ) → StmtBy (λ c words. flat_by c n words) (Forms.flat_form n)
flat_agrees n class.Semicolon first others e proper = (refl, (e, refl, refl), one_behind first others)
flat_agrees n class.Break first others e proper =
    jump_agrees class.Break first others (proper_first class.Break first others e proper) (Stmt.Break first.place)
    (λ to k. (others, (e, refl, refl), k))
flat_agrees n class.Continue first others e proper =
    jump_agrees class.Continue first others (proper_first class.Continue first others e proper) (Stmt.Continue first.place)
    (λ to k. (others, (e, refl, refl), k))
flat_agrees n class.Return first others e proper = return_agrees n first others e proper
flat_agrees n kind first others e proper = clause_stmt n kind first others e proper

-- statements one level deeper
abbrev pub StmtReads : ℕ → Type 0
StmtReads n = ReadsAs stmt (read_stmt n) (Forms.stmt_form n)

stmt_starts : (c : Class) → begins_stmt c ≡ is_in (number_of c) (starts (Forms.stmt_form zero))
stmt_starts class.OpenBrace = refl
stmt_starts _ = refl

begins_stmt_same : (words : List Word) → AreProper words
    → begins_stmt (class_at words) ≡ begins_in (starts (Forms.stmt_form zero)) (classes words)
begins_stmt_same words proper = test_classes begins_stmt (starts (Forms.stmt_form zero)) stmt_starts refl words proper

stmts_times : (n : ℕ) → StmtReads n → (times : ℕ) (words : List Word) → AreProper words
    → AgreesAs stmts words (read_stmts times (read_stmt n) words)
    (repeat times (reads (Forms.stmt_form n)) (starts (Forms.stmt_form zero)) (classes words))
stmts_times n agrees zero words proper = (refl, refl, itself words)
stmts_times n agrees (suc times) words proper =
    by_test (begins_stmt (class_at words)) (begins_in (starts (Forms.stmt_form zero)) (classes words)) (begins_stmt_same words proper)
    (λ mid p. stmts_times n agrees times mid p)
  where
    by_test : (b c : Bool) → b ≡ c
        → ((mid : List Word) → AreProper mid
        → AgreesAs stmts mid (read_stmts times (read_stmt n) mid)
        (repeat times (reads (Forms.stmt_form n)) (starts (Forms.stmt_form zero)) (classes mid)))
        → AgreesAs stmts words
        (cond b (read_stmt n words
        >>= (λ one. read_stmts times (read_stmt n) one.1 >>= (λ others. Ok (Stmts.Next one.0 others.0, others.1))))
        (Ok (Stmts.NoStmts, words)))
        (cond c (go_on (reads (Forms.stmt_form n) (classes words))
        (λ rest. repeat times (reads (Forms.stmt_form n)) (starts (Forms.stmt_form zero)) rest)) (Done (classes words)))
    by_test true false e others = absurd (cc)
    by_test false true e others = absurd (cc)
    by_test false false e others = (refl, refl, itself words)
    by_test true true e others =
        step stmts words proper stmt (read_stmt n) (Forms.stmt_form n) agrees words (itself words) _ _ (λ x h b.
        agree_map (λ (y : Stmts × List Word). y.1) (λ y. stmts y.0 x.1 y.1) (λ (y : Stmts × List Word). y.1)
        (λ y. stmts y.0 words y.1) words (λ y. (Stmts.Next x.0 y.0, y.1)) (λ y. refl) (λ y k. (x.1, h, k))
        (read_stmts times (read_stmt n) x.1) (repeat times (reads (Forms.stmt_form n)) (starts (Forms.stmt_form zero)) (classes x.1))
        (agree_behind (λ (y : Stmts × List Word). y.1) (λ y. stmts y.0 x.1 y.1) b (read_stmts times (read_stmt n) x.1)
        (repeat times (reads (Forms.stmt_form n)) (starts (Forms.stmt_form zero)) (classes x.1)) (others x.1 (proper_behind b proper))))

stmts_agree : (n : ℕ) → StmtReads n → ReadsAs stmts (λ words. read_stmts (length words) (read_stmt n) words) (Many (Forms.stmt_form n))
stmts_agree n agrees words proper =
    subst (λ k. AgreesAs stmts words (read_stmts k (read_stmt n) words) (reads (Many (Forms.stmt_form n)) (classes words)))
    (length-classes words)
    (stmts_times n agrees (length (classes words)) words proper)

-- a word of the class, at the place
with_place : (class : ℕ) (from to : List Word) → word class from to → word_at (place_at from) class from to
with_place class [] to h = absurd h
with_place class (first ∷ others) to h = (h.0, refl, h.1)

abbrev pub body_rule : Body → Rule
body_rule body = λ from to. (mid : List Word) × stmts body.stmts from mid × word_at body.end Classes.CLOSE_BRACE mid to

pub body_agrees : (n : ℕ) → StmtReads n → ReadsAs body_rule (read_body (read_stmt n)) (Forms.block_tail_form (Forms.stmt_form n))
body_agrees n agrees words proper =
    step body_rule words proper stmts (λ w. read_stmts (length w) (read_stmt n) w) (Many (Forms.stmt_form n)) (stmts_agree n agrees) words
    (itself words) _ _ (λ x h b.
    at_word body_rule words proper class.CloseBrace refl x.1 b (record { stmts = x.0; end = place_at x.1 })
    (λ to k. (x.1, h, with_place Classes.CLOSE_BRACE x.1 to k)))

block_agrees : (n : ℕ) → StmtReads n → (first : Word) (others : List Word) → first.class ≡ Classes.OPEN_BRACE → AreProper others
    → AgreesAs stmt (first ∷ others) (nested_by class.OpenBrace n (read_stmt n) (first ∷ others))
    (reads (Forms.block_tail_form (Forms.stmt_form n)) (classes others))
block_agrees n agrees first others e proper =
    at_last stmt (first ∷ others) (proper_first class.OpenBrace first others e proper) body_rule (read_body (read_stmt n))
    (Forms.block_tail_form (Forms.stmt_form n)) (body_agrees n agrees) others (one_behind first others)
    (λ body. Stmt.Block first.place body.stmts body.end) (λ body to k. (others, (e, refl, refl), k))

-- `else` and its statement, or no `else`
abbrev else_rule : Option Stmt → Rule
else_rule None = λ from to. NoElse to × (from ≡ to)
else_rule (Some other) = λ from to. (mid : List Word) × word Classes.ELSE from mid × stmt other mid to

no_else : (words : List Word) → begins_in (Classes.ELSE ∷ []) (classes words) ≡ false → NoElse words
no_else [] f = tt
no_else (first ∷ others) f = λ is.
    let t : (Classes.ELSE == first.class) ≡ true = eq-eqb Classes.ELSE first.class (sym is) in
    let g : (true || false) ≡ false = subst (λ x. (x || false) ≡ false) t f in
    let z : true ≡ false = g in cc

nearest_is : (n : ℕ) (words : List Word) → reads (Nearest Classes.ELSE (Forms.stmt_form n)) (classes words)
    ≡ cond (begins_in (Classes.ELSE ∷ []) (classes words)) (reads (Both (AWord Classes.ELSE) (Forms.stmt_form n)) (classes words))
    (Done (classes words))
nearest_is n [] = refl
nearest_is n (first ∷ others) = by_test (Classes.ELSE == first.class)
  where
    by_test : (b : Bool) → cond b (reads (Forms.stmt_form n) (classes others)) (Done (first.class ∷ classes others))
        ≡ cond (b || false)
        (go_on (cond b (Done (classes others)) (Stop false (first.class ∷ classes others))) (λ rest. reads (Forms.stmt_form n) rest))
        (Done (first.class ∷ classes others))
    by_test true = refl
    by_test false = refl

else_agrees : (n : ℕ) → StmtReads n
    → ReadsAs else_rule (read_maybe (is_class class.Else) (read_else (read_stmt n))) (Nearest Classes.ELSE (Forms.stmt_form n))
else_agrees n agrees words proper =
    subst (λ r. AgreesAs else_rule words (read_maybe (is_class class.Else) (read_else (read_stmt n)) words) r) (sym (nearest_is n words))
    (by_test (is_class class.Else (class_at words)) refl (begins_in (Classes.ELSE ∷ []) (classes words)) refl
    (test_class class.Else words proper refl))
  where
    by_test : (b : Bool) → is_class class.Else (class_at words) ≡ b → (c : Bool) → begins_in (Classes.ELSE ∷ []) (classes words) ≡ c → b ≡ c
        → AgreesAs else_rule words (cond b (read_else (read_stmt n) words >>= (λ one. Ok (Some one.0, one.1))) (Ok (None, words)))
        (cond c (reads (Both (AWord Classes.ELSE) (Forms.stmt_form n)) (classes words)) (Done (classes words)))
    by_test true is false f e = absurd (cc)
    by_test false is true f e = absurd (cc)
    by_test false is false f e = (refl, (no_else words f, refl), itself words)
    by_test true is true f e =
        agree_map (λ (x : Stmt × List Word). x.1) (λ x. (mid : List Word) × word Classes.ELSE words mid × stmt x.0 mid x.1)
        (λ (y : Option Stmt × List Word). y.1) (λ y. else_rule y.0 words y.1) words
        (λ x. (Some x.0, x.1)) (λ x. refl) (λ x h. h) (read_else (read_stmt n) words)
        (reads (Both (AWord Classes.ELSE) (Forms.stmt_form n)) (classes words))
        (Rattle.c_grammar.proofs.Agreement.behind_word class.Else refl stmt (read_stmt n) (Forms.stmt_form n) agrees words proper is)

if_spells : (place : Place) (test : Expr) (body : Stmt) (other : Option Stmt) (from a b mid to : List Word)
    → word_at place Classes.IF from a → test_rule test a b → stmt body b mid → else_rule other mid to
    → stmt (if_of place test body other) from to
if_spells place test body None from a b mid to key (c, paren, (d, e, close)) h (none, same) =
    (none, (a, key, (c, paren, (d, e, (b, close, subst (λ w. stmt body b w) same h)))))
if_spells place test body (Some other) from a b mid to key (c, paren, (d, e, close)) h (g, word_else, k) =
    (a, key, (c, paren, (d, e, (b, close, (mid, h, (g, word_else, k))))))

if_agrees : (n : ℕ) → StmtReads n → (first : Word) (others : List Word) → first.class ≡ Classes.IF → AreProper others
    → AgreesAs stmt (first ∷ others) (read_if n (read_stmt n) (first ∷ others))
    (reads (Forms.if_form (Forms.expr_form n) (Forms.stmt_form n)) (classes others))
if_agrees n agrees first others e proper =
    let p = proper_first class.If first others e proper in
    after_test n (first ∷ others) p others (one_behind first others) _ _ (λ t th tb.
    step stmt (first ∷ others) p stmt (read_stmt n) (Forms.stmt_form n) agrees t.1 tb _ _ (λ s sh sb.
    at_last stmt (first ∷ others) p else_rule (read_maybe (is_class class.Else) (read_else (read_stmt n)))
    (Nearest Classes.ELSE (Forms.stmt_form n)) (else_agrees n agrees) s.1 sb
    (λ other. if_of first.place t.0 s.0 other)
    (λ other to k. if_spells first.place t.0 s.0 other (first ∷ others) others t.1 s.1 to (e, refl, refl) th sh k)))

while_agrees : (n : ℕ) → StmtReads n → (first : Word) (others : List Word) → first.class ≡ Classes.WHILE → AreProper others
    → AgreesAs stmt (first ∷ others) (read_while n (read_stmt n) (first ∷ others))
    (reads (Forms.while_form (Forms.expr_form n) (Forms.stmt_form n)) (classes others))
while_agrees n agrees first others e proper =
    let p = proper_first class.While first others e proper in
    after_test n (first ∷ others) p others (one_behind first others) _ _ (λ t th tb.
    at_last stmt (first ∷ others) p stmt (read_stmt n) (Forms.stmt_form n) agrees t.1 tb (λ body. Stmt.While first.place t.0 body)
    (λ body to k. (others, (e, refl, refl), (th.0, th.1, (th.2.0, th.2.1, (t.1, th.2.2, k))))))

do_agrees : (n : ℕ) → StmtReads n → (first : Word) (others : List Word) → first.class ≡ Classes.DO → AreProper others
    → AgreesAs stmt (first ∷ others) (read_do n (read_stmt n) (first ∷ others))
    (reads (Forms.do_form (Forms.expr_form n) (Forms.stmt_form n)) (classes others))
do_agrees n agrees first others e proper =
    let p = proper_first class.Do first others e proper in
    step stmt (first ∷ others) p stmt (read_stmt n) (Forms.stmt_form n) agrees others (one_behind first others) _ _ (λ s sh sb.
    over stmt (first ∷ others) p class.While refl s.1 sb _ _ (λ a ah ab.
    after_test n (first ∷ others) p a ab _ _ (λ t th tb.
    at_word stmt (first ∷ others) p class.Semicolon refl t.1 tb (Stmt.DoWhile first.place s.0 t.0)
    (λ to k. (others, (e, refl, refl), (s.1, sh, (a, ah, (th.0, th.1, (th.2.0, th.2.1, (t.1, th.2.2, k))))))))))

init_spells : (init : Option Clause) (from to : List Word) → maybe clause_rule init from to → for_init (init_of init) from to
init_spells None from to h = h
init_spells (Some (Declares l)) from to h = h
init_spells (Some (Does s)) from to h = h

maybe_clause : (n : ℕ) → ReadsAs (maybe clause_rule) (read_maybe begins_clause (read_clause n)) (Forms.optional (Forms.clause_form n))
maybe_clause n words proper =
    maybe_agrees begins_clause clause_rule (read_clause n) (Forms.clause_form n) begins_clause_same
    (λ w p e. clause_agrees n w p) words proper

maybe_simple : (n : ℕ) → ReadsAs (maybe simple) (read_maybe begins_simple (read_simple n)) (Forms.optional (Forms.simple_form n))
maybe_simple n words proper =
    maybe_agrees begins_simple simple (read_simple n) (Forms.simple_form n) begins_simple_same (λ w p e. simple_agrees n w p) words proper

for_agrees : (n : ℕ) → StmtReads n → (first : Word) (others : List Word) → first.class ≡ Classes.FOR → AreProper others
    → AgreesAs stmt (first ∷ others) (read_for n (read_stmt n) (first ∷ others))
    (reads (Forms.for_form (Forms.clause_form n) (Forms.expr_form n) (Forms.simple_form n) (Forms.stmt_form n)) (classes others))
for_agrees n agrees first others e proper =
    let p = proper_first class.For first others e proper in
    over_open stmt (first ∷ others) p others (one_behind first others) _ _ (λ a ah ab.
    step stmt (first ∷ others) p (maybe clause_rule) (read_maybe begins_clause (read_clause n)) (Forms.optional (Forms.clause_form n))
    (maybe_clause n) a ab _ _ (λ i ih ib.
    over stmt (first ∷ others) p class.Semicolon refl i.1 ib _ _ (λ b bh bb.
    step stmt (first ∷ others) p (maybe (expr_at 0)) (read_maybe begins_expr (read_expr n)) (Forms.optional (Forms.expr_form n))
    (maybe_expr n) b bb _ _ (λ t th tb.
    over stmt (first ∷ others) p class.Semicolon refl t.1 tb _ _ (λ c ch cb.
    step stmt (first ∷ others) p (maybe simple) (read_maybe begins_simple (read_simple n)) (Forms.optional (Forms.simple_form n))
    (maybe_simple n) c cb _ _ (λ s sh sb.
    over stmt (first ∷ others) p class.Close refl s.1 sb _ _ (λ d dh db.
    at_last stmt (first ∷ others) p stmt (read_stmt n) (Forms.stmt_form n) agrees d db
    (λ body. Stmt.For first.place (init_of i.0) t.0 s.0 body)
    (λ body to k.
    (others, (e, refl, refl), (a, ah, (i.1, init_spells i.0 a i.1 ih, (b, bh, (t.1, th, (c, ch, (s.1, sh, (d, dh, k))))))))))))))))

-- one statement, by the class of its first word

abbrev stmt_by_zero : Class → List Word → Got Stmt
stmt_by_zero c words = cond (opens_level c) (too_deep words) (flat_by c zero words)

abbrev stmt_by_more : ℕ → Class → List Word → Got Stmt
stmt_by_more n c words = cond (opens_level c) (nested_by c n (read_stmt n) words) (flat_by c (suc n) words)

deep_stmt : (first : Word) (others : List Word) (n : ℕ) → first.class ≡ n
    → AgreesAs stmt (first ∷ others) (too_deep (first ∷ others)) (Stop true (n ∷ classes others))
deep_stmt first others n e = deep_agrees (λ (x : Stmt × List Word). x.1) (λ x. stmt x.0 (first ∷ others) x.1) first others n e

stmt_zero : StmtBy stmt_by_zero (Forms.stmt_form zero)
stmt_zero class.OpenBrace first others e proper = deep_stmt first others _ e
stmt_zero class.If first others e proper = deep_stmt first others _ e
stmt_zero class.While first others e proper = deep_stmt first others _ e
stmt_zero class.Do first others e proper = deep_stmt first others _ e
stmt_zero class.For first others e proper = deep_stmt first others _ e
stmt_zero kind first others e proper = flat_agrees zero kind first others e proper

stmt_more : (n : ℕ) → StmtReads n → StmtBy (stmt_by_more n) (Forms.stmt_form (suc n))
stmt_more n agrees class.OpenBrace first others e proper = block_agrees n agrees first others e proper
stmt_more n agrees class.If first others e proper = if_agrees n agrees first others e proper
stmt_more n agrees class.While first others e proper = while_agrees n agrees first others e proper
stmt_more n agrees class.Do first others e proper = do_agrees n agrees first others e proper
stmt_more n agrees class.For first others e proper = for_agrees n agrees first others e proper
stmt_more n agrees kind first others e proper = flat_agrees (suc n) kind first others e proper

pub stmt_agrees : (n : ℕ) → StmtReads n
unfolding read_stmt
stmt_agrees zero words proper =
    by_class (λ (x : Stmt × List Word). x.1) (λ w x. stmt x.0 w x.1) stmt_by_zero (Forms.stmt_form zero)
    (refl, itself []) stmt_zero words proper
stmt_agrees (suc n) words proper =
    by_class (λ (x : Stmt × List Word). x.1) (λ w x. stmt x.0 w x.1) (stmt_by_more n) (Forms.stmt_form (suc n)) (refl, itself [])
    (stmt_more n (stmt_agrees n)) words proper
