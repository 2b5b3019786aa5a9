-- At most one statement leads from some words to others.
use Rattle.std.proofs.Common.{◌≡◌, ℕ, zero, suc, ◌≤◌, ◌<◌, true, false, List, [], ◌∷◌, ◌++◌, length, refl, sym, ap, ap₂, ◌∙◌, subst, arith}
use Rattle.std.proofs.Common.{max}
use Rattle.std.specs.Prelude.{Option, Some, None, ◌==◌, if◌then◌else◌}
use Rattle.grammar_laws.specs.Form.{Form, Word as AWord, Both, Many, is_in, starts, continues, may_be_empty, Derives, IsGood}
use Rattle.grammar_laws.proofs.Derived.{begins}
use Rattle.grammar_laws.proofs.Taken.{took_some}
use Rattle.grammar_laws.proofs.Classes.{begins_not_left, begins_without}
use Rattle.c_grammar.specs.declared.tokens.places.Place.{Place}
use Rattle.c_grammar.specs.Classes
use Rattle.c_grammar.specs.Words.{Word, classes}
use Rattle.c_grammar.specs.Forms
use Rattle.c_grammar.specs.Matching.{IsForm}
use Rattle.c_grammar.specs.Trees.{Expr, Simple, Local, ForInit, Stmt, Stmts}
use Rattle.c_grammar.specs.Spelling.{Rule, word, word_at, open_paren, maybe, expr_at, simple, local, for_init, NoElse, stmt, stmts}
use Rattle.c_grammar.specs.Nesting.{nesting, maybe_nesting, simple_nesting, local_nesting, init_nesting, stmt_nesting, stmts_nesting}
use Rattle.c_grammar.proofs.OneWordAhead.{expr_good, simple_good, clause_good, stmt_good}
use Rattle.c_grammar.proofs.Parts.{is_word, is_both, is_known}
use Rattle.c_grammar.proofs.SpelledFiles.{is_simple, simple_clause, is_local, is_init, is_optional, is_once, is_stmt, is_stmts}
use Rattle.c_grammar.proofs.Synced.{Ends, synced, synced_both, ends_first, fewer, no_more}
use Rattle.c_grammar.proofs.UniqueExprs.{one_word, one_place, one_open, ends_word, UniqueAt, whole_form, paren_good}

-- expressions, simple statements and locals are unique, within so many levels
pub record ClausesUnique : Type 0 where
  pub unique_expr : (n : ℕ) → UniqueAt 0 n (Forms.expr_form n)
  pub unique_simple : (n : ℕ) (s t : Simple) (from to : List Word) → simple_nesting s ≤ n → simple_nesting t ≤ n → simple s from to
      → simple t from to → Ends (Forms.simple_form n) to → s ≡ t
  pub unique_local : (n : ℕ) (l m : Local) (from to : List Word) → local_nesting l ≤ n → local_nesting m ≤ n → local l from to
      → local m from to → Ends (Forms.clause_form n) to → l ≡ m
  -- locals and a simple statement spell different words
  pub local_or_simple : (n : ℕ) (l : Local) (s : Simple) (from to : List Word) → local_nesting l ≤ n → simple_nesting s ≤ n
      → local l from to → simple s from to → Ends (Forms.clause_form n) to → ⊥

-- a form and a word behind it are read in one way
pub meet : (form : Form) (class : ℕ) → IsGood (Both form (AWord class)) → (from mid to end next : List Word) → IsForm form from mid
    → word class mid to → IsForm form from end → word class end next
    → (to ≡ next) × (mid ≡ end) × Ends form mid
meet form class good from mid to end next f h g k =
    let same : to
    ≡ next =
    synced (Both form (AWord class)) good from to next (is_both f (is_word mid to h)) (is_both g (is_word end next k)) (ends_word to)
    (ends_word next) in
    let k' : word class end to = subst (λ w. word class end w) (sym same) k in
    let first : mid ≡ end = synced_both form (AWord class) good from mid end to f (is_word mid to h) g (is_word end to k') (ends_word to) in
    (same, first, ends_first form (AWord class) good mid to (is_word mid to h) (ends_word to))

-- what does not continue an optional form does not continue the form
pub ends_optional : (form : Form) (words : List Word) → Ends (Forms.optional form) words → Ends form words
ends_optional form words ends =
    begins_not_left (continues form) [] (classes words) (begins_not_left (continues form ++ []) (starts form) (classes words) ends)

-- the first word that a form derives
pub begins_form : (form : Form) → IsGood form → may_be_empty form ≡ false → (w : Word) (ws to : List Word) → IsForm form (w ∷ ws) to
    → is_in w.class (starts form) ≡ true
begins_form form good never w ws to f = by_front f.front f.splits f.derives
  where
    by_front : (front : List Word) → w ∷ ws ≡ front ++ to → Derives form (classes front) (classes to) → is_in w.class (starts form) ≡ true
    by_front [] split d = absurd (none d)
      where
        none : Derives form [] (classes to) → ⊥
        none e = let z = took_some form good never [] (classes to) e in absurd (omega arith)
    by_front (v ∷ front) split d =
        let b : is_in v.class (starts form) ≡ true = begins form good v.class (classes front) (classes to) d in
        let same : v ≡ w = cc in
        subst (λ x. is_in x.class (starts form) ≡ true) same b

-- the same of a part that may be lacking
unique_maybe : {A : Type 0} (rule : A → Rule) (depth : A → ℕ) (form : Form) (n : ℕ) → IsGood form → may_be_empty form ≡ false
    → ((a : A) (from to : List Word) → depth a ≤ n → rule a from to → IsForm form from to)
    → ((a b : A) (from to : List Word) → depth a ≤ n → depth b ≤ n → rule a from to → rule b from to → Ends form to → a ≡ b)
    → (a b : Option A) (from to : List Word) → maybe_nesting depth a ≤ n → maybe_nesting depth b ≤ n → maybe rule a from to
    → maybe rule b from to → Ends (Forms.optional form) to → a ≡ b
unique_maybe rule depth form n good never leads unique None None from to fa fb h k ends = refl
unique_maybe rule depth form n good never leads unique None (Some b) from to fa fb h k ends =
    let f = fewer form good never from to (leads b from to fb k) in
    let e : length from ≡ length to = ap length h in absurd (omega arith)
unique_maybe rule depth form n good never leads unique (Some a) None from to fa fb h k ends =
    let f = fewer form good never from to (leads a from to fa h) in
    let e : length from ≡ length to = ap length k in absurd (omega arith)
unique_maybe rule depth form n good never leads unique (Some a) (Some b) from to fa fb h k ends =
    ap Some (unique a b from to fa fb h k (ends_optional form to ends))

-- a test in parentheses
one_test : (n : ℕ) → ClausesUnique → (e f : Expr) (from a b c x y z : List Word) → nesting e ≤ n → nesting f ≤ n
    → open_paren from a → expr_at 0 e a b → word Classes.CLOSE b c → open_paren from x → expr_at 0 f x y → word Classes.CLOSE y z
    → (c ≡ z) × (e ≡ f)
one_test n clauses e f from a b c x y z fe ff h i j k l m =
    let ea : x ≡ a = sym (one_open from a x h k) in
    let l' : expr_at 0 f a y = subst (λ w. expr_at 0 f w y) ea l in
    let (ec, eb, ends) =
    meet (Forms.expr_form n) Classes.CLOSE (paren_good n) a b c y z (whole_form e n a b fe i) j (whole_form f n a y ff l') m in
    let l'' : expr_at 0 f a b = subst (λ w. expr_at 0 f a w) (sym eb) l' in
    (ec, clauses.unique_expr n e f a b fe ff i l'' ends)

-- a simple statement ends where locals would
ends_simple : (n : ℕ) (to : List Word) → Ends (Forms.clause_form n) to → Ends (Forms.simple_form n) to
ends_simple n to ends = begins_without (Forms.simple_facts).continues (Forms.clause_facts).continues (classes to) refl ends

is_once_clause : (s : Simple) (n : ℕ) (from to : List Word) → simple_nesting s ≤ n → simple s from to → IsForm (Forms.clause_form n) from to
is_once_clause s n from to fits h = simple_clause n from to (is_simple s n from to fits h)

unique_init : (n : ℕ) → ClausesUnique → (i j : ForInit) (from to : List Word) → init_nesting i ≤ n → init_nesting j ≤ n → for_init i from to
    → for_init j from to → Ends (Forms.optional (Forms.clause_form n)) to → i ≡ j
unique_init n clauses ForInit.NoInit ForInit.NoInit from to fi fj h k ends = refl
unique_init n clauses ForInit.NoInit (ForInit.Locals l) from to fi fj h k ends =
    let f = fewer (Forms.clause_form n) (clause_good n) refl from to (is_local l n from to fj k) in
    let e : length from ≡ length to = ap length h in absurd (omega arith)
unique_init n clauses ForInit.NoInit (ForInit.Once s) from to fi fj h k ends =
    let f = fewer (Forms.clause_form n) (clause_good n) refl from to (is_once_clause s n from to fj k) in
    let e : length from ≡ length to = ap length h in absurd (omega arith)
unique_init n clauses (ForInit.Locals l) ForInit.NoInit from to fi fj h k ends =
    let f = fewer (Forms.clause_form n) (clause_good n) refl from to (is_local l n from to fi h) in
    let e : length from ≡ length to = ap length k in absurd (omega arith)
unique_init n clauses (ForInit.Once s) ForInit.NoInit from to fi fj h k ends =
    let f = fewer (Forms.clause_form n) (clause_good n) refl from to (is_once_clause s n from to fi h) in
    let e : length from ≡ length to = ap length k in absurd (omega arith)
unique_init n clauses (ForInit.Locals l) (ForInit.Locals m) from to fi fj h k ends =
    ap ForInit.Locals (clauses.unique_local n l m from to fi fj h k (ends_optional (Forms.clause_form n) to ends))
unique_init n clauses (ForInit.Once s) (ForInit.Once t) from to fi fj h k ends =
    ap ForInit.Once (clauses.unique_simple n s t from to fi fj h k (ends_simple n to (ends_optional (Forms.clause_form n) to ends)))
unique_init n clauses (ForInit.Locals l) (ForInit.Once s) from to fi fj h k ends =
    absurd (clauses.local_or_simple n l s from to fi fj h k (ends_optional (Forms.clause_form n) to ends))
unique_init n clauses (ForInit.Once s) (ForInit.Locals l) from to fi fj h k ends =
    absurd (clauses.local_or_simple n l s from to fj fi k h (ends_optional (Forms.clause_form n) to ends))

unique_value : (n : ℕ) → ClausesUnique → (e f : Option Expr) (from to : List Word) → maybe_nesting nesting e ≤ n
    → maybe_nesting nesting f ≤ n → maybe (expr_at 0) e from to → maybe (expr_at 0) f from to
    → Ends (Forms.optional (Forms.expr_form n)) to → e ≡ f
unique_value n clauses e f from to fe ff h k ends =
    unique_maybe (expr_at 0) nesting (Forms.expr_form n) n (expr_good n) refl (λ e from to fits h. whole_form e n from to fits h)
    (clauses.unique_expr n) e f from to fe ff h k ends

unique_step : (n : ℕ) → ClausesUnique → (s t : Option Simple) (from to : List Word) → maybe_nesting simple_nesting s ≤ n
    → maybe_nesting simple_nesting t ≤ n → maybe simple s from to → maybe simple t from to
    → Ends (Forms.optional (Forms.simple_form n)) to → s ≡ t
unique_step n clauses s t from to fs ft h k ends =
    unique_maybe simple simple_nesting (Forms.simple_form n) n (simple_good n) refl
    (λ s from to fits h. is_known (is_simple s n from to fits h)) (clauses.unique_simple n) s t from to fs ft h k ends

-- what a statement begins with
data Shape : Type 0 where
  Clausal Blocked Emptied Tested Looped Done Counted Broken Continued Returned Unshaped : Shape

abbrev shape_at : ℕ → Shape
shape_at class =
    if is_in class (Forms.clause_facts).starts then Clausal
    else (if class == 23 then Blocked else (if class == 25 then Emptied else (if class == 9 then Tested
    else (if class == 11 then Looped else (if class == 13 then Done else (if class == 12 then Counted else (if class == 14 then Broken
    else (if class == 15 then Continued else (if class == 16 then Returned else Unshaped)))))))))

abbrev shape_of : Stmt → Shape
shape_of (Stmt.Block place body end) = Blocked
shape_of (Stmt.Empty place) = Emptied
shape_of (Stmt.Declare l) = Clausal
shape_of (Stmt.Do s) = Clausal
shape_of (Stmt.If place test body) = Tested
shape_of (Stmt.IfElse place test body other) = Tested
shape_of (Stmt.While place test body) = Looped
shape_of (Stmt.DoWhile place body test) = Done
shape_of (Stmt.For place init test step body) = Counted
shape_of (Stmt.Break place) = Broken
shape_of (Stmt.Continue place) = Continued
shape_of (Stmt.Return place value) = Returned

begins_clause : (n : ℕ) (w : Word) (ws to : List Word) → IsForm (Forms.clause_form n) (w ∷ ws) to → shape_at w.class ≡ Clausal
begins_clause n w ws to f =
    let class : ℕ = w.class in
    let b : is_in w.class (Forms.clause_facts).starts ≡ true = begins_form (Forms.clause_form n) (clause_good n) refl w ws to f in
    ap (λ b. if b then Clausal else (if class == 23 then Blocked else (if class == 25 then Emptied else (if class == 9 then Tested
    else (if class == 11 then Looped else (if class == 13 then Done else (if class == 12 then Counted else (if class == 14 then Broken
    else (if class == 15 then Continued else (if class == 16 then Returned else Unshaped)))))))))) b

begins_stmt : (n : ℕ) (s : Stmt) (w : Word) (ws to : List Word) → stmt_nesting s ≤ n → stmt s (w ∷ ws) to → shape_at w.class ≡ shape_of s
begins_stmt n (Stmt.Block place body end) w ws to fits (a, h, k) = ap shape_at h.0
begins_stmt n (Stmt.Empty place) w ws to fits h = ap shape_at h.0
begins_stmt n (Stmt.Declare l) w ws to fits (a, h, k) = begins_clause n w ws a (is_local l n (w ∷ ws) a fits h)
begins_stmt n (Stmt.Do s) w ws to fits (a, h, k) = begins_clause n w ws a (is_once_clause s n (w ∷ ws) a fits h)
begins_stmt n (Stmt.If place test body) w ws to fits (none, (a, h, k)) = ap shape_at h.0
begins_stmt n (Stmt.IfElse place test body other) w ws to fits (a, h, k) = ap shape_at h.0
begins_stmt n (Stmt.While place test body) w ws to fits (a, h, k) = ap shape_at h.0
begins_stmt n (Stmt.DoWhile place body test) w ws to fits (a, h, k) = ap shape_at h.0
begins_stmt n (Stmt.For place init test step body) w ws to fits (a, h, k) = ap shape_at h.0
begins_stmt n (Stmt.Break place) w ws to fits (a, h, k) = ap shape_at h.0
begins_stmt n (Stmt.Continue place) w ws to fits (a, h, k) = ap shape_at h.0
begins_stmt n (Stmt.Return place value) w ws to fits (a, h, k) = ap shape_at h.0

some_stmt : (n : ℕ) (s : Stmt) (to : List Word) → stmt_nesting s ≤ n → stmt s [] to → ⊥
some_stmt n s to fits h = let f : length to
    < 0 = fewer (Forms.stmt_form n) (stmt_good n) refl [] to (is_stmt s n [] to fits h) in absurd (omega arith)

-- at most one statement leads from some words to others, within so many levels of nesting
abbrev pub StmtUniqueAt : ℕ → Type 0
StmtUniqueAt n = (s t : Stmt) (from to : List Word) → stmt_nesting s ≤ n → stmt_nesting t ≤ n → stmt s from to → stmt t from to → s ≡ t

abbrev StmtUniqueBelow : ℕ → Type 0
StmtUniqueBelow zero = Unit {0}
StmtUniqueBelow (suc n) = StmtUniqueAt n

-- statements from the same words end at the same words
pub stmt_ends : (n : ℕ) (s t : Stmt) (from to end : List Word) → stmt_nesting s ≤ n → stmt_nesting t ≤ n → stmt s from to → stmt t from end
    → to ≡ end
stmt_ends n s t from to end fs ft h k =
    synced (Forms.stmt_form n) (stmt_good n) from to end (is_stmt s n from to fs h) (is_stmt t n from end ft k) (ends_word to)
    (ends_word end)

unique_each_stmt : (n : ℕ) → StmtUniqueAt n → (xs ys : Stmts) (from to : List Word) → stmts_nesting xs ≤ n → stmts_nesting ys ≤ n
    → stmts xs from to → stmts ys from to → xs ≡ ys
unique_each_stmt n unique Stmts.NoStmts Stmts.NoStmts from to fx fy h k = refl
unique_each_stmt n unique Stmts.NoStmts (Stmts.Next t ys) from to fx fy h (a, k, l) =
    let f = fewer (Forms.stmt_form n) (stmt_good n) refl from a (is_stmt t n from a (omega arith) k) in
    let g = no_more (Many (Forms.stmt_form n)) a to (is_stmts ys n a to (omega arith) l) in
    let e : length from ≡ length to = ap length h in absurd (omega arith)
unique_each_stmt n unique (Stmts.Next s xs) Stmts.NoStmts from to fx fy (a, k, l) h =
    let f = fewer (Forms.stmt_form n) (stmt_good n) refl from a (is_stmt s n from a (omega arith) k) in
    let g = no_more (Many (Forms.stmt_form n)) a to (is_stmts xs n a to (omega arith) l) in
    let e : length from ≡ length to = ap length h in absurd (omega arith)
unique_each_stmt n unique (Stmts.Next s xs) (Stmts.Next t ys) from to fx fy (a, h, i) (b, k, l) =
    let e : a ≡ b = stmt_ends n s t from a b (omega arith) (omega arith) h k in
    let k' : stmt t from a = subst (λ w. stmt t from w) (sym e) k in
    let l' : stmts ys a to = subst (λ w. stmts ys w to) (sym e) l in
    ap₂ Stmts.Next (unique s t from a (omega arith) (omega arith) h k')
    (unique_each_stmt n unique xs ys a to (omega arith) (omega arith) i l')

pub block_good : (n : ℕ) → IsGood (Forms.block_tail_form (Forms.stmt_form n))
block_good n = let s = stmt_good n in search s

clause_end_good : (n : ℕ) → IsGood (Both (Forms.clause_form n) (AWord Classes.SEMICOLON))
clause_end_good n = let c = clause_good n in search c

init_good : (n : ℕ) → IsGood (Both (Forms.optional (Forms.clause_form n)) (AWord Classes.SEMICOLON))
init_good n = let c = clause_good n in search c

value_good : (n : ℕ) → IsGood (Both (Forms.optional (Forms.expr_form n)) (AWord Classes.SEMICOLON))
value_good n = let e = expr_good n in search e

step_good : (n : ℕ) → IsGood (Both (Forms.optional (Forms.simple_form n)) (AWord Classes.CLOSE))
step_good n = let s = simple_good n in search s

-- the statements of a block and its brace
pub one_block : (n : ℕ) → StmtUniqueAt n → (xs ys : Stmts) (p q : Place) (from a to b end : List Word) → stmts_nesting xs ≤ n
    → stmts_nesting ys ≤ n
    → stmts xs from a → word_at p Classes.CLOSE_BRACE a to → stmts ys from b → word_at q Classes.CLOSE_BRACE b end → (xs ≡ ys) × (p ≡ q)
one_block n unique xs ys p q from a to b end fx fy h i k l =
    let (same, e, ends) =
    meet (Many (Forms.stmt_form n)) Classes.CLOSE_BRACE (block_good n) from a to b end (is_stmts xs n from a fx h) (placeless p a to i)
    (is_stmts ys n from b fy k) (placeless q b end l) in
    let k' : stmts ys from a = subst (λ w. stmts ys from w) (sym e) k in
    let l' : word_at q Classes.CLOSE_BRACE a end = subst (λ w. word_at q Classes.CLOSE_BRACE w end) (sym e) l in
    (unique_each_stmt n unique xs ys from a fx fy h k', (one_place Classes.CLOSE_BRACE p q a to end i l').1)
  where
    placeless : (p : Place) (from to : List Word) → word_at p Classes.CLOSE_BRACE from to → word Classes.CLOSE_BRACE from to
    placeless p [] to h = absurd h
    placeless p (w ∷ ws) to h = (h.0, h.2)

-- what is known of two statements that lead from some words to the same
record BothStmts (n : ℕ) (s t : Stmt) (w : Word) (ws to : List Word) : Type 0 where
  clauses : ClausesUnique
  below : StmtUniqueBelow n
  fits : stmt_nesting s ≤ n
  fits_other : stmt_nesting t ≤ n
  one : stmt s (w ∷ ws) to
  other : stmt t (w ∷ ws) to
  same : shape_of s ≡ shape_of t

unique_block : (n : ℕ) → StmtUniqueAt n → (p q c d : Place) (xs ys : Stmts) (from to : List Word) → stmts_nesting xs ≤ n
    → stmts_nesting ys ≤ n
    → stmt (Stmt.Block p xs c) from to → stmt (Stmt.Block q ys d) from to → Stmt.Block p xs c ≡ Stmt.Block q ys d
unique_block n unique p q c d xs ys from to fx fy (a, h, (b, i, j)) (x, k, (y, l, m)) =
    let (ea, place) = one_place Classes.OPEN_BRACE p q from a x h k in
    let l' : stmts ys a y = subst (λ w. stmts ys w y) (sym ea) l in
    let (body, end) = one_block n unique xs ys c d a b to y to fx fy i j l' m in
    λ i. Stmt.Block (place i) (body i) (end i)

unique_blocked : (n : ℕ) (p : Place) (xs : Stmts) (c : Place) (t : Stmt) (w : Word) (ws to : List Word)
    → BothStmts (suc n) (Stmt.Block p xs c) t w ws to → Stmt.Block p xs c ≡ t
unique_blocked n p xs c (Stmt.Block q ys d) w ws to b =
    let fits : suc (stmts_nesting xs) ≤ suc n = b.fits in
    let fits_other : suc (stmts_nesting ys) ≤ suc n = b.fits_other in
    unique_block n b.below p q c d xs ys (w ∷ ws) to (omega arith) (omega arith) b.one b.other
unique_blocked n p xs c _ w ws to b = let s = b.same in absurd (cc)

unique_empty : (n : ℕ) (p : Place) (t : Stmt) (w : Word) (ws to : List Word) → BothStmts n (Stmt.Empty p) t w ws to → Stmt.Empty p ≡ t
unique_empty n p (Stmt.Empty q) w ws to b = ap Stmt.Empty (one_place Classes.SEMICOLON p q (w ∷ ws) to to b.one b.other).1
unique_empty n p _ w ws to b = let s = b.same in absurd (cc)

unique_declare : (n : ℕ) → ClausesUnique → (l m : Local) (from to : List Word) → local_nesting l ≤ n → local_nesting m ≤ n
    → stmt (Stmt.Declare l) from to → stmt (Stmt.Declare m) from to → l ≡ m
unique_declare n clauses l m from to fl fm (a, h, i) (x, j, k) =
    let (same, e, ends) =
    meet (Forms.clause_form n) Classes.SEMICOLON (clause_end_good n) from a to x to (is_local l n from a fl h) i
    (is_local m n from x fm j) k in
    let j' : local m from a = subst (λ w. local m from w) (sym e) j in
    clauses.unique_local n l m from a fl fm h j' ends

unique_do : (n : ℕ) → ClausesUnique → (s t : Simple) (from to : List Word) → simple_nesting s ≤ n → simple_nesting t ≤ n
    → stmt (Stmt.Do s) from to → stmt (Stmt.Do t) from to → s ≡ t
unique_do n clauses s t from to fs ft (a, h, i) (x, j, k) =
    let (same, e, ends) =
    meet (Forms.clause_form n) Classes.SEMICOLON (clause_end_good n) from a to x to (is_once_clause s n from a fs h) i
    (is_once_clause t n from x ft j) k in
    let j' : simple t from a = subst (λ w. simple t from w) (sym e) j in
    clauses.unique_simple n s t from a fs ft h j' (ends_simple n a ends)

declare_or_do : (n : ℕ) → ClausesUnique → (l : Local) (s : Simple) (from to : List Word) → local_nesting l ≤ n → simple_nesting s ≤ n
    → stmt (Stmt.Declare l) from to → stmt (Stmt.Do s) from to → ⊥
declare_or_do n clauses l s from to fl fs (a, h, i) (x, j, k) =
    let (same, e, ends) =
    meet (Forms.clause_form n) Classes.SEMICOLON (clause_end_good n) from a to x to (is_local l n from a fl h) i
    (is_once_clause s n from x fs j) k in
    let j' : simple s from a = subst (λ w. simple s from w) (sym e) j in
    clauses.local_or_simple n l s from a fl fs h j' ends

unique_declared : (n : ℕ) (l : Local) (t : Stmt) (w : Word) (ws to : List Word) → BothStmts n (Stmt.Declare l) t w ws to
    → Stmt.Declare l ≡ t
unique_declared n l (Stmt.Declare m) w ws to b =
    ap Stmt.Declare (unique_declare n b.clauses l m (w ∷ ws) to b.fits b.fits_other b.one b.other)
unique_declared n l (Stmt.Do s) w ws to b = absurd (declare_or_do n b.clauses l s (w ∷ ws) to b.fits b.fits_other b.one b.other)
unique_declared n l _ w ws to b = let s = b.same in absurd (cc)

unique_done : (n : ℕ) (s : Simple) (t : Stmt) (w : Word) (ws to : List Word) → BothStmts n (Stmt.Do s) t w ws to → Stmt.Do s ≡ t
unique_done n s (Stmt.Do t) w ws to b = ap Stmt.Do (unique_do n b.clauses s t (w ∷ ws) to b.fits b.fits_other b.one b.other)
unique_done n s (Stmt.Declare l) w ws to b = absurd (declare_or_do n b.clauses l s (w ∷ ws) to b.fits_other b.fits b.other b.one)
unique_done n s _ w ws to b = let e = b.same in absurd (cc)

-- `if`, with and without `else`

same_if : (n : ℕ) → ClausesUnique → StmtUniqueAt n → (p q : Place) (e f : Expr) (s t : Stmt) (from to : List Word) → nesting e ≤ n
    → nesting f ≤ n → stmt_nesting s ≤ n → stmt_nesting t ≤ n
    → stmt (Stmt.If p e s) from to → stmt (Stmt.If q f t) from to → Stmt.If p e s ≡ Stmt.If q f t
same_if n clauses unique p q e f s t from to fe ff fs ft (none, (a, h1, (b, h2, (c, h3, (d, h4, h5)))))
    (none_other, (v, k1, (x, k2, (y, k3, (z, k4, k5))))) =
    let (ea, place) = one_place Classes.IF p q from a v h1 k1 in
    let k2' : open_paren a x = subst (λ w. open_paren w x) (sym ea) k2 in
    let (ed, test) = one_test n clauses e f a b c d x y z fe ff h2 h3 h4 k2' k3 k4 in
    let k5' : stmt t d to = subst (λ w. stmt t w to) (sym ed) k5 in
    let body = unique s t d to fs ft h5 k5' in
    λ i. Stmt.If (place i) (test i) (body i)

no_else_here : (from to : List Word) → NoElse from → word Classes.ELSE from to → ⊥
no_else_here [] to none h = h
no_else_here (w ∷ ws) to none h = none h.0

if_or_else : (n : ℕ) → ClausesUnique → (p q : Place) (e f : Expr) (s t o : Stmt) (from to : List Word) → nesting e ≤ n → nesting f ≤ n
    → stmt_nesting s ≤ n → stmt_nesting t ≤ n
    → stmt (Stmt.If p e s) from to → stmt (Stmt.IfElse q f t o) from to → ⊥
if_or_else n clauses p q e f s t o from to fe ff fs ft (none, (a, h1, (b, h2, (c, h3, (d, h4, h5)))))
    (v, k1, (x, k2, (y, k3, (z, k4, (u, k5, (r, k6, k7)))))) =
    let (ea, place) = one_place Classes.IF p q from a v h1 k1 in
    let k2' : open_paren a x = subst (λ w. open_paren w x) (sym ea) k2 in
    let (ed, test) = one_test n clauses e f a b c d x y z fe ff h2 h3 h4 k2' k3 k4 in
    let k5' : stmt t d u = subst (λ w. stmt t w u) (sym ed) k5 in
    let end : to ≡ u = stmt_ends n s t d to u fs ft h5 k5' in
    let k6' : word Classes.ELSE to r = subst (λ w. word Classes.ELSE w r) (sym end) k6 in
    no_else_here to r none k6'

same_if_else : (n : ℕ) → ClausesUnique → StmtUniqueAt n → (p q : Place) (e f : Expr) (s t o m : Stmt) (from to : List Word) → nesting e ≤ n
    → nesting f ≤ n → stmt_nesting s ≤ n → stmt_nesting t ≤ n → stmt_nesting o ≤ n → stmt_nesting m ≤ n
    → stmt (Stmt.IfElse p e s o) from to → stmt (Stmt.IfElse q f t m) from to → Stmt.IfElse p e s o ≡ Stmt.IfElse q f t m
same_if_else n clauses unique p q e f s t o m from to fe ff fs ft fo fm (a, h1, (b, h2, (c, h3, (d, h4, (g, h5, (j, h6, h7))))))
    (v, k1, (x, k2, (y, k3, (z, k4, (u, k5, (r, k6, k7)))))) =
    let (ea, place) = one_place Classes.IF p q from a v h1 k1 in
    let k2' : open_paren a x = subst (λ w. open_paren w x) (sym ea) k2 in
    let (ed, test) = one_test n clauses e f a b c d x y z fe ff h2 h3 h4 k2' k3 k4 in
    let k5' : stmt t d u = subst (λ w. stmt t w u) (sym ed) k5 in
    let eg : g ≡ u = stmt_ends n s t d g u fs ft h5 k5' in
    let k5'' : stmt t d g = subst (λ w. stmt t d w) (sym eg) k5' in
    let body = unique s t d g fs ft h5 k5'' in
    let k6' : word Classes.ELSE g r = subst (λ w. word Classes.ELSE w r) (sym eg) k6 in
    let ej : j ≡ r = (one_word Classes.ELSE Classes.ELSE g j r h6 k6').0 in
    let k7' : stmt m j to = subst (λ w. stmt m w to) (sym ej) k7 in
    let other = unique o m j to fo fm h7 k7' in
    λ i. Stmt.IfElse (place i) (test i) (body i) (other i)

unique_tested : (n : ℕ) (p : Place) (e : Expr) (s t : Stmt) (w : Word) (ws to : List Word) → BothStmts (suc n) (Stmt.If p e s) t w ws to
    → Stmt.If p e s ≡ t
unique_tested n p e s (Stmt.If q f t) w ws to b =
    let fits : suc (max (nesting e) (stmt_nesting s)) ≤ suc n = b.fits in
    let fits_other : suc (max (nesting f) (stmt_nesting t)) ≤ suc n = b.fits_other in
    same_if n b.clauses b.below p q e f s t (w ∷ ws) to (omega arith) (omega arith) (omega arith) (omega arith) b.one b.other
unique_tested n p e s (Stmt.IfElse q f t o) w ws to b =
    let fits : suc (max (nesting e) (stmt_nesting s)) ≤ suc n = b.fits in
    let fits_other : suc (max (nesting f) (max (stmt_nesting t) (stmt_nesting o))) ≤ suc n = b.fits_other in
    absurd (if_or_else n b.clauses p q e f s t o (w ∷ ws) to (omega arith) (omega arith) (omega arith) (omega arith) b.one b.other)
unique_tested n p e s _ w ws to b = let x = b.same in absurd (cc)

unique_decided : (n : ℕ) (p : Place) (e : Expr) (s o t : Stmt) (w : Word) (ws to : List Word)
    → BothStmts (suc n) (Stmt.IfElse p e s o) t w ws to → Stmt.IfElse p e s o ≡ t
unique_decided n p e s o (Stmt.IfElse q f t m) w ws to b =
    let fits : suc (max (nesting e) (max (stmt_nesting s) (stmt_nesting o))) ≤ suc n = b.fits in
    let fits_other : suc (max (nesting f) (max (stmt_nesting t) (stmt_nesting m))) ≤ suc n = b.fits_other in
    same_if_else n b.clauses b.below p q e f s t o m (w ∷ ws) to (omega arith) (omega arith) (omega arith) (omega arith) (omega arith)
    (omega arith) b.one b.other
unique_decided n p e s o (Stmt.If q f t) w ws to b =
    let fits : suc (max (nesting e) (max (stmt_nesting s) (stmt_nesting o))) ≤ suc n = b.fits in
    let fits_other : suc (max (nesting f) (stmt_nesting t)) ≤ suc n = b.fits_other in
    absurd (if_or_else n b.clauses q p f e t s o (w ∷ ws) to (omega arith) (omega arith) (omega arith) (omega arith) b.other b.one)
unique_decided n p e s o _ w ws to b = let x = b.same in absurd (cc)

-- loops

same_while : (n : ℕ) → ClausesUnique → StmtUniqueAt n → (p q : Place) (e f : Expr) (s t : Stmt) (from to : List Word) → nesting e ≤ n
    → nesting f ≤ n → stmt_nesting s ≤ n → stmt_nesting t ≤ n
    → stmt (Stmt.While p e s) from to → stmt (Stmt.While q f t) from to → Stmt.While p e s ≡ Stmt.While q f t
same_while n clauses unique p q e f s t from to fe ff fs ft (a, h1, (b, h2, (c, h3, (d, h4, h5)))) (v, k1, (x, k2, (y, k3, (z, k4, k5)))) =
    let (ea, place) = one_place Classes.WHILE p q from a v h1 k1 in
    let k2' : open_paren a x = subst (λ w. open_paren w x) (sym ea) k2 in
    let (ed, test) = one_test n clauses e f a b c d x y z fe ff h2 h3 h4 k2' k3 k4 in
    let k5' : stmt t d to = subst (λ w. stmt t w to) (sym ed) k5 in
    let body = unique s t d to fs ft h5 k5' in
    λ i. Stmt.While (place i) (test i) (body i)

same_do_while : (n : ℕ) → ClausesUnique → StmtUniqueAt n → (p q : Place) (e f : Expr) (s t : Stmt) (from to : List Word) → nesting e ≤ n
    → nesting f ≤ n → stmt_nesting s ≤ n → stmt_nesting t ≤ n
    → stmt (Stmt.DoWhile p s e) from to → stmt (Stmt.DoWhile q t f) from to → Stmt.DoWhile p s e ≡ Stmt.DoWhile q t f
same_do_while n clauses unique p q e f s t from to fe ff fs ft (a, h1, (b, h2, (c, h3, (d, h4, (g, h5, (j, h6, h7))))))
    (v, k1, (x, k2, (y, k3, (z, k4, (u, k5, (r, k6, k7)))))) =
    let (ea, place) = one_place Classes.DO p q from a v h1 k1 in
    let k2' : stmt t a x = subst (λ w. stmt t w x) (sym ea) k2 in
    let eb : b ≡ x = stmt_ends n s t a b x fs ft h2 k2' in
    let k2'' : stmt t a b = subst (λ w. stmt t a w) (sym eb) k2' in
    let body = unique s t a b fs ft h2 k2'' in
    let k3' : word Classes.WHILE b y = subst (λ w. word Classes.WHILE w y) (sym eb) k3 in
    let ec : c ≡ y = (one_word Classes.WHILE Classes.WHILE b c y h3 k3').0 in
    let k4' : open_paren c z = subst (λ w. open_paren w z) (sym ec) k4 in
    let (ej, test) = one_test n clauses e f c d g j z u r fe ff h4 h5 h6 k4' k5 k6 in
    λ i. Stmt.DoWhile (place i) (body i) (test i)

same_for : (n : ℕ) → ClausesUnique → StmtUniqueAt n
    → (p q : Place) (i j : ForInit) (e f : Option Expr) (g m : Option Simple) (s t : Stmt) (from to : List Word) → init_nesting i ≤ n
    → init_nesting j ≤ n
    → maybe_nesting nesting e ≤ n → maybe_nesting nesting f ≤ n → maybe_nesting simple_nesting g ≤ n → maybe_nesting simple_nesting m ≤ n
    → stmt_nesting s ≤ n → stmt_nesting t ≤ n
    → stmt (Stmt.For p i e g s) from to → stmt (Stmt.For q j f m t) from to → Stmt.For p i e g s ≡ Stmt.For q j f m t
same_for n clauses unique p q i j e f g m s t from to fi fj fe ff fg fm fs ft
    (a1, h1, (a2, h2, (a3, h3, (a4, h4, (a5, h5, (a6, h6, (a7, h7, (a8, h8, h9))))))))
    (b1, k1, (b2, k2, (b3, k3, (b4, k4, (b5, k5, (b6, k6, (b7, k7, (b8, k8, k9)))))))) =
    let (e1, place) = one_place Classes.FOR p q from a1 b1 h1 k1 in
    let k2' : open_paren a1 b2 = subst (λ w. open_paren w b2) (sym e1) k2 in
    let e2 : a2 ≡ b2 = one_open a1 a2 b2 h2 k2' in
    let k3' : for_init j a2 b3 = subst (λ w. for_init j w b3) (sym e2) k3 in
    let (e4, e3, ends3) =
    meet (Forms.optional (Forms.clause_form n)) Classes.SEMICOLON (init_good n) a2 a3 a4 b3 b4 (is_init i n a2 a3 fi h3) h4
    (is_init j n a2 b3 fj k3') k4 in
    let k3'' : for_init j a2 a3 = subst (λ w. for_init j a2 w) (sym e3) k3' in
    let init = unique_init n clauses i j a2 a3 fi fj h3 k3'' ends3 in
    let k5' : maybe (expr_at 0) f a4 b5 = subst (λ w. maybe (expr_at 0) f w b5) (sym e4) k5 in
    let (e6, e5, ends5) =
    meet (Forms.optional (Forms.expr_form n)) Classes.SEMICOLON (value_good n) a4 a5 a6 b5 b6 (is_optional e n a4 a5 fe h5) h6
    (is_optional f n a4 b5 ff k5') k6 in
    let k5'' : maybe (expr_at 0) f a4 a5 = subst (λ w. maybe (expr_at 0) f a4 w) (sym e5) k5' in
    let test = unique_value n clauses e f a4 a5 fe ff h5 k5'' ends5 in
    let k7' : maybe simple m a6 b7 = subst (λ w. maybe simple m w b7) (sym e6) k7 in
    let (e8, e7, ends7) =
    meet (Forms.optional (Forms.simple_form n)) Classes.CLOSE (step_good n) a6 a7 a8 b7 b8 (is_once g n a6 a7 fg h7) h8
    (is_once m n a6 b7 fm k7') k8 in
    let k7'' : maybe simple m a6 a7 = subst (λ w. maybe simple m a6 w) (sym e7) k7' in
    let step = unique_step n clauses g m a6 a7 fg fm h7 k7'' ends7 in
    let k9' : stmt t a8 to = subst (λ w. stmt t w to) (sym e8) k9 in
    let body = unique s t a8 to fs ft h9 k9' in
    λ x. Stmt.For (place x) (init x) (test x) (step x) (body x)

unique_looped : (n : ℕ) (p : Place) (e : Expr) (s t : Stmt) (w : Word) (ws to : List Word) → BothStmts (suc n) (Stmt.While p e s) t w ws to
    → Stmt.While p e s ≡ t
unique_looped n p e s (Stmt.While q f t) w ws to b =
    let fits : suc (max (nesting e) (stmt_nesting s)) ≤ suc n = b.fits in
    let fits_other : suc (max (nesting f) (stmt_nesting t)) ≤ suc n = b.fits_other in
    same_while n b.clauses b.below p q e f s t (w ∷ ws) to (omega arith) (omega arith) (omega arith) (omega arith) b.one b.other
unique_looped n p e s _ w ws to b = let x = b.same in absurd (cc)

unique_do_while : (n : ℕ) (p : Place) (e : Expr) (s t : Stmt) (w : Word) (ws to : List Word)
    → BothStmts (suc n) (Stmt.DoWhile p s e) t w ws to → Stmt.DoWhile p s e ≡ t
unique_do_while n p e s (Stmt.DoWhile q t f) w ws to b =
    let fits : suc (max (stmt_nesting s) (nesting e)) ≤ suc n = b.fits in
    let fits_other : suc (max (stmt_nesting t) (nesting f)) ≤ suc n = b.fits_other in
    same_do_while n b.clauses b.below p q e f s t (w ∷ ws) to (omega arith) (omega arith) (omega arith) (omega arith) b.one b.other
unique_do_while n p e s _ w ws to b = let x = b.same in absurd (cc)

unique_for : (n : ℕ) (p : Place) (i : ForInit) (e : Option Expr) (g : Option Simple) (s t : Stmt) (w : Word) (ws to : List Word)
    → BothStmts (suc n) (Stmt.For p i e g s) t w ws to → Stmt.For p i e g s ≡ t
unique_for n p i e g s (Stmt.For q j f m t) w ws to b =
    let fits : suc (max (init_nesting i) (max (maybe_nesting nesting e) (max (maybe_nesting simple_nesting g) (stmt_nesting s)))) ≤ suc n =
    b.fits in
    let fits_other : suc (max (init_nesting j) (max (maybe_nesting nesting f) (max (maybe_nesting simple_nesting m) (stmt_nesting t))))
    ≤ suc n = b.fits_other in
    same_for n b.clauses b.below p q i j e f g m s t (w ∷ ws) to (omega arith) (omega arith) (omega arith) (omega arith) (omega arith)
    (omega arith) (omega arith) (omega arith) b.one b.other
unique_for n p i e g s _ w ws to b = let x = b.same in absurd (cc)

-- jumps

unique_break : (n : ℕ) (p : Place) (t : Stmt) (w : Word) (ws to : List Word) → BothStmts n (Stmt.Break p) t w ws to → Stmt.Break p ≡ t
unique_break n p (Stmt.Break q) w ws to b = both b.one b.other
  where
    both : stmt (Stmt.Break p) (w ∷ ws) to → stmt (Stmt.Break q) (w ∷ ws) to → Stmt.Break p ≡ Stmt.Break q
    both (a, h, i) (x, k, l) = ap Stmt.Break (one_place Classes.BREAK p q (w ∷ ws) a x h k).1
unique_break n p _ w ws to b = let s = b.same in absurd (cc)

unique_continue : (n : ℕ) (p : Place) (t : Stmt) (w : Word) (ws to : List Word) → BothStmts n (Stmt.Continue p) t w ws to
    → Stmt.Continue p ≡ t
unique_continue n p (Stmt.Continue q) w ws to b = both b.one b.other
  where
    both : stmt (Stmt.Continue p) (w ∷ ws) to → stmt (Stmt.Continue q) (w ∷ ws) to → Stmt.Continue p ≡ Stmt.Continue q
    both (a, h, i) (x, k, l) = ap Stmt.Continue (one_place Classes.CONTINUE p q (w ∷ ws) a x h k).1
unique_continue n p _ w ws to b = let s = b.same in absurd (cc)

same_return : (n : ℕ) → ClausesUnique → (p q : Place) (e f : Option Expr) (from to : List Word) → maybe_nesting nesting e ≤ n
    → maybe_nesting nesting f ≤ n
    → stmt (Stmt.Return p e) from to → stmt (Stmt.Return q f) from to → Stmt.Return p e ≡ Stmt.Return q f
same_return n clauses p q e f from to fe ff (a, h1, (b, h2, h3)) (x, k1, (y, k2, k3)) =
    let (ea, place) = one_place Classes.RETURN p q from a x h1 k1 in
    let k2' : maybe (expr_at 0) f a y = subst (λ w. maybe (expr_at 0) f w y) (sym ea) k2 in
    let (same, eb, ends) =
    meet (Forms.optional (Forms.expr_form n)) Classes.SEMICOLON (value_good n) a b to y to (is_optional e n a b fe h2) h3
    (is_optional f n a y ff k2') k3 in
    let k2'' : maybe (expr_at 0) f a b = subst (λ w. maybe (expr_at 0) f a w) (sym eb) k2' in
    let value = unique_value n clauses e f a b fe ff h2 k2'' ends in
    λ i. Stmt.Return (place i) (value i)

unique_return : (n : ℕ) (p : Place) (e : Option Expr) (t : Stmt) (w : Word) (ws to : List Word) → BothStmts n (Stmt.Return p e) t w ws to
    → Stmt.Return p e ≡ t
unique_return n p e (Stmt.Return q f) w ws to b = same_return n b.clauses p q e f (w ∷ ws) to b.fits b.fits_other b.one b.other
unique_return n p e _ w ws to b = let s = b.same in absurd (cc)

-- all statements

unique_both : (n : ℕ) (s t : Stmt) (w : Word) (ws to : List Word) → BothStmts n s t w ws to → s ≡ t
unique_both zero (Stmt.Block p xs c) t w ws to b = let fits : suc (stmts_nesting xs) ≤ 0 = b.fits in absurd (omega arith)
unique_both zero (Stmt.If p e s) t w ws to b = let fits : suc (max (nesting e) (stmt_nesting s)) ≤ 0 = b.fits in absurd (omega arith)
unique_both zero (Stmt.IfElse p e s o) t w ws to b =
    let fits : suc (max (nesting e) (max (stmt_nesting s) (stmt_nesting o))) ≤ 0 = b.fits in absurd (omega arith)
unique_both zero (Stmt.While p e s) t w ws to b = let fits : suc (max (nesting e) (stmt_nesting s)) ≤ 0 = b.fits in absurd (omega arith)
unique_both zero (Stmt.DoWhile p s e) t w ws to b = let fits : suc (max (stmt_nesting s) (nesting e)) ≤ 0 = b.fits in absurd (omega arith)
unique_both zero (Stmt.For p i e g s) t w ws to b =
    let fits : suc (max (init_nesting i) (max (maybe_nesting nesting e) (max (maybe_nesting simple_nesting g) (stmt_nesting s)))) ≤ 0 =
    b.fits in absurd (omega arith)
unique_both (suc n) (Stmt.Block p xs c) t w ws to b = unique_blocked n p xs c t w ws to b
unique_both (suc n) (Stmt.If p e s) t w ws to b = unique_tested n p e s t w ws to b
unique_both (suc n) (Stmt.IfElse p e s o) t w ws to b = unique_decided n p e s o t w ws to b
unique_both (suc n) (Stmt.While p e s) t w ws to b = unique_looped n p e s t w ws to b
unique_both (suc n) (Stmt.DoWhile p s e) t w ws to b = unique_do_while n p e s t w ws to b
unique_both (suc n) (Stmt.For p i e g s) t w ws to b = unique_for n p i e g s t w ws to b
unique_both n (Stmt.Empty p) t w ws to b = unique_empty n p t w ws to b
unique_both n (Stmt.Declare l) t w ws to b = unique_declared n l t w ws to b
unique_both n (Stmt.Do s) t w ws to b = unique_done n s t w ws to b
unique_both n (Stmt.Break p) t w ws to b = unique_break n p t w ws to b
unique_both n (Stmt.Continue p) t w ws to b = unique_continue n p t w ws to b
unique_both n (Stmt.Return p e) t w ws to b = unique_return n p e t w ws to b

stmt_by_words : (n : ℕ) → ClausesUnique → StmtUniqueBelow n → StmtUniqueAt n
stmt_by_words n clauses below s t [] to fs ft h k = absurd (some_stmt n s to fs h)
stmt_by_words n clauses below s t (w ∷ ws) to fs ft h k =
    unique_both n s t w ws to
    (record {
      clauses = clauses;
      below = below;
      fits = fs;
      fits_other = ft;
      one = h;
      other = k;
      same = sym (begins_stmt n s w ws to fs h) ∙ begins_stmt n t w ws to ft k;
    })

unique_within : ClausesUnique → (n : ℕ) → StmtUniqueAt n
unique_within clauses zero = stmt_by_words zero clauses tt
unique_within clauses (suc n) = stmt_by_words (suc n) clauses (unique_within clauses n)

-- no words have two statements
pub stmt_unique : ClausesUnique → (n : ℕ) (s t : Stmt) (from to : List Word) → stmt_nesting s ≤ n → stmt_nesting t ≤ n → stmt s from to
    → stmt t from to → s ≡ t
stmt_unique clauses n s t from to fs ft h k = unique_within clauses n s t from to fs ft h k

pub stmts_unique : ClausesUnique → (n : ℕ) (xs ys : Stmts) (from to : List Word) → stmts_nesting xs ≤ n → stmts_nesting ys ≤ n
    → stmts xs from to → stmts ys from to → xs ≡ ys
stmts_unique clauses n xs ys from to fx fy h k = unique_each_stmt n (unique_within clauses n) xs ys from to fx fy h k
