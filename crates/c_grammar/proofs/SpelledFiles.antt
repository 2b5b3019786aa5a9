-- What statements, items and files spell is derived by the grammar's form, within as many levels as they nest.
use Rattle.std.proofs.Common.{◌≡◌, ◌⊎◌, inl, inr, ℕ, zero, suc, ◌≤◌, Bool, true, false, List, [], ◌∷◌, refl, sym, subst, arith}
use Rattle.std.specs.Prelude.{Option, Some, None, ◌==◌, ◌||◌}
use Rattle.std.proofs.lemmas.Bool.{eqb-true}
use Rattle.grammar_laws.specs.Form.{Word as AWord, Closed, Nothing, Both, Either, Many, begins_in}
use Rattle.c_grammar.specs.Classes
use Rattle.c_grammar.specs.Words.{Word, classes}
use Rattle.c_grammar.specs.Matching.{IsForm}
use Rattle.c_grammar.specs.Trees.{Name, Specifier, Head, Expr, AssignOp, StepOp, Simple, Initialized, Local, ForInit, Stmt, Stmts, Item}
use Rattle.c_grammar.specs.Trees.{File}
use Rattle.c_grammar.specs.Spelling.{word, open_paren, name, each, maybe, specifier, struct_body, head, expr_at, class_of_assign}
use Rattle.c_grammar.specs.Spelling.{class_of_step, simple, initialized, local, for_init, NoElse, stmt, stmts, item, Spells}
use Rattle.c_grammar.specs.Nesting.{nesting, deepest, maybe_nesting, simple_nesting, initialized_nesting, local_nesting, init_nesting}
use Rattle.c_grammar.specs.Nesting.{stmt_nesting, stmts_nesting, item_nesting, file_nesting}
use Rattle.c_grammar.specs.Forms
use Rattle.c_grammar.proofs.Parts.{is_word, is_word_at, is_nothing, is_both, is_first, is_second, is_none, is_more, is_known, is_lacking}
use Rattle.c_grammar.proofs.Parts.{is_there, either_part, both_parts, nothing_part}
use Rattle.c_grammar.proofs.Spelled.{is_name, is_open, is_declarator, is_struct_body, is_params, is_expr, is_args}

-- an expression of any level
is_whole : (e : Expr) (n : ℕ) (from to : List Word) → nesting e ≤ n → expr_at 0 e from to → IsForm (Forms.expr_form n) from to
is_whole e n from to fits h = is_known (is_expr e 0 8 n from to refl fits h)

-- members and an assignment behind a call
members_tail : (n : ℕ) (from mid to : List Word) → IsForm Forms.members_form from mid
    → IsForm (Forms.assign_form (Forms.expr_form n)) mid to → IsForm (Forms.call_tail_form n) from to
members_tail n from mid to members assign = is_first (is_both members assign)

-- the arguments of a call, and what is behind them
call_then : (n : ℕ) (from mid to : List Word) → IsForm (Forms.call_form n (Forms.expr_below n)) from mid
    → IsForm (Forms.call_tail_form n) mid to → IsForm (Forms.call_then_form n) from to
call_then zero from mid to call tail = by_case (either_part call)
  where
    by_case : IsForm (Closed Classes.OPEN) from mid ⊎ IsForm (Closed Classes.CAST) from mid → IsForm (Forms.call_then_form zero) from to
    by_case (inl f) = absurd f.derives
    by_case (inr f) = absurd f.derives
call_then (suc n) from mid to call tail = by_case (either_part call)
  where
    by_case : IsForm
        (Both (AWord Classes.OPEN)
        (Both (Forms.optional (Both (Forms.expr_form n) (Forms.more_of (Forms.expr_form n)))) (AWord Classes.CLOSE))) from mid
        ⊎ IsForm (Both (AWord Classes.CAST)
        (Both (Forms.optional (Both (Forms.expr_form n) (Forms.more_of (Forms.expr_form n)))) (AWord Classes.CLOSE))) from mid
        → IsForm (Forms.call_then_form (suc n)) from to
    by_case (inl f) =
        let (a, paren, g) =
        both_parts f in let (b, args, close) = both_parts g in is_first (is_both paren (is_both args (is_both close tail)))
    by_case (inr f) =
        let (a, paren, g) =
        both_parts f in let (b, args, close) = both_parts g in is_second (is_both paren (is_both args (is_both close tail)))

-- an expression that is assigned to begins a simple statement
is_target : (n : ℕ) (from mid to : List Word) → IsForm (Forms.postfix_form n (Forms.expr_below n)) from mid
    → IsForm (Forms.assign_form (Forms.expr_form n)) mid to → IsForm (Forms.simple_body n) from to
is_target n from mid to target assign = let (a, primary, members) = both_parts target in by_primary a members (either_part primary)
  where
    by_call : (b a : List Word) → IsForm (AWord Classes.NAME) from b → IsForm Forms.members_form a mid
        → IsForm (Forms.call_form n (Forms.expr_below n)) b a ⊎ IsForm Nothing b a → IsForm (Forms.simple_body n) from to
    by_call b a first members (inl call) =
        is_first (is_both first (is_first (call_then n b a to call (members_tail n a mid to members assign))))
    by_call b a first members (inr none) =
        is_first (is_both first
        (is_second (is_both (subst (λ w. IsForm Forms.members_form w mid) (sym (nothing_part none)) members) assign)))

    by_primary : (a : List Word) → IsForm Forms.members_form a mid
        → IsForm (Both (AWord Classes.NAME) (Forms.optional (Forms.call_form n (Forms.expr_below n)))) from a
        ⊎ IsForm (Forms.closed_form n (Forms.expr_below n)) from a → IsForm (Forms.simple_body n) from to
    by_primary a members (inl named) = let (b, first, call) = both_parts named in by_call b a first members (either_part call)
    by_primary a members (inr closed) = is_second (is_second (is_both closed (is_both members assign)))

pub is_assign : (op : AssignOp) (from to : List Word) → word (class_of_assign op) from to
    → IsForm (Either (AWord Classes.SET)
    (Either (AWord Classes.ADD_TO) (Either (AWord Classes.SUBTRACT_FROM) (AWord Classes.MULTIPLY_BY)))) from to
is_assign AssignOp.Set from to h = is_first (is_word from to h)
is_assign AssignOp.AddTo from to h = is_second (is_first (is_word from to h))
is_assign AssignOp.SubtractFrom from to h = is_second (is_second (is_first (is_word from to h)))
is_assign AssignOp.MultiplyBy from to h = is_second (is_second (is_second (is_word from to h)))

pub is_step : (op : StepOp) (n : ℕ) (from to : List Word) → word (class_of_step op) from to
    → IsForm (Forms.assign_form (Forms.expr_form n)) from to
is_step StepOp.Increment n from to h = is_second (is_first (is_word from to h))
is_step StepOp.Decrement n from to h = is_second (is_second (is_word from to h))

is_perform : (callee : Name) (n : ℕ) (from a b c to : List Word) → name callee from a → open_paren a b
    → IsForm (Forms.optional (Both (Forms.expr_form n) (Forms.more_of (Forms.expr_form n)))) b c → word Classes.CLOSE c to
    → IsForm (Forms.simple_body (suc n)) from to
is_perform callee n from a b c to h (inl i) j k =
    is_first (is_both (is_name callee from a h)
    (is_first (is_first (is_both (is_word a b i) (is_both j (is_both (is_word c to k) (is_second (is_nothing to to refl))))))))
is_perform callee n from a b c to h (inr i) j k =
    is_first (is_both (is_name callee from a h)
    (is_first (is_second (is_both (is_word a b i) (is_both j (is_both (is_word c to k) (is_second (is_nothing to to refl))))))))

pub is_simple : (s : Simple) (n : ℕ) (from to : List Word) → simple_nesting s ≤ n → simple s from to → IsForm (Forms.simple_body n) from to
is_simple (Simple.Assign target op value) n from to fits (a, h, (b, i, k)) =
    is_target n from a to (is_expr target 7 1 n from a refl (omega arith) h)
    (is_first (is_both (is_assign op a b i) (is_whole value n b to (omega arith) k)))
is_simple (Simple.Step target op) n from to fits (a, h, k) =
    is_target n from a to (is_expr target 7 1 n from a refl (omega arith) h) (is_step op n a to k)
is_simple (Simple.Perform callee args) zero from to fits h = absurd (omega arith)
is_simple (Simple.Perform callee args) (suc n) from to fits (a, h, (b, i, (c, j, k))) =
    is_perform callee n from a b c to h i (is_args args n b c (omega arith) j) k
is_simple (Simple.Free place pointer) n from to fits (a, h, (b, i, (c, j, k))) =
    is_second (is_first
    (is_both (is_word_at place from a h) (is_both (is_open a b i) (is_both (is_whole pointer n b c (omega arith) j) (is_word c to k)))))

-- a simple statement is a clause
pub simple_clause : (n : ℕ) (from to : List Word) → IsForm (Forms.simple_body n) from to → IsForm (Forms.clause_form n) from to
simple_clause n from to f = is_known (by_case (either_part f))
  where
    by_case : IsForm (Both (AWord Classes.NAME) (Forms.name_tail_form n)) from to ⊎ IsForm (Forms.other_simple_form n) from to
        → IsForm (Forms.clause_body n) from to
    by_case (inl named) = let (mid, first, tail) = both_parts named in is_second (is_first (is_both first (is_second tail)))
    by_case (inr other) = is_second (is_second other)

is_set_value : (value : Expr) (n : ℕ) (from to : List Word) → nesting value ≤ n
    → (mid : List Word) × word Classes.SET from mid × expr_at 0 value mid to → IsForm (Both (AWord Classes.SET) (Forms.expr_form n)) from to
is_set_value value n from to fits (mid, h, k) = is_both (is_word from mid h) (is_whole value n mid to fits k)

is_value : (value : Option Expr) (n : ℕ) (from to : List Word) → maybe_nesting nesting value ≤ n
    → maybe (λ e x y. (mid : List Word) × word Classes.SET x mid × expr_at 0 e mid y) value from to
    → IsForm (Forms.optional (Both (AWord Classes.SET) (Forms.expr_form n))) from to
is_value None n from to fits h = is_second (is_nothing from to h)
is_value (Some value) n from to fits h = is_first (is_set_value value n from to fits h)

is_initialized : (one : Initialized) (n : ℕ) (from to : List Word) → initialized_nesting one ≤ n → initialized one from to
    → IsForm (Forms.initialized_form n) from to
is_initialized one n from to fits (mid, h, k) = is_both (is_declarator one.declarator from mid h) (is_value one.value n mid to fits k)

is_others : (all : List Initialized) (n : ℕ) (from to : List Word) → deepest initialized_nesting all ≤ n
    → each (λ one x y. (mid : List Word) × word Classes.COMMA x mid × initialized one mid y) all from to
    → IsForm (Forms.more_of (Forms.initialized_form n)) from to
is_others [] n from to fits h = is_none from to h
is_others (one ∷ others) n from to fits (b, (a, h, i), k) =
    is_more (is_both (is_word from a h) (is_initialized one n a b (omega arith) i)) (is_others others n b to (omega arith) k)

is_typed : (s : Specifier) (n : ℕ) (from mid to : List Word) → specifier s from mid → IsForm (Forms.locals_tail_form n) mid to
    → IsForm (Forms.clause_body n) from to
is_typed (Specifier.Int place) n from mid to h tail = is_first (is_both (is_first (is_word_at place from mid h)) tail)
is_typed (Specifier.Void place) n from mid to h tail = is_first (is_both (is_second (is_first (is_word_at place from mid h))) tail)
is_typed (Specifier.Struct place tag) n from mid to (a, h, k) tail =
    is_first (is_both (is_second (is_second (is_both (is_word_at place from a h) (is_name tag a mid k)))) tail)
is_typed (Specifier.Alias alias) n from mid to h tail = is_second (is_first (is_both (is_name alias from mid h) (is_first tail)))

pub is_local : (l : Local) (n : ℕ) (from to : List Word) → local_nesting l ≤ n → local l from to → IsForm (Forms.clause_form n) from to
is_local l n from to fits (a, h, (b, i, k)) =
    is_known (is_typed l.specifier n from a to h
    (is_both (is_initialized l.first n a b (omega arith) i) (is_others l.others n b to (omega arith) k)))

pub is_init : (init : ForInit) (n : ℕ) (from to : List Word) → init_nesting init ≤ n → for_init init from to
    → IsForm (Forms.optional (Forms.clause_form n)) from to
is_init ForInit.NoInit n from to fits h = is_second (is_nothing from to h)
is_init (ForInit.Locals l) n from to fits h = is_first (is_local l n from to fits h)
is_init (ForInit.Once s) n from to fits h = is_first (simple_clause n from to (is_simple s n from to fits h))

pub is_optional : (e : Option Expr) (n : ℕ) (from to : List Word) → maybe_nesting nesting e ≤ n → maybe (expr_at 0) e from to
    → IsForm (Forms.optional (Forms.expr_form n)) from to
is_optional None n from to fits h = is_second (is_nothing from to h)
is_optional (Some e) n from to fits h = is_first (is_whole e n from to fits h)

pub is_once : (s : Option Simple) (n : ℕ) (from to : List Word) → maybe_nesting simple_nesting s ≤ n → maybe simple s from to
    → IsForm (Forms.optional (Forms.simple_form n)) from to
is_once None n from to fits h = is_second (is_nothing from to h)
is_once (Some s) n from to fits h = is_first (is_known (is_simple s n from to fits h))

no_else : (words : List Word) → NoElse words → begins_in (Classes.ELSE ∷ []) (classes words) ≡ false
no_else [] none = refl
no_else (first ∷ others) none = by_test (Classes.ELSE == first.class) refl
  where
    by_test : (b : Bool) → (Classes.ELSE == first.class) ≡ b → (b || false) ≡ false
    by_test true e = absurd (none (sym (eqb-true Classes.ELSE first.class e)))
    by_test false e = refl

-- the statements that open no level
flat : (n : ℕ) (from to : List Word) → IsForm (Forms.flat_form n) from to → IsForm (Forms.stmt_form n) from to
flat zero from to f = is_known (is_second (is_second (is_second (is_second (is_second f)))))
flat (suc n) from to f = is_known (is_second (is_second (is_second (is_second (is_second f)))))

mutual
  pub is_stmt : (s : Stmt) (n : ℕ) (from to : List Word) → stmt_nesting s ≤ n → stmt s from to → IsForm (Forms.stmt_form n) from to
  is_stmt (Stmt.Block place body end) zero from to fits h = absurd (omega arith)
  is_stmt (Stmt.Block place body end) (suc n) from to fits (a, h, (b, i, k)) =
      is_known (is_first (is_both (is_word_at place from a h) (is_both (is_stmts body n a b (omega arith) i) (is_word_at end b to k))))
  is_stmt (Stmt.Empty place) n from to fits h = flat n from to (is_first (is_word_at place from to h))
  is_stmt (Stmt.Declare l) n from to fits (a, h, k) =
      flat n from to (is_second (is_second (is_second (is_second (is_both (is_local l n from a fits h) (is_word a to k))))))
  is_stmt (Stmt.Do s) n from to fits (a, h, k) =
      flat n from to
      (is_second (is_second (is_second (is_second (is_both (simple_clause n from a (is_simple s n from a fits h)) (is_word a to k))))))
  is_stmt (Stmt.If place test body) zero from to fits h = absurd (omega arith)
  is_stmt (Stmt.If place test body) (suc n) from to fits (none, (a, h, (b, i, (c, j, (d, k, l))))) =
      is_known (is_second
      (is_first (is_both (is_word_at place from a h)
      (is_both (is_open a b i) (is_both (is_whole test n b c (omega arith) j) (is_both (is_word c d k)
      (is_both (is_stmt body n d to (omega arith) l) (is_lacking to to refl (no_else to none)))))))))
  is_stmt (Stmt.IfElse place test body other) zero from to fits h = absurd (omega arith)
  is_stmt (Stmt.IfElse place test body other) (suc n) from to fits (a, h, (b, i, (c, j, (d, k, (e, l, (f, m, o)))))) =
      is_known (is_second
      (is_first (is_both (is_word_at place from a h)
      (is_both (is_open a b i) (is_both (is_whole test n b c (omega arith) j) (is_both (is_word c d k)
      (is_both (is_stmt body n d e (omega arith) l) (is_there m (is_stmt other n f to (omega arith) o)))))))))
  is_stmt (Stmt.While place test body) zero from to fits h = absurd (omega arith)
  is_stmt (Stmt.While place test body) (suc n) from to fits (a, h, (b, i, (c, j, (d, k, l)))) =
      is_known (is_second
      (is_second (is_first
      (is_both (is_word_at place from a h) (is_both (is_open a b i) (is_both (is_whole test n b c (omega arith) j) (is_both (is_word c d k)
      (is_stmt body n d to (omega arith) l))))))))
  is_stmt (Stmt.DoWhile place body test) zero from to fits h = absurd (omega arith)
  is_stmt (Stmt.DoWhile place body test) (suc n) from to fits (a, h, (b, i, (c, j, (d, k, (e, l, (f, m, o)))))) =
      is_known (is_second
      (is_second (is_second
      (is_first (is_both (is_word_at place from a h) (is_both (is_stmt body n a b (omega arith) i) (is_both (is_word b c j)
      (is_both (is_open c d k) (is_both (is_whole test n d e (omega arith) l) (is_both (is_word e f m) (is_word f to o)))))))))))
  is_stmt (Stmt.For place init test step body) zero from to fits h = absurd (omega arith)
  is_stmt (Stmt.For place init test step body) (suc n) from to fits (a, h, (b, i, (c, j, (d, k, (e, l, (f, m, (g, o, (p, q, r)))))))) =
      is_known (is_second
      (is_second (is_second
      (is_second (is_first
      (is_both (is_word_at place from a h) (is_both (is_open a b i) (is_both (is_init init n b c (omega arith) j) (is_both (is_word c d k)
      (is_both (is_optional test n d e (omega arith) l)
      (is_both (is_word e f m)
      (is_both (is_once step n f g (omega arith) o) (is_both (is_word g p q) (is_stmt body n p to (omega arith) r))))))))))))))
  is_stmt (Stmt.Break place) n from to fits (a, h, k) =
      flat n from to (is_second (is_first (is_both (is_word_at place from a h) (is_word a to k))))
  is_stmt (Stmt.Continue place) n from to fits (a, h, k) =
      flat n from to (is_second (is_second (is_first (is_both (is_word_at place from a h) (is_word a to k)))))
  is_stmt (Stmt.Return place value) n from to fits (a, h, (b, i, k)) =
      flat n from to
      (is_second (is_second
      (is_second (is_first (is_both (is_word_at place from a h) (is_both (is_optional value n a b fits i) (is_word b to k)))))))

  pub is_stmts : (all : Stmts) (n : ℕ) (from to : List Word) → stmts_nesting all ≤ n → stmts all from to
      → IsForm (Many (Forms.stmt_form n)) from to
  is_stmts Stmts.NoStmts n from to fits h = is_none from to h
  is_stmts (Stmts.Next first others) n from to fits (a, h, k) =
      is_more (is_stmt first n from a (omega arith) h) (is_stmts others n a to (omega arith) k)

-- an item that begins with a head
is_headed : (s : Specifier) (n : ℕ) (from mid to : List Word) → specifier s from mid
    → IsForm (Both Forms.head_tail_form (Forms.item_end_form n)) mid to → IsForm (Forms.item_form n) from to
is_headed (Specifier.Int place) n from mid to h tail =
    is_known (is_second (is_second (is_both (is_first (is_word_at place from mid h)) tail)))
is_headed (Specifier.Void place) n from mid to h tail =
    is_known (is_second (is_second (is_both (is_second (is_first (is_word_at place from mid h))) tail)))
is_headed (Specifier.Struct place tag) n from mid to (a, h, k) tail =
    is_known (is_first (is_both (is_word_at place from a h) (is_both (is_name tag a mid k) (is_second tail))))
is_headed (Specifier.Alias alias) n from mid to h tail =
    is_known (is_second (is_second (is_both (is_second (is_second (is_name alias from mid h))) tail)))

is_head : (h : Head) (n : ℕ) (from mid to : List Word) → head h from mid → IsForm (Forms.item_end_form n) mid to
    → IsForm (Forms.item_form n) from to
is_head h n from mid to (a, i, (b, j, (c, k, (d, l, m)))) tail =
    is_headed h.specifier n from a to i
    (is_both (is_both (is_declarator h.declarator a b j)
    (is_both (is_open b c k) (is_both (is_params h.params c d l) (is_word d mid m)))) tail)

pub is_item : (i : Item) (n : ℕ) (from to : List Word) → item_nesting i ≤ n → item i from to → IsForm (Forms.item_form n) from to
is_item (Item.StructItem place tag lines) n from to fits (a, h, (b, i, (c, j, k))) =
    is_known (is_first
    (is_both (is_word_at place from a h) (is_both (is_name tag a b i) (is_first (is_both (is_struct_body lines b c j) (is_word c to k))))))
is_item (Item.TypedefStruct place None lines alias) n from to fits (a, h, (b, i, (c, j, (d, k, (e, l, m))))) =
    is_known (is_second (is_first (is_both (is_word_at place from a h) (is_both (is_word a b i)
    (is_first (is_both (is_struct_body lines b d (subst (λ w. struct_body lines w d) (sym j) k))
    (is_both (is_name alias d e l) (is_word e to m))))))))
is_item (Item.TypedefStruct place (Some tag) lines alias) n from to fits (a, h, (b, i, (c, j, (d, k, (e, l, m))))) =
    is_known (is_second (is_first (is_both (is_word_at place from a h) (is_both (is_word a b i)
    (is_second (is_both (is_name tag b c j)
    (is_first (is_both (is_struct_body lines c d k) (is_both (is_name alias d e l) (is_word e to m))))))))))
is_item (Item.TypedefAlias place tag alias) n from to fits (a, h, (b, i, (c, j, (d, k, l)))) =
    is_known (is_second (is_first (is_both (is_word_at place from a h) (is_both (is_word a b i)
    (is_second (is_both (is_name tag b c j) (is_second (is_both (is_name alias c d k) (is_word d to l)))))))))
is_item (Item.Prototype h) n from to fits (a, i, k) = is_head h n from a to i (is_first (is_word a to k))
is_item (Item.Definition h place body end) zero from to fits i = absurd (omega arith)
is_item (Item.Definition h place body end) (suc n) from to fits (a, i, (b, j, (c, k, l))) =
    is_head h (suc n) from a to i
    (is_second (is_both (is_word_at place a b j) (is_both (is_stmts body n b c (omega arith) k) (is_word_at end c to l))))

pub is_items : (all : List Item) (n : ℕ) (from to : List Word) → deepest item_nesting all ≤ n → each item all from to
    → IsForm (Many (Forms.item_form n)) from to
is_items [] n from to fits h = is_none from to h
is_items (one ∷ others) n from to fits (a, h, k) = is_more (is_item one n from a (omega arith) h) (is_items others n a to (omega arith) k)

pub is_file : (file : File) (n : ℕ) (words : List Word) → file_nesting file ≤ n → Spells file words → IsForm (Forms.file_form n) words []
is_file file n words fits (mid, h, k) = is_both (is_items file.items n words mid fits h) (is_word mid [] k)
