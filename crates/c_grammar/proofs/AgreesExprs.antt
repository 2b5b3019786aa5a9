-- The readers agree with the grammar's forms: expressions.
use Rattle.std.proofs.Common.{◌≡◌, ◌⊎◌, inl, inr, ℕ, zero, suc, ◌+◌, ◌≤◌, Bool, true, false, cond, List, [], ◌∷◌, length, refl, sym, ap}
use Rattle.std.proofs.Common.{◌∙◌, subst, arith}
use Rattle.std.specs.Prelude.{Some, None, Ok}
use Rattle.grammar_laws.specs.Form.{Form, Word as AWord, Both, Many, is_in, begins_in, starts}
use Rattle.grammar_laws.specs.Reading.{Done, Stop, go_on, repeat, reads}
use Rattle.c_grammar.specs.Classes
use Rattle.c_grammar.specs.declared.class.Class.{Class}
use Rattle.c_grammar.specs.declared.class.Class.TheVariants as class
use Rattle.c_grammar.specs.Classes.{number_of, numbered}
use Rattle.c_grammar.specs.Words.{Word, classes}
use Rattle.c_grammar.specs.Forms
use Rattle.c_grammar.specs.Trees.{Name, BinaryOp, PrefixOp, Expr, Links, Args}
use Rattle.c_grammar.specs.Spelling.{Rule, word, word_at, open_paren, name, each, specifier, size_of, class_of_binary, level_of, expr_at}
use Rattle.c_grammar.specs.Spelling.{links_at, call_args, more_args}
use Rattle.c_grammar.specs.Readers.{Got, ◌>>=◌, wrong, too_deep, class_at, behind, is_class, name_here, read_name, is_open, read_specifier}
use Rattle.c_grammar.specs.Readers.{begins_expr, read_more_args, read_args, read_call, read_member, read_members, with_members}
use Rattle.c_grammar.specs.Readers.{read_size_of, read_malloc, read_cast, read_paren, closed_by, named_by, primary_by, read_postfix}
use Rattle.c_grammar.specs.Readers.{read_prefix, unary_by, op_at, link_by, read_links, chained, read_chain, read_unary, read_expr}
use Rattle.c_grammar.specs.Readers.{read_below}
use Rattle.c_grammar.proofs.Numbers.{numbered-number_of}
use Rattle.c_grammar.proofs.DerivedExprs.{tighter}
use Rattle.c_grammar.proofs.Agreement.{AreProper, itself, one_behind, proper_behind, AgreesAs, ReadsAs, ReadsWhere, agree_then}
use Rattle.c_grammar.proofs.Agreement.{agree_behind, agree_as, agree_map, test_class, test_classes, name_agrees, AgreesBy, by_class}
use Rattle.c_grammar.proofs.Agreement.{wrong_agrees}
use Rattle.c_grammar.proofs.Agreement.{deep_agrees, each_agrees, behind_word, step, over, over_open, at_word, at_last}
use Rattle.c_grammar.proofs.AgreesTypes.{specifier_agrees}
use Rattle.c_grammar.proofs.Parts.{length-classes}

pub proper_first : (c : Class) (first : Word) (others : List Word) → first.class ≡ number_of c → AreProper others
    → AreProper (first ∷ others)
proper_first c first others e proper = (ap (λ n. number_of (numbered n)) e ∙ ap number_of (numbered-number_of c) ∙ sym e, proper)

-- an expression as tight as the level
abbrev pub ReadsExpr : ℕ → (List Word → Got Expr) → Form → Type 0
ReadsExpr level reader form = ReadsAs (expr_at level) reader form

abbrev pub size_of_form : Form
size_of_form =
    Both Forms.open_form
    (Both (AWord Classes.SIZEOF) (Both Forms.open_form (Both Forms.specifier_form (Both (AWord Classes.CLOSE) (AWord Classes.CLOSE)))))

pub size_of_agrees : ReadsAs size_of read_size_of size_of_form
unfolding read_size_of
size_of_agrees words proper =
    over_open size_of words proper words (itself words) _ _ (λ a ah ab.
    over size_of words proper class.Sizeof refl a ab _ _ (λ b bh bb.
    over_open size_of words proper b bb _ _ (λ c ch cb.
    step size_of words proper specifier read_specifier Forms.specifier_form specifier_agrees c cb _ _ (λ s sh sb.
    over size_of words proper class.Close refl s.1 sb _ _ (λ d dh db.
    at_word size_of words proper class.Close refl d db s.0 (λ to k. (a, ah, (b, bh, (c, ch, (s.1, sh, (d, dh, k)))))))))))

malloc_agrees : (first : Word) (others : List Word) → first.class ≡ Classes.MALLOC → AreProper others
    → AgreesAs (expr_at 8) (first ∷ others) (read_malloc (first ∷ others)) (reads size_of_form (classes others))
unfolding read_malloc
malloc_agrees first others e proper =
    at_last (expr_at 8) (first ∷ others)
    (proper_first class.Malloc first others e proper) size_of read_size_of size_of_form size_of_agrees others (one_behind first others)
    (λ allocated. Expr.Malloc first.place None allocated) (λ allocated to k. (others, (e, refl, refl), k))

cast_agrees : (first : Word) (others : List Word) → first.class ≡ Classes.CAST → AreProper others
    → AgreesAs (expr_at 8) (first ∷ others) (read_cast (first ∷ others))
    (reads (Both Forms.specifier_form (Both (AWord Classes.STAR) (Both (AWord Classes.CLOSE) Forms.malloc_form))) (classes others))
unfolding read_cast
cast_agrees first others e proper =
    let p = proper_first class.Cast first others e proper in
    step (expr_at 8) (first ∷ others) p specifier read_specifier Forms.specifier_form specifier_agrees others (one_behind first others) _ _
    (λ s sh sb.
    over (expr_at 8) (first ∷ others) p class.Star refl s.1 sb _ _ (λ a ah ab.
    over (expr_at 8) (first ∷ others) p class.Close refl a ab _ _ (λ b bh bb.
    over (expr_at 8) (first ∷ others) p class.Malloc refl b bb _ _ (λ c ch cb.
    at_last (expr_at 8) (first ∷ others) p size_of read_size_of size_of_form size_of_agrees c cb
    (λ allocated. Expr.Malloc first.place (Some s.0) allocated)
    (λ allocated to k. (b, (others, (e, refl, refl), (s.1, sh, (a, ah, bh))), (c, ch, k)))))))

-- what is one level deeper is read
abbrev pub BelowReads : ℕ → Type 0
BelowReads zero = Unit {0}
BelowReads (suc n) = ReadsExpr 0 (read_expr n) (Forms.expr_form n)

abbrev ExprBy : ℕ → (Class → List Word → Got Expr) → Form → Type 0
ExprBy level reader form = AgreesBy (λ (x : Expr × List Word). x.1) (λ words x. expr_at level x.0 words x.1) reader form

wrong_expr : (level : ℕ) (first : Word) (others : List Word) (n : ℕ) → first.class ≡ n
    → AgreesAs (expr_at level) (first ∷ others) (wrong (first ∷ others)) (Stop false (n ∷ classes others))
wrong_expr level first others n e =
    wrong_agrees (λ (x : Expr × List Word). x.1) (λ x. expr_at level x.0 (first ∷ others) x.1) first others n e

deep_expr : (level : ℕ) (first : Word) (others : List Word) (n : ℕ) → first.class ≡ n
    → AgreesAs (expr_at level) (first ∷ others) (too_deep (first ∷ others)) (Stop true (n ∷ classes others))
deep_expr level first others n e =
    deep_agrees (λ (x : Expr × List Word). x.1) (λ x. expr_at level x.0 (first ∷ others) x.1) first others n e

paren_agrees : (n : ℕ) → ReadsExpr 0 (read_expr n) (Forms.expr_form n) → (first : Word) (others : List Word) → first.class ≡ Classes.OPEN
    → AreProper others
    → AgreesAs (expr_at 8) (first ∷ others) (read_paren (Some (read_expr n)) (first ∷ others))
    (reads (Both (Forms.expr_form n) (AWord Classes.CLOSE)) (classes others))
paren_agrees n below first others e proper =
    let p = proper_first class.Open first others e proper in
    step (expr_at 8) (first ∷ others) p (expr_at 0) (read_expr n) (Forms.expr_form n) below others (one_behind first others) _ _ (λ x xh xb.
    at_word (expr_at 8) (first ∷ others) p class.Close refl x.1 xb (Expr.Paren first.place x.0)
    (λ to k. (others, (e, refl, refl), (x.1, xh, k))))

pub closed_agrees : (n : ℕ) → BelowReads n
    → ExprBy 8 (λ c words. closed_by c (read_below n) words) (Forms.closed_form n (Forms.expr_below n))
closed_agrees zero below class.Number first others e proper = (refl, (e, refl, refl, refl), one_behind first others)
closed_agrees zero below class.Null first others e proper = (refl, (e, refl, refl), one_behind first others)
closed_agrees zero below class.Open first others e proper = deep_expr 8 first others _ e
closed_agrees zero below class.Cast first others e proper = cast_agrees first others e proper
closed_agrees zero below class.Malloc first others e proper = malloc_agrees first others e proper
closed_agrees zero below _ first others e proper = wrong_expr 8 first others _ e
closed_agrees (suc n) below class.Number first others e proper = (refl, (e, refl, refl, refl), one_behind first others)
closed_agrees (suc n) below class.Null first others e proper = (refl, (e, refl, refl), one_behind first others)
closed_agrees (suc n) below class.Open first others e proper = paren_agrees n below first others e proper
closed_agrees (suc n) below class.Cast first others e proper = cast_agrees first others e proper
closed_agrees (suc n) below class.Malloc first others e proper = malloc_agrees first others e proper
closed_agrees (suc n) below _ first others e proper = wrong_expr 8 first others _ e

-- arguments

abbrev pub call_rule : Args → Rule
call_rule args = λ from to. (a : List Word) × open_paren from a × ((b : List Word) × call_args args a b × word Classes.CLOSE b to)

expr_starts : (c : Class) → begins_expr c ≡ is_in (number_of c) (starts (Forms.expr_form zero))
expr_starts class.Name = refl
expr_starts _ = refl

pub begins_expr_same : (words : List Word) → AreProper words
    → begins_expr (class_at words) ≡ begins_in (starts (Forms.expr_form zero)) (classes words)
begins_expr_same words proper = test_classes begins_expr (starts (Forms.expr_form zero)) expr_starts refl words proper

abbrev comma_form : ℕ → Form
comma_form n = Both (AWord Classes.COMMA) (Forms.expr_form n)

more_args_times : (n : ℕ) → ReadsExpr 0 (read_expr n) (Forms.expr_form n) → (times : ℕ) (words : List Word) → AreProper words
    → AgreesAs more_args words (read_more_args times (read_expr n) words)
    (repeat times (reads (comma_form n)) (Classes.COMMA ∷ []) (classes words))
more_args_times n agrees zero words proper = (refl, refl, itself words)
more_args_times n agrees (suc times) words proper =
    by_test (is_class class.Comma (class_at words)) refl (begins_in (Classes.COMMA ∷ []) (classes words))
    (test_class class.Comma words proper refl) (λ mid p. more_args_times n agrees times mid p)
  where
    by_test : (b : Bool) → is_class class.Comma (class_at words) ≡ b → (c : Bool) → b ≡ c
        → ((mid : List Word) → AreProper mid
        → AgreesAs more_args mid (read_more_args times (read_expr n) mid)
        (repeat times (reads (comma_form n)) (Classes.COMMA ∷ []) (classes mid)))
        → AgreesAs more_args words
        (cond b (read_expr n (behind words)
        >>= (λ one. read_more_args times (read_expr n) one.1 >>= (λ others. Ok (Args.Arg one.0 others.0, others.1))))
        (Ok (Args.NoArgs, words)))
        (cond c (go_on (reads (comma_form n) (classes words)) (λ rest. repeat times (reads (comma_form n)) (Classes.COMMA ∷ []) rest))
        (Done (classes words)))
    by_test true is false e others = absurd (cc)
    by_test false is true e others = absurd (cc)
    by_test false is false e others = (refl, refl, itself words)
    by_test true is true e others =
        agree_then (λ (x : Expr × List Word). x.1) (λ x. (mid : List Word) × word Classes.COMMA words mid × expr_at 0 x.0 mid x.1)
        (λ (y : Args × List Word). y.1) (λ y. more_args y.0 words y.1) words
        (read_expr n (behind words)) (reads (comma_form n) (classes words))
        (behind_word class.Comma refl (expr_at 0) (read_expr n) (Forms.expr_form n) agrees words proper is) _
        (λ rest. repeat times (reads (comma_form n)) (Classes.COMMA ∷ []) rest)
        (λ x h b.
        agree_map (λ (y : Args × List Word). y.1) (λ y. more_args y.0 x.1 y.1) (λ (y : Args × List Word). y.1)
        (λ y. more_args y.0 words y.1) words (λ y. (Args.Arg x.0 y.0, y.1)) (λ y. refl)
        (λ y k. (h.0, h.1, (x.1, h.2, k)))
        (read_more_args times (read_expr n) x.1) (repeat times (reads (comma_form n)) (Classes.COMMA ∷ []) (classes x.1))
        (agree_behind (λ (y : Args × List Word). y.1) (λ y. more_args y.0 x.1 y.1) b (read_more_args times (read_expr n) x.1)
        (repeat times (reads (comma_form n)) (Classes.COMMA ∷ []) (classes x.1)) (others x.1 (proper_behind b proper))))

more_args_agree : (n : ℕ) → ReadsExpr 0 (read_expr n) (Forms.expr_form n)
    → ReadsAs more_args (λ words. read_more_args (length words) (read_expr n) words) (Forms.more_of (Forms.expr_form n))
more_args_agree n agrees words proper =
    subst (λ k. AgreesAs more_args words (read_more_args k (read_expr n) words) (reads (Forms.more_of (Forms.expr_form n)) (classes words)))
    (length-classes words)
    (more_args_times n agrees (length (classes words)) words proper)

args_agree : (n : ℕ) → ReadsExpr 0 (read_expr n) (Forms.expr_form n)
    → ReadsAs call_args (read_args (read_expr n)) (Forms.optional (Both (Forms.expr_form n) (Forms.more_of (Forms.expr_form n))))
args_agree n agrees words proper =
    by_test (begins_expr (class_at words)) (begins_in (starts (Forms.expr_form zero)) (classes words)) (begins_expr_same words proper)
  where
    by_test : (b c : Bool) → b ≡ c → AgreesAs call_args words
        (cond b (read_expr n words
        >>= (λ one. read_more_args (length one.1) (read_expr n) one.1 >>= (λ others. Ok (Args.Arg one.0 others.0, others.1))))
        (Ok (Args.NoArgs, words)))
        (cond c (reads (Both (Forms.expr_form n) (Forms.more_of (Forms.expr_form n))) (classes words)) (Done (classes words)))
    by_test true false e = absurd (cc)
    by_test false true e = absurd (cc)
    by_test false false e = (refl, refl, itself words)
    by_test true true e =
        step call_args words proper (expr_at 0) (read_expr n) (Forms.expr_form n) agrees words (itself words) _ _ (λ x h b.
        at_last call_args words proper more_args (λ w. read_more_args (length w) (read_expr n) w) (Forms.more_of (Forms.expr_form n))
        (more_args_agree n agrees) x.1 b
        (λ others. Args.Arg x.0 others) (λ others to k. (x.1, h, k)))

abbrev call_by : ℕ → Class → List Word → Got Args
call_by n c words = cond (is_open c) (read_call (read_below n) words) (wrong words)

call_deeper : (n : ℕ) → ReadsExpr 0 (read_expr n) (Forms.expr_form n) → (c : Class) (first : Word) (others : List Word)
    → first.class ≡ number_of c → open_paren (first ∷ others) others → AreProper others
    → AgreesAs call_rule (first ∷ others) (read_call (Some (read_expr n)) (first ∷ others))
    (reads (Both (Forms.optional (Both (Forms.expr_form n) (Forms.more_of (Forms.expr_form n)))) (AWord Classes.CLOSE)) (classes others))
call_deeper n below c first others e paren proper =
    let p = proper_first c first others e proper in
    step call_rule (first ∷ others) p call_args (read_args (read_expr n))
    (Forms.optional (Both (Forms.expr_form n) (Forms.more_of (Forms.expr_form n)))) (args_agree n below) others
    (one_behind first others) _ _ (λ x xh xb.
    at_word call_rule (first ∷ others) p class.Close refl x.1 xb x.0 (λ to k. (others, paren, (x.1, xh, k))))

call_by_agrees : (n : ℕ) → BelowReads n
    → AgreesBy (λ (x : Args × List Word). x.1) (λ words x. call_rule x.0 words x.1) (call_by n) (Forms.call_form n (Forms.expr_below n))
call_by_agrees zero below class.Open first others e proper =
    deep_agrees (λ (x : Args × List Word). x.1) (λ x. call_rule x.0 (first ∷ others) x.1) first others _ e
call_by_agrees zero below class.Cast first others e proper =
    deep_agrees (λ (x : Args × List Word). x.1) (λ x. call_rule x.0 (first ∷ others) x.1) first others _ e
call_by_agrees zero below _ first others e proper =
    wrong_agrees (λ (x : Args × List Word). x.1) (λ x. call_rule x.0 (first ∷ others) x.1) first others _ e
call_by_agrees (suc n) below class.Open first others e proper = call_deeper n below class.Open first others e (inl (e, refl)) proper
call_by_agrees (suc n) below class.Cast first others e proper = call_deeper n below class.Cast first others e (inr (e, refl)) proper
call_by_agrees (suc n) below _ first others e proper =
    wrong_agrees (λ (x : Args × List Word). x.1) (λ x. call_rule x.0 (first ∷ others) x.1) first others _ e

call_empty : (n : ℕ) → AgreesAs call_rule [] (call_by n class.OtherKey []) (reads (Forms.call_form n (Forms.expr_below n)) [])
call_empty zero = (refl, itself [])
call_empty (suc n) = (refl, itself [])

pub call_agrees : (n : ℕ) → BelowReads n → ReadsWhere is_open call_rule (read_call (read_below n)) (Forms.call_form n (Forms.expr_below n))
call_agrees n below words proper e =
    subst (λ b. AgreesAs call_rule words (cond b (read_call (read_below n) words) (wrong words))
    (reads (Forms.call_form n (Forms.expr_below n)) (classes words))) e
    (by_class (λ (x : Args × List Word). x.1) (λ w x. call_rule x.0 w x.1) (call_by n) (Forms.call_form n (Forms.expr_below n))
    (call_empty n) (call_by_agrees n below) words proper)

call_starts : (c : Class) → is_open c ≡ is_in (number_of c) (Classes.OPEN ∷ Classes.CAST ∷ [])
call_starts class.Open = refl
call_starts _ = refl

pub is_open_same : (n : ℕ) (words : List Word) → AreProper words
    → is_open (class_at words) ≡ begins_in (starts (Forms.call_form n (Forms.expr_below n))) (classes words)
is_open_same zero words proper = test_classes is_open (Classes.OPEN ∷ Classes.CAST ∷ []) call_starts refl words proper
is_open_same (suc n) words proper = test_classes is_open (Classes.OPEN ∷ Classes.CAST ∷ []) call_starts refl words proper

-- a variable or a call
named_agrees : (n : ℕ) → BelowReads n → (first : Word) (others : List Word) → first.class ≡ Classes.NAME → AreProper others
    → AgreesAs (expr_at 8) (first ∷ others) (named_by (is_open (class_at others)) (read_below n) (name_here (first ∷ others)) others)
    (reads (Forms.optional (Forms.call_form n (Forms.expr_below n))) (classes others))
named_agrees n below first others e proper =
    by_test (is_open (class_at others)) refl (begins_in (starts (Forms.call_form n (Forms.expr_below n))) (classes others))
    (is_open_same n others proper)
  where
    by_test : (b : Bool) → is_open (class_at others) ≡ b → (c : Bool) → b ≡ c
        → AgreesAs (expr_at 8) (first ∷ others) (named_by b (read_below n) (name_here (first ∷ others)) others)
        (cond c (reads (Forms.call_form n (Forms.expr_below n)) (classes others)) (Done (classes others)))
    by_test true is false f = absurd (cc)
    by_test false is true f = absurd (cc)
    by_test false is false f = (refl, (e, refl, refl, refl), one_behind first others)
    by_test true is true f =
        agree_map (λ (x : Args × List Word). x.1) (λ x. call_rule x.0 others x.1) (λ (y : Expr × List Word). y.1)
        (λ y. expr_at 8 y.0 (first ∷ others) y.1) (first ∷ others)
        (λ x. (Expr.Call (name_here (first ∷ others)) x.0, x.1)) (λ x. refl) (λ x h. (others, (e, refl, refl, refl), h))
        (read_call (read_below n) others) (reads (Forms.call_form n (Forms.expr_below n)) (classes others))
        (agree_behind (λ (x : Args × List Word). x.1) (λ x. call_rule x.0 others x.1) (one_behind first others)
        (read_call (read_below n) others) (reads (Forms.call_form n (Forms.expr_below n)) (classes others))
        (call_agrees n below others proper is))

abbrev primary_of : ℕ → Class → List Word → Got Expr
primary_of n c words = primary_by c (read_below n) words

primary_by_agrees : (n : ℕ) → BelowReads n → ExprBy 8 (primary_of n) (Forms.primary_form n (Forms.expr_below n))
primary_by_agrees n below class.Name first others e proper = named_agrees n below first others e proper
primary_by_agrees n below kind first others e proper = closed_agrees n below kind first others e proper

closed_empty : (n : ℕ) → AgreesAs (expr_at 8) [] (wrong []) (reads (Forms.closed_form n (Forms.expr_below n)) [])
closed_empty zero = (refl, itself [])
closed_empty (suc n) = (refl, itself [])

pub read_primary_agrees : (n : ℕ) → BelowReads n
    → ReadsExpr 8 (λ words. primary_by (class_at words) (read_below n) words) (Forms.primary_form n (Forms.expr_below n))
read_primary_agrees n below words proper =
    by_class (λ (x : Expr × List Word). x.1) (λ w x. expr_at 8 x.0 w x.1) (primary_of n) (Forms.primary_form n (Forms.expr_below n))
    (closed_empty n) (primary_by_agrees n below) words proper

abbrev pub member_rule : Name → Rule
member_rule field = λ from to. (mid : List Word) × word Classes.ARROW from mid × name field mid to

pub members_agree : ReadsAs (each member_rule) read_members Forms.members_form
members_agree words proper =
    each_agrees member_rule read_member (Both (AWord Classes.ARROW) (AWord Classes.NAME)) (is_class class.Arrow)
    (λ w p. test_class class.Arrow w p refl)
    (behind_word class.Arrow refl name read_name (AWord Classes.NAME) name_agrees) words proper

pub members_spell : (base : Expr) (fields : List Name) (from mid to : List Word) → expr_at 8 base from mid → each member_rule fields mid to
    → expr_at 7 (with_members base fields) from to
members_spell base [] from mid to h k = subst (λ w. expr_at 7 base from w) k (looser base from mid h)
  where
    looser : (e : Expr) (x y : List Word) → expr_at 8 e x y → expr_at 7 e x y
    looser (Expr.Chain first Links.NoLinks) x y h = h
    looser (Expr.Chain first (Links.Link op second others)) x y h = (omega arith, h.1)
    looser (Expr.Prefix place op inner) x y h = (omega arith, h.1)
    looser (Expr.Members b f o) x y h = (omega arith, h.1)
    looser (Expr.Variable v) x y h = h
    looser (Expr.Number place value) x y h = h
    looser (Expr.Null place) x y h = h
    looser (Expr.Paren place inner) x y h = h
    looser (Expr.Call callee args) x y h = h
    looser (Expr.Malloc place as_type allocated) x y h = h
members_spell base (field ∷ fields) from mid to h (b, (a, arrow, named), others) = (omega arith, (mid, h, (a, arrow, (b, named, others))))

pub postfix_agrees : (n : ℕ) → BelowReads n → ReadsExpr 7 (read_postfix (read_below n)) (Forms.postfix_form n (Forms.expr_below n))
postfix_agrees n below words proper =
    step (expr_at 7) words proper (expr_at 8) (λ w. primary_by (class_at w) (read_below n) w) (Forms.primary_form n (Forms.expr_below n))
    (read_primary_agrees n below) words (itself words) _ _ (λ base h b.
    at_last (expr_at 7) words proper (each member_rule) read_members Forms.members_form members_agree base.1 b
    (λ fields. with_members base.0 fields) (λ fields to k. members_spell base.0 fields words base.1 to h k))

-- operands

prefix_agrees : (n : ℕ) → ReadsExpr 6 (read_unary n) (Forms.unary_form n) → (op : PrefixOp) (c : Class) (first : Word) (others : List Word)
    → first.class ≡ number_of c → word_at first.place (Rattle.c_grammar.specs.Spelling.class_of_prefix op) (first ∷ others) others
    → AreProper others
    → AgreesAs (expr_at 6) (first ∷ others) (read_prefix op (Some (read_unary n)) (first ∷ others))
    (reads (Forms.unary_form n) (classes others))
prefix_agrees n below op c first others e sign proper =
    at_last (expr_at 6) (first ∷ others) (proper_first c first others e proper) (expr_at 6) (read_unary n) (Forms.unary_form n) below others
    (one_behind first others)
    (λ inner. Expr.Prefix first.place op inner) (λ inner to k. (omega arith, (others, sign, k)))

abbrev unary_of : ℕ → Class → List Word → Got Expr
unary_of zero c words = unary_by c None None words
unary_of (suc n) c words = unary_by c (Some (read_unary n)) (Some (read_expr n)) words

tight : (e : Expr) (from to : List Word) → expr_at 7 e from to → expr_at 6 e from to
tight (Expr.Chain first Links.NoLinks) from to h = h
tight (Expr.Chain first (Links.Link op second others)) from to h = (omega arith, h.1)
tight (Expr.Prefix place op inner) from to h = (omega arith, h.1)
tight (Expr.Members b f o) from to h = (omega arith, h.1)
tight (Expr.Variable v) from to h = h
tight (Expr.Number place value) from to h = h
tight (Expr.Null place) from to h = h
tight (Expr.Paren place inner) from to h = h
tight (Expr.Call callee args) from to h = h
tight (Expr.Malloc place as_type allocated) from to h = h

-- an operand without a prefix
plain : (n : ℕ) → BelowReads n → (words : List Word) → AreProper words
    → AgreesAs (expr_at 6) words (read_postfix (read_below n) words) (reads (Forms.postfix_form n (Forms.expr_below n)) (classes words))
plain n below words proper =
    agree_as (λ (x : Expr × List Word). x.1) (λ x. expr_at 7 x.0 words x.1) (λ x. expr_at 6 x.0 words x.1) words
    (λ x h. tight x.0 words x.1 h)
    (read_postfix (read_below n) words) (reads (Forms.postfix_form n (Forms.expr_below n)) (classes words))
    (postfix_agrees n below words proper)

-- the same where the first word is given by its class
plain_at : (n : ℕ) → BelowReads n → (c : Class) (first : Word) (others : List Word) → first.class ≡ number_of c → AreProper others
    → AgreesAs (expr_at 6) (first ∷ others) (read_postfix (read_below n) (first ∷ others))
    (reads (Forms.postfix_form n (Forms.expr_below n)) (number_of c ∷ classes others))
plain_at n below c first others e proper =
    subst (λ k. AgreesAs (expr_at 6) (first ∷ others) (read_postfix (read_below n) (first ∷ others))
    (reads (Forms.postfix_form n (Forms.expr_below n)) (k ∷ classes others))) e
    (plain n below (first ∷ others) (proper_first c first others e proper))

unary_zero : ExprBy 6 (unary_of zero) (Forms.unary_form zero)
unary_zero class.Minus first others e proper = deep_expr 6 first others _ e
unary_zero class.Not first others e proper = deep_expr 6 first others _ e
unary_zero kind first others e proper = plain_at zero tt kind first others e proper

unary_more : (n : ℕ) → ReadsExpr 6 (read_unary n) (Forms.unary_form n) → BelowReads (suc n)
    → ExprBy 6 (unary_of (suc n)) (Forms.unary_form (suc n))
unary_more n unary below class.Minus first others e proper =
    prefix_agrees n unary PrefixOp.Negate class.Minus first others e (e, refl, refl) proper
unary_more n unary below class.Not first others e proper =
    prefix_agrees n unary PrefixOp.Not class.Not first others e (e, refl, refl) proper
unary_more n unary below kind first others e proper = plain_at (suc n) below kind first others e proper

unary_empty : (n : ℕ) → AgreesAs (expr_at 6) [] (unary_of n class.OtherKey []) (reads (Forms.unary_form n) [])
unary_empty zero = (refl, itself [])
unary_empty (suc n) = (refl, itself [])

-- what the first word is to a chain of a level: no operator of it, or one
abbrev LinkAt : ℕ → Form → List Word → Class → Type 0
LinkAt levels operand others c =
    ((op_at levels c ≡ None) × (begins_in (starts (Both (Forms.ops_form levels) operand)) (number_of c ∷ classes others) ≡ false))
    ⊎ ((op : BinaryOp) × (op_at levels c ≡ Some op)
    × (begins_in (starts (Both (Forms.ops_form levels) operand)) (number_of c ∷ classes others) ≡ true)
    × (reads (Forms.ops_form levels) (number_of c ∷ classes others) ≡ Done (classes others)) × (class_of_binary op ≡ number_of c)
    × (level_of op + levels ≡ 5))

link_at : (levels : ℕ) → levels ≤ 5 → (operand : Form) (others : List Word) (c : Class) → LinkAt levels operand others c
link_at zero fits operand others class.Star = inr (BinaryOp.Multiply, refl, refl, refl, refl, refl)
link_at zero fits operand others _ = inl (refl, refl)
link_at (suc zero) fits operand others class.Plus = inr (BinaryOp.Add, refl, refl, refl, refl, refl)
link_at (suc zero) fits operand others class.Minus = inr (BinaryOp.Subtract, refl, refl, refl, refl, refl)
link_at (suc zero) fits operand others _ = inl (refl, refl)
link_at (suc (suc zero)) fits operand others class.Less = inr (BinaryOp.Less, refl, refl, refl, refl, refl)
link_at (suc (suc zero)) fits operand others class.LessEqual = inr (BinaryOp.LessEqual, refl, refl, refl, refl, refl)
link_at (suc (suc zero)) fits operand others class.Greater = inr (BinaryOp.Greater, refl, refl, refl, refl, refl)
link_at (suc (suc zero)) fits operand others class.GreaterEqual = inr (BinaryOp.GreaterEqual, refl, refl, refl, refl, refl)
link_at (suc (suc zero)) fits operand others _ = inl (refl, refl)
link_at (suc (suc (suc zero))) fits operand others class.Equal = inr (BinaryOp.Equal, refl, refl, refl, refl, refl)
link_at (suc (suc (suc zero))) fits operand others class.NotEqual = inr (BinaryOp.NotEqual, refl, refl, refl, refl, refl)
link_at (suc (suc (suc zero))) fits operand others _ = inl (refl, refl)
link_at (suc (suc (suc (suc zero)))) fits operand others class.And = inr (BinaryOp.And, refl, refl, refl, refl, refl)
link_at (suc (suc (suc (suc zero)))) fits operand others _ = inl (refl, refl)
link_at (suc (suc (suc (suc (suc more))))) fits operand others class.Or = inr (BinaryOp.Or, refl, refl, refl, refl, omega arith)
link_at (suc (suc (suc (suc (suc more))))) fits operand others _ = inl (refl, refl)

no_link : (levels : ℕ) → op_at levels class.OtherKey ≡ None
no_link zero = refl
no_link (suc zero) = refl
no_link (suc (suc zero)) = refl
no_link (suc (suc (suc zero))) = refl
no_link (suc (suc (suc (suc zero)))) = refl
no_link (suc (suc (suc (suc (suc more))))) = refl

abbrev link_form : ℕ → Form → Form
link_form levels operand = Both (Forms.ops_form levels) operand

abbrev LinksAgree : ℕ → ℕ → (List Word → Got Expr) → Form → ℕ → List Word → Type 0
LinksAgree level levels reader operand times words =
    AgreesAs (links_at level) words (read_links times levels reader words)
    (repeat times (reads (link_form levels operand)) (starts (link_form levels operand)) (classes words))

one_link : (level levels : ℕ) (reader : List Word → Got Expr) (operand : Form) → level + levels ≡ 5 → ReadsExpr (level + 1) reader operand
    → (times : ℕ) (first : Word) (others : List Word) → AreProper (first ∷ others)
    → ((mid : List Word) → AreProper mid → LinksAgree level levels reader operand times mid)
    → LinkAt levels operand others (numbered first.class)
    → AgreesAs (links_at level) (first ∷ others)
    (link_by (op_at levels (numbered first.class)) reader (read_links times levels reader) (first ∷ others))
    (cond (begins_in (starts (link_form levels operand)) (first.class ∷ classes others))
    (go_on (reads (link_form levels operand) (first.class ∷ classes others))
    (λ rest. repeat times (reads (link_form levels operand)) (starts (link_form levels operand)) rest))
    (Done (first.class ∷ classes others)))
one_link level levels reader operand five agrees times first others proper more (inl (none, ends)) =
    let ends' : begins_in (starts (link_form levels operand)) (first.class ∷ classes others) ≡ false =
    subst (λ n. begins_in (starts (link_form levels operand)) (n ∷ classes others) ≡ false) proper.0 ends in
    subst (λ o. AgreesAs (links_at level) (first ∷ others) (link_by o reader (read_links times levels reader) (first ∷ others))
    (cond (begins_in (starts (link_form levels operand)) (first.class ∷ classes others))
    (go_on (reads (link_form levels operand) (first.class ∷ classes others))
    (λ rest. repeat times (reads (link_form levels operand)) (starts (link_form levels operand)) rest))
    (Done (first.class ∷ classes others)))) (sym none)
    (subst (λ b. AgreesAs (links_at level) (first ∷ others) (Ok (Links.NoLinks, first ∷ others))
    (cond b (go_on (reads (link_form levels operand) (first.class ∷ classes others))
    (λ rest. repeat times (reads (link_form levels operand)) (starts (link_form levels operand)) rest))
    (Done (first.class ∷ classes others)))) (sym ends')
    (refl, refl, itself (first ∷ others)))
one_link level levels reader operand five agrees times first others proper more (inr (op, is, begins, done, sign, right)) =
    let begins' : begins_in (starts (link_form levels operand)) (first.class ∷ classes others) ≡ true =
    subst (λ n. begins_in (starts (link_form levels operand)) (n ∷ classes others) ≡ true) proper.0 begins in
    let done' : reads (Forms.ops_form levels) (first.class ∷ classes others) ≡ Done (classes others) =
    subst (λ n. reads (Forms.ops_form levels) (n ∷ classes others) ≡ Done (classes others)) proper.0 done in
    let same : level_of op ≡ level = omega arith in
    let word_is : word (class_of_binary op) (first ∷ others) others = (sym (sign ∙ proper.0), refl) in
    subst (λ o. AgreesAs (links_at level) (first ∷ others) (link_by o reader (read_links times levels reader) (first ∷ others))
    (cond (begins_in (starts (link_form levels operand)) (first.class ∷ classes others))
    (go_on (reads (link_form levels operand) (first.class ∷ classes others))
    (λ rest. repeat times (reads (link_form levels operand)) (starts (link_form levels operand)) rest))
    (Done (first.class ∷ classes others)))) (sym is)
    (subst (λ b. AgreesAs (links_at level) (first ∷ others) (link_by (Some op) reader (read_links times levels reader) (first ∷ others))
    (cond b (go_on (reads (link_form levels operand) (first.class ∷ classes others))
    (λ rest. repeat times (reads (link_form levels operand)) (starts (link_form levels operand)) rest))
    (Done (first.class ∷ classes others)))) (sym begins')
    (subst (λ r. AgreesAs (links_at level) (first ∷ others) (link_by (Some op) reader (read_links times levels reader) (first ∷ others))
    (go_on (go_on r (λ rest. reads operand rest))
    (λ rest. repeat times (reads (link_form levels operand)) (starts (link_form levels operand)) rest))) (sym done')
    (step (links_at level) (first ∷ others) proper (expr_at (level + 1)) reader operand agrees others (one_behind first others) _ _
    (λ x h b.
    agree_map (λ (y : Links × List Word). y.1) (λ y. links_at level y.0 x.1 y.1) (λ (y : Links × List Word). y.1)
    (λ y. links_at level y.0 (first ∷ others) y.1) (first ∷ others) (λ y. (Links.Link op x.0 y.0, y.1)) (λ y. refl)
    (λ y k. (same, (others, word_is, (x.1, h, k))))
    (read_links times levels reader x.1) (repeat times (reads (link_form levels operand)) (starts (link_form levels operand)) (classes x.1))
    (agree_behind (λ (y : Links × List Word). y.1) (λ y. links_at level y.0 x.1 y.1) b (read_links times levels reader x.1)
    (repeat times (reads (link_form levels operand)) (starts (link_form levels operand)) (classes x.1))
    (more x.1 (proper_behind b proper)))))))

links_times : (level levels : ℕ) (reader : List Word → Got Expr) (operand : Form) → level + levels ≡ 5
    → ReadsExpr (level + 1) reader operand → (times : ℕ) (words : List Word) → AreProper words
    → LinksAgree level levels reader operand times words
links_times level levels reader operand five agrees zero words proper = (refl, refl, itself words)
links_times level levels reader operand five agrees (suc times) [] proper =
    subst (λ o. AgreesAs (links_at level) [] (link_by o reader (read_links times levels reader) []) (Done [])) (sym (no_link levels))
    (refl, refl, itself [])
links_times level levels reader operand five agrees (suc times) (first ∷ others) proper =
    one_link level levels reader operand five agrees times first others proper
    (λ mid p. links_times level levels reader operand five agrees times mid p)
    (link_at levels (omega arith) operand others (numbered first.class))

links_agree : (level levels : ℕ) (reader : List Word → Got Expr) (operand : Form) → level + levels ≡ 5
    → ReadsExpr (level + 1) reader operand
    → ReadsAs (links_at level) (λ words. read_links (length words) levels reader words) (Many (link_form levels operand))
links_agree level levels reader operand five agrees words proper =
    subst (λ k. AgreesAs (links_at level) words (read_links k levels reader words)
    (reads (Many (link_form levels operand)) (classes words))) (length-classes words)
    (links_times level levels reader operand five agrees (length (classes words)) words proper)

-- an operand alone, or a chain
chained_spells : (level : ℕ) (first : Expr) (others : Links) (from mid to : List Word) → expr_at (level + 1) first from mid
    → links_at level others mid to → expr_at level (chained first others) from to
chained_spells level first Links.NoLinks from mid to h k =
    subst (λ w. expr_at level first from w) k (tighter first (level + 1) level (omega arith) from mid h)
chained_spells level first (Links.Link op operand others) from mid to h (same, k) =
    let same' : level ≡ level_of op = sym same in (
      omega arith,
      (
        mid,
        subst (λ l. expr_at (l + 1) first from mid) same' h,
        subst
            (λ l. (a : List Word) × word (class_of_binary op) mid a
            × ((b : List Word) × expr_at (l + 1) operand a b × links_at l others b to)) same' k,
      ),
    )

pub chain_agrees : (n : ℕ) → ReadsExpr 6 (read_unary n) (Forms.unary_form n) → (levels level : ℕ) → level + levels ≡ 6
    → ReadsExpr level (read_chain levels (read_unary n)) (Forms.chain_form levels (Forms.unary_form n))
unfolding read_chain
chain_agrees n agrees zero level six words proper =
    agree_as (λ (x : Expr × List Word). x.1) (λ x. expr_at 6 x.0 words x.1) (λ x. expr_at level x.0 words x.1) words
    (λ x h. tighter x.0 6 level (omega arith) words x.1 h)
    (read_unary n words) (reads (Forms.unary_form n) (classes words)) (agrees words proper)
chain_agrees n agrees (suc levels) level six words proper =
    let below : ReadsExpr (level + 1) (read_chain levels (read_unary n)) (Forms.chain_form levels (Forms.unary_form n)) =
    chain_agrees n agrees levels (level + 1) (omega arith) in
    step (expr_at level) words proper (expr_at (level + 1)) (read_chain levels (read_unary n))
    (Forms.chain_form levels (Forms.unary_form n)) below words (itself words) _ _ (λ x h b.
    at_last (expr_at level) words proper (links_at level) (λ w. read_links (length w) levels (read_chain levels (read_unary n)) w)
    (Many (link_form levels (Forms.chain_form levels (Forms.unary_form n))))
    (links_agree level levels (read_chain levels (read_unary n)) (Forms.chain_form levels (Forms.unary_form n)) (omega arith) below) x.1 b
    (λ others. chained x.0 others) (λ others to k. chained_spells level x.0 others words x.1 to h k))

expr_of_unary : (n : ℕ) → ReadsExpr 6 (read_unary n) (Forms.unary_form n) → ReadsExpr 0 (read_expr n) (Forms.expr_form n)
expr_of_unary n agrees words proper = chain_agrees n agrees 6 0 refl words proper

pub unary_agrees : (n : ℕ) → ReadsExpr 6 (read_unary n) (Forms.unary_form n)
unfolding read_unary
unary_agrees zero words proper =
    by_class (λ (x : Expr × List Word). x.1) (λ w x. expr_at 6 x.0 w x.1) (unary_of zero) (Forms.unary_form zero)
    (unary_empty zero) unary_zero words proper
unary_agrees (suc n) words proper =
    by_class (λ (x : Expr × List Word). x.1) (λ w x. expr_at 6 x.0 w x.1) (unary_of (suc n)) (Forms.unary_form (suc n))
    (unary_empty (suc n)) (unary_more n (unary_agrees n) (expr_of_unary n (unary_agrees n))) words proper

pub expr_agrees : (n : ℕ) → ReadsExpr 0 (read_expr n) (Forms.expr_form n)
expr_agrees n = expr_of_unary n (unary_agrees n)

pub below_agrees : (n : ℕ) → BelowReads n
below_agrees zero = tt
below_agrees (suc n) = expr_agrees n
