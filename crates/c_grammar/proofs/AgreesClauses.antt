-- The readers agree with the grammar's forms: simple statements and locals.
use Rattle.std.proofs.Common.{◌≡◌, ℕ, zero, suc, Bool, true, false, cond, List, [], ◌∷◌, refl, sym, ap, ◌∙◌, subst}
use Rattle.std.specs.Prelude.{◌||◌, Ok}
use Rattle.grammar_laws.specs.Form.{Form, Word as AWord, Both, Either, is_in, begins_in, starts}
use Rattle.grammar_laws.specs.Reading.{Read, Done, Stop, go_on, reads}
use Rattle.c_grammar.specs.Classes
use Rattle.c_grammar.specs.declared.class.Class.{Class}
use Rattle.c_grammar.specs.declared.class.Class.TheVariants as class
use Rattle.c_grammar.specs.Classes.{number_of, numbered}
use Rattle.c_grammar.specs.Words.{Word, classes}
use Rattle.c_grammar.specs.Forms
use Rattle.c_grammar.specs.Trees.{Name, Specifier, Expr, Args, AssignOp, Simple, Local}
use Rattle.c_grammar.specs.Spelling.{Rule, word, each, maybe, specifier, declarator, expr_at, class_of_assign, class_of_step, simple}
use Rattle.c_grammar.specs.Spelling.{initialized, local}
use Rattle.c_grammar.specs.Readers.{Got, ◌>>=◌, class_at, is_class, name_here, is_open, read_maybe, read_specifier, read_declarator}
use Rattle.c_grammar.specs.Readers.{read_call, read_members, with_members, closed_by, read_expr, read_below, begins_assign, assign_with}
use Rattle.c_grammar.specs.Readers.{assign_by, read_target, read_called, read_named, other_by, simple_by, read_simple, begins_simple}
use Rattle.c_grammar.specs.Readers.{read_value, read_initialized, read_locals, Clause, Declares, Does, read_typed, begins_declarator}
use Rattle.c_grammar.specs.Readers.{clause_named, clause_by, read_clause, begins_clause}
use Rattle.c_grammar.proofs.Agreement.{AreProper, IsBehind, itself, one_behind, proper_behind, AgreesAs, ReadsAs, agree_then, agree_behind}
use Rattle.c_grammar.proofs.Agreement.{agree_map, test_class, test_classes, AgreesBy, by_class, wrong_agrees, behind_word, maybe_agrees}
use Rattle.c_grammar.proofs.Agreement.{step, over_open, at_word, at_last, at_end}
use Rattle.c_grammar.proofs.AgreesTypes.{specifier_agrees, declarator_agrees, commas, read_commas, commas_agree}
use Rattle.c_grammar.proofs.AgreesExprs.{proper_first, closed_agrees, call_rule, call_agrees, is_open_same, member_rule, members_agree}
use Rattle.c_grammar.proofs.AgreesExprs.{members_spell, expr_agrees, below_agrees}

-- what is done to a target
abbrev pub assign_rule : Expr → Simple → Rule
assign_rule target (Simple.Assign same op value) =
    λ from to. (same ≡ target) × ((mid : List Word) × word (class_of_assign op) from mid × expr_at 0 value mid to)
assign_rule target (Simple.Step same op) = λ from to. (same ≡ target) × word (class_of_step op) from to
assign_rule target (Simple.Perform callee args) = λ from to. ⊥
assign_rule target (Simple.Free place pointer) = λ from to. ⊥

assign_spells : (target : Expr) (s : Simple) (from mid to : List Word) → expr_at 7 target from mid → assign_rule target s mid to
    → simple s from to
assign_spells target (Simple.Assign same op value) from mid to h (e, k) = (mid, subst (λ t. expr_at 7 t from mid) (sym e) h, k)
assign_spells target (Simple.Step same op) from mid to h (e, k) = (mid, subst (λ t. expr_at 7 t from mid) (sym e) h, k)
assign_spells target (Simple.Perform callee args) from mid to h k = absurd k
assign_spells target (Simple.Free place pointer) from mid to h k = absurd k

assign_value : (n : ℕ) (target : Expr) (op : AssignOp) (c : Class) (first : Word) (others : List Word) → first.class ≡ number_of c
    → word (class_of_assign op) (first ∷ others) others → AreProper others
    → AgreesAs (assign_rule target) (first ∷ others) (assign_with op n target (first ∷ others)) (reads (Forms.expr_form n) (classes others))
assign_value n target op c first others e sign proper =
    at_last (assign_rule target) (first ∷ others) (proper_first c first others e proper) (expr_at 0) (read_expr n) (Forms.expr_form n)
    (expr_agrees n) others (one_behind first others)
    (λ value. Simple.Assign target op value) (λ value to k. (refl, (others, sign, k)))

assign_by_agrees : (n : ℕ) (target : Expr)
    → AgreesBy (λ (x : Simple × List Word). x.1) (λ words x. assign_rule target x.0 words x.1) (λ c words. assign_by c n target words)
    (Forms.assign_form (Forms.expr_form n))
assign_by_agrees n target class.Set first others e proper = assign_value n target AssignOp.Set class.Set first others e (e, refl) proper
assign_by_agrees n target class.AddTo first others e proper =
    assign_value n target AssignOp.AddTo class.AddTo first others e (e, refl) proper
assign_by_agrees n target class.SubtractFrom first others e proper =
    assign_value n target AssignOp.SubtractFrom class.SubtractFrom first others e (e, refl) proper
assign_by_agrees n target class.MultiplyBy first others e proper =
    assign_value n target AssignOp.MultiplyBy class.MultiplyBy first others e (e, refl) proper
assign_by_agrees n target class.Increment first others e proper = (refl, (refl, (e, refl)), one_behind first others)
assign_by_agrees n target class.Decrement first others e proper = (refl, (refl, (e, refl)), one_behind first others)
assign_by_agrees n target _ first others e proper =
    wrong_agrees (λ (x : Simple × List Word). x.1) (λ x. assign_rule target x.0 (first ∷ others) x.1) first others _ e

assign_agrees : (n : ℕ) (target : Expr)
    → ReadsAs (assign_rule target) (λ words. assign_by (class_at words) n target words) (Forms.assign_form (Forms.expr_form n))
assign_agrees n target words proper =
    by_class (λ (x : Simple × List Word). x.1) (λ w x. assign_rule target x.0 w x.1) (λ c w. assign_by c n target w)
    (Forms.assign_form (Forms.expr_form n)) (refl, itself []) (assign_by_agrees n target) words proper

-- members of a base, and what is done to them
abbrev target_rule : Expr → Simple → Rule
target_rule base s = λ from to. (fields : List Name) × (mid : List Word) × each member_rule fields from mid
    × assign_rule (with_members base fields) s mid to

abbrev target_form : ℕ → Form
target_form n = Both Forms.members_form (Forms.assign_form (Forms.expr_form n))

target_agrees : (n : ℕ) (base : Expr) → ReadsAs (target_rule base) (read_target n base) (target_form n)
unfolding read_target
target_agrees n base words proper =
    step (target_rule base) words proper (each member_rule) read_members Forms.members_form members_agree words (itself words) _ _ (λ x h b.
    at_end (target_rule base) words proper (assign_by (class_at x.1) n (with_members base x.0) x.1)
    (reads (Forms.assign_form (Forms.expr_form n)) (classes x.1)) x.1 b (assign_rule (with_members base x.0))
    (λ s to k. (x.0, x.1, h, k)) (assign_agrees n (with_members base x.0) x.1 (proper_behind b proper)))

target_spells : (base : Expr) (s : Simple) (from mid to : List Word) → expr_at 8 base from mid → target_rule base s mid to
    → simple s from to
target_spells base s from mid to h (fields, end, k, l) =
    assign_spells (with_members base fields) s from end to (members_spell base fields from mid end h k) l

target_starts : (c : Class) → (is_class class.Arrow c || begins_assign c) ≡ is_in (number_of c) (starts (target_form zero))
target_starts class.Arrow = refl
target_starts _ = refl

-- a call, or what is done to it
called_agrees : (n : ℕ) (callee : Name) (args : Args) (from words : List Word) → AreProper from → IsBehind words from
    → expr_at 8 (Expr.Call callee args) from words → simple (Simple.Perform callee args) from words
    → AgreesAs simple from (read_called n callee args words) (reads (Forms.call_tail_form n) (classes words))
unfolding read_called
called_agrees n callee args from words proper b h p =
    by_test (is_class class.Arrow (class_at words) || begins_assign (class_at words))
    (begins_in (starts (target_form zero)) (classes words))
    (test_classes (λ c. is_class class.Arrow c || begins_assign c) (starts (target_form zero)) target_starts refl words
    (proper_behind b proper))
  where
    by_test : (x y : Bool) → x ≡ y
        → AgreesAs simple from (cond x (read_target n (Expr.Call callee args) words) (Ok (Simple.Perform callee args, words)))
        (cond y (reads (target_form n) (classes words)) (Done (classes words)))
    by_test true false e = absurd (cc)
    by_test false true e = absurd (cc)
    by_test false false e = (refl, p, b)
    by_test true true e =
        at_end simple from proper (read_target n (Expr.Call callee args) words) (reads (target_form n) (classes words)) words b
        (target_rule (Expr.Call callee args))
        (λ s to k. target_spells (Expr.Call callee args) s from words to h k)
        (target_agrees n (Expr.Call callee args) words (proper_behind b proper))

go_on_assoc : (r : Read) (next more : List ℕ → Read) → go_on (go_on r next) more ≡ go_on r (λ x. go_on (next x) more)
go_on_assoc (Done rest) next more = refl
go_on_assoc (Stop deep rest) next more = refl

-- the arguments of a call and what is behind them are read one after the other
abbrev ThenTail : ℕ → Class → List ℕ → Type 0
ThenTail n c words =
    is_open c ≡ true
    → reads (Forms.call_then_form n) (number_of c ∷ words)
    ≡ go_on (reads (Forms.call_form n (Forms.expr_below n)) (number_of c ∷ words)) (λ rest. reads (Forms.call_tail_form n) rest)

assoc_args : (n : ℕ) (words : List ℕ) →
    go_on (reads (Forms.optional (Both (Forms.expr_form n) (Forms.more_of (Forms.expr_form n)))) words)
    (λ a. go_on (reads (AWord Classes.CLOSE) a) (λ rest. reads (Forms.call_tail_form (suc n)) rest))
    ≡ go_on (go_on (reads (Forms.optional (Both (Forms.expr_form n) (Forms.more_of (Forms.expr_form n)))) words)
    (λ a. reads (AWord Classes.CLOSE) a)) (λ rest. reads (Forms.call_tail_form (suc n)) rest)
assoc_args n words =
    sym (go_on_assoc (reads (Forms.optional (Both (Forms.expr_form n) (Forms.more_of (Forms.expr_form n)))) words)
    (λ a. reads (AWord Classes.CLOSE) a) (λ rest. reads (Forms.call_tail_form (suc n)) rest))

then_tail : (n : ℕ) (c : Class) (words : List ℕ) → ThenTail n c words
then_tail zero class.Open words e = refl
then_tail zero class.Cast words e = refl
then_tail zero _ words e = absurd (cc)
then_tail (suc n) class.Open words e = assoc_args n words
then_tail (suc n) class.Cast words e = assoc_args n words
then_tail (suc n) _ words e = absurd (cc)

then_tail_at : (n : ℕ) (words : List Word) → AreProper words → is_open (class_at words) ≡ true
    → reads (Forms.call_then_form n) (classes words)
    ≡ go_on (reads (Forms.call_form n (Forms.expr_below n)) (classes words)) (λ rest. reads (Forms.call_tail_form n) rest)
then_tail_at n [] proper e = absurd (cc)
then_tail_at n (first ∷ others) proper e =
    subst (λ k. reads (Forms.call_then_form n) (k ∷ classes others)
    ≡ go_on (reads (Forms.call_form n (Forms.expr_below n)) (k ∷ classes others)) (λ rest. reads (Forms.call_tail_form n) rest)) proper.0
    (then_tail n (numbered first.class) (classes others) e)

then_starts : (n : ℕ) → starts (Forms.call_then_form n) ≡ starts (Forms.call_form n (Forms.expr_below n))
then_starts zero = refl
then_starts (suc n) = refl

-- a simple statement that begins with a name
pub named_agrees : (n : ℕ) (first : Word) (others : List Word) → first.class ≡ Classes.NAME → AreProper others
    → AgreesAs simple (first ∷ others) (read_named n (name_here (first ∷ others)) others) (reads (Forms.name_tail_form n) (classes others))
unfolding read_named
named_agrees n first others e proper =
    by_test (is_open (class_at others)) refl (begins_in (starts (Forms.call_then_form n)) (classes others))
    (is_open_same n others proper ∙ ap (λ s. begins_in s (classes others)) (sym (then_starts n)))
  where
    whole : AreProper (first ∷ others)
    whole = proper_first class.Name first others e proper

    by_test : (x : Bool) → is_open (class_at others) ≡ x → (y : Bool) → x ≡ y → AgreesAs simple (first ∷ others)
        (cond x (read_call (read_below n) others >>= (λ args. read_called n (name_here (first ∷ others)) args.0 args.1))
        (read_target n (Expr.Variable (name_here (first ∷ others))) others))
        (cond y (reads (Forms.call_then_form n) (classes others)) (reads (target_form n) (classes others)))
    by_test true is false f = absurd (cc)
    by_test false is true f = absurd (cc)
    by_test false is false f =
        at_end simple (first ∷ others) whole (read_target n (Expr.Variable (name_here (first ∷ others))) others)
        (reads (target_form n) (classes others)) others (one_behind first others) (target_rule (Expr.Variable (name_here (first ∷ others))))
        (λ s to k. target_spells (Expr.Variable (name_here (first ∷ others))) s (first ∷ others) others to (e, refl, refl, refl) k)
        (target_agrees n (Expr.Variable (name_here (first ∷ others))) others proper)
    by_test true is true f =
        subst (λ r. AgreesAs simple (first ∷ others)
        (read_call (read_below n) others >>= (λ args. read_called n (name_here (first ∷ others)) args.0 args.1)) r)
        (sym (then_tail_at n others proper is))
        (agree_then (λ (x : Args × List Word). x.1) (λ x. call_rule x.0 others x.1) (λ (y : Simple × List Word). y.1)
        (λ y. simple y.0 (first ∷ others) y.1) (first ∷ others)
        (read_call (read_below n) others) (reads (Forms.call_form n (Forms.expr_below n)) (classes others))
        (agree_behind (λ (x : Args × List Word). x.1) (λ x. call_rule x.0 others x.1) (one_behind first others)
        (read_call (read_below n) others) (reads (Forms.call_form n (Forms.expr_below n)) (classes others))
        (call_agrees n (below_agrees n) others proper is))
        _ (λ rest. reads (Forms.call_tail_form n) rest)
        (λ x h b. called_agrees n (name_here (first ∷ others)) x.0 (first ∷ others) x.1 whole b (others, (e, refl, refl, refl), h)
        (others, (e, refl, refl, refl), h)))

abbrev SimpleBy : (Class → List Word → Got Simple) → Form → Type 0
SimpleBy reader form = AgreesBy (λ (x : Simple × List Word). x.1) (λ words x. simple x.0 words x.1) reader form

free_agrees : (n : ℕ) (first : Word) (others : List Word) → first.class ≡ Classes.FREE → AreProper others
    → AgreesAs simple (first ∷ others) (other_by class.Free n (first ∷ others))
    (reads (Both Forms.open_form (Both (Forms.expr_form n) (AWord Classes.CLOSE))) (classes others))
free_agrees n first others e proper =
    let p = proper_first class.Free first others e proper in
    over_open simple (first ∷ others) p others (one_behind first others) _ _ (λ a ah ab.
    step simple (first ∷ others) p (expr_at 0) (read_expr n) (Forms.expr_form n) (expr_agrees n) a ab _ _ (λ x xh xb.
    at_word simple (first ∷ others) p class.Close refl x.1 xb (Simple.Free first.place x.0)
    (λ to k. (others, (e, refl, refl), (a, ah, (x.1, xh, k))))))

-- a primary expression and what is done to it
base_agrees : (n : ℕ) (c : Class) (first : Word) (others : List Word) → first.class ≡ number_of c → AreProper others
    → AgreesAs simple (first ∷ others) (closed_by c (read_below n) (first ∷ others) >>= (λ base. read_target n base.0 base.1))
    (go_on (reads (Forms.closed_form n (Forms.expr_below n)) (number_of c ∷ classes others)) (λ rest. reads (target_form n) rest))
base_agrees n c first others e proper =
    let p = proper_first c first others e proper in
    agree_then (λ (x : Expr × List Word). x.1) (λ x. expr_at 8 x.0 (first ∷ others) x.1) (λ (y : Simple × List Word). y.1)
    (λ y. simple y.0 (first ∷ others) y.1) (first ∷ others)
    (closed_by c (read_below n) (first ∷ others)) (reads (Forms.closed_form n (Forms.expr_below n)) (number_of c ∷ classes others))
    (closed_agrees n (below_agrees n) c first others e proper)
    _ (λ rest. reads (target_form n) rest)
    (λ x h b.
    at_end simple (first ∷ others) p (read_target n x.0 x.1) (reads (target_form n) (classes x.1)) x.1 b (target_rule x.0)
    (λ s to k. target_spells x.0 s (first ∷ others) x.1 to h k) (target_agrees n x.0 x.1 (proper_behind b p)))

pub other_by_agrees : (n : ℕ) → SimpleBy (λ c words. other_by c n words) (Forms.other_simple_form n)
other_by_agrees n class.Free first others e proper = free_agrees n first others e proper
other_by_agrees n kind first others e proper = base_agrees n kind first others e proper

pub other_empty : (n : ℕ) → AgreesAs simple [] (other_by class.OtherKey n []) (reads (Forms.other_simple_form n) [])
other_empty zero = (refl, itself [])
other_empty (suc n) = (refl, itself [])

simple_by_agrees : (n : ℕ) → SimpleBy (λ c words. simple_by c n words) (Forms.simple_form n)
simple_by_agrees n class.Name first others e proper = named_agrees n first others e proper
simple_by_agrees n kind first others e proper = other_by_agrees n kind first others e proper

pub simple_agrees : (n : ℕ) → ReadsAs simple (read_simple n) (Forms.simple_form n)
unfolding read_simple
simple_agrees n words proper =
    by_class (λ (x : Simple × List Word). x.1) (λ w x. simple x.0 w x.1) (λ c w. simple_by c n w) (Forms.simple_form n) (other_empty n)
    (simple_by_agrees n) words proper

simple_starts : (c : Class) → begins_simple c ≡ is_in (number_of c) (starts (Forms.simple_form zero))
simple_starts class.Name = refl
simple_starts _ = refl

pub begins_simple_same : (words : List Word) → AreProper words
    → begins_simple (class_at words) ≡ begins_in (starts (Forms.simple_form zero)) (classes words)
begins_simple_same words proper = test_classes begins_simple (starts (Forms.simple_form zero)) simple_starts refl words proper

-- locals

abbrev value_rule : Expr → Rule
value_rule value = λ from to. (mid : List Word) × word Classes.SET from mid × expr_at 0 value mid to

value_agrees : (n : ℕ)
    → ReadsAs (maybe value_rule) (read_maybe (is_class class.Set) (read_value n))
    (Forms.optional (Both (AWord Classes.SET) (Forms.expr_form n)))
value_agrees n words proper =
    maybe_agrees (is_class class.Set) value_rule (read_value n) (Both (AWord Classes.SET) (Forms.expr_form n))
    (λ w p. test_class class.Set w p refl)
    (behind_word class.Set refl (expr_at 0) (read_expr n) (Forms.expr_form n) (expr_agrees n)) words proper

pub initialized_agrees : (n : ℕ) → ReadsAs initialized (read_initialized n) (Forms.initialized_form n)
unfolding read_initialized
initialized_agrees n words proper =
    step initialized words proper declarator read_declarator Forms.declarator_form declarator_agrees words (itself words) _ _ (λ d h b.
    at_last initialized words proper (maybe value_rule) (read_maybe (is_class class.Set) (read_value n))
    (Forms.optional (Both (AWord Classes.SET) (Forms.expr_form n))) (value_agrees n) d.1 b
    (λ value. record { declarator = d.0; value = value }) (λ value to k. (d.1, h, k)))

-- locals behind their type
abbrev locals_rule : Specifier → Local → Rule
locals_rule s l = λ from to. (l.specifier ≡ s)
    × ((mid : List Word) × initialized l.first from mid
    × each (λ one x y. (m : List Word) × word Classes.COMMA x m × initialized one m y) l.others mid to)

locals_agree : (n : ℕ) (s : Specifier) → ReadsAs (locals_rule s) (read_locals n s) (Forms.locals_tail_form n)
unfolding read_locals
locals_agree n s words proper =
    step (locals_rule s) words proper initialized (read_initialized n) (Forms.initialized_form n) (initialized_agrees n) words
    (itself words) _ _ (λ x h b.
    at_last (locals_rule s) words proper (commas initialized) (read_commas (read_initialized n)) (Forms.more_of (Forms.initialized_form n))
    (commas_agree initialized (read_initialized n) (Forms.initialized_form n) (initialized_agrees n)) x.1 b
    (λ others. record { specifier = s; first = x.0; others = others }) (λ others to k. (refl, (x.1, h, k))))

locals_spell : (s : Specifier) (l : Local) (from mid to : List Word) → specifier s from mid → locals_rule s l mid to → local l from to
locals_spell s l from mid to h (e, k) = (mid, subst (λ t. specifier t from mid) (sym e) h, k)

abbrev pub clause_rule : Clause → Rule
clause_rule (Declares l) = local l
clause_rule (Does s) = simple s

abbrev ClauseBy : (Class → List Word → Got Clause) → Form → Type 0
ClauseBy reader form = AgreesBy (λ (x : Clause × List Word). x.1) (λ words x. clause_rule x.0 words x.1) reader form

-- locals whose type begins with a reserved word; that such a type is read is seen at its first word
typed_agrees : (n : ℕ) (c : Class) (first : Word) (others : List Word) → first.class ≡ number_of c → AreProper others
    → AgreesAs clause_rule (first ∷ others) (read_typed n (first ∷ others))
    (go_on (reads Forms.specifier_form (number_of c ∷ classes others)) (λ rest. reads (Forms.locals_tail_form n) rest))
typed_agrees n c first others e proper =
    let p = proper_first c first others e proper in
    agree_then (λ (x : Specifier × List Word). x.1) (λ x. specifier x.0 (first ∷ others) x.1) (λ (y : Clause × List Word). y.1)
    (λ y. clause_rule y.0 (first ∷ others) y.1) (first ∷ others)
    (read_specifier (first ∷ others)) (reads Forms.specifier_form (number_of c ∷ classes others))
    (subst (λ k. AgreesAs specifier (first ∷ others) (read_specifier (first ∷ others)) (reads Forms.specifier_form (k ∷ classes others))) e
    (specifier_agrees (first ∷ others) p))
    _ (λ rest. reads (Forms.locals_tail_form n) rest)
    (λ x h b. at_last clause_rule (first ∷ others) p (locals_rule x.0) (read_locals n x.0) (Forms.locals_tail_form n)
    (locals_agree n x.0) x.1 b (λ l. Declares l) (λ l to k. locals_spell x.0 l (first ∷ others) x.1 to h k))

declarator_starts : (c : Class) → begins_declarator c ≡ is_in (number_of c) (starts Forms.declarator_form)
declarator_starts class.Star = refl
declarator_starts _ = refl

clause_named_agrees : (n : ℕ) (first : Word) (others : List Word) → first.class ≡ Classes.NAME → AreProper others
    → AgreesAs clause_rule (first ∷ others) (clause_named (begins_declarator (class_at others)) n (name_here (first ∷ others)) others)
    (reads (Either (Forms.locals_tail_form n) (Forms.name_tail_form n)) (classes others))
clause_named_agrees n first others e proper =
    by_test (begins_declarator (class_at others)) (begins_in (starts Forms.declarator_form) (classes others))
    (test_classes begins_declarator (starts Forms.declarator_form) declarator_starts refl others proper)
  where
    whole : AreProper (first ∷ others)
    whole = proper_first class.Name first others e proper

    by_test : (x y : Bool) → x ≡ y
        → AgreesAs clause_rule (first ∷ others) (clause_named x n (name_here (first ∷ others)) others)
        (cond y (reads (Forms.locals_tail_form n) (classes others)) (reads (Forms.name_tail_form n) (classes others)))
    by_test true false f = absurd (cc)
    by_test false true f = absurd (cc)
    by_test true true f =
        at_last clause_rule (first ∷ others) whole (locals_rule (Specifier.Alias (name_here (first ∷ others))))
        (read_locals n (Specifier.Alias (name_here (first ∷ others)))) (Forms.locals_tail_form n)
        (locals_agree n (Specifier.Alias (name_here (first ∷ others)))) others (one_behind first others) (λ l. Declares l)
        (λ l to k. locals_spell (Specifier.Alias (name_here (first ∷ others))) l (first ∷ others) others to (e, refl, refl, refl) k)
    by_test false false f =
        agree_map (λ (x : Simple × List Word). x.1) (λ x. simple x.0 (first ∷ others) x.1) (λ (y : Clause × List Word). y.1)
        (λ y. clause_rule y.0 (first ∷ others) y.1) (first ∷ others) (λ x. (Does x.0, x.1)) (λ x. refl) (λ x h. h)
        (read_named n (name_here (first ∷ others)) others) (reads (Forms.name_tail_form n) (classes others))
        (named_agrees n first others e proper)

does_agree : (n : ℕ) (c : Class) (first : Word) (others : List Word) → first.class ≡ number_of c → AreProper others
    → AgreesAs clause_rule (first ∷ others) (other_by c n (first ∷ others) >>= (λ s. Ok (Does s.0, s.1)))
    (reads (Forms.other_simple_form n) (number_of c ∷ classes others))
does_agree n c first others e proper =
    agree_map (λ (x : Simple × List Word). x.1) (λ x. simple x.0 (first ∷ others) x.1) (λ (y : Clause × List Word). y.1)
    (λ y. clause_rule y.0 (first ∷ others) y.1) (first ∷ others) (λ x. (Does x.0, x.1)) (λ x. refl) (λ x h. h)
    (other_by c n (first ∷ others)) (reads (Forms.other_simple_form n) (number_of c ∷ classes others))
    (other_by_agrees n c first others e proper)

pub clause_by_agrees : (n : ℕ) → ClauseBy (λ c words. clause_by c n words) (Forms.clause_form n)
clause_by_agrees n class.Int first others e proper = typed_agrees n class.Int first others e proper
clause_by_agrees n class.Void first others e proper = typed_agrees n class.Void first others e proper
clause_by_agrees n class.Struct first others e proper = typed_agrees n class.Struct first others e proper
clause_by_agrees n class.Name first others e proper = clause_named_agrees n first others e proper
clause_by_agrees n kind first others e proper = does_agree n kind first others e proper

pub clause_empty : (n : ℕ) → AgreesAs clause_rule [] (clause_by class.OtherKey n []) (reads (Forms.clause_form n) [])
clause_empty zero = (refl, itself [])
clause_empty (suc n) = (refl, itself [])

pub clause_agrees : (n : ℕ) → ReadsAs clause_rule (read_clause n) (Forms.clause_form n)
unfolding read_clause
clause_agrees n words proper =
    by_class (λ (x : Clause × List Word). x.1) (λ w x. clause_rule x.0 w x.1) (λ c w. clause_by c n w) (Forms.clause_form n)
    (clause_empty n) (clause_by_agrees n) words proper

clause_starts : (c : Class) → begins_clause c ≡ is_in (number_of c) (starts (Forms.clause_form zero))
clause_starts class.Int = refl
clause_starts _ = refl

pub begins_clause_same : (words : List Word) → AreProper words
    → begins_clause (class_at words) ≡ begins_in (starts (Forms.clause_form zero)) (classes words)
begins_clause_same words proper = test_classes begins_clause (starts (Forms.clause_form zero)) clause_starts refl words proper
