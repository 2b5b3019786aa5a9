-- At most one simple statement, and at most one declaration of locals, leads from some words to others.
use Rattle.std.proofs.Common.{◌≡◌, ◌⊎◌, inl, inr, ℕ, zero, suc, ◌≤◌, ◌<◌, Bool, true, false, List, [], ◌∷◌, ◌++◌, length, refl, sym, ap}
use Rattle.std.proofs.Common.{ap₂, ◌∙◌, subst, arith, rules}
use Rattle.std.specs.Prelude.{Option, Some, None, ◌==◌, ◌||◌, if◌then◌else◌}
use Rattle.grammar_laws.specs.Form.{Form, Word as AWord, Nothing, Both, Many, is_in, starts, continues, may_be_empty, are_apart, Derives}
use Rattle.grammar_laws.specs.Form.{IsGood}
use Rattle.grammar_laws.proofs.Derived.{begins}
use Rattle.grammar_laws.proofs.Taken.{took_some}
use Rattle.grammar_laws.proofs.Classes.{begins_not_left, begins_without, in_and_out, apart}
use Rattle.c_grammar.specs.declared.tokens.places.Place.{Place}
use Rattle.c_grammar.specs.Classes
use Rattle.c_grammar.specs.Words.{Word, classes}
use Rattle.c_grammar.specs.Forms
use Rattle.c_grammar.specs.Matching.{IsForm}
use Rattle.c_grammar.specs.Trees.{Name, Specifier, Declarator, Expr, Args, AssignOp, StepOp, Simple, Initialized, Local}
use Rattle.c_grammar.specs.Spelling.{Rule, word, word_at, open_paren, name, each, maybe, specifier, declarator, expr_at, class_of_assign}
use Rattle.c_grammar.specs.Spelling.{class_of_step, simple, initialized, local}
use Rattle.c_grammar.specs.Nesting.{nesting, args_nesting, deepest, maybe_nesting, simple_nesting, initialized_nesting, local_nesting}
use Rattle.c_grammar.proofs.OneWordAhead.{expr_good, simple_good}
use Rattle.c_grammar.proofs.Parts.{is_word, is_word_at, is_nothing, is_both, is_first, is_second, is_known, either_part, both_parts}
use Rattle.c_grammar.proofs.Spelled.{Leads, is_name, is_each, is_declarator, is_expr}
use Rattle.c_grammar.proofs.SpelledFiles.{is_simple, is_assign, is_step}
use Rattle.c_grammar.proofs.Synced.{Ends, synced, synced_both, ends_first, fewer, Unique, unique_each}
use Rattle.c_grammar.proofs.UniqueExprs.{one_word, one_place, one_open, one_specifier, one_declarator, ends_word, whole_form, unique_call}
use Rattle.c_grammar.proofs.UniqueExprs.{postfix_good}
use Rattle.c_grammar.proofs.UniqueChains.{expr_unique, postfix_unique}

-- words that a form leads from begin with a class that it starts with
begins_form : (form : Form) → IsGood form → may_be_empty form ≡ false → (w : Word) (ws to : List Word) → IsForm form (w ∷ ws) to
    → is_in w.class (starts form) ≡ true
begins_form form good never w ws to f = by_front f.front f.splits f.derives
  where
    by_front : (front : List Word) → w ∷ ws ≡ front ++ to → Derives form (classes front) (classes to) → is_in w.class (starts form) ≡ true
    by_front [] split d = let z = took_some form good never [] (classes to) d in absurd (omega arith)
    by_front (v ∷ front) split d =
        let b : is_in v.class (starts form) ≡ true = begins form good v.class (classes front) (classes to) d in
        let same : v ≡ w = cc in
        subst (λ x. is_in x.class (starts form) ≡ true) same b

-- forms that start with different classes lead from different words
apart_forms : {A : Type 0} (one other : Form) → IsGood one → IsGood other → may_be_empty one ≡ false → may_be_empty other ≡ false
    → are_apart (starts one) (starts other) ≡ true
    → (from to end : List Word) → IsForm one from to → IsForm other from end → A
apart_forms {A} one other good good' never never' away [] to end f g = let few = fewer one good never [] to f in absurd (omega arith)
apart_forms {A} one other good good' never never' away (w ∷ ws) to end f g =
    in_and_out (is_in w.class (starts other)) (begins_form other good' never' w ws end g)
    (apart w.class (starts one) (starts other) away (begins_form one good never w ws to f))

-- what is assigned to, and the assignment
abbrev target_form : ℕ → Form
target_form n = Both (Forms.postfix_form n (Forms.expr_below n)) (Forms.assign_form (Forms.expr_form n))

target_good : (n : ℕ) → IsGood (target_form n)
target_good zero = let e = expr_good zero in let p = postfix_good zero in search (e, p)
target_good (suc n) = let e = expr_good (suc n) in let p = postfix_good (suc n) in search (e, p)

assign_good : (n : ℕ) → IsGood (Forms.assign_form (Forms.expr_form n))
assign_good n = (target_good n).1

closed_good : (n : ℕ) → IsGood (Both (Forms.expr_form n) (AWord Classes.CLOSE))
closed_good n = let e = expr_good n in search e

other_good : (n : ℕ) → IsGood (Forms.other_simple_form n)
other_good n = (simple_good n).0.1

-- what does not continue a simple statement continues none of its parts
ends_target : (n : ℕ) (to : List Word) → Ends (Forms.simple_form n) to → Ends (target_form n) to
ends_target n to ends = begins_without (continues (target_form n)) (Forms.simple_facts).continues (classes to) refl ends

ends_value : (n : ℕ) (to : List Word) → Ends (Forms.simple_form n) to → Ends (Forms.expr_form n) to
ends_value n to ends = begins_without (Forms.expr_facts).continues (Forms.simple_facts).continues (classes to) refl ends

ends_call : (n : ℕ) (to : List Word) → Ends (Forms.simple_form n) to → Ends (Forms.postfix_form n (Forms.expr_below n)) to
ends_call zero to ends = begins_without (continues (Forms.postfix_form zero Nothing)) (Forms.simple_facts).continues (classes to) refl ends
ends_call (suc n) to ends =
    begins_without (continues (Forms.postfix_form (suc n) (Forms.expr_form n))) (Forms.simple_facts).continues (classes to) refl ends

abbrev postfix : ℕ → Form
postfix n = Forms.postfix_form n (Forms.expr_below n)

abbrev assign : ℕ → Form
assign n = Forms.assign_form (Forms.expr_form n)

is_assigned : (n : ℕ) (op : AssignOp) (value : Expr) (from mid to : List Word) → nesting value ≤ n → word (class_of_assign op) from mid
    → expr_at 0 value mid to → IsForm (assign n) from to
is_assigned n op value from mid to fits h k = is_first (is_both (is_assign op from mid h) (whole_form value n mid to fits k))

-- two statements that assign to something assign to the same
same_target : (n : ℕ) (e f : Expr) (from a b to : List Word) → nesting e ≤ n → nesting f ≤ n → expr_at 7 e from a → IsForm (assign n) a to
    → expr_at 7 f from b → IsForm (assign n) b to
    → Ends (target_form n) to → (a ≡ b) × (e ≡ f)
same_target n e f from a b to fe ff h i k l ends =
    let same : a
    ≡ b =
    synced_both (postfix n) (assign n) (target_good n) from a b to (is_expr e 7 1 n from a refl fe h) i
    (is_expr f 7 1 n from b refl ff k) l ends in
    let k' : expr_at 7 f from a = subst (λ w. expr_at 7 f from w) (sym same) k in
    (same, postfix_unique n e f from a fe ff h k' (ends_first (postfix n) (assign n) (target_good n) a to i ends))

-- a call and an assignment lead to different words
call_or_target : {A : Type 0} (n : ℕ) (callee : Name) (args : Args) (e : Expr) (from a to : List Word) → suc (args_nesting args) ≤ n
    → nesting e ≤ n
    → expr_at 8 (Expr.Call callee args) from to → expr_at 7 e from a → IsForm (assign n) a to → Ends (Forms.simple_form n) to → A
call_or_target {A} n callee args e from a to fits fe h k i ends =
    let behind : Ends (postfix n) a = ends_first (postfix n) (assign n) (target_good n) a to i (ends_target n to ends) in
    let same : to
    ≡ a =
    synced (postfix n) (postfix_good n) from to a (is_expr (Expr.Call callee args) 7 1 n from to refl fits h)
    (is_expr e 7 1 n from a refl fe k) (ends_call n to ends) behind in
    let few : length to < length a = fewer (assign n) (assign_good n) refl a to i in
    let l : length to ≡ length a = ap length same in
    absurd (omega arith)

-- nothing that is assigned to begins with `free`
free_or_target : {A : Type 0} (n : ℕ) (place : Place) (e : Expr) (from mid a : List Word) → nesting e ≤ n
    → word_at place Classes.FREE from mid → expr_at 7 e from a → A
free_or_target {A} zero place e from mid a fe h k =
    apart_forms (AWord Classes.FREE) (postfix zero) tt (postfix_good zero) refl refl refl from mid a (is_word_at place from mid h)
    (is_expr e 7 1 zero from a refl fe k)
free_or_target {A} (suc n) place e from mid a fe h k =
    apart_forms (AWord Classes.FREE) (postfix (suc n)) tt (postfix_good (suc n)) refl refl refl from mid a (is_word_at place from mid h)
    (is_expr e 7 1 (suc n) from a refl fe k)

free_or_name : {A : Type 0} (place : Place) (callee : Name) (from mid a : List Word) → word_at place Classes.FREE from mid
    → name callee from a → A
free_or_name {A} place callee from mid a h k =
    apart_forms (AWord Classes.FREE) (AWord Classes.NAME) tt tt refl refl refl from mid a (is_word_at place from mid h)
    (is_name callee from a k)

-- the words of assignments tell which they are

abbrev assign_of : ℕ → AssignOp
assign_of class =
    if class == 28 then AssignOp.Set
    else (if class == 29 then AssignOp.AddTo else (if class == 30 then AssignOp.SubtractFrom else AssignOp.MultiplyBy))

same_assign : (op other : AssignOp) → class_of_assign op ≡ class_of_assign other → op ≡ other
same_assign op other e = sym (back op) ∙ ap assign_of e ∙ back other
  where
    back : (o : AssignOp) → assign_of (class_of_assign o) ≡ o
    back AssignOp.Set = refl
    back AssignOp.AddTo = refl
    back AssignOp.SubtractFrom = refl
    back AssignOp.MultiplyBy = refl

abbrev step_of : ℕ → StepOp
step_of class = if class == 32 then StepOp.Increment else StepOp.Decrement

same_step : (op other : StepOp) → class_of_step op ≡ class_of_step other → op ≡ other
same_step op other e = sym (back op) ∙ ap step_of e ∙ back other
  where
    back : (o : StepOp) → step_of (class_of_step o) ≡ o
    back StepOp.Increment = refl
    back StepOp.Decrement = refl

abbrev is_step_class : ℕ → Bool
is_step_class class = class == 32 || class == 33

assign_or_step : {A : Type 0} (op : AssignOp) (other : StepOp) → class_of_assign op ≡ class_of_step other → A
assign_or_step {A} op other e = in_and_out (is_step_class (class_of_step other)) (step other) (ap is_step_class (sym e) ∙ not_step op)
  where
    step : (o : StepOp) → is_step_class (class_of_step o) ≡ true
    step StepOp.Increment = refl
    step StepOp.Decrement = refl

    not_step : (o : AssignOp) → is_step_class (class_of_assign o) ≡ false
    not_step AssignOp.Set = refl
    not_step AssignOp.AddTo = refl
    not_step AssignOp.SubtractFrom = refl
    not_step AssignOp.MultiplyBy = refl

unique_free : (n : ℕ) (p q : Place) (x y : Expr) (from to : List Word) → nesting x ≤ n → nesting y ≤ n → simple (Simple.Free p x) from to
    → simple (Simple.Free q y) from to → Simple.Free p x ≡ Simple.Free q y
unique_free n p q x y from to fx fy (a, h, (b, i, (c, j, close))) (a', k, (b', l, (c', m, close'))) =
    let (ea, place) = one_place Classes.FREE p q from a a' h k in
    let l' : open_paren a b' = subst (λ w. open_paren w b') (sym ea) l in
    let eb : b ≡ b' = one_open a b b' i l' in
    let m' : expr_at 0 y b c' = subst (λ w. expr_at 0 y w c') (sym eb) m in
    let end : IsForm (AWord Classes.CLOSE) c to = is_word c to close in
    let ec : c ≡ c' =
    synced_both (Forms.expr_form n) (AWord Classes.CLOSE) (closed_good n) b c c' to (whole_form x n b c fx j) end
    (whole_form y n b c' fy m') (is_word c' to close') (ends_word to) in
    let m'' : expr_at 0 y b c = subst (λ w. expr_at 0 y b w) (sym ec) m' in
    ap₂ Simple.Free place
    (expr_unique n x y b c fx fy j m'' (ends_first (Forms.expr_form n) (AWord Classes.CLOSE) (closed_good n) c to end (ends_word to)))

unique_perform : (n : ℕ) (f g : Name) (x y : Args) (from to : List Word) → suc (args_nesting x) ≤ n → suc (args_nesting y) ≤ n
    → simple (Simple.Perform f x) from to → simple (Simple.Perform g y) from to → Simple.Perform f x ≡ Simple.Perform g y
unique_perform zero f g x y from to fx fy h k = absurd (omega arith)
unique_perform (suc n) f g x y from to fx fy h k =
    let (callee, args) = unique_call n (expr_unique n) f g x y from to (omega arith) (omega arith) h k in ap₂ Simple.Perform callee args

unique_assign : (n : ℕ) (e f : Expr) (op other : AssignOp) (x y : Expr) (from to : List Word) → simple_nesting (Simple.Assign e op x) ≤ n
    → simple_nesting (Simple.Assign f other y) ≤ n
    → simple (Simple.Assign e op x) from to → simple (Simple.Assign f other y) from to → Ends (Forms.simple_form n) to
    → Simple.Assign e op x ≡ Simple.Assign f other y
unique_assign n e f op other x y from to fs ft (a, h, (b, i, j)) (c, k, (d, l, m)) ends =
    let (ea, target) =
    same_target n e f from a c to (omega arith) (omega arith) h (is_assigned n op x a b to (omega arith) i j) k
    (is_assigned n other y c d to (omega arith) l m) (ends_target n to ends) in
    let l' : word (class_of_assign other) a d = subst (λ w. word (class_of_assign other) w d) (sym ea) l in
    let (eb, class) = one_word (class_of_assign op) (class_of_assign other) a b d i l' in
    let ops : op ≡ other = same_assign op other class in
    let m' : expr_at 0 y b to = subst (λ w. expr_at 0 y w to) (sym eb) m in
    let value : x ≡ y = expr_unique n x y b to (omega arith) (omega arith) j m' (ends_value n to ends) in
    λ z. Simple.Assign (target z) (ops z) (value z)

unique_step : (n : ℕ) (e f : Expr) (op other : StepOp) (from to : List Word) → nesting e ≤ n → nesting f ≤ n
    → simple (Simple.Step e op) from to → simple (Simple.Step f other) from to → Ends (Forms.simple_form n) to
    → Simple.Step e op ≡ Simple.Step f other
unique_step n e f op other from to fs ft (a, h, i) (c, k, l) ends =
    let (ea, target) = same_target n e f from a c to fs ft h (is_step op n a to i) k (is_step other n c to l) (ends_target n to ends) in
    let l' : word (class_of_step other) a to = subst (λ w. word (class_of_step other) w to) (sym ea) l in
    ap₂ Simple.Step target (same_step op other (one_word (class_of_step op) (class_of_step other) a to to i l').1)

set_or_step : {A : Type 0} (n : ℕ) (e f : Expr) (op : AssignOp) (other : StepOp) (x : Expr) (from to : List Word)
    → simple_nesting (Simple.Assign e op x) ≤ n → nesting f ≤ n
    → simple (Simple.Assign e op x) from to → simple (Simple.Step f other) from to → Ends (Forms.simple_form n) to → A
set_or_step {A} n e f op other x from to fs ft (a, h, (b, i, j)) (c, k, l) ends =
    let (ea, target) =
    same_target n e f from a c to (omega arith) ft h (is_assigned n op x a b to (omega arith) i j) k (is_step other n c to l)
    (ends_target n to ends) in
    let l' : word (class_of_step other) a to = subst (λ w. word (class_of_step other) w to) (sym ea) l in
    assign_or_step op other (one_word (class_of_assign op) (class_of_step other) a b to i l').1

call_or_set : {A : Type 0} (n : ℕ) (callee : Name) (args : Args) (e : Expr) (op : AssignOp) (x : Expr) (from to : List Word)
    → suc (args_nesting args) ≤ n → simple_nesting (Simple.Assign e op x) ≤ n
    → simple (Simple.Perform callee args) from to → simple (Simple.Assign e op x) from to → Ends (Forms.simple_form n) to → A
call_or_set {A} n callee args e op x from to fs ft h (a, k, (b, i, j)) ends =
    call_or_target n callee args e from a to fs (omega arith) h k (is_assigned n op x a b to (omega arith) i j) ends

call_or_step : {A : Type 0} (n : ℕ) (callee : Name) (args : Args) (e : Expr) (op : StepOp) (from to : List Word)
    → suc (args_nesting args) ≤ n → nesting e ≤ n
    → simple (Simple.Perform callee args) from to → simple (Simple.Step e op) from to → Ends (Forms.simple_form n) to → A
call_or_step {A} n callee args e op from to fs ft h (a, k, i) ends =
    call_or_target n callee args e from a to fs ft h k (is_step op n a to i) ends

pub simple_unique : (n : ℕ) (s t : Simple) (from to : List Word) → simple_nesting s ≤ n → simple_nesting t ≤ n → simple s from to
    → simple t from to → Ends (Forms.simple_form n) to → s ≡ t
simple_unique n (Simple.Assign e op x) (Simple.Assign f other y) from to fs ft h k ends =
    unique_assign n e f op other x y from to fs ft h k ends
simple_unique n (Simple.Assign e op x) (Simple.Step f other) from to fs ft h k ends = set_or_step n e f op other x from to fs ft h k ends
simple_unique n (Simple.Assign e op x) (Simple.Perform callee args) from to fs ft h k ends =
    call_or_set n callee args e op x from to ft fs k h ends
simple_unique n (Simple.Assign e op x) (Simple.Free place y) from to fs ft h k ends =
    free_or_target n place e from k.0 h.0 (omega arith) k.1 h.1
simple_unique n (Simple.Step e op) (Simple.Assign f other y) from to fs ft h k ends = set_or_step n f e other op y from to ft fs k h ends
simple_unique n (Simple.Step e op) (Simple.Step f other) from to fs ft h k ends = unique_step n e f op other from to fs ft h k ends
simple_unique n (Simple.Step e op) (Simple.Perform callee args) from to fs ft h k ends =
    call_or_step n callee args e op from to ft fs k h ends
simple_unique n (Simple.Step e op) (Simple.Free place y) from to fs ft h k ends = free_or_target n place e from k.0 h.0 fs k.1 h.1
simple_unique n (Simple.Perform callee args) (Simple.Assign f other y) from to fs ft h k ends =
    call_or_set n callee args f other y from to fs ft h k ends
simple_unique n (Simple.Perform callee args) (Simple.Step f other) from to fs ft h k ends =
    call_or_step n callee args f other from to fs ft h k ends
simple_unique n (Simple.Perform callee args) (Simple.Perform g y) from to fs ft h k ends =
    unique_perform n callee g args y from to fs ft h k
simple_unique n (Simple.Perform callee args) (Simple.Free place y) from to fs ft h k ends = free_or_name place callee from k.0 h.0 k.1 h.1
simple_unique n (Simple.Free place x) (Simple.Assign f other y) from to fs ft h k ends =
    free_or_target n place f from h.0 k.0 (omega arith) h.1 k.1
simple_unique n (Simple.Free place x) (Simple.Step f other) from to fs ft h k ends = free_or_target n place f from h.0 k.0 ft h.1 k.1
simple_unique n (Simple.Free place x) (Simple.Perform callee args) from to fs ft h k ends = free_or_name place callee from h.0 k.0 h.1 k.1
simple_unique n (Simple.Free place x) (Simple.Free q y) from to fs ft h k ends = unique_free n place q x y from to fs ft h k

-- locals

-- the rule, of things that nest so deep at most
abbrev bounded : {A : Type 0} → (A → ℕ) → ℕ → (A → Rule) → A → Rule
bounded depth n rule a = λ from to. (depth a ≤ n) × rule a from to

each_bounded : {A : Type 0} (depth : A → ℕ) (n : ℕ) (rule : A → Rule) (all : List A) (from to : List Word) → deepest depth all ≤ n
    → each rule all from to → each (bounded depth n rule) all from to
each_bounded depth n rule [] from to fits h = h
each_bounded depth n rule (a ∷ all) from to fits (mid, h, k) = (mid, (omega arith, h), each_bounded depth n rule all mid to (omega arith) k)

abbrev value_rule : Expr → Rule
value_rule value = λ from to. (mid : List Word) × word Classes.SET from mid × expr_at 0 value mid to

abbrev value_form : ℕ → Form
value_form n = Both (AWord Classes.SET) (Forms.expr_form n)

value_good : (n : ℕ) → IsGood (value_form n)
value_good n = let e = expr_good n in search e

is_value_of : (n : ℕ) (value : Expr) (from to : List Word) → nesting value ≤ n → value_rule value from to → IsForm (value_form n) from to
is_value_of n value from to fits (mid, h, k) = is_both (is_word from mid h) (whole_form value n mid to fits k)

unique_value : (n : ℕ) (v u : Option Expr) (from to : List Word) → maybe_nesting nesting v ≤ n → maybe_nesting nesting u ≤ n
    → maybe value_rule v from to → maybe value_rule u from to → Ends (Forms.expr_form n) to → v ≡ u
unique_value n None None from to fv fu h k ends = refl
unique_value n None (Some u) from to fv fu h k ends =
    let few = fewer (value_form n) (value_good n) refl from to (is_value_of n u from to fu k) in
    let s : length from ≡ length to = ap length h in absurd (omega arith)
unique_value n (Some v) None from to fv fu h k ends =
    let few = fewer (value_form n) (value_good n) refl from to (is_value_of n v from to fv h) in
    let s : length from ≡ length to = ap length k in absurd (omega arith)
unique_value n (Some v) (Some u) from to fv fu (a, h, i) (b, k, l) ends =
    let same : a ≡ b = (one_word Classes.SET Classes.SET from a b h k).0 in
    let l' : expr_at 0 u a to = subst (λ w. expr_at 0 u w to) (sym same) l in
    ap Some (expr_unique n v u a to fv fu i l' ends)

is_value_maybe : (n : ℕ) (v : Option Expr) (from to : List Word) → maybe_nesting nesting v ≤ n → maybe value_rule v from to
    → IsForm (Forms.optional (value_form n)) from to
is_value_maybe n None from to fits h = is_second (is_nothing from to h)
is_value_maybe n (Some value) from to fits h = is_first (is_value_of n value from to fits h)

is_initial : (n : ℕ) (one : Initialized) (from to : List Word) → initialized_nesting one ≤ n → initialized one from to
    → IsForm (Forms.initialized_form n) from to
is_initial n one from to fits (mid, h, k) = is_both (is_declarator one.declarator from mid h) (is_value_maybe n one.value mid to fits k)

ends_initial : (n : ℕ) (to : List Word) → Ends (Forms.initialized_form n) to → Ends (Forms.expr_form n) to
ends_initial n to ends = begins_without (Forms.expr_facts).continues (continues (Forms.initialized_form n)) (classes to) refl ends

initial_unique : (n : ℕ) (x y : Initialized) (from to : List Word) → initialized_nesting x ≤ n → initialized_nesting y ≤ n
    → initialized x from to → initialized y from to → Ends (Forms.initialized_form n) to → x ≡ y
initial_unique n x y from to fx fy (a, h, i) (b, k, l) ends =
    let (same, declarators) = one_declarator x.declarator y.declarator from a b h k in
    let l' : maybe value_rule y.value a to = subst (λ w. maybe value_rule y.value w to) (sym same) l in
    let values : x.value ≡ y.value = unique_value n x.value y.value a to fx fy i l' (ends_initial n to ends) in
    λ z. record { declarator = declarators z; value = values z }

abbrev next_rule : Initialized → Rule
next_rule one = λ from to. (mid : List Word) × word Classes.COMMA from mid × initialized one mid to

abbrev next_form : ℕ → Form
next_form n = Both (AWord Classes.COMMA) (Forms.initialized_form n)

is_next : (n : ℕ) (one : Initialized) → Leads (bounded initialized_nesting n next_rule) (next_form n) one
is_next n one from to (fits, (mid, h, k)) = is_both (is_word from mid h) (is_initial n one mid to fits k)

next_unique : (n : ℕ) → Unique (bounded initialized_nesting n next_rule) (next_form n)
next_unique n x y from to (fx, (a, h, i)) (fy, (b, k, l)) ends =
    let same : a ≡ b = (one_word Classes.COMMA Classes.COMMA from a b h k).0 in
    let l' : initialized y a to = subst (λ w. initialized y w to) (sym same) l in
    initial_unique n x y a to fx fy i l' (begins_not_left (continues (Forms.initialized_form n)) [] (classes to) ends)

locals_good : (n : ℕ) → IsGood (Forms.locals_tail_form n)
locals_good n = let e = expr_good n in search e

ends_locals : (n : ℕ) (to : List Word) → Ends (Forms.clause_form n) to → Ends (Forms.locals_tail_form n) to
ends_locals n to ends = begins_without (continues (Forms.locals_tail_form n)) (Forms.clause_facts).continues (classes to) refl ends

unique_others : (n : ℕ) (x y : List Initialized) (from to : List Word) → deepest initialized_nesting x ≤ n
    → deepest initialized_nesting y ≤ n → each next_rule x from to → each next_rule y from to → Ends (Many (next_form n)) to → x ≡ y
unique_others n x y from to fx fy h k ends =
    unique_each (bounded initialized_nesting n next_rule) (next_form n) (locals_good n).1 (is_next n) (next_unique n) x y from to
    (each_bounded initialized_nesting n next_rule x from to fx h) (each_bounded initialized_nesting n next_rule y from to fy k) ends

is_nexts : (n : ℕ) (all : List Initialized) (from to : List Word) → deepest initialized_nesting all ≤ n → each next_rule all from to
    → IsForm (Many (next_form n)) from to
is_nexts n all from to fits h =
    is_each (bounded initialized_nesting n next_rule) (next_form n) (is_next n) all from to
    (each_bounded initialized_nesting n next_rule all from to fits h)

pub local_unique : (n : ℕ) (l m : Local) (from to : List Word) → local_nesting l ≤ n → local_nesting m ≤ n → local l from to
    → local m from to → Ends (Forms.clause_form n) to → l ≡ m
local_unique n l m from to fl fm (a, h, (b, i, j)) (a', h', (b', i', j')) ends =
    let (ea, specifiers) = one_specifier l.specifier m.specifier from a a' h h' in
    let i'' : initialized m.first a b' = subst (λ w. initialized m.first w b') (sym ea) i' in
    let ends' : Ends (Forms.locals_tail_form n) to = ends_locals n to ends in
    let others = is_nexts n l.others b to (omega arith) j in
    let eb : b ≡ b' =
    synced_both (Forms.initialized_form n) (Many (next_form n)) (locals_good n) a b b' to
    (is_initial n l.first a b (omega arith) i) others
    (is_initial n m.first a b' (omega arith) i'') (is_nexts n m.others b' to (omega arith) j') ends' in
    let k : initialized m.first a b = subst (λ w. initialized m.first a w) (sym eb) i'' in
    let k' : each next_rule m.others b to = subst (λ w. each next_rule m.others w to) (sym eb) j' in
    let firsts : l.first ≡ m.first = initial_unique n l.first m.first a b (omega arith) (omega arith) i k
    (ends_first (Forms.initialized_form n) (Many (next_form n)) (locals_good n) b to others ends') in
    let rest : l.others ≡ m.others = unique_others n l.others m.others b to (omega arith) (omega arith) j k'
    (begins_not_left (continues (Many (next_form n))) (continues (Forms.initialized_form n)) (classes to) ends') in
    λ z. record { specifier = specifiers z; first = firsts z; others = rest z }

-- locals and simple statements

name_tail_good : (n : ℕ) → IsGood (Forms.name_tail_form n)
name_tail_good n = (simple_good n).0.0.1

-- behind a name no simple statement goes on with stars and a name
starred_or_tail : {A : Type 0} (n : ℕ) (from to end : List Word) → IsForm Forms.declarator_form from to
    → IsForm (Forms.name_tail_form n) from end → A
starred_or_tail {A} zero from to end f g =
    apart_forms Forms.declarator_form (Forms.name_tail_form zero) (search rules) (name_tail_good zero) refl refl refl from to end f g
starred_or_tail {A} (suc n) from to end f g =
    apart_forms Forms.declarator_form (Forms.name_tail_form (suc n)) (search rules) (name_tail_good (suc n)) refl refl refl from to end f g

-- the other simple statements begin with no name
name_or_other : {A : Type 0} (n : ℕ) (alias : Name) (from to end : List Word) → name alias from to
    → IsForm (Forms.other_simple_form n) from end → A
name_or_other {A} zero alias from to end h f =
    apart_forms (AWord Classes.NAME) (Forms.other_simple_form zero) tt (other_good zero) refl refl refl from to end
    (is_name alias from to h) f
name_or_other {A} (suc n) alias from to end h f =
    apart_forms (AWord Classes.NAME) (Forms.other_simple_form (suc n)) tt (other_good (suc n)) refl refl refl from to end
    (is_name alias from to h) f

key_or_simple : {A : Type 0} (n : ℕ) (from to end : List Word) → IsForm Forms.key_specifier_form from to
    → IsForm (Forms.simple_form n) from end → A
key_or_simple {A} n from to end f g =
    apart_forms Forms.key_specifier_form (Forms.simple_form n) (search rules) (simple_good n) refl refl refl from to end f g

typed_or_simple : {A : Type 0} (n : ℕ) (s : Specifier) (d : Declarator) (from mid to end : List Word) → specifier s from mid
    → declarator d mid to → IsForm (Forms.simple_body n) from end → A
typed_or_simple {A} n (Specifier.Int place) d from mid to end h k f =
    key_or_simple n from mid end (is_first (is_word_at place from mid h)) (is_known f)
typed_or_simple {A} n (Specifier.Void place) d from mid to end h k f =
    key_or_simple n from mid end (is_second (is_first (is_word_at place from mid h))) (is_known f)
typed_or_simple {A} n (Specifier.Struct place tag) d from mid to end (a, h, i) k f =
    key_or_simple n from mid end (is_second (is_second (is_both (is_word_at place from a h) (is_name tag a mid i)))) (is_known f)
typed_or_simple {A} n (Specifier.Alias alias) d from mid to end h k f = by_case (either_part f)
  where
    by_case : IsForm (Both (AWord Classes.NAME) (Forms.name_tail_form n)) from end ⊎ IsForm (Forms.other_simple_form n) from end → A
    by_case (inl named) =
        let (a, first, tail) = both_parts named in
        let same : a ≡ mid = synced (AWord Classes.NAME) tt from a mid first (is_name alias from mid h) (ends_word a) (ends_word mid) in
        starred_or_tail n mid to end (is_declarator d mid to k) (subst (λ w. IsForm (Forms.name_tail_form n) w end) same tail)
    by_case (inr other) = name_or_other n alias from mid end h other

-- no words are both locals and a simple statement
pub apart_clauses : {A : Type 0} (n : ℕ) (l : Local) (s : Simple) (from to : List Word) → local_nesting l ≤ n → simple_nesting s ≤ n
    → local l from to → simple s from to → Ends (Forms.clause_form n) to → A
apart_clauses {A} n l s from to fl fs (a, h, (b, i, k)) m ends =
    typed_or_simple n l.specifier l.first.declarator from a i.0 to h i.1 (is_simple s n from to fs m)
