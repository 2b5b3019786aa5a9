-- At most one expression leads from some words to others.
use Rattle.std.proofs.Common.{◌≡◌, ◌⊎◌, inl, inr, ℕ, zero, suc, ◌≤◌, ◌<◌, true, false, List, [], ◌∷◌, ◌++◌, length, refl, sym, ap, ap₂, ◌∙◌}
use Rattle.std.proofs.Common.{subst, arith, rules}
use Rattle.std.specs.Prelude.{Option, Some, None, ◌==◌, if◌then◌else◌}
use Rattle.std.proofs.lemmas.Bool.{eq-eqb}
use Rattle.grammar_laws.specs.Form.{Form, Word as AWord, Nothing, Both, begins_in, is_in, starts, continues, IsGood}
use Rattle.grammar_laws.proofs.Derived.{begins}
use Rattle.grammar_laws.proofs.Classes.{begins_not_left, begins_not_right, begins_without}
use Rattle.c_grammar.specs.declared.tokens.places.Place.{Place}
use Rattle.c_grammar.specs.Classes
use Rattle.c_grammar.specs.Words.{Word, classes}
use Rattle.c_grammar.specs.Forms
use Rattle.c_grammar.specs.Matching.{IsForm}
use Rattle.c_grammar.specs.Trees.{Name, Specifier, Declarator, BinaryOp, PrefixOp, Expr, Links, Args}
use Rattle.c_grammar.specs.Spelling.{Rule, word, word_at, open_paren, name, number, each, specifier, stars, declarator, level_of}
use Rattle.c_grammar.specs.Spelling.{class_of_prefix, size_of, expr_at, call_args, more_args}
use Rattle.c_grammar.specs.Nesting.{nesting, args_nesting}
use Rattle.grammar_laws.proofs.Taken.{took_some}
use Rattle.c_grammar.specs.Readers.{with_members}
use Rattle.c_grammar.proofs.OneWordAhead.{expr_good}
use Rattle.c_grammar.proofs.Parts.{is_word, is_both, is_known}
use Rattle.c_grammar.proofs.Spelled.{Leads, is_name, is_open, is_each, levels_left, is_expr, is_args, is_more_args}
use Rattle.c_grammar.proofs.Synced.{Ends, synced_both, ends_first, fewer, no_more, Unique, unique_each, good_pair, begins_neither}

-- one word of a class leads to one list of words
pub one_word : (class other : ℕ) (from to end : List Word) → word class from to → word other from end → (to ≡ end) × (class ≡ other)
one_word class other [] to end h k = absurd h
one_word class other (w ∷ ws) to end h k = (sym h.1 ∙ k.1, sym h.0 ∙ k.0)

pub one_place : (class : ℕ) (place other : Place) (from to end : List Word) → word_at place class from to → word_at other class from end
    → (to ≡ end) × (place ≡ other)
one_place class place other [] to end h k = absurd h
one_place class place other (w ∷ ws) to end h k = (sym h.2 ∙ k.2, sym h.1 ∙ k.1)

pub one_name : (n m : Name) (from to end : List Word) → name n from to → name m from end → (to ≡ end) × (n ≡ m)
one_name n m [] to end h k = absurd h
one_name n m (w ∷ ws) to end h k =
    let place : n.place ≡ m.place = sym h.1 ∙ k.1 in
    let text : n.text ≡ m.text = sym h.2 ∙ k.2 in
    (sym h.3 ∙ k.3, λ i. record { place = place i; text = text i })

pub one_open : (from to end : List Word) → open_paren from to → open_paren from end → to ≡ end
one_open [] to end (inl h) k = absurd h
one_open [] to end (inr h) k = absurd h
one_open (w ∷ ws) to end (inl h) (inl k) = sym h.1 ∙ k.1
one_open (w ∷ ws) to end (inl h) (inr k) = sym h.1 ∙ k.1
one_open (w ∷ ws) to end (inr h) (inl k) = sym h.1 ∙ k.1
one_open (w ∷ ws) to end (inr h) (inr k) = sym h.1 ∙ k.1

-- words of different classes are different
pub apart : {A : Type 0} (n m : ℕ) (c : ℕ) → (n == m) ≡ false → c ≡ n → c ≡ m → A
apart n m c e f g =
    absurd (let same : n ≡ m = sym f ∙ g in let t : (n == m) ≡ true = eq-eqb n m same in let z : true ≡ false = sym t ∙ e in cc)

pub one_specifier : (s t : Specifier) (from to end : List Word) → specifier s from to → specifier t from end → (to ≡ end) × (s ≡ t)
one_specifier (Specifier.Int p) (Specifier.Int q) from to end h k =
    let (e, f) = one_place Classes.INT p q from to end h k in (e, ap Specifier.Int f)
one_specifier (Specifier.Void p) (Specifier.Void q) from to end h k =
    let (e, f) = one_place Classes.VOID p q from to end h k in (e, ap Specifier.Void f)
one_specifier (Specifier.Struct p n) (Specifier.Struct q m) from to end (a, h, i) (b, k, l) =
    let (e, f) = one_place Classes.STRUCT p q from a b h k in
    let l' : name m a end = subst (λ w. name m w end) (sym e) l in
    let (g, j) = one_name n m a to end i l' in
    (g, ap₂ Specifier.Struct f j)
one_specifier (Specifier.Alias n) (Specifier.Alias m) from to end h k =
    let (e, f) = one_name n m from to end h k in (e, ap Specifier.Alias f)
one_specifier (Specifier.Int p) (Specifier.Void q) (w ∷ ws) to end h k = apart 5 6 w.class refl h.0 k.0
one_specifier (Specifier.Int p) (Specifier.Struct q m) (w ∷ ws) to end h (b, k, l) = apart 5 7 w.class refl h.0 k.0
one_specifier (Specifier.Int p) (Specifier.Alias m) (w ∷ ws) to end h k = apart 5 1 w.class refl h.0 k.0
one_specifier (Specifier.Void p) (Specifier.Int q) (w ∷ ws) to end h k = apart 6 5 w.class refl h.0 k.0
one_specifier (Specifier.Void p) (Specifier.Struct q m) (w ∷ ws) to end h (b, k, l) = apart 6 7 w.class refl h.0 k.0
one_specifier (Specifier.Void p) (Specifier.Alias m) (w ∷ ws) to end h k = apart 6 1 w.class refl h.0 k.0
one_specifier (Specifier.Struct p n) (Specifier.Int q) (w ∷ ws) to end (a, h, i) k = apart 7 5 w.class refl h.0 k.0
one_specifier (Specifier.Struct p n) (Specifier.Void q) (w ∷ ws) to end (a, h, i) k = apart 7 6 w.class refl h.0 k.0
one_specifier (Specifier.Struct p n) (Specifier.Alias m) (w ∷ ws) to end (a, h, i) k = apart 7 1 w.class refl h.0 k.0
one_specifier (Specifier.Alias n) (Specifier.Int q) (w ∷ ws) to end h k = apart 1 5 w.class refl h.0 k.0
one_specifier (Specifier.Alias n) (Specifier.Void q) (w ∷ ws) to end h k = apart 1 6 w.class refl h.0 k.0
one_specifier (Specifier.Alias n) (Specifier.Struct q m) (w ∷ ws) to end h (b, k, l) = apart 1 7 w.class refl h.0 k.0
one_specifier (Specifier.Int p) (Specifier.Void q) [] to end h k = absurd h
one_specifier (Specifier.Int p) (Specifier.Struct q m) [] to end h k = absurd h
one_specifier (Specifier.Int p) (Specifier.Alias m) [] to end h k = absurd h
one_specifier (Specifier.Void p) (Specifier.Int q) [] to end h k = absurd h
one_specifier (Specifier.Void p) (Specifier.Struct q m) [] to end h k = absurd h
one_specifier (Specifier.Void p) (Specifier.Alias m) [] to end h k = absurd h
one_specifier (Specifier.Struct p n) (Specifier.Int q) [] to end h k = absurd k
one_specifier (Specifier.Struct p n) (Specifier.Void q) [] to end h k = absurd k
one_specifier (Specifier.Struct p n) (Specifier.Alias m) [] to end h k = absurd k
one_specifier (Specifier.Alias n) (Specifier.Int q) [] to end h k = absurd h
one_specifier (Specifier.Alias n) (Specifier.Void q) [] to end h k = absurd h
one_specifier (Specifier.Alias n) (Specifier.Struct q m) [] to end h k = absurd h

-- stars and a name
one_starred : (count many : ℕ) (n m : Name) (from a b to end : List Word) → stars count from a → name n a to → stars many from b
    → name m b end → (to ≡ end) × ((count ≡ many) × (n ≡ m))
one_starred zero zero n m from a b to end h i k l =
    let i' : name n from to = subst (λ w. name n w to) (sym h) i in
    let l' : name m from end = subst (λ w. name m w end) (sym k) l in
    let (e, f) = one_name n m from to end i' l' in (e, (refl, f))
one_starred (suc count) (suc many) n m from a b to end (x, s, h) i (y, t, k) l =
    let same : y ≡ x = sym (one_word Classes.STAR Classes.STAR from x y s t).0 in
    let k' : stars many x b = subst (λ w. stars many w b) same k in
    let (e, (f, g)) = one_starred count many n m x a b to end h i k' l in (e, (ap suc f, g))
one_starred zero (suc many) n m [] a b to end h i (y, t, k) l = absurd t
one_starred zero (suc many) n m (w ∷ ws) a b to end h i (y, t, k) l =
    let i' : name n (w ∷ ws) to = subst (λ v. name n v to) (sym h) i in apart 1 42 w.class refl i'.0 t.0
one_starred (suc count) zero n m [] a b to end (x, s, h) i k l = absurd s
one_starred (suc count) zero n m (w ∷ ws) a b to end (x, s, h) i k l =
    let l' : name m (w ∷ ws) end = subst (λ v. name m v end) (sym k) l in apart 42 1 w.class refl s.0 l'.0

pub one_declarator : (d e : Declarator) (from to end : List Word) → declarator d from to → declarator e from end → (to ≡ end) × (d ≡ e)
one_declarator d e from to end (a, h, i) (b, k, l) =
    let (f, (g, j)) = one_starred d.stars e.stars d.name e.name from a b to end h i k l in
    (f, λ i. record { stars = g i; name = j i })

-- nothing continues a form that ends with a word
pub ends_word : (words : List Word) → begins_in [] (classes words) ≡ false
ends_word [] = refl
ends_word (first ∷ others) = refl

one_size : (s t : Specifier) (from to end : List Word) → size_of s from to → size_of t from end → (to ≡ end) × (s ≡ t)
one_size s t from to end (a, h1, (b, h2, (c, h3, (d, h4, (e, h5, h6))))) (a', k1, (b', k2, (c', k3, (d', k4, (e', k5, k6))))) =
    let ea : a' ≡ a = sym (one_open from a a' h1 k1) in
    let k2' : word Classes.SIZEOF a b' = subst (λ w. word Classes.SIZEOF w b') ea k2 in
    let eb : b' ≡ b = sym (one_word Classes.SIZEOF Classes.SIZEOF a b b' h2 k2').0 in
    let k3' : open_paren b c' = subst (λ w. open_paren w c') eb k3 in
    let ec : c' ≡ c = sym (one_open b c c' h3 k3') in
    let k4' : specifier t c d' = subst (λ w. specifier t w d') ec k4 in
    let (ed, same) = one_specifier s t c d d' h4 k4' in
    let k5' : word Classes.CLOSE d e' = subst (λ w. word Classes.CLOSE w e') (sym ed) k5 in
    let ee : e' ≡ e = sym (one_word Classes.CLOSE Classes.CLOSE d e e' h5 k5').0 in
    let k6' : word Classes.CLOSE e end = subst (λ w. word Classes.CLOSE w end) ee k6 in
    ((one_word Classes.CLOSE Classes.CLOSE e to end h6 k6').0, same)

-- at most one expression of a level leads from some words to others, within so many levels of nesting
abbrev pub UniqueAt : ℕ → ℕ → Form → Type 0
UniqueAt level n form =
    (e f : Expr) (from to : List Word) → nesting e ≤ n → nesting f ≤ n → expr_at level e from to → expr_at level f from to → Ends form to
    → e ≡ f

abbrev pub UniqueBelow : ℕ → Type 0
UniqueBelow zero = Unit {0}
UniqueBelow (suc n) = UniqueAt 0 n (Forms.expr_form n)

pub whole_form : (e : Expr) (n : ℕ) (from to : List Word) → nesting e ≤ n → expr_at 0 e from to → IsForm (Forms.expr_form n) from to
whole_form e n from to fits h = is_known (is_expr e 0 8 n from to refl fits h)

comma_good : (n : ℕ) → IsGood (Forms.more_of (Forms.expr_form n))
comma_good n = let e = expr_good n in search e

args_good : (n : ℕ) → IsGood (Both (Forms.expr_form n) (Forms.more_of (Forms.expr_form n)))
args_good n = let e = expr_good n in search e

abbrev comma_form : ℕ → Form
comma_form n = Both (AWord Classes.COMMA) (Forms.expr_form n)

comma_lead : (e : Expr) (n : ℕ) (from a b : List Word) → nesting e ≤ n → word Classes.COMMA from a → expr_at 0 e a b
    → IsForm (comma_form n) from b
comma_lead e n from a b fits h k = is_both (is_word from a h) (whole_form e n a b fits k)

comma_ends : (n : ℕ) (to : List Word) → Ends (Forms.more_of (Forms.expr_form n)) to
    → Ends (Both (comma_form n) (Forms.more_of (Forms.expr_form n))) to
comma_ends n to ends =
    begins_neither (starts (comma_form n) ++ continues (comma_form n)) (continues (comma_form n)) (classes to) ends
    (begins_not_right (starts (comma_form n)) (continues (comma_form n)) (classes to) ends)

unique_more : (n : ℕ) → UniqueAt 0 n (Forms.expr_form n) → (x y : Args) (from to : List Word) → args_nesting x ≤ n → args_nesting y ≤ n
    → more_args x from to → more_args y from to → Ends (Forms.more_of (Forms.expr_form n)) to → x ≡ y
unique_more n unique Args.NoArgs Args.NoArgs from to fx fy h k ends = refl
unique_more n unique Args.NoArgs (Args.Arg e y) from to fx fy h (a, k, (b, l, m)) ends =
    let f = fewer (comma_form n) (comma_good n).0 refl from b (comma_lead e n from a b (omega arith) k l) in
    let g = no_more (Forms.more_of (Forms.expr_form n)) b to (is_more_args y n b to (omega arith) m) in
    let s : length from ≡ length to = ap length h in absurd (omega arith)
unique_more n unique (Args.Arg e x) Args.NoArgs from to fx fy (a, k, (b, l, m)) h ends =
    let f = fewer (comma_form n) (comma_good n).0 refl from b (comma_lead e n from a b (omega arith) k l) in
    let g = no_more (Forms.more_of (Forms.expr_form n)) b to (is_more_args x n b to (omega arith) m) in
    let s : length from ≡ length to = ap length h in absurd (omega arith)
unique_more n unique (Args.Arg e x) (Args.Arg f y) from to fx fy (a, h, (b, i, j)) (c, k, (d, l, m)) ends =
    let ea : c ≡ a = sym (one_word Classes.COMMA Classes.COMMA from a c h k).0 in
    let l' : expr_at 0 f a d = subst (λ w. expr_at 0 f w d) ea l in
    let pair = good_pair (comma_form n) (comma_good n) in
    let ends' = comma_ends n to ends in
    let jx = is_more_args x n b to (omega arith) j in
    let eb : b ≡ d =
    synced_both (comma_form n) (Forms.more_of (Forms.expr_form n)) pair from b d to (comma_lead e n from a b (omega arith) h i) jx
    (comma_lead f n from a d (omega arith) h l') (is_more_args y n d to (omega arith) m) ends' in
    let l'' : expr_at 0 f a b = subst (λ w. expr_at 0 f a w) (sym eb) l' in
    let m' : more_args y b to = subst (λ w. more_args y w to) (sym eb) m in
    let ends_e : Ends (Forms.expr_form n) b =
    begins_not_left' n b (ends_first (comma_form n) (Forms.more_of (Forms.expr_form n)) pair b to jx ends') in
    ap₂ Args.Arg (unique e f a b (omega arith) (omega arith) i l'' ends_e)
    (unique_more n unique x y b to (omega arith) (omega arith) j m' ends)
  where
    begins_not_left' : (n : ℕ) (w : List Word) → Ends (comma_form n) w → Ends (Forms.expr_form n) w
    begins_not_left' n w e = begins_not_left (continues (Forms.expr_form n)) [] (classes w) e

unique_args : (n : ℕ) → UniqueAt 0 n (Forms.expr_form n) → (x y : Args) (from to : List Word) → args_nesting x ≤ n → args_nesting y ≤ n
    → call_args x from to → call_args y from to
    → Ends (Both (Forms.expr_form n) (Forms.more_of (Forms.expr_form n))) to → x ≡ y
unique_args n unique Args.NoArgs Args.NoArgs from to fx fy h k ends = refl
unique_args n unique Args.NoArgs (Args.Arg e y) from to fx fy h (b, l, m) ends =
    let f = fewer (Forms.expr_form n) (expr_good n) refl from b (whole_form e n from b (omega arith) l) in
    let g = no_more (Forms.more_of (Forms.expr_form n)) b to (is_more_args y n b to (omega arith) m) in
    let s : length from ≡ length to = ap length h in absurd (omega arith)
unique_args n unique (Args.Arg e x) Args.NoArgs from to fx fy (b, l, m) h ends =
    let f = fewer (Forms.expr_form n) (expr_good n) refl from b (whole_form e n from b (omega arith) l) in
    let g = no_more (Forms.more_of (Forms.expr_form n)) b to (is_more_args x n b to (omega arith) m) in
    let s : length from ≡ length to = ap length h in absurd (omega arith)
unique_args n unique (Args.Arg e x) (Args.Arg f y) from to fx fy (b, i, j) (d, l, m) ends =
    let jx = is_more_args x n b to (omega arith) j in
    let eb : b ≡ d =
    synced_both (Forms.expr_form n) (Forms.more_of (Forms.expr_form n)) (args_good n) from b d to
    (whole_form e n from b (omega arith) i) jx (whole_form f n from d (omega arith) l) (is_more_args y n d to (omega arith) m) ends in
    let l' : expr_at 0 f from b = subst (λ w. expr_at 0 f from w) (sym eb) l in
    let m' : more_args y b to = subst (λ w. more_args y w to) (sym eb) m in
    let ends_e : Ends (Forms.expr_form n) b =
    ends_first (Forms.expr_form n) (Forms.more_of (Forms.expr_form n)) (args_good n) b to jx ends in
    let ends_m : Ends (Forms.more_of (Forms.expr_form n)) to =
    begins_not_left (continues (Forms.more_of (Forms.expr_form n))) (continues (Forms.expr_form n)) (classes to) ends in
    ap₂ Args.Arg (unique e f from b (omega arith) (omega arith) i l' ends_e)
    (unique_more n unique x y b to (omega arith) (omega arith) j m' ends_m)

-- primary expressions

-- what a primary expression begins with; the others begin with none of these
data Shape : Type 0 where
  Named Numbered Nulled Parenthesised Allocated Chained Prefixed Selected Unshaped : Shape

abbrev shape_at : ℕ → Shape
shape_at class =
    if class == 1 then Named else (if class == 2 then Numbered else (if class == 18 then Nulled else (if class == 3 then Parenthesised
    else (if class == 19 then Allocated else (if class == 4 then Allocated else Unshaped)))))

abbrev shape_of : Expr → Shape
shape_of (Expr.Variable v) = Named
shape_of (Expr.Call callee args) = Named
shape_of (Expr.Number place value) = Numbered
shape_of (Expr.Null place) = Nulled
shape_of (Expr.Paren place inner) = Parenthesised
shape_of (Expr.Malloc place as_type allocated) = Allocated
shape_of (Expr.Chain first others) = Chained
shape_of (Expr.Prefix place op inner) = Prefixed
shape_of (Expr.Members base first others) = Selected

low : (op : BinaryOp) → level_of op ≤ 5
low op = let (left, five) = levels_left op in omega arith

begins_primary : (e : Expr) (w : Word) (ws to : List Word) → expr_at 8 e (w ∷ ws) to → shape_at w.class ≡ shape_of e
begins_primary (Expr.Variable v) w ws to h = ap shape_at h.0
begins_primary (Expr.Call callee args) w ws to (a, h, k) = ap shape_at h.0
begins_primary (Expr.Number place value) w ws to h = ap shape_at h.0
begins_primary (Expr.Null place) w ws to h = ap shape_at h.0
begins_primary (Expr.Paren place inner) w ws to (a, h, k) = ap shape_at h.0
begins_primary (Expr.Malloc place None allocated) w ws to (a, h, k) = ap shape_at h.0
begins_primary (Expr.Malloc place (Some as_type) allocated) w ws to (a, (b, h, k), l) = ap shape_at h.0
begins_primary (Expr.Chain first Links.NoLinks) w ws to h = absurd h
begins_primary (Expr.Chain first (Links.Link op second others)) w ws to h = let l = low op in absurd (omega arith)
begins_primary (Expr.Prefix place op inner) w ws to h = absurd (omega arith)
begins_primary (Expr.Members base first others) w ws to h = absurd (omega arith)

some_primary : (e : Expr) (to : List Word) → expr_at 8 e [] to → ⊥
some_primary (Expr.Variable v) to h = h
some_primary (Expr.Call callee args) to (a, h, k) = h
some_primary (Expr.Number place value) to h = h
some_primary (Expr.Null place) to h = h
some_primary (Expr.Paren place inner) to (a, h, k) = h
some_primary (Expr.Malloc place None allocated) to (a, h, k) = h
some_primary (Expr.Malloc place (Some as_type) allocated) to (a, (b, h, k), l) = h
some_primary (Expr.Chain first Links.NoLinks) to h = h
some_primary (Expr.Chain first (Links.Link op second others)) to h = let l = low op in absurd (omega arith)
some_primary (Expr.Prefix place op inner) to h = absurd (omega arith)
some_primary (Expr.Members base first others) to h = absurd (omega arith)

pub paren_good : (n : ℕ) → IsGood (Both (Forms.expr_form n) (AWord Classes.CLOSE))
paren_good n = let e = expr_good n in search e

call_good : (n : ℕ) → IsGood (Both (Forms.optional (Both (Forms.expr_form n) (Forms.more_of (Forms.expr_form n)))) (AWord Classes.CLOSE))
call_good n = let e = expr_good n in search e

-- a variable and a call lead to different words
variable_or_call : {A : Type 0} (n : ℕ) (v callee : Name) (args : Args) (w : Word) (ws to : List Word) → args_nesting args ≤ n
    → name v (w ∷ ws) to → expr_at 8 (Expr.Call callee args) (w ∷ ws) to → A
variable_or_call n v callee args w ws to fits h (a, k, (b, l, (c, m, o))) =
    let e : length ws ≡ length to = ap length h.3 in
    let f : length ws ≡ length a = ap length k.3 in
    let g : length b < length a = fewer Forms.open_form (search rules) refl a b (is_open a b l) in
    let i = no_more (Forms.optional (Both (Forms.expr_form n) (Forms.more_of (Forms.expr_form n)))) b c (is_args args n b c fits m) in
    let j : length to < length c = fewer (AWord Classes.CLOSE) tt refl c to (is_word c to o) in
    absurd (omega arith)

unique_paren : (n : ℕ) → UniqueAt 0 n (Forms.expr_form n) → (p q : Place) (x y : Expr) (from to : List Word) → nesting x ≤ n → nesting y ≤ n
    → expr_at 8 (Expr.Paren p x) from to → expr_at 8 (Expr.Paren q y) from to → Expr.Paren p x ≡ Expr.Paren q y
unique_paren n unique p q x y from to fx fy (a, h, (b, i, j)) (c, k, (d, l, m)) =
    let (ea, place) = one_place Classes.OPEN p q from a c h k in
    let l' : expr_at 0 y a d = subst (λ w. expr_at 0 y w d) (sym ea) l in
    let close : IsForm (AWord Classes.CLOSE) b to = is_word b to j in
    let eb : b ≡ d =
    synced_both (Forms.expr_form n) (AWord Classes.CLOSE) (paren_good n) a b d to (whole_form x n a b fx i) close
    (whole_form y n a d fy l') (is_word d to m) (ends_word to) in
    let l'' : expr_at 0 y a b = subst (λ w. expr_at 0 y a w) (sym eb) l' in
    ap₂ Expr.Paren place
    (unique x y a b fx fy i l'' (ends_first (Forms.expr_form n) (AWord Classes.CLOSE) (paren_good n) b to close (ends_word to)))

pub unique_call : (n : ℕ) → UniqueAt 0 n (Forms.expr_form n) → (f g : Name) (x y : Args) (from to : List Word) → args_nesting x ≤ n
    → args_nesting y ≤ n
    → expr_at 8 (Expr.Call f x) from to → expr_at 8 (Expr.Call g y) from to → (f ≡ g) × (x ≡ y)
unique_call n unique f g x y from to fx fy (a, h, (b, i, (c, j, close))) (a', k, (b', l, (c', m, close'))) =
    let (ea, same) = one_name f g from a a' h k in
    let l' : open_paren a b' = subst (λ w. open_paren w b') (sym ea) l in
    let eb : b ≡ b' = one_open a b b' i l' in
    let m' : call_args y b c' = subst (λ w. call_args y w c') (sym eb) m in
    let form : Form = Forms.optional (Both (Forms.expr_form n) (Forms.more_of (Forms.expr_form n))) in
    let end : IsForm (AWord Classes.CLOSE) c to = is_word c to close in
    let ec : c ≡ c' =
    synced_both form (AWord Classes.CLOSE) (call_good n) b c c' to (is_args x n b c fx j) end (is_args y n b c' fy m')
    (is_word c' to close') (ends_word to) in
    let m'' : call_args y b c = subst (λ w. call_args y b w) (sym ec) m' in
    let ends : Ends form c = ends_first form (AWord Classes.CLOSE) (call_good n) c to end (ends_word to) in
    let ends' : Ends (Both (Forms.expr_form n) (Forms.more_of (Forms.expr_form n))) c =
    begins_not_left (continues (Both (Forms.expr_form n) (Forms.more_of (Forms.expr_form n)))) [] (classes c)
    (begins_not_left (continues (Both (Forms.expr_form n) (Forms.more_of (Forms.expr_form n))) ++ [])
    (starts (Both (Forms.expr_form n) (Forms.more_of (Forms.expr_form n)))) (classes c) ends) in
    (same, unique_args n unique x y b c fx fy j m'' ends')

unique_cast : (p q : Place) (s t u v : Specifier) (from to : List Word) → expr_at 8 (Expr.Malloc p (Some s) u) from to
    → expr_at 8 (Expr.Malloc q (Some t) v) from to → Expr.Malloc p (Some s) u ≡ Expr.Malloc q (Some t) v
unique_cast p q s t u v from to (d, (a, h1, (b, h2, (c, h3, h4))), (e, h5, h6)) (d', (a', k1, (b', k2, (c', k3, k4))), (e', k5, k6)) =
    let (ea, place) = one_place Classes.CAST p q from a a' h1 k1 in
    let k2' : specifier t a b' = subst (λ w. specifier t w b') (sym ea) k2 in
    let (eb, cast_same) = one_specifier s t a b b' h2 k2' in
    let k3' : word Classes.STAR b c' = subst (λ w. word Classes.STAR w c') (sym eb) k3 in
    let ec : c ≡ c' = (one_word Classes.STAR Classes.STAR b c c' h3 k3').0 in
    let k4' : word Classes.CLOSE c d' = subst (λ w. word Classes.CLOSE w d') (sym ec) k4 in
    let ed : d ≡ d' = (one_word Classes.CLOSE Classes.CLOSE c d d' h4 k4').0 in
    let k5' : word Classes.MALLOC d e' = subst (λ w. word Classes.MALLOC w e') (sym ed) k5 in
    let ee : e ≡ e' = (one_word Classes.MALLOC Classes.MALLOC d e e' h5 k5').0 in
    let k6' : size_of v e to = subst (λ w. size_of v w to) (sym ee) k6 in
    let allocated = (one_size u v e to to h6 k6').1 in
    ap (λ r. Expr.Malloc r (Some s) u) place ∙ ap (λ r. Expr.Malloc q (Some r) u) cast_same ∙ ap (Expr.Malloc q (Some t)) allocated

unique_malloc : (p q : Place) (u v : Specifier) (from to : List Word) → expr_at 8 (Expr.Malloc p None u) from to
    → expr_at 8 (Expr.Malloc q None v) from to → Expr.Malloc p None u ≡ Expr.Malloc q None v
unique_malloc p q u v from to (a, h, i) (b, k, l) =
    let (ea, place) = one_place Classes.MALLOC p q from a b h k in
    let l' : size_of v a to = subst (λ w. size_of v w to) (sym ea) l in
    ap (λ r. Expr.Malloc r None u) place ∙ ap (Expr.Malloc q None) (one_size u v a to to i l').1

unique_number : (p q : Place) (x y : ℕ) (w : Word) (ws to : List Word) → number p x (w ∷ ws) to → number q y (w ∷ ws) to
    → Expr.Number p x ≡ Expr.Number q y
unique_number p q x y w ws to h k = ap₂ Expr.Number (sym h.1 ∙ k.1) (h.2 ∙ sym k.2)

-- what is known of two primary expressions that lead from some words to the same
record BothPrimary (n : ℕ) (e f : Expr) (w : Word) (ws to : List Word) : Type 0 where
  below : UniqueBelow n
  fits : nesting e ≤ n
  fits_other : nesting f ≤ n
  one : expr_at 8 e (w ∷ ws) to
  other : expr_at 8 f (w ∷ ws) to
  same : shape_of e ≡ shape_of f

unique_named : (n : ℕ) (v : Name) (f : Expr) (w : Word) (ws to : List Word) → BothPrimary n (Expr.Variable v) f w ws to
    → Expr.Variable v ≡ f
unique_named n v (Expr.Variable u) w ws to b = ap Expr.Variable (one_name v u (w ∷ ws) to to b.one b.other).1
unique_named zero v (Expr.Call callee args) w ws to b = let fits : suc (args_nesting args) ≤ 0 = b.fits_other in absurd (omega arith)
unique_named (suc n) v (Expr.Call callee args) w ws to b =
    let fits : suc (args_nesting args) ≤ suc n = b.fits_other in variable_or_call n v callee args w ws to (omega arith) b.one b.other
unique_named n v _ w ws to b = let s = b.same in absurd (cc)

unique_called : (n : ℕ) (callee : Name) (args : Args) (f : Expr) (w : Word) (ws to : List Word)
    → BothPrimary (suc n) (Expr.Call callee args) f w ws to → Expr.Call callee args ≡ f
unique_called n callee args (Expr.Variable u) w ws to b =
    let fits : suc (args_nesting args) ≤ suc n = b.fits in variable_or_call n u callee args w ws to (omega arith) b.other b.one
unique_called n callee args (Expr.Call other others) w ws to b =
    let fits : suc (args_nesting args) ≤ suc n = b.fits in
    let fits_other : suc (args_nesting others) ≤ suc n = b.fits_other in
    let (x, y) = unique_call n b.below callee other args others (w ∷ ws) to (omega arith) (omega arith) b.one b.other in ap₂ Expr.Call x y
unique_called n callee args _ w ws to b = let s = b.same in absurd (cc)

unique_numbered : (n : ℕ) (p : Place) (x : ℕ) (f : Expr) (w : Word) (ws to : List Word) → BothPrimary n (Expr.Number p x) f w ws to
    → Expr.Number p x ≡ f
unique_numbered n p x (Expr.Number q y) w ws to b = unique_number p q x y w ws to b.one b.other
unique_numbered n p x _ w ws to b = let s = b.same in absurd (cc)

unique_null : (n : ℕ) (p : Place) (f : Expr) (w : Word) (ws to : List Word) → BothPrimary n (Expr.Null p) f w ws to → Expr.Null p ≡ f
unique_null n p (Expr.Null q) w ws to b = ap Expr.Null (one_place Classes.NULL p q (w ∷ ws) to to b.one b.other).1
unique_null n p _ w ws to b = let s = b.same in absurd (cc)

unique_parenthesised : (n : ℕ) (p : Place) (x f : Expr) (w : Word) (ws to : List Word) → BothPrimary (suc n) (Expr.Paren p x) f w ws to
    → Expr.Paren p x ≡ f
unique_parenthesised n p x (Expr.Paren q y) w ws to b =
    let fits : suc (nesting x) ≤ suc n = b.fits in
    let fits_other : suc (nesting y) ≤ suc n = b.fits_other in
    unique_paren n b.below p q x y (w ∷ ws) to (omega arith) (omega arith) b.one b.other
unique_parenthesised n p x _ w ws to b = let s = b.same in absurd (cc)

one_malloc : (p q : Place) (s t : Option Specifier) (u v : Specifier) (w : Word) (ws to : List Word)
    → expr_at 8 (Expr.Malloc p s u) (w ∷ ws) to → expr_at 8 (Expr.Malloc q t v) (w ∷ ws) to → Expr.Malloc p s u ≡ Expr.Malloc q t v
one_malloc p q None None u v w ws to h k = unique_malloc p q u v (w ∷ ws) to h k
one_malloc p q (Some s) (Some t) u v w ws to h k = unique_cast p q s t u v (w ∷ ws) to h k
one_malloc p q None (Some t) u v w ws to (a, h, i) (d, (b, k, l), m) = apart 19 4 w.class refl h.0 k.0
one_malloc p q (Some s) None u v w ws to (d, (b, k, l), m) (a, h, i) = apart 4 19 w.class refl k.0 h.0

unique_allocated : (n : ℕ) (p : Place) (s : Option Specifier) (u : Specifier) (f : Expr) (w : Word) (ws to : List Word)
    → BothPrimary n (Expr.Malloc p s u) f w ws to → Expr.Malloc p s u ≡ f
unique_allocated n p s u (Expr.Malloc q t v) w ws to b = one_malloc p q s t u v w ws to b.one b.other
unique_allocated n p s u _ w ws to b = let e = b.same in absurd (cc)

unique_primary : (n : ℕ) (e f : Expr) (w : Word) (ws to : List Word) → BothPrimary n e f w ws to → e ≡ f
unique_primary n (Expr.Variable v) f w ws to b = unique_named n v f w ws to b
unique_primary zero (Expr.Call callee args) f w ws to b = let fits : suc (args_nesting args) ≤ 0 = b.fits in absurd (omega arith)
unique_primary (suc n) (Expr.Call callee args) f w ws to b = unique_called n callee args f w ws to b
unique_primary n (Expr.Number p x) f w ws to b = unique_numbered n p x f w ws to b
unique_primary n (Expr.Null p) f w ws to b = unique_null n p f w ws to b
unique_primary zero (Expr.Paren p x) f w ws to b = let fits : suc (nesting x) ≤ 0 = b.fits in absurd (omega arith)
unique_primary (suc n) (Expr.Paren p x) f w ws to b = unique_parenthesised n p x f w ws to b
unique_primary n (Expr.Malloc p s u) f w ws to b = unique_allocated n p s u f w ws to b
unique_primary n (Expr.Chain first Links.NoLinks) f w ws to b = absurd b.one
unique_primary n (Expr.Chain first (Links.Link op second others)) f w ws to b =
    let l = low op in let least : 8 ≤ level_of op = b.one.0 in absurd (omega arith)
unique_primary n (Expr.Prefix place op inner) f w ws to b = let least : 8 ≤ 6 = b.one.0 in absurd (omega arith)
unique_primary n (Expr.Members base first others) f w ws to b = let least : 8 ≤ 7 = b.one.0 in absurd (omega arith)

primary_unique : (n : ℕ) → UniqueBelow n → (e f : Expr) (from to : List Word) → nesting e ≤ n → nesting f ≤ n → expr_at 8 e from to
    → expr_at 8 f from to → e ≡ f
primary_unique n below e f [] to fe ff h k = absurd (some_primary e to h)
primary_unique n below e f (w ∷ ws) to fe ff h k =
    unique_primary n e f w ws to
    (record {
      below = below;
      fits = fe;
      fits_other = ff;
      one = h;
      other = k;
      same = sym (begins_primary e w ws to h) ∙ begins_primary f w ws to k;
    })

-- expressions with members

abbrev member_rule : Name → Rule
member_rule field = λ from to. (mid : List Word) × word Classes.ARROW from mid × name field mid to

is_member : (field : Name) → Leads member_rule (Both (AWord Classes.ARROW) (AWord Classes.NAME)) field
is_member field from to (mid, h, k) = is_both (is_word from mid h) (is_name field mid to k)

member_unique : Unique member_rule (Both (AWord Classes.ARROW) (AWord Classes.NAME))
member_unique a b from to (mid, h, k) (end, i, l) ends =
    let e : end ≡ mid = sym (one_word Classes.ARROW Classes.ARROW from mid end h i).0 in
    let l' : name b mid to = subst (λ w. name b w to) e l in
    (one_name a b mid to to k l').1

-- the base and the members of an expression
record Parted (n : ℕ) (e : Expr) (from to : List Word) : Type 0 where
  base : Expr
  fields : List Name
  mid : List Word
  spells : expr_at 8 base from mid
  members : each member_rule fields mid to
  fits : nesting base ≤ n
  is : e ≡ with_members base fields

primary_parted : (n : ℕ) (e : Expr) (from to : List Word) → expr_at 8 e from to → nesting e ≤ n → Parted n e from to
primary_parted n e from to h fits = record { base = e; fields = []; mid = to; spells = h; members = refl; fits = fits; is = refl }

parted : (n : ℕ) (e : Expr) (from to : List Word) → nesting e ≤ n → expr_at 7 e from to → Parted n e from to
parted n (Expr.Members base first others) from to fits (least, (a, h, (b, i, (c, j, k)))) =
    record { base = base; fields = first ∷ others; mid = a; spells = h; members = (c, (b, i, j), k); fits = fits; is = refl }
parted n (Expr.Variable v) from to fits h = primary_parted n (Expr.Variable v) from to h fits
parted n (Expr.Number p x) from to fits h = primary_parted n (Expr.Number p x) from to h fits
parted n (Expr.Null p) from to fits h = primary_parted n (Expr.Null p) from to h fits
parted n (Expr.Paren p x) from to fits h = primary_parted n (Expr.Paren p x) from to h fits
parted n (Expr.Call callee args) from to fits h = primary_parted n (Expr.Call callee args) from to h fits
parted n (Expr.Malloc p s t) from to fits h = primary_parted n (Expr.Malloc p s t) from to h fits
parted n (Expr.Prefix p op inner) from to fits h = absurd (omega arith)
parted n (Expr.Chain first Links.NoLinks) from to fits h = absurd h
parted n (Expr.Chain first (Links.Link op second others)) from to fits h = let l = low op in absurd (omega arith)

pub postfix_good : (n : ℕ) → IsGood (Forms.postfix_form n (Forms.expr_below n))
postfix_good zero = search rules
postfix_good (suc n) = let e = expr_good n in search e

pub unique_postfix : (n : ℕ) → UniqueBelow n → UniqueAt 7 n (Forms.postfix_form n (Forms.expr_below n))
unique_postfix n below e f from to fe ff h k ends =
    let p = parted n e from to fe h in
    let q = parted n f from to ff k in
    let members = is_each member_rule (Both (AWord Classes.ARROW) (AWord Classes.NAME)) is_member in
    let good = postfix_good n in
    let same : p.mid ≡ q.mid = synced_both (Forms.primary_form n (Forms.expr_below n)) Forms.members_form good from p.mid q.mid to
    (is_expr p.base 8 0 n from p.mid refl p.fits p.spells) (members p.fields p.mid to p.members)
    (is_expr q.base 8 0 n from q.mid refl q.fits q.spells) (members q.fields q.mid to q.members) ends in
    let spells : expr_at 8 q.base from p.mid = subst (λ w. expr_at 8 q.base from w) (sym same) q.spells in
    let others : each member_rule q.fields p.mid to = subst (λ w. each member_rule q.fields w to) (sym same) q.members in
    let base : p.base ≡ q.base = primary_unique n below p.base q.base from p.mid p.fits q.fits p.spells spells in
    let ends_members : Ends Forms.members_form to =
    begins_not_left (continues Forms.members_form) (continues (Forms.primary_form n (Forms.expr_below n))) (classes to) ends in
    let fields : p.fields
    ≡ q.fields =
    unique_each member_rule
    (Both (AWord Classes.ARROW)
    (AWord Classes.NAME)) good.1 is_member member_unique p.fields q.fields p.mid to p.members others ends_members in
    p.is ∙ ap₂ with_members base fields ∙ sym q.is

-- expressions with a prefix

abbrev op_of_prefix : ℕ → PrefixOp
op_of_prefix class = if class == 41 then PrefixOp.Negate else PrefixOp.Not

same_prefix : (op other : PrefixOp) → class_of_prefix op ≡ class_of_prefix other → op ≡ other
same_prefix op other e = sym (back op) ∙ ap op_of_prefix e ∙ back other
  where
    back : (o : PrefixOp) → op_of_prefix (class_of_prefix o) ≡ o
    back PrefixOp.Negate = refl
    back PrefixOp.Not = refl

-- an expression without a prefix, at the level of those with one, is of the tighter level
no_prefix : (e : Expr) (from to : List Word) → expr_at 6 e from to
    → ((p : Place) × (op : PrefixOp) × (inner : Expr) × (e ≡ Expr.Prefix p op inner)
    × ((a : List Word) × word_at p (class_of_prefix op) from a × expr_at 6 inner a to)) ⊎ expr_at 7 e from to
no_prefix (Expr.Prefix p op inner) from to (least, h) = inl (p, op, inner, refl, h)
no_prefix (Expr.Members base first others) from to h = inr (omega arith, h.1)
no_prefix (Expr.Variable v) from to h = inr h
no_prefix (Expr.Number p x) from to h = inr h
no_prefix (Expr.Null p) from to h = inr h
no_prefix (Expr.Paren p x) from to h = inr h
no_prefix (Expr.Call callee args) from to h = inr h
no_prefix (Expr.Malloc p s t) from to h = inr h
no_prefix (Expr.Chain first Links.NoLinks) from to h = absurd h
no_prefix (Expr.Chain first (Links.Link op second others)) from to h = let l = low op in absurd (omega arith)

-- no expression without a prefix begins with one
not_prefixed : {A : Type 0} (n : ℕ) (op : PrefixOp) (p : Place) (f : Expr) (from a to : List Word) → nesting f ≤ n
    → word_at p (class_of_prefix op) from a → expr_at 7 f from to → A
not_prefixed {A} n op p f [] a to fits sign h = absurd sign
not_prefixed {A} n op p f (w ∷ ws) a to fits sign h =
    let g : IsForm (Forms.postfix_form n (Forms.expr_below n)) (w ∷ ws) to = is_expr f 7 1 n (w ∷ ws) to refl fits h in
    by_front g.front g.splits g.derives
  where
    starts_of : (m : ℕ) → is_in (class_of_prefix op) (starts (Forms.postfix_form m (Forms.expr_below m))) ≡ false
    starts_of zero = by_op op
      where
        by_op : (o : PrefixOp) → is_in (class_of_prefix o) (starts (Forms.postfix_form zero Nothing)) ≡ false
        by_op PrefixOp.Negate = refl
        by_op PrefixOp.Not = refl
    starts_of (suc m) = by_op op
      where
        by_op : (o : PrefixOp) → is_in (class_of_prefix o) (starts (Forms.postfix_form (suc m) (Forms.expr_form m))) ≡ false
        by_op PrefixOp.Negate = refl
        by_op PrefixOp.Not = refl

    by_front : (front : List Word) → w ∷ ws ≡ front ++ to
        → Rattle.grammar_laws.specs.Form.Derives (Forms.postfix_form n (Forms.expr_below n)) (classes front) (classes to) → A
    by_front [] split d = absurd (none d)
      where
        none : Rattle.grammar_laws.specs.Form.Derives (Forms.postfix_form n (Forms.expr_below n)) [] (classes to) → ⊥
        none e =
            let z =
            took_some (Forms.postfix_form n (Forms.expr_below n)) (postfix_good n) (never n) [] (classes to) e in absurd (omega arith)
          where
            never : (m : ℕ) → Rattle.grammar_laws.specs.Form.may_be_empty (Forms.postfix_form m (Forms.expr_below m)) ≡ false
            never zero = refl
            never (suc m) = refl
    by_front (v ∷ front) split d =
        let b : is_in v.class (starts (Forms.postfix_form n (Forms.expr_below n))) ≡ true =
        begins (Forms.postfix_form n (Forms.expr_below n)) (postfix_good n) v.class (classes front) (classes to) d in
        let same : v ≡ w = cc in
        let c : v.class ≡ class_of_prefix op = ap (λ x. x.class) same ∙ sign.0 in
        let b' : is_in (class_of_prefix op) (starts (Forms.postfix_form n (Forms.expr_below n))) ≡ true =
        subst (λ k. is_in k (starts (Forms.postfix_form n (Forms.expr_below n))) ≡ true) c b in
        let z : true ≡ false = sym b' ∙ starts_of n in absurd (cc)

-- what does not continue an operand does not continue it without its prefix
ends_postfix : (n : ℕ) (to : List Word) → Ends (Forms.unary_form n) to → Ends (Forms.postfix_form n (Forms.expr_below n)) to
ends_postfix zero to ends =
    begins_without (continues (Forms.postfix_form zero Nothing)) (Forms.unary_facts).continues (classes to) refl ends
ends_postfix (suc n) to ends =
    begins_without (continues (Forms.postfix_form (suc n) (Forms.expr_form n))) (Forms.unary_facts).continues (classes to) refl ends

pub unique_unary_zero : UniqueAt 6 zero (Forms.unary_form zero)
unique_unary_zero e f from to fe ff h k ends = by_case (no_prefix e from to h) (no_prefix f from to k)
  where
    by_case : ((p : Place) × (op : PrefixOp) × (inner : Expr) × (e ≡ Expr.Prefix p op inner)
        × ((a : List Word) × word_at p (class_of_prefix op) from a × expr_at 6 inner a to)) ⊎ expr_at 7 e from to
        → ((p : Place) × (op : PrefixOp) × (inner : Expr) × (f ≡ Expr.Prefix p op inner)
        × ((a : List Word) × word_at p (class_of_prefix op) from a × expr_at 6 inner a to)) ⊎ expr_at 7 f from to → e ≡ f
    by_case (inl (p, op, inner, is, l)) m =
        let fits : nesting (Expr.Prefix p op inner) ≤ 0 = subst (λ x. nesting x ≤ 0) is fe in absurd (omega arith)
    by_case (inr l) (inl (p, op, inner, is, m)) =
        let fits : nesting (Expr.Prefix p op inner) ≤ 0 = subst (λ x. nesting x ≤ 0) is ff in absurd (omega arith)
    by_case (inr l) (inr m) = unique_postfix zero tt e f from to fe ff l m (ends_postfix zero to ends)

pub unique_unary_more : (n : ℕ) → UniqueAt 6 n (Forms.unary_form n) → UniqueBelow (suc n) → UniqueAt 6 (suc n) (Forms.unary_form (suc n))
unique_unary_more n unique below e f from to fe ff h k ends = by_case (no_prefix e from to h) (no_prefix f from to k)
  where
    by_case : ((p : Place) × (op : PrefixOp) × (inner : Expr) × (e ≡ Expr.Prefix p op inner)
        × ((a : List Word) × word_at p (class_of_prefix op) from a × expr_at 6 inner a to)) ⊎ expr_at 7 e from to
        → ((p : Place) × (op : PrefixOp) × (inner : Expr) × (f ≡ Expr.Prefix p op inner)
        × ((a : List Word) × word_at p (class_of_prefix op) from a × expr_at 6 inner a to)) ⊎ expr_at 7 f from to → e ≡ f
    by_case (inl (p, op, x, is, (a, i, j))) (inl (q, other, y, is_other, (b, l, m))) =
        let fx : nesting (Expr.Prefix p op x) ≤ suc n = subst (λ z. nesting z ≤ suc n) is fe in
        let fy : nesting (Expr.Prefix q other y) ≤ suc n = subst (λ z. nesting z ≤ suc n) is_other ff in
        let ops : op ≡ other = same_prefix op other (same_word from a b i l) in
        let l' : word_at q (class_of_prefix op) from b = subst (λ o. word_at q (class_of_prefix o) from b) (sym ops) l in
        let (ends_same, place) = one_place (class_of_prefix op) p q from a b i l' in
        let m' : expr_at 6 y a to = subst (λ w. expr_at 6 y w to) (sym ends_same) m in
        let inner : x ≡ y = unique x y a to (omega arith) (omega arith) j m' ends in
        is ∙ ap (λ r. Expr.Prefix r op x) place ∙ ap (λ o. Expr.Prefix q o x) ops ∙ ap (Expr.Prefix q other) inner ∙ sym is_other
      where
        same_word : (w u v : List Word) → word_at p (class_of_prefix op) w u → word_at q (class_of_prefix other) w v
            → class_of_prefix op ≡ class_of_prefix other
        same_word [] u v g g' = absurd g
        same_word (x ∷ w) u v g g' = sym g.0 ∙ g'.0
    by_case (inl (p, op, x, is, (a, i, j))) (inr m) = not_prefixed (suc n) op p f from a to ff i m
    by_case (inr l) (inl (q, other, y, is_other, (b, i, m))) = not_prefixed (suc n) other q e from b to fe i l
    by_case (inr l) (inr m) = unique_postfix (suc n) below e f from to fe ff l m (ends_postfix (suc n) to ends)
