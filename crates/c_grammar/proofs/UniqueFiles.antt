-- At most one item leads from some words to others, and at most one file spells some words.
use Rattle.std.proofs.Common.{◌≡◌, ℕ, zero, suc, ◌≤◌, ◌<◌, false, List, [], ◌∷◌, length, refl, sym, ap, ap₂, ◌∙◌, subst, arith, rules, max}
use Rattle.std.specs.Prelude.{Option, Some, None, ◌==◌}
use Rattle.grammar_laws.specs.Form.{Form, Word as AWord, Both, Many, continues, IsGood}
use Rattle.grammar_laws.proofs.Classes.{begins_not_left}
use Rattle.c_grammar.specs.declared.tokens.places.Place.{Place}
use Rattle.c_grammar.specs.Classes
use Rattle.c_grammar.specs.Words.{Word, classes}
use Rattle.c_grammar.specs.Forms
use Rattle.c_grammar.specs.Trees.{Name, Specifier, Declarator, Fields, Param, Params, Head, Stmts, Item, File}
use Rattle.c_grammar.specs.Spelling.{Rule, ◌⨾◌, word, word_at, open_paren, name, each, maybe, specifier, stars, declarator, fields}
use Rattle.c_grammar.specs.Spelling.{struct_body, param, is_void, params, head, stmts, item, Spells}
use Rattle.c_grammar.specs.Nesting.{deepest, item_nesting, file_nesting}
use Rattle.c_grammar.proofs.OneWordAhead.{item_good, file_good}
use Rattle.c_grammar.proofs.Parts.{is_word}
use Rattle.c_grammar.proofs.Spelled.{Leads, is_name, is_each, is_maybe, is_specifier, is_stars, is_declarator, is_behind_comma, is_fields}
use Rattle.c_grammar.proofs.Spelled.{is_param, is_params}
use Rattle.c_grammar.proofs.SpelledFiles.{is_item, is_items}
use Rattle.c_grammar.proofs.Synced.{Ends, synced, synced_both, ends_first, fewer, no_more, Unique, unique_each}
use Rattle.c_grammar.proofs.UniqueExprs.{one_word, one_place, one_name, one_open, one_specifier, one_declarator, apart, ends_word}
use Rattle.c_grammar.proofs.UniqueStmts.{ClausesUnique, meet, ends_optional, stmt_unique, one_block}

-- structures

abbrev comma_declarator : Declarator → Rule
comma_declarator decl = word Classes.COMMA ⨾ declarator decl

abbrev comma_declarator_form : Form
comma_declarator_form = Both (AWord Classes.COMMA) Forms.declarator_form

is_comma_declarator : (d : Declarator) → Leads comma_declarator comma_declarator_form d
is_comma_declarator d from to h = is_behind_comma declarator Forms.declarator_form is_declarator d from to h

comma_declarator_unique : Unique comma_declarator comma_declarator_form
comma_declarator_unique d e from to (a, h, i) (x, k, l) ends =
    let ea : x ≡ a = sym (one_word Classes.COMMA Classes.COMMA from a x h k).0 in
    let l' : declarator e a to = subst (λ w. declarator e w to) ea l in
    (one_declarator d e a to to i l').1

declarators_good : IsGood (Both (Many comma_declarator_form) (AWord Classes.SEMICOLON))
declarators_good = search rules

one_fields : (f g : Fields) (from to end : List Word) → fields f from to → fields g from end → (to ≡ end) × (f ≡ g)
one_fields f g from to end (a, h1, (b, h2, (c, h3, h4))) (x, k1, (y, k2, (z, k3, k4))) =
    let (ea, typed) = one_specifier f.specifier g.specifier from a x h1 k1 in
    let k2' : declarator g.first a y = subst (λ w. declarator g.first w y) (sym ea) k2 in
    let (eb, first) = one_declarator f.first g.first a b y h2 k2' in
    let k3' : each comma_declarator g.others b z = subst (λ w. each comma_declarator g.others w z) (sym eb) k3 in
    let good = declarators_good in
    let all = is_each comma_declarator comma_declarator_form is_comma_declarator in
    let (same, ec, ends) =
    meet (Many comma_declarator_form) Classes.SEMICOLON good b c to z end (all f.others b c h3) h4 (all g.others b z k3') k4 in
    let k3'' : each comma_declarator g.others b c = subst (λ w. each comma_declarator g.others b w) (sym ec) k3' in
    let others : f.others
    ≡ g.others =
    unique_each comma_declarator comma_declarator_form good.0 is_comma_declarator comma_declarator_unique f.others g.others b c h3 k3''
    ends in
    (same, λ i. record { specifier = typed i; first = first i; others = others i })

fields_unique : Unique fields Forms.fields_form
fields_unique f g from to h k ends = (one_fields f g from to to h k).1

lines_good : IsGood (Both (Many Forms.fields_form) (AWord Classes.CLOSE_BRACE))
lines_good = search rules

pub one_struct_body : (xs ys : List Fields) (from to end : List Word) → struct_body xs from to → struct_body ys from end
    → (to ≡ end) × (xs ≡ ys)
one_struct_body xs ys from to end (a, h1, (b, h2, h3)) (x, k1, (y, k2, k3)) =
    let ea : x ≡ a = sym (one_word Classes.OPEN_BRACE Classes.OPEN_BRACE from a x h1 k1).0 in
    let k2' : each fields ys a y = subst (λ w. each fields ys w y) ea k2 in
    let good = lines_good in
    let all = is_each fields Forms.fields_form is_fields in
    let (same, eb, ends) = meet (Many Forms.fields_form) Classes.CLOSE_BRACE good a b to y end (all xs a b h2) h3 (all ys a y k2') k3 in
    let k2'' : each fields ys a b = subst (λ w. each fields ys a w) (sym eb) k2' in
    (same, unique_each fields Forms.fields_form good.0 is_fields fields_unique xs ys a b h2 k2'' ends)

-- heads

fewer_word : (class : ℕ) (from to : List Word) → word class from to → length to < length from
fewer_word class from to h = fewer (AWord class) tt refl from to (is_word from to h)

fewer_name : (n : Name) (from to : List Word) → name n from to → length to < length from
fewer_name n from to h = fewer (AWord Classes.NAME) tt refl from to (is_name n from to h)

no_more_stars : (count : ℕ) (from to : List Word) → stars count from to → length to ≤ length from
no_more_stars count from to h = no_more Forms.stars_form from to (is_stars count from to h)

same_stars : (count many : ℕ) (from to : List Word) → stars count from to → stars many from to → count ≡ many
same_stars zero zero from to h k = refl
same_stars zero (suc many) from to h (x, k, l) =
    let f = fewer_word Classes.STAR from x k in
    let g = no_more_stars many x to l in
    let e : length from ≡ length to = ap length h in absurd (omega arith)
same_stars (suc count) zero from to (x, k, l) h =
    let f = fewer_word Classes.STAR from x k in
    let g = no_more_stars count x to l in
    let e : length from ≡ length to = ap length h in absurd (omega arith)
same_stars (suc count) (suc many) from to (a, h, i) (x, k, l) =
    let ea : x ≡ a = sym (one_word Classes.STAR Classes.STAR from a x h k).0 in
    let l' : stars many a to = subst (λ w. stars many w to) ea l in
    ap suc (same_stars count many a to i l')

same_name : (n m : Option Name) (from to : List Word) → maybe name n from to → maybe name m from to → n ≡ m
same_name None None from to h k = refl
same_name None (Some m) from to h k =
    let f = fewer_name m from to k in
    let e : length from ≡ length to = ap length h in absurd (omega arith)
same_name (Some n) None from to h k =
    let f = fewer_name n from to h in
    let e : length from ≡ length to = ap length k in absurd (omega arith)
same_name (Some n) (Some m) from to h k = ap Some (one_name n m from to to h k).1

param_good : IsGood Forms.param_form
param_good = search rules

param_unique : Unique param Forms.param_form
param_unique p q from to (a, h1, (b, h2, h3)) (x, k1, (y, k2, k3)) ends =
    let (ea, typed) = one_specifier p.specifier q.specifier from a x h1 k1 in
    let k2' : stars q.stars a y = subst (λ w. stars q.stars w y) (sym ea) k2 in
    let good = param_good in
    let tail : Form = Both Forms.stars_form (Forms.optional (AWord Classes.NAME)) in
    let ends' : Ends tail to = begins_not_left (continues tail) (continues Forms.specifier_form) (classes to) ends in
    let eb : b ≡ y = synced_both Forms.stars_form (Forms.optional (AWord Classes.NAME)) good.1 a b y to
    (is_stars p.stars a b h2) (is_maybe name (AWord Classes.NAME) is_name p.name b to h3) (is_stars q.stars a y k2')
    (is_maybe name (AWord Classes.NAME) is_name q.name y to k3) ends' in
    let k2'' : stars q.stars a b = subst (λ w. stars q.stars a w) (sym eb) k2' in
    let k3' : maybe name q.name b to = subst (λ w. maybe name q.name w to) (sym eb) k3 in
    let count = same_stars p.stars q.stars a b h2 k2'' in
    let named = same_name p.name q.name b to h3 k3' in
    λ i. record { specifier = typed i; stars = count i; name = named i }

abbrev comma_param : Param → Rule
comma_param p = word Classes.COMMA ⨾ param p

abbrev comma_param_form : Form
comma_param_form = Both (AWord Classes.COMMA) Forms.param_form

is_comma_param : (p : Param) → Leads comma_param comma_param_form p
is_comma_param p from to h = is_behind_comma param Forms.param_form is_param p from to h

comma_param_unique : Unique comma_param comma_param_form
comma_param_unique p q from to (a, h, i) (x, k, l) ends =
    let ea : x ≡ a = sym (one_word Classes.COMMA Classes.COMMA from a x h k).0 in
    let l' : param q a to = subst (λ w. param q w to) ea l in
    let ends' : Ends Forms.param_form to = begins_not_left (continues Forms.param_form) [] (classes to) ends in
    param_unique p q a to i l' ends'

listed_good : IsGood (Both Forms.param_form (Many comma_param_form))
listed_good = search rules

no_more_params : (all : List Param) (from to : List Word) → each comma_param all from to → length to ≤ length from
no_more_params all from to h = no_more (Many comma_param_form) from to (is_each comma_param comma_param_form is_comma_param all from to h)

-- one parameter that is the word `void` stands alone
void_once : (s : Specifier) (count : ℕ) (n : Option Name) (w : Word) (ws a b to : List Word) → w.class ≡ 6 → ws ≡ to
    → specifier s (w ∷ ws) a → stars count a b → maybe name n b to → is_void s count n ≡ false → ⊥
void_once s (suc count) n w ws a b to void end h (x, i, j) k alone =
    let f = fewer Forms.specifier_form (search rules) refl (w ∷ ws) a (is_specifier s (w ∷ ws) a h) in
    let g = fewer_word Classes.STAR a x i in
    let l = no_more_stars count x b j in
    let m = no_more (Forms.optional (AWord Classes.NAME)) b to (is_maybe name (AWord Classes.NAME) is_name n b to k) in
    let e : length ws ≡ length to = ap length end in absurd (omega arith)
void_once s zero (Some n) w ws a b to void end h i k alone =
    let f = fewer Forms.specifier_form (search rules) refl (w ∷ ws) a (is_specifier s (w ∷ ws) a h) in
    let g : length a ≡ length b = ap length i in
    let m = fewer_name n b to k in
    let e : length ws ≡ length to = ap length end in absurd (omega arith)
void_once (Specifier.Void q) zero None w ws a b to void end h i k alone = absurd (cc)
void_once (Specifier.Int q) zero None w ws a b to void end h i k alone = apart 5 6 w.class refl h.0 void
void_once (Specifier.Struct q t) zero None w ws a b to void end (x, h, j) i k alone = apart 7 6 w.class refl h.0 void
void_once (Specifier.Alias t) zero None w ws a b to void end h i k alone = apart 1 6 w.class refl h.0 void

void_or_listed : (p : Place) (first : Param) (others : List Param) (from to : List Word) → word_at p Classes.VOID from to
    → params (Params.Listed first others) from to → ⊥
void_or_listed p first others [] to h k = h
void_or_listed p first [] (w ∷ ws) to h (alone, (mid, (a, i, (b, j, k)), l)) =
    let k' : maybe name first.name b to = subst (λ v. maybe name first.name b v) l k in
    void_once first.specifier first.stars first.name w ws a b to h.0 h.2 i j k' alone
void_or_listed p first (o ∷ os) (w ∷ ws) to h (alone, (mid, i, (x, (y, j, k), l))) =
    let f = fewer Forms.param_form param_good refl (w ∷ ws) mid (is_param first (w ∷ ws) mid i) in
    let g = fewer_word Classes.COMMA mid y j in
    let m = no_more Forms.param_form y x (is_param o y x k) in
    let r = no_more_params os x to l in
    let e : length ws ≡ length to = ap length h.2 in absurd (omega arith)

listed_some : {A : Type 0} (first : Param) (others : List Param) (from to : List Word) → from ≡ to
    → params (Params.Listed first others) from to → A
listed_some {A} first others from to same (alone, (mid, i, l)) =
    let f = fewer Forms.param_form param_good refl from mid (is_param first from mid i) in
    let r = no_more_params others mid to l in
    let e : length from ≡ length to = ap length same in absurd (omega arith)

void_some : {A : Type 0} (p : Place) (from to : List Word) → from ≡ to → word_at p Classes.VOID from to → A
void_some {A} p [] to same h = absurd h
void_some {A} p (w ∷ ws) to same h =
    let e : suc (length ws) ≡ length to = ap length same in
    let f : length ws ≡ length to = ap length h.2 in absurd (omega arith)

same_listed : (p q : Param) (ps qs : List Param) (from to : List Word) → params (Params.Listed p ps) from to
    → params (Params.Listed q qs) from to → Ends Forms.params_form to → Params.Listed p ps ≡ Params.Listed q qs
same_listed p q ps qs from to (alone, (a, h, i)) (other_alone, (x, k, l)) ends =
    let good = listed_good in
    let all = is_each comma_param comma_param_form is_comma_param in
    let pair : Form = Both Forms.param_form (Many comma_param_form) in
    let ends_pair : Ends pair to = ends_optional pair to ends in
    let ea : a ≡ x =
    synced_both Forms.param_form (Many comma_param_form) good from a x to (is_param p from a h) (all ps a to i) (is_param q from x k)
    (all qs x to l) ends_pair in
    let k' : param q from a = subst (λ w. param q from w) (sym ea) k in
    let l' : each comma_param qs a to = subst (λ w. each comma_param qs w to) (sym ea) l in
    let first = param_unique p q from a h k' (ends_first Forms.param_form (Many comma_param_form) good a to (all ps a to i) ends_pair) in
    let ends_many : Ends (Many comma_param_form) to =
    begins_not_left (continues (Many comma_param_form)) (continues Forms.param_form) (classes to) ends_pair in
    let others = unique_each comma_param comma_param_form good.1 is_comma_param comma_param_unique ps qs a to i l' ends_many in
    ap₂ Params.Listed first others

pub one_params : (p q : Params) (from to : List Word) → params p from to → params q from to → Ends Forms.params_form to → p ≡ q
one_params Params.NoParams Params.NoParams from to h k ends = refl
one_params Params.NoParams (Params.VoidParams q) from to h k ends = void_some q from to h k
one_params Params.NoParams (Params.Listed q qs) from to h k ends = listed_some q qs from to h k
one_params (Params.VoidParams p) Params.NoParams from to h k ends = void_some p from to k h
one_params (Params.VoidParams p) (Params.VoidParams q) from to h k ends = ap Params.VoidParams (one_place Classes.VOID p q from to to h k).1
one_params (Params.VoidParams p) (Params.Listed q qs) from to h k ends = absurd (void_or_listed p q qs from to h k)
one_params (Params.Listed p ps) Params.NoParams from to h k ends = listed_some p ps from to k h
one_params (Params.Listed p ps) (Params.VoidParams q) from to h k ends = absurd (void_or_listed q p ps from to k h)
one_params (Params.Listed p ps) (Params.Listed q qs) from to h k ends = same_listed p q ps qs from to h k ends

params_good : IsGood (Both Forms.params_form (AWord Classes.CLOSE))
params_good = search rules

pub one_head : (h k : Head) (from to end : List Word) → head h from to → head k from end → (to ≡ end) × (h ≡ k)
one_head h k from to end (a, h1, (b, h2, (c, h3, (d, h4, h5)))) (x, k1, (y, k2, (z, k3, (v, k4, k5)))) =
    let (ea, typed) = one_specifier h.specifier k.specifier from a x h1 k1 in
    let k2' : declarator k.declarator a y = subst (λ w. declarator k.declarator w y) (sym ea) k2 in
    let (eb, named) = one_declarator h.declarator k.declarator a b y h2 k2' in
    let k3' : open_paren b z = subst (λ w. open_paren w z) (sym eb) k3 in
    let ec : c ≡ z = one_open b c z h3 k3' in
    let k4' : params k.params c v = subst (λ w. params k.params w v) (sym ec) k4 in
    let (same, ed, ends) =
    meet Forms.params_form Classes.CLOSE params_good c d to v end (is_params h.params c d h4) h5 (is_params k.params c v k4') k5 in
    let k4'' : params k.params c d = subst (λ w. params k.params c w) (sym ed) k4' in
    let listed = one_params h.params k.params c d h4 k4'' ends in
    (same, λ i. record { specifier = typed i; declarator = named i; params = listed i })

-- items

-- words do not begin in two ways
two_classes : (class other : ℕ) (from a b : List Word) → (class == other) ≡ false → word class from a → word other from b → ⊥
two_classes class other [] a b unlike h k = h
two_classes class other (w ∷ ws) a b unlike h k = apart class other w.class unlike h.0 k.0

word_there : (class : ℕ) (p : Place) (from to : List Word) → word_at p class from to → word class from to
word_there class p [] to h = absurd h
word_there class p (w ∷ ws) to h = (h.0, h.2)

name_there : (n : Name) (from to : List Word) → name n from to → word Classes.NAME from to
name_there n [] to h = absurd h
name_there n (w ∷ ws) to h = (h.0, h.3)

brace_or_starred : (count : ℕ) (n : Name) (from a to end : List Word) → stars count from a → name n a to → word Classes.OPEN_BRACE from end
    → ⊥
brace_or_starred zero n from a to end h i k =
    two_classes Classes.NAME Classes.OPEN_BRACE from to end refl (name_there n from to (subst (λ w. name n w to) (sym h) i)) k
brace_or_starred (suc count) n from a to end (x, h, j) i k = two_classes Classes.STAR Classes.OPEN_BRACE from x end refl h k

-- a type that begins with `struct` is this word and a tag
struct_specifier : (s : Specifier) (p : Place) (tag : Name) (from a b to : List Word) → word_at p Classes.STRUCT from a → name tag a b
    → specifier s from to → b ≡ to
struct_specifier (Specifier.Struct q t) p tag from a b to h i (x, k, l) =
    let (ea, place) = one_place Classes.STRUCT p q from a x h k in
    let l' : name t a to = subst (λ w. name t w to) (sym ea) l in
    (one_name tag t a b to i l').0
struct_specifier (Specifier.Int q) p tag from a b to h i k =
    absurd (two_classes Classes.STRUCT Classes.INT from a to refl (word_there Classes.STRUCT p from a h)
    (word_there Classes.INT q from to k))
struct_specifier (Specifier.Void q) p tag from a b to h i k =
    absurd (two_classes Classes.STRUCT Classes.VOID from a to refl (word_there Classes.STRUCT p from a h)
    (word_there Classes.VOID q from to k))
struct_specifier (Specifier.Alias t) p tag from a b to h i k =
    absurd (two_classes Classes.STRUCT Classes.NAME from a to refl (word_there Classes.STRUCT p from a h) (name_there t from to k))

struct_or_head : (p : Place) (tag : Name) (lines : List Fields) (h : Head) (from to end : List Word)
    → item (Item.StructItem p tag lines) from to → head h from end → ⊥
struct_or_head p tag lines h from to end (a, h1, (b, h2, (c, (d, h3, h4), h5))) (x, k1, (y, (z, k2, k3), k4)) =
    let e : b ≡ x = struct_specifier h.specifier p tag from a b x h1 h2 k1 in
    let k2' : stars h.declarator.stars b z = subst (λ w. stars h.declarator.stars w z) (sym e) k2 in
    brace_or_starred h.declarator.stars h.declarator.name b z y d k2' k3 h3

no_typedef : (s : Specifier) (p : Place) (from a to : List Word) → word_at p Classes.TYPEDEF from a → specifier s from to → ⊥
no_typedef (Specifier.Int q) p from a to h k =
    two_classes Classes.TYPEDEF Classes.INT from a to refl (word_there Classes.TYPEDEF p from a h) (word_there Classes.INT q from to k)
no_typedef (Specifier.Void q) p from a to h k =
    two_classes Classes.TYPEDEF Classes.VOID from a to refl (word_there Classes.TYPEDEF p from a h) (word_there Classes.VOID q from to k)
no_typedef (Specifier.Struct q t) p from a to h (x, k, l) =
    two_classes Classes.TYPEDEF Classes.STRUCT from a x refl (word_there Classes.TYPEDEF p from a h) (word_there Classes.STRUCT q from x k)
no_typedef (Specifier.Alias t) p from a to h k =
    two_classes Classes.TYPEDEF Classes.NAME from a to refl (word_there Classes.TYPEDEF p from a h) (name_there t from to k)

typedef_or_head : {A : Type 0} (p : Place) (h : Head) (from a end : List Word) → word_at p Classes.TYPEDEF from a → head h from end → A
typedef_or_head {A} p h from a end t (x, k, l) = absurd (no_typedef h.specifier p from a x t k)

typedef_or_struct : {A : Type 0} (p q : Place) (from a b : List Word) → word_at p Classes.TYPEDEF from a → word_at q Classes.STRUCT from b
    → A
typedef_or_struct {A} p q from a b h k =
    absurd (two_classes Classes.TYPEDEF Classes.STRUCT from a b refl (word_there Classes.TYPEDEF p from a h)
    (word_there Classes.STRUCT q from b k))

same_struct : (p q : Place) (n m : Name) (xs ys : List Fields) (from to : List Word) → item (Item.StructItem p n xs) from to
    → item (Item.StructItem q m ys) from to → Item.StructItem p n xs ≡ Item.StructItem q m ys
same_struct p q n m xs ys from to (a, h1, (b, h2, (c, h3, h4))) (x, k1, (y, k2, (z, k3, k4))) =
    let (ea, place) = one_place Classes.STRUCT p q from a x h1 k1 in
    let k2' : name m a y = subst (λ w. name m w y) (sym ea) k2 in
    let (eb, tag) = one_name n m a b y h2 k2' in
    let k3' : struct_body ys b z = subst (λ w. struct_body ys w z) (sym eb) k3 in
    let (ec, lines) = one_struct_body xs ys b c z h3 k3' in
    λ i. Item.StructItem (place i) (tag i) (lines i)

-- a tag, if any, the fields and a name
one_tagged : (n m : Option Name) (xs ys : List Fields) (s t : Name) (from a b to x y end : List Word) → maybe name n from a
    → struct_body xs a b → name s b to → maybe name m from x → struct_body ys x y → name t y end
    → (n ≡ m) × (xs ≡ ys) × (s ≡ t)
one_tagged None (Some m) xs ys s t from a b to x y end h1 (c, h2, h3) h4 k1 k2 k3 =
    let h2' : word Classes.OPEN_BRACE from c = subst (λ w. word Classes.OPEN_BRACE w c) (sym h1) h2 in
    absurd (two_classes Classes.OPEN_BRACE Classes.NAME from c x refl h2' (name_there m from x k1))
one_tagged (Some n) None xs ys s t from a b to x y end h1 h2 h3 k1 (c, k2, k3) k4 =
    let k2' : word Classes.OPEN_BRACE from c = subst (λ w. word Classes.OPEN_BRACE w c) (sym k1) k2 in
    absurd (two_classes Classes.OPEN_BRACE Classes.NAME from c a refl k2' (name_there n from a h1))
one_tagged None None xs ys s t from a b to x y end h1 h2 h3 k1 k2 k3 =
    let ea : a ≡ x = sym h1 ∙ k1 in
    let k2' : struct_body ys a y = subst (λ w. struct_body ys w y) (sym ea) k2 in
    let (eb, lines) = one_struct_body xs ys a b y h2 k2' in
    let k3' : name t b end = subst (λ w. name t w end) (sym eb) k3 in
    (refl, lines, (one_name s t b to end h3 k3').1)
one_tagged (Some n) (Some m) xs ys s t from a b to x y end h1 h2 h3 k1 k2 k3 =
    let (ea, tag) = one_name n m from a x h1 k1 in
    let k2' : struct_body ys a y = subst (λ w. struct_body ys w y) (sym ea) k2 in
    let (eb, lines) = one_struct_body xs ys a b y h2 k2' in
    let k3' : name t b end = subst (λ w. name t w end) (sym eb) k3 in
    (ap Some tag, lines, (one_name s t b to end h3 k3').1)

same_typedef : (p q : Place) (n m : Option Name) (xs ys : List Fields) (s t : Name) (from to : List Word)
    → item (Item.TypedefStruct p n xs s) from to → item (Item.TypedefStruct q m ys t) from to
    → Item.TypedefStruct p n xs s ≡ Item.TypedefStruct q m ys t
same_typedef p q n m xs ys s t from to (a, h1, (b, h2, (c, h3, (d, h4, (e, h5, h6))))) (u, k1, (v, k2, (x, k3, (y, k4, (z, k5, k6))))) =
    let (ea, place) = one_place Classes.TYPEDEF p q from a u h1 k1 in
    let k2' : word Classes.STRUCT a v = subst (λ w. word Classes.STRUCT w v) (sym ea) k2 in
    let eb : b ≡ v = (one_word Classes.STRUCT Classes.STRUCT a b v h2 k2').0 in
    let k3' : maybe name m b x = subst (λ w. maybe name m w x) (sym eb) k3 in
    let (tag, lines, alias) = one_tagged n m xs ys s t b c d e x y z h3 h4 h5 k3' k4 k5 in
    λ i. Item.TypedefStruct (place i) (tag i) (lines i) (alias i)

same_alias : (p q : Place) (n m s t : Name) (from to : List Word) → item (Item.TypedefAlias p n s) from to
    → item (Item.TypedefAlias q m t) from to → Item.TypedefAlias p n s ≡ Item.TypedefAlias q m t
same_alias p q n m s t from to (a, h1, (b, h2, (c, h3, (d, h4, h5)))) (u, k1, (v, k2, (x, k3, (y, k4, k5)))) =
    let (ea, place) = one_place Classes.TYPEDEF p q from a u h1 k1 in
    let k2' : word Classes.STRUCT a v = subst (λ w. word Classes.STRUCT w v) (sym ea) k2 in
    let eb : b ≡ v = (one_word Classes.STRUCT Classes.STRUCT a b v h2 k2').0 in
    let k3' : name m b x = subst (λ w. name m w x) (sym eb) k3 in
    let (ec, tag) = one_name n m b c x h3 k3' in
    let k4' : name t c y = subst (λ w. name t w y) (sym ec) k4 in
    let (ed, alias) = one_name s t c d y h4 k4' in
    λ i. Item.TypedefAlias (place i) (tag i) (alias i)

-- a name behind a tag is no body, and a name behind no tag is followed by none
tag_or_alias : (n : Option Name) (xs : List Fields) (m s : Name) (from a b x y : List Word) → maybe name n from a → struct_body xs a b
    → name m from x → name s x y → ⊥
tag_or_alias None xs m s from a b x y h (c, i, j) k l =
    let i' : word Classes.OPEN_BRACE from c = subst (λ w. word Classes.OPEN_BRACE w c) (sym h) i in
    two_classes Classes.OPEN_BRACE Classes.NAME from c x refl i' (name_there m from x k)
tag_or_alias (Some n) xs m s from a b x y h (c, i, j) k l =
    let (e, tag) = one_name n m from a x h k in
    let l' : name s a y = subst (λ w. name s w y) (sym e) l in
    two_classes Classes.OPEN_BRACE Classes.NAME a c y refl i (name_there s a y l')

typedef_or_alias : {A : Type 0} (p q : Place) (n : Option Name) (xs : List Fields) (s m t : Name) (from to end : List Word)
    → item (Item.TypedefStruct p n xs s) from to → item (Item.TypedefAlias q m t) from end → A
typedef_or_alias {A} p q n xs s m t from to end (a, h1, (b, h2, (c, h3, (d, h4, h5)))) (u, k1, (v, k2, (x, k3, (y, k4, k5)))) =
    let (ea, place) = one_place Classes.TYPEDEF p q from a u h1 k1 in
    let k2' : word Classes.STRUCT a v = subst (λ w. word Classes.STRUCT w v) (sym ea) k2 in
    let eb : b ≡ v = (one_word Classes.STRUCT Classes.STRUCT a b v h2 k2').0 in
    let k3' : name m b x = subst (λ w. name m w x) (sym eb) k3 in
    absurd (tag_or_alias n xs m t b c d x y h3 h4 k3' k4)

same_prototype : (h k : Head) (from to : List Word) → item (Item.Prototype h) from to → item (Item.Prototype k) from to
    → Item.Prototype h ≡ Item.Prototype k
same_prototype h k from to (a, i, j) (x, l, m) = ap Item.Prototype (one_head h k from a x i l).1

prototype_or_definition : {A : Type 0} (h k : Head) (p q : Place) (body : Stmts) (from to end : List Word) → item (Item.Prototype h) from to
    → item (Item.Definition k p body q) from end → A
prototype_or_definition {A} h k p q body from to end (a, i, j) (x, l, (y, m, o)) =
    let (e, same) = one_head h k from a x i l in
    let m' : word Classes.OPEN_BRACE a y = subst (λ w. word Classes.OPEN_BRACE w y) (sym e) (word_there Classes.OPEN_BRACE p x y m) in
    absurd (two_classes Classes.SEMICOLON Classes.OPEN_BRACE a to y refl j m')

same_definition : (n : ℕ) → ClausesUnique → (h k : Head) (p q c d : Place) (xs ys : Stmts) (from to : List Word)
    → item_nesting (Item.Definition h p xs c) ≤ n → item_nesting (Item.Definition k q ys d) ≤ n
    → item (Item.Definition h p xs c) from to → item (Item.Definition k q ys d) from to
    → Item.Definition h p xs c ≡ Item.Definition k q ys d
same_definition zero clauses h k p q c d xs ys from to fits fits_other i j = absurd (omega arith)
same_definition (suc n) clauses h k p q c d xs ys from to fits fits_other (a, h1, (b, h2, (e, h3, h4))) (x, k1, (y, k2, (z, k3, k4))) =
    let (ea, heads) = one_head h k from a x h1 k1 in
    let k2' : word_at q Classes.OPEN_BRACE a y = subst (λ w. word_at q Classes.OPEN_BRACE w y) (sym ea) k2 in
    let (eb, place) = one_place Classes.OPEN_BRACE p q a b y h2 k2' in
    let k3' : stmts ys b z = subst (λ w. stmts ys w z) (sym eb) k3 in
    let (body, end) = one_block n (stmt_unique clauses n) xs ys c d b e to z to (omega arith) (omega arith) h3 h4 k3' k4 in
    λ i. Item.Definition (heads i) (place i) (body i) (end i)

pub item_unique : ClausesUnique → (n : ℕ) (i j : Item) (from to : List Word) → item_nesting i ≤ n → item_nesting j ≤ n → item i from to
    → item j from to → i ≡ j
item_unique clauses n (Item.StructItem p t xs) (Item.StructItem q m ys) from to fi fj h k = same_struct p q t m xs ys from to h k
item_unique clauses n (Item.StructItem p t xs) (Item.TypedefStruct q m ys s) from to fi fj (a, h, i) (x, k, l) =
    typedef_or_struct q p from x a k h
item_unique clauses n (Item.StructItem p t xs) (Item.TypedefAlias q m s) from to fi fj (a, h, i) (x, k, l) =
    typedef_or_struct q p from x a k h
item_unique clauses n (Item.StructItem p t xs) (Item.Prototype g) from to fi fj h (x, k, l) = absurd (struct_or_head p t xs g from to x h k)
item_unique clauses n (Item.StructItem p t xs) (Item.Definition g q ys d) from to fi fj h (x, k, l) =
    absurd (struct_or_head p t xs g from to x h k)
item_unique clauses n (Item.TypedefStruct p t xs s) (Item.StructItem q m ys) from to fi fj (a, h, i) (x, k, l) =
    typedef_or_struct p q from a x h k
item_unique clauses n (Item.TypedefStruct p t xs s) (Item.TypedefStruct q m ys r) from to fi fj h k =
    same_typedef p q t m xs ys s r from to h k
item_unique clauses n (Item.TypedefStruct p t xs s) (Item.TypedefAlias q m r) from to fi fj h k =
    typedef_or_alias p q t xs s m r from to to h k
item_unique clauses n (Item.TypedefStruct p t xs s) (Item.Prototype g) from to fi fj (a, h, i) (x, k, l) = typedef_or_head p g from a x h k
item_unique clauses n (Item.TypedefStruct p t xs s) (Item.Definition g q ys d) from to fi fj (a, h, i) (x, k, l) =
    typedef_or_head p g from a x h k
item_unique clauses n (Item.TypedefAlias p t s) (Item.StructItem q m ys) from to fi fj (a, h, i) (x, k, l) =
    typedef_or_struct p q from a x h k
item_unique clauses n (Item.TypedefAlias p t s) (Item.TypedefStruct q m ys r) from to fi fj h k =
    typedef_or_alias q p m ys r t s from to to k h
item_unique clauses n (Item.TypedefAlias p t s) (Item.TypedefAlias q m r) from to fi fj h k = same_alias p q t m s r from to h k
item_unique clauses n (Item.TypedefAlias p t s) (Item.Prototype g) from to fi fj (a, h, i) (x, k, l) = typedef_or_head p g from a x h k
item_unique clauses n (Item.TypedefAlias p t s) (Item.Definition g q ys d) from to fi fj (a, h, i) (x, k, l) =
    typedef_or_head p g from a x h k
item_unique clauses n (Item.Prototype g) (Item.StructItem q m ys) from to fi fj (a, h, i) k = absurd (struct_or_head q m ys g from to a k h)
item_unique clauses n (Item.Prototype g) (Item.TypedefStruct q m ys r) from to fi fj (a, h, i) (x, k, l) = typedef_or_head q g from x a k h
item_unique clauses n (Item.Prototype g) (Item.TypedefAlias q m r) from to fi fj (a, h, i) (x, k, l) = typedef_or_head q g from x a k h
item_unique clauses n (Item.Prototype g) (Item.Prototype f) from to fi fj h k = same_prototype g f from to h k
item_unique clauses n (Item.Prototype g) (Item.Definition f q ys d) from to fi fj h k = prototype_or_definition g f q d ys from to to h k
item_unique clauses n (Item.Definition g p xs c) (Item.StructItem q m ys) from to fi fj (a, h, i) k =
    absurd (struct_or_head q m ys g from to a k h)
item_unique clauses n (Item.Definition g p xs c) (Item.TypedefStruct q m ys r) from to fi fj (a, h, i) (x, k, l) =
    typedef_or_head q g from x a k h
item_unique clauses n (Item.Definition g p xs c) (Item.TypedefAlias q m r) from to fi fj (a, h, i) (x, k, l) =
    typedef_or_head q g from x a k h
item_unique clauses n (Item.Definition g p xs c) (Item.Prototype f) from to fi fj h k = prototype_or_definition f g p c xs from to to k h
item_unique clauses n (Item.Definition g p xs c) (Item.Definition f q ys d) from to fi fj h k =
    same_definition n clauses g f p q c d xs ys from to fi fj h k

-- files

unique_items : ClausesUnique → (n : ℕ) (xs ys : List Item) (from to : List Word) → deepest item_nesting xs ≤ n → deepest item_nesting ys ≤ n
    → each item xs from to → each item ys from to → xs ≡ ys
unique_items clauses n [] [] from to fx fy h k = refl
unique_items clauses n [] (j ∷ ys) from to fx fy h (a, k, l) =
    let f = fewer (Forms.item_form n) (item_good n) refl from a (is_item j n from a (omega arith) k) in
    let g = no_more (Many (Forms.item_form n)) a to (is_items ys n a to (omega arith) l) in
    let e : length from ≡ length to = ap length h in absurd (omega arith)
unique_items clauses n (i ∷ xs) [] from to fx fy (a, k, l) h =
    let f = fewer (Forms.item_form n) (item_good n) refl from a (is_item i n from a (omega arith) k) in
    let g = no_more (Many (Forms.item_form n)) a to (is_items xs n a to (omega arith) l) in
    let e : length from ≡ length to = ap length h in absurd (omega arith)
unique_items clauses n (i ∷ xs) (j ∷ ys) from to fx fy (a, h, o) (b, k, l) =
    let e : a ≡ b =
    synced (Forms.item_form n) (item_good n) from a b (is_item i n from a (omega arith) h) (is_item j n from b (omega arith) k)
    (ends_word a) (ends_word b) in
    let k' : item j from a = subst (λ w. item j from w) (sym e) k in
    let l' : each item ys a to = subst (λ w. each item ys w to) (sym e) l in
    ap₂ (λ x y. x ∷ y) (item_unique clauses n i j from a (omega arith) (omega arith) h k')
    (unique_items clauses n xs ys a to (omega arith) (omega arith) o l')

unique_file : ClausesUnique → (n : ℕ) (words : List Word) (one other : File) → file_nesting one ≤ n → file_nesting other ≤ n
    → Spells one words → Spells other words → one ≡ other
unique_file clauses n words one other fits fits_other (a, h, i) (b, k, l) =
    let (same, e, ends) =
    meet (Many (Forms.item_form n)) Classes.END (file_good n) words a [] b [] (is_items one.items n words a fits h) i
    (is_items other.items n words b fits_other k) l in
    let k' : each item other.items words a = subst (λ w. each item other.items words w) (sym e) k in
    let items = unique_items clauses n one.items other.items words a fits fits_other h k' in
    λ x. record { items = items x }

-- no words have two syntax trees
pub file_unique : ClausesUnique → (words : List Word) (one other : File) → Spells one words → Spells other words → one ≡ other
file_unique clauses words one other h k =
    unique_file clauses (max (file_nesting one) (file_nesting other)) words one other (omega arith) (omega arith) h k
