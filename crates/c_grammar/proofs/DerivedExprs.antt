-- What the grammar's forms derive is spelled by a syntax tree that nests no deeper than the form's levels: expressions.
use Rattle.std.proofs.Common.{◌≡◌, ◌⊎◌, inl, inr, ℕ, zero, suc, ◌+◌, ◌≤◌, Bool, true, false, List, [], ◌∷◌, refl, sym, ◌∙◌, subst, arith}
use Rattle.std.specs.Prelude.{Option, Some, None}
use Rattle.std.specs.Str.Parse.{digits_value}
use Rattle.grammar_laws.specs.Form.{Form, Word as AWord, Closed, Nothing, Both, Either, Many}
use Rattle.c_grammar.specs.declared.tokens.places.Place.{Place}
use Rattle.c_grammar.specs.Classes
use Rattle.c_grammar.specs.Words.{Word}
use Rattle.c_grammar.specs.Matching.{IsForm}
use Rattle.c_grammar.specs.Trees.{Name, Specifier, Fields, Param, Params, BinaryOp, PrefixOp, Expr, Links, Args}
use Rattle.c_grammar.specs.Spelling.{Rule, word, word_at, open_paren, name, number, each, maybe, specifier, stars, declarator, fields}
use Rattle.c_grammar.specs.Spelling.{struct_body, is_void, is_void_alone, param, params, class_of_binary, level_of, class_of_prefix}
use Rattle.c_grammar.specs.Spelling.{size_of, expr_at, links_at, call_args, more_args}
use Rattle.c_grammar.specs.Nesting.{nesting, links_nesting, args_nesting, deepest, maybe_nesting}
use Rattle.c_grammar.specs.Forms
use Rattle.c_grammar.proofs.Parts.{word_part, nothing_part, both_parts, either_part, known_part, IsMany, many_none, many_more, many_parts}

-- a thing that leads from some words to others, and goes no deeper
abbrev pub Found : {A : Type 0} → (A → Rule) → (A → ℕ) → ℕ → List Word → List Word → Type 0
Found {A} rule depth n from to = (a : A) × rule a from to × (depth a ≤ n)

-- a form finds such things
abbrev pub Finds : {A : Type 0} → (A → Rule) → (A → ℕ) → ℕ → Form → Type 0
Finds rule depth n form = (from to : List Word) → IsForm form from to → Found rule depth n from to

abbrev pub flat_depth : {A : Type 0} → A → ℕ
flat_depth a = 0

pub word_rule : (class : ℕ) (from to : List Word) → IsForm (AWord class) from to → word class from to
word_rule class from to f = let (first, c, split) = word_part f in subst (λ w. word class w to) (sym split) (c, refl)

pub word_at_rule : (class : ℕ) (from to : List Word) → IsForm (AWord class) from to → (place : Place) × word_at place class from to
word_at_rule class from to f =
    let (first, c, split) = word_part f in
    (first.place, subst (λ w. word_at first.place class w to) (sym split) (c, refl, refl))

pub name_found : (from to : List Word) → IsForm (AWord Classes.NAME) from to → (n : Name) × name n from to
name_found from to f =
    let (first, c, split) = word_part f in
    let n : Name = record { place = first.place; text = first.text } in
    (n, subst (λ w. name n w to) (sym split) (c, refl, refl, refl))

pub number_found : (from to : List Word) → IsForm (AWord Classes.NUMBER) from to
    → (place : Place) × (value : ℕ) × number place value from to
number_found from to f =
    let (first, c, split) = word_part f in (
      first.place,
      digits_value 10 first.text,
      subst (λ w. number first.place (digits_value 10 first.text) w to) (sym split)
          (c, refl, refl, refl),
    )

pub open_rule : (from to : List Word) → IsForm Forms.open_form from to → open_paren from to
open_rule from to f = by_case (either_part f)
  where
    by_case : IsForm (AWord Classes.OPEN) from to ⊎ IsForm (AWord Classes.CAST) from to → open_paren from to
    by_case (inl g) = inl (word_rule Classes.OPEN from to g)
    by_case (inr g) = inr (word_rule Classes.CAST from to g)

pub each_found : {A : Type 0} (rule : A → Rule) (depth : A → ℕ) (n : ℕ) (form : Form) → Finds rule depth n form
    → (parts : List (List ℕ)) (from to : List Word) → IsMany form parts from to
    → (all : List A) × each rule all from to × (deepest depth all ≤ n)
each_found rule depth n form finds [] from to m = ([], many_none form m, omega arith)
each_found rule depth n form finds (part ∷ parts) from to m =
    let (mid, f, g) = many_more form part parts m in
    let (one, h, fits) = finds from mid f in
    let (others, k, few) = each_found rule depth n form finds parts mid to g in
    (one ∷ others, (mid, h, k), omega arith)

pub many_found : {A : Type 0} (rule : A → Rule) (depth : A → ℕ) (n : ℕ) (form : Form) → Finds rule depth n form
    → (from to : List Word) → IsForm (Many form) from to → (all : List A) × each rule all from to × (deepest depth all ≤ n)
many_found rule depth n form finds from to f = let (parts, m) = many_parts f in each_found rule depth n form finds parts from to m

pub maybe_found : {A : Type 0} (rule : A → Rule) (depth : A → ℕ) (n : ℕ) (form : Form) → Finds rule depth n form
    → (from to : List Word) → IsForm (Forms.optional form) from to
    → (one : Option A) × maybe rule one from to × (maybe_nesting depth one ≤ n)
maybe_found {A} rule depth n form finds from to f = by_case (either_part f)
  where
    by_case : IsForm form from to ⊎ IsForm Nothing from to → (one : Option A) × maybe rule one from to × (maybe_nesting depth one ≤ n)
    by_case (inl g) = let (one, h, fits) = finds from to g in (Some one, h, fits)
    by_case (inr g) = (None, nothing_part g, omega arith)

-- what stands behind a comma
pub comma_finds : {A : Type 0} (rule : A → Rule) (depth : A → ℕ) (n : ℕ) (form : Form) → Finds rule depth n form
    → Finds (λ one from to. (mid : List Word) × word Classes.COMMA from mid × rule one mid to) depth n (Both (AWord Classes.COMMA) form)
comma_finds rule depth n form finds from to f =
    let (mid, comma, g) = both_parts f in
    let (one, h, fits) = finds mid to g in
    (one, (mid, word_rule Classes.COMMA from mid comma, h), fits)

pub specifier_found : (from to : List Word) → IsForm Forms.specifier_form from to → (s : Specifier) × specifier s from to
specifier_found from to f = first (either_part f)
  where
    third : IsForm (Both (AWord Classes.STRUCT) (AWord Classes.NAME)) from to ⊎ IsForm (AWord Classes.NAME) from to
        → (s : Specifier) × specifier s from to
    third (inl g) =
        let (mid, key, tag) = both_parts g in
        let (place, h) = word_at_rule Classes.STRUCT from mid key in
        let (n, k) = name_found mid to tag in
        (Specifier.Struct place n, (mid, h, k))
    third (inr g) = let (n, h) = name_found from to g in (Specifier.Alias n, h)

    second : IsForm (AWord Classes.VOID) from to
        ⊎ IsForm (Either (Both (AWord Classes.STRUCT) (AWord Classes.NAME)) (AWord Classes.NAME)) from to
        → (s : Specifier) × specifier s from to
    second (inl g) = let (place, h) = word_at_rule Classes.VOID from to g in (Specifier.Void place, h)
    second (inr g) = third (either_part g)

    first : IsForm (AWord Classes.INT) from to
        ⊎ IsForm (Either (AWord Classes.VOID) (Either (Both (AWord Classes.STRUCT) (AWord Classes.NAME)) (AWord Classes.NAME))) from to
        → (s : Specifier) × specifier s from to
    first (inl g) = let (place, h) = word_at_rule Classes.INT from to g in (Specifier.Int place, h)
    first (inr g) = second (either_part g)

stars_many : (parts : List (List ℕ)) (from to : List Word) → IsMany (AWord Classes.STAR) parts from to → (count : ℕ) × stars count from to
stars_many [] from to m = (zero, many_none (AWord Classes.STAR) m)
stars_many (part ∷ parts) from to m =
    let (mid, f, g) = many_more (AWord Classes.STAR) part parts m in
    let (count, h) = stars_many parts mid to g in
    (suc count, (mid, word_rule Classes.STAR from mid f, h))

pub stars_found : (from to : List Word) → IsForm Forms.stars_form from to → (count : ℕ) × stars count from to
stars_found from to f = let (parts, m) = many_parts f in stars_many parts from to m

pub declarator_found : (from to : List Word) → IsForm Forms.declarator_form from to → Found declarator flat_depth 0 from to
declarator_found from to f =
    let (mid, g, h) = both_parts f in
    let (count, k) = stars_found from mid g in
    let (n, l) = name_found mid to h in
    (record { stars = count; name = n }, (mid, k, l), omega arith)

pub fields_found : (from to : List Word) → IsForm Forms.fields_form from to → Found fields flat_depth 0 from to
fields_found from to f =
    let (a, g, f1) = both_parts f in
    let (b, h, f2) = both_parts f1 in
    let (c, k, l) = both_parts f2 in
    let (s, sh) = specifier_found from a g in
    let (d, dh, df) = declarator_found a b h in
    let (o, oh, fo) = many_found _ flat_depth 0 _ (comma_finds declarator flat_depth 0 Forms.declarator_form declarator_found) b c k in
    (record { specifier = s; first = d; others = o }, (a, sh, (b, dh, (c, oh, word_rule Classes.SEMICOLON c to l))), omega arith)

pub struct_body_found : (from to : List Word) → IsForm Forms.struct_body_form from to → (lines : List Fields) × struct_body lines from to
struct_body_found from to f =
    let (a, g, f1) = both_parts f in
    let (b, h, k) = both_parts f1 in
    let (lines, lh, few) = many_found fields flat_depth 0 Forms.fields_form fields_found a b h in
    (lines, (a, word_rule Classes.OPEN_BRACE from a g, (b, lh, word_rule Classes.CLOSE_BRACE b to k)))

pub param_found : (from to : List Word) → IsForm Forms.param_form from to → Found param flat_depth 0 from to
param_found from to f =
    let (a, g, f1) = both_parts f in
    let (b, h, k) = both_parts f1 in
    let (s, sh) = specifier_found from a g in
    let (count, ch) = stars_found a b h in
    let (n, nh, few) =
    maybe_found name flat_depth 0 (AWord Classes.NAME) (λ x y w. let (m, mh) = name_found x y w in (m, mh, omega arith)) b to k in
    (record { specifier = s; stars = count; name = n }, (a, sh, (b, ch, nh)), omega arith)

-- a parameter `void` that stands alone leads from its word to the next
void_alone : (s : Specifier) (count : ℕ) (n : Option Name) → is_void s count n ≡ true → (from a b to : List Word) → specifier s from a
    → stars count a b → maybe name n b to
    → (place : Place) × word_at place Classes.VOID from to
void_alone (Specifier.Void place) zero None e from a b to h k l = (place, subst (λ w. word_at place Classes.VOID from w) (k ∙ l) h)
void_alone (Specifier.Void place) zero (Some n) e from a b to h k l = absurd (cc)
void_alone (Specifier.Void place) (suc count) n e from a b to h k l = absurd (cc)
void_alone (Specifier.Int place) count n e from a b to h k l = absurd (cc)
void_alone (Specifier.Struct place tag) count n e from a b to h k l = absurd (cc)
void_alone (Specifier.Alias alias) count n e from a b to h k l = absurd (cc)

pub params_found : (from to : List Word) → IsForm Forms.params_form from to → (p : Params) × params p from to
params_found from to f = by_case (either_part f)
  where
    by_void : (first : Param) (others : List Param) (mid : List Word) → param first from mid
        → each (λ p x y. (m : List Word) × word Classes.COMMA x m × param p m y) others mid to
        → (b : Bool) → is_void_alone first others ≡ b → (p : Params) × params p from to
    by_void first others mid h k false e = (Params.Listed first others, (e, (mid, h, k)))
    by_void first [] mid (a, h, (b, i, j)) k true e =
        let (place, w) = void_alone first.specifier first.stars first.name e from a b mid h i j in
        (Params.VoidParams place, subst (λ v. word_at place Classes.VOID from v) k w)
    by_void first (other ∷ others) mid h k true e = absurd (cc)

    by_case : IsForm (Both Forms.param_form (Forms.more_of Forms.param_form)) from to ⊎ IsForm Nothing from to
        → (p : Params) × params p from to
    by_case (inl g) =
        let (mid, h, k) = both_parts g in
        let (first, fh, few) = param_found from mid h in
        let (others, oh, fo) = many_found _ flat_depth 0 _ (comma_finds param flat_depth 0 Forms.param_form param_found) mid to k in
        by_void first others mid fh oh (is_void_alone first others) refl
    by_case (inr g) = (Params.NoParams, nothing_part g)

-- an expression that binds as tightly as the level
abbrev pub FoundExpr : ℕ → ℕ → List Word → List Word → Type 0
FoundExpr level n from to = Found (expr_at level) nesting n from to

-- what binds tighter binds as tightly
pub tighter : (e : Expr) (level less : ℕ) → less ≤ level → (from to : List Word) → expr_at level e from to → expr_at less e from to
tighter (Expr.Chain first Links.NoLinks) level less fits from to h = h
tighter (Expr.Chain first (Links.Link op second others)) level less fits from to h = (omega arith, h.1)
tighter (Expr.Prefix place op inner) level less fits from to h = (omega arith, h.1)
tighter (Expr.Members base first others) level less fits from to h = (omega arith, h.1)
tighter (Expr.Variable v) level less fits from to h = h
tighter (Expr.Number place value) level less fits from to h = h
tighter (Expr.Null place) level less fits from to h = h
tighter (Expr.Paren place inner) level less fits from to h = h
tighter (Expr.Call callee args) level less fits from to h = h
tighter (Expr.Malloc place as_type allocated) level less fits from to h = h

tighter_found : (level less n : ℕ) → less ≤ level → (from to : List Word) → FoundExpr level n from to → FoundExpr less n from to
tighter_found level less n fits from to (e, h, deep) = (e, tighter e level less fits from to h, deep)

-- an operator of a level
abbrev pub FoundOp : ℕ → List Word → List Word → Type 0
FoundOp levels from to = (op : BinaryOp) × word (class_of_binary op) from to × (level_of op + levels ≡ 5)

op_found : (levels : ℕ) → levels ≤ 5 → (from to : List Word) → IsForm (Forms.ops_form levels) from to → FoundOp levels from to
op_found zero fits from to f = (BinaryOp.Multiply, word_rule Classes.STAR from to f, refl)
op_found (suc zero) fits from to f = by_case (either_part f)
  where
    by_case : IsForm (AWord Classes.PLUS) from to ⊎ IsForm (AWord Classes.MINUS) from to → FoundOp 1 from to
    by_case (inl g) = (BinaryOp.Add, word_rule Classes.PLUS from to g, refl)
    by_case (inr g) = (BinaryOp.Subtract, word_rule Classes.MINUS from to g, refl)
op_found (suc (suc zero)) fits from to f = first (either_part f)
  where
    third : IsForm (AWord Classes.GREATER) from to ⊎ IsForm (AWord Classes.GREATER_EQUAL) from to → FoundOp 2 from to
    third (inl g) = (BinaryOp.Greater, word_rule Classes.GREATER from to g, refl)
    third (inr g) = (BinaryOp.GreaterEqual, word_rule Classes.GREATER_EQUAL from to g, refl)

    second : IsForm (AWord Classes.LESS_EQUAL) from to ⊎ IsForm (Either (AWord Classes.GREATER) (AWord Classes.GREATER_EQUAL)) from to
        → FoundOp 2 from to
    second (inl g) = (BinaryOp.LessEqual, word_rule Classes.LESS_EQUAL from to g, refl)
    second (inr g) = third (either_part g)

    first : IsForm (AWord Classes.LESS) from to
        ⊎ IsForm (Either (AWord Classes.LESS_EQUAL) (Either (AWord Classes.GREATER) (AWord Classes.GREATER_EQUAL))) from to
        → FoundOp 2 from to
    first (inl g) = (BinaryOp.Less, word_rule Classes.LESS from to g, refl)
    first (inr g) = second (either_part g)
op_found (suc (suc (suc zero))) fits from to f = by_case (either_part f)
  where
    by_case : IsForm (AWord Classes.EQUAL) from to ⊎ IsForm (AWord Classes.NOT_EQUAL) from to → FoundOp 3 from to
    by_case (inl g) = (BinaryOp.Equal, word_rule Classes.EQUAL from to g, refl)
    by_case (inr g) = (BinaryOp.NotEqual, word_rule Classes.NOT_EQUAL from to g, refl)
op_found (suc (suc (suc (suc zero)))) fits from to f = (BinaryOp.And, word_rule Classes.AND from to f, refl)
op_found (suc (suc (suc (suc (suc more))))) fits from to f =
    (BinaryOp.Or, word_rule Classes.OR from to f, omega arith)

abbrev pub FoundLinks : ℕ → ℕ → List Word → List Word → Type 0
FoundLinks level n from to = Found (links_at level) links_nesting n from to

abbrev pub FindsExpr : ℕ → ℕ → Form → Type 0
FindsExpr level n form = (from to : List Word) → IsForm form from to → FoundExpr level n from to

links_found : (level levels n : ℕ) (operand : Form) → level + levels ≡ 5 → FindsExpr (level + 1) n operand
    → (parts : List (List ℕ)) (from to : List Word) → IsMany (Both (Forms.ops_form levels) operand) parts from to
    → FoundLinks level n from to
links_found level levels n operand five finds [] from to m =
    (Links.NoLinks, many_none (Both (Forms.ops_form levels) operand) m, omega arith)
links_found level levels n operand five finds (part ∷ parts) from to m =
    let (mid, f, g) = many_more (Both (Forms.ops_form levels) operand) part parts m in
    let (a, o, e) = both_parts f in
    let (op, oh, is_level) = op_found levels (omega arith) from a o in
    let (one, eh, deep) = finds a mid e in
    let (others, lh, few) = links_found level levels n operand five finds parts mid to g in
    let same : level_of op ≡ level = omega arith in
    (Links.Link op one others, (same, (a, oh, (mid, eh, lh))), omega arith)

-- an operand alone, or a chain
chain_found : (level levels n : ℕ) (operand : Form) → level + levels ≡ 5 → FindsExpr (level + 1) n operand
    → FindsExpr level n (Both operand (Many (Both (Forms.ops_form levels) operand)))
chain_found level levels n operand five finds from to f =
    let (mid, g, h) = both_parts f in
    let (first, fh, deep) = finds from mid g in
    let (parts, m) = many_parts h in
    by_parts mid first fh deep parts m
  where
    by_parts : (mid : List Word) (first : Expr) → expr_at (level + 1) first from mid → nesting first ≤ n → (parts : List (List ℕ))
        → IsMany (Both (Forms.ops_form levels) operand) parts mid to → FoundExpr level n from to
    by_parts mid first fh deep [] m = (
      first,
      subst (λ w. expr_at level first from w) (many_none (Both (Forms.ops_form levels) operand) m)
          (tighter first (level + 1) level (omega arith) from mid fh),
      deep,
    )
    by_parts mid first fh deep (part ∷ parts) m =
        let (end, k, l) = many_more (Both (Forms.ops_form levels) operand) part parts m in
        let (a, o, e) = both_parts k in
        let (op, oh, is_level) = op_found levels (omega arith) mid a o in
        let (second, eh, sdeep) = finds a end e in
        let (others, lh, few) = links_found level levels n operand five finds parts end to l in
        let same : level ≡ level_of op = omega arith in
        let fh' : expr_at (level_of op + 1) first from mid = subst (λ x. expr_at (x + 1) first from mid) same fh in
        let eh' : expr_at (level_of op + 1) second a end = subst (λ x. expr_at (x + 1) second a end) same eh in
        let lh' : links_at (level_of op) others end to = subst (λ x. links_at x others end to) same lh in
        (Expr.Chain first (Links.Link op second others), (omega arith, (mid, fh', (a, oh, (end, eh', lh')))), omega arith)

-- the same over all levels
chains_found : (n : ℕ) → FindsExpr 6 n (Forms.unary_form n) → (levels level : ℕ) → level + levels ≡ 6
    → FindsExpr level n (Forms.chain_form levels (Forms.unary_form n))
chains_found n finds zero level six from to f = tighter_found 6 level n (omega arith) from to (finds from to f)
chains_found n finds (suc levels) level six from to f =
    chain_found level levels n (Forms.chain_form levels (Forms.unary_form n)) (omega arith)
    (λ x y g. chains_found n finds levels (level + 1) (omega arith) x y g) from to f

whole_found : (n : ℕ) → FindsExpr 6 n (Forms.unary_form n) → FindsExpr 0 n (Forms.expr_form n)
whole_found n finds from to f = chains_found n finds 6 0 refl from to (known_part f)

more_args_found : (n : ℕ) → FindsExpr 0 n (Forms.expr_form n) → (parts : List (List ℕ)) (from to : List Word)
    → IsMany (Both (AWord Classes.COMMA) (Forms.expr_form n)) parts from to → Found more_args args_nesting n from to
more_args_found n finds [] from to m = (Args.NoArgs, many_none (Both (AWord Classes.COMMA) (Forms.expr_form n)) m, omega arith)
more_args_found n finds (part ∷ parts) from to m =
    let (mid, f, g) = many_more (Both (AWord Classes.COMMA) (Forms.expr_form n)) part parts m in
    let (a, comma, e) = both_parts f in
    let (one, eh, deep) = finds a mid e in
    let (others, oh, few) = more_args_found n finds parts mid to g in
    (Args.Arg one others, (a, word_rule Classes.COMMA from a comma, (mid, eh, oh)), omega arith)

pub args_found : (n : ℕ) → FindsExpr 0 n (Forms.expr_form n) → (from to : List Word)
    → IsForm (Forms.optional (Both (Forms.expr_form n) (Forms.more_of (Forms.expr_form n)))) from to
    → Found call_args args_nesting n from to
args_found n finds from to f = by_case (either_part f)
  where
    by_case : IsForm (Both (Forms.expr_form n) (Forms.more_of (Forms.expr_form n))) from to ⊎ IsForm Nothing from to
        → Found call_args args_nesting n from to
    by_case (inl g) =
        let (mid, e, h) = both_parts g in
        let (first, eh, deep) = finds from mid e in
        let (parts, m) = many_parts h in
        let (others, oh, few) = more_args_found n finds parts mid to m in
        (Args.Arg first others, (mid, eh, oh), omega arith)
    by_case (inr g) = (Args.NoArgs, nothing_part g, omega arith)

size_of_found : (from to : List Word)
    → IsForm (Both Forms.open_form
    (Both (AWord Classes.SIZEOF)
    (Both Forms.open_form (Both Forms.specifier_form (Both (AWord Classes.CLOSE) (AWord Classes.CLOSE)))))) from to
    → (allocated : Specifier) × size_of allocated from to
size_of_found from to f =
    let (a, p, f1) = both_parts f in
    let (b, q, f2) = both_parts f1 in
    let (c, r, f3) = both_parts f2 in
    let (d, s, f4) = both_parts f3 in
    let (e, t, u) = both_parts f4 in
    let (allocated, th) = specifier_found c d s in (
      allocated,
      (
        a,
        open_rule from a p,
        (
          b,
          word_rule Classes.SIZEOF a b q,
          (c, open_rule b c r, (d, th, (e, word_rule Classes.CLOSE d e t, word_rule Classes.CLOSE e to u))),
        ),
      ),
    )

malloc_found : (n : ℕ) (from to : List Word) → IsForm Forms.malloc_form from to → FoundExpr 8 n from to
malloc_found n from to f =
    let (a, p, g) = both_parts f in
    let (place, ph) = word_at_rule Classes.MALLOC from a p in
    let (allocated, th) = size_of_found a to g in
    (Expr.Malloc place None allocated, (a, ph, th), omega arith)

cast_found : (n : ℕ) (from to : List Word) → IsForm Forms.cast_form from to → FoundExpr 8 n from to
cast_found n from to f =
    let (a, p, f1) = both_parts f in
    let (b, q, f2) = both_parts f1 in
    let (c, r, f3) = both_parts f2 in
    let (d, s, f4) = both_parts f3 in
    let (e, t, u) = both_parts f4 in
    let (place, ph) = word_at_rule Classes.CAST from a p in
    let (as_type, ah) = specifier_found a b q in
    let (allocated, th) = size_of_found e to u in (
      Expr.Malloc place (Some as_type) allocated,
      (d, (a, ph, (b, ah, (c, word_rule Classes.STAR b c r, word_rule Classes.CLOSE c d s))), (e, word_rule Classes.MALLOC d e t, th)),
      omega arith,
    )

-- what is found one level deeper, if there is one
abbrev pub FindsBelow : ℕ → Type 0
FindsBelow zero = Unit {0}
FindsBelow (suc n) = FindsExpr 0 n (Forms.expr_form n)

paren_found : (n : ℕ) → FindsBelow n → (from to : List Word)
    → IsForm (Forms.nest n Classes.OPEN (Both (Forms.expr_below n) (AWord Classes.CLOSE))) from to → FoundExpr 8 n from to
paren_found zero below from to f = absurd f.derives
paren_found (suc n) below from to f =
    let (a, p, g) = both_parts f in
    let (b, e, q) = both_parts g in
    let (place, ph) = word_at_rule Classes.OPEN from a p in
    let (inner, eh, deep) = below a b e in
    (Expr.Paren place inner, (a, ph, (b, eh, word_rule Classes.CLOSE b to q)), omega arith)

closed_found : (n : ℕ) → FindsBelow n → (from to : List Word) → IsForm (Forms.closed_form n (Forms.expr_below n)) from to
    → FoundExpr 8 n from to
closed_found n below from to f = first (either_part f)
  where
    fourth : IsForm Forms.cast_form from to ⊎ IsForm Forms.malloc_form from to → FoundExpr 8 n from to
    fourth (inl g) = cast_found n from to g
    fourth (inr g) = malloc_found n from to g

    third : IsForm (Forms.nest n Classes.OPEN (Both (Forms.expr_below n) (AWord Classes.CLOSE))) from to
        ⊎ IsForm (Either Forms.cast_form Forms.malloc_form) from to → FoundExpr 8 n from to
    third (inl g) = paren_found n below from to g
    third (inr g) = fourth (either_part g)

    second : IsForm (AWord Classes.NULL) from to
        ⊎ IsForm (Either (Forms.nest n Classes.OPEN (Both (Forms.expr_below n) (AWord Classes.CLOSE)))
        (Either Forms.cast_form Forms.malloc_form)) from to → FoundExpr 8 n from to
    second (inl g) = let (place, h) = word_at_rule Classes.NULL from to g in (Expr.Null place, h, omega arith)
    second (inr g) = third (either_part g)

    first : IsForm (AWord Classes.NUMBER) from to
        ⊎ IsForm (Either (AWord Classes.NULL)
        (Either (Forms.nest n Classes.OPEN (Both (Forms.expr_below n) (AWord Classes.CLOSE)))
        (Either Forms.cast_form Forms.malloc_form))) from to → FoundExpr 8 n from to
    first (inl g) = let (place, value, h) = number_found from to g in (Expr.Number place value, h, omega arith)
    first (inr g) = second (either_part g)

call_found : (n : ℕ) → FindsBelow n → (from mid to : List Word) → IsForm (AWord Classes.NAME) from mid
    → IsForm (Forms.call_form n (Forms.expr_below n)) mid to → FoundExpr 8 n from to
call_found zero below from mid to named call = by_case (either_part call)
  where
    by_case : IsForm (Closed Classes.OPEN) mid to ⊎ IsForm (Closed Classes.CAST) mid to → FoundExpr 8 zero from to
    by_case (inl g) = absurd g.derives
    by_case (inr g) = absurd g.derives
call_found (suc n) below from mid to named call = by_case (either_part call)
  where
    by_args : (a : List Word) → open_paren mid a
        → IsForm (Both (Forms.optional (Both (Forms.expr_form n) (Forms.more_of (Forms.expr_form n)))) (AWord Classes.CLOSE)) a to
        → FoundExpr 8 (suc n) from to
    by_args a paren g =
        let (b, h, close) = both_parts g in
        let (callee, ch) = name_found from mid named in
        let (args, ah, deep) = args_found n below a b h in
        (Expr.Call callee args, (mid, ch, (a, paren, (b, ah, word_rule Classes.CLOSE b to close))), omega arith)

    by_case : IsForm
        (Both (AWord Classes.OPEN)
        (Both (Forms.optional (Both (Forms.expr_form n) (Forms.more_of (Forms.expr_form n)))) (AWord Classes.CLOSE))) mid to
        ⊎ IsForm (Both (AWord Classes.CAST)
        (Both (Forms.optional (Both (Forms.expr_form n) (Forms.more_of (Forms.expr_form n)))) (AWord Classes.CLOSE))) mid to
        → FoundExpr 8 (suc n) from to
    by_case (inl g) = let (a, paren, h) = both_parts g in by_args a (inl (word_rule Classes.OPEN mid a paren)) h
    by_case (inr g) = let (a, paren, h) = both_parts g in by_args a (inr (word_rule Classes.CAST mid a paren)) h

primary_found : (n : ℕ) → FindsBelow n → (from to : List Word) → IsForm (Forms.primary_form n (Forms.expr_below n)) from to
    → FoundExpr 8 n from to
primary_found n below from to f = by_case (either_part f)
  where
    by_call : (mid : List Word) → IsForm (AWord Classes.NAME) from mid
        → IsForm (Forms.call_form n (Forms.expr_below n)) mid to ⊎ IsForm Nothing mid to → FoundExpr 8 n from to
    by_call mid named (inl call) = call_found n below from mid to named call
    by_call mid named (inr none) =
        let (v, h) = name_found from mid named in
        (Expr.Variable v, subst (λ w. name v from w) (nothing_part none) h, omega arith)

    by_case : IsForm (Both (AWord Classes.NAME) (Forms.optional (Forms.call_form n (Forms.expr_below n)))) from to
        ⊎ IsForm (Forms.closed_form n (Forms.expr_below n)) from to → FoundExpr 8 n from to
    by_case (inl g) = let (mid, named, call) = both_parts g in by_call mid named (either_part call)
    by_case (inr g) = closed_found n below from to g

member_found : (from to : List Word) → IsForm (Both (AWord Classes.ARROW) (AWord Classes.NAME)) from to
    → Found (λ field x y. (mid : List Word) × word Classes.ARROW x mid × name field mid y) flat_depth 0 from to
member_found from to f =
    let (mid, arrow, named) = both_parts f in
    let (field, h) = name_found mid to named in
    (field, (mid, word_rule Classes.ARROW from mid arrow, h), omega arith)

pub postfix_found : (n : ℕ) → FindsBelow n → (from to : List Word) → IsForm (Forms.postfix_form n (Forms.expr_below n)) from to
    → FoundExpr 7 n from to
postfix_found n below from to f =
    let (mid, primary, members) = both_parts f in
    let (base, bh, deep) = primary_found n below from mid primary in
    let (fields, fh, few) = many_found _ flat_depth 0 _ member_found mid to members in
    by_fields mid base bh deep fields fh
  where
    by_fields : (mid : List Word) (base : Expr) → expr_at 8 base from mid → nesting base ≤ n → (fields : List Name)
        → each (λ field x y. (m : List Word) × word Classes.ARROW x m × name field m y) fields mid to → FoundExpr 7 n from to
    by_fields mid base bh deep [] same = (base, subst (λ w. expr_at 7 base from w) same (tighter base 8 7 (omega arith) from mid bh), deep)
    by_fields mid base bh deep (field ∷ fields) (b, (a, arrow, named), others) =
        (Expr.Members base field fields, (omega arith, (mid, bh, (a, arrow, (b, named, others)))), deep)

minus_found : (n : ℕ) → FindsExpr 6 n (Forms.unary_form n) → (op : PrefixOp) (from to : List Word)
    → IsForm (Both (AWord (class_of_prefix op)) (Forms.unary_form n)) from to → FoundExpr 6 (suc n) from to
minus_found n finds op from to f =
    let (mid, sign, e) = both_parts f in
    let (place, ph) = word_at_rule (class_of_prefix op) from mid sign in
    let (inner, eh, deep) = finds mid to e in
    (Expr.Prefix place op inner, (omega arith, (mid, ph, eh)), omega arith)

pub unary_found : (n : ℕ) → FindsExpr 6 n (Forms.unary_form n)
unary_found zero from to f = first (either_part (known_part f))
  where
    second : IsForm (Closed Classes.NOT) from to ⊎ IsForm (Forms.postfix_form zero Nothing) from to → FoundExpr 6 zero from to
    second (inl g) = absurd g.derives
    second (inr g) = tighter_found 7 6 zero (omega arith) from to (postfix_found zero tt from to g)

    first : IsForm (Closed Classes.MINUS) from to ⊎ IsForm (Either (Closed Classes.NOT) (Forms.postfix_form zero Nothing)) from to
        → FoundExpr 6 zero from to
    first (inl g) = absurd g.derives
    first (inr g) = second (either_part g)
unary_found (suc n) from to f = first (unary_found n) (either_part (known_part f))
  where
    second : FindsExpr 6 n (Forms.unary_form n)
        → IsForm (Both (AWord Classes.NOT) (Forms.unary_form n)) from to ⊎ IsForm (Forms.postfix_form (suc n) (Forms.expr_form n)) from to
        → FoundExpr 6 (suc n) from to
    second finds (inl g) = minus_found n finds PrefixOp.Not from to g
    second finds (inr g) = tighter_found 7 6 (suc n) (omega arith) from to (postfix_found (suc n) (whole_found n finds) from to g)

    first : FindsExpr 6 n (Forms.unary_form n)
        → IsForm (Both (AWord Classes.MINUS) (Forms.unary_form n)) from to
        ⊎ IsForm (Either (Both (AWord Classes.NOT) (Forms.unary_form n)) (Forms.postfix_form (suc n) (Forms.expr_form n))) from to
        → FoundExpr 6 (suc n) from to
    first finds (inl g) = minus_found n finds PrefixOp.Negate from to g
    first finds (inr g) = second finds (either_part g)

pub expr_found : (n : ℕ) → FindsExpr 0 n (Forms.expr_form n)
expr_found n = whole_found n (unary_found n)

pub below_found : (n : ℕ) → FindsBelow n
below_found zero = tt
below_found (suc n) = expr_found n
