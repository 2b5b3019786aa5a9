-- What a syntax tree spells is derived by the grammar's form, within as many levels as the tree nests.
use Rattle.std.proofs.Common.{◌≡◌, ◌⊎◌, inl, inr, ℕ, zero, suc, ◌+◌, ◌≤◌, List, [], ◌∷◌, refl, subst, arith}
use Rattle.std.specs.Prelude.{Option, Some, None}
use Rattle.grammar_laws.specs.Form.{Form, Word as AWord, Both, Many}
use Rattle.c_grammar.specs.declared.tokens.places.Place.{Place}
use Rattle.c_grammar.specs.Classes
use Rattle.c_grammar.specs.Words.{Word}
use Rattle.c_grammar.specs.Matching.{IsForm}
use Rattle.c_grammar.specs.Trees.{Name, Specifier, Declarator, Fields, Param, Params, BinaryOp, PrefixOp, Expr, Links, Args}
use Rattle.c_grammar.specs.Spelling.{Rule, word, open_paren, name, number, each, maybe, specifier, stars, declarator, fields, struct_body}
use Rattle.c_grammar.specs.Spelling.{param, params, class_of_binary, level_of, size_of, malloc, expr_at, links_at, call_args, more_args}
use Rattle.c_grammar.specs.Nesting.{nesting, links_nesting, args_nesting}
use Rattle.c_grammar.specs.Forms
use Rattle.c_grammar.proofs.Parts.{is_word, is_word_at, is_nothing, is_both, is_first, is_second, is_none, is_more, is_known}

-- a rule leads where the form does
abbrev pub Leads : {A : Type 0} → (A → Rule) → Form → A → Type 0
Leads rule form a = (from to : List Word) → rule a from to → IsForm form from to

pub is_name : (n : Name) → Leads name (AWord Classes.NAME) n
is_name n [] to h = absurd h
is_name n (first ∷ others) to h = is_word (first ∷ others) to (h.0, h.3)

pub is_number : (place : Place) (value : ℕ) (from to : List Word) → number place value from to → IsForm (AWord Classes.NUMBER) from to
is_number place value [] to h = absurd h
is_number place value (first ∷ others) to h = is_word (first ∷ others) to (h.0, h.3)

pub is_open : (from to : List Word) → open_paren from to → IsForm Forms.open_form from to
is_open from to (inl h) = is_first (is_word from to h)
is_open from to (inr h) = is_second (is_word from to h)

pub is_each : {A : Type 0} (rule : A → Rule) (form : Form) → ((a : A) → Leads rule form a) → (all : List A) (from to : List Word)
    → each rule all from to → IsForm (Many form) from to
is_each rule form leads [] from to h = is_none from to h
is_each rule form leads (one ∷ others) from to (mid, h, k) = is_more (leads one from mid h) (is_each rule form leads others mid to k)

pub is_maybe : {A : Type 0} (rule : A → Rule) (form : Form) → ((a : A) → Leads rule form a) → (one : Option A) (from to : List Word)
    → maybe rule one from to → IsForm (Forms.optional form) from to
is_maybe rule form leads None from to h = is_second (is_nothing from to h)
is_maybe rule form leads (Some one) from to h = is_first (leads one from to h)

pub is_specifier : (s : Specifier) → Leads specifier Forms.specifier_form s
is_specifier (Specifier.Int place) from to h = is_first (is_word_at place from to h)
is_specifier (Specifier.Void place) from to h = is_second (is_first (is_word_at place from to h))
is_specifier (Specifier.Struct place tag) from to (mid, h, k) =
    is_second (is_second (is_first (is_both (is_word_at place from mid h) (is_name tag mid to k))))
is_specifier (Specifier.Alias alias) from to h = is_second (is_second (is_second (is_name alias from to h)))

pub is_stars : (count : ℕ) → Leads stars Forms.stars_form count
is_stars zero from to h = is_none from to h
is_stars (suc count) from to (mid, h, k) = is_more (is_word from mid h) (is_stars count mid to k)

pub is_declarator : (d : Declarator) → Leads declarator Forms.declarator_form d
is_declarator d from to (mid, h, k) = is_both (is_stars d.stars from mid h) (is_name d.name mid to k)

pub is_behind_comma : {A : Type 0} (rule : A → Rule) (form : Form) → ((a : A) → Leads rule form a) → (one : A) (from to : List Word)
    → (mid : List Word) × word Classes.COMMA from mid × rule one mid to → IsForm (Both (AWord Classes.COMMA) form) from to
is_behind_comma rule form leads one from to (mid, h, k) = is_both (is_word from mid h) (leads one mid to k)

pub is_fields : (f : Fields) → Leads fields Forms.fields_form f
is_fields f from to (a, h, (b, i, (c, j, k))) =
    is_both (is_specifier f.specifier from a h)
    (is_both (is_declarator f.first a b i)
    (is_both (is_each _ _ (is_behind_comma declarator Forms.declarator_form is_declarator) f.others b c j) (is_word c to k)))

pub is_struct_body : (lines : List Fields) → Leads struct_body Forms.struct_body_form lines
is_struct_body lines from to (a, h, (b, i, k)) =
    is_both (is_word from a h) (is_both (is_each fields Forms.fields_form is_fields lines a b i) (is_word b to k))

pub is_param : (p : Param) → Leads param Forms.param_form p
is_param p from to (a, h, (b, i, k)) =
    is_both (is_specifier p.specifier from a h) (is_both (is_stars p.stars a b i) (is_maybe name _ is_name p.name b to k))

pub is_params : (p : Params) → Leads params Forms.params_form p
is_params Params.NoParams from to h = is_second (is_nothing from to h)
is_params (Params.VoidParams place) from to h =
    is_first (is_both
    (is_both (is_second (is_first (is_word_at place from to h))) (is_both (is_none to to refl) (is_second (is_nothing to to refl))))
    (is_none to to refl))
is_params (Params.Listed first others) from to (alone, (mid, h, k)) =
    is_first (is_both (is_param first from mid h) (is_each _ _ (is_behind_comma param Forms.param_form is_param) others mid to k))

-- the form of an expression that binds as tightly as the level that is so far from a primary one
abbrev pub form_over : ℕ → ℕ → Form
form_over zero n = Forms.primary_form n (Forms.expr_below n)
form_over (suc zero) n = Forms.postfix_form n (Forms.expr_below n)
form_over (suc (suc levels)) n = Forms.chain_form levels (Forms.unary_form n)

as_unary : (n : ℕ) {from to : List Word} → IsForm (Forms.postfix_form n (Forms.expr_below n)) from to → IsForm (Forms.unary_form n) from to
as_unary zero f = is_known (is_second (is_second f))
as_unary (suc n) f = is_known (is_second (is_second f))

-- what binds tighter is a chain of one operand
looser : (levels n : ℕ) (from to : List Word) → IsForm (form_over levels n) from to → IsForm (form_over (suc levels) n) from to
looser zero n from to f = is_both f (is_none to to refl)
looser (suc zero) n from to f = as_unary n f
looser (suc (suc levels)) n from to f = is_both f (is_none to to refl)

pub loosest : (less more n : ℕ) (from to : List Word) → less ≤ more → IsForm (form_over less n) from to → IsForm (form_over more n) from to
loosest less zero n from to fits f = subst (λ l. IsForm (form_over l n) from to) (let e : less ≡ zero = omega arith in e) f
loosest less (suc more) n from to fits f =
    by_case (let c : (less ≤ more) ⊎ (less ≡ suc more) = grind arith in c) (λ g. loosest less more n from to g f)
  where
    by_case : (less ≤ more) ⊎ (less ≡ suc more) → (less ≤ more → IsForm (form_over more n) from to)
        → IsForm (form_over (suc more) n) from to
    by_case (inl g) others = looser more n from to (others g)
    by_case (inr e) others = subst (λ l. IsForm (form_over l n) from to) e f

pub is_op : (op : BinaryOp) (levels : ℕ) (from to : List Word) → level_of op + levels ≡ 5 → word (class_of_binary op) from to
    → IsForm (Forms.ops_form levels) from to
is_op BinaryOp.Or levels from to e h =
    subst (λ l. IsForm (Forms.ops_form l) from to) (let s : 5 ≡ levels = omega arith in s) (is_word from to h)
is_op BinaryOp.And levels from to e h =
    subst (λ l. IsForm (Forms.ops_form l) from to) (let s : 4 ≡ levels = omega arith in s) (is_word from to h)
is_op BinaryOp.Equal levels from to e h =
    subst (λ l. IsForm (Forms.ops_form l) from to) (let s : 3 ≡ levels = omega arith in s) (is_first (is_word from to h))
is_op BinaryOp.NotEqual levels from to e h =
    subst (λ l. IsForm (Forms.ops_form l) from to) (let s : 3 ≡ levels = omega arith in s) (is_second (is_word from to h))
is_op BinaryOp.Less levels from to e h =
    subst (λ l. IsForm (Forms.ops_form l) from to) (let s : 2 ≡ levels = omega arith in s) (is_first (is_word from to h))
is_op BinaryOp.LessEqual levels from to e h =
    subst (λ l. IsForm (Forms.ops_form l) from to) (let s : 2 ≡ levels = omega arith in s) (is_second (is_first (is_word from to h)))
is_op BinaryOp.Greater levels from to e h =
    subst (λ l. IsForm (Forms.ops_form l) from to) (let s : 2 ≡ levels = omega arith in s)
    (is_second (is_second (is_first (is_word from to h))))
is_op BinaryOp.GreaterEqual levels from to e h =
    subst (λ l. IsForm (Forms.ops_form l) from to) (let s : 2 ≡ levels = omega arith in s)
    (is_second (is_second (is_second (is_word from to h))))
is_op BinaryOp.Add levels from to e h =
    subst (λ l. IsForm (Forms.ops_form l) from to) (let s : 1 ≡ levels = omega arith in s) (is_first (is_word from to h))
is_op BinaryOp.Subtract levels from to e h =
    subst (λ l. IsForm (Forms.ops_form l) from to) (let s : 1 ≡ levels = omega arith in s) (is_second (is_word from to h))
is_op BinaryOp.Multiply levels from to e h =
    subst (λ l. IsForm (Forms.ops_form l) from to) (let s : 0 ≡ levels = omega arith in s) (is_word from to h)

-- how far the operands of an operator are from `*`'s
pub levels_left : (op : BinaryOp) → (levels : ℕ) × (level_of op + levels ≡ 5)
levels_left BinaryOp.Or = (5, refl)
levels_left BinaryOp.And = (4, refl)
levels_left BinaryOp.Equal = (3, refl)
levels_left BinaryOp.NotEqual = (3, refl)
levels_left BinaryOp.Less = (2, refl)
levels_left BinaryOp.LessEqual = (2, refl)
levels_left BinaryOp.Greater = (2, refl)
levels_left BinaryOp.GreaterEqual = (2, refl)
levels_left BinaryOp.Add = (1, refl)
levels_left BinaryOp.Subtract = (1, refl)
levels_left BinaryOp.Multiply = (0, refl)

pub is_size_of : (allocated : Specifier) (from to : List Word) → size_of allocated from to
    → IsForm (Both Forms.open_form
    (Both (AWord Classes.SIZEOF)
    (Both Forms.open_form (Both Forms.specifier_form (Both (AWord Classes.CLOSE) (AWord Classes.CLOSE)))))) from to
is_size_of allocated from to (a, h, (b, i, (c, j, (d, k, (e, l, m))))) =
    is_both (is_open from a h)
    (is_both (is_word a b i) (is_both (is_open b c j) (is_both (is_specifier allocated c d k) (is_both (is_word d e l) (is_word e to m)))))

pub is_malloc : (place : Place) (as_type : Option Specifier) (allocated : Specifier) (n : ℕ) (inner : Form) (from to : List Word)
    → malloc place as_type allocated from to → IsForm (Forms.closed_form n inner) from to
is_malloc place None allocated n inner from to (a, h, k) =
    is_second (is_second (is_second (is_second (is_both (is_word_at place from a h) (is_size_of allocated a to k)))))
is_malloc place (Some as_type) allocated n inner from to (a, (b, h, (c, i, (d, j, k))), (e, l, m)) =
    is_second (is_second (is_second (is_first
    (is_both (is_word_at place from b h)
    (is_both (is_specifier as_type b c i)
    (is_both (is_word c d j) (is_both (is_word d a k) (is_both (is_word a e l) (is_size_of allocated e to m)))))))))

-- the name and the arguments of a call, one level deeper
pub is_call : (callee : Name) (n : ℕ) (from a b c to : List Word) → name callee from a → open_paren a b
    → IsForm (Forms.optional (Both (Forms.expr_form n) (Forms.more_of (Forms.expr_form n)))) b c → word Classes.CLOSE c to
    → IsForm (Forms.primary_form (suc n) (Forms.expr_form n)) from to
is_call callee n from a b c to h (inl i) j k =
    is_first (is_both (is_name callee from a h) (is_first (is_first (is_both (is_word a b i) (is_both j (is_word c to k))))))
is_call callee n from a b c to h (inr i) j k =
    is_first (is_both (is_name callee from a h) (is_first (is_second (is_both (is_word a b i) (is_both j (is_word c to k))))))

-- an expression, as its level is so far from a primary one
abbrev pub SpellsForm : Expr → Type 0
SpellsForm e = (level levels n : ℕ) (from to : List Word) → level + levels ≡ 8 → nesting e ≤ n → expr_at level e from to
    → IsForm (form_over levels n) from to

mutual
  pub is_expr : (e : Expr) → SpellsForm e
  is_expr (Expr.Chain first Links.NoLinks) level levels n from to sum fits h = absurd h
  is_expr (Expr.Chain first (Links.Link op second others)) level levels n from to sum fits (least, (a, h, (b, i, (c, j, k)))) =
      let (left, five) = levels_left op in
      loosest (suc (suc (suc left))) levels n from to (omega arith)
      (is_both (is_expr first (level_of op + 1) (suc (suc left)) n from a (omega arith) (omega arith) h)
      (is_more (is_both (is_op op left a b five i) (is_expr second (level_of op + 1) (suc (suc left)) n b c (omega arith) (omega arith) j))
      (is_links others (level_of op) left n c to five (omega arith) k)))
  is_expr (Expr.Prefix place op inner) level levels zero from to sum fits h = absurd (omega arith)
  is_expr (Expr.Prefix place PrefixOp.Negate inner) level levels (suc n) from to sum fits (least, (a, h, k)) =
      loosest 2 levels (suc n) from to (omega arith)
      (is_known (is_first (is_both (is_word_at place from a h) (is_expr inner 6 2 n a to refl (omega arith) k))))
  is_expr (Expr.Prefix place PrefixOp.Not inner) level levels (suc n) from to sum fits (least, (a, h, k)) =
      loosest 2 levels (suc n) from to (omega arith)
      (is_known (is_second (is_first (is_both (is_word_at place from a h) (is_expr inner 6 2 n a to refl (omega arith) k)))))
  is_expr (Expr.Members base first others) level levels n from to sum fits (least, (a, h, (b, i, (c, j, k)))) =
      loosest 1 levels n from to (omega arith)
      (is_both (is_expr base 8 0 n from a refl fits h)
      (is_more (is_both (is_word a b i) (is_name first b c j))
      (is_each _ _ (λ field x y (m, p, q). is_both (is_word x m p) (is_name field m y q)) others c to k)))
  is_expr (Expr.Variable v) level levels n from to sum fits h =
      loosest 0 levels n from to (omega arith) (is_first (is_both (is_name v from to h) (is_second (is_nothing to to refl))))
  is_expr (Expr.Number place value) level levels n from to sum fits h =
      loosest 0 levels n from to (omega arith) (is_second (is_first (is_number place value from to h)))
  is_expr (Expr.Null place) level levels n from to sum fits h =
      loosest 0 levels n from to (omega arith) (is_second (is_second (is_first (is_word_at place from to h))))
  is_expr (Expr.Paren place inner) level levels zero from to sum fits h = absurd (omega arith)
  is_expr (Expr.Paren place inner) level levels (suc n) from to sum fits (a, h, (b, i, k)) =
      loosest 0 levels (suc n) from to (omega arith)
      (is_second (is_second
      (is_second (is_first
      (is_both (is_word_at place from a h) (is_both (is_known (is_expr inner 0 8 n a b refl (omega arith) i)) (is_word b to k)))))))
  is_expr (Expr.Call callee args) level levels zero from to sum fits h = absurd (omega arith)
  is_expr (Expr.Call callee args) level levels (suc n) from to sum fits (a, h, (b, i, (c, j, k))) =
      loosest 0 levels (suc n) from to (omega arith) (is_call callee n from a b c to h i (is_args args n b c (omega arith) j) k)
  is_expr (Expr.Malloc place as_type allocated) level levels n from to sum fits h =
      loosest 0 levels n from to (omega arith) (is_second (is_malloc place as_type allocated n (Forms.expr_below n) from to h))

  pub is_links : (all : Links) (level left n : ℕ) (from to : List Word) → level + left ≡ 5 → links_nesting all ≤ n
      → links_at level all from to
      → IsForm (Many (Both (Forms.ops_form left) (Forms.chain_form left (Forms.unary_form n)))) from to
  is_links Links.NoLinks level left n from to five fits h = is_none from to h
  is_links (Links.Link op operand others) level left n from to five fits (same, (a, h, (b, i, k))) =
      is_more (is_both (is_op op left from a (omega arith) h)
      (is_expr operand (level + 1) (suc (suc left)) n a b (omega arith) (omega arith) i))
      (is_links others level left n b to five (omega arith) k)

  pub is_args : (all : Args) (n : ℕ) (from to : List Word) → args_nesting all ≤ n → call_args all from to
      → IsForm (Forms.optional (Both (Forms.expr_form n) (Forms.more_of (Forms.expr_form n)))) from to
  is_args Args.NoArgs n from to fits h = is_second (is_nothing from to h)
  is_args (Args.Arg first others) n from to fits (a, h, k) =
      is_first (is_both (is_known (is_expr first 0 8 n from a refl (omega arith) h)) (is_more_args others n a to (omega arith) k))

  pub is_more_args : (all : Args) (n : ℕ) (from to : List Word) → args_nesting all ≤ n → more_args all from to
      → IsForm (Forms.more_of (Forms.expr_form n)) from to
  is_more_args Args.NoArgs n from to fits h = is_none from to h
  is_more_args (Args.Arg first others) n from to fits (a, h, (b, i, k)) =
      is_more (is_both (is_word from a h) (is_known (is_expr first 0 8 n a b refl (omega arith) i)))
      (is_more_args others n b to (omega arith) k)
