-- Words that are the same but for their places are spelled by trees that are the same but for theirs.
use Rattle.std.proofs.Common.{◌≡◌, inl, inr, ℕ, zero, suc, ◌+◌, false, List, [], ◌∷◌, refl, sym, ap, ◌∙◌, subst}
use Rattle.std.specs.Prelude.{max, if◌then◌else◌, codes, Option, Some, None, map}
use Rattle.std.specs.Str.{bytes_eq}
use Rattle.std.specs.Str.Parse.{digits_value}
use Rattle.c_grammar.specs.declared.tokens.places.Place.{Place}
use Rattle.c_grammar.specs.declared.tokens.token.Token.{Token}
use Rattle.c_grammar.specs.declared.tokens.token.TokenKind.{TokenKind}
use Rattle.c_grammar.specs.declared.tokens.token.TokenKind.TheVariants as kind
use Rattle.c_grammar.specs.Tokens.Laws.{Spelling, spelling}
use Rattle.c_grammar.specs.declared.class.Class.TheVariants as class
use Rattle.c_grammar.specs.Classes
use Rattle.c_grammar.specs.Classes.{class_in, signs, number_of}
use Rattle.c_grammar.specs.Words.{Word, begins_cast, class_of, words_of}
use Rattle.c_grammar.specs.Trees.{Name, Specifier, Param, Params, Expr, Links, Args, Simple, Initialized, Local, ForInit, Stmt, Stmts, Item}
use Rattle.c_grammar.specs.Trees.{File}
use Rattle.c_grammar.specs.Spelling.{Rule, ◌⨾◌, word, word_at, open_paren, name, number, each, maybe, specifier, stars, declarator, fields}
use Rattle.c_grammar.specs.Spelling.{struct_body, param, is_void, is_void_alone, params, head, class_of_binary, level_of, class_of_prefix}
use Rattle.c_grammar.specs.Spelling.{cast, size_of, malloc, expr_at, links_at, call_args, more_args, class_of_assign, class_of_step, simple}
use Rattle.c_grammar.specs.Spelling.{initialized, local, for_init, NoElse, stmt, stmts, item, Spells}
use Rattle.c_grammar.specs.Nesting.{nesting, links_nesting, args_nesting, deepest, maybe_nesting, simple_nesting, initialized_nesting}
use Rattle.c_grammar.specs.Nesting.{local_nesting, init_nesting, stmt_nesting, stmts_nesting, item_nesting, file_nesting}
use Rattle.c_grammar.specs.Placeless.{nowhere, placeless_maybe, placeless_name, placeless_specifier, placeless_declarator, placeless_fields}
use Rattle.c_grammar.specs.Placeless.{placeless_param, placeless_params, placeless_head, placeless_expr, placeless_links, placeless_args}
use Rattle.c_grammar.specs.Placeless.{placeless_simple, placeless_initialized, placeless_local, placeless_init, placeless_stmt}
use Rattle.c_grammar.specs.Placeless.{placeless_stmts, placeless_item, placeless}

abbrev pub IsAlike : Word → Word → Type 0
IsAlike one other = (one.class ≡ other.class) × (one.text ≡ other.text)

-- the same words but for their places
abbrev pub AreAlike : List Word → List Word → Type 0
AreAlike [] [] = Unit {0}
AreAlike [] (other ∷ others') = ⊥
AreAlike (one ∷ others) [] = ⊥
AreAlike (one ∷ others) (other ∷ others') = IsAlike one other × AreAlike others others'

-- the rule leads from these words too, to words like those that it led to before
abbrev Onward : Rule → List Word → List Word → Type 0
Onward rule to from' = (to' : List Word) × rule from' to' × AreAlike to to'

-- a tree like this one leads from these words to words like those that this one leads to
abbrev Again : {A : Type 0} → (A → Rule) → (A → A) → A → List Word → List Word → Type 0
Again {A} rule strip one to from' = (one' : A) × (to' : List Word) × rule one' from' to' × AreAlike to to' × (strip one' ≡ strip one)

abbrev Repeats : {A : Type 0} → (A → Rule) → (A → A) → Type 0
Repeats {A} rule strip = (one : A) (from to from' : List Word) → rule one from to → AreAlike from from' → Again rule strip one to from'

again_word : (class : ℕ) (from to from' : List Word) → word class from to → AreAlike from from' → Onward (word class) to from'
again_word class [] to from' h alike = absurd h
again_word class (first ∷ others) to [] h alike = absurd alike
again_word class (first ∷ others) to (first' ∷ others') h alike =
    (others', (sym alike.0.0 ∙ h.0, refl), subst (λ w. AreAlike w others') h.1 alike.1)

again_open : (from to from' : List Word) → open_paren from to → AreAlike from from' → Onward open_paren to from'
again_open from to from' (inl h) alike = let (to', h', b) = again_word Classes.OPEN from to from' h alike in (to', inl h', b)
again_open from to from' (inr h) alike = let (to', h', b) = again_word Classes.CAST from to from' h alike in (to', inr h', b)

again_word_at : (place : Place) (class : ℕ) (from to from' : List Word) → word_at place class from to → AreAlike from from'
    → (place' : Place) × (to' : List Word) × word_at place' class from' to' × AreAlike to to'
again_word_at place class [] to from' h alike = absurd h
again_word_at place class (first ∷ others) to [] h alike = absurd alike
again_word_at place class (first ∷ others) to (first' ∷ others') h alike =
    (first'.place, others', (sym alike.0.0 ∙ h.0, refl, refl), subst (λ w. AreAlike w others') h.2 alike.1)

again_name : Repeats name placeless_name
again_name n [] to from' h alike = absurd h
again_name n (first ∷ others) to [] h alike = absurd alike
again_name n (first ∷ others) to (first' ∷ others') h alike =
    let same : first'.text ≡ n.text = sym alike.0.1 ∙ h.2 in (
      record { place = first'.place; text = first'.text },
      others',
      (sym alike.0.0 ∙ h.0, refl, refl, refl),
      subst (λ w. AreAlike w others') h.3 alike.1,
      λ i. record { place = nowhere; text = same i },
    )

again_number : (place : Place) (value : ℕ) (from to from' : List Word) → number place value from to → AreAlike from from'
    → (place' : Place) × (to' : List Word) × number place' value from' to' × AreAlike to to'
again_number place value [] to from' h alike = absurd h
again_number place value (first ∷ others) to [] h alike = absurd alike
again_number place value (first ∷ others) to (first' ∷ others') h alike = (
  first'.place,
  others',
  (sym alike.0.0 ∙ h.0, refl, h.2 ∙ ap (digits_value 10) alike.0.1, refl),
  subst
      (λ w. AreAlike w others') h.3 alike.1,
)

again_each : {A : Type 0} (rule : A → Rule) (strip : A → A) → Repeats rule strip → Repeats (each rule) (map strip)
again_each rule strip again [] from to from' h alike = ([], from', refl, subst (λ w. AreAlike w from') h alike, refl)
again_each rule strip again (one ∷ others) from to from' (m, h, k) alike =
    let (one', m', h', b, e) = again one from m from' h alike in
    let (others', to', k', c, f) = again_each rule strip again others m to m' k b in
    (one' ∷ others', to', (m', h', k'), c, λ i. e i ∷ f i)

again_maybe : {A : Type 0} (rule : A → Rule) (strip : A → A) → Repeats rule strip → Repeats (maybe rule) (placeless_maybe strip)
again_maybe rule strip again None from to from' h alike = (None, from', refl, subst (λ w. AreAlike w from') h alike, refl)
again_maybe rule strip again (Some one) from to from' h alike =
    let (one', to', h', b, e) = again one from to from' h alike in
    (Some one', to', h', b, λ i. Some (e i))

again_behind : {A : Type 0} (class : ℕ) (rule : A → Rule) (strip : A → A) → Repeats rule strip
    → Repeats (λ one. word class ⨾ rule one) strip
again_behind class rule strip again one from to from' (m, h, k) alike =
    let (m', h', b) = again_word class from m from' h alike in
    let (one', to', k', c, e) = again one m to m' k b in
    (one', to', (m', h', k'), c, e)

again_specifier : Repeats specifier placeless_specifier
again_specifier (Specifier.Int place) from to from' h alike =
    let (p, to', h', b) = again_word_at place Classes.INT from to from' h alike in (Specifier.Int p, to', h', b, refl)
again_specifier (Specifier.Void place) from to from' h alike =
    let (p, to', h', b) = again_word_at place Classes.VOID from to from' h alike in (Specifier.Void p, to', h', b, refl)
again_specifier (Specifier.Struct place tag) from to from' (m, h, k) alike =
    let (p, m', h', b) = again_word_at place Classes.STRUCT from m from' h alike in
    let (tag', to', k', c, e) = again_name tag m to m' k b in
    (Specifier.Struct p tag', to', (m', h', k'), c, λ i. Specifier.Struct nowhere (e i))
again_specifier (Specifier.Alias alias) from to from' h alike =
    let (alias', to', h', b, e) = again_name alias from to from' h alike in (Specifier.Alias alias', to', h', b, λ i. Specifier.Alias (e i))

again_stars : (count : ℕ) (from to from' : List Word) → stars count from to → AreAlike from from' → Onward (stars count) to from'
again_stars zero from to from' h alike = (from', refl, subst (λ w. AreAlike w from') h alike)
again_stars (suc count) from to from' (m, h, k) alike =
    let (m', h', b) = again_word Classes.STAR from m from' h alike in
    let (to', k', c) = again_stars count m to m' k b in
    (to', (m', h', k'), c)

again_declarator : Repeats declarator placeless_declarator
again_declarator d from to from' (m, h, k) alike =
    let (m', h', b) = again_stars d.stars from m from' h alike in
    let (n', to', k', c, e) = again_name d.name m to m' k b in
    (record { stars = d.stars; name = n' }, to', (m', h', k'), c, λ i. record { stars = d.stars; name = e i })

again_fields : Repeats fields placeless_fields
again_fields line from to from' (m, h, (n, k, (o, l, q))) alike =
    let (s', m', h', b, e) = again_specifier line.specifier from m from' h alike in
    let (d', n', k', c, f) = again_declarator line.first m n m' k b in
    let (ds', o', l', d, g) =
    again_each _ placeless_declarator
    (again_behind Classes.COMMA declarator placeless_declarator again_declarator) line.others n o n' l c in
    let (to', q', t) = again_word Classes.SEMICOLON o to o' q d in (
      record { specifier = s'; first = d'; others = ds' },
      to',
      (m', h', (n', k', (o', l', q'))),
      t,
      λ i.
          record { specifier = e i; first = f i; others = g i },
    )

again_struct_body : Repeats struct_body (map placeless_fields)
again_struct_body lines from to from' (m, h, (n, k, l)) alike =
    let (m', h', b) = again_word Classes.OPEN_BRACE from m from' h alike in
    let (lines', n', k', c, e) = again_each fields placeless_fields again_fields lines m n m' k b in
    let (to', l', d) = again_word Classes.CLOSE_BRACE n to n' l c in
    (lines', to', (m', h', (n', k', l')), d, e)

again_param : Repeats param placeless_param
again_param p from to from' (m, h, (n, k, l)) alike =
    let (s', m', h', b, e) = again_specifier p.specifier from m from' h alike in
    let (n', k', c) = again_stars p.stars m n m' k b in
    let (name', to', l', d, f) = again_maybe name placeless_name again_name p.name n to n' l c in (
      record { specifier = s'; stars = p.stars; name = name' },
      to',
      (m', h', (n', k', l')),
      d,
      λ i.
          record { specifier = e i; stars = p.stars; name = f i },
    )

void_placeless : (s : Specifier) (count : ℕ) (n : Option Name)
    → is_void (placeless_specifier s) count (placeless_maybe placeless_name n) ≡ is_void s count n
void_placeless (Specifier.Int place) count n = refl
void_placeless (Specifier.Void place) zero None = refl
void_placeless (Specifier.Void place) zero (Some n) = refl
void_placeless (Specifier.Void place) (suc count) n = refl
void_placeless (Specifier.Struct place tag) count n = refl
void_placeless (Specifier.Alias alias) count n = refl

alone_placeless : (first : Param) (others : List Param)
    → is_void_alone (placeless_param first) (map placeless_param others) ≡ is_void_alone first others
alone_placeless first [] = void_placeless first.specifier first.stars first.name
alone_placeless first (other ∷ others) = refl

again_params : Repeats params placeless_params
again_params Params.NoParams from to from' h alike = (Params.NoParams, from', refl, subst (λ w. AreAlike w from') h alike, refl)
again_params (Params.VoidParams place) from to from' h alike =
    let (p, to', h', b) = again_word_at place Classes.VOID from to from' h alike in (Params.VoidParams p, to', h', b, refl)
again_params (Params.Listed first others) from to from' (alone, (m, h, k)) alike =
    let (first', m', h', b, e) = again_param first from m from' h alike in
    let (others', to', k', c, f) =
    again_each _ placeless_param (again_behind Classes.COMMA param placeless_param again_param) others m to m' k b in
    let same : is_void_alone first' others' ≡ false =
    sym (alone_placeless first' others') ∙ ((λ i. is_void_alone (e i) (f i)) ∙ (alone_placeless first others ∙ alone)) in
    (Params.Listed first' others', to', (same, (m', h', k')), c, λ i. Params.Listed (e i) (f i))

again_head : Repeats head placeless_head
again_head x from to from' (m, h, (n, k, (o, l, (q, r, s)))) alike =
    let (s', m', h', b, e) = again_specifier x.specifier from m from' h alike in
    let (d', n', k', c, f) = again_declarator x.declarator m n m' k b in
    let (o', l', d) = again_open n o n' l c in
    let (ps', q', r', t, g) = again_params x.params o q o' r d in
    let (to', v', u) = again_word Classes.CLOSE q to q' s t in (
      record { specifier = s'; declarator = d'; params = ps' },
      to',
      (m', h', (n', k', (o', l', (q', r', v')))),
      u,
      λ i.
          record { specifier = e i; declarator = f i; params = g i },
    )

again_size_of : Repeats size_of placeless_specifier
again_size_of allocated from to from' (m, h, (n, k, (o, l, (p, q, (r, s, t))))) alike =
    let (m', h', b) = again_open from m from' h alike in
    let (n', k', c) = again_word Classes.SIZEOF m n m' k b in
    let (o', l', d) = again_open n o n' l c in
    let (allocated', p', q', e, f) = again_specifier allocated o p o' q d in
    let (r', s', g) = again_word Classes.CLOSE p r p' s e in
    let (to', t', u) = again_word Classes.CLOSE r to r' t g in
    (allocated', to', (m', h', (n', k', (o', l', (p', q', (r', s', t'))))), u, f)

again_cast : (place : Place) (as_type : Specifier) (from to from' : List Word) → cast place as_type from to → AreAlike from from'
    → (place' : Place) × (as_type' : Specifier) × (to' : List Word) × cast place' as_type' from' to' × AreAlike to to'
    × (placeless_specifier as_type' ≡ placeless_specifier as_type)
again_cast place as_type from to from' (m, h, (n, k, (o, l, q))) alike =
    let (p, m', h', b) = again_word_at place Classes.CAST from m from' h alike in
    let (as_type', n', k', c, e) = again_specifier as_type m n m' k b in
    let (o', l', d) = again_word Classes.STAR n o n' l c in
    let (to', q', t) = again_word Classes.CLOSE o to o' q d in
    (p, as_type', to', (m', h', (n', k', (o', l', q'))), t, e)

again_malloc : (level : ℕ) (place : Place) (as_type : Option Specifier) (allocated : Specifier) (from to from' : List Word)
    → malloc place as_type allocated from to → AreAlike from from'
    → Again (expr_at level) placeless_expr (Expr.Malloc place as_type allocated) to from'
again_malloc level place None allocated from to from' (m, h, k) alike =
    let (p, m', h', b) = again_word_at place Classes.MALLOC from m from' h alike in
    let (allocated', to', k', c, e) = again_size_of allocated m to m' k b in
    (Expr.Malloc p None allocated', to', (m', h', k'), c, λ i. Expr.Malloc nowhere None (e i))
again_malloc level place (Some as_type) allocated from to from' (m, h, (n, k, l)) alike =
    let (p, as_type', m', h', b, e) = again_cast place as_type from m from' h alike in
    let (n', k', c) = again_word Classes.MALLOC m n m' k b in
    let (allocated', to', l', d, f) = again_size_of allocated n to n' l c in
    (Expr.Malloc p (Some as_type') allocated', to', (m', h', (n', k', l')), d, λ i. Expr.Malloc nowhere (Some (e i)) (f i))

mutual
  again_expr : (level : ℕ) → Repeats (expr_at level) placeless_expr
  again_expr level (Expr.Chain first Links.NoLinks) from to from' h alike = absurd h
  again_expr level (Expr.Chain first (Links.Link op second others)) from to from' (least, (m, h, (n, k, (o, l, q)))) alike =
      let (first', m', h', b, e) = again_expr (level_of op + 1) first from m from' h alike in
      let (n', k', c) = again_word (class_of_binary op) m n m' k b in
      let (second', o', l', d, f) = again_expr (level_of op + 1) second n o n' l c in
      let (others', to', q', t, g) = again_links (level_of op) others o to o' q d in (
        Expr.Chain first' (Links.Link op second' others'),
        to',
        (least, (m', h', (n', k', (o', l', q')))),
        t,
        λ i. Expr.Chain (e i)
            (Links.Link op (f i) (g i)),
      )
  again_expr level (Expr.Prefix place op inner) from to from' (least, (m, h, k)) alike =
      let (p, m', h', b) = again_word_at place (class_of_prefix op) from m from' h alike in
      let (inner', to', k', c, e) = again_expr 6 inner m to m' k b in
      (Expr.Prefix p op inner', to', (least, (m', h', k')), c, λ i. Expr.Prefix nowhere op (e i))
  again_expr level (Expr.Members base first others) from to from' (least, (m, h, (n, k, (o, l, q)))) alike =
      let (base', m', h', b, e) = again_expr 8 base from m from' h alike in
      let (n', k', c) = again_word Classes.ARROW m n m' k b in
      let (first', o', l', d, f) = again_name first n o n' l c in
      let (others', to', q', t, g) =
      again_each _ placeless_name (again_behind Classes.ARROW name placeless_name again_name) others o to o' q d in
      (Expr.Members base' first' others', to', (least, (m', h', (n', k', (o', l', q')))), t, λ i. Expr.Members (e i) (f i) (g i))
  again_expr level (Expr.Variable n) from to from' h alike =
      let (n', to', h', b, e) = again_name n from to from' h alike in (Expr.Variable n', to', h', b, λ i. Expr.Variable (e i))
  again_expr level (Expr.Number place value) from to from' h alike =
      let (p, to', h', b) = again_number place value from to from' h alike in (Expr.Number p value, to', h', b, refl)
  again_expr level (Expr.Null place) from to from' h alike =
      let (p, to', h', b) = again_word_at place Classes.NULL from to from' h alike in (Expr.Null p, to', h', b, refl)
  again_expr level (Expr.Paren place inner) from to from' (m, h, (n, k, l)) alike =
      let (p, m', h', b) = again_word_at place Classes.OPEN from m from' h alike in
      let (inner', n', k', c, e) = again_expr 0 inner m n m' k b in
      let (to', l', d) = again_word Classes.CLOSE n to n' l c in
      (Expr.Paren p inner', to', (m', h', (n', k', l')), d, λ i. Expr.Paren nowhere (e i))
  again_expr level (Expr.Call callee args) from to from' (m, h, (n, k, (o, l, q))) alike =
      let (callee', m', h', b, e) = again_name callee from m from' h alike in
      let (n', k', c) = again_open m n m' k b in
      let (args', o', l', d, f) = again_args args n o n' l c in
      let (to', q', t) = again_word Classes.CLOSE o to o' q d in
      (Expr.Call callee' args', to', (m', h', (n', k', (o', l', q'))), t, λ i. Expr.Call (e i) (f i))
  again_expr level (Expr.Malloc place as_type allocated) from to from' h alike = again_malloc level place as_type allocated from to from' h alike

  again_links : (level : ℕ) → Repeats (links_at level) placeless_links
  again_links level Links.NoLinks from to from' h alike = (Links.NoLinks, from', refl, subst (λ w. AreAlike w from') h alike, refl)
  again_links level (Links.Link op operand others) from to from' (same, (m, h, (n, k, l))) alike =
      let (m', h', b) = again_word (class_of_binary op) from m from' h alike in
      let (operand', n', k', c, e) = again_expr (level + 1) operand m n m' k b in
      let (others', to', l', d, f) = again_links level others n to n' l c in
      (Links.Link op operand' others', to', (same, (m', h', (n', k', l'))), d, λ i. Links.Link op (e i) (f i))

  again_args : Repeats call_args placeless_args
  again_args Args.NoArgs from to from' h alike = (Args.NoArgs, from', refl, subst (λ w. AreAlike w from') h alike, refl)
  again_args (Args.Arg first others) from to from' (m, h, k) alike =
      let (first', m', h', b, e) = again_expr 0 first from m from' h alike in
      let (others', to', k', c, f) = again_more_args others m to m' k b in
      (Args.Arg first' others', to', (m', h', k'), c, λ i. Args.Arg (e i) (f i))

  again_more_args : Repeats more_args placeless_args
  again_more_args Args.NoArgs from to from' h alike = (Args.NoArgs, from', refl, subst (λ w. AreAlike w from') h alike, refl)
  again_more_args (Args.Arg first others) from to from' (m, h, (n, k, l)) alike =
      let (m', h', b) = again_word Classes.COMMA from m from' h alike in
      let (first', n', k', c, e) = again_expr 0 first m n m' k b in
      let (others', to', l', d, f) = again_more_args others n to n' l c in
      (Args.Arg first' others', to', (m', h', (n', k', l')), d, λ i. Args.Arg (e i) (f i))

again_simple : Repeats simple placeless_simple
again_simple (Simple.Assign target op value) from to from' (m, h, (n, k, l)) alike =
    let (target', m', h', b, e) = again_expr 7 target from m from' h alike in
    let (n', k', c) = again_word (class_of_assign op) m n m' k b in
    let (value', to', l', d, f) = again_expr 0 value n to n' l c in
    (Simple.Assign target' op value', to', (m', h', (n', k', l')), d, λ i. Simple.Assign (e i) op (f i))
again_simple (Simple.Step target op) from to from' (m, h, k) alike =
    let (target', m', h', b, e) = again_expr 7 target from m from' h alike in
    let (to', k', c) = again_word (class_of_step op) m to m' k b in
    (Simple.Step target' op, to', (m', h', k'), c, λ i. Simple.Step (e i) op)
again_simple (Simple.Perform callee args) from to from' (m, h, (n, k, (o, l, q))) alike =
    let (callee', m', h', b, e) = again_name callee from m from' h alike in
    let (n', k', c) = again_open m n m' k b in
    let (args', o', l', d, f) = again_args args n o n' l c in
    let (to', q', t) = again_word Classes.CLOSE o to o' q d in
    (Simple.Perform callee' args', to', (m', h', (n', k', (o', l', q'))), t, λ i. Simple.Perform (e i) (f i))
again_simple (Simple.Free place pointer) from to from' (m, h, (n, k, (o, l, q))) alike =
    let (p, m', h', b) = again_word_at place Classes.FREE from m from' h alike in
    let (n', k', c) = again_open m n m' k b in
    let (pointer', o', l', d, e) = again_expr 0 pointer n o n' l c in
    let (to', q', t) = again_word Classes.CLOSE o to o' q d in
    (Simple.Free p pointer', to', (m', h', (n', k', (o', l', q'))), t, λ i. Simple.Free nowhere (e i))

again_initialized : Repeats initialized placeless_initialized
again_initialized one from to from' (m, h, k) alike =
    let (d', m', h', b, e) = again_declarator one.declarator from m from' h alike in
    let (value', to', k', c, f) =
    again_maybe _ placeless_expr (again_behind Classes.SET (expr_at 0) placeless_expr (again_expr 0)) one.value m to m' k b in
    (record { declarator = d'; value = value' }, to', (m', h', k'), c, λ i. record { declarator = e i; value = f i })

again_local : Repeats local placeless_local
again_local x from to from' (m, h, (n, k, l)) alike =
    let (s', m', h', b, e) = again_specifier x.specifier from m from' h alike in
    let (first', n', k', c, f) = again_initialized x.first m n m' k b in
    let (others', to', l', d, g) =
    again_each _ placeless_initialized
    (again_behind Classes.COMMA initialized placeless_initialized again_initialized) x.others n to n' l c in (
      record { specifier = s'; first = first'; others = others' },
      to',
      (m', h', (n', k', l')),
      d,
      λ i.
          record { specifier = e i; first = f i; others = g i },
    )

again_init : Repeats for_init placeless_init
again_init ForInit.NoInit from to from' h alike = (ForInit.NoInit, from', refl, subst (λ w. AreAlike w from') h alike, refl)
again_init (ForInit.Locals x) from to from' h alike =
    let (x', to', h', b, e) = again_local x from to from' h alike in (ForInit.Locals x', to', h', b, λ i. ForInit.Locals (e i))
again_init (ForInit.Once s) from to from' h alike =
    let (s', to', h', b, e) = again_simple s from to from' h alike in (ForInit.Once s', to', h', b, λ i. ForInit.Once (e i))

no_else_alike : (to to' : List Word) → AreAlike to to' → NoElse to → NoElse to'
no_else_alike [] [] alike none = tt
no_else_alike [] (other ∷ others') alike none = absurd alike
no_else_alike (one ∷ others) [] alike none = absurd alike
no_else_alike (one ∷ others) (other ∷ others') alike none = λ e. none (alike.0.0 ∙ e)

mutual
  again_stmt : Repeats stmt placeless_stmt
  again_stmt (Stmt.Block place body end) from to from' (m, h, (n, k, l)) alike =
      let (p, m', h', b) = again_word_at place Classes.OPEN_BRACE from m from' h alike in
      let (body', n', k', c, e) = again_stmts body m n m' k b in
      let (q, to', l', d) = again_word_at end Classes.CLOSE_BRACE n to n' l c in
      (Stmt.Block p body' q, to', (m', h', (n', k', l')), d, λ i. Stmt.Block nowhere (e i) nowhere)
  again_stmt (Stmt.Empty place) from to from' h alike =
      let (p, to', h', b) = again_word_at place Classes.SEMICOLON from to from' h alike in (Stmt.Empty p, to', h', b, refl)
  again_stmt (Stmt.Declare x) from to from' (m, h, k) alike =
      let (x', m', h', b, e) = again_local x from m from' h alike in
      let (to', k', c) = again_word Classes.SEMICOLON m to m' k b in
      (Stmt.Declare x', to', (m', h', k'), c, λ i. Stmt.Declare (e i))
  again_stmt (Stmt.Do s) from to from' (m, h, k) alike =
      let (s', m', h', b, e) = again_simple s from m from' h alike in
      let (to', k', c) = again_word Classes.SEMICOLON m to m' k b in
      (Stmt.Do s', to', (m', h', k'), c, λ i. Stmt.Do (e i))
  again_stmt (Stmt.If place test body) from to from' (none, (m, h, (n, k, (o, l, (q, r, s))))) alike =
      let (p, m', h', b) = again_word_at place Classes.IF from m from' h alike in
      let (n', k', c) = again_open m n m' k b in
      let (test', o', l', d, e) = again_expr 0 test n o n' l c in
      let (q', r', t) = again_word Classes.CLOSE o q o' r d in
      let (body', to', s', u, f) = again_stmt body q to q' s t in (
        Stmt.If p test' body',
        to',
        (no_else_alike to to' u none, (m', h', (n', k', (o', l', (q', r', s'))))),
        u,
        λ i. Stmt.If nowhere (e i)
            (f i),
      )
  again_stmt (Stmt.IfElse place test body other) from to from' (m, h, (n, k, (o, l, (q, r, (v, s, (w, x, y)))))) alike =
      let (p, m', h', b) = again_word_at place Classes.IF from m from' h alike in
      let (n', k', c) = again_open m n m' k b in
      let (test', o', l', d, e) = again_expr 0 test n o n' l c in
      let (q', r', t) = again_word Classes.CLOSE o q o' r d in
      let (body', v', s', u, f) = again_stmt body q v q' s t in
      let (w', x', z) = again_word Classes.ELSE v w v' x u in
      let (other', to', y', a, g) = again_stmt other w to w' y z in (
        Stmt.IfElse p test' body' other',
        to',
        (m', h', (n', k', (o', l', (q', r', (v', s', (w', x', y')))))),
        a,
        λ i. Stmt.IfElse nowhere
            (e i) (f i) (g i),
      )
  again_stmt (Stmt.While place test body) from to from' (m, h, (n, k, (o, l, (q, r, s)))) alike =
      let (p, m', h', b) = again_word_at place Classes.WHILE from m from' h alike in
      let (n', k', c) = again_open m n m' k b in
      let (test', o', l', d, e) = again_expr 0 test n o n' l c in
      let (q', r', t) = again_word Classes.CLOSE o q o' r d in
      let (body', to', s', u, f) = again_stmt body q to q' s t in
      (Stmt.While p test' body', to', (m', h', (n', k', (o', l', (q', r', s')))), u, λ i. Stmt.While nowhere (e i) (f i))
  again_stmt (Stmt.DoWhile place body test) from to from' (m, h, (n, k, (o, l, (q, r, (v, s, (w, x, y)))))) alike =
      let (p, m', h', b) = again_word_at place Classes.DO from m from' h alike in
      let (body', n', k', c, e) = again_stmt body m n m' k b in
      let (o', l', d) = again_word Classes.WHILE n o n' l c in
      let (q', r', t) = again_open o q o' r d in
      let (test', v', s', u, f) = again_expr 0 test q v q' s t in
      let (w', x', z) = again_word Classes.CLOSE v w v' x u in
      let (to', y', a) = again_word Classes.SEMICOLON w to w' y z in (
        Stmt.DoWhile p body' test',
        to',
        (m', h', (n', k', (o', l', (q', r', (v', s', (w', x', y')))))),
        a,
        λ i. Stmt.DoWhile nowhere (e i)
            (f i),
      )
  again_stmt (Stmt.For place init test step body) from to from'
      (m0, h0, (m1, h1, (m2, h2, (m3, h3, (m4, h4, (m5, h5, (m6, h6, (m7, h7, h8)))))))) alike =
      let (p, m0', h0', a0) = again_word_at place Classes.FOR from m0 from' h0 alike in
      let (m1', h1', a1) = again_open m0 m1 m0' h1 a0 in
      let (init', m2', h2', a2, e) = again_init init m1 m2 m1' h2 a1 in
      let (m3', h3', a3) = again_word Classes.SEMICOLON m2 m3 m2' h3 a2 in
      let (test', m4', h4', a4, f) = again_maybe (expr_at 0) placeless_expr (again_expr 0) test m3 m4 m3' h4 a3 in
      let (m5', h5', a5) = again_word Classes.SEMICOLON m4 m5 m4' h5 a4 in
      let (step', m6', h6', a6, g) = again_maybe simple placeless_simple again_simple step m5 m6 m5' h6 a5 in
      let (m7', h7', a7) = again_word Classes.CLOSE m6 m7 m6' h7 a6 in
      let (body', to', h8', a8, k) = again_stmt body m7 to m7' h8 a7 in (
        Stmt.For p init' test' step' body',
        to',
        (m0', h0', (m1', h1', (m2', h2', (m3', h3', (m4', h4', (m5', h5', (m6', h6', (m7', h7', h8')))))))),
        a8,
        λ i. Stmt.For nowhere (e i) (f i) (g i) (k i),
      )
  again_stmt (Stmt.Break place) from to from' (m, h, k) alike =
      let (p, m', h', b) = again_word_at place Classes.BREAK from m from' h alike in
      let (to', k', c) = again_word Classes.SEMICOLON m to m' k b in
      (Stmt.Break p, to', (m', h', k'), c, refl)
  again_stmt (Stmt.Continue place) from to from' (m, h, k) alike =
      let (p, m', h', b) = again_word_at place Classes.CONTINUE from m from' h alike in
      let (to', k', c) = again_word Classes.SEMICOLON m to m' k b in
      (Stmt.Continue p, to', (m', h', k'), c, refl)
  again_stmt (Stmt.Return place value) from to from' (m, h, (n, k, l)) alike =
      let (p, m', h', b) = again_word_at place Classes.RETURN from m from' h alike in
      let (value', n', k', c, e) = again_maybe (expr_at 0) placeless_expr (again_expr 0) value m n m' k b in
      let (to', l', d) = again_word Classes.SEMICOLON n to n' l c in
      (Stmt.Return p value', to', (m', h', (n', k', l')), d, λ i. Stmt.Return nowhere (e i))

  again_stmts : Repeats stmts placeless_stmts
  again_stmts Stmts.NoStmts from to from' h alike = (Stmts.NoStmts, from', refl, subst (λ w. AreAlike w from') h alike, refl)
  again_stmts (Stmts.Next first others) from to from' (m, h, k) alike =
      let (first', m', h', b, e) = again_stmt first from m from' h alike in
      let (others', to', k', c, f) = again_stmts others m to m' k b in
      (Stmts.Next first' others', to', (m', h', k'), c, λ i. Stmts.Next (e i) (f i))

again_item : Repeats item placeless_item
again_item (Item.StructItem place tag lines) from to from' (m, h, (n, k, (o, l, q))) alike =
    let (p, m', h', b) = again_word_at place Classes.STRUCT from m from' h alike in
    let (tag', n', k', c, e) = again_name tag m n m' k b in
    let (lines', o', l', d, f) = again_struct_body lines n o n' l c in
    let (to', q', t) = again_word Classes.SEMICOLON o to o' q d in
    (Item.StructItem p tag' lines', to', (m', h', (n', k', (o', l', q'))), t, λ i. Item.StructItem nowhere (e i) (f i))
again_item (Item.TypedefStruct place tag lines alias) from to from' (m, h, (n, k, (o, l, (q, r, (v, s, w))))) alike =
    let (p, m', h', b) = again_word_at place Classes.TYPEDEF from m from' h alike in
    let (n', k', c) = again_word Classes.STRUCT m n m' k b in
    let (tag', o', l', d, e) = again_maybe name placeless_name again_name tag n o n' l c in
    let (lines', q', r', t, f) = again_struct_body lines o q o' r d in
    let (alias', v', s', u, g) = again_name alias q v q' s t in
    let (to', w', x) = again_word Classes.SEMICOLON v to v' w u in (
      Item.TypedefStruct p tag' lines' alias',
      to',
      (m', h', (n', k', (o', l', (q', r', (v', s', w'))))),
      x,
      λ i. Item.TypedefStruct nowhere
          (e i) (f i) (g i),
    )
again_item (Item.TypedefAlias place tag alias) from to from' (m, h, (n, k, (o, l, (q, r, s)))) alike =
    let (p, m', h', b) = again_word_at place Classes.TYPEDEF from m from' h alike in
    let (n', k', c) = again_word Classes.STRUCT m n m' k b in
    let (tag', o', l', d, e) = again_name tag n o n' l c in
    let (alias', q', r', t, f) = again_name alias o q o' r d in
    let (to', s', u) = again_word Classes.SEMICOLON q to q' s t in
    (Item.TypedefAlias p tag' alias', to', (m', h', (n', k', (o', l', (q', r', s')))), u, λ i. Item.TypedefAlias nowhere (e i) (f i))
again_item (Item.Prototype x) from to from' (m, h, k) alike =
    let (x', m', h', b, e) = again_head x from m from' h alike in
    let (to', k', c) = again_word Classes.SEMICOLON m to m' k b in
    (Item.Prototype x', to', (m', h', k'), c, λ i. Item.Prototype (e i))
again_item (Item.Definition x place body end) from to from' (m, h, (n, k, (o, l, q))) alike =
    let (x', m', h', b, e) = again_head x from m from' h alike in
    let (p, n', k', c) = again_word_at place Classes.OPEN_BRACE m n m' k b in
    let (body', o', l', d, f) = again_stmts body n o n' l c in
    let (r, to', q', t) = again_word_at end Classes.CLOSE_BRACE o to o' q d in
    (Item.Definition x' p body' r, to', (m', h', (n', k', (o', l', q'))), t, λ i. Item.Definition (e i) nowhere (f i) nowhere)

none_alike : (words : List Word) → AreAlike [] words → words ≡ []
none_alike [] alike = refl
none_alike (one ∷ others) alike = absurd alike

pub file_alike : (words words' : List Word) → AreAlike words words' → (file : File) → Spells file words
    → (file' : File) × Spells file' words' × (placeless file' ≡ placeless file)
file_alike words words' alike file (m, h, k) =
    let (items', m', h', b, e) = again_each item placeless_item again_item file.items words m words' h alike in
    let (to', k', c) = again_word Classes.END m [] m' k b in
    (record { items = items' }, (m', h', subst (λ w. word Classes.END m' w) (none_alike to' c) k'), λ i. record { items = e i })

mutual
  nesting_placeless : (e : Expr) → nesting (placeless_expr e) ≡ nesting e
  nesting_placeless (Expr.Chain first others) = λ i. max (nesting_placeless first i) (links_placeless others i)
  nesting_placeless (Expr.Prefix place op inner) = λ i. suc (nesting_placeless inner i)
  nesting_placeless (Expr.Members base first others) = nesting_placeless base
  nesting_placeless (Expr.Variable n) = refl
  nesting_placeless (Expr.Number place value) = refl
  nesting_placeless (Expr.Null place) = refl
  nesting_placeless (Expr.Paren place inner) = λ i. suc (nesting_placeless inner i)
  nesting_placeless (Expr.Call callee args) = λ i. suc (args_placeless args i)
  nesting_placeless (Expr.Malloc place as_type allocated) = refl

  links_placeless : (all : Links) → links_nesting (placeless_links all) ≡ links_nesting all
  links_placeless Links.NoLinks = refl
  links_placeless (Links.Link op operand others) = λ i. max (nesting_placeless operand i) (links_placeless others i)

  args_placeless : (all : Args) → args_nesting (placeless_args all) ≡ args_nesting all
  args_placeless Args.NoArgs = refl
  args_placeless (Args.Arg first others) = λ i. max (nesting_placeless first i) (args_placeless others i)

deepest_placeless : {A : Type 0} (depth : A → ℕ) (strip : A → A) → ((one : A) → depth (strip one) ≡ depth one) → (all : List A)
    → deepest depth (map strip all) ≡ deepest depth all
deepest_placeless depth strip same [] = refl
deepest_placeless depth strip same (one ∷ others) = λ i. max (same one i) (deepest_placeless depth strip same others i)

maybe_placeless : {A : Type 0} (depth : A → ℕ) (strip : A → A) → ((one : A) → depth (strip one) ≡ depth one) → (one : Option A)
    → maybe_nesting depth (placeless_maybe strip one) ≡ maybe_nesting depth one
maybe_placeless depth strip same None = refl
maybe_placeless depth strip same (Some one) = same one

simple_nests : (s : Simple) → simple_nesting (placeless_simple s) ≡ simple_nesting s
simple_nests (Simple.Assign target op value) = λ i. max (nesting_placeless target i) (nesting_placeless value i)
simple_nests (Simple.Step target op) = nesting_placeless target
simple_nests (Simple.Perform callee args) = λ i. suc (args_placeless args i)
simple_nests (Simple.Free place pointer) = nesting_placeless pointer

initialized_nests : (one : Initialized) → initialized_nesting (placeless_initialized one) ≡ initialized_nesting one
initialized_nests one = maybe_placeless nesting placeless_expr nesting_placeless one.value

local_nests : (x : Local) → local_nesting (placeless_local x) ≡ local_nesting x
local_nests x =
    λ i. max (initialized_nests x.first i) (deepest_placeless initialized_nesting placeless_initialized initialized_nests x.others i)

init_nests : (init : ForInit) → init_nesting (placeless_init init) ≡ init_nesting init
init_nests ForInit.NoInit = refl
init_nests (ForInit.Locals x) = local_nests x
init_nests (ForInit.Once s) = simple_nests s

mutual
  stmt_nests : (s : Stmt) → stmt_nesting (placeless_stmt s) ≡ stmt_nesting s
  stmt_nests (Stmt.Block place body end) = λ i. suc (stmts_nest body i)
  stmt_nests (Stmt.Empty place) = refl
  stmt_nests (Stmt.Declare x) = local_nests x
  stmt_nests (Stmt.Do s) = simple_nests s
  stmt_nests (Stmt.If place test body) = λ i. suc (max (nesting_placeless test i) (stmt_nests body i))
  stmt_nests (Stmt.IfElse place test body other) = λ i. suc (max (nesting_placeless test i) (max (stmt_nests body i) (stmt_nests other i)))
  stmt_nests (Stmt.While place test body) = λ i. suc (max (nesting_placeless test i) (stmt_nests body i))
  stmt_nests (Stmt.DoWhile place body test) = λ i. suc (max (stmt_nests body i) (nesting_placeless test i))
  stmt_nests (Stmt.For place init test step body) = λ i.
      suc (max (init_nests init i) (max (maybe_placeless nesting placeless_expr nesting_placeless test i)
      (max (maybe_placeless simple_nesting placeless_simple simple_nests step i) (stmt_nests body i))))
  stmt_nests (Stmt.Break place) = refl
  stmt_nests (Stmt.Continue place) = refl
  stmt_nests (Stmt.Return place value) = maybe_placeless nesting placeless_expr nesting_placeless value

  stmts_nest : (all : Stmts) → stmts_nesting (placeless_stmts all) ≡ stmts_nesting all
  stmts_nest Stmts.NoStmts = refl
  stmts_nest (Stmts.Next first others) = λ i. max (stmt_nests first i) (stmts_nest others i)

item_nests : (one : Item) → item_nesting (placeless_item one) ≡ item_nesting one
item_nests (Item.StructItem place tag lines) = refl
item_nests (Item.TypedefStruct place tag lines alias) = refl
item_nests (Item.TypedefAlias place tag alias) = refl
item_nests (Item.Prototype x) = refl
item_nests (Item.Definition x place body end) = λ i. suc (stmts_nest body i)

-- nesting does not see places
pub file_nests : (file : File) → file_nesting (placeless file) ≡ file_nesting file
file_nests file = deepest_placeless item_nesting placeless_item item_nests file.items

pub nesting_alike : (file file' : File) → placeless file' ≡ placeless file → file_nesting file' ≡ file_nesting file
nesting_alike file file' same = sym (file_nests file') ∙ (ap file_nesting same ∙ file_nests file)

-- a token with this spelling
abbrev token_of : Spelling → Token
token_of s = record { kind = s.kind; text = s.text; line = 0; column = 0 }

-- what begins a cast is told by the spellings
casts_unplaced : (tokens : List Token) → begins_cast (map token_of (map spelling tokens)) ≡ begins_cast tokens
casts_unplaced [] = refl
casts_unplaced (one ∷ []) = refl
casts_unplaced (one ∷ two ∷ []) = refl
casts_unplaced (one ∷ two ∷ three ∷ others) = refl

casts_alike : (tokens tokens' : List Token) → map spelling tokens ≡ map spelling tokens' → begins_cast tokens ≡ begins_cast tokens'
casts_alike tokens tokens' same = sym (casts_unplaced tokens) ∙ (ap (λ s. begins_cast (map token_of s)) same ∙ casts_unplaced tokens')

class_alike : (k : TokenKind) (text : List ℕ) (tokens tokens' : List Token) → begins_cast tokens ≡ begins_cast tokens'
    → class_of k text tokens ≡ class_of k text tokens'
class_alike kind.Word text tokens tokens' same = refl
class_alike kind.Key text tokens tokens' same = refl
class_alike kind.Number text tokens tokens' same = refl
class_alike kind.Sign text tokens tokens' same =
    ap (λ c. if bytes_eq text (codes "(") then (if c then class.Cast else class.Open) else class_in signs class.OtherKey text) same
class_alike kind.End text tokens tokens' same = refl

pub words_alike : (tokens tokens' : List Token) → map spelling tokens ≡ map spelling tokens' → AreAlike (words_of tokens) (words_of tokens')
words_alike [] [] same = tt
words_alike [] (one ∷ others) same = absurd (cc)
words_alike (one ∷ others) [] same = absurd (cc)
words_alike (one ∷ others) (one' ∷ others') same =
    let first : spelling one ≡ spelling one' = cc in
    let rest : map spelling others ≡ map spelling others' = cc in
    let known : class_of one.kind one.text others ≡ class_of one'.kind one'.text others =
    ap (λ (s : Spelling). class_of s.kind s.text others) first in (
      (
        ap number_of (known ∙ class_alike one'.kind one'.text others others' (casts_alike others others' rest)),
        ap
            (λ (s : Spelling). s.text) first,
      ),
      words_alike others others' rest,
    )

-- what is spelled by tokens is spelled, but for places, by tokens that are spelled so
pub file_again : (tokens tokens' : List Token) → map spelling tokens ≡ map spelling tokens' → (file : File) → Spells file (words_of tokens)
    → (file' : File) × Spells file' (words_of tokens') × (placeless file' ≡ placeless file)
file_again tokens tokens' same file spells = file_alike (words_of tokens) (words_of tokens') (words_alike tokens tokens' same) file spells
