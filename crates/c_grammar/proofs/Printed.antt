-- A tree is printed as the texts of the words that it spells.
use Rattle.std.proofs.Common.{◌≡◌, inl, inr, ℕ, zero, suc, ◌+◌, Bool, true, false, cond, List, [], ◌∷◌, ◌++◌, map, refl, sym, ap, ◌∙◌}
use Rattle.std.proofs.Common.{subst, arith}
use Rattle.std.specs.Prelude.{Option, Some, None, codes}
use Rattle.std.specs.Fmt.{decimal}
use Rattle.std.specs.Str.{bytes_eq}
use Rattle.std.specs.Str.Parse.{digits_value}
use Rattle.c_grammar.specs.declared.tokens.places.Place.{Place}
use Rattle.std.specs.List.{AllByRecursion}
use Rattle.std.proofs.lemmas.Fmt.{decimal_is_IsNumeral}
use Rattle.std.proofs.lemmas.Slice.Eq.{bytes_eq-Decides}
use Rattle.c_grammar.specs.declared.tokens.token.Token.{Token}
use Rattle.c_grammar.specs.declared.tokens.token.TokenKind.{TokenKind}
use Rattle.c_grammar.specs.declared.tokens.token.TokenKind.TheVariants as kind
use Rattle.c_grammar.specs.Tokens.Lexemes.{IsToken}
use Rattle.c_grammar.specs.Tokens.TokenLists.{IsTokenList}
use Rattle.c_grammar.specs.Tokens.Grammar.{HasTokens}
use Rattle.c_grammar.specs.Tokens.Laws.{Spelling, spelling, end_spelling, spaced}
use Rattle.c_grammar.proofs.TokensLemmas.TextLaws.{words_read_back}
use Rattle.c_grammar.specs.declared.class.Class.{Class}
use Rattle.c_grammar.specs.declared.class.Class.TheVariants as class
use Rattle.c_grammar.specs.Classes
use Rattle.c_grammar.specs.Classes.{number_of, numbered, Entry, class_in, keys, signs}
use Rattle.c_grammar.specs.Words.{Word, words_of, class_of, begins_cast}
use Rattle.c_grammar.proofs.Numbers.{numbered-number_of}
use Rattle.c_grammar.specs.Trees.{Name, Specifier, Declarator, Fields, Param, Params, Head, BinaryOp, PrefixOp, Expr, Links, Args, AssignOp}
use Rattle.c_grammar.specs.Trees.{StepOp, Simple, Initialized, Local, ForInit, Stmt, Stmts, Item, File}
use Rattle.c_grammar.specs.Spelling.{Rule, word, word_at, open_paren, name, number, each, maybe, specifier, stars, declarator, fields}
use Rattle.c_grammar.specs.Spelling.{struct_body, param, params, head, class_of_binary, level_of, class_of_prefix, size_of, malloc, expr_at}
use Rattle.c_grammar.specs.Spelling.{links_at, call_args, more_args, class_of_assign, class_of_step, simple, initialized, local, for_init}
use Rattle.c_grammar.specs.Spelling.{stmt, stmts, item, Spells}
use Rattle.c_grammar.specs.Printing.{Texts, print_each, print_more, print_maybe, print_name, print_specifier, print_stars, print_declarator}
use Rattle.c_grammar.specs.Printing.{print_fields, print_struct_body, print_param, print_params, print_head, text_of_binary, text_of_prefix}
use Rattle.c_grammar.specs.Printing.{print_size_of, print_malloc, print_expr, print_links, print_args, print_more_args, text_of_assign}
use Rattle.c_grammar.specs.Printing.{text_of_step, print_simple, print_initialized, print_local, print_init, print_stmt, print_stmts}
use Rattle.c_grammar.specs.Printing.{print_item, printed, spaced_texts, printed_text}

-- the text of a word of the class, which has this text
abbrev pub text_in : Class → List ℕ → List ℕ
text_in class.End text = codes "#"
text_in class.Name text = text
text_in class.Number text = decimal (digits_value 10 text)
text_in class.Open text = codes "("
text_in class.Cast text = codes "("
text_in class.Int text = codes "int"
text_in class.Void text = codes "void"
text_in class.Struct text = codes "struct"
text_in class.Typedef text = codes "typedef"
text_in class.If text = codes "if"
text_in class.Else text = codes "else"
text_in class.While text = codes "while"
text_in class.For text = codes "for"
text_in class.Do text = codes "do"
text_in class.Break text = codes "break"
text_in class.Continue text = codes "continue"
text_in class.Return text = codes "return"
text_in class.Sizeof text = codes "sizeof"
text_in class.Null text = codes "NULL"
text_in class.Malloc text = codes "malloc"
text_in class.Free text = codes "free"
text_in class.OtherKey text = text
text_in class.Close text = codes ")"
text_in class.OpenBrace text = codes "{"
text_in class.CloseBrace text = codes "}"
text_in class.Semicolon text = codes ";"
text_in class.Comma text = codes ","
text_in class.Arrow text = codes "->"
text_in class.Set text = codes "="
text_in class.AddTo text = codes "+="
text_in class.SubtractFrom text = codes "-="
text_in class.MultiplyBy text = codes "*="
text_in class.Increment text = codes "++"
text_in class.Decrement text = codes "--"
text_in class.Equal text = codes "=="
text_in class.NotEqual text = codes "!="
text_in class.Less text = codes "<"
text_in class.LessEqual text = codes "<="
text_in class.Greater text = codes ">"
text_in class.GreaterEqual text = codes ">="
text_in class.Plus text = codes "+"
text_in class.Minus text = codes "-"
text_in class.Star text = codes "*"
text_in class.Not text = codes "!"
text_in class.And text = codes "&&"
text_in class.Or text = codes "||"

-- a word's text is what its class says
abbrev pub IsWritten : Word → Type 0
IsWritten w = w.text ≡ text_in (numbered w.class) w.text

abbrev pub AreWritten : List Word → Type 0
AreWritten [] = Unit {0}
AreWritten (first ∷ others) = IsWritten first × AreWritten others

abbrev pub texts : List Word → Texts
texts [] = []
texts (first ∷ others) = first.text ∷ texts others

-- the texts of these words are what is shown, where those of the words behind are what is behind
pub record Prints (from to : List Word) (shown behind : Texts) : Type 0 where
  pub keeps : AreWritten from → AreWritten to
  pub shows : AreWritten from → (rest : Texts) → texts to ≡ behind ++ rest → texts from ≡ shown ++ rest

-- one behind another
joined : {from mid to : List Word} {shown between behind : Texts} → Prints from mid shown between → Prints mid to between behind
    → Prints from to shown behind
joined f g = record { keeps = λ w. g.keeps (f.keeps w); shows = λ w rest e. f.shows w rest (g.shows (f.keeps w) rest e) }

-- each word of the class has this text
abbrev IsFixed : ℕ → List ℕ → Type 0
IsFixed class shown = (text : List ℕ) → text_in (numbered class) text ≡ shown

a_word : (class : ℕ) {shown : List ℕ} {behind : Texts} (from to : List Word) → IsFixed class shown → word class from to
    → Prints from to (shown ∷ behind) behind
a_word class {shown} {behind} [] to fixed h = absurd h
a_word class {shown} {behind} (first ∷ others) to fixed h = record {
  keeps = λ w. subst AreWritten h.1 w.1;
  shows = λ w rest e.
      let text : first.text ≡ shown = w.0 ∙ ap (λ c. text_in (numbered c) first.text) h.0 ∙ fixed first.text in
      let back : texts others ≡ behind ++ rest = ap texts h.1 ∙ e in
      ap (λ t. t ∷ texts others) text ∙ ap (λ b. shown ∷ b) back;
}

a_word_at : (place : Place) (class : ℕ) {shown : List ℕ} {behind : Texts} (from to : List Word) → IsFixed class shown
    → word_at place class from to → Prints from to (shown ∷ behind) behind
a_word_at place class {shown} {behind} [] to fixed h = absurd h
a_word_at place class {shown} {behind} (first ∷ others) to fixed h = a_word class (first ∷ others) to fixed (h.0, h.2)

an_open : {behind : Texts} (from to : List Word) → open_paren from to → Prints from to (codes "(" ∷ behind) behind
an_open {behind} from to (inl h) = a_word Classes.OPEN from to (λ t. refl) h
an_open {behind} from to (inr h) = a_word Classes.CAST from to (λ t. refl) h

no_word : {behind : Texts} (from to : List Word) → from ≡ to → Prints from to behind behind
no_word {behind} from to h = record { keeps = λ w. subst AreWritten h w; shows = λ w rest e. ap texts h ∙ e }

-- the rule's words are printed
abbrev Shows : {A : Type 0} → (A → Rule) → (A → Texts → Texts) → A → Type 0
Shows rule print a = (from to : List Word) (behind : Texts) → rule a from to → Prints from to (print a behind) behind

a_name : (n : Name) → Shows name print_name n
a_name n [] to behind h = absurd h
a_name n (first ∷ others) to behind h = record {
  keeps = λ w. subst AreWritten h.3 w.1;
  shows = λ w rest e.
      let back : texts others ≡ behind ++ rest = ap texts h.3 ∙ e in
      ap (λ t. t ∷ texts others) h.2 ∙ ap (λ b. n.text ∷ b) back;
}

a_number : (place : Place) (value : ℕ) (from to : List Word) (behind : Texts) → number place value from to
    → Prints from to (decimal value ∷ behind) behind
a_number place value [] to behind h = absurd h
a_number place value (first ∷ others) to behind h = record {
  keeps = λ w. subst AreWritten h.3 w.1;
  shows = λ w rest e.
      let text : first.text ≡ decimal value = w.0 ∙ ap (λ c. text_in (numbered c) first.text) h.0 ∙ ap decimal (sym h.2) in
      let back : texts others ≡ behind ++ rest = ap texts h.3 ∙ e in
      ap (λ t. t ∷ texts others) text ∙ ap (λ b. decimal value ∷ b) back;
}

all_shown : {A : Type 0} (rule : A → Rule) (print : A → Texts → Texts) → ((a : A) → Shows rule print a)
    → (all : List A) (from to : List Word) (behind : Texts) → each rule all from to → Prints from to (print_each print all behind) behind
all_shown {A} rule print shows [] from to behind h = no_word from to h
all_shown {A} rule print shows (one ∷ others) from to behind (mid, h, k) =
    joined (shows one from mid (print_each print others behind) h) (all_shown rule print shows others mid to behind k)

more_shown : {A : Type 0} (rule : A → Rule) (print : A → Texts → Texts) → ((a : A) → Shows rule print a)
    → (all : List A) (from to : List Word) (behind : Texts)
    → each (λ one from to. (mid : List Word) × word Classes.COMMA from mid × rule one mid to) all from to
    → Prints from to (print_more print all behind) behind
more_shown {A} rule print shows [] from to behind h = no_word from to h
more_shown {A} rule print shows (one ∷ others) from to behind (mid, (a, c, h), k) =
    joined (a_word Classes.COMMA from a (λ t. refl) c)
    (joined (shows one a mid (print_more print others behind) h) (more_shown rule print shows others mid to behind k))

maybe_shown : {A : Type 0} (rule : A → Rule) (print : A → Texts → Texts) → ((a : A) → Shows rule print a)
    → (one : Option A) (from to : List Word) (behind : Texts) → maybe rule one from to
    → Prints from to (print_maybe print one behind) behind
maybe_shown {A} rule print shows None from to behind h = no_word from to h
maybe_shown {A} rule print shows (Some one) from to behind h = shows one from to behind h

a_specifier : (s : Specifier) → Shows specifier print_specifier s
a_specifier (Specifier.Int place) from to behind h = a_word_at place Classes.INT from to (λ t. refl) h
a_specifier (Specifier.Void place) from to behind h = a_word_at place Classes.VOID from to (λ t. refl) h
a_specifier (Specifier.Struct place tag) from to behind (mid, h, k) =
    joined (a_word_at place Classes.STRUCT from mid (λ t. refl) h) (a_name tag mid to behind k)
a_specifier (Specifier.Alias alias) from to behind h = a_name alias from to behind h

some_stars : (count : ℕ) → Shows stars print_stars count
some_stars zero from to behind h = no_word from to h
some_stars (suc count) from to behind (mid, h, k) = joined (a_word Classes.STAR from mid (λ t. refl) h) (some_stars count mid to behind k)

a_declarator : (d : Declarator) → Shows declarator print_declarator d
a_declarator d from to behind (mid, h, k) = joined (some_stars d.stars from mid _ h) (a_name d.name mid to behind k)

some_fields : (f : Fields) → Shows fields print_fields f
some_fields f from to behind (a, h, (b, i, (c, j, k))) =
    joined (a_specifier f.specifier from a _ h)
    (joined (a_declarator f.first a b _ i)
    (joined (more_shown declarator print_declarator a_declarator f.others b c _ j) (a_word Classes.SEMICOLON c to (λ t. refl) k)))

a_struct_body : (lines : List Fields) → Shows struct_body print_struct_body lines
a_struct_body lines from to behind (a, h, (b, i, k)) =
    joined (a_word Classes.OPEN_BRACE from a (λ t. refl) h)
    (joined (all_shown fields print_fields some_fields lines a b _ i) (a_word Classes.CLOSE_BRACE b to (λ t. refl) k))

a_param : (p : Param) → Shows param print_param p
a_param p from to behind (a, h, (b, i, k)) =
    joined (a_specifier p.specifier from a _ h)
    (joined (some_stars p.stars a b _ i) (maybe_shown name print_name a_name p.name b to behind k))

some_params : (p : Params) → Shows params print_params p
some_params Params.NoParams from to behind h = no_word from to h
some_params (Params.VoidParams place) from to behind h = a_word_at place Classes.VOID from to (λ t. refl) h
some_params (Params.Listed first others) from to behind (alone, (mid, h, k)) =
    joined (a_param first from mid _ h) (more_shown param print_param a_param others mid to behind k)

a_head : (h : Head) → Shows head print_head h
a_head h from to behind (a, i, (b, j, (c, k, (d, l, m)))) =
    joined (a_specifier h.specifier from a _ i)
    (joined (a_declarator h.declarator a b _ j)
    (joined (an_open b c k)
    (joined (some_params h.params c d _ l) (a_word Classes.CLOSE d to (λ t. refl) m))))

-- ---- expressions

an_op : (op : BinaryOp) (from to : List Word) (behind : Texts) → word (class_of_binary op) from to
    → Prints from to (text_of_binary op ∷ behind) behind
an_op BinaryOp.Or from to behind h = a_word Classes.OR from to (λ t. refl) h
an_op BinaryOp.And from to behind h = a_word Classes.AND from to (λ t. refl) h
an_op BinaryOp.Equal from to behind h = a_word Classes.EQUAL from to (λ t. refl) h
an_op BinaryOp.NotEqual from to behind h = a_word Classes.NOT_EQUAL from to (λ t. refl) h
an_op BinaryOp.Less from to behind h = a_word Classes.LESS from to (λ t. refl) h
an_op BinaryOp.LessEqual from to behind h = a_word Classes.LESS_EQUAL from to (λ t. refl) h
an_op BinaryOp.Greater from to behind h = a_word Classes.GREATER from to (λ t. refl) h
an_op BinaryOp.GreaterEqual from to behind h = a_word Classes.GREATER_EQUAL from to (λ t. refl) h
an_op BinaryOp.Add from to behind h = a_word Classes.PLUS from to (λ t. refl) h
an_op BinaryOp.Subtract from to behind h = a_word Classes.MINUS from to (λ t. refl) h
an_op BinaryOp.Multiply from to behind h = a_word Classes.STAR from to (λ t. refl) h

a_prefix : (place : Place) (op : PrefixOp) (from to : List Word) (behind : Texts) → word_at place (class_of_prefix op) from to
    → Prints from to (text_of_prefix op ∷ behind) behind
a_prefix place PrefixOp.Negate from to behind h = a_word_at place Classes.MINUS from to (λ t. refl) h
a_prefix place PrefixOp.Not from to behind h = a_word_at place Classes.NOT from to (λ t. refl) h

a_size_of : (allocated : Specifier) → Shows size_of print_size_of allocated
a_size_of allocated from to behind (a, h, (b, i, (c, j, (d, k, (e, l, m))))) =
    joined (an_open from a h)
    (joined (a_word Classes.SIZEOF a b (λ t. refl) i)
    (joined (an_open b c j)
    (joined (a_specifier allocated c d _ k)
    (joined (a_word Classes.CLOSE d e (λ t. refl) l) (a_word Classes.CLOSE e to (λ t. refl) m)))))

a_malloc : (place : Place) (as_type : Option Specifier) (allocated : Specifier) (from to : List Word) (behind : Texts)
    → malloc place as_type allocated from to → Prints from to (print_malloc as_type allocated behind) behind
a_malloc place None allocated from to behind (a, h, k) =
    joined (a_word_at place Classes.MALLOC from a (λ t. refl) h) (a_size_of allocated a to behind k)
a_malloc place (Some as_type) allocated from to behind (a, (b, h, (c, i, (d, j, k))), (e, l, m)) =
    joined (a_word_at place Classes.CAST from b (λ t. refl) h)
    (joined (a_specifier as_type b c _ i)
    (joined (a_word Classes.STAR c d (λ t. refl) j)
    (joined (a_word Classes.CLOSE d a (λ t. refl) k)
    (joined (a_word Classes.MALLOC a e (λ t. refl) l) (a_size_of allocated e to behind m)))))

mutual
  an_expr : (e : Expr) (level : ℕ) (from to : List Word) (behind : Texts) → expr_at level e from to
      → Prints from to (print_expr e behind) behind
  an_expr (Expr.Chain first Links.NoLinks) level from to behind h = absurd h
  an_expr (Expr.Chain first (Links.Link op second others)) level from to behind (least, (a, h, (b, i, (c, j, k)))) =
      joined (an_expr first (level_of op + 1) from a _ h)
      (joined (an_op op a b _ i)
      (joined (an_expr second (level_of op + 1) b c _ j) (some_links others (level_of op) c to behind k)))
  an_expr (Expr.Prefix place op inner) level from to behind (least, (a, h, k)) =
      joined (a_prefix place op from a _ h) (an_expr inner 6 a to behind k)
  an_expr (Expr.Members base first others) level from to behind (least, (a, h, (b, i, (c, j, k)))) =
      joined (an_expr base 8 from a _ h)
      (joined (a_word Classes.ARROW a b (λ t. refl) i)
      (joined (a_name first b c _ j)
      (all_shown (λ field x y. (m : List Word) × word Classes.ARROW x m × name field m y) (λ field rest. codes "->" ∷ print_name field rest)
      (λ field x y rest p. joined (a_word Classes.ARROW x p.0 (λ t. refl) p.1) (a_name field p.0 y rest p.2)) others c to behind k)))
  an_expr (Expr.Variable v) level from to behind h = a_name v from to behind h
  an_expr (Expr.Number place value) level from to behind h = a_number place value from to behind h
  an_expr (Expr.Null place) level from to behind h = a_word_at place Classes.NULL from to (λ t. refl) h
  an_expr (Expr.Paren place inner) level from to behind (a, h, (b, i, k)) =
      joined (a_word_at place Classes.OPEN from a (λ t. refl) h)
      (joined (an_expr inner 0 a b _ i) (a_word Classes.CLOSE b to (λ t. refl) k))
  an_expr (Expr.Call callee args) level from to behind (a, h, (b, i, (c, j, k))) =
      joined (a_name callee from a _ h) (joined (an_open a b i) (joined (some_args args b c _ j) (a_word Classes.CLOSE c to (λ t. refl) k)))
  an_expr (Expr.Malloc place as_type allocated) level from to behind h = a_malloc place as_type allocated from to behind h

  some_links : (links : Links) (level : ℕ) (from to : List Word) (behind : Texts) → links_at level links from to
      → Prints from to (print_links links behind) behind
  some_links Links.NoLinks level from to behind h = no_word from to h
  some_links (Links.Link op operand others) level from to behind (same, (a, h, (b, i, k))) =
      joined (an_op op from a _ h) (joined (an_expr operand (level + 1) a b _ i) (some_links others level b to behind k))

  some_args : (args : Args) (from to : List Word) (behind : Texts) → call_args args from to → Prints from to (print_args args behind) behind
  some_args Args.NoArgs from to behind h = no_word from to h
  some_args (Args.Arg first others) from to behind (a, h, k) = joined (an_expr first 0 from a _ h) (other_args others a to behind k)

  other_args : (args : Args) (from to : List Word) (behind : Texts) → more_args args from to
      → Prints from to (print_more_args args behind) behind
  other_args Args.NoArgs from to behind h = no_word from to h
  other_args (Args.Arg first others) from to behind (a, h, (b, i, k)) =
      joined (a_word Classes.COMMA from a (λ t. refl) h) (joined (an_expr first 0 a b _ i) (other_args others b to behind k))

-- ---- statements

an_assign : (op : AssignOp) (from to : List Word) (behind : Texts) → word (class_of_assign op) from to
    → Prints from to (text_of_assign op ∷ behind) behind
an_assign AssignOp.Set from to behind h = a_word Classes.SET from to (λ t. refl) h
an_assign AssignOp.AddTo from to behind h = a_word Classes.ADD_TO from to (λ t. refl) h
an_assign AssignOp.SubtractFrom from to behind h = a_word Classes.SUBTRACT_FROM from to (λ t. refl) h
an_assign AssignOp.MultiplyBy from to behind h = a_word Classes.MULTIPLY_BY from to (λ t. refl) h

a_step : (op : StepOp) (from to : List Word) (behind : Texts) → word (class_of_step op) from to
    → Prints from to (text_of_step op ∷ behind) behind
a_step StepOp.Increment from to behind h = a_word Classes.INCREMENT from to (λ t. refl) h
a_step StepOp.Decrement from to behind h = a_word Classes.DECREMENT from to (λ t. refl) h

a_simple : (s : Simple) → Shows simple print_simple s
a_simple (Simple.Assign target op value) from to behind (a, h, (b, i, k)) =
    joined (an_expr target 7 from a _ h) (joined (an_assign op a b _ i) (an_expr value 0 b to behind k))
a_simple (Simple.Step target op) from to behind (a, h, k) = joined (an_expr target 7 from a _ h) (a_step op a to behind k)
a_simple (Simple.Perform callee args) from to behind (a, h, (b, i, (c, j, k))) =
    joined (a_name callee from a _ h) (joined (an_open a b i) (joined (some_args args b c _ j) (a_word Classes.CLOSE c to (λ t. refl) k)))
a_simple (Simple.Free place pointer) from to behind (a, h, (b, i, (c, j, k))) =
    joined (a_word_at place Classes.FREE from a (λ t. refl) h)
    (joined (an_open a b i) (joined (an_expr pointer 0 b c _ j) (a_word Classes.CLOSE c to (λ t. refl) k)))

an_initialized : (one : Initialized) → Shows initialized print_initialized one
an_initialized one from to behind (a, h, k) =
    joined (a_declarator one.declarator from a _ h)
    (maybe_shown (λ value x y. (m : List Word) × word Classes.SET x m × expr_at 0 value m y)
    (λ value rest. codes "=" ∷ print_expr value rest)
    (λ value x y rest p. joined (a_word Classes.SET x p.0 (λ t. refl) p.1) (an_expr value 0 p.0 y rest p.2)) one.value a to behind k)

a_local : (l : Local) → Shows local print_local l
a_local l from to behind (a, h, (b, i, k)) =
    joined (a_specifier l.specifier from a _ h)
    (joined (an_initialized l.first a b _ i) (more_shown initialized print_initialized an_initialized l.others b to behind k))

an_init : (i : ForInit) → Shows for_init print_init i
an_init ForInit.NoInit from to behind h = no_word from to h
an_init (ForInit.Locals l) from to behind h = a_local l from to behind h
an_init (ForInit.Once s) from to behind h = a_simple s from to behind h

maybe_expr : (value : Option Expr) (from to : List Word) (behind : Texts) → maybe (expr_at 0) value from to
    → Prints from to (print_maybe print_expr value behind) behind
maybe_expr value from to behind h = maybe_shown (expr_at 0) print_expr (λ e. an_expr e 0) value from to behind h

mutual
  a_stmt : (s : Stmt) (from to : List Word) (behind : Texts) → stmt s from to → Prints from to (print_stmt s behind) behind
  a_stmt (Stmt.Block place body end) from to behind (a, h, (b, i, k)) =
      joined (a_word_at place Classes.OPEN_BRACE from a (λ t. refl) h)
      (joined (some_stmts body a b _ i) (a_word_at end Classes.CLOSE_BRACE b to (λ t. refl) k))
  a_stmt (Stmt.Empty place) from to behind h = a_word_at place Classes.SEMICOLON from to (λ t. refl) h
  a_stmt (Stmt.Declare l) from to behind (a, h, k) = joined (a_local l from a _ h) (a_word Classes.SEMICOLON a to (λ t. refl) k)
  a_stmt (Stmt.Do s) from to behind (a, h, k) = joined (a_simple s from a _ h) (a_word Classes.SEMICOLON a to (λ t. refl) k)
  a_stmt (Stmt.If place test body) from to behind (lacks, (a, h, (b, i, (c, j, (d, k, l))))) =
      joined (a_word_at place Classes.IF from a (λ t. refl) h)
      (joined (an_open a b i)
      (joined (an_expr test 0 b c _ j) (joined (a_word Classes.CLOSE c d (λ t. refl) k) (a_stmt body d to behind l))))
  a_stmt (Stmt.IfElse place test body other) from to behind (a, h, (b, i, (c, j, (d, k, (e, l, (f, m, o)))))) =
      joined (a_word_at place Classes.IF from a (λ t. refl) h)
      (joined (an_open a b i)
      (joined (an_expr test 0 b c _ j)
      (joined (a_word Classes.CLOSE c d (λ t. refl) k)
      (joined (a_stmt body d e _ l) (joined (a_word Classes.ELSE e f (λ t. refl) m) (a_stmt other f to behind o))))))
  a_stmt (Stmt.While place test body) from to behind (a, h, (b, i, (c, j, (d, k, l)))) =
      joined (a_word_at place Classes.WHILE from a (λ t. refl) h)
      (joined (an_open a b i)
      (joined (an_expr test 0 b c _ j) (joined (a_word Classes.CLOSE c d (λ t. refl) k) (a_stmt body d to behind l))))
  a_stmt (Stmt.DoWhile place body test) from to behind (a, h, (b, i, (c, j, (d, k, (e, l, (f, m, o)))))) =
      joined (a_word_at place Classes.DO from a (λ t. refl) h)
      (joined (a_stmt body a b _ i)
      (joined (a_word Classes.WHILE b c (λ t. refl) j)
      (joined (an_open c d k)
      (joined (an_expr test 0 d e _ l) (joined (a_word Classes.CLOSE e f (λ t. refl) m) (a_word Classes.SEMICOLON f to (λ t. refl) o))))))
  a_stmt (Stmt.For place init test step body) from to behind (a, h, (b, i, (c, j, (d, k, (e, l, (f, m, (g, o, (p, q, r)))))))) =
      joined (a_word_at place Classes.FOR from a (λ t. refl) h)
      (joined (an_open a b i)
      (joined (an_init init b c _ j)
      (joined (a_word Classes.SEMICOLON c d (λ t. refl) k)
      (joined (maybe_expr test d e _ l)
      (joined (a_word Classes.SEMICOLON e f (λ t. refl) m)
      (joined (maybe_shown simple print_simple a_simple step f g _ o)
      (joined (a_word Classes.CLOSE g p (λ t. refl) q) (a_stmt body p to behind r))))))))
  a_stmt (Stmt.Break place) from to behind (a, h, k) =
      joined (a_word_at place Classes.BREAK from a (λ t. refl) h) (a_word Classes.SEMICOLON a to (λ t. refl) k)
  a_stmt (Stmt.Continue place) from to behind (a, h, k) =
      joined (a_word_at place Classes.CONTINUE from a (λ t. refl) h) (a_word Classes.SEMICOLON a to (λ t. refl) k)
  a_stmt (Stmt.Return place value) from to behind (a, h, (b, i, k)) =
      joined (a_word_at place Classes.RETURN from a (λ t. refl) h)
      (joined (maybe_expr value a b _ i) (a_word Classes.SEMICOLON b to (λ t. refl) k))

  some_stmts : (all : Stmts) (from to : List Word) (behind : Texts) → stmts all from to → Prints from to (print_stmts all behind) behind
  some_stmts Stmts.NoStmts from to behind h = no_word from to h
  some_stmts (Stmts.Next first others) from to behind (a, h, k) = joined (a_stmt first from a _ h) (some_stmts others a to behind k)

-- ---- items

an_item : (i : Item) → Shows item print_item i
an_item (Item.StructItem place tag lines) from to behind (a, h, (b, i, (c, j, k))) =
    joined (a_word_at place Classes.STRUCT from a (λ t. refl) h)
    (joined (a_name tag a b _ i) (joined (a_struct_body lines b c _ j) (a_word Classes.SEMICOLON c to (λ t. refl) k)))
an_item (Item.TypedefStruct place tag lines alias) from to behind (a, h, (b, i, (c, j, (d, k, (e, l, m))))) =
    joined (a_word_at place Classes.TYPEDEF from a (λ t. refl) h)
    (joined (a_word Classes.STRUCT a b (λ t. refl) i)
    (joined (maybe_shown name print_name a_name tag b c _ j)
    (joined (a_struct_body lines c d _ k) (joined (a_name alias d e _ l) (a_word Classes.SEMICOLON e to (λ t. refl) m)))))
an_item (Item.TypedefAlias place tag alias) from to behind (a, h, (b, i, (c, j, (d, k, l)))) =
    joined (a_word_at place Classes.TYPEDEF from a (λ t. refl) h)
    (joined (a_word Classes.STRUCT a b (λ t. refl) i)
    (joined (a_name tag b c _ j) (joined (a_name alias c d _ k) (a_word Classes.SEMICOLON d to (λ t. refl) l))))
an_item (Item.Prototype h) from to behind (a, i, k) = joined (a_head h from a _ i) (a_word Classes.SEMICOLON a to (λ t. refl) k)
an_item (Item.Definition h place body end) from to behind (a, i, (b, j, (c, k, l))) =
    joined (a_head h from a _ i)
    (joined (a_word_at place Classes.OPEN_BRACE a b (λ t. refl) j)
    (joined (some_stmts body b c _ k) (a_word_at end Classes.CLOSE_BRACE c to (λ t. refl) l)))

-- ---- tokens

-- each entry's text is what its class says
abbrev AreFit : List Entry → Type 0
AreFit [] = Unit {0}
AreFit (entry ∷ entries) = ((text : List ℕ) → text_in entry.is text ≡ entry.text) × AreFit entries

keys_fit : AreFit keys
keys_fit = (
  λ t. refl,
  (
    λ t. refl,
    (
      λ t. refl,
      (
        λ t. refl,
        (
          λ t. refl,
          (
            λ t. refl,
            (
              λ t. refl,
              (
                λ t. refl,
                (λ t. refl, (λ t. refl, (λ t. refl, (λ t. refl, (λ t. refl, (λ t. refl, (λ t. refl, (λ t. refl, tt)))))))),
              ),
            ),
          ),
        ),
      ),
    ),
  ),
)

signs_fit : AreFit signs
signs_fit = (
  λ t. refl,
  (
    λ t. refl,
    (
      λ t. refl,
      (
        λ t. refl,
        (
          λ t. refl,
          (
            λ t. refl,
            (
              λ t. refl,
              (
                λ t. refl,
                (
                  λ t. refl,
                  (
                    λ t. refl,
                    (
                      λ t. refl,
                      (
                        λ t. refl,
                        (
                          λ t. refl,
                          (
                            λ t. refl,
                            (
                              λ t. refl,
                              (
                                λ t. refl,
                                (λ t. refl, (λ t. refl, (λ t. refl, (λ t. refl, (λ t. refl, (λ t. refl, (λ t. refl, (λ t. refl, tt)))))))),
                              ),
                            ),
                          ),
                        ),
                      ),
                    ),
                  ),
                ),
              ),
            ),
          ),
        ),
      ),
    ),
  ),
)

text_found : (entries : List Entry) → AreFit entries → (text : List ℕ) → text ≡ text_in (class_in entries class.OtherKey text) text
text_found [] fit text = refl
text_found (entry ∷ entries) fit text = by_test (bytes_eq entry.text text) refl (text_found entries fit.1 text)
  where
    by_test : (b : Bool) → bytes_eq entry.text text ≡ b → text ≡ text_in (class_in entries class.OtherKey text) text
        → text ≡ text_in (cond b entry.is (class_in entries class.OtherKey text)) text
    by_test true e others = sym ((bytes_eq-Decides entry.text text).0 e) ∙ sym (fit.0 text)
    by_test false e others = others

token_text : (k : TokenKind) (text : List ℕ) (tokens : List Token) → IsToken k text → text ≡ text_in (class_of k text tokens) text
token_text kind.Word text tokens is = refl
token_text kind.Key text tokens is = text_found keys keys_fit text
token_text kind.Number text tokens (n, small, e) =
    let value : digits_value 10 (decimal n) ≡ n = (decimal_is_IsNumeral n (omega arith)).1 in
    e ∙ ap decimal (sym (ap (digits_value 10) e ∙ value))
token_text kind.Sign text tokens is = by_sign (bytes_eq text (codes "(")) (begins_cast tokens) refl
  where
    by_sign : (b c : Bool)
        → bytes_eq text (codes "(") ≡ b → text ≡ text_in (cond b (cond c class.Cast class.Open) (class_in signs class.OtherKey text)) text
    by_sign true true e = (bytes_eq-Decides text (codes "(")).0 e
    by_sign true false e = (bytes_eq-Decides text (codes "(")).0 e
    by_sign false c e = text_found signs signs_fit text
token_text kind.End text tokens is = absurd is

word_written : (token : Token) (tokens : List Token) → token.text ≡ text_in (class_of token.kind token.text tokens) token.text
    → token.text ≡ text_in (numbered (number_of (class_of token.kind token.text tokens))) token.text
word_written token tokens e = e ∙ ap (λ c. text_in c token.text) (sym (numbered-number_of (class_of token.kind token.text tokens)))

pub words_written : (tokens : List Token) → IsTokenList tokens → AreWritten (words_of tokens)
words_written [] listed = absurd listed
words_written (token ∷ []) listed =
    (word_written token [] (listed.text ∙ ap (λ k. text_in (class_of k token.text []) token.text) (sym listed.kind)), tt)
words_written (token ∷ next ∷ tokens) listed =
    (word_written token (next ∷ tokens) (token_text token.kind token.text (next ∷ tokens) listed.0), words_written (next ∷ tokens) listed.2)

texts_of : (tokens : List Token) → map (λ (t : Token). t.text) tokens ≡ texts (words_of tokens)
texts_of [] = refl
texts_of (token ∷ tokens) = ap (λ l. token.text ∷ l) (texts_of tokens)

-- the words that a file spells are its printed words, and the end
file_texts : (file : File) (words : List Word) → AreWritten words → Spells file words → texts words ≡ printed file ++ (codes "#" ∷ [])
file_texts file words written (mid, h, k) =
    let items : Prints words mid (printed file) [] = all_shown item print_item an_item file.items words mid [] h in
    let end : Prints mid [] (codes "#" ∷ []) [] = a_word Classes.END mid [] (λ t. refl) k in
    items.shows written (codes "#" ∷ []) (end.shows (items.keeps written) [] refl)

pub printed_words : (tokens : List Token) → IsTokenList tokens → (file : File) → Spells file (words_of tokens)
    → map (λ (t : Token). t.text) tokens ≡ printed file ++ (codes "#" ∷ [])
printed_words tokens listed file spells = texts_of tokens ∙ file_texts file (words_of tokens) (words_written tokens listed) spells

-- the spellings of the tokens but the end
abbrev spellings : List Token → List Spelling
spellings [] = []
spellings (token ∷ []) = []
spellings (token ∷ next ∷ tokens) = spelling token ∷ spellings (next ∷ tokens)

are_tokens : (tokens : List Token) → IsTokenList tokens
    → AllByRecursion (λ (word : Spelling). IsToken word.kind word.text) (spellings tokens)
are_tokens [] listed = absurd listed
are_tokens (token ∷ []) listed = tt
are_tokens (token ∷ next ∷ tokens) listed = (listed.0, are_tokens (next ∷ tokens) listed.2)

spellings_end : (tokens : List Token) → IsTokenList tokens → map spelling tokens ≡ spellings tokens ++ end_spelling ∷ []
spellings_end [] listed = absurd listed
spellings_end (token ∷ []) listed = spelled token.kind token.text listed.kind listed.text
  where
    spelled : (k : TokenKind) (t : List ℕ) → k ≡ kind.End → t ≡ codes "#" → record { kind = k; text = t } ∷ [] ≡ end_spelling ∷ []
    spelled k t e f = ap (λ c. record { kind = c; text = t } ∷ []) e ∙ ap (λ x. record { kind = kind.End; text = x } ∷ []) f
spellings_end (token ∷ next ∷ tokens) listed = ap (λ l. spelling token ∷ l) (spellings_end (next ∷ tokens) listed.2)

spaced_are : (tokens : List Token) → IsTokenList tokens → (shown : Texts) → map (λ (t : Token). t.text) tokens ≡ shown ++ (codes "#" ∷ [])
    → spaced (spellings tokens) ≡ spaced_texts shown
spaced_are [] listed shown e = absurd listed
spaced_are (token ∷ []) listed [] e = refl
spaced_are (token ∷ []) listed (text ∷ []) e = absurd (cc)
spaced_are (token ∷ []) listed (text ∷ other ∷ shown) e = absurd (cc)
spaced_are (token ∷ next ∷ tokens) listed [] e = absurd (cc)
spaced_are (token ∷ next ∷ tokens) listed (text ∷ shown) e =
    let first : token.text ≡ text = cc in
    let others : map (λ (t : Token). t.text) (next ∷ tokens) ≡ shown ++ (codes "#" ∷ []) = cc in
    ap (λ t. t ++ 32 ∷ spaced (spellings (next ∷ tokens))) first
    ∙ ap (λ l. text ++ 32 ∷ l) (spaced_are (next ∷ tokens) listed.2 shown others)

pub printed_reads_back : (tokens : List Token) → IsTokenList tokens → (file : File) → Spells file (words_of tokens)
    → (again : List Token) × HasTokens (printed_text file) again × (map spelling again ≡ map spelling tokens)
printed_reads_back tokens listed file spells =
    let (again, has, same) = words_read_back (spellings tokens) (are_tokens tokens listed) in
    let text : spaced (spellings tokens) ≡ printed_text file =
    spaced_are tokens listed (printed file) (printed_words tokens listed file spells) in
    (again, subst (λ t. HasTokens t again) text has, same ∙ sym (spellings_end tokens listed))
