-- What a reader gives nests no deeper than the levels that it was given.
use Rattle.std.proofs.Common.{◌≡◌, ℕ, zero, suc, ◌≤◌, Bool, true, false, cond, List, [], ◌∷◌, length, subst, arith}
use Rattle.std.specs.Prelude.{◌||◌, Option, Some, None, Result, Ok, Err}
use Rattle.c_grammar.specs.declared.tokens.places.Place.{Place}
use Rattle.c_grammar.specs.declared.class.Class.{Class}
use Rattle.c_grammar.specs.declared.class.Class.TheVariants as class
use Rattle.c_grammar.specs.Words.{Word}
use Rattle.c_grammar.specs.Trees.{Name, Specifier, Head, BinaryOp, PrefixOp, Expr, Links, Args, AssignOp, Stmt, Item, File}
use Rattle.c_grammar.specs.Nesting.{nesting, links_nesting, args_nesting, deepest, maybe_nesting, simple_nesting, initialized_nesting}
use Rattle.c_grammar.specs.Nesting.{local_nesting, init_nesting, stmt_nesting, stmts_nesting, item_nesting, file_nesting}
use Rattle.c_grammar.specs.Readers.{Halt, Got, ◌>>=◌, class_at, place_at, behind, is_class, take, name_here, read_name, is_open, take_open}
use Rattle.c_grammar.specs.Readers.{read_each, read_more, read_maybe, read_specifier, read_declarator, read_struct_body, read_params, Below}
use Rattle.c_grammar.specs.Readers.{begins_expr, read_more_args, read_args, read_call, read_members, with_members, read_size_of}
use Rattle.c_grammar.specs.Readers.{read_malloc, read_cast, read_paren, closed_by, named_by, primary_by, read_postfix, read_prefix}
use Rattle.c_grammar.specs.Readers.{unary_by, op_at, link_by, read_links, chained, read_chain, read_unary, read_expr, read_below}
use Rattle.c_grammar.specs.Readers.{begins_assign, assign_with, assign_by, read_target, read_called, read_named, other_by, simple_by}
use Rattle.c_grammar.specs.Readers.{read_simple, read_value, read_initialized, read_locals, Clause, Declares, Does, read_typed}
use Rattle.c_grammar.specs.Readers.{begins_declarator, clause_named, clause_by, read_clause, begins_clause, begins_simple, stmt_of, init_of}
use Rattle.c_grammar.specs.Readers.{flat_by, read_test, begins_stmt, read_stmts, Body, read_body, if_of, read_else, read_if, read_while}
use Rattle.c_grammar.specs.Readers.{read_do, read_for, nested_by, opens_level, read_stmt, head_of, read_definition, item_end_by}
use Rattle.c_grammar.specs.Readers.{read_headed, struct_by, read_typedef_struct, read_typedef_alias, read_typedef, item_by, begins_item}
use Rattle.c_grammar.specs.Readers.{read_item, read_file}

-- what holds of a thing that was got
abbrev Gives : {X : Type 0} → (X → Type 0) → Result X Halt → Type 0
Gives P (Ok x) = P x
Gives P (Err halt) = Unit {0}

gives_then : {X Y : Type 0} (P : X → Type 0) (Q : Y → Type 0) (got : Result X Halt) (next : X → Result Y Halt) → Gives P got
    → ((x : X) → P x → Gives Q (next x)) → Gives Q (got >>= next)
gives_then P Q (Ok x) next h k = k x h
gives_then P Q (Err halt) next h k = tt

gives_skip : {X Y : Type 0} (Q : Y → Type 0) (got : Result X Halt) (next : X → Result Y Halt) → ((x : X) → Gives Q (next x))
    → Gives Q (got >>= next)
gives_skip Q (Ok x) next k = k x
gives_skip Q (Err halt) next k = tt

-- what was got is no deeper than so many levels
abbrev Fits : {A : Type 0} → (A → ℕ) → ℕ → Got A → Type 0
Fits {A} depth n got = Gives (λ (x : A × List Word). depth x.0 ≤ n) got

-- a reader gives nothing deeper
abbrev FitsAll : {A : Type 0} → (A → ℕ) → ℕ → (List Word → Got A) → Type 0
FitsAll depth n read = (words : List Word) → Fits depth n (read words)

step : {A B : Type 0} (depth : A → ℕ) (m : ℕ) (whole : B → ℕ) (n : ℕ) (got : Got A) → Fits depth m got → (next : A × List Word → Got B)
    → ((x : A × List Word) → depth x.0 ≤ m → Fits whole n (next x)) → Fits whole n (got >>= next)
step {A} {B} depth m whole n got h next k =
    gives_then (λ (x : A × List Word). depth x.0 ≤ m) (λ (y : B × List Word). whole y.0 ≤ n) got next h k

-- over what has no depth
over : {X B : Type 0} (whole : B → ℕ) (n : ℕ) (got : Result X Halt) (next : X → Got B) → ((x : X) → Fits whole n (next x))
    → Fits whole n (got >>= next)
over {X} {B} whole n got next k = gives_skip (λ (y : B × List Word). whole y.0 ≤ n) got next k

either : {A : Type 0} (depth : A → ℕ) (n : ℕ) (b : Bool) (x y : Got A) → Fits depth n x → Fits depth n y → Fits depth n (cond b x y)
either depth n true x y h k = h
either depth n false x y h k = k

each_fits : {A : Type 0} (depth : A → ℕ) (n : ℕ) (begins : Class → Bool) (read : List Word → Got A) → FitsAll depth n read
    → (times : ℕ) → FitsAll (deepest depth) n (read_each times begins read)
each_fits depth n begins read fits zero words = omega arith
each_fits depth n begins read fits (suc times) words =
    either (deepest depth) n (begins (class_at words)) _ _
    (step depth n (deepest depth) n (read words) (fits words) _ (λ one h.
    step (deepest depth) n (deepest depth) n (read_each times begins read one.1) (each_fits depth n begins read fits times one.1) _
    (λ others k. omega arith)))
    (omega arith)

maybe_fits : {A : Type 0} (depth : A → ℕ) (n : ℕ) (begins : Class → Bool) (read : List Word → Got A) → FitsAll depth n read
    → FitsAll (maybe_nesting depth) n (read_maybe begins read)
maybe_fits depth n begins read fits words =
    either (maybe_nesting depth) n (begins (class_at words)) _ _
    (step depth n (maybe_nesting depth) n (read words) (fits words) _ (λ one h. h)) (omega arith)

-- expressions

more_args_fit : (n : ℕ) (read : List Word → Got Expr) → FitsAll nesting n read → (times : ℕ)
    → FitsAll args_nesting n (read_more_args times read)
more_args_fit n read fits zero words = omega arith
more_args_fit n read fits (suc times) words =
    either args_nesting n (is_class class.Comma (class_at words)) _ _
    (step nesting n args_nesting n (read (behind words)) (fits (behind words)) _ (λ one h.
    step args_nesting n args_nesting n (read_more_args times read one.1) (more_args_fit n read fits times one.1) _
    (λ others k. omega arith)))
    (omega arith)

args_fit : (n : ℕ) (read : List Word → Got Expr) → FitsAll nesting n read → FitsAll args_nesting n (read_args read)
args_fit n read fits words =
    either args_nesting n (begins_expr (class_at words)) _ _
    (step nesting n args_nesting n (read words) (fits words) _ (λ one h.
    step args_nesting n args_nesting n (read_more_args (length one.1) read one.1) (more_args_fit n read fits (length one.1) one.1) _
    (λ others k. omega arith)))
    (omega arith)

-- what is one level deeper is read by a reader that gives nothing deeper
abbrev BelowFits : ℕ → Below → Type 0
BelowFits n None = Unit {0}
BelowFits zero (Some read) = ⊥
BelowFits (suc n) (Some read) = FitsAll nesting n read

abbrev call_nesting : Args → ℕ
call_nesting args = suc (args_nesting args)

call_fits : (n : ℕ) (below : Below) → BelowFits n below → FitsAll call_nesting n (read_call below)
call_fits n None fits words = tt
call_fits zero (Some read) fits words = absurd fits
call_fits (suc n) (Some read) fits words =
    step args_nesting n call_nesting (suc n) (read_args read (behind words)) (args_fit n read fits (behind words)) _ (λ args h.
    over call_nesting (suc n) (take class.Close args.1) _ (λ rest. omega arith))

paren_fits : (n : ℕ) (below : Below) → BelowFits n below → FitsAll nesting n (read_paren below)
paren_fits n None fits words = tt
paren_fits zero (Some read) fits words = absurd fits
paren_fits (suc n) (Some read) fits words =
    step nesting n nesting (suc n) (read (behind words)) (fits (behind words)) _ (λ inner h.
    over nesting (suc n) (take class.Close inner.1) _ (λ rest. omega arith))

malloc_fits : (n : ℕ) → FitsAll nesting n read_malloc
unfolding read_malloc
malloc_fits n words = over nesting n (read_size_of (behind words)) _ (λ allocated. omega arith)

cast_fits : (n : ℕ) → FitsAll nesting n read_cast
unfolding read_cast
cast_fits n words =
    over nesting n (read_specifier (behind words)) _ (λ as_type.
    over nesting n (take class.Star as_type.1) _ (λ a.
    over nesting n (take class.Close a) _ (λ b.
    over nesting n (take class.Malloc b) _ (λ c.
    over nesting n (read_size_of c) _ (λ allocated. omega arith)))))

closed_fits : (n : ℕ) (below : Below) → BelowFits n below → (c : Class) → FitsAll nesting n (closed_by c below)
closed_fits n below fits class.Number words = omega arith
closed_fits n below fits class.Null words = omega arith
closed_fits n below fits class.Open words = paren_fits n below fits words
closed_fits n below fits class.Cast words = cast_fits n words
closed_fits n below fits class.Malloc words = malloc_fits n words
closed_fits n below fits _ words = tt

named_fits : (n : ℕ) (below : Below) → BelowFits n below → (b : Bool) (first : Name) → FitsAll nesting n (named_by b below first)
named_fits n below fits true first words =
    step call_nesting n nesting n (read_call below words) (call_fits n below fits words) _ (λ args h. h)
named_fits n below fits false first words = omega arith

primary_fits : (n : ℕ) (below : Below) → BelowFits n below → (c : Class) → FitsAll nesting n (primary_by c below)
primary_fits n below fits class.Name words = named_fits n below fits (is_open (class_at (behind words))) (name_here words) (behind words)
primary_fits n below fits kind words = closed_fits n below fits kind words

members_fit : (n : ℕ) (base : Expr) (fields : List Name) → nesting base ≤ n → nesting (with_members base fields) ≤ n
members_fit n base [] h = h
members_fit n base (first ∷ others) h = h

postfix_fits : (n : ℕ) (below : Below) → BelowFits n below → FitsAll nesting n (read_postfix below)
postfix_fits n below fits words =
    step nesting n nesting n (primary_by (class_at words) below words) (primary_fits n below fits (class_at words) words) _ (λ base h.
    over nesting n (read_members base.1) _ (λ fields. members_fit n base.0 fields.0 h))

prefix_fits : (n : ℕ) (op : PrefixOp) (below : Below) → BelowFits n below → FitsAll nesting n (read_prefix op below)
prefix_fits n op None fits words = tt
prefix_fits zero op (Some read) fits words = absurd fits
prefix_fits (suc n) op (Some read) fits words =
    step nesting n nesting (suc n) (read (behind words)) (fits (behind words)) _ (λ inner h. omega arith)

unary_by_fits : (n : ℕ) (unary expr : Below) → BelowFits n unary → BelowFits n expr → (c : Class)
    → FitsAll nesting n (unary_by c unary expr)
unary_by_fits n unary expr f g class.Minus words = prefix_fits n PrefixOp.Negate unary f words
unary_by_fits n unary expr f g class.Not words = prefix_fits n PrefixOp.Not unary f words
unary_by_fits n unary expr f g _ words = postfix_fits n expr g words

link_fits : (n : ℕ) (read : List Word → Got Expr) (more : List Word → Got Links) → FitsAll nesting n read → FitsAll links_nesting n more
    → (op : Option BinaryOp) → FitsAll links_nesting n (link_by op read more)
link_fits n read more f g None words = omega arith
link_fits n read more f g (Some op) words =
    step nesting n links_nesting n (read (behind words)) (f (behind words)) _ (λ one h.
    step links_nesting n links_nesting n (more one.1) (g one.1) _ (λ others k. omega arith))

links_fit : (n levels : ℕ) (read : List Word → Got Expr) → FitsAll nesting n read → (times : ℕ)
    → FitsAll links_nesting n (read_links times levels read)
links_fit n levels read fits zero words = omega arith
links_fit n levels read fits (suc times) words =
    link_fits n read (read_links times levels read) fits (links_fit n levels read fits times) (op_at levels (class_at words)) words

chained_fits : (n : ℕ) (first : Expr) (others : Links) → nesting first ≤ n → links_nesting others ≤ n → nesting (chained first others) ≤ n
chained_fits n first Links.NoLinks h k = h
chained_fits n first (Links.Link op operand others) h k = omega arith

chain_fits : (n : ℕ) (read : List Word → Got Expr) → FitsAll nesting n read → (levels : ℕ) → FitsAll nesting n (read_chain levels read)
unfolding read_chain
chain_fits n read fits zero words = fits words
chain_fits n read fits (suc levels) words =
    step nesting n nesting n (read_chain levels read words) (chain_fits n read fits levels words) _ (λ first h.
    step links_nesting n nesting n (read_links (length first.1) levels (read_chain levels read) first.1)
    (links_fit n levels (read_chain levels read) (chain_fits n read fits levels) (length first.1) first.1) _
    (λ others k. chained_fits n first.0 others.0 h k))

unary_fits : (n : ℕ) → FitsAll nesting n (read_unary n)
unfolding read_unary
unary_fits zero words = unary_by_fits zero None None tt tt (class_at words) words
unary_fits (suc n) words =
    unary_by_fits (suc n) (Some (read_unary n)) (Some (read_chain 6 (read_unary n))) (unary_fits n)
    (chain_fits n (read_unary n) (unary_fits n) 6) (class_at words) words

expr_fits : (n : ℕ) → FitsAll nesting n (read_expr n)
expr_fits n words = chain_fits n (read_unary n) (unary_fits n) 6 words

below_fits : (n : ℕ) → BelowFits n (read_below n)
below_fits zero = tt
below_fits (suc n) = expr_fits n

-- simple statements

assign_with_fits : (op : AssignOp) (n : ℕ) (target : Expr) → nesting target ≤ n → FitsAll simple_nesting n (assign_with op n target)
assign_with_fits op n target h words =
    step nesting n simple_nesting n (read_expr n (behind words)) (expr_fits n (behind words)) _ (λ value k. omega arith)

assign_by_fits : (n : ℕ) (target : Expr) → nesting target ≤ n → (c : Class) → FitsAll simple_nesting n (assign_by c n target)
assign_by_fits n target h class.Set words = assign_with_fits AssignOp.Set n target h words
assign_by_fits n target h class.AddTo words = assign_with_fits AssignOp.AddTo n target h words
assign_by_fits n target h class.SubtractFrom words = assign_with_fits AssignOp.SubtractFrom n target h words
assign_by_fits n target h class.MultiplyBy words = assign_with_fits AssignOp.MultiplyBy n target h words
assign_by_fits n target h class.Increment words = h
assign_by_fits n target h class.Decrement words = h
assign_by_fits n target h _ words = tt

target_fits : (n : ℕ) (base : Expr) → nesting base ≤ n → FitsAll simple_nesting n (read_target n base)
unfolding read_target
target_fits n base h words =
    over simple_nesting n (read_members words) _
    (λ fields. assign_by_fits n (with_members base fields.0) (members_fit n base fields.0 h) (class_at fields.1) fields.1)

called_fits : (n : ℕ) (callee : Name) (args : Args) → call_nesting args ≤ n → FitsAll simple_nesting n (read_called n callee args)
unfolding read_called
called_fits n callee args h words =
    either simple_nesting n (is_class class.Arrow (class_at words) || begins_assign (class_at words)) _ _
    (target_fits n (Expr.Call callee args) h words) h

read_named_fits : (n : ℕ) (first : Name) → FitsAll simple_nesting n (read_named n first)
unfolding read_named
read_named_fits n first words =
    either simple_nesting n (is_open (class_at words)) _ _
    (step call_nesting n simple_nesting n (read_call (read_below n) words) (call_fits n (read_below n) (below_fits n) words) _
    (λ args h. called_fits n first args.0 h args.1))
    (target_fits n (Expr.Variable first) (omega arith) words)

closed_target : (n : ℕ) (c : Class) (words : List Word)
    → Fits simple_nesting n (closed_by c (read_below n) words >>= (λ base. read_target n base.0 base.1))
closed_target n c words =
    step nesting n simple_nesting n (closed_by c (read_below n) words) (closed_fits n (read_below n) (below_fits n) c words) _
    (λ base h. target_fits n base.0 h base.1)

other_fits : (n : ℕ) (c : Class) → FitsAll simple_nesting n (other_by c n)
other_fits n class.Free words =
    over simple_nesting n (take_open (behind words)) _ (λ a.
    step nesting n simple_nesting n (read_expr n a) (expr_fits n a) _ (λ pointer h.
    over simple_nesting n (take class.Close pointer.1) _ (λ rest. h)))
other_fits n kind words = closed_target n kind words

simple_by_fits : (n : ℕ) (c : Class) → FitsAll simple_nesting n (simple_by c n)
simple_by_fits n class.Name words = read_named_fits n (name_here words) (behind words)
simple_by_fits n kind words = other_fits n kind words

simple_fits : (n : ℕ) → FitsAll simple_nesting n (read_simple n)
unfolding read_simple
simple_fits n words = simple_by_fits n (class_at words) words

-- locals

value_fits : (n : ℕ) → FitsAll nesting n (read_value n)
value_fits n words = expr_fits n (behind words)

initialized_fits : (n : ℕ) → FitsAll initialized_nesting n (read_initialized n)
unfolding read_initialized
initialized_fits n words =
    over initialized_nesting n (read_declarator words) _ (λ decl.
    step (maybe_nesting nesting) n initialized_nesting n (read_maybe (is_class class.Set) (read_value n) decl.1)
    (maybe_fits nesting n (is_class class.Set) (read_value n) (value_fits n) decl.1) _ (λ value h. h))

more_initialized_fit : (n : ℕ) (words : List Word)
    → Fits (deepest initialized_nesting) n (read_more (length words) (read_initialized n) words)
more_initialized_fit n words =
    each_fits initialized_nesting n (is_class class.Comma) (λ comma. read_initialized n (behind comma))
    (λ comma. initialized_fits n (behind comma)) (length words) words

locals_fit : (n : ℕ) (specifier : Specifier) → FitsAll local_nesting n (read_locals n specifier)
unfolding read_locals
locals_fit n specifier words =
    step initialized_nesting n local_nesting n (read_initialized n words) (initialized_fits n words) _ (λ first h.
    step (deepest initialized_nesting) n local_nesting n (read_more (length first.1) (read_initialized n) first.1)
    (more_initialized_fit n first.1) _ (λ others k. omega arith))

abbrev clause_nesting : Clause → ℕ
clause_nesting (Declares l) = local_nesting l
clause_nesting (Does s) = simple_nesting s

typed_fits : (n : ℕ) → FitsAll clause_nesting n (read_typed n)
typed_fits n words =
    over clause_nesting n (read_specifier words) _ (λ s.
    step local_nesting n clause_nesting n (read_locals n s.0 s.1) (locals_fit n s.0 s.1) _ (λ l h. h))

clause_named_fits : (n : ℕ) (b : Bool) (first : Name) → FitsAll clause_nesting n (clause_named b n first)
clause_named_fits n true first words =
    step local_nesting n clause_nesting n (read_locals n (Specifier.Alias first) words) (locals_fit n (Specifier.Alias first) words) _
    (λ l h. h)
clause_named_fits n false first words =
    step simple_nesting n clause_nesting n (read_named n first words) (read_named_fits n first words) _ (λ s h. h)

clause_other : (n : ℕ) (c : Class) (words : List Word) → Fits clause_nesting n (other_by c n words >>= (λ s. Ok (Does s.0, s.1)))
clause_other n c words = step simple_nesting n clause_nesting n (other_by c n words) (other_fits n c words) _ (λ s h. h)

clause_by_fits : (n : ℕ) (c : Class) → FitsAll clause_nesting n (clause_by c n)
clause_by_fits n class.Int words = typed_fits n words
clause_by_fits n class.Void words = typed_fits n words
clause_by_fits n class.Struct words = typed_fits n words
clause_by_fits n class.Name words = clause_named_fits n (begins_declarator (class_at (behind words))) (name_here words) (behind words)
clause_by_fits n kind words = clause_other n kind words

clause_fits : (n : ℕ) → FitsAll clause_nesting n (read_clause n)
unfolding read_clause
clause_fits n words = clause_by_fits n (class_at words) words

-- statements

stmt_of_fits : (n : ℕ) (c : Clause) → clause_nesting c ≤ n → stmt_nesting (stmt_of c) ≤ n
stmt_of_fits n (Declares l) h = h
stmt_of_fits n (Does s) h = h

init_of_fits : (n : ℕ) (init : Option Clause) → maybe_nesting clause_nesting init ≤ n → init_nesting (init_of init) ≤ n
init_of_fits n None h = h
init_of_fits n (Some (Declares l)) h = h
init_of_fits n (Some (Does s)) h = h

clause_stmt : (n : ℕ) (c : Class) (words : List Word)
    → Fits stmt_nesting n (clause_by c n words >>= (λ c. take class.Semicolon c.1 >>= (λ rest. Ok (stmt_of c.0, rest))))
clause_stmt n c words =
    step clause_nesting n stmt_nesting n (clause_by c n words) (clause_by_fits n c words) _ (λ c h.
    over stmt_nesting n (take class.Semicolon c.1) _ (λ rest. stmt_of_fits n c.0 h))

maybe_expr_fits : (n : ℕ) → FitsAll (maybe_nesting nesting) n (read_maybe begins_expr (read_expr n))
maybe_expr_fits n words = maybe_fits nesting n begins_expr (read_expr n) (expr_fits n) words

flat_fits : (n : ℕ) (c : Class) → FitsAll stmt_nesting n (flat_by c n)
flat_fits n class.Semicolon words = omega arith
flat_fits n class.Break words = over stmt_nesting n (take class.Semicolon (behind words)) _ (λ rest. omega arith)
flat_fits n class.Continue words = over stmt_nesting n (take class.Semicolon (behind words)) _ (λ rest. omega arith)
flat_fits n class.Return words =
    step (maybe_nesting nesting) n stmt_nesting n (read_maybe begins_expr (read_expr n) (behind words)) (maybe_expr_fits n (behind words)) _
    (λ value h.
    over stmt_nesting n (take class.Semicolon value.1) _ (λ rest. h))
flat_fits n kind words = clause_stmt n kind words

test_fits : (n : ℕ) → FitsAll nesting n (read_test n)
unfolding read_test
test_fits n words =
    over nesting n (take_open words) _ (λ a.
    step nesting n nesting n (read_expr n a) (expr_fits n a) _ (λ e h.
    over nesting n (take class.Close e.1) _ (λ rest. h)))

stmts_fit : (n : ℕ) (read : List Word → Got Stmt) → FitsAll stmt_nesting n read → (times : ℕ)
    → FitsAll stmts_nesting n (read_stmts times read)
stmts_fit n read fits zero words = omega arith
stmts_fit n read fits (suc times) words =
    either stmts_nesting n (begins_stmt (class_at words)) _ _
    (step stmt_nesting n stmts_nesting n (read words) (fits words) _ (λ one h.
    step stmts_nesting n stmts_nesting n (read_stmts times read one.1) (stmts_fit n read fits times one.1) _ (λ others k. omega arith)))
    (omega arith)

abbrev body_nesting : Body → ℕ
body_nesting body = stmts_nesting body.stmts

body_fits : (n : ℕ) (read : List Word → Got Stmt) → FitsAll stmt_nesting n read → FitsAll body_nesting n (read_body read)
body_fits n read fits words =
    step stmts_nesting n body_nesting n (read_stmts (length words) read words) (stmts_fit n read fits (length words) words) _ (λ body h.
    over body_nesting n (take class.CloseBrace body.1) _ (λ rest. h))

if_of_fits : (n : ℕ) (place : Place) (test : Expr) (body : Stmt) (other : Option Stmt) → nesting test ≤ n → stmt_nesting body ≤ n
    → maybe_nesting stmt_nesting other ≤ n
    → stmt_nesting (if_of place test body other) ≤ suc n
if_of_fits n place test body None h k l = omega arith
if_of_fits n place test body (Some other) h k l = omega arith

-- the statements that open a level, by a reader of the statements within
module _ (n : ℕ) (read : List Word → Got Stmt) (fits : FitsAll stmt_nesting n read) where
  else_fits : FitsAll stmt_nesting n (read_else read)
  else_fits words = fits (behind words)

  if_fits : FitsAll stmt_nesting (suc n) (read_if n read)
  if_fits words =
      step nesting n stmt_nesting (suc n) (read_test n (behind words)) (test_fits n (behind words)) _ (λ test h.
      step stmt_nesting n stmt_nesting (suc n) (read test.1) (fits test.1) _ (λ body k.
      step (maybe_nesting stmt_nesting) n stmt_nesting (suc n) (read_maybe (is_class class.Else) (read_else read) body.1)
      (maybe_fits stmt_nesting n (is_class class.Else) (read_else read) else_fits body.1) _
      (λ other l. if_of_fits n (place_at words) test.0 body.0 other.0 h k l)))

  while_fits : FitsAll stmt_nesting (suc n) (read_while n read)
  while_fits words =
      step nesting n stmt_nesting (suc n) (read_test n (behind words)) (test_fits n (behind words)) _ (λ test h.
      step stmt_nesting n stmt_nesting (suc n) (read test.1) (fits test.1) _ (λ body k. omega arith))

  do_fits : FitsAll stmt_nesting (suc n) (read_do n read)
  do_fits words =
      step stmt_nesting n stmt_nesting (suc n) (read (behind words)) (fits (behind words)) _ (λ body h.
      over stmt_nesting (suc n) (take class.While body.1) _ (λ a.
      step nesting n stmt_nesting (suc n) (read_test n a) (test_fits n a) _ (λ test k.
      over stmt_nesting (suc n) (take class.Semicolon test.1) _ (λ rest. omega arith))))

  for_fits : FitsAll stmt_nesting (suc n) (read_for n read)
  for_fits words =
      over stmt_nesting (suc n) (take_open (behind words)) _ (λ a.
      step (maybe_nesting clause_nesting) n stmt_nesting (suc n) (read_maybe begins_clause (read_clause n) a)
      (maybe_fits clause_nesting n begins_clause (read_clause n) (clause_fits n) a) _ (λ init h.
      over stmt_nesting (suc n) (take class.Semicolon init.1) _ (λ b.
      step (maybe_nesting nesting) n stmt_nesting (suc n) (read_maybe begins_expr (read_expr n) b) (maybe_expr_fits n b) _ (λ test k.
      over stmt_nesting (suc n) (take class.Semicolon test.1) _ (λ c.
      step (maybe_nesting simple_nesting) n stmt_nesting (suc n) (read_maybe begins_simple (read_simple n) c)
      (maybe_fits simple_nesting n begins_simple (read_simple n) (simple_fits n) c) _ (λ once l.
      over stmt_nesting (suc n) (take class.Close once.1) _ (λ d.
      step stmt_nesting n stmt_nesting (suc n) (read d) (fits d) _ (λ body m.
      let i : init_nesting (init_of init.0) ≤ n = init_of_fits n init.0 h in omega arith))))))))

  nested_fits : (c : Class) → FitsAll stmt_nesting (suc n) (nested_by c n read)
  nested_fits class.OpenBrace words =
      step body_nesting n stmt_nesting (suc n) (read_body read (behind words)) (body_fits n read fits (behind words)) _
      (λ body h. omega arith)
  nested_fits class.If words = if_fits words
  nested_fits class.While words = while_fits words
  nested_fits class.Do words = do_fits words
  nested_fits class.For words = for_fits words
  nested_fits _ words = tt

stmt_fits : (n : ℕ) → FitsAll stmt_nesting n (read_stmt n)
unfolding read_stmt
stmt_fits zero words = either stmt_nesting zero (opens_level (class_at words)) _ _ tt (flat_fits zero (class_at words) words)
stmt_fits (suc n) words =
    either stmt_nesting (suc n) (opens_level (class_at words)) _ _ (nested_fits n (read_stmt n) (stmt_fits n) (class_at words) words)
    (flat_fits (suc n) (class_at words) words)

-- items

definition_fits : (n : ℕ) (head : Head) → FitsAll item_nesting n (read_definition n head)
definition_fits zero head words = tt
definition_fits (suc n) head words =
    step body_nesting n item_nesting (suc n) (read_body (read_stmt n) (behind words))
    (body_fits n (read_stmt n) (stmt_fits n) (behind words)) _ (λ body h. omega arith)

item_end_fits : (n : ℕ) (head : Head) (c : Class) → FitsAll item_nesting n (item_end_by c n head)
item_end_fits n head class.Semicolon words = omega arith
item_end_fits n head class.OpenBrace words = definition_fits n head words
item_end_fits n head _ words = tt

headed_fits : (n : ℕ) (specifier : Specifier) → FitsAll item_nesting n (read_headed n specifier)
unfolding read_headed
headed_fits n specifier words =
    over item_nesting n (read_declarator words) _ (λ decl.
    over item_nesting n (take_open decl.1) _ (λ a.
    over item_nesting n (read_params a) _ (λ params.
    over item_nesting n (take class.Close params.1) _ (λ rest. item_end_fits n (head_of specifier decl.0 params.0) (class_at rest) rest))))

struct_fits : (n : ℕ) (b : Bool) (place : Place) (tag : Name) → FitsAll item_nesting n (struct_by b n place tag)
struct_fits n true place tag words =
    over item_nesting n (read_struct_body words) _ (λ lines.
    over item_nesting n (take class.Semicolon lines.1) _ (λ rest. omega arith))
struct_fits n false place tag words = headed_fits n (Specifier.Struct place tag) words

typedef_struct_fits : (n : ℕ) (place : Place) (tag : Option Name) → FitsAll item_nesting n (read_typedef_struct place tag)
typedef_struct_fits n place tag words =
    over item_nesting n (read_struct_body words) _ (λ lines.
    over item_nesting n (read_name lines.1) _ (λ alias.
    over item_nesting n (take class.Semicolon alias.1) _ (λ rest. omega arith)))

typedef_alias_fits : (n : ℕ) (place : Place) (tag : Name) → FitsAll item_nesting n (read_typedef_alias place tag)
typedef_alias_fits n place tag words =
    over item_nesting n (read_name words) _ (λ alias.
    over item_nesting n (take class.Semicolon alias.1) _ (λ rest. omega arith))

typedef_fits : (n : ℕ) → FitsAll item_nesting n read_typedef
unfolding read_typedef
typedef_fits n words =
    over item_nesting n (take class.Struct (behind words)) _ (λ a.
    either item_nesting n (is_class class.OpenBrace (class_at a)) _ _
    (typedef_struct_fits n (place_at words) None a)
    (over item_nesting n (read_name a) _ (λ tag.
    either item_nesting n (is_class class.OpenBrace (class_at tag.1)) _ _ (typedef_struct_fits n (place_at words) (Some tag.0) tag.1)
    (typedef_alias_fits n (place_at words) tag.0 tag.1))))

item_by_fits : (n : ℕ) (c : Class) → FitsAll item_nesting n (item_by c n)
item_by_fits n class.Struct words =
    over item_nesting n (read_name (behind words)) _
    (λ tag. struct_fits n (is_class class.OpenBrace (class_at tag.1)) (place_at words) tag.0 tag.1)
item_by_fits n class.Typedef words = typedef_fits n words
item_by_fits n class.Int words = headed_fits n (Specifier.Int (place_at words)) (behind words)
item_by_fits n class.Void words = headed_fits n (Specifier.Void (place_at words)) (behind words)
item_by_fits n class.Name words = headed_fits n (Specifier.Alias (name_here words)) (behind words)
item_by_fits n _ words = tt

item_fits : (n : ℕ) → FitsAll item_nesting n (read_item n)
unfolding read_item
item_fits n words = item_by_fits n (class_at words) words

abbrev IsWithin : ℕ → File → Type 0
IsWithin n file = file_nesting file ≤ n

read_file_fits : (n : ℕ) (words : List Word) → Gives (IsWithin n) (read_file n words)
unfolding read_file
read_file_fits n words =
    gives_then (λ (items : List Item × List Word). deepest item_nesting items.0 ≤ n) (IsWithin n)
    (read_each (length words) begins_item (read_item n) words) _
    (each_fits item_nesting n begins_item (read_item n) (item_fits n) (length words) words) (λ items h.
    gives_skip (IsWithin n) (take class.End items.1) _ (λ rest. h))

-- what the reader of files gives is within the levels
pub file_within : (n : ℕ) (words : List Word) → (file : File) → read_file n words ≡ Ok file → file_nesting file ≤ n
file_within n words file e = subst (λ got. Gives (IsWithin n) got) e (read_file_fits n words)
