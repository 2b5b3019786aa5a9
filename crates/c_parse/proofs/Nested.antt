-- Readers of statements that have statements within them, put together from their parts.
use Rattle.std.proofs.Common.{◌≡◌, ℕ, zero, suc, ◌-◌, ◌<◌, Bool, true, false, cond, List, [], ◌∷◌, length, refl, sym, ap, ◌∙◌, subst, arith}
use Rattle.std.specs.Prelude.{Result, Ok, Err}
use Rattle.c_grammar.specs.declared.tokens.places.Place.{Place}
use Rattle.c_grammar.specs.declared.tokens.fault.ReadFault.{ReadFault}
use Rattle.c_grammar.specs.declared.class.Class.{Class}
use Rattle.c_grammar.specs.declared.class.Class.TheVariants as class
use Rattle.c_grammar.specs.Trees as tree
use Rattle.c_grammar.specs.Words.{Word}
use Rattle.c_grammar.specs.Readers.{Halt, Got, ◌>>=◌, wrong, class_at, place_at, behind, take, take_open, read_each, read_maybe, read_expr}
use Rattle.c_grammar.specs.Readers.{read_simple, read_clause, begins_expr, begins_simple, begins_clause, begins_stmt, read_stmts, read_test}
use Rattle.c_grammar.specs.Readers.{read_do, read_for, nested_by, opens_level, flat_by, read_stmt, read_name, read_definition, item_end_by}
use Rattle.c_grammar.specs.Readers.{read_headed, item_by, read_item}
use Rattle.c_tree.specs.Syntax.{BlockTree, stmts_of, definition_of}
use Rattle.c_parse_exprs.specs.Reads.{Halts, wrong_at, too_deep_at}
use Rattle.c_parse_exprs.proofs.Steps.{halts, halts_at}
use Rattle.c_parse_exprs.proofs.Loops.{SoFar, so_far_end, so_far_halts}
use Rattle.c_parse.specs.Clauses.{ForHeadTree, read_block, read_for_head, read_do_end}
use Rattle.c_parse.proofs.Cases.{stops_wrong, seen_class, name_read}

-- readers one after another group as one likes
pub regroup : {A B C : Type 0} (got : Result A Halt) (f : A → Result B Halt) (g : B → Result C Halt)
    → ((got >>= f) >>= g) ≡ (got >>= (λ a. f a >>= g))
regroup (Ok a) f g = refl
regroup (Err halt) f g = refl

-- what is read behind may be said in another way
pub behind_same : {A B : Type 0} (got : Result A Halt) (f g : A → Result B Halt) → ((a : A) → f a ≡ g a) → (got >>= f) ≡ (got >>= g)
behind_same (Ok a) f g same = same a
behind_same (Err halt) f g same = refl

-- statements, as a list of them

abbrev as_stmts : Got (List tree.Stmt) → Got tree.Stmts
as_stmts got = got >>= (λ found. Ok (stmts_of found.0, found.1))

stmts_each : (times : ℕ) (read : List Word → Got tree.Stmt) (words : List Word)
    → read_stmts times read words ≡ as_stmts (read_each times begins_stmt read words)
stmts_each zero read words = refl
stmts_each (suc times) read words = by_test (begins_stmt (class_at words)) (stmts_each times read)
  where
    first_of : tree.Stmt × List Word → tree.Stmts × List Word → Got tree.Stmts
    first_of one others = Ok (tree.Stmts.Next one.0 others.0, others.1)

    by_test : (b : Bool) → ((w : List Word) → read_stmts times read w ≡ as_stmts (read_each times begins_stmt read w))
        → cond b (read words >>= (λ one. read_stmts times read one.1 >>= (λ others. Ok (tree.Stmts.Next one.0 others.0, others.1))))
        (Ok (tree.Stmts.NoStmts, words))
        ≡ as_stmts (cond b (read words >>= (λ one. read_each times begins_stmt read one.1 >>= (λ others. Ok (one.0 ∷ others.0, others.1))))
        (Ok ([], words)))
    by_test false same = refl
    by_test true same =
        behind_same (read words) _ _ (λ one.
        ap (λ got. got >>= (λ others. Ok (tree.Stmts.Next one.0 others.0, others.1))) (same one.1)
        ∙ regroup (read_each times begins_stmt read one.1) _ _
        ∙ sym (regroup (read_each times begins_stmt read one.1) (λ others. Ok (one.0 ∷ others.0, others.1)) _))
        ∙ sym (regroup (read words) (λ one. read_each times begins_stmt read one.1 >>= (λ others. Ok (one.0 ∷ others.0, others.1))) _)

pub stmts_end : (read : List Word → Got tree.Stmt) (from : List Word) (found : List tree.Stmt) (words : List Word)
    → SoFar begins_stmt read from found words → begins_stmt (class_at words) ≡ false
    → read_stmts (length from) read from ≡ Ok (stmts_of found, words)
stmts_end read from found words so none =
    stmts_each (length from) read from ∙ ap as_stmts (so_far_end begins_stmt read from found words so none)

pub stmts_halt : (read : List Word → Got tree.Stmt) (from : List Word) (found : List tree.Stmt) (words : List Word) (fault : ReadFault)
    → SoFar begins_stmt read from found words → begins_stmt (class_at words) ≡ true → Halts fault (read words)
    → Halts fault (read_stmts (length from) read from)
stmts_halt read from found words fault so begun h =
    subst (Halts fault) (sym (stmts_each (length from) read from))
    (halts fault _ _ (so_far_halts begins_stmt read from found words fault so begun refl h))

-- a statement by its first word

pub stmt_flat : (n : ℕ) (words : List Word) → opens_level (class_at words) ≡ false → read_stmt n words ≡ flat_by (class_at words) n words
unfolding read_stmt
stmt_flat zero words none = rw none refl
stmt_flat (suc n) words none = rw none refl

pub stmt_deep : (fault : ReadFault) (n : ℕ) (words : List Word) → n ≡ 0 → opens_level (class_at words) ≡ true → fault ≡ too_deep_at words
    → Halts fault (read_stmt n words)
unfolding read_stmt
stmt_deep fault zero words none opens place = halts_at fault _ (record { deep = true; at = words }) (rw opens refl) place
stmt_deep fault (suc n) words none opens place = absurd (cc)

pub stmt_nested : (n : ℕ) (words : List Word) → 0 < n → opens_level (class_at words) ≡ true
    → read_stmt n words ≡ nested_by (class_at words) (n - 1) (read_stmt (n - 1)) words
unfolding read_stmt
stmt_nested zero words some opens = absurd (omega arith)
stmt_nested (suc n) words some opens = rw opens (one_less (suc n - 1) (omega arith))
  where
    one_less : (m : ℕ) → n ≡ m → nested_by (class_at words) n (read_stmt n) words ≡ nested_by (class_at words) m (read_stmt m) words
    one_less m same = ap (λ k. nested_by (class_at words) k (read_stmt k) words) same

-- a block as a statement
abbrev as_block : Got BlockTree → Got tree.Stmt
as_block got = got >>= (λ b. Ok (tree.Stmt.Block b.0.place b.0.body b.0.end, b.1))

pub block_nested : (n : ℕ) (read : List Word → Got tree.Stmt) (words : List Word)
    → nested_by class.OpenBrace n read words ≡ as_block (read_block read words)
block_nested n read words =
    regroup (read_stmts (length (behind words)) read (behind words)) _ _
    ∙ behind_same (read_stmts (length (behind words)) read (behind words)) _ _
    (λ body. regroup (take class.CloseBrace body.1) _ _ ∙ sym (regroup (take class.CloseBrace body.1) _ _))
    ∙ sym (regroup (read_stmts (length (behind words)) read (behind words)) _ _)

pub block_read : (n : ℕ) (read : List Word → Got tree.Stmt) (words : List Word) (block : BlockTree) (left : List Word) (k : Class)
    → k ≡ class_at words → k ≡ class.OpenBrace
    → read_block read words ≡ Ok (block, left)
    → nested_by (class_at words) n read words ≡ Ok (tree.Stmt.Block block.place block.body block.end, left)
block_read n read words block left k is brace read_is =
    ap (λ j. nested_by j n read words) (sym is ∙ brace) ∙ block_nested n read words ∙ ap as_block read_is

pub block_halts : (fault : ReadFault) (n : ℕ) (read : List Word → Got tree.Stmt) (words : List Word) (k : Class) → k ≡ class_at words
    → k ≡ class.OpenBrace
    → Halts fault (read_block read words) → Halts fault (nested_by (class_at words) n read words)
block_halts fault n read words k is brace h =
    subst (Halts fault) (sym (ap (λ j. nested_by j n read words) (sym is ∙ brace) ∙ block_nested n read words))
    (halts fault (read_block read words) _ h)

-- a `for` behind what stands in its parentheses
abbrev pub for_of : (List Word → Got tree.Stmt) → Place → ForHeadTree × List Word → Got tree.Stmt
for_of read place head = read head.1 >>= (λ body. Ok (tree.Stmt.For place head.0.init head.0.test head.0.step body.0, body.1))

pub for_read : (n : ℕ) (read : List Word → Got tree.Stmt) (words : List Word)
    → read_for n read words ≡ (read_for_head n (behind words) >>= for_of read (place_at words))
for_read n read words = sym (
    regroup (take_open (behind words)) _ _ ∙ behind_same (take_open (behind words)) _ _ (λ a.
    regroup (read_maybe begins_clause (read_clause n) a) _ _ ∙ behind_same (read_maybe begins_clause (read_clause n) a) _ _ (λ init.
    regroup (take class.Semicolon init.1) _ _ ∙ behind_same (take class.Semicolon init.1) _ _ (λ b.
    regroup (read_maybe begins_expr (read_expr n) b) _ _ ∙ behind_same (read_maybe begins_expr (read_expr n) b) _ _ (λ test.
    regroup (take class.Semicolon test.1) _ _ ∙ behind_same (take class.Semicolon test.1) _ _ (λ c.
    regroup (read_maybe begins_simple (read_simple n) c) _ _ ∙ behind_same (read_maybe begins_simple (read_simple n) c) _ _ (λ step.
    regroup (take class.Close step.1) _ _)))))))

-- a definition by its head and its block
abbrev as_definition : tree.Head → Got BlockTree → Got tree.Item
as_definition head got = got >>= (λ b. Ok (definition_of head b.0, b.1))

definition_some : (n : ℕ) (head : tree.Head) (words : List Word) → 0 < n
    → read_definition n head words ≡ as_definition head (read_block (read_stmt (n - 1)) words)
definition_some zero head words some = absurd (omega arith)
definition_some (suc n) head words some =
    regroup (read_stmts (length (behind words)) (read_stmt n) (behind words)) _ _
    ∙ behind_same (read_stmts (length (behind words)) (read_stmt n) (behind words)) _ _
    (λ body. regroup (take class.CloseBrace body.1) _ _ ∙ sym (regroup (take class.CloseBrace body.1) _ _))
    ∙ sym (regroup (read_stmts (length (behind words)) (read_stmt n) (behind words)) _ _)
    ∙ one_less (suc n - 1) (omega arith)
  where
    one_less : (m : ℕ) → n ≡ m → as_definition head (read_block (read_stmt n) words) ≡ as_definition head (read_block (read_stmt m) words)
    one_less m same = ap (λ k. as_definition head (read_block (read_stmt k) words)) same

pub definition_deep : (fault : ReadFault) (n : ℕ) (head : tree.Head) (words : List Word) → n ≡ 0 → fault ≡ too_deep_at words
    → Halts fault (read_definition n head words)
definition_deep fault zero head words none place = halts_at fault _ (record { deep = true; at = words }) refl place
definition_deep fault (suc n) head words none place = absurd (cc)

pub definition_read : (n : ℕ) (head : tree.Head) (words : List Word) (block : BlockTree) (left : List Word) → 0 < n
    → read_block (read_stmt (n - 1)) words ≡ Ok (block, left) → read_definition n head words ≡ Ok (definition_of head block, left)
definition_read n head words block left some read_is = definition_some n head words some ∙ ap (as_definition head) read_is

pub definition_halts : (fault : ReadFault) (n : ℕ) (head : tree.Head) (words : List Word) → 0 < n
    → Halts fault (read_block (read_stmt (n - 1)) words) → Halts fault (read_definition n head words)
definition_halts fault n head words some h =
    subst (Halts fault) (sym (definition_some n head words some)) (halts fault (read_block (read_stmt (n - 1)) words) _ h)

no_end : (k : Class) (n : ℕ) (head : tree.Head) (words : List Word) → (k ≡ class.Semicolon → ⊥) → (k ≡ class.OpenBrace → ⊥)
    → item_end_by k n head words ≡ wrong words
no_end class.Semicolon n head words a b = absurd (a refl)
no_end class.OpenBrace n head words a b = absurd (b refl)
no_end _ n head words a b = refl

pub end_stops : (fault : ReadFault) (n : ℕ) (head : tree.Head) (words : List Word) (k : Class) → k ≡ class_at words → fault ≡ wrong_at words
    → (k ≡ class.Semicolon → ⊥) → (k ≡ class.OpenBrace → ⊥) → Halts fault (item_end_by (class_at words) n head words)
end_stops fault n head words k is place a b =
    stops_wrong fault words _ (ap (λ j. item_end_by j n head words) (sym is) ∙ no_end k n head words a b) place

no_item : (k : Class) (n : ℕ) (words : List Word) → (k ≡ class.Struct → ⊥) → (k ≡ class.Typedef → ⊥) → (k ≡ class.Int → ⊥)
    → (k ≡ class.Void → ⊥) → (k ≡ class.Name → ⊥)
    → item_by k n words ≡ wrong words
no_item class.Struct n words a b c d e = absurd (a refl)
no_item class.Typedef n words a b c d e = absurd (b refl)
no_item class.Int n words a b c d e = absurd (c refl)
no_item class.Void n words a b c d e = absurd (d refl)
no_item class.Name n words a b c d e = absurd (e refl)
no_item _ n words a b c d e = refl

pub item_stops : (fault : ReadFault) (n : ℕ) (words : List Word) (k : Class) → k ≡ class_at words → fault ≡ wrong_at words
    → (k ≡ class.Struct → ⊥) → (k ≡ class.Typedef → ⊥) → (k ≡ class.Int → ⊥) → (k ≡ class.Void → ⊥) → (k ≡ class.Name → ⊥)
    → Halts fault (read_item n words)
unfolding read_item
item_stops fault n words k is place a b c d e =
    stops_wrong fault words _ (ap (λ j. item_by j n words) (sym is) ∙ no_item k n words a b c d e) place

-- an item whose type has a name
pub item_named : (n : ℕ) (words : List Word) (alias : tree.Name) (left : List Word) → read_name words ≡ Ok (alias, left)
    → read_item n words ≡ read_headed n (tree.Specifier.Alias alias) left
unfolding read_item
item_named n words alias left read =
    let r = name_read words alias left read in
    ap (λ k. item_by k n words) (sym (seen_class class.Name (class_at words) r.seen))
    ∙ ap (λ f. read_headed n (tree.Specifier.Alias f) (behind words)) r.name
    ∙ ap (read_headed n (tree.Specifier.Alias alias)) r.rest

-- a `do` behind what stands at its end
pub do_read : (n : ℕ) (read : List Word → Got tree.Stmt) (words : List Word)
    → read_do n read words ≡ (read (behind words) >>= (λ body. read_do_end n (place_at words) body.0 body.1))
do_read n read words = behind_same (read (behind words)) _ _ (λ body. sym (
    regroup (take class.While body.1) _ _ ∙ behind_same (take class.While body.1) _ _ (λ a.
    regroup (read_test n a) _ _ ∙ behind_same (read_test n a) _ _ (λ test.
    regroup (take class.Semicolon test.1) _ _))))
