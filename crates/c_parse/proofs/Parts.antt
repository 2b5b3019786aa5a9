-- Statements that have a statement within them, in their parts.
use Rattle.std.proofs.Common.{◌≡◌, ℕ, true, false, List, length, refl, sym, ap, ◌∙◌, subst}
use Rattle.std.specs.Prelude.{Option, Some, Ok}
use Rattle.c_grammar.specs.declared.tokens.places.Place.{Place}
use Rattle.c_grammar.specs.declared.tokens.fault.ReadFault.{ReadFault}
use Rattle.c_grammar.specs.declared.class.Class.{Class}
use Rattle.c_grammar.specs.declared.class.Class.TheVariants as class
use Rattle.c_grammar.specs.Trees as tree
use Rattle.c_grammar.specs.Words.{Word}
use Rattle.c_grammar.specs.Readers.{Got, ◌>>=◌, class_at, place_at, behind, is_class, if_of, read_test, read_stmts, read_if, nested_by}
use Rattle.c_tree.specs.Syntax.{BlockTree}
use Rattle.c_parse_exprs.specs.Reads.{Halts}
use Rattle.c_parse_exprs.proofs.Steps.{halts}
use Rattle.c_parse.specs.Clauses.{read_for_head, read_block}
use Rattle.c_parse.specs.Heads.{TestedTree, BranchTree, IterationTree, While, read_tested, read_other, read_whole_if, iteration_by}
use Rattle.c_parse.specs.Heads.{iteration_end, read_iteration, read_block_end}
use Rattle.c_parse.proofs.Nested.{regroup, do_read, for_read}

if_parts : (n : ℕ) (read : List Word → Got tree.Stmt) (words : List Word) → read_if n read words ≡ read_whole_if n read words
if_parts n read words = sym (regroup (read_test n (behind words)) _ _)

pub nested_if : (n : ℕ) (read : List Word → Got tree.Stmt) (words : List Word) (k : Class) → k ≡ class_at words → k ≡ class.If
    → nested_by (class_at words) n read words ≡ read_whole_if n read words
nested_if n read words k is seen = ap (λ j. nested_by j n read words) (sym is ∙ seen) ∙ if_parts n read words

-- what is read behind the head of an iteration statement
abbrev behind_head : ℕ → (List Word → Got tree.Stmt) → IterationTree × List Word → Got tree.Stmt
behind_head n read head = read head.1 >>= (λ body. iteration_end head.0 n body.0 body.1)

iteration_parts : (k : Class) (n : ℕ) (read : List Word → Got tree.Stmt) (words : List Word) → (k ≡ class.OpenBrace → ⊥)
    → (k ≡ class.If → ⊥)
    → nested_by k n read words ≡ (iteration_by k n words >>= behind_head n read)
iteration_parts class.OpenBrace n read words a b = absurd (a refl)
iteration_parts class.If n read words a b = absurd (b refl)
iteration_parts class.While n read words a b =
    sym (regroup (read_tested n words) (λ one. Ok (While one.0, one.1)) (behind_head n read) ∙ regroup (read_test n (behind words)) _ _)
iteration_parts class.Do n read words a b = do_read n read words
iteration_parts class.For n read words a b = for_read n read words ∙ sym (regroup (read_for_head n (behind words)) _ _)
iteration_parts _ n read words a b = refl

pub nested_iteration : (n : ℕ) (read : List Word → Got tree.Stmt) (words : List Word) (k : Class) → k ≡ class_at words
    → (k ≡ class.OpenBrace → ⊥) → (k ≡ class.If → ⊥)
    → nested_by (class_at words) n read words ≡ read_iteration n read words
nested_iteration n read words k is a b = iteration_parts (class_at words) n read words (λ e. a (is ∙ e)) (λ e. b (is ∙ e))

-- an `if` behind its test
abbrev behind_test : (List Word → Got tree.Stmt) → TestedTree × List Word → Got tree.Stmt
behind_test read one = read one.1 >>= (λ body. read_other read (record { place = one.0.place; test = one.0.test; body = body.0 }) body.1)

pub if_halts : (fault : ReadFault) (n : ℕ) (read : List Word → Got tree.Stmt) (words : List Word) → Halts fault (read_tested n words)
    → Halts fault (read_whole_if n read words)
if_halts fault n read words h = halts fault (read_tested n words) (behind_test read) h

pub if_body_halts : (fault : ReadFault) (n : ℕ) (read : List Word → Got tree.Stmt) (words mid : List Word) (one : TestedTree)
    → read_tested n words ≡ Ok (one, mid)
    → Halts fault (read mid) → Halts fault (read_whole_if n read words)
if_body_halts fault n read words mid one one_is h =
    subst (Halts fault) (sym (ap (λ got. got >>= behind_test read) one_is)) (halts fault (read mid) _ h)

pub if_goes : (n : ℕ) (read : List Word → Got tree.Stmt) (words mid left : List Word) (one : TestedTree) (body : tree.Stmt)
    (branch : BranchTree) → read_tested n words ≡ Ok (one, mid)
    → read mid ≡ Ok (body, left) → branch ≡ record { place = one.place; test = one.test; body = body }
    → read_whole_if n read words ≡ read_other read branch left
if_goes n read words mid left one body branch one_is body_is is =
    ap (λ got. got >>= behind_test read) one_is
    ∙ ap (λ (got : Got tree.Stmt). got >>= (λ b. read_other read (record { place = one.place; test = one.test; body = b.0 }) b.1)) body_is
    ∙ ap (λ b. read_other read b left) (sym is)

-- `else`, or none
pub none_other : (read : List Word → Got tree.Stmt) (branch : BranchTree) (words : List Word) → is_class class.Else (class_at words) ≡ false
    → read_other read branch words ≡ Ok (tree.Stmt.If branch.place branch.test branch.body, words)
none_other read branch words none = rw none refl

abbrev with_some : Got tree.Stmt → Got (Option tree.Stmt)
with_some got = got >>= (λ one. Ok (Some one.0, one.1))

abbrev with_other : BranchTree → Got (Option tree.Stmt) → Got tree.Stmt
with_other branch got = got >>= (λ other. Ok (if_of branch.place branch.test branch.body other.0, other.1))

other_at : (read : List Word → Got tree.Stmt) (branch : BranchTree) (words next : List Word) → is_class class.Else (class_at words) ≡ true
    → next ≡ behind words
    → read_other read branch words ≡ with_other branch (with_some (read next))
other_at read branch words next seen is = rw (seen, is) refl

pub other_read : (read : List Word → Got tree.Stmt) (branch : BranchTree) (words next left : List Word) (other : tree.Stmt)
    → is_class class.Else (class_at words) ≡ true → next ≡ behind words
    → read next ≡ Ok (other, left) → read_other read branch words ≡ Ok (tree.Stmt.IfElse branch.place branch.test branch.body other, left)
other_read read branch words next left other seen is got =
    other_at read branch words next seen is ∙ ap (λ g. with_other branch (with_some g)) got

pub other_halts : (fault : ReadFault) (read : List Word → Got tree.Stmt) (branch : BranchTree) (words next : List Word)
    → is_class class.Else (class_at words) ≡ true → next ≡ behind words
    → Halts fault (read next) → Halts fault (read_other read branch words)
other_halts fault read branch words next seen is h =
    subst (Halts fault) (sym (other_at read branch words next seen is))
    (halts fault (with_some (read next)) _ (halts fault (read next) _ h))

-- an iteration statement
pub iteration_halts : (fault : ReadFault) (n : ℕ) (read : List Word → Got tree.Stmt) (words : List Word)
    → Halts fault (iteration_by (class_at words) n words)
    → Halts fault (read_iteration n read words)
iteration_halts fault n read words h = halts fault (iteration_by (class_at words) n words) (behind_head n read) h

pub iteration_body_halts : (fault : ReadFault) (n : ℕ) (read : List Word → Got tree.Stmt) (words mid : List Word) (head : IterationTree)
    → iteration_by (class_at words) n words ≡ Ok (head, mid)
    → Halts fault (read mid) → Halts fault (read_iteration n read words)
iteration_body_halts fault n read words mid head head_is h =
    subst (Halts fault) (sym (ap (λ got. got >>= behind_head n read) head_is)) (halts fault (read mid) _ h)

pub iteration_goes : (n : ℕ) (read : List Word → Got tree.Stmt) (words mid left : List Word) (head : IterationTree) (body : tree.Stmt)
    → iteration_by (class_at words) n words ≡ Ok (head, mid)
    → read mid ≡ Ok (body, left) → read_iteration n read words ≡ iteration_end head n body left
iteration_goes n read words mid left head body head_is body_is =
    ap (λ got. got >>= behind_head n read) head_is ∙ ap (λ (got : Got tree.Stmt). got >>= (λ b. iteration_end head n b.0 b.1)) body_is

-- a block
abbrev behind_stmts : Place → tree.Stmts × List Word → Got BlockTree
behind_stmts place body = read_block_end place body.0 body.1

block_behind : (read : List Word → Got tree.Stmt) (words next : List Word) → next ≡ behind words
    → read_block read words ≡ (read_stmts (length next) read next >>= behind_stmts (place_at words))
block_behind read words next is = ap (λ w. read_stmts (length w) read w >>= behind_stmts (place_at words)) (sym is)

pub stmts_of_block_halt : (fault : ReadFault) (read : List Word → Got tree.Stmt) (words next : List Word) → next ≡ behind words
    → Halts fault (read_stmts (length next) read next) → Halts fault (read_block read words)
stmts_of_block_halt fault read words next is h =
    subst (Halts fault) (sym (block_behind read words next is)) (halts fault _ (behind_stmts (place_at words)) h)

pub block_goes : (read : List Word → Got tree.Stmt) (words next mid : List Word) (place : Place) (body : tree.Stmts)
    → place ≡ place_at words → next ≡ behind words
    → read_stmts (length next) read next ≡ Ok (body, mid) → read_block read words ≡ read_block_end place body mid
block_goes read words next mid place body here is body_is =
    block_behind read words next is ∙ ap (λ got. got >>= behind_stmts (place_at words)) body_is
    ∙ ap (λ p. read_block_end p body mid) (sym here)
