-- The grammar's forms with one level more are the same with more levels open.
use Rattle.std.proofs.Common.{◌≡◌, ℕ, zero, suc, Bool, true, false, refl}
use Rattle.std.specs.Prelude.{◌&&◌}
use Rattle.grammar_laws.specs.Form.{Form, Word, Closed, Nothing, Both, Either, Many, Nearest, Known}
use Rattle.grammar_laws.specs.Reading.{Opens, OpensWord, OpensLevel, OpensNothing, OpensBoth, OpensEither, OpensMany, OpensNearest}
use Rattle.grammar_laws.specs.Reading.{OpensKnown}
use Rattle.grammar_laws.proofs.Classes.{and_left, and_right}
use Rattle.c_grammar.specs.Classes
use Rattle.c_grammar.specs.Forms

-- no level is closed in the form
abbrev is_open : Form → Bool
is_open (Word class) = true
is_open (Closed class) = false
is_open Nothing = true
is_open (Both one other) = is_open one && is_open other
is_open (Either one other) = is_open one && is_open other
is_open (Many one) = is_open one
is_open (Nearest class one) = is_open one
is_open (Known facts one) = is_open one

-- such a form opens to itself
itself : (form : Form) → is_open form ≡ true → Opens form form
itself (Word class) e = OpensWord
itself (Closed class) e = absurd (cc)
itself Nothing e = OpensNothing
itself (Both one other) e =
    OpensBoth (itself one (and_left (is_open one) (is_open other) e)) (itself other (and_right (is_open one) (is_open other) e))
itself (Either one other) e =
    OpensEither (itself one (and_left (is_open one) (is_open other) e)) (itself other (and_right (is_open one) (is_open other) e))
itself (Many one) e = OpensMany (itself one e)
itself (Nearest class one) e = OpensNearest (itself one e)
itself (Known facts one) e = OpensKnown (itself one e)

more_opens : {one other : Form} → Opens one other → Opens (Forms.more_of one) (Forms.more_of other)
more_opens o = OpensMany (OpensBoth OpensWord o)

optional_opens : {one other : Form} → Opens one other → Opens (Forms.optional one) (Forms.optional other)
optional_opens o = OpensEither o OpensNothing

args_opens : {one other : Form} → Opens one other
    → Opens (Forms.optional (Both one (Forms.more_of one))) (Forms.optional (Both other (Forms.more_of other)))
args_opens o = optional_opens (OpensBoth o (more_opens o))

closed_zero : Opens (Forms.closed_form zero Nothing) (Forms.closed_form 1 (Forms.expr_form zero))
closed_zero =
    OpensEither OpensWord (OpensEither OpensWord (OpensEither OpensLevel (itself (Either Forms.cast_form Forms.malloc_form) refl)))

closed_more : (n : ℕ) {one other : Form} → Opens one other → Opens (Forms.closed_form (suc n) one) (Forms.closed_form (suc (suc n)) other)
closed_more n o =
    OpensEither OpensWord
    (OpensEither OpensWord
    (OpensEither (OpensBoth OpensWord (OpensBoth o OpensWord)) (itself (Either Forms.cast_form Forms.malloc_form) refl)))

postfix_zero : Opens (Forms.postfix_form zero Nothing) (Forms.postfix_form 1 (Forms.expr_form zero))
postfix_zero =
    OpensBoth (OpensEither (OpensBoth OpensWord (optional_opens (OpensEither OpensLevel OpensLevel))) closed_zero)
    (itself Forms.members_form refl)

call_more : (n : ℕ) {one other : Form} → Opens one other → Opens (Forms.call_form (suc n) one) (Forms.call_form (suc (suc n)) other)
call_more n o =
    OpensEither (OpensBoth OpensWord (OpensBoth (args_opens o) OpensWord)) (OpensBoth OpensWord (OpensBoth (args_opens o) OpensWord))

postfix_more : (n : ℕ) {one other : Form} → Opens one other
    → Opens (Forms.postfix_form (suc n) one) (Forms.postfix_form (suc (suc n)) other)
postfix_more n o =
    OpensBoth (OpensEither (OpensBoth OpensWord (optional_opens (call_more n o))) (closed_more n o)) (itself Forms.members_form refl)

ops_open : (levels : ℕ) → is_open (Forms.ops_form levels) ≡ true
ops_open zero = refl
ops_open (suc zero) = refl
ops_open (suc (suc zero)) = refl
ops_open (suc (suc (suc zero))) = refl
ops_open (suc (suc (suc (suc zero)))) = refl
ops_open (suc (suc (suc (suc (suc more))))) = refl

chain_opens : (levels : ℕ) {one other : Form} → Opens one other → Opens (Forms.chain_form levels one) (Forms.chain_form levels other)
chain_opens zero o = o
chain_opens (suc levels) o =
    OpensBoth (chain_opens levels o) (OpensMany (OpensBoth (itself (Forms.ops_form levels) (ops_open levels)) (chain_opens levels o)))

over_opens : {one other : Form} → Opens one other → Opens (Forms.expr_over one) (Forms.expr_over other)
over_opens o = OpensKnown (chain_opens 6 o)

unary_opens : (n : ℕ) → Opens (Forms.unary_form n) (Forms.unary_form (suc n))
unary_opens zero = OpensKnown (OpensEither OpensLevel (OpensEither OpensLevel postfix_zero))
unary_opens (suc n) =
    let o : Opens (Forms.unary_form n) (Forms.unary_form (suc n)) = unary_opens n in
    OpensKnown (OpensEither (OpensBoth OpensWord o) (OpensEither (OpensBoth OpensWord o) (postfix_more n (over_opens o))))

expr_opens : (n : ℕ) → Opens (Forms.expr_form n) (Forms.expr_form (suc n))
expr_opens n = over_opens (unary_opens n)

assign_opens : (n : ℕ) → Opens (Forms.assign_form (Forms.expr_form n)) (Forms.assign_form (Forms.expr_form (suc n)))
assign_opens n =
    OpensEither (OpensBoth
    (itself (Either (Word Classes.SET)
    (Either (Word Classes.ADD_TO) (Either (Word Classes.SUBTRACT_FROM) (Word Classes.MULTIPLY_BY)))) refl) (expr_opens n))
    (itself (Either (Word Classes.INCREMENT) (Word Classes.DECREMENT)) refl)

call_tail_opens : (n : ℕ) → Opens (Forms.call_tail_form n) (Forms.call_tail_form (suc n))
call_tail_opens n = optional_opens (OpensBoth (itself Forms.members_form refl) (assign_opens n))

name_tail_opens : (n : ℕ) → Opens (Forms.name_tail_form n) (Forms.name_tail_form (suc n))
name_tail_opens zero = OpensEither (OpensEither OpensLevel OpensLevel) (OpensBoth (itself Forms.members_form refl) (assign_opens zero))
name_tail_opens (suc n) =
    OpensEither
    (OpensEither (OpensBoth OpensWord (OpensBoth (args_opens (expr_opens n)) (OpensBoth OpensWord (call_tail_opens (suc n)))))
    (OpensBoth OpensWord (OpensBoth (args_opens (expr_opens n)) (OpensBoth OpensWord (call_tail_opens (suc n))))))
    (OpensBoth (itself Forms.members_form refl) (assign_opens (suc n)))

closed_opens : (n : ℕ) → Opens (Forms.closed_form n (Forms.expr_below n)) (Forms.closed_form (suc n) (Forms.expr_below (suc n)))
closed_opens zero = closed_zero
closed_opens (suc n) = closed_more n (expr_opens n)

other_opens : (n : ℕ) → Opens (Forms.other_simple_form n) (Forms.other_simple_form (suc n))
other_opens n =
    OpensEither (OpensBoth OpensWord (OpensBoth (itself Forms.open_form refl) (OpensBoth (expr_opens n) OpensWord)))
    (OpensBoth (closed_opens n) (OpensBoth (itself Forms.members_form refl) (assign_opens n)))

simple_opens : (n : ℕ) → Opens (Forms.simple_form n) (Forms.simple_form (suc n))
simple_opens n = OpensKnown (OpensEither (OpensBoth OpensWord (name_tail_opens n)) (other_opens n))

initialized_opens : (n : ℕ) → Opens (Forms.initialized_form n) (Forms.initialized_form (suc n))
initialized_opens n = OpensBoth (itself Forms.declarator_form refl) (optional_opens (OpensBoth OpensWord (expr_opens n)))

locals_opens : (n : ℕ) → Opens (Forms.locals_tail_form n) (Forms.locals_tail_form (suc n))
locals_opens n = OpensBoth (initialized_opens n) (more_opens (initialized_opens n))

clause_opens : (n : ℕ) → Opens (Forms.clause_form n) (Forms.clause_form (suc n))
clause_opens n =
    OpensKnown (OpensEither (OpensBoth (itself Forms.key_specifier_form refl) (locals_opens n))
    (OpensEither (OpensBoth OpensWord (OpensEither (locals_opens n) (name_tail_opens n))) (other_opens n)))

flat_opens : (n : ℕ) → Opens (Forms.flat_form n) (Forms.flat_form (suc n))
flat_opens n =
    OpensEither OpensWord (OpensEither (OpensBoth OpensWord OpensWord) (OpensEither (OpensBoth OpensWord OpensWord)
    (OpensEither (OpensBoth OpensWord (OpensBoth (optional_opens (expr_opens n)) OpensWord)) (OpensBoth (clause_opens n) OpensWord))))

stmt_opens : (n : ℕ) → Opens (Forms.stmt_form n) (Forms.stmt_form (suc n))
stmt_opens zero =
    OpensKnown (OpensEither OpensLevel
    (OpensEither OpensLevel (OpensEither OpensLevel (OpensEither OpensLevel (OpensEither OpensLevel (flat_opens zero))))))
stmt_opens (suc n) =
    let o : Opens (Forms.stmt_form n) (Forms.stmt_form (suc n)) = stmt_opens n in
    let e = expr_opens n in
    let p = itself Forms.open_form refl in
    OpensKnown (OpensEither (OpensBoth OpensWord (OpensBoth (OpensMany o) OpensWord))
    (OpensEither (OpensBoth OpensWord (OpensBoth p (OpensBoth e (OpensBoth OpensWord (OpensBoth o (OpensNearest o))))))
    (OpensEither (OpensBoth OpensWord (OpensBoth p (OpensBoth e (OpensBoth OpensWord o))))
    (OpensEither (OpensBoth OpensWord (OpensBoth o (OpensBoth OpensWord (OpensBoth p (OpensBoth e (OpensBoth OpensWord OpensWord))))))
    (OpensEither
    (OpensBoth OpensWord
    (OpensBoth p (OpensBoth (optional_opens (clause_opens n)) (OpensBoth OpensWord (OpensBoth (optional_opens e) (OpensBoth OpensWord
    (OpensBoth (optional_opens (simple_opens n)) (OpensBoth OpensWord o))))))))
    (flat_opens (suc n)))))))

item_end_opens : (n : ℕ) → Opens (Forms.item_end_form n) (Forms.item_end_form (suc n))
item_end_opens zero = OpensEither OpensWord OpensLevel
item_end_opens (suc n) = OpensEither OpensWord (OpensBoth OpensWord (OpensBoth (OpensMany (stmt_opens n)) OpensWord))

item_opens : (n : ℕ) → Opens (Forms.item_form n) (Forms.item_form (suc n))
item_opens n =
    let h = itself Forms.head_tail_form refl in
    OpensKnown (OpensEither
    (OpensBoth OpensWord
    (OpensBoth OpensWord
    (OpensEither (itself (Both Forms.struct_body_form (Word Classes.SEMICOLON)) refl) (OpensBoth h (item_end_opens n)))))
    (OpensEither (itself Forms.typedef_form refl)
    (OpensBoth (itself (Either (Word Classes.INT) (Either (Word Classes.VOID) (Word Classes.NAME))) refl)
    (OpensBoth h (item_end_opens n)))))

pub file_opens : (n : ℕ) → Opens (Forms.file_form n) (Forms.file_form (suc n))
file_opens n = OpensBoth (OpensMany (item_opens n)) OpensWord
