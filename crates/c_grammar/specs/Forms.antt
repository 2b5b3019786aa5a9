-- The grammar as it is read from the left with one word of lookahead, within so many levels of nesting. No public
-- contract cites it.
use Rattle.std.specs.Prelude.{ℕ, zero, suc, false, List, [], ◌∷◌}
use Rattle.grammar_laws.specs.Form.{Facts, Form, Word, Closed, Nothing, Both, Either, Many, Nearest, Known}
use Rattle.c_grammar.specs.Classes.{END, NAME, NUMBER, OPEN, CAST, INT, VOID, STRUCT, TYPEDEF, IF, ELSE, WHILE, FOR, DO, BREAK, CONTINUE}
use Rattle.c_grammar.specs.Classes.{RETURN, SIZEOF, NULL, MALLOC, FREE, CLOSE, OPEN_BRACE, CLOSE_BRACE, SEMICOLON, COMMA, ARROW, SET}
use Rattle.c_grammar.specs.Classes.{ADD_TO, SUBTRACT_FROM, MULTIPLY_BY, INCREMENT, DECREMENT, EQUAL, NOT_EQUAL, LESS, LESS_EQUAL, GREATER}
use Rattle.c_grammar.specs.Classes.{GREATER_EQUAL, PLUS, MINUS, STAR, NOT, AND, OR}

infixr 30 ◌⨟◌
infixr 25 ◌∣◌
abbrev pub ◌⨟◌ : Form → Form → Form
one ⨟ other = Both one other

abbrev pub ◌∣◌ : Form → Form → Form
one ∣ other = Either one other

abbrev pub optional : Form → Form
optional one = one ∣ Nothing

-- `{ , form }`
abbrev pub more_of : Form → Form
more_of one = Many (Word COMMA ⨟ one)

abbrev pub open_form : Form
open_form = Word OPEN ∣ Word CAST

abbrev pub specifier_form : Form
specifier_form = Word INT ∣ Word VOID ∣ (Word STRUCT ⨟ Word NAME) ∣ Word NAME

-- a type that begins with a reserved word
abbrev pub key_specifier_form : Form
key_specifier_form = Word INT ∣ Word VOID ∣ (Word STRUCT ⨟ Word NAME)

abbrev pub stars_form : Form
stars_form = Many (Word STAR)

abbrev pub declarator_form : Form
declarator_form = stars_form ⨟ Word NAME

abbrev pub fields_form : Form
fields_form = specifier_form ⨟ declarator_form ⨟ more_of declarator_form ⨟ Word SEMICOLON

abbrev pub struct_body_form : Form
struct_body_form = Word OPEN_BRACE ⨟ Many fields_form ⨟ Word CLOSE_BRACE

abbrev pub param_form : Form
param_form = specifier_form ⨟ stars_form ⨟ optional (Word NAME)

abbrev pub params_form : Form
params_form = optional (param_form ⨟ more_of param_form)

-- a head behind its type
abbrev pub head_tail_form : Form
head_tail_form = declarator_form ⨟ open_form ⨟ params_form ⨟ Word CLOSE

-- a word that opens a level, and what is one level deeper
abbrev pub nest : ℕ → ℕ → Form → Form
nest zero class inner = Closed class
nest (suc n) class inner = Word class ⨟ inner

-- the arguments of a call, in parentheses, by the form of what is one level deeper
abbrev pub call_form : ℕ → Form → Form
call_form n inner =
    nest n OPEN (optional (inner ⨟ more_of inner) ⨟ Word CLOSE) ∣ nest n CAST (optional (inner ⨟ more_of inner) ⨟ Word CLOSE)

abbrev pub members_form : Form
members_form = Many (Word ARROW ⨟ Word NAME)

abbrev pub malloc_form : Form
malloc_form = Word MALLOC ⨟ open_form ⨟ Word SIZEOF ⨟ open_form ⨟ specifier_form ⨟ Word CLOSE ⨟ Word CLOSE

abbrev pub cast_form : Form
cast_form = Word CAST ⨟ specifier_form ⨟ Word STAR ⨟ Word CLOSE ⨟ malloc_form

-- a primary expression that begins with no name
abbrev pub closed_form : ℕ → Form → Form
closed_form n inner = Word NUMBER ∣ Word NULL ∣ nest n OPEN (inner ⨟ Word CLOSE) ∣ cast_form ∣ malloc_form

abbrev pub primary_form : ℕ → Form → Form
primary_form n inner = (Word NAME ⨟ optional (call_form n inner)) ∣ closed_form n inner

abbrev pub postfix_form : ℕ → Form → Form
postfix_form n inner = primary_form n inner ⨟ members_form

-- the operators of a level, from `*` on
abbrev pub ops_form : ℕ → Form
ops_form zero = Word STAR
ops_form (suc zero) = Word PLUS ∣ Word MINUS
ops_form (suc (suc zero)) = Word LESS ∣ Word LESS_EQUAL ∣ Word GREATER ∣ Word GREATER_EQUAL
ops_form (suc (suc (suc zero))) = Word EQUAL ∣ Word NOT_EQUAL
ops_form (suc (suc (suc (suc zero)))) = Word AND
ops_form (suc (suc (suc (suc (suc more))))) = Word OR

-- chains of so many levels of operators over operands
abbrev pub chain_form : ℕ → Form → Form
chain_form zero operand = operand
chain_form (suc levels) operand = chain_form levels operand ⨟ Many (ops_form levels ⨟ chain_form levels operand)

abbrev pub unary_facts : Facts
unary_facts = record {
  starts = NAME ∷ NUMBER ∷ OPEN ∷ CAST ∷ NULL ∷ MALLOC ∷ MINUS ∷ NOT ∷ [];
  continues = OPEN ∷ CAST ∷ ARROW ∷ [];
  lacks = [];
  may_be_empty = false;
  sample = NAME ∷ [];
}

abbrev pub binary_classes : List ℕ
binary_classes = EQUAL ∷ NOT_EQUAL ∷ LESS ∷ LESS_EQUAL ∷ GREATER ∷ GREATER_EQUAL ∷ PLUS ∷ MINUS ∷ STAR ∷ AND ∷ OR ∷ []

abbrev pub expr_facts : Facts
expr_facts = record {
  starts = NAME ∷ NUMBER ∷ OPEN ∷ CAST ∷ NULL ∷ MALLOC ∷ MINUS ∷ NOT ∷ [];
  continues = OPEN ∷ CAST ∷ ARROW ∷ binary_classes;
  lacks = [];
  may_be_empty = false;
  sample = NAME ∷ [];
}

abbrev pub unary_over : ℕ → Form → Form → Form
unary_over n below expr_below = nest n MINUS below ∣ nest n NOT below ∣ postfix_form n expr_below

abbrev pub expr_over : Form → Form
expr_over unary = Known expr_facts (chain_form 6 unary)

abbrev pub unary_body : ℕ → Form
unary_body zero = unary_over zero Nothing Nothing
unary_body (suc n) = unary_over (suc n) (Known unary_facts (unary_body n)) (expr_over (Known unary_facts (unary_body n)))

abbrev pub unary_form : ℕ → Form
unary_form n = Known unary_facts (unary_body n)

abbrev pub expr_form : ℕ → Form
expr_form n = expr_over (unary_form n)

-- an expression one level deeper
abbrev pub expr_below : ℕ → Form
expr_below zero = Nothing
expr_below (suc n) = expr_form n

abbrev pub assign_form : Form → Form
assign_form expr = ((Word SET ∣ Word ADD_TO ∣ Word SUBTRACT_FROM ∣ Word MULTIPLY_BY) ⨟ expr) ∣ Word INCREMENT ∣ Word DECREMENT

-- a simple statement behind a name and the arguments of a call
abbrev pub call_tail_form : ℕ → Form
call_tail_form n = optional (members_form ⨟ assign_form (expr_form n))

-- the arguments of a call and what stands behind them in a simple statement
abbrev pub call_then_form : ℕ → Form
call_then_form n =
    nest n OPEN (optional (expr_below n ⨟ more_of (expr_below n)) ⨟ Word CLOSE ⨟ call_tail_form n)
    ∣ nest n CAST (optional (expr_below n ⨟ more_of (expr_below n)) ⨟ Word CLOSE ⨟ call_tail_form n)

-- a simple statement behind a name
abbrev pub name_tail_form : ℕ → Form
name_tail_form n = call_then_form n ∣ (members_form ⨟ assign_form (expr_form n))

-- a simple statement that begins with no name
abbrev pub other_simple_form : ℕ → Form
other_simple_form n =
    (Word FREE ⨟ open_form ⨟ expr_form n ⨟ Word CLOSE) ∣ (closed_form n (expr_below n) ⨟ members_form ⨟ assign_form (expr_form n))

abbrev pub assign_classes : List ℕ
assign_classes = SET ∷ ADD_TO ∷ SUBTRACT_FROM ∷ MULTIPLY_BY ∷ INCREMENT ∷ DECREMENT ∷ []

abbrev pub simple_facts : Facts
simple_facts = record {
  starts = NAME ∷ NUMBER ∷ OPEN ∷ CAST ∷ NULL ∷ MALLOC ∷ FREE ∷ [];
  continues = OPEN ∷ CAST ∷ ARROW ∷ SET ∷ ADD_TO ∷ SUBTRACT_FROM ∷ MULTIPLY_BY ∷ INCREMENT ∷ DECREMENT ∷ binary_classes;
  lacks = [];
  may_be_empty = false;
  sample = NAME ∷ INCREMENT ∷ [];
}

abbrev pub simple_body : ℕ → Form
simple_body n = (Word NAME ⨟ name_tail_form n) ∣ other_simple_form n

abbrev pub simple_form : ℕ → Form
simple_form n = Known simple_facts (simple_body n)

abbrev pub initialized_form : ℕ → Form
initialized_form n = declarator_form ⨟ optional (Word SET ⨟ expr_form n)

abbrev pub locals_tail_form : ℕ → Form
locals_tail_form n = initialized_form n ⨟ more_of (initialized_form n)

abbrev pub clause_facts : Facts
clause_facts = record {
  starts = INT ∷ VOID ∷ STRUCT ∷ NAME ∷ NUMBER ∷ OPEN ∷ CAST ∷ NULL ∷ MALLOC ∷ FREE ∷ [];
  continues = COMMA ∷ OPEN ∷ CAST ∷ ARROW ∷ SET ∷ ADD_TO ∷ SUBTRACT_FROM ∷ MULTIPLY_BY ∷ INCREMENT ∷ DECREMENT ∷ binary_classes;
  lacks = [];
  may_be_empty = false;
  sample = NAME ∷ INCREMENT ∷ [];
}

-- locals or a simple statement
abbrev pub clause_body : ℕ → Form
clause_body n = (key_specifier_form ⨟ locals_tail_form n) ∣ (Word NAME ⨟ (locals_tail_form n ∣ name_tail_form n)) ∣ other_simple_form n

abbrev pub clause_form : ℕ → Form
clause_form n = Known clause_facts (clause_body n)

abbrev pub stmt_facts : Facts
stmt_facts = record {
  starts =
      OPEN_BRACE ∷ SEMICOLON ∷ IF ∷ WHILE ∷ DO ∷ FOR ∷ BREAK ∷ CONTINUE ∷ RETURN
      ∷ INT ∷ VOID ∷ STRUCT ∷ NAME ∷ NUMBER ∷ OPEN ∷ CAST ∷ NULL ∷ MALLOC ∷ FREE ∷ [];
  continues = [];
  lacks = ELSE ∷ [];
  may_be_empty = false;
  sample = SEMICOLON ∷ [];
}

-- the statements of a block behind its brace
abbrev pub block_tail_form : Form → Form
block_tail_form stmt = Many stmt ⨟ Word CLOSE_BRACE

-- a test in parentheses
abbrev pub test_form : Form → Form
test_form expr = open_form ⨟ expr ⨟ Word CLOSE

-- what stands behind `if`, `while`, `do` and `for`, by the forms one level deeper
abbrev pub if_form : Form → Form → Form
if_form expr stmt = open_form ⨟ expr ⨟ Word CLOSE ⨟ stmt ⨟ Nearest ELSE stmt

abbrev pub while_form : Form → Form → Form
while_form expr stmt = open_form ⨟ expr ⨟ Word CLOSE ⨟ stmt

abbrev pub do_form : Form → Form → Form
do_form expr stmt = stmt ⨟ Word WHILE ⨟ open_form ⨟ expr ⨟ Word CLOSE ⨟ Word SEMICOLON

abbrev pub for_form : Form → Form → Form → Form → Form
for_form clause expr simple stmt =
    open_form ⨟ optional clause ⨟ Word SEMICOLON ⨟ optional expr ⨟ Word SEMICOLON ⨟ optional simple ⨟ Word CLOSE ⨟ stmt

-- the statements that open no level
abbrev pub flat_form : ℕ → Form
flat_form n =
    Word SEMICOLON ∣ (Word BREAK ⨟ Word SEMICOLON) ∣ (Word CONTINUE ⨟ Word SEMICOLON)
    ∣ (Word RETURN ⨟ optional (expr_form n) ⨟ Word SEMICOLON) ∣ (clause_form n ⨟ Word SEMICOLON)

abbrev pub stmt_body : ℕ → Form
stmt_body zero = Closed OPEN_BRACE ∣ Closed IF ∣ Closed WHILE ∣ Closed DO ∣ Closed FOR ∣ flat_form zero
stmt_body (suc n) =
    (Word OPEN_BRACE ⨟ block_tail_form (Known stmt_facts (stmt_body n)))
    ∣ (Word IF ⨟ if_form (expr_form n) (Known stmt_facts (stmt_body n)))
    ∣ (Word WHILE ⨟ while_form (expr_form n) (Known stmt_facts (stmt_body n)))
    ∣ (Word DO ⨟ do_form (expr_form n) (Known stmt_facts (stmt_body n)))
    ∣ (Word FOR ⨟ for_form (clause_form n) (expr_form n) (simple_form n) (Known stmt_facts (stmt_body n)))
    ∣ flat_form (suc n)

abbrev pub stmt_form : ℕ → Form
stmt_form n = Known stmt_facts (stmt_body n)

abbrev pub stmt_below : ℕ → Form
stmt_below zero = Nothing
stmt_below (suc n) = stmt_form n

-- an item behind a head
abbrev pub item_end_form : ℕ → Form
item_end_form n = Word SEMICOLON ∣ nest n OPEN_BRACE (block_tail_form (stmt_below n))

-- `typedef` and what stands behind it
abbrev pub typedef_form : Form
typedef_form =
    Word TYPEDEF ⨟ Word STRUCT
    ⨟ ((struct_body_form ⨟ Word NAME ⨟ Word SEMICOLON) ∣
    (Word NAME ⨟ ((struct_body_form ⨟ Word NAME ⨟ Word SEMICOLON) ∣ (Word NAME ⨟ Word SEMICOLON))))

abbrev pub item_facts : Facts
item_facts = record {
  starts = STRUCT ∷ TYPEDEF ∷ INT ∷ VOID ∷ NAME ∷ [];
  continues = [];
  lacks = [];
  may_be_empty = false;
  sample = STRUCT ∷ NAME ∷ OPEN_BRACE ∷ CLOSE_BRACE ∷ SEMICOLON ∷ [];
}

abbrev pub item_body : ℕ → Form
item_body n =
    (Word STRUCT ⨟ Word NAME ⨟ ((struct_body_form ⨟ Word SEMICOLON) ∣ (head_tail_form ⨟ item_end_form n)))
    ∣ typedef_form
    ∣ ((Word INT ∣ Word VOID ∣ Word NAME) ⨟ head_tail_form ⨟ item_end_form n)

abbrev pub item_form : ℕ → Form
item_form n = Known item_facts (item_body n)

abbrev pub file_form : ℕ → Form
file_form n = Many (item_form n) ⨟ Word END
