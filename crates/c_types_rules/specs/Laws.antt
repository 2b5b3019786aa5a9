-- What the laws of the typing rules say.
use Rattle.std.specs.Prelude.{◌≡◌, ℕ, true, Some, None, List, [], ◌∷◌, codes, All, Contains}
use Rattle.std.specs.List.{last_or}
use Rattle.shape_data.specs.declared.program.Ty.TheVariants.{Int, Ptr}
use Rattle.c_grammar.specs.Readers.{place_at}
use Rattle.c_grammar.specs.Spelling.{expr_at, head, local}
use Rattle.c_grammar.specs.Trees.{Specifier, BinaryOp, Expr, Args, Local, Head, File}
use Rattle.c_grammar.specs.Words.{Word}
use Rattle.c_types_rules.specs.declared.at.At.{At}
use Rattle.c_grammar.specs.FirstPlaces.{place_of_expr, place_of_local, place_of_head}
use Rattle.c_types_rules.specs.Types.{IsKnown}
use Rattle.c_types_rules.specs.Scopes.{Env}
use Rattle.c_types_rules.specs.Expressions.{kind_of}
use Rattle.c_types_rules.specs.Kinds.{first_kinds}
use Rattle.c_types_rules.specs.Programs.{is_no_later, first_of, first_refusal, IsWellTyped, kinds_of}
use Rattle.c_types_rules.specs.Examples.{at, named, variable, number, two, files, refused}

-- the first refusal of a list stands in it, and none of the list stands before it; only the empty list has none
pub record HaveFirst : Type 0 where
  pub listed : (all : List At) (one : At) → first_of all ≡ Some one → Contains all one
  pub first : (all : List At) (one : At) → first_of all ≡ Some one → All (λ (other : At). is_no_later one other ≡ true) all
  pub empty : (all : List At) → first_of all ≡ None → all ≡ []

-- a tree spells words that begin at its first place
pub record HaveFirstPlaces : Type 0 where
  pub exprs : (level : ℕ) (e : Expr) (from to : List Word) → expr_at level e from to → place_at from ≡ place_of_expr e
  pub locals : (l : Local) (from to : List Word) → local l from to → place_at from ≡ place_of_local l
  pub heads : (h : Head) (from to : List Word) → head h from to → place_at from ≡ place_of_head h

-- where nothing is refused in a program, the type of each of its expressions is known
abbrev pub HaveKnown : Type 0
HaveKnown = (files : List File) → IsWellTyped files → All IsKnown (kinds_of files)

-- an expression's own type stands last among those of the expressions that begin at its first token
abbrev pub HaveOwn : Type 0
HaveOwn = (env : Env) (level : ℕ) (e : Expr) (from to : List Word) → expr_at level e from to
    → last_or None (first_kinds env e) ≡ Some (kind_of env e)

-- `return E;` with `struct node *p`
pub record HaveExamples : Type 0 where
  -- `p->v`: nothing is refused; the types are the pointer and the int
  pub member : first_refusal (files (Expr.Members (variable (codes "p") 72) (named (codes "v") 75) [])) ≡ None
  pub member_kinds : kinds_of (files (Expr.Members (variable (codes "p") 72) (named (codes "v") 75) []))
      ≡ Some (Ptr (codes "node")) ∷ Some Int ∷ []
  -- `p->n->v`
  pub members : kinds_of (files (Expr.Members (variable (codes "p") 72) (named (codes "n") 75) (named (codes "v") 78 ∷ [])))
      ≡ Some (Ptr (codes "node")) ∷ Some (Ptr (codes "node")) ∷ Some Int ∷ []
  -- `p`: a pointer is no int; the statement is refused
  pub pointer : first_refusal (files (variable (codes "p") 72)) ≡ refused 65 122
  -- `p == 0` is a test; `p == 1` is none
  pub null : first_refusal (files (two BinaryOp.Equal (variable (codes "p") 72) (number 0 77))) ≡ None
  pub no_null : first_refusal (files (two BinaryOp.Equal (variable (codes "p") 72) (number 1 77))) ≡ refused 72 122
  -- `p->w`, `q` and `g(1)` are not declared
  pub no_field : first_refusal (files (Expr.Members (variable (codes "p") 72) (named (codes "w") 75) [])) ≡ refused 75 121
  pub no_variable : first_refusal (files (variable (codes "q") 72)) ≡ refused 72 121
  pub no_procedure : first_refusal (files (Expr.Call (named (codes "g") 72) (Args.Arg (number 1 74) Args.NoArgs))) ≡ refused 72 121
  -- `f(p)` may stand there, and within `1 + f(p)` it may not; `f()` has too few arguments, and `f(1)` one that clashes
  pub call : first_refusal (files (Expr.Call (named (codes "f") 72) (Args.Arg (variable (codes "p") 74) Args.NoArgs))) ≡ None
  pub call_within : first_refusal
      (files (two BinaryOp.Add (number 1 72) (Expr.Call (named (codes "f") 76) (Args.Arg (variable (codes "p") 78) Args.NoArgs))))
      ≡ refused 76 126
  pub few : first_refusal (files (Expr.Call (named (codes "f") 72) Args.NoArgs)) ≡ refused 72 124
  pub clash : first_refusal (files (Expr.Call (named (codes "f") 72) (Args.Arg (number 1 74) Args.NoArgs))) ≡ refused 72 122
  -- the smallest expression that breaks a rule is refused: `1 + (p - 1)`
  pub smallest : first_refusal
      (files (two BinaryOp.Add (number 1 72) (Expr.Paren (at 76) (two BinaryOp.Subtract (variable (codes "p") 77) (number 1 81)))))
      ≡ refused 77 122
  -- the first of two in the order of the text: `1 + (p - q)`
  pub first_of_two : first_refusal
      (files (two BinaryOp.Add (number 1 72)
      (Expr.Paren (at 76) (two BinaryOp.Subtract (variable (codes "p") 77) (variable (codes "q") 81))))) ≡ refused 77 122
  -- a type that is not known clashes with nothing: `q + 1`
  pub unknown : first_refusal (files (two BinaryOp.Add (variable (codes "q") 72) (number 1 76))) ≡ refused 72 121
  -- `malloc` is out of place in `p == malloc(sizeof(struct node))`, and clashes with nothing
  pub out_of_place : first_refusal
      (files (two BinaryOp.Equal (variable (codes "p") 72) (Expr.Malloc (at 77) None (Specifier.Struct (at 91) (named (codes "node") 98)))))
      ≡ refused 77 126
