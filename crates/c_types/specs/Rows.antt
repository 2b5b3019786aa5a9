-- Worked rows of the typing rules: small programs, each with what is refused first in it. The numbers are the columns of line 1 where
-- the words stand.
use Rattle.std.specs.Prelude.{◌≡◌, ℕ, Option, Some, None, List, [], ◌∷◌, codes}
use Rattle.c_grammar.specs.Trees.{Name, Specifier, Declarator, Fields, Param, Params, Head, BinaryOp, Expr, Args, AssignOp, StepOp, Simple}
use Rattle.c_grammar.specs.Trees.{Initialized, ForInit, Stmt, Stmts, Item, File}
use Rattle.c_types_rules.specs.Programs.{first_refusal}
use Rattle.c_types_rules.specs.Examples.{at, named, plain_name, pointer_name, variable, number, two, node, with_pointer, refused}

abbrev pub stmts : List Stmt → Stmts
stmts [] = Stmts.NoStmts
stmts (first ∷ others) = Stmts.Next first (stmts others)

-- `struct node { int v; struct node * n; }; int f(struct node *p) { S }`, S from column 65
abbrev pub body : List Stmt → List File
body list = record {
  items = node ∷ Item.Definition
      (record {
        specifier = Specifier.Int (at 41);
        declarator = plain_name (codes "f") 45;
        params =
            Params.Listed
            (record { specifier = Specifier.Struct (at 47) (named (codes "node") 54); stars = 1; name = Some (named (codes "p") 60) }) [];
      })
      (at 63) (stmts list) (at 90) ∷ [];
} ∷ []

-- the same with `return 0;`, and one item more, from column 100
abbrev pub more : Item → List File
more item = record { items = node ∷ with_pointer (number 0 72) ∷ item ∷ [] } ∷ []

abbrev pub set : Expr → Expr → Stmt
set left right = Stmt.Do (Simple.Assign left AssignOp.Set right)

abbrev pub p : ℕ → Expr
p column = variable (codes "p") column

abbrev pub x : ℕ → Expr
x column = variable (codes "x") column

-- `p->v`
abbrev pub value : ℕ → ℕ → Expr
value column field = Expr.Members (p column) (named (codes "v") field) []

abbrev pub initialized : ℕ → ℕ → Option Expr → Initialized
initialized stars column value = record { declarator = record { stars = stars; name = named (codes "x") column }; value = value }

abbrev pub declare : Specifier → Initialized → Stmt
declare specifier first = Stmt.Declare (record { specifier = specifier; first = first; others = [] })

abbrev pub int : ℕ → Specifier
int column = Specifier.Int (at column)

abbrev pub head : Specifier → Declarator → Params → Head
head specifier declarator params = record { specifier = specifier; declarator = declarator; params = params }

abbrev pub param : Specifier → ℕ → Option Name → Param
param specifier stars n = record { specifier = specifier; stars = stars; name = n }

abbrev pub fields : Specifier → ℕ → List ℕ → ℕ → Fields
fields specifier stars text column =
    record { specifier = specifier; first = record { stars = stars; name = named text column }; others = [] }

pub record HaveRows : Type 0 where
  -- 121: `q = 0;`
  pub unknown : first_refusal (body (set (variable (codes "q") 65) (number 0 69) ∷ [])) ≡ refused 65 121
  -- 122: `p = 1;` where `p = 0;` and `p = NULL;` are accepted; `p->v = p;`, `p += 1;` and `p++;`
  pub assigned : first_refusal (body (set (p 65) (number 1 69) ∷ [])) ≡ refused 65 122
  pub null : first_refusal (body (set (p 65) (number 0 69) ∷ set (p 72) (Expr.Null (at 76)) ∷ [])) ≡ None
  pub pointer : first_refusal (body (set (value 65 68) (p 72) ∷ [])) ≡ refused 65 122
  pub added : first_refusal (body (Stmt.Do (Simple.Assign (p 65) AssignOp.AddTo (number 1 70)) ∷ [])) ≡ refused 65 122
  pub step : first_refusal (body (Stmt.Do (Simple.Step (p 65) StepOp.Increment) ∷ [])) ≡ refused 65 122
  -- 122: `free(p->v);` where `free(p);` and `free(0);` are accepted; 121: `free(q);`
  pub freed : first_refusal (body (Stmt.Do (Simple.Free (at 65) (value 70 73)) ∷ [])) ≡ refused 65 122
  pub free : first_refusal (body (Stmt.Do (Simple.Free (at 65) (p 70)) ∷ Stmt.Do (Simple.Free (at 74) (number 0 79)) ∷ [])) ≡ None
  pub free_unknown : first_refusal (body (Stmt.Do (Simple.Free (at 65) (variable (codes "q") 70)) ∷ [])) ≡ refused 70 121
  -- 126: `1 = 1;`
  pub no_target : first_refusal (body (set (number 1 65) (number 1 69) ∷ [])) ≡ refused 65 126
  -- a test is an int or a pointer: `if (p) ;`; 126: `while (f(p)) ;`
  pub condition : first_refusal (body (Stmt.If (at 65) (p 69) (Stmt.Empty (at 72)) ∷ [])) ≡ None
  pub call_in_test : first_refusal
      (body (Stmt.While (at 65) (Expr.Call (named (codes "f") 72) (Args.Arg (p 74) Args.NoArgs)) (Stmt.Empty (at 78)) ∷ []))
      ≡ refused 72 126
  -- `f(p);` is accepted; 124: `f();`
  pub called : first_refusal (body (Stmt.Do (Simple.Perform (named (codes "f") 65) (Args.Arg (p 67) Args.NoArgs)) ∷ [])) ≡ None
  pub few : first_refusal (body (Stmt.Do (Simple.Perform (named (codes "f") 65) Args.NoArgs) ∷ [])) ≡ refused 65 124
  -- 122: `return;`
  pub returned : first_refusal (body (Stmt.Return (at 65) None ∷ [])) ≡ refused 65 122
  -- 126: `break;` and `if (1) continue;`, where `while (1) break;` is accepted
  pub break : first_refusal (body (Stmt.Break (at 65) ∷ [])) ≡ refused 65 126
  pub continue : first_refusal (body (Stmt.If (at 65) (number 1 69) (Stmt.Continue (at 72)) ∷ [])) ≡ refused 72 126
  pub break_in_loop : first_refusal (body (Stmt.While (at 65) (number 1 72) (Stmt.Break (at 75)) ∷ [])) ≡ None
  -- `int x = x;` is accepted; 122: `int x = p;`; 126: `int *x;` and `struct node x;`; 121: `struct nope *x;`
  pub own : first_refusal (body (declare (int 65) (initialized 0 69 (Some (x 73))) ∷ [])) ≡ None
  pub initial : first_refusal (body (declare (int 65) (initialized 0 69 (Some (p 73))) ∷ [])) ≡ refused 65 122
  pub int_pointer : first_refusal (body (declare (int 65) (initialized 1 70 None) ∷ [])) ≡ refused 65 126
  pub structure : first_refusal (body (declare (Specifier.Struct (at 65) (named (codes "node") 72)) (initialized 0 77 None) ∷ []))
      ≡ refused 65 126
  pub no_tag : first_refusal (body (declare (Specifier.Struct (at 65) (named (codes "nope") 72)) (initialized 1 78 None) ∷ []))
      ≡ refused 72 121
  -- 123: `int x; int x;`, and a parameter's name, `int p;`; an inner scope hides it, `{ int p; }`
  pub second : first_refusal (body (declare (int 65) (initialized 0 69 None) ∷ declare (int 72) (initialized 0 76 None) ∷ []))
      ≡ refused 76 123
  pub second_param : first_refusal
      (body (Stmt.Declare
      (record { specifier = int 65; first = record { declarator = plain_name (codes "p") 69; value = None }; others = [] }) ∷ []))
      ≡ refused 69 123
  pub hidden : first_refusal
      (body (Stmt.Block (at 65)
      (stmts (Stmt.Declare
      (record { specifier = int 67; first = record { declarator = plain_name (codes "p") 71; value = None }; others = [] }) ∷ [])) (at 74)
      ∷ [])) ≡ None
  -- 121: a name of an inner scope behind it, `{ int x; } x = 1;` and `for (int x = 0; x; x++) ; x = 1;`
  pub outside : first_refusal
      (body (Stmt.Block (at 65) (stmts (declare (int 67) (initialized 0 71 None) ∷ [])) (at 74) ∷ set (x 76) (number 1 80) ∷ []))
      ≡ refused 76 121
  pub outside_for : first_refusal
      (body (Stmt.For (at 65) (ForInit.Locals (record { specifier = int 66; first = initialized 0 67 (Some (number 0 68)); others = [] }))
      (Some (x 69)) (Some (Simple.Step (x 70) StepOp.Increment)) (Stmt.Empty (at 71)) ∷ set (x 72) (number 1 73) ∷ [])) ≡ refused 72 121
  -- the first of two: `q = p + 1;`
  pub first_of_two : first_refusal (body (set (variable (codes "q") 65) (two BinaryOp.Add (p 69) (number 1 73)) ∷ [])) ≡ refused 65 121
  -- a prototype with the same types is accepted, `int f(struct node *);`; 122: `int f(int a);`
  pub prototype : first_refusal
      (more (Item.Prototype
      (head (int 100) (plain_name (codes "f") 104)
      (Params.Listed (param (Specifier.Struct (at 106) (named (codes "node") 113)) 1 None) []))))
      ≡ None
  pub clash : first_refusal
      (more (Item.Prototype
      (head (int 100) (plain_name (codes "f") 104) (Params.Listed (param (int 106) 0 (Some (named (codes "a") 110))) []))))
      ≡ refused 100 122
  -- 123: `int f(struct node *a) { }`
  pub defined : first_refusal
      (more (Item.Definition
      (head (int 100) (plain_name (codes "f") 104)
      (Params.Listed (param (Specifier.Struct (at 106) (named (codes "node") 113)) 1 (Some (named (codes "a") 119))) []))
      (at 122) Stmts.NoStmts (at 124))) ≡ refused 104 123
  -- 123: `int g(int a, int a);`; 126: `int *g();` and `void g(int) { }`
  pub params : first_refusal
      (more (Item.Prototype
      (head (int 100) (plain_name (codes "g") 104)
      (Params.Listed (param (int 106) 0 (Some (named (codes "a") 110))) (param (int 113) 0 (Some (named (codes "a") 117)) ∷ [])))))
      ≡ refused 117 123
  pub result : first_refusal (more (Item.Prototype (head (int 100) (pointer_name (codes "g") 105) Params.NoParams))) ≡ refused 100 126
  pub unnamed : first_refusal
      (more (Item.Definition (head (Specifier.Void (at 100)) (plain_name (codes "g") 105) (Params.Listed (param (int 107) 0 None) []))
      (at 112) Stmts.NoStmts (at 114))) ≡ refused 107 126
  -- 125: `struct node { int v; };`; 123: `struct s { int v; int v; };`; 126: `struct s { int *v; };`
  pub differs : first_refusal (more (Item.StructItem (at 100) (named (codes "node") 107) (fields (int 114) 0 (codes "v") 118 ∷ [])))
      ≡ refused 107 125
  pub fields_second : first_refusal
      (more (Item.StructItem (at 100) (named (codes "s") 107)
      (fields (int 111) 0 (codes "v") 115 ∷ fields (int 118) 0 (codes "v") 122 ∷ [])))
      ≡ refused 122 123
  pub field : first_refusal (more (Item.StructItem (at 100) (named (codes "s") 107) (fields (int 111) 1 (codes "v") 116 ∷ [])))
      ≡ refused 111 126
  -- 121: `typedef struct nope t;`; 123: `typedef struct node f;`
  pub alias_unknown : first_refusal (more (Item.TypedefAlias (at 100) (named (codes "nope") 115) (named (codes "t") 120))) ≡ refused 115 121
  pub alias_second : first_refusal (more (Item.TypedefAlias (at 100) (named (codes "node") 115) (named (codes "f") 120))) ≡ refused 120 123
