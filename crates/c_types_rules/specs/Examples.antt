-- Small programs, as trees; the numbers in places are lines and columns that the examples choose.
use Rattle.std.specs.Prelude.{ℕ, Option, Some, List, [], ◌∷◌, codes}
use Rattle.c_grammar.specs.declared.tokens.places.Place.{Place}
use Rattle.c_grammar.specs.Trees.{Name, Specifier, Declarator, Params, BinaryOp, Expr, Links, Stmt, Stmts, Item, File}
use Rattle.c_types_rules.specs.declared.at.At.{At}

abbrev pub at : ℕ → Place
at column = record { line = 1; column = column }

abbrev pub named : List ℕ → ℕ → Name
named text column = record { place = at column; text = text }

abbrev pub plain_name : List ℕ → ℕ → Declarator
plain_name text column = record { stars = 0; name = named text column }

abbrev pub pointer_name : List ℕ → ℕ → Declarator
pointer_name text column = record { stars = 1; name = named text column }

abbrev pub variable : List ℕ → ℕ → Expr
variable text column = Expr.Variable (named text column)

abbrev pub number : ℕ → ℕ → Expr
number value column = Expr.Number (at column) value

abbrev pub two : BinaryOp → Expr → Expr → Expr
two op left right = Expr.Chain left (Links.Link op right Links.NoLinks)

-- `struct node { int v; struct node * n; };`, with words at columns 1, 8, 15, 19, 22, 29, 36
abbrev pub node : Item
node = Item.StructItem (at 1) (named (codes "node") 8)
    (record { specifier = Specifier.Int (at 15); first = plain_name (codes "v") 19; others = [] }
    ∷ record { specifier = Specifier.Struct (at 22) (named (codes "node") 29); first = pointer_name (codes "n") 36; others = [] } ∷ [])

-- `int f(struct node *p) { return E; }`, from column 41; E begins at column 72
abbrev pub with_pointer : Expr → Item
with_pointer e = Item.Definition
    (record {
      specifier = Specifier.Int (at 41);
      declarator = plain_name (codes "f") 45;
      params =
          Params.Listed
          (record { specifier = Specifier.Struct (at 47) (named (codes "node") 54); stars = 1; name = Some (named (codes "p") 60) }) [];
    })
    (at 63) (Stmts.Next (Stmt.Return (at 65) (Some e)) Stmts.NoStmts) (at 90)

abbrev pub files : Expr → List File
files e = record { items = node ∷ with_pointer e ∷ [] } ∷ []

abbrev pub refused : ℕ → ℕ → Option At
refused column code = Some (record { unit = 0; refusal = record { line = 1; column = column; code = code } })
