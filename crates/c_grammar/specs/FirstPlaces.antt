-- Where a tree begins: the place of its first token.
use Rattle.c_grammar.specs.declared.tokens.places.Place.{Place}
use Rattle.c_grammar.specs.Trees.{Expr, Head, Local}
use Rattle.c_grammar.specs.Readers.{place_of_specifier}

abbrev pub place_of_expr : Expr → Place
place_of_expr (Expr.Chain first others) = place_of_expr first
place_of_expr (Expr.Prefix place op inner) = place
place_of_expr (Expr.Members base first others) = place_of_expr base
place_of_expr (Expr.Variable n) = n.place
place_of_expr (Expr.Number place value) = place
place_of_expr (Expr.Null place) = place
place_of_expr (Expr.Paren place inner) = place
place_of_expr (Expr.Call callee args) = callee.place
place_of_expr (Expr.Malloc place as_type allocated) = place

abbrev pub place_of_local : Local → Place
place_of_local l = place_of_specifier l.specifier

abbrev pub place_of_head : Head → Place
place_of_head h = place_of_specifier h.specifier
