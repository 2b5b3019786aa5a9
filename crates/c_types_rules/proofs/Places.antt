-- Where trees begin: each spells words that begin at its first place.
use Rattle.std.proofs.Common.{◌≡◌, ℕ, List, [], ◌∷◌}
use Rattle.std.specs.Prelude.{Option, Some, None}
use Rattle.c_grammar.specs.declared.tokens.places.Place.{Place}
use Rattle.c_grammar.specs.Words.{Word}
use Rattle.c_grammar.specs.Trees.{Name, Specifier, Expr, Links}
use Rattle.c_grammar.specs.Spelling.{word_at, name, number, specifier, malloc, expr_at}
use Rattle.c_grammar.specs.Readers.{place_at, place_of_specifier}
use Rattle.c_grammar.specs.FirstPlaces.{place_of_expr}
use Rattle.c_types_rules.specs.Laws.{HaveFirstPlaces}

at_word : (place : Place) (class : ℕ) (from to : List Word) → word_at place class from to → place_at from ≡ place
at_word place class [] to h = absurd h
at_word place class (first ∷ others) to h = h.1

at_name : (n : Name) (from to : List Word) → name n from to → place_at from ≡ n.place
at_name n [] to h = absurd h
at_name n (first ∷ others) to h = h.1

at_number : (place : Place) (value : ℕ) (from to : List Word) → number place value from to → place_at from ≡ place
at_number place value [] to h = absurd h
at_number place value (first ∷ others) to h = h.1

at_specifier : (s : Specifier) (from to : List Word) → specifier s from to → place_at from ≡ place_of_specifier s
at_specifier (Specifier.Int place) from to h = at_word place _ from to h
at_specifier (Specifier.Void place) from to h = at_word place _ from to h
at_specifier (Specifier.Struct place tag) from to h = at_word place _ from _ h.1
at_specifier (Specifier.Alias n) from to h = at_name n from to h

at_malloc : (place : Place) (as_type : Option Specifier) (allocated : Specifier) (from to : List Word) → malloc place as_type allocated from to
    → place_at from ≡ place
at_malloc place None allocated from to h = at_word place _ from _ h.1
at_malloc place (Some as_type) allocated from to h = at_word place _ from _ h.1.1

at_expr : (e : Expr) (level : ℕ) (from to : List Word) → expr_at level e from to → place_at from ≡ place_of_expr e
at_expr (Expr.Chain first (Links.Link op second others)) level from to h = at_expr first _ from _ h.1.1
at_expr (Expr.Chain first Links.NoLinks) level from to h = absurd h
at_expr (Expr.Prefix place op inner) level from to h = at_word place _ from _ h.1.1
at_expr (Expr.Members base first others) level from to h = at_expr base _ from _ h.1.1
at_expr (Expr.Variable n) level from to h = at_name n from to h
at_expr (Expr.Number place value) level from to h = at_number place value from to h
at_expr (Expr.Null place) level from to h = at_word place _ from to h
at_expr (Expr.Paren place inner) level from to h = at_word place _ from _ h.1
at_expr (Expr.Call callee args) level from to h = at_name callee from _ h.1
at_expr (Expr.Malloc place as_type allocated) level from to h = at_malloc place as_type allocated from to h

pub have_first_places : HaveFirstPlaces
have_first_places = record {
  exprs = λ level e from to h. at_expr e level from to h;
  locals = λ l from to h. at_specifier l.specifier from _ h.1;
  heads = λ h from to is. at_specifier h.specifier from _ is.1;
}
