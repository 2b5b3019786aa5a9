-- An expression's own type is the last of those of the expressions that begin at its first token.
use Rattle.std.proofs.Common.{◌≡◌, List, [], ◌∷◌, ◌++◌, refl, ◌∙◌}
use Rattle.std.specs.Prelude.{Option, Some, None}
use Rattle.std.specs.List.{last_or}
use Rattle.c_grammar.specs.Trees.{Name, Expr, Links}
use Rattle.c_types_rules.specs.Types.{Kind}
use Rattle.c_types_rules.specs.Tables.{Tables}
use Rattle.c_types_rules.specs.Scopes.{Env}
use Rattle.c_types_rules.specs.Expressions.{kind_of, kind_of_chain, kind_of_binary, kind_of_member, kind_of_members}
use Rattle.c_types_rules.specs.Kinds.{link_kinds, member_kinds, first_kinds}
use Rattle.c_types_rules.specs.Laws.{HaveOwn}

last_behind : (first : Option Kind) (xs : List Kind) (y : Kind) (ys : List Kind) → last_or first (xs ++ y ∷ ys) ≡ last_or (Some y) ys
last_behind first [] y ys = refl
last_behind first (x ∷ xs) y ys = last_behind (Some x) xs y ys

last_link : (env : Env) (kind : Kind) (others : Links)
    → last_or (Some kind) (link_kinds env kind others) ≡ Some (kind_of_chain env kind others)
last_link env kind Links.NoLinks = refl
last_link env kind (Links.Link op operand others) = last_link env (kind_of_binary op kind (kind_of env operand)) others

last_member : (tables : Tables) (kind : Kind) (names : List Name)
    → last_or (Some kind) (member_kinds tables kind names) ≡ Some (kind_of_members tables kind names)
last_member tables kind [] = refl
last_member tables kind (first ∷ others) = last_member tables (kind_of_member tables kind first) others

pub have_own : HaveOwn
have_own env level (Expr.Chain first Links.NoLinks) from to h = absurd h
have_own env level (Expr.Chain first (Links.Link op second others)) from to h =
    let kind = kind_of_binary op (kind_of env first) (kind_of env second) in
    last_behind None (first_kinds env first) kind (link_kinds env kind others) ∙ last_link env kind others
have_own env level (Expr.Members base first others) from to h =
    last_behind None (first_kinds env base) (kind_of_member env.tables (kind_of env base) first)
    (member_kinds env.tables (kind_of_member env.tables (kind_of env base) first) others)
    ∙ last_member env.tables (kind_of_member env.tables (kind_of env base) first) others
have_own env level other from to h = refl
