-- Specifiers, declarators, fields and parameters.
use Rattle.std.proofs.Common.{◌≡◌, zero, suc, ◌+◌, ◌*◌, ◌≤◌, List, [], ◌∷◌, length, map, ap, arith}
use Rattle.std.specs.Prelude.{Option, Some, None, IfSome, All}
use Rattle.std.specs.List.{AllByRecursion}
use Rattle.std.proofs.lemmas.List.{length-append, length-map}
use Rattle.std.proofs.lemmas.List.Elements.{All-from_recursion}
use Rattle.c_grammar.specs.Classes
use Rattle.c_grammar.specs.Words.{Word}
use Rattle.c_grammar.specs.Trees.{Name, Specifier, Declarator, Fields, Param, Params, Head}
use Rattle.c_grammar.specs.Readers.{place_of_specifier}
use Rattle.c_grammar.specs.Spelling.{each, name, specifier, stars, declarator, fields, struct_body, param, params, head}
use Rattle.c_grammar.specs.FirstPlaces.{place_of_head}
use Rattle.c_types_rules.specs.Items.{listed, with_name, param_names, field_names}
use Rattle.c_types_rules.proofs.KnownTables.{all_append}
use Rattle.c_lower_rules.specs.Texts.{IsNamed, IsLine, IsHeadNamed}
use Rattle.c_lower_rules.specs.Numbers.{IsIntNumber}
use Rattle.c_lower_rules.proofs.GoodWords.{AreGood}
use Rattle.c_lower_rules.proofs.Steps.{Has, nothing_else, then, ends, a_word, a_word_at, an_open, a_name, Takes, Shows, more_shown}
use Rattle.c_lower_rules.proofs.Steps.{maybe_shown}

abbrev pub HasLine : Specifier → Type 0
HasLine s = IsLine (place_of_specifier s)

pub a_specifier : Takes specifier HasLine
a_specifier (Specifier.Int place) from to good h = a_word_at place Classes.INT from to good h
a_specifier (Specifier.Void place) from to good h = a_word_at place Classes.VOID from to good h
a_specifier (Specifier.Struct place tag) from to good (mid, h, k) =
    then (a_word_at place Classes.STRUCT from mid good h)
    (λ w. ends (a_name tag mid to w.good k) (λ n. (w.is.0, omega (arith, w.is.1, n.1))))
a_specifier (Specifier.Alias alias) from to good h = ends (a_name alias from to good h) (λ n. (n.0.line, n.1))

some_stars : Shows stars (λ count. Unit {0})
some_stars zero from to good h = nothing_else from to good h tt
some_stars (suc count) from to good (mid, h, k) = then (a_word Classes.STAR from mid good h) (λ w. some_stars count mid to w.good k)

abbrev pub name_of : Declarator → Name
name_of decl = decl.name

abbrev pub IsDeclared : Declarator → Type 0
IsDeclared decl = IsNamed decl.name

pub a_declarator : Takes declarator IsDeclared
a_declarator decl from to good (mid, h, k) =
    then (some_stars decl.stars from mid good h)
    (λ s. ends (a_name decl.name mid to s.good k) (λ n. (n.0.named, omega (arith, s.fewer, n.1))))

-- FIELDS

-- names are C names, and two words are taken for each
pub record AreFields (from to : List Word) (names : List Name) : Type 0 where
  pub named : AllByRecursion IsNamed names
  pub few : length to + 2 * length names ≤ length from

declared_names : (all : List Declarator) → AllByRecursion IsDeclared all → AllByRecursion IsNamed (map name_of all)
declared_names [] h = tt
declared_names (first ∷ others) h = (h.0, declared_names others h.1)

some_fields : (line : Fields) (from to : List Word) → AreGood from → fields line from to
    → Has from to (AreFields from to (map name_of (line.first ∷ line.others)))
some_fields line from to good (a, h, (b, i, (c, j, k))) =
    then (a_specifier line.specifier from a good h) (λ s.
    then (a_declarator line.first a b s.good i) (λ d.
    then (more_shown declarator IsDeclared a_declarator line.others b c d.good j) (λ o.
    ends (a_word Classes.SEMICOLON c to o.good k) (λ w. record {
      named = (d.is.0, declared_names line.others o.is.0);
      few = omega (arith, s.fewer, d.is.1, o.is.1, w, length-map line.others name_of);
    }))))

each_fields : (lines : List Fields) (from to : List Word) → AreGood from → each fields lines from to
    → Has from to (AreFields from to (field_names lines))
each_fields [] from to good h =
    let long : length from ≡ length to = ap length h in nothing_else from to good h (record { named = tt; few = omega arith })
each_fields (line ∷ lines) from to good (mid, h, k) =
    then (some_fields line from mid good h) (λ x.
    ends (each_fields lines mid to x.good k) (λ y. record {
      named = all_append IsNamed (map name_of (line.first ∷ line.others)) (field_names lines) x.is.named y.named;
      few = omega (arith, length-append (map name_of (line.first ∷ line.others)) (field_names lines), x.is.few, y.few);
    }))

-- a structure's fields have C names, and their number is a value of an int
pub record IsBody (lines : List Fields) : Type 0 where
  pub named : All IsNamed (field_names lines)
  pub few : IsIntNumber (length (field_names lines))

pub a_struct_body : Shows struct_body IsBody
a_struct_body lines from to good (a, h, (b, i, k)) =
    then (a_word Classes.OPEN_BRACE from a good h) (λ o.
    then (each_fields lines a b o.good i) (λ x.
    ends (a_word Classes.CLOSE_BRACE b to x.good k) (λ w. record {
      named = All-from_recursion IsNamed (field_names lines) x.is.named;
      few = omega (arith, good.countable, o.is, x.is.few);
    })))

-- PARAMETERS

abbrev IsParam : Param → Type 0
IsParam p = IfSome p.name IsNamed

a_param : Takes param IsParam
a_param p from to good (a, h, (b, i, k)) =
    then (a_specifier p.specifier from a good h) (λ s.
    then (some_stars p.stars a b s.good i) (λ t.
    let m = maybe_shown name IsNamed (λ n x y g r. ends (a_name n x y g r) (λ f. f.0.named)) p.name b to t.good k in
    ends m (λ named. (named, omega (arith, s.is.1, t.fewer, m.fewer)))))

with_named : (one : Option Name) (names : List Name) → IfSome one IsNamed → AllByRecursion IsNamed names
    → AllByRecursion IsNamed (with_name one names)
with_named None names h others = others
with_named (Some n) names h others = (h, others)

params_named : (all : List Param) → AllByRecursion IsParam all → AllByRecursion IsNamed (param_names all)
params_named [] h = tt
params_named (first ∷ others) h = with_named first.name (param_names others) h.0 (params_named others h.1)

-- the names of parameters are C names, and two words are taken for each but the first
pub record AreParams (from to : List Word) (all : List Param) : Type 0 where
  pub named : AllByRecursion IsNamed (param_names all)
  pub few : length to + 2 * length all ≤ length from + 1

some_params : (p : Params) (from to : List Word) → AreGood from → params p from to → Has from to (AreParams from to (listed p))
some_params Params.NoParams from to good h =
    let long : length from ≡ length to = ap length h in nothing_else from to good h (record { named = tt; few = omega arith })
some_params (Params.VoidParams place) from to good h =
    ends (a_word_at place Classes.VOID from to good h) (λ w. record { named = tt; few = omega (arith, w.1) })
some_params (Params.Listed first others) from to good (alone, (mid, h, k)) =
    then (a_param first from mid good h) (λ f.
    ends (more_shown param IsParam a_param others mid to f.good k) (λ o. record {
      named = params_named (first ∷ others) (f.is.0, o.0);
      few = omega (arith, f.is.1, o.1);
    }))

pub record IsHead (h : Head) : Type 0 where
  pub named : IsHeadNamed h
  pub line : IsLine (place_of_head h)
  pub few : IsIntNumber (length (listed h.params))

pub a_head : Shows head IsHead
a_head h from to good (a, i, (b, j, (c, k, (d, l, m)))) =
    then (a_specifier h.specifier from a good i) (λ s.
    then (a_declarator h.declarator a b s.good j) (λ n.
    then (an_open b c n.good k) (λ o.
    then (some_params h.params c d o.good l) (λ p.
    ends (a_word Classes.CLOSE d to p.good m) (λ w.
    let few : length d + 2 * length (listed h.params) ≤ length c + 1 = p.is.few in
    let whole : length c + 3 ≤ length from = omega (arith, s.is.1, n.is.1, o.is) in
    record {
      named = record {
        name = n.is.0;
        params = All-from_recursion IsNamed (param_names (listed h.params)) p.is.named;
        countable = omega (arith, good.countable);
      };
      line = s.is.0;
      few = omega (arith, good.countable);
    })))))
