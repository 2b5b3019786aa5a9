-- Bindings, as variables are declared and forgotten. The last one declared is the first of each list here.
use Rattle.std.proofs.Common.{◌≡◌, ℕ, zero, suc, ◌<◌, ◌≤◌, Bool, true, false, nat_le, List, [], ◌∷◌, ◌++◌, length, map, take, drop}
use Rattle.std.proofs.Common.{reverse, option_map, Option, Some, None, if◌then◌else◌, refl, sym, ap, ◌∙◌, true≢false, Result, Ok, Err}
use Rattle.std.proofs.Common.{OnErr, is_some, arith}
use Rattle.std.proofs.lemmas.List.{map-append, reverse-append, take-append-drop, length-reverse, length-append, length-take-le}
use Rattle.std.proofs.lemmas.Bool.Decides.{nat_tests}
use Rattle.std.proofs.lemmas.Slice.Eq.{bytes_eq-Decides}
use Rattle.std.specs.Str.{bytes_eq}
use Rattle.std.specs.Option.{option_flatten}
use Rattle.std.specs.Result.{IsOk}
use Rattle.c_types_rules.specs.Scopes.{variable_in}
use Rattle.c_types_rules.specs.Scopes as scopes
use Rattle.c_types_names.specs.declared.variables.Variable.{Variable}
use Rattle.c_types_names.specs.declared.variables.Binding.{Binding}
use Rattle.c_types_names.specs.declared.variables.Declared.{Declared}
use Rattle.c_types_names.specs.NameMap.{or_last}
use Rattle.c_types_names.specs.Seen.{variable_seen, stacked}
use Rattle.c_types_names.specs.Bindings.{variable_of, binding_in}

abbrev pub variable_bound : Binding → Variable
variable_bound binding = binding.variable

abbrev pub declared_seen : Declared → scopes.Variable
declared_seen one = variable_seen one.variable

-- the last of a list is the first of it turned round
pub reverse-last : {X : Type 0} (xs : List X) (x : X) → reverse (xs ++ x ∷ []) ≡ x ∷ reverse xs
reverse-last xs x = reverse-append xs (x ∷ [])

reverse-first : {X : Type 0} (x : X) (xs : List X) → reverse (x ∷ xs) ≡ reverse xs ++ x ∷ []
reverse-first x xs = reverse-append (x ∷ []) xs

seen_turned : (all : List Declared) → reverse (map variable_seen (map variable_of all)) ≡ map declared_seen (reverse all)
seen_turned [] = refl
seen_turned (x ∷ xs) =
    reverse-first (declared_seen x) (map variable_seen (map variable_of xs))
    ∙ ap (λ ys. ys ++ declared_seen x ∷ []) (seen_turned xs)
    ∙ sym (map-append declared_seen (reverse xs) (x ∷ []))
    ∙ ap (map declared_seen) (sym (reverse-first x xs))

pub stacked_turned : (all : List Declared) → stacked (map variable_of all) ≡ map declared_seen (reverse all)
unfolding stacked
stacked_turned all = seen_turned all

seen_if : (passes : Bool) (v : Variable) (place : ℕ) (o : Option Binding) (p : Option scopes.Variable)
    → option_map (λ b. variable_seen (variable_bound b)) o ≡ p
    → option_map (λ b. variable_seen (variable_bound b)) (if passes then Some (record { variable = v; place = place }) else o)
    ≡ (if passes then Some (variable_seen v) else p)
seen_if true v place o p is = refl
seen_if false v place o p is = is

-- a name is bound to the variable that stands
pub bound_is : (all : List Declared) (n : List ℕ)
    → option_map (λ b. variable_seen (variable_bound b)) (binding_in all n) ≡ variable_in (map declared_seen all) n
bound_is [] n = refl
bound_is (x ∷ xs) n =
    seen_if (bytes_eq x.variable.name.now n) x.variable (length xs) (binding_in xs n) (variable_in (map declared_seen xs) n) (bound_is xs n)

-- whether it is bound to a variable that does not stand before this place
abbrev pub is_from : ℕ → Option Binding → Bool
is_from begin None = false
is_from begin (Some binding) = nat_le begin binding.place

is_not_from : (begin place : ℕ) → place < begin → nat_le begin place ≡ false
is_not_from begin place less = grind (arith, nat_tests)

is_at : (begin place : ℕ) → begin ≤ place → nat_le begin place ≡ true
is_at begin place less = grind (arith, nat_tests)

before_if : (passes : Bool) (v : Variable) (place begin : ℕ) (o : Option Binding) → place < begin → is_from begin o ≡ false
    → is_from begin (if passes then Some (record { variable = v; place = place }) else o) ≡ false
before_if true v place begin o less is = is_not_from begin place less
before_if false v place begin o less is = is

none_from : (all : List Declared) (n : List ℕ) (begin : ℕ) → length all ≤ begin → is_from begin (binding_in all n) ≡ false
none_from [] n begin less = refl
none_from (x ∷ xs) n begin less =
    let shorter : length xs < begin = omega arith in
    before_if (bytes_eq x.variable.name.now n) x.variable (length xs) begin (binding_in xs n) shorter (none_from xs n begin (omega arith))

from_if : (passes : Bool) (v : Variable) (place begin : ℕ) (o : Option Binding) (p : Option scopes.Variable) → begin ≤ place
    → is_from begin o ≡ is_some p
    → is_from begin (if passes then Some (record { variable = v; place = place }) else o)
    ≡ is_some (if passes then Some (variable_seen v) else p)
from_if true v place begin o p less is = is_at begin place less
from_if false v place begin o p less is = is

from_around : (here around : List Declared) (n : List ℕ)
    → is_from (length around) (binding_in (here ++ around) n) ≡ is_some (variable_in (map declared_seen here) n)
from_around [] around n = none_from around n (length around) (omega arith)
from_around (x ∷ xs) around n =
    let longer : length around ≤ length (xs ++ around) = omega (arith, length-append xs around) in
    from_if (bytes_eq x.variable.name.now n) x.variable (length (xs ++ around)) (length around) (binding_in (xs ++ around) n)
    (variable_in (map declared_seen xs) n) longer
    (from_around xs around n)

-- the variable that a name is bound to
pub last_is : (bound : List ℕ → Option Binding) (all : List Declared) → ((n : List ℕ) → bound n ≡ binding_in (reverse all) n) → (n : List ℕ)
    → option_map (λ b. variable_seen (variable_bound b)) (bound n) ≡ variable_in (stacked (map variable_of all)) n
last_is bound all found n =
    ap (option_map (λ b. variable_seen (variable_bound b))) (found n)
    ∙ bound_is (reverse all) n
    ∙ ap (λ xs. variable_in xs n) (sym (stacked_turned all))

map-drop : {X Y : Type 0} (f : X → Y) (i : ℕ) (xs : List X) → map f (drop i xs) ≡ drop i (map f xs)
map-drop f zero xs = refl
map-drop f (suc i) [] = refl
map-drop f (suc i) (x ∷ xs) = map-drop f i xs

pub map-take : {X Y : Type 0} (f : X → Y) (i : ℕ) (xs : List X) → map f (take i xs) ≡ take i (map f xs)
map-take f zero xs = refl
map-take f (suc i) [] = refl
map-take f (suc i) (x ∷ xs) = ap (λ ys. f x ∷ ys) (map-take f i xs)

-- a name is bound from this place on where a variable of it stands there
pub bound_from : (all : List Declared) (begin : ℕ) (n : List ℕ) → begin ≤ length all
    → is_from begin (binding_in (reverse all) n) ≡ is_some (variable_in (stacked (drop begin (map variable_of all))) n)
bound_from all begin n within =
    let parts : reverse all ≡ reverse (drop begin all) ++ reverse (take begin all) =
    ap reverse (sym (take-append-drop begin all)) ∙ reverse-append (take begin all) (drop begin all) in
    let around : begin ≡ length (reverse (take begin all)) = sym (length-reverse (take begin all) ∙ length-take-le begin all within) in
    ap (λ xs. is_from begin (binding_in xs n)) parts
    ∙ ap (λ k. is_from k (binding_in (reverse (drop begin all) ++ reverse (take begin all)) n)) around
    ∙ from_around (reverse (drop begin all)) (reverse (take begin all)) n
    ∙ ap (λ xs. is_some (variable_in xs n)) (sym (stacked_turned (drop begin all)))
    ∙ ap (λ xs. is_some (variable_in (stacked xs) n)) (map-drop variable_of begin all)

-- one more is declared
module _ (old new : List ℕ → Option (Option Binding)) (all : List Declared) (v : Variable) (place : ℕ)
    (found : (n : List ℕ) → option_flatten (old n) ≡ binding_in all n) (last : place ≡ length all)
    (updates : (n : List ℕ) → new n ≡ or_last (old n) (bytes_eq v.name.now n) (Some (record { variable = v; place = place }))) where
  flat : (b : Bool) (at : Option (Option Binding)) (bound : Binding) (rest : Option Binding) → option_flatten at ≡ rest
      → option_flatten (or_last at b (Some bound)) ≡ (if b then Some bound else rest)
  flat true at bound rest is = refl
  flat false at bound rest is = is

  pub declared_found : (hidden : Option Binding) (n : List ℕ)
      → option_flatten (new n) ≡ binding_in (record { variable = v; hidden = hidden } ∷ all) n
  declared_found hidden n =
      ap option_flatten (updates n)
      ∙ flat (bytes_eq v.name.now n) (old n) (record { variable = v; place = place }) (binding_in all n) (found n)
      ∙ ap (λ (k : ℕ). if bytes_eq v.name.now n then Some (record { variable = v; place = k }) else binding_in all n) last

-- the last one is forgotten
module _ (old new : List ℕ → Option (Option Binding)) (all : List Declared) (last : Declared)
    (found : (n : List ℕ) → option_flatten (old n) ≡ binding_in (last ∷ all) n)
    (linked : last.hidden ≡ binding_in all last.variable.name.now)
    (updates : (n : List ℕ) → new n ≡ or_last (old n) (bytes_eq last.variable.name.now n) last.hidden) where
  turned : (n : List ℕ) (b : Bool) → bytes_eq last.variable.name.now n ≡ b
      → option_flatten (old n) ≡ (if b then Some (record { variable = last.variable; place = length all }) else binding_in all n)
      → option_flatten (or_last (old n) b last.hidden) ≡ binding_in all n
  turned n true same is = linked ∙ ap (binding_in all) ((bytes_eq-Decides last.variable.name.now n).0 same)
  turned n false same is = is

  pub forgotten_found : (n : List ℕ) → option_flatten (new n) ≡ binding_in all n
  forgotten_found n = ap option_flatten (updates n) ∙ turned n (bytes_eq last.variable.name.now n) refl (found n)

-- the last one is bound
pub bound_there : (last : Declared) (before : List Declared) → is_some (binding_in (last ∷ before) last.variable.name.now) ≡ true
bound_there last before =
    ap (λ b. is_some
    (if b then Some (record { variable = last.variable; place = length before }) else binding_in before last.variable.name.now))
    ((bytes_eq-Decides last.variable.name.now last.variable.name.now).1 refl)

is_none : {X : Type 0} (o : Option X) → is_some o ≡ true → o ≡ None → ⊥
is_none None some none = true≢false (sym some)
is_none (Some x) some none = absurd cc

pub must_be_ok : {T E X : Type 0} (result : Result T E) (o : Option (Option X)) → is_some (option_flatten o) ≡ true
    → OnErr result (o ≡ None) → IsOk result
must_be_ok (Ok value) o there absent = refl
must_be_ok (Err e) o there absent = absurd (is_none o (outer o there) absent)
  where
    outer : {X : Type 0} (o : Option (Option X)) → is_some (option_flatten o) ≡ true → is_some o ≡ true
    outer None there = there
    outer (Some x) there = refl
