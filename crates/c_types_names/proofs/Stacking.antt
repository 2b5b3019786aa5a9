-- The variables of a scope, the last one first.
use Rattle.std.proofs.Common.{◌≡◌, ℕ, ◌+◌, ◌<◌, ◌≤◌, List, [], ◌∷◌, ◌++◌, length, map, take, drop, reverse, get_or, refl, sym, ap, ◌∙◌}
use Rattle.std.proofs.Common.{arith}
use Rattle.std.proofs.lemmas.List.{map-append, reverse-append, take-append-drop, take_more, length-reverse, length-map, length-append}
use Rattle.std.proofs.lemmas.List.{length-take-le, drop-append-le, take-append-le, take_at, drop_at}
use Rattle.std.proofs.Math.Seq.{drop-length, take-length}
use Rattle.c_types_rules.specs.Tables.{Tables}
use Rattle.c_types_rules.specs.Scopes.{Env, with_variable, entered}
use Rattle.c_types_rules.specs.Scopes as scopes
use Rattle.c_types_names.specs.declared.variables.Variable.{Variable}
use Rattle.c_types_names.specs.Seen.{kind_seen, variable_seen, stacked}

pub stacked-append : (one other : List Variable) → stacked (one ++ other) ≡ stacked other ++ stacked one
unfolding stacked
stacked-append one other = ap reverse (map-append variable_seen one other)
    ∙ reverse-append (map variable_seen one) (map variable_seen other)

pub stacked-nil : stacked [] ≡ []
unfolding stacked
stacked-nil = refl

pub stacked-one : (v : Variable) → stacked (v ∷ []) ≡ variable_seen v ∷ []
unfolding stacked
stacked-one v = refl

pub stacked-push : (variables : List Variable) (v : Variable) → stacked (variables ++ v ∷ []) ≡ variable_seen v ∷ stacked variables
stacked-push variables v = stacked-append variables (v ∷ []) ∙ ap (λ xs. xs ++ stacked variables) (stacked-one v)

pub stacked-parts : (i : ℕ) (variables : List Variable) → stacked (drop i variables) ++ stacked (take i variables) ≡ stacked variables
stacked-parts i variables = sym (stacked-append (take i variables) (drop i variables)) ∙ ap stacked (take-append-drop i variables)

pub stacked_more : (variables : List Variable) (i : ℕ) (d : Variable) → i < length variables
    → stacked (take (i + 1) variables) ≡ variable_seen (get_or variables i d) ∷ stacked (take i variables)
stacked_more variables i d within = ap stacked (take_more variables i d within) ∙ stacked-push (take i variables) (get_or variables i d)

pub ruleset stacking = (stacked_more, stacked-nil, stacked-push, stacked-parts)

pub length-stacked : (variables : List Variable) → length (stacked variables) ≡ length variables
unfolding stacked
length-stacked variables = length-reverse (map variable_seen variables) ∙ length-map variables variable_seen

abbrev around_seen : Tables → List scopes.Variable → List scopes.Variable → Env
around_seen tables around here = record { tables = tables; scopes = record { here = here; around = around } }

abbrev env_seen : Tables → ℕ → List Variable → Env
env_seen tables begin variables = around_seen tables (stacked (take begin variables)) (stacked (drop begin variables))

module _ (tables : Tables) (begin : ℕ) (variables : List Variable) (within : begin ≤ length variables) where
  pub length_around : length (stacked (take begin variables)) ≡ begin
  length_around = length-stacked (take begin variables) ∙ length-take-le begin variables within

  pub added : (more : List Variable) (v : Variable) → more ≡ variables ++ v ∷ []
      → env_seen tables begin more ≡ with_variable (env_seen tables begin variables) v.name.now (kind_seen v.kind)
  added more v is =
      ap (env_seen tables begin) is
      ∙ ap (λ xs. around_seen tables (stacked (take begin (variables ++ v ∷ []))) (stacked xs))
      (drop-append-le begin variables (v ∷ []) within)
      ∙ ap (λ xs. around_seen tables (stacked xs) (stacked (drop begin variables ++ v ∷ [])))
      (take-append-le begin variables (v ∷ []) within)
      ∙ ap (λ xs. around_seen tables (stacked (take begin variables)) xs) (stacked-push (drop begin variables) v)

  pub went_in : (end : ℕ) → end ≡ length variables → env_seen tables end variables ≡ entered (env_seen tables begin variables)
  went_in end is =
      ap (λ n. env_seen tables n variables) is
      ∙ ap (λ xs. around_seen tables (stacked (take (length variables) variables)) (stacked xs)) (drop-length variables)
      ∙ ap (λ xs. around_seen tables (stacked xs) (stacked [])) (take-length variables)
      ∙ ap (λ xs. around_seen tables (stacked variables) xs) stacked-nil
      ∙ ap (λ xs. around_seen tables xs []) (sym (stacked-parts begin variables))

same_tail : (one other here around : List scopes.Variable) → one ++ other ≡ here ++ around → length other ≡ length around
    → (one ≡ here) × (other ≡ around)
same_tail one other here around is same =
    let front : length one ≡ length here = omega (arith, length-append one other, length-append here around, ap length is) in (
      sym (take_at one other (length here) front) ∙ ap (take (length here)) is ∙ take_at here around (length here) refl,
      sym (drop_at one other (length here) front) ∙ ap (drop (length here)) is ∙ drop_at here around (length here) refl,
    )

-- the variables of the scopes around are parted again
pub left : (tables : Tables) (begin : ℕ) (variables : List Variable) → begin ≤ length variables → (here around : List scopes.Variable)
    → stacked variables ≡ here ++ around → length around ≡ begin → env_seen tables begin variables ≡ around_seen tables around here
left tables begin variables within here around is same =
    let parts =
    same_tail (stacked (drop begin variables)) (stacked (take begin variables)) here around (stacked-parts begin variables ∙ is)
    (length_around tables begin variables within ∙ sym same) in
    ap (λ xs. around_seen tables (stacked (take begin variables)) xs) (parts.0) ∙ ap (λ xs. around_seen tables xs here) (parts.1)
