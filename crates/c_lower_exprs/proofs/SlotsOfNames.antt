-- The slots of names, as variables are declared and forgotten. The last one declared is the first of each list here.
use Rattle.std.proofs.Common.{◌≡◌, ℕ, Bool, true, false, List, [], ◌∷◌, ◌++◌, map, reverse, Option}
use Rattle.std.proofs.Common.{Some, if◌then◌else◌, unwrap_or, refl, sym, ap, ◌∙◌, is_some}
use Rattle.std.proofs.lemmas.List.{map-append, reverse-append}
use Rattle.std.proofs.lemmas.Slice.Eq.{bytes_eq-Decides}
use Rattle.std.specs.Str.{bytes_eq}
use Rattle.std.specs.Option.{option_flatten}
use Rattle.c_lower_rules.specs.Contexts.{slot_in, slot_of_bound}
use Rattle.c_lower_rules.specs.Contexts as contexts
use Rattle.c_types_names.specs.NameMap.{or_last}
use Rattle.c_lower_exprs.specs.declared.slots.Bound.{Bound}
use Rattle.c_lower_exprs.specs.declared.slots.Declared.{Declared}
use Rattle.c_lower_exprs.specs.Seen.{bound_seen, stacked}
use Rattle.c_lower_exprs.specs.Slots.{bound_of, slot_among, slots_of}
use Rattle.c_lower_exprs.proofs.Stacking.{stacked-nil, stacked-push}

abbrev pub declared_seen : Declared → contexts.Bound
declared_seen one = bound_seen one.bound

reverse-first : {X : Type 0} (x : X) (xs : List X) → reverse (x ∷ xs) ≡ reverse xs ++ x ∷ []
reverse-first x xs = reverse-append (x ∷ []) xs

seen_turned : (all : List Declared) → reverse (map bound_seen (map bound_of all)) ≡ map declared_seen (reverse all)
seen_turned [] = refl
seen_turned (x ∷ xs) =
    reverse-first (declared_seen x) (map bound_seen (map bound_of xs))
    ∙ ap (λ ys. ys ++ declared_seen x ∷ []) (seen_turned xs)
    ∙ sym (map-append declared_seen (reverse xs) (x ∷ []))
    ∙ ap (map declared_seen) (sym (reverse-first x xs))

stacked_turned : (all : List Declared) → stacked (map bound_of all) ≡ map declared_seen (reverse all)
unfolding stacked
stacked_turned all = seen_turned all

slot_if : (passes : Bool) (slot : ℕ) (o : Option ℕ) (p : ℕ) → unwrap_or o 0 ≡ p
    → unwrap_or (if passes then Some slot else o) 0 ≡ (if passes then slot else p)
slot_if true slot o p is = refl
slot_if false slot o p is = is

slot_is : (all : List Declared) (n : List ℕ) → unwrap_or (slot_among all n) 0 ≡ slot_in (map declared_seen all) n
slot_is [] n = refl
slot_is (x ∷ xs) n =
    slot_if (bytes_eq x.bound.name.now n) x.bound.slot (slot_among xs n) (slot_in (map declared_seen xs) n) (slot_is xs n)

-- the slot of a name is that of the last variable of the name
pub last_is : (all : List Declared) (n : List ℕ) → unwrap_or (slot_among (reverse all) n) 0 ≡ slot_in (stacked (map bound_of all)) n
last_is all n = slot_is (reverse all) n ∙ ap (λ xs. slot_in xs n) (sym (stacked_turned all))

-- one more is declared
module _ (old new : List ℕ → Option (Option ℕ)) (all : List Declared) (b : Bound)
    (found : (n : List ℕ) → option_flatten (old n) ≡ slot_among all n)
    (updates : (n : List ℕ) → new n ≡ or_last (old n) (bytes_eq b.name.now n) (Some b.slot)) where
  flat : (b : Bool) (at : Option (Option ℕ)) (slot : ℕ) (rest : Option ℕ) → option_flatten at ≡ rest
      → option_flatten (or_last at b (Some slot)) ≡ (if b then Some slot else rest)
  flat true at slot rest is = refl
  flat false at slot rest is = is

  pub declared_found : (hidden : Option ℕ) (n : List ℕ)
      → option_flatten (new n) ≡ slot_among (record { bound = b; hidden = hidden } ∷ all) n
  declared_found hidden n =
      ap option_flatten (updates n) ∙ flat (bytes_eq b.name.now n) (old n) b.slot (slot_among all n) (found n)

-- the last one is forgotten
module _ (old new : List ℕ → Option (Option ℕ)) (all : List Declared) (last : Declared)
    (found : (n : List ℕ) → option_flatten (old n) ≡ slot_among (last ∷ all) n)
    (linked : last.hidden ≡ slot_among all last.bound.name.now)
    (updates : (n : List ℕ) → new n ≡ or_last (old n) (bytes_eq last.bound.name.now n) last.hidden) where
  turned : (n : List ℕ) (b : Bool) → bytes_eq last.bound.name.now n ≡ b
      → option_flatten (old n) ≡ (if b then Some last.bound.slot else slot_among all n)
      → option_flatten (or_last (old n) b last.hidden) ≡ slot_among all n
  turned n true same is = linked ∙ ap (slot_among all) ((bytes_eq-Decides last.bound.name.now n).0 same)
  turned n false same is = is

  pub forgotten_found : (n : List ℕ) → option_flatten (new n) ≡ slot_among all n
  forgotten_found n = ap option_flatten (updates n) ∙ turned n (bytes_eq last.bound.name.now n) refl (found n)

-- the last one has a slot
pub slot_there : (last : Declared) (before : List Declared) → is_some (slot_among (last ∷ before) last.bound.name.now) ≡ true
slot_there last before =
    ap (λ b. is_some (if b then Some last.bound.slot else slot_among before last.bound.name.now))
    ((bytes_eq-Decides last.bound.name.now last.bound.name.now).1 refl)

-- no variable has no slot
pub slots_none : [] ≡ slots_of []
slots_none = ap (map slot_of_bound) (sym stacked-nil)

-- the slot of one more comes first
pub slots_push : (all : List Declared) (one : Declared) → slots_of (all ++ one ∷ []) ≡ one.bound.slot ∷ slots_of all
slots_push all one =
    ap (λ bound. map slot_of_bound (stacked bound)) (map-append bound_of all (one ∷ []))
    ∙ ap (map slot_of_bound) (stacked-push (map bound_of all) one.bound)
