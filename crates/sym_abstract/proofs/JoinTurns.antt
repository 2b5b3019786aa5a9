-- The search for a join, place by place.
use Rattle.std.specs.Prelude.{◌≡◌, ℕ, suc, ◌+◌, ◌-◌, ◌<◌, Bool, is_some, option_map}
use Rattle.std.specs.declared.option.Option.{Option}
use Rattle.std.specs.declared.option.Option.TheVariants.{None, Some}
use Rattle.std.proofs.Common.{refl, ap, ◌∙◌, arith, List}
use Rattle.shape_data.specs.declared.symbolic.Atom.{Atom}
use Rattle.abstraction_laws.specs.Joining.{IsJoin, Join, find_join, first_join, or_else}
use Rattle.abstraction_laws.proofs.JoinLaws.{found-is}
use Rattle.sym_abstract.specs.declared.joining.Place.{Place}
use Rattle.sym_abstract.specs.Places.{place_of}

none-mapped : (o : Option Join) → None ≡ option_map place_of o → o ≡ None
none-mapped None h = refl
none-mapped (Some join) h = cc

-- where there is none at a place, the search goes on behind it
pub search-on : (find : ℕ → Option Join) (whole : Option Join) (count place : ℕ) → place < count →
    whole ≡ first_join find place (count - place) → None ≡ option_map place_of (find place) →
    whole ≡ first_join find (place + 1) (count - (place + 1))
search-on find whole count place low before none =
    let turns : count - place ≡ suc (count - (place + 1)) = omega (arith, low) in
    let here : find place ≡ None = none-mapped (find place) none in
    before ∙ (ap (first_join find place) turns ∙ ap (λ o. or_else o (first_join find (place + 1) (count - (place + 1)))) here)

-- what holds of each join that is at the place holds of the one that was found
pub found-goes : (may : ℕ → Bool) (atoms : List Atom) (place : Place) (R : Option Join → Type 0) →
    ((join : Join) → IsJoin atoms join → place ≡ place_of join → R (Some join)) → Some place ≡ option_map place_of (find_join may atoms) →
    R (find_join may atoms)
found-goes may atoms place R each there = by_found (find_join may atoms) refl there
  where
    by_found : (o : Option Join) → find_join may atoms ≡ o → Some place ≡ option_map place_of o → R o
    by_found None e h = cc
    by_found (Some join) e h = each join (found-is may atoms join e) cc

pub some-mapped : (o : Option Join) → is_some (option_map place_of o) ≡ is_some o
some-mapped None = refl
some-mapped (Some join) = refl
