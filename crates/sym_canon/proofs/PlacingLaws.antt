-- Placing only moves atoms.
use Rattle.std.specs.Prelude.{◌≡◌, ℕ, zero, suc, ◌+◌, pos, not, List, [], ◌∷◌, ◌++◌, length, filter, drop, position, slice_index_or}
use Rattle.std.specs.declared.option.Option.{Option}
use Rattle.std.specs.declared.option.Option.TheVariants.{None, Some}
use Rattle.std.proofs.Common.{refl, ap}
use Rattle.shape_data.specs.declared.symbolic.Atom.{Atom}
use Rattle.shape_data.specs.declared.symbolic.Atom.TheVariants.{Points, Seg, Junk}
use Rattle.shape_data.specs.declared.symbolic.Exp.{Exp}
use Rattle.shape_data.specs.declared.symbolic.Exp.TheVariants.{Const}
use Rattle.sym_parts.specs.Laws.Junks.{is_junk, is_other}
use Rattle.sym_parts.specs.Laws.Orders.{SayTheSame}
use Rattle.sym_parts.proofs.LawsLemmas.OrderLemmas.{same-refl, same-trans, same-cons, same-append_left, same-append_right, same-parted}
use Rattle.sym_canon.specs.Placing.{exps_of, all_lead_to, is_placed, places_some, place_by, place_first, place_at, place, params_from}
use Rattle.sym_canon.specs.Placing.{placed}

by-same : (again : List Exp → List Atom → List Atom) → ((queue : List Exp) (left : List Atom) → SayTheSame left (again queue left))
    → (queue : List Exp) (left : List Atom) (e : Exp) → SayTheSame left (place_by again queue left e)
by-same again each queue left e =
    same-trans left (placed_now ++ others) (place_by again queue left e) (same-parted (is_placed left e) left)
    (same-append_right placed_now others (again (queue ++ all_lead_to placed_now) others) (each (queue ++ all_lead_to placed_now) others))
  where
    placed_now : List Atom
    placed_now = filter (is_placed left e) left

    others : List Atom
    others = filter (λ atom. not (is_placed left e atom)) left

first-same : (again : List Exp → List Atom → List Atom) → ((queue : List Exp) (left : List Atom) → SayTheSame left (again queue left))
    → (left : List Atom) → SayTheSame left (place_first again left)
first-same again each [] = each [] []
first-same again each (first ∷ rest) = same-cons first rest (again (exps_of first) rest) (each (exps_of first) rest)

at-same : (again : List Exp → List Atom → List Atom) → ((queue : List Exp) (left : List Atom) → SayTheSame left (again queue left))
    → (queue : List Exp) (left : List Atom) (o : Option ℕ) → SayTheSame left (place_at again queue left o)
at-same again each queue left None = first-same again each left
at-same again each queue left (Some k) = by-same again each (drop (k + 1) queue) left (slice_index_or queue k (Const (pos 0)))

place-same : (turns : ℕ) (queue : List Exp) (left : List Atom) → SayTheSame left (place turns queue left)
place-same zero queue left = same-refl left
place-same (suc turns) queue left =
    at-same (λ later others. place turns later others) (λ later others. place-same turns later others) queue left
    (position (places_some left) queue)

-- Junk is what fails the test of the others
junk-others : (atoms : List Atom) → filter (λ atom. not (is_other atom)) atoms ≡ filter is_junk atoms
junk-others [] = refl
junk-others (Points at kind fields ∷ atoms) = junk-others atoms
junk-others (Seg kind link from to ∷ atoms) = junk-others atoms
junk-others (Junk ∷ atoms) = ap (λ rest. Junk ∷ rest) (junk-others atoms)

parted-junk : (atoms : List Atom) → SayTheSame atoms (filter is_other atoms ++ filter is_junk atoms)
parted-junk atoms =
    let told : SayTheSame atoms (filter is_other atoms ++ filter (λ atom. not (is_other atom)) atoms) =
    same-parted is_other atoms in rw junk-others at told

pub placed-same : (params : ℕ) (locals : List Exp) (atoms : List Atom) → SayTheSame atoms (placed params locals atoms)
placed-same params locals atoms =
    same-trans atoms (filter is_other atoms ++ filter is_junk atoms) (placed params locals atoms) (parted-junk atoms)
    (same-append_left (filter is_other atoms)
    (place (length (filter is_other atoms)) (params_from 0 params ++ locals) (filter is_other atoms)) (filter is_junk atoms)
    (place-same (length (filter is_other atoms)) (params_from 0 params ++ locals) (filter is_other atoms)))
