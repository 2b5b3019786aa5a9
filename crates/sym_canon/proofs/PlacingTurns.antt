-- A turn of placing.
use Rattle.std.proofs.Common.{◌≡◌, ℕ, zero, suc, ◌+◌, ◌-◌, ◌<◌, ◌≤◌, ◌++◌, List, [], ◌∷◌, refl, ap, arith, append_assoc, append-nil}
use Rattle.std.proofs.Common.{position}
use Rattle.shape_data.specs.declared.symbolic.Atom.{Atom}
use Rattle.shape_data.specs.declared.symbolic.Exp.{Exp}
use Rattle.shape_data.specs.declared.symbolic.Exp.TheVariants.{Var}
use Rattle.sym_canon.specs.Placing.{places_some, place_at, place, params_from}

pub turn_placed : (turns done : ℕ) (queue later : List Exp) (left others placed all : List Atom) → done < turns →
    ((again : List Exp → List Atom → List Atom) →
    place_at again queue left (position (places_some left) queue) ≡ placed ++ again later others) →
    all ++ place (turns - done) queue left ≡ (all ++ placed) ++ place (turns - (done + 1)) later others
turn_placed turns done queue later left others placed all inside each =
    let next : turns - done ≡ suc (turns - (done + 1)) = omega arith in
    rw (next, append_assoc) (ap (λ rest. all ++ rest) (each (λ q l. place (turns - (done + 1)) q l)))

pub all_placed : (turns done : ℕ) (queue : List Exp) (left : List Atom) → turns ≤ done → place (turns - done) queue left ≡ left
all_placed turns done queue left past = let none : turns - done ≡ zero = omega arith in rw none refl

-- one parameter more
pub param_queued : (params done : ℕ) (queue : List Exp) → done < params →
    queue ++ params_from done (params - done) ≡ (queue ++ Var done ∷ []) ++ params_from (done + 1) (params - (done + 1))
param_queued params done queue inside =
    let next : params - done ≡ suc (params - (done + 1)) = omega arith in
    rw (next, append_assoc) refl

pub params_queued : (params done : ℕ) (queue : List Exp) → params ≤ done → queue ++ params_from done (params - done) ≡ queue
params_queued params done queue past = let none : params - done ≡ zero = omega arith in rw (none, append-nil) refl
