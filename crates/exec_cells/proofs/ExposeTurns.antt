-- A turn of expose is one of the definition.
use Rattle.std.specs.Prelude.{◌≡◌, ℕ, zero, suc, ◌+◌, ◌-◌, ◌<◌, ◌≤◌, false, List, [], ◌∷◌, ◌++◌, map, position, reverse, slice_get}
use Rattle.std.specs.List.{list_any}
use Rattle.std.specs.Global.{Vec}
use Rattle.std.specs.declared.option.Option.TheVariants.{None, Some}
use Rattle.std.proofs.Common.{refl, sym, ap, ◌∙◌, append_assoc, arith}
use Rattle.shape_data.specs.declared.symbolic.Atom.{Atom}
use Rattle.shape_data.specs.declared.symbolic.Atom.TheVariants.{Points, Seg, Junk}
use Rattle.shape_data.specs.declared.symbolic.Exp.{Exp}
use Rattle.shape_data.specs.declared.symbolic.Exp.TheVariants.{Var}
use Rattle.shape_data.specs.Heap.{struct_named}
use Rattle.sym_canon.specs.declared.parts.Pair.{Pair}
use Rattle.sym_canon.specs.Placing.{is_cell_at, is_segment_from}
use Rattle.sym_matching.specs.Renaming.Calls.{variables_from}
use Rattle.exec_laws.specs.declared.parts.Exposed.{Exposed}
use Rattle.exec_laws.specs.Exposing.{cases_of_segment, empty_case, expose_within, lacking, unfolded_case, without_atom}
use Rattle.exec_laws.specs.Pairs.{Setting, atoms_of, in_slot}
use Rattle.exec_cells.specs.declared.exposing.Turn.{Turn}
use Rattle.exec_cells.specs.declared.exposing.Turn.TheVariants.{Again, Last}
use Rattle.exec_cells.specs.Turns.{cases_after, turn_of}

-- new logical variables, one by one
pub variables_turn : (count turn x : ℕ) (whole all more : List Exp) → turn < count →
    whole ≡ all ++ map Var (variables_from x (count - turn)) → more ≡ all ++ Var x ∷ [] →
    whole ≡ more ++ map Var (variables_from (x + 1) (count - (turn + 1)))
variables_turn count turn x whole all more inside now grown =
    let left : count - turn ≡ suc (count - (turn + 1)) = omega arith in
    let next : map Var (variables_from x (count - turn)) ≡ Var x ∷ map Var (variables_from (x + 1) (count - (turn + 1))) = rw left refl in
    rw grown (now ∙ ap (λ rest. all ++ rest) next
    ∙ sym (append_assoc all (Var x ∷ []) (map Var (variables_from (x + 1) (count - (turn + 1))))))

abbrev IsNoSegment : Atom → Type 0
IsNoSegment (Points at kind fields) = Unit {0}
IsNoSegment (Seg kind link from to) = ⊥
IsNoSegment Junk = Unit {0}

module _ (again : Pair → List Exposed) (setting : Setting) (e : Exp) (pair : Pair) (place : ℕ) (kind : List ℕ) (link : ℕ) (from to : Exp)
    (old noted : List Exposed)
    (is : slice_get (atoms_of pair) place ≡ Some (Seg kind link from to))
    (more : reverse noted ≡ unfolded_case setting pair place kind link from to (struct_named setting.structs kind) ++ reverse old) where
  -- the segment has no empty case
  pub segment_ends : empty_case again setting pair place from to ≡ [] →
      cases_of_segment again setting e pair place (slice_get (atoms_of pair) place) ++ reverse old ≡ reverse noted
  segment_ends none = rw (is, none) (sym more)

  -- its empty case goes on
  pub segment_goes : (made : Pair) → empty_case again setting pair place from to ≡ again made →
      cases_of_segment again setting e pair place (slice_get (atoms_of pair) place) ++ reverse old ≡ again made ++ reverse noted
  segment_goes made goes =
      rw (is, goes)
      (append_assoc (again made) (unfolded_case setting pair place kind link from to (struct_named setting.structs kind)) (reverse old)
      ∙ ap (λ rest. again made ++ rest) (sym more))

-- there is no segment at the place after all
pub no_segment : (again : Pair → List Exposed) (setting : Setting) (e : Exp) (pair : Pair) (place : ℕ) (atom : Atom)
    (old cases : List Exposed) → slice_get (atoms_of pair) place ≡ Some atom → IsNoSegment atom → cases ≡ lacking e →
    cases_of_segment again setting e pair place (slice_get (atoms_of pair) place) ++ reverse old ≡ cases ++ reverse old
no_segment again setting e pair place (Points at kind fields) old cases is none made = rw (is, made) refl
no_segment again setting e pair place (Seg kind link from to) old cases is none made = absurd none
no_segment again setting e pair place Junk old cases is none made = rw (is, made) refl

module _ (again : Pair → List Exposed) (setting : Setting) (kind : List ℕ) (slot : ℕ) (pair : Pair)
    (absent : list_any (is_cell_at (in_slot pair slot)) (atoms_of pair) ≡ false) where
  -- there is no atom
  pub turn_without : position (is_segment_from (in_slot pair slot)) (atoms_of pair) ≡ None →
      turn_of again setting kind slot pair ≡ without_atom setting.mode setting kind (in_slot pair slot) pair
  turn_without none = rw (absent, none) refl

  -- there is a segment
  pub turn_at : (place : ℕ) → position (is_segment_from (in_slot pair slot)) (atoms_of pair) ≡ Some place →
      turn_of again setting kind slot pair ≡ cases_of_segment again setting (in_slot pair slot) pair place (slice_get (atoms_of pair) place)
  turn_at place some = rw (absent, some) refl

-- the turns of the definition
module _ (setting : Setting) (kind : List ℕ) (slot : ℕ) (turns done : ℕ) (whole : List Exposed) (current : Pair) (old noted : List Exposed)
    (now : whole ≡ expose_within (turns - done) setting kind slot current ++ reverse old) (turn : Turn)
    (told : (again : Pair → List Exposed) →
    turn_of again setting kind slot current ++ reverse old ≡ cases_after again turn ++ reverse noted) (inside : done < turns) where
  turned : whole ≡ cases_after (λ later. expose_within (turns - (done + 1)) setting kind slot later) turn ++ reverse noted
  turned =
      let left : turns - done ≡ suc (turns - (done + 1)) = omega arith in
      now ∙ (rw left (told (λ later. expose_within (turns - (done + 1)) setting kind slot later)))

  pub turned_last : (cases : Vec Exposed) → turn ≡ Last cases → whole ≡ cases.items ++ reverse noted
  turned_last cases is = rw is at turned

  pub turned_again : (made : Pair) → turn ≡ Again made → whole ≡ expose_within (turns - (done + 1)) setting kind slot made ++ reverse noted
  turned_again made is = rw is at turned

-- when all turns are taken
pub turns_end : (setting : Setting) (kind : List ℕ) (slot turns done : ℕ) (whole : List Exposed) (current : Pair) (old : List Exposed) →
    whole ≡ expose_within (turns - done) setting kind slot current ++ reverse old →
    turns ≤ done → whole ≡ without_atom setting.mode setting kind (in_slot current slot) current ++ reverse old
turns_end setting kind slot turns done whole current old now past = let left : turns - done ≡ zero = omega arith in rw left at now
