-- A turn of the walk along a segment.
use Rattle.std.proofs.Common.{◌≡◌, ◌∙◌, ℕ, zero, suc, ◌+◌, ◌-◌, ◌<◌, ◌≤◌, true, false, List, Some, None, refl, sym, ap, slice_get, length}
use Rattle.std.proofs.Common.{arith}
use Rattle.shape_data.specs.declared.symbolic.Exp.{Exp}
use Rattle.sym_parts.specs.Laws.Expressions.{same_exp}
use Rattle.sym_matching.specs.declared.matching.Matching.{Matching}
use Rattle.sym_matching.specs.declared.matching.Turned.{Turned}
use Rattle.sym_matching.specs.declared.matching.Turned.TheVariants.{On}
use Rattle.sym_matching.specs.Reading.{is_unbound, read}
use Rattle.sym_matching.specs.Steps.{Rules, bind}
use Rattle.sym_matching.specs.WantedSegments.{bind_end, miss_segment, piece, reach, take_piece, walk, want_segment}

module _ (rules : Rules) (turns done number : ℕ) (kind : List ℕ) (link : ℕ) (to e : Exp) (m : Matching) (inside : done < turns) where
  turn_left : turns - done ≡ suc (turns - (done + 1))
  turn_left = omega arith

  pub walk_arrives : same_exp e to ≡ true → walk (turns - done) rules number kind link to e m ≡ On m
  walk_arrives is = rw (turn_left, is) refl

  pub walk_stops : same_exp e to ≡ false → None ≡ piece kind link e m.left →
      walk (turns - done) rules number kind link to e m ≡ miss_segment rules number kind link to e m rules.mode
  walk_stops apart none = rw (turn_left, apart, ← none) refl

  pub walk_goes : (place : ℕ) (next : Exp) (n : Matching) → same_exp e to ≡ false → Some place ≡ piece kind link e m.left →
      ((number : ℕ) (go_on : Exp → Matching → Turned) → take_piece number link m go_on place (slice_get m.left place) ≡ go_on next n) →
      walk (turns - done) rules number kind link to e m ≡ walk (turns - (done + 1)) rules number kind link to next n
  walk_goes place next n apart some taken =
      rw (turn_left, apart, ← some) (taken number (walk (turns - (done + 1)) rules number kind link to))

module _ (rules : Rules) (turns done number : ℕ) (kind : List ℕ) (link : ℕ) (to e : Exp) (m : Matching) (past : turns ≤ done) where
  none_left : turns - done ≡ zero
  none_left = omega arith

  pub walk_ends : same_exp e to ≡ true → walk (turns - done) rules number kind link to e m ≡ On m
  walk_ends is = rw (none_left, is) refl

  pub walk_is_missing : same_exp e to ≡ false →
      walk (turns - done) rules number kind link to e m ≡ miss_segment rules number kind link to e m rules.mode
  walk_is_missing apart = rw (none_left, apart) refl

-- an end that is unbound: one piece is taken, or none
pub reach_goes : (rules : Rules) (number : ℕ) (kind : List ℕ) (link : ℕ) (to e next : Exp) (m n last : Matching) (place : ℕ) →
    Some place ≡ piece kind link e m.left →
    ((number : ℕ) (go_on : Exp → Matching → Turned) → take_piece number link m go_on place (slice_get m.left place) ≡ go_on next n) →
    last ≡ bind n to next →
    On last ≡ reach rules number kind link to e m
reach_goes rules number kind link to e next m n last place some taken is =
    rw (← some) (ap On is ∙ sym (taken number (λ f k. On (bind k to f))))

pub reach_ends : (rules : Rules) (number : ℕ) (kind : List ℕ) (link : ℕ) (to e : Exp) (m : Matching) → None ≡ piece kind link e m.left →
    bind_end rules number kind link to e m rules.mode ≡ reach rules number kind link to e m
reach_ends rules number kind link to e m none = rw (← none) refl

-- the two cases of a wanted segment
pub segment_reaches : (rules : Rules) (number : ℕ) (kind : List ℕ) (link : ℕ) (e to : Exp) (m : Matching) →
    is_unbound rules.flexible m.binding to ≡ true → reach rules number kind link to e m ≡ want_segment rules number kind link e to m
segment_reaches rules number kind link e to m is = rw is refl

pub segment_walks : (rules : Rules) (number : ℕ) (kind : List ℕ) (link : ℕ) (e to end : Exp) (m : Matching) →
    is_unbound rules.flexible m.binding to ≡ false → end ≡ read rules.facts m.binding to →
    walk (length m.left) rules number kind link end e m ≡ want_segment rules number kind link e to m
segment_walks rules number kind link e to end m is read_is = rw (is, read_is) refl
