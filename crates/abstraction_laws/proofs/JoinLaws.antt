-- Two atoms that are joined are a segment.
use Rattle.std.specs.Prelude.{◌≡◌, ℕ, zero, suc, ◌+◌, ℤ, Bool, true, false, ◌==◌, ◌&&◌, if◌then◌else◌, List, [], ◌∷◌, length, slice_get}
use Rattle.std.specs.Prelude.{slice_set, position}
use Rattle.std.specs.List.{remove}
use Rattle.std.specs.Str.{bytes_eq}
use Rattle.std.specs.Cmp.Lexicographic.{bytes_decides}
use Rattle.std.specs.declared.option.Option.{Option}
use Rattle.std.specs.declared.option.Option.TheVariants.{None, Some}
use Rattle.std.proofs.Common.{refl, ap, subst, ◌∙◌}
use Rattle.std.proofs.lemmas.Bool.{and_parts, eqb-false, eqb-true, ne_eqb}
use Rattle.shape_data.specs.declared.machine.Cell.{Cell}
use Rattle.shape_data.specs.declared.program.StructDef.{StructDef}
use Rattle.shape_data.specs.declared.symbolic.Atom.{Atom}
use Rattle.shape_data.specs.declared.symbolic.Atom.TheVariants.{Points, Seg, Junk}
use Rattle.shape_data.specs.declared.symbolic.Exp.{Exp}
use Rattle.shape_data.specs.Meaning.{HoldsAtoms}
use Rattle.sym_parts.proofs.ShapesLemmas.Atoms.{HoldsAtoms-remove}
use Rattle.sym_parts.specs.Laws.Expressions.{same_exp}
use Rattle.sym_parts.proofs.LawsLemmas.ExpressionLemmas.{same_exp-equal}
use Rattle.sym_parts.proofs.LawsLemmas.OrderLemmas.{HoldsAtoms-swap}
use Rattle.sym_parts.proofs.LawsLemmas.SegmentLemmas.{cell_is_segment, segments_join}
use Rattle.sym_pure.proofs.EmptyingLaws.{position-found}
use Rattle.abstraction_laws.specs.Joining.{IsJoin, Join, end_by, find_join, first_join, is_joint, join_at, join_first, join_from, join_into}
use Rattle.abstraction_laws.specs.Joining.{segment_by, segment_of, segment_to, start_of, start_of_some, with_join}

-- ---- what a join that was found is

module _ (may : ℕ → Bool) (atoms : List Atom) where
  module _ (i j : ℕ) (apart : (i == j) ≡ false) (first second : Atom) (first_is : slice_get atoms i ≡ Some first)
      (second_is : slice_get atoms j ≡ Some second) where
    into-is : (v : Exp) (o : Option Atom) (join : Join) → start_of second ≡ Some v → segment_of v first second ≡ o →
        join_into i j v o ≡ Some join → IsJoin atoms join
    into-is v None join starts makes h = cc
    into-is v (Some segment) join starts makes h =
        let same : record { first = i; second = j; middle = v; segment = segment } ≡ join = cc in
        rw (← same) (record {
          one = first;
          other = second;
          one_there = first_is;
          other_there = second_is;
          apart = apart;
          starts = starts;
          makes = makes;
        })

    joint-is : (v : Exp) (b : Bool) (join : Join) → start_of second ≡ Some v →
        (if b then join_into i j v (segment_of v first second) else None) ≡ Some join → IsJoin atoms join
    joint-is v true join starts h = into-is v (segment_of v first second) join starts refl h
    joint-is v false join starts h = cc

    started-is : (o : Option Exp) (join : Join) → start_of second ≡ o → join_from may atoms i j (Some first) (Some second) o ≡ Some join →
        IsJoin atoms join
    started-is None join starts h = cc
    started-is (Some v) join starts h = joint-is v (is_joint may atoms v) join starts h

  from-is : (i j : ℕ) → (i == j) ≡ false → (one other : Option Atom) (join : Join) → slice_get atoms i ≡ one → slice_get atoms j ≡ other →
      join_from may atoms i j one other (start_of_some other) ≡ Some join → IsJoin atoms join
  from-is i j apart None None join e f h = cc
  from-is i j apart None (Some second) join e f h = cc
  from-is i j apart (Some first) None join e f h = cc
  from-is i j apart (Some first) (Some second) join e f h = started-is i j apart first second e f (start_of second) join refl h

  at-is : (i j : ℕ) (join : Join) → join_at may atoms i j ≡ Some join → IsJoin atoms join
  at-is i j join h = by_test (i == j) refl
    where
      by_test : (b : Bool) → (i == j) ≡ b → IsJoin atoms join
      by_test true e = let bad : None ≡ Some join = rw e at h in cc
      by_test false e = let is : join_from may atoms i j (slice_get atoms i) (slice_get atoms j) (start_of_some (slice_get atoms j))
          ≡ Some join = rw e at h in from-is i j e (slice_get atoms i) (slice_get atoms j) join refl refl is

-- the first join that is found is one that is found somewhere
first-is : (P : Join → Type 0) (find : ℕ → Option Join) → ((place : ℕ) (join : Join) → find place ≡ Some join → P join) →
    (place count : ℕ) (join : Join) → first_join find place count ≡ Some join → P join
first-is P find each place zero join h = cc
first-is P find each place (suc count) join h = by_found (find place) refl (λ k. first-is P find each (place + 1) count join k)
  where
    by_found : (o : Option Join) → find place ≡ o → (first_join find (place + 1) count ≡ Some join → P join) → P join
    by_found None e go_on = let later : first_join find (place + 1) count ≡ Some join = rw e at h in go_on later
    by_found (Some other) e go_on = let here : Some other ≡ Some join = rw e at h in each place join (e ∙ here)

pub found-is : (may : ℕ → Bool) (atoms : List Atom) (join : Join) → find_join may atoms ≡ Some join → IsJoin atoms join
found-is may atoms join h =
    first-is (IsJoin atoms) (λ i. first_join (join_at may atoms i) 0 (length atoms))
    (λ i other k. first-is (IsJoin atoms) (join_at may atoms i) (at-is may atoms i) 0 (length atoms) other k) 0 (length atoms) join h

-- ---- two atoms that meet are a segment

module _ (structs : List StructDef) (t : ℕ → ℤ) (others : List Atom) where
  -- the second atom as a segment from the middle
  second-segment : (kind : List ℕ) (link : ℕ) (v to : Exp) (second : Atom) (heap : List Cell) → start_of second ≡ Some v →
      end_by kind link second ≡ Some to →
      HoldsAtoms structs t (second ∷ others) heap → HoldsAtoms structs t (Seg kind link v to ∷ others) heap
  second-segment kind link v to (Points at other fields) heap starts ends h = by_kind (bytes_eq other kind) refl
    where
      by_kind : (b : Bool) → bytes_eq other kind ≡ b → HoldsAtoms structs t (Seg kind link v to ∷ others) heap
      by_kind true e =
          let is : slice_get fields link ≡ Some to = rw e at ends in
          let same_kind : other ≡ kind = (bytes_decides other kind).0 e in
          let same_at : at ≡ v = cc in
          let told : HoldsAtoms structs t (Seg other link at to ∷ others) heap =
          cell_is_segment structs t at other fields link to others heap is h in
          rw (same_kind, same_at) at told
      by_kind false e = let bad : None ≡ Some to = rw e at ends in cc
  second-segment kind link v to (Seg other field from end) heap starts ends h = by_kind (bytes_eq other kind && field == link) refl
    where
      by_kind : (b : Bool) → (bytes_eq other kind && field == link) ≡ b → HoldsAtoms structs t (Seg kind link v to ∷ others) heap
      by_kind true e =
          let parts = and_parts (bytes_eq other kind) (field == link) e in
          let is : Some end ≡ Some to = rw e at ends in
          let same_end : end ≡ to = cc in
          let same_from : from ≡ v = cc in
          let same_kind : other ≡ kind = (bytes_decides other kind).0 parts.0 in
          let same_link : field ≡ link = eqb-true field link parts.1 in
          rw (← same_kind, ← same_link, ← same_from, ← same_end) h
      by_kind false e = let bad : None ≡ Some to = rw e at ends in cc
  second-segment kind link v to Junk heap starts ends h = cc

  -- the first as a segment to the middle, and the second
  to-segment : (kind : List ℕ) (link : ℕ) (from v : Exp) (second segment : Atom) (heap : List Cell) → start_of second ≡ Some v →
      (o : Option Exp) → end_by kind link second ≡ o → segment_to kind link from o ≡ Some segment →
      HoldsAtoms structs t (Seg kind link from v ∷ second ∷ others) heap → HoldsAtoms structs t (segment ∷ others) heap
  to-segment kind link from v second segment heap starts None ends makes h = cc
  to-segment kind link from v second segment heap starts (Some to) ends makes h =
      let same : Seg kind link from to ≡ segment = cc in
      let joined : HoldsAtoms structs t (Seg kind link from to ∷ others) heap =
      segments_join structs t kind link from v to others heap
      (h.0, h.1, h.2, h.3, second-segment kind link v to second h.1 starts ends h.4) in
      subst (λ atom. HoldsAtoms structs t (atom ∷ others) heap) same joined

  pub two-segment : (v : Exp) (first second segment : Atom) (heap : List Cell) → start_of second ≡ Some v →
      segment_of v first second ≡ Some segment → HoldsAtoms structs t (first ∷ second ∷ others) heap →
      HoldsAtoms structs t (segment ∷ others) heap
  two-segment v (Points at kind fields) second segment heap starts makes h = by_link (position (same_exp v) fields) refl makes
    where
      by_link : (o : Option ℕ) → position (same_exp v) fields ≡ o → segment_by kind at second o ≡ Some segment →
          HoldsAtoms structs t (segment ∷ others) heap
      by_link None e f = cc
      by_link (Some link) e f =
          let found = position-found (same_exp v) fields link e in
          let same : v ≡ found.0 = same_exp-equal v found.0 found.2 in
          let is : slice_get fields link ≡ Some v = rw same found.1 in
          to-segment kind link at v second segment heap starts (end_by kind link second) refl f
          (cell_is_segment structs t at kind fields link v (second ∷ others) heap is h)
  two-segment v (Seg kind link from to) second segment heap starts makes h = by_test (same_exp v to) refl
    where
      by_test : (b : Bool) → same_exp v to ≡ b → HoldsAtoms structs t (segment ∷ others) heap
      by_test true e =
          let f : segment_to kind link from (end_by kind link second) ≡ Some segment = rw e at makes in
          let same : v ≡ to = same_exp-equal v to e in
          to-segment kind link from v second segment heap starts (end_by kind link second) refl f (rw same h)
      by_test false e = let bad : None ≡ Some segment = rw e at makes in cc
  two-segment v Junk second segment heap starts makes h = cc

-- ---- in their places

-- an atom put in another's place
set-put : (structs : List StructDef) (t : ℕ → ℤ) (atoms : List Atom) (place : ℕ) (old new : Atom) {heap : List Cell} →
    slice_get atoms place ≡ Some old →
    HoldsAtoms structs t (new ∷ remove atoms place) heap → HoldsAtoms structs t (slice_set atoms place new) heap
set-put structs t [] place old new is h = cc
set-put structs t (first ∷ atoms) zero old new is h = h
set-put structs t (first ∷ atoms) (suc place) old new {heap} is h =
    let turned : HoldsAtoms structs t (first ∷ new ∷ remove atoms place) heap =
    HoldsAtoms-swap structs t new first (remove atoms place) heap h in
    (turned.0, turned.1, turned.2, turned.3, set-put structs t atoms place old new is turned.4)

-- what two atoms may become beside any others, they may become in their places
module _ (structs : List StructDef) (t : ℕ → ℤ) (one other new : Atom)
    (become : (others : List Atom) (heap : List Cell) → HoldsAtoms structs t (one ∷ other ∷ others) heap →
    HoldsAtoms structs t (new ∷ others) heap) where
  pub in-places : (atoms : List Atom) (i j : ℕ) (heap : List Cell) → (i == j) ≡ false → slice_get atoms i ≡ Some one →
      slice_get atoms j ≡ Some other → HoldsAtoms structs t atoms heap → HoldsAtoms structs t (remove (slice_set atoms i new) j) heap
  in-places [] i j heap apart is_one is_other h = cc
  in-places (first ∷ atoms) zero zero heap apart is_one is_other h = cc
  in-places (first ∷ atoms) zero (suc j) heap apart is_one is_other h =
      let same : first ≡ one = cc in
      let here : HoldsAtoms structs t (one ∷ atoms) heap = rw same at h in
      become (remove atoms j) heap (here.0, here.1, here.2, here.3, HoldsAtoms-remove structs t atoms j other is_other here.4)
  in-places (first ∷ atoms) (suc i) zero heap apart is_one is_other h =
      let same : first ≡ other = cc in
      let here : HoldsAtoms structs t (other ∷ atoms) heap = rw same at h in
      let both : HoldsAtoms structs t (other ∷ one ∷ remove atoms i) heap =
      (here.0, here.1, here.2, here.3, HoldsAtoms-remove structs t atoms i one is_one here.4) in
      set-put structs t atoms i one new is_one
      (become (remove atoms i) heap (HoldsAtoms-swap structs t other one (remove atoms i) heap both))
  in-places (first ∷ atoms) (suc i) (suc j) heap apart is_one is_other h =
      (h.0, h.1, h.2, h.3, in-places atoms i j h.1 (ne_eqb i j (λ same. eqb-false (suc i) (suc j) apart (ap suc same))) is_one is_other h.4)

pub join-holds : (structs : List StructDef) (t : ℕ → ℤ) (atoms : List Atom) (join : Join) (heap : List Cell) → IsJoin atoms join →
    HoldsAtoms structs t atoms heap → HoldsAtoms structs t (with_join atoms (Some join)) heap
join-holds structs t atoms join heap is h =
    in-places structs t is.one is.other join.segment
    (λ others own k. two-segment structs t others join.middle is.one is.other join.segment own is.starts is.makes k)
    atoms join.first join.second heap is.apart is.one_there is.other_there h

pub joined-holds : (structs : List StructDef) (t : ℕ → ℤ) (may : ℕ → Bool) (atoms : List Atom) (heap : List Cell) →
    HoldsAtoms structs t atoms heap → HoldsAtoms structs t (join_first may atoms) heap
joined-holds structs t may atoms heap h = by_found (find_join may atoms) refl
  where
    by_found : (o : Option Join) → find_join may atoms ≡ o → HoldsAtoms structs t (with_join atoms o) heap
    by_found None e = h
    by_found (Some join) e = join-holds structs t atoms join heap (found-is may atoms join e) h
