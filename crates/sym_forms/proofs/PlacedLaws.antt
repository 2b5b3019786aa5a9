-- The placed atoms of a normal heap are normal: placing changes no count, and being normal depends on counts alone.
use Rattle.std.specs.Prelude.{◌≡◌, ℕ, zero, suc, ◌+◌, ◌<◌, ◌≤◌, pos, Bool, true, false, not, ◌&&◌, ◌||◌, if◌then◌else◌, leb, List, [], ◌∷◌}
use Rattle.std.specs.Prelude.{◌++◌, length, filter, drop, position, slice_index_or}
use Rattle.std.specs.List.{filter_map, list_all, list_any}
use Rattle.std.specs.declared.option.Option.{Option}
use Rattle.std.specs.declared.option.Option.TheVariants.{None, Some}
use Rattle.std.proofs.Common.{refl, sym, ap, ap₂, ◌∙◌, arith}
use Rattle.std.proofs.lemmas.Bool.{le-leb, leb-false, leb-true, lt-leb}
use Rattle.shape_data.specs.declared.symbolic.Atom.{Atom}
use Rattle.shape_data.specs.declared.symbolic.Atom.TheVariants.{Points, Seg, Junk}
use Rattle.shape_data.specs.declared.symbolic.Exp.{Exp}
use Rattle.shape_data.specs.declared.symbolic.Exp.TheVariants.{Const}
use Rattle.shape_data.specs.declared.symbolic.Fact.{Fact}
use Rattle.shape_data.specs.declared.symbolic.Fact.TheVariants.{Eq, Ne}
use Rattle.shape_data.specs.declared.symbolic.SymHeap.{SymHeap}
use Rattle.sym_parts.specs.Laws.Addresses.{address_of, addresses}
use Rattle.sym_parts.specs.Laws.Expressions.{has_double, is_among, same_exp}
use Rattle.sym_parts.specs.Laws.Junks.{is_junk, is_other}
use Rattle.sym_pure.specs.Contradictions.{has_clash, has_same_sides}
use Rattle.sym_pure.specs.Emptying.{is_empty, is_plain}
use Rattle.sym_pure.specs.IsNormal.{are_in_order, are_normal_atoms, are_normal_facts, has_redundant, has_two_junk, is_normal_heap}
use Rattle.sym_pure.specs.IsNormal.{is_read_atom, is_read_fact}
use Rattle.sym_pure.specs.Redundancy.{are_constants, is_redundant}
use Rattle.sym_pure.specs.Sources.{is_written, source_of, sources}
use Rattle.sym_canon.specs.Placing.{exps_of, all_lead_to, is_placed, places_some, place_by, place_first, place_at, place, params_from}
use Rattle.sym_canon.specs.Placing.{placed}
use Rattle.sym_forms.proofs.CountLaws.{SameCounts, alike, all-same, any-alike, any-count, any-same, any-stands, AreSingle, count}
use Rattle.sym_forms.proofs.CountLaws.{count-append, count-parted, count-stands, holds, single-from, single-to}

-- ---- placing changes no count

module _ (test : Atom → Bool) where
  by-counts : (again : List Exp → List Atom → List Atom) →
      ((queue : List Exp) (left : List Atom) → count test (again queue left) ≡ count test left) →
      (queue : List Exp) (left : List Atom) (e : Exp) →
      count test (place_by again queue left e) ≡ count test left
  by-counts again each queue left e =
      count-append test now (again (queue ++ all_lead_to now) others)
      ∙ (ap (λ n. count test now + n) (each (queue ++ all_lead_to now) others) ∙ count-parted test (is_placed left e) left)
    where
      now : List Atom
      now = filter (is_placed left e) left

      others : List Atom
      others = filter (λ atom. not (is_placed left e atom)) left

  first-counts : (again : List Exp → List Atom → List Atom) →
      ((queue : List Exp) (left : List Atom) → count test (again queue left) ≡ count test left) → (left : List Atom) →
      count test (place_first again left) ≡ count test left
  first-counts again each [] = each [] []
  first-counts again each (first ∷ rest) = ap (λ n. if test first then suc n else n) (each (exps_of first) rest)

  at-counts : (again : List Exp → List Atom → List Atom) →
      ((queue : List Exp) (left : List Atom) → count test (again queue left) ≡ count test left) →
      (queue : List Exp) (left : List Atom) (o : Option ℕ) →
      count test (place_at again queue left o) ≡ count test left
  at-counts again each queue left None = first-counts again each left
  at-counts again each queue left (Some k) = by-counts again each (drop (k + 1) queue) left (slice_index_or queue k (Const (pos 0)))

  place-counts : (turns : ℕ) (queue : List Exp) (left : List Atom) → count test (place turns queue left) ≡ count test left
  place-counts zero queue left = refl
  place-counts (suc turns) queue left =
      at-counts (λ later others. place turns later others) (λ later others. place-counts turns later others) queue left
      (position (places_some left) queue)

-- Junk is what fails the test of the others
junk-others : (atoms : List Atom) → filter (λ atom. not (is_other atom)) atoms ≡ filter is_junk atoms
junk-others [] = refl
junk-others (Points at kind fields ∷ atoms) = junk-others atoms
junk-others (Seg kind link from to ∷ atoms) = junk-others atoms
junk-others (Junk ∷ atoms) = ap (λ rest. Junk ∷ rest) (junk-others atoms)

pub placed-counts : (params : ℕ) (locals : List Exp) (atoms : List Atom) → SameCounts (placed params locals atoms) atoms
placed-counts params locals atoms = λ test.
    count-append test (place (length (filter is_other atoms)) (params_from 0 params ++ locals) (filter is_other atoms))
    (filter is_junk atoms)
    ∙ (ap (λ n. n + count test (filter is_junk atoms))
    (place-counts test (length (filter is_other atoms)) (params_from 0 params ++ locals) (filter is_other atoms))
    ∙ (ap (λ rest. count test (filter is_other atoms) + count test rest) (sym (junk-others atoms)) ∙ count-parted test is_other atoms))

-- ---- being normal depends on counts of atoms

two-count : (atoms : List Atom) → has_two_junk atoms ≡ leb 2 (count is_junk atoms)
two-count [] = refl
two-count (Points at kind fields ∷ atoms) = two-count atoms
two-count (Seg kind link from to ∷ atoms) = two-count atoms
two-count (Junk ∷ atoms) = by_any (list_any is_junk atoms) refl (two-count atoms)
  where
    by_any : (b : Bool) → list_any is_junk atoms ≡ b → has_two_junk atoms ≡ leb 2 (count is_junk atoms) →
        (list_any is_junk atoms || has_two_junk atoms) ≡ leb 2 (suc (count is_junk atoms))
    by_any true e k =
        let one : leb 1 (count is_junk atoms) ≡ true = sym (any-count is_junk atoms) ∙ e in
        let some : 1 ≤ count is_junk atoms = leb-true 1 (count is_junk atoms) one in
        rw e (sym (le-leb 2 (suc (count is_junk atoms)) (omega (arith, some))))
    by_any false e k =
        let none : leb 1 (count is_junk atoms) ≡ false = sym (any-count is_junk atoms) ∙ e in
        let few : count is_junk atoms < 1 = leb-false 1 (count is_junk atoms) none in
        rw e (k ∙ (lt-leb 2 (count is_junk atoms) (omega (arith, few)) ∙ sym (lt-leb 2 (suc (count is_junk atoms)) (omega (arith, few)))))

module _ (xs ys : List Atom) (same : SameCounts xs ys) where
  pub stands-same : (stands : Atom → Option Exp) (e : Exp) → is_among e (filter_map stands xs) ≡ is_among e (filter_map stands ys)
  stands-same stands e = any-stands stands e xs ∙ any-same xs ys same (λ atom. holds e (stands atom)) ∙ sym (any-stands stands e ys)

  plain-same : (e : Exp) → is_plain (addresses xs) e ≡ is_plain (addresses ys) e
  plain-same e = ap (λ b. same_exp e (Const (pos 0)) || b) (stands-same address_of e)

  redundant-same : (kept : List Fact) (left right : Exp) →
      is_redundant (addresses xs) kept left right ≡ is_redundant (addresses ys) kept left right
  redundant-same kept left right =
      ap₂ (λ b d. are_constants left right || ((b && d) || is_written kept left right)) (plain-same left) (plain-same right)

  pub has_redundant-same : (facts : List Fact) → has_redundant (addresses xs) facts ≡ has_redundant (addresses ys) facts
  has_redundant-same [] = refl
  has_redundant-same (Eq left right ∷ facts) = has_redundant-same facts
  has_redundant-same (Ne left right ∷ facts) = ap₂ (λ b d. b || d) (redundant-same facts left right) (has_redundant-same facts)

  empty-same : (atom : Atom) → is_empty [] (addresses xs) atom ≡ is_empty [] (addresses ys) atom
  empty-same (Points at kind fields) = refl
  empty-same (Seg kind link from to) = plain-same from
  empty-same Junk = refl

  pub has_empty-same : list_any (is_empty [] (addresses xs)) xs ≡ list_any (is_empty [] (addresses ys)) ys
  has_empty-same = any-alike (is_empty [] (addresses xs)) (is_empty [] (addresses ys)) empty-same xs
      ∙ any-same xs ys same (is_empty [] (addresses ys))

  pub two_junk-same : has_two_junk xs ≡ has_two_junk ys
  two_junk-same = two-count xs ∙ ap (leb 2) (same is_junk) ∙ sym (two-count ys)

  single-same : (facts : List Fact) → AreSingle (sources facts xs) → AreSingle (sources facts ys)
  single-same facts h e =
      let counts : count (same_exp e) (sources facts xs) ≡ count (same_exp e) (sources facts ys) =
      count-stands (source_of facts) e xs ∙ same (λ atom. holds e (source_of facts atom)) ∙ sym (count-stands (source_of facts) e ys) in
      rw (← counts) (h e)

-- sources clash alike
pub clash-same : (xs ys : List Atom) → SameCounts xs ys → (facts : List Fact) → has_clash facts xs ≡ has_clash facts ys
clash-same xs ys same facts =
    ap₂ (λ b d. has_same_sides facts || (b || d)) (stands-same xs ys same (source_of facts) (Const (pos 0)))
    (alike (has_double (sources facts xs)) (has_double (sources facts ys))
    (λ none. single-to (sources facts ys) (single-same xs ys same facts (single-from (sources facts xs) none)))
    (λ none. single-to (sources facts xs) (single-same ys xs (λ test. sym (same test)) facts (single-from (sources facts ys) none))))

-- a heap with other atoms
abbrev pub with_spatial : SymHeap → List Atom → SymHeap
with_spatial heap atoms = record { pure = heap.pure; spatial = atoms }

pub heap-same : (heap : SymHeap) (atoms : List Atom) → SameCounts atoms heap.spatial →
    is_normal_heap (with_spatial heap atoms) ≡ is_normal_heap heap
heap-same heap atoms same =
    ap₂ (λ b d. b && d)
    (ap₂ (λ b d. b && d) facts spatial) (ap not (clash-same atoms heap.spatial same heap.pure))
  where
    facts : are_normal_facts (with_spatial heap atoms) ≡ are_normal_facts heap
    facts =
        ap (λ b. are_in_order 0 heap.pure && list_all (is_read_fact heap.pure) heap.pure && not b)
        (has_redundant-same atoms heap.spatial same heap.pure)

    spatial : are_normal_atoms (with_spatial heap atoms) ≡ are_normal_atoms heap
    spatial =
        ap₂ (λ b d. b && not d)
        (ap₂ (λ b d. b && not d) (all-same atoms heap.spatial same (is_read_atom heap.pure)) (has_empty-same atoms heap.spatial same))
        (two_junk-same atoms heap.spatial same)
