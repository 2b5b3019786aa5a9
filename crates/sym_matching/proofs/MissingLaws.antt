-- What is missing grows, stays logical, and does not grow in subtraction: of all wanted atoms, whether they fit their
-- structures or not.
use Rattle.std.specs.Prelude.{◌≡◌, ℕ, zero, suc, Bool, true, false, not, ◌&&◌, if◌then◌else◌, List, [], ◌∷◌, ◌++◌, length, map, position}
use Rattle.std.specs.Prelude.{slice_get}
use Rattle.std.specs.List.{list_all, list_any, remove}
use Rattle.std.specs.Str.{bytes_eq}
use Rattle.std.specs.declared.option.Option.{Option}
use Rattle.std.specs.declared.option.Option.TheVariants.{None, Some}
use Rattle.std.proofs.Common.{refl, ap, ◌∙◌}
use Rattle.std.proofs.lemmas.Bool.{and_parts}
use Rattle.shape_data.specs.declared.symbolic.Atom.{Atom}
use Rattle.shape_data.specs.declared.symbolic.Atom.TheVariants.{Points, Seg, Junk}
use Rattle.shape_data.specs.declared.symbolic.Exp.{Exp}
use Rattle.shape_data.specs.declared.symbolic.Exp.TheVariants.{Var, Const}
use Rattle.shape_data.specs.declared.symbolic.Fact.TheVariants.{Ne}
use Rattle.shape_data.specs.declared.symbolic.SymHeap.{SymHeap}
use Rattle.sym_parts.specs.Laws.Expressions.{same_exp}
use Rattle.sym_canon.specs.Placing.{is_cell_at}
use Rattle.sym_matching.specs.declared.matching.Matching.{Matching}
use Rattle.sym_matching.specs.declared.matching.Mode.{Mode}
use Rattle.sym_matching.specs.declared.matching.Mode.TheVariants.{Subtract, Abduce}
use Rattle.sym_matching.specs.declared.matching.Turned.{Turned}
use Rattle.sym_matching.specs.declared.matching.Turned.TheVariants.{On, Stuck}
use Rattle.sym_matching.specs.declared.matching.Wanted.{Wanted}
use Rattle.sym_matching.specs.Laws.{MissingIsLogical, SubtractMissesNothing}
use Rattle.sym_matching.specs.Matches.{argument_variables, rules_of, start_of, want_heap, want_spatial}
use Rattle.sym_matching.specs.NewVariables.{fresh_variables}
use Rattle.sym_matching.specs.Reading.{is_logical, is_logical_variable, is_unbound, read}
use Rattle.sym_matching.specs.Steps.{Rules, and_then, bind, bind_new, miss_fact, take_atom, unfold_at, unless_contradiction, whole}
use Rattle.sym_matching.specs.Steps.{with_missing_atom, with_missing_fact}
use Rattle.sym_matching.specs.WantedAtoms.{first_number, next_place, want_at, want_atom, want_atoms, want_one, wanted_from}
use Rattle.sym_matching.specs.WantedCells.{cell_place, is_atom_from, is_to_part, is_to_unfold, miss_cell, miss_named, miss_read, name_field}
use Rattle.sym_matching.specs.WantedCells.{name_fields, part_at, place_to_part, take_cell, take_fields, take_parted, take_unfolded}
use Rattle.sym_matching.specs.WantedCells.{unfold_place}
use Rattle.sym_matching.specs.WantedFacts.{want_all_owed, want_facts}
use Rattle.sym_matching.specs.WantedSegments.{reach, walk}
use Rattle.sym_matching.proofs.CellLaws.{all_of, found_at, variable_logical}
use Rattle.sym_matching.proofs.FactLaws.{want_all_owed-settles, want_facts-settles}
use Rattle.sym_matching.proofs.MatchLaws.{emp_logical}
use Rattle.sym_matching.proofs.RoomSteps.{on_then}
use Rattle.sym_matching.proofs.SegmentLaws.{reach-step, walk-step}
use Rattle.sym_matching.proofs.SettleLaws.{Settles-miss, unless-on}
use Rattle.sym_matching.proofs.StandLaws.{Misses, Misses-refl, Misses-trans, Passes-fields}
use Rattle.sym_matching.proofs.StepLaws.{Step-miss_atom}

-- what is missing after one stage and another
abbrev Missed : Rules → Matching → Matching → Type 0
Missed rules m n = Misses rules.mode m.missing n.missing

same-missed : (rules : Rules) (m n : Matching) → n.missing ≡ m.missing → Missed rules m n
same-missed rules m n same = rw same (Misses-refl rules.mode m.missing)

bind-missing : (m : Matching) (e f : Exp) → (bind m e f).missing ≡ m.missing
bind-missing m (Var x) f = refl
bind-missing m (Const n) f = refl

-- ---- a wanted cell

module _ (rules : Rules) (number : ℕ) where
  name_field-missing : (want : Exp) (m : Matching) → (name_field rules want m).missing ≡ m.missing
  name_field-missing want m = by_test (is_unbound rules.flexible m.binding want)
    where
      by_test : (b : Bool) → (if b then bind_new m want else m).missing ≡ m.missing
      by_test true = bind-missing m want (Var m.next)
      by_test false = refl

  name_fields-missing : (wants : List Exp) (m : Matching) → (name_fields rules wants m).missing ≡ m.missing
  name_fields-missing [] m = refl
  name_fields-missing (want ∷ wants) m = name_fields-missing wants (name_field rules want m) ∙ name_field-missing want m

  fields-missing : (wants haves : List Exp) (m : Matching) → (take_fields rules number wants haves m).missing ≡ m.missing
  fields-missing wants haves m = (Passes-fields rules number wants haves m).missing

  module _ (kind : List ℕ) (wants : List Exp) (e : Exp) where
    read-missed : (m n : Matching) (fields : List Exp) → rules.mode ≡ Abduce → is_logical_variable e ≡ true
        → miss_read rules number kind e fields m ≡ On n → Missed rules m n
    read-missed m n fields mode low h = by_test (list_all is_logical fields) refl
      where
        by_test : (b : Bool) → list_all is_logical fields ≡ b → Missed rules m n
        by_test true f =
            let on : unless_contradiction rules number (with_missing_atom m (Points e kind fields)) ≡ On n = rw f at h in
            let is_n : n ≡ with_missing_atom m (Points e kind fields) =
            unless-on rules number (with_missing_atom m (Points e kind fields)) n on in
            rw is_n (Step-miss_atom [] rules m (Points e kind fields) mode (variable_logical e low, all_of is_logical fields f)).misses
        by_test false f = let bad : Stuck number ≡ On n = rw f at h in cc

    cell-missed : (m n : Matching) (mode : Mode) → rules.mode ≡ mode → miss_cell rules number kind wants e m mode ≡ On n → Missed rules m n
    cell-missed m n Subtract mode h = cc
    cell-missed m n Abduce mode h = by_test (is_logical_variable e && not (list_any (is_atom_from e) m.left)) refl
      where
        by_test : (b : Bool) → (is_logical_variable e && not (list_any (is_atom_from e) m.left)) ≡ b → Missed rules m n
        by_test true f =
            let k : Matching = name_fields rules wants m in
            let named : miss_named rules number kind wants e k ≡ On n = rw f at h in
            let low : is_logical_variable e ≡ true = (and_parts (is_logical_variable e) (not (list_any (is_atom_from e) m.left)) f).0 in
            Misses-trans rules.mode m.missing k.missing n.missing (same-missed rules m k (name_fields-missing wants m))
            (read-missed k n (map (read rules.facts k.binding) wants) mode low named)
        by_test false f = let bad : Stuck number ≡ On n = rw f at h in cc

    unfolded-missing : (m n : Matching) (place : ℕ) (o : Option Atom) → take_unfolded rules number wants m place o ≡ On n
        → n.missing ≡ m.missing
    unfolded-missing m n place None h = cc
    unfolded-missing m n place (Some (Points at kind' haves)) h = cc
    unfolded-missing m n place (Some (Seg kind' link from to)) h =
        let xs : List ℕ = fresh_variables (length wants) m.used in
        let is_n : n ≡ take_fields rules number wants (map Var xs) (unfold_at m place kind' link from to xs) = cc in
        ap (λ (j : Matching). j.missing) is_n ∙ fields-missing wants (map Var xs) (unfold_at m place kind' link from to xs)
    unfolded-missing m n place (Some Junk) h = cc

    parted-missed : (m n : Matching) (place : ℕ) (o : Option Atom) → rules.mode ≡ Abduce
        → ((atom : Atom) → o ≡ Some atom → is_to_part e kind atom ≡ true) → take_parted rules number wants m place o ≡ On n
        → Missed rules m n
    parted-missed m n place None mode test h = cc
    parted-missed m n place (Some (Points at kind' haves)) mode test h = cc
    parted-missed m n place (Some (Seg kind' link from to)) mode test h = by_turn (miss_fact rules number (Ne from to) m) refl h
      where
        by_turn : (r : Turned) → miss_fact rules number (Ne from to) m ≡ r
            → and_then (λ k. take_unfolded rules number wants k place (Some (Seg kind' link from to))) r ≡ On n → Missed rules m n
        by_turn (Stuck other) f g = cc
        by_turn (On k) f g =
            let tests =
            and_parts (same_exp e from && bytes_eq kind' kind && is_logical from) (is_logical to) (test (Seg kind' link from to) refl) in
            let more = and_parts (same_exp e from && bytes_eq kind' kind) (is_logical from) tests.0 in
            let is_k : k ≡ with_missing_fact m (Ne from to) = unless-on rules number (with_missing_fact m (Ne from to)) k f in
            let one : Missed rules m k = rw is_k (Settles-miss [] rules m (Ne from to) mode (more.1, tests.1)).misses in
            Misses-trans rules.mode m.missing k.missing n.missing one
            (same-missed rules k n (unfolded-missing k n place (Some (Seg kind' link from to)) g))
    parted-missed m n place (Some Junk) mode test h = cc

    part_at-missed : (m n : Matching) (mode : Mode) (p : Option ℕ) → rules.mode ≡ mode → place_to_part mode e kind m.left ≡ p
        → part_at rules number kind wants e m p ≡ On n → Missed rules m n
    part_at-missed m n mode None is_mode is h = cell-missed m n rules.mode refl h
    part_at-missed m n Subtract (Some place) is_mode is h = cc
    part_at-missed m n Abduce (Some place) is_mode is h =
        parted-missed m n place (slice_get m.left place) is_mode
        (found_at (is_to_part e kind) m.left place (slice_get m.left place) is refl) h

    unfold_place-missed : (m n : Matching) (p : Option ℕ) → unfold_place rules number kind wants e m p ≡ On n → Missed rules m n
    unfold_place-missed m n None h = part_at-missed m n rules.mode (place_to_part rules.mode e kind m.left) refl refl h
    unfold_place-missed m n (Some place) h = same-missed rules m n (unfolded-missing m n place (slice_get m.left place) h)

    take_cell-missing : (m n : Matching) (place : ℕ) (o : Option Atom) → take_cell rules number kind wants m place o ≡ On n
        → n.missing ≡ m.missing
    take_cell-missing m n place None h = cc
    take_cell-missing m n place (Some (Points at kind' haves)) h =
        let next : Matching = take_atom m place (Points at kind' haves) in
        let taken : On (take_fields rules number wants haves next) ≡ On n =
        on_then (bytes_eq kind' kind) (On (take_fields rules number wants haves next)) number n h in
        let is_n : n ≡ take_fields rules number wants haves next = cc in
        ap (λ (j : Matching). j.missing) is_n ∙ fields-missing wants haves next
    take_cell-missing m n place (Some (Seg kind' link from to)) h = cc
    take_cell-missing m n place (Some Junk) h = cc

    cell_place-missed : (m n : Matching) (p : Option ℕ) → cell_place rules number kind wants e m p ≡ On n → Missed rules m n
    cell_place-missed m n None h = unfold_place-missed m n (position (is_to_unfold (whole rules m) e kind) m.left) h
    cell_place-missed m n (Some place) h = same-missed rules m n (take_cell-missing m n place (slice_get m.left place) h)

-- ---- all wanted atoms

atom-missed : (rules : Rules) (number : ℕ) (atom : Atom) (m n : Matching) → want_atom rules number atom m ≡ On n → Missed rules m n
atom-missed rules number (Points at kind fields) m n h =
    cell_place-missed rules number kind fields (read rules.facts m.binding at) m n
    (position (is_cell_at (read rules.facts m.binding at)) m.left) h
atom-missed rules number (Seg kind link from to) m n h = by_end (is_unbound rules.flexible m.binding to) refl
  where
    by_end : (b : Bool) → is_unbound rules.flexible m.binding to ≡ b → Missed rules m n
    by_end true f =
        let is_on : reach rules number kind link to (read rules.facts m.binding from) m ≡ On n = rw f at h in
        (reach-step [] rules number kind link to (read rules.facts m.binding from) m n f is_on).misses
    by_end false f =
        let is_on : walk (length m.left) rules number kind link (read rules.facts m.binding to) (read rules.facts m.binding from) m ≡ On n =
        rw f at h in
        (walk-step [] rules number kind link (read rules.facts m.binding to) (length m.left)
        (read rules.facts m.binding from) m n is_on).misses
atom-missed rules number Junk m n h = let is_n : n ≡ m = cc in same-missed rules m n (ap (λ (j : Matching). j.missing) is_n)

module _ (rules : Rules) (turns : ℕ) (wanted : List Wanted) (m n : Matching)
    (go_on : (others : List Wanted) (k : Matching) → want_atoms turns rules others k ≡ On n → Missed rules k n) where
  one-missed : (place : ℕ) (w : Wanted) (r : Turned) → want_atom rules w.number w.atom m ≡ r
      → and_then (want_atoms turns rules (remove wanted place)) r ≡ On n → Missed rules m n
  one-missed place w (Stuck number) f g = cc
  one-missed place w (On k) f g =
      Misses-trans rules.mode m.missing k.missing n.missing (atom-missed rules w.number w.atom m k f) (go_on (remove wanted place) k g)

  wanted-missed : (place : ℕ) (o : Option Wanted)
      → want_one rules m (want_atoms turns rules (remove wanted place)) (first_number wanted) o ≡ On n → Missed rules m n
  wanted-missed place None g = cc
  wanted-missed place (Some w) g = one-missed place w (want_atom rules w.number w.atom m) refl g

  at-missed : (p : Option ℕ) → want_at rules m wanted (want_atoms turns rules) p ≡ On n → Missed rules m n
  at-missed None g = cc
  at-missed (Some place) g = wanted-missed place (slice_get wanted place) g

atoms-missed : (rules : Rules) (turns : ℕ) (wanted : List Wanted) (m n : Matching) → want_atoms turns rules wanted m ≡ On n
    → Missed rules m n
atoms-missed rules zero wanted m n h = let is_n : n ≡ m = cc in same-missed rules m n (ap (λ (j : Matching). j.missing) is_n)
atoms-missed rules (suc turns) wanted m n h =
    at-missed rules turns wanted m n (λ others k g. atoms-missed rules turns others k n g) (next_place rules m wanted) h

-- ---- all wanted parts

heap-missed : (rules : Rules) (b : SymHeap) (m n : Matching) → want_heap rules b m ≡ On n → Missed rules m n
heap-missed rules b m n h = after_atoms (want_spatial rules b m) refl h
  where
    after_owed : (k : Matching) (r : Turned) → Missed rules m k → want_all_owed rules k.owed k ≡ r
        → and_then (want_facts rules (length b.spatial) b.pure) r ≡ On n → Missed rules m n
    after_owed k (On l) one e f =
        Misses-trans rules.mode m.missing l.missing n.missing
        (Misses-trans rules.mode m.missing k.missing l.missing one (want_all_owed-settles [] rules k.owed k l e).misses)
        (want_facts-settles [] rules (length b.spatial) b.pure l n f).misses
    after_owed k (Stuck number) one e f = cc

    after_atoms : (r : Turned) → want_spatial rules b m ≡ r
        → and_then (want_facts rules (length b.spatial) b.pure) (and_then (λ k. want_all_owed rules k.owed k) r) ≡ On n → Missed rules m n
    after_atoms (On k) e f =
        after_owed k (want_all_owed rules k.owed k)
        (atoms-missed rules (length (wanted_from 0 b.spatial)) (wanted_from 0 b.spatial) m k e) refl f
    after_atoms (Stuck number) e f = cc

pub subtract_misses_nothing : SubtractMissesNothing
subtract_misses_nothing a b bound flexible avoid next n h =
    (heap-missed (rules_of Subtract a flexible) b (start_of a bound (argument_variables a b bound flexible ++ avoid) next) n h).nothing refl

pub missing_is_logical : MissingIsLogical
missing_is_logical mode a b bound flexible avoid next n h =
    (heap-missed (rules_of mode a flexible) b
    (start_of a bound (argument_variables a b bound flexible ++ avoid) next) n h).logical emp_logical
