-- A wanted cell.
use Rattle.std.specs.Prelude.{◌≡◌, ℕ, ℤ, Bool, true, false, not, ◌&&◌, List, [], ◌∷◌, length, map, All, position, slice_get}
use Rattle.std.proofs.Common.{refl, sym, ap₂, subst, ◌∙◌, get_or}
use Rattle.std.specs.List.{list_all, list_any}
use Rattle.std.specs.Str.{bytes_eq}
use Rattle.std.specs.Cmp.Lexicographic.{bytes_decides}
use Rattle.std.specs.declared.option.Option.{Option}
use Rattle.std.specs.declared.option.Option.TheVariants.{None, Some}
use Rattle.std.proofs.lemmas.Bool.{and_parts}
use Rattle.std.proofs.lemmas.List.{length-map}
use Rattle.std.proofs.lemmas.List.Elements.{All-nil, All-cons, All-head, All-tail}
use Rattle.std.proofs.lemmas.List.Quantifiers.{position-Some}
use Rattle.std.proofs.lemmas.Option.{slice_get-get_or}
use Rattle.shape_data.specs.declared.machine.Cell.{Cell}
use Rattle.shape_data.specs.declared.program.StructDef.{StructDef}
use Rattle.shape_data.specs.declared.symbolic.Atom.{Atom}
use Rattle.shape_data.specs.declared.symbolic.Atom.TheVariants.{Points, Seg, Junk}
use Rattle.shape_data.specs.declared.symbolic.Exp.{Exp}
use Rattle.shape_data.specs.declared.symbolic.Exp.TheVariants.{Var, Const}
use Rattle.shape_data.specs.declared.symbolic.Fact.TheVariants.{Ne}
use Rattle.shape_data.specs.Heap.{IsHeap}
use Rattle.shape_data.specs.Meaning.{value, AreTrueFacts, HoldsAtom}
use Rattle.sym_parts.specs.Laws.Expressions.{same_exp}
use Rattle.sym_parts.proofs.LawsLemmas.ExpressionLemmas.{same_exp-equal}
use Rattle.sym_canon.specs.Placing.{is_cell_at}
use Rattle.sym_pure.specs.Sources.{differs}
use Rattle.sym_matching.specs.declared.matching.Matching.{Matching}
use Rattle.sym_matching.specs.declared.matching.Mode.{Mode}
use Rattle.sym_matching.specs.declared.matching.Mode.TheVariants.{Subtract, Abduce}
use Rattle.sym_matching.specs.declared.matching.Turned.{Turned}
use Rattle.sym_matching.specs.declared.matching.Turned.TheVariants.{On, Stuck}
use Rattle.sym_matching.specs.Laws.{FitsKind, Keeps}
use Rattle.sym_matching.specs.NewVariables.{fresh_variables}
use Rattle.sym_matching.specs.Reading.{read, is_unbound, is_logical, is_logical_variable, through}
use Rattle.sym_matching.specs.Steps.{Rules, whole, take_atom, unfold_at, and_then, bind_new, miss_fact, unless_contradiction}
use Rattle.sym_matching.specs.Steps.{with_missing_atom, with_missing_fact}
use Rattle.sym_matching.specs.WantedCells.{take_fields, is_atom_from, name_field, name_fields, miss_read, miss_named, miss_cell}
use Rattle.sym_matching.specs.WantedCells.{take_unfolded, is_to_unfold, is_to_part, take_parted, part_at, place_to_part, unfold_place}
use Rattle.sym_matching.specs.WantedCells.{take_cell, cell_place, want_cell}
use Rattle.sym_matching.proofs.KeptLaws.{IsLogical}
use Rattle.sym_matching.proofs.ReadingLaws.{Keeps-bind, read_later}
use Rattle.sym_matching.proofs.SettleLaws.{Step-after, Step-settle, Settles-miss, differs-apart, missing_true, unless-on}
use Rattle.sym_matching.proofs.StandLaws.{AreSame, Passes, Passes-none, Passes-then, Passes-like, Passes-bind_new, Passes-fields}
use Rattle.sym_matching.proofs.StandLaws.{same_values}
use Rattle.sym_matching.proofs.StepLaws.{Apart, Step, Step-from_pass, Step-like, Step-miss_atom, Step-pass, Step-take, Step-unfold}
use Rattle.sym_matching.proofs.StepLaws.{same_fit, shape_fits}

-- the heap is one cell, with the values of the wanted fields
abbrev pub IsWantedCell : List ℕ → List Exp → Exp → (ℕ → ℤ) → List (ℕ × Exp) → List Cell → Type 0
IsWantedCell kind wants e u later own = own ≡ record { at = value u e; kind = kind; fields = map (value (through later u)) wants } ∷ []

cell_alike : (structs : List StructDef) (u : ℕ → ℤ) (later : List (ℕ × Exp)) (own : List Cell) (at e : Exp) (kind' kind : List ℕ)
    (haves wants : List Exp) → e ≡ at → kind' ≡ kind →
    HoldsAtom structs u (Points at kind' haves) own → map (value (through later u)) wants ≡ map (value u) haves →
    IsWantedCell kind wants e u later own
cell_alike structs u later own at e kind' kind haves wants a b holds fields = rw (a, ← b, fields) holds

-- a cell of the kind has as many fields as are wanted
wanted_cell : (structs : List StructDef) (u : ℕ → ℤ) (later : List (ℕ × Exp)) (own : List Cell) (at e : Exp) (kind' kind : List ℕ)
    (haves wants : List Exp) → e ≡ at → kind' ≡ kind → FitsKind structs kind (length wants) → IsHeap structs own →
    HoldsAtom structs u (Points at kind' haves) own → AreSame u later wants haves → IsWantedCell kind wants e u later own
wanted_cell structs u later own at e kind' kind haves wants a b fits is_heap holds same =
    let cell : Cell = record { at = value u at; kind = kind'; fields = map (value u) haves } in
    let one : IsHeap structs (cell ∷ []) = rw holds at is_heap in
    let shaped : FitsKind structs kind (length (map (value u) haves)) = shape_fits structs cell kind b one.shaped.0 in
    let many : length wants ≡ length haves =
    same_fit structs kind (length wants) (length (map (value u) haves)) fits shaped ∙ length-map haves (value u) in
    cell_alike structs u later own at e kind' kind haves wants a b holds (same_values u later wants haves many same)

-- the element at the place that was found passes the test
pub found : {X : Type 0} (test : X → Bool) (xs : List X) (place : ℕ) (x : X) → position test xs ≡ Some place → slice_get xs place ≡ Some x →
    test x ≡ true
found test xs place x is there =
    let told = position-Some test xs place x is in
    let read : Some x ≡ Some (get_or xs place x) = sym there ∙ slice_get-get_or xs place x told.0 in
    let same : get_or xs place x ≡ x = cc in
    rw same at told.1

-- and so for what is read at the place
pub found_at : {X : Type 0} (test : X → Bool) (xs : List X) (place : ℕ) (o : Option X) → position test xs ≡ Some place →
    slice_get xs place ≡ o → (x : X) → o ≡ Some x → test x ≡ true
found_at test xs place o is there x same = found test xs place x is (there ∙ same)

pub all_of : {X : Type 0} (test : X → Bool) (xs : List X) → list_all test xs ≡ true → All (λ x. test x ≡ true) xs
all_of test [] h = All-nil (λ x. test x ≡ true)
all_of test (x ∷ xs) h =
    let parts = and_parts (test x) (list_all test xs) h in All-cons (λ x. test x ≡ true) x xs parts.0 (all_of test xs parts.1)

pub variable_logical : (e : Exp) → is_logical_variable e ≡ true → IsLogical e
variable_logical (Var x) h = h
variable_logical (Const n) h = cc

-- the wanted expressions are determined
abbrev AreKnown : Rules → Matching → List Exp → Type 0
AreKnown rules m wants = All (λ want. is_unbound rules.flexible m.binding want ≡ false) wants

module _ (structs : List StructDef) (rules : Rules) (number : ℕ) (kind : List ℕ) (wants : List Exp) (e : Exp)
    (fits : FitsKind structs kind (length wants)) where
  -- ---- rule 4

  bind_new-known : (m : Matching) (want : Exp) → is_unbound rules.flexible m.binding want ≡ true →
      is_unbound rules.flexible (bind_new m want).binding want ≡ false
  bind_new-known m (Const n) h = cc
  bind_new-known m (Var x) h = (Keeps-bind rules.flexible m.binding x (Var m.next) h).1

  name_field-passes : (m : Matching) (want : Exp) →
      Passes rules m (name_field rules want m) (λ u later. Unit {0})
      × (is_unbound rules.flexible (name_field rules want m).binding want ≡ false)
  name_field-passes m want = by_test (is_unbound rules.flexible m.binding want) refl
    where
      P : Matching → Type 0
      P k = Passes rules m k (λ u later. Unit {0}) × (is_unbound rules.flexible k.binding want ≡ false)

      by_test : (b : Bool) → is_unbound rules.flexible m.binding want ≡ b → P (name_field rules want m)
      by_test true h =
          let is : name_field rules want m ≡ bind_new m want = rw h refl in
          subst P (sym is) (
            Passes-like rules m (bind_new m want) (λ u later. value (through later u) want ≡ value u (Var m.next)) (λ u later. Unit {0})
                (λ u later keeps g. tt) (Passes-bind_new rules m want h),
            bind_new-known m want h,
          )
      by_test false h =
          let is : name_field rules want m ≡ m = rw h refl in
          subst P (sym is) (Passes-none rules m, h)

  name_fields-passes : (some : List Exp) (m : Matching) →
      Passes rules m (name_fields rules some m) (λ u later. Unit {0}) × AreKnown rules (name_fields rules some m) some
  name_fields-passes [] m = (Passes-none rules m, All-nil (λ want. is_unbound rules.flexible m.binding want ≡ false))
  name_fields-passes (want ∷ some) m =
      let k : Matching = name_field rules want m in
      let one = name_field-passes m want in
      let others = name_fields-passes some k in (
        Passes-like rules m (name_fields rules some k) (λ u later. Unit {0} × Unit {0}) (λ u later. Unit {0}) (λ u later keeps h. tt)
            (Passes-then rules m k (name_fields rules some k) (λ u later. Unit {0}) (λ u later. Unit {0}) one.0 others.0),
        All-cons (λ w. is_unbound rules.flexible (name_fields rules some k).binding w ≡ false) want some
            (others.0.keeps want one.1).0 others.1,
      )

  -- determined expressions have the values of what they are read as
  read-values : (m : Matching) (u : ℕ → ℤ) (later : List (ℕ × Exp)) (some : List Exp) → AreKnown rules m some →
      Keeps rules.flexible m.binding later → AreTrueFacts u rules.facts →
      map (value (through later u)) some ≡ map (value u) (map (read rules.facts m.binding) some)
  read-values m u later [] known keeps facts = refl
  read-values m u later (want ∷ some) known keeps facts =
      ap₂ (λ v vs. v ∷ vs)
      (sym (read_later rules.facts rules.flexible m.binding later u want
      (All-head (λ w. is_unbound rules.flexible m.binding w ≡ false) want some known) keeps facts))
      (read-values m u later some (All-tail (λ w. is_unbound rules.flexible m.binding w ≡ false) want some known) keeps facts)

  miss_read-step : (m n : Matching) → rules.mode ≡ Abduce → is_logical_variable e ≡ true → AreKnown rules m wants →
      miss_read rules number kind e (map (read rules.facts m.binding) wants) m ≡ On n → Step structs rules m n (IsWantedCell kind wants e)
  miss_read-step m n mode low known h = by_test (list_all is_logical (map (read rules.facts m.binding) wants)) refl
    where
      by_test : (b : Bool) → list_all is_logical (map (read rules.facts m.binding) wants) ≡ b →
          Step structs rules m n (IsWantedCell kind wants e)
      by_test true f =
          let on : unless_contradiction rules number (with_missing_atom m (Points e kind (map (read rules.facts m.binding) wants))) ≡ On n =
          rw f at h in
          let is_n : n ≡ with_missing_atom m (Points e kind (map (read rules.facts m.binding) wants)) =
          unless-on rules number (with_missing_atom m (Points e kind (map (read rules.facts m.binding) wants))) n on in
          rw is_n (Step-like structs rules m (with_missing_atom m (Points e kind (map (read rules.facts m.binding) wants)))
          (λ u later own. HoldsAtom structs u (Points e kind (map (read rules.facts m.binding) wants)) own) (IsWantedCell kind wants e)
          (λ u later own facts keeps heap holds. cell_alike structs u later own e e kind kind
          (map (read rules.facts m.binding) wants) wants refl refl holds (read-values m u later wants known keeps facts))
          (Step-miss_atom structs rules m (Points e kind (map (read rules.facts m.binding) wants)) mode
          (variable_logical e low, all_of is_logical (map (read rules.facts m.binding) wants) f)))
      by_test false f = let bad : Stuck number ≡ On n = rw f at h in cc

  miss_cell-step : (m n : Matching) (mode : Mode) → rules.mode ≡ mode → miss_cell rules number kind wants e m mode ≡ On n →
      Step structs rules m n (IsWantedCell kind wants e)
  miss_cell-step m n Subtract mode h = cc
  miss_cell-step m n Abduce mode h = by_test (is_logical_variable e && not (list_any (is_atom_from e) m.left)) refl
    where
      by_test : (b : Bool) → (is_logical_variable e && not (list_any (is_atom_from e) m.left)) ≡ b →
          Step structs rules m n (IsWantedCell kind wants e)
      by_test true f =
          let on : miss_named rules number kind wants e (name_fields rules wants m) ≡ On n = rw f at h in
          let parts = and_parts (is_logical_variable e) (not (list_any (is_atom_from e) m.left)) f in
          let named = name_fields-passes wants m in
          Step-after structs rules m (name_fields rules wants m) n (λ u later. Unit {0}) (IsWantedCell kind wants e)
          (Step-from_pass structs rules m (name_fields rules wants m) (λ u later. Unit {0}) named.0)
          (miss_read-step (name_fields rules wants m) n mode parts.0 named.1 on)
      by_test false f = let bad : Stuck number ≡ On n = rw f at h in cc

  -- ---- rule 2

  unfolded-step : (m : Matching) (place : ℕ) (kind' : List ℕ) (link : ℕ) (from to : Exp) →
      slice_get m.left place ≡ Some (Seg kind' link from to) → e ≡ from → kind' ≡ kind → Apart structs rules m from to →
      Step structs rules m
      (take_fields rules number wants (map Var (fresh_variables (length wants) m.used))
      (unfold_at m place kind' link from to (fresh_variables (length wants) m.used))) (IsWantedCell kind wants e)
  unfolded-step m place kind' link from to is same_from same_kind apart =
      let xs : List ℕ = fresh_variables (length wants) m.used in
      let next : Matching = unfold_at m place kind' link from to xs in
      let last : Matching = take_fields rules number wants (map Var xs) next in
      let fits' : FitsKind structs kind' (length wants) = subst (λ k. FitsKind structs k (length wants)) (sym same_kind) fits in
      Step-like structs rules m last
      (λ u later own. HoldsAtom structs u (Points from kind' (map Var xs)) own × AreSame u later wants (map Var xs))
      (IsWantedCell kind wants e)
      (λ u later own facts keeps heap both. wanted_cell structs u later own from e kind' kind
      (map Var xs) wants same_from same_kind fits heap both.0 both.1)
      (Step-pass structs rules m next last (λ u later own. HoldsAtom structs u (Points from kind' (map Var xs)) own)
      (λ u later. AreSame u later wants (map Var xs))
      (Step-unfold structs rules m place kind' link from to (length wants) is fits' apart)
      (Passes-fields rules number wants (map Var xs) next))

  take_unfolded-step : (m n : Matching) (place : ℕ) (o : Option Atom) → slice_get m.left place ≡ o →
      ((atom : Atom) → o ≡ Some atom → is_to_unfold (whole rules m) e kind atom ≡ true) →
      take_unfolded rules number wants m place o ≡ On n →
      Step structs rules m n (IsWantedCell kind wants e)
  take_unfolded-step m n place None is test h = cc
  take_unfolded-step m n place (Some (Points at kind' haves)) is test h = cc
  take_unfolded-step m n place (Some (Seg kind' link from to)) is test h =
      let parts =
      and_parts (same_exp e from && bytes_eq kind' kind) (differs (whole rules m) from to) (test (Seg kind' link from to) refl) in
      let firsts = and_parts (same_exp e from) (bytes_eq kind' kind) parts.0 in
      let is_n : n
      ≡ take_fields rules number wants (map Var (fresh_variables (length wants) m.used))
      (unfold_at m place kind' link from to (fresh_variables (length wants) m.used)) = cc in
      rw is_n (unfolded-step m place kind' link from to is (same_exp-equal e from firsts.0) ((bytes_decides kind' kind).0 firsts.1)
      (differs-apart structs rules m from to parts.1))
  take_unfolded-step m n place (Some Junk) is test h = cc

  -- ---- rule 3

  take_parted-step : (m n : Matching) (place : ℕ) (o : Option Atom) → rules.mode ≡ Abduce → slice_get m.left place ≡ o →
      ((atom : Atom) → o ≡ Some atom → is_to_part e kind atom ≡ true) → take_parted rules number wants m place o ≡ On n →
      Step structs rules m n (IsWantedCell kind wants e)
  take_parted-step m n place None mode is test h = cc
  take_parted-step m n place (Some (Points at kind' haves)) mode is test h = cc
  take_parted-step m n place (Some (Seg kind' link from to)) mode is test h = by_turn (miss_fact rules number (Ne from to) m) refl h
    where
      by_turn : (r : Turned) → miss_fact rules number (Ne from to) m ≡ r →
          and_then (λ k. take_unfolded rules number wants k place (Some (Seg kind' link from to))) r ≡ On n →
          Step structs rules m n (IsWantedCell kind wants e)
      by_turn (Stuck other) f g = cc
      by_turn (On k) f g =
          let tests =
          and_parts (same_exp e from && bytes_eq kind' kind && is_logical from) (is_logical to) (test (Seg kind' link from to) refl) in
          let more = and_parts (same_exp e from && bytes_eq kind' kind) (is_logical from) tests.0 in
          let firsts = and_parts (same_exp e from) (bytes_eq kind' kind) more.0 in
          let is_k : k ≡ with_missing_fact m (Ne from to) = unless-on rules number (with_missing_fact m (Ne from to)) k f in
          let parted : Matching = with_missing_fact m (Ne from to) in
          let last : Matching =
          take_fields rules number wants (map Var (fresh_variables (length wants) m.used))
          (unfold_at parted place kind' link from to (fresh_variables (length wants) m.used)) in
          let on : take_unfolded rules number wants (with_missing_fact m (Ne from to)) place (Some (Seg kind' link from to)) ≡ On n =
          rw is_k at g in
          let is_n : n ≡ last = cc in
          let apart : Apart structs rules parted from to =
          λ last s all left gone stands. missing_true m.missing last (Ne from to) s stands.leads stands.missing in
          rw is_n (Step-after structs rules m parted last (λ u later. Unit {0}) (IsWantedCell kind wants e)
          (Step-settle structs rules m parted (λ s later. value s from ≡ value s to → ⊥)
          (Settles-miss structs rules m (Ne from to) mode (more.1, tests.1)))
          (unfolded-step parted place kind' link from to is (same_exp-equal e from firsts.0) ((bytes_decides kind' kind).0 firsts.1) apart))
  take_parted-step m n place (Some Junk) mode is test h = cc

  part_at-step : (m n : Matching) (mode : Mode) (p : Option ℕ) → rules.mode ≡ mode → place_to_part mode e kind m.left ≡ p →
      part_at rules number kind wants e m p ≡ On n → Step structs rules m n (IsWantedCell kind wants e)
  part_at-step m n mode None is_mode is h = miss_cell-step m n rules.mode refl h
  part_at-step m n Subtract (Some place) is_mode is h = cc
  part_at-step m n Abduce (Some place) is_mode is h =
      take_parted-step m n place (slice_get m.left place) is_mode refl
      (found_at (is_to_part e kind) m.left place (slice_get m.left place) is refl) h

  unfold_place-step : (m n : Matching) (p : Option ℕ) → position (is_to_unfold (whole rules m) e kind) m.left ≡ p →
      unfold_place rules number kind wants e m p ≡ On n → Step structs rules m n (IsWantedCell kind wants e)
  unfold_place-step m n None is h = part_at-step m n rules.mode (place_to_part rules.mode e kind m.left) refl refl h
  unfold_place-step m n (Some place) is h =
      take_unfolded-step m n place (slice_get m.left place) refl
      (found_at (is_to_unfold (whole rules m) e kind) m.left place (slice_get m.left place) is refl) h

  -- ---- rule 1

  take_cell-step : (m n : Matching) (place : ℕ) (o : Option Atom) → slice_get m.left place ≡ o →
      ((atom : Atom) → o ≡ Some atom → is_cell_at e atom ≡ true) → take_cell rules number kind wants m place o ≡ On n →
      Step structs rules m n (IsWantedCell kind wants e)
  take_cell-step m n place None is test h = cc
  take_cell-step m n place (Some (Points at kind' haves)) is test h = by_kind (bytes_eq kind' kind) refl
    where
      by_kind : (b : Bool) → bytes_eq kind' kind ≡ b → Step structs rules m n (IsWantedCell kind wants e)
      by_kind true f =
          let next : Matching = take_atom m place (Points at kind' haves) in
          let last : Matching = take_fields rules number wants haves next in
          let is_on : On last ≡ On n = rw f at h in
          let is_n : n ≡ last = cc in
          rw is_n (Step-like structs rules m last
          (λ u later own. HoldsAtom structs u (Points at kind' haves) own × AreSame u later wants haves) (IsWantedCell kind wants e)
          (λ u later own facts keeps heap both. wanted_cell structs u later own at e kind' kind haves wants
          (same_exp-equal e at (test (Points at kind' haves) refl)) ((bytes_decides kind' kind).0 f) fits heap both.0 both.1)
          (Step-pass structs rules m next last (λ u later own. HoldsAtom structs u (Points at kind' haves) own)
          (λ u later. AreSame u later wants haves) (Step-take structs rules m place (Points at kind' haves) is)
          (Passes-fields rules number wants haves next)))
      by_kind false f = let bad : Stuck number ≡ On n = rw f at h in cc
  take_cell-step m n place (Some (Seg kind' link from to)) is test h = cc
  take_cell-step m n place (Some Junk) is test h = cc

  cell_place-step : (m n : Matching) (p : Option ℕ) → position (is_cell_at e) m.left ≡ p → cell_place rules number kind wants e m p ≡ On n →
      Step structs rules m n (IsWantedCell kind wants e)
  cell_place-step m n None is h = unfold_place-step m n (position (is_to_unfold (whole rules m) e kind) m.left) refl h
  cell_place-step m n (Some place) is h =
      take_cell-step m n place (slice_get m.left place) refl (found_at (is_cell_at e) m.left place (slice_get m.left place) is refl) h

  pub want_cell-step : (m n : Matching) → want_cell rules number kind wants e m ≡ On n → Step structs rules m n (IsWantedCell kind wants e)
  want_cell-step m n h = cell_place-step m n (position (is_cell_at e) m.left) refl h
