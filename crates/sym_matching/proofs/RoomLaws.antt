-- Room for the numbers of new variables.
use Rattle.std.specs.Prelude.{◌≡◌, ℕ, zero, suc, ◌+◌, ◌*◌, ◌<◌, ◌≤◌, ◌==◌, Bool, true, false, List, [], ◌∷◌, ◌++◌, length, All}
use Rattle.std.proofs.Common.{refl, sym, ap, ◌∙◌, arith, append_assoc, ⊎_elim}
use Rattle.std.proofs.lemmas.Bool.{eqb-true, or_cases}
use Rattle.std.proofs.lemmas.List.{append-nil, length_push}
use Rattle.std.proofs.lemmas.List.Elements.{All-append, All-cons, All-head, All-nil, All-tail, All-weaker}
use Rattle.shape_data.specs.declared.symbolic.Atom.{Atom}
use Rattle.sym_parts.specs.Laws.Fresh.{is_one_of}
use Rattle.sym_matching.specs.NewVariables.{first_free, fresh, fresh_variables}
use Rattle.sym_matching.specs.Rooms.{fields_of, fields_of_all, FewFields, RoomBelow, RoomOfFew, RoomParts, SearchFindsFree}
use Rattle.sym_matching.proofs.KeptLaws.{All-left, All-right}
use Rattle.sym_matching.proofs.NewVariableLaws.{least_free}

-- ---- the search

-- as many turns as there are names are enough, and the least free number is no more than they are away
pub free_near : (turns x : ℕ) (used : List ℕ) → first_free turns x used ≤ x + turns
free_near zero x used = omega arith
free_near (suc turns) x used = by_test (is_one_of used x) refl (free_near turns (x + 1) used)
  where
    by_test : (b : Bool) → is_one_of used x ≡ b → first_free turns (x + 1) used ≤ (x + 1) + turns
        → first_free (suc turns) x used ≤ x + suc turns
    by_test true e later = rw e (omega arith)
    by_test false e later = rw e (omega arith)

below : (limit : ℕ) (used : List ℕ) (x : ℕ) → All (λ y. y < limit) used → is_one_of used x ≡ true → x < limit
below limit [] x all h = cc
below limit (y ∷ used) x all h =
    ⊎_elim (λ here. let same : x ≡ y = eqb-true x y here in let under : y < limit = All-head (λ z. z < limit) y used all in omega arith)
    (below limit used x (All-tail (λ z. z < limit) y used all)) (or_cases (x == y) (is_one_of used x) h)

-- where all names are below a limit, so is the least free number, or it is the limit
free_below : (turns x limit : ℕ) (used : List ℕ) → All (λ y. y < limit) used → x ≤ limit → first_free turns x used ≤ limit
free_below zero x limit used all under = under
free_below (suc turns) x limit used all under = by_test (is_one_of used x) refl (λ more. free_below turns (x + 1) limit used all more)
  where
    by_test : (b : Bool) → is_one_of used x ≡ b → (x + 1 ≤ limit → first_free turns (x + 1) used ≤ limit)
        → first_free (suc turns) x used ≤ limit
    by_test true e later = let less : x < limit = below limit used x all e in let more : first_free turns (x + 1) used
        ≤ limit = later (omega arith) in rw e more
    by_test false e later = rw e under

pub search_finds_free : SearchFindsFree
search_finds_free turns x used room = least_free turns x used room

-- ---- room

pub room_below : RoomBelow
room_below limit zero used low room all = All-nil (λ x. x < 4294967296)
room_below limit (suc count) used low room all =
    let here : fresh used ≤ limit = free_below (length used) 65536 limit used all low in
    let under : fresh used < 4294967296 = omega arith in
    let grown : All (λ y. y < limit + 1) (used ++ fresh used ∷ []) =
    All-append (λ y. y < limit + 1) used (fresh used ∷ [])
    (All-weaker (λ y. y < limit) (λ y. y < limit + 1) (λ y h. let more : y < limit + 1 = omega arith in more) used all)
    (All-cons (λ y. y < limit + 1) (fresh used) [] (omega arith) (All-nil (λ y. y < limit + 1))) in
    All-cons (λ x. x < 4294967296) (fresh used) (fresh_variables count (used ++ fresh used ∷ [])) under
    (room_below (limit + 1) count (used ++ fresh used ∷ []) (omega arith) (omega arith) grown)

pub room_of_few : RoomOfFew
room_of_few zero used room = All-nil (λ x. x < 4294967296)
room_of_few (suc count) used room =
    let near : fresh used ≤ 65536 + length used = free_near (length used) 65536 used in
    let under : fresh used < 4294967296 = omega arith in
    let more : length (used ++ fresh used ∷ []) ≡ length used + 1 = length_push used (fresh used) in
    All-cons (λ x. x < 4294967296) (fresh used) (fresh_variables count (used ++ fresh used ∷ [])) under
    (room_of_few count (used ++ fresh used ∷ []) (omega arith))

pub variables-append : (one other : ℕ) (used : List ℕ)
    → fresh_variables (one + other) used ≡ fresh_variables one used ++ fresh_variables other (used ++ fresh_variables one used)
variables-append zero other used =
    let none : 0 + other ≡ other = omega arith in
    ap (λ count. fresh_variables count used) none ∙ ap (fresh_variables other) (sym (append-nil used))
variables-append (suc one) other used =
    let x : ℕ = fresh used in
    let more : suc one + other ≡ suc (one + other) = omega arith in
    ap (λ count. fresh_variables count used) more
    ∙ ap (λ xs. x ∷ xs)
    (variables-append one other (used ++ x ∷ [])
    ∙ ap (λ ys. fresh_variables one (used ++ x ∷ []) ++ fresh_variables other ys)
    (append_assoc used (x ∷ []) (fresh_variables one (used ++ x ∷ []))))

pub room_parts : RoomParts
room_parts one other used room =
    let all : All (λ x. x < 4294967296) (fresh_variables one used ++ fresh_variables other (used ++ fresh_variables one used)) =
    rw (variables-append one other used) at room in (
      All-left (λ x. x < 4294967296) (fresh_variables one used) (fresh_variables other (used ++ fresh_variables one used)) all,
      All-right
          (λ x. x < 4294967296) (fresh_variables one used) (fresh_variables other (used ++ fresh_variables one used)) all,
    )

-- ---- sizes

pub few_each : (atoms : List Atom) → All (λ atom. fields_of atom ≤ 32768) atoms → fields_of_all atoms ≤ 32768 * length atoms
few_each [] h = omega arith
few_each (atom ∷ atoms) h =
    let here : fields_of atom ≤ 32768 = All-head (λ a. fields_of a ≤ 32768) atom atoms h in
    let later : fields_of_all atoms ≤ 32768 * length atoms = few_each atoms (All-tail (λ a. fields_of a ≤ 32768) atom atoms h) in
    omega arith

pub few_fields : FewFields
few_fields heap sizes =
    let parts : length heap.pure + length heap.spatial ≤ 4000 = sizes.parts in
    let each : fields_of_all heap.spatial ≤ 32768 * length heap.spatial = few_each heap.spatial sizes.fields in
    omega arith
