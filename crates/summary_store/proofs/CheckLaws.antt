-- Checking entries, one after the other.
use Rattle.std.specs.Prelude.{◌≡◌, ◌+◌, ◌<◌, ◌≤◌, ℕ, suc, List, [], ◌∷◌, ◌++◌, get_or, length, map, take, All}
use Rattle.std.proofs.Common.{refl, sym, ap, ◌∙◌, arith}
use Rattle.std.proofs.lemmas.List.{length-map, length-take-le, map-append, map_more, take_all}
use Rattle.std.proofs.lemmas.List.Elements.{All-cons, All-head, All-nil, All-tail}
use Rattle.shape_data.specs.declared.answer.Answer.{Answer}
use Rattle.shape_data.specs.declared.answer.Kept.{Kept}
use Rattle.shape_data.specs.declared.answer.Key.{Key}
use Rattle.claim_core.specs.Views.{Solution, solution_of}
use Rattle.store_json.specs.Entries.{IsReadEntry}
use Rattle.summary_store.specs.Loading.{AreContents, AreChecked, no_entry, with_inductive, with_other, Contents, IsInductive, IsLoadedEntry}

-- ---- one more entry at the end

one_more : (all left : List Solution) (others : ℕ) (entry : Solution) → AreChecked all left others → IsInductive entry →
    AreChecked (all ++ entry ∷ []) (left ++ entry ∷ []) others
one_more _ _ _ entry no_entry is = with_inductive entry [] [] 0 is no_entry
one_more _ _ _ entry (with_inductive first all left others so checked) is =
    with_inductive first (all ++ entry ∷ []) (left ++ entry ∷ []) others so (one_more all left others entry checked is)
one_more _ _ _ entry (with_other first all left others so checked) is =
    with_other first (all ++ entry ∷ []) (left ++ entry ∷ []) others so (one_more all left others entry checked is)

one_other : (all left : List Solution) (others : ℕ) (entry : Solution) → AreChecked all left others → (IsInductive entry → ⊥) →
    AreChecked (all ++ entry ∷ []) left (suc others)
one_other _ _ _ entry no_entry is = with_other entry [] [] 0 is no_entry
one_other _ _ _ entry (with_inductive first all left others so checked) is =
    with_inductive first (all ++ entry ∷ []) left (suc others) so (one_other all left others entry checked is)
one_other _ _ _ entry (with_other first all left others so checked) is =
    with_other first (all ++ entry ∷ []) left (suc others) so (one_other all left others entry checked is)

-- ---- a turn of the loop

abbrev pub contents : List Kept → ℕ → Contents
contents left dropped = record { entries = map solution_of left; dropped = dropped }

abbrev pub solution : Key → Answer → Solution
solution key answer = record { key = key; answer = answer }

pub same_solution : (key : Key) (answer : Answer) (kept : Kept) → key ≡ kept.key.value → answer ≡ kept.answer.value →
    solution key answer ≡ solution_of kept
same_solution key answer kept first second =
    ap (λ one. solution one answer) first ∙ ap (λ one. solution kept.key.value one) second

pub nothing_checked : AreContents [] (contents [] 0)
nothing_checked = no_entry

more_taken : (all : List Kept) (i : ℕ) (entry : Kept) → i < length all → entry ≡ get_or all i entry →
    map solution_of (take (i + 1) all) ≡ map solution_of (take i all) ++ solution_of entry ∷ []
more_taken all i entry within at =
    map_more solution_of all i entry within ∙ ap (λ one. map solution_of (take i all) ++ solution_of one ∷ []) (sym at)

pub turn_keeps : (all before after : List Kept) (i dropped : ℕ) (entry one : Kept) → i < length all → entry ≡ get_or all i entry →
    solution_of one ≡ solution_of entry → after ≡ before ++ one ∷ [] → IsInductive (solution_of entry) →
    AreContents (map solution_of (take i all)) (contents before dropped) →
    AreContents (map solution_of (take (i + 1) all)) (contents after dropped)
turn_keeps all before after i dropped entry one within at same new is so_far =
    let found : map solution_of after ≡ map solution_of before ++ solution_of entry ∷ [] =
    ap (map solution_of) new ∙ map-append solution_of before (one ∷ []) ∙ ap (λ last. map solution_of before ++ last ∷ []) same in
    rw (more_taken all i entry within at, found)
    (one_more (map solution_of (take i all)) (map solution_of before) dropped (solution_of entry) so_far is)

pub turn_drops : (all left : List Kept) (i before after : ℕ) (entry : Kept) → i < length all → entry ≡ get_or all i entry →
    after ≡ before + 1 → (IsInductive (solution_of entry) → ⊥) →
    AreContents (map solution_of (take i all)) (contents left before) →
    AreContents (map solution_of (take (i + 1) all)) (contents left after)
turn_drops all left i before after entry within at new is so_far =
    let next : after ≡ suc before = omega (arith, new) in
    rw (more_taken all i entry within at, next)
    (one_other (map solution_of (take i all)) (map solution_of left) before (solution_of entry) so_far is)

-- no more are dropped than there are
few_dropped : (all left : List Solution) (others : ℕ) → AreChecked all left others → others ≤ length all
few_dropped _ _ _ no_entry = omega arith
few_dropped _ _ _ (with_inductive entry all left others is checked) = let few = few_dropped all left others checked in omega (arith, few)
few_dropped _ _ _ (with_other entry all left others is checked) = let few = few_dropped all left others checked in omega (arith, few)

pub dropped_so_far : (all left : List Kept) (i dropped : ℕ) → i < length all →
    AreContents (map solution_of (take i all)) (contents left dropped) → dropped ≤ i
dropped_so_far all left i dropped within so_far =
    let few = few_dropped (map solution_of (take i all)) (map solution_of left) dropped so_far in
    let mapped = length-map (take i all) solution_of in
    let taken : length (take i all) ≡ i = length-take-le i all (omega arith) in
    omega (arith, few, mapped, taken)

pub all_checked : (all left : List Kept) (i dropped : ℕ) → length all ≤ i →
    AreContents (map solution_of (take i all)) (contents left dropped) → AreContents (map solution_of all) (contents left dropped)
all_checked all left i dropped over so_far = rw (take_all i all over) at so_far

-- ---- what is left

pub left_is_loaded : (all left : List Solution) (others : ℕ) → AreChecked all left others → All IsReadEntry all → All IsLoadedEntry left
left_is_loaded _ _ _ no_entry read = All-nil IsLoadedEntry
left_is_loaded _ _ _ (with_inductive entry all left others is checked) read =
    All-cons IsLoadedEntry entry left (record { read = All-head IsReadEntry entry all read; inductive = is })
    (left_is_loaded all left others checked (All-tail IsReadEntry entry all read))
left_is_loaded _ _ _ (with_other entry all left others is checked) read =
    left_is_loaded all left others checked (All-tail IsReadEntry entry all read)

pub all_are_left : (all : List Solution) → All IsInductive all → AreChecked all all 0
all_are_left [] are = no_entry
all_are_left (entry ∷ all) are =
    with_inductive entry all all 0 (All-head IsInductive entry all are) (all_are_left all (All-tail IsInductive entry all are))

-- one way alone
pub one_checking : (all left right : List Solution) (m n : ℕ) → AreChecked all left m → AreChecked all right n → (left ≡ right) × (m ≡ n)
one_checking _ _ _ _ _ no_entry no_entry = (refl, refl)
one_checking _ _ _ _ _ (with_inductive entry all left m is checked) (with_inductive _ _ right n so other) =
    let same = one_checking all left right m n checked other in (ap (λ rest. entry ∷ rest) same.0, same.1)
one_checking _ _ _ _ _ (with_inductive entry all left m is checked) (with_other _ _ right n so other) = absurd (so is)
one_checking _ _ _ _ _ (with_other entry all left m is checked) (with_inductive _ _ right n so other) = absurd (is so)
one_checking _ _ _ _ _ (with_other entry all left m is checked) (with_other _ _ right n so other) =
    let same = one_checking all left right m n checked other in (same.0, ap suc same.1)
