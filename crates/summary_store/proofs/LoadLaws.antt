-- The laws of loading, from those of reading.
use Rattle.std.specs.Prelude.{◌≡◌, ◌↔◌, ◌⊎◌, ℕ, suc, List, [], ◌∷◌, map, All}
use Rattle.std.specs.declared.option.Option.{Option}
use Rattle.std.specs.declared.option.Option.TheVariants.{None, Some}
use Rattle.std.specs.declared.result.Result.{Result}
use Rattle.std.specs.declared.result.Result.TheVariants.{Ok, Err}
use Rattle.std.proofs.Common.{inl, inr, refl, ap, ◌∙◌, subst}
use Rattle.std.proofs.lemmas.List.Elements.{All-cons, All-head, All-nil, All-tail, All-weaker}
use Rattle.shape_data.specs.declared.answer.Kept.{Kept}
use Rattle.claim_core.specs.Views.{Solution, solution_of}
use Rattle.solve_laws.specs.Certificates.Gaps.{first_gap}
use Rattle.solve_laws.specs.Certificates.Laws.{InductiveIsValid, NoGap}
use Rattle.solve_laws.specs.Certificates.Limits.{analysable, AnswerWidens, KeyWidens, StorableIsAnalysable}
use Rattle.shape_data.specs.WellFormed.{storable, widest}
use Rattle.store_json.specs.Entries.{as_stored, IsReadEntry, IsStorable}
use Rattle.store_json.specs.Laws.{OneReading, SomeReading, StoresAreReadBack}
use Rattle.store_json.specs.Reading.{IsRead}
use Rattle.store_json.specs.declared.reading.Unread.{Unread}
use Rattle.summary_store.specs.Laws.{IsValidEntry, LoadedAreInductive, LoadedAreValid, OneLoading, SomeLoading, StoresAreLoadedBack}
use Rattle.summary_store.specs.Loading.{no_entry, with_inductive, with_other, contents_of, entries_in, AreContents, AreLoaded, Contents}
use Rattle.summary_store.specs.Loading.{IsInductive, IsLeftOf, IsLoaded, IsLoadedEntry}
use Rattle.summary_store.specs.declared.loading.Loaded.{Loaded}
use Rattle.summary_store.specs.declared.loading.Loaded.TheVariants as loaded
use Rattle.summary_store.proofs.CheckLaws.{all_are_left, left_is_loaded, one_checking}

ok_is : {A E : Type 0} (a b : A) (one other : Result A E) → one ≡ Ok a → other ≡ Ok b → one ≡ other → a ≡ b
ok_is a b one other first second same = cc

err_is : {A E : Type 0} (a b : E) (one other : Result A E) → one ≡ Err a → other ≡ Err b → one ≡ other → a ≡ b
err_is a b one other first second same = cc

abbrev contents_with : List Solution → ℕ → Contents
contents_with entries dropped = record { entries = entries; dropped = dropped }

contents_are : (one other : Contents) → one.entries ≡ other.entries → one.dropped ≡ other.dropped → one ≡ other
contents_are one other entries dropped =
    ap (λ all. contents_with all one.dropped) entries ∙ ap (λ n. contents_with other.entries n) dropped

same_contents : (all : List Solution) (one other : Contents) → AreContents all one → AreContents all other → one ≡ other
same_contents all one other is so =
    let same = one_checking all one.entries other.entries one.dropped other.dropped is so in contents_are one other same.0 same.1

no_error : {A E P : Type 0} (a : A) (e : E) → Ok a ≡ Err e → P
no_error a e is = cc

pub one_loading : OneReading → OneLoading
one_loading one_reading bytes (Ok one) (Ok other) is so =
    let all : is.0 ≡ so.0 = ok_is is.0 so.0 (Ok is.0) (Ok so.0) refl refl (one_reading bytes (Ok is.0) (Ok so.0) is.1 so.1) in
    ap Ok (same_contents so.0 one other (subst (λ entries. AreContents entries one) all is.2) so.2)
one_loading one_reading bytes (Ok one) (Err why) is so = no_error is.0 why (one_reading bytes (Ok is.0) (Err why) is.1 so)
one_loading one_reading bytes (Err why) (Ok other) is so = no_error so.0 why (one_reading bytes (Ok so.0) (Err why) so.1 is)
one_loading one_reading bytes (Err why) (Err other) is so =
    ap Err (err_is why other (Err why) (Err other) refl refl (one_reading bytes (Err why) (Err other) is so))

-- ---- there is one

by_option : {A : Type 0} {P : Type 0} (o : Option A) → (o ≡ None) ↔ P → P ⊎ (P → ⊥)
by_option None exact = inl (exact.0 refl)
by_option (Some a) exact = inr (λ p. none_of a (exact.1 p))
  where
    none_of : {A : Type 0} (a : A) → Some a ≡ None → ⊥
    none_of a is = cc

-- whether an entry that a store may hold is inductive, its first gap tells
module _ (no_gap : NoGap) (keys : KeyWidens) (answers : AnswerWidens) (known : StorableIsAnalysable) where
  inductive_or_not : (entry : Solution) → IsStorable entry → IsInductive entry ⊎ (IsInductive entry → ⊥)
  inductive_or_not entry is =
      let key = keys analysable widest entry.key known.1 (keys storable analysable entry.key known.0 is.key) in
      let answer = answers analysable widest entry.key entry.answer known.1
      (answers storable analysable entry.key entry.answer known.0 is.answer.answers) in
      by_option (first_gap entry.key entry.answer) (no_gap entry.key entry.answer key answer)

  some_contents : (all : List Solution) → All IsReadEntry all → (found : Contents) × AreContents all found
  some_contents [] read = (contents_with [] 0, no_entry)
  some_contents (entry ∷ all) read = by_first (inductive_or_not entry (All-head IsReadEntry entry all read).storable)
      (some_contents all (All-tail IsReadEntry entry all read))
    where
      by_first : IsInductive entry ⊎ (IsInductive entry → ⊥) → (found : Contents) × AreContents all found →
          (found : Contents) × AreContents (entry ∷ all) found
      by_first (inl is) found =
          (contents_with (entry ∷ found.0.entries) found.0.dropped, with_inductive entry all found.0.entries found.0.dropped is found.1)
      by_first (inr is) found =
          (contents_with found.0.entries (suc found.0.dropped), with_other entry all found.0.entries found.0.dropped is found.1)

  pub some_loading : SomeReading → SomeLoading
  some_loading some_reading bytes = by_reading (some_reading bytes)
    where
      by_reading : (found : Result (List Solution) Unread) × IsRead bytes found → (loaded : Result Contents Unread) × IsLoaded bytes loaded
      by_reading (Ok all, read) = let contents = some_contents all read.4.0 in (Ok contents.0, (all, read, contents.1))
      by_reading (Err why, read) = (Err why, read)

pub loaded_are_inductive : LoadedAreInductive
loaded_are_inductive bytes (Ok contents) is = left_is_loaded is.0 contents.entries contents.dropped is.2 is.1.4.0
loaded_are_inductive bytes (Err why) is = All-nil _

pub loaded_are_valid : InductiveIsValid → LoadedAreValid
loaded_are_valid valid bytes found is =
    All-weaker IsLoadedEntry IsValidEntry (λ entry it program stands. valid program entry.key entry.answer stands it.inductive)
    (entries_in found)
    (loaded_are_inductive bytes found is)

-- the mark plays no part
stay_inductive : (entries : List Solution) → All IsInductive entries → All IsInductive (map as_stored entries)
stay_inductive [] are = All-nil IsInductive
stay_inductive (entry ∷ entries) are =
    let one = All-head IsInductive entry entries are in
    All-cons IsInductive (as_stored entry) (map as_stored entries)
    (record { is_key = one.is_key; is_answer = one.is_answer; specs = one.specs })
    (stay_inductive entries (All-tail IsInductive entry entries are))

pub stores_are_loaded_back : StoresAreReadBack → StoresAreLoadedBack
stores_are_loaded_back read_back entries storable fits inductive = (
  map as_stored entries,
  read_back entries storable fits,
  all_are_left (map as_stored entries) (stay_inductive entries inductive),
)

-- ---- what the code knows

-- what is left of what was read, is loaded
pub left_is_all : (bytes : List ℕ) (all : List Solution) (found : Result Contents Unread) → IsRead bytes (Ok all) → IsLeftOf all found →
    IsLoaded bytes found
left_is_all bytes all (Ok contents) read left = (all, read, left)
left_is_all bytes all (Err why) read left = absurd left

each_loaded : (entries : List Kept) → All IsLoadedEntry (map solution_of entries) →
    All (λ (kept : Kept). IsLoadedEntry (solution_of kept)) entries
each_loaded [] are = All-nil (λ (kept : Kept). IsLoadedEntry (solution_of kept))
each_loaded (kept ∷ entries) are =
    All-cons (λ (kept : Kept). IsLoadedEntry (solution_of kept)) kept entries
    (All-head IsLoadedEntry (solution_of kept) (map solution_of entries) are)
    (each_loaded entries (All-tail IsLoadedEntry (solution_of kept) (map solution_of entries) are))

pub left_is_good : (bytes : List ℕ) (all : List Solution) (found : Loaded) → IsRead bytes (Ok all) → IsLeftOf all (contents_of found) →
    AreLoaded found
left_is_good bytes all (loaded.Entries entries dropped) read left =
    let found = contents_of (loaded.Entries entries dropped) in
    each_loaded entries (loaded_are_inductive bytes found (left_is_all bytes all found read left))
left_is_good bytes all (loaded.Unread why) read left = tt

each_read : (entries : List Kept) → All IsReadEntry (map solution_of entries) →
    All (λ (kept : Kept). IsReadEntry (solution_of kept)) entries
each_read [] are = All-nil (λ (kept : Kept). IsReadEntry (solution_of kept))
each_read (kept ∷ entries) are =
    All-cons (λ (kept : Kept). IsReadEntry (solution_of kept)) kept entries
    (All-head IsReadEntry (solution_of kept) (map solution_of entries) are)
    (each_read entries (All-tail IsReadEntry (solution_of kept) (map solution_of entries) are))

pub entries_are_read : (bytes : List ℕ) (entries : List Kept) → IsRead bytes (Ok (map solution_of entries)) →
    All (λ (kept : Kept). IsReadEntry (solution_of kept)) entries
entries_are_read bytes entries read = each_read entries read.4.0
