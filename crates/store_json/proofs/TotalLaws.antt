-- All bytes are read in some way: each step to the entries is decided.
use Rattle.std.specs.Prelude.{◌≡◌, ◌⊎◌, ◌-◌, ◌<◌, ◌≤◌, ℕ, Bool, true, false, codes, List, [], ◌∷◌, drop, length, option_and_then, take}
use Rattle.std.specs.Str.{is_utf8}
use Rattle.std.specs.declared.option.Option.{Option}
use Rattle.std.specs.declared.option.Option.TheVariants.{None, Some}
use Rattle.std.specs.declared.result.Result.{Result}
use Rattle.std.specs.declared.result.Result.TheVariants.{Ok, Err}
use Rattle.std.proofs.Common.{inl, inr, refl, sym, ap, ap₂, ◌∙◌, subst}
use Rattle.std.proofs.lemmas.Bool.{cases_lt}
use Rattle.std.proofs.lemmas.List.Elements.{All-cons, All-head, All-tail}
use Rattle.std.proofs.lemmas.Str.{IsUtf8-from_is_utf8, is_utf8-from_IsUtf8}
use Rattle.serde_json.specs.Data.{Data}
use Rattle.serde_json.specs.Find.{as_number, as_u64, get}
use Rattle.serde_json.specs.Read.{read}
use Rattle.flow_json.specs.Forms.{as_list, count_data, has_names, tuple}
use Rattle.flow_json.proofs.InverseLemmas.{cons_is, list_back, list_only, some_is}
use Rattle.shape_data.specs.declared.answer.Answer.{Answer}
use Rattle.shape_data.specs.declared.answer.Key.{Key}
use Rattle.shape_data.specs.WellFormed.{IsStorableAnswer, IsStorableKey}
use Rattle.claim_core.specs.Views.{Solution}
use Rattle.summary_json.specs.Answers.{read_answer}
use Rattle.summary_json.specs.Fits.{KeyFits}
use Rattle.summary_json.specs.Keys.{key_data, read_key}
use Rattle.summary_json.proofs.ObjectLaws.{two_members}
use Rattle.summary_json.proofs.ReadBack.{answer_found, answer_not_formed, key_found, key_not_formed, no_answer_found, no_key_found, one_key}
use Rattle.store_json.specs.Entries.{Fits, IsReadEntry, IsStorable}
use Rattle.store_json.specs.Laws.{SomeReading}
use Rattle.store_json.specs.Reading.{AreEntriesOf, AreValuesOf, IsEntryOf, IsJson, IsRead, IsStoreOf, IsTextOf}
use Rattle.store_json.specs.Texts.{entry_object, store_object, trailer_of, with_trailer}
use Rattle.store_json.specs.declared.reading.Unread.{Unread}
use Rattle.store_json.specs.declared.reading.Unread.TheVariants.{Trailer, Json, Format}
use Rattle.store_json.proofs.Deciding.{Decided, holds, fails, answer_is, key_is, same_bytes, same_number, test}
use Rattle.store_json.proofs.EntryLemmas.{answer_read, no_answer_read, no_entries, no_key_read, no_store_read, store_read}
use Rattle.store_json.proofs.ShapeLemmas.{count_of, no_number_there, other_format, two_shape, unnamed_entry, unnamed_store}
use Rattle.store_json.proofs.TrailerLemmas.{no_text_found, text_found, too_short}

-- there is one, or there is none
abbrev OneOrNone : {A : Type 0} → (Option A → Type 0) → Type 0
OneOrNone {A = A} R = ((a : A) × R (Some a)) ⊎ R None

no_some : {A : Type 0} (a : A) → None ≡ Some a → ⊥
no_some a is = cc

-- ---- texts and values

some_text : (bytes : List ℕ) → OneOrNone (IsTextOf bytes)
some_text bytes = by_length (cases_lt (length bytes) 66)
  where
    by_trailer : Decided (drop (length bytes - 66) bytes ≡ trailer_of (take (length bytes - 66) bytes)) → OneOrNone (IsTextOf bytes)
    by_trailer (holds right) =
        inl (
          take (length bytes - 66) bytes,
          text_found bytes (take (length bytes - 66) bytes) (drop (length bytes - 66) bytes)
              (length bytes - 66) refl refl right,
        )
    by_trailer (fails wrong) = inr (no_text_found bytes (take (length bytes - 66) bytes) (drop (length bytes - 66) bytes) refl refl wrong)

    by_length : (length bytes < 66) ⊎ (66 ≤ length bytes) → OneOrNone (IsTextOf bytes)
    by_length (inl short) = inr (too_short bytes short)
    by_length (inr long) = by_trailer (same_bytes (drop (length bytes - 66) bytes) (trailer_of (take (length bytes - 66) bytes)))

some_json : (text : List ℕ) → ((d : Data) × IsJson text d) ⊎ ((d : Data) → IsJson text d → ⊥)
some_json text = by_test (test (is_utf8 text)) (read text) refl
  where
    by_test : Decided (is_utf8 text ≡ true) → (o : Option Data) → read text ≡ o →
        ((d : Data) × IsJson text d) ⊎ ((d : Data) → IsJson text d → ⊥)
    by_test (holds good) (Some d) is = inl (d, (IsUtf8-from_is_utf8 text good, is))
    by_test (holds good) None is = inr (λ d json. no_some d (sym is ∙ json.1))
    by_test (fails bad) o is = inr (λ d json. bad (is_utf8-from_IsUtf8 text json.0))

-- ---- entries

some_answer : (key : Key) (x : Data) → IsStorableKey key → KeyFits key → OneOrNone (IsEntryOf (entry_object x (key_data key)))
some_answer key x formed fits = by_found (read_answer key x) refl
  where
    by_form : (answer : Answer) → read_answer key x ≡ Some answer → Decided (IsStorableAnswer key answer) →
        OneOrNone (IsEntryOf (entry_object x (key_data key)))
    by_form answer is (holds good) =
        inl (record { key = key; answer = answer }, answer_read key x answer fits (answer_found key x answer formed is good))
    by_form answer is (fails bad) = inr (no_answer_read one_key key x formed fits (answer_not_formed key x answer is bad))

    by_found : (o : Option Answer) → read_answer key x ≡ o → OneOrNone (IsEntryOf (entry_object x (key_data key)))
    by_found None is = inr (no_answer_read one_key key x formed fits (no_answer_found key x is))
    by_found (Some answer) is = by_form answer is (answer_is key answer)

some_parts : (x y : Data) → OneOrNone (IsEntryOf (entry_object x y))
some_parts x y = by_found (read_key y) refl
  where
    by_form : (key : Key) → read_key y ≡ Some key → Decided (IsStorableKey key) → OneOrNone (IsEntryOf (entry_object x y))
    by_form key is (holds good) =
        let found = key_found y key is good in
        subst (λ one. OneOrNone (IsEntryOf (entry_object x one))) found.2 (some_answer key x good found.1)
    by_form key is (fails bad) = inr (no_key_read x y (key_not_formed y key is bad))

    by_found : (o : Option Key) → read_key y ≡ o → OneOrNone (IsEntryOf (entry_object x y))
    by_found None is = inr (no_key_read x y (no_key_found y (λ key found are. no_some key (sym is ∙ found))))
    by_found (Some key) is = by_form key is (key_is key)

some_entry : (d : Data) → OneOrNone (IsEntryOf d)
some_entry d = by_names (has_names (codes "answer" ∷ codes "key" ∷ []) d) refl
  where
    by_names : (b : Bool) → has_names (codes "answer" ∷ codes "key" ∷ []) d ≡ b → OneOrNone (IsEntryOf d)
    by_names true is =
        let shape = two_shape (codes "answer") (codes "key") d is in
        subst (λ one. OneOrNone (IsEntryOf one)) (sym shape.2) (some_parts shape.0 shape.1)
    by_names false is = inr (unnamed_entry d is)

first_none : (d : Data) (ds : List Data) → IsEntryOf d None → AreEntriesOf (d ∷ ds) None
first_none d ds none [] formed fits same = cc
first_none d ds none (entry ∷ entries) formed fits same =
    none entry (All-head IsStorable entry entries formed) (All-head Fits entry entries fits) (cc)

later_none : (d : Data) (ds : List Data) → AreEntriesOf ds None → AreEntriesOf (d ∷ ds) None
later_none d ds none [] formed fits same = cc
later_none d ds none (entry ∷ entries) formed fits same =
    none entries (All-tail IsStorable entry entries formed) (All-tail Fits entry entries fits) (cc)

some_entries : (ds : List Data) → OneOrNone (AreEntriesOf ds)
some_entries [] = inl ([], no_entries)
some_entries (d ∷ ds) = by_parts (some_entry d) (some_entries ds)
  where
    by_parts : OneOrNone (IsEntryOf d) → OneOrNone (AreEntriesOf ds) → OneOrNone (AreEntriesOf (d ∷ ds))
    by_parts (inl one) (inl others) =
        inl (one.0 ∷ others.0, (All-cons IsReadEntry one.0 others.0 one.1.0 others.1.0, cons_is one.1.1 others.1.1))
    by_parts (inl one) (inr none) = inr (later_none d ds none)
    by_parts (inr none) others = inr (first_none d ds none)

-- ---- stores

no_list : (x : Data) → as_list x ≡ None → (ds : List Data) → tuple ds ≡ x → ⊥
no_list x none ds same = no_some ds (sym none ∙ ap as_list (sym same) ∙ list_back ds)

some_list : (x : Data) → ((ds : List Data) × (tuple ds ≡ x)) ⊎ ((ds : List Data) → tuple ds ≡ x → ⊥)
some_list x = by_found (as_list x) refl
  where
    by_found : (o : Option (List Data)) → as_list x ≡ o → ((ds : List Data) × (tuple ds ≡ x)) ⊎ ((ds : List Data) → tuple ds ≡ x → ⊥)
    by_found None is = inr (no_list x is)
    by_found (Some ds) is = inl (ds, list_only x ds is)

first_of_two : (ds : List Data) (x y : Data) → store_object ds ≡ two_members (codes "entries") (codes "format") x y → tuple ds ≡ x
first_of_two ds x y same = some_is (tuple ds) x (ap (get (codes "entries")) same)

some_values : (x y : Data) → OneOrNone (AreValuesOf (two_members (codes "entries") (codes "format") x y))
some_values x y = by_number (option_and_then as_u64 (as_number y)) refl
  where
    by_list : y ≡ count_data 1 → ((ds : List Data) × (tuple ds ≡ x)) ⊎ ((ds : List Data) → tuple ds ≡ x → ⊥) →
        OneOrNone (AreValuesOf (two_members (codes "entries") (codes "format") x y))
    by_list one (inl found) =
        inl (found.0, ap₂ (λ (all number : Data). two_members (codes "entries") (codes "format") all number) found.1 (sym one))
    by_list one (inr none) = inr (λ ds same. none ds (first_of_two ds x y same))

    by_format : (n : ℕ) → option_and_then as_u64 (as_number y) ≡ Some n → Decided (n ≡ 1) →
        OneOrNone (AreValuesOf (two_members (codes "entries") (codes "format") x y))
    by_format n is (holds one) = by_list (count_of y n is ∙ ap count_data one) (some_list x)
    by_format n is (fails other) = inr (other_format (two_members (codes "entries") (codes "format") x y) y n refl is other)

    by_number : (o : Option ℕ) → option_and_then as_u64 (as_number y) ≡ o →
        OneOrNone (AreValuesOf (two_members (codes "entries") (codes "format") x y))
    by_number None is = inr (no_number_there (two_members (codes "entries") (codes "format") x y) y refl is)
    by_number (Some n) is = by_format n is (same_number n 1)

some_values_of : (d : Data) → OneOrNone (AreValuesOf d)
some_values_of d = by_names (has_names (codes "entries" ∷ codes "format" ∷ []) d) refl
  where
    by_names : (b : Bool) → has_names (codes "entries" ∷ codes "format" ∷ []) d ≡ b → OneOrNone (AreValuesOf d)
    by_names true is =
        let shape = two_shape (codes "entries") (codes "format") d is in
        subst (λ one. OneOrNone (AreValuesOf one)) (sym shape.2) (some_values shape.0 shape.1)
    by_names false is = inr (unnamed_store d is)

some_store : (d : Data) → OneOrNone (IsStoreOf d)
some_store d = by_values (some_values_of d)
  where
    by_entries : (ds : List Data) → AreValuesOf d (Some ds) → OneOrNone (AreEntriesOf ds) → OneOrNone (IsStoreOf d)
    by_entries ds values (inl found) = inl (found.0, store_read d ds (Some found.0) values found.1)
    by_entries ds values (inr none) = inr (store_read d ds None values none)

    by_values : OneOrNone (AreValuesOf d) → OneOrNone (IsStoreOf d)
    by_values (inl found) = by_entries found.0 found.1 (some_entries found.0)
    by_values (inr none) = inr (no_store_read d none)

-- ---- bytes

pub some_reading : SomeReading
some_reading bytes = by_text (some_text bytes)
  where
    by_store : (text : List ℕ) (d : Data) → with_trailer text ≡ bytes → IsJson text d → OneOrNone (IsStoreOf d) →
        (found : Result (List Solution) Unread) × IsRead bytes found
    by_store text d is json (inl found) = (Ok found.0, (text, d, is, json, found.1))
    by_store text d is json (inr none) = (Err Format, (text, d, is, json, none))

    by_json : (text : List ℕ) → with_trailer text ≡ bytes → ((d : Data) × IsJson text d) ⊎ ((d : Data) → IsJson text d → ⊥) →
        (found : Result (List Solution) Unread) × IsRead bytes found
    by_json text is (inl found) = by_store text found.0 is found.1 (some_store found.0)
    by_json text is (inr none) = (Err Json, (text, is, none))

    by_text : OneOrNone (IsTextOf bytes) → (found : Result (List Solution) Unread) × IsRead bytes found
    by_text (inl found) = by_json found.0 found.1 (some_json found.0)
    by_text (inr none) = (Err Trailer, none)
