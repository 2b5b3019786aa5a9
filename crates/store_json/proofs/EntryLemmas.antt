-- How entries are read of values, and why none is.
use Rattle.std.specs.Prelude.{◌≡◌, ℕ, ◌+◌, ◌<◌, ◌≤◌, codes, List, [], ◌∷◌, ◌++◌, drop, get_or, length, map, take}
use Rattle.std.specs.declared.option.Option.{Option}
use Rattle.std.specs.declared.option.Option.TheVariants.{None, Some}
use Rattle.std.proofs.Common.{refl, sym, ap, ◌∙◌, subst}
use Rattle.std.proofs.lemmas.List.{drop_more, map-append, map_more, take-append-drop, take_all}
use Rattle.std.proofs.lemmas.List.Elements.{All-append, All-cons, All-head, All-nil, All-tail}
use Rattle.serde_json.specs.Data.{Data}
use Rattle.serde_json.specs.Find.{get}
use Rattle.serde_json.specs.View.{view}
use Rattle.serde_json.specs.declared.value.Value.{Value}
use Rattle.flow_json.specs.Forms.{as_list, tuple}
use Rattle.flow_json.proofs.InverseLemmas.{list_back, some_is}
use Rattle.shape_data.specs.declared.answer.Answer.{Answer}
use Rattle.shape_data.specs.declared.answer.Kept.{Kept}
use Rattle.shape_data.specs.declared.answer.Key.{Key}
use Rattle.shape_data.specs.WellFormed.{IsStorableKey}
use Rattle.claim_core.specs.Views.{Solution, solution_of}
use Rattle.summary_json.specs.Answers.{answer_data}
use Rattle.summary_json.specs.Fits.{KeyFits}
use Rattle.summary_json.specs.Keys.{key_data}
use Rattle.summary_json.specs.Laws.{IsReadAnswer, IsReadKey, OneKey}
use Rattle.store_json.specs.Entries.{Fits, IsReadEntry, IsStorable}
use Rattle.store_json.specs.Reading.{AreEntriesOf, AreValuesOf, IsEntryOf, IsStoreOf}
use Rattle.store_json.specs.Texts.{entry_data, entry_object, store_object}

-- ---- one entry

pub answer_read : (key : Key) (d : Data) (answer : Answer) → KeyFits key → IsReadAnswer key d (Some answer) →
    IsEntryOf (entry_object d (key_data key)) (Some (record { key = key; answer = answer }))
answer_read key d answer fits is = (
  record {
    storable = record { key = is.0; answer = is.1 };
    fits = record { key = fits; answer = is.2 };
    stored = is.3;
  },
  ap (λ one. entry_object one (key_data key)) is.4,
)

pub answer_there : (one other key : Data) (d : Data) → entry_object one key ≡ entry_object d other → (one ≡ d) × (key ≡ other)
answer_there one other key d same = (
  some_is one d (ap (get (codes "answer")) same),
  some_is key other (ap (get (codes "key")) same),
)

pub no_answer_read : OneKey → (key : Key) (d : Data) → IsStorableKey key → KeyFits key → IsReadAnswer key d None →
    IsEntryOf (entry_object d (key_data key)) None
no_answer_read one_key key d formed fits none entry storable fit same =
    let parts = answer_there (answer_data entry.key entry.answer) (key_data key) (key_data entry.key) d same in
    let is : key ≡ entry.key = one_key key entry.key fits fit.key formed storable.key (sym parts.1) in
    let never = subst (λ (one : Key). IsReadAnswer one d None) is none in
    never fit.key storable.key entry.answer fit.answer storable.answer parts.0

pub no_key_read : (answer d : Data) → IsReadKey d None → IsEntryOf (entry_object answer d) None
no_key_read answer d none entry storable fit same =
    let parts = answer_there (answer_data entry.key entry.answer) d (key_data entry.key) answer same in
    none entry.key fit.key storable.key parts.1

-- ---- several

pub no_entries : AreEntriesOf [] (Some [])
no_entries = (All-nil IsReadEntry, refl)

pub one_more : (ds : List Data) (d : Data) (entries : List Solution) (entry : Solution) → AreEntriesOf ds (Some entries) →
    IsEntryOf d (Some entry) → AreEntriesOf (ds ++ d ∷ []) (Some (entries ++ entry ∷ []))
one_more ds d entries entry before is = (
  All-append IsReadEntry entries (entry ∷ []) before.0 (All-cons IsReadEntry entry [] is.0 (All-nil IsReadEntry)),
  map-append entry_data entries (entry ∷ []) ∙ ap (λ front. front ++ entry_data entry ∷ []) before.1
      ∙ ap (λ one. ds ++ one ∷ []) is.1,
)

-- where one of the values is that of no entry, the values are those of none
pub stops : (front : List Data) (d : Data) (back : List Data) → IsEntryOf d None → AreEntriesOf (front ++ d ∷ back) None
stops [] d back none [] storable fits same = cc
stops [] d back none (entry ∷ entries) storable fits same =
    none entry (All-head IsStorable entry entries storable) (All-head Fits entry entries fits) (cc)
stops (one ∷ front) d back none [] storable fits same = cc
stops (one ∷ front) d back none (entry ∷ entries) storable fits same =
    stops front d back none entries (All-tail IsStorable entry entries storable) (All-tail Fits entry entries fits) (cc)

-- ---- a turn of the loop over the values

pub turn : (values : List Value) (i : ℕ) (value : Value) (before after : List Kept) (kept : Kept) → i < length values →
    value ≡ get_or values i value → after ≡ before ++ kept ∷ [] → AreEntriesOf (map view (take i values)) (Some (map solution_of before)) →
    IsEntryOf (view value) (Some (solution_of kept)) → AreEntriesOf (map view (take (i + 1) values)) (Some (map solution_of after))
turn values i value before after kept within at new so_far is =
    let all : map view (take (i + 1) values) ≡ map view (take i values) ++ view value ∷ [] =
    map_more view values i value within ∙ ap (λ one. map view (take i values) ++ view one ∷ []) (sym at) in
    let found : map solution_of after ≡ map solution_of before ++ solution_of kept ∷ [] =
    ap (map solution_of) new ∙ map-append solution_of before (kept ∷ []) in
    rw (all, found) (one_more (map view (take i values)) (view value) (map solution_of before) (solution_of kept) so_far is)

pub turn_stops : (values : List Value) (i : ℕ) (value : Value) → i < length values → value ≡ get_or values i value →
    IsEntryOf (view value) None → AreEntriesOf (map view values) None
turn_stops values i value within at none =
    let here : drop i values ≡ value ∷ drop (i + 1) values =
    drop_more values i value within ∙ ap (λ one. one ∷ drop (i + 1) values) (sym at) in
    let all : map view values ≡ map view (take i values) ++ view value ∷ map view (drop (i + 1) values) =
    ap (map view) (sym (take-append-drop i values) ∙ ap (λ back. take i values ++ back) here)
    ∙ map-append view (take i values) (value ∷ drop (i + 1) values) in
    rw all (stops (map view (take i values)) (view value) (map view (drop (i + 1) values)) none)

pub all_turned : (values : List Value) (i : ℕ) (found : List Kept) → length values ≤ i →
    AreEntriesOf (map view (take i values)) (Some (map solution_of found)) → AreEntriesOf (map view values) (Some (map solution_of found))
all_turned values i found over so_far = rw (take_all i values over) at so_far

-- what the loop over the values stands on
pub ruleset turns = (all_turned, no_entries, turn, turn_stops)

-- ---- the values of a store

pub one_list : (ds es : List Data) → store_object ds ≡ store_object es → ds ≡ es
one_list ds es same =
    let arrays : tuple ds ≡ tuple es = some_is (tuple ds) (tuple es) (ap (get (codes "entries")) same) in
    some_is ds es (sym (list_back ds) ∙ ap as_list arrays ∙ list_back es)

pub store_read : (d : Data) (ds : List Data) (found : Option (List Solution)) → AreValuesOf d (Some ds) → AreEntriesOf ds found →
    IsStoreOf d found
store_read d ds (Some entries) values are = (are.0, ap store_object are.1 ∙ values)
store_read d ds None values none =
    λ entries storable fits same. none entries storable fits (one_list (map entry_data entries) ds (same ∙ sym values))

pub no_store_read : (d : Data) → AreValuesOf d None → IsStoreOf d None
no_store_read d none entries storable fits same = none (map entry_data entries) same

-- ---- what is written of entries

pub each_written : (entries : List Kept) →
    map entry_data (map solution_of entries) ≡ map (λ (kept : Kept). entry_data (solution_of kept)) entries
each_written [] = refl
each_written (kept ∷ entries) = ap (λ others. entry_data (solution_of kept) ∷ others) (each_written entries)
