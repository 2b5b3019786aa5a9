-- The shapes of entries and of stores.
use Rattle.std.specs.Prelude.{◌≡◌, ℕ, Bool, true, false, if◌then◌else◌, codes, List, [], ◌∷◌, option_and_then}
use Rattle.std.specs.declared.option.Option.{Option}
use Rattle.std.specs.declared.option.Option.TheVariants.{None, Some}
use Rattle.std.proofs.Common.{refl, sym, ap, ◌∙◌, true≢false}
use Rattle.serde_json.specs.Data.{unsigned, negative, float, Data, null, boolean, number, string, array, object, Items}
use Rattle.serde_json.specs.Find.{as_array, as_number, as_u64, get}
use Rattle.serde_json.specs.View.{items_of}
use Rattle.flow_json.specs.Forms.{count_data, has_names, tuple}
use Rattle.flow_json.proofs.InverseLemmas.{some_is}
use Rattle.summary_json.proofs.ObjectLaws.{read_of_two, two_members}
use Rattle.store_json.specs.Reading.{AreValuesOf, IsEntryOf}
use Rattle.store_json.specs.Texts.{entry_object}

if_true : {A : Type 0} (b : Bool) (x : Option A) → b ≡ true → (if b then x else None) ≡ x
if_true true x is = refl
if_true false x is = cc

-- an object with these two members
pub two_shape : (a b : List ℕ) (d : Data) → has_names (a ∷ b ∷ []) d ≡ true → (x : Data) × (y : Data) × (d ≡ two_members a b x y)
two_shape a b d named =
    let found = read_of_two a b (λ (one : Data). Some one) d d (if_true (has_names (a ∷ b ∷ []) d) (Some d) named) in
    (found.0, found.1, found.2)

-- ---- entries

pub entry_shape : (d answer key : Data) → has_names (codes "answer" ∷ codes "key" ∷ []) d ≡ true → get (codes "answer") d ≡ Some answer →
    get (codes "key") d ≡ Some key → entry_object answer key ≡ d
entry_shape d answer key named first second =
    let shape = two_shape (codes "answer") (codes "key") d named in
    let one : answer ≡ shape.0 = some_is answer shape.0 (sym first ∙ ap (get (codes "answer")) shape.2) in
    let two : key ≡ shape.1 = some_is key shape.1 (sym second ∙ ap (get (codes "key")) shape.2) in
    ap (λ x. entry_object x key) one ∙ ap (λ y. entry_object shape.0 y) two ∙ sym shape.2

pub unnamed_entry : (d : Data) → has_names (codes "answer" ∷ codes "key" ∷ []) d ≡ false → IsEntryOf d None
unnamed_entry d unnamed entry storable fits same =
    true≢false (ap (has_names (codes "answer" ∷ codes "key" ∷ [])) same ∙ unnamed)

no_some : {A : Type 0} (thing : A) → Some thing ≡ None → ⊥
no_some thing is = cc

pub no_answer_there : (d : Data) → get (codes "answer") d ≡ None → IsEntryOf d None
no_answer_there d none entry storable fits same = no_some _ (ap (get (codes "answer")) same ∙ none)

pub no_key_there : (d : Data) → get (codes "key") d ≡ None → IsEntryOf d None
no_key_there d none entry storable fits same = no_some _ (ap (get (codes "key")) same ∙ none)

-- ---- stores

array_of : (d : Data) (items : Items) → as_array d ≡ Some items → d ≡ array items
array_of null items is = cc
array_of (boolean b) items is = cc
array_of (number n) items is = cc
array_of (string s) items is = cc
array_of (array all) items is = ap array (some_is all items is)
array_of (object ms) items is = cc

pub count_of : (d : Data) (n : ℕ) → option_and_then as_u64 (as_number d) ≡ Some n → d ≡ count_data n
count_of null n is = cc
count_of (boolean b) n is = cc
count_of (number (unsigned m)) n is = ap count_data (some_is m n is)
count_of (number (negative z)) n is = cc
count_of (number (float x)) n is = cc
count_of (string s) n is = cc
count_of (array all) n is = cc
count_of (object ms) n is = cc

pub store_shape : (d format entries : Data) (n : ℕ) (ds : List Data) → has_names (codes "entries" ∷ codes "format" ∷ []) d ≡ true →
    get (codes "format") d ≡ Some format → option_and_then as_u64 (as_number format) ≡ Some n → n ≡ 1 →
    get (codes "entries") d ≡ Some entries → as_array entries ≡ Some (items_of ds) → AreValuesOf d (Some ds)
store_shape d format entries n ds named second number_is one first array_is =
    let shape = two_shape (codes "entries") (codes "format") d named in
    let x : tuple ds ≡ shape.0 = sym (array_of entries (items_of ds) array_is)
    ∙ some_is entries shape.0 (sym first ∙ ap (get (codes "entries")) shape.2) in
    let y : count_data 1 ≡ shape.1 = ap count_data (sym one) ∙ sym (count_of format n number_is)
    ∙ some_is format shape.1 (sym second ∙ ap (get (codes "format")) shape.2) in
    ap (λ all. two_members (codes "entries") (codes "format") all (count_data 1)) x
    ∙ ap (λ one. two_members (codes "entries") (codes "format") shape.0 one) y ∙ sym shape.2

pub unnamed_store : (d : Data) → has_names (codes "entries" ∷ codes "format" ∷ []) d ≡ false → AreValuesOf d None
unnamed_store d unnamed ds same = true≢false (ap (has_names (codes "entries" ∷ codes "format" ∷ [])) same ∙ unnamed)

pub no_format_there : (d : Data) → get (codes "format") d ≡ None → AreValuesOf d None
no_format_there d none ds same = no_some _ (ap (get (codes "format")) same ∙ none)

pub no_number_there : (d format : Data) → get (codes "format") d ≡ Some format → option_and_then as_u64 (as_number format) ≡ None →
    AreValuesOf d None
no_number_there d format is none ds same =
    no_some _ (ap (λ one. option_and_then as_u64 (as_number one)) (some_is (count_data 1) format (ap (get (codes "format")) same ∙ is))
    ∙ none)

pub other_format : (d format : Data) (n : ℕ) → get (codes "format") d ≡ Some format → option_and_then as_u64 (as_number format) ≡ Some n →
    (n ≡ 1 → ⊥) → AreValuesOf d None
other_format d format n is number_is other ds same =
    other (sym (some_is 1 n (ap (λ one. option_and_then as_u64 (as_number one))
    (some_is (count_data 1) format (ap (get (codes "format")) same ∙ is)) ∙ number_is)))

pub no_entries_there : (d : Data) → get (codes "entries") d ≡ None → AreValuesOf d None
no_entries_there d none ds same = no_some _ (ap (get (codes "entries")) same ∙ none)

pub no_array_there : (d entries : Data) → get (codes "entries") d ≡ Some entries → as_array entries ≡ None → AreValuesOf d None
no_array_there d entries is none ds same =
    no_some _ (ap as_array (some_is (tuple ds) entries (ap (get (codes "entries")) same ∙ is)) ∙ none)

-- what the code that takes an entry apart stands on, and the code that takes a store apart
pub ruleset entry_shapes = (entry_shape, no_answer_there, no_key_there, unnamed_entry)

pub ruleset store_shapes = (no_array_there, no_entries_there, no_format_there, no_number_there, other_format, store_shape, unnamed_store)
