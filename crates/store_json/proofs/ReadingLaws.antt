-- Bytes are read in one way alone: each step to the entries is.
use Rattle.std.specs.Prelude.{◌≡◌, ℕ, Bool, List, [], ◌∷◌, length, map, take, All}
use Rattle.std.specs.declared.result.Result.TheVariants.{Ok, Err}
use Rattle.std.specs.declared.option.Option.TheVariants.{None, Some}
use Rattle.std.proofs.Common.{refl, sym, ap, ◌∙◌, subst, arith}
use Rattle.std.proofs.lemmas.List.{take_at}
use Rattle.std.proofs.lemmas.List.Elements.{All-head, All-tail, All-weaker}
use Rattle.serde_json.specs.Data.{Data}
use Rattle.flow_json.proofs.InverseLemmas.{cons_is, some_is}
use Rattle.shape_data.specs.declared.answer.Key.{Key}
use Rattle.shape_data.specs.declared.answer.ProcSummary.{ProcSummary}
use Rattle.shape_data.specs.WellFormed.{IsStorableAnswer}
use Rattle.claim_core.specs.Views.{Solution}
use Rattle.summary_json.specs.Answers.{answer_data}
use Rattle.summary_json.specs.Keys.{key_data}
use Rattle.summary_json.specs.Laws.{OneAnswer, OneKey}
use Rattle.store_json.specs.Entries.{Fits, IsReadEntry, IsStorable}
use Rattle.store_json.specs.Laws.{OneReading}
use Rattle.store_json.specs.Reading.{IsJson, IsStoreOf}
use Rattle.store_json.specs.Texts.{entry_data, trailer_of, with_trailer}
use Rattle.store_json.specs.declared.reading.Unread.TheVariants.{Trailer, Json, Format}
use Rattle.store_json.proofs.EntryLemmas.{answer_there, one_list}
use Rattle.store_json.proofs.TrailerLemmas.{length-with_trailer}

one_text : (bytes one other : List ℕ) → with_trailer one ≡ bytes → with_trailer other ≡ bytes → one ≡ other
one_text bytes one other is so =
    let first = length-with_trailer one bytes is in
    let second = length-with_trailer other bytes so in
    let same : length other ≡ length one = omega (arith, first, second) in
    sym (take_at one (trailer_of one) (length one) refl) ∙ ap (take (length one)) (is ∙ sym so)
    ∙ take_at other (trailer_of other) (length one) same

one_json : (text : List ℕ) (d e : Data) → IsJson text d → IsJson text e → d ≡ e
one_json text d e is so = some_is d e (sym is.1 ∙ so.1)

-- ---- entries

abbrev solution_with : Key → Bool → List ProcSummary → Solution
solution_with key stored procs = record { key = key; answer = record { stored = stored; procs = procs } }

solution : (one other : Solution) → one.key ≡ other.key → one.answer.stored ≡ other.answer.stored → one.answer.procs ≡ other.answer.procs →
    one ≡ other
solution one other key stored procs =
    ap (λ k. solution_with k one.answer.stored one.answer.procs) key ∙ ap (λ mark. solution_with other.key mark one.answer.procs) stored
    ∙ ap (λ all. solution_with other.key other.answer.stored all) procs

one_entry : OneKey → OneAnswer → (one other : Solution) → IsReadEntry one → IsReadEntry other → entry_data one ≡ entry_data other →
    one ≡ other
one_entry one_key one_answer one other is so same =
    let parts =
    answer_there (answer_data one.key one.answer) (key_data other.key) (key_data one.key) (answer_data other.key other.answer) same in
    let key : one.key ≡ other.key =
    one_key one.key other.key is.fits.key so.fits.key is.storable.key so.storable.key parts.1 in
    let answer : answer_data one.key one.answer ≡ answer_data one.key other.answer =
    parts.0 ∙ ap (λ (k : Key). answer_data k other.answer) (sym key) in
    let formed = subst (λ (k : Key). IsStorableAnswer k other.answer) (sym key) so.storable.answer in
    solution one other key (is.stored ∙ sym so.stored)
    (one_answer one.key one.answer other.answer is.fits.key is.storable.key is.fits.answer so.fits.answer is.storable.answer formed answer)

one_store : OneKey → OneAnswer → (one other : List Solution) → All IsReadEntry one → All IsReadEntry other →
    map entry_data one ≡ map entry_data other → one ≡ other
one_store one_key one_answer [] [] is so same = refl
one_store one_key one_answer [] (entry ∷ entries) is so same = cc
one_store one_key one_answer (entry ∷ entries) [] is so same = cc
one_store one_key one_answer (one ∷ entries) (other ∷ others) is so same =
    cons_is (one_entry one_key one_answer one other (All-head IsReadEntry one entries is) (All-head IsReadEntry other others so) (cc))
    (one_store one_key one_answer entries others (All-tail IsReadEntry one entries is) (All-tail IsReadEntry other others so) (cc))

-- ---- what excludes one another

no_text : (P : Type 0) (bytes text : List ℕ) → with_trailer text ≡ bytes → ((text : List ℕ) → with_trailer text ≡ bytes → ⊥) → P
no_text P bytes text is none = absurd (none text is)

no_json : (P : Type 0) (bytes one other : List ℕ) (d : Data) → with_trailer one ≡ bytes → IsJson one d → with_trailer other ≡ bytes →
    ((d : Data) → IsJson other d → ⊥) → P
no_json P bytes one other d is json so none =
    absurd (none d (subst (λ text. IsJson text d) (one_text bytes one other is so) json))

-- the value that two readings of the same bytes have in common
one_value : (bytes one other : List ℕ) (d e : Data) → with_trailer one ≡ bytes → IsJson one d → with_trailer other ≡ bytes →
    IsJson other e → d ≡ e
one_value bytes one other d e is json so other_json =
    one_json one d e json (subst (λ text. IsJson text e) (sym (one_text bytes one other is so)) other_json)

no_store : (P : Type 0) (d e : Data) (entries : List Solution) → d ≡ e → IsStoreOf d (Some entries) → IsStoreOf e None → P
no_store P d e entries same is none =
    absurd (none entries (All-weaker IsReadEntry IsStorable (λ entry it. it.storable) entries is.0)
    (All-weaker IsReadEntry Fits (λ entry it. it.fits) entries is.0) (is.1 ∙ same))

pub one_reading : OneKey → OneAnswer → OneReading
one_reading one_key one_answer bytes (Ok one) (Ok other) is so =
    let value = one_value bytes is.0 so.0 is.1 so.1 is.2 is.3 so.2 so.3 in
    ap Ok (one_store one_key one_answer one other is.4.0 so.4.0
    (one_list (map entry_data one) (map entry_data other) (is.4.1 ∙ value ∙ sym so.4.1)))
one_reading one_key one_answer bytes (Ok one) (Err Trailer) is so = no_text _ bytes is.0 is.2 so
one_reading one_key one_answer bytes (Ok one) (Err Json) is so = no_json _ bytes is.0 so.0 is.1 is.2 is.3 so.1 so.2
one_reading one_key one_answer bytes (Ok one) (Err Format) is so =
    no_store _ is.1 so.1 one (one_value bytes is.0 so.0 is.1 so.1 is.2 is.3 so.2 so.3) is.4 so.4
one_reading one_key one_answer bytes (Err Trailer) (Ok other) is so = no_text _ bytes so.0 so.2 is
one_reading one_key one_answer bytes (Err Trailer) (Err Trailer) is so = refl
one_reading one_key one_answer bytes (Err Trailer) (Err Json) is so = no_text _ bytes so.0 so.1 is
one_reading one_key one_answer bytes (Err Trailer) (Err Format) is so = no_text _ bytes so.0 so.2 is
one_reading one_key one_answer bytes (Err Json) (Ok other) is so = no_json _ bytes so.0 is.0 so.1 so.2 so.3 is.1 is.2
one_reading one_key one_answer bytes (Err Json) (Err Trailer) is so = no_text _ bytes is.0 is.1 so
one_reading one_key one_answer bytes (Err Json) (Err Json) is so = refl
one_reading one_key one_answer bytes (Err Json) (Err Format) is so = no_json _ bytes so.0 is.0 so.1 so.2 so.3 is.1 is.2
one_reading one_key one_answer bytes (Err Format) (Ok other) is so =
    no_store _ so.1 is.1 other (one_value bytes so.0 is.0 so.1 is.1 so.2 so.3 is.2 is.3) so.4 is.4
one_reading one_key one_answer bytes (Err Format) (Err Trailer) is so = no_text _ bytes is.0 is.2 so
one_reading one_key one_answer bytes (Err Format) (Err Json) is so = no_json _ bytes is.0 so.0 is.1 is.2 is.3 so.1 so.2
one_reading one_key one_answer bytes (Err Format) (Err Format) is so = refl
