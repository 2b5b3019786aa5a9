-- How the summaries of procedures are read and written, one after another.
use Rattle.std.specs.Prelude.{◌≡◌, ◌≢◌, ℕ, zero, suc, ◌<◌, ◌≤◌, ◌+◌, List, [], ◌∷◌, ◌++◌, drop, length, map, take, slice_index_or, Result}
use Rattle.std.specs.Prelude.{Ok, Err, IfErr, IsErrAnd}
use Rattle.std.specs.declared.option.Option.{Option}
use Rattle.std.specs.declared.option.Option.TheVariants.{None, Some}
use Rattle.std.proofs.Common.{refl, sym, ap, ◌∙◌, subst, arith}
use Rattle.std.proofs.lemmas.List.{append_assoc, map-append}
use Rattle.serde_json.specs.Data.{Data}
use Rattle.shape_data.specs.declared.program.Flow.{Flow}
use Rattle.shape_data.specs.declared.program.StructDef.{StructDef}
use Rattle.shape_data.specs.declared.answer.ProcSummary.{ProcSummary}
use Rattle.flow_json.specs.Forms.{go_on}
use Rattle.flow_json.specs.Unread.{IsUnread}
use Rattle.flow_json.specs.declared.unread.Unread.{Unread}
use Rattle.flow_json.specs.declared.unread.Unread.TheVariants.{NotOfForm, OutOfMemory}
use Rattle.flow_json.proofs.FormLemmas.{with_front}
use Rattle.summary_json.specs.Answers.{read_summaries, read_summary, summaries_data, summary_data}

-- ---- written: one more behind those that are
one_more_at : (structs : List StructDef) (flows : List Flow) (summaries : List ProcSummary) (place : ℕ) (flow : Flow)
    (summary : ProcSummary) → place < length flows → place < length summaries →
    summaries_data structs (take (suc place) flows) (take (suc place) summaries)
    ≡ summaries_data structs (take place flows) (take place summaries) ++ summary_data structs (slice_index_or flows place flow).params
    (slice_index_or summaries place summary) ∷ []
one_more_at structs [] summaries place flow summary few many = absurd (omega arith)
one_more_at structs (one ∷ flows) [] place flow summary few many = absurd (omega arith)
one_more_at structs (one ∷ flows) (first ∷ summaries) zero flow summary few many = refl
one_more_at structs (one ∷ flows) (first ∷ summaries) (suc place) flow summary few many =
    ap (λ others. summary_data structs one.params first ∷ others) (one_more_at structs flows summaries place flow summary (omega arith)
    (omega arith))

one_more : (structs : List StructDef) (flows : List Flow) (summaries : List ProcSummary) (place : ℕ) (flow : Flow)
    (summary : ProcSummary) → place < length flows → place < length summaries →
    summaries_data structs (take (place + 1) flows) (take (place + 1) summaries)
    ≡ summaries_data structs (take place flows) (take place summaries) ++ summary_data structs (slice_index_or flows place flow).params
    (slice_index_or summaries place summary) ∷ []
one_more structs flows summaries place flow summary few many =
    let next : place + 1 ≡ suc place = omega arith in rw next (one_more_at structs flows summaries place flow summary few many)

-- the same of what stands at a place
pub one_written : {A : Type 0} (data_of : A → Data) (structs : List StructDef) (flows : List Flow) (summaries : List ProcSummary)
    (place : ℕ) (flow : Flow) (summary : ProcSummary) (params : List (List ℕ)) →
    place < length summaries → length summaries ≡ length flows →
    summary ≡ slice_index_or summaries place summary → params ≡ (slice_index_or flows place flow).params →
    (values : List A) → map data_of values ≡ summaries_data structs (take place flows) (take place summaries) → (value : A) →
    data_of value ≡ summary_data structs params summary →
    map data_of (values ++ value ∷ []) ≡ summaries_data structs (take (place + 1) flows) (take (place + 1) summaries)
one_written data_of structs flows summaries place flow summary params within same summary_is params_is values are value is =
    map-append data_of values (value ∷ []) ∙ ap (λ front. front ++ data_of value ∷ []) are ∙
    ap (λ one. summaries_data structs (take place flows) (take place summaries) ++ one ∷ [])
    (is ∙ ap (λ ps. summary_data structs ps summary) params_is
    ∙ ap (λ one. summary_data structs (slice_index_or flows place flow).params one) summary_is)
    ∙ sym (one_more structs flows summaries place flow summary (omega arith) within)

-- at the end all are
pub all_written : (structs : List StructDef) (flows : List Flow) (summaries : List ProcSummary) (place : ℕ) → length flows ≤ place →
    length summaries ≤ place →
    summaries_data structs (take place flows) (take place summaries) ≡ summaries_data structs flows summaries
all_written structs [] summaries zero few many = refl
all_written structs [] summaries (suc place) few many = refl
all_written structs (one ∷ flows) [] zero few many = absurd (omega arith)
all_written structs (one ∷ flows) [] (suc place) few many = refl
all_written structs (one ∷ flows) (first ∷ summaries) zero few many = absurd (omega arith)
all_written structs (one ∷ flows) (first ∷ summaries) (suc place) few many =
    ap (λ others. summary_data structs one.params first ∷ others) (all_written structs flows summaries place (omega arith) (omega arith))

-- ---- read: what is still to be read stands behind what was
pub read_next : (structs : List StructDef) (before : List ProcSummary) (flow : Flow) (flows : List Flow) (d : Data) (ds : List Data)
    (summary : ProcSummary) → read_summary structs flow.params d ≡ Some summary →
    with_front before (read_summaries structs (flow ∷ flows) (d ∷ ds)) ≡ with_front (before ++ summary ∷ [])
    (read_summaries structs flows ds)
unfolding go_on
read_next structs before flow flows d ds summary is = rw is (by_others (read_summaries structs flows ds))
  where
    by_others : (others : Option (List ProcSummary)) → with_front before (go_on others (λ more. Some (summary ∷ more)))
        ≡ with_front (before ++ summary ∷ []) others
    by_others None = refl
    by_others (Some others) = ap (λ all. Some all) (sym (append_assoc before (summary ∷ []) others))

pub read_stops : (structs : List StructDef) (before : List ProcSummary) (flow : Flow) (flows : List Flow) (d : Data) (ds : List Data) →
    read_summary structs flow.params d ≡ None →
    with_front before (read_summaries structs (flow ∷ flows) (d ∷ ds)) ≡ None
unfolding go_on
read_stops structs before flow flows d ds is = rw is refl

-- where there is not one for each, nothing is read
pub other_length : (structs : List StructDef) (flows : List Flow) (ds : List Data) → length flows ≢ length ds →
    read_summaries structs flows ds ≡ None
unfolding go_on
other_length structs [] [] differ = absurd (differ refl)
other_length structs [] (d ∷ ds) differ = refl
other_length structs (flow ∷ flows) [] differ = refl
other_length structs (flow ∷ flows) (d ∷ ds) differ = by_first (read_summary structs flow.params d)
    (other_length structs flows ds (λ same. differ (ap suc same)))
  where
    by_first : (first : Option ProcSummary) → read_summaries structs flows ds ≡ None →
        go_on first (λ summary. go_on (read_summaries structs flows ds) (λ others. Some (summary ∷ others))) ≡ None
    by_first None none = refl
    by_first (Some summary) none = rw none refl

mapped_length : {A : Type 0} (data_of : A → Data) (parts : List A) → length (map data_of parts) ≡ length parts
mapped_length data_of [] = refl
mapped_length data_of (part ∷ parts) = ap suc (mapped_length data_of parts)

pub parts_differ : {A : Type 0} (data_of : A → Data) (structs : List StructDef) (flows : List Flow) (parts : List A) →
    length flows ≢ length parts → read_summaries structs flows (map data_of parts) ≡ None
parts_differ data_of structs flows parts differ = other_length structs flows (map data_of parts)
    (λ same. differ (same ∙ mapped_length data_of parts))

-- ---- the same at a place
next_read_at : (structs : List StructDef) (before : List ProcSummary) (flows : List Flow) (ds : List Data) (place : ℕ) (flow : Flow)
    (d : Data) (summary : ProcSummary) → place < length flows → place < length ds →
    read_summary structs (slice_index_or flows place flow).params (slice_index_or ds place d) ≡ Some summary →
    with_front before (read_summaries structs (drop place flows) (drop place ds))
    ≡ with_front (before ++ summary ∷ []) (read_summaries structs (drop (suc place) flows) (drop (suc place) ds))
next_read_at structs before [] ds place flow d summary few many is = absurd (omega arith)
next_read_at structs before (one ∷ flows) [] place flow d summary few many is = absurd (omega arith)
next_read_at structs before (one ∷ flows) (first ∷ ds) zero flow d summary few many is =
    read_next structs before one flows first ds summary is
next_read_at structs before (one ∷ flows) (first ∷ ds) (suc place) flow d summary few many is =
    next_read_at structs before flows ds place flow d summary (omega arith) (omega arith) is

next_stops_at : (structs : List StructDef) (before : List ProcSummary) (flows : List Flow) (ds : List Data) (place : ℕ) (flow : Flow)
    (d : Data) → place < length flows → place < length ds →
    read_summary structs (slice_index_or flows place flow).params (slice_index_or ds place d) ≡ None →
    with_front before (read_summaries structs (drop place flows) (drop place ds)) ≡ None
next_stops_at structs before [] ds place flow d few many is = absurd (omega arith)
next_stops_at structs before (one ∷ flows) [] place flow d few many is = absurd (omega arith)
next_stops_at structs before (one ∷ flows) (first ∷ ds) zero flow d few many is = read_stops structs before one flows first ds is
next_stops_at structs before (one ∷ flows) (first ∷ ds) (suc place) flow d few many is =
    next_stops_at structs before flows ds place flow d (omega arith) (omega arith) is

-- what stands at a place is of what stands there
mapped_at : {A : Type 0} (data_of : A → Data) (parts : List A) (place : ℕ) (part : A) →
    slice_index_or (map data_of parts) place (data_of part) ≡ data_of (slice_index_or parts place part)
mapped_at data_of [] place part = refl
mapped_at data_of (one ∷ parts) zero part = refl
mapped_at data_of (one ∷ parts) (suc place) part = mapped_at data_of parts place part

-- what is read of the part at a place, for the procedure there
read_at : {A : Type 0} (data_of : A → Data) (structs : List StructDef) (flows : List Flow) (parts : List A) (place : ℕ) (flow : Flow)
    (part : A) (params : List (List ℕ)) →
    part ≡ slice_index_or parts place part → params ≡ (slice_index_or flows place flow).params →
    read_summary structs (slice_index_or flows place flow).params (slice_index_or (map data_of parts) place (data_of part))
    ≡ read_summary structs params (data_of part)
read_at data_of structs flows parts place flow part params part_is params_is =
    ap (read_summary structs (slice_index_or flows place flow).params) (mapped_at data_of parts place part ∙ ap data_of (sym part_is))
    ∙ ap (λ ps. read_summary structs ps (data_of part)) (sym params_is)

-- one more is read behind those that were
pub one_read : {A : Type 0} (data_of : A → Data) (structs : List StructDef) (before after : List ProcSummary) (flows : List Flow)
    (parts : List A) (place : ℕ) (flow : Flow) (part : A)
    (params : List (List ℕ)) (summary : ProcSummary) → place < length flows → length flows ≡ length parts →
    part ≡ slice_index_or parts place part → params ≡ (slice_index_or flows place flow).params →
    read_summary structs params (data_of part) ≡ Some summary → after ≡ before ++ summary ∷ [] →
    with_front before (read_summaries structs (drop place flows) (drop place (map data_of parts)))
    ≡ read_summaries structs flows (map data_of parts) →
    with_front after (read_summaries structs (drop (place + 1) flows) (drop (place + 1) (map data_of parts)))
    ≡ read_summaries structs flows (map data_of parts)
one_read data_of structs before after flows parts place flow part params summary within same part_is params_is is more so_far =
    let lengths : length (map data_of parts) ≡ length parts = mapped_length data_of parts in
    let next : place + 1 ≡ suc place = omega arith in
    rw (next, more) (sym (next_read_at structs before flows (map data_of parts) place flow (data_of part) summary within (omega arith)
    (read_at data_of structs flows parts place flow part params part_is params_is ∙ is)) ∙ so_far)

-- where one is not read, nothing is
pub one_stops : {A : Type 0} (data_of : A → Data) (structs : List StructDef) (before : List ProcSummary) (flows : List Flow)
    (parts : List A) (place : ℕ) (flow : Flow) (part : A)
    (params : List (List ℕ)) → place < length flows → length flows ≡ length parts →
    part ≡ slice_index_or parts place part → params ≡ (slice_index_or flows place flow).params →
    with_front before (read_summaries structs (drop place flows) (drop place (map data_of parts)))
    ≡ read_summaries structs flows (map data_of parts) →
    (fault : Unread) → IsUnread fault (read_summary structs params (data_of part)) →
    IsUnread fault (read_summaries structs flows (map data_of parts))
one_stops data_of structs before flows parts place flow part params within same part_is params_is so_far NotOfForm none =
    let lengths : length (map data_of parts) ≡ length parts = mapped_length data_of parts in
    sym so_far ∙ next_stops_at structs before flows (map data_of parts) place flow (data_of part) within (omega arith)
    (read_at data_of structs flows parts place flow part params part_is params_is ∙ none)
one_stops data_of structs before flows parts place flow part params within same part_is params_is so_far OutOfMemory none = tt

-- an exit of `?`
pub err_is : {A E : Type 0} (P : E → Type 0) (r : Result A E) (e : E) → IsErrAnd r (λ y. y ≡ e) → P e → IfErr r P
err_is P (Ok x) e exit h = absurd exit
err_is P (Err y) e exit h = subst P (sym exit) h
