-- What putting and dropping a file does to a list of files with marks, place by place, and to the files without their marks.
use Rattle.std.proofs.Common.{◌≡◌, ℕ, ◌+◌, ◌-◌, ◌<◌, ◌≤◌, Bool, true, false, ltb, leb, List, [], ◌∷◌, length, get_or, set, Option, Some}
use Rattle.std.proofs.Common.{None, Result, Ok, Err, OnOk, OnErr, refl, sym, ap, ◌∙◌, subst, inl, inr, arith}
use Rattle.std.specs.List.{position_or_len, position, insert, remove, sum_by, list_any}
use Rattle.std.specs.Prelude.{map, not, IfErr, IsErrAnd, ◌&&◌, ◌⊎◌, if◌then◌else◌}
use Rattle.std.proofs.lemmas.Bool.{lt-ltb, le-ltb, le-leb, lt-leb, ltb-false, leb-false}
use Rattle.std.proofs.lemmas.List.Sums.{sum_by-cons, sum_by-set, sum_by-insert}
use Rattle.project_form.specs.Files.{SourceFile, AreFiles, MOST_BYTES, MOST_FILES, MOST_FILE_BYTES, bytes_of, has_file, is_named}
use Rattle.project_form.specs.Files.{put_refusal, source, stands_before, text_length, with_file, with_text, without_file}
use Rattle.project_form.specs.Kept.{KeptFile, is_kept_named, kept_length, new_file, source_of, sources_of, stands_before_kept, with_bytes}
use Rattle.project_form.specs.Kept.{with_kept, without_kept}
use Rattle.project_form.proofs.FirstPassing as firsts

pub bytes-kept : (files : List KeptFile) → bytes_of (sources_of files) ≡ sum_by kept_length files
bytes-kept [] = refl
bytes-kept (kept ∷ files) = sum_by-cons text_length kept.file (sources_of files) ∙ ap (λ n. kept_length kept + n) (bytes-kept files)
    ∙ sym (sum_by-cons kept_length kept files)

-- WHERE A FILE STANDS

module _ (name : List ℕ) (files : List KeptFile) where
  has-kept : has_file name (sources_of files) ≡ list_any (is_kept_named name) files
  has-kept = firsts.any-map source_of (is_kept_named name) (is_named name) (λ k. refl) files

  pub there-has : (place : ℕ) → position (is_kept_named name) files ≡ Some place → has_file name (sources_of files) ≡ true
  there-has place there =
      let found = firsts.place-found (is_kept_named name) files place there in
      let inside : position_or_len (is_kept_named name) files < length files = rw found.0 found.1 in
      has-kept ∙ firsts.found-any (is_kept_named name) files inside

  pub none-has : position (is_kept_named name) files ≡ None → has_file name (sources_of files) ≡ false
  none-has nowhere = has-kept ∙ firsts.none-any (is_kept_named name) files (firsts.place-none (is_kept_named name) files nowhere)

  -- without the marks, the files are those that are put and dropped
  pub with_kept-sources : (bytes : List ℕ) → sources_of (with_kept name bytes files) ≡ with_file name bytes (sources_of files)
  with_kept-sources bytes = by (has_file name (sources_of files)) refl
    where
      by : (b : Bool) → has_file name (sources_of files) ≡ b
          → sources_of (with_kept name bytes files) ≡ with_file name bytes (sources_of files)
      by true is =
          rw is (firsts.changed-map source_of (is_kept_named name) (is_named name) (λ k. refl) (with_bytes bytes) (with_text bytes)
          (λ k. refl) files)
      by false is =
          rw is (firsts.inserted-map source_of (stands_before_kept name) (stands_before name) (λ k. refl) (new_file name bytes) files)

  pub without_kept-sources : sources_of (without_kept name files) ≡ without_file name (sources_of files)
  without_kept-sources = firsts.without-map source_of (is_kept_named name) (is_named name) (λ k. refl) files

  -- PUTTING

  -- a file that is there has other bytes
  pub replaced-is : (bytes : List ℕ) (place : ℕ) (d : KeptFile) → position (is_kept_named name) files ≡ Some place
      → with_kept name bytes files ≡ set files place (with_bytes bytes (get_or files place d))
  replaced-is bytes place d there =
      let found = firsts.place-found (is_kept_named name) files place there in
      let has = there-has place there in
      rw has (firsts.changed-at (is_kept_named name) (with_bytes bytes) files place d found.0 found.1)

  -- a file more
  pub inserted-is : (bytes : List ℕ) → position (is_kept_named name) files ≡ None
      → with_kept name bytes files ≡ insert files (position_or_len (stands_before_kept name) files) (new_file name bytes)
  inserted-is bytes nowhere =
      let has = none-has nowhere in
      rw has (firsts.inserted-at (stands_before_kept name) (new_file name bytes) files
      (position_or_len (stands_before_kept name) files) refl)

  -- DROPPING

  pub dropped-is : (place : ℕ) → position (is_kept_named name) files ≡ Some place → without_kept name files ≡ remove files place
  dropped-is place there =
      let found = firsts.place-found (is_kept_named name) files place there in
      firsts.without-at (is_kept_named name) files place found.0 found.1

  pub not_there-is : position (is_kept_named name) files ≡ None → without_kept name files ≡ files
  not_there-is nowhere = firsts.without-none (is_kept_named name) files (firsts.place-none (is_kept_named name) files nowhere)

  -- HOW MANY BYTES

  with-bytes_of : (bytes : List ℕ) → bytes_of (with_file name bytes (sources_of files)) ≡ sum_by kept_length (with_kept name bytes files)
  with-bytes_of bytes = ap bytes_of (sym (with_kept-sources bytes)) ∙ bytes-kept (with_kept name bytes files)

  pub replaced-bytes : (bytes : List ℕ) (place : ℕ) (d : KeptFile) → position (is_kept_named name) files ≡ Some place
      → bytes_of (with_file name bytes (sources_of files)) + length (get_or files place d).file.bytes
      ≡ bytes_of (sources_of files) + length bytes
  replaced-bytes bytes place d there =
      let found = firsts.place-found (is_kept_named name) files place there in
      let all = with-bytes_of bytes ∙ ap (sum_by kept_length) (replaced-is bytes place d there) in
      let changed = sum_by-set kept_length files place (with_bytes bytes (get_or files place d)) d found.1 in
      let before = bytes-kept files in
      omega (arith, all, changed, before)

  pub inserted-bytes : (bytes : List ℕ) → position (is_kept_named name) files ≡ None
      → bytes_of (with_file name bytes (sources_of files)) ≡ bytes_of (sources_of files) + length bytes
  inserted-bytes bytes nowhere =
      let all = with-bytes_of bytes ∙ ap (sum_by kept_length) (inserted-is bytes nowhere) in
      let more = sum_by-insert kept_length files (position_or_len (stands_before_kept name) files) (new_file name bytes) in
      let before = bytes-kept files in
      omega (arith, all, more, before)

-- WHAT IS REFUSED

-- which of the tests of a put is the first to fail
if_first : {A : Type 0} (b : Bool) (one other : A) → b ≡ true → if b then one else other ≡ one
if_first b one other is = rw is refl

if_second : {A : Type 0} (b : Bool) (one other : A) → b ≡ false → if b then one else other ≡ other
if_second b one other is = rw is refl

module _ (name bytes : List ℕ) (files : List SourceFile) where
  pub refused-long : MOST_FILE_BYTES < length bytes → put_refusal name bytes files ≡ Some 143
  refused-long long = let is = lt-ltb MOST_FILE_BYTES (length bytes) long in if_first (ltb MOST_FILE_BYTES (length bytes)) _ _ is

  abbrev behind_long : Option ℕ
  behind_long = if not (has_file name files) && leb MOST_FILES (length files) then Some 141
      else (if ltb MOST_BYTES (bytes_of (with_file name bytes files)) then Some 144 else None)

  not_long : length bytes ≤ MOST_FILE_BYTES → put_refusal name bytes files ≡ behind_long
  not_long short = if_second (ltb MOST_FILE_BYTES (length bytes)) _ _ (le-ltb MOST_FILE_BYTES (length bytes) short)

  pub refused-many : length bytes ≤ MOST_FILE_BYTES → has_file name files ≡ false → MOST_FILES ≤ length files
      → put_refusal name bytes files ≡ Some 141
  refused-many short fresh many = not_long short ∙ (let full = le-leb MOST_FILES (length files) many in rw (fresh, full) refl)

  -- the place suffices: only the bytes of all may be too many
  abbrev HasPlace : Type 0
  HasPlace = (has_file name files ≡ true) ⊎ (length files < MOST_FILES)

  placed : HasPlace → (not (has_file name files) && leb MOST_FILES (length files)) ≡ false
  placed (inl there) = rw there refl
  placed (inr few) = let is = lt-leb MOST_FILES (length files) few in rw is (and_false (not (has_file name files)))
    where
      and_false : (b : Bool) → (b && false) ≡ false
      and_false true = refl
      and_false false = refl

  pub refused-full : length bytes ≤ MOST_FILE_BYTES → HasPlace → MOST_BYTES < bytes_of (with_file name bytes files)
      → put_refusal name bytes files ≡ Some 144
  refused-full short place much =
      let is = lt-ltb MOST_BYTES (bytes_of (with_file name bytes files)) much in
      not_long short ∙ if_second _ _ _ (placed place) ∙ if_first (ltb MOST_BYTES (bytes_of (with_file name bytes files))) _ _ is

  pub not_refused : length bytes ≤ MOST_FILE_BYTES → HasPlace → bytes_of (with_file name bytes files) ≤ MOST_BYTES
      → put_refusal name bytes files ≡ None
  not_refused short place little =
      let is = le-ltb MOST_BYTES (bytes_of (with_file name bytes files)) little in
      not_long short ∙ if_second _ _ _ (placed place) ∙ if_second (ltb MOST_BYTES (bytes_of (with_file name bytes files))) _ _ is

-- LIMITS

module _ (name bytes : List ℕ) (files : List SourceFile) (fine : AreFiles files) where
  all_bytes : (b : Bool) → ltb MOST_BYTES (bytes_of (with_file name bytes files)) ≡ b
      → if◌then◌else◌ {A = Option ℕ} b (Some 144) None ≡ None → bytes_of (with_file name bytes files) ≤ MOST_BYTES
  all_bytes true is told = cc
  all_bytes false is told = ltb-false MOST_BYTES (bytes_of (with_file name bytes files)) is

  all_names : (b : Bool) → has_file name files ≡ b → (not b && leb MOST_FILES (length files)) ≡ false
      → length (with_file name bytes files) ≤ MOST_FILES
  all_names true is fits =
      let few = fine.few in
      let same = firsts.length-changed (is_named name) (with_text bytes) files in
      rw is (omega (arith, few, same))
  all_names false is fits =
      let few = leb-false MOST_FILES (length files) fits in
      let same = firsts.length-inserted (stands_before name) (source name bytes) files in
      rw is (omega (arith, few, same))

  in_place : (b : Bool) → (not (has_file name files) && leb MOST_FILES (length files)) ≡ b
      → if◌then◌else◌ {A = Option ℕ} b (Some 141)
      (if◌then◌else◌ {A = Option ℕ} (ltb MOST_BYTES (bytes_of (with_file name bytes files))) (Some 144) None) ≡ None
      → AreFiles (with_file name bytes files)
  in_place true is told = cc
  in_place false is told = record {
    few = all_names (has_file name files) refl is;
    short = all_bytes (ltb MOST_BYTES (bytes_of (with_file name bytes files))) refl told;
  }

  in_length : (b : Bool) → if◌then◌else◌ {A = Option ℕ} b (Some 143)
      (if◌then◌else◌ {A = Option ℕ} (not (has_file name files) && leb MOST_FILES (length files)) (Some 141)
      (if◌then◌else◌ {A = Option ℕ} (ltb MOST_BYTES (bytes_of (with_file name bytes files))) (Some 144) None)) ≡ None
      → AreFiles (with_file name bytes files)
  in_length true told = cc
  in_length false told = in_place (not (has_file name files) && leb MOST_FILES (length files)) refl told

  pub put-AreFiles : put_refusal name bytes files ≡ None → AreFiles (with_file name bytes files)
  put-AreFiles none = in_length (ltb MOST_FILE_BYTES (length bytes)) none

pub dropped-AreFiles : (name : List ℕ) (files : List SourceFile) → AreFiles files → AreFiles (without_file name files)
dropped-AreFiles name files fine =
    let fewer = firsts.length-without (is_named name) files in
    let less = firsts.sum-without (is_named name) text_length files in
    let few = fine.few in
    let short = fine.short in
    record { few = omega arith; short = omega arith }

-- behind a put, whether it was refused or not
pub put-limits : {T E : Type 0} (r : Result T E) (name bytes : List ℕ) (olds news : List KeptFile) → AreFiles (sources_of olds)
    → OnOk r (news ≡ with_kept name bytes olds) → OnOk r (put_refusal name bytes (sources_of olds) ≡ None) → OnErr r (news ≡ olds)
    → AreFiles (sources_of news)
put-limits (Ok x) name bytes olds news fine is may same =
    subst (λ (files : List KeptFile). AreFiles (sources_of files)) (sym is)
    (subst AreFiles (sym (with_kept-sources name olds bytes)) (put-AreFiles name bytes (sources_of olds) fine may))
put-limits (Err e) name bytes olds news fine is may same = subst (λ (files : List KeptFile). AreFiles (sources_of files)) (sym same) fine

pub put-sources : {T E : Type 0} (r : Result T E) (name bytes : List ℕ) (olds news : List KeptFile)
    → OnOk r (news ≡ with_kept name bytes olds)
    → OnOk r (sources_of news ≡ with_file name bytes (sources_of olds))
put-sources (Ok x) name bytes olds news is = ap sources_of is ∙ with_kept-sources name olds bytes
put-sources (Err e) name bytes olds news is = tt

-- an exit of `?`
pub err_is : {A E : Type 0} (P : E → Type 0) (r : Result A E) (e : E) → IsErrAnd r (λ y. y ≡ e) → P e → IfErr r P
err_is P (Ok x) e exit h = absurd exit
err_is P (Err y) e exit h = subst P (sym exit) h
