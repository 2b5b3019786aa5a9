-- The files of a project, in the order of their names, and how putting and dropping one changes them.
use Rattle.std.specs.Prelude.{◌≤◌, ℕ, nat_lt, nat_le, Bool, true, false, ◌&&◌, not, if◌then◌else◌, Option, Some, None, List, [], ◌∷◌}
use Rattle.std.specs.Prelude.{length, sum_by, nat_eq}
use Rattle.std.specs.List.{list_any}
use Rattle.std.specs.Ordering.{is_lt, nat_cmp}
use Rattle.std.specs.Cmp.Lexicographic.{pointwise, slice_cmp}

-- a file, by its name and its bytes
pub record SourceFile : Type 0 where
  pub name : List ℕ
  pub bytes : List ℕ

abbrev pub source : List ℕ → List ℕ → SourceFile
source name bytes = record { name = name; bytes = bytes }

-- the most files
abbrev pub MOST_FILES : ℕ
MOST_FILES = 256

-- the most bytes of a file
abbrev pub MOST_FILE_BYTES : ℕ
MOST_FILE_BYTES = 1048576

-- the most bytes of all files together
abbrev pub MOST_BYTES : ℕ
MOST_BYTES = 4194304

-- LISTS

-- the first member that passes is changed
abbrev pub changed_first : {X : Type 0} → (X → Bool) → (X → X) → List X → List X
changed_first test change [] = []
changed_first test change (x ∷ xs) = if test x then change x ∷ xs else x ∷ changed_first test change xs

-- the first member that passes is gone
abbrev pub without_first : {X : Type 0} → (X → Bool) → List X → List X
without_first test [] = []
without_first test (x ∷ xs) = if test x then xs else x ∷ without_first test xs

-- a member more, before the first one that passes, or else at the end
abbrev pub inserted_before : {X : Type 0} → (X → Bool) → X → List X → List X
inserted_before test one [] = one ∷ []
inserted_before test one (x ∷ xs) = if test x then one ∷ x ∷ xs else x ∷ inserted_before test one xs

-- FILES

-- the file has this name
abbrev pub is_named : List ℕ → SourceFile → Bool
is_named name file = pointwise nat_eq file.name name

-- a file of this name is there
abbrev pub has_file : List ℕ → List SourceFile → Bool
has_file name files = list_any (is_named name) files

-- the name stands before that of the file, byte by byte
abbrev pub stands_before : List ℕ → SourceFile → Bool
stands_before name file = is_lt (slice_cmp nat_cmp name file.name)

-- the file with these bytes
abbrev pub with_text : List ℕ → SourceFile → SourceFile
with_text bytes file = source file.name bytes

-- the files with these bytes under this name: those of the file that has it, or else of one more, before the first file whose
-- name is greater
abbrev pub with_file : List ℕ → List ℕ → List SourceFile → List SourceFile
with_file name bytes files =
    if has_file name files then changed_first (is_named name) (with_text bytes) files
    else inserted_before (stands_before name) (source name bytes) files

-- the files without the one of this name
abbrev pub without_file : List ℕ → List SourceFile → List SourceFile
without_file name files = without_first (is_named name) files

abbrev pub text_length : SourceFile → ℕ
text_length file = length file.bytes

-- how many bytes the files have together
abbrev pub bytes_of : List SourceFile → ℕ
bytes_of files = sum_by text_length files

-- why a file may not be put: it is too long, else there are too many, else they are too long together
abbrev pub put_refusal : List ℕ → List ℕ → List SourceFile → Option ℕ
put_refusal name bytes files =
    if nat_lt MOST_FILE_BYTES (length bytes) then Some 143
    else (if not (has_file name files) && nat_le MOST_FILES (length files) then Some 141
    else (if nat_lt MOST_BYTES (bytes_of (with_file name bytes files)) then Some 144 else None))

-- the files are few, and short together
pub record AreFiles (files : List SourceFile) : Type 0 where
  pub few : length files ≤ MOST_FILES
  pub short : bytes_of files ≤ MOST_BYTES
