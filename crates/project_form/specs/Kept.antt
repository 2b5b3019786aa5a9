-- The files of a project with marks on those whose parses are kept, and how putting, dropping and reading change the marks.
use Rattle.std.specs.Prelude.{◌≡◌, ◌↔◌, ℕ, Bool, true, false, ◌&&◌, if◌then◌else◌, List, length, map, count_by, nat_eq, All}
use Rattle.std.specs.Cmp.Lexicographic.{pointwise}
use Rattle.c_grammar.specs.Trees.{File}
use Rattle.c_front.specs.Units.{IsUnitOf}
use Rattle.project_form.specs.Files.{SourceFile, source, with_text, changed_first, without_first, inserted_before, is_named, has_file}
use Rattle.project_form.specs.Files.{stands_before}

-- a file, and whether its parse is kept
pub record KeptFile : Type 0 where
  pub file : SourceFile
  pub is_kept : Bool

abbrev pub source_of : KeptFile → SourceFile
source_of kept = kept.file

-- the files without their marks
abbrev pub sources_of : List KeptFile → List SourceFile
sources_of files = map source_of files

-- a file that was not read yet
abbrev pub new_file : List ℕ → List ℕ → KeptFile
new_file name bytes = record { file = source name bytes; is_kept = false }

-- the file with these bytes: its parse stays kept where they are those that it has
abbrev pub with_bytes : List ℕ → KeptFile → KeptFile
with_bytes bytes kept = record { file = with_text bytes kept.file; is_kept = kept.is_kept && pointwise nat_eq kept.file.bytes bytes }

-- the file without its parse
abbrev pub without_parse : KeptFile → KeptFile
without_parse kept = record kept { is_kept = false }

-- the file with its parse
abbrev pub with_parse : KeptFile → KeptFile
with_parse kept = record kept { is_kept = true }

abbrev pub is_kept_named : List ℕ → KeptFile → Bool
is_kept_named name kept = is_named name kept.file

abbrev pub stands_before_kept : List ℕ → KeptFile → Bool
stands_before_kept name kept = stands_before name kept.file

-- the files with these bytes under this name; all other marks stay
abbrev pub with_kept : List ℕ → List ℕ → List KeptFile → List KeptFile
with_kept name bytes files =
    if has_file name (sources_of files) then changed_first (is_kept_named name) (with_bytes bytes) files
    else inserted_before (stands_before_kept name) (new_file name bytes) files

-- the files without the one of this name; all other marks stay
abbrev pub without_kept : List ℕ → List KeptFile → List KeptFile
without_kept name files = without_first (is_kept_named name) files

abbrev pub has_mark : KeptFile → Bool
has_mark kept = kept.is_kept

-- of how many files the parse is kept
abbrev pub kept_of : List KeptFile → ℕ
kept_of files = count_by has_mark files

-- how many bytes a file has
abbrev pub kept_length : KeptFile → ℕ
kept_length kept = length kept.file.bytes

-- WHAT READING DOES TO MARKS

-- the file stays, and a parse that was kept stays kept
pub record Follows (old new : KeptFile) : Type 0 where
  pub file : new.file ≡ old.file
  pub kept : old.is_kept ≡ true → new.is_kept ≡ true

-- of each file the parse is kept
abbrev pub AreAllKept : List KeptFile → Type 0
AreAllKept files = All (λ (kept : KeptFile). kept.is_kept ≡ true) files

-- the bytes are a file of the grammar
abbrev pub HasUnit : List ℕ → Type 0
HasUnit bytes = (file : File) × IsUnitOf bytes file

-- of those files alone that have a parse it is kept
abbrev pub AreKeptWhereRead : List KeptFile → Type 0
AreKeptWhereRead files = All (λ (kept : KeptFile). (kept.is_kept ≡ true) ↔ HasUnit kept.file.bytes) files
