-- A program of which no more procedures are kept than tell whether there are too many.
use Rattle.std.proofs.Common.{◌≡◌, ℕ, zero, suc, List, [], ◌∷◌, take, Option, None, refl, sym, ap, ◌∙◌}
use Rattle.std.specs.Option.{option_map, option_or}
use Rattle.std.specs.Prelude.{slice_get}
use Rattle.shape_data.specs.declared.program.Proc.{Proc}
use Rattle.shape_data.specs.declared.program.Program.{Program}
use Rattle.c_grammar.specs.Trees.{File}
use Rattle.c_types_rules.specs.Programs.{first_refusal}
use Rattle.c_lower_rules.specs.Programs.{first_too_large, program_of}
use Rattle.c_lower.specs.Lowering.{with_first}
use Rattle.project_form.specs.declared.fault.Refused.{Refused}
use Rattle.project_form.specs.Parts.{IsWhole}
use Rattle.project_form.specs.Reads.{MOST_PROCEDURES, refused_at, refused_proc, whole_refusal}
use Rattle.project_form.proofs.Wholes.{mapped_none}

-- whether a list has a place, its elements up to there tell
get-first : {A : Type 0} (xs : List A) (place : ℕ) → slice_get (take (suc place) xs) place ≡ slice_get xs place
get-first [] place = refl
get-first (x ∷ xs) zero = refl
get-first (x ∷ xs) (suc place) = get-first xs place

-- where it lacks the place, these are all
all_first : {A : Type 0} (xs : List A) (place : ℕ) → slice_get xs place ≡ None → take (suc place) xs ≡ xs
all_first [] place none = refl
all_first (x ∷ xs) zero none = cc
all_first (x ∷ xs) (suc place) none = ap (λ ys. x ∷ ys) (all_first xs place none)

-- the first procedure too many, if there is one
abbrev too_many : Program → Option Refused
too_many program = option_map refused_proc (slice_get program.procs MOST_PROCEDURES)

-- it is found among those that are kept
too_many-first : (program : Program) → too_many (with_first (suc MOST_PROCEDURES) program) ≡ too_many program
too_many-first program = ap (option_map refused_proc) (get-first program.procs MOST_PROCEDURES)

-- where there is none, all are kept
whole-first : (program : Program) → too_many program ≡ None → with_first (suc MOST_PROCEDURES) program ≡ program
whole-first program none =
    ap (λ (procs : List Proc). record program { procs = procs })
    (all_first program.procs MOST_PROCEDURES (mapped_none refused_proc (slice_get program.procs MOST_PROCEDURES) none))

-- files that are refused neither for their types nor for what is too large, and what is kept of their program
module _ (names : List (List ℕ)) (files : List File) (program : Program) (found : Option Refused) (typed : first_refusal files ≡ None)
    (small : first_too_large files ≡ None)
    (kept : program ≡ with_first (suc MOST_PROCEDURES) (program_of names files))
    (finds : found ≡ too_many program) where
  found-whole : found ≡ too_many (program_of names files)
  found-whole = finds ∙ ap too_many kept ∙ too_many-first (program_of names files)

  -- they are refused for the first procedure too many
  pub refused-first : whole_refusal names files ≡ found
  refused-first =
      ap (λ first. option_or (option_map (refused_at names) first)
      (option_or (option_map (refused_at names) (first_too_large files)) (too_many (program_of names files)))) typed
      ∙ ap (λ first. option_or (option_map (refused_at names) first) (too_many (program_of names files))) small
      ∙ sym found-whole

  -- or else they are this program
  pub program-whole : found ≡ None → IsWhole names files program
  program-whole none = record {
    accepted = refused-first ∙ none;
    means = kept ∙ whole-first (program_of names files) (sym found-whole ∙ none);
  }
