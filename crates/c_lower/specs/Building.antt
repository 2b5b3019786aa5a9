-- What was found in the part of a program that was read, and what a further part adds.
use Rattle.std.specs.Prelude.{◌≡◌, ℕ, None, List, [], ◌++◌, take}
use Rattle.shape_data.specs.declared.program.Proc.{Proc}
use Rattle.c_grammar.specs.declared.tokens.places.Refusal.{Refusal}
use Rattle.c_grammar.specs.Trees.{Item, File}
use Rattle.c_types_rules.specs.Tables.{Tables}
use Rattle.c_lower_rules.specs.Programs.{item_refusals, items_refusals, item_procs, items_procs, files_refusals, files_procs}
use Rattle.c_types_names.specs.FirstRefusal.{with_refusals, first_with}
use Rattle.c_lower.specs.declared.building.Building.{Building}

-- what is too large in a part of a program, and its procedures
pub record Part : Type 0 where
  pub refusals : List Refusal
  pub procs : List Proc

-- nothing
abbrev pub no_part : Part
no_part = record { refusals = []; procs = [] }

infixr 30 ◌⊹◌
-- one part, and another behind it
abbrev pub ◌⊹◌ : Part → Part → Part
one ⊹ other = record { refusals = one.refusals ++ other.refusals; procs = one.procs ++ other.procs }

-- what is found in an item
abbrev pub item_part : Tables → List ℕ → Item → Part
item_part tables file one = record { refusals = item_refusals tables one; procs = item_procs tables file one }

-- what is found in items
abbrev pub items_part : Tables → List ℕ → List Item → Part
items_part tables file items = record { refusals = items_refusals tables items; procs = items_procs tables file items }

-- afterwards stands what stood before, with what is found in a part: the first that is too large, and, if in the part nothing is too
-- large, its procedures behind those that were met before, of all of which only the first are kept
pub record Adds (part : Part) (before after : Building) : Type 0 where
  pub first : after.first ≡ with_refusals before.first part.refusals
  pub most : after.most ≡ before.most
  pub procs : part.refusals ≡ [] → (met : List Proc) → before.procs ≡ take before.most met
      → after.procs ≡ take before.most (met ++ part.procs)

-- with what is left to be found, all is found
pub record AddsUpTo (left all : Part) (before now : Building) : Type 0 where
  pub whole : (after : Building) → Adds left now after → Adds all before after

-- of the procedures that were met, the first are kept; with what is left to be met, these are all
pub record KeepsFirst (most : ℕ) (left all kept : List Proc) : Type 0 where
  pub met : List Proc
  pub first : kept ≡ take most met
  pub whole : met ++ left ≡ all

-- with what is left to be found in files, from one on, all is found
pub record IsBuiltUpTo (tables : Tables) (files : List File) (names : List (List ℕ)) (most : ℕ) (left : List File)
    (left_names : List (List ℕ))
    (unit : ℕ)
    (now : Building) : Type 0 where
  pub refusal : first_with now.first.found (files_refusals tables unit left) ≡ first_with None (files_refusals tables 0 files)
  pub none : files_refusals tables 0 files ≡ [] → files_refusals tables unit left ≡ []
  pub as_asked : now.most ≡ most
  pub procs : files_refusals tables 0 files ≡ []
      → KeepsFirst most (files_procs tables left_names left) (files_procs tables names files) now.procs
