-- What loaded entries are, and what is known over them, where they are those of a store.
use Rattle.std.specs.Prelude.{List, All}
use Rattle.claim_core.specs.Views.{Solution}
use Rattle.shape_data.specs.declared.program.Program.{Program}
use Rattle.shape_data.specs.Sizes.{HasProgramSizes}
use Rattle.shape_data.specs.WellFormed.{IsProgram}
use Rattle.loaded_answers.specs.Lookup.{lookup}
use Rattle.bottom_up.specs.BottomUp.{known_by}
use Rattle.bottom_up.specs.Laws.{IsRight}
use Rattle.comp_solve.specs.Job.Solves.{IsStoredEntry, solve}
use Rattle.store_json.specs.Entries.{IsStorable}

-- the entries of a store are right for their keys
abbrev pub StoredAreRight : Type 0
StoredAreRight = (loaded : List Solution) → All IsStoredEntry loaded → All IsRight loaded

-- over them all keys of a program, and their answers, are within the limits of a store
abbrev pub KnownIsStorable : Type 0
KnownIsStorable =
    (loaded : List Solution) → All IsStoredEntry loaded → (program : Program) → IsProgram program → HasProgramSizes program →
    All IsStorable (known_by (lookup solve loaded) program)
