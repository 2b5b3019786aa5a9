-- What follows where an answer agrees with the loaded ones.
use Rattle.std.specs.Prelude.{◌≡◌, List}
use Rattle.claim_core.specs.Views.{Solution}
use Rattle.loaded_answers.specs.Lookup.{Agrees, lookup}
use Rattle.solve_laws.specs.Solving.{solve}
use Rattle.comp_solve.specs.Job.Solves.{Solves}

-- an entry whose answer is right for its key, and agrees with the loaded entries, has the answer that is looked up
abbrev pub AgreedAreLookedUp : Type 0
AgreedAreLookedUp = (loaded : List Solution) (one : Solution) → Solves one.key one.answer → Agrees loaded one
    → one.answer ≡ lookup solve loaded one.key
