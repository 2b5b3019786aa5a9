-- Worked logs.
use Rattle.std.proofs.Common.{◌≡◌, ℕ, true, false, List, [], ◌∷◌, None, refl, pos}
use Rattle.shape_data.specs.declared.answer.Answer.{Answer}
use Rattle.shape_data.specs.declared.answer.Key.{Key}
use Rattle.shape_data.specs.declared.program.Program.{Program}
use Rattle.shape_data.specs.declared.program.Flow.{Flow}
use Rattle.shape_data.specs.declared.program.Cmd.TheVariants as cmd
use Rattle.shape_data.specs.declared.program.Operand.TheVariants.{Num}
use Rattle.shape_data.specs.declared.program.Ty.TheVariants.{Int}
use Rattle.component_keys.specs.Components.{components}
use Rattle.component_keys.specs.Structures.{structs_used}
use Rattle.component_keys.specs.Keys.{program_components, key_over}
use Rattle.component_keys.specs.Tests.{key_test, program_test, flows_test}
use Rattle.claim_laws.specs.World.{Event, may_happen, after}
use Rattle.claim_laws.specs.Logs.{replay}

-- a procedure of one letter that calls another, or nobody
abbrev calling : ℕ → List ℕ → Flow
calling letter callee =
    record {
      name = letter ∷ [];
      params = [];
      slots = [];
      ret = Int;
      nodes = record { line = 0; cmd = cmd.Call None callee [] 1; head = None }
          ∷ record { line = 0; cmd = cmd.Return (Num (pos 0)); head = None } ∷ [];
    }

abbrev plain : ℕ → Flow
plain letter =
    record {
      name = letter ∷ [];
      params = [];
      slots = [];
      ret = Int;
      nodes = record { line = 0; cmd = cmd.Return (Num (pos 0)); head = None } ∷ [];
    }

-- f calls g
abbrev two : Program
two =
    record {
      structs = [];
      procs = record { flow = calling 102 (103 ∷ []); file = []; line = 0 } ∷ record { flow = plain 103; file = []; line = 0 } ∷ [];
    }

abbrev nothing : Answer
nothing = record { stored = false; procs = [] }

g_key : Key
g_key = key_over [] (plain 103 ∷ []) []

f_key : Key
f_key = key_over [] (calling 102 (103 ∷ []) ∷ []) (record { name = 103 ∷ []; params = []; specs = [] } ∷ [])

-- g is claimed and answered, then f can be claimed, and not again
abbrev so_far : List Event
so_far = Event.Revise 1 two ∷ Event.Claim 1 7 0 g_key ∷ Event.Publish 1 nothing true ∷ []

f_may : may_happen (replay so_far) (Event.Claim 2 8 1 f_key) ≡ true
unfolding program_components components structs_used key_test program_test flows_test g_key f_key
f_may = refl

g_may_not : may_happen (replay so_far) (Event.Claim 2 8 0 g_key) ≡ false
unfolding program_components components structs_used key_test program_test flows_test g_key f_key
g_may_not = refl

f_may_not_twice : may_happen (after (replay so_far) (Event.Claim 2 8 1 f_key)) (Event.Claim 3 9 1 f_key) ≡ false
unfolding program_components components structs_used key_test program_test flows_test g_key f_key
f_may_not_twice = refl
