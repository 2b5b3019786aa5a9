-- What was emitted is a piece of code.
use Rattle.std.specs.Prelude.{◌≡◌, ℕ, ◌+◌, ◌<◌, ◌≤◌, List, [], ◌∷◌, ◌++◌, map, length, take, drop}
use Rattle.shape_data.specs.declared.program.Cmd.{Cmd}
use Rattle.shape_data.specs.declared.program.Operand.{Operand}
use Rattle.shape_data.specs.declared.program.Operand.TheVariants.{Slot}
use Rattle.shape_data.specs.declared.program.Ty.{Ty}
use Rattle.shape_data.specs.declared.program.Ty.TheVariants.{Int}
use Rattle.c_lower_rules.specs.Code.{Code, Test, Straight, Loop}
use Rattle.c_lower_rules.specs.Temporaries as temporaries
use Rattle.c_lower_rules.specs.Temporaries.{take_temp}
use Rattle.c_lower_rules.specs.Contexts.{Context}
use Rattle.c_lower_rules.specs.Values.{Tested, Lowering, Making, truth}
use Rattle.c_lower_emit.specs.declared.drafts.Draft.{Draft}
use Rattle.c_lower_emit.specs.declared.drafts.Label.{Label}
use Rattle.c_lower_emit.specs.declared.drafts.Label.TheVariants.{At}
use Rattle.c_lower_emit.specs.declared.drafts.Ways.{Ways}
use Rattle.c_lower_emit.specs.declared.uses.Spot.{Spot}
use Rattle.c_lower_emit.specs.declared.uses.Use.{Use}
use Rattle.c_lower_emit.specs.declared.uses.Use.TheVariants.{Value, Into, Test as AsTest}
use Rattle.c_lower_emit.specs.Drafts.{Places, exits, resolve, as_they_are, led_between, put_to, aimed, laid}

-- what was emitted so far: nodes, temporaries, and loops
pub record Out : Type 0 where
  pub nodes : List Draft
  pub temps : List temporaries.Temp
  pub loops : List Loop

-- with one more draft
abbrev pub with_draft : ℕ → Cmd → Label → Label → Out → Out
with_draft line cmd next other o = record o { nodes = o.nodes ++ record { line = line; cmd = cmd; next = next; other = other } ∷ [] }

-- with the exits of the drafts from one place to another replaced
abbrev pub led_out : ℕ → ℕ → Ways → Out → Out
led_out from past w o = record o { nodes = led_between from past w o.nodes }

-- the test that begins at a place leads to what comes next where it holds
abbrev pub LeadsWhereHolds : ℕ → Out → Out → Type 0
LeadsWhereHolds from old new =
    from ≤ length old.nodes → length old.nodes < 4294967296
    → new ≡ led_out from (length old.nodes) (record as_they_are { holds = At (length old.nodes) }) old

-- the same, where it doesn't hold
abbrev pub LeadsWhereFails : ℕ → Out → Out → Type 0
LeadsWhereFails from old new =
    from ≤ length old.nodes → length old.nodes < 4294967296
    → new ≡ led_out from (length old.nodes) (record as_they_are { fails = At (length old.nodes) }) old

-- with one more loop, at a place
abbrev pub with_loop : ℕ → Loop → Out → Out
with_loop place loop o = record o { loops = take place o.loops ++ loop ∷ drop place o.loops }

-- 32-bit numbers suffice for the places of so many more nodes, and for the slots of so many more temporaries behind a first one
pub record HasRoom (first size : ℕ) (out : Out) : Type 0 where
  pub nodes : length out.nodes + size < 4294967296
  pub temps : first + length out.temps + size < 4294967296

-- so many drafts were emitted, and there are these temporaries then, at most one more for each
pub record Grows (count : ℕ) (taken : List temporaries.Temp) (drafts : List Draft) (old new : Out) : Type 0 where
  pub nodes : new.nodes ≡ old.nodes ++ drafts
  pub size : length drafts ≡ count
  pub temps : new.temps ≡ taken
  pub grown : length taken ≤ length old.temps + count

-- straight code was emitted
pub record EmitsStraight (code : Straight) (temps : List temporaries.Temp) (old new : Out) : Type 0 where
  pub drafts : List Draft
  pub grows : Grows code.size temps drafts old new
  pub laid : (p : Places) → map (laid p) drafts ≡ code.nodes (length old.nodes)
  pub loops : new.loops ≡ old.loops

-- a test was emitted
pub record EmitsTest (test : Test) (temps : List temporaries.Temp) (old new : Out) : Type 0 where
  pub drafts : List Draft
  pub grows : Grows test.size temps drafts old new
  pub laid : (p : Places) → map (laid p) drafts ≡ test.nodes (length old.nodes) p.holds p.fails
  pub loops : new.loops ≡ old.loops

-- a piece of code was emitted, whose run begins there
pub record EmitsCode (code : Code) (temps : List temporaries.Temp) (begin : Label) (old new : Out) : Type 0 where
  pub drafts : List Draft
  pub grows : Grows code.size temps drafts old new
  pub laid : (p : Places) → map (laid p) drafts ≡ code.nodes (length old.nodes) (exits p)
  pub entry : (p : Places) → resolve p begin ≡ code.entry (length old.nodes) (exits p)
  pub loops : new.loops ≡ old.loops ++ code.loops (length old.nodes)

-- USES. The first slot of the temporaries is given

-- what an expression is in the use was emitted, where there is room for it; the operand is its value
abbrev pub Emits : Use → Lowering → ℕ → Out → Out → Operand → Type 0
Emits Value l first old new operand =
    HasRoom first (l.value old.temps).code.size old
    → EmitsStraight (l.value old.temps).code (l.value old.temps).temps old new × (operand ≡ (l.value old.temps).operand)
Emits (Into to) l first old new operand =
    HasRoom first (l.into to old.temps).code.size old
    → EmitsCode (l.into to old.temps).code (l.into to old.temps).temps (At (length old.nodes)) old new
Emits AsTest l first old new operand =
    HasRoom first (l.test old.temps).test.size old → EmitsTest (l.test old.temps).test (l.test old.temps).temps old new

-- the code before a command was emitted, and the command is this one
pub record Makes (making : Making) (cmd : Cmd) (old new : Out) : Type 0 where
  pub before : EmitsStraight making.code making.temps old new
  pub is : (to next other : ℕ) → aimed (put_to cmd to) next other ≡ making.make to next

-- the code before a command was emitted, where there is room for it, and this is the command
abbrev pub EmitsMaking : Making → Cmd → ℕ → Out → Out → Type 0
EmitsMaking making cmd first old new = HasRoom first making.code.size old → Makes making cmd old new

-- a test was emitted, where there is room for it
abbrev pub EmitsTested : Tested → ℕ → Out → Out → Type 0
EmitsTested tested first old new = HasRoom first tested.test.size old → EmitsTest tested.test tested.temps old new

-- a temporary of the type was taken for the value of the command, which goes on behind it
pub record IsMadeValue (first line : ℕ) (kind : Ty) (command : Cmd) (old new : Out) (found : Operand) : Type 0 where
  pub operand : found ≡ Slot (first + (take_temp kind old.temps).place)
  pub out : new ≡ with_draft line (put_to command (first + (take_temp kind old.temps).place)) (At (length old.nodes + 1))
      (At (length old.nodes + 1)) (record old { temps = (take_temp kind old.temps).temps })

-- where the value of a test is wanted, the temporary for that is taken first
abbrev pub BeginsTruth : Use → ℕ → Out → Out → ℕ → Type 0
BeginsTruth Value first old start to =
    HasRoom first 1 old → (to ≡ first + (take_temp Int old.temps).place) × (start ≡ record old { temps = (take_temp Int old.temps).temps })
BeginsTruth (Into slot) first old start to = (to ≡ slot) × (start ≡ old)
BeginsTruth AsTest first old start to = start ≡ old

-- a test began at `from`, behind the temporary `to` for its value, and ends where the nodes do: what it is in the use was emitted then
abbrev pub EndsTruth : Use → Spot → ℕ → ℕ → Out → Out → Operand → Type 0
EndsTruth used spot to from old new operand =
    (c : Context) → c.line ≡ spot.line → c.first_temp ≡ spot.first_temp → (testing : List temporaries.Temp → Tested) → (before start : Out)
    → BeginsTruth used spot.first_temp before start to → from ≡ length start.nodes
    → EmitsTested (testing start.temps) spot.first_temp start old
    → Emits used (truth c testing) spot.first_temp before new operand
