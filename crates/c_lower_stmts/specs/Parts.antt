-- What the functions on parts of statements answer.
use Rattle.std.specs.Prelude.{◌≡◌, ℕ, List, length}
use Rattle.c_lower_rules.specs.Code.{Code, Test, choose}
use Rattle.c_lower_rules.specs.Temporaries.{Temp, released}
use Rattle.c_lower_rules.specs.Values.{Piece}
use Rattle.c_lower_emit.specs.declared.drafts.Label.{Label}
use Rattle.c_lower_emit.specs.declared.drafts.Label.TheVariants.{At}
use Rattle.c_lower_emit.specs.Emitting.{Out, HasRoom, EmitsTest, EmitsCode}

-- a piece before which no temporary is used was emitted, where there is room for it; it begins at its first node
abbrev pub EmitsReleased : (List Temp → Piece) → ℕ → Out → Out → Type 0
EmitsReleased piece first old new =
    HasRoom first (piece (released old.temps)).code.size old
    → EmitsCode (piece (released old.temps)).code (piece (released old.temps)).temps (At (length old.nodes)) old new

-- the test between the two places and the two pieces behind it, whose runs begin at `holds` and `fails`, are one piece then
abbrev pub Chooses : ℕ → ℕ → Label → Label → Out → Out → Type 0
Chooses from past holds fails old new =
    (tested : Test) → (one other : Code) → (s t u : List Temp) → (start behind mid : Out) → from ≡ length start.nodes
    → past ≡ length behind.nodes
    → EmitsTest tested s start behind → EmitsCode one t holds behind mid → EmitsCode other u fails mid old
    → EmitsCode (choose tested one other) u (At (length start.nodes)) start new
