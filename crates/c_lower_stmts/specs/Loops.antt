-- What the exits of a loop's pieces become, and when the pieces are a loop.
use Rattle.std.specs.Prelude.{◌≡◌, ℕ, ◌<◌, List, length}
use Rattle.c_lower_rules.specs.Code.{Code, Test, repeat, repeat_first}
use Rattle.c_lower_rules.specs.Temporaries.{Temp}
use Rattle.c_lower_emit.specs.declared.drafts.Label.{Label}
use Rattle.c_lower_emit.specs.declared.drafts.Label.TheVariants.{At, Next}
use Rattle.c_lower_emit.specs.declared.drafts.Ways.{Ways}
use Rattle.c_lower_emit.specs.Drafts.{as_they_are}
use Rattle.c_lower_emit.specs.Emitting.{Out, EmitsTest, EmitsCode}
use Rattle.c_lower_stmts.specs.declared.loops.Opened.{Opened}

-- all lead to one place
abbrev pub all_to : Label → Ways
all_to place = record as_they_are { next = place; breaks = place; continues = place }

-- those of a body: the next round, and behind the loop
abbrev pub round : Label → Ways
round again = record as_they_are { next = again; breaks = Next; continues = again }

-- those of a test: the body, whose run begins there, and behind the loop
abbrev pub tested : Label → Ways
tested begin = record as_they_are { holds = begin; fails = Next }

-- the test, the body and the step that were emitted since the loop was opened, the last two from `body` and `step` on, are the loop then
abbrev pub ClosesLoop : Opened → ℕ → ℕ → Label → Label → Out → Out → Type 0
ClosesLoop opened body step body_begin step_begin old new =
    (test : Test) → (inner last : Code) → (u v x : List Temp) → (start behind mid : Out) → opened.head ≡ length start.nodes
    → opened.index ≡ length start.loops → body ≡ length behind.nodes → step ≡ length mid.nodes → length old.nodes < 4294967296
    → EmitsTest test u start behind → EmitsCode inner v body_begin behind mid → EmitsCode last x step_begin mid old
    → EmitsCode (repeat opened.visible test inner last) x (At (length start.nodes)) start new

-- the body, and the test that begins at `from`, are the loop then; a run of it begins at `begin`
abbrev pub ClosesLoopBehind : Opened → ℕ → Label → Label → Out → Out → Type 0
ClosesLoopBehind opened from body_begin begin old new =
    (test : Test) → (inner : Code) → (u v : List Temp) → (start mid : Out) → opened.head ≡ length start.nodes
    → opened.index ≡ length start.loops → from ≡ length mid.nodes → length old.nodes < 4294967296
    → EmitsCode inner u body_begin start mid → EmitsTest test v mid old
    → EmitsCode (repeat_first opened.visible inner test) v begin start new
