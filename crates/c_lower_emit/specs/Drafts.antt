-- Which node a draft is, once it is known where the exits lead.
use Rattle.std.specs.Prelude.{ℕ, ◌-◌, Some, List, ◌++◌, map, take, drop}
use Rattle.shape_data.specs.declared.program.Cmd.{Cmd}
use Rattle.shape_data.specs.declared.program.Cmd.TheVariants as cmd
use Rattle.shape_data.specs.declared.program.Node.{Node}
use Rattle.c_lower_rules.specs.Code.{Exits, node}
use Rattle.c_lower_emit.specs.declared.drafts.Draft.{Draft}
use Rattle.c_lower_emit.specs.declared.drafts.Label.{Label}
use Rattle.c_lower_emit.specs.declared.drafts.Label.TheVariants.{At, Next, Breaks, Continues, Holds, Fails}
use Rattle.c_lower_emit.specs.declared.drafts.Ways.{Ways}

-- where the exits lead
pub record Places : Type 0 where
  pub next : ℕ
  pub breaks : ℕ
  pub continues : ℕ
  pub holds : ℕ
  pub fails : ℕ

-- the exits of code, those of a test left aside
abbrev pub exits : Places → Exits
exits p = record { next = p.next; breaks = p.breaks; continues = p.continues }

-- each exit leads to the first place
abbrev pub at_start : Places
at_start = record { next = 0; breaks = 0; continues = 0; holds = 0; fails = 0 }

-- the place that a label is
abbrev pub resolve : Places → Label → ℕ
resolve p (At place) = place
resolve p Next = p.next
resolve p Breaks = p.breaks
resolve p Continues = p.continues
resolve p Holds = p.holds
resolve p Fails = p.fails

-- the label that a way leads to
abbrev pub redirect : Ways → Label → Label
redirect w (At place) = At place
redirect w Next = w.next
redirect w Breaks = w.breaks
redirect w Continues = w.continues
redirect w Holds = w.holds
redirect w Fails = w.fails

-- all exits as they are
abbrev pub as_they_are : Ways
as_they_are = record { next = Next; breaks = Breaks; continues = Continues; holds = Holds; fails = Fails }

-- a piece goes on where what follows begins
abbrev pub next_at : Label → Ways
next_at begin = record as_they_are { next = begin }

-- a draft whose exits lead where the ways say
abbrev pub redirected : Ways → Draft → Draft
redirected w d = record d { next = redirect w d.next; other = redirect w d.other }

-- with the exits of those from one place to another replaced
abbrev pub led_between : ℕ → ℕ → Ways → List Draft → List Draft
led_between from past w drafts = take from drafts ++ map (redirected w) (take (past - from) (drop from drafts)) ++ drop past drafts

-- the command that puts its value into the slot
abbrev pub put_to : Cmd → ℕ → Cmd
put_to (cmd.Copy to from next) slot = cmd.Copy slot from next
put_to (cmd.Arith to op left right next) slot = cmd.Arith slot op left right next
put_to (cmd.Any to kind next) slot = cmd.Any slot kind next
put_to (cmd.Load to base kind field next) slot = cmd.Load slot base kind field next
put_to (cmd.New to kind next) slot = cmd.New slot kind next
put_to (cmd.Call to callee args next) slot = cmd.Call (Some slot) callee args next
put_to other slot = other

-- the command with these places to go on at
abbrev pub aimed : Cmd → ℕ → ℕ → Cmd
aimed (cmd.Copy to from next) place other = cmd.Copy to from place
aimed (cmd.Arith to op left right next) place other = cmd.Arith to op left right place
aimed (cmd.Any to kind next) place other = cmd.Any to kind place
aimed (cmd.Load to base kind field next) place other = cmd.Load to base kind field place
aimed (cmd.Store base kind field from next) place other = cmd.Store base kind field from place
aimed (cmd.New to kind next) place other = cmd.New to kind place
aimed (cmd.Free base kind next) place other = cmd.Free base kind place
aimed (cmd.Call to callee args next) place other = cmd.Call to callee args place
aimed (cmd.Branch op pointers left right on_true on_false) place other = cmd.Branch op pointers left right place other
aimed (cmd.Return value) place other = cmd.Return value

abbrev pub laid : Places → Draft → Node
laid p d = node d.line (aimed d.cmd (resolve p d.next) (resolve p d.other))
