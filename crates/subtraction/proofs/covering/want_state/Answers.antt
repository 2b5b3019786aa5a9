-- Facts that are left over take no room.
use Rattle.std.proofs.Common.{◌∙◌, sym}
use Rattle.sym_matching.specs.Rooms.{fields_of_all}
use Rattle.sym_matching.specs.Answers.{names_of_all}
use Rattle.sym_matching.specs.RuleSteps.InSetting.{rules_in}
use Rattle.subtraction.proofs.OwedSteps.{owed_names, owed_room}
use Rattle.subtraction.proofs.covering.want_state.Goals as goal

pub want_heap-requires-clause-room : goal.want_heap-requires-clause-room
want_heap-requires-clause-room c =
    owed_room (rules_in c.args.setting.now) c.args.slots.now c.args.m c.in-On.n (fields_of_all c.args.b.now.spatial)
    (sym c.in_ok-n.ensures ∙ c.in-On.is) c.requires.room

pub want_heap-requires-clause-names : goal.want_heap-requires-clause-names
want_heap-requires-clause-names c =
    owed_names (rules_in c.args.setting.now) c.args.slots.now c.args.m c.in-On.n (names_of_all c.args.b.now.spatial)
    (sym c.in_ok-n.ensures ∙ c.in-On.is) c.requires.names
