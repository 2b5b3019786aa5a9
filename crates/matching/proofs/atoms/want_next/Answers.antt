-- The atom has room, and leaves room.
use Rattle.std.proofs.Common.{◌≡◌, ◌∙◌, ◌+◌, ◌<◌, sym}
use Rattle.std.proofs.lemmas.Result.{IfOk-weaker}
use Rattle.sym_matching.specs.declared.matching.Matching.{Matching}
use Rattle.sym_matching.specs.declared.matching.Turned.TheVariants.{On}
use Rattle.sym_matching.specs.NewVariables.{HasRoom}
use Rattle.sym_matching.specs.Rooms.{fields_wanted, names_wanted}
use Rattle.sym_matching.specs.WantedAtoms.{want_atom}
use Rattle.sym_matching.specs.RuleSteps.InSetting.{rules_in}
use Rattle.matching.proofs.AtomTurns.{first_names, first_room, later_names, later_room}
use Rattle.matching.proofs.atoms.want_next.Goals as goal

pub want_atom-requires-clause-room : goal.want_atom-requires-clause-room
want_atom-requires-clause-room c =
    first_room c.args.wanted.now c.remove-next.new.self c.in-Some.place c.remove-next.result c.args.m.used c.remove-next.ensures.value
    c.remove-next.ensures.rest c.requires.room

pub want_atom-requires-clause-names : goal.want_atom-requires-clause-names
want_atom-requires-clause-names c =
    first_names c.args.wanted.now c.remove-next.new.self c.in-Some.place c.remove-next.result c.args.m.next c.remove-next.ensures.value
    c.remove-next.ensures.rest c.requires.names

pub returns-in-Some-clause-room : goal.returns-in-Some-clause-room
returns-in-Some-clause-room c =
    IfOk-weaker c.want_atom.result
    (λ turned. turned ≡ want_atom (rules_in c.args.setting.now) c.remove-next.result.number c.remove-next.result.atom c.args.m)
    (λ turned. (n : Matching) → turned ≡ On n → HasRoom (fields_wanted c.remove-next.new.self) n.used)
    (λ turned is n on. later_room
    (rules_in c.args.setting.now) c.args.wanted.now c.remove-next.new.self c.in-Some.place c.remove-next.result c.args.m n
    c.remove-next.ensures.value c.remove-next.ensures.rest c.requires.room (sym is ∙ on))
    c.want_atom.ensures

pub returns-in-Some-clause-names : goal.returns-in-Some-clause-names
returns-in-Some-clause-names c =
    IfOk-weaker c.want_atom.result
    (λ turned. turned ≡ want_atom (rules_in c.args.setting.now) c.remove-next.result.number c.remove-next.result.atom c.args.m)
    (λ turned. (n : Matching) → turned ≡ On n → n.next + names_wanted c.remove-next.new.self < 4294967296)
    (λ turned is n on. later_names
    (rules_in c.args.setting.now) c.args.wanted.now c.remove-next.new.self c.in-Some.place c.remove-next.result c.args.m n
    c.remove-next.ensures.value c.remove-next.ensures.rest c.requires.names (sym is ∙ on))
    c.want_atom.ensures
