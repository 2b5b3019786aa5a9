-- By what was taken from the stream.
use Rattle.std.proofs.Common.{Ok, ◌∙◌, ◌+◌, ap, refl}
use Rattle.session_lines.specs.declared.command.Taken.TheVariants as taken
use Rattle.session_lines.specs.Reading.{stream_left}
use Rattle.heapan_top.specs.Parts.{course_of}
use Rattle.heapan_top.specs.declared.status.Status.TheVariants as status
use Rattle.heapan_top.specs.Replies.{malformed_line, status_with}
use Rattle.heapan_top.proofs.CourseLaws.{breaks, ends, takes, told_takes, too_many}
use Rattle.heapan_top.proofs.FedLaws.{ends_refused_told, ends_still_told, over_full, over_malformed, over_nothing, takes_fed}
use Rattle.heapan_top.proofs.WorkLaws.{breaks_counted, nothing_told, takes_work}
use Rattle.heapan_top.proofs.turns.turn.Goals as goal

pub returns-in-Ok-Command-clause-turn : goal.returns-in-Ok-Command-clause-turn
returns-in-Ok-Command-clause-turn g c =
    let told = stream_left c.args.commands.now (g.S.Source.left c.args.source.now) in
    let left = stream_left c.next_command.new.commands (g.S.Source.left c.next_command.new.source) in
    takes told left (g.K.Sink.held c.args.sink.now)
    (g.K.Sink.held c.follow.new.sink) c.args.commands.now c.next_command.new.commands c.args.session.now c.follow.new.session
    c.in-Ok-Command.asked _ _ c.follow.result
    (ap (λ n. n + 1) c.taken-number.ensures.value) c.offset-offset.ensures
    (told_takes told left c.args.commands.now c.next_command.new.commands c.next_command.result (taken.Command c.in-Ok-Command.asked)
    (c.in-Ok-Command.is ∙ ap Ok c.in-Ok-Command.field-0-is) c.next_command.ensures.takes)
    c.follow.ensures.turn

pub returns-in-Ok-Malformed-clause-turn : goal.returns-in-Ok-Malformed-clause-turn
returns-in-Ok-Malformed-clause-turn g c =
    let told = stream_left c.args.commands.now (g.S.Source.left c.args.source.now) in
    let left = stream_left c.next_command.new.commands (g.S.Source.left c.next_command.new.source) in
    breaks c.one_reply.ensures told (g.K.Sink.held c.args.sink.now)
    (g.K.Sink.held c.refuse.new.sink) c.args.commands.now c.args.session.now c.in-Ok-Malformed.command c.in-Ok-Malformed.offset
    c.refuse.result
    (told_takes told left c.args.commands.now c.next_command.new.commands c.next_command.result
    (taken.Malformed c.in-Ok-Malformed.command c.in-Ok-Malformed.offset)
    (c.in-Ok-Malformed.is ∙ ap Ok c.in-Ok-Malformed.field-0-is) c.next_command.ensures.takes)
    c.refuse.ensures.ends

pub returns-in-Ok-End-clause-turn : goal.returns-in-Ok-End-clause-turn
returns-in-Ok-End-clause-turn g c =
    let told = stream_left c.args.commands.now (g.S.Source.left c.args.source.now) in
    let left = stream_left c.next_command.new.commands (g.S.Source.left c.next_command.new.source) in
    ends told (g.K.Sink.held c.args.sink.now) (course_of c.args.commands.now c.args.session.now) c.status_with.result
    (told_takes told left c.args.commands.now c.next_command.new.commands c.next_command.result taken.End
    (c.in-Ok-End.is ∙ ap Ok c.in-Ok-End.field-0-is) c.next_command.ensures.takes)
    (c.status_with.ensures ∙ ap status_with c.missing.ensures)

pub returns-in-Ok-Full-clause-turn : goal.returns-in-Ok-Full-clause-turn
returns-in-Ok-Full-clause-turn g c =
    let told = stream_left c.args.commands.now (g.S.Source.left c.args.source.now) in
    let left = stream_left c.next_command.new.commands (g.S.Source.left c.next_command.new.source) in
    too_many told (g.K.Sink.held c.args.sink.now) (course_of c.args.commands.now c.args.session.now)
    (told_takes told left c.args.commands.now c.next_command.new.commands c.next_command.result taken.Full
    (c.in-Ok-Full.is ∙ ap Ok c.in-Ok-Full.field-0-is) c.next_command.ensures.takes)

-- ---- the work

pub returns-in-Ok-Command-clause-work : goal.returns-in-Ok-Command-clause-work
returns-in-Ok-Command-clause-work g c =
    let told = stream_left c.args.commands.now (g.S.Source.left c.args.source.now) in
    let left = stream_left c.next_command.new.commands (g.S.Source.left c.next_command.new.source) in
    takes_work told left (g.K.Sink.held c.args.sink.now)
    (g.K.Sink.held c.follow.new.sink) c.args.commands.now c.next_command.new.commands c.args.session.now c.follow.new.session
    c.in-Ok-Command.asked _ _
    c.follow.new.hands.seen c.follow.result (ap (λ n. n + 1) c.taken-number.ensures.value) c.offset-offset.ensures
    (told_takes told left c.args.commands.now c.next_command.new.commands c.next_command.result (taken.Command c.in-Ok-Command.asked)
    (c.in-Ok-Command.is ∙ ap Ok c.in-Ok-Command.field-0-is) c.next_command.ensures.takes)
    c.follow.ensures.work

pub returns-in-Ok-Malformed-clause-work : goal.returns-in-Ok-Malformed-clause-work
returns-in-Ok-Malformed-clause-work g c =
    let told = stream_left c.args.commands.now (g.S.Source.left c.args.source.now) in
    let left = stream_left c.next_command.new.commands (g.S.Source.left c.next_command.new.source) in
    breaks_counted told (g.K.Sink.held c.args.sink.now)
    (g.K.Sink.held c.refuse.new.sink) c.args.commands.now c.args.session.now c.args.hands.now.seen c.in-Ok-Malformed.command
    c.in-Ok-Malformed.offset
    (malformed_line c.in-Ok-Malformed.command c.in-Ok-Malformed.offset)
    (status.Refused c.in-Ok-Malformed.command c.in-Ok-Malformed.offset) c.refuse.result
    (told_takes told left c.args.commands.now c.next_command.new.commands c.next_command.result
    (taken.Malformed c.in-Ok-Malformed.command c.in-Ok-Malformed.offset)
    (c.in-Ok-Malformed.is ∙ ap Ok c.in-Ok-Malformed.field-0-is) c.next_command.ensures.takes)
    c.refuse.ensures.ends

pub returns-in-Ok-End-clause-work : goal.returns-in-Ok-End-clause-work
returns-in-Ok-End-clause-work g c =
    nothing_told (stream_left c.args.commands.now (g.S.Source.left c.args.source.now)) (g.K.Sink.held c.args.sink.now)
    (course_of c.args.commands.now c.args.session.now) c.args.hands.now.seen

pub returns-in-Ok-Full-clause-work : goal.returns-in-Ok-Full-clause-work
returns-in-Ok-Full-clause-work g c =
    nothing_told (stream_left c.args.commands.now (g.S.Source.left c.args.source.now)) (g.K.Sink.held c.args.sink.now)
    (course_of c.args.commands.now c.args.session.now) c.args.hands.now.seen

pub returns-in-Ok-ReadFault-clause-work : goal.returns-in-Ok-ReadFault-clause-work
returns-in-Ok-ReadFault-clause-work g c =
    nothing_told (stream_left c.args.commands.now (g.S.Source.left c.args.source.now)) (g.K.Sink.held c.args.sink.now)
    (course_of c.args.commands.now c.args.session.now) c.args.hands.now.seen

pub returns-in-Err-clause-work : goal.returns-in-Err-clause-work
returns-in-Err-clause-work g c =
    nothing_told (stream_left c.args.commands.now (g.S.Source.left c.args.source.now)) (g.K.Sink.held c.args.sink.now)
    (course_of c.args.commands.now c.args.session.now) c.args.hands.now.seen

-- ---- the feeding

pub returns-in-Ok-Command-clause-feeds : goal.returns-in-Ok-Command-clause-feeds
returns-in-Ok-Command-clause-feeds g c =
    let told = stream_left c.args.commands.now (g.S.Source.left c.args.source.now) in
    let left = stream_left c.next_command.new.commands (g.S.Source.left c.next_command.new.source) in
    takes_fed told left (g.K.Sink.held c.args.sink.now)
    (g.K.Sink.held c.follow.new.sink) _ _ c.args.commands.now c.next_command.new.commands c.args.session.now c.follow.new.session
    c.in-Ok-Command.asked _ _
    _ _ _ c.follow.result (ap (λ n. n + 1) c.taken-number.ensures.value) c.offset-offset.ensures
    (told_takes told left c.args.commands.now c.next_command.new.commands c.next_command.result (taken.Command c.in-Ok-Command.asked)
    (c.in-Ok-Command.is ∙ ap Ok c.in-Ok-Command.field-0-is) c.next_command.ensures.takes)
    c.follow.ensures.feeds

pub returns-in-Ok-Malformed-clause-feeds : goal.returns-in-Ok-Malformed-clause-feeds
returns-in-Ok-Malformed-clause-feeds g c =
    let told = stream_left c.args.commands.now (g.S.Source.left c.args.source.now) in
    let left = stream_left c.next_command.new.commands (g.S.Source.left c.next_command.new.source) in
    ends_refused_told told (course_of c.args.commands.now c.args.session.now) (g.K.Sink.held c.args.sink.now)
    (g.K.Sink.held c.refuse.new.sink) _ c.args.hands.now.seen _ _ c.refuse.result refl
    (returns-in-Ok-Malformed-clause-work g c)
    (over_malformed told c.args.commands.now c.args.session.now c.in-Ok-Malformed.command c.in-Ok-Malformed.offset
    (told_takes told left c.args.commands.now c.next_command.new.commands c.next_command.result
    (taken.Malformed c.in-Ok-Malformed.command c.in-Ok-Malformed.offset)
    (c.in-Ok-Malformed.is ∙ ap Ok c.in-Ok-Malformed.field-0-is) c.next_command.ensures.takes))

pub returns-in-Ok-End-clause-feeds : goal.returns-in-Ok-End-clause-feeds
returns-in-Ok-End-clause-feeds g c =
    let told = stream_left c.args.commands.now (g.S.Source.left c.args.source.now) in
    let left = stream_left c.next_command.new.commands (g.S.Source.left c.next_command.new.source) in
    ends_still_told told (course_of c.args.commands.now c.args.session.now) (g.K.Sink.held c.args.sink.now) _ _ _ c.status_with.result refl
    (λ whole. over_nothing told (course_of c.args.commands.now c.args.session.now)
    (told_takes told left c.args.commands.now c.next_command.new.commands c.next_command.result taken.End
    (c.in-Ok-End.is ∙ ap Ok c.in-Ok-End.field-0-is) c.next_command.ensures.takes))

pub returns-in-Ok-Full-clause-feeds : goal.returns-in-Ok-Full-clause-feeds
returns-in-Ok-Full-clause-feeds g c =
    let told = stream_left c.args.commands.now (g.S.Source.left c.args.source.now) in
    let left = stream_left c.next_command.new.commands (g.S.Source.left c.next_command.new.source) in
    ends_still_told told (course_of c.args.commands.now c.args.session.now) (g.K.Sink.held c.args.sink.now) _ _ _ status.Full refl
    (λ whole. over_full told (course_of c.args.commands.now c.args.session.now)
    (told_takes told left c.args.commands.now c.next_command.new.commands c.next_command.result taken.Full
    (c.in-Ok-Full.is ∙ ap Ok c.in-Ok-Full.field-0-is) c.next_command.ensures.takes))

pub returns-in-Ok-ReadFault-clause-feeds : goal.returns-in-Ok-ReadFault-clause-feeds
returns-in-Ok-ReadFault-clause-feeds g c =
    ends_still_told (stream_left c.args.commands.now (g.S.Source.left c.args.source.now)) (course_of c.args.commands.now c.args.session.now)
    (g.K.Sink.held c.args.sink.now) _ _ _ status.ReadFault refl
    (λ whole. absurd whole)

pub returns-in-Err-clause-feeds : goal.returns-in-Err-clause-feeds
returns-in-Err-clause-feeds g c =
    ends_still_told (stream_left c.args.commands.now (g.S.Source.left c.args.source.now)) (course_of c.args.commands.now c.args.session.now)
    (g.K.Sink.held c.args.sink.now) _ _ _ status.NoMemory refl
    (λ whole. absurd whole)
