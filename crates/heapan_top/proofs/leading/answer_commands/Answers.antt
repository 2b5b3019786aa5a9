-- Each command leads on, or answers the session.
use Rattle.std.proofs.Common.{◌≡◌, ◌∙◌, ap, arith, refl, rules}
use Rattle.session_lines.specs.Reading.{stream_left}
use Rattle.session_replies.specs.Answers.{Setting}
use Rattle.heapan_top.specs.declared.status.Status.TheVariants as status
use Rattle.heapan_top.specs.Parts.{course_of, setting_of}
use Rattle.heapan_top.specs.Replies.{beginning}
use Rattle.heapan_top.proofs.CourseLaws.{all_answered, begun_at, reads_source, reads_through, under_way, where_none}
use Rattle.heapan_top.proofs.FedLaws.{all_fed, ends_still_told, fed_more, none_fed_at}
use Rattle.heapan_top.proofs.WorkLaws.{all_done, done_more, none_appended, none_done_at}
use Rattle.heapan_top.proofs.leading.answer_commands.Goals as goal

pub returns-in_default-clause-work : goal.returns-in_default-clause-work
returns-in_default-clause-work g c =
    none_appended (setting_of c.args.loaded.now.value c.args.path) (g.S.Source.left c.args.source.now)
    (g.K.Sink.held c.args.sink.now) c.args.hands.now.seen

pub returns-in_default-clause-feeds : goal.returns-in_default-clause-feeds
returns-in_default-clause-feeds g c =
    ends_still_told (g.S.Source.left c.args.source.now) (beginning (setting_of c.args.loaded.now.value c.args.path))
    (g.K.Sink.held c.args.sink.now) _ _ _ status.NoMemory refl (λ whole. absurd whole)

pub loop-status-init : goal.loop-status-init
loop-status-init g c =
    let setting = setting_of c.args.loaded.now.value c.args.path in
    let told = g.S.Source.left c.args.source.now in
    let held = g.K.Sink.held c.args.sink.now in
    record {
      under_way = begun_at setting told held _ _ (search rules) (search rules);
      done = none_done_at setting told held _ _ _ (search rules) (search rules);
      fed = none_fed_at setting _ refl _ _ told held _ _ (search rules) (search rules);
      steady = refl;
      setting = search rules;
      others = λ other no. refl;
      reads = search rules;
      reads_never_fall = omega arith;
      writes_never_fall = omega arith;
      stores_never_fall = omega arith;
    }

pub turn-requires : goal.turn-requires
turn-requires g c = record { named = ap (λ (s : Setting). s.saves) c.loop-status.invariant.setting }

pub returns-in-Some-clause-answers : goal.returns-in-Some-clause-answers
returns-in-Some-clause-answers g c =
    all_answered c.one_reply.ensures c.some_reply.ensures (setting_of c.args.loaded.now.value c.args.path)
    (g.S.Source.left c.args.source.now) (stream_left c.loop-status.commands (g.S.Source.left c.loop-status.source))
    (stream_left c.turn.new.commands (g.S.Source.left c.turn.new.source)) (g.K.Sink.held c.args.sink.now) (g.K.Sink.held c.loop-status.sink)
    (g.K.Sink.held c.turn.new.sink)
    (course_of c.loop-status.commands c.loop-status.session)
    (course_of c.turn.new.commands c.turn.new.session) c.turn.result c.in-Some.status c.in-Some.is c.loop-status.invariant.under_way
    c.turn.ensures.turn

pub returns-in-Some-clause-work : goal.returns-in-Some-clause-work
returns-in-Some-clause-work g c =
    all_done c.loop-status.hands.seen c.turn.new.hands.seen c.turn.ensures.rises (setting_of c.args.loaded.now.value c.args.path)
    (g.S.Source.left c.args.source.now) (stream_left c.loop-status.commands (g.S.Source.left c.loop-status.source))
    (stream_left c.turn.new.commands (g.S.Source.left c.turn.new.source)) (g.K.Sink.held c.args.sink.now) (g.K.Sink.held c.loop-status.sink)
    (g.K.Sink.held c.turn.new.sink)
    (course_of c.loop-status.commands c.loop-status.session)
    (course_of c.turn.new.commands c.turn.new.session) c.turn.result c.in-Some.status c.in-Some.is c.loop-status.invariant.done
    c.turn.ensures.work

pub returns-in-Some-clause-feeds : goal.returns-in-Some-clause-feeds
returns-in-Some-clause-feeds g c =
    all_fed (c.loop-status.reporters.items ≡ c.args.reporters.now.items) (c.turn.new.reporters.items ≡ c.loop-status.reporters.items)
    (c.turn.new.reporters.items ≡ c.args.reporters.now.items) (λ one two. two ∙ one) _ _ _ _ _ _
    (setting_of c.args.loaded.now.value c.args.path) (g.S.Source.left c.args.source.now)
    (stream_left c.loop-status.commands (g.S.Source.left c.loop-status.source))
    (stream_left c.turn.new.commands (g.S.Source.left c.turn.new.source))
    (g.K.Sink.held c.args.sink.now) (g.K.Sink.held c.loop-status.sink) (g.K.Sink.held c.turn.new.sink)
    (course_of c.loop-status.commands c.loop-status.session)
    (course_of c.turn.new.commands c.turn.new.session) c.turn.result c.in-Some.status c.in-Some.is c.loop-status.invariant.fed
    c.turn.ensures.feeds

pub returns-in-Some-clause-steady : goal.returns-in-Some-clause-steady
returns-in-Some-clause-steady g c = c.turn.ensures.steady ∙ c.loop-status.invariant.steady

pub returns-in-Some-clause-others : goal.returns-in-Some-clause-others
returns-in-Some-clause-others g c = λ other no. c.turn.ensures.others other no ∙ c.loop-status.invariant.others other no

pub returns-in-Some-clause-reads : goal.returns-in-Some-clause-reads
returns-in-Some-clause-reads g c =
    let told = g.S.Source.left c.args.source.now in
    let left = g.S.Source.left c.turn.new.source in
    reads_source told left c.turn.new.commands.ahead
    (reads_through told (stream_left c.loop-status.commands (g.S.Source.left c.loop-status.source))
    (stream_left c.turn.new.commands left) c.loop-status.invariant.reads c.turn.ensures.reads)

pub loop-status-preserved : goal.loop-status-preserved
loop-status-preserved g c =
    let setting = setting_of c.args.loaded.now.value c.args.path in
    let told = g.S.Source.left c.args.source.now in
    let before = stream_left c.loop-status.commands (g.S.Source.left c.loop-status.source) in
    let after = stream_left c.turn.new.commands (g.S.Source.left c.turn.new.source) in
    record {
      under_way =
          under_way c.one_reply.ensures c.some_reply.ensures setting told before after (g.K.Sink.held c.args.sink.now)
          (g.K.Sink.held c.loop-status.sink) (g.K.Sink.held c.turn.new.sink)
          (course_of c.loop-status.commands c.loop-status.session)
          (course_of c.turn.new.commands c.turn.new.session) c.turn.result c.in_default-turn.is c.loop-status.invariant.under_way
          c.turn.ensures.turn;
      done =
          done_more c.loop-status.hands.seen c.turn.new.hands.seen c.turn.ensures.rises setting told before after
          (g.K.Sink.held c.args.sink.now) (g.K.Sink.held c.loop-status.sink) (g.K.Sink.held c.turn.new.sink)
          (course_of c.loop-status.commands c.loop-status.session)
          (course_of c.turn.new.commands c.turn.new.session) c.turn.result c.in_default-turn.is c.loop-status.invariant.done
          c.turn.ensures.work;
      fed =
          fed_more (c.loop-status.reporters.items ≡ c.args.reporters.now.items) (c.turn.new.reporters.items ≡ c.loop-status.reporters.items)
          (c.turn.new.reporters.items ≡ c.args.reporters.now.items) (λ one two. two ∙ one) _ _ _ _ _ _
          setting told before after (g.K.Sink.held c.args.sink.now) (g.K.Sink.held c.loop-status.sink) (g.K.Sink.held c.turn.new.sink)
          (course_of c.loop-status.commands c.loop-status.session)
          (course_of c.turn.new.commands c.turn.new.session) c.turn.result c.in_default-turn.is c.loop-status.invariant.fed
          c.turn.ensures.feeds;
      steady = c.turn.ensures.steady ∙ c.loop-status.invariant.steady;
      setting = where_none c.turn.result c.in_default-turn.is c.turn.ensures.named ∙ c.loop-status.invariant.setting;
      others = λ other no. c.turn.ensures.others other no ∙ c.loop-status.invariant.others other no;
      reads = reads_through told before after c.loop-status.invariant.reads c.turn.ensures.reads;
      reads_never_fall = let one = c.loop-status.invariant.reads_never_fall in let two = c.turn.ensures.reads_never_fall in omega arith;
      writes_never_fall = let one = c.loop-status.invariant.writes_never_fall in let two = c.turn.ensures.writes_never_fall in omega arith;
      stores_never_fall = let one = c.loop-status.invariant.stores_never_fall in let two = c.turn.ensures.stores_never_fall in omega arith;
    }
