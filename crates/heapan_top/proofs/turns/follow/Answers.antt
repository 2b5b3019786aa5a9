-- By the command.
use Rattle.std.proofs.Common.{◌∙◌, ap, refl, subst}
use Rattle.session_replies.specs.Answers.{IsAnswered}
use Rattle.heapan_top.specs.Replies.{status_with}
use Rattle.heapan_top.proofs.CourseLaws.{quits, reply_is_cut, reply_keeps_setting, turned}
use Rattle.heapan_top.proofs.FedLaws.{ends_still, over_at, turned_fed}
use Rattle.heapan_top.proofs.WorkLaws.{nothing_counted, turned_work}
use Rattle.heapan_top.proofs.turns.follow.Goals as goal

pub returns-in-Quit-clause-turn : goal.returns-in-Quit-clause-turn
returns-in-Quit-clause-turn g c = λ course stream rest at first.
    quits course c.args.session.now c.args.number c.args.offset stream rest c.args.asked
    (g.K.Sink.held c.args.sink.now) c.status_with.result at first c.in-Quit.is
    (c.status_with.ensures ∙ ap status_with c.missing.ensures)

pub returns-in-Quit-clause-work : goal.returns-in-Quit-clause-work
returns-in-Quit-clause-work g c =
    λ course stream rest at first. nothing_counted course stream (g.K.Sink.held c.args.sink.now) c.args.hands.now.seen

pub returns-in-Quit-clause-feeds : goal.returns-in-Quit-clause-feeds
returns-in-Quit-clause-feeds g c = λ course stream rest at first.
    ends_still course stream (g.K.Sink.held c.args.sink.now) _ _ _ c.status_with.result refl
    (λ whole. over_at c.one_first.ensures course stream rest c.args.asked first (λ answered. subst IsAnswered c.in-Quit.is answered))

pub returns-in_default : goal.returns-in_default
returns-in_default g c =
    let cut =
    reply_is_cut c.args.session.now c.reply.new.session c.args.asked (g.K.Sink.held c.args.sink.now)
    (g.K.Sink.held c.reply.new.sink) c.reply.result c.reply.ensures.reply in
    record {
      named =
          reply_keeps_setting c.answers_keep_limits.ensures.setting c.args.session.now c.reply.new.session c.args.asked
          (g.K.Sink.held c.args.sink.now) (g.K.Sink.held c.reply.new.sink) c.reply.result
          c.reply.ensures.reply;
      work = λ course stream rest at first.
          turned_work c.one_first.ensures c.one_answer.ensures course c.args.session.now c.args.number c.args.offset stream rest
          c.args.asked c.reply.new.session
          (g.K.Sink.held c.args.sink.now)
          (g.K.Sink.held c.reply.new.sink) c.reply.new.hands.seen c.reply.result at first c.reply.ensures.work;
      feeds = λ course stream rest at first.
          turned_fed course c.args.session.now c.args.number c.args.offset stream rest c.args.asked c.reply.new.session
          (g.K.Sink.held c.args.sink.now)
          (g.K.Sink.held c.reply.new.sink) _ _ _ _ _ c.reply.result at first c.reply.ensures.reply c.reply.ensures.feeds;
      steady = c.reply.ensures.steady;
      others = c.reply.ensures.others;
      rises = c.reply.ensures.rises;
      turn = λ course stream rest at first.
          turned c.one_reply.ensures c.some_reply.ensures course c.args.session.now c.args.number c.args.offset stream rest c.args.asked
          c.reply.new.session
          (g.K.Sink.held c.args.sink.now) (g.K.Sink.held c.reply.new.sink) c.reply.result at first c.reply.ensures.reply;
      not_read_fault = cut.0;
      not_usage = cut.1;
      write_fault = c.reply.ensures.write_fault;
      store_fault = c.reply.ensures.store_fault;
      writes_never_fall = c.reply.ensures.writes_never_fall;
      stores_never_fall = c.reply.ensures.stores_never_fall;
    }
