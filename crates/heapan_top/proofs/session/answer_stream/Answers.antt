-- Behind what is written before any reply, or in it.
use Rattle.std.proofs.Common.{◌∙◌, ap, subst, sym}
use Rattle.heapan_top.specs.Parts.{IsCutShort, path_bytes, setting_of}
use Rattle.heapan_top.specs.Stores.{front_of, store_told}
use Rattle.heapan_top.proofs.CourseLaws.{store_cuts, write_cuts}
use Rattle.heapan_top.proofs.Fronts.{answers_behind_front, answers_in_front, counts_behind_front, counts_in_front, counts_unopened}
use Rattle.heapan_top.proofs.Fronts.{fed_behind_front, still_in_front, still_unopened, told_same}
use Rattle.heapan_top.proofs.session.answer_stream.Goals as goal

-- ---- the store could not be read

pub returns-in-Err-clause-counted : goal.returns-in-Err-clause-counted
returns-in-Err-clause-counted g c =
    counts_unopened c.one_opening.ensures.one c.one_opening.ensures.some
    (store_told (g.P.Keeper.kept c.args.keeper.now) (path_bytes c.args.asked.now.store)) (g.S.Source.left c.args.source.now)
    (g.K.Sink.held c.args.sink.now) c.nothing_done.result.solves

pub returns-in-Err-clause-fed : goal.returns-in-Err-clause-fed
returns-in-Err-clause-fed g c =
    still_unopened c.one_opening.ensures.one c.one_opening.ensures.some
    (store_told (g.P.Keeper.kept c.args.keeper.now) (path_bytes c.args.asked.now.store)) (g.S.Source.left c.args.source.now)
    (g.K.Sink.held c.args.sink.now)
    (λ one. (goal.Reporter-dyn g
    (one.vtable, one.value)).known one.value) c.args.reporters.items c.nothing_done.result.reporters.items _ _ c.nothing_done.result.status
    (ap (λ all. all.items) c.nothing_done.ensures.reporters)
    (told_same (path_bytes c.args.asked.now.store) (g.P.Keeper.kept c.args.keeper.now)
    (g.P.Keeper.kept c.open.new.keeper) c.open.ensures.same)
    (subst IsCutShort (sym c.nothing_done.ensures.status) (store_cuts c.in-Err.status c.in-Err.ensures.status))

-- ---- all of the front was written

pub returns-in-Ok-write_front-clause-answers : goal.returns-in-Ok-write_front-clause-answers
returns-in-Ok-write_front-clause-answers g c =
    answers_behind_front c.one_opening.ensures.one (setting_of c.in-Ok.opened.loaded.value c.args.asked.now.store)
    (front_of c.in-Ok.opened.unread)
    (store_told (g.P.Keeper.kept c.args.keeper.now) (path_bytes c.args.asked.now.store)) c.in-Ok.ensures.opens
    (g.S.Source.left c.args.source.now) (g.K.Sink.held c.args.sink.now)
    (g.K.Sink.held c.answer_commands_at_pool.new.sink)
    (g.K.Sink.held c.write_front.new.sink) c.in-Ok-write_front.ensures.written c.answer_commands_at_pool.result.status
    c.answer_commands_at_pool.ensures.led.answers

pub returns-in-Ok-write_front-clause-counted : goal.returns-in-Ok-write_front-clause-counted
returns-in-Ok-write_front-clause-counted g c =
    counts_behind_front c.one_opening.ensures.one (setting_of c.in-Ok.opened.loaded.value c.args.asked.now.store)
    (front_of c.in-Ok.opened.unread)
    (store_told (g.P.Keeper.kept c.args.keeper.now) (path_bytes c.args.asked.now.store)) c.in-Ok.ensures.opens
    (g.S.Source.left c.args.source.now) (g.K.Sink.held c.args.sink.now)
    (g.K.Sink.held c.answer_commands_at_pool.new.sink)
    (g.K.Sink.held c.write_front.new.sink) c.in-Ok-write_front.ensures.written c.answer_commands_at_pool.result.solves
    c.answer_commands_at_pool.ensures.led.work

pub returns-in-Ok-write_front-clause-fed : goal.returns-in-Ok-write_front-clause-fed
returns-in-Ok-write_front-clause-fed g c =
    fed_behind_front c.one_opening.ensures.one (setting_of c.in-Ok.opened.loaded.value c.args.asked.now.store)
    (front_of c.in-Ok.opened.unread)
    (store_told (g.P.Keeper.kept c.args.keeper.now) (path_bytes c.args.asked.now.store)) c.in-Ok.ensures.opens
    (g.S.Source.left c.args.source.now) (g.K.Sink.held c.args.sink.now)
    (g.K.Sink.held c.answer_commands_at_pool.new.sink)
    (g.K.Sink.held c.write_front.new.sink) c.in-Ok-write_front.ensures.written _ _ _ _ _ _ c.answer_commands_at_pool.result.status
    (told_same (path_bytes c.args.asked.now.store) (g.P.Keeper.kept c.args.keeper.now)
    (g.P.Keeper.kept c.open.new.keeper) c.open.ensures.same) c.answer_commands_at_pool.ensures.led.fed

pub returns-in-Ok-write_front-clause-others : goal.returns-in-Ok-write_front-clause-others
returns-in-Ok-write_front-clause-others g c = λ other no. c.answer_commands_at_pool.ensures.led.others other no ∙ c.open.ensures.same other

-- ---- the session ended in it

pub returns-in-Err-write_front-clause-answers : goal.returns-in-Err-write_front-clause-answers
returns-in-Err-write_front-clause-answers g c =
    answers_in_front c.one_opening.ensures.one (setting_of c.in-Ok.opened.loaded.value c.args.asked.now.store)
    (front_of c.in-Ok.opened.unread)
    (store_told (g.P.Keeper.kept c.args.keeper.now) (path_bytes c.args.asked.now.store)) c.in-Ok.ensures.opens
    (g.S.Source.left c.args.source.now) (g.K.Sink.held c.args.sink.now) (g.K.Sink.held c.write_front.new.sink)
    c.in-Err-write_front.ensures.cut c.nothing_done-in-Err-write_front.result.status
    (subst IsCutShort (sym c.nothing_done-in-Err-write_front.ensures.status)
    (write_cuts c.in-Err-write_front.status c.in-Err-write_front.ensures.status))

pub returns-in-Err-write_front-clause-counted : goal.returns-in-Err-write_front-clause-counted
returns-in-Err-write_front-clause-counted g c =
    counts_in_front c.one_opening.ensures.one (setting_of c.in-Ok.opened.loaded.value c.args.asked.now.store)
    (front_of c.in-Ok.opened.unread)
    (store_told (g.P.Keeper.kept c.args.keeper.now) (path_bytes c.args.asked.now.store)) c.in-Ok.ensures.opens
    (g.S.Source.left c.args.source.now) (g.K.Sink.held c.args.sink.now) (g.K.Sink.held c.write_front.new.sink)
    c.in-Err-write_front.ensures.cut c.nothing_done-in-Err-write_front.result.solves

pub returns-in-Err-write_front-clause-fed : goal.returns-in-Err-write_front-clause-fed
returns-in-Err-write_front-clause-fed g c =
    still_in_front c.one_opening.ensures.one (setting_of c.in-Ok.opened.loaded.value c.args.asked.now.store)
    (front_of c.in-Ok.opened.unread)
    (store_told (g.P.Keeper.kept c.args.keeper.now) (path_bytes c.args.asked.now.store)) c.in-Ok.ensures.opens
    (g.S.Source.left c.args.source.now) (g.K.Sink.held c.args.sink.now) (g.K.Sink.held c.write_front.new.sink)
    c.in-Err-write_front.ensures.cut
    (λ one. (goal.Reporter-dyn g
    (one.vtable, one.value)).known one.value) c.args.reporters.items c.nothing_done-in-Err-write_front.result.reporters.items _ _
    c.nothing_done-in-Err-write_front.result.status (ap (λ all. all.items) c.nothing_done-in-Err-write_front.ensures.reporters)
    (told_same (path_bytes c.args.asked.now.store) (g.P.Keeper.kept c.args.keeper.now)
    (g.P.Keeper.kept c.open.new.keeper) c.open.ensures.same)
    (subst IsCutShort (sym c.nothing_done-in-Err-write_front.ensures.status)
    (write_cuts c.in-Err-write_front.status c.in-Err-write_front.ensures.status))
