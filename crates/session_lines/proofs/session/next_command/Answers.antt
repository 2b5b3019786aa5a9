-- What stands first in the stream was taken, or is no command; and where all of it stood ahead, nothing was read.
use Rattle.std.proofs.Common.{◌≡◌, ◌≢◌, ◌∙◌, ◌+◌, ◌<◌, List, ℕ, [], ◌++◌, Option, Some, sym, ap, arith, refl, inr, length, take, drop}
use Rattle.std.proofs.Common.{subst}
use Rattle.std.proofs.lemmas.Result.{IfOk-weaker}
use Rattle.std.specs.Prelude.{IfSome}
use Rattle.io_ports.specs.Bytes.{before_left}
use Rattle.session_lines.specs.Lines.{line_text}
use Rattle.session_lines.specs.Parts.{IsLineIn, IsNoCommand, TakesLine}
use Rattle.session_lines.specs.Reading.{IsCounted, Reading, Takes, stream_left}
use Rattle.session_lines.proofs.FirstLemmas.{cut_at, ended_size, if_told, last_cut, line_counted, line_takes, none_counted, long_ahead}
use Rattle.session_lines.proofs.FirstLemmas.{nothing_behind}
use Rattle.session_lines.proofs.LineLemmas.{not_absent}
use Rattle.session_lines.proofs.Streams.{not_empty}
use Rattle.session_lines.proofs.session.next_command.Goals as goal

pub returns-in_ok-line-in-Ended-clause-takes : goal.returns-in_ok-line-in-Ended-clause-takes
returns-in_ok-line-in-Ended-clause-takes g c =
    let ahead = c.first_line.new.ahead in
    let left = g.S.Source.left c.first_line.new.source in
    let place = c.in-Ended.place in
    let found = c.in_ok-line-in-Ended.line in
    let new = c.take_line.new.commands in
    let after = stream_left new (g.S.Source.left c.take_line.new.source) in
    let before = before_left (drop (place + 1) ahead) left in
    let same : c.commands.inside.ahead ≡ c.args.commands.now.ahead = ap (λ (r : Reading). r.ahead) c.commands.view_is in
    let ends = rw c.in-Ended.is at c.in_ok-place.ensures.ends in
    let taken = ap (λ (r : Reading). r.taken) c.commands.view_is in
    let few : c.args.commands.now.taken < 65536 = omega (arith, c.commands.invariant) in
    let is_found : IsLineIn (take place ahead) found =
    subst (λ (xs : List ℕ). IsLineIn (take place xs) found) c.bytes.ensures.value c.in_ok-line-in-Ended.ensures in
    if_told _ _ (λ stream told.
    let told' : before_left ahead left ≡ Some stream =
    sym c.first_line.ensures.stream ∙ ap (λ xs. before_left xs (g.S.Source.left c.args.source.now)) same ∙ told in
    let cut = cut_at stream ahead place left told' ends.0 in
    IfOk-weaker c.take_line.result (TakesLine found (place + 1) _ new before after) (Takes c.args.commands.now new stream after)
    (λ answer takes. line_takes found (place + 1) c.args.commands.now _ new before after answer stream (take place ahead) cut.behind
    (ap (λ (r : Reading). r.taken) c.commands.view_is)
    (ap (λ (r : Reading). r.offset) c.commands.view_is) few is_found cut.cut ends.0.first cut.told cut.whole cut.some takes)
    c.take_line.ensures.takes)

pub returns-in_ok-line-in-Ended-clause-unread : goal.returns-in_ok-line-in-Ended-clause-unread
returns-in_ok-line-in-Ended-clause-unread g c = λ line body rest allowed whole ended.
    let same : c.commands.inside.ahead ≡ c.args.commands.now.ahead = ap (λ (r : Reading). r.ahead) c.commands.view_is in
    let (kept, unread) =
    c.first_line.ensures.unread (λ absent. not_absent 10 (line_text line) (body ++ rest) c.commands.inside.ahead (same ∙ ended) absent) in
    let ends = rw c.in-Ended.is at c.in_ok-place.ensures.ends in
    let (is, size) =
    ended_size c.first_line.new.ahead c.in-Ended.place line body rest c.in_ok-line-in-Ended.line ends.0
    (subst (λ (xs : List ℕ). IsLineIn
    (take c.in-Ended.place xs) c.in_ok-line-in-Ended.line) c.bytes.ensures.value c.in_ok-line-in-Ended.ensures) allowed whole
    (kept ∙ same ∙ ended) in
    let quiet = rw is at c.take_line.ensures.unread in
    quiet size ∙ unread

pub returns-in_ok-line-in-Last-clause-takes : goal.returns-in_ok-line-in-Last-clause-takes
returns-in_ok-line-in-Last-clause-takes g c =
    let ahead = c.first_line.new.ahead in
    let left = g.S.Source.left c.first_line.new.source in
    let size = length c.bytes-size.result.now in
    let before = before_left (drop size ahead) left in
    let found = c.in_ok-line-in-Last.line in
    let new = c.take_line-in-Last.new.commands in
    let after = stream_left new (g.S.Source.left c.take_line-in-Last.new.source) in
    let same : c.commands.inside.ahead ≡ c.args.commands.now.ahead = ap (λ (r : Reading). r.ahead) c.commands.view_is in
    let ends = rw c.in-Last.is at c.in_ok-place.ensures.ends in
    let taken = ap (λ (r : Reading). r.taken) c.commands.view_is in
    let few : c.args.commands.now.taken < 65536 = omega (arith, c.commands.invariant) in
    let is_found : IsLineIn ahead found =
    subst (λ (xs : List ℕ). IsLineIn xs found) c.bytes-in-Last.ensures.value c.in_ok-line-in-Last.ensures in
    let none = c.in_ok-place.ensures.last c.in-Last.is in
    if_told _ _ (λ stream told.
    let told' : before_left ahead left ≡ Some stream =
    sym c.first_line.ensures.stream ∙ ap (λ xs. before_left xs (g.S.Source.left c.args.source.now)) same ∙ told in
    let all = last_cut stream ahead left told' none in
    let lengths = ap length all in
    let sizes = ap length c.bytes-size.ensures.value in
    let some : stream ≢ [] = λ nothing. let zero = ap length nothing in omega (arith, c.if-size-eq0.false) in
    let whole : length stream ≡ size + 0 = omega arith in
    IfOk-weaker c.take_line-in-Last.result (TakesLine found size _ new before after) (Takes c.args.commands.now new stream after)
    (λ answer takes. line_takes found size c.args.commands.now _ new before after answer stream ahead []
    taken (ap (λ (r : Reading). r.offset) c.commands.view_is) few is_found (inr ((all, some), refl)) ends.0
    (ap (λ n. before_left (drop n ahead) left) sizes ∙ nothing_behind stream ahead left told' none) whole some takes)
    c.take_line-in-Last.ensures.takes)

pub returns-in_ok-line-in-Last-clause-unread : goal.returns-in_ok-line-in-Last-clause-unread
returns-in_ok-line-in-Last-clause-unread g c = λ line body rest allowed whole ended.
    let same : c.commands.inside.ahead ≡ c.args.commands.now.ahead = ap (λ (r : Reading). r.ahead) c.commands.view_is in
    let feed = not_absent 10 (line_text line) (body ++ rest) c.commands.inside.ahead (same ∙ ended) in
    let (kept, unread) = c.first_line.ensures.unread feed in
    let ends = rw c.in-Last.is at c.in_ok-place.ensures.ends in
    absurd (feed (rw kept at ends.0))

pub returns-in-TooLong-clause-takes : goal.returns-in-TooLong-clause-takes
returns-in-TooLong-clause-takes g c =
    let ahead = c.first_line.new.ahead in
    let left = g.S.Source.left c.first_line.new.source in
    let same : c.commands.inside.ahead ≡ c.args.commands.now.ahead = ap (λ (r : Reading). r.ahead) c.commands.view_is in
    let ends = rw c.in-TooLong.is at c.in_ok-place.ensures.ends in
    let taken = ap (λ (r : Reading). r.taken) c.commands.view_is in
    let few : c.args.commands.now.taken < 65536 = omega (arith, c.commands.invariant) in
    if_told _ _ (λ stream told.
    let told' : before_left ahead left ≡ Some stream =
    sym c.first_line.ensures.stream ∙ ap (λ xs. before_left xs (g.S.Source.left c.args.source.now)) same ∙ told in
    let none = long_ahead stream ahead left told' ends.1 ends.0 in
    subst (Takes c.args.commands.now _ stream _) (sym c.malformed.ensures) (record {
      some = subst (λ (o : Option (List ℕ)). IfSome o (λ s. s ≢ [])) told' (not_empty ahead left (omega (arith, ends.1)));
      few = few;
      none = none;
      is_number = ap (λ n. n + 1) taken;
      is_offset = ap (λ (r : Reading). r.offset) c.commands.view_is;
    }))

pub returns-in-TooLong-clause-unread : goal.returns-in-TooLong-clause-unread
returns-in-TooLong-clause-unread g c = λ line body rest allowed whole ended.
    let same : c.commands.inside.ahead ≡ c.args.commands.now.ahead = ap (λ (r : Reading). r.ahead) c.commands.view_is in
    (c.first_line.ensures.unread (λ absent. not_absent 10 (line_text line) (body ++ rest) c.commands.inside.ahead (same ∙ ended) absent)).1

pub returns-in-Failed-clause-unread : goal.returns-in-Failed-clause-unread
returns-in-Failed-clause-unread g c = λ line body rest allowed whole ended.
    let same : c.commands.inside.ahead ≡ c.args.commands.now.ahead = ap (λ (r : Reading). r.ahead) c.commands.view_is in
    (c.first_line.ensures.unread (λ absent. not_absent 10 (line_text line) (body ++ rest) c.commands.inside.ahead (same ∙ ended) absent)).1

pub returns-in_ok-line-in-Ended-clause-counted : goal.returns-in_ok-line-in-Ended-clause-counted
returns-in_ok-line-in-Ended-clause-counted g c =
    let ahead = c.first_line.new.ahead in
    let place = c.in-Ended.place in
    let found = c.in_ok-line-in-Ended.line in
    let taken = ap (λ (r : Reading). r.taken) c.commands.view_is in
    let few : c.args.commands.now.taken < 65536 = omega (arith, c.commands.invariant) in
    let is_found : IsLineIn (take place ahead) found =
    subst (λ (xs : List ℕ). IsLineIn (take place xs) found) c.bytes.ensures.value c.in_ok-line-in-Ended.ensures in
    IfOk-weaker c.take_line.result (TakesLine found (place + 1) _ c.take_line.new.commands _ _)
    (IsCounted c.args.commands.now c.take_line.new.commands)
    (λ answer takes. line_counted found (place + 1) c.args.commands.now _ c.take_line.new.commands _ _ answer (take place ahead) taken
    (ap (λ (r : Reading). r.offset) c.commands.view_is) few is_found takes)
    c.take_line.ensures.takes

pub returns-in_ok-line-in-Last-clause-counted : goal.returns-in_ok-line-in-Last-clause-counted
returns-in_ok-line-in-Last-clause-counted g c =
    let ahead = c.first_line.new.ahead in
    let size = length c.bytes-size.result.now in
    let found = c.in_ok-line-in-Last.line in
    let taken = ap (λ (r : Reading). r.taken) c.commands.view_is in
    let few : c.args.commands.now.taken < 65536 = omega (arith, c.commands.invariant) in
    let is_found : IsLineIn ahead found =
    subst (λ (xs : List ℕ). IsLineIn xs found) c.bytes-in-Last.ensures.value c.in_ok-line-in-Last.ensures in
    IfOk-weaker c.take_line-in-Last.result (TakesLine found size _ c.take_line-in-Last.new.commands _ _)
    (IsCounted c.args.commands.now c.take_line-in-Last.new.commands)
    (λ answer takes. line_counted found size c.args.commands.now _ c.take_line-in-Last.new.commands _ _ answer ahead taken
    (ap (λ (r : Reading). r.offset) c.commands.view_is) few is_found takes)
    c.take_line-in-Last.ensures.takes

pub returns-in_err-place-clause-unread : goal.returns-in_err-place-clause-unread
returns-in_err-place-clause-unread g c = λ line body rest allowed whole ended.
    let same : c.commands.inside.ahead ≡ c.args.commands.now.ahead = ap (λ (r : Reading). r.ahead) c.commands.view_is in
    (c.first_line.ensures.unread (λ absent. not_absent 10 (line_text line) (body ++ rest) c.commands.inside.ahead (same ∙ ended) absent)).1

pub returns-in_err-line-in-Ended-clause-unread : goal.returns-in_err-line-in-Ended-clause-unread
returns-in_err-line-in-Ended-clause-unread g c = λ line body rest allowed whole ended.
    let same : c.commands.inside.ahead ≡ c.args.commands.now.ahead = ap (λ (r : Reading). r.ahead) c.commands.view_is in
    (c.first_line.ensures.unread (λ absent. not_absent 10 (line_text line) (body ++ rest) c.commands.inside.ahead (same ∙ ended) absent)).1

pub returns-then-size-eq0-clause-unread : goal.returns-then-size-eq0-clause-unread
returns-then-size-eq0-clause-unread g c = λ line body rest allowed whole ended.
    let same : c.commands.inside.ahead ≡ c.args.commands.now.ahead = ap (λ (r : Reading). r.ahead) c.commands.view_is in
    (c.first_line.ensures.unread (λ absent. not_absent 10 (line_text line) (body ++ rest) c.commands.inside.ahead (same ∙ ended) absent)).1

pub returns-in_err-line-in-Last-clause-unread : goal.returns-in_err-line-in-Last-clause-unread
returns-in_err-line-in-Last-clause-unread g c = λ line body rest allowed whole ended.
    let same : c.commands.inside.ahead ≡ c.args.commands.now.ahead = ap (λ (r : Reading). r.ahead) c.commands.view_is in
    (c.first_line.ensures.unread (λ absent. not_absent 10 (line_text line) (body ++ rest) c.commands.inside.ahead (same ∙ ended) absent)).1

pub returns-then-commands-eq-MOST_COMMANDS-clause-counted : goal.returns-then-commands-eq-MOST_COMMANDS-clause-counted
returns-then-commands-eq-MOST_COMMANDS-clause-counted g c =
    let new : Reading = record { ahead = c.end_or_full.new.ahead; taken = c.commands.inside.taken; offset = c.commands.inside.offset } in
    IfOk-weaker c.end_or_full.result IsNoCommand (IsCounted c.args.commands.now new)
    (none_counted c.args.commands.now new (ap (λ (r : Reading). r.taken) c.commands.view_is)
    (ap (λ (r : Reading). r.offset) c.commands.view_is)) c.end_or_full.ensures.no_command
