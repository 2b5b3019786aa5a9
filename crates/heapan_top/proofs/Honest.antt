-- Over honest entries the replies to a stream are those of an analysis from nothing, command by command.
use Rattle.std.proofs.Common.{ℕ, ◌-◌, List, length, sym, subst}
use Rattle.bottom_up.specs.Laws.{IsHonest}
use Rattle.session_replies.specs.Answers.{Setting}
use Rattle.session_replies.specs.Laws.{AnswersKeepSetting, HonestAnswers, from_nothing}
use Rattle.heapan_top.specs.declared.status.Status.{Status}
use Rattle.heapan_top.specs.Replies.{Course, Replies, one_behind}

-- the same course without what was loaded
abbrev pub bare : Course → Course
bare course = record { taken = course.taken; offset = course.offset; present = from_nothing course.present }

pub honest_through : HonestAnswers → AnswersKeepSetting → (course : Course) (stream text : List ℕ) (ended : Status)
    → IsHonest course.present.setting.loaded → Replies course stream text ended → Replies (bare course) stream text ended
honest_through honest_is keep _ _ _ _ honest (Replies.end course) = Replies.end (bare course)
honest_through honest_is keep _ _ _ _ honest (Replies.quit course stream rest few first) = Replies.quit (bare course) stream rest few first
honest_through honest_is keep _ _ _ _ honest (Replies.full course stream some most) = Replies.full (bare course) stream some most
honest_through honest_is keep _ _ _ _ honest (Replies.malformed course stream some few none) =
    Replies.malformed (bare course) stream some few none
honest_through honest_is keep _ _ _ _ honest (Replies.more course stream rest asked text others after ended few first answers behind) =
    let still : IsHonest after.setting.loaded =
    subst (λ (setting : Setting). IsHonest setting.loaded) (sym (keep course.present after asked text answers)) honest in
    Replies.more (bare course) stream rest asked text others (from_nothing after) ended few first
    (honest_is course.present after asked text honest answers)
    (honest_through honest_is keep (one_behind course (length stream - length rest) after) rest others ended still behind)
