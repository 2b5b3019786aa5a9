-- At each point of a session the files that are present keep the limits of a project.
use Rattle.std.proofs.Common.{◌≡◌, ℕ, List, refl, ◌∙◌}
use Rattle.project_form.specs.Files.{AreFiles}
use Rattle.session_replies.specs.Laws.{AnswersKeepLimits, AnswersKeepSetting}
use Rattle.heapan_top.specs.Replies.{Course, Passes}

pub passes_keep : AnswersKeepLimits → (course later : Course) (stream : List ℕ) → AreFiles course.present.files → Passes course stream later
    → AreFiles later.present.files
passes_keep keep _ _ _ are (Passes.here course stream) = are
passes_keep keep _ _ _ are (Passes.behind course later stream rest asked text after few first answers behind) =
    passes_keep keep _ later rest (keep course.present after asked text are answers) behind

-- and what the session began with stays
pub passes_set : AnswersKeepSetting → (course later : Course) (stream : List ℕ) → Passes course stream later
    → later.present.setting ≡ course.present.setting
passes_set keep _ _ _ (Passes.here course stream) = refl
passes_set keep _ _ _ (Passes.behind course later stream rest asked text after few first answers behind) =
    passes_set keep _ later rest behind ∙ keep course.present after asked text answers
