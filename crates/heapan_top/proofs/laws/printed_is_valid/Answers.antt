-- What is present keeps the limits, and what was loaded is right, so what is reported is valid.
use Rattle.heapan_top.specs.Replies.{beginning}
use Rattle.heapan_top.proofs.Fronts.{opened_are_right}
use Rattle.heapan_top.proofs.Printing.{passes_keep}
use Rattle.heapan_top.proofs.laws.printed_is_valid.Goals as goal

pub returns : goal.returns
returns c = λ store setting front stream course program opens passes reads.
    c.reported_is_valid.ensures setting.loaded course.present.files program
    (opened_are_right c.loaded_are_inductive.ensures c.limits_widen.ensures.answers c.limits_widen.ensures.known store setting front opens)
    (passes_keep c.answers_keep_limits.ensures.limits (beginning setting) course stream c.limits_are_kept.ensures.none passes) reads
