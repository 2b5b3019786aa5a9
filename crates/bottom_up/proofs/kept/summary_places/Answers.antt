-- Each procedure has a summary, which is the first of its name.
use Rattle.std.proofs.Common.{◌≡◌, ◌∙◌, All, IsSome, ap, filter_map, map, subst, sym}
use Rattle.std.proofs.lemmas.Result.{IfOk-weaker}
use Rattle.shape_data.specs.declared.program.Proc.{Proc}
use Rattle.solve_laws.specs.Certificates.Limits.{analysable}
use Rattle.bottom_up.specs.BottomUp.{known_by, summaries_for}
use Rattle.bottom_up.specs.declared.places.Place.{Place}
use Rattle.bottom_up.specs.Placed.{answers_kept, summary_among, summary_in}
use Rattle.bottom_up.proofs.Summed.{all_are_named, all_are_there, summaries_are, summaries_known}
use Rattle.bottom_up.proofs.kept.summary_places.Goals as goal

pub places_named-requires : goal.places_named-requires
places_named-requires c =
    subst (All (λ (proc : Proc). IsSome (summary_among (answers_kept c.args.kept.now) proc.flow.name))) (sym c.as_slice.ensures)
    (all_are_named analysable c.requires.right.0 c.requires.right.1.formed c.args.program.now c.requires.program
    (answers_kept c.args.kept.now) c.requires.right.2)

pub returns-clause-there : goal.returns-clause-there
returns-clause-there c =
    let answers = answers_kept c.args.kept.now in
    let procs = c.as_slice.result.now in
    IfOk-weaker c.places_named.result
    (λ places. map (summary_in answers) places.items ≡ map (λ (proc : Proc). summary_among answers proc.flow.name) procs)
    (λ places. All (λ (place : Place). IsSome (summary_in answers place)) places.items)
    (λ places are.
    all_are_there answers places.items procs are
    (subst (All (λ (proc : Proc). IsSome (summary_among answers proc.flow.name))) (sym c.as_slice.ensures)
    (all_are_named analysable c.requires.right.0 c.requires.right.1.formed c.args.program.now c.requires.program answers
    c.requires.right.2)))
    c.places_named.ensures

pub returns-clause-summaries : goal.returns-clause-summaries
returns-clause-summaries c = λ answer_of right same.
    let answers = answers_kept c.args.kept.now in
    let procs = c.as_slice.result.now in
    IfOk-weaker c.places_named.result
    (λ places. map (summary_in answers) places.items ≡ map (λ (proc : Proc). summary_among answers proc.flow.name) procs)
    (λ places. filter_map (summary_in answers) places.items
    ≡ summaries_for (known_by answer_of c.args.program.now) c.args.program.now.procs)
    (λ places are.
    summaries_are answers places.items procs are
    ∙ ap (filter_map (λ (proc : Proc). summary_among answers proc.flow.name)) c.as_slice.ensures ∙
    summaries_known analysable answer_of right.formed c.args.program.now c.requires.program answers same)
    c.places_named.ensures
