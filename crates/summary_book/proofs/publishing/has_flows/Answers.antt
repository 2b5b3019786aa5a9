-- The key of the claim stands in the log.
use Rattle.std.proofs.Common.{◌≡◌, ◌∙◌, slice_get, sym, ap}
use Rattle.std.specs.List.{filter_map}
use Rattle.std.specs.Option.{option_copied}
use Rattle.shape_data.specs.declared.answer.Key.{Key}
use Rattle.component_keys.specs.Keys.{flows_of}
use Rattle.component_keys.specs.Tests.{flows_test}
use Rattle.component_keys.proofs.Basics.{some_same}
use Rattle.component_keys.proofs.Whole.{same_answers}
use Rattle.summary_book.proofs.publishing.has_flows.Goals as goal

pub returns-in-Some : goal.returns-in-Some
returns-in-Some c = λ key e.
    let flows = filter_map (slice_get (flows_of c.args.program.now)) c.args.members.now in
    let same : key ≡ c.in-Some.key.now = some_same (sym e ∙ sym c.key_at.ensures ∙ ap option_copied c.in-Some.is) in
    let procs : key.procs ≡ c.deref.result.now = ap (λ (k : Key). k.procs) same ∙ sym c.deref.ensures in
    same_answers c.are_flows.result (flows_test.0 key.procs flows) (λ t. (flows_test.1 key.procs flows).1 (procs ∙ c.are_flows.ensures.0 t))
    (λ t. c.are_flows.ensures.1 (sym procs ∙ (flows_test.1 key.procs flows).0 t))
