use Rattle.std.proofs.Common.{◌∙◌, ◌++◌, ◌∷◌, [], List, get_or, sym, ap}
use Rattle.std.specs.Option.{option_map}
use Rattle.std.specs.Prelude.{slice_get}
use Rattle.std.specs.List.{filter_map}
use Rattle.std.proofs.Common.{take}
use Rattle.std.proofs.lemmas.List.{map_push}
use Rattle.std.proofs.lemmas.Option.{slice_get-get_or}
use Rattle.shape_data.specs.declared.program.Flow.{Flow}
use Rattle.shape_data.specs.declared.program.Proc.{Proc}
use Rattle.component_keys.specs.Keys.{flows_of, names_of}
use Rattle.component_keys.proofs.Basics.{at_map}
use Rattle.composed_keys.proofs.Noted.{more_at}
use Rattle.claim_replay.proofs.known.names_at.Goals as goal

pub loop-number-preserved : goal.loop-number-preserved
loop-number-preserved c =
    let place = get_or c.args.members.now c.loop-number.number-index 0 in
    let flow = (get_or c.args.program.now.procs place c.index-deref-number.result).flow in
    let before = filter_map (slice_get (flows_of c.args.program.now)) (take c.loop-number.number-index c.args.members.now) in
    c.in_ok-push.ensures.ok ∙ (ap (λ l. l ++ c.in_ok-copy_of.field-0 ∷ []) c.loop-number.invariant ∙
    sym (ap names_of
    (more_at (flows_of c.args.program.now) c.args.members.now c.loop-number.number-index flow c.loop-number-test.true
    (at_map (λ (proc : Proc). proc.flow) c.args.program.now.procs place ∙
    ap (option_map (λ (proc : Proc). proc.flow))
    (slice_get-get_or c.args.program.now.procs place c.index-deref-number.result
    (c.requires c.loop-number.number-index 0 c.loop-number-test.true)))) ∙
    (map_push (λ (f : Flow). f.name) before flow ∙
    ap (λ n. names_of before ++ n ∷ [])
    (ap (λ (procs : List Proc). (get_or procs place c.index-deref-number.result).flow.name) (sym c.deref.ensures)
    ∙ sym c.in_ok-copy_of.ensures))))
