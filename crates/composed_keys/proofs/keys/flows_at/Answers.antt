use Rattle.std.proofs.Common.{◌∙◌, ◌++◌, ◌∷◌, [], Some, List, get_or, sym, ap}
use Rattle.std.specs.Option.{option_map}
use Rattle.std.proofs.lemmas.Option.{slice_get-get_or}
use Rattle.shape_data.specs.declared.program.Proc.{Proc}
use Rattle.component_keys.specs.Keys.{flows_of}
use Rattle.component_keys.proofs.Basics.{at_map}
use Rattle.composed_keys.proofs.Noted.{more_at}
use Rattle.composed_keys.proofs.keys.flows_at.Goals as goal

pub loop-number-preserved : goal.loop-number-preserved
loop-number-preserved c =
    let place = get_or c.args.members.now c.loop-number.number-index 0 in
    c.in_ok-push.ensures.ok ∙ (ap (λ l. l ++ c.in_ok-copy_of.field-0 ∷ []) c.loop-number.invariant ∙
    sym (more_at (flows_of c.args.program.now) c.args.members.now c.loop-number.number-index c.in_ok-copy_of.field-0 c.loop-number-test.true
    (at_map (λ (proc : Proc). proc.flow) c.args.program.now.procs place ∙
    (ap (option_map (λ (proc : Proc). proc.flow))
    (slice_get-get_or c.args.program.now.procs place c.index-deref-number.result
    (c.requires c.loop-number.number-index 0 c.loop-number-test.true)) ∙
    ap (λ x. Some x)
    (ap (λ (procs : List Proc). (get_or procs place c.index-deref-number.result).flow) (sym c.deref.ensures)
    ∙ sym c.in_ok-copy_of.ensures)))))
