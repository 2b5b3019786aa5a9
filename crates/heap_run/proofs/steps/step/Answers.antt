use Rattle.std.proofs.Common.{◌≡◌, ◌∙◌, ◌++◌, [], ◌∷◌, length, sym, subst}
use Rattle.std.proofs.lemmas.Result.{IfOk-weaker}
use Rattle.shape_data.specs.declared.machine.Stepped.{Stepped}
use Rattle.shape_data.specs.Machine.{step}
use Rattle.sym_parts.specs.Shapes.Steps.{IsStepOf}
use Rattle.sym_parts.proofs.ShapesLemmas.StepsKept.{step_is_never_stuck}
use Rattle.heap_run.proofs.Stacks.{top_fits, proc_within, proc_is, node_is, node_fits, step_is}
use Rattle.heap_run.proofs.steps.step.Goals as goal

pub bounds-deref-frame : goal.bounds-deref-frame
bounds-deref-frame c =
    let stack : c.args.config.stack ≡ c.pop.new.self.items ++ c.in-Some.frame ∷ [] =
    sym c.into_vec-below.ensures ∙ c.in-Some.ensures.items in
    let fits = top_fits c.args.program.now c.args.config c.pop.new.self.items c.in-Some.frame c.requires.config stack in
    rw c.deref.ensures (proc_within c.args.program.now c.in-Some.frame fits.0)

pub bounds-deref-frame-2 : goal.bounds-deref-frame-2
bounds-deref-frame-2 c =
    let stack : c.args.config.stack ≡ c.pop.new.self.items ++ c.in-Some.frame ∷ [] =
    sym c.into_vec-below.ensures ∙ c.in-Some.ensures.items in
    let fits = top_fits c.args.program.now c.args.config c.pop.new.self.items c.in-Some.frame c.requires.config stack in
    let found =
    proc_is c.args.program.now c.in-Some.frame c.deref.result.now c.index-deref-frame.result fits.0 c.deref.ensures
    c.index-deref-frame.is in
    rw c.deref-2.ensures found.1

pub overflow_add-machine : goal.overflow_add-machine
overflow_add-machine c =
    let stack : c.args.config.stack ≡ c.pop.new.self.items ++ c.in-Some.frame ∷ [] =
    sym c.into_vec-below.ensures ∙ c.in-Some.ensures.items in
    let fits = top_fits c.args.program.now c.args.config c.pop.new.self.items c.in-Some.frame c.requires.config stack in
    let found =
    proc_is c.args.program.now c.in-Some.frame c.deref.result.now c.index-deref-frame.result fits.0 c.deref.ensures
    c.index-deref-frame.is in
    let node =
    node_is c.index-deref-frame.result c.in-Some.frame c.deref-2.result.now c.index-deref-frame-2.result found.1 c.deref-2.ensures
    c.index-deref-frame-2.is in
    let node_is_fit =
    node_fits c.args.program.now c.in-Some.frame.proc c.in-Some.frame.node c.index-deref-frame.result c.index-deref-frame-2.result
    c.requires.program found.0 node in
    record { fits = node_is_fit.1 }

pub take_step-requires-clause-fits : goal.take_step-requires-clause-fits
take_step-requires-clause-fits c =
    let stack : c.args.config.stack ≡ c.pop.new.self.items ++ c.in-Some.frame ∷ [] =
    sym c.into_vec-below.ensures ∙ c.in-Some.ensures.items in
    let fits = top_fits c.args.program.now c.args.config c.pop.new.self.items c.in-Some.frame c.requires.config stack in
    let found =
    proc_is c.args.program.now c.in-Some.frame c.deref.result.now c.index-deref-frame.result fits.0 c.deref.ensures
    c.index-deref-frame.is in
    let node =
    node_is c.index-deref-frame.result c.in-Some.frame c.deref-2.result.now c.index-deref-frame-2.result found.1 c.deref-2.ensures
    c.index-deref-frame-2.is in
    let node_is_fit =
    node_fits c.args.program.now c.in-Some.frame.proc c.in-Some.frame.node c.index-deref-frame.result c.index-deref-frame-2.result
    c.requires.program found.0 node in
    (length c.index-deref-frame.result.flow.nodes, rw found.2 node_is_fit.0)

pub take_step-requires-clause-to : goal.take_step-requires-clause-to
take_step-requires-clause-to c =
    let stack : c.args.config.stack ≡ c.from_vec.result ++ c.in-Some.frame ∷ [] =
    rw c.from_vec.ensures (sym c.into_vec-below.ensures ∙ c.in-Some.ensures.items) in
    (top_fits c.args.program.now c.args.config c.from_vec.result c.in-Some.frame c.requires.config stack).1

pub returns-clause-step : goal.returns-clause-step
returns-clause-step c =
    let stack : c.args.config.stack ≡ c.from_vec.result ++ c.in-Some.frame ∷ [] =
    rw c.from_vec.ensures (sym c.into_vec-below.ensures ∙ c.in-Some.ensures.items) in
    let fits = top_fits c.args.program.now c.args.config c.from_vec.result c.in-Some.frame c.requires.config stack in
    let found =
    proc_is c.args.program.now c.in-Some.frame c.deref.result.now c.index-deref-frame.result fits.0 c.deref.ensures
    c.index-deref-frame.is in
    let node =
    node_is c.index-deref-frame.result c.in-Some.frame c.deref-2.result.now c.index-deref-frame-2.result found.1 c.deref-2.ensures
    c.index-deref-frame-2.is in
    let is =
    step_is c.args.program.now c.args.config c.args.choice.now c.from_vec.result c.in-Some.frame c.index-deref-frame.result
    c.index-deref-frame-2.result stack found.0 node in
    IfOk-weaker c.take_step.result _ (λ (stepped : Stepped). stepped ≡ step c.args.program.now c.args.config c.args.choice.now)
    (λ stepped told. told ∙ sym is) c.take_step.ensures

pub returns-clause-well_formed : goal.returns-clause-well_formed
returns-clause-well_formed c =
    let never_stuck = step_is_never_stuck c.args.program.now c.args.config c.args.choice.now c.requires.program c.requires.config in
    IfOk-weaker c.take_step.result (λ (stepped : Stepped). stepped ≡ step c.args.program.now c.args.config c.args.choice.now)
    (IsStepOf c.args.program.now c.args.config)
    (λ stepped is. subst (IsStepOf c.args.program.now c.args.config) (sym is) never_stuck) (returns-clause-step c)
