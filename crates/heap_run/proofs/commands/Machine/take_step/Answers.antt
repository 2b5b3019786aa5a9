use Rattle.std.proofs.Common.{◌≡◌, IfOk, length, sym, subst}
use Rattle.shape_data.specs.declared.machine.Stepped.{Stepped}
use Rattle.shape_data.specs.declared.program.Cmd.{Cmd}
use Rattle.shape_data.specs.Machine.{step_cmd}
use Rattle.shape_data.specs.WellFormed.{IsCmd}
use Rattle.heap_run.proofs.Accesses.{have_field}
use Rattle.heap_run.proofs.commands.Machine.take_step.Goals as goal

pub load-requires-clause-field : goal.load-requires-clause-field
load-requires-clause-field c =
    let fits : IsCmd c.args.program.now.structs (length c.args.self.frame.locals) c.requires.fits.0 c.args.cmd.now = c.requires.fits.1 in
    have_field c.args.program.now.structs c.args.self.heap c.in-Load.kind c.in-Load.field c.requires.heap (rw c.in-Load.is at fits).2

pub store-requires-clause-field : goal.store-requires-clause-field
store-requires-clause-field c =
    let fits : IsCmd c.args.program.now.structs (length c.args.self.frame.locals) c.requires.fits.0 c.args.cmd.now = c.requires.fits.1 in
    have_field c.args.program.now.structs c.args.self.heap c.in-Store.kind c.in-Store.field c.requires.heap (rw c.in-Store.is at fits).1

pub returns-in-Load : goal.returns-in-Load
returns-in-Load c =
    let self = c.args.self in
    subst (λ (cmd : Cmd). IfOk c.load.result
    (λ (stepped : Stepped). stepped ≡ step_cmd c.args.program.now self.below self.frame self.heap c.args.choice.now self.line cmd))
    (sym c.in-Load.is) c.load.ensures

pub returns-in-Store : goal.returns-in-Store
returns-in-Store c =
    let self = c.args.self in
    subst (λ (cmd : Cmd). IfOk c.store.result
    (λ (stepped : Stepped). stepped ≡ step_cmd c.args.program.now self.below self.frame self.heap c.args.choice.now self.line cmd))
    (sym c.in-Store.is) c.store.ensures
