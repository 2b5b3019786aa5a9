use Rattle.std.specs.Prelude.{◌≡◌}
use Rattle.std.specs.declared.option.Option.{Option}
use Rattle.std.specs.declared.option.Option.TheVariants.{Some}
use Rattle.std.proofs.Common.{rules, subst, sym}
use Rattle.shape_data.specs.declared.symbolic.SymState.{SymState}
use Rattle.sym_parts.specs.Shapes.Symbolic.{emp}
use Rattle.solve_laws.specs.Certificates.Coming.{start_form}
use Rattle.certificate_steps.specs.InTask.{task_in}
use Rattle.solve_laws.specs.Candidates.Conditions.{IsPairWithinRoom}
use Rattle.solve_laws.proofs.CandidatesLemmas.GivenCases.{start-comes}
use Rattle.pre_gen.proofs.coming.start_pair_at_node.Goals as goal

pub pair_at_node-requires-clause-pair : goal.pair_at_node-requires-clause-pair
pair_at_node-requires-clause-pair c =
    let is : ◌≡◌ {A = Option SymState} (Some c.in-Some.start) (start_form c.args.task.now.flow.now emp) = search rules in
    subst IsPairWithinRoom (sym c.in_ok-pair-in-Some.ensures)
    (start-comes (task_in c.args.task.now) c.requires c.in-Some.start (sym is)).room
