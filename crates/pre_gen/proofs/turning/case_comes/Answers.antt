use Rattle.std.proofs.Common.{subst}
use Rattle.certificate_steps.specs.InTask.{task_in}
use Rattle.solve_laws.specs.Candidates.Conditions.{IsGivenCase}
use Rattle.pre_gen.proofs.turning.case_comes.Goals as goal

pub goes_on-requires-clause-pair : goal.goes_on-requires-clause-pair
goes_on-requires-clause-pair c = subst (IsGivenCase (task_in c.args.task.now)) c.in-On.is c.requires.case

pub leaves-requires-clause-missing : goal.leaves-requires-clause-missing
leaves-requires-clause-missing c = subst (IsGivenCase (task_in c.args.task.now)) c.in-Leaves.is c.requires.case
