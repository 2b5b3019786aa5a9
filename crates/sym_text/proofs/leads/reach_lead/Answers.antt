use Rattle.std.proofs.Common.{[], ◌∷◌, if◌then◌else◌}
use Rattle.std.specs.Prelude.{codes}
use Rattle.sym_text.specs.Reading.{exps_may_come, has_some, linked}
use Rattle.sym_text.proofs.LeadLaws.{lead_reach}
use Rattle.sym_text.proofs.leads.reach_lead.Goals as goal

pub returns-clause-value : goal.returns-clause-value
returns-clause-value c =
    rw (
      c.further_if.ensures.value,
      c.further-junk.ensures.value,
      c.further_if-segment.ensures.value,
      c.reach_names-names.ensures.value,
      c.exps_may_come.ensures,
      c.has_linked.ensures,
    )
    (lead_reach (if exps_may_come c.args.structs.now c.args.facts then c.args.params.now else [])
    (if has_some (linked c.args.structs.now) then codes "ls" ∷ [] else []) (codes "junk")
    (if c.args.is_first then codes "emp" ∷ [] else []) c.args.text.now)
