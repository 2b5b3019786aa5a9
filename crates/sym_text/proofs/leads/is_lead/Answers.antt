use Rattle.std.proofs.Common.{sym}
use Rattle.sym_text.proofs.LeadLaws.{lead_test}
use Rattle.sym_text.proofs.leads.is_lead.Goals as goal

pub returns : goal.returns
returns c =
    rw (
      c.is_named-name.ensures,
      c.is_word_if-segment.ensures,
      c.is_word-junk.ensures,
      c.is_word_if-emp.ensures,
      c.exps_may_come.ensures,
      c.has_linked.ensures,
    ) (sym (lead_test c.args.structs.now c.args.params.now c.args.facts c.args.is_first c.args.word.now))
