use Rattle.std.proofs.Common.{sym}
use Rattle.sym_text.specs.Reading.{lead_words}
use Rattle.sym_text.proofs.WordLaws.{word_got, word_stopped}
use Rattle.sym_text.proofs.leads.read_lead.Goals as goal

pub returns-then-is_lead-clause-ok : goal.returns-then-is_lead-clause-ok
returns-then-is_lead-clause-ok c =
    word_got (lead_words c.args.structs.now c.args.params.now c.args.facts c.args.is_first) c.args.text.now _ _ c.front_name.ensures.name
    c.front_name.ensures.rest (sym c.if-is_lead.ensures)

pub returns-else-is_lead-clause-err : goal.returns-else-is_lead-clause-err
returns-else-is_lead-clause-err c =
    word_stopped
    (lead_words c.args.structs.now c.args.params.now c.args.facts c.args.is_first) c.args.text.now _ _ c.reach_lead-reached.result
    c.front_name.ensures.name (sym c.if-is_lead.ensures) c.reach_lead-reached.ensures.value c.refused_behind.ensures
