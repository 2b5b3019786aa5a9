use Rattle.serde_json.specs.View.{view}
use Rattle.store_json.proofs.EntryLemmas.{no_answer_read}
use Rattle.store_json.proofs.entries.answered.Goals as goal

pub returns-in-None : goal.returns-in-None
returns-in-None c =
    no_answer_read c.one_key.ensures c.args.key (view c.args.value.now) c.requires.formed c.requires.fits
    (rw c.in-None.is at c.in_ok-answer.ensures)
