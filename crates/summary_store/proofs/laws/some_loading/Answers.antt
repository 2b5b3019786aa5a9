use Rattle.summary_store.proofs.LoadLaws.{some_loading}
use Rattle.summary_store.proofs.laws.some_loading.Goals as goal

pub returns : goal.returns
returns c =
    let wider = c.limits_widen.ensures in
    some_loading c.no_gap_is_inductive.ensures.answer wider.keys wider.answers wider.known c.some_reading.ensures
