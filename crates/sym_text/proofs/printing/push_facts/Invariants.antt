-- What is written, and what is still to come, are the whole.
use Rattle.std.proofs.Common.{◌≡◌, ◌++◌, false, map, drop}
use Rattle.std.specs.Prelude.{codes}
use Rattle.sym_text.specs.Led.{led_texts}
use Rattle.sym_text.specs.Text.{fact_text}
use Rattle.sym_text.proofs.printing.push_facts.Given as goal

abbrev pub invariant-loop-fact : goal.invariant-loop-fact
invariant-loop-fact l =
    l.text.items ++ led_texts (codes " * ") l.led (map (fact_text l.params) (drop l.fact-index l.facts))
    ≡ l.fn.text.items ++ led_texts (codes " * ") false (map (fact_text l.params) l.facts)
