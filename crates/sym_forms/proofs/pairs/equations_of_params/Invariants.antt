use Rattle.std.proofs.Common.{◌≡◌, filter, not, take}
use Rattle.sym_forms.specs.PairForms.{is_further_equation}
use Rattle.sym_forms.proofs.pairs.equations_of_params.Given as goal

abbrev pub invariant-loop-fact : goal.invariant-loop-fact
invariant-loop-fact l = l.some.items ≡ filter (λ fact. not (is_further_equation l.params fact)) (take l.fact-index l.facts)
