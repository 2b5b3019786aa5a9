-- One fact more.
use Rattle.std.proofs.Common.{◌≤◌, length, arith}
use Rattle.shape_data.specs.declared.symbolic.Exp.TheVariants.{Var}
use Rattle.shape_data.specs.declared.symbolic.Fact.TheVariants.{Eq}
use Rattle.sym_parts.specs.Laws.Each.{EachInFact}
use Rattle.sym_samples.specs.Laws.{IsLow}
use Rattle.sym_samples.proofs.NumberTurns.{all_done, all_more}
use Rattle.sym_samples.proofs.numbers.facts_have_bits.Goals as goal

pub loop-place-preserved : goal.loop-place-preserved
loop-place-preserved c =
    all_more (EachInFact IsLow) c.args.facts.now c.loop-place.place
    (Eq (Var 0) (Var 0)) c.loop-place-test.true c.loop-place.invariant c.fact_has_bits.ensures

pub returns : goal.returns
returns c =
    let past : length c.args.facts.now ≤ c.loop-place.place = omega arith in
    all_done (EachInFact IsLow) c.args.facts.now c.loop-place.place past c.loop-place.invariant
