use Rattle.std.proofs.Common.{refl, sym, subst}
use Rattle.c_lower_exprs.proofs.Operating.{TruthEnds, both_made}
use Rattle.c_lower_exprs.proofs.operators.both.Goals as goal

pub returns : goal.returns
returns c = λ l r before start one led begins from left leads right.
    let ctx = c.args.site.now in
    both_made c.args.used ctx c.args.to c.args.from c.args.site.now.first_temp l r before start one led c.args.out.now c.end_truth.new.self
    _ refl
    (subst (TruthEnds c.args.used ctx c.args.to c.args.from c.args.out.now c.end_truth.new.self _) c.spot.ensures.first_temp
    (c.in_ok-operand.ensures ctx (sym c.spot.ensures.line) (sym c.spot.ensures.first_temp))) begins from left leads right
