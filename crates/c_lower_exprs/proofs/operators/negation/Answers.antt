use Rattle.std.proofs.Common.{refl, sym, subst}
use Rattle.c_lower_exprs.proofs.Operating.{TruthEnds, negation_made}
use Rattle.c_lower_exprs.proofs.operators.negation.Goals as goal

pub returns : goal.returns
returns c = λ l before start begins from inner.
    let ctx = c.args.site.now in
    negation_made c.args.used ctx c.args.to c.args.from c.len-past.result c.args.site.now.first_temp l before start c.args.out.now
    c.redirect.new.self c.end_truth.new.self _ refl
    (subst (TruthEnds c.args.used ctx c.args.to c.args.from c.redirect.new.self c.end_truth.new.self _) c.spot.ensures.first_temp
    (c.in_ok-operand.ensures ctx (sym c.spot.ensures.line)
    (sym c.spot.ensures.first_temp))) begins from c.len-past.ensures inner c.redirect.ensures
