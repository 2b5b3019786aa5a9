use Rattle.std.proofs.Common.{refl, sym, subst}
use Rattle.c_lower_exprs.proofs.Operating.{TruthEnds, compared_made}
use Rattle.c_lower_exprs.proofs.operators.compared.Goals as goal

pub returns : goal.returns
returns c = λ l r before start mid begins from left right.
    let ctx = c.args.site.now in
    compared_made c.args.used ctx c.args.op c.any_pointer-pointers.result c.args.to c.args.from c.args.site.now.first_temp l r before start
    mid c.args.out.now
    c.push_branch.new.self c.end_truth.new.self c.args.left c.args.right _ begins from left right refl c.any_pointer-pointers.ensures
    (c.in_ok-push_branch.ensures ctx (sym c.spot-spot.ensures.line))
    (subst (TruthEnds c.args.used ctx c.args.to c.args.from c.push_branch.new.self c.end_truth.new.self _) c.spot-spot.ensures.first_temp
    (c.in_ok-operand.ensures ctx (sym c.spot-spot.ensures.line) (sym c.spot-spot.ensures.first_temp)))
