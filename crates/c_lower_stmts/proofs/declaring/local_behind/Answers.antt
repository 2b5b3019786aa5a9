use Rattle.c_tree.specs.Syntax.{specifier_tree, initialized_tree}
use Rattle.c_lower_stmts.proofs.Locals.{local_behind_declared}
use Rattle.c_lower_stmts.proofs.declaring.local_behind.Goals as goal

pub returns-clause-declared : goal.returns-clause-declared
returns-clause-declared c = λ numbers done first count old begin declared.
    local_behind_declared (specifier_tree c.args.specifier.now) done
    (initialized_tree c.args.one.now) first c.args.context.now c.local.new.context c.args.line count
    c.args.locals c.in_ok-locals.locals
    old c.args.out.now c.local.new.out c.lead_next.new.self c.args.start c.len-past.result c.here.result declared
    (c.in_ok-locals.ensures.declared numbers)
    begin c.len-past.ensures c.here.ensures
    c.lead_next.ensures
