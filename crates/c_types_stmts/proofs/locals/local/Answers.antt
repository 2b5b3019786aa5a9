use Rattle.c_tree.specs.Syntax.{specifier_tree, initialized_tree}
use Rattle.c_types_names.specs.Seen.{kind_seen}
use Rattle.c_types_stmts.proofs.Declared.{local_found}
use Rattle.c_types_stmts.proofs.locals.local.Goals as goal

pub returns-clause-found : goal.returns-clause-found
returns-clause-found c =
    local_found c.initializer.result c.args.env.now c.add.new.self c.tables.result.now (specifier_tree c.args.specifier.now)
    (initialized_tree c.args.one.now)
    c.place_of_specifier-place.result c.may_be_object.result c.stands_here-stands.result (kind_seen c.object_kind-kind.result)
    c.place_of_specifier-place.ensures c.may_be_object.ensures c.stands_here-stands.ensures c.tables.ensures c.object_kind-kind.ensures
    c.in_ok-add.ensures.variable
    _ _ _ _ c.unless.ensures c.unless-2.ensures c.initializer.ensures
