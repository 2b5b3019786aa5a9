use Rattle.sym_text.specs.Reading.{kinds}
use Rattle.sym_text.proofs.StructLaws.{found_is, none_found, found_names}
use Rattle.sym_text.proofs.WordLaws.{test_member}
use Rattle.sym_text.proofs.cells.read_kind.Goals as goal

pub unreachable-requires : goal.unreachable-requires
unreachable-requires c =
    none_found c.args.structs.now c.in_ok-name.name.now
    (test_member (kinds c.args.structs.now) c.in_ok-name.name.now c.in_ok-name.ensures.one) c.in-None.ensures

pub returns-clause-ok : goal.returns-clause-ok
returns-clause-ok c = rw (found_is c.args.structs.now c.in_ok-name.name.now c.in-Some.def.now c.in-Some.ensures).0 c.in_ok-name.ensures.ok

pub returns-clause-named : goal.returns-clause-named
returns-clause-named c = (found_is c.args.structs.now c.in_ok-name.name.now c.in-Some.def.now c.in-Some.ensures).1

pub returns-clause-fields : goal.returns-clause-fields
returns-clause-fields c =
    found_names c.args.structs.now c.in-Some.def.now.name c.in-Some.def.now
    (found_is c.args.structs.now c.in_ok-name.name.now c.in-Some.def.now c.in-Some.ensures).1
