-- The names and the syntax trees are those of the files.
use Rattle.std.proofs.Common.{◌≡◌, List, length, map, sym, ap, ◌∙◌, subst, arith, rules}
use Rattle.std.specs.Prelude.{All}
use Rattle.std.proofs.lemmas.List.{length-map}
use Rattle.c_tree.specs.declared.items.Unit.{Unit as UnitValue}
use Rattle.c_tree.specs.Syntax.{unit_tree}
use Rattle.project_form.specs.Kept.{KeptFile, source_of, sources_of, with_parse}
use Rattle.project_form.specs.Parts.{AreUnits, IsLowerable}
use Rattle.project_form.specs.Reads.{name_of, names_of}
use Rattle.project_form.proofs.Units.{units-long, program-reads, fault-reads}
use Rattle.project_form.proofs.Taking.{units-without, parses-back}
use Rattle.project_form.proofs.Wholes.{units-lowerable}
use Rattle.project_form.proofs.whole.program_of.Goals as goal

pub program_in-program-requires-clause-one_each : goal.program_in-program-requires-clause-one_each
program_in-program-requires-clause-one_each c =
    let files = c.args.files.now in
    let names : c.as_slice.result.now ≡ names_of (sources_of files) = search rules in
    let units : c.as_slice-2.result.now ≡ c.in_ok-units.units.items = search rules in
    let named = ap length names in
    let treed = ap length units in
    let long = units-long files c.in_ok-units.units.items c.in_ok-units.ensures.units in
    let sources = length-map files source_of in
    let all = length-map (sources_of files) name_of in
    omega (arith, named, treed, long, sources, all)

pub program_in-program-requires-clause-few : goal.program_in-program-requires-clause-few
program_in-program-requires-clause-few c =
    let files = c.args.files.now in
    let units : c.as_slice-2.result.now ≡ c.in_ok-units.units.items = search rules in
    let treed = ap length units in
    let long = units-long files c.in_ok-units.units.items c.in_ok-units.ensures.units in
    let sources = length-map files source_of in
    let few = c.requires.files.few in
    omega (arith, treed, long, sources, few)

pub program_in-program-requires-clause-lowerable : goal.program_in-program-requires-clause-lowerable
program_in-program-requires-clause-lowerable c =
    let units : c.as_slice-2.result.now ≡ c.in_ok-units.units.items = search rules in
    subst (λ (us : List UnitValue). All IsLowerable (map unit_tree us)) (sym units)
    (units-lowerable c.parsed_files_are_texts.ensures c.args.files.now c.in_ok-units.units.items c.requires.files
    c.in_ok-units.ensures.units)

pub keep_units-requires : goal.keep_units-requires
keep_units-requires c =
    subst (λ (files : List KeptFile). AreUnits files c.in_ok-units.units.items) (sym c.in_ok-units.ensures.taken)
    (units-without c.args.files.now c.in_ok-units.units.items c.in_ok-units.ensures.units)

pub returns-clause-program : goal.returns-clause-program
returns-clause-program c =
    let names : c.as_slice.result.now ≡ names_of (sources_of c.args.files.now) = search rules in
    let units : c.as_slice-2.result.now ≡ c.in_ok-units.units.items = search rules in
    program-reads c.program_in-program.result c.args.files.now c.in_ok-units.units.items c.as_slice-2.result.now c.as_slice.result.now names
    units c.in_ok-units.ensures.units c.program_in-program.ensures.program

pub returns-clause-fault : goal.returns-clause-fault
returns-clause-fault c =
    let names : c.as_slice.result.now ≡ names_of (sources_of c.args.files.now) = search rules in
    let units : c.as_slice-2.result.now ≡ c.in_ok-units.units.items = search rules in
    fault-reads c.program_in-program.result c.args.files.now c.in_ok-units.units.items c.as_slice-2.result.now c.as_slice.result.now names
    units c.in_ok-units.ensures.units c.program_in-program.ensures.fault

pub returns-clause-same : goal.returns-clause-same
returns-clause-same c =
    c.keep_units.ensures ∙ ap (λ (files : List KeptFile). map with_parse files) c.in_ok-units.ensures.taken
    ∙ parses-back c.args.files.now c.requires.kept
