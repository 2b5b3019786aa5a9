use Rattle.std.proofs.Common.{◌≡◌, rules}
use Rattle.comp_solve.proofs.FormedLaws.{table-alone}
use Rattle.comp_solve.proofs.tables.table_alone.Goals as goal

pub returns : goal.returns
returns c =
    let copied : c.in_ok-copy_of.field-0 ≡ c.args.key.now.callees = search rules in
    table-alone c.args.key.now c.new.result c.in_ok-copy_of.field-0 c.new.ensures copied
