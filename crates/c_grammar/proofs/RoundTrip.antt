-- What is printed of a file is read as the same file, up to places.
use Rattle.std.proofs.Common.{sym}
use Rattle.c_grammar.specs.Laws.{HaveRoundTrip}
use Rattle.c_grammar.proofs.Printed.{printed_reads_back}
use Rattle.c_grammar.proofs.Alike.{file_again, nesting_alike}

pub round_trip : HaveRoundTrip
round_trip tokens file listed spells =
    let (again, read, same) = printed_reads_back tokens listed file spells in
    let (other, spelled, alike) = file_again tokens again (sym same) file spells in
    (again, other, read, spelled, alike, nesting_alike file other alike)
