use Rattle.std.proofs.lemmas.Bool.Decides.{same_from_decides}
use Rattle.solve_laws.specs.Certificates.Sameness.{same_heap}
use Rattle.solve_laws.proofs.CertificatesLemmas.SamenessLaws.{same_heap-Decides}
use Rattle.pre_gen.proofs.searching.is_same_heap.Goals as goal

pub returns : goal.returns
returns c =
    same_from_decides c.is_same.result (same_heap c.args.a.now c.args.b.now) c.is_same.ensures (same_heap-Decides c.args.a.now c.args.b.now)
