-- The test for sameness of pairs is exact.
use Rattle.std.specs.Prelude.{◌≡◌, Decides}
use Rattle.std.proofs.Common.{ap}
use Rattle.std.proofs.lemmas.Bool.Decides.{Decides-and, Decides-like}
use Rattle.sym_canon.specs.declared.parts.Pair.{Pair}
use Rattle.solve_laws.specs.Certificates.Sameness.{same_heap, same_state}
use Rattle.solve_laws.proofs.CertificatesLemmas.SamenessLaws.{same_heap-Decides, same_state-Decides}
use Rattle.solve_laws.specs.Candidates.Coming.{same_pair}

pub same_pair-Decides : (a b : Pair) → Decides (same_pair a b) (a ≡ b)
same_pair-Decides a b =
    Decides-like (same_pair a b) (λ both. λ i. record { missing = both.0 i; state = both.1 i })
    (λ same. (ap (λ (p : Pair). p.missing) same, ap (λ (p : Pair). p.state) same))
    (Decides-and (same_heap a.missing b.missing) (same_state a.state b.state) (same_heap-Decides a.missing b.missing)
    (same_state-Decides a.state b.state))
