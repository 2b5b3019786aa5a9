use Rattle.std.specs.Prelude.{◌≡◌, ◌↔◌, Bool, IsTrue}
use Rattle.std.proofs.lemmas.Bool.Decides.{same_from_decides}
use Rattle.std.proofs.lemmas.Result.{IfOk-weaker}
use Rattle.sym_matching.specs.Covers.{StateCovers}
use Rattle.solve_laws.specs.Certificates.Coverings.{covers_state}
use Rattle.solve_laws.proofs.CertificatesLemmas.CoveringLaws.{covers_state-Decides}
use Rattle.certificate_steps.proofs.coverings.covers_state.Goals as goal

pub returns : goal.returns
returns c =
    IfOk-weaker c.covers_state.result (λ (covers : Bool). IsTrue covers ↔ StateCovers c.args.cover.now c.args.state.now)
    (λ (covers : Bool). covers ≡ covers_state c.args.cover.now c.args.state.now)
    (λ (covers : Bool) is. same_from_decides covers (covers_state c.args.cover.now c.args.state.now) is
    (covers_state-Decides c.args.cover.now c.args.state.now)) c.covers_state.ensures
