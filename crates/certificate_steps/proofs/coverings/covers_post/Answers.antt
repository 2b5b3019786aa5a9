use Rattle.std.specs.Prelude.{◌≡◌, ◌↔◌, Bool, IsTrue}
use Rattle.std.proofs.lemmas.Bool.Decides.{same_from_decides}
use Rattle.std.proofs.lemmas.Result.{IfOk-weaker}
use Rattle.sym_matching.specs.Covers.{PostCovers}
use Rattle.solve_laws.specs.Certificates.Coverings.{covers_post}
use Rattle.solve_laws.proofs.CertificatesLemmas.CoveringLaws.{covers_post-Decides}
use Rattle.certificate_steps.proofs.coverings.covers_post.Goals as goal

pub returns : goal.returns
returns c =
    IfOk-weaker c.covers_post.result (λ (covers : Bool). IsTrue covers ↔ PostCovers c.args.cover.now c.args.post.now)
    (λ (covers : Bool). covers ≡ covers_post c.args.cover.now c.args.post.now)
    (λ (covers : Bool) is. same_from_decides covers (covers_post c.args.cover.now c.args.post.now) is
    (covers_post-Decides c.args.cover.now c.args.post.now)) c.covers_post.ensures
