use Rattle.std.proofs.Common.{◌≡◌, length, ◌∙◌, arith, rules}
use Rattle.std.specs.Prelude.{unwrap_or, position}
use Rattle.std.specs.List.{position_or_len}
use Rattle.project_form.specs.Kept.{stands_before_kept}
use Rattle.project_form.proofs.FirstPassing.{place-or_end, place-within}
use Rattle.project_form.proofs.files.place_before.Goals as goal

pub returns-clause-exact : goal.returns-clause-exact
returns-clause-exact c =
    let found : c.unwrap_or.result ≡ unwrap_or (position (stands_before_kept c.args.name.now) c.args.files.now) (length c.args.files.now) =
    search rules in
    found ∙ place-or_end (stands_before_kept c.args.name.now) c.args.files.now

pub returns-clause-within : goal.returns-clause-within
returns-clause-within c =
    let found : c.unwrap_or.result ≡ unwrap_or (position (stands_before_kept c.args.name.now) c.args.files.now) (length c.args.files.now) =
    search rules in
    let exact : c.unwrap_or.result ≡ position_or_len (stands_before_kept c.args.name.now) c.args.files.now =
    found ∙ place-or_end (stands_before_kept c.args.name.now) c.args.files.now in
    let within = place-within (stands_before_kept c.args.name.now) c.args.files.now in
    omega (arith, exact, within)
