-- A number that is none, or 0.
use Rattle.session_lines.proofs.LineLemmas.{no_number, no_zero}
use Rattle.session_lines.proofs.lines.gen_line.Goals as goal
use Rattle.session_lines.proofs.lines.gen_line.Goals.{in_default-via-in-Some+else-n-gt0, in_default-via-in_default}

pub returns-in_default : goal.returns-in_default
returns-in_default c = elim c.in_default.branch [
  | in_default-via-in-Some+else-n-gt0 w ↦ no_zero c.args.digits.now w.in-Some.n w.in-Some.ensures.some.1 w.if-n-gt0.false
  | in_default-via-in_default w ↦ no_number c.args.digits.now (λ n few some. w.in_default.ensures.none n few)
]
