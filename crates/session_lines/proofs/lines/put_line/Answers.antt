-- A line `put` has one name and one length, so each test that fails refuses it.
use Rattle.session_lines.proofs.LineLemmas.{no_size, no_name}
use Rattle.session_lines.proofs.lines.put_line.Goals as goal

pub returns-in_default-number_up_to : goal.returns-in_default-number_up_to
returns-in_default-number_up_to c =
    rw c.in-Some.ensures.text
    (no_size c.in-Some.name.now c.in-Some.digits.now c.in-Some.ensures.first c.in_default-number_up_to.ensures.none)

pub returns-then-not-is_file_name : goal.returns-then-not-is_file_name
returns-then-not-is_file_name c =
    rw c.in-Some.ensures.text
    (no_name c.in-Some.name.now c.in-Some.digits.now c.in-Some.ensures.first
    (λ named. let it_is = c.is_file_name.ensures.1 named in let other = c.if-not-is_file_name.true in cc))
