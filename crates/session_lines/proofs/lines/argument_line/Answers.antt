-- A word that has no argument.
use Rattle.std.proofs.Common.{ap, nat_eq}
use Rattle.std.specs.Prelude.{codes}
use Rattle.std.specs.Cmp.Lexicographic.{pointwise}
use Rattle.session_lines.proofs.LineLemmas.{no_such_word}
use Rattle.session_lines.proofs.lines.argument_line.Goals as goal

pub returns-else-eq-4 : goal.returns-else-eq-4
returns-else-eq-4 c = λ absent.
    no_such_word c.args.word.now c.args.argument.now absent
    (λ e. let h = ap (λ xs. pointwise nat_eq xs (codes "put")) e in let test = c.eq.ensures in let off = c.if-eq.false in cc)
    (λ e. let h = ap (λ xs. pointwise nat_eq xs (codes "drop")) e in let test = c.eq-else-eq.ensures in let off = c.if-eq-2.false in cc)
    (λ e. let h = ap (λ xs. pointwise nat_eq xs (codes "show")) e in let test = c.eq-else-eq-2.ensures in let off = c.if-eq-3.false in cc)
    (λ e. let h = ap (λ xs. pointwise nat_eq xs (codes "gen")) e in let test = c.eq-else-eq-3.ensures in let off = c.if-eq-4.false in cc)
