-- A text that is none of the words.
use Rattle.std.proofs.Common.{ap, nat_eq, length}
use Rattle.std.specs.Prelude.{codes, ◌==◌}
use Rattle.std.specs.Cmp.Lexicographic.{pointwise}
use Rattle.session_lines.proofs.LineLemmas.{no_word}
use Rattle.session_lines.proofs.lines.word_line.Goals as goal

pub returns-else-eq-4-clause-none : goal.returns-else-eq-4-clause-none
returns-else-eq-4-clause-none c = λ absent.
    no_word c.args.text.now absent
    (λ e. let h = ap (λ xs. length xs == 0) e in let test = c.is_empty.ensures in let off = c.if-is_empty.false in cc)
    (λ e. let h = ap (λ xs. pointwise nat_eq xs (codes "start")) e in let test = c.eq.ensures in let off = c.if-eq.false in cc)
    (λ e. let h = ap (λ xs. pointwise nat_eq xs (codes "report")) e in let test = c.eq-else-eq.ensures in let off = c.if-eq-2.false in cc)
    (λ e. let h = ap (λ xs. pointwise nat_eq xs (codes "save")) e in let test = c.eq-else-eq-2.ensures in let off = c.if-eq-3.false in cc)
    (λ e. let h = ap (λ xs. pointwise nat_eq xs (codes "quit")) e in let test = c.eq-else-eq-3.ensures in let off = c.if-eq-4.false in cc)
