-- By what `clap` answers.
use Rattle.std.proofs.Common.{◌∙◌, ℕ, List, ap, codes, inl, inr, map, sym, subst}
use Rattle.std.specs.Borrow.{Bor}
use Rattle.clap.specs.Words.{App, IsAmong, Text, fault_of, first_value, found_of, is_simple, is_simple_and_free, matches_of, kind_of}
use Rattle.command_words.proofs.Taken.{app_is_free, app_is_simple, asked_is, few_asked, refused_is}
use Rattle.command_words.proofs.asked_by.Goals as goal

pub returns-in-Ok-clause-asked : goal.returns-in-Ok-clause-asked
returns-in-Ok-clause-asked c =
    let words : List Text = map (λ (word : Bor (List ℕ)). word.now) c.args.words.now in
    let simple = ap is_simple c.in_ok-command.ensures ∙ app_is_simple in
    let free = ap is_simple_and_free c.in_ok-command.ensures ∙ app_is_free in
    c.asked_in.ensures ∙
    asked_is c.in-Ok.matches words (ap (λ (a : App). fault_of a words) (sym c.in_ok-command.ensures) ∙ c.in-Ok.ensures.kinds free)
    ((c.in-Ok.ensures.matches simple).0 ∙ ap (λ (a : App). matches_of a words) c.in_ok-command.ensures)

pub returns-in-Ok-clause-few : goal.returns-in-Ok-clause-few
returns-in-Ok-clause-few c =
    let found = found_of c.in-Ok.matches in
    few_asked c.asked_in.result (first_value found (codes "what")) (first_value found (codes "workers"))
    (first_value found (codes "store")) c.asked_in.ensures

pub returns : goal.returns
returns c =
    let words : List Text = map (λ (word : Bor (List ℕ)). word.now) c.args.words.now in
    let free = ap is_simple_and_free c.in_ok-command.ensures ∙ app_is_free in
    record {
      asked = elim (c.in-Err.ensures.kinds free) [
        | inl memory ↦ absurd (c.in_default.not-OutOfMemory (c.kind.ensures ∙ memory))
        | inr among ↦ refused_is words (kind_of c.in-Err.error)
            (subst (λ (a : App). IsAmong (kind_of c.in-Err.error) (fault_of a words)) c.in_ok-command.ensures among)
      ];
      few = tt;
    }
