use Rattle.std.proofs.Common.{◌≡◌, ℕ, List, refl, sym, ap, ◌∙◌}
use Rattle.c_grammar.specs.declared.class.Class.{Class}
use Rattle.c_grammar.specs.declared.class.Class.TheVariants as class
use Rattle.c_grammar.specs.Readers.{wrong}
use Rattle.c_grammar.specs.Words.{Word}
use Rattle.c_parse.specs.Heads.{iteration_by}
use Rattle.c_parse.proofs.Cases.{stops_wrong}
use Rattle.c_parse.proofs.heads.read_iteration_head.Goals as goal

no_iteration : (k : Class) (n : ℕ) (words : List Word) → (k ≡ class.While → ⊥) → (k ≡ class.Do → ⊥) → (k ≡ class.For → ⊥)
    → iteration_by k n words ≡ wrong words
no_iteration class.While n words a b c = absurd (a refl)
no_iteration class.Do n words a b c = absurd (b refl)
no_iteration class.For n words a b c = absurd (c refl)
no_iteration _ n words a b c = refl

pub returns-in_default-clause-value : goal.returns-in_default-clause-value
returns-in_default-clause-value c =
    let d = c.in_default in
    stops_wrong c.wrong.result c.args.words.now _
    (ap (λ k. iteration_by k c.args.levels c.args.words.now) (sym c.first_class.ensures)
    ∙ no_iteration c.first_class.result c.args.levels c.args.words.now d.not-While d.not-Do d.not-For) c.wrong.ensures
