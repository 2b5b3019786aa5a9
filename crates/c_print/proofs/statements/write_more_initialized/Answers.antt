use Rattle.std.proofs.Common.{◌<◌, ◌∷◌, codes, map, length, refl, ap, rules}
use Rattle.c_grammar.specs.Printing.{print_more, print_initialized}
use Rattle.c_tree.specs.Syntax.{initialized_tree}
use Rattle.c_print.proofs.Rows.{then, at_same, turn}
use Rattle.c_print.proofs.statements.write_more_initialized.Goals as goal

pub loop-one-preserved : goal.loop-one-preserved
loop-one-preserved c =
    let within : c.loop-one.one-index < length c.args.others.now = search rules in
    turn (λ xs. print_more print_initialized (map initialized_tree xs))
    (λ x behind. codes "," ∷ print_initialized (initialized_tree x) behind) (λ x xs behind. refl)
    c.args.others.now c.loop-one.one-index c.one-item.result within c.loop-one.invariant
    (then c.in_ok-write_word.ensures
    (at_same print_initialized _ _ (ap initialized_tree c.one-item.is) _ _ c.in_ok-write_initialized.ensures))
