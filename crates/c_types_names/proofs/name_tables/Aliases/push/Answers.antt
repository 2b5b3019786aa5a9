use Rattle.std.proofs.Common.{◌≡◌, [], ◌∷◌, ◌++◌, map, refl, sym, ap, ◌∙◌, rules}
use Rattle.std.specs.Str.{bytes_eq}
use Rattle.c_types_rules.specs.Tables.{alias_in}
use Rattle.c_types_names.specs.Seen.{alias_seen}
use Rattle.c_types_names.proofs.Noting.{one_more}
use Rattle.c_types_names.proofs.name_tables.Aliases.push.Goals as goal

pub invariant_of-self-2 : goal.invariant_of-self-2
invariant_of-self-2 c = λ n.
    let items : c.push.new.self.items ≡ c.self.inside.all.items ++ c.args.one ∷ [] = search rules in
    one_more alias_seen (λ y. bytes_eq y.name n) (λ ys. alias_in ys n) refl (λ y ys. refl) _ _ _ c.args.one (c.self.invariant n)
    (c.in_ok-add_first.ensures.thing n)
    ∙ ap (λ xs. alias_in (map alias_seen xs) n) (sym items)
