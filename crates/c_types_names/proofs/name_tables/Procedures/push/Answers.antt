use Rattle.std.proofs.Common.{◌≡◌, true, [], ◌∷◌, ◌++◌, map, option_map, refl, sym, ap, ◌∙◌, rules}
use Rattle.std.specs.Str.{bytes_eq}
use Rattle.c_types_rules.specs.Tables.{procedure_in}
use Rattle.c_types_rules.specs.Items.{same_bool, definitions}
use Rattle.c_types_names.specs.Seen.{procedure_seen}
use Rattle.c_types_names.specs.NameMap.{or_first, named}
use Rattle.c_types_names.specs.NameTables.{first_procedure, procedure_that}
use Rattle.c_types_names.proofs.Definitions.{definition_more}
use Rattle.c_types_names.proofs.Noting.{one_more, part_more}
use Rattle.c_types_names.proofs.name_tables.Procedures.push.Goals as goal

pub invariant_of-self-2 : goal.invariant_of-self-2
unfolding procedure_seen
invariant_of-self-2 c =
    let all = c.self.inside.all.items in
    let one = c.args.one in
    let old = named c.self.inside.first in
    let items : c.push.new.self.items ≡ all ++ one ∷ [] = search rules in
    let more = part_more old (named c.set.new.self) one.head.now.declarator.name.text c.with_procedure-found.result
    c.in_ok-set.ensures.thing in (
      λ n.
          one_more procedure_seen (λ y. bytes_eq y.head.declarator.name.text n) (λ ys. procedure_in ys n) refl (λ y ys. refl) _ _ _ one
          (c.self.invariant.0 n)
          (more (option_map first_procedure) true one
          (c.with_procedure-found.ensures.first ∙ ap (λ o. or_first (option_map first_procedure o) true one) c.named.ensures) n)
          ∙ ap (λ xs. procedure_in (map procedure_seen xs) n) (sym items),
      λ defines n.
          definition_more defines n _ _ all one (c.self.invariant.1 defines n)
          (more (procedure_that defines) (same_bool one.defines defines) one
          (c.with_procedure-found.ensures.that defines
          ∙ ap (λ o. or_first (procedure_that defines o) (same_bool one.defines defines) one) c.named.ensures) n)
          ∙ ap (λ xs. procedure_in (definitions defines (map procedure_seen xs)) n) (sym items),
    )
