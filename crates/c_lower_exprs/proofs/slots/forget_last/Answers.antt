use Rattle.std.proofs.Common.{◌≡◌, true, [], ◌∷◌, ◌++◌, reverse, drop, is_some, ap, subst, ◌∙◌, rules}
use Rattle.c_types_names.specs.NameMap.{named}
use Rattle.c_types_names.proofs.Noting.{from_ok}
use Rattle.c_types_names.proofs.Binding.{reverse-last, must_be_ok}
use Rattle.c_lower_exprs.specs.Slots.{AreLinked, slot_among, slot_found, slots_of}
use Rattle.c_lower_exprs.proofs.SlotsOfNames.{slot_there, forgotten_found, slots_push}
use Rattle.c_lower_exprs.proofs.slots.forget_last.Goals as goal

pub unwrap-requires : goal.unwrap-requires
unwrap-requires c =
    let last = c.unwrap-last.result in
    let name = last.bound.name.now in
    let rest = c.pop.new.self.items in
    let items : c.args.all.now.items ≡ rest ++ last ∷ [] = search rules in
    let turned : reverse c.args.all.now.items ≡ last ∷ reverse rest = ap reverse items ∙ reverse-last rest last in
    let there : is_some (slot_found c.args.of_names.now name) ≡ true =
    ap is_some (c.requires.bound.found name) ∙ ap (λ xs. is_some (slot_among xs name)) turned ∙ slot_there last (reverse rest) in
    must_be_ok c.set.result (named c.args.of_names.now name) there c.set.ensures.absent

pub returns-clause-bound : goal.returns-clause-bound
returns-clause-bound c =
    let last = c.unwrap-last.result in
    let rest = c.pop.new.self.items in
    let items : c.args.all.now.items ≡ rest ++ last ∷ [] = search rules in
    let turned : reverse c.args.all.now.items ≡ last ∷ reverse rest = ap reverse items ∙ reverse-last rest last in
    let linked : AreLinked (last ∷ reverse rest) = subst AreLinked turned c.requires.bound.linked in
    record {
      linked = linked.1;
      found = forgotten_found (named c.args.of_names.now) (named c.set.new.self) (reverse rest) last
          (λ n. c.requires.bound.found n ∙ ap (λ xs. slot_among xs n) turned) (linked.0)
          (from_ok c.set.result c.unwrap.result _ c.unwrap.ensures c.set.ensures.thing);
      listed = c.pop-2.ensures ∙ ap (drop 1) (c.requires.bound.listed ∙ ap slots_of items ∙ slots_push rest last);
    }
