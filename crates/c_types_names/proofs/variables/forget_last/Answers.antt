use Rattle.std.proofs.Common.{◌≡◌, true, [], ◌∷◌, ◌++◌, reverse, is_some, ap, subst, ◌∙◌, rules}
use Rattle.c_types_names.specs.NameMap.{named}
use Rattle.c_types_names.specs.Bindings.{AreLinked, binding_in, bound_of}
use Rattle.c_types_names.proofs.Noting.{from_ok}
use Rattle.c_types_names.proofs.Binding.{reverse-last, bound_there, must_be_ok, forgotten_found}
use Rattle.c_types_names.proofs.variables.forget_last.Goals as goal

pub unwrap-requires : goal.unwrap-requires
unwrap-requires c =
    let last = c.unwrap-last.result in
    let name = last.variable.name.now in
    let rest = c.pop.new.self.items in
    let items : c.args.all.now.items ≡ rest ++ last ∷ [] = search rules in
    let turned : reverse c.args.all.now.items ≡ last ∷ reverse rest = ap reverse items ∙ reverse-last rest last in
    let there : is_some (bound_of c.args.bindings.now name) ≡ true =
    ap is_some (c.requires.bound.found name) ∙ ap (λ xs. is_some (binding_in xs name)) turned ∙ bound_there last (reverse rest) in
    must_be_ok c.set.result (named c.args.bindings.now name) there c.set.ensures.absent

pub returns-clause-bound : goal.returns-clause-bound
returns-clause-bound c =
    let last = c.unwrap-last.result in
    let rest = c.pop.new.self.items in
    let items : c.args.all.now.items ≡ rest ++ last ∷ [] = search rules in
    let turned : reverse c.args.all.now.items ≡ last ∷ reverse rest = ap reverse items ∙ reverse-last rest last in
    let linked : AreLinked (last ∷ reverse rest) = subst AreLinked turned c.requires.bound.linked in
    record {
      linked = linked.1;
      found = forgotten_found (named c.args.bindings.now) (named c.set.new.self) (reverse rest) last
          (λ n. c.requires.bound.found n ∙ ap (λ xs. binding_in xs n) turned) (linked.0)
          (from_ok c.set.result c.unwrap.result _ c.unwrap.ensures c.set.ensures.thing);
    }
