use Rattle.std.proofs.Common.{◌≡◌, [], sym, ap, subst, ◌∙◌, reverse}
use Rattle.std.specs.Option.{option_flatten}
use Rattle.c_types_names.specs.Bindings.{AreLinked, binding_in}
use Rattle.c_types_names.proofs.variables.Variables.new.Goals as goal

pub invariant_of-result : goal.invariant_of-result
invariant_of-result c =
    let turned : [] ≡ reverse c.new.result.items = ap reverse (sym c.new.ensures.items) in
    record {
      linked = subst AreLinked turned tt;
      found = λ n. ap option_flatten (c.new-2.ensures n) ∙ ap (λ xs. binding_in xs n) turned;
    }
