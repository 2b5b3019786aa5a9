use Rattle.std.proofs.Common.{◌≡◌, [], ◌∷◌, ◌++◌, length, reverse, sym, ap, subst, ◌∙◌, rules}
use Rattle.std.proofs.lemmas.List.{length-reverse}
use Rattle.std.specs.Option.{option_flatten}
use Rattle.c_types_names.specs.NameMap.{named}
use Rattle.c_types_names.specs.declared.variables.Declared.{Declared}
use Rattle.c_types_names.specs.Bindings.{AreLinked, binding_in}
use Rattle.c_types_names.proofs.Binding.{reverse-last, declared_found}
use Rattle.c_types_names.proofs.variables.declare.Goals as goal

pub returns-clause-bound : goal.returns-clause-bound
returns-clause-bound c =
    let all = c.args.all.now.items in
    let name = c.args.variable.name.now in
    let one : Declared = record { variable = c.args.variable; hidden = c.flatten-hidden.result } in
    let items : c.push.new.self.items ≡ all ++ one ∷ [] = search rules in
    let turned : reverse c.push.new.self.items ≡ one ∷ reverse all = ap reverse items ∙ reverse-last all one in
    let hidden : one.hidden ≡ binding_in (reverse all) name =
    c.flatten-hidden.ensures ∙ ap option_flatten c.in_ok-replace.ensures.old ∙ c.requires.found name in
    let len : c.len.result ≡ length all = search rules in
    let place : c.len.result ≡ length (reverse all) = len ∙ sym (length-reverse all) in
    record {
      linked = subst AreLinked (sym turned) (hidden, c.requires.linked);
      found = λ n.
          declared_found (named c.args.bindings.now) (named c.replace.new.self) (reverse all) c.args.variable c.len.result
          c.requires.found place c.in_ok-replace.ensures.thing c.flatten-hidden.result n
          ∙ ap (λ xs. binding_in xs n) (sym turned);
    }
