use Rattle.std.proofs.Common.{◌≡◌, [], ◌∷◌, ◌++◌, reverse, sym, ap, subst, ◌∙◌, rules}
use Rattle.std.specs.Option.{option_flatten}
use Rattle.c_types_names.specs.NameMap.{named}
use Rattle.c_types_names.proofs.Binding.{reverse-last}
use Rattle.c_lower_exprs.specs.declared.slots.Declared.{Declared}
use Rattle.c_lower_exprs.specs.Slots.{AreLinked, slot_among, slots_of}
use Rattle.c_lower_exprs.proofs.SlotsOfNames.{declared_found, slots_push}
use Rattle.c_lower_exprs.proofs.slots.declare.Goals as goal

pub returns-in-Ok-clause-bound : goal.returns-in-Ok-clause-bound
returns-in-Ok-clause-bound c =
    let all = c.args.all.now.items in
    let name = c.args.bound.name.now in
    let one : Declared = record { bound = c.args.bound; hidden = c.flatten-hidden.result } in
    let items : c.push-in-Ok.new.self.items ≡ all ++ one ∷ [] = search rules in
    let turned : reverse c.push-in-Ok.new.self.items ≡ one ∷ reverse all = ap reverse items ∙ reverse-last all one in
    let hidden : one.hidden ≡ slot_among (reverse all) name =
    c.flatten-hidden.ensures ∙ ap option_flatten c.in-Ok.ensures.old ∙ c.requires.found name in
    record {
      linked = subst AreLinked (sym turned) (hidden, c.requires.linked);
      found = λ n.
          declared_found (named c.args.of_names.now) (named c.replace.new.self) (reverse all) c.args.bound c.requires.found
          c.in-Ok.ensures.thing c.flatten-hidden.result n
          ∙ ap (λ xs. slot_among xs n) (sym turned);
      listed =
          c.in_ok-push.ensures.more ∙ ap (λ ns. one.bound.slot ∷ ns) c.requires.listed ∙ sym (slots_push all one) ∙ ap slots_of (sym items);
    }
