use Rattle.std.proofs.Common.{◌≡◌, ◌+◌, ◌<◌, ◌≤◌, [], ◌∷◌, ◌++◌, not, Bool, List, length, map, take, drop, sym, ap, ◌∙◌, subst, rules}
use Rattle.std.proofs.lemmas.List.{at_drop_more, at_drop_all}
use Rattle.c_grammar.specs.Trees.{Name}
use Rattle.c_types_rules.specs.Types.{unless, SECOND}
use Rattle.c_types_rules.specs.Items.{is_listed, twice}
use Rattle.c_types_names.specs.FirstRefusal.{with_refusals}
use Rattle.c_types_names.proofs.FirstRefusals.{turn, over}
use Rattle.c_types.specs.declared.names.Named.{Named}
use Rattle.c_types.specs.Names.{named_seen, names_before, Lists}
use Rattle.c_types.proofs.NamesInTurn.{before-nil, before_more, lists_none, lists_more}
use Rattle.c_types.proofs.names.refuse_second_of.Goals as goal

pub loop-one-init : goal.loop-one-init
loop-one-init c =
    let none : names_before (take 0 c.args.names.now) ≡ [] = before-nil in
    record {
      lists = subst (Lists c.new-before.result) (sym none) (lists_none c.new-before.result c.new-before.ensures);
      passes = ap (λ (names : List Name). with_refusals c.args.first.now (twice names (map named_seen c.args.names.now))) none;
    }

pub loop-one-preserved : goal.loop-one-preserved
loop-one-preserved c =
    let xs = c.args.names.now in
    let i = c.loop-one.one-index in
    let within : i < length xs = search rules in
    let one = c.one-item.result in
    let before = names_before (take i xs) in
    let behind = map named_seen (drop (i + 1) xs) in
    let known = c.contains-listed.ensures ∙ c.loop-one.invariant.lists.same (named_seen one) in
    let goes : c.unless.new.self
    ≡ with_refusals c.loop-one.first (unless (not (is_listed before (named_seen one))) (named_seen one).place SECOND) =
    c.unless.ensures ∙ ap (λ (b : Bool). with_refusals c.loop-one.first (unless (not b) (named_seen one).place SECOND)) known in
    let parts : twice before (map named_seen (drop i xs))
    ≡ unless (not (is_listed before (named_seen one))) (named_seen one).place SECOND ++ twice (named_seen one ∷ before) behind =
    at_drop_more (λ (list : List Named). twice before (map named_seen list)) xs i one within
    ∙ ap (λ (x : Named). unless (not (is_listed before (named_seen x))) (named_seen x).place SECOND ++ twice (named_seen x ∷ before) behind)
    (sym c.one-item.is) in
    let more : names_before (take (i + 1) xs) ≡ named_seen one ∷ before =
    before_more xs i one within ∙ ap (λ (x : Named). named_seen x ∷ before) (sym c.one-item.is) in
    record {
      lists =
          subst (Lists c.add.new.self) (sym more)
          (lists_more c.loop-one.before c.add.new.self before (named_seen one) c.loop-one.invariant.lists c.in_ok-add.ensures);
      passes = ap (λ (names : List Name). with_refusals c.unless.new.self (twice names behind)) more
          ∙ turn _ _ _ _ (unless (not (is_listed before (named_seen one))) (named_seen one).place SECOND)
          (twice (named_seen one ∷ before) behind) goes parts c.loop-one.invariant.passes;
    }

pub returns : goal.returns
returns c =
    let past : length c.args.names.now ≤ c.loop-one.one-index = search rules in
    over _ _ _ (at_drop_all
    (λ (xs : List Named). twice (names_before (take c.loop-one.one-index c.args.names.now))
    (map named_seen xs)) c.args.names.now c.loop-one.one-index past) c.loop-one.invariant.passes
