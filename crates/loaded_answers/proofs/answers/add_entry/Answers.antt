-- An earlier entry has the key, or this is the first one.
use Rattle.std.proofs.Common.{◌≡◌, ◌∙◌, true, false, Some, is_some, rules, subst}
use Rattle.indexmap.specs.IndexMap.{Updates, get}
use Rattle.component_keys.specs.Tests.{key_test}
use Rattle.claim_core.specs.Views.{solution_of}
use Rattle.loaded_answers.proofs.Finding.{found_more, found_still}
use Rattle.loaded_answers.proofs.answers.add_entry.Goals as goal

pub returns-then-contains_key : goal.returns-then-contains_key
returns-then-contains_key c = λ loaded are.
    let some : is_some (get key_test.0 c.args.found.now c.args.entry.now.key.value) ≡ true = search rules in
    found_still (λ answer. answer.value) loaded c.args.found.now are (solution_of c.args.entry.now) some

pub returns : goal.returns
returns c = λ loaded are.
    let none : is_some (get key_test.0 c.args.found.now c.args.entry.now.key.value) ≡ false = search rules in
    found_more (λ answer. answer.value) loaded c.args.found.now are
    (solution_of c.args.entry.now) c.insert.new.self c.in_ok-share-2.field-0 c.in_ok-share-2.ensures none
    (subst (λ key. Updates key_test.0 c.args.found.now c.insert.new.self key (Some c.in_ok-share-2.field-0))
    (c.of-key.ensures ∙ c.in_ok-share.ensures) c.in_ok-insert.ensures.updates)
