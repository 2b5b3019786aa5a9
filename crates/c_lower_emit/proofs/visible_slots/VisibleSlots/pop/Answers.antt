use Rattle.std.proofs.Common.{◌≡◌, ◌+◌, [], ◌∷◌, ◌++◌, drop, refl, ap, ◌∙◌, rules}
use Rattle.std.proofs.lemmas.Slice.{pushed}
use Rattle.c_lower_emit.specs.VisibleSlots.{slots_of_run}
use Rattle.c_lower_emit.proofs.Runs.{last_shorter, last_gone}
use Rattle.c_lower_emit.proofs.visible_slots.VisibleSlots.pop.Goals as goal

pub returns-in-Some-without_last : goal.returns-in-Some-without_last
returns-in-Some-without_last c =
    let last = c.in-Some.last in
    let rest = c.pop.new.self.items in
    let was : c.self.inside.runs.items ≡ rest ++ last ∷ [] = search rules in
    last_shorter c.self.inside.runs.items rest c.push.new.self.items last c.in-Some-without_last.run' (last.first + last.more) was
    (pushed (c.in-Some-without_last.run' ∷ []) refl c.unwrap.ensures c.push.ensures.items) c.in-Some-without_last.ensures.some
    ∙ ap (drop 1) c.self.view_is

pub returns-in_default-without_last : goal.returns-in_default-without_last
returns-in_default-without_last c =
    let last = c.in-Some.last in
    let rest = c.pop.new.self.items in
    let was : c.self.inside.runs.items ≡ rest ++ last ∷ [] = search rules in
    let one : slots_of_run last ≡ last.first ∷ [] = search rules in
    last_gone c.self.inside.runs.items rest last last.first was one ∙ ap (drop 1) c.self.view_is
