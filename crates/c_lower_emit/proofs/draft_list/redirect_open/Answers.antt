use Rattle.std.proofs.Common.{◌≡◌, ◌+◌, ◌≤◌, ◌++◌, length, take, drop, ap, ◌∙◌, arith}
use Rattle.std.proofs.lemmas.List.{length-drop, take_rest}
use Rattle.std.specs.List.{filter}
use Rattle.c_lower_emit.specs.OpenPlaces.{is_open_at}
use Rattle.c_lower_emit.proofs.Listing.{taken_behind}
use Rattle.c_lower_emit.proofs.draft_list.redirect_open.Goals as goal

pub returns-clause-places : goal.returns-clause-places
returns-clause-places c =
    let was = c.deref_mut.result.now in
    let first = c.args.first in
    let len : length was ≡ c.args.places.now.len = c.deref_mut.ensures.len in
    let same = ap length c.deref_mut.ensures.value in
    let le : first ≤ length was = omega (arith, same, c.requires.order, c.requires.within) in
    let rest = ap length (take_rest was first) in
    let left = length-drop first was in
    let fits : first + c.keep_open-kept.result ≤ c.args.places.now.len =
    omega (arith, len, le, rest, left, c.keep_open-kept.auto.places, c.keep_open-kept.ensures.within) in
    c.truncate.ensures.items
    ∙ taken_behind
    first c.keep_open-kept.result c.args.places.now.len was c.keep_open-kept.new.places _ _ le c.keep_open-kept.ensures.within fits
    ∙ ap (λ ns. take first was ++ ns)
    (c.keep_open-kept.ensures.kept ∙ ap (filter (is_open_at c.deref-2.result.now)) (take_rest was first))
    ∙ ap (λ ns. take first ns ++ filter (is_open_at c.deref-2.result.now) (drop first ns)) c.deref_mut.ensures.value
    ∙ ap (λ ds. take first c.args.places.now.items ++ filter (is_open_at ds) (drop first c.args.places.now.items)) c.deref-2.ensures.value
