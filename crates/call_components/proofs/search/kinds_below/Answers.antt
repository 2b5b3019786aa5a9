use Rattle.std.proofs.Common.{◌≡◌, ◌<◌, ◌∙◌, All, length, map, sym, ap, subst, rules}
use Rattle.call_components.specs.Reaching.{rows}
use Rattle.call_components.specs.Searching.{kind_of_mark}
use Rattle.call_components.specs.Tables.{AreKinds}
use Rattle.call_components.proofs.Turns.{kinds_few, kinds_right}
use Rattle.call_components.proofs.search.kinds_below.Goals as goal

pub returns-clause-kinds : goal.returns-clause-kinds
returns-clause-kinds c =
    subst (AreKinds (rows c.args.calls.now)) (sym (c.in_ok-kinds.ensures ∙ ap (map kind_of_mark) c.deref.ensures.value))
    (kinds_right
    (rows c.args.calls.now) c.requires.defined c.in_ok-search.search.marks.items c.in_ok-search.search.stack.items
    c.in_ok-search.search.entries.items c.in_ok-search.search.todo.items
    (length c.in_ok-search.search.done.items) c.in_ok-search.ensures.search
    c.in_ok-search.ensures.closed c.in_ok-search.ensures.met)

pub returns-clause-below : goal.returns-clause-below
returns-clause-below c =
    let count : c.len.result ≡ length c.in_ok-search.search.done.items = search rules in
    subst (λ n. All (λ kind. kind < n) c.in_ok-kinds.kinds.items) (sym count)
    (subst (All (λ kind. kind < length c.in_ok-search.search.done.items))
    (sym (c.in_ok-kinds.ensures ∙ ap (map kind_of_mark) c.deref.ensures.value))
    (kinds_few (rows c.args.calls.now) c.in_ok-search.search.marks.items c.in_ok-search.search.stack.items
    c.in_ok-search.search.entries.items c.in_ok-search.search.todo.items
    (length c.in_ok-search.search.done.items) c.in_ok-search.ensures.search
    c.in_ok-search.ensures.closed c.in_ok-search.ensures.met))
