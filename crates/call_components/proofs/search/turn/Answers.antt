-- Each way of a turn is a lemma of `Turns`.
use Rattle.std.proofs.Common.{◌≡◌, ◌+◌, ◌<◌, ◌≤◌, ◌∙◌, ◌++◌, ◌∷◌, [], length, ap, subst, arith}
use Rattle.std.proofs.lemmas.List.{length_push}
use Rattle.component_keys.proofs.Basics.{at_end}
use Rattle.call_components.specs.Reaching.{rows}
use Rattle.call_components.specs.declared.marks.Mark.TheVariants.{New, Open, Done}
use Rattle.call_components.specs.Searching.{IsSearching, mark_of, work}
use Rattle.call_components.proofs.Searched.{done_more, open_more}
use Rattle.call_components.proofs.Turns.{ok_five, last_fits, mark_read, close_search, close_less, visit_search, visit_less, merged_fewer}
use Rattle.call_components.proofs.search.turn.Goals as goal

pub returns-then-len-top-clause-search : goal.returns-then-len-top-clause-search
returns-then-len-top-clause-search c =
    let had : c.args.search.now.todo.len ≡ length c.args.search.now.todo.items = c.args.search.now.todo.ok.0 in
    let asked = c.len.ensures in
    let few : c.len.result ≤ c.args.top.todo = c.if-len-top.true in
    ok_five c.close.result _ _ _ _ _ _
    (λ lengths classed stack entries done.
    close_search
    (rows c.args.calls.now) c.requires.defined c.args.search.now.marks.items c.close.new.search.marks.items c.args.search.now.stack.items
    c.close.new.search.stack.items c.args.search.now.entries.items c.close.new.search.entries.items c.args.search.now.todo.items
    c.close.new.search.todo.items (length c.args.search.now.done.items) (length c.close.new.search.done.items) c.args.top
    c.requires.search c.requires.top (omega (arith, had, asked, few)) lengths classed stack entries c.close.ensures.todo done)
    c.close.ensures.lengths c.close.ensures.classed c.close.ensures.stack c.close.ensures.entries c.close.ensures.done

pub returns-then-len-top-clause-less : goal.returns-then-len-top-clause-less
returns-then-len-top-clause-less c =
    ok_five c.close.result _ _ _ _ _ _
    (λ lengths classed stack entries done.
    close_less (rows c.args.calls.now) c.requires.defined c.args.search.now.marks.items c.close.new.search.marks.items
    c.args.search.now.stack.items c.args.search.now.entries.items c.close.new.search.entries.items c.args.search.now.todo.items
    c.close.new.search.todo.items
    (length c.args.search.now.done.items) c.args.top c.requires.search c.requires.top lengths classed entries c.close.ensures.todo)
    c.close.ensures.lengths c.close.ensures.classed c.close.ensures.stack c.close.ensures.entries c.close.ensures.done

pub index-requires : goal.index-requires
index-requires c =
    let less : c.in-Some.number
    < length (rows c.args.calls.now) =
    (subst (λ t. IsSearching
    (rows c.args.calls.now) c.args.search.now.marks.items c.args.search.now.stack.items c.args.search.now.entries.items t
    (length c.args.search.now.done.items)) c.in-Some.ensures.items c.requires.search).callees
    (length c.pop.new.self.items) c.in-Some.number (at_end c.pop.new.self.items c.in-Some.number) in
    let same : length c.args.search.now.marks.items ≡ length (rows c.args.calls.now) = c.requires.search.lengths in
    let is : c.args.search.now.marks.len ≡ length c.args.search.now.marks.items = c.args.search.now.marks.ok.0 in
    omega (arith, less, same, is)

pub visit-requires : goal.visit-requires
visit-requires c =
    let less : c.in-Some.number
    < length (rows c.args.calls.now) =
    (subst (λ t. IsSearching
    (rows c.args.calls.now) c.args.search.now.marks.items c.args.search.now.stack.items c.args.search.now.entries.items t
    (length c.args.search.now.done.items)) c.in-Some.ensures.items c.requires.search).callees
    (length c.pop.new.self.items) c.in-Some.number (at_end c.pop.new.self.items c.in-Some.number) in
    let same : length c.args.search.now.marks.items ≡ length (rows c.args.calls.now) = c.requires.search.lengths in
    omega (arith, less, same)

pub returns-in-Done-clause-search : goal.returns-in-Done-clause-search
returns-in-Done-clause-search c =
    let less : c.in-Some.number
    < length (rows c.args.calls.now) =
    (subst (λ t. IsSearching
    (rows c.args.calls.now) c.args.search.now.marks.items c.args.search.now.stack.items c.args.search.now.entries.items t
    (length c.args.search.now.done.items)) c.in-Some.ensures.items c.requires.search).callees
    (length c.pop.new.self.items) c.in-Some.number (at_end c.pop.new.self.items c.in-Some.number) in
    let same : length c.args.search.now.marks.items ≡ length (rows c.args.calls.now) = c.requires.search.lengths in
    let within : c.in-Some.number < length c.args.search.now.marks.items = omega (arith, less, same) in
    let mark : mark_of c.args.search.now.marks.items c.in-Some.number ≡ Done c.in-Done.field-0 =
    mark_read c.args.search.now.marks.items c.in-Some.number c.index.result.now within c.index.ensures ∙ c.in-Done.is in
    let had : c.args.search.now.todo.len ≡ length c.args.search.now.todo.items = c.args.search.now.todo.ok.0 in
    let asked = c.len.ensures in
    let more : c.args.top.todo < c.len.result = c.if-len-top.false in
    let bound : c.args.top.todo < length (c.pop.new.self.items ++ c.in-Some.number ∷ []) =
    subst (λ l. c.args.top.todo < length l) c.in-Some.ensures.items (omega (arith, had, asked, more)) in
    let longer : length (c.pop.new.self.items ++ c.in-Some.number ∷ []) ≡ length c.pop.new.self.items + 1 =
    length_push c.pop.new.self.items c.in-Some.number in
    done_more (rows c.args.calls.now) c.requires.defined c.args.search.now.marks.items c.args.search.now.stack.items
    c.args.search.now.entries.items c.pop.new.self.items (length c.args.search.now.done.items) c.in-Some.number c.in-Done.field-0
    (subst (λ t. IsSearching
    (rows c.args.calls.now) c.args.search.now.marks.items c.args.search.now.stack.items c.args.search.now.entries.items t
    (length c.args.search.now.done.items)) c.in-Some.ensures.items c.requires.search)
    (last_fits (rows c.args.calls.now) c.args.search.now.marks.items c.args.search.now.stack.items c.args.search.now.entries.items
    (c.pop.new.self.items ++ c.in-Some.number ∷ []) (length c.args.search.now.done.items) c.args.top (length c.pop.new.self.items)
    (subst (λ t. IsSearching
    (rows c.args.calls.now) c.args.search.now.marks.items c.args.search.now.stack.items c.args.search.now.entries.items t
    (length c.args.search.now.done.items)) c.in-Some.ensures.items c.requires.search) c.requires.top (omega (arith, longer, bound))) mark

pub returns-in-Open-clause-search : goal.returns-in-Open-clause-search
returns-in-Open-clause-search c =
    let less : c.in-Some.number
    < length (rows c.args.calls.now) =
    (subst (λ t. IsSearching
    (rows c.args.calls.now) c.args.search.now.marks.items c.args.search.now.stack.items c.args.search.now.entries.items t
    (length c.args.search.now.done.items)) c.in-Some.ensures.items c.requires.search).callees
    (length c.pop.new.self.items) c.in-Some.number (at_end c.pop.new.self.items c.in-Some.number) in
    let same : length c.args.search.now.marks.items ≡ length (rows c.args.calls.now) = c.requires.search.lengths in
    let within : c.in-Some.number < length c.args.search.now.marks.items = omega (arith, less, same) in
    let mark : mark_of c.args.search.now.marks.items c.in-Some.number ≡ Open c.in-Open.place =
    mark_read c.args.search.now.marks.items c.in-Some.number c.index.result.now within c.index.ensures ∙ c.in-Open.is in
    let had : c.args.search.now.todo.len ≡ length c.args.search.now.todo.items = c.args.search.now.todo.ok.0 in
    let asked = c.len.ensures in
    let more : c.args.top.todo < c.len.result = c.if-len-top.false in
    let bound : c.args.top.todo < length (c.pop.new.self.items ++ c.in-Some.number ∷ []) =
    subst (λ l. c.args.top.todo < length l) c.in-Some.ensures.items (omega (arith, had, asked, more)) in
    let longer : length (c.pop.new.self.items ++ c.in-Some.number ∷ []) ≡ length c.pop.new.self.items + 1 =
    length_push c.pop.new.self.items c.in-Some.number in
    open_more (rows c.args.calls.now) c.requires.defined c.args.search.now.marks.items c.args.search.now.stack.items
    c.args.search.now.entries.items c.merge.new.entries.items c.pop.new.self.items
    (length c.args.search.now.done.items) c.in-Some.number c.in-Open.place
    (subst (λ t. IsSearching
    (rows c.args.calls.now) c.args.search.now.marks.items c.args.search.now.stack.items c.args.search.now.entries.items t
    (length c.args.search.now.done.items)) c.in-Some.ensures.items c.requires.search)
    (last_fits (rows c.args.calls.now) c.args.search.now.marks.items c.args.search.now.stack.items c.args.search.now.entries.items
    (c.pop.new.self.items ++ c.in-Some.number ∷ []) (length c.args.search.now.done.items) c.args.top (length c.pop.new.self.items)
    (subst (λ t. IsSearching
    (rows c.args.calls.now) c.args.search.now.marks.items c.args.search.now.stack.items c.args.search.now.entries.items t
    (length c.args.search.now.done.items)) c.in-Some.ensures.items c.requires.search) c.requires.top
    (omega (arith, longer, bound))) mark c.merge.ensures

pub returns-in-Open-clause-less : goal.returns-in-Open-clause-less
returns-in-Open-clause-less c =
    let longer : length c.args.search.now.todo.items ≡ length c.pop.new.self.items + 1 =
    ap length c.in-Some.ensures.items ∙ length_push c.pop.new.self.items c.in-Some.number in
    let fewer : length c.merge.new.entries.items ≤ length c.args.search.now.entries.items =
    merged_fewer c.in-Open.place c.args.search.now.entries.items c.merge.new.entries.items c.merge.ensures in
    omega (arith, longer, fewer)

pub returns-in-New-clause-search : goal.returns-in-New-clause-search
returns-in-New-clause-search c =
    let less : c.in-Some.number
    < length (rows c.args.calls.now) =
    (subst (λ t. IsSearching
    (rows c.args.calls.now) c.args.search.now.marks.items c.args.search.now.stack.items c.args.search.now.entries.items t
    (length c.args.search.now.done.items)) c.in-Some.ensures.items c.requires.search).callees
    (length c.pop.new.self.items) c.in-Some.number (at_end c.pop.new.self.items c.in-Some.number) in
    let same : length c.args.search.now.marks.items ≡ length (rows c.args.calls.now) = c.requires.search.lengths in
    let within : c.in-Some.number < length c.args.search.now.marks.items = omega (arith, less, same) in
    let mark : mark_of c.args.search.now.marks.items c.in-Some.number ≡ New =
    mark_read c.args.search.now.marks.items c.in-Some.number c.index.result.now within c.index.ensures ∙ c.in-New.is in
    let had : c.args.search.now.todo.len ≡ length c.args.search.now.todo.items = c.args.search.now.todo.ok.0 in
    let asked = c.len.ensures in
    let more : c.args.top.todo < c.len.result = c.if-len-top.false in
    let bound : c.args.top.todo < length (c.pop.new.self.items ++ c.in-Some.number ∷ []) =
    subst (λ l. c.args.top.todo < length l) c.in-Some.ensures.items (omega (arith, had, asked, more)) in
    let longer : length (c.pop.new.self.items ++ c.in-Some.number ∷ []) ≡ length c.pop.new.self.items + 1 =
    length_push c.pop.new.self.items c.in-Some.number in
    ok_five c.visit.result _ _ _ _ _ _
    (λ marks stack entries todo again.
    visit_search
    (rows c.args.calls.now) c.requires.defined c.args.search.now.marks.items c.visit.new.search.marks.items c.args.search.now.stack.items
    c.visit.new.search.stack.items c.args.search.now.entries.items c.visit.new.search.entries.items c.pop.new.self.items
    c.visit.new.search.todo.items (length c.args.search.now.done.items) (length c.visit.new.search.done.items) c.in-Some.number c.args.top
    (subst (λ t. IsSearching
    (rows c.args.calls.now) c.args.search.now.marks.items c.args.search.now.stack.items c.args.search.now.entries.items t
    (length c.args.search.now.done.items)) c.in-Some.ensures.items c.requires.search) c.requires.top bound mark marks stack entries todo
    (ap length c.visit.ensures.done))
    c.visit.ensures.marks c.visit.ensures.stack c.visit.ensures.entries c.visit.ensures.todo c.visit.ensures.todo

pub returns-in-New-clause-less : goal.returns-in-New-clause-less
returns-in-New-clause-less c =
    let less : c.in-Some.number
    < length (rows c.args.calls.now) =
    (subst (λ t. IsSearching
    (rows c.args.calls.now) c.args.search.now.marks.items c.args.search.now.stack.items c.args.search.now.entries.items t
    (length c.args.search.now.done.items)) c.in-Some.ensures.items c.requires.search).callees
    (length c.pop.new.self.items) c.in-Some.number (at_end c.pop.new.self.items c.in-Some.number) in
    let same : length c.args.search.now.marks.items ≡ length (rows c.args.calls.now) = c.requires.search.lengths in
    let within : c.in-Some.number < length c.args.search.now.marks.items = omega (arith, less, same) in
    let mark : mark_of c.args.search.now.marks.items c.in-Some.number ≡ New =
    mark_read c.args.search.now.marks.items c.in-Some.number c.index.result.now within c.index.ensures ∙ c.in-New.is in
    let had : c.args.search.now.todo.len ≡ length c.args.search.now.todo.items = c.args.search.now.todo.ok.0 in
    let asked = c.len.ensures in
    let more : c.args.top.todo < c.len.result = c.if-len-top.false in
    let bound : c.args.top.todo < length (c.pop.new.self.items ++ c.in-Some.number ∷ []) =
    subst (λ l. c.args.top.todo < length l) c.in-Some.ensures.items (omega (arith, had, asked, more)) in
    let longer : length (c.pop.new.self.items ++ c.in-Some.number ∷ []) ≡ length c.pop.new.self.items + 1 =
    length_push c.pop.new.self.items c.in-Some.number in
    let all : length c.args.search.now.todo.items ≡ length c.pop.new.self.items + 1 = ap length c.in-Some.ensures.items ∙ longer in
    ok_five c.visit.result _ _ _ _ _ _
    (λ marks stack entries todo again.
    let fewer : work (rows c.args.calls.now) c.visit.new.search.marks.items + length c.visit.new.search.todo.items
    + length c.visit.new.search.entries.items
    < work (rows c.args.calls.now) c.args.search.now.marks.items + (length c.pop.new.self.items + 1)
    + length c.args.search.now.entries.items =
    visit_less (rows c.args.calls.now) c.requires.defined c.args.search.now.marks.items c.visit.new.search.marks.items
    c.args.search.now.stack.items c.args.search.now.entries.items c.visit.new.search.entries.items c.pop.new.self.items
    c.visit.new.search.todo.items c.in-Some.number 1 same within mark marks entries todo in
    omega (arith, fewer, all))
    c.visit.ensures.marks c.visit.ensures.stack c.visit.ensures.entries c.visit.ensures.todo c.visit.ensures.todo
