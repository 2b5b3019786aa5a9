-- One callee more.
use Rattle.std.proofs.Common.{◌≡◌, ℕ, ◌+◌, ◌<◌, List, [], ◌∷◌, ◌++◌, length, map, take, get_or, slice_get, Some, Option, ap, ◌∙◌}
use Rattle.std.proofs.Common.{filter_map, option_map}
use Rattle.std.specs.List.{cons_option}
use Rattle.std.proofs.lemmas.List.{map_push, take_more}
use Rattle.std.proofs.lemmas.List.Elements.{filter_map-append}
use Rattle.shape_data.specs.declared.answer.Answer.{Answer}
use Rattle.shape_data.specs.declared.program.Flow.{Flow}
use Rattle.shape_data.specs.declared.program.Program.{Program}
use Rattle.component_keys.specs.Keys.{Outer, flows_of}
use Rattle.composed_keys.specs.declared.rows.Outer.{Outer as OuterRow}
use Rattle.composed_keys.specs.Rows.{outer_value}
use Rattle.session_replies.specs.PlainAnswers.Table.{callee_as, callee_over}

-- a procedure of a component as one outside
abbrev pub outer_for : ℕ → Flow → Outer
outer_for component flow = record { name = flow.name; params = flow.params; component = component }

pub callees_more : (program : Program) (answers : ℕ → Option Answer) (outers : List OuterRow) (i : ℕ) (outer : OuterRow) (flow : Flow) →
    i < length outers → get_or outers i outer ≡ outer →
    slice_get (flows_of program) outer.number ≡ Some flow →
    map (callee_over answers) (filter_map (outer_value (flows_of program)) (take (i + 1) outers)) ≡
    map (callee_over answers) (filter_map (outer_value (flows_of program)) (take i outers)) ++ callee_as flow (answers outer.component) ∷ []
callees_more program answers outers i outer flow lt is at =
    ap (λ l. map (callee_over answers) (filter_map (outer_value (flows_of program)) l))
    (take_more outers i outer lt ∙ ap (λ o. take i outers ++ o ∷ []) is) ∙
    ap (map (callee_over answers))
    (filter_map-append (outer_value (flows_of program)) (take i outers) (outer ∷ [])
    ∙ ap (λ o. front ++ cons_option (option_map (outer_for outer.component) o) []) at) ∙
    map_push (callee_over answers) front (outer_for outer.component flow)
  where
    front : List Outer
    front = filter_map (outer_value (flows_of program)) (take i outers)
