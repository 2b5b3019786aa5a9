-- One row of calls more.
use Rattle.std.proofs.Common.{◌≡◌, ◌∙◌, ℕ, ◌+◌, ◌<◌, List, [], ◌∷◌, ◌++◌, map, length, take, get_or, sym, ap}
use Rattle.std.specs.Global.{Vec}
use Rattle.std.proofs.lemmas.List.{map_push, take_more}
use Rattle.call_components.specs.Reaching.{rows}
use Rattle.composed_keys.specs.declared.rows.Component.{Component as ComponentRow}
use Rattle.composed_keys.specs.declared.rows.Outer.{Outer as OuterRow}

-- the numbers of the components of procedures outside
abbrev pub called_in_row : ComponentRow → List ℕ
called_in_row row = map (λ (one : OuterRow). one.component) row.outer.items

pub calls_more : (calls : List (Vec ℕ)) (all : List ComponentRow) (i : ℕ) (row : ComponentRow) (new : Vec ℕ) → i < length all →
    row ≡ get_or all i row → rows calls ≡ map called_in_row (take i all) →
    new.items ≡ called_in_row row → rows (calls ++ new ∷ []) ≡ map called_in_row (take (i + 1) all)
calls_more calls all i row new lt is before own =
    map_push (λ (r : Vec ℕ). r.items) calls new ∙ ap (λ l. l ++ new.items ∷ []) before
    ∙ ap (λ r. map called_in_row (take i all) ++ r ∷ []) (own ∙ ap called_in_row is) ∙
    sym (map_push called_in_row (take i all) (get_or all i row)) ∙ ap (map called_in_row) (sym (take_more all i row lt))
