-- Steps of loops over rows.
use Rattle.std.proofs.Common.{◌≡◌, ℕ, ◌+◌, ◌<◌, Bool, true, false, List, [], ◌∷◌, ◌++◌, length, take, slice_get, get_or, Some, None, refl}
use Rattle.std.proofs.Common.{sym, ap, ◌∙◌, subst, ⊎_elim, arith}
use Rattle.std.specs.List.{AllZip, filter_map}
use Rattle.std.proofs.lemmas.Bool.{cases_lt}
use Rattle.std.proofs.lemmas.List.{take_more}
use Rattle.std.proofs.lemmas.Option.{slice_get-get_or, slice_get_within}
use Rattle.shape_data.specs.declared.answer.Key.{Key}
use Rattle.shape_data.specs.declared.program.Program.{Program}
use Rattle.sym_parts.proofs.ShapesLemmas.StepsStacks.{within-some}
use Rattle.component_keys.specs.Components.{same_names}
use Rattle.component_keys.specs.Keys.{Component, flows_of, key_over, names_of, program_components}
use Rattle.component_keys.specs.Tests.{key_test}
use Rattle.component_keys.proofs.Apart.{names_same}
use Rattle.component_keys.proofs.Basics.{some_same}
use Rattle.component_keys.proofs.Whole.{same_answers}
use Rattle.composed_keys.specs.declared.rows.Component.{Component as ComponentRow}
use Rattle.composed_keys.specs.Rows.{component_value}
use Rattle.summary_book.specs.declared.rows.Parts.{Parts}
use Rattle.summary_book.specs.Aims.{component_with, has_name}
use Rattle.summary_book.specs.Rows.{AreParts, IsComposed, is_fit, place_named}
use Rattle.summary_book.proofs.Components.{components_length, part_of_row}
use Rattle.summary_book.proofs.Standings.{own_place}
use Rattle.summary_book.proofs.Lists.{position_at, position_none, zipped_at_end}

pub zipped_more : {X Y : Type 0} (R : X → Y → Type 0) (xs : List X) (ys : List Y) (i : ℕ) (d : X) (y : Y) → i < length xs →
    AllZip R (take i xs) ys → R (get_or xs i d) y → AllZip R (take (i + 1) xs) (ys ++ y ∷ [])
zipped_more R xs ys i d y lt before r =
    subst (λ l. AllZip R l (ys ++ y ∷ [])) (sym (take_more xs i d lt)) (zipped_at_end R (take i xs) ys (get_or xs i d) y before r)

-- ---- components row by row

module _ (parts : Parts) (are : AreParts parts) where
  abbrev program : Program
  program = parts.program.value

  abbrev all : List Component
  all = program_components program

  -- ---- the component of some members

  module _ (names : List (List ℕ)) where
    abbrev pub NoneNamed : ℕ → Type 0
    NoneNamed count = (k : ℕ) (part : Component) → k < count → slice_get all k ≡ Some part → names_of part.flows ≡ names → ⊥

    pub named_here : (place : ℕ) (row : ComponentRow) → slice_get parts.components.items place ≡ Some row →
        names_of (component_value (flows_of program) row).flows ≡ names → place_named all names ≡ Some place
    named_here place row at same =
        own_place program place (component_value (flows_of program) row) names (part_of_row parts are place row at) same

    pub none_named_more : (place : ℕ) (row : ComponentRow) → slice_get parts.components.items place ≡ Some row → NoneNamed place →
        (names_of (component_value (flows_of program) row).flows ≡ names → ⊥) → NoneNamed (place + 1)
    none_named_more place row at before other k part lt there same =
        ⊎_elim (λ less. before k part less there same)
        (λ le.
        let here : k ≡ place = omega (arith, lt, le) in
        let it : part ≡ component_value (flows_of program) row =
        some_same (sym there ∙ ap (slice_get all) here ∙ part_of_row parts are place row at) in
        other (sym (ap (λ (p : Component). names_of p.flows) it) ∙ same)) (cases_lt k place)

    pub none_named : NoneNamed (length parts.components.items) → place_named all names ≡ None
    none_named none =
        position_none (λ (part : Component). same_names (names_of part.flows) names) all
        (λ k part at. by_test k part at (same_names (names_of part.flows) names) refl)
      where
        by_test : (k : ℕ) (part : Component) → slice_get all k ≡ Some part → (b : Bool) → same_names (names_of part.flows) names ≡ b →
            b ≡ false
        by_test k part at false e = refl
        by_test k part at true e =
            let lt : k < length all = slice_get_within all k part at in
            let same = components_length parts are in
            absurd (none k part (omega (arith, lt, same)) at ((names_same (names_of part.flows) names).0 e))

  -- ---- the component with a procedure of a name

  module _ (name : List ℕ) where
    abbrev pub NoneHas : ℕ → Type 0
    NoneHas count = (k : ℕ) (part : Component) → k < count → slice_get all k ≡ Some part → has_name name part.flows ≡ false

    pub has_here : (place : ℕ) (row : ComponentRow) → slice_get parts.components.items place ≡ Some row → NoneHas place →
        has_name name (component_value (flows_of program) row).flows ≡ true →
        component_with program name ≡ Some place
    has_here place row at before has =
        position_at (λ (part : Component). has_name name part.flows) all place (component_value (flows_of program) row)
        (part_of_row parts are place row at) has (λ k part lt there. before k part lt there)

    pub none_has_more : (place : ℕ) (row : ComponentRow) → slice_get parts.components.items place ≡ Some row → NoneHas place →
        has_name name (component_value (flows_of program) row).flows ≡ false → NoneHas (place + 1)
    none_has_more place row at before other k part lt there =
        ⊎_elim (λ less. before k part less there)
        (λ le.
        let here : k ≡ place = omega (arith, lt, le) in
        let it : part ≡ component_value (flows_of program) row =
        some_same (sym there ∙ ap (slice_get all) here ∙ part_of_row parts are place row at) in
        ap (λ (p : Component). has_name name p.flows) it ∙ other) (cases_lt k place)

    pub none_has : NoneHas (length parts.components.items) → component_with program name ≡ None
    none_has none =
        position_none (λ (part : Component). has_name name part.flows) all
        (λ k part at. none k part
        (let lt = slice_get_within all k part at in let same = components_length parts are in omega (arith, lt, same)) at)

  -- ---- a key at a place

  pub fit_there : (place : ℕ) (row : ComponentRow) (key : Key) (b : Bool) → slice_get parts.components.items place ≡ Some row →
      (b ≡ true → key ≡ key_over program.structs (filter_map (slice_get (flows_of program)) row.members.items) key.callees) →
      (key ≡ key_over program.structs (filter_map (slice_get (flows_of program)) row.members.items) key.callees → b ≡ true) →
      b ≡ is_fit program (slice_get all place) key
  fit_there place row key b at there back =
      let part : Component = component_value (flows_of program) row in
      same_answers b (key_test.0 key (key_over program.structs part.flows key.callees))
      (λ t. (key_test.1 key (key_over program.structs part.flows key.callees)).1 (there t))
      (λ t. back ((key_test.1 key (key_over program.structs part.flows key.callees)).0 t))
      ∙ ap (λ o. is_fit program o key) (sym (part_of_row parts are place row at))

  -- of a key that is composed over the structures, by its procedures
  pub fit_again : (place : ℕ) (row : ComponentRow) (key : Key) (b : Bool) → slice_get parts.components.items place ≡ Some row →
      IsComposed program.structs key →
      (b ≡ true → key.procs ≡ filter_map (slice_get (flows_of program)) row.members.items) →
      (key.procs ≡ filter_map (slice_get (flows_of program)) row.members.items → b ≡ true) →
      b ≡ is_fit program (slice_get all place) key
  fit_again place row key b at composed there back =
      fit_there place row key b at (λ t. composed ∙ ap (λ flows. key_over program.structs flows key.callees) (there t))
      (λ e. back (ap (λ (k : Key). k.procs) e))

-- the row at a place, as a loop or an index gives it
pub row_at : {X : Type 0} (xs ys : List X) (i : ℕ) (x : X) → xs ≡ ys → i < length xs → x ≡ get_or xs i x → slice_get ys i ≡ Some x
row_at xs ys i x e lt is = ap (λ l. slice_get l i) (sym e) ∙ slice_get-get_or xs i x lt ∙ ap (λ y. Some y) (sym is)

pub there_row : (items : List ComponentRow) (place : ℕ) → place < length items → (row : ComponentRow) × (slice_get items place ≡ Some row)
there_row items place lt = within-some items place lt
