-- No two components of a program have the same members.
use Rattle.std.proofs.Common.{◌≡◌, ℕ, zero, suc, true, false, not, List, [], ◌∷◌, ◌++◌, length, slice_get, Some, None, Option, refl, sym}
use Rattle.std.proofs.Common.{ap, ◌∙◌, ⊎_elim, filter_map, find, option_map}
use Rattle.std.specs.List.{list_any, cons_option}
use Rattle.shape_data.specs.Exact.{IsExactTest, row_same, number_same}
use Rattle.shape_data.specs.declared.program.Flow.{Flow}
use Rattle.shape_data.specs.declared.program.Program.{Program}
use Rattle.component_keys.specs.Components.{same_names, names_at, is_next, with_next, listed_after, components, classes, by_name}
use Rattle.component_keys.specs.Keys.{Component, component_of, program_components, flows_of, names_of, calls_in}
use Rattle.component_keys.proofs.Basics.{both_true, not_true, not_none, mapped_some, at_push, at_map, none_passes, found}

pub names_same : IsExactTest same_names
names_same = row_same (row_same number_same)

-- classes of the same members stand at one place
abbrev pub AreApart : List (List ℕ) → List (List ℕ) → Type 0
AreApart names listed = (i j : ℕ) (c d : List ℕ) → slice_get listed i ≡ Some c → slice_get listed j ≡ Some d →
    names_at names c ≡ names_at names d → i ≡ j

pub AreApart-push : (names listed : List (List ℕ)) (class : List ℕ) →
    list_any (λ other. same_names (names_at names other) (names_at names class)) listed ≡ false →
    AreApart names listed → AreApart names (listed ++ class ∷ [])
AreApart-push names listed class new apart i j c d at_i at_j same =
    ⊎_elim
    (λ old. ⊎_elim (λ old_too. apart i j c d old old_too same) (λ end. absurd (differs i c old (same ∙ ap (names_at names) end.1)))
    (at_push listed class j d at_j))
    (λ last. ⊎_elim (λ old. absurd (differs j d old (sym same ∙ ap (names_at names) last.1))) (λ end. last.0 ∙ sym end.0)
    (at_push listed class j d at_j))
    (at_push listed class i c at_i)
  where
    differs : (k : ℕ) (e : List ℕ) → slice_get listed k ≡ Some e → names_at names e ≡ names_at names class → ⊥
    differs k e at f =
        let no : same_names (names_at names e) (names_at names class) ≡ false =
        none_passes (λ other. same_names (names_at names other) (names_at names class)) listed k e new at in
        let yes : same_names (names_at names e) (names_at names class) ≡ true =
        (names_same (names_at names e) (names_at names class)).1 f in
        cc

pub AreApart-listed : (turns : ℕ) (names calls all listed : List (List ℕ)) → AreApart names listed →
    AreApart names (listed_after turns names calls all listed)
AreApart-listed zero names calls all listed apart = apart
AreApart-listed (suc turns) names calls all listed apart =
    by_found (find (is_next names calls listed) all) refl (AreApart-listed turns names calls all)
  where
    by_found : (o : Option (List ℕ)) → find (is_next names calls listed) all ≡ o →
        ((more : List (List ℕ)) → AreApart names more → AreApart names (listed_after turns names calls all more)) →
        AreApart names (with_next (listed_after turns names calls all) listed o)
    by_found None e again = apart
    by_found (Some class) e again =
        again (listed ++ class ∷ []) (AreApart-push names listed class
        (not_true _ (both_true (not (list_any (λ other. same_names (names_at names other) (names_at names class)) listed)) _
        (found (is_next names calls listed) all class e).0).0) apart)

pub components_apart : (names calls : List (List ℕ)) → AreApart names (components names calls)
unfolding components
components_apart names calls =
    AreApart-listed (length names) names calls (classes calls (by_name names (length names))) [] (λ i j c d at_i at_j same. not_none at_i)

-- the names of a class's procedures
pub names_of_class : (flows : List Flow) (class : List ℕ) → names_of (filter_map (slice_get flows) class) ≡ names_at (names_of flows) class
names_of_class flows [] = refl
names_of_class flows (first ∷ others) =
    rw (at_map (λ flow. flow.name) flows first) (by_flow (slice_get flows first) (names_of_class flows others))
  where
    by_flow : (o : Option Flow) → names_of (filter_map (slice_get flows) others) ≡ names_at (names_of flows) others →
        names_of (cons_option o (filter_map (slice_get flows) others))
        ≡ cons_option (option_map (λ flow. flow.name) o) (names_at (names_of flows) others)
    by_flow None e = e
    by_flow (Some flow) e = ap (λ names. flow.name ∷ names) e

-- parts of the same members stand at one place
pub components_differ : (program : Program) (i j : ℕ) (p q : Component) → slice_get (program_components program) i ≡ Some p →
    slice_get (program_components program) j ≡ Some q →
    names_of p.flows ≡ names_of q.flows → i ≡ j
unfolding program_components
components_differ program i j p q at_i at_j same =
    let flows : List Flow = flows_of program in
    let calls : List (List ℕ) = calls_in flows in
    let all : List (List ℕ) = components (names_of flows) calls in
    let one = mapped_some (component_of flows calls all) (slice_get all i) p (sym (at_map (component_of flows calls all) all i) ∙ at_i) in
    let other = mapped_some (component_of flows calls all) (slice_get all j) q (sym (at_map (component_of flows calls all) all j) ∙ at_j) in
    components_apart (names_of flows) calls i j one.0 other.0 one.1 other.1
    (sym (names_of_class flows one.0) ∙ ap (λ part. names_of part.flows) (sym one.2) ∙ same ∙ ap (λ part. names_of part.flows) other.2
    ∙ names_of_class flows other.0)
