-- The forms of a pair in strict execution: whatever meets it meets its forms, and nothing meets one that is left out.
use Rattle.std.specs.Prelude.{◌≡◌, ℕ, ℤ, List, option_map}
use Rattle.std.specs.declared.option.Option.TheVariants.{Some}
use Rattle.std.proofs.Common.{refl}
use Rattle.shape_data.specs.declared.machine.Cell.{Cell}
use Rattle.shape_data.specs.declared.program.StructDef.{StructDef}
use Rattle.shape_data.specs.declared.symbolic.Fact.{Fact}
use Rattle.shape_data.specs.Meaning.{IsTrueFact, MeetsState}
use Rattle.sym_parts.proofs.ShapesLemmas.Meets.{AreTrueFacts-append}
use Rattle.sym_canon.specs.declared.parts.Pair.{Pair}
use Rattle.sym_canon.specs.Canonical.{canon_state}
use Rattle.sym_canon.proofs.CanonLaws.{canon_state_keeps_meaning}
use Rattle.sym_pure.specs.declared.parts.Normal.{Normal}
use Rattle.sym_pure.specs.declared.parts.Normal.TheVariants.{Is, Contradiction}
use Rattle.sym_pure.specs.Laws.{MeansTheSame}
use Rattle.sym_pure.specs.Normal.{normal}
use Rattle.sym_pure.proofs.MeaningLaws.{normal_keeps_meaning}
use Rattle.exec_laws.specs.declared.parts.Mode.TheVariants.{Strict}
use Rattle.sym_forms.specs.Forms.{of_form}
use Rattle.exec_laws.specs.Pairs.{canonical, formed, unless_left_out, with_state_fact}

module _ (structs : List StructDef) (s : ℕ → ℤ) (locals : List ℤ) (heap : List Cell) where
  -- the state is met
  abbrev pub IsMet : Pair → Type 0
  IsMet pair = MeetsState structs s locals heap pair.state

  -- with one more fact that is true
  pub fact-met : (fact : Fact) (pair : Pair) (meets : IsMet pair) → IsTrueFact meets.0 fact → IsMet (with_state_fact fact pair)
  fact-met fact pair meets is = (
    meets.0,
    meets.1,
    meets.2,
    record { facts = AreTrueFacts-append meets.0 pair.state.heap.pure _ meets.3.facts (is, tt); atoms = meets.3.atoms },
  )

  -- what is shown of the form is shown
  pub form-goes : {A : Type 0} (X : List A → Type 0) (go_on : Pair → List A) (params : ℕ) (pair : Pair) → IsMet pair →
      ((form : Pair) → IsMet form → X (go_on form)) →
      X (unless_left_out go_on (formed Strict params pair))
  form-goes X go_on params pair meets each = by_form (normal pair.state) (normal_keeps_meaning pair.state)
    where
      by_form : (form : Normal) → MeansTheSame pair.state form →
          X (unless_left_out go_on (of_form (λ one. record pair { state = one }) form))
      by_form (Is form) means = each (record pair { state = form }) ((means structs s locals heap).0 meets)
      by_form Contradiction means = absurd (means structs s locals heap meets)

  -- both forms, as a pair that is there
  pub forms-met : (params : ℕ) (pair : Pair) → IsMet pair →
      (form : Pair) × (option_map (canonical Strict params) (formed Strict params pair) ≡ Some form) × IsMet form
  forms-met params pair meets = by_form (normal pair.state) (normal_keeps_meaning pair.state)
    where
      by_form : (form : Normal) → MeansTheSame pair.state form →
          (last : Pair) × (option_map (canonical Strict params) (of_form (λ one. record pair { state = one }) form) ≡ Some last)
          × IsMet last
      by_form (Is form) means = (
        record { missing = pair.missing; state = canon_state form params },
        refl,
        (canon_state_keeps_meaning form params structs s locals heap).0 ((means structs s locals heap).0 meets),
      )
      by_form Contradiction means = absurd (means structs s locals heap meets)
