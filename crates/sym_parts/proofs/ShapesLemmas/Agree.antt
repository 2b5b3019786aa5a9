-- What a symbolic heap means depends only on the values of the variables that occur in it.
use Rattle.std.specs.Prelude.{◌≡◌, ℕ, ℤ, Bool, true, List, [], ◌∷◌, map}
use Rattle.std.specs.List.{list_any}
use Rattle.std.proofs.Common.{refl, sym, ap₂, ◌∙◌}
use Rattle.std.proofs.lemmas.Bool.{or_left, or_right}
use Rattle.std.proofs.lemmas.Bool.Decides.{Decides-eqb}
use Rattle.shape_data.specs.declared.machine.Cell.{Cell}
use Rattle.shape_data.specs.declared.program.StructDef.{StructDef}
use Rattle.shape_data.specs.declared.symbolic.Atom.{Atom}
use Rattle.shape_data.specs.declared.symbolic.Atom.TheVariants.{Points, Seg, Junk}
use Rattle.shape_data.specs.declared.symbolic.Exp.{Exp}
use Rattle.shape_data.specs.declared.symbolic.Exp.TheVariants.{Var, Const}
use Rattle.shape_data.specs.declared.symbolic.Fact.{Fact}
use Rattle.shape_data.specs.declared.symbolic.Fact.TheVariants.{Eq, Ne}
use Rattle.shape_data.specs.declared.symbolic.SymHeap.{SymHeap}
use Rattle.shape_data.specs.Meaning.{value, IsTrueFact, AreTrueFacts, HoldsAtom, HoldsAtoms, Holds}
use Rattle.sym_parts.specs.Shapes.Symbolic.{is_variable, occurs_in_atom, occurs_in_fact, occurs_in}

-- two assignments agree on the variables that pass a test
abbrev pub AgreeWhere : (ℕ → Bool) → (ℕ → ℤ) → (ℕ → ℤ) → Type 0
AgreeWhere occurs t u = (x : ℕ) → occurs x ≡ true → t x ≡ u x

module _ (t u : ℕ → ℤ) where
  pub value-agree : (e : Exp) → AgreeWhere (λ x. is_variable x e) t u → value t e ≡ value u e
  value-agree (Var y) agree = agree y ((Decides-eqb y y).1 refl)
  value-agree (Const n) agree = refl

  pub values-agree : (es : List Exp) → AgreeWhere (λ x. list_any (is_variable x) es) t u → map (value t) es ≡ map (value u) es
  values-agree [] agree = refl
  values-agree (e ∷ es) agree =
      ap₂ (λ v vs. v ∷ vs) (value-agree e (λ x h. agree x (or_left _ _ h)))
      (values-agree es (λ x h. agree x (or_right (is_variable x e) _ h)))

  pub IsTrueFact-agree : (fact : Fact) → AgreeWhere (λ x. occurs_in_fact x fact) t u → IsTrueFact t fact → IsTrueFact u fact
  IsTrueFact-agree (Eq left right) agree h =
      sym (value-agree left (λ x h. agree x (or_left _ _ h))) ∙ h ∙ value-agree right (λ x h. agree x (or_right (is_variable x left) _ h))
  IsTrueFact-agree (Ne left right) agree h =
      λ e. h (value-agree left (λ x h. agree x (or_left _ _ h)) ∙ e
      ∙ sym (value-agree right (λ x h. agree x (or_right (is_variable x left) _ h))))

  pub AreTrueFacts-agree : (facts : List Fact) → AgreeWhere (λ x. list_any (occurs_in_fact x) facts) t u → AreTrueFacts t facts →
      AreTrueFacts u facts
  AreTrueFacts-agree [] agree h = tt
  AreTrueFacts-agree (fact ∷ facts) agree h = (
    IsTrueFact-agree fact (λ x h. agree x (or_left _ _ h)) h.0,
    AreTrueFacts-agree facts
        (λ x h. agree x (or_right (occurs_in_fact x fact) _ h)) h.1,
  )

  pub HoldsAtom-agree : (structs : List StructDef) (atom : Atom) (own : List Cell) → AgreeWhere (λ x. occurs_in_atom x atom) t u →
      HoldsAtom structs t atom own → HoldsAtom structs u atom own
  HoldsAtom-agree structs (Points at kind fields) own agree h =
      let same_at : value t at ≡ value u at = value-agree at (λ x h. agree x (or_left _ _ h)) in
      let same_fields : map (value t) fields ≡ map (value u) fields =
      values-agree fields (λ x h. agree x (or_right (is_variable x at) _ h)) in
      rw (same_fields, same_at) at h
  HoldsAtom-agree structs (Seg kind link from to) own agree h =
      let same_from : value t from ≡ value u from = value-agree from (λ x h. agree x (or_left _ _ h)) in
      let same_to : value t to ≡ value u to = value-agree to (λ x h. agree x (or_right (is_variable x from) _ h)) in
      rw (same_from, same_to) at h
  HoldsAtom-agree structs Junk own agree h = tt

  pub HoldsAtoms-agree : (structs : List StructDef) (atoms : List Atom) (heap : List Cell) →
      AgreeWhere (λ x. list_any (occurs_in_atom x) atoms) t u →
      HoldsAtoms structs t atoms heap → HoldsAtoms structs u atoms heap
  HoldsAtoms-agree structs [] heap agree h = h
  HoldsAtoms-agree structs (atom ∷ atoms) heap agree h = (
    h.0,
    h.1,
    h.2,
    HoldsAtom-agree structs atom h.0 (λ x h. agree x (or_left _ _ h)) h.3,
    HoldsAtoms-agree structs atoms h.1
        (λ x h. agree x (or_right (occurs_in_atom x atom) _ h)) h.4,
  )

  pub Holds-agree : (structs : List StructDef) (heap : List Cell) (shape : SymHeap) → AgreeWhere (λ x. occurs_in x shape) t u →
      Holds structs t heap shape → Holds structs u heap shape
  Holds-agree structs heap shape agree h = record {
    facts = AreTrueFacts-agree shape.pure (λ x h. agree x (or_left _ _ h)) h.facts;
    atoms = HoldsAtoms-agree structs shape.spatial heap (λ x h. agree x (or_right (list_any (occurs_in_fact x) shape.pure) _ h)) h.atoms;
  }
