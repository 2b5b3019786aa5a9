-- Constants that are forgotten: the new variables get the values that stood in their places.
use Rattle.std.specs.Prelude.{◌≡◌, ℕ, suc, ◌+◌, ◌<◌, ◌≤◌, ℤ, Bool, true, false, ◌==◌, ◌&&◌, if◌then◌else◌, List, [], ◌∷◌, ◌++◌, length, map}
use Rattle.std.specs.Prelude.{All}
use Rattle.std.specs.declared.option.Option.{Option}
use Rattle.std.specs.declared.option.Option.TheVariants.{None, Some}
use Rattle.std.proofs.Common.{refl, sym, ap, ap₂, subst, ◌∙◌, arith}
use Rattle.std.proofs.lemmas.Bool.{eq-eqb, ne_eqb}
use Rattle.std.proofs.lemmas.List.Elements.{All-head, All-tail, All-weaker}
use Rattle.shape_data.specs.declared.machine.Cell.{Cell}
use Rattle.shape_data.specs.declared.program.Field.{Field}
use Rattle.shape_data.specs.declared.program.HeadMark.{HeadMark}
use Rattle.shape_data.specs.declared.program.StructDef.{StructDef}
use Rattle.shape_data.specs.declared.program.Ty.{Ty}
use Rattle.shape_data.specs.declared.symbolic.Atom.{Atom}
use Rattle.shape_data.specs.declared.symbolic.Atom.TheVariants.{Points, Seg, Junk}
use Rattle.shape_data.specs.declared.symbolic.Exp.{Exp}
use Rattle.shape_data.specs.declared.symbolic.Exp.TheVariants.{Var, Const}
use Rattle.shape_data.specs.declared.symbolic.Fact.{Fact}
use Rattle.shape_data.specs.declared.symbolic.Fact.TheVariants.{Eq, Ne}
use Rattle.shape_data.specs.declared.symbolic.SymState.{SymState}
use Rattle.shape_data.specs.Heap.{struct_named}
use Rattle.shape_data.specs.Meaning.{value, AreTrueFacts, HoldsAtom, HoldsAtoms, IsTrueFact}
use Rattle.sym_parts.specs.Laws.Each.{EachInAtom, EachInFact, EachInState}
use Rattle.abstraction_laws.specs.Forgetting.{above, first_new, forget_atoms, forget_cell, forget_fields, forget_slots, forget_value}
use Rattle.abstraction_laws.specs.Forgetting.{is_constant, is_forgotten, is_int}
use Rattle.abstraction_laws.specs.Laws.{ForgetWeakens}
use Rattle.abstraction_laws.specs.Occurrences.{exps_of_state}
use Rattle.abstraction_laws.proofs.OccurrenceLaws.{IsUnder, above-each, above-first, to_state}

-- ---- values for variables one after another

-- the variables from one on get these values
abbrev pub counted : ℕ → List ℤ → (ℕ → ℤ) → ℕ → ℤ
counted next [] t x = t x
counted next (v ∷ vs) t x = if x == next then v else counted (next + 1) vs t x

pub counted-below : (next : ℕ) (vs : List ℤ) (t : ℕ → ℤ) (x : ℕ) → x < next → counted next vs t x ≡ t x
counted-below next [] t x low = refl
counted-below next (v ∷ vs) t x low =
    let apart : (x == next) ≡ false = ne_eqb x next (λ same. omega arith) in rw apart (counted-below (next + 1) vs t x (omega arith))

-- the variables from one on have these values
abbrev pub HaveValues : (ℕ → ℤ) → ℕ → List ℤ → Type 0
HaveValues u next [] = Unit {0}
HaveValues u next (v ∷ vs) = (u next ≡ v) × HaveValues u (next + 1) vs

have-alike : (u w : ℕ → ℤ) (next : ℕ) (vs : List ℤ) → ((x : ℕ) → next ≤ x → w x ≡ u x) → HaveValues u next vs → HaveValues w next vs
have-alike u w next [] same h = tt
have-alike u w next (v ∷ vs) same h = (same next (omega arith) ∙ h.0, have-alike u w (next + 1) vs (λ x low. same x (omega arith)) h.1)

pub have-counted : (next : ℕ) (vs : List ℤ) (t : ℕ → ℤ) → HaveValues (counted next vs t) next vs
have-counted next [] t = tt
have-counted next (v ∷ vs) t = (
  rw (eq-eqb next next refl) refl,
  have-alike (counted (next + 1) vs t) (counted next (v ∷ vs) t) (next + 1) vs
      (λ x low. let apart : (x == next) ≡ false = ne_eqb x next (λ same. omega arith) in rw apart refl) (have-counted (next + 1) vs t),
)

pub have-split : (u : ℕ → ℤ) (next : ℕ) (vs ws : List ℤ) → HaveValues u next (vs ++ ws) →
    HaveValues u next vs × HaveValues u (next + length vs) ws
have-split u next [] ws h = let same : next ≡ next + length {A = ℤ} [] = omega arith in (tt, subst (λ n. HaveValues u n ws) same h)
have-split u next (v ∷ vs) ws h =
    let later = have-split u (next + 1) vs ws h.1 in
    let same : next + 1 + length vs ≡ next + length (v ∷ vs) = omega arith in
    ((h.0, later.0), subst (λ n. HaveValues u n ws) same later.1)

-- ---- the places of a state

-- the values of the fields of the cells, one cell after another
abbrev pub field_values : (ℕ → ℤ) → List Atom → List ℤ
field_values t [] = []
field_values t (Points at kind fields ∷ atoms) = map (value t) fields ++ field_values t atoms
field_values t (Seg kind link from to ∷ atoms) = field_values t atoms
field_values t (Junk ∷ atoms) = field_values t atoms

length-values : (t : ℕ → ℤ) (es : List Exp) → length (map (value t) es) ≡ length es
length-values t [] = refl
length-values t (e ∷ es) = ap suc (length-values t es)

module _ (t u : ℕ → ℤ) where
  -- an expression has the same value under both
  abbrev pub IsSame : Exp → Type 0
  IsSame e = value u e ≡ value t e

  same-values : (es : List Exp) → All IsSame es → map (value u) es ≡ map (value t) es
  same-values [] each = refl
  same-values (e ∷ es) each = ap₂ (λ v vs. v ∷ vs) (All-head IsSame e es each) (same-values es (All-tail IsSame e es each))

  -- a new variable in the place of an expression has its value
  or-same : (b : Bool) (next : ℕ) (e : Exp) → IsSame e → u next ≡ value t e → value u (if b then Var next else e) ≡ value t e
  or-same true next e same is = is
  or-same false next e same is = same

  pub slots-same : (mark : HeadMark) (next slot : ℕ) (es : List Exp) → All IsSame es → HaveValues u next (map (value t) es) →
      map (value u) (forget_slots mark next slot es) ≡ map (value t) es
  slots-same mark next slot [] each have = refl
  slots-same mark next slot (e ∷ es) each have =
      ap₂ (λ v vs. v ∷ vs) (or-same (is_forgotten mark slot e) next e (All-head IsSame e es each) have.0)
      (slots-same mark (next + 1) (slot + 1) es (All-tail IsSame e es each) have.1)

  pub value-same : (next : ℕ) (ty : Ty) (e : Exp) → IsSame e → u next ≡ value t e → value u (forget_value next ty e) ≡ value t e
  value-same next ty e same is = or-same (is_int ty && is_constant e) next e same is

  fields-same : (next : ℕ) (fields : List Field) (es : List Exp) → All IsSame es → HaveValues u next (map (value t) es) →
      map (value u) (forget_fields next fields es) ≡ map (value t) es
  fields-same next fields [] each have = refl
  fields-same next [] (e ∷ es) each have = same-values (e ∷ es) each
  fields-same next (field ∷ fields) (e ∷ es) each have =
      ap₂ (λ v vs. v ∷ vs) (value-same next field.ty e (All-head IsSame e es each) have.0)
      (fields-same (next + 1) fields es (All-tail IsSame e es each) have.1)

  cell-same : (next : ℕ) (o : Option StructDef) (es : List Exp) → All IsSame es → HaveValues u next (map (value t) es) →
      map (value u) (forget_cell next o es) ≡ map (value t) es
  cell-same next None es each have = same-values es each
  cell-same next (Some def) es each have = fields-same next def.fields es each have

  pub atoms-same : (structs kinds : List StructDef) (next : ℕ) (atoms : List Atom) (heap : List Cell) → All (EachInAtom IsSame) atoms →
      HaveValues u next (field_values t atoms) →
      HoldsAtoms structs t atoms heap → HoldsAtoms structs u (forget_atoms kinds next atoms) heap
  atoms-same structs kinds next [] heap each have h = h
  atoms-same structs kinds next (Points at kind fields ∷ atoms) heap each have h =
      let here : EachInAtom IsSame (Points at kind fields) = All-head (EachInAtom IsSame) (Points at kind fields) atoms each in
      let split = have-split u next (map (value t) fields) (field_values t atoms) have in
      let later : HaveValues u (next + length fields) (field_values t atoms) = rw (length-values t fields) at split.1 in
      let values : map (value u) (forget_cell next (struct_named kinds kind) fields) ≡ map (value t) fields =
      cell-same next (struct_named kinds kind) fields here.1 split.0 in
      let cell : HoldsAtom structs u (Points at kind (forget_cell next (struct_named kinds kind) fields)) h.0 = rw (values, here.0) h.3 in (
        h.0,
        h.1,
        h.2,
        cell,
        atoms-same structs kinds (next + length fields) atoms h.1
            (All-tail (EachInAtom IsSame) (Points at kind fields) atoms each) later h.4,
      )
  atoms-same structs kinds next (Seg kind link from to ∷ atoms) heap each have h =
      let here : EachInAtom IsSame (Seg kind link from to) = All-head (EachInAtom IsSame) (Seg kind link from to) atoms each in
      let segment : HoldsAtom structs u (Seg kind link from to) h.0 = rw (here.0, here.1) h.3 in
      let same : next ≡ next + 0 = omega arith in (
        h.0,
        h.1,
        h.2,
        segment,
        atoms-same structs kinds (next + 0) atoms h.1
            (All-tail (EachInAtom IsSame) (Seg kind link from to) atoms each)
            (subst (λ n. HaveValues u n (field_values t atoms)) same have) h.4,
      )
  atoms-same structs kinds next (Junk ∷ atoms) heap each have h =
      let same : next ≡ next + 0 = omega arith in (
        h.0,
        h.1,
        h.2,
        tt,
        atoms-same structs kinds (next + 0) atoms h.1 (All-tail (EachInAtom IsSame) Junk atoms each)
            (subst (λ n. HaveValues u n (field_values t atoms)) same have) h.4,
      )

  fact-same : (fact : Fact) → EachInFact IsSame fact → IsTrueFact t fact → IsTrueFact u fact
  fact-same (Eq left right) each h = each.0 ∙ h ∙ sym each.1
  fact-same (Ne left right) each h = λ e. h (sym each.0 ∙ e ∙ each.1)

  pub facts-same : (facts : List Fact) → All (EachInFact IsSame) facts → AreTrueFacts t facts → AreTrueFacts u facts
  facts-same [] each h = tt
  facts-same (fact ∷ facts) each h = (
    fact-same fact (All-head (EachInFact IsSame) fact facts each) h.0,
    facts-same facts
        (All-tail (EachInFact IsSame) fact facts each) h.1,
  )

-- ---- what holds of each expression, weakened

module _ (P Q : Exp → Type 0) (gives : (e : Exp) → P e → Q e) where
  atom-weaker : (atom : Atom) → EachInAtom P atom → EachInAtom Q atom
  atom-weaker (Points at kind fields) h = (gives at h.0, All-weaker P Q gives fields h.1)
  atom-weaker (Seg kind link from to) h = (gives from h.0, gives to h.1)
  atom-weaker Junk h = tt

  fact-weaker : (fact : Fact) → EachInFact P fact → EachInFact Q fact
  fact-weaker (Eq left right) h = (gives left h.0, gives right h.1)
  fact-weaker (Ne left right) h = (gives left h.0, gives right h.1)

  pub each-weaker : (state : SymState) → EachInState P state → EachInState Q state
  each-weaker state h = record {
    locals = All-weaker P Q gives state.locals h.locals;
    heap = record {
      facts = All-weaker (EachInFact P) (EachInFact Q) fact-weaker state.heap.pure h.heap.facts;
      atoms = All-weaker (EachInAtom P) (EachInAtom Q) atom-weaker state.heap.spatial h.heap.atoms;
    };
  }

-- ---- a state

-- values for the new variables of a state: those of its locals, then those of its cells' fields
abbrev pub new_values : (ℕ → ℤ) → SymState → ℕ → ℤ
new_values t state = counted (first_new state) (map (value t) state.locals ++ field_values t state.heap.spatial) t

-- a variable below the new ones keeps its value
pub new-below : (t : ℕ → ℤ) (state : SymState) (x : ℕ) → x < first_new state → new_values t state x ≡ t x
new-below t state x low = counted-below (first_new state) (map (value t) state.locals ++ field_values t state.heap.spatial) t x low

pub logical-low : (state : SymState) (x : ℕ) → x < 65536 → x < first_new state
logical-low state x low = let first : 65536 ≤ above 65536 (exps_of_state state) = above-first 65536 (exps_of_state state) in omega arith

under-same : (t : ℕ → ℤ) (state : SymState) (e : Exp) → IsUnder (first_new state) e → IsSame t (new_values t state) e
under-same t state (Const n) h = refl
under-same t state (Var x) h = new-below t state x h

pub each-same : (t : ℕ → ℤ) (state : SymState) → EachInState (IsSame t (new_values t state)) state
each-same t state =
    each-weaker (IsUnder (first_new state)) (IsSame t (new_values t state)) (under-same t state) state
    (to_state (IsUnder (first_new state)) state (above-each 65536 (exps_of_state state)))

pub have-new : (t : ℕ → ℤ) (state : SymState) →
    HaveValues (new_values t state) (first_new state) (map (value t) state.locals)
    × HaveValues (new_values t state) (first_new state + length state.locals) (field_values t state.heap.spatial)
have-new t state =
    let split = have-split (new_values t state) (first_new state) (map (value t) state.locals) (field_values t state.heap.spatial)
    (have-counted (first_new state) (map (value t) state.locals ++ field_values t state.heap.spatial) t) in
    (split.0, rw (length-values t state.locals) at split.1)

pub forget_weakens : ForgetWeakens
forget_weakens kinds mark state structs s locals heap m =
    let t : ℕ → ℤ = m.0 in
    let u : ℕ → ℤ = new_values t state in
    let each : EachInState (IsSame t u) state = each-same t state in
    let have = have-new t state in (
      u,
      λ x low. new-below t state x (logical-low state x low) ∙ m.1 x low,
      m.2 ∙ sym (slots-same t u mark (first_new state) 0 state.locals each.locals have.0),
      record {
        facts = facts-same t u state.heap.pure each.heap.facts m.3.facts;
        atoms =
            atoms-same t u structs kinds (first_new state + length state.locals) state.heap.spatial heap each.heap.atoms have.1 m.3.atoms;
      },
    )
