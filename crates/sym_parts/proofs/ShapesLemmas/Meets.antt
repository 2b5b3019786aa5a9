-- What meets a symbolic heap: the empty one, one beside another, and the logical variables alone decide.
use Rattle.std.specs.Prelude.{◌≡◌, ◌↔◌, ℕ, ◌<◌, ltb, ℤ, Bool, true, false, if◌then◌else◌, List, [], ◌∷◌, ◌++◌}
use Rattle.std.proofs.Common.{refl, sym, ◌∙◌}
use Rattle.std.proofs.lemmas.Bool.{ltb-true, ltb-false}
use Rattle.shape_data.specs.declared.machine.Cell.{Cell}
use Rattle.shape_data.specs.declared.program.StructDef.{StructDef}
use Rattle.shape_data.specs.declared.symbolic.Fact.{Fact}
use Rattle.shape_data.specs.declared.symbolic.SymHeap.{SymHeap}
use Rattle.shape_data.specs.Heap.{IsHeap, IsSum}
use Rattle.shape_data.specs.Meaning.{AreTrueFacts, Holds, AgreesOnLogical, Meets}
use Rattle.sym_parts.specs.Shapes.Symbolic.{emp, beside, occurs_in, ShareNoExistential}
use Rattle.sym_parts.proofs.ShapesLemmas.Agree.{Holds-agree}
use Rattle.sym_parts.proofs.ShapesLemmas.Atoms.{HoldsAtoms-is_heap, HoldsAtoms-append, HoldsAtoms-split}

pub AreTrueFacts-append : (s : ℕ → ℤ) (left right : List Fact) → AreTrueFacts s left → AreTrueFacts s right → AreTrueFacts s (left ++ right)
AreTrueFacts-append s [] right one other = other
AreTrueFacts-append s (fact ∷ facts) right one other = (one.0, AreTrueFacts-append s facts right one.1 other)

pub AreTrueFacts-split : (s : ℕ → ℤ) (left right : List Fact) → AreTrueFacts s (left ++ right) → AreTrueFacts s left × AreTrueFacts s right
AreTrueFacts-split s [] right all = (tt, all)
AreTrueFacts-split s (fact ∷ facts) right all = let others = AreTrueFacts-split s facts right all.1 in ((all.0, others.0), others.1)

pub Holds-beside : (structs : List StructDef) (s : ℕ → ℤ) (a b : SymHeap) {whole one other : List Cell} → IsSum structs whole one other →
    Holds structs s one a → Holds structs s other b → Holds structs s whole (beside a b)
Holds-beside structs s a b sum on_a on_b = record {
  facts = AreTrueFacts-append s a.pure b.pure on_a.facts on_b.facts;
  atoms = HoldsAtoms-append structs s a.spatial b.spatial sum on_a.atoms on_b.atoms;
}

pub Holds-split : (structs : List StructDef) (s : ℕ → ℤ) (a b : SymHeap) (whole : List Cell) → Holds structs s whole (beside a b) →
    (one : List Cell) × (other : List Cell) × IsSum structs whole one other × Holds structs s one a × Holds structs s other b
Holds-split structs s a b whole holds =
    let facts = AreTrueFacts-split s a.pure b.pure holds.facts in
    let parts = HoldsAtoms-split structs s a.spatial b.spatial holds.atoms in
    (parts.0, parts.1, parts.2, record { facts = facts.0; atoms = parts.3 }, record { facts = facts.1; atoms = parts.4 })

pub Meets-is_heap : (structs : List StructDef) (s : ℕ → ℤ) (heap : List Cell) (shape : SymHeap) → Meets structs s heap shape →
    IsHeap structs heap
Meets-is_heap structs s heap shape meets = HoldsAtoms-is_heap structs meets.0 shape.spatial meets.2.atoms

pub Meets-emp : (structs : List StructDef) (s : ℕ → ℤ) (heap : List Cell) → Meets structs s heap emp ↔ (heap ≡ [])
Meets-emp structs s heap = (λ meets. meets.2.atoms, λ empty. (s, λ x below. refl, record { facts = tt; atoms = empty }))

pub Meets-agree : (structs : List StructDef) (s u : ℕ → ℤ) (heap : List Cell) (shape : SymHeap) → AgreesOnLogical s u →
    Meets structs s heap shape → Meets structs u heap shape
Meets-agree structs s u heap shape agrees meets = (meets.0, λ x below. meets.1 x below ∙ sym (agrees x below), meets.2)

module _ (a b : SymHeap) (apart : ShareNoExistential a b) (s t u : ℕ → ℤ) (t_agrees : AgreesOnLogical s t)
    (u_agrees : AgreesOnLogical s u) where
  -- one assignment for two symbolic heaps: that of the first for the variables that occur there
  abbrev merged : ℕ → ℤ
  merged x = if occurs_in x a then t x else u x

  either : (test : Bool) (m n z : ℤ) → m ≡ z → n ≡ z → (if test then m else n) ≡ z
  either true m n z is other = is
  either false m n z is other = other

  merged-agrees : AgreesOnLogical s merged
  merged-agrees x below = either (occurs_in x a) (t x) (u x) (s x) (t_agrees x below) (u_agrees x below)

  first : (test : Bool) (m n : ℤ) → test ≡ true → m ≡ (if test then m else n)
  first true m n h = refl
  first false m n h = cc

  on_a : (x : ℕ) → occurs_in x a ≡ true → t x ≡ merged x
  on_a x h = first (occurs_in x a) (t x) (u x) h

  same_value : (x : ℕ) → occurs_in x a ≡ true → occurs_in x b ≡ true → t x ≡ u x
  same_value x h k = by_test (ltb x 65536) refl
    where
      by_test : (test : Bool) → ltb x 65536 ≡ test → t x ≡ u x
      by_test true e = let below : x < 65536 = ltb-true x 65536 e in t_agrees x below ∙ sym (u_agrees x below)
      by_test false e = let none : occurs_in x b ≡ false = apart x (ltb-false x 65536 e) h in cc

  second : (test : Bool) (m n : ℤ) → (test ≡ true → m ≡ n) → n ≡ (if test then m else n)
  second true m n same = sym (same refl)
  second false m n same = refl

  on_b : (x : ℕ) → occurs_in x b ≡ true → u x ≡ merged x
  on_b x k = second (occurs_in x a) (t x) (u x) (λ h. same_value x h k)

pub Meets-beside : (structs : List StructDef) (s : ℕ → ℤ) (a b : SymHeap) (whole one other : List Cell) → ShareNoExistential a b →
    IsSum structs whole one other →
    Meets structs s one a → Meets structs s other b → Meets structs s whole (beside a b)
Meets-beside structs s a b whole one other apart sum on_a' on_b' =
    let t = on_a'.0 in
    let u = on_b'.0 in
    let both = merged a b apart s t u on_a'.1 on_b'.1 in
    let at_a : Holds structs both one a = Holds-agree t both structs one a (on_a a b apart s t u on_a'.1 on_b'.1) on_a'.2 in
    let at_b : Holds structs both other b = Holds-agree u both structs other b (on_b a b apart s t u on_a'.1 on_b'.1) on_b'.2 in
    (both, merged-agrees a b apart s t u on_a'.1 on_b'.1, Holds-beside structs both a b sum at_a at_b)

pub Meets-split : (structs : List StructDef) (s : ℕ → ℤ) (a b : SymHeap) (whole : List Cell) → Meets structs s whole (beside a b) →
    (one : List Cell) × (other : List Cell) × IsSum structs whole one other × Meets structs s one a × Meets structs s other b
Meets-split structs s a b whole meets =
    let parts = Holds-split structs meets.0 a b whole meets.2 in
    (parts.0, parts.1, parts.2, (meets.0, meets.1, parts.3), (meets.0, meets.1, parts.4))
