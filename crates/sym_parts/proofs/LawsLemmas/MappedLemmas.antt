-- A function on expressions under which the values under `t` are those under `u`: substitutions, renamings and bindings
-- alike. The first section asks it only of the expressions that occur.
use Rattle.std.specs.Prelude.{◌≡◌, ◌↔◌, ℕ, ℤ, List, [], ◌∷◌, map, All}
use Rattle.std.proofs.Common.{refl, ap₂}
use Rattle.std.proofs.lemmas.List.Elements.{All-head, All-tail}
use Rattle.shape_data.specs.declared.machine.Cell.{Cell}
use Rattle.shape_data.specs.declared.program.StructDef.{StructDef}
use Rattle.shape_data.specs.declared.symbolic.Atom.{Atom}
use Rattle.shape_data.specs.declared.symbolic.Atom.TheVariants.{Points, Seg, Junk}
use Rattle.shape_data.specs.declared.symbolic.Exp.{Exp}
use Rattle.shape_data.specs.declared.symbolic.Fact.{Fact}
use Rattle.shape_data.specs.declared.symbolic.Fact.TheVariants.{Eq, Ne}
use Rattle.shape_data.specs.declared.symbolic.SymHeap.{SymHeap}
use Rattle.shape_data.specs.Meaning.{value, IsTrueFact, AreTrueFacts, HoldsAtom, HoldsAtoms, Holds}
use Rattle.sym_parts.specs.Laws.Each.{EachInAtom, EachInFact, EachInHeap}
use Rattle.sym_parts.specs.Laws.Mapped.{on_atom, on_fact, on_heap, MappedHolds}
use Rattle.sym_parts.proofs.LawsLemmas.EachLemmas.{All-everywhere, each-everywhere_atom, each-everywhere_fact}

module _ (P : Exp → Type 0) (t u : ℕ → ℤ) (f : Exp → Exp) (reads : (e : Exp) → P e → value t (f e) ≡ value u e) where
  pub values-each : (es : List Exp) → All P es → map (value t) (map f es) ≡ map (value u) es
  values-each [] each = refl
  values-each (e ∷ es) each = ap₂ (λ x xs. x ∷ xs) (reads e (All-head P e es each)) (values-each es (All-tail P e es each))

  pub HoldsAtom-each_to : (structs : List StructDef) (atom : Atom) (own : List Cell) → EachInAtom P atom → HoldsAtom structs u atom own
      → HoldsAtom structs t (on_atom f atom) own
  HoldsAtom-each_to structs (Points at kind fields) own each h = rw (values-each fields each.1, reads at each.0) h
  HoldsAtom-each_to structs (Seg kind link from to) own each h = rw (reads from each.0, reads to each.1) h
  HoldsAtom-each_to structs Junk own each h = h

  pub HoldsAtom-each_from : (structs : List StructDef) (atom : Atom) (own : List Cell) → EachInAtom P atom
      → HoldsAtom structs t (on_atom f atom) own → HoldsAtom structs u atom own
  HoldsAtom-each_from structs (Points at kind fields) own each h = rw (values-each fields each.1, reads at each.0) at h
  HoldsAtom-each_from structs (Seg kind link from to) own each h = rw (reads from each.0, reads to each.1) at h
  HoldsAtom-each_from structs Junk own each h = h

  pub HoldsAtoms-each_to : (structs : List StructDef) (atoms : List Atom) (heap : List Cell) → All (EachInAtom P) atoms
      → HoldsAtoms structs u atoms heap → HoldsAtoms structs t (map (on_atom f) atoms) heap
  HoldsAtoms-each_to structs [] heap each h = h
  HoldsAtoms-each_to structs (atom ∷ atoms) heap each h = (
    h.0,
    h.1,
    h.2,
    HoldsAtom-each_to structs atom h.0 (All-head (EachInAtom P) atom atoms each) h.3,
    HoldsAtoms-each_to structs atoms h.1
        (All-tail (EachInAtom P) atom atoms each) h.4,
  )

  pub HoldsAtoms-each_from : (structs : List StructDef) (atoms : List Atom) (heap : List Cell) → All (EachInAtom P) atoms
      → HoldsAtoms structs t (map (on_atom f) atoms) heap → HoldsAtoms structs u atoms heap
  HoldsAtoms-each_from structs [] heap each h = h
  HoldsAtoms-each_from structs (atom ∷ atoms) heap each h = (
    h.0,
    h.1,
    h.2,
    HoldsAtom-each_from structs atom h.0
        (All-head (EachInAtom P) atom atoms each) h.3,
    HoldsAtoms-each_from structs atoms h.1 (All-tail (EachInAtom P) atom atoms each) h.4,
  )

  pub IsTrueFact-each_to : (fact : Fact) → EachInFact P fact → IsTrueFact u fact → IsTrueFact t (on_fact f fact)
  IsTrueFact-each_to (Eq left right) each h = rw (reads left each.0, reads right each.1) h
  IsTrueFact-each_to (Ne left right) each h = rw (reads left each.0, reads right each.1) h

  pub IsTrueFact-each_from : (fact : Fact) → EachInFact P fact → IsTrueFact t (on_fact f fact) → IsTrueFact u fact
  IsTrueFact-each_from (Eq left right) each h = rw (reads left each.0, reads right each.1) at h
  IsTrueFact-each_from (Ne left right) each h = rw (reads left each.0, reads right each.1) at h

  pub AreTrueFacts-each_to : (facts : List Fact) → All (EachInFact P) facts → AreTrueFacts u facts → AreTrueFacts t (map (on_fact f) facts)
  AreTrueFacts-each_to [] each h = h
  AreTrueFacts-each_to (fact ∷ facts) each h = (
    IsTrueFact-each_to fact (All-head (EachInFact P) fact facts each) h.0,
    AreTrueFacts-each_to facts
        (All-tail (EachInFact P) fact facts each) h.1,
  )

  pub AreTrueFacts-each_from : (facts : List Fact) → All (EachInFact P) facts → AreTrueFacts t (map (on_fact f) facts)
      → AreTrueFacts u facts
  AreTrueFacts-each_from [] each h = h
  AreTrueFacts-each_from (fact ∷ facts) each h = (
    IsTrueFact-each_from fact (All-head (EachInFact P) fact facts each) h.0,
    AreTrueFacts-each_from facts
        (All-tail (EachInFact P) fact facts each) h.1,
  )

  -- the heap whose expressions P holds of
  pub Holds-each : (structs : List StructDef) (heap : List Cell) (shape : SymHeap) → EachInHeap P shape
      → Holds structs t heap (on_heap f shape) ↔ Holds structs u heap shape
  Holds-each structs heap shape each = (
    λ h. record {
      facts = AreTrueFacts-each_from shape.pure each.facts h.facts;
      atoms = HoldsAtoms-each_from structs shape.spatial heap each.atoms h.atoms;
    },
    λ h. record {
      facts = AreTrueFacts-each_to shape.pure each.facts h.facts;
      atoms = HoldsAtoms-each_to structs shape.spatial heap each.atoms h.atoms;
    },
  )

-- of every expression
module _ (t u : ℕ → ℤ) (f : Exp → Exp) (reads : (e : Exp) → value t (f e) ≡ value u e) where
  abbrev Any : Exp → Type 0
  Any e = Unit {0}

  reads_any : (e : Exp) → Any e → value t (f e) ≡ value u e
  reads_any e any = reads e

  any_atom : (atoms : List Atom) → All (EachInAtom Any) atoms
  any_atom = All-everywhere (EachInAtom Any) (each-everywhere_atom Any (λ e. tt))

  any_fact : (facts : List Fact) → All (EachInFact Any) facts
  any_fact = All-everywhere (EachInFact Any) (each-everywhere_fact Any (λ e. tt))

  pub values-mapped : (es : List Exp) → map (value t) (map f es) ≡ map (value u) es
  values-mapped es = values-each Any t u f reads_any es (All-everywhere Any (λ e. tt) es)

  pub HoldsAtoms-mapped : (structs : List StructDef) (atoms : List Atom) (heap : List Cell)
      → HoldsAtoms structs t (map (on_atom f) atoms) heap ↔ HoldsAtoms structs u atoms heap
  HoldsAtoms-mapped structs atoms heap = (
    HoldsAtoms-each_from Any t u f reads_any structs atoms heap (any_atom atoms),
    HoldsAtoms-each_to Any t u f reads_any structs atoms heap
        (any_atom atoms),
  )

  pub AreTrueFacts-mapped : (facts : List Fact) → AreTrueFacts t (map (on_fact f) facts) ↔ AreTrueFacts u facts
  AreTrueFacts-mapped facts =
      (AreTrueFacts-each_from Any t u f reads_any facts (any_fact facts), AreTrueFacts-each_to Any t u f reads_any facts (any_fact facts))

  pub Holds-mapped : (structs : List StructDef) (heap : List Cell) (shape : SymHeap) → Holds structs t heap (on_heap f shape)
      ↔ Holds structs u heap shape
  Holds-mapped structs heap shape =
      Holds-each Any t u f reads_any structs heap shape (record { facts = any_fact shape.pure; atoms = any_atom shape.spatial })

pub mapped_holds : MappedHolds
mapped_holds structs t u f reads heap shape = Holds-mapped t u f reads structs heap shape
