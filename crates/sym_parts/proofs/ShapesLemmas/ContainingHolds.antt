-- What holds over a list of structures, and over another.
use Rattle.std.specs.Prelude.{◌≡◌, ℕ, ℤ, pos, List, [], ◌∷◌, length, map, slice_index_or, All, IsSome}
use Rattle.std.specs.Option.{IsSomeAnd}
use Rattle.std.proofs.Common.{refl, sym, subst}
use Rattle.std.specs.declared.option.Option.{Option}
use Rattle.std.specs.declared.option.Option.TheVariants.{None, Some}
use Rattle.std.proofs.lemmas.List.Elements.{All-head, All-tail}
use Rattle.shape_data.specs.declared.machine.Cell.{Cell}
use Rattle.shape_data.specs.declared.program.StructDef.{StructDef}
use Rattle.shape_data.specs.declared.symbolic.Atom.{Atom}
use Rattle.shape_data.specs.declared.symbolic.Atom.TheVariants.{Points, Seg, Junk}
use Rattle.shape_data.specs.declared.symbolic.SymHeap.{SymHeap}
use Rattle.shape_data.specs.Heap.{struct_named, HasShape, IsHeap}
use Rattle.shape_data.specs.Meaning.{value, HoldsAtom, HoldsAtoms, Holds, IsChain, IsSumOf}
use Rattle.shape_data.specs.Structures.{ContainsStructures}
use Rattle.shape_data.specs.WellFormed.{IsKind}
use Rattle.sym_parts.specs.Shapes.Containing.{IsOfKinds}
use Rattle.sym_parts.proofs.ShapesLemmas.ContainingShapes.{sum-carries}
use Rattle.sym_parts.proofs.ShapesLemmas.Shapes.{IsSum-over_whole, IsSum-over_parts}
use Rattle.sym_parts.proofs.ShapesLemmas.Sums.{IsHeap-empty}

-- OVER A HEAP OF BOTH LISTS

module _ (structs others : List StructDef) where
  sum_of-alike : (cells heap : List Cell) → IsHeap others heap → IsSumOf structs cells heap → IsSumOf others cells heap
  sum_of-alike [] heap is_heap parts = parts
  sum_of-alike (cell ∷ cells) heap is_heap parts =
      let sum = IsSum-over_whole structs others heap (cell ∷ []) parts.0 is_heap parts.1 in
      (parts.0, sum, sum_of-alike cells parts.0 sum.right_is_heap parts.2)

  atom-alike : (s : ℕ → ℤ) (atom : Atom) (heap : List Cell) → IsHeap others heap → HoldsAtom structs s atom heap →
      HoldsAtom others s atom heap
  atom-alike s (Points at kind fields) heap is_heap holds = holds
  atom-alike s (Seg kind link from to) heap is_heap holds = (holds.0, holds.1, sum_of-alike holds.0 heap is_heap holds.2)
  atom-alike s Junk heap is_heap holds = holds

  atoms-alike : (s : ℕ → ℤ) (atoms : List Atom) (heap : List Cell) → IsHeap others heap → HoldsAtoms structs s atoms heap →
      HoldsAtoms others s atoms heap
  atoms-alike s [] heap is_heap holds = holds
  atoms-alike s (atom ∷ atoms) heap is_heap holds =
      let sum = IsSum-over_whole structs others heap holds.0 holds.1 is_heap holds.2 in
      (holds.0, holds.1, sum, atom-alike s atom holds.0 sum.left_is_heap holds.3, atoms-alike s atoms holds.1 sum.right_is_heap holds.4)

  -- what holds of a heap holds over each list that it is a heap over
  pub holds-alike : (s : ℕ → ℤ) (heap : List Cell) (shape : SymHeap) → IsHeap others heap → Holds structs s heap shape →
      Holds others s heap shape
  holds-alike s heap shape is_heap holds = record { facts = holds.facts; atoms = atoms-alike s shape.spatial heap is_heap holds.atoms }

module _ (larger smaller : List StructDef) (contains : ContainsStructures larger smaller) where
  -- FROM THE SMALLER LIST

  sum_of-carries : (cells heap : List Cell) → IsSumOf smaller cells heap → IsSumOf larger cells heap
  sum_of-carries [] heap parts = parts
  sum_of-carries (cell ∷ cells) heap parts =
      (parts.0, sum-carries larger smaller contains heap (cell ∷ []) parts.0 parts.1, sum_of-carries cells parts.0 parts.2)

  atom-carries : (s : ℕ → ℤ) (atom : Atom) (heap : List Cell) → HoldsAtom smaller s atom heap → HoldsAtom larger s atom heap
  atom-carries s (Points at kind fields) heap holds = holds
  atom-carries s (Seg kind link from to) heap holds = (holds.0, holds.1, sum_of-carries holds.0 heap holds.2)
  atom-carries s Junk heap holds = holds

  atoms-carry : (s : ℕ → ℤ) (atoms : List Atom) (heap : List Cell) → HoldsAtoms smaller s atoms heap → HoldsAtoms larger s atoms heap
  atoms-carry s [] heap holds = holds
  atoms-carry s (atom ∷ atoms) heap holds = (
    holds.0,
    holds.1,
    sum-carries larger smaller contains heap holds.0 holds.1 holds.2,
    atom-carries s atom holds.0 holds.3,
    atoms-carry
        s atoms holds.1 holds.4,
  )

  pub holds-carries : (s : ℕ → ℤ) (heap : List Cell) (shape : SymHeap) → Holds smaller s heap shape → Holds larger s heap shape
  holds-carries s heap shape holds = record { facts = holds.facts; atoms = atoms-carry s shape.spatial heap holds.atoms }

  -- FROM THE LARGER LIST, WHERE THE KINDS ARE THOSE OF THE SMALLER

  -- a cell of a kind of the smaller list has its shape
  own_shape : (cell : Cell) → IsKind smaller cell.kind → HasShape larger cell → HasShape smaller cell
  own_shape cell listed has = by_found (struct_named smaller cell.kind) refl listed
    where
      by_found : (found : Option StructDef) → struct_named smaller cell.kind ≡ found → IsSome found →
          IsSomeAnd found (λ def. length cell.fields ≡ length def.fields)
      by_found None is some = cc
      by_found (Some def) is some = let same : length cell.fields ≡ length def.fields = rw (contains cell.kind def is) at has in same

  own_cell : (cell : Cell) → IsKind smaller cell.kind → IsHeap larger (cell ∷ []) → IsHeap smaller (cell ∷ [])
  own_cell cell listed is_heap = record { rising = is_heap.rising; shaped = (own_shape cell listed is_heap.shaped.0, tt) }

  own_chain : (kind : List ℕ) (link : ℕ) (from to : ℤ) (cells heap : List Cell) → IsKind smaller kind → IsChain kind link from to cells →
      IsSumOf larger cells heap →
      IsSumOf smaller cells heap × IsHeap smaller heap
  own_chain kind link from to [] heap listed chain parts = (parts, subst (λ one. IsHeap smaller one) (sym parts) (IsHeap-empty smaller))
  own_chain kind link from to (cell ∷ cells) heap listed chain parts =
      let rest = own_chain kind link (slice_index_or cell.fields link (pos 0)) to cells parts.0 listed chain.2 parts.2 in
      let here : IsKind smaller cell.kind = subst (λ one. IsKind smaller one) (sym chain.1) listed in
      let sum = IsSum-over_parts larger smaller heap (cell ∷ []) parts.0 (own_cell cell here parts.1.left_is_heap) rest.1 parts.1 in
      ((parts.0, sum, rest.0), sum.is_heap)

  own_atom : (s : ℕ → ℤ) (atom : Atom) (heap : List Cell) → IsOfKinds smaller atom → IsHeap larger heap → HoldsAtom larger s atom heap →
      HoldsAtom smaller s atom heap × IsHeap smaller heap
  own_atom s (Points at kind fields) heap listed is_heap holds =
      let one : IsHeap larger (record { at = value s at; kind = kind; fields = map (value s) fields } ∷ []) =
      subst (λ h. IsHeap larger h) holds is_heap in
      (holds, subst (λ h. IsHeap smaller h) (sym holds) (own_cell _ listed one))
  own_atom s (Seg kind link from to) heap listed is_heap holds =
      let own = own_chain kind link (value s from) (value s to) holds.0 heap listed holds.1 holds.2 in
      ((holds.0, holds.1, own.0), own.1)
  own_atom s Junk heap listed is_heap holds = absurd listed

  own_atoms : (s : ℕ → ℤ) (atoms : List Atom) (heap : List Cell) → All (IsOfKinds smaller) atoms → HoldsAtoms larger s atoms heap →
      HoldsAtoms smaller s atoms heap × IsHeap smaller heap
  own_atoms s [] heap all holds = (holds, subst (λ h. IsHeap smaller h) (sym holds) (IsHeap-empty smaller))
  own_atoms s (atom ∷ atoms) heap all holds =
      let first = own_atom s atom holds.0 (All-head (IsOfKinds smaller) atom atoms all) holds.2.left_is_heap holds.3 in
      let rest = own_atoms s atoms holds.1 (All-tail (IsOfKinds smaller) atom atoms all) holds.4 in
      let sum = IsSum-over_parts larger smaller heap holds.0 holds.1 first.1 rest.1 holds.2 in
      ((holds.0, holds.1, sum, first.0, rest.0), sum.is_heap)

  pub holds-over_own_kinds : (s : ℕ → ℤ) (heap : List Cell) (shape : SymHeap) → All (IsOfKinds smaller) shape.spatial →
      Holds larger s heap shape → Holds smaller s heap shape
  holds-over_own_kinds s heap shape all holds = record { facts = holds.facts; atoms = (own_atoms s shape.spatial heap all holds.atoms).0 }
