-- Where the variables of a pair are low, there is room for new ones.
use Rattle.std.specs.Prelude.{ℕ, ◌<◌, ◌≤◌, List, [], ◌∷◌, All}
use Rattle.std.proofs.Common.{arith}
use Rattle.std.proofs.lemmas.Bool.{ltb-true}
use Rattle.std.proofs.lemmas.List.Elements.{All-cons, All-head, All-nil, All-push, All-tail}
use Rattle.shape_data.specs.declared.symbolic.Atom.{Atom}
use Rattle.shape_data.specs.declared.symbolic.Atom.TheVariants.{Points, Seg, Junk}
use Rattle.shape_data.specs.declared.symbolic.Exp.{Exp}
use Rattle.shape_data.specs.declared.symbolic.Exp.TheVariants.{Var, Const}
use Rattle.shape_data.specs.declared.symbolic.Fact.{Fact}
use Rattle.shape_data.specs.declared.symbolic.Fact.TheVariants.{Eq, Ne}
use Rattle.shape_data.specs.declared.symbolic.SymHeap.{SymHeap}
use Rattle.sym_parts.specs.Laws.Each.{EachInAtom, EachInFact, EachInHeap}
use Rattle.sym_canon.specs.declared.parts.Pair.{Pair}
use Rattle.sym_canon.specs.Numbering.{sides}
use Rattle.sym_canon.specs.Placing.{exps_of}
use Rattle.sym_matching.specs.NewVariables.{HasRoom}
use Rattle.sym_matching.specs.Variables.{with_atoms, with_exps, with_facts, with_heap, with_variable}
use Rattle.sym_matching.proofs.RoomLaws.{room_below}
use Rattle.exec_laws.specs.Pairs.{pair_variables}
use Rattle.exec_cells.specs.Sizes.{IsLow, IsLowFact, IsLowPair}

abbrev IsUnder : ℕ → Type 0
IsUnder x = x < 2147483648

low-variable : (names : List ℕ) (e : Exp) → All IsUnder names → IsLow e → All IsUnder (with_variable names e)
low-variable names (Var x) h low = All-push IsUnder names x h (ltb-true x 2147483648 low)
low-variable names (Const n) h low = h

low-exps : (es : List Exp) (names : List ℕ) → All IsUnder names → All IsLow es → All IsUnder (with_exps names es)
low-exps [] names h each = h
low-exps (e ∷ es) names h each =
    low-exps es (with_variable names e) (low-variable names e h (All-head IsLow e es each)) (All-tail IsLow e es each)

low-sides : (fact : Fact) → IsLowFact fact → All IsLow (sides fact)
low-sides (Eq left right) each = All-cons IsLow left (right ∷ []) each.0 (All-cons IsLow right [] each.1 (All-nil IsLow))
low-sides (Ne left right) each = All-cons IsLow left (right ∷ []) each.0 (All-cons IsLow right [] each.1 (All-nil IsLow))

low-atom : (atom : Atom) → EachInAtom IsLow atom → All IsLow (exps_of atom)
low-atom (Points at kind fields) each = All-cons IsLow at fields each.0 each.1
low-atom (Seg kind link from to) each = All-cons IsLow from (to ∷ []) each.0 (All-cons IsLow to [] each.1 (All-nil IsLow))
low-atom Junk each = All-nil IsLow

low-facts : (facts : List Fact) (names : List ℕ) → All IsUnder names → All (EachInFact IsLow) facts → All IsUnder (with_facts names facts)
low-facts [] names h each = h
low-facts (fact ∷ facts) names h each =
    low-facts facts (with_exps names (sides fact))
    (low-exps (sides fact) names h (low-sides fact (All-head (EachInFact IsLow) fact facts each)))
    (All-tail (EachInFact IsLow) fact facts each)

low-atoms : (atoms : List Atom) (names : List ℕ) → All IsUnder names → All (EachInAtom IsLow) atoms → All IsUnder (with_atoms names atoms)
low-atoms [] names h each = h
low-atoms (atom ∷ atoms) names h each =
    low-atoms atoms (with_exps names (exps_of atom))
    (low-exps (exps_of atom) names h (low-atom atom (All-head (EachInAtom IsLow) atom atoms each)))
    (All-tail (EachInAtom IsLow) atom atoms each)

low-heap : (heap : SymHeap) (names : List ℕ) → All IsUnder names → EachInHeap IsLow heap → All IsUnder (with_heap names heap)
low-heap heap names h each = low-atoms heap.spatial (with_facts names heap.pure) (low-facts heap.pure names h each.facts) each.atoms

-- the variables of a pair are low
pub low_variables : (pair : Pair) → IsLowPair pair → All (λ x. x < 2147483648) (pair_variables pair)
low_variables pair low =
    low-heap pair.missing (with_heap (with_exps [] pair.state.locals) pair.state.heap)
    (low-heap pair.state.heap (with_exps [] pair.state.locals)
    (low-exps pair.state.locals [] (All-nil IsUnder) low.state.locals) low.state.heap)
    low.missing

-- there is room for new ones
pub low_room : (count : ℕ) (pair : Pair) → IsLowPair pair → count ≤ 32769 → HasRoom count (pair_variables pair)
low_room count pair low few = room_below 2147483648 count (pair_variables pair) (omega arith) (omega arith) (low_variables pair low)
