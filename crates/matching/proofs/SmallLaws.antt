-- The variables of well-formed arguments are small, so that there is room for new ones.
use Rattle.std.specs.Prelude.{◌≡◌, ℕ, ◌+◌, ◌<◌, ◌≤◌, List, [], ◌∷◌, ◌++◌, length, All}
use Rattle.std.proofs.Common.{arith}
use Rattle.std.proofs.lemmas.List.Elements.{All-append, All-cons, All-head, All-nil, All-push, All-tail}
use Rattle.shape_data.specs.declared.symbolic.Atom.{Atom}
use Rattle.shape_data.specs.declared.symbolic.Atom.TheVariants.{Points, Seg, Junk}
use Rattle.shape_data.specs.declared.symbolic.Exp.{Exp}
use Rattle.shape_data.specs.declared.symbolic.Exp.TheVariants.{Var, Const}
use Rattle.shape_data.specs.declared.symbolic.Fact.{Fact}
use Rattle.shape_data.specs.declared.symbolic.Fact.TheVariants.{Eq, Ne}
use Rattle.shape_data.specs.declared.symbolic.SymHeap.{SymHeap}
use Rattle.sym_parts.specs.Laws.Each.{EachInAtom, EachInFact, EachInHeap}
use Rattle.sym_canon.specs.Numbering.{sides}
use Rattle.sym_canon.specs.Placing.{exps_of}
use Rattle.sym_matching.specs.Matches.{argument_variables}
use Rattle.sym_matching.specs.NewVariables.{HasRoom}
use Rattle.sym_matching.specs.Rooms.{IsSmall, IsWithinSizes, fields_of_all}
use Rattle.sym_matching.specs.Variables.{with_atoms, with_binding, with_exps, with_facts, with_heap, with_variable}
use Rattle.sym_matching.proofs.RoomLaws.{few_fields, room_below}
use Rattle.sym_matching.specs.Renaming.Sizes.{AreSmall, IsSmallBinding}

abbrev IsLow : ℕ → Type 0
IsLow x = x < 2147483648

small-variable : (names : List ℕ) (e : Exp) → AreSmall names → IsSmall e → AreSmall (with_variable names e)
small-variable names (Var x) h small = All-push IsLow names x h small
small-variable names (Const n) h small = h

pub small-exps : (es : List Exp) (names : List ℕ) → AreSmall names → All IsSmall es → AreSmall (with_exps names es)
small-exps [] names h each = h
small-exps (e ∷ es) names h each =
    small-exps es (with_variable names e) (small-variable names e h (All-head IsSmall e es each)) (All-tail IsSmall e es each)

small-sides : (fact : Fact) → EachInFact IsSmall fact → All IsSmall (sides fact)
small-sides (Eq left right) each = All-cons IsSmall left (right ∷ []) each.0 (All-cons IsSmall right [] each.1 (All-nil IsSmall))
small-sides (Ne left right) each = All-cons IsSmall left (right ∷ []) each.0 (All-cons IsSmall right [] each.1 (All-nil IsSmall))

small-atom : (atom : Atom) → EachInAtom IsSmall atom → All IsSmall (exps_of atom)
small-atom (Points at kind fields) each = All-cons IsSmall at fields each.0 each.1
small-atom (Seg kind link from to) each = All-cons IsSmall from (to ∷ []) each.0 (All-cons IsSmall to [] each.1 (All-nil IsSmall))
small-atom Junk each = All-nil IsSmall

small-facts : (facts : List Fact) (names : List ℕ) → AreSmall names → All (EachInFact IsSmall) facts → AreSmall (with_facts names facts)
small-facts [] names h each = h
small-facts (fact ∷ facts) names h each =
    small-facts facts (with_exps names (sides fact))
    (small-exps (sides fact) names h (small-sides fact (All-head (EachInFact IsSmall) fact facts each)))
    (All-tail (EachInFact IsSmall) fact facts each)

small-atoms : (atoms : List Atom) (names : List ℕ) → AreSmall names → All (EachInAtom IsSmall) atoms → AreSmall (with_atoms names atoms)
small-atoms [] names h each = h
small-atoms (atom ∷ atoms) names h each =
    small-atoms atoms (with_exps names (exps_of atom))
    (small-exps (exps_of atom) names h (small-atom atom (All-head (EachInAtom IsSmall) atom atoms each)))
    (All-tail (EachInAtom IsSmall) atom atoms each)

pub small-heap : (heap : SymHeap) (names : List ℕ) → AreSmall names → EachInHeap IsSmall heap → AreSmall (with_heap names heap)
small-heap heap names h each = small-atoms heap.spatial (with_facts names heap.pure) (small-facts heap.pure names h each.facts) each.atoms

abbrev IsLowBound : ℕ × Exp → Type 0
IsLowBound bound = (bound.0 < 2147483648) × IsSmall bound.1

small-binding : (binding : List (ℕ × Exp)) (names : List ℕ) → AreSmall names → IsSmallBinding binding →
    AreSmall (with_binding names binding)
small-binding [] names h each = h
small-binding (bound ∷ binding) names h each =
    let here : IsLowBound bound = All-head IsLowBound bound binding each in
    small-binding binding (with_variable (names ++ bound.0 ∷ []) bound.1)
    (small-variable (names ++ bound.0 ∷ []) bound.1 (All-push IsLow names bound.0 h here.0) here.1) (All-tail IsLowBound bound binding each)

small-arguments : (a b : SymHeap) (bound : List (ℕ × Exp)) (flexible avoid : List ℕ) → IsWithinSizes a → IsWithinSizes b →
    IsSmallBinding bound → AreSmall flexible → AreSmall avoid →
    AreSmall (argument_variables a b bound flexible ++ avoid)
small-arguments a b bound flexible avoid one other binding more further =
    All-append IsLow (argument_variables a b bound flexible) avoid
    (All-append IsLow (with_binding (with_heap (with_heap [] a) b) bound) flexible
    (small-binding bound (with_heap (with_heap [] a) b)
    (small-heap b (with_heap [] a) (small-heap a [] (All-nil IsLow) one.variables) other.variables) binding)
    more)
    further

-- there is room for a new variable for each wanted field
pub arguments-room : (a b : SymHeap) (bound : List (ℕ × Exp)) (flexible avoid used : List ℕ) → IsWithinSizes a → IsWithinSizes b →
    IsSmallBinding bound → AreSmall flexible → AreSmall avoid →
    used ≡ argument_variables a b bound flexible ++ avoid → HasRoom (fields_of_all b.spatial) used
arguments-room a b bound flexible avoid used one other binding more further is =
    let few : fields_of_all b.spatial ≤ 131072000 = few_fields b other in
    let small : AreSmall used = rw is (small-arguments a b bound flexible avoid one other binding more further) in
    room_below 2147483648 (fields_of_all b.spatial) used (omega arith) (omega arith) small

-- parts have 32-bit numbers
pub parts-few : (b : SymHeap) → IsWithinSizes b → length b.spatial + length b.pure < 4294967296
parts-few b other = let few : length b.pure + length b.spatial ≤ 4000 = other.parts in omega arith
