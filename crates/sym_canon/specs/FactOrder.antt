-- The order of the facts: equations by variable, then disequalities.
use Rattle.std.specs.Prelude.{int_lt, Bool, true, false, if◌then◌else◌, ◌&&◌, ◌||◌, ltb, List, [], ◌∷◌}
use Rattle.shape_data.specs.declared.symbolic.Exp.{Exp}
use Rattle.shape_data.specs.declared.symbolic.Exp.TheVariants.{Var, Const}
use Rattle.shape_data.specs.declared.symbolic.Fact.{Fact}
use Rattle.shape_data.specs.declared.symbolic.Fact.TheVariants.{Eq, Ne}
use Rattle.sym_parts.specs.Laws.Expressions.{same_exp}

-- variables come before constants, smaller before greater
abbrev pub is_before : Exp → Exp → Bool
is_before (Var x) (Var y) = ltb x y
is_before (Var x) (Const n) = true
is_before (Const m) (Var y) = false
is_before (Const m) (Const n) = int_lt m n

-- a disequality with its sides in order
abbrev pub with_sides_in_order : Fact → Fact
with_sides_in_order (Eq left right) = Eq left right
with_sides_in_order (Ne left right) = if is_before right left then Ne right left else Ne left right

-- by the left side, then by the right side
abbrev pub are_sides_before : Exp → Exp → Exp → Exp → Bool
are_sides_before left right l r = is_before left l || (same_exp left l && is_before right r)

-- equations before disequalities; two of one kind by their sides
abbrev pub is_fact_before : Fact → Fact → Bool
is_fact_before (Eq left right) (Eq l r) = are_sides_before left right l r
is_fact_before (Eq left right) (Ne l r) = true
is_fact_before (Ne left right) (Eq l r) = false
is_fact_before (Ne left right) (Ne l r) = are_sides_before left right l r

-- the fact before the first that it comes before
abbrev pub with_fact : Fact → List Fact → List Fact
with_fact fact [] = fact ∷ []
with_fact fact (first ∷ facts) = if is_fact_before fact first then fact ∷ first ∷ facts else first ∷ with_fact fact facts

-- the facts put one by one among those that are in order
abbrev pub sorted_among : List Fact → List Fact → List Fact
sorted_among [] sorted = sorted
sorted_among (fact ∷ facts) sorted = sorted_among facts (with_fact (with_sides_in_order fact) sorted)

-- the facts in order
abbrev pub sorted_facts : List Fact → List Fact
sorted_facts facts = sorted_among facts []
