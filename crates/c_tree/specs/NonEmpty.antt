-- The items of lists that are not empty.
use Rattle.std.specs.Prelude.{Some, None, List, ◌∷◌}
use Rattle.c_tree.specs.declared.non_empty.NonEmpty.{NonEmpty}
use Rattle.c_tree.specs.declared.non_empty.Iter.{Iter}

abbrev pub items : {T : Type 0} → NonEmpty T → List T
items list = list.first ∷ list.others.items

-- what is left to go through
abbrev pub left : {T : Type 0} → Iter T → List T
left iter = elim iter.first [ None ↦ iter.others.now | Some one ↦ one.now ∷ iter.others.now ]
