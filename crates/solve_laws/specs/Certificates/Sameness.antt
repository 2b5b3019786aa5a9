-- Tests whether two states, or two posts, are the same.
use Rattle.std.specs.Prelude.{Bool, true, false, ◌==◌, ◌&&◌}
use Rattle.std.specs.Cmp.Lexicographic.{pointwise}
use Rattle.std.specs.Str.{bytes_eq}
use Rattle.shape_data.specs.declared.symbolic.Atom.{Atom}
use Rattle.shape_data.specs.declared.symbolic.Atom.TheVariants.{Points, Seg, Junk}
use Rattle.shape_data.specs.declared.symbolic.Fact.{Fact}
use Rattle.shape_data.specs.declared.symbolic.Fact.TheVariants.{Eq, Ne}
use Rattle.shape_data.specs.declared.symbolic.Post.{Post}
use Rattle.shape_data.specs.declared.symbolic.SymHeap.{SymHeap}
use Rattle.shape_data.specs.declared.symbolic.SymState.{SymState}
use Rattle.sym_parts.specs.Laws.Expressions.{same_exp}

-- the two are the same fact, written the same way round
abbrev pub same_fact : Fact → Fact → Bool
same_fact (Eq e f) (Eq g h) = same_exp e g && same_exp f h
same_fact (Ne e f) (Ne g h) = same_exp e g && same_exp f h
same_fact _ _ = false

-- the two are the same atom
abbrev pub same_atom : Atom → Atom → Bool
same_atom (Points at kind fields) (Points place other values) = same_exp at place && bytes_eq kind other && pointwise same_exp fields values
same_atom (Seg kind link from to) (Seg other field start end) =
    bytes_eq kind other && link == field && same_exp from start && same_exp to end
same_atom Junk Junk = true
same_atom _ _ = false

-- the two have the same facts and the same atoms, in the same order
abbrev pub same_heap : SymHeap → SymHeap → Bool
same_heap a b = pointwise same_fact a.pure b.pure && pointwise same_atom a.spatial b.spatial

-- the two have the same locals and the same heap
abbrev pub same_state : SymState → SymState → Bool
same_state a b = pointwise same_exp a.locals b.locals && same_heap a.heap b.heap

-- the two have the same result and the same heap
abbrev pub same_post : Post → Post → Bool
same_post a b = same_exp a.ret b.ret && same_heap a.heap b.heap
