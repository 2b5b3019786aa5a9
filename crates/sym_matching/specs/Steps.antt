-- The steps that the rules of matching are made of: binding, owing, taking, unfolding, missing.
use Rattle.std.specs.Prelude.{ℕ, ◌+◌, pos, Bool, true, false, ◌||◌, if◌then◌else◌, List, [], ◌∷◌, ◌++◌, map, slice_index_or}
use Rattle.std.specs.List.{remove, insert}
use Rattle.shape_data.specs.declared.symbolic.Atom.{Atom}
use Rattle.shape_data.specs.declared.symbolic.Atom.TheVariants.{Points, Seg}
use Rattle.shape_data.specs.declared.symbolic.Exp.{Exp}
use Rattle.shape_data.specs.declared.symbolic.Exp.TheVariants.{Var, Const}
use Rattle.shape_data.specs.declared.symbolic.Fact.{Fact}
use Rattle.shape_data.specs.declared.symbolic.SymHeap.{SymHeap}
use Rattle.sym_pure.specs.declared.parts.Normal.{Normal}
use Rattle.sym_pure.specs.declared.parts.Normal.TheVariants.{Is, Contradiction}
use Rattle.sym_pure.specs.Normal.{normal}
use Rattle.sym_canon.specs.Canonical.{without_locals}
use Rattle.sym_matching.specs.declared.matching.Matching.{Matching}
use Rattle.sym_matching.specs.declared.matching.Mode.{Mode}
use Rattle.sym_matching.specs.declared.matching.Turned.{Turned}
use Rattle.sym_matching.specs.declared.matching.Turned.TheVariants.{On, Stuck}

-- what stays the same through a match: whether parts may be missing, the heap's facts, the flexible variables
pub record Rules : Type 0 where
  pub mode : Mode
  pub facts : List Fact
  pub flexible : List ℕ

-- the whole heap with the missing part: what is left and what was taken (missing atoms stand there), with all facts
abbrev pub whole : Rules → Matching → SymHeap
whole rules m = record { pure = rules.facts ++ m.missing.pure; spatial = m.left ++ m.gone }

-- an expression that is a variable gets an expression
abbrev pub bind : Matching → Exp → Exp → Matching
bind m (Var x) e = record m { binding = m.binding ++ (x, e) ∷ [] }
bind m (Const n) e = m

-- the fact that a wanted expression is equal to one of the heap is left over
abbrev pub owe : Matching → ℕ → Exp → Exp → Matching
owe m number want have = record m { owed = m.owed ++ record { number = number; want = want; have = have } ∷ [] }

-- the atom at a place is taken
abbrev pub take_atom : Matching → ℕ → Atom → Matching
take_atom m place atom = record m { left = remove m.left place; gone = m.gone ++ atom ∷ [] }

-- the segment at a place becomes a cell with these variables for its fields, which is taken, and a segment from the cell's
-- link, which stands in the place
abbrev pub unfold_at : Matching → ℕ → List ℕ → ℕ → Exp → Exp → List ℕ → Matching
unfold_at m place kind link from to names = record m {
  left = insert (remove m.left place) place (Seg kind link (slice_index_or (map Var names) link (Const (pos 0))) to);
  gone = m.gone ++ Points from kind (map Var names) ∷ [];
  used = m.used ++ names;
}

-- the normal form is a contradiction
abbrev pub is_contradiction : Normal → Bool
is_contradiction (Is form) = false
is_contradiction Contradiction = true

-- the heap has no normal form
unfoldable pub contradicts : SymHeap → Bool
contradicts heap = is_contradiction (normal (without_locals heap))

-- the match goes on, unless the whole heap beside the missing part, or the missing part alone, is a contradiction
abbrev pub unless_contradiction : Rules → ℕ → Matching → Turned
unless_contradiction rules number m = if contradicts (whole rules m) || contradicts m.missing then Stuck number else On m

-- one missing fact more
abbrev pub with_missing_fact : Matching → Fact → Matching
with_missing_fact m fact = record m { missing = record { pure = m.missing.pure ++ fact ∷ []; spatial = m.missing.spatial } }

-- the fact is missing
abbrev pub miss_fact : Rules → ℕ → Fact → Matching → Turned
miss_fact rules number fact m = unless_contradiction rules number (with_missing_fact m fact)

-- one missing atom more, which is taken at once
abbrev pub with_missing_atom : Matching → Atom → Matching
with_missing_atom m atom =
    record m { missing = record { pure = m.missing.pure; spatial = m.missing.spatial ++ atom ∷ [] }; gone = m.gone ++ atom ∷ [] }

-- the atom is missing
abbrev pub miss_atom : Rules → ℕ → Atom → Matching → Turned
miss_atom rules number atom m = unless_contradiction rules number (with_missing_atom m atom)

-- an expression that is a variable gets the next new logical variable
abbrev pub bind_new : Matching → Exp → Matching
bind_new m e = record (bind m e (Var m.next)) { next = m.next + 1 }

-- one stage after another, unless the first is stuck
abbrev pub and_then : (Matching → Turned) → Turned → Turned
and_then go_on (On m) = go_on m
and_then go_on (Stuck number) = Stuck number
