-- Matching as a whole: subtraction, and abduction.
use Rattle.std.specs.Prelude.{ℕ, Bool, if◌then◌else◌, List, [], ◌++◌, length}
use Rattle.std.specs.List.{list_any}
use Rattle.shape_data.specs.declared.symbolic.Atom.{Atom}
use Rattle.shape_data.specs.declared.symbolic.Exp.{Exp}
use Rattle.shape_data.specs.declared.symbolic.SymHeap.{SymHeap}
use Rattle.sym_parts.specs.Shapes.Symbolic.{emp}
use Rattle.sym_parts.specs.Laws.Junks.{is_junk}
use Rattle.sym_matching.specs.declared.matching.Abd.{Abd}
use Rattle.sym_matching.specs.declared.matching.Abd.TheVariants as abd
use Rattle.sym_matching.specs.declared.matching.Matching.{Matching}
use Rattle.sym_matching.specs.declared.matching.Mode.{Mode}
use Rattle.sym_matching.specs.declared.matching.Mode.TheVariants.{Subtract, Abduce}
use Rattle.sym_matching.specs.declared.matching.Sub.{Sub}
use Rattle.sym_matching.specs.declared.matching.Sub.TheVariants as sub
use Rattle.sym_matching.specs.declared.matching.Turned.{Turned}
use Rattle.sym_matching.specs.declared.matching.Turned.TheVariants.{On, Stuck}
use Rattle.sym_matching.specs.Steps.{Rules, and_then}
use Rattle.sym_matching.specs.Variables.{with_heap, with_binding}
use Rattle.sym_matching.specs.WantedAtoms.{want_atoms, wanted_from}
use Rattle.sym_matching.specs.WantedFacts.{want_facts, want_all_owed}

-- what stays the same through a match in a heap
abbrev pub rules_of : Mode → SymHeap → List ℕ → Rules
rules_of mode a flexible = record { mode = mode; facts = a.pure; flexible = flexible }

-- a match in a heap at its start: all atoms are left, and nothing is missing
abbrev pub start_of : SymHeap → List (ℕ × Exp) → List ℕ → ℕ → Matching
start_of a bound used next = record { left = a.spatial; gone = []; missing = emp; binding = bound; owed = []; used = used; next = next }

-- the wanted atoms of a heap
abbrev pub want_spatial : Rules → SymHeap → Matching → Turned
want_spatial rules b m = want_atoms (length (wanted_from 0 b.spatial)) rules (wanted_from 0 b.spatial) m

-- the wanted parts of a heap: its atoms, then the facts that fields left over, then its facts. Atoms are numbered first
abbrev pub want_heap : Rules → SymHeap → Matching → Turned
want_heap rules b m =
    and_then (want_facts rules (length b.spatial) b.pure) (and_then (λ n. want_all_owed rules n.owed n) (want_spatial rules b m))

-- Junk is wanted, which takes all that is left
abbrev pub has_junk : SymHeap → Bool
has_junk b = list_any is_junk b.spatial

-- the atoms of the frame: what is left of the heap's, unless Junk takes it
abbrev pub left_over : SymHeap → Matching → List Atom
left_over b m = if has_junk b then [] else m.left

-- the frame: these atoms, with all facts of the heap and of the missing part
abbrev pub frame_of : Rules → SymHeap → Matching → SymHeap
frame_of rules b m = record { pure = rules.facts ++ m.missing.pure; spatial = left_over b m }

-- all variables that stand in the arguments of a match
abbrev pub argument_variables : SymHeap → SymHeap → List (ℕ × Exp) → List ℕ → List ℕ
argument_variables a b bound flexible = with_binding (with_heap (with_heap [] a) b) bound ++ flexible

-- the match of b in a; new existential variables avoid the arguments' variables and further ones
abbrev pub matching : Mode → SymHeap → SymHeap → List (ℕ × Exp) → List ℕ → List ℕ → ℕ → Turned
matching mode a b bound flexible avoid next =
    want_heap (rules_of mode a flexible) b (start_of a bound (argument_variables a b bound flexible ++ avoid) next)

-- what a match answers in subtraction
abbrev pub answer_sub : Rules → SymHeap → Turned → Sub
answer_sub rules b (On m) = sub.Match (frame_of rules b m) m.binding
answer_sub rules b (Stuck number) = sub.NoMatch number

-- what a match answers in abduction
abbrev pub answer_abd : Rules → SymHeap → Turned → Abd
answer_abd rules b (On m) = abd.Found m.missing (frame_of rules b m) m.binding
answer_abd rules b (Stuck number) = abd.NoMatch number

-- subtraction away from further variables
abbrev pub subtract_avoiding : SymHeap → SymHeap → List (ℕ × Exp) → List ℕ → List ℕ → Sub
subtract_avoiding a b bound flexible avoid = answer_sub (rules_of Subtract a flexible) b (matching Subtract a b bound flexible avoid 0)

-- subtraction: b is taken out of a
abbrev pub subtract : SymHeap → SymHeap → List (ℕ × Exp) → List ℕ → Sub
subtract a b bound flexible = subtract_avoiding a b bound flexible []

-- abduction away from further variables; new logical variables are numbered from `next`
abbrev pub biabduce_avoiding : SymHeap → SymHeap → List (ℕ × Exp) → List ℕ → ℕ → List ℕ → Abd
biabduce_avoiding a b bound flexible next avoid = answer_abd (rules_of Abduce a flexible) b (matching Abduce a b bound flexible avoid next)

-- abduction: b is taken out of a with what is missing for it
abbrev pub biabduce : SymHeap → SymHeap → List (ℕ × Exp) → List ℕ → ℕ → Abd
biabduce a b bound flexible next = biabduce_avoiding a b bound flexible next []
