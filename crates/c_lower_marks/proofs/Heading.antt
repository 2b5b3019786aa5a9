-- Nodes that get their marks one after another.
use Rattle.std.proofs.Common.{◌≡◌, ℕ, suc, ◌<◌, Option, List, [], ◌∷◌, ◌++◌, length, get_or, slice_set, refl, ap, ◌∙◌, arith}
use Rattle.shape_data.specs.declared.program.HeadMark.{HeadMark}
use Rattle.shape_data.specs.declared.program.Node.{Node}
use Rattle.shape_data.specs.declared.program.Ty.{Ty}
use Rattle.c_lower_rules.specs.Code.{Loop}
use Rattle.c_lower_rules.specs.Marks.{loops_at, mark_by, marked_from}
use Rattle.c_lower_marks.specs.Placed.{marks_from, with_marks}

-- no node is lost
pub with_marks-length : (marks : List (Option HeadMark)) (nodes : List Node) → length (with_marks marks nodes) ≡ length nodes
with_marks-length [] nodes = refl
with_marks-length (mark ∷ marks) [] = refl
with_marks-length (mark ∷ marks) (node ∷ nodes) = ap suc (with_marks-length marks nodes)

-- one more node gets its mark
pub with_marks-more : (marks : List (Option HeadMark)) (nodes : List Node) (mark : Option HeadMark) (one : Node)
    → length marks < length nodes
    → one ≡ get_or (with_marks marks nodes) (length marks) one
    → slice_set (with_marks marks nodes) (length marks) (record one { head = mark }) ≡ with_marks (marks ++ mark ∷ []) nodes
with_marks-more [] [] mark one within is = absurd (omega (arith, within))
with_marks-more [] (node ∷ nodes) mark one within is = ap (λ (x : Node). record x { head = mark } ∷ nodes) is
with_marks-more (first ∷ marks) [] mark one within is = absurd (omega (arith, within))
with_marks-more (first ∷ marks) (node ∷ nodes) mark one within is =
    ap (λ xs. record node { head = first } ∷ xs) (with_marks-more marks nodes mark one (omega (arith, within)) is)

-- a turn of a loop over the marks
pub with_marks-turn : (marks : List (Option HeadMark)) (nodes now : List Node) (mark : Option HeadMark) (one : Node) (place : ℕ)
    → place ≡ length marks → now ≡ with_marks marks nodes → length marks < length nodes → one ≡ get_or now place one
    → slice_set now place (record one { head = mark }) ≡ with_marks (marks ++ mark ∷ []) nodes
with_marks-turn marks nodes now mark one place p q within is =
    ap (λ (xs : List Node). slice_set xs place (record one { head = mark })) q
    ∙ ap (λ (n : ℕ). slice_set (with_marks marks nodes) n (record one { head = mark })) p
    ∙ with_marks-more marks nodes mark one within
    (is ∙ ap (λ (xs : List Node). get_or xs place one) q ∙ ap (λ (n : ℕ). get_or (with_marks marks nodes) n one) p)

-- as many marks as nodes
pub marks_from-length : (slots : List Ty) (all : List Node) (loops : List Loop) (place : ℕ) (nodes : List Node)
    → length (marks_from slots all loops place nodes) ≡ length nodes
marks_from-length slots all loops place [] = refl
marks_from-length slots all loops place (first ∷ others) = ap suc (marks_from-length slots all loops (suc place) others)

-- the nodes with all their marks
pub marked_by : (slots : List Ty) (all : List Node) (loops : List Loop) (place : ℕ) (nodes : List Node)
    → with_marks (marks_from slots all loops place nodes) nodes ≡ marked_from slots all loops place nodes
marked_by slots all loops place [] = refl
marked_by slots all loops place (first ∷ others) =
    ap (λ xs. record first { head = mark_by slots all (loops_at place loops) } ∷ xs) (marked_by slots all loops (suc place) others)
