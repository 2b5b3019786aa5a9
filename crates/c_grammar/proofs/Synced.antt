-- Two ways to read a form from the same words end at the same words.
use Rattle.std.proofs.Common.{◌≡◌, ℕ, ◌+◌, ◌≤◌, ◌<◌, false, List, [], ◌∷◌, ◌++◌, length, refl, sym, ap, ap₂, ◌∙◌, subst, length-append}
use Rattle.std.proofs.Common.{arith}
use Rattle.grammar_laws.specs.Form.{Form, Both, Many, begins_in, may_be_empty, starts, continues, IsGood}
use Rattle.grammar_laws.specs.Reading.{Done, reads}
use Rattle.grammar_laws.proofs.Complete.{complete, not_continued}
use Rattle.grammar_laws.proofs.Classes.{begins_not_right}
use Rattle.grammar_laws.proofs.Avoided.{out_of_both}
use Rattle.grammar_laws.proofs.Taken.{took_some}
use Rattle.c_grammar.specs.Words.{Word, classes}
use Rattle.c_grammar.specs.Matching.{IsForm}
use Rattle.c_grammar.specs.Spelling.{Rule, word, each}
use Rattle.c_grammar.proofs.Parts.{length-classes, classes_of}
use Rattle.c_grammar.proofs.Spelled.{Leads, is_each}

-- the words behind do not continue the form
abbrev pub Ends : Form → List Word → Type 0
Ends form words = begins_in (continues form) (classes words) ≡ false

-- two ends of one list that are of the same length are the same
pub same_end : (front other mid end : List Word) → front ++ mid ≡ other ++ end → length mid ≡ length end → mid ≡ end
same_end [] [] mid end e l = e
same_end [] (w ∷ other) mid end e l =
    let m : length mid ≡ length (w ∷ other ++ end) = ap length e in
    let n = length-append other end in absurd (omega arith)
same_end (w ∷ front) [] mid end e l =
    let m : length (w ∷ front ++ mid) ≡ length end = ap length e in
    let n = length-append front mid in absurd (omega arith)
same_end (v ∷ front) (w ∷ other) mid end e l = same_end front other mid end (let f : front ++ mid ≡ other ++ end = cc in f) l

pub synced : (form : Form) → IsGood form → (from mid end : List Word) → IsForm form from mid → IsForm form from end → Ends form mid
    → Ends form end → mid ≡ end
synced form good from mid end f g ends other =
    let one : reads form (classes from) ≡ Done (classes mid) =
    ap (reads form) (classes_of form from mid f) ∙ complete form good (classes f.front) (classes mid) f.derives ends in
    let two : reads form (classes from) ≡ Done (classes end) =
    ap (reads form) (classes_of form from end g) ∙ complete form good (classes g.front) (classes end) g.derives other in
    let both : Done (classes mid) ≡ Done (classes end) = sym one ∙ two in
    let same : classes mid ≡ classes end = cc in
    same_end f.front g.front mid end (sym f.splits ∙ g.splits) (sym (length-classes mid) ∙ ap length same ∙ length-classes end)

-- what stands behind the first part of a form does not continue that part
pub ends_first : (one other : Form) → IsGood (Both one other) → (mid to : List Word) → IsForm other mid to → Ends (Both one other) to
    → Ends one mid
ends_first one other good mid to g ends =
    subst (λ w. begins_in (continues one) w ≡ false) (sym (classes_of other mid to g))
    (not_continued one other good.1 good.4 (classes g.front) (classes to) g.derives ends)

-- the parts of a form meet at one place
pub synced_both : (one other : Form) → IsGood (Both one other) → (from mid end to : List Word) → IsForm one from mid → IsForm other mid to
    → IsForm one from end → IsForm other end to → Ends (Both one other) to → mid ≡ end
synced_both one other good from mid end to f g h k ends =
    synced one good.0 from mid end f h (ends_first one other good mid to g ends) (ends_first one other good end to k ends)

-- a form that derives something leads to fewer words
pub fewer : (form : Form) → IsGood form → may_be_empty form ≡ false → (from to : List Word) → IsForm form from to → length to < length from
fewer form good never from to f =
    let some : 1 ≤ length (classes f.front) = took_some form good never (classes f.front) (classes to) f.derives in
    let l = length-classes f.front in
    let m : length from ≡ length f.front + length to = ap length f.splits ∙ length-append f.front to in
    omega arith

pub no_more : (form : Form) (from to : List Word) → IsForm form from to → length to ≤ length from
no_more form from to f =
    let m : length from ≡ length f.front + length to = ap length f.splits ∙ length-append f.front to in
    omega arith

-- at most one thing leads from some words to others
abbrev pub Unique : {A : Type 0} → (A → Rule) → Form → Type 0
Unique {A} rule form = (a b : A) (from to : List Word) → rule a from to → rule b from to → Ends form to → a ≡ b

pub begins_neither : (xs ys words : List ℕ) → begins_in xs words ≡ false → begins_in ys words ≡ false → begins_in (xs ++ ys) words ≡ false
begins_neither xs ys [] e f = refl
begins_neither xs ys (word ∷ words) e f = out_of_both word xs ys e f

-- a form that is repeated, and the rest of its repetitions
pub good_pair : (form : Form) → IsGood (Many form) → IsGood (Both form (Many form))
good_pair form good = (good.0, good, good.3, refl, good.2, refl)

-- the same of lists
pub unique_each : {A : Type 0} (rule : A → Rule) (form : Form) → IsGood (Many form) → ((a : A) → Leads rule form a) → Unique rule form
    → (all others : List A) (from to : List Word) → each rule all from to → each rule others from to → Ends (Many form) to → all ≡ others
unique_each rule form good leads unique [] [] from to h k ends = refl
unique_each rule form good leads unique [] (b ∷ others) from to h (mid, k, l) ends =
    let f = fewer form good.0 good.1 from mid (leads b from mid k) in
    let g = no_more (Many form) mid to (is_each rule form leads others mid to l) in
    let e : length from ≡ length to = ap length h in absurd (omega arith)
unique_each rule form good leads unique (a ∷ all) [] from to (mid, k, l) h ends =
    let f = fewer form good.0 good.1 from mid (leads a from mid k) in
    let g = no_more (Many form) mid to (is_each rule form leads all mid to l) in
    let e : length from ≡ length to = ap length h in absurd (omega arith)
unique_each rule form good leads unique (a ∷ all) (b ∷ others) from to (mid, h, i) (end, k, l) ends =
    let pair = good_pair form good in
    let ends_pair : Ends (Both form (Many form)) to = ends_behind in
    let same : mid
    ≡ end =
    synced_both form (Many form) pair from mid end to (leads a from mid h) (is_each rule form leads all mid to i) (leads b from end k)
    (is_each rule form leads others end to l) ends_pair in
    let k' : rule b from mid = subst (λ w. rule b from w) (sym same) k in
    let l' : each rule others mid to = subst (λ w. each rule others w to) (sym same) l in
    let first : a
    ≡ b = unique a b from mid h k' (ends_first form (Many form) pair mid to (is_each rule form leads all mid to i) ends_pair) in
    let rest : all ≡ others = unique_each rule form good leads unique all others mid to i l' ends in
    ap₂ (λ x y. x ∷ y) first rest
  where
    ends_behind : Ends (Both form (Many form)) to
    ends_behind =
        begins_neither (starts form ++ continues form) (continues form) (classes to) ends
        (begins_not_right (starts form) (continues form) (classes to) ends)
