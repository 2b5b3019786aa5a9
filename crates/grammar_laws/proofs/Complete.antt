-- What a form derives is read, before each rest that does not continue it.
use Rattle.std.proofs.Common.{◌≡◌, inl, inr, ℕ, ◌+◌, ◌≤◌, true, false, List, [], ◌∷◌, ◌++◌, length, refl, ap, ◌∙◌, append_assoc}
use Rattle.std.proofs.Common.{length-append, arith}
use Rattle.std.specs.Prelude.{◌==◌}
use Rattle.grammar_laws.specs.Form.{Form, Word, Closed, Nothing, Both, Either, Many, Nearest, Known, is_in, begins_in, joined, Repeats}
use Rattle.grammar_laws.specs.Form.{Derives, may_be_empty, starts, continues, are_apart, IsGood}
use Rattle.grammar_laws.specs.Reading.{Done, go_on, repeat, read_nearest, reads}
use Rattle.grammar_laws.proofs.Classes.{eqb_itself, apart_other, or_false_left, begins_not_left, begins_not_right, begins_chosen}
use Rattle.grammar_laws.proofs.Classes.{begins_without}
use Rattle.grammar_laws.proofs.Derived.{may_be, begins}
use Rattle.grammar_laws.proofs.Taken.{took_some, cond_is, cond_not, repeat_none, repeat_more}

-- what the form derives is read
abbrev pub IsRead : Form → (List ℕ → List ℕ → Type 0) → Type 0
IsRead form P = (words rest : List ℕ) → P words rest → begins_in (continues form) rest ≡ false → reads form (words ++ rest) ≡ Done rest

-- what stands behind the first form does not continue it
pub not_continued : (one second : Form) → IsGood second → are_apart (continues one) (starts second) ≡ true → (back rest : List ℕ)
    → Derives second back rest
    → begins_in (continues (Both one second)) rest ≡ false → begins_in (continues one) (back ++ rest) ≡ false
not_continued one second good apart [] rest derives ends =
    begins_chosen (may_be_empty second) (continues one) rest (may_be second good [] rest derives refl)
    (begins_not_right (continues second) _ rest ends)
not_continued one second good apart (word ∷ back) rest derives ends =
    apart_other word (continues one) (starts second) apart (begins second good word back rest derives)

read_both : (one second : Form) (front back rest : List ℕ) → reads one (front ++ (back ++ rest)) ≡ Done (back ++ rest)
    → reads second (back ++ rest) ≡ Done rest
    → reads (Both one second) ((front ++ back) ++ rest) ≡ Done rest
read_both one second front back rest first other =
    ap (reads (Both one second)) (append_assoc front back rest) ∙ ap (λ r. go_on r (λ left. reads second left)) first ∙ other

read_first : (one second : Form) → IsGood one → (words rest : List ℕ) → 1 ≤ length words → Derives one words rest
    → reads one (words ++ rest) ≡ Done rest → reads (Either one second) (words ++ rest) ≡ Done rest
read_first one second good [] rest some derives e = absurd (omega arith)
read_first one second good (word ∷ words) rest some derives e =
    cond_is (is_in word (starts one)) _ _ (begins one good word words rest derives) ∙ e

read_second : (one second : Form) → IsGood second → are_apart (starts one) (starts second) ≡ true → (words rest : List ℕ)
    → Derives second words rest
    → begins_in (continues (Either one second)) rest ≡ false → reads second (words ++ rest) ≡ Done rest
    → reads (Either one second) (words ++ rest) ≡ Done rest
read_second one second good apart [] rest derives ends e =
    cond_not (begins_in (starts one) rest) _ _
    (begins_chosen (may_be_empty second) (starts one) rest (may_be second good [] rest derives refl)
    (begins_not_right (continues one ++ continues second) _ rest ends))
    ∙ e
read_second one second good apart (word ∷ words) rest derives ends e =
    cond_not (is_in word (starts one)) _ _
    (apart_other word (starts one) (starts second) apart (begins second good word words rest derives)) ∙ e

-- a part that stands before others is not continued
not_more : (one : Form) → IsGood one → may_be_empty one ≡ false → are_apart (continues one) (starts one) ≡ true
    → (parts : List (List ℕ)) (rest : List ℕ) → Repeats (Derives one) parts rest
    → begins_in (continues one) rest ≡ false → begins_in (continues one) (joined parts ++ rest) ≡ false
not_more one good never apart [] rest repeats ends = ends
not_more one good never apart ([] ∷ parts) rest repeats ends =
    let some = took_some one good never [] _ repeats.0 in absurd (omega arith)
not_more one good never apart ((word ∷ part) ∷ parts) rest repeats ends =
    apart_other word (continues one) (starts one) apart (begins one good word part _ repeats.0)

begins_part : (one : Form) → IsGood one → (part more rest : List ℕ) → 1 ≤ length part → Derives one part rest
    → begins_in (starts one) (part ++ more) ≡ true
begins_part one good [] more rest some derives = absurd (omega arith)
begins_part one good (word ∷ part) more rest some derives = begins one good word part rest derives

read_many : (one : Form) → IsGood one → may_be_empty one ≡ false → are_apart (continues one) (starts one) ≡ true → IsRead one (Derives one)
    → (parts : List (List ℕ)) (rest : List ℕ) (times : ℕ) → Repeats (Derives one) parts rest
    → begins_in (starts one ++ continues one) rest ≡ false → length (joined parts ++ rest) ≤ times
    → repeat times (reads one) (starts one) (joined parts ++ rest) ≡ Done rest
read_many one good never apart is_read [] rest times repeats ends fits =
    repeat_none one times rest (begins_not_left (starts one) (continues one) rest ends)
read_many one good never apart is_read (part ∷ parts) rest times repeats ends fits =
    let some : 1 ≤ length part = took_some one good never part _ repeats.0 in
    let split = append_assoc part (joined parts) rest in
    let long : length ((part ++ joined parts) ++ rest) ≡ length part + length (joined parts ++ rest) =
    ap length split ∙ length-append part (joined parts ++ rest) in
    let clear = not_more one good never apart parts rest repeats.1 (begins_not_right (starts one) (continues one) rest ends) in
    repeat_more one times ((part ++ joined parts) ++ rest) (joined parts ++ rest) (omega arith)
    (ap (begins_in (starts one)) split ∙ begins_part one good part (joined parts ++ rest) _ some repeats.0)
    (ap (reads one) split ∙ is_read part (joined parts ++ rest) repeats.0 clear)
    (Done rest)
    (λ fewer few. read_many one good never apart is_read parts rest fewer repeats.1 ends (omega arith))

read_lacking : (class : ℕ) (one : Form) (rest : List ℕ) → begins_in (class ∷ []) rest ≡ false
    → read_nearest class (reads one) rest ≡ Done rest
read_lacking class one [] ends = refl
read_lacking class one (word ∷ rest) ends = cond_not (class == word) _ _ (or_false_left (class == word) false ends)

pub complete : (form : Form) → IsGood form → IsRead form (Derives form)
complete (Word class) good words rest derives ends =
    ap (λ w. reads (Word class) (w ++ rest)) derives ∙ cond_is (class == class) _ _ (eqb_itself class)
complete (Closed class) good words rest derives ends = absurd derives
complete Nothing good words rest derives ends = ap (λ w. Done (w ++ rest)) derives
complete (Both one second) good words rest (front, back, split, first, other) ends =
    ap (λ w. reads (Both one second) (w ++ rest)) split
    ∙ read_both one second front back rest
    (complete one good.0 front (back ++ rest) first (not_continued one second good.1 good.4 back rest other ends))
    (complete second good.1 back rest other (begins_not_left (continues second) _ rest ends))
complete (Either one second) good words rest (inl derives) ends =
    read_first one second good.0 words rest (took_some one good.0 good.2 words rest derives) derives
    (complete one good.0 words rest derives
    (begins_not_left (continues one) (continues second) rest (begins_not_left (continues one ++ continues second) _ rest ends)))
complete (Either one second) good words rest (inr derives) ends =
    read_second one second good.1 good.3 words rest derives ends
    (complete second good.1 words rest derives
    (begins_not_right (continues one) (continues second) rest (begins_not_left (continues one ++ continues second) _ rest ends)))
complete (Many one) good words rest (parts, split, repeats) ends =
    ap (λ w. reads (Many one) (w ++ rest)) split
    ∙ read_many one good.0 good.1 good.2 (complete one good.0) parts rest (length (joined parts ++ rest)) repeats ends (omega arith)
complete (Nearest class one) good words rest (inl (none, clear)) ends =
    ap (λ w. reads (Nearest class one) (w ++ rest)) none ∙ read_lacking class one rest clear
complete (Nearest class one) good words rest (inr (tail, split, derives)) ends =
    ap (λ w. reads (Nearest class one) (w ++ rest)) split
    ∙ cond_is (class == class) _ _ (eqb_itself class)
    ∙ complete one good.0 tail rest derives ends
complete (Known facts one) good words rest derives ends =
    complete one good.0 words rest derives (begins_without (continues one) facts.continues rest good.1.continues_right ends)
