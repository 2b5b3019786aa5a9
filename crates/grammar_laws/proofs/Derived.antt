-- What a form derives: how it begins, and that it depends on the first word behind it alone.
use Rattle.std.proofs.Common.{◌≡◌, inl, inr, ℕ, true, false, List, [], ◌∷◌, ◌++◌, refl, sym, ◌∙◌, subst}
use Rattle.std.specs.Prelude.{◌==◌}
use Rattle.grammar_laws.specs.Form.{Form, Word, Closed, Nothing, Both, Either, Many, Nearest, Known, is_in, begins_in, joined, Repeats}
use Rattle.grammar_laws.specs.Form.{Derives, may_be_empty, starts, lacks, IsGood}
use Rattle.grammar_laws.proofs.Classes.{or_left, or_right, and_both, in_left, in_right, in_chosen, within, eqb_itself, SameFirst}
use Rattle.grammar_laws.proofs.Classes.{same_first, begins_same, begins_not_left, begins_not_right, begins_chosen, begins_without}

no_words : (front back : List ℕ) → front ++ back ≡ [] → (front ≡ []) × (back ≡ [])
no_words [] back e = (refl, e)
no_words (word ∷ front) back e = absurd (cc)

-- a form that derives no word may
pub may_be : (form : Form) → IsGood form → (words rest : List ℕ) → Derives form words rest → words ≡ [] → may_be_empty form ≡ true
may_be (Word class) good words rest derives none = absurd (cc)
may_be (Closed class) good words rest derives none = absurd derives
may_be Nothing good words rest derives none = refl
may_be (Both one other) good words rest (front, back, split, first, second) none =
    let parts = no_words front back (sym split ∙ none) in
    and_both (may_be_empty one) (may_be_empty other) (may_be one good.0 front (back ++ rest) first parts.0)
    (may_be other good.1 back rest second parts.1)
may_be (Either one other) good words rest (inl derives) none =
    or_left (may_be_empty one) (may_be_empty other) (may_be one good.0 words rest derives none)
may_be (Either one other) good words rest (inr derives) none =
    or_right (may_be_empty one) (may_be_empty other) (may_be other good.1 words rest derives none)
may_be (Many one) good words rest derives none = refl
may_be (Nearest class one) good words rest derives none = refl
may_be (Known facts one) good words rest derives none = good.1.empty_right (may_be one good.0 words rest derives none)

-- what begins with a word of a class of the form
abbrev pub BeginsIn : List ℕ → (List ℕ → List ℕ → Type 0) → Type 0
BeginsIn classes P = (word : ℕ) (words rest : List ℕ) → P (word ∷ words) rest → is_in word classes ≡ true

first_same : (class word : ℕ) (words tail : List ℕ) → word ∷ words ≡ class ∷ tail → is_in word (class ∷ []) ≡ true
first_same class word words tail e =
    let same : class ≡ word = cc in
    or_left (class == word) false (subst (λ c. (class == c) ≡ true) same (eqb_itself class))

both_begin : (one other : Form) → BeginsIn (starts one) (Derives one) → BeginsIn (starts other) (Derives other)
    → ((rest : List ℕ) → Derives one [] rest → may_be_empty one ≡ true)
    → (word : ℕ) (words rest front back : List ℕ) → word ∷ words ≡ front ++ back → Derives one front (back ++ rest)
    → Derives other back rest
    → is_in word (starts (Both one other)) ≡ true
both_begin one other from_one from_other empty word words rest [] back split first second =
    in_right word (starts one) _ (in_chosen word (may_be_empty one) (starts other) (empty _ first)
    (from_other word words rest (subst (λ b. Derives other b rest) (sym split) second)))
both_begin one other from_one from_other empty word words rest (w ∷ front) back split first second =
    let same : w ≡ word = cc in
    in_left word (starts one) _ (subst (λ c. is_in c (starts one) ≡ true) same (from_one w front _ first))

many_begin : (one : Form) → BeginsIn (starts one) (Derives one)
    → (parts : List (List ℕ)) (word : ℕ) (words rest : List ℕ) → word ∷ words ≡ joined parts → Repeats (Derives one) parts rest
    → is_in word (starts one) ≡ true
many_begin one from_one [] word words rest split repeats = absurd (cc)
many_begin one from_one ([] ∷ parts) word words rest split repeats = many_begin one from_one parts word words rest split repeats.1
many_begin one from_one ((w ∷ part) ∷ parts) word words rest split repeats =
    let same : w ≡ word = cc in
    subst (λ c. is_in c (starts one) ≡ true) same (from_one w part _ repeats.0)

-- the first word that a form derives is one of its first words
pub begins : (form : Form) → IsGood form → BeginsIn (starts form) (Derives form)
begins (Word class) good word words rest derives = first_same class word words [] derives
begins (Closed class) good word words rest derives = absurd derives
begins Nothing good word words rest derives = absurd (cc)
begins (Both one other) good word words rest (front, back, split, first, second) =
    both_begin one other (begins one good.0) (begins other good.1)
    (λ r d. may_be one good.0 [] r d refl) word words rest front back split first second
begins (Either one other) good word words rest (inl derives) =
    in_left word (starts one) (starts other) (begins one good.0 word words rest derives)
begins (Either one other) good word words rest (inr derives) =
    in_right word (starts one) (starts other) (begins other good.1 word words rest derives)
begins (Many one) good word words rest (parts, split, derives) = many_begin one (begins one good.0) parts word words rest split derives
begins (Nearest class one) good word words rest (inl (none, ends)) = absurd (cc)
begins (Nearest class one) good word words rest (inr (tail, split, derives)) = first_same class word words tail split
begins (Known facts one) good word words rest derives =
    within word (starts one) facts.starts good.1.starts_right (begins one good.0 word words rest derives)

-- What is derived before one rest is derived before each that begins with the same word
abbrev pub Moves : (List ℕ → List ℕ → Type 0) → Type 0
Moves P = (words rest other : List ℕ) → SameFirst rest other → P words rest → P words other

moves_many : (one : Form) → Moves (Derives one) → (parts : List (List ℕ)) (rest other : List ℕ) → SameFirst rest other
    → Repeats (Derives one) parts rest → Repeats (Derives one) parts other
moves_many one moved [] rest other same repeats = tt
moves_many one moved (part ∷ parts) rest other same repeats = (
  moved part (joined parts ++ rest) (joined parts ++ other)
      (same_first (joined parts) rest other same) repeats.0,
  moves_many one moved parts rest other same repeats.1,
)

pub moves : (form : Form) → Moves (Derives form)
moves (Word class) words rest other same derives = derives
moves (Closed class) words rest other same derives = derives
moves Nothing words rest other same derives = derives
moves (Both one second) words rest other same (front, back, split, d, e) = (
  front,
  back,
  split,
  moves one front (back ++ rest) (back ++ other)
      (same_first back rest other same) d,
  moves second back rest other same e,
)
moves (Either one second) words rest other same (inl d) = inl (moves one words rest other same d)
moves (Either one second) words rest other same (inr d) = inr (moves second words rest other same d)
moves (Many one) words rest other same (parts, split, d) = (parts, split, moves_many one (moves one) parts rest other same d)
moves (Nearest class one) words rest other same (inl (none, ends)) = inl (none, sym (begins_same (class ∷ []) rest other same) ∙ ends)
moves (Nearest class one) words rest other same (inr (tail, split, d)) = inr (tail, split, moves one tail rest other same d)
moves (Known facts one) words rest other same d = moves one words rest other same d

-- What is derived is derived before each rest that begins with no part that may be lacking
abbrev pub Clears : List ℕ → (List ℕ → List ℕ → Type 0) → Type 0
Clears classes P = (words rest other : List ℕ) → begins_in classes other ≡ false → P words rest → P words other

clears_both : (one second : Form) → Clears (lacks one) (Derives one)
    → (front back rest other : List ℕ) → begins_in (lacks (Both one second)) other ≡ false
    → (back ≡ [] → may_be_empty second ≡ true) → Derives one front (back ++ rest) → Derives one front (back ++ other)
clears_both one second cleared front [] rest other clear empty d =
    cleared front rest other
    (begins_chosen (may_be_empty second) (lacks one) other (empty refl) (begins_not_right (lacks second) _ other clear)) d
clears_both one second cleared front (word ∷ back) rest other clear empty d =
    moves one front (word ∷ back ++ rest) (word ∷ back ++ other) refl d

clears_many : (one : Form) → Clears (lacks one) (Derives one) → (parts : List (List ℕ)) (rest other : List ℕ)
    → begins_in (lacks one) other ≡ false → Repeats (Derives one) parts rest → Repeats (Derives one) parts other
clears_many one cleared [] rest other clear repeats = tt
clears_many one cleared (part ∷ parts) rest other clear repeats =
    (by_more (joined parts) repeats.0, clears_many one cleared parts rest other clear repeats.1)
  where
    by_more : (more : List ℕ) → Derives one part (more ++ rest) → Derives one part (more ++ other)
    by_more [] d = cleared part rest other clear d
    by_more (word ∷ more) d = moves one part (word ∷ more ++ rest) (word ∷ more ++ other) refl d

pub clears : (form : Form) → IsGood form → Clears (lacks form) (Derives form)
clears (Word class) good words rest other clear d = d
clears (Closed class) good words rest other clear d = d
clears Nothing good words rest other clear d = d
clears (Both one second) good words rest other clear (front, back, split, d, e) = (
  front,
  back,
  split,
  clears_both one second (clears one good.0) front back rest other clear (λ none. may_be second good.1 back rest e none) d,
  clears second good.1 back rest other (begins_not_left (lacks second) _ other clear) e,
)
clears (Either one second) good words rest other clear (inl d) =
    inl (clears one good.0 words rest other (begins_not_left (lacks one) (lacks second) other clear) d)
clears (Either one second) good words rest other clear (inr d) =
    inr (clears second good.1 words rest other (begins_not_right (lacks one) (lacks second) other clear) d)
clears (Many one) good words rest other clear (parts, split, d) =
    (parts, split, clears_many one (clears one good.0) parts rest other clear d)
clears (Nearest class one) good words rest other clear (inl (none, ends)) = inl (none, begins_not_left (class ∷ []) (lacks one) other clear)
clears (Nearest class one) good words rest other clear (inr (tail, split, d)) =
    inr (tail, split, clears one good.0 tail rest other (begins_not_right (class ∷ []) (lacks one) other clear) d)
clears (Known facts one) good words rest other clear d =
    clears one good.0 words rest other (begins_without (lacks one) facts.lacks other good.1.lacks_right clear) d
