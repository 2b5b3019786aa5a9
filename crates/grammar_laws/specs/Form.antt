-- Grammars in extended Backus-Naur form (ISO/IEC 14977) over words of numbered classes, and what they derive.
use Rattle.std.specs.Prelude.{◌≡◌, ℕ, Bool, true, false, ◌&&◌, ◌||◌, ◌==◌, not, ◌⊎◌, List, [], ◌∷◌, ◌++◌, if◌then◌else◌}

-- What is known of a form without looking into it. The lists may have more classes than are needed.
pub record Facts : Type 0 where
  -- the classes that its first word may have
  pub starts : List ℕ
  -- the classes of a word behind it that would be read as a part of it
  pub continues : List ℕ
  -- the classes of the words whose parts it may lack only where they don't follow
  pub lacks : List ℕ
  -- it may have no word
  pub may_be_empty : Bool
  -- words that it derives
  pub sample : List ℕ

pub data Form : Type 0 where
  -- a word of the class
  Word : ℕ → Form
  -- nothing: a word of the class would open a level of nesting that there isn't
  Closed : ℕ → Form
  -- no word
  Nothing : Form
  -- one form behind another
  Both : Form → Form → Form
  -- one form or another
  Either : Form → Form → Form
  -- a form any number of times
  Many : Form → Form
  -- a word of the class and a form behind it, or else no word, and then no word of the class follows
  Nearest : ℕ → Form → Form
  -- a form of which these facts are known
  Known : Facts → Form → Form

-- the class is one of these
abbrev pub is_in : ℕ → List ℕ → Bool
is_in class [] = false
is_in class (one ∷ others) = one == class || is_in class others

-- the first word, where there is one, has one of these classes
abbrev pub begins_in : List ℕ → List ℕ → Bool
begins_in classes [] = false
begins_in classes (word ∷ words) = is_in word classes

-- lists of words one behind the other
abbrev pub joined : List (List ℕ) → List ℕ
joined [] = []
joined (part ∷ parts) = part ++ joined parts

-- each part has the property before what follows it
abbrev pub Repeats : (List ℕ → List ℕ → Type 0) → List (List ℕ) → List ℕ → Type 0
Repeats P [] rest = Unit {0}
Repeats P (part ∷ parts) rest = P part (joined parts ++ rest) × Repeats P parts rest

-- the form derives the words, before the rest
abbrev pub Derives : Form → List ℕ → List ℕ → Type 0
Derives (Word class) words rest = words ≡ class ∷ []
Derives (Closed class) words rest = ⊥
Derives Nothing words rest = words ≡ []
Derives (Both one other) words rest =
    (front back : List ℕ) × (words ≡ front ++ back) × Derives one front (back ++ rest) × Derives other back rest
Derives (Either one other) words rest = Derives one words rest ⊎ Derives other words rest
Derives (Many one) words rest = (parts : List (List ℕ)) × (words ≡ joined parts) × Repeats (Derives one) parts rest
Derives (Nearest class one) words rest =
    ((words ≡ []) × (begins_in (class ∷ []) rest ≡ false)) ⊎ ((tail : List ℕ) × (words ≡ class ∷ tail) × Derives one tail rest)
Derives (Known facts one) words rest = Derives one words rest

-- the form may derive no word
abbrev pub may_be_empty : Form → Bool
may_be_empty (Word class) = false
may_be_empty (Closed class) = false
may_be_empty Nothing = true
may_be_empty (Both one other) = may_be_empty one && may_be_empty other
may_be_empty (Either one other) = may_be_empty one || may_be_empty other
may_be_empty (Many one) = true
may_be_empty (Nearest class one) = true
may_be_empty (Known facts one) = facts.may_be_empty

-- the classes that the first word may have
abbrev pub starts : Form → List ℕ
starts (Word class) = class ∷ []
starts (Closed class) = class ∷ []
starts Nothing = []
starts (Both one other) = starts one ++ (if may_be_empty one then starts other else [])
starts (Either one other) = starts one ++ starts other
starts (Many one) = starts one
starts (Nearest class one) = class ∷ []
starts (Known facts one) = facts.starts

-- the classes of a word behind what is derived that would be read as a part of it
abbrev pub continues : Form → List ℕ
continues (Word class) = []
continues (Closed class) = []
continues Nothing = []
continues (Both one other) = continues other ++ (if may_be_empty other then continues one else [])
continues (Either one other) = (continues one ++ continues other) ++ (if may_be_empty other then starts one else [])
continues (Many one) = starts one ++ continues one
continues (Nearest class one) = continues one
continues (Known facts one) = facts.continues

-- the classes of the words whose parts may be lacking only where they don't follow
abbrev pub lacks : Form → List ℕ
lacks (Word class) = []
lacks (Closed class) = []
lacks Nothing = []
lacks (Both one other) = lacks other ++ (if may_be_empty other then lacks one else [])
lacks (Either one other) = lacks one ++ lacks other
lacks (Many one) = lacks one
lacks (Nearest class one) = class ∷ lacks one
lacks (Known facts one) = facts.lacks

-- the form derives something
abbrev pub derives_some : Form → Bool
derives_some (Word class) = true
derives_some (Closed class) = false
derives_some Nothing = true
derives_some (Both one other) = derives_some one && derives_some other
derives_some (Either one other) = derives_some one || derives_some other
derives_some (Many one) = true
derives_some (Nearest class one) = true
derives_some (Known facts one) = true

-- words that the form derives, if it derives any
abbrev pub sample : Form → List ℕ
sample (Word class) = class ∷ []
sample (Closed class) = []
sample Nothing = []
sample (Both one other) = sample one ++ sample other
sample (Either one other) = if derives_some one then sample one else sample other
sample (Many one) = []
sample (Nearest class one) = []
sample (Known facts one) = facts.sample

-- each class of the first list is in the second
abbrev pub are_in : List ℕ → List ℕ → Bool
are_in [] others = true
are_in (class ∷ classes) others = is_in class others && are_in classes others

-- no class is in both lists
abbrev pub are_apart : List ℕ → List ℕ → Bool
are_apart [] others = true
are_apart (class ∷ classes) others = not (is_in class others) && are_apart classes others

-- the facts are right of the form
pub record AreRight (facts : Facts) (form : Form) : Type 0 where
  pub starts_right : are_in (starts form) facts.starts ≡ true
  pub continues_right : are_in (continues form) facts.continues ≡ true
  pub lacks_right : are_in (lacks form) facts.lacks ≡ true
  pub some : derives_some form ≡ true
  pub empty_right : may_be_empty form ≡ true → facts.may_be_empty ≡ true
  pub sample_right : (rest : List ℕ) → begins_in facts.lacks rest ≡ false → Derives form facts.sample rest

-- one word of lookahead tells how the form is read, and each part of it that can be entered derives something
-- (LL(1): Aho, Lam, Sethi and Ullman, Compilers, 4.4.3)
abbrev pub IsGood : Form → Type 0
IsGood (Word class) = Unit {0}
IsGood (Closed class) = Unit {0}
IsGood Nothing = Unit {0}
IsGood (Both one other) =
    IsGood one × IsGood other × (derives_some one ≡ true) × (derives_some other ≡ true)
    × (are_apart (continues one) (starts other) ≡ true) × (begins_in (lacks one) (sample other) ≡ false)
IsGood (Either one other) =
    IsGood one × IsGood other × (may_be_empty one ≡ false) × (are_apart (starts one) (starts other) ≡ true)
IsGood (Many one) =
    IsGood one × (may_be_empty one ≡ false) × (are_apart (continues one) (starts one) ≡ true) × (derives_some one ≡ true)
IsGood (Nearest class one) = IsGood one × (derives_some one ≡ true)
IsGood (Known facts one) = IsGood one × AreRight facts one

-- no word of the class is a part of the form
abbrev pub Avoids : ℕ → Form → Type 0
Avoids avoided (Word class) = (class == avoided) ≡ false
Avoids avoided (Closed class) = Unit {0}
Avoids avoided Nothing = Unit {0}
Avoids avoided (Both one other) = Avoids avoided one × Avoids avoided other
Avoids avoided (Either one other) = Avoids avoided one × Avoids avoided other
Avoids avoided (Many one) = Avoids avoided one
Avoids avoided (Nearest class one) = ((class == avoided) ≡ false) × Avoids avoided one
Avoids avoided (Known facts one) = Avoids avoided one
