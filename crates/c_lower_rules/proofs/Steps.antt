-- What a rule of the grammar says of its tree, where the words before it are good: the step that it is, and how steps join.
use Rattle.std.proofs.Common.{◌≡◌, inl, inr, ℕ, ◌+◌, ◌*◌, ◌<◌, ◌≤◌, List, [], ◌∷◌, length, sym, ap, subst, arith}
use Rattle.std.specs.Prelude.{Some, None, IfSome}
use Rattle.std.specs.List.{AllByRecursion}
use Rattle.shape_data.specs.Names.{IsCName}
use Rattle.c_grammar.specs.declared.tokens.places.Place.{Place}
use Rattle.c_grammar.specs.Classes
use Rattle.c_grammar.specs.Words.{Word}
use Rattle.c_grammar.specs.Trees.{Name}
use Rattle.c_grammar.specs.Spelling.{Rule, ◌⨾◌, word, word_at, open_paren, name, number, each, maybe}
use Rattle.c_lower_rules.specs.Texts.{IsNamed, IsLine}
use Rattle.c_lower_rules.specs.Numbers.{IsIntNumber}
use Rattle.c_lower_rules.proofs.GoodWords.{AreGood}

-- from these words to those a fact is found, and the words behind are good too
pub record Has (from to : List Word) (P : Type 0) : Type 0 where
  pub good : AreGood to
  pub fewer : length to ≤ length from
  pub is : P

pub nothing_else : {P : Type 0} (from to : List Word) → AreGood from → from ≡ to → P → Has from to P
nothing_else from to good same p =
    let long : length from ≡ length to = ap length same in record { good = subst AreGood same good; fewer = omega arith; is = p }

-- one step behind another
pub then : {from mid to : List Word} {P Q : Type 0} → Has from mid P → (Has from mid P → Has mid to Q) → Has from to Q
then {from} {mid} {to} one next =
    let other = next one in record { good = other.good; fewer = omega (arith, one.fewer, other.fewer); is = other.is }

-- the last step, and the whole fact
pub ends : {from to : List Word} {P Q : Type 0} → Has from to P → (P → Q) → Has from to Q
ends step f = record { good = step.good; fewer = step.fewer; is = f step.is }

-- what a rule shows of a tree
abbrev pub Shows : {A : Type 0} → (A → Rule) → (A → Type 0) → Type 0
Shows {A} rule P = (a : A) (from to : List Word) → AreGood from → rule a from to → Has from to (P a)

-- and that the tree takes a word at least
abbrev pub Takes : {A : Type 0} → (A → Rule) → (A → Type 0) → Type 0
Takes {A} rule P = (a : A) (from to : List Word) → AreGood from → rule a from to → Has from to (P a × (length to < length from))

behind_first : (first : Word) (others : List Word) → AreGood (first ∷ others) → AreGood others
behind_first first others good = record { each = good.each.1; countable = omega (arith, good.countable) }

-- one word, and what is known of it
one_word : {P : Type 0} (first : Word) (others to : List Word) → AreGood (first ∷ others) → others ≡ to → P
    → Has (first ∷ others) to (P × (length to < length (first ∷ others)))
one_word first others to good same p =
    let long : length others ≡ length to = ap length same in
    record { good = subst AreGood same (behind_first first others good); fewer = omega arith; is = (p, omega arith) }

pub a_word : (class : ℕ) (from to : List Word) → AreGood from → word class from to → Has from to (length to < length from)
a_word class [] to good h = absurd h
a_word class (first ∷ others) to good h = ends (one_word {P = Unit {0}} first others to good h.1 tt) (λ w. w.1)

pub a_word_at : (place : Place) (class : ℕ) (from to : List Word) → AreGood from → word_at place class from to
    → Has from to (IsLine place × (length to < length from))
a_word_at place class [] to good h = absurd h
a_word_at place class (first ∷ others) to good h = one_word first others to good h.2 (subst IsLine h.1 good.each.0.line)

pub an_open : (from to : List Word) → AreGood from → open_paren from to → Has from to (length to < length from)
an_open from to good (inl h) = a_word Classes.OPEN from to good h
an_open from to good (inr h) = a_word Classes.CAST from to good h

-- a name is a C name, and has a line
pub record IsFit (n : Name) : Type 0 where
  pub named : IsNamed n
  pub line : IsLine n.place

pub a_name : Takes name IsFit
a_name n [] to good h = absurd h
a_name n (first ∷ others) to good h =
    one_word first others to good h.3
    (record { named = subst IsCName h.2 (good.each.0.text_is.name h.0); line = subst IsLine h.1 good.each.0.line })

pub a_number : (place : Place) (value : ℕ) (from to : List Word) → AreGood from → number place value from to
    → Has from to (IsLine place × IsIntNumber value)
a_number place value [] to good h = absurd h
a_number place value (first ∷ others) to good h =
    ends (one_word first others to good h.3
    (subst IsLine h.1 good.each.0.line, subst IsIntNumber (sym h.2) (good.each.0.text_is.number h.0))) (λ w. w.0)

pub all_shown : {A : Type 0} (rule : A → Rule) (P : A → Type 0) → Shows rule P → Shows (each rule) (AllByRecursion P)
all_shown rule P shows [] from to good h = nothing_else from to good h tt
all_shown rule P shows (one ∷ others) from to good (mid, h, k) =
    then (shows one from mid good h) (λ x. ends (all_shown rule P shows others mid to x.good k) (λ y. (x.is, y)))

-- things behind commas: each takes two words
pub more_shown : {A : Type 0} (rule : A → Rule) (P : A → Type 0) → Takes rule P → (all : List A) (from to : List Word) → AreGood from
    → each (λ one. word Classes.COMMA ⨾ rule one) all from to
    → Has from to (AllByRecursion P all × (length to + 2 * length all ≤ length from))
more_shown rule P takes [] from to good h =
    let long : length from ≡ length to = ap length h in nothing_else from to good h (tt, omega arith)
more_shown rule P takes (one ∷ others) from to good (mid, (a, c, h), k) =
    then (a_word Classes.COMMA from a good c) (λ w.
    then (takes one a mid w.good h) (λ x.
    ends (more_shown rule P takes others mid to x.good k) (λ y. ((x.is.0, y.0), omega (arith, w.is, x.is.1, y.1)))))

pub maybe_shown : {A : Type 0} (rule : A → Rule) (P : A → Type 0) → Shows rule P → Shows (maybe rule) (λ one. IfSome one P)
maybe_shown rule P shows None from to good h = nothing_else from to good h tt
maybe_shown rule P shows (Some one) from to good h = shows one from to good h
