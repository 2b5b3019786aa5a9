-- What it is for a reader of trees to agree with the reading of a form, and how that is put together.
use Rattle.std.proofs.Common.{◌≡◌, inl, inr, ℕ, zero, suc, Bool, true, false, cond, List, [], ◌∷◌, ◌++◌, length, refl, sym, ap, ◌∙◌, subst}
use Rattle.std.proofs.Common.{append_assoc}
use Rattle.std.specs.Prelude.{◌==◌, ◌||◌, Option, Some, None, Result, Ok, Err}
use Rattle.std.proofs.lemmas.Bool.{eqb-true}
use Rattle.grammar_laws.proofs.Classes.{eqb_itself}
use Rattle.grammar_laws.specs.Form.{Form, Word as AWord, Nothing, Both, Either, Many, is_in, begins_in, starts}
use Rattle.grammar_laws.specs.Reading.{Read, Done, Stop, go_on, repeat, reads}
use Rattle.c_grammar.specs.declared.class.Class.{Class}
use Rattle.c_grammar.specs.declared.class.Class.TheVariants as class
use Rattle.c_grammar.specs.Classes.{number_of, numbered}
use Rattle.c_grammar.specs.Words.{Word, classes}
use Rattle.c_grammar.specs.Spelling.{Rule, word, open_paren, name, each, maybe}
use Rattle.c_grammar.specs.Readers.{Halt, Got, ◌>>=◌, wrong, too_deep, class_at, behind, is_class, take, name_here, read_name, is_open}
use Rattle.c_grammar.specs.Readers.{take_open, read_more, read_each, read_maybe}
use Rattle.c_grammar.proofs.Parts.{length-classes}

-- each word's class is one of the grammar's
abbrev pub AreProper : List Word → Type 0
AreProper [] = Unit {0}
AreProper (first ∷ others) = (number_of (numbered first.class) ≡ first.class) × AreProper others

-- the words stand at the end of others
abbrev pub IsBehind : List Word → List Word → Type 0
IsBehind at from = (front : List Word) × (from ≡ front ++ at)

pub itself : (words : List Word) → IsBehind words words
itself words = ([], refl)

pub one_behind : (first : Word) (others : List Word) → IsBehind others (first ∷ others)
one_behind first others = (first ∷ [], refl)

pub further : {at mid from : List Word} → IsBehind at mid → IsBehind mid from → IsBehind at from
further {at} {mid} {from} (a, e) (b, f) = (b ++ a, f ∙ ap (λ w. b ++ w) e ∙ sym (append_assoc b a at))

proper_back : (front at : List Word) → AreProper (front ++ at) → AreProper at
proper_back [] at p = p
proper_back (first ∷ front) at p = proper_back front at p.1

pub proper_behind : {at from : List Word} → IsBehind at from → AreProper from → AreProper at
proper_behind {at} {from} (front, e) p = proper_back front at (subst AreProper e p)

-- what a reader gives is what the reading of the form gives
abbrev pub Agrees : {X : Type 0} → (X → List Word) → (X → Type 0) → List Word → Result X Halt → Read → Type 0
Agrees rest R from (Ok x) read = (read ≡ Done (classes (rest x))) × R x × IsBehind (rest x) from
Agrees rest R from (Err halt) read = (read ≡ Stop halt.deep (classes halt.at)) × IsBehind halt.at from

-- the same of a reader that gives a thing and the words behind it
abbrev pub AgreesAs : {A : Type 0} → (A → Rule) → List Word → Got A → Read → Type 0
AgreesAs {A} rule from got read = Agrees (λ (x : A × List Word). x.1) (λ x. rule x.0 from x.1) from got read

-- a reader agrees with a form wherever it reads
abbrev pub ReadsAs : {A : Type 0} → (A → Rule) → (List Word → Got A) → Form → Type 0
ReadsAs rule reader form = (words : List Word) → AreProper words → AgreesAs rule words (reader words) (reads form (classes words))

module _ {X Y : Type 0} (restX : X → List Word) (RX : X → Type 0) (restY : Y → List Word) (RY : Y → Type 0) (from : List Word) where
  pub agree_then : (r : Result X Halt) (read : Read) → Agrees restX RX from r read → (next : X → Result Y Halt) (more : List ℕ → Read)
      → ((x : X) → RX x → IsBehind (restX x) from → Agrees restY RY from (next x) (more (classes (restX x))))
      → Agrees restY RY from (r >>= next) (go_on read more)
  agree_then (Ok x) read h next more k = subst (λ r. Agrees restY RY from (next x) (go_on r more)) (sym h.0) (k x h.1 h.2)
  agree_then (Err halt) read h next more k = (ap (λ r. go_on r more) h.0, h.1)

-- a reader that goes on where another ended
pub agree_behind : {X : Type 0} (rest : X → List Word) (R : X → Type 0) {mid from : List Word} → IsBehind mid from
    → (r : Result X Halt) (read : Read) → Agrees rest R mid r read → Agrees rest R from r read
agree_behind rest R b (Ok x) read h = (h.0, h.1, further h.2 b)
agree_behind rest R b (Err halt) read h = (h.0, further h.1 b)

-- the same, with more said
pub agree_as : {X : Type 0} (rest : X → List Word) (R S : X → Type 0) (from : List Word) → ((x : X) → R x → S x)
    → (r : Result X Halt) (read : Read) → Agrees rest R from r read → Agrees rest S from r read
agree_as rest R S from more (Ok x) read h = (h.0, more x h.1, h.2)
agree_as rest R S from more (Err halt) read h = h

pub same_rest : List Word → List Word
same_rest words = words

abbrev pub AgreesOn : (List Word → Type 0) → List Word → Result (List Word) Halt → Read → Type 0
AgreesOn R from got read = Agrees (λ (x : List Word). x) R from got read

pub cond_either : {A : Type 0} (P : A → Type 0) (b : Bool) (x y : A) → (b ≡ true → P x) → (b ≡ false → P y) → P (cond b x y)
cond_either P true x y f g = f refl
cond_either P false x y f g = g refl

-- the class is one that the grammar uses
abbrev pub is_used : Class → Bool
is_used class.OtherKey = false
is_used _ = true

no_used : (c : Class) → is_used c ≡ true → (number_of c == 21) ≡ false
no_used class.OtherKey e = absurd (cc)
no_used _ e = refl

or_false : (b : Bool) → (b || false) ≡ b
or_false true = refl
or_false false = refl

-- a test of the first word's class is the test of its number
pub test_class : (c : Class) (words : List Word) → AreProper words → is_used c ≡ true
    → is_class c (class_at words) ≡ begins_in (number_of c ∷ []) (classes words)
test_class c [] proper used = no_used c used
test_class c (first ∷ others) proper used = ap (λ n. number_of c == n) proper.0 ∙ sym (or_false (number_of c == first.class))

-- the same of a test of several classes
pub test_classes : (begin : Class → Bool) (all : List ℕ) → ((c : Class) → begin c ≡ is_in (number_of c) all) → begin class.OtherKey ≡ false
    → (words : List Word) → AreProper words → begin (class_at words) ≡ begins_in all (classes words)
test_classes begin all same other [] proper = other
test_classes begin all same other (first ∷ others) proper = same (numbered first.class) ∙ ap (λ n. is_in n all) proper.0

-- a word of the class
pub take_agrees : (c : Class) → is_used c ≡ true → (words : List Word) → AreProper words
    → AgreesOn (λ to. word (number_of c) words to) words (take c words) (reads (AWord (number_of c)) (classes words))
take_agrees c used [] proper =
    subst (λ b. AgreesOn (λ to. word (number_of c) [] to) [] (cond b (Ok []) (wrong [])) (Stop false [])) (sym (no_used c used))
    (refl, itself [])
take_agrees c used (first ∷ others) proper =
    subst (λ n. AgreesOn (λ to. word (number_of c) (first ∷ others) to) (first ∷ others)
    (cond (number_of c == n) (Ok others) (wrong (first ∷ others))) (reads (AWord (number_of c)) (first.class ∷ classes others)))
    (sym proper.0) (by_test (number_of c == first.class) refl)
  where
    by_test : (b : Bool) → (number_of c == first.class) ≡ b
        → AgreesOn (λ to. word (number_of c) (first ∷ others) to) (first ∷ others) (cond b (Ok others) (wrong (first ∷ others)))
        (cond b (Done (classes others)) (Stop false (first.class ∷ classes others)))
    by_test true e = (refl, (sym (eqb-true (number_of c) first.class e), refl), one_behind first others)
    by_test false e = (refl, itself (first ∷ others))

pub name_agrees : ReadsAs name read_name (AWord 1)
name_agrees [] proper = (refl, itself [])
name_agrees (first ∷ others) proper =
    subst (λ n. AgreesAs name (first ∷ others) (cond (1 == n) (Ok (name_here (first ∷ others), others)) (wrong (first ∷ others)))
    (reads (AWord 1) (first.class ∷ classes others)))
    (sym proper.0) (by_test (1 == first.class) refl)
  where
    by_test : (b : Bool) → (1 == first.class) ≡ b
        → AgreesAs name (first ∷ others) (cond b (Ok (name_here (first ∷ others), others)) (wrong (first ∷ others)))
        (cond b (Done (classes others)) (Stop false (first.class ∷ classes others)))
    by_test true e = (refl, (sym (eqb-true 1 first.class e), refl, refl, refl), one_behind first others)
    by_test false e = (refl, itself (first ∷ others))

-- what is read where the first word has a class
abbrev pub AgreesBy : {X : Type 0} → (X → List Word) → (List Word → X → Type 0) → (Class → List Word → Result X Halt) → Form → Type 0
AgreesBy rest R reader form =
    (c : Class) (first : Word) (others : List Word) → first.class ≡ number_of c → AreProper others
    → Agrees rest (R (first ∷ others)) (first ∷ others) (reader c (first ∷ others)) (reads form (number_of c ∷ classes others))

-- a reader by the class of the first word
pub by_class : {X : Type 0} (rest : X → List Word) (R : List Word → X → Type 0) (reader : Class → List Word → Result X Halt) (form : Form)
    → Agrees rest (R []) [] (reader class.OtherKey []) (reads form []) → AgreesBy rest R reader form
    → (words : List Word) → AreProper words → Agrees rest (R words) words (reader (class_at words) words) (reads form (classes words))
by_class rest R reader form none some [] proper = none
by_class rest R reader form none some (first ∷ others) proper =
    subst (λ n. Agrees rest (R (first ∷ others)) (first ∷ others) (reader (numbered first.class) (first ∷ others))
    (reads form (n ∷ classes others)))
    proper.0 (some (numbered first.class) first others (sym proper.0) proper.1)

-- a word that no rule has there
pub wrong_agrees : {X : Type 0} (rest : X → List Word) (R : X → Type 0) (first : Word) (others : List Word) (n : ℕ) → first.class ≡ n
    → Agrees rest R (first ∷ others) (wrong (first ∷ others)) (Stop false (n ∷ classes others))
wrong_agrees rest R first others n e = (ap (λ k. Stop false (k ∷ classes others)) (sym e), itself (first ∷ others))

pub deep_agrees : {X : Type 0} (rest : X → List Word) (R : X → Type 0) (first : Word) (others : List Word) (n : ℕ) → first.class ≡ n
    → Agrees rest R (first ∷ others) (too_deep (first ∷ others)) (Stop true (n ∷ classes others))
deep_agrees rest R first others n e = (ap (λ k. Stop true (k ∷ classes others)) (sym e), itself (first ∷ others))

open_by : Class → List Word → Result (List Word) Halt
open_by c words = cond (is_open c) (Ok (behind words)) (wrong words)

open_form : Form
open_form = Either (AWord 3) (AWord 4)

open_by_agrees : AgreesBy (λ (x : List Word). x) (λ words to. open_paren words to) open_by open_form
unfolding open_by open_form
open_by_agrees class.Open first others e proper = (refl, inl (e, refl), one_behind first others)
open_by_agrees class.Cast first others e proper = (refl, inr (e, refl), one_behind first others)
open_by_agrees _ first others e proper = wrong_agrees (λ (x : List Word). x) (λ to. open_paren (first ∷ others) to) first others _ e

pub open_agrees : (words : List Word) → AreProper words
    → AgreesOn (λ to. open_paren words to) words (take_open words) (reads (Either (AWord 3) (AWord 4)) (classes words))
unfolding open_by open_form
open_agrees words proper =
    by_class (λ (x : List Word). x) (λ w to. open_paren w to) open_by open_form (refl, itself []) open_by_agrees words proper

-- a reader agrees with a form where a test of the first word holds
abbrev pub ReadsWhere : {A : Type 0} → (Class → Bool) → (A → Rule) → (List Word → Got A) → Form → Type 0
ReadsWhere begin rule reader form =
    (words : List Word) → AreProper words → begin (class_at words) ≡ true → AgreesAs rule words (reader words) (reads form (classes words))

every_agrees : {A : Type 0} (rule : A → Rule) (reader : List Word → Got A) (form : Form) (begin : Class → Bool)
    → ((words : List Word) → AreProper words → begin (class_at words) ≡ begins_in (starts form) (classes words))
    → ReadsWhere begin rule reader form
    → (times : ℕ) (words : List Word) → AreProper words
    → AgreesAs (each rule) words (read_each times begin reader words) (repeat times (reads form) (starts form) (classes words))
every_agrees rule reader form begin same agrees zero words proper = (refl, refl, itself words)
every_agrees {A} rule reader form begin same agrees (suc times) words proper =
    by_test (begin (class_at words)) refl (begins_in (starts form) (classes words)) (same words proper)
    (λ mid p. every_agrees rule reader form begin same agrees times mid p)
  where
    by_test : (b : Bool) → begin (class_at words) ≡ b → (c : Bool) → b ≡ c
        → ((mid : List Word) → AreProper mid
        → AgreesAs (each rule) mid (read_each times begin reader mid) (repeat times (reads form) (starts form) (classes mid)))
        → AgreesAs (each rule) words
        (cond b (reader words >>= (λ one. read_each times begin reader one.1 >>= (λ others. Ok (one.0 ∷ others.0, others.1))))
        (Ok ([], words)))
        (cond c (go_on (reads form (classes words)) (λ rest. repeat times (reads form) (starts form) rest)) (Done (classes words)))
    by_test true is false e others = absurd (cc)
    by_test false is true e others = absurd (cc)
    by_test false is false e others = (refl, refl, itself words)
    by_test true is true e others =
        agree_then (λ (x : A × List Word). x.1) (λ x. rule x.0 words x.1) (λ (y : List A × List Word). y.1)
        (λ y. each rule y.0 words y.1) words
        (reader words) (reads form (classes words)) (agrees words proper is) _ (λ rest. repeat times (reads form) (starts form) rest)
        (λ x h b. more x h b (others x.1 (proper_behind b proper)))
      where
        more : (x : A × List Word) → rule x.0 words x.1 → IsBehind x.1 words
            → AgreesAs (each rule) x.1 (read_each times begin reader x.1) (repeat times (reads form) (starts form) (classes x.1))
            → AgreesAs (each rule) words (read_each times begin reader x.1 >>= (λ others. Ok (x.0 ∷ others.0, others.1)))
            (repeat times (reads form) (starts form) (classes x.1))
        more x h b k = by_got (read_each times begin reader x.1) (repeat times (reads form) (starts form) (classes x.1)) k
          where
            by_got : (got : Got (List A)) (read : Read) → AgreesAs (each rule) x.1 got read
                → AgreesAs (each rule) words (got >>= (λ others. Ok (x.0 ∷ others.0, others.1))) read
            by_got (Ok got) read l = (l.0, (x.1, h, l.1), further l.2 b)
            by_got (Err halt) read l = (l.0, further l.1 b)

pub each_agrees : {A : Type 0} (rule : A → Rule) (reader : List Word → Got A) (form : Form) (begin : Class → Bool)
    → ((words : List Word) → AreProper words → begin (class_at words) ≡ begins_in (starts form) (classes words))
    → ReadsWhere begin rule reader form
    → (words : List Word) → AreProper words
    → AgreesAs (each rule) words (read_each (length words) begin reader words) (reads (Many form) (classes words))
each_agrees rule reader form begin same agrees words proper =
    subst (λ n. AgreesAs (each rule) words (read_each n begin reader words) (reads (Many form) (classes words))) (length-classes words)
    (every_agrees rule reader form begin same agrees (length (classes words)) words proper)

-- what was read, made into another thing
pub agree_map : {X Y : Type 0} (restX : X → List Word) (RX : X → Type 0) (restY : Y → List Word) (RY : Y → Type 0) (from : List Word)
    (make : X → Y)
    → ((x : X) → restY (make x) ≡ restX x) → ((x : X) → RX x → RY (make x)) → (r : Result X Halt) (read : Read)
    → Agrees restX RX from r read
    → Agrees restY RY from (r >>= (λ x. Ok (make x))) read
agree_map restX RX restY RY from make same more (Ok x) read h =
    (h.0 ∙ ap (λ w. Done (classes w)) (sym (same x)), more x h.1, subst (λ w. IsBehind w from) (sym (same x)) h.2)
agree_map restX RX restY RY from make same more (Err halt) read h = h

-- the same behind a word
pub agree_skip : {X : Type 0} (rest : X → List Word) (R S : X → Type 0) (first : Word) (others : List Word) → ((x : X) → R x → S x)
    → (r : Result X Halt) (read : Read)
    → Agrees rest R others r read → Agrees rest S (first ∷ others) r read
agree_skip rest R S first others more r read h =
    agree_behind rest S (one_behind first others) r read (agree_as rest R S others more r read h)

-- the first word has the class that a test says
pub tested : (c : Class) (words : List Word) → AreProper words → is_used c ≡ true → is_class c (class_at words) ≡ true
    → (first : Word) × (others : List Word) × (words ≡ first ∷ others) × (first.class ≡ number_of c)
tested c [] proper used e = absurd (let f = no_used c used in let z : true ≡ false = sym e ∙ f in cc)
tested c (first ∷ others) proper used e =
    (first, others, refl, sym (proper.0) ∙ sym (eqb-true (number_of c) (number_of (numbered first.class)) e))

-- a thing behind a word of a class
pub behind_word : {A : Type 0} (c : Class) → is_used c ≡ true → (rule : A → Rule) (reader : List Word → Got A) (form : Form)
    → ReadsAs rule reader form
    → ReadsWhere (is_class c) (λ a from to. (mid : List Word) × word (number_of c) from mid × rule a mid to) (λ w. reader (behind w))
    (Both (AWord (number_of c)) form)
behind_word {A} c used rule reader form agrees words proper e =
    let (first, others, split, is) = tested c words proper used e in
    subst (λ w. AgreesAs (λ a from to. (mid : List Word) × word (number_of c) from mid × rule a mid to) w (reader (behind w))
    (reads (Both (AWord (number_of c)) form) (classes w)))
    (sym split) (at first others is (subst AreProper split proper))
  where
    at : (first : Word) (others : List Word) → first.class ≡ number_of c → AreProper (first ∷ others)
        → AgreesAs (λ a from to. (mid : List Word) × word (number_of c) from mid × rule a mid to) (first ∷ others) (reader others)
        (reads (Both (AWord (number_of c)) form) (first.class ∷ classes others))
    at first others is p =
        let here : Done (classes others)
        ≡ cond (number_of c == first.class) (Done (classes others)) (Stop false (first.class ∷ classes others)) =
        sym (ap (λ n. cond (number_of c == n) (Done (classes others)) (Stop false (n ∷ classes others))) is
        ∙ ap (λ b. cond b (Done (classes others)) (Stop false (number_of c ∷ classes others))) (eqb_itself (number_of c))) in
        subst (λ r. AgreesAs (λ a from to. (mid : List Word) × word (number_of c) from mid × rule a mid to) (first ∷ others) (reader others)
        (go_on r (λ rest. reads form rest))) here
        (agree_skip (λ (x : A × List Word). x.1) (λ x. rule x.0 others x.1)
        (λ x. (mid : List Word) × word (number_of c) (first ∷ others) mid × rule x.0 mid x.1) first others
        (λ x h. (others, (is, refl), h)) (reader others) (reads form (classes others)) (agrees others p.1))

pub more_agrees : {A : Type 0} (rule : A → Rule) (reader : List Word → Got A) (form : Form) → ReadsAs rule reader form
    → (words : List Word) → AreProper words
    → AgreesAs (each (λ a from to. (mid : List Word) × word 26 from mid × rule a mid to)) words (read_more (length words) reader words)
    (reads (Many (Both (AWord 26) form)) (classes words))
more_agrees rule reader form agrees words proper =
    each_agrees (λ a from to. (mid : List Word) × word 26 from mid × rule a mid to) (λ w. reader (behind w)) (Both (AWord 26) form)
    (is_class class.Comma)
    (λ w p. test_class class.Comma w p refl) (behind_word class.Comma refl rule reader form agrees) words proper

pub maybe_agrees : {A : Type 0} (begin : Class → Bool) (rule : A → Rule) (reader : List Word → Got A) (form : Form)
    → ((words : List Word) → AreProper words → begin (class_at words) ≡ begins_in (starts form) (classes words))
    → ReadsWhere begin rule reader form
    → (words : List Word) → AreProper words
    → AgreesAs (maybe rule) words (read_maybe begin reader words) (reads (Either form Nothing) (classes words))
maybe_agrees {A} begin rule reader form same agrees words proper =
    by_test (begin (class_at words)) refl (begins_in (starts form) (classes words)) (same words proper)
  where
    by_test : (b : Bool) → begin (class_at words) ≡ b → (c : Bool) → b ≡ c
        → AgreesAs (maybe rule) words (cond b (reader words >>= (λ one. Ok (Some one.0, one.1))) (Ok (None, words)))
        (cond c (reads form (classes words)) (Done (classes words)))
    by_test true is false e = absurd (cc)
    by_test false is true e = absurd (cc)
    by_test false is false e = (refl, refl, itself words)
    by_test true is true e =
        agree_map (λ (x : A × List Word). x.1) (λ x. rule x.0 words x.1) (λ (y : Option A × List Word). y.1)
        (λ y. maybe rule y.0 words y.1) words (λ x. (Some x.0, x.1)) (λ x. refl) (λ x h. h)
        (reader words) (reads form (classes words)) (agrees words proper is)

-- steps of a reader of things of a rule, from some words on
module _ {B : Type 0} (rule : B → Rule) (from : List Word) (proper : AreProper from) where
  pub step : {A : Type 0} (first : A → Rule) (reader : List Word → Got A) (form : Form) → ReadsAs first reader form → (mid : List Word)
      → IsBehind mid from
      → (next : A × List Word → Got B) (more : List ℕ → Read)
      → ((x : A × List Word) → first x.0 mid x.1 → IsBehind x.1 from → AgreesAs rule from (next x) (more (classes x.1)))
      → AgreesAs rule from (reader mid >>= next) (go_on (reads form (classes mid)) more)
  step {A} first reader form agrees mid b next more k =
      agree_then (λ (x : A × List Word). x.1) (λ x. first x.0 mid x.1) (λ (y : B × List Word). y.1) (λ y. rule y.0 from y.1) from
      (reader mid) (reads form (classes mid))
      (agree_behind (λ (x : A × List Word). x.1) (λ x. first x.0 mid x.1) b (reader mid) (reads form (classes mid))
      (agrees mid (proper_behind b proper)))
      next more k

  -- over a word
  pub over : (c : Class) → is_used c ≡ true → (mid : List Word) → IsBehind mid from → (next : List Word → Got B) (more : List ℕ → Read)
      → ((to : List Word) → word (number_of c) mid to → IsBehind to from → AgreesAs rule from (next to) (more (classes to)))
      → AgreesAs rule from (take c mid >>= next) (go_on (reads (AWord (number_of c)) (classes mid)) more)
  over c used mid b next more k =
      agree_then (λ (x : List Word). x) (λ to. word (number_of c) mid to) (λ (y : B × List Word). y.1) (λ y. rule y.0 from y.1) from
      (take c mid) (reads (AWord (number_of c)) (classes mid))
      (agree_behind (λ (x : List Word). x) (λ to. word (number_of c) mid to) b (take c mid) (reads (AWord (number_of c)) (classes mid))
      (take_agrees c used mid (proper_behind b proper)))
      next more k

  -- over `(`
  pub over_open : (mid : List Word) → IsBehind mid from → (next : List Word → Got B) (more : List ℕ → Read)
      → ((to : List Word) → open_paren mid to → IsBehind to from → AgreesAs rule from (next to) (more (classes to)))
      → AgreesAs rule from (take_open mid >>= next) (go_on (reads (Either (AWord 3) (AWord 4)) (classes mid)) more)
  over_open mid b next more k =
      agree_then (λ (x : List Word). x) (λ to. open_paren mid to) (λ (y : B × List Word). y.1) (λ y. rule y.0 from y.1) from
      (take_open mid) (reads (Either (AWord 3) (AWord 4)) (classes mid))
      (agree_behind (λ (x : List Word). x) (λ to. open_paren mid to) b (take_open mid) (reads (Either (AWord 3) (AWord 4)) (classes mid))
      (open_agrees mid (proper_behind b proper)))
      next more k

  -- the last word
  pub at_word : (c : Class) → is_used c ≡ true → (mid : List Word) → IsBehind mid from → (b : B)
      → ((to : List Word) → word (number_of c) mid to → rule b from to)
      → AgreesAs rule from (take c mid >>= (λ to. Ok (b, to))) (reads (AWord (number_of c)) (classes mid))
  at_word c used mid b made k =
      agree_map (λ (x : List Word). x) (λ to. word (number_of c) mid to) (λ (y : B × List Word). y.1) (λ y. rule y.0 from y.1) from
      (λ to. (made, to)) (λ x. refl) k
      (take c mid) (reads (AWord (number_of c)) (classes mid))
      (agree_behind (λ (x : List Word). x) (λ to. word (number_of c) mid to) b (take c mid) (reads (AWord (number_of c)) (classes mid))
      (take_agrees c used mid (proper_behind b proper)))

  -- the last part
  pub at_last : {A : Type 0} (last : A → Rule) (reader : List Word → Got A) (form : Form) → ReadsAs last reader form → (mid : List Word)
      → IsBehind mid from → (make : A → B)
      → ((a : A) (to : List Word) → last a mid to → rule (make a) from to)
      → AgreesAs rule from (reader mid >>= (λ x. Ok (make x.0, x.1))) (reads form (classes mid))
  at_last {A} last reader form agrees mid b make k =
      agree_map (λ (x : A × List Word). x.1) (λ x. last x.0 mid x.1) (λ (y : B × List Word). y.1) (λ y. rule y.0 from y.1) from
      (λ x. (make x.0, x.1)) (λ x. refl) (λ x h. k x.0 x.1 h)
      (reader mid) (reads form (classes mid))
      (agree_behind (λ (x : A × List Word). x.1) (λ x. last x.0 mid x.1) b (reader mid) (reads form (classes mid))
      (agrees mid (proper_behind b proper)))

  -- the last part, which is read as it is
  pub at_end : (got : Got B) (read : Read) (mid : List Word) → IsBehind mid from → (more : B → Rule)
      → ((b : B) (to : List Word) → more b mid to → rule b from to) → AgreesAs more mid got read → AgreesAs rule from got read
  at_end got read mid b more k h =
      agree_as (λ (y : B × List Word). y.1) (λ y. more y.0 mid y.1) (λ y. rule y.0 from y.1) from (λ y l. k y.0 y.1 l) got read
      (agree_behind (λ (y : B × List Word). y.1) (λ y. more y.0 mid y.1) b got read h)
