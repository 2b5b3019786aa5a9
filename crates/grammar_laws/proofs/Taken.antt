-- Where a form was read, the words that were taken are derived, and are taken before each rest that begins with the
-- same word.
use Rattle.std.proofs.Common.{◌≡◌, inl, inr, ℕ, zero, suc, ◌+◌, ◌≤◌, Bool, true, false, cond, List, [], ◌∷◌, ◌++◌, length, refl, sym, ap}
use Rattle.std.proofs.Common.{◌∙◌, subst, append_assoc, length-append, arith}
use Rattle.std.specs.Prelude.{◌==◌}
use Rattle.std.proofs.lemmas.Bool.{eqb-true}
use Rattle.grammar_laws.specs.Form.{Form, Word, Closed, Nothing, Both, Either, Many, Nearest, Known, begins_in, joined, Repeats, Derives}
use Rattle.grammar_laws.specs.Form.{may_be_empty, starts, IsGood}
use Rattle.grammar_laws.specs.Reading.{Read, Done, Stop, go_on, repeat, read_nearest, reads}
use Rattle.grammar_laws.proofs.Classes.{in_and_out, eqb_itself, or_neither, SameFirst, same_first, begins_same}
use Rattle.grammar_laws.proofs.Derived.{may_be}

pub done_rest : (rest other : List ℕ) → Done rest ≡ Done other → rest ≡ other
done_rest rest other e = cc

-- what a reading goes on from
pub went_on : (read : Read) (next : List ℕ → Read) (rest : List ℕ) → go_on read next ≡ Done rest
    → (mid : List ℕ) × (read ≡ Done mid) × (next mid ≡ Done rest)
went_on (Done mid) next rest e = (mid, refl, e)
went_on (Stop deep mid) next rest e = absurd (cc)

-- a form that derives no empty list took a word
pub took_some : (form : Form) → IsGood form → may_be_empty form ≡ false → (words rest : List ℕ) → Derives form words rest → 1 ≤ length words
took_some form good never [] rest derives = in_and_out (may_be_empty form) (may_be form good [] rest derives refl) never
took_some form good never (word ∷ words) rest derives = omega arith

pub record Takes (form : Form) (from rest : List ℕ) : Type 0 where
  pub words : List ℕ
  pub splits : from ≡ words ++ rest
  pub derives : Derives form words rest
  pub anywhere : (other : List ℕ) → SameFirst rest other → reads form (words ++ other) ≡ Done other

-- the same of a form that is repeated
pub record TakesMany (form : Form) (from rest : List ℕ) : Type 0 where
  pub parts : List (List ℕ)
  pub splits : from ≡ joined parts ++ rest
  pub repeats : Repeats (Derives form) parts rest
  pub anywhere : (other : List ℕ) (times : ℕ) → SameFirst rest other → length (joined parts ++ other) ≤ times
      → repeat times (reads form) (starts form) (joined parts ++ other) ≡ Done other

pub cond_is : {A : Type 0} (b : Bool) (x y : A) → b ≡ true → cond b x y ≡ x
cond_is true x y e = refl
cond_is false x y e = absurd (cc)

pub cond_not : {A : Type 0} (b : Bool) (x y : A) → b ≡ false → cond b x y ≡ y
cond_not true x y e = absurd (cc)
cond_not false x y e = refl

takes_word : (class word : ℕ) (words rest : List ℕ) (same : Bool) → (class == word) ≡ same
    → cond same (Done words) (Stop false (word ∷ words)) ≡ Done rest → Takes (Word class) (word ∷ words) rest
takes_word class word words rest true same e = record {
  words = class ∷ [];
  splits = (let is : word ≡ class = sym (eqb-true class word same) in let left : words ≡ rest = done_rest words rest e in cc);
  derives = refl;
  anywhere = λ other begins. cond_is (class == class) _ _ (eqb_itself class);
}
takes_word class word words rest false same e = absurd (cc)

takes_both : (one second : Form) (from mid rest : List ℕ) → Takes one from mid → Takes second mid rest → Takes (Both one second) from rest
takes_both one second from mid rest t u = record {
  words = t.words ++ u.words;
  splits = t.splits ∙ ap (λ m. t.words ++ m) u.splits ∙ sym (append_assoc t.words u.words rest);
  derives = (t.words, u.words, refl, subst (Derives one t.words) u.splits t.derives, u.derives);
  anywhere = λ other same.
      ap (reads (Both one second)) (append_assoc t.words u.words other)
      ∙ ap (λ r. go_on r (λ left. reads second left))
      (t.anywhere (u.words ++ other) (subst (λ m. SameFirst m (u.words ++ other)) (sym u.splits) (same_first u.words rest other same)))
      ∙ u.anywhere other same;
}

-- the test of how a reading begins stays the same
pub still_begins : (classes words from rest other : List ℕ) (b : Bool) → from ≡ words ++ rest → SameFirst rest other
    → begins_in classes from ≡ b → begins_in classes (words ++ other) ≡ b
still_begins classes words from rest other b split same e =
    sym (ap (begins_in classes) split ∙ begins_same classes (words ++ rest) (words ++ other) (same_first words rest other same)) ∙ e

takes_first : (one second : Form) (from rest : List ℕ) → begins_in (starts one) from ≡ true → Takes one from rest
    → Takes (Either one second) from rest
takes_first one second from rest begins t = record {
  words = t.words;
  splits = t.splits;
  derives = inl t.derives;
  anywhere =
      λ other same. cond_is (begins_in (starts one) (t.words ++ other)) _ _
      (still_begins (starts one) t.words from rest other true t.splits same begins) ∙ t.anywhere other same;
}

takes_second : (one second : Form) (from rest : List ℕ) → begins_in (starts one) from ≡ false → Takes second from rest
    → Takes (Either one second) from rest
takes_second one second from rest begins t = record {
  words = t.words;
  splits = t.splits;
  derives = inr t.derives;
  anywhere =
      λ other same. cond_not (begins_in (starts one) (t.words ++ other)) _ _
      (still_begins (starts one) t.words from rest other false t.splits same begins) ∙ t.anywhere other same;
}

-- where the form does not begin, it is not repeated
pub repeat_none : (form : Form) (times : ℕ) (words : List ℕ) → begins_in (starts form) words ≡ false
    → repeat times (reads form) (starts form) words ≡ Done words
repeat_none form zero words e = refl
repeat_none form (suc times) words e = cond_not (begins_in (starts form) words) _ _ e

takes_none : (form : Form) (from rest : List ℕ) → begins_in (starts form) from ≡ false → from ≡ rest → TakesMany form from rest
takes_none form from rest ends same = record {
  parts = [];
  splits = same;
  repeats = tt;
  anywhere =
      λ other times begins fits. repeat_none form times other
      (sym (ap (begins_in (starts form)) same ∙ begins_same (starts form) rest other begins) ∙ ends);
}

pub repeat_more : (form : Form) (times : ℕ) (words rest : List ℕ) → 1 ≤ times → begins_in (starts form) words ≡ true
    → reads form words ≡ Done rest
    → (read : Read) → ((fewer : ℕ) → times ≤ fewer + 1 → repeat fewer (reads form) (starts form) rest ≡ read)
    → repeat times (reads form) (starts form) words ≡ read
repeat_more form zero words rest some begins reads_one read others = absurd (omega arith)
repeat_more form (suc times) words rest some begins reads_one read others =
    cond_is (begins_in (starts form) words) _ _ begins
    ∙ ap (λ r. go_on r (λ left. repeat times (reads form) (starts form) left)) reads_one
    ∙ others times (omega arith)

takes_more : (form : Form) (from mid rest : List ℕ) → begins_in (starts form) from ≡ true → (t : Takes form from mid) → 1 ≤ length t.words
    → TakesMany form mid rest → TakesMany form from rest
takes_more form from mid rest begins t some u = record {
  parts = t.words ∷ u.parts;
  splits = t.splits ∙ ap (λ m. t.words ++ m) u.splits ∙ sym (append_assoc t.words (joined u.parts) rest);
  repeats = (subst (Derives form t.words) u.splits t.derives, u.repeats);
  anywhere = λ other times same fits.
      let split : from ≡ (t.words ++ joined u.parts) ++ rest =
      t.splits ∙ ap (λ m. t.words ++ m) u.splits ∙ sym (append_assoc t.words (joined u.parts) rest) in
      let begin : begins_in (starts form) ((t.words ++ joined u.parts) ++ other) ≡ true =
      still_begins (starts form) (t.words ++ joined u.parts) from rest other true split same begins in
      let read_one : reads form ((t.words ++ joined u.parts) ++ other) ≡ Done (joined u.parts ++ other) =
      ap (reads form) (append_assoc t.words (joined u.parts) other)
      ∙ t.anywhere (joined u.parts ++ other)
      (subst (λ m. SameFirst m (joined u.parts ++ other)) (sym u.splits) (same_first (joined u.parts) rest other same)) in
      let long : length ((t.words ++ joined u.parts) ++ other) ≡ length t.words + length (joined u.parts ++ other) =
      ap length (append_assoc t.words (joined u.parts) other) ∙ length-append t.words (joined u.parts ++ other) in
      repeat_more form times ((t.words ++ joined u.parts) ++ other) (joined u.parts ++ other) (omega arith) begin read_one (Done other)
      (λ fewer few. u.anywhere other fewer same (omega arith));
}

takes_nearest : (class word : ℕ) (one : Form) (words rest : List ℕ) (same : Bool) → (class == word) ≡ same
    → ((left : List ℕ) → reads one words ≡ Done left → Takes one words left)
    → cond same (reads one words) (Done (word ∷ words)) ≡ Done rest → Takes (Nearest class one) (word ∷ words) rest
takes_nearest class word one words rest true same takes_one e =
    let t = takes_one rest e in
    let is : word ≡ class = sym (eqb-true class word same) in record {
      words = class ∷ t.words;
      splits = ap (λ w. w ∷ words) is ∙ ap (λ w. class ∷ w) t.splits;
      derives = inr (t.words, refl, t.derives);
      anywhere = λ other begins. cond_is (class == class) _ _ (eqb_itself class) ∙ t.anywhere other begins;
    }
takes_nearest class word one words rest false same takes_one e = record {
  words = [];
  splits = done_rest (word ∷ words) rest e;
  derives = inl (refl, subst (λ r. begins_in (class ∷ []) r ≡ false) (done_rest (word ∷ words) rest e) (other_word same));
  anywhere = λ other begins. not_taken other (subst (λ r. SameFirst r other) (sym (done_rest (word ∷ words) rest e)) begins);
}
  where
    other_word : (class == word) ≡ false → begins_in (class ∷ []) (word ∷ words) ≡ false
    other_word f = or_neither (class == word) false f refl

    not_taken : (other : List ℕ) → SameFirst (word ∷ words) other → read_nearest class (reads one) other ≡ Done other
    not_taken [] begins = absurd begins
    not_taken (w ∷ other) begins = cond_not (class == w) _ _ (subst (λ v. (class == v) ≡ false) begins same)

takes_many : (one : Form) → ((from rest : List ℕ) → reads one from ≡ Done rest → Takes one from rest)
    → ((words rest : List ℕ) → Derives one words rest → 1 ≤ length words)
    → (times : ℕ) (from rest : List ℕ) → length from ≤ times → repeat times (reads one) (starts one) from ≡ Done rest
    → TakesMany one from rest
takes_many one takes_one some zero [] rest fits e = takes_none one [] rest refl (done_rest [] rest e)
takes_many one takes_one some zero (word ∷ words) rest fits e = absurd (omega arith)
takes_many one takes_one some (suc times) from rest fits e =
    by_test (begins_in (starts one) from) refl e (λ mid fewer f. takes_many one takes_one some times mid rest fewer f)
  where
    by_test : (b : Bool) → begins_in (starts one) from ≡ b
        → cond b (go_on (reads one from) (λ left. repeat times (reads one) (starts one) left)) (Done from) ≡ Done rest
        → ((mid : List ℕ) → length mid ≤ times → repeat times (reads one) (starts one) mid ≡ Done rest → TakesMany one mid rest)
        → TakesMany one from rest
    by_test false ends f others = takes_none one from rest ends (done_rest from rest f)
    by_test true begins f others =
        let (mid, first, next) = went_on (reads one from) (λ left. repeat times (reads one) (starts one) left) rest f in
        let t = takes_one from mid first in
        let taken : 1 ≤ length t.words = some t.words mid t.derives in
        let long : length from ≡ length t.words + length mid = ap length t.splits ∙ length-append t.words mid in
        takes_more one from mid rest begins t taken (others mid (omega arith) next)

pub takes : (form : Form) → IsGood form → (from rest : List ℕ) → reads form from ≡ Done rest → Takes form from rest
takes (Word class) good [] rest e = absurd (cc)
takes (Word class) good (word ∷ words) rest e = takes_word class word words rest (class == word) refl e
takes (Closed class) good [] rest e = absurd (cc)
takes (Closed class) good (word ∷ words) rest e = absurd (cc)
takes Nothing good from rest e = record {
  words = [];
  splits = done_rest from rest e;
  derives = refl;
  anywhere = λ other same. refl;
}
takes (Both one second) good from rest e =
    let (mid, first, next) = went_on (reads one from) (λ left. reads second left) rest e in
    takes_both one second from mid rest (takes one good.0 from mid first) (takes second good.1 mid rest next)
takes (Either one second) good from rest e =
    by_test (begins_in (starts one) from) refl e (takes one good.0 from rest) (takes second good.1 from rest)
  where
    by_test : (b : Bool) → begins_in (starts one) from ≡ b → cond b (reads one from) (reads second from) ≡ Done rest
        → (reads one from ≡ Done rest → Takes one from rest) → (reads second from ≡ Done rest → Takes second from rest)
        → Takes (Either one second) from rest
    by_test true begins f first other = takes_first one second from rest begins (first f)
    by_test false begins f first other = takes_second one second from rest begins (other f)
takes (Many one) good from rest e =
    let t =
    takes_many one (takes one good.0) (λ w r d. took_some one good.0 good.1 w r d) (length from) from rest (omega arith) e in record {
      words = joined t.parts;
      splits = t.splits;
      derives = (t.parts, refl, t.repeats);
      anywhere = λ other same. t.anywhere other (length (joined t.parts ++ other)) same (omega arith);
    }
takes (Nearest class one) good [] rest e = record {
  words = [];
  splits = done_rest [] rest e;
  derives = inl (refl, subst (λ r. begins_in (class ∷ []) r ≡ false) (done_rest [] rest e) refl);
  anywhere = λ other same. at_end other (subst (λ r. SameFirst r other) (sym (done_rest [] rest e)) same);
}
  where
    at_end : (other : List ℕ) → SameFirst [] other → read_nearest class (reads one) other ≡ Done other
    at_end [] same = refl
    at_end (w ∷ other) same = absurd same
takes (Nearest class one) good (word ∷ words) rest e =
    takes_nearest class word one words rest (class == word) refl (λ left f. takes one good.0 words left f) e
takes (Known facts one) good from rest e =
    let t = takes one good.0 from rest e in record {
      words = t.words;
      splits = t.splits;
      derives = t.derives;
      anywhere = t.anywhere;
    }
