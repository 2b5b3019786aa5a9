-- Where a reading stops: the words before that place begin something that is derived, and it stops there whatever
-- follows the word at that place.
use Rattle.std.proofs.Common.{◌≡◌, ◌⊎◌, inl, inr, ℕ, zero, suc, ◌+◌, ◌≤◌, Bool, true, false, cond, List, [], ◌∷◌, ◌++◌, length, refl, sym}
use Rattle.std.proofs.Common.{ap, ◌∙◌, subst, append_assoc, append-nil, length-append, arith}
use Rattle.std.specs.Prelude.{◌==◌, ◌&&◌, ◌||◌}
use Rattle.std.proofs.lemmas.Bool.{eqb-true}
use Rattle.grammar_laws.specs.Form.{Form, Word, Closed, Nothing, Both, Either, Many, Nearest, Known, is_in, begins_in, joined, Derives}
use Rattle.grammar_laws.specs.Form.{may_be_empty, starts, lacks, derives_some, sample, IsGood}
use Rattle.grammar_laws.specs.Reading.{Read, Done, Stop, go_on, repeat, read_word, read_closed, reads}
use Rattle.grammar_laws.proofs.Classes.{in_and_out, no_truth, or_false_left, or_false_right, and_both, SameFirst, same_first}
use Rattle.grammar_laws.proofs.Classes.{begins_not_left, begins_not_right, begins_chosen, begins_without}
use Rattle.grammar_laws.proofs.Derived.{may_be, begins, moves, clears}
use Rattle.grammar_laws.specs.Laws.{StopsWhereItMust}
use Rattle.grammar_laws.proofs.Complete.{complete}
use Rattle.grammar_laws.proofs.Taken.{Takes, takes, took_some, cond_is, cond_not, still_begins, repeat_more}

pub stop_rest : (deep other : Bool) (rest left : List ℕ) → Stop deep rest ≡ Stop other left → rest ≡ left
stop_rest deep other rest left e = cc

-- a reading that goes on stops in its first part or behind it
pub stopped : (read : Read) (next : List ℕ → Read) (deep : Bool) (at : List ℕ) → go_on read next ≡ Stop deep at
    → (read ≡ Stop deep at) ⊎ ((mid : List ℕ) × (read ≡ Done mid) × (next mid ≡ Stop deep at))
stopped (Done mid) next deep at e = inr (mid, refl, e)
stopped (Stop other mid) next deep at e = inl e

-- words behind a form don't begin with a part that it may lack
clear_before : (one second : Form) → IsGood second → begins_in (lacks one) (sample second) ≡ false → (rest : List ℕ)
    → begins_in (lacks (Both one second)) rest ≡ false → Derives second (sample second) rest
    → begins_in (lacks one) (sample second ++ rest) ≡ false
clear_before one second good clear rest ends derives = by_sample (sample second) clear derives
  where
    by_sample : (words : List ℕ) → begins_in (lacks one) words ≡ false → Derives second words rest
        → begins_in (lacks one) (words ++ rest) ≡ false
    by_sample [] e d =
        begins_chosen (may_be_empty second) (lacks one) rest (may_be second good [] rest d refl)
        (begins_not_right (lacks second) _ rest ends)
    by_sample (word ∷ words) e d = e

abbrev pub IsSample : Form → List ℕ → Type 0
IsSample form words = (rest : List ℕ) → begins_in (lacks form) rest ≡ false → Derives form words rest

or_other : (a b : Bool) → a ≡ false → (a || b) ≡ true → b ≡ true
or_other true b e f = absurd (cc)
or_other false b e f = f

-- the sample is derived
pub sampled : (form : Form) → IsGood form → derives_some form ≡ true → IsSample form (sample form)
sampled (Word class) good some rest clear = refl
sampled (Closed class) good some rest clear = no_truth some
sampled Nothing good some rest clear = refl
sampled (Both one second) good some rest clear =
    let d : Derives second (sample second) rest = sampled second good.1 good.3 rest (begins_not_left (lacks second) _ rest clear) in (
      sample one,
      sample second,
      refl,
      sampled one good.0 good.2 (sample second ++ rest)
          (clear_before one second good.1 good.5 rest clear d),
      d,
    )
sampled (Either one second) good some rest clear =
    by_test (derives_some one) refl
    (λ e. sampled one good.0 e rest (begins_not_left (lacks one) (lacks second) rest clear))
    (λ e. sampled second good.1 e rest (begins_not_right (lacks one) (lacks second) rest clear))
  where
    by_test : (b : Bool) → derives_some one ≡ b → (derives_some one ≡ true → Derives one (sample one) rest)
        → (derives_some second ≡ true → Derives second (sample second) rest)
        → Derives one (cond b (sample one) (sample second)) rest ⊎ Derives second (cond b (sample one) (sample second)) rest
    by_test true e first other = inl (first e)
    by_test false e first other = inr (other (or_other (derives_some one) (derives_some second) e some))
sampled (Many one) good some rest clear = ([], refl, tt)
sampled (Nearest class one) good some rest clear = inl (refl, begins_not_left (class ∷ []) (lacks one) rest clear)
sampled (Known facts one) good some rest clear = good.1.sample_right rest clear

-- words that begin something that the form derives
pub record GoesOn (form : Form) (words : List ℕ) : Type 0 where
  pub more : List ℕ
  pub derives : (rest : List ℕ) → begins_in (lacks form) rest ≡ false → Derives form (words ++ more) rest

pub record Halts (form : Form) (deep : Bool) (from at : List ℕ) : Type 0 where
  pub words : List ℕ
  pub splits : from ≡ words ++ at
  pub anywhere : (other : List ℕ) → SameFirst at other → reads form (words ++ other) ≡ Stop deep other
  pub goes_on : derives_some form ≡ true → GoesOn form words

-- no word begins what the form derives
goes_on_sample : (form : Form) → IsGood form → derives_some form ≡ true → GoesOn form []
goes_on_sample form good some = record { more = sample form; derives = sampled form good some }

-- a form that derives nothing stops at once
at_once : (form : Form) → IsGood form → derives_some form ≡ false → (deep : Bool) (from at : List ℕ) → reads form from ≡ Stop deep at
    → from ≡ at
at_once (Word class) good none deep from at e = absurd (cc)
at_once (Closed class) good none deep [] at e = stop_rest false deep [] at e
at_once (Closed class) good none deep (word ∷ words) at e = stop_rest (class == word) deep (word ∷ words) at e
at_once Nothing good none deep from at e = absurd (cc)
at_once (Both one second) good none deep from at e =
    in_and_out (derives_some one && derives_some second) (and_both (derives_some one) (derives_some second) good.2 good.3) none
at_once (Either one second) good none deep from at e =
    by_test (begins_in (starts one) from) e
    (at_once one good.0 (or_false_left (derives_some one) (derives_some second) none) deep from at)
    (at_once second good.1 (or_false_right (derives_some one) (derives_some second) none) deep from at)
  where
    by_test : (b : Bool) → cond b (reads one from) (reads second from) ≡ Stop deep at → (reads one from ≡ Stop deep at → from ≡ at)
        → (reads second from ≡ Stop deep at → from ≡ at) → from ≡ at
    by_test true f first other = first f
    by_test false f first other = other f
at_once (Many one) good none deep from at e = absurd (cc)
at_once (Nearest class one) good none deep from at e = absurd (cc)
at_once (Known facts one) good none deep from at e = absurd (cc)

halts_word : (class : ℕ) (deep : Bool) (from at : List ℕ) → Stop false from ≡ Stop deep at
    → ((other : List ℕ) → SameFirst from other → read_word class other ≡ Stop false other) → Halts (Word class) deep from at
halts_word class deep from at e anywhere = record {
  words = [];
  splits = stop_rest false deep from at e;
  anywhere = λ other same. anywhere other (subst (λ f. SameFirst f other) (sym (stop_rest false deep from at e)) same)
      ∙ ap (λ d. Stop d other) (let is : false ≡ deep = cc in is);
  goes_on = λ some. record { more = class ∷ []; derives = λ rest clear. refl };
}

word_anywhere : (class word : ℕ) (words : List ℕ) → (class == word) ≡ false → (other : List ℕ) → SameFirst (word ∷ words) other
    → read_word class other ≡ Stop false other
word_anywhere class word words e [] same = absurd same
word_anywhere class word words e (w ∷ other) same = cond_not (class == w) _ _ (subst (λ v. (class == v) ≡ false) same e)

halts_first : (one second : Form) (deep : Bool) (from at : List ℕ) → IsGood second → derives_some second ≡ true
    → begins_in (lacks one) (sample second) ≡ false → derives_some one ≡ true
    → Halts one deep from at → Halts (Both one second) deep from at
halts_first one second deep from at good some clear one_some h = record {
  words = h.words;
  splits = h.splits;
  anywhere = λ other same. ap (λ r. go_on r (λ left. reads second left)) (h.anywhere other same);
  goes_on = λ both.
      let g = h.goes_on one_some in record {
        more = g.more ++ sample second;
        derives = λ rest ends.
            let d : Derives second (sample second) rest = sampled second good some rest (begins_not_left (lacks second) _ rest ends) in (
              h.words ++ g.more,
              sample second,
              sym (append_assoc h.words g.more (sample second)),
              g.derives (sample second ++ rest)
                  (clear_before one second good clear rest ends d),
              d,
            );
      };
}

goes_on_behind : (one second : Form) → IsGood one → IsGood second → derives_some second ≡ true
    → begins_in (lacks one) (sample second) ≡ false
    → (front : List ℕ) (words at : List ℕ) → Derives one front (words ++ at) → GoesOn second words
    → GoesOn (Both one second) (front ++ words)
goes_on_behind one second good other some clear front [] at derives g = record {
  more = sample second;
  derives = λ rest ends.
      let d : Derives second (sample second) rest = sampled second other some rest (begins_not_left (lacks second) _ rest ends) in (
        front,
        sample second,
        ap (λ f. f ++ sample second) (append-nil front),
        clears one good front at (sample second ++ rest)
            (clear_before one second other clear rest ends d) derives,
        d,
      );
}
goes_on_behind one second good other some clear front (word ∷ words) at derives g = record {
  more = g.more;
  derives = λ rest ends. (
    front,
    word ∷ words ++ g.more,
    append_assoc front (word ∷ words) g.more,
    moves one front (word ∷ words ++ at) ((word ∷ words ++ g.more) ++ rest) refl derives,
    g.derives rest (begins_not_left (lacks second) _ rest ends),
  );
}

halts_behind : (one second : Form) (deep : Bool) (from mid at : List ℕ) → IsGood one → IsGood second → derives_some second ≡ true
    → begins_in (lacks one) (sample second) ≡ false
    → Takes one from mid → Halts second deep mid at → Halts (Both one second) deep from at
halts_behind one second deep from mid at good other some clear t h = record {
  words = t.words ++ h.words;
  splits = t.splits ∙ ap (λ m. t.words ++ m) h.splits ∙ sym (append_assoc t.words h.words at);
  anywhere = λ left same.
      ap (reads (Both one second)) (append_assoc t.words h.words left)
      ∙ ap (λ r. go_on r (λ l. reads second l))
      (t.anywhere (h.words ++ left) (subst (λ m. SameFirst m (h.words ++ left)) (sym h.splits) (same_first h.words at left same)))
      ∙ h.anywhere left same;
  goes_on =
      λ both. goes_on_behind one second good other some clear t.words h.words at (subst (Derives one t.words) h.splits t.derives)
      (h.goes_on some);
}

goes_first : (one second : Form) (words : List ℕ) → GoesOn one words → GoesOn (Either one second) words
goes_first one second words g =
    record { more = g.more; derives = λ rest clear. inl (g.derives rest (begins_not_left (lacks one) (lacks second) rest clear)) }

goes_second : (one second : Form) (words : List ℕ) → GoesOn second words → GoesOn (Either one second) words
goes_second one second words g =
    record { more = g.more; derives = λ rest clear. inr (g.derives rest (begins_not_right (lacks one) (lacks second) rest clear)) }

-- words before a place where nothing stands before it
no_front : (words at : List ℕ) → words ++ at ≡ at → words ≡ []
no_front words at e =
    by_length words (let l : length words + length at ≡ length at = sym (length-append words at) ∙ ap length e in omega arith)
  where
    by_length : (w : List ℕ) → length w ≤ 0 → w ≡ []
    by_length [] l = refl
    by_length (x ∷ w) l = absurd (omega arith)

halts_either_first : (one second : Form) (deep : Bool) (from at : List ℕ) → IsGood one → IsGood second → begins_in (starts one) from ≡ true
    → reads one from ≡ Stop deep at → Halts one deep from at → Halts (Either one second) deep from at
halts_either_first one second deep from at good other begins e h = record {
  words = h.words;
  splits = h.splits;
  anywhere =
      λ left same. cond_is (begins_in (starts one) (h.words ++ left)) _ _
      (still_begins (starts one) h.words from at left true h.splits same begins) ∙ h.anywhere left same;
  goes_on = λ some. by_test (derives_some one) refl some;
}
  where
    by_test : (b : Bool) → derives_some one ≡ b → (derives_some one || derives_some second) ≡ true → GoesOn (Either one second) h.words
    by_test true f some = goes_first one second h.words (h.goes_on f)
    by_test false f some =
        let none : h.words ≡ [] = no_front h.words at (sym h.splits ∙ at_once one good f deep from at e) in
        subst (GoesOn (Either one second)) (sym none)
        (goes_second one second [] (goes_on_sample second other (or_other (derives_some one) (derives_some second) f some)))

or_one : (a b : Bool) → b ≡ false → (a || b) ≡ true → a ≡ true
or_one true b e f = refl
or_one false b e f = absurd (cc)

halts_either_second : (one second : Form) (deep : Bool) (from at : List ℕ) → IsGood one → IsGood second
    → begins_in (starts one) from ≡ false → reads second from ≡ Stop deep at → Halts second deep from at
    → Halts (Either one second) deep from at
halts_either_second one second deep from at good other begins e h = record {
  words = h.words;
  splits = h.splits;
  anywhere =
      λ left same. cond_not (begins_in (starts one) (h.words ++ left)) _ _
      (still_begins (starts one) h.words from at left false h.splits same begins) ∙ h.anywhere left same;
  goes_on = λ some. by_test (derives_some second) refl some;
}
  where
    by_test : (b : Bool) → derives_some second ≡ b → (derives_some one || derives_some second) ≡ true → GoesOn (Either one second) h.words
    by_test true f some = goes_second one second h.words (h.goes_on f)
    by_test false f some =
        let none : h.words ≡ [] = no_front h.words at (sym h.splits ∙ at_once second other f deep from at e) in
        subst (GoesOn (Either one second)) (sym none)
        (goes_first one second [] (goes_on_sample one good (or_one (derives_some one) (derives_some second) f some)))

-- the same of a form that is repeated
pub record HaltsMany (form : Form) (deep : Bool) (from at : List ℕ) : Type 0 where
  pub words : List ℕ
  pub splits : from ≡ words ++ at
  pub anywhere : (other : List ℕ) (times : ℕ) → SameFirst at other → length (words ++ other) ≤ times
      → repeat times (reads form) (starts form) (words ++ other) ≡ Stop deep other
  pub goes_on : GoesOn (Many form) words

repeat_halts : (form : Form) (deep : Bool) (times : ℕ) (words left : List ℕ) → begins_in (starts form) words ≡ true
    → reads form words ≡ Stop deep left → length words ≤ times → repeat times (reads form) (starts form) words ≡ Stop deep left
repeat_halts form deep times [] left begins e fits = absurd (cc)
repeat_halts form deep zero (word ∷ words) left begins e fits = absurd (omega arith)
repeat_halts form deep (suc times) (word ∷ words) left begins e fits =
    cond_is (is_in word (starts form)) _ _ begins ∙ ap (λ r. go_on r (λ l. repeat times (reads form) (starts form) l)) e

many_stops : (form : Form) (deep : Bool) (from at : List ℕ) → derives_some form ≡ true → begins_in (starts form) from ≡ true
    → Halts form deep from at → HaltsMany form deep from at
many_stops form deep from at some begins h = record {
  words = h.words;
  splits = h.splits;
  anywhere =
      λ other times same fits. repeat_halts form deep times (h.words ++ other) other
      (still_begins (starts form) h.words from at other true h.splits same begins) (h.anywhere other same) fits;
  goes_on =
      let g = h.goes_on some in record {
        more = g.more;
        derives = λ rest clear. ((h.words ++ g.more) ∷ [], sym (append-nil (h.words ++ g.more)), (g.derives rest clear, tt));
      };
}

goes_on_more : (form : Form) → IsGood form → (front words at : List ℕ) → Derives form front (words ++ at) → GoesOn (Many form) words
    → GoesOn (Many form) (front ++ words)
goes_on_more form good front [] at derives g = record {
  more = [];
  derives = λ rest clear. (front ∷ [], ap (λ f. f ++ []) (append-nil front), (clears form good front at rest clear derives, tt));
}
goes_on_more form good front (word ∷ words) at derives g = record {
  more = g.more;
  derives = λ rest clear.
      let (parts, split, repeats) = g.derives rest clear in
      let first : SameFirst (word ∷ words ++ at) (joined parts ++ rest) =
      subst (λ j. SameFirst (word ∷ words ++ at) (j ++ rest)) split refl in (
        front ∷ parts,
        append_assoc front (word ∷ words) g.more
            ∙ ap (λ j. front ++ j) split,
        (moves form front (word ∷ words ++ at) (joined parts ++ rest) first derives, repeats),
      );
}

many_goes : (form : Form) (deep : Bool) (from mid at : List ℕ) → IsGood form → begins_in (starts form) from ≡ true
    → (t : Takes form from mid) → 1 ≤ length t.words → HaltsMany form deep mid at → HaltsMany form deep from at
many_goes form deep from mid at good begins t some h = record {
  words = t.words ++ h.words;
  splits = split;
  anywhere = λ other times same fits.
      let begin : begins_in (starts form) ((t.words ++ h.words) ++ other) ≡ true =
      still_begins (starts form) (t.words ++ h.words) from at other true split same begins in
      let read_one : reads form ((t.words ++ h.words) ++ other) ≡ Done (h.words ++ other) =
      ap (reads form) (append_assoc t.words h.words other)
      ∙ t.anywhere (h.words ++ other) (subst (λ m. SameFirst m (h.words ++ other)) (sym h.splits) (same_first h.words at other same)) in
      let long : length ((t.words ++ h.words) ++ other) ≡ length t.words + length (h.words ++ other) =
      ap length (append_assoc t.words h.words other) ∙ length-append t.words (h.words ++ other) in
      repeat_more form times ((t.words ++ h.words) ++ other) (h.words ++ other) (omega arith) begin read_one (Stop deep other)
      (λ fewer few. h.anywhere other fewer same (omega arith));
  goes_on = goes_on_more form good t.words h.words at (subst (Derives form t.words) h.splits t.derives) h.goes_on;
}
  where
    split : from ≡ (t.words ++ h.words) ++ at
    split = t.splits ∙ ap (λ m. t.words ++ m) h.splits ∙ sym (append_assoc t.words h.words at)

halts_many : (one : Form) (deep : Bool) → IsGood one → may_be_empty one ≡ false → derives_some one ≡ true
    → ((from at : List ℕ) → reads one from ≡ Stop deep at → Halts one deep from at)
    → (times : ℕ) (from at : List ℕ) → length from ≤ times → repeat times (reads one) (starts one) from ≡ Stop deep at
    → HaltsMany one deep from at
halts_many one deep good never some halts_one zero from at fits e = absurd (cc)
halts_many one deep good never some halts_one (suc times) from at fits e =
    by_test (begins_in (starts one) from) refl e (λ mid fewer f. halts_many one deep good never some halts_one times mid at fewer f)
  where
    by_stop : begins_in (starts one) from ≡ true
        → (reads one from ≡ Stop deep at)
        ⊎ ((mid : List ℕ) × (reads one from ≡ Done mid) × (repeat times (reads one) (starts one) mid ≡ Stop deep at))
        → ((mid : List ℕ) → length mid ≤ times → repeat times (reads one) (starts one) mid ≡ Stop deep at → HaltsMany one deep mid at)
        → HaltsMany one deep from at
    by_stop begins (inl f) others = many_stops one deep from at some begins (halts_one from at f)
    by_stop begins (inr (mid, first, next)) others =
        let t = takes one good from mid first in
        let taken : 1 ≤ length t.words = took_some one good never t.words mid t.derives in
        let long : length from ≡ length t.words + length mid = ap length t.splits ∙ length-append t.words mid in
        many_goes one deep from mid at good begins t taken (others mid (omega arith) next)

    by_test : (b : Bool) → begins_in (starts one) from ≡ b
        → cond b (go_on (reads one from) (λ left. repeat times (reads one) (starts one) left)) (Done from) ≡ Stop deep at
        → ((mid : List ℕ) → length mid ≤ times → repeat times (reads one) (starts one) mid ≡ Stop deep at → HaltsMany one deep mid at)
        → HaltsMany one deep from at
    by_test false ends f others = absurd (cc)
    by_test true begins f others =
        by_stop begins (stopped (reads one from) (λ left. repeat times (reads one) (starts one) left) deep at f) others

halts_nearest : (class word : ℕ) (one : Form) (deep : Bool) (words at : List ℕ) (same : Bool) → (class == word) ≡ same
    → derives_some one ≡ true
    → (reads one words ≡ Stop deep at → Halts one deep words at)
    → cond same (reads one words) (Done (word ∷ words)) ≡ Stop deep at → Halts (Nearest class one) deep (word ∷ words) at
halts_nearest class word one deep words at true same some halts_one e =
    let h = halts_one e in record {
      words = word ∷ h.words;
      splits = ap (λ w. word ∷ w) h.splits;
      anywhere = λ other first. cond_is (class == word) _ _ same ∙ h.anywhere other first;
      goes_on = λ either.
          let g = h.goes_on some in record {
            more = g.more;
            derives =
                λ rest clear. inr (
                  h.words ++ g.more,
                  ap (λ w. w ∷ h.words ++ g.more) (sym (same_class same)),
                  g.derives rest
                      (begins_not_right (class ∷ []) (lacks one) rest clear),
                );
          };
    }
  where
    same_class : (class == word) ≡ true → class ≡ word
    same_class f = eqb-true class word f
halts_nearest class word one deep words at false same some halts_one e = absurd (cc)

pub halts : (form : Form) → IsGood form → (deep : Bool) (from at : List ℕ) → reads form from ≡ Stop deep at → Halts form deep from at
halts (Word class) good deep [] at e = halts_word class deep [] at e (λ other same. at_end other same)
  where
    at_end : (other : List ℕ) → SameFirst [] other → read_word class other ≡ Stop false other
    at_end [] same = refl
    at_end (w ∷ other) same = absurd same
halts (Word class) good deep (word ∷ words) at e = by_test (class == word) refl e
  where
    by_test : (b : Bool) → (class == word) ≡ b → cond b (Done words) (Stop false (word ∷ words)) ≡ Stop deep at
        → Halts (Word class) deep (word ∷ words) at
    by_test true f g = absurd (cc)
    by_test false f g = halts_word class deep (word ∷ words) at g (word_anywhere class word words f)
halts (Closed class) good deep from at e = record {
  words = [];
  splits = at_once (Closed class) good refl deep from at e;
  anywhere =
      λ other same. closed_anywhere from other e
      (subst (λ a. SameFirst a other) (sym (at_once (Closed class) good refl deep from at e)) same);
  goes_on = λ some. no_truth some;
}
  where
    closed_anywhere : (f other : List ℕ) → read_closed class f ≡ Stop deep at → SameFirst f other
        → read_closed class other ≡ Stop deep other
    closed_anywhere [] [] g same = ap (λ d. Stop d []) (let is : false ≡ deep = cc in is)
    closed_anywhere [] (w ∷ other) g same = absurd same
    closed_anywhere (x ∷ f) [] g same = absurd same
    closed_anywhere (x ∷ f) (w ∷ other) g same =
        ap (λ d. Stop d (w ∷ other)) (ap (λ v. class == v) (sym same) ∙ (let is : (class == x) ≡ deep = cc in is))
halts Nothing good deep from at e = absurd (cc)
halts (Both one second) good deep from at e =
    by_stop (stopped (reads one from) (λ left. reads second left) deep at e) (halts one good.0 deep from at)
    (λ mid. halts second good.1 deep mid at)
  where
    by_stop : (reads one from ≡ Stop deep at) ⊎ ((mid : List ℕ) × (reads one from ≡ Done mid) × (reads second mid ≡ Stop deep at))
        → (reads one from ≡ Stop deep at → Halts one deep from at)
        → ((mid : List ℕ) → reads second mid ≡ Stop deep at → Halts second deep mid at)
        → Halts (Both one second) deep from at
    by_stop (inl f) first other = halts_first one second deep from at good.1 good.3 good.5 good.2 (first f)
    by_stop (inr (mid, f, g)) first other =
        halts_behind one second deep from mid at good.0 good.1 good.3 good.5 (takes one good.0 from mid f) (other mid g)
halts (Either one second) good deep from at e =
    by_test (begins_in (starts one) from) refl e (halts one good.0 deep from at) (halts second good.1 deep from at)
  where
    by_test : (b : Bool) → begins_in (starts one) from ≡ b → cond b (reads one from) (reads second from) ≡ Stop deep at
        → (reads one from ≡ Stop deep at → Halts one deep from at) → (reads second from ≡ Stop deep at → Halts second deep from at)
        → Halts (Either one second) deep from at
    by_test true begins f first other = halts_either_first one second deep from at good.0 good.1 begins f (first f)
    by_test false begins f first other = halts_either_second one second deep from at good.0 good.1 begins f (other f)
halts (Many one) good deep from at e =
    let h = halts_many one deep good.0 good.1 good.3 (halts one good.0 deep) (length from) from at (omega arith) e in record {
      words = h.words;
      splits = h.splits;
      anywhere = λ other same. h.anywhere other (length (h.words ++ other)) same (omega arith);
      goes_on = λ some. h.goes_on;
    }
halts (Nearest class one) good deep [] at e = absurd (cc)
halts (Nearest class one) good deep (word ∷ words) at e =
    halts_nearest class word one deep words at (class == word) refl good.1 (halts one good.0 deep words at) e
halts (Known facts one) good deep from at e =
    let h = halts one good.0 deep from at e in record {
      words = h.words;
      splits = h.splits;
      anywhere = h.anywhere;
      goes_on = λ some.
          let g = h.goes_on good.1.some in record {
            more = g.more;
            derives = λ rest clear. g.derives rest (begins_without (lacks one) facts.lacks rest good.1.lacks_right clear);
          };
    }

-- a reading stops exactly where it must
pub stops_exactly : StopsWhereItMust
stops_exactly form good some deep from at e =
    let h = halts form good deep from at e in
    let g = h.goes_on some in (
      h.words,
      h.splits,
      record {
        more = g.more;
        begins = g.derives;
        stops = λ word left others derived rest is derives ends same.
            let read : reads form (derived ++ rest) ≡ Done rest = complete form good derived rest derives ends in
            let stop : reads form (h.words ++ word ∷ others) ≡ Stop deep (word ∷ others) =
            h.anywhere (word ∷ others) (subst (λ a. SameFirst a (word ∷ others)) (sym is) refl) in
            let both : Done rest ≡ Stop deep (word ∷ others) = sym read ∙ ap (reads form) same ∙ stop in
            cc;
      },
    )
