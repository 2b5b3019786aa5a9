-- The reading of a file is exact: it ends where some file spells the words, and else stops where they are refused.
use Rattle.std.proofs.Common.{◌≡◌, inl, inr, ℕ, zero, suc, ◌+◌, ◌≤◌, Bool, true, false, cond, List, [], ◌∷◌, ◌++◌, length, refl, sym, ap}
use Rattle.std.proofs.Common.{◌∙◌, subst, append_assoc, append-nil, length-append, arith}
use Rattle.std.proofs.lemmas.List.{append_cancel_right}
use Rattle.grammar_laws.specs.Form.{Derives}
use Rattle.grammar_laws.specs.Reading.{Read, Done, Stop, reads, LeavesLess, Follows}
use Rattle.grammar_laws.proofs.Derived.{clears}
use Rattle.grammar_laws.proofs.Taken.{takes}
use Rattle.grammar_laws.proofs.Complete.{complete}
use Rattle.grammar_laws.proofs.Halted.{GoesOn, Halts, halts}
use Rattle.grammar_laws.proofs.Opened.{follows}
use Rattle.c_grammar.specs.Words.{Word, classes}
use Rattle.c_grammar.specs.Matching.{IsForm}
use Rattle.c_grammar.specs.Trees.{File}
use Rattle.c_grammar.specs.Nesting.{file_nesting}
use Rattle.c_grammar.specs.Spelling.{Spells}
use Rattle.c_grammar.specs.Forms.{file_form}
use Rattle.c_grammar.specs.Refusals.{MOST_LEVELS, BeginWithin, IsRefused}
use Rattle.c_grammar.proofs.OneWordAhead.{file_good}
use Rattle.c_grammar.proofs.Opens.{file_opens}
use Rattle.c_grammar.proofs.Parts.{classes-append, classes_of}
use Rattle.c_grammar.proofs.SpelledFiles.{is_file}
use Rattle.c_grammar.proofs.DerivedFiles.{file_found}

-- what a file spells is read to its end
pub read_file : (n : ℕ) (file : File) (words : List Word) → Spells file words → file_nesting file ≤ n
    → reads (file_form n) (classes words) ≡ Done []
read_file n file words spells fits =
    let f : IsForm (file_form n) words [] = is_file file n words fits spells in
    ap (reads (file_form n)) (classes_of (file_form n) words [] f)
    ∙ complete (file_form n) (file_good n) (classes f.front) [] f.derives refl

-- words whose classes are derived are spelled by a file
file_of : (n : ℕ) (words : List Word) → Derives (file_form n) (classes words) []
    → (file : File) × Spells file words × (file_nesting file ≤ n)
file_of n words derives = file_found n words (record { front = words; splits = sym (append-nil words); derives = derives })

-- what is read to its end is spelled by a file
pub accepted : (n : ℕ) (words : List Word) → reads (file_form n) (classes words) ≡ Done []
    → (file : File) × Spells file words × (file_nesting file ≤ n)
accepted n words e =
    let t = takes (file_form n) (file_good n) (classes words) [] e in
    file_of n words (subst (λ w. Derives (file_form n) w []) (sym (t.splits ∙ append-nil t.words)) t.derives)

-- words of the classes
abbrev words_for : List ℕ → List Word
words_for [] = []
words_for (class ∷ others) = record { class = class; text = []; place = record { line = 0; column = 0 } } ∷ words_for others

classes-words_for : (all : List ℕ) → classes (words_for all) ≡ all
classes-words_for [] = refl
classes-words_for (class ∷ others) = ap (λ o. class ∷ o) (classes-words_for others)

-- words before more that is derived with them begin a file
begin_of : (n : ℕ) (front : List Word) (more : List ℕ) → Derives (file_form n) (classes front ++ more) [] → BeginWithin n front
begin_of n front more derives =
    let same : classes (front ++ words_for more) ≡ classes front ++ more =
    classes-append front (words_for more) ∙ ap (λ m. classes front ++ m) (classes-words_for more) in
    let (file, spells, fits) = file_of n (front ++ words_for more) (subst (λ w. Derives (file_form n) w []) (sym same) derives) in
    (file, words_for more, spells, fits)

-- of two ways to cut a list, the one that leaves less takes all that the other takes
pub longer : (a b c d : List ℕ) → a ++ b ≡ c ++ d → length d ≤ length b → (more : List ℕ) × (c ≡ a ++ more)
longer [] b c d e fits = (c, refl)
longer (x ∷ a) b [] d e fits =
    let l : length (x ∷ a ++ b) ≡ length d = ap length e in
    let m = length-append a b in absurd (omega arith)
longer (x ∷ a) b (y ∷ c) d e fits =
    let rest : a ++ b ≡ c ++ d = cc in
    let first : y ≡ x = cc in
    let (more, split) = longer a b c d rest fits in
    (more, ap (λ z. z ∷ c) first ∙ ap (λ z. x ∷ z) split)

-- so many levels more
abbrev raised : ℕ → ℕ → ℕ
raised zero n = n
raised (suc more) n = raised more (suc n)

raised_is : (more n : ℕ) → raised more n ≡ more + n
raised_is zero n = omega arith
raised_is (suc more) n = let e = raised_is more (suc n) in omega arith

-- a word that cannot stand there cannot stand there with more levels
stays : (more n : ℕ) (from at : List ℕ) → reads (file_form n) from ≡ Stop false at → reads (file_form (raised more n)) from ≡ Stop false at
stays zero n from at e = e
stays (suc more) n from at e =
    stays more (suc n) from at (subst (λ r. Follows r (reads (file_form (suc n)) from)) e (follows (file_opens n) from))

-- with one level more, what was one level too deep is read
deeper : (n : ℕ) (from at : List ℕ) → reads (file_form n) from ≡ Stop true at → LeavesLess (reads (file_form (suc n)) from) (length at)
deeper n from at e = subst (λ r. Follows r (reads (file_form (suc n)) from)) e (follows (file_opens n) from)

begins_deeper : (n : ℕ) (front : List Word) (first : Word) (others : List Word) (read : Read)
    → reads (file_form n) (classes (front ++ first ∷ others)) ≡ read → LeavesLess read (length (classes (first ∷ others)))
    → BeginWithin n (front ++ first ∷ [])
begins_deeper n front first others (Done rest) e less =
    let t = takes (file_form n) (file_good n) (classes (front ++ first ∷ others)) rest e in
    let d : Derives (file_form n) t.words [] = clears (file_form n) (file_good n) t.words rest [] refl t.derives in
    let (more, split) = longer (classes (front ++ first ∷ [])) (classes others) t.words rest (joined_here ∙ t.splits) (omega arith) in
    begin_of n (front ++ first ∷ []) more (subst (λ w. Derives (file_form n) w []) split d)
  where
    joined_here : classes (front ++ first ∷ []) ++ classes others ≡ classes (front ++ first ∷ others)
    joined_here = sym (classes-append (front ++ first ∷ []) others) ∙ ap classes (append_assoc front (first ∷ []) others)
begins_deeper n front first others (Stop deep rest) e less =
    let h = halts (file_form n) (file_good n) deep (classes (front ++ first ∷ others)) rest e in
    let g : GoesOn (file_form n) h.words = h.goes_on refl in
    let (more, split) = longer (classes (front ++ first ∷ [])) (classes others) h.words rest (joined_here ∙ h.splits) (omega arith) in
    let d : Derives (file_form n) (h.words ++ g.more) [] = g.derives [] refl in
    begin_of n (front ++ first ∷ []) (more ++ g.more)
    (subst (λ w. Derives (file_form n) w []) (ap (λ w. w ++ g.more) split ∙ append_assoc (classes (front ++ first ∷ [])) more g.more) d)
  where
    joined_here : classes (front ++ first ∷ []) ++ classes others ≡ classes (front ++ first ∷ others)
    joined_here = sym (classes-append (front ++ first ∷ []) others) ∙ ap classes (append_assoc front (first ∷ []) others)

-- the code of a stop
abbrev pub code_of : Bool → ℕ
code_of deep = cond deep 112 111

module _ (front : List Word) (first : Word) (others : List Word) (deep : Bool)
    (e : reads (file_form MOST_LEVELS) (classes (front ++ first ∷ others)) ≡ Stop deep (first.class ∷ classes others)) where
  halt : Halts (file_form MOST_LEVELS) deep (classes (front ++ first ∷ others)) (first.class ∷ classes others)
  halt = halts (file_form MOST_LEVELS) (file_good MOST_LEVELS) deep (classes (front ++ first ∷ others)) (first.class ∷ classes others) e

  before : halt.words ≡ classes front
  before =
      append_cancel_right halt.words (classes front) (first.class ∷ classes others)
      (sym halt.splits ∙ classes-append front (first ∷ others))

  -- it stops there whatever follows
  here : (more : List Word)
      → reads (file_form MOST_LEVELS) (classes ((front ++ first ∷ []) ++ more)) ≡ Stop deep (first.class ∷ classes more)
  here more =
      ap (reads (file_form MOST_LEVELS))
      (ap classes (append_assoc front (first ∷ []) more) ∙ classes-append front (first ∷ more)
      ∙ ap (λ w. w ++ first.class ∷ classes more) (sym before))
      ∙ halt.anywhere (first.class ∷ classes more) refl

  front_begins : BeginWithin MOST_LEVELS front
  front_begins =
      let g : GoesOn (file_form MOST_LEVELS) halt.words = halt.goes_on refl in
      begin_of MOST_LEVELS front g.more (subst (λ w. Derives (file_form MOST_LEVELS) (w ++ g.more) []) before (g.derives [] refl))

  first_stops : BeginWithin MOST_LEVELS (front ++ first ∷ []) → ⊥
  first_stops (file, more, spells, fits) =
      let r = read_file MOST_LEVELS file ((front ++ first ∷ []) ++ more) spells fits in
      let s = here more in
      let z : Done [] ≡ Stop deep (first.class ∷ classes more) = sym r ∙ s in cc

-- where a reading stops, the words are refused
pub refused : (words front : List Word) (first : Word) (others : List Word) (deep : Bool) → words ≡ front ++ first ∷ others
    → reads (file_form MOST_LEVELS) (classes words) ≡ Stop deep (first.class ∷ classes others) → IsRefused words front first (code_of deep)
refused words front first others false split e =
    let f : reads (file_form MOST_LEVELS) (classes (front ++ first ∷ others)) ≡ Stop false (first.class ∷ classes others) =
    sym (ap (λ w. reads (file_form MOST_LEVELS) (classes w)) split) ∙ e in record {
      others = others;
      splits = split;
      begins = front_begins front first others false f;
      stops = first_stops front first others false f;
      cause = inl (
        refl,
        λ (file, more, spells).
            let n = raised (file_nesting file) MOST_LEVELS in
            let fits = raised_is (file_nesting file) MOST_LEVELS in
            let r = read_file n file ((front ++ first ∷ []) ++ more) spells (omega arith) in
            let s =
            stays (file_nesting file) MOST_LEVELS (classes ((front ++ first ∷ []) ++ more)) (first.class ∷ classes more)
            (here front first others false f more) in
            let z : Done [] ≡ Stop false (first.class ∷ classes more) = sym r ∙ s in cc,
      );
    }
refused words front first others true split e =
    let f : reads (file_form MOST_LEVELS) (classes (front ++ first ∷ others)) ≡ Stop true (first.class ∷ classes others) =
    sym (ap (λ w. reads (file_form MOST_LEVELS) (classes w)) split) ∙ e in record {
      others = others;
      splits = split;
      begins = front_begins front first others true f;
      stops = first_stops front first others true f;
      cause = inr (
        refl,
        let l = deeper MOST_LEVELS (classes (front ++ first ∷ others)) (first.class ∷ classes others) f in
            let (file, more, spells, fits) =
            begins_deeper 65 front first others (reads (file_form 65) (classes (front ++ first ∷ others))) refl l in
            (file, more, spells),
      );
    }
